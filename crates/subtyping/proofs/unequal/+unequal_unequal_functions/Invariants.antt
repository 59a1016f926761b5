-- `unequal::unequal` and `unequal::unequal_functions` meet their contracts. The sum of the two type numbers falls from call to call; at
-- the same sum the call goes from types to function types. Assumes nothing.
use Prim.Native.Nat.{◌+◌, ◌*◌}
use Rattle.subtyping.proofs.unequal.+unequal_unequal_functions.Given as goal

abbrev pub decreases-unequal : goal.decreases-unequal
decreases-unequal l = (l.a + l.b) * 2 + 1

abbrev pub decreases-unequal_functions : goal.decreases-unequal_functions
decreases-unequal_functions l = (l.a + l.b) * 2
