-- `names::times` meets its contract. The loop keeps: the name was found that often among the names passed. Assumes nothing.
use mathlib.Core.Path.{◌≡◌}
use Prim.Native.Nat.{◌≤◌}
use Rattle.steps.specs.Contract.{times_in}
use Rattle.steps.proofs.names.times.Given as goal

abbrev pub invariant-loop-other : goal.invariant-loop-other
invariant-loop-other l = (l.found ≤ l.other-index) × (l.found ≡ times_in l.names l.other-index l.name)
