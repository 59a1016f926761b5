-- `literal::all_named` meets its contract. The loop keeps: the fields passed are named, and the initializers after as many stand from
-- the node come to. Assumes nothing.
use Prim.Native.Nat.{◌+◌, ◌≤◌}
use Rattle.fields.proofs.LawsInitializers.{Reached, NamedTo}
use Rattle.fields.proofs.literal.all_named.Given as goal

abbrev pub invariant-loop-i : goal.invariant-loop-i
invariant-loop-i l = (l.first + l.count ≤ l.sections.fields) × Reached l.file l.sections l.node l.count l.at l.i × NamedTo l.file l.sections l.node l.count l.first l.i
