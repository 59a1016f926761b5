-- `literal::is_named` meets its contract. The loop keeps: none of the initializers passed has the name, and the others stand from the
-- node come to. Assumes nothing.
use Rattle.fields.proofs.LawsInitializers.{Reached, Unnamed}
use Rattle.fields.proofs.literal.is_named.Given as goal

abbrev pub invariant-loop-passed : goal.invariant-loop-passed
invariant-loop-passed l = Reached l.file l.sections l.node l.count l.at l._passed × Unnamed l.file l.sections l.node l.count l.name l._passed
