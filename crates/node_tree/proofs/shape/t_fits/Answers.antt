-- `shape::t_fits` meets its contract. Assumes nothing.
use native.Mathlib.Omega.{arith}
use borrow.Author.Rules.{rules}
use Rattle.node_tree.proofs.LawsShape.{t_2, t_10, t_16, t_21, t_36, t_other}
use Rattle.node_tree.proofs.shape.t_fits.Goals as goal
use Rattle.node_tree.proofs.shape.t_fits.Goals.{in_default-via-then-kind-lt16, in_default-via-else-kind-lt16+else-kind-lt19}

pub returns-in-2 : goal.returns-in-2
returns-in-2 c = search (t_2, rules)

pub returns-in-10 : goal.returns-in-10
returns-in-10 c = search (t_10, rules)

pub returns-in-21 : goal.returns-in-21
returns-in-21 c = search (t_21, rules)

pub returns-in-36 : goal.returns-in-36
returns-in-36 c = search (t_36, rules)

pub returns-in-16-to-18 : goal.returns-in-16-to-18
returns-in-16-to-18 c = search (t_16, rules)

pub returns-in_default : goal.returns-in_default
returns-in_default c = elim c.in_default.branch [ in_default-via-then-kind-lt16 w ↦ t_other _ _ _ (search rules) (search rules) (search rules) (search rules) (omega arith) | in_default-via-else-kind-lt16+else-kind-lt19 w ↦ t_other _ _ _ (search rules) (search rules) (search rules) (search rules) (omega arith) ]
