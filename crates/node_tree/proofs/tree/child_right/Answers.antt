-- `tree::child_right` meets its contract. Assumes nothing.
use borrow.Author.Rules.{rules}
use Rattle.node_tree.proofs.LawsPlaces.{right_plain, right_role}
use Rattle.node_tree.proofs.tree.child_right.Goals as goal

pub returns-then-is_plain : goal.returns-then-is_plain
returns-then-is_plain c = search (right_plain, rules)

pub returns : goal.returns
returns c = search (right_role, rules)
