-- `tree::is_plain` meets its contract. Assumes nothing.
use borrow.Author.Rules.{rules}
use Rattle.node_tree.proofs.LawsPlaces.{plain_not, plain_right}
use Rattle.node_tree.proofs.tree.is_plain.Goals as goal

pub returns-then-not-stands : goal.returns-then-not-stands
returns-then-not-stands c = search (plain_not, rules)

pub returns : goal.returns
returns c = search (plain_right, rules)
