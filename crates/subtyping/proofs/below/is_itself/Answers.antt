-- `below::is_itself` meets its contract. Assumes nothing.
use borrow.Author.Rules.{rules}
use Rattle.subtyping.proofs.LawsTypesBelow.{equal_formed, not_equal}
use Rattle.subtyping.proofs.below.is_itself.Goals as goal

pub returns-then-same : goal.returns-then-same
returns-then-same c = search (equal_formed, rules)

pub returns-else-same : goal.returns-else-same
returns-else-same c = search (not_equal, rules)
