-- `answer` meets its contract. Assumes nothing.
use borrow.Author.Rules.{rules}
use Rattle.oat_check.proofs.LawsAnswer.{answered}
use Rattle.oat_check.proofs.answer.Goals as goal

pub returns : goal.returns
returns c = search (answered, rules)
