-- `oat_subtype` meets its contract. Assumes nothing.
use Rattle.oat_c.proofs.LawsAnswer.{yes_is}
use Rattle.oat_c.proofs.oat_subtype.Goals as goal

pub returns-in-Ok-clause-answers : goal.returns-in-Ok-clause-answers
returns-in-Ok-clause-answers c = rw (c.from.ensures, yes_is c.in-Ok.found.holds) (c.in-Ok.ensures.by_index c.args.yes.now)

pub returns-in-Err-clause-answers : goal.returns-in-Err-clause-answers
returns-in-Err-clause-answers c = rw c.number.ensures (c.in-Err.ensures.by_index c.args.yes.now)
