-- `Context::struct_step` meets its contract. Assumes nothing.
use borrow.Author.Rules.{rules}
use Rattle.steps.proofs.LawsPlain.{struct_known, struct_new}
use Rattle.steps.proofs.context.Context.struct_step.Goals as goal

pub returns-then-times-ne0 : goal.returns-then-times-ne0
returns-then-times-ne0 c = search (struct_known, rules)

pub returns : goal.returns
returns c = search (struct_new, rules)
