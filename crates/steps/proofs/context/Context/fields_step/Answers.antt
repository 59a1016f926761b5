-- `Context::fields_step` meets its contract. Assumes nothing.
use borrow.Author.Rules.{rules}
use Rattle.steps.proofs.LawsPlain.{fields_listed, fields_unformed, fields_again, fields_distinct}
use Rattle.steps.proofs.context.Context.fields_step.Goals as goal

pub types_formed-requires : goal.types_formed-requires
types_formed-requires c = search (fields_listed, rules)

pub returns-then-not-types_formed : goal.returns-then-not-types_formed
returns-then-not-types_formed c = search (fields_unformed, rules)

pub returns-then-not-are_distinct : goal.returns-then-not-are_distinct
returns-then-not-are_distinct c = search (fields_again, rules)

pub returns : goal.returns
returns c = search (fields_distinct, rules)
