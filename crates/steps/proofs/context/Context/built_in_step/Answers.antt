-- `Context::built_in_step` meets its contract. Assumes nothing.
use borrow.Author.Rules.{rules}
use Rattle.steps.proofs.LawsPlain.{built_in_entered, built_in_unformed, built_in_known, built_in_new}
use Rattle.steps.proofs.context.Context.built_in_step.Goals as goal

pub is_formed-requires : goal.is_formed-requires
is_formed-requires c = search (built_in_entered, rules)

pub returns-then-not-is_formed : goal.returns-then-not-is_formed
returns-then-not-is_formed c = search (built_in_unformed, rules)

pub returns-then-not-is_new_in : goal.returns-then-not-is_new_in
returns-then-not-is_new_in c = search (built_in_known, rules)

pub returns : goal.returns
returns c = search (built_in_new, rules)
