-- `Context::heading_step` meets its contract. Assumes nothing.
use borrow.Author.Rules.{rules}
use Rattle.steps.proofs.LawsPlain.{heading_node, heading_entered, heading_bindable, heading_unformed, heading_known, heading_new}
use Rattle.steps.proofs.context.Context.heading_step.Goals as goal

pub node_t-t-requires : goal.node_t-t-requires
node_t-t-requires c = search (heading_node, rules)

pub is_formed-requires : goal.is_formed-requires
is_formed-requires c = search (heading_entered, rules)

pub returns-then-not-is_formed-clause-told : goal.returns-then-not-is_formed-clause-told
returns-then-not-is_formed-clause-told c = search (heading_unformed, rules)

pub node_x-name-requires : goal.node_x-name-requires
node_x-name-requires c = search (heading_node, rules)

pub returns-then-not-is_new-clause-told : goal.returns-then-not-is_new-clause-told
returns-then-not-is_new-clause-told c = search (heading_known, rules)

pub bind-requires : goal.bind-requires
bind-requires c = search (heading_bindable, rules)

pub returns-clause-told : goal.returns-clause-told
returns-clause-told c = search (heading_new, rules)
