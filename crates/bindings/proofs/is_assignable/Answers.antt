-- `Bindings::is_assignable` meets its contract. Assumes nothing.
use borrow.Author.Rules.{rules}
use Rattle.bindings.proofs.LawsBindings.{found_there, assign_none, assign_local, assign_built_in, assign_stack}
use Rattle.bindings.proofs.is_assignable.Goals as goal

pub returns-in_default : goal.returns-in_default
returns-in_default c = search (assign_none, rules)

pub returns-then-base-position : goal.returns-then-base-position
returns-then-base-position c = search (assign_local, rules)

pub node_kind-requires : goal.node_kind-requires
node_kind-requires c = search (found_there, rules)

pub returns-else-sections-position : goal.returns-else-sections-position
returns-else-sections-position c = search (assign_built_in, rules)

pub returns-then-sections-position : goal.returns-then-sections-position
returns-then-sections-position c = search (assign_stack, rules)
