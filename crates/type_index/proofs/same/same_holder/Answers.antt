-- `same::same_holder` meets its contract. Assumes nothing.
use borrow.Author.Rules.{rules}
use Rattle.type_index.proofs.LawsSameTypes.{lower_there, kind_read, held_in, kinds_differ, same_holder}
use Rattle.type_index.proofs.same.same_holder.Goals as goal

pub same_operands-requires : goal.same_operands-requires
same_operands-requires c = (search rules, search (held_in, lower_there, kind_read, rules), search (held_in, rules))

pub returns-then-type_kind-kind : goal.returns-then-type_kind-kind
returns-then-type_kind-kind c = search (same_holder, rules)

pub returns-else-type_kind-kind : goal.returns-else-type_kind-kind
returns-else-type_kind-kind c = search (kinds_differ, rules)
