-- `same::same_struct` meets its contract. Assumes nothing.
use borrow.Author.Rules.{rules}
use Rattle.type_index.proofs.LawsSameTypes.{kinds_differ, same_struct}
use Rattle.type_index.proofs.same.same_struct.Goals as goal

pub returns-then-type_kind-eq4 : goal.returns-then-type_kind-eq4
returns-then-type_kind-eq4 c = search (same_struct, rules)

pub returns-else-type_kind-eq4 : goal.returns-else-type_kind-eq4
returns-else-type_kind-eq4 c = search (kinds_differ, rules)
