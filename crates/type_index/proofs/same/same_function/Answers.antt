-- `same::same_function` meets its contract. Assumes nothing.
use borrow.Author.Rules.{rules}
use Rattle.type_index.proofs.LawsSameTypes.{kinds_differ}
use Rattle.type_index.proofs.same.same_function.Goals as goal

pub returns-else-type_kind-eq6 : goal.returns-else-type_kind-eq6
returns-else-type_kind-eq6 c = search (kinds_differ, rules)
