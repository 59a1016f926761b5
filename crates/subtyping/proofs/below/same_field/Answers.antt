-- `below::same_field` meets its contract. Assumes nothing.
use borrow.Author.Rules.{rules}
use Rattle.type_index.proofs.LawsIndex.{entered}
use Rattle.subtyping.proofs.LawsStructs.{names_differ, field-type, types_same}
use Rattle.subtyping.proofs.below.same_field.Goals as goal

pub same-requires : goal.same-requires
same-requires c = (search (entered, field-type, rules), search (entered, field-type, rules))

pub returns-then-field_name : goal.returns-then-field_name
returns-then-field_name c = search (types_same, rules)

pub returns-else-field_name : goal.returns-else-field_name
returns-else-field_name c = search (names_differ, rules)
