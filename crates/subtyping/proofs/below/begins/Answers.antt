-- `below::begins` meets its contract. Assumes nothing.
use borrow.Author.Rules.{rules}
use Rattle.subtyping.proofs.LawsStructs.{fewer, own_fields, first_fields, fields_same}
use Rattle.subtyping.proofs.below.begins.Goals as goal

pub same_fields-requires : goal.same_fields-requires
same_fields-requires c = (search rules, search rules, search (first_fields, rules), search (own_fields, rules))

pub returns-then-count-struct_count : goal.returns-then-count-struct_count
returns-then-count-struct_count c = search (fields_same, rules)

pub returns-else-count-struct_count : goal.returns-else-count-struct_count
returns-else-count-struct_count c = search (fewer, rules)
