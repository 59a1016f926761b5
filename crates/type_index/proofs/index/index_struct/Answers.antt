-- `index::index_struct` meets its contract. Assumes nothing.
use borrow.Author.Rules.{rules}
use Rattle.type_index.proofs.LawsIndex.{names_struct, first_fits, record_fits}
use Rattle.type_index.proofs.LawsFormedTypes.{formed_struct}
use Rattle.type_index.proofs.LawsParts.{parts_struct}
use Rattle.type_index.proofs.LawsChains.{bucket_most, bucket_struct, one_indexed, one_chained}
use Rattle.type_index.proofs.index.index_struct.Goals as goal

pub lowest_struct-lowest-requires-clause-chained : goal.lowest_struct-lowest-requires-clause-chained
lowest_struct-lowest-requires-clause-chained c = (search rules, search (bucket_struct, rules), search (bucket_most, rules))

pub enter-requires : goal.enter-requires
enter-requires c = (search rules, search rules, search (first_fits, rules), search (record_fits, rules), search rules, search (bucket_most, rules))

pub returns-clause-indexed : goal.returns-clause-indexed
returns-clause-indexed c = search (one_indexed, names_struct, formed_struct, parts_struct, bucket_most, rules)

pub returns-clause-chained_2 : goal.returns-clause-chained_2
returns-clause-chained_2 c = search (one_chained, bucket_struct, bucket_most, rules)
