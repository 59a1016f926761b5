-- `index::index_holder` meets its contract. Assumes nothing.
use native.Mathlib.Omega.{arith}
use borrow.Author.Rules.{rules}
use Rattle.type_index.proofs.LawsIndex.{holder_names_none, first_fits}
use Rattle.type_index.proofs.LawsSameTypes.{holder_most, held_entered}
use Rattle.type_index.proofs.LawsFormedTypes.{formed_holder}
use Rattle.type_index.proofs.LawsParts.{parts_fit, parts_holder}
use Rattle.type_index.proofs.LawsChains.{bucket_most, bucket_holder, entry_there, one_indexed, one_chained}
use Rattle.type_index.proofs.index.index_holder.Goals as goal

pub entry-first-requires : goal.entry-first-requires
entry-first-requires c = search (entry_there, held_entered, rules)

pub overflow_add-bucket : goal.overflow_add-bucket
overflow_add-bucket c = omega (arith, holder_most c.requires.i_value.1)

pub lowest_holder-lowest-requires-clause-chained : goal.lowest_holder-lowest-requires-clause-chained
lowest_holder-lowest-requires-clause-chained c = (search rules, search (bucket_holder, rules), search (bucket_most, rules))

pub is_formed-formed-requires : goal.is_formed-formed-requires
is_formed-formed-requires c = search (held_entered, rules)

pub parts_of-parts-requires : goal.parts_of-parts-requires
parts_of-parts-requires c = search (held_entered, rules)

pub enter-requires : goal.enter-requires
enter-requires c = (search rules, search rules, search (first_fits, rules), search rules, search (parts_fit, parts_holder, rules), search (bucket_most, rules))

pub returns-clause-indexed : goal.returns-clause-indexed
returns-clause-indexed c = search (one_indexed, holder_names_none, formed_holder, parts_holder, bucket_most, rules)

pub returns-clause-chained_2 : goal.returns-clause-chained_2
returns-clause-chained_2 c = search (one_chained, bucket_holder, bucket_most, rules)
