-- `index::index_function` meets its contract. Assumes nothing.
use borrow.Author.Rules.{rules}
use Rattle.type_index.proofs.LawsIndex.{function_names_none, first_fits}
use Rattle.type_index.proofs.LawsParts.{parts_fit}
use Rattle.type_index.proofs.LawsChains.{one_indexed, one_chained}
use Rattle.type_index.proofs.index.index_function.Goals as goal

pub enter-requires : goal.enter-requires
enter-requires c = (search rules, search rules, search (first_fits, rules), search rules, search (parts_fit, rules), search rules)

pub returns-clause-indexed : goal.returns-clause-indexed
returns-clause-indexed c = search (one_indexed, function_names_none, rules)

pub returns-clause-chained_2 : goal.returns-clause-chained_2
returns-clause-chained_2 c = search (one_chained, rules)
