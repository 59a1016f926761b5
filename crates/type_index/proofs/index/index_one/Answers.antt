-- `index::index_one` meets its contract. Assumes nothing.
use borrow.Author.Rules.{rules}
use Rattle.type_index.proofs.LawsChains.{base_low, base_indexed, base_chained}
use Rattle.type_index.proofs.index.index_one.Goals as goal

pub enter-requires : goal.enter-requires
enter-requires c = (search rules, search rules, search rules, search rules, search rules, search (base_low, rules))

pub returns-in_default-clause-indexed : goal.returns-in_default-clause-indexed
returns-in_default-clause-indexed c = search (base_indexed, rules)

pub returns-in_default-clause-chained_2 : goal.returns-in_default-clause-chained_2
returns-in_default-clause-chained_2 c = search (base_chained, rules)
