-- `index::index_each` meets its contract. The loop keeps: the types passed are indexed and chained. Assumes nothing.
use borrow.Author.Rules.{rules}
use Rattle.type_index.proofs.LawsIndex.{indexed_none, indexed_all}
use Rattle.type_index.proofs.LawsChains.{chained_none}
use Rattle.type_index.proofs.index.index_each.Goals as goal

pub loop-i-init : goal.loop-i-init
loop-i-init c = (indexed_none _ _ (search rules), chained_none _ _ (search rules) (search rules), search rules)

pub returns : goal.returns
returns c = search (indexed_all, rules)
