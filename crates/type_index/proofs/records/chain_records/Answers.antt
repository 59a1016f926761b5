-- `records::chain_records` meets its contract. The loop keeps: the last k records are chained. Assumes nothing.
use mathlib.Core.Path.{refl}
use borrow.Author.Rules.{rules}
use Rattle.type_index.proofs.LawsRecordChains.{head_there, records_none, records_more, records_all}
use Rattle.type_index.proofs.records.chain_records.Goals as goal

pub loop-k-init : goal.loop-k-init
loop-k-init c = (search (records_none, rules), refl)

pub link-requires : goal.link-requires
link-requires c = (search (head_there, rules), search rules, search rules)

pub loop-k-preserved : goal.loop-k-preserved
loop-k-preserved c = (search (records_more, rules), search rules)

pub returns : goal.returns
returns c = search (records_all, rules)
