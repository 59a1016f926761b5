-- `records::record_of` meets its contract. The walk goes by the records, counted from the last. Assumes nothing.
use Rattle.type_index.proofs.LawsRecordChains.{named_way}
use Rattle.type_index.proofs.records.record_of.Given as goal

-- the test holds the file, its sections and the name
abbrev pub ghost-last_where : goal.ghost-last_where
ghost-last_where a = named_way a.test.0.now a.test.1.now a.test.2.now
