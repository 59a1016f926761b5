-- `records::chain_records` meets its contract. The loop keeps: the last k records are chained. Assumes nothing.
use mathlib.Core.Path.{◌≡◌}
use lib.ListN.{length}
use Rattle.file_sections.specs.Layout.{tables_of}
use Rattle.type_index.specs.Records.{Recorded}
use Rattle.type_index.proofs.records.chain_records.Given as goal

abbrev pub invariant-loop-k : goal.invariant-loop-k
invariant-loop-k l = Recorded l.records (tables_of l.file l.sections) l.k × (length l.records ≡ length l.initial.records)
