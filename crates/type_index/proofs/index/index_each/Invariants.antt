-- `index::index_each` meets its contract. The loop keeps: the types passed are indexed and chained. Assumes nothing.
use mathlib.Core.Path.{◌≡◌}
use lib.ListN.{length}
use Rattle.file_sections.specs.Layout.{tables_of}
use Rattle.type_index.specs.Index.{Chained, Indexed}
use Rattle.type_index.proofs.index.index_each.Given as goal

abbrev pub invariant-loop-i : goal.invariant-loop-i
invariant-loop-i l = Indexed l.index (tables_of l.file l.sections) l.i × Chained l.index (tables_of l.file l.sections) l.i × (length l.index ≡ length l.initial.index)
