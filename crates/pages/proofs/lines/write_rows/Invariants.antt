-- `lines::write_rows` meets its contract. The loop keeps: the lines of the nodes passed are written. Assumes nothing.
use mathlib.Core.Path.{◌≡◌}
use lib.ListN.{length}
use Rattle.file_sections.specs.Layout.{tables_of}
use Rattle.writing.specs.Placed.{placed}
use Rattle.pages.specs.Page.{row_lines}
use Rattle.pages.proofs.lines.write_rows.Given as goal

abbrev pub invariant-loop-i : goal.invariant-loop-i
invariant-loop-i l = (length l.out ≡ length l.initial.out) × (l.out ≡ placed l.initial.out 0 (row_lines (tables_of l.file l.sections) l.rows l.i))
