-- `distinct::are_distinct` meets its contract. The loop keeps: no two of the fields passed have one name, and all their names are
-- below `above`. Assumes nothing.
use Prim.Native.Nat.{◌+◌, ◌≤◌}
use Rattle.file_sections.specs.Layout.{tables_of}
use Rattle.fields.proofs.LawsDistinct.{Apart}
use Rattle.fields.proofs.distinct.are_distinct.Given as goal

abbrev pub invariant-loop-i : goal.invariant-loop-i
invariant-loop-i l = (l.first + l.i-end ≤ l.sections.fields) × (l.above ≤ 65536) × Apart (tables_of l.file l.sections) l.first l.above l.i
