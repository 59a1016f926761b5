-- `types::each_type` meets its contract. The loop keeps: every type passed keeps its rule, the entries they take are counted, and their parts are held. Assumes nothing.
use mathlib.Core.Path.{◌≡◌}
use mathlib.Core.Bool.{true}
use Prim.Native.Nat.{◌*◌, ◌≤◌}
use Rattle.oat.specs.Basics.{all_below}
use Rattle.oat.specs.TypeRules.{taken_before}
use Rattle.file_sections.specs.Layout.{tables_of}
use Rattle.type_tables.specs.Parts.{Measured, keeps}
use Rattle.type_tables.proofs.types.each_type.Given as goal

abbrev pub invariant-loop-i : goal.invariant-loop-i
invariant-loop-i l = record {
  right : all_below l.i (keeps l.most (tables_of l.file l.sections)) ≡ true;
  taken : l.taken ≡ taken_before (tables_of l.file l.sections) l.i;
  few : l.taken ≤ 65535 * l.i;
  measured : Measured l.parts (tables_of l.file l.sections) l.i;
}
