-- `tables::structs_right` meets its contract. The loop keeps: every struct passed is right, and the fields they take are counted. Assumes nothing.
use mathlib.Core.Path.{◌≡◌}
use mathlib.Core.Bool.{true}
use Prim.Native.Nat.{◌*◌, ◌≤◌}
use Rattle.oat.specs.Basics.{all_below}
use Rattle.oat.specs.TableRules.{struct_rule, fields_before}
use Rattle.file_sections.specs.Layout.{tables_of}
use Rattle.type_tables.proofs.tables.structs_right.Given as goal

abbrev pub invariant-loop-i : goal.invariant-loop-i
invariant-loop-i l = record {
  right : all_below l.i (struct_rule (tables_of l.file l.sections)) ≡ true;
  taken : l.taken ≡ fields_before (tables_of l.file l.sections) l.i;
  few : l.taken ≤ 65535 * l.i;
}
