-- `types::params_parts` meets its contract. The loop keeps: every parameter passed is right, and the sum of their parts. Assumes nothing.
use mathlib.Core.Path.{◌≡◌}
use mathlib.Core.Bool.{true}
use Prim.Native.Nat.{◌*◌, ◌≤◌}
use Rattle.oat.specs.TypeRules.{params_right}
use Rattle.file_sections.specs.Layout.{tables_of}
use Rattle.type_tables.specs.Parts.{param_parts}
use Rattle.type_tables.proofs.types.params_parts.Given as goal

abbrev pub invariant-loop-j : goal.invariant-loop-j
invariant-loop-j l = record {
  right : params_right (tables_of l.file l.sections) l.i l.first l.j ≡ true;
  sum : l.sum ≡ param_parts l.parts (tables_of l.file l.sections) l.first l.j;
  few : l.sum ≤ 65535 * l.j;
}
