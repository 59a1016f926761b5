-- `names::types_formed` meets its contract. The loop keeps: the type of every field passed is well-formed. Assumes nothing.
use mathlib.Core.Path.{◌≡◌}
use mathlib.Core.Bool.{true}
use Rattle.file_sections.specs.Layout.{tables_of}
use Rattle.steps.specs.Contract.{types_formed}
use Rattle.steps.proofs.names.types_formed.Given as goal

abbrev pub invariant-loop-i : goal.invariant-loop-i
invariant-loop-i l = types_formed l.file.index.now (tables_of l.file.bytes.now l.file.sections) l.first l.i ≡ true
