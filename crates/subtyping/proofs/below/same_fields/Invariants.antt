-- `below::same_fields` meets its contract. The loop keeps: the fields passed are the same. Assumes nothing.
use mathlib.Core.Path.{◌≡◌}
use mathlib.Core.Bool.{true}
use Rattle.file_sections.specs.Layout.{tables_of}
use Rattle.subtyping.specs.Numbered.{same_fields}
use Rattle.subtyping.proofs.below.same_fields.Given as goal

abbrev pub invariant-loop-j : goal.invariant-loop-j
invariant-loop-j l = same_fields (tables_of l.file l.sections) l.p l.q l.j ≡ true
