-- `unequal::first_unequal` meets its contract. The loop keeps: the parameters passed are equal. Assumes nothing.
use mathlib.Core.Path.{◌≡◌}
use mathlib.Core.Bool.{true}
use Rattle.file_sections.specs.Layout.{tables_of}
use Rattle.type_index.specs.Index.{same_params}
use Rattle.subtyping.proofs.unequal.first_unequal.Given as goal

abbrev pub invariant-loop-j : goal.invariant-loop-j
invariant-loop-j l = same_params l.index (tables_of l.file l.sections) l.p l.q l.j ≡ true
