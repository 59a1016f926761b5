-- `lookup::field_among` meets its contract. The loop keeps: the field is among those left. Assumes nothing.
use mathlib.Core.Path.{◌≡◌}
use Rattle.typing_rules.specs.Judge.{field_among}
use Rattle.file_sections.specs.Layout.{tables_of}
use Rattle.fields.proofs.LawsLookup.{among_left}
use Rattle.fields.proofs.lookup.field_among.Given as goal

abbrev pub invariant-loop-i : goal.invariant-loop-i
invariant-loop-i l = among_left (tables_of l.file l.sections) l.name l.first l.count l.i ≡ field_among (tables_of l.file l.sections) l.name l.first l.count
