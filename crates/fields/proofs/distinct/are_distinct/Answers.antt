-- `distinct::are_distinct` meets its contract. The loop keeps: no two of the fields passed have one name, and all their names are
-- below `above`. Assumes nothing.
use mathlib.Core.Path.{sym}
use borrow.Author.Rules.{rules}
use Rattle.fields.proofs.LawsLookup.{own_fields}
use Rattle.fields.proofs.LawsDistinct.{apart_none, apart_above, apart_new, name_again, names_apart}
use Rattle.fields.proofs.distinct.are_distinct.Goals.{then-above-name, else-above-name+else-is_some}
use Rattle.fields.proofs.distinct.are_distinct.Goals as goal

pub loop-i-init : goal.loop-i-init
loop-i-init c = (search (own_fields, rules), search rules, search (apart_none, rules))

pub returns-then-is_some : goal.returns-then-is_some
returns-then-is_some c = name_again _ _ _ _ c.struct_first-first.ensures.0 c.struct_count-i-end.ensures.0 _ _ _ c.loop-i-test.true c.field_name-name.ensures.0 c.field_among.ensures (sym c.if-is_some.ensures)

pub loop-i-preserved : goal.loop-i-preserved
loop-i-preserved c =
    let named = c.field_name-name.ensures.0 in
    elim c.if-above-name.branch [
      | then-above-name w ↦ (search rules, search rules, apart_above _ _ _ _ _ c.loop-i.invariant.2 named _ w.if-above-name.true w.above-is)
      | else-above-name+else-is_some w ↦ (search rules, search rules, apart_new _ _ _ _ _ c.loop-i.invariant.2 named _ _ w.if-above-name.false w.field_among.ensures (sym w.if-is_some.ensures) w.above-is)
    ]

pub returns : goal.returns
returns c = search (names_apart, rules)
