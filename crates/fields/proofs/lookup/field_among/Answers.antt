-- `lookup::field_among` meets its contract. The loop keeps: the field is among those left. Assumes nothing.
use borrow.Author.Rules.{rules}
use Rattle.fields.proofs.LawsLookup.{among_start, among_hit, among_miss, among_none, among_wide}
use Rattle.fields.proofs.lookup.field_among.Goals as goal

pub loop-i-init : goal.loop-i-init
loop-i-init c = search (among_start, rules)

pub returns-then-field_name-narrow : goal.returns-then-field_name-narrow
returns-then-field_name-narrow c = search (among_hit, rules)

pub loop-i-preserved : goal.loop-i-preserved
loop-i-preserved c = search (among_miss, rules)

pub returns : goal.returns
returns c = search (among_none, rules)

pub returns-in_default : goal.returns-in_default
returns-in_default c = search (among_wide, rules)
