-- `types::each_type` meets its contract. The loop keeps: every type passed keeps its rule, the entries they take are counted, and their parts are held. Assumes nothing.
use mathlib.Core.Path.{refl}
use native.Mathlib.Omega.{arith}
use borrow.Author.Rules.{rules}
use Rattle.oat.specs.Basics.{all_below, sum_below}
use Rattle.oat.specs.TypeRules.{taken_before, each_type_right}
use Rattle.file_sections.proofs.LawsRecords.{types_long, list_long}
use Rattle.type_tables.specs.Parts.{keeps}
use Rattle.type_tables.proofs.LawsParts.{measured_none, measured_own, type_fails, parts_fail, keeps_more, taken_more}
use Rattle.type_tables.proofs.types.each_type.Goals as goal

pub loop-i-init : goal.loop-i-init
unfolding taken_before all_below sum_below
loop-i-init c = record { right = refl; taken = refl; few = search rules; measured = search (measured_none, rules) }

pub returns-in_default : goal.returns-in_default
returns-in_default c = search (type_fails, rules)

pub returns-then-most-own : goal.returns-then-most-own
returns-then-most-own c = search (parts_fail, rules)

pub loop-i-preserved : goal.loop-i-preserved
loop-i-preserved c = record { right = search (keeps_more, rules); taken = search (taken_more, rules); few = search rules; measured = search (measured_own, rules) }

pub returns : goal.returns
unfolding each_type_right keeps
returns c = grind (arith, types_long, list_long)
