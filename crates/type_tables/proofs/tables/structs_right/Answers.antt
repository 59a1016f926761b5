-- `tables::structs_right` meets its contract. The loop keeps: every struct passed is right, and the fields they take are counted. Assumes nothing.
use mathlib.Core.Path.{◌≡◌, refl}
use mathlib.Core.Bool.{false}
use native.Mathlib.Omega.{arith}
use borrow.Author.Rules.{rules}
use borrow.Author.Tests.{ne_eqb}
use Rattle.oat.specs.Basics.{all_below, sum_below}
use Rattle.oat.specs.TableRules.{struct_rule, fields_before, structs_right}
use Rattle.oat.proofs.LawsBasics.{sum_more, all_more, all_false}
use Rattle.file_sections.specs.Layout.{tables_of}
use Rattle.file_sections.proofs.LawsRecords.{fields_long, structs_long}
use Rattle.type_tables.proofs.tables.structs_right.Goals as goal

pub loop-i-init : goal.loop-i-init
unfolding all_below sum_below fields_before
loop-i-init c = record { right = refl; taken = refl; few = search rules }

pub returns-then-struct_first-taken : goal.returns-then-struct_first-taken
unfolding structs_right struct_rule
returns-then-struct_first-taken c =
    let T = tables_of c.args.file.now c.args.sections in
    let wrong : struct_rule T c.loop-i.i ≡ false = rw (← c.struct_first.ensures.0, ← c.loop-i.invariant.taken, ne_eqb _ _ c.if-struct_first-taken.true) in
    rw (structs_long c.args.file.now c.args.sections, all_false c.args.sections.structs _ c.loop-i.i c.loop-i-test.true wrong)

pub loop-i-preserved : goal.loop-i-preserved
unfolding struct_rule fields_before
loop-i-preserved c = record { right = grind (arith, all_more); taken = grind (arith, sum_more); few = search rules }

pub returns : goal.returns
unfolding structs_right
returns c = grind (arith, structs_long, fields_long)
