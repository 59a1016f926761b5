-- `types::params_parts` meets its contract. The loop keeps: every parameter passed is right, and the sum of their parts. Assumes nothing.
use mathlib.Core.Path.{◌≡◌, refl}
use mathlib.Core.Bool.{false}
use Prim.Native.Nat.{◌+◌}
use borrow.Author.Rules.{rules}
use Rattle.oat.specs.Basics.{all_below, sum_below}
use Rattle.oat.specs.Tables.{entry_at}
use Rattle.oat.specs.TypeRules.{is_lower_value, params_right}
use Rattle.oat.proofs.LawsBasics.{all_false}
use Rattle.file_sections.specs.Layout.{tables_of}
use Rattle.type_tables.specs.Parts.{param_parts}
use Rattle.type_tables.proofs.types.params_parts.Goals as goal

pub loop-j-init : goal.loop-j-init
unfolding params_right param_parts all_below sum_below
loop-j-init c = record { right = refl; sum = refl; few = search rules }

pub returns-then-not-lower_value-clause-value : goal.returns-then-not-lower_value-clause-value
unfolding params_right
returns-then-not-lower_value-clause-value c =
    let A = c.args in
    let T = tables_of A.file.now A.sections in
    let wrong : is_lower_value T A.i (entry_at T (A.first + c.loop-j.j)) ≡ false = rw (← c.list_entry-param.ensures.0, ← c.lower_value.ensures, c.if-not-lower_value.true) in
    rw (all_false A.count (λ j. is_lower_value T A.i (entry_at T (A.first + j))) c.loop-j.j c.loop-j-test.true wrong)
