-- What the members of the cycle need. Assumes nothing.
use Rattle.std.proofs.Common.{refl, rules, arith}
use mathlib.Core.Path.{ap}
use Rattle.answers.proofs.LawsAnswers.{answered}
use Rattle.expressions.proofs.LawsChild.{child_type}
use Rattle.statements.proofs.LawsArms.{arms_no, arms_left, arms_asked, arms_no_2, arms_goes, arms_ok}
use Rattle.statements.proofs.LawsBlock.{block_call, block_refused, block_left, block_ends, block_ok}
use Rattle.statements.proofs.LawsFor.{for_count, for_first, for_no, for_second, for_no_2, for_third, for_no_3, for_leaves, for_ends, for_ok}
use Rattle.statements.proofs.LawsIfs.{if_first, if_no, if_type, if_second, if_sort, if_no_2, if_ends, if_ok, null_first, null_no, null_type, null_bindable, null_second, null_sort, null_asked, null_counted, null_below, null_no_2, null_ends, null_ok}
use Rattle.statements.proofs.LawsRun.{run_start, run_forward, run_stops, run_ready, run_asked, run_no, run_again, run_done}
use Rattle.statements.proofs.LawsStatement.{while_kind, any_told}
use Rattle.statements.proofs.LawsStep.{step_absent, step_first, step_no, step_returns, step_leaves, step_ok}
use Rattle.statements.proofs.LawsTurn.{turn_no, turn_second, turn_told}
use Rattle.statements.proofs.LawsWhile.{while_first, while_test, while_no, while_sort, while_second, while_no_2, while_ends, while_ok}
use Rattle.statements.proofs.cycle.+statements.Goals as goal

pub arms-returns-in-Refused-clause-told : goal.arms-returns-in-Refused-clause-told
arms-returns-in-Refused-clause-told t c = arms_no c.requires c.block-one.ensures.told c.in-Refused.is

pub arms-leave-requires : goal.arms-leave-requires
arms-leave-requires t c = let l = arms_left c.requires c.block-one.ensures.told (record { never = c.in_default.not-Refused }) in (l.0, omega (arith, l.1))

pub arms-block-two-requires : goal.arms-block-two-requires
arms-block-two-requires t c = let g = arms_asked c.requires c.block-one.ensures.told (record { never = c.in_default.not-Refused }) c.leave.ensures.left in (omega (arith, g.0, c.decreases, c.requires.within), rw c.leave.ensures.work_unchanged g.1)

pub arms-returns-in-Refused-judgement-clause-told : goal.arms-returns-in-Refused-judgement-clause-told
arms-returns-in-Refused-judgement-clause-told t c = arms_no_2 c.requires c.block-one.ensures.told (record { never = c.in_default.not-Refused }) c.leave.ensures.left (ap (λ b. b.now) c.leave.ensures.work_unchanged) c.block-two.ensures.told c.in-Refused-judgement.is

pub arms-returns-then-mark_of-eq0-clause-told : goal.arms-returns-then-mark_of-eq0-clause-told
arms-returns-then-mark_of-eq0-clause-told t c =
    arms_goes c.requires c.block-one.ensures.told (record { never = c.in_default.not-Refused }) c.leave.ensures.left (ap (λ b. b.now) c.leave.ensures.work_unchanged) c.block-two.ensures.told (record { never = c.in_default-judgement.not-Refused }) c.mark_of.ensures.0 c.if-mark_of-eq0.true (answered c.goes_on.ensures refl refl refl)

pub arms-returns-clause-told : goal.arms-returns-clause-told
arms-returns-clause-told t c =
    arms_ok c.requires c.block-one.ensures.told (record { never = c.in_default.not-Refused }) c.leave.ensures.left (ap (λ b. b.now) c.leave.ensures.work_unchanged) c.block-two.ensures.told (record { never = c.in_default-judgement.not-Refused }) c.mark_of.ensures.0 c.if-mark_of-eq0.false

pub block-statements-all-requires : goal.block-statements-all-requires
block-statements-all-requires t c = (omega (arith, c.decreases, c.requires.within), block_call c.requires c.node_children-count.ensures.0)

pub block-returns-in-Refused-clause-told : goal.block-returns-in-Refused-clause-told
block-returns-in-Refused-clause-told t c = block_refused c.requires c.node_children-count.ensures.0 c.statements-all.ensures.told c.in-Refused.is

pub block-leave-requires : goal.block-leave-requires
block-leave-requires t c = block_left c.requires c.node_children-count.ensures.0 c.statements-all.ensures.told (record { never = c.in_default.not-Refused })

pub block-ends-requires : goal.block-ends-requires
block-ends-requires t c = block_ends c.requires c.node_children-count.ensures.0 c.statements-all.ensures.told (record { never = c.in_default.not-Refused }) c.mark_of.ensures.1

pub block-returns-clause-told : goal.block-returns-clause-told
block-returns-clause-told t c =
    rw c.leave.ensures.work_unchanged (block_ok c.requires c.node_children-count.ensures.0 c.statements-all.ensures.told (record { never = c.in_default.not-Refused }) c.leave.ensures.left c.mark_of.ensures.0 (answered c.ends.ensures.value refl refl refl) c.ends.ensures.rows_after)

pub for_loop-overflow_sub-count : goal.for_loop-overflow_sub-count
for_loop-overflow_sub-count t c = for_count c.requires.ready_stmt.0 c.requires.node_value c.node_children-count.ensures.0

pub for_loop-variables-one-requires : goal.for_loop-variables-one-requires
for_loop-variables-one-requires t c = for_first c.requires.ready_stmt.0 c.requires.node_value c.node_children-count.ensures.0

pub for_loop-returns-in_default-clause-told : goal.for_loop-returns-in_default-clause-told
for_loop-returns-in_default-clause-told t c = for_no c.requires.ready_stmt.0 c.requires.node_value c.node_children-count.ensures.0 c.variables-one.ensures.told (record { never = c.in_default.not-GoesOn })

pub for_loop-condition-two-requires : goal.for_loop-condition-two-requires
for_loop-condition-two-requires t c = for_second c.requires.ready_stmt.0 c.requires.node_value c.node_children-count.ensures.0 c.variables-one.ensures.told c.in-GoesOn.is refl

pub for_loop-returns-in_default-judgement-clause-told : goal.for_loop-returns-in_default-judgement-clause-told
for_loop-returns-in_default-judgement-clause-told t c =
    for_no_2 c.requires.ready_stmt.0 c.requires.node_value c.node_children-count.ensures.0 c.variables-one.ensures.told c.in-GoesOn.is refl c.condition-two.ensures.told (record { never = c.in_default-judgement.not-GoesOn })

pub for_loop-turn-three-requires : goal.for_loop-turn-three-requires
for_loop-turn-three-requires t c =
    let g = for_third c.requires.ready_stmt.0 c.requires.node_value c.node_children-count.ensures.0 c.variables-one.ensures.told c.in-GoesOn.is refl c.condition-two.ensures.told c.in-GoesOn-judgement.is c.requires.ready_stmt.1 in (omega (arith, g.0, c.decreases, c.requires.ready_stmt.0.within), g.1)

pub for_loop-returns-in-Refused-clause-told : goal.for_loop-returns-in-Refused-clause-told
for_loop-returns-in-Refused-clause-told t c =
    for_no_3 c.requires.ready_stmt.0 c.requires.node_value c.node_children-count.ensures.0 c.variables-one.ensures.told c.in-GoesOn.is refl c.condition-two.ensures.told c.in-GoesOn-judgement.is c.turn-three.ensures.told c.in-Refused.is

pub for_loop-leave-requires : goal.for_loop-leave-requires
for_loop-leave-requires t c =
    let l = for_leaves c.requires.ready_stmt.0 c.requires.node_value c.node_children-count.ensures.0 c.variables-one.ensures.told c.in-GoesOn.is refl c.condition-two.ensures.told c.in-GoesOn-judgement.is c.turn-three.ensures.told (record { never = c.in_default-judgement-2.not-Refused }) in (l.0, omega (arith, l.1))

pub for_loop-ends-requires : goal.for_loop-ends-requires
for_loop-ends-requires t c =
    for_ends c.requires.ready_stmt.0 c.requires.node_value c.node_children-count.ensures.0 c.variables-one.ensures.told c.in-GoesOn.is refl c.condition-two.ensures.told c.in-GoesOn-judgement.is c.turn-three.ensures.told (record { never = c.in_default-judgement-2.not-Refused })

pub for_loop-returns-clause-told : goal.for_loop-returns-clause-told
for_loop-returns-clause-told t c =
    rw c.leave.ensures.work_unchanged (for_ok c.requires.ready_stmt.0 c.requires.node_value c.node_children-count.ensures.0 c.variables-one.ensures.told c.in-GoesOn.is refl c.condition-two.ensures.told c.in-GoesOn-judgement.is c.turn-three.ensures.told (record { never = c.in_default-judgement-2.not-Refused }) c.leave.ensures.left (answered c.ends.ensures.value refl refl refl) c.ends.ensures.rows_after)

pub if_else-expression-one-requires : goal.if_else-expression-one-requires
if_else-expression-one-requires t c = if_first c.requires.ready_stmt c.requires.node_value

pub if_else-returns-in_default-clause-told : goal.if_else-returns-in_default-clause-told
if_else-returns-in_default-clause-told t c = if_no c.requires.ready_stmt c.requires.node_value c.expression-one.ensures.told (record { never = c.in_default.not-Typed })

pub if_else-type_kind-requires : goal.if_else-type_kind-requires
if_else-type_kind-requires t c = if_type c.requires.ready_stmt c.requires.node_value c.expression-one.ensures.told c.in-Typed.is

pub if_else-returns-then-type_kind-ne1-clause-told : goal.if_else-returns-then-type_kind-ne1-clause-told
if_else-returns-then-type_kind-ne1-clause-told t c = if_sort c.requires.ready_stmt c.requires.node_value c.expression-one.ensures.told c.in-Typed.is c.type_kind.ensures.0 c.if-type_kind-ne1.true c.refused.ensures.0

pub if_else-arms-both-requires : goal.if_else-arms-both-requires
if_else-arms-both-requires t c = let g = if_second c.requires.ready_stmt c.requires.node_value c.expression-one.ensures.told c.in-Typed.is in (omega (arith, g.0, c.decreases, c.requires.ready_stmt.0.within), g.1)

pub if_else-returns-in-Refused-clause-told : goal.if_else-returns-in-Refused-clause-told
if_else-returns-in-Refused-clause-told t c = if_no_2 c.requires.ready_stmt c.requires.node_value c.expression-one.ensures.told c.in-Typed.is c.type_kind.ensures.0 c.if-type_kind-ne1.false c.arms-both.ensures.told c.in-Refused.is

pub if_else-ends-requires : goal.if_else-ends-requires
if_else-ends-requires t c =
    if_ends c.requires.ready_stmt c.requires.node_value c.expression-one.ensures.told c.in-Typed.is c.type_kind.ensures.0 c.if-type_kind-ne1.false c.arms-both.ensures.told (record { never = c.in_default-judgement.not-Refused }) c.mark_of.ensures.1

pub if_else-returns-clause-told : goal.if_else-returns-clause-told
if_else-returns-clause-told t c =
    if_ok c.requires.ready_stmt c.requires.node_value c.expression-one.ensures.told c.in-Typed.is c.type_kind.ensures.0 c.if-type_kind-ne1.false c.arms-both.ensures.told (record { never = c.in_default-judgement.not-Refused }) c.mark_of.ensures.0 (answered c.ends.ensures.value refl refl refl) c.ends.ensures.rows_after

pub if_null-expression-one-requires : goal.if_null-expression-one-requires
if_null-expression-one-requires t c = null_first c.requires.ready_stmt c.requires.node_value

pub if_null-returns-in_default-clause-told : goal.if_null-returns-in_default-clause-told
if_null-returns-in_default-clause-told t c = null_no c.requires.ready_stmt c.requires.node_value c.expression-one.ensures.told (record { never = c.in_default.not-Typed })

pub if_null-type_kind-requires : goal.if_null-type_kind-requires
if_null-type_kind-requires t c = null_type c.requires.ready_stmt c.requires.node_value c.expression-one.ensures.told c.in-Typed.is

pub if_null-returns-then-type_kind-ne7-clause-told : goal.if_null-returns-then-type_kind-ne7-clause-told
if_null-returns-then-type_kind-ne7-clause-told t c = null_sort c.requires.ready_stmt c.requires.node_value c.expression-one.ensures.told c.in-Typed.is c.type_kind.ensures.0 c.if-type_kind-ne7.true c.refused.ensures.0

pub if_null-type_a-referred-requires : goal.if_null-type_a-referred-requires
if_null-type_a-referred-requires t c = null_type c.requires.ready_stmt c.requires.node_value c.expression-one.ensures.told c.in-Typed.is

pub if_null-below-asked-requires : goal.if_null-below-asked-requires
if_null-below-asked-requires t c = null_asked c.requires.ready_stmt c.requires.node_value c.expression-one.ensures.told c.in-Typed.is c.type_kind.ensures.0 c.if-type_kind-ne7.false c.node_t-t.ensures.0 c.type_a-referred.ensures.0

pub if_null-counting-tested-requires : goal.if_null-counting-tested-requires
if_null-counting-tested-requires t c =
    null_counted c.requires.ready_stmt c.requires.node_value c.expression-one.ensures.told c.in-Typed.is c.type_kind.ensures.0 c.if-type_kind-ne7.false c.node_t-t.ensures.0 c.type_a-referred.ensures.0 c.below-asked.ensures.holds_value

pub if_null-returns-then-not-asked-clause-told : goal.if_null-returns-then-not-asked-clause-told
if_null-returns-then-not-asked-clause-told t c =
    null_below c.requires.ready_stmt c.requires.node_value c.expression-one.ensures.told c.in-Typed.is c.type_kind.ensures.0 c.if-type_kind-ne7.false c.node_t-t.ensures.0 c.type_a-referred.ensures.0 c.below-asked.ensures.holds_value c.counting-tested.ensures c.if-not-asked.true c.refused-then-not-asked.ensures.0

pub if_null-bind-requires : goal.if_null-bind-requires
if_null-bind-requires t c = null_bindable c.requires.ready_stmt c.requires.node_value c.expression-one.ensures.told c.in-Typed.is c.node_t-t.ensures.0

pub if_null-arms-both-requires : goal.if_null-arms-both-requires
if_null-arms-both-requires t c =
    let g = null_second c.requires.ready_stmt c.requires.node_value c.expression-one.ensures.told c.in-Typed.is c.type_kind.ensures.0 c.if-type_kind-ne7.false c.node_t-t.ensures.0 c.type_a-referred.ensures.0 c.below-asked.ensures.holds_value c.counting-tested.ensures c.bind.ensures.bound in (omega (arith, g.0, c.decreases, c.requires.ready_stmt.0.within), g.1)

pub if_null-returns-in-Refused-clause-told : goal.if_null-returns-in-Refused-clause-told
if_null-returns-in-Refused-clause-told t c =
    null_no_2 c.requires.ready_stmt c.requires.node_value c.expression-one.ensures.told c.in-Typed.is c.type_kind.ensures.0 c.if-type_kind-ne7.false c.node_t-t.ensures.0 c.type_a-referred.ensures.0 c.below-asked.ensures.holds_value c.counting-tested.ensures c.bind.ensures.bound c.if-not-asked.false c.arms-both.ensures.told c.in-Refused.is

pub if_null-ends-requires : goal.if_null-ends-requires
if_null-ends-requires t c =
    null_ends c.requires.ready_stmt c.requires.node_value c.expression-one.ensures.told c.in-Typed.is c.type_kind.ensures.0 c.if-type_kind-ne7.false c.node_t-t.ensures.0 c.type_a-referred.ensures.0 c.below-asked.ensures.holds_value c.counting-tested.ensures c.bind.ensures.bound c.if-not-asked.false c.arms-both.ensures.told (record { never = c.in_default-judgement.not-Refused }) c.mark_of.ensures.1

pub if_null-returns-clause-told : goal.if_null-returns-clause-told
if_null-returns-clause-told t c =
    null_ok c.requires.ready_stmt c.requires.node_value c.expression-one.ensures.told c.in-Typed.is c.type_kind.ensures.0 c.if-type_kind-ne7.false c.node_t-t.ensures.0 c.type_a-referred.ensures.0 c.below-asked.ensures.holds_value c.counting-tested.ensures c.bind.ensures.bound c.if-not-asked.false c.arms-both.ensures.told (record { never = c.in_default-judgement.not-Refused }) c.mark_of.ensures.0 (answered c.ends.ensures.value refl refl refl) c.ends.ensures.rows_after

pub statement-while_loop-requires : goal.statement-while_loop-requires
statement-while_loop-requires t c =
    (omega (arith, c.decreases), (c.requires, while_kind c.requires.0 c.node_kind.ensures.0 (search rules) (search rules) (search rules) (search rules) (search rules) (search rules) (search rules) (search rules)))

pub statement-returns-in-30-clause-told : goal.statement-returns-in-30-clause-told
statement-returns-in-30-clause-told t c = any_told c.assignment.ensures.told

pub statement-returns-in-34-clause-told : goal.statement-returns-in-34-clause-told
statement-returns-in-34-clause-told t c = any_told c.call_statement.ensures.told

pub statements-loop-i-init : goal.statements-loop-i-init
statements-loop-i-init t c = (run_start c.requires, search rules)

pub statements-returns-then-mark-ne0-clause-told : goal.statements-returns-then-mark-ne0-clause-told
statements-returns-then-mark-ne0-clause-told t c = run_stops c.requires c.loop-i.invariant.0 c.loop-i-test.true c.if-mark-ne0.true c.refused.ensures.0

pub statements-statement-one-requires : goal.statements-statement-one-requires
statements-statement-one-requires t c =
    (omega (arith, c.decreases, run_forward c.requires c.loop-i.invariant.0, (run_ready c.requires c.loop-i.invariant.0 c.loop-i-test.true).within), run_asked c.requires c.loop-i.invariant.0 c.loop-i-test.true)

pub statements-returns-in-Refused-clause-told : goal.statements-returns-in-Refused-clause-told
statements-returns-in-Refused-clause-told t c = run_no c.requires c.loop-i.invariant.0 c.loop-i-test.true c.if-mark-ne0.false c.statement-one.ensures.told c.in-Refused.is

pub statements-loop-i-preserved : goal.statements-loop-i-preserved
statements-loop-i-preserved t c = (
  run_again c.requires c.loop-i.invariant.0 c.loop-i-test.true c.if-mark-ne0.false c.statement-one.ensures.told (record { never = c.in_default.not-Refused }) c.mark_of-mark.ensures.0,
  search rules,
)

pub statements-returns-clause-told : goal.statements-returns-clause-told
statements-returns-clause-told t c = run_done c.requires c.loop-i.invariant.0 c.loop-i-test.false (answered c.with_mark.ensures refl refl refl)

pub step-returns-then-node_kind-eq40-clause-told : goal.step-returns-then-node_kind-eq40-clause-told
step-returns-then-node_kind-eq40-clause-told t c = step_absent c.requires c.node_kind.ensures.0 c.if-node_kind-eq40.true (answered c.ends.ensures.value refl refl refl) c.ends.ensures.rows_after

pub step-statement-one-requires : goal.step-statement-one-requires
step-statement-one-requires t c = (omega (arith, c.decreases), step_first c.requires c.node_kind.ensures.0 c.if-node_kind-eq40.false)

pub step-returns-in-Refused-clause-told : goal.step-returns-in-Refused-clause-told
step-returns-in-Refused-clause-told t c = step_no c.requires c.node_kind.ensures.0 c.if-node_kind-eq40.false c.statement-one.ensures.told c.in-Refused.is

pub step-returns-then-mark_of-ne0-clause-told : goal.step-returns-then-mark_of-ne0-clause-told
step-returns-then-mark_of-ne0-clause-told t c =
    step_returns c.requires c.node_kind.ensures.0 c.if-node_kind-eq40.false c.statement-one.ensures.told (record { never = c.in_default.not-Refused }) c.mark_of.ensures.0 c.if-mark_of-ne0.true c.refused.ensures.0

pub step-leave-requires : goal.step-leave-requires
step-leave-requires t c = step_leaves c.requires c.node_kind.ensures.0 c.if-node_kind-eq40.false c.statement-one.ensures.told (record { never = c.in_default.not-Refused })

pub step-returns-clause-told : goal.step-returns-clause-told
step-returns-clause-told t c =
    rw c.leave.ensures.work_unchanged (step_ok c.requires c.node_kind.ensures.0 c.if-node_kind-eq40.false c.statement-one.ensures.told (record { never = c.in_default.not-Refused }) c.mark_of.ensures.0 c.if-mark_of-ne0.false c.leave.ensures.left (answered c.goes_on.ensures refl refl refl))

pub turn-returns-in_default-clause-told : goal.turn-returns-in_default-clause-told
turn-returns-in_default-clause-told t c = turn_no c.requires c.step-one.ensures.told (record { never = c.in_default.not-GoesOn })

pub turn-block-requires : goal.turn-block-requires
turn-block-requires t c = let g = turn_second c.requires c.step-one.ensures.told c.in-GoesOn.is in (omega (arith, g.0, c.decreases, c.requires.within), g.1)

pub turn-returns-clause-told : goal.turn-returns-clause-told
turn-returns-clause-told t c = turn_told c.requires c.step-one.ensures.told c.in-GoesOn.is c.block.ensures.told

pub while_loop-expression-one-requires : goal.while_loop-expression-one-requires
while_loop-expression-one-requires t c = while_first c.requires.ready_stmt.0 c.requires.node_value

pub while_loop-returns-in_default-clause-told : goal.while_loop-returns-in_default-clause-told
while_loop-returns-in_default-clause-told t c = while_no c.requires.ready_stmt.0 c.requires.node_value c.expression-one.ensures.told (record { never = c.in_default.not-Typed })

pub while_loop-type_kind-requires : goal.while_loop-type_kind-requires
while_loop-type_kind-requires t c = child_type (while_first c.requires.ready_stmt.0 c.requires.node_value) c.expression-one.ensures.told c.in-Typed.is

pub while_loop-returns-then-type_kind-ne1-clause-told : goal.while_loop-returns-then-type_kind-ne1-clause-told
while_loop-returns-then-type_kind-ne1-clause-told t c = while_sort c.requires.ready_stmt.0 c.requires.node_value c.expression-one.ensures.told c.in-Typed.is c.type_kind.ensures.0 c.if-type_kind-ne1.true c.refused.ensures.0

pub while_loop-block-two-requires : goal.while_loop-block-two-requires
while_loop-block-two-requires t c =
    let g = while_second c.requires.ready_stmt.0 c.requires.node_value c.expression-one.ensures.told c.in-Typed.is c.type_kind.ensures.0 c.requires.ready_stmt.1 in (omega (arith, g.0, c.decreases, c.requires.ready_stmt.0.within), g.1)

pub while_loop-returns-in-Refused-clause-told : goal.while_loop-returns-in-Refused-clause-told
while_loop-returns-in-Refused-clause-told t c = while_no_2 c.requires.ready_stmt.0 c.requires.node_value c.expression-one.ensures.told c.in-Typed.is c.type_kind.ensures.0 c.if-type_kind-ne1.false c.block-two.ensures.told c.in-Refused.is

pub while_loop-while_mark-mark-requires : goal.while_loop-while_mark-mark-requires
while_loop-while_mark-mark-requires t c = while_test c.requires.ready_stmt.0 c.requires.node_value

pub while_loop-ends-requires : goal.while_loop-ends-requires
while_loop-ends-requires t c =
    while_ends c.requires.ready_stmt.0 c.requires.node_value c.expression-one.ensures.told c.in-Typed.is c.type_kind.ensures.0 c.if-type_kind-ne1.false c.block-two.ensures.told (record { never = c.in_default-judgement.not-Refused }) c.while_mark-mark.ensures.1

pub while_loop-returns-clause-told : goal.while_loop-returns-clause-told
while_loop-returns-clause-told t c =
    while_ok c.requires.ready_stmt.0 c.requires.node_value c.expression-one.ensures.told c.in-Typed.is c.type_kind.ensures.0 c.if-type_kind-ne1.false c.block-two.ensures.told (record { never = c.in_default-judgement.not-Refused }) c.while_mark-mark.ensures.0 (answered c.ends.ensures.value refl refl refl) c.ends.ensures.rows_after
