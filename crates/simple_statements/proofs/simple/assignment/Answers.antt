-- `assignment` meets its contract. Assumes nothing.
use native.Mathlib.Omega.{arith}
use mathlib.Core.Path.{ap, refl}
use mathlib.Core.Bool.{not}
use Rattle.answers.proofs.LawsAnswers.{answered}
use Rattle.expressions.proofs.LawsMeets.{untyped}
use Rattle.expressions.proofs.LawsChild.{child_within, child_fine}
use Rattle.simple_statements.proofs.LawsMarks.{mark_fits}
use Rattle.simple_statements.proofs.LawsAssignment.{some_held, assignment_first, assignment_fixed, assignment_no, assignment_second, assignment_no_2, assignment_counted, assignment_type, assignment_ok}
use Rattle.simple_statements.proofs.simple.assignment.Goals as goal

pub assigns-requires : goal.assigns-requires
assigns-requires c =
    (some_held c.requires.ready_stmt.fine, (assignment_first c.requires.ready_stmt c.requires.node_value).within)

pub returns-then-not-assigns-clause-told : goal.returns-then-not-assigns-clause-told
returns-then-not-assigns-clause-told c =
    assignment_fixed c.requires.ready_stmt c.requires.node_value c.assigns.ensures (ap not c.if-not-assigns.true) c.refused.ensures.0

pub expression-one-requires : goal.expression-one-requires
expression-one-requires c =
    assignment_first c.requires.ready_stmt c.requires.node_value

pub returns-in_default-clause-told : goal.returns-in_default-clause-told
returns-in_default-clause-told c =
    assignment_no c.requires.ready_stmt c.requires.node_value c.assigns.ensures (ap not c.if-not-assigns.false) c.expression-one.ensures.told (untyped _ c.in_default.not-Typed)

pub expression-two-requires : goal.expression-two-requires
expression-two-requires c =
    assignment_second c.requires.ready_stmt c.requires.node_value c.assigns.ensures (ap not c.if-not-assigns.false) c.expression-one.ensures.told c.in-Typed.is

pub returns-in_default-judgement-clause-told : goal.returns-in_default-judgement-clause-told
returns-in_default-judgement-clause-told c =
    assignment_no_2 c.requires.ready_stmt c.requires.node_value c.assigns.ensures (ap not c.if-not-assigns.false) c.expression-one.ensures.told c.in-Typed.is c.expression-two.ensures.told (untyped _ c.in_default-judgement.not-Typed)

pub below-asked-requires : goal.below-asked-requires
below-asked-requires c =
    let first-there = child_within (assignment_second c.requires.ready_stmt c.requires.node_value c.assigns.ensures (ap not c.if-not-assigns.false) c.expression-one.ensures.told c.in-Typed.is) c.expression-two.ensures.told c.in-Typed-judgement.is in
    let second-there = child_within (assignment_first c.requires.ready_stmt c.requires.node_value) c.expression-one.ensures.told c.in-Typed.is in
    let fine = c.requires.ready_stmt.fine in
    search (fine.good_tables, fine.indexed, first-there, second-there)

pub counting-end-requires : goal.counting-end-requires
counting-end-requires c =
    assignment_counted c.requires.ready_stmt c.requires.node_value c.assigns.ensures (ap not c.if-not-assigns.false) c.expression-one.ensures.told c.in-Typed.is c.expression-two.ensures.told _ c.below-asked.ensures.holds_value

pub returns-then-not-asked-clause-told : goal.returns-then-not-asked-clause-told
returns-then-not-asked-clause-told c =
    assignment_type c.requires.ready_stmt c.requires.node_value c.assigns.ensures (ap not c.if-not-assigns.false) c.expression-one.ensures.told c.in-Typed.is c.expression-two.ensures.told c.in-Typed-judgement.is c.below-asked.ensures.holds_value c.counting-end.ensures c.if-not-asked.true c.refused-then-not-asked.ensures.0

pub ends-requires : goal.ends-requires
ends-requires c =
    mark_fits (child_fine (assignment_second c.requires.ready_stmt c.requires.node_value c.assigns.ensures (ap not c.if-not-assigns.false) c.expression-one.ensures.told c.in-Typed.is) c.expression-two.ensures.told c.in-Typed-judgement.is) c.requires.ready_stmt.within (omega arith)

pub returns-clause-told : goal.returns-clause-told
returns-clause-told c =
    assignment_ok c.requires.ready_stmt c.requires.node_value c.assigns.ensures (ap not c.if-not-assigns.false) c.expression-one.ensures.told c.in-Typed.is c.expression-two.ensures.told c.in-Typed-judgement.is c.below-asked.ensures.holds_value c.counting-end.ensures c.if-not-asked.false (answered c.ends.ensures.value refl refl refl) c.ends.ensures.rows_after
