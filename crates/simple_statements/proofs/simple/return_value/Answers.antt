-- `return_value` meets its contract. Assumes nothing.
use native.Mathlib.Omega.{arith}
use mathlib.Core.Path.{refl}
use Rattle.answers.proofs.LawsAnswers.{answered}
use Rattle.expressions.proofs.LawsMeets.{untyped}
use Rattle.expressions.proofs.LawsChild.{child_within, child_fine}
use Rattle.simple_statements.proofs.LawsMarks.{mark_fits}
use Rattle.simple_statements.proofs.LawsReturns.{value_first, value_void, value_no, value_counted, value_type, value_ok}
use Rattle.simple_statements.proofs.simple.return_value.Goals as goal

pub returns-then-type_kind-eq3-clause-told : goal.returns-then-type_kind-eq3-clause-told
returns-then-type_kind-eq3-clause-told c =
    value_void c.requires.ready_stmt.0 c.requires.node_value c.type_kind.ensures.0 c.if-type_kind-eq3.true c.refused.ensures.0

pub expression-one-requires : goal.expression-one-requires
expression-one-requires c =
    value_first c.requires.ready_stmt.0 c.requires.node_value

pub returns-in_default-clause-told : goal.returns-in_default-clause-told
returns-in_default-clause-told c =
    value_no c.requires.ready_stmt.0 c.requires.node_value c.type_kind.ensures.0 c.if-type_kind-eq3.false c.expression-one.ensures.told (untyped _ c.in_default.not-Typed)

pub below-asked-requires : goal.below-asked-requires
below-asked-requires c =
    let first-there = child_within (value_first c.requires.ready_stmt.0 c.requires.node_value) c.expression-one.ensures.told c.in-Typed.is in
    let second-there = c.requires.ready_stmt.1 in
    let fine = c.requires.ready_stmt.0.fine in
    search (fine.good_tables, fine.indexed, first-there, second-there)

pub counting-end-requires : goal.counting-end-requires
counting-end-requires c =
    value_counted c.requires.ready_stmt.0 c.requires.node_value c.expression-one.ensures.told _ _ c.below-asked.ensures.holds_value

pub returns-then-not-asked-clause-told : goal.returns-then-not-asked-clause-told
returns-then-not-asked-clause-told c =
    value_type c.requires.ready_stmt.0 c.requires.node_value c.type_kind.ensures.0 c.if-type_kind-eq3.false c.expression-one.ensures.told c.in-Typed.is c.below-asked.ensures.holds_value c.counting-end.ensures c.if-not-asked.true c.refused-then-not-asked.ensures.0

pub ends-requires : goal.ends-requires
ends-requires c =
    mark_fits (child_fine (value_first c.requires.ready_stmt.0 c.requires.node_value) c.expression-one.ensures.told c.in-Typed.is) c.requires.ready_stmt.0.within (omega arith)

pub returns-clause-told : goal.returns-clause-told
returns-clause-told c =
    value_ok c.requires.ready_stmt.0 c.requires.node_value c.type_kind.ensures.0 c.if-type_kind-eq3.false c.expression-one.ensures.told c.in-Typed.is c.below-asked.ensures.holds_value c.counting-end.ensures c.if-not-asked.false (answered c.ends.ensures.value refl refl refl) c.ends.ensures.rows_after
