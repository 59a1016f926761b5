-- `call_statement` meets its contract. Assumes nothing.
use mathlib.Core.Path.{refl}
use Rattle.answers.proofs.LawsAnswers.{answered}
use Rattle.expressions.proofs.LawsMeets.{untyped, unlisted}
use Rattle.expressions.proofs.LawsChild.{child_type}
use Rattle.simple_statements.proofs.LawsCallStatement.{call_first, call_no, call_sort, call_type, call_value, call_count, call_list, call_no_2, call_row, call_ok}
use Rattle.simple_statements.proofs.simple.call_statement.Goals as goal

pub expression-one-requires : goal.expression-one-requires
expression-one-requires c =
    call_first c.requires.ready_stmt c.requires.node_value

pub returns-in_default-clause-told : goal.returns-in_default-clause-told
returns-in_default-clause-told c =
    call_no c.requires.ready_stmt c.requires.node_value c.expression-one.ensures.told (untyped _ c.in_default.not-Typed)

pub type_kind-requires : goal.type_kind-requires
type_kind-requires c =
    child_type (call_first c.requires.ready_stmt c.requires.node_value) c.expression-one.ensures.told c.in-Typed.is

pub returns-then-type_kind-ne6-clause-told : goal.returns-then-type_kind-ne6-clause-told
returns-then-type_kind-ne6-clause-told c =
    call_sort c.requires.ready_stmt c.requires.node_value c.expression-one.ensures.told c.in-Typed.is c.type_kind.ensures.0 c.if-type_kind-ne6.true c.refused.ensures.0

pub type_a-returned-requires : goal.type_a-returned-requires
type_a-returned-requires c =
    child_type (call_first c.requires.ready_stmt c.requires.node_value) c.expression-one.ensures.told c.in-Typed.is

pub type_kind-requires-2 : goal.type_kind-requires-2
type_kind-requires-2 c =
    call_type c.requires.ready_stmt c.requires.node_value c.expression-one.ensures.told c.in-Typed.is c.type_kind.ensures.0 c.if-type_kind-ne6.false c.type_a-returned.ensures.0

pub returns-then-type_kind-ne3-clause-told : goal.returns-then-type_kind-ne3-clause-told
returns-then-type_kind-ne3-clause-told c =
    call_value c.requires.ready_stmt c.requires.node_value c.expression-one.ensures.told c.in-Typed.is c.type_kind.ensures.0 c.if-type_kind-ne6.false c.type_a-returned.ensures.0 c.type_kind-2.ensures.0 c.if-type_kind-ne3.true c.refused-then-type_kind-ne3.ensures.0

pub type_c-count-requires : goal.type_c-count-requires
type_c-count-requires c =
    child_type (call_first c.requires.ready_stmt c.requires.node_value) c.expression-one.ensures.told c.in-Typed.is

pub returns-then-node_children-count-clause-told : goal.returns-then-node_children-count-clause-told
returns-then-node_children-count-clause-told c =
    call_count c.requires.ready_stmt c.requires.node_value c.expression-one.ensures.told c.in-Typed.is c.type_kind.ensures.0 c.if-type_kind-ne6.false c.type_a-returned.ensures.0 c.type_kind-2.ensures.0 c.if-type_kind-ne3.false c.type_c-count.ensures.0 c.node_children.ensures.0 c.if-node_children-count.true c.refused-then-node_children-count.ensures.0

pub type_b-requires : goal.type_b-requires
type_b-requires c =
    child_type (call_first c.requires.ready_stmt c.requires.node_value) c.expression-one.ensures.told c.in-Typed.is

pub list-all-requires : goal.list-all-requires
list-all-requires c =
    call_list c.requires.ready_stmt c.requires.node_value c.expression-one.ensures.told c.in-Typed.is c.type_kind.ensures.0 c.if-type_kind-ne6.false c.type_a-returned.ensures.0 c.type_kind-2.ensures.0 c.if-type_kind-ne3.false c.type_c-count.ensures.0 c.node_children.ensures.0 c.if-node_children-count.false c.type_b.ensures.0

pub returns-in_default-judgement-clause-told : goal.returns-in_default-judgement-clause-told
returns-in_default-judgement-clause-told c =
    call_no_2 c.requires.ready_stmt c.requires.node_value c.expression-one.ensures.told c.in-Typed.is c.type_kind.ensures.0 c.if-type_kind-ne6.false c.type_a-returned.ensures.0 c.type_kind-2.ensures.0 c.if-type_kind-ne3.false c.type_c-count.ensures.0 c.node_children.ensures.0 c.if-node_children-count.false c.type_b.ensures.0 c.list-all.ensures.told (unlisted _ c.in_default-judgement.not-GoesOn)

pub ends-requires : goal.ends-requires
ends-requires c =
    call_row c.requires.ready_stmt c.requires.node_value c.expression-one.ensures.told c.in-Typed.is c.type_kind.ensures.0 c.if-type_kind-ne6.false c.type_a-returned.ensures.0 c.type_kind-2.ensures.0 c.if-type_kind-ne3.false c.type_c-count.ensures.0 c.node_children.ensures.0 c.if-node_children-count.false c.type_b.ensures.0 c.list-all.ensures.told c.in-GoesOn.is

pub returns-clause-told : goal.returns-clause-told
returns-clause-told c =
    call_ok c.requires.ready_stmt c.requires.node_value c.expression-one.ensures.told c.in-Typed.is c.type_kind.ensures.0 c.if-type_kind-ne6.false c.type_a-returned.ensures.0 c.type_kind-2.ensures.0 c.if-type_kind-ne3.false c.type_c-count.ensures.0 c.node_children.ensures.0 c.if-node_children-count.false c.type_b.ensures.0 c.list-all.ensures.told c.in-GoesOn.is (answered c.ends.ensures.value refl refl refl) c.ends.ensures.rows_after
