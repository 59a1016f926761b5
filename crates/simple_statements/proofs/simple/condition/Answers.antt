-- `simple::condition` meets its contract. Assumes nothing.
use mathlib.Core.Path.{refl}
use Rattle.answers.proofs.LawsAnswers.{answered}
use Rattle.expressions.proofs.LawsMeets.{untyped}
use Rattle.simple_statements.proofs.LawsCondition.{condition_none, condition_no, condition_sort, condition_ok}
use Rattle.simple_statements.proofs.simple.condition.Goals as goal

pub returns-then-node_kind-eq40-clause-told : goal.returns-then-node_kind-eq40-clause-told
returns-then-node_kind-eq40-clause-told c =
    condition_none c.requires c.node_kind.ensures.0 c.if-node_kind-eq40.true (answered c.ends.ensures.value refl refl refl) c.ends.ensures.rows_after

pub returns-in_default-clause-told : goal.returns-in_default-clause-told
returns-in_default-clause-told c =
    condition_no c.requires c.node_kind.ensures.0 c.if-node_kind-eq40.false c.expression-one.ensures.told (untyped _ c.in_default.not-Typed)

pub returns-then-type_kind-ne1-clause-told : goal.returns-then-type_kind-ne1-clause-told
returns-then-type_kind-ne1-clause-told c =
    condition_sort c.requires c.node_kind.ensures.0 c.if-node_kind-eq40.false c.expression-one.ensures.told c.in-Typed.is c.type_kind.ensures.0 c.if-type_kind-ne1.true c.refused.ensures.0

pub returns-clause-told : goal.returns-clause-told
returns-clause-told c =
    condition_ok c.requires c.node_kind.ensures.0 c.if-node_kind-eq40.false c.expression-one.ensures.told c.in-Typed.is c.type_kind.ensures.0 c.if-type_kind-ne1.false (answered c.goes_on.ensures refl refl refl)
