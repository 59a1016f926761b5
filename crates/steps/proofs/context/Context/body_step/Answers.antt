-- `Context::body_step` meets its contract. Assumes nothing.
use Rattle.std.proofs.lemmas.Bool.{not_from_true, not_from_false}
use native.Mathlib.Omega.{arith}
use mathlib.Core.Path.{ap}
use Rattle.steps.proofs.LawsBody.{unreturned, body_node, body_type, body_parameters, body_numbers, body_taken, body_block, body_no, body_open, body_scoped, body_fits, body_ok}
use Rattle.steps.proofs.context.Context.body_step.Goals as goal

pub node_t-t-requires : goal.node_t-t-requires
node_t-t-requires c = body_node c.requires

pub type_b-first-requires : goal.type_b-first-requires
type_b-first-requires c = body_type c.requires c.node_t-t.ensures.0

pub type_c-count-requires : goal.type_c-count-requires
type_c-count-requires c = body_type c.requires c.node_t-t.ensures.0

pub parameters-requires : goal.parameters-requires
parameters-requires c = body_parameters c.requires c.node_t-t.ensures.0 c.type_b-first.ensures.0 c.type_c-count.ensures.0

pub returns-then-not-parameters-clause-told : goal.returns-then-not-parameters-clause-told
returns-then-not-parameters-clause-told c = body_taken c.requires c.node_t-t.ensures.0 c.type_b-first.ensures.0 c.type_c-count.ensures.0 c.parameters.ensures.told (not_from_false _ c.if-not-parameters.true) c.refusal.ensures

pub overflow_add-at : goal.overflow_add-at
overflow_add-at c = omega (arith, (body_numbers c.requires c.node_t-t.ensures.0 c.type_b-first.ensures.0 c.type_c-count.ensures.0).1)

pub overflow_add-at-2 : goal.overflow_add-at-2
overflow_add-at-2 c = omega (arith, (body_numbers c.requires c.node_t-t.ensures.0 c.type_b-first.ensures.0 c.type_c-count.ensures.0).1)

pub overflow_add-at-3 : goal.overflow_add-at-3
overflow_add-at-3 c = omega (arith, (body_numbers c.requires c.node_t-t.ensures.0 c.type_b-first.ensures.0 c.type_c-count.ensures.0).0)

pub type_a-requires : goal.type_a-requires
type_a-requires c = body_type c.requires c.node_t-t.ensures.0

pub block-body-requires : goal.block-body-requires
block-body-requires c = body_block c.requires c.node_t-t.ensures.0 c.type_b-first.ensures.0 c.type_c-count.ensures.0 c.parameters.ensures.told (not_from_true _ c.if-not-parameters.false) c.type_a.ensures.0

pub returns-in-Refused-clause-told : goal.returns-in-Refused-clause-told
returns-in-Refused-clause-told c = body_no c.requires c.node_t-t.ensures.0 c.type_b-first.ensures.0 c.type_c-count.ensures.0 c.parameters.ensures.told (not_from_true _ c.if-not-parameters.false) c.type_a.ensures.0 c.block-body.ensures.told c.in-Refused.is c.summing-after.ensures (c.handed_up.ensures.tells _ _ c.in-Refused.is)

pub returns-in_default-judgement-clause-told : goal.returns-in_default-judgement-clause-told
returns-in_default-judgement-clause-told c =
    body_open c.requires c.node_t-t.ensures.0 c.type_b-first.ensures.0 c.type_c-count.ensures.0 c.parameters.ensures.told (not_from_true _ c.if-not-parameters.false) c.type_a.ensures.0 c.block-body.ensures.told (record { never = c.in_default.not-Refused }) (unreturned _ c.in_default-judgement.not-Returns) c.summing-after.ensures c.refusal-in_default-judgement.ensures

pub leave-requires : goal.leave-requires
leave-requires c = body_scoped c.requires c.node_t-t.ensures.0 c.type_b-first.ensures.0 c.type_c-count.ensures.0 c.parameters.ensures.told (not_from_true _ c.if-not-parameters.false) c.type_a.ensures.0 c.block-body.ensures.told (record { never = c.in_default.not-Refused })

pub row-requires : goal.row-requires
row-requires c = body_fits c.requires c.node_t-t.ensures.0 c.type_b-first.ensures.0 c.type_c-count.ensures.0 c.parameters.ensures.told (not_from_true _ c.if-not-parameters.false) c.type_a.ensures.0 c.block-body.ensures.told (record { never = c.in_default.not-Refused })

pub returns-clause-told : goal.returns-clause-told
returns-clause-told c = body_ok c.requires c.node_t-t.ensures.0 c.type_b-first.ensures.0 c.type_c-count.ensures.0 c.parameters.ensures.told (not_from_true _ c.if-not-parameters.false) c.type_a.ensures.0 c.block-body.ensures.told (record { never = c.in_default.not-Refused }) c.in-Returns.is (ap (λ w. w.now) c.leave.ensures.work_unchanged) c.leave.ensures.left c.row.ensures c.summing-after.ensures c.with_step.ensures
