-- `Context::global_step` meets its contract. Assumes nothing.
use Rattle.std.proofs.lemmas.Bool.{not_from_true, not_from_false}
use native.Mathlib.Omega.{arith}
use borrow.Author.Rules.{rules}
use Rattle.steps.proofs.LawsGlobal.{global_first, global_node, global_counts, global_no, global_some, global_bindable, global_fits, global_taken, global_ok, global_refused}
use Rattle.steps.proofs.context.Context.global_step.Goals as goal

pub overflow_add-at : goal.overflow_add-at
overflow_add-at c = omega (arith, (global_node c.requires).within, c.requires.held.good_tables.laid.nodes_most)

pub expression-value-requires : goal.expression-value-requires
expression-value-requires c = global_first c.requires

pub handed_up-requires : goal.handed_up-requires
handed_up-requires c = global_refused c.requires c.expression-value.ensures.told c.in_default.not-Typed

pub returns-in_default-clause-told : goal.returns-in_default-clause-told
returns-in_default-clause-told c =
    let refusal = global_refused c.requires c.expression-value.ensures.told c.in_default.not-Typed in
    global_no c.requires c.expression-value.ensures.told refusal.is c.summing-after.ensures (c.handed_up.ensures.tells _ _ refusal.is)

pub node_x-name-requires : goal.node_x-name-requires
node_x-name-requires c = global_node c.requires

pub is_new-requires : goal.is_new-requires
is_new-requires c = global_some c.requires c.expression-value.ensures.told c.in-Typed.is

pub returns-then-not-is_new-clause-told : goal.returns-then-not-is_new-clause-told
returns-then-not-is_new-clause-told c = global_taken c.requires c.expression-value.ensures.told c.in-Typed.is c.node_x-name.ensures.0 c.is_new.ensures (not_from_false _ c.if-not-is_new.true) c.summing-after.ensures c.refusal.ensures

pub bind-requires : goal.bind-requires
bind-requires c = global_bindable c.requires c.expression-value.ensures.told c.in-Typed.is

pub row-requires : goal.row-requires
row-requires c = global_fits c.requires c.expression-value.ensures.told c.in-Typed.is

pub returns-clause-told : goal.returns-clause-told
returns-clause-told c = global_ok c.requires c.expression-value.ensures.told c.in-Typed.is c.node_x-name.ensures.0 c.is_new.ensures (not_from_true _ c.if-not-is_new.false) c.bind.ensures.bound c.row.ensures c.summing-after.ensures c.with_name.ensures

pub with_name-requires : goal.with_name-requires
with_name-requires c = let counts = global_counts c.requires in search (rules, counts)
