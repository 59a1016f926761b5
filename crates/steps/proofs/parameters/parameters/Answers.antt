-- `parameters::parameters` meets its contract. Assumes nothing.
use borrow.Author.Rules.{rules}
use Rattle.std.proofs.lemmas.Bool.{not_from_true, not_from_false}
use native.Mathlib.Omega.{arith}
use Rattle.steps.proofs.LawsParameters.{parameters_start, parameter_some, parameter_node, parameter_entry, parameter_bindable, parameter_fits, parameter_taken, parameter_again, parameters_done}
use Rattle.steps.proofs.parameters.parameters.Goals as goal

pub loop-i-init : goal.loop-i-init
loop-i-init c = (parameters_start c.requires, search rules)

pub overflow_add-at : goal.overflow_add-at
overflow_add-at c = omega (arith, (parameter_node c.requires c.loop-i.invariant.0 c.loop-i-test.true).within, c.requires.fine.good_tables.laid.nodes_most)

pub overflow_add-at-in-loop-i : goal.overflow_add-at-in-loop-i
overflow_add-at-in-loop-i c = omega (arith, (parameter_node c.requires c.loop-i.invariant.0 c.loop-i-test.true).within, c.requires.fine.good_tables.laid.nodes_most)

pub node_x-name-requires : goal.node_x-name-requires
node_x-name-requires c = parameter_node c.requires c.loop-i.invariant.0 c.loop-i-test.true

pub is_fresh-requires : goal.is_fresh-requires
is_fresh-requires c = parameter_some c.requires c.loop-i.invariant.0

pub returns-then-not-is_fresh-clause-told : goal.returns-then-not-is_fresh-clause-told
returns-then-not-is_fresh-clause-told c = parameter_taken c.requires c.loop-i.invariant.0 c.loop-i-test.true c.node_x-name.ensures.0 c.is_fresh.ensures (not_from_false _ c.if-not-is_fresh.true)

pub overflow_add-first : goal.overflow_add-first
overflow_add-first c = omega (arith, (parameter_entry c.requires c.loop-i.invariant.0 c.loop-i-test.true).within, c.requires.fine.good_tables.laid.list_most)

pub list_entry-t-requires : goal.list_entry-t-requires
list_entry-t-requires c = parameter_entry c.requires c.loop-i.invariant.0 c.loop-i-test.true

pub overflow_add-base : goal.overflow_add-base
overflow_add-base c = omega (arith, c.loop-i-test.true, c.requires.room, c.requires.fine.good_tables.laid.nodes_most, c.requires.fine.good_tables.laid.built_ins_most)

pub bind-requires : goal.bind-requires
bind-requires c = parameter_bindable c.requires c.loop-i.invariant.0 c.loop-i-test.true c.list_entry-t.ensures.0

pub row-requires : goal.row-requires
row-requires c = parameter_fits c.requires c.loop-i.invariant.0 c.loop-i-test.true c.list_entry-t.ensures.0

pub loop-i-preserved : goal.loop-i-preserved
loop-i-preserved c = (
  (
      parameter_again c.requires c.loop-i.invariant.0 c.loop-i-test.true c.node_x-name.ensures.0 c.is_fresh.ensures (not_from_true _ c.if-not-is_fresh.false) c.list_entry-t.ensures.0 c.bind.ensures.bound c.row.ensures),
  search rules,
)

pub returns-clause-told : goal.returns-clause-told
returns-clause-told c = parameters_done c.requires c.loop-i.invariant.0 (omega (arith, c.loop-i-test.false))
