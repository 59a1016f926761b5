-- `literal::is_named` meets its contract. The loop keeps: none of the initializers passed has the name, and the others stand from the
-- node come to. Assumes nothing.
use native.Mathlib.Omega.{arith}
use borrow.Author.Rules.{rules}
use Rattle.fields.proofs.LawsInitializers.{reached_first, reached_within, reached_tree, reached_next, none_passed, name_found, name_passed, no_name}
use Rattle.fields.proofs.literal.is_named.Goals as goal

pub loop-passed-init : goal.loop-passed-init
loop-passed-init c = (search (reached_first, rules), search (none_passed, rules))

pub node_x-requires : goal.node_x-requires
node_x-requires c = search (reached_within, rules)

pub returns-then-node_x-name : goal.returns-then-node_x-name
returns-then-node_x-name c = name_found _ _ _ _ _ _ _ _ c.loop-passed.invariant.0 c.loop-passed-test.true c.node_x.ensures.0 c.if-node_x-name.true

pub overflow_add-at : goal.overflow_add-at
overflow_add-at c = omega (arith, reached_within _ _ _ _ _ _ c.loop-passed.invariant.0 c.loop-passed-test.true c.requires, c.requires.laid.nodes_most)

pub past-at-requires : goal.past-at-requires
past-at-requires c = search (reached_tree, rules)

pub loop-passed-preserved : goal.loop-passed-preserved
loop-passed-preserved c = (search (reached_next, rules), search (name_passed, rules))

pub returns : goal.returns
returns c = no_name _ _ _ _ _ _ c.loop-passed.invariant.1 (omega arith) c.loop-passed-test.false
