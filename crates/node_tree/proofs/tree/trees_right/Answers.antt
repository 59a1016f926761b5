-- `tree::trees_right` meets its contract. The declarations from the place `at` on decide, and less of the file is left. Assumes nothing.
use native.Mathlib.Omega.{arith}
use borrow.Author.Rules.{rules}
use Rattle.node_tree.proofs.LawsPlaces.{whole, place_small, standing_after, declaration_some, none_before, left_standing, left_none, left_no_level, left_wrong, left_inner_broken, left_next, left_fewer}
use Rattle.node_tree.proofs.tree.trees_right.Goals as goal

pub loop-at-init : goal.loop-at-init
loop-at-init c = search (none_before, rules)

pub overflow_mul-at : goal.overflow_mul-at
overflow_mul-at c = omega (arith, place_small (left_standing _ _ _ _ c.loop-at.invariant))

pub returns-then-depth-eq0 : goal.returns-then-depth-eq0
returns-then-depth-eq0 c = search (left_no_level, rules)

pub node_right-requires : goal.node_right-requires
node_right-requires c = search (whole, left_standing, rules)

pub returns-then-not-node_right : goal.returns-then-not-node_right
returns-then-not-node_right c = search (left_wrong, rules)

pub number-kind-requires : goal.number-kind-requires
number-kind-requires c = omega (arith, (whole _ _ _ (left_standing _ _ _ _ c.loop-at.invariant) c.loop-at-test.true).four)

pub overflow_add-at : goal.overflow_add-at
overflow_add-at c = omega (arith, place_small (left_standing _ _ _ _ c.loop-at.invariant))

pub number-requires : goal.number-requires
number-requires c = (whole _ _ _ (left_standing _ _ _ _ c.loop-at.invariant) c.loop-at-test.true).four

pub overflow_add-at-in-loop-at : goal.overflow_add-at-in-loop-at
overflow_add-at-in-loop-at c = omega (arith, place_small (left_standing _ _ _ _ c.loop-at.invariant))

pub children-requires : goal.children-requires
children-requires c = let w = (whole _ _ _ (left_standing _ _ _ _ c.loop-at.invariant) c.loop-at-test.true) in (standing_after _ _ _ w, declaration_some _ _ _ _ w _ c.node_right.ensures (rw c.if-not-node_right.false) _ c.number.ensures.0, search rules)

pub returns-in_default : goal.returns-in_default
returns-in_default c = search (left_inner_broken, whole, left_standing, rules)

pub loop-at-smaller : goal.loop-at-smaller
loop-at-smaller c = search (left_fewer, whole, left_standing, rules)

pub loop-at-preserved : goal.loop-at-preserved
loop-at-preserved c = search (left_next, whole, left_standing, rules)

pub returns : goal.returns
returns c = search (left_none, rules)
