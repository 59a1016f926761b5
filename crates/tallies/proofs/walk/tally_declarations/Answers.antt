-- `walk::tally_declarations` meets its contract. The loop keeps: the declarations before `node` are counted. Assumes nothing.
use mathlib.Core.Path.{refl}
use native.Mathlib.Omega.{arith}
use borrow.Author.Rules.{rules}
use Rattle.tallies.proofs.LawsWalk.{tally_start, tally_tree, tally_low, tally_fits, tally_falls, tally_next, tally_done}
use Rattle.tallies.proofs.walk.tally_declarations.Goals as goal

pub loop-node-init : goal.loop-node-init
loop-node-init c = (tally_start c.requires, refl, refl)

pub tally_tree-tree-requires : goal.tally_tree-tree-requires
tally_tree-tree-requires c =
    let along = c.loop-node.invariant.0 in
    record { ready_walk = (c.requires.ready, tally_tree c.requires along c.loop-node-test.true); counted_to = along.counted }

pub overflow_cast-declarations : goal.overflow_cast-declarations
overflow_cast-declarations c =
    omega (arith, tally_fits c.requires c.loop-node.invariant.0 c.loop-node-test.true c.tally_tree-tree.ensures)

pub offset_bounds-declarations-count : goal.offset_bounds-declarations-count
offset_bounds-declarations-count c = omega (arith, tally_low c.requires c.loop-node.invariant.0 c.loop-node-test.true, c.loop-node.invariant.0.long)

pub bounds-declarations-count : goal.bounds-declarations-count
bounds-declarations-count c =
    tally_low c.requires c.loop-node.invariant.0 c.loop-node-test.true

pub overflow_add-count : goal.overflow_add-count
overflow_add-count c = omega (arith, tally_low c.requires c.loop-node.invariant.0 c.loop-node-test.true, c.loop-node.invariant.0.long)

pub loop-node-smaller : goal.loop-node-smaller
loop-node-smaller c =
    tally_falls c.requires c.loop-node.invariant.0 c.loop-node-test.true c.tally_tree-tree.ensures

pub loop-node-preserved : goal.loop-node-preserved
loop-node-preserved c =
    (tally_next c.requires c.loop-node.invariant.0 c.loop-node-test.true c.tally_tree-tree.ensures refl, search rules, search rules)

pub returns : goal.returns
returns c =
    tally_done c.requires c.loop-node.invariant.0 c.loop-node-test.false
