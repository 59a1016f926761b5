-- `walk::tally_tree` meets its contract. The loop keeps: the trees left of the tree stand from the node come to, the expressions before it are
-- counted under their types, and so are those of the tree. Assumes nothing.
use mathlib.Core.Path.{refl}
use Prim.Native.Nat.{◌<◌}
use native.Mathlib.Omega.{arith}
use borrow.Author.Rules.{rules}
use Rattle.file_sections.proofs.LawsTrees.{along_start, along_within, along_low, along_few, along_next}
use Rattle.tallies.proofs.LawsWalk.{counts_start, counts_few, counts_next, counts_done}
use Rattle.tallies.proofs.walk.tally_tree.Goals as goal

pub loop-open-init : goal.loop-open-init
loop-open-init c = (search (along_start, rules), counts_start c.requires.counted_to, refl)

-- the node come to is there
pub tally_node-expressions-requires : goal.tally_node-expressions-requires
tally_node-expressions-requires c =
    let inv = c.loop-open.invariant in
    record { ready_walk = (c.requires.ready_walk.0, along_within _ _ _ _ _ c.requires.ready_walk.1 inv.0 c.loop-open-test.true); counted_to = inv.1.counted }

pub overflow_add-expressions : goal.overflow_add-expressions
overflow_add-expressions c =
    let inv = c.loop-open.invariant in
    omega (arith, counts_few inv.1, along_low _ _ _ _ _ c.requires.ready_walk.1 inv.0 c.loop-open-test.true, c.tally_node-expressions.ensures.value.1)

pub node_children-requires : goal.node_children-requires
node_children-requires c = search (along_within, rules)

pub overflow_add-open : goal.overflow_add-open
overflow_add-open c = let few : c.loop-open.«open» < 268435457 = search (along_few, rules) in search rules

pub overflow_add-at : goal.overflow_add-at
overflow_add-at c = let low : c.loop-open.at < 4096 = search (along_low, rules) in search rules

pub loop-open-smaller : goal.loop-open-smaller
loop-open-smaller c = let within : c.loop-open.at < c.args.sections.nodes = search (along_within, rules) in search rules

pub loop-open-preserved : goal.loop-open-preserved
loop-open-preserved c =
    let inv = c.loop-open.invariant in
    let told = c.tally_node-expressions.ensures in
    (along_next _ _ _ _ _ _ inv.0 c.loop-open-test.true c.node_children.ensures.0 c.node_children.ensures.1, counts_next inv.1 told.value.0 told.counted_to_2, search rules)

pub returns : goal.returns
returns c = counts_done c.loop-open.invariant.0 c.loop-open-test.false c.loop-open.invariant.1 refl
