-- `walk::last_where` meets its contract. Assumes nothing.
use mathlib.Core.Path.{sym, ◌∙◌}
use borrow.Author.Rules.{rules}
use Rattle.type_index.proofs.LawsWalk.{way_starts, way_ends, way_below, way_found, way_room, way_falls, way_on}
use Rattle.type_index.proofs.walk.last_where.Goals as goal

pub loop-after-init : goal.loop-after-init
loop-after-init g c = search (way_starts, rules)

pub test-requires : goal.test-requires
test-requires g c = let low = way_below _ _ _ _ c.requires.1.0 _ c.loop-after.invariant c.loop-after-test.true in search rules

pub returns-then-test : goal.returns-then-test
returns-then-test g c =
    let low = way_below _ _ _ _ c.requires.1.0 _ c.loop-after.invariant c.loop-after-test.true in
    way_found _ _ _ _ c.requires.1.0 _ c.loop-after.invariant c.loop-after-test.true (sym (c.requires.1.1.1 _ _ low c.test.ensures) ∙ c.if-test.true)

pub overflow_add-links : goal.overflow_add-links
overflow_add-links g c = let room = way_room _ _ _ _ c.requires.1.0 _ c.loop-after.invariant c.loop-after-test.true in search rules

pub entry-after-requires-in-loop-after : goal.entry-after-requires-in-loop-after
entry-after-requires-in-loop-after g c = search (way_room, rules)

pub loop-after-smaller : goal.loop-after-smaller
loop-after-smaller g c = search (way_falls, rules)

pub loop-after-preserved : goal.loop-after-preserved
loop-after-preserved g c =
    let low = way_below _ _ _ _ c.requires.1.0 _ c.loop-after.invariant c.loop-after-test.true in
    way_on _ _ _ _ c.requires.1.0 _ c.loop-after.invariant c.loop-after-test.true _ c.entry-after-in-loop-after.ensures.0 (sym (c.requires.1.1.1 _ _ low c.test.ensures) ∙ c.if-test.false)

pub returns : goal.returns
returns g c = search (way_ends, rules)
