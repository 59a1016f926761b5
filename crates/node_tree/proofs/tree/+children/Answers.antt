-- `tree::children` meets its contract. Each call of itself has a level less. The invariant of the loop: the children left, from the child `i` of the node
-- that the loop has come to, end where those of the first node do; less of the file is left each time. Assumes nothing.
use mathlib.Core.Path.{◌≡◌, refl}
use Rattle.std.specs.Prelude.{None}
use native.Mathlib.Omega.{arith}
use borrow.Author.Rules.{rules}
use Rattle.node_tree.proofs.LawsPlaces.{whole, child_no_level, child_past, child_wrong, child_leaf, child_last, child_inner_broken, child_inner, child_fewer, children_done, standing_after}
use Rattle.node_tree.proofs.tree.+children.Goals as goal

pub returns-then-deep-eq0 : goal.returns-then-deep-eq0
returns-then-deep-eq0 t c = search (child_no_level, rules)

pub returns-then-file-at : goal.returns-then-file-at
returns-then-file-at t c = search (child_past, rules)

pub returns-then-not-child_right : goal.returns-then-not-child_right
returns-then-not-child_right t c = search (child_wrong, rules)

pub loop-i-preserved-then-inner-eq0 : goal.loop-i-preserved-then-inner-eq0
loop-i-preserved-then-inner-eq0 t c =
    let w = whole _ _ _ c.loop-i.invariant.3.standing c.if-file-at.false in (
      omega arith,
      search rules,
      search rules,
      child_leaf _ _ _ _ _ _ _ _ _ _ _ _ _ c.loop-i.invariant.3 c.loop-i-test.true _ c.child_right.ensures (rw c.if-not-child_right.false) w c.if-deep-eq0.false _ c.number-inner.ensures.0 (omega arith) _ _ refl refl,
    )

pub loop-i-preserved-then-i-many : goal.loop-i-preserved-then-i-many
loop-i-preserved-then-i-many t c =
    let w = whole _ _ _ c.loop-i.invariant.3.standing c.if-file-at.false in (
      omega arith,
      omega (arith, c.number-inner.ensures.1),
      omega arith,
      child_last _ _ _ _ _ _ _ _ _ _ _ _ _ c.loop-i.invariant.3 c.loop-i-test.true _ c.child_right.ensures (rw c.if-not-child_right.false) w c.if-deep-eq0.false _ c.number-inner.ensures.0 _ c.number-below.ensures.0 _ c.constant_below-fixed.ensures c.if-i-many.true _ _ refl refl,
    )

pub children-requires : goal.children-requires
children-requires t c = (omega arith, (standing_after _ _ _ (whole _ _ _ c.loop-i.invariant.3.standing c.if-file-at.false), omega arith, search rules))

pub returns-in_err-at : goal.returns-in_err-at
returns-in_err-at t c =
    let w = whole _ _ _ c.loop-i.invariant.3.standing c.if-file-at.false in
    let none : c.from_residual.result ≡ None = cc in
    rw none
    (child_inner_broken _ _ _ _ _ _ _ _ _ _ _ _ _ c.loop-i.invariant.3 c.loop-i-test.true _ c.child_right.ensures (rw c.if-not-child_right.false) w c.if-deep-eq0.false _ c.number-inner.ensures.0 _ c.number-below.ensures.0 _ c.constant_below.ensures _ c.children.ensures c.in_err-at.was)

pub loop-i-smaller : goal.loop-i-smaller
loop-i-smaller t c =
    let w = whole _ _ _ c.loop-i.invariant.3.standing c.if-file-at.false in
    omega (arith, c.if-file-at.false, child_fewer _ _ _ _ _ _ _ _ _ _ _ _ _ c.loop-i.invariant.3 c.loop-i-test.true _ c.child_right.ensures (rw c.if-not-child_right.false) w c.if-deep-eq0.false _ c.number-inner.ensures.0 _ c.number-below.ensures.0 _ c.constant_below.ensures _ c.children.ensures _ c.in_ok-at.was)

pub loop-i-preserved : goal.loop-i-preserved
loop-i-preserved t c =
    let w = whole _ _ _ c.loop-i.invariant.3.standing c.if-file-at.false in (
      omega arith,
      search rules,
      search rules,
      child_inner _ _ _ _ _ _ _ _ _ _ _ _ _ c.loop-i.invariant.3 c.loop-i-test.true _ c.child_right.ensures (rw c.if-not-child_right.false) w c.if-deep-eq0.false _ c.number-inner.ensures.0 _ c.number-below.ensures.0 _ c.constant_below.ensures _ c.children.ensures _ _ c.in_ok-at.was refl,
    )

pub returns : goal.returns
returns t c = search (children_done, rules)
