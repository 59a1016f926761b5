-- `walk::tally_node` meets its contract. Assumes nothing.
use mathlib.Core.Path.{◌≡◌, ap, sym, ◌∙◌}
use mathlib.Core.Bool.{true, false}
use native.Mathlib.Omega.{arith}
use Rattle.oat.specs.Basics.{pick}
use Rattle.oat.specs.Nodes.{is_expression}
use Rattle.tallies.proofs.LawsWalk.{counted_other, row_there, type_entered, count_low, counted_expression}
use Rattle.tallies.proofs.walk.tally_node.Goals as goal

pub returns-then-not-is_counted : goal.returns-then-not-is_counted
returns-then-not-is_counted c =
    let other : is_expression _ _ ≡ false = sym c.is_counted.ensures ∙ c.if-not-is_counted.true in
    record { value = (sym (ap (λ b. pick b 1 0) other), omega arith); counted_to_2 = counted_other other c.requires.counted_to }

pub type_in_row-requires : goal.type_in_row-requires
type_in_row-requires c =
    row_there c.requires.ready_walk.0 c.requires.ready_walk.1

pub lowest-requires : goal.lowest-requires
lowest-requires c =
    let its : is_expression _ _ ≡ true = sym c.is_counted.ensures ∙ c.if-not-is_counted.false in
    type_entered c.requires.ready_walk.0 c.requires.ready_walk.1 its c.type_in_row.ensures

pub add_one-requires : goal.add_one-requires
add_one-requires c =
    let its : is_expression _ _ ≡ true = sym c.is_counted.ensures ∙ c.if-not-is_counted.false in
    count_low c.requires.ready_walk.0 c.requires.ready_walk.1 its c.type_in_row.ensures c.requires.counted_to c.lowest.ensures

pub returns : goal.returns
returns c =
    let its : is_expression _ _ ≡ true = sym c.is_counted.ensures ∙ c.if-not-is_counted.false in
    record { value = (sym (ap (λ b. pick b 1 0) its), omega arith); counted_to_2 = counted_expression c.requires.ready_walk.0 c.requires.ready_walk.1 its c.type_in_row.ensures c.requires.counted_to c.lowest.ensures c.add_one.ensures }
