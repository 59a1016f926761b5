-- `literal::all_named` meets its contract. The loop keeps: the fields passed are named, and the initializers after as many stand from
-- the node come to. Assumes nothing.
use native.Mathlib.Omega.{arith}
use borrow.Author.Rules.{rules}
use Rattle.fields.proofs.LawsLookup.{own_fields}
use Rattle.fields.proofs.LawsInitializers.{reached_first, reached_within, reached_tree, reached_next, named_none, named_here, named_there, not_all_named, all_are_named}
use Rattle.fields.proofs.literal.all_named.Goals.{else-node_x-name-via-then-node_x-name+else-not-is_named, else-node_x-name-via-else-node_x-name}
use Rattle.fields.proofs.literal.all_named.Goals as goal

pub loop-i-init : goal.loop-i-init
loop-i-init c = (search (own_fields, rules), search (reached_first, rules), search (named_none, rules))

pub node_x-requires : goal.node_x-requires
node_x-requires c = search (reached_within, rules)

pub returns-then-not-is_named : goal.returns-then-not-is_named
returns-then-not-is_named c = not_all_named _ _ _ _ _ _ _ c.field_name-name.ensures.0 _ _ c.struct_first-first.ensures.0 c.requires.2 c.loop-i-test.true c.is_named.ensures c.if-not-is_named.true

pub overflow_add-at : goal.overflow_add-at
overflow_add-at c = omega (arith, reached_within _ _ _ _ _ _ c.loop-i.invariant.1 c.loop-i-test.true c.requires.3, c.requires.3.laid.nodes_most)

pub past-at-requires : goal.past-at-requires
past-at-requires c = search (reached_tree, rules)

pub loop-i-preserved : goal.loop-i-preserved
loop-i-preserved c =
    let inv = c.loop-i.invariant in
    let named = c.field_name-name.ensures.0 in
    elim c.else-node_x-name.branch [
      | else-node_x-name-via-then-node_x-name+else-not-is_named w ↦ (search rules, search (reached_next, rules), named_there _ _ _ _ _ _ _ named _ w.is_named.ensures w.if-not-is_named.false inv.2)
      | else-node_x-name-via-else-node_x-name w ↦ (search rules, search (reached_next, rules), named_here _ _ _ _ _ _ _ named _ _ inv.1 c.loop-i-test.true c.node_x.ensures.0 w.if-node_x-name.false inv.2)
    ]

pub returns : goal.returns
returns c = all_are_named _ _ _ _ _ _ _ c.struct_first-first.ensures.0 c.requires.2 (omega arith) c.loop-i-test.false c.loop-i.invariant.2
