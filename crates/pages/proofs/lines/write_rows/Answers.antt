-- `lines::write_rows` meets its contract. The loop keeps: the lines of the nodes passed are written. Assumes nothing.
use mathlib.Core.Path.{refl}
use native.Mathlib.Omega.{arith}
use borrow.Author.Rules.{rules}
use Rattle.pages.proofs.LawsLines.{rows_fit, lines_none, lines_more, lines_all}
use Rattle.pages.proofs.lines.write_rows.Goals as goal

pub loop-i-init : goal.loop-i-init
loop-i-init c = (refl, search (lines_none, rules))

pub node_kind-kind-requires : goal.node_kind-kind-requires
node_kind-kind-requires c =
    record { laid = c.requires.0.laid; within = c.loop-i-test.true }

pub write_row-requires : goal.write_row-requires
write_row-requires c =
    let ready = c.requires.0 in
    (omega (arith, c.loop-i-test.true, ready.laid.nodes_most), omega (arith, c.node_kind-kind.ensures.0, ready.kinds _ c.loop-i-test.true), omega (arith, c.loop-i-test.true, c.requires.1, c.loop-i.invariant.0))

pub loop-i-preserved : goal.loop-i-preserved
loop-i-preserved c =
    let fit = rows_fit c.requires.0 c.type_inv.rows in
    (search rules, lines_more fit _ _ _ _ _ _ _ c.loop-i-test.true c.requires.1 c.loop-i.invariant.1 c.node_kind-kind.ensures.0 c.result_at.ensures c.binder_at.ensures c.write_row.ensures)

pub returns : goal.returns
returns c = search (lines_all, rules)
