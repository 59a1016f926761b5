-- `headings` meets its contract. The loop keeps: the declarations before `node` have had their headings' steps. Assumes nothing.
use mathlib.Core.Path.{refl}
use borrow.Author.Rules.{rules}
use Rattle.typing.proofs.LawsRuns.{handed_up}
use Rattle.typing.proofs.LawsHeadings.{headings_start, headings_ready, headings_tree, headings_stop, headings_next, headings_falls, headings_done}
use Rattle.typing.proofs.groups.headings.Goals as goal

pub loop-node-init : goal.loop-node-init
loop-node-init c = (search (headings_start, rules), (refl, refl))

pub heading-requires : goal.heading-requires
heading-requires c = search (headings_ready, rules)

pub returns-in_err-c-clause-told : goal.returns-in_err-c-clause-told
returns-in_err-c-clause-told c = headings_stop c.requires c.loop-node.invariant.0 c.loop-node-test.true c.heading.ensures.told (handed_up c.in_err-c.was c.from_residual.ensures.1)

pub past-node-requires : goal.past-node-requires
past-node-requires c = search (headings_tree, rules)

pub loop-node-smaller : goal.loop-node-smaller
loop-node-smaller c = search (headings_falls, rules)

pub loop-node-preserved : goal.loop-node-preserved
loop-node-preserved c = (headings_next c.requires c.loop-node.invariant.0 c.loop-node-test.true c.past-node.ensures c.heading.ensures.told c.in_ok-c.was, search rules)

pub returns-clause-told : goal.returns-clause-told
returns-clause-told c = search (headings_done, rules)
