-- `globals` meets its contract. The loop keeps: the declarations before `node` have had their steps of this group. Assumes nothing.
use native.Mathlib.Omega.{arith}
use borrow.Author.Rules.{rules}
use Rattle.typing.proofs.LawsRuns.{handed_up}
use Rattle.typing.proofs.LawsCounts.{globals_group}
use Rattle.typing.proofs.LawsGroups.{along_start, along_ready, along_tree, along_stop, along_next, along_falls, along_done}
use Rattle.typing.proofs.groups.globals.Goals as goal

pub loop-node-init : goal.loop-node-init
loop-node-init c = (along_start globals_group c.requires.0.held, search rules)

pub global-requires : goal.global-requires
global-requires c = (along_ready globals_group c.loop-node.invariant.0 c.requires.0 c.loop-node-test.true, search rules)

pub returns-in_err-c-clause-told : goal.returns-in_err-c-clause-told
returns-in_err-c-clause-told c = along_stop globals_group c.loop-node.invariant.0 c.requires.0 c.loop-node-test.true c.global.ensures.told (handed_up c.in_err-c.was c.from_residual.ensures.1)

pub past-node-requires : goal.past-node-requires
past-node-requires c = along_tree globals_group c.loop-node.invariant.0 c.requires.0 c.loop-node-test.true

pub loop-node-smaller : goal.loop-node-smaller
loop-node-smaller c = omega (arith, along_falls globals_group c.loop-node.invariant.0 c.requires.0 c.loop-node-test.true c.past-node.ensures, c.loop-node-test.true)

pub loop-node-preserved : goal.loop-node-preserved
loop-node-preserved c = (
  along_next globals_group c.loop-node.invariant.0 c.requires.0 c.loop-node-test.true c.past-node.ensures c.global.ensures.told c.in_ok-c.was,
  search rules,
)

pub returns-clause-told : goal.returns-clause-told
returns-clause-told c = along_done globals_group c.loop-node.invariant.0 c.loop-node-test.false
