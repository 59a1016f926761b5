-- `globals` meets its contract. The loop keeps: the declarations before `node` have had their steps of this group. Assumes nothing.
use Prim.Native.Nat.{◌-◌}
use Rattle.typing_rules.specs.Steps.{globals}
use Rattle.answers.specs.Walks.{SameBuffers}
use Rattle.typing.proofs.LawsGroups.{Along}
use Rattle.typing.proofs.groups.globals.Given as goal

abbrev pub invariant-loop-node : goal.invariant-loop-node
invariant-loop-node l =
    Along globals l.file.bytes.now l.file.sections l.file.index.now l.fn.context l.fn.walk.rows.now l.fn.walk.bindings.work.now l.node l.c l.walk.rows.now l.walk.bindings.work.now l.walk.bindings.chains × SameBuffers l.fn.walk l.walk

abbrev pub decreases-loop-node : goal.decreases-loop-node
decreases-loop-node l = l.file.sections.nodes - l.node
