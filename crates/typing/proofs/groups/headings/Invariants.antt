-- `headings` meets its contract. The loop keeps: the declarations before `node` have had their headings' steps. Assumes nothing.
use Prim.Native.Nat.{◌-◌}
use Rattle.bindings.specs.Buffers.{SameWork}
use Rattle.typing.proofs.LawsHeadings.{HeadingsAlong}
use Rattle.typing.proofs.groups.headings.Given as goal

abbrev pub invariant-loop-node : goal.invariant-loop-node
invariant-loop-node l =
    HeadingsAlong l.file.bytes.now l.file.sections l.file.index.now l.fn.context l.fn.bindings.work.now l.node l.c l.bindings.work.now l.bindings.chains × SameWork l.fn.bindings l.bindings

abbrev pub decreases-loop-node : goal.decreases-loop-node
decreases-loop-node l = l.file.sections.nodes - l.node
