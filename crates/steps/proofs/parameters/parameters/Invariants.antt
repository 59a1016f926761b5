-- `parameters::parameters` meets its contract. Assumes nothing.
use Rattle.answers.specs.Walks.{SameBuffers}
use Rattle.steps.proofs.LawsParameters.{Walked}
use Rattle.steps.proofs.parameters.parameters.Given as goal

abbrev pub invariant-loop-i : goal.invariant-loop-i
invariant-loop-i l =
    Walked l.file.bytes.now l.file.sections l.file.index.now l.base l.node l.first l.count l.i l.fn.walk.rows.now l.fn.walk.bindings.work.now l.walk.rows.now l.walk.bindings.work.now l.walk.bindings.chains × SameBuffers l.fn.walk l.walk
