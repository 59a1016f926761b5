-- `simple::variables` meets its contract. The loop keeps: the vars passed are accepted, and the others stand from the node come to.
use Rattle.answers.specs.Walks.{SameBuffers}
use Rattle.simple_statements.proofs.LawsForVars.{WalkedVars}
use Rattle.simple_statements.proofs.simple.variables.Given as goal

abbrev pub invariant-loop-passed : goal.invariant-loop-passed
invariant-loop-passed l =
    WalkedVars l.frame.file.bytes.now l.frame.file.sections l.frame.file.index.now l.frame.base l.start l.fn.at.node l.fn.at.scope l.fn.at.pairs l.fn.walk.rows.now l.fn.walk.bindings.work.now l.count l.here.node l.here.scope l.here.pairs l._passed l.walk.rows.now l.walk.bindings.work.now l.walk.bindings.chains
    × SameBuffers l.fn.walk l.walk
