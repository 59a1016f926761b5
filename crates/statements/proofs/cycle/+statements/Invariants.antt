-- The measures of the cycle: a multiple of the remaining nodes, and a rank for calls at the same node; what the run over a block's
-- statements keeps. Assumes nothing.
use Rattle.std.proofs.Common.{ℕ, ◌+◌, ◌*◌, ◌-◌}
use Rattle.answers.specs.declared.answer.Frame.{Frame}
use Rattle.answers.specs.declared.answer.At.{At}
use Rattle.answers.specs.Walks.{SameBuffers}
use Rattle.statements.proofs.LawsRun.{WalkedStmts}
use Rattle.statements.proofs.cycle.+statements.Given as goal

-- what falls, at a rank below five
abbrev pub nodes_left : Frame → At → ℕ → ℕ
nodes_left frame at rank = (frame.file.sections.nodes - at.node) * 5 + rank

-- rank 3: a turn of a loop
abbrev pub decreases-turn : goal.decreases-turn
decreases-turn l = nodes_left l.frame.now l.at 3

-- rank 2: a list of statements, and a step
abbrev pub decreases-statements : goal.decreases-statements
decreases-statements l = nodes_left l.frame.now l.at 2

abbrev pub decreases-step : goal.decreases-step
decreases-step l = nodes_left l.frame.now l.at 2

-- rank 1: a statement, and the arms of a test
abbrev pub decreases-arms : goal.decreases-arms
decreases-arms l = nodes_left l.frame.now l.at 1

abbrev pub decreases-statement : goal.decreases-statement
decreases-statement l = nodes_left l.frame.now l.at 1

-- rank 0: the rules
abbrev pub decreases-block : goal.decreases-block
decreases-block l = nodes_left l.frame.now l.at 0

abbrev pub decreases-for_loop : goal.decreases-for_loop
decreases-for_loop l = nodes_left l.frame.now l.at 0

abbrev pub decreases-if_else : goal.decreases-if_else
decreases-if_else l = nodes_left l.frame.now l.at 0

abbrev pub decreases-if_null : goal.decreases-if_null
decreases-if_null l = nodes_left l.frame.now l.at 0

abbrev pub decreases-while_loop : goal.decreases-while_loop
decreases-while_loop l = nodes_left l.frame.now l.at 0

-- the run over the statements of a block
abbrev pub invariant-statements-loop-i : goal.invariant-statements-loop-i
invariant-statements-loop-i l =
    WalkedStmts l.frame.file.bytes.now l.frame.file.sections l.frame.file.index.now l.frame.base l.start l.frame.result l.fn.at.node l.fn.at.scope l.fn.at.pairs l.fn.walk.rows.now l.fn.walk.bindings.work.now l.count l.fn.parent l.here.node l.here.scope l.here.pairs l.previous l.mark l.i l.walk.rows.now l.walk.bindings.work.now l.walk.bindings.chains
    × SameBuffers l.fn.walk l.walk
