-- The measures of the cycle: a multiple of the remaining nodes, and a rank for calls at the same node; what the loops of lists keep.
-- Assumes nothing.
use Rattle.std.proofs.Common.{◌≡◌, ℕ, ◌+◌, ◌*◌, ◌-◌}
use Rattle.answers.specs.declared.answer.Frame.{Frame}
use Rattle.answers.specs.declared.answer.At.{At}
use Rattle.answers.specs.Walks.{SameBuffers}
use Rattle.expressions.proofs.LawsList.{Walked}
use Rattle.expressions.proofs.LawsInits.{WalkedInits}
use Rattle.expressions.proofs.cycle.+expressions.Given as goal

-- what falls, at a rank below four
abbrev pub nodes_left : Frame → At → ℕ → ℕ
nodes_left frame at rank = (frame.file.sections.nodes - at.node) * 4 + rank

-- rank 3: lists, which ask for an expression at their node
abbrev pub decreases-inits : goal.decreases-inits
decreases-inits l = nodes_left l.frame.now l.at 3

abbrev pub decreases-list : goal.decreases-list
decreases-list l = nodes_left l.frame.now l.at 3

-- rank 2: an expression, which asks for its rule
abbrev pub decreases-expression : goal.decreases-expression
decreases-expression l = nodes_left l.frame.now l.at 2

-- rank 1: rules in two parts
abbrev pub decreases-array_with : goal.decreases-array_with
decreases-array_with l = nodes_left l.frame.now l.at 1

abbrev pub decreases-binary : goal.decreases-binary
decreases-binary l = nodes_left l.frame.now l.at 1

-- rank 0: the other rules, and the second parts
abbrev pub decreases-array_literal : goal.decreases-array_literal
decreases-array_literal l = nodes_left l.frame.now l.at 0

abbrev pub decreases-array_value : goal.decreases-array_value
decreases-array_value l = nodes_left l.frame.now l.at 0

abbrev pub decreases-call : goal.decreases-call
decreases-call l = nodes_left l.frame.now l.at 0

abbrev pub decreases-default_array : goal.decreases-default_array
decreases-default_array l = nodes_left l.frame.now l.at 0

abbrev pub decreases-equality : goal.decreases-equality
decreases-equality l = nodes_left l.frame.now l.at 0

abbrev pub decreases-field : goal.decreases-field
decreases-field l = nodes_left l.frame.now l.at 0

abbrev pub decreases-index_expression : goal.decreases-index_expression
decreases-index_expression l = nodes_left l.frame.now l.at 0

abbrev pub decreases-length_of : goal.decreases-length_of
decreases-length_of l = nodes_left l.frame.now l.at 0

abbrev pub decreases-operator : goal.decreases-operator
decreases-operator l = nodes_left l.frame.now l.at 0

abbrev pub decreases-struct_literal : goal.decreases-struct_literal
decreases-struct_literal l = nodes_left l.frame.now l.at 0

abbrev pub decreases-unary : goal.decreases-unary
decreases-unary l = nodes_left l.frame.now l.at 0

abbrev pub invariant-inits-loop-passed : goal.invariant-inits-loop-passed
invariant-inits-loop-passed l = record {
  walked : WalkedInits l.frame.file.bytes.now l.frame.file.sections l.frame.file.index.now l.frame.base l.fn.at.node l.fn.at.scope l.fn.at.pairs l.fn.walk.rows.now l.fn.walk.bindings.work.now l.count l.owner l.here.node l.here.pairs l._passed l.asked l.walk.rows.now l.walk.bindings.work.now l.walk.bindings.chains;
  level : l.here.scope ≡ l.fn.at.scope;
  same_buffers : SameBuffers l.fn.walk l.walk;
}

abbrev pub invariant-list-loop-i : goal.invariant-list-loop-i
invariant-list-loop-i l = record {
  walked : Walked l.frame.file.bytes.now l.frame.file.sections l.frame.file.index.now l.frame.base l.fn.at.node l.fn.at.scope l.fn.at.pairs l.fn.walk.rows.now l.fn.walk.bindings.work.now l.count l.expected l.here.node l.here.pairs l.i l.asked l.walk.rows.now l.walk.bindings.work.now l.walk.bindings.chains;
  level : l.here.scope ≡ l.fn.at.scope;
  same_buffers : SameBuffers l.fn.walk l.walk;
}
