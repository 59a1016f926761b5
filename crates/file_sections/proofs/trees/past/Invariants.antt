-- `trees::past` meets its contract. The loop keeps: the trees left of the tree stand from the node come to. Assumes nothing.
use Prim.Native.Nat.{◌-◌}
use Rattle.file_sections.specs.Layout.{tables_of}
use Rattle.file_sections.proofs.LawsTrees.{Along}
use Rattle.file_sections.proofs.trees.past.Given as goal

abbrev pub invariant-loop-open : goal.invariant-loop-open
invariant-loop-open l = Along (tables_of l.file l.sections) l.node l.at l.open

abbrev pub decreases-loop-open : goal.decreases-loop-open
decreases-loop-open l = l.sections.nodes - l.at
