-- `walk::tally_tree` meets its contract. The loop keeps: the trees left of the tree stand from the node come to, the expressions before it are
-- counted under their types, and so are those of the tree. Assumes nothing.
use mathlib.Core.Path.{◌≡◌}
use Prim.Native.Nat.{◌-◌}
use lib.ListN.{length}
use Rattle.file_sections.specs.Layout.{tables_of}
use Rattle.file_sections.proofs.LawsTrees.{Along}
use Rattle.tallies.proofs.LawsWalk.{CountsAlong}
use Rattle.tallies.proofs.walk.tally_tree.Given as goal

abbrev pub invariant-loop-open : goal.invariant-loop-open
invariant-loop-open l =
    Along (tables_of l.file l.sections) l.node l.at l.«open» × CountsAlong (tables_of l.file l.sections) l.rows l.node l.at l.expressions l.types × (length l.types ≡ length l.initial.types)

abbrev pub decreases-loop-open : goal.decreases-loop-open
decreases-loop-open l = l.sections.nodes - l.at
