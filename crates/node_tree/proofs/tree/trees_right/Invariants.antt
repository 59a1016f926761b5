-- `tree::trees_right` meets its contract. The declarations from the place `at` on decide, and less of the file is left. Assumes nothing.
use Prim.Native.Nat.{◌-◌, ◌*◌}
use lib.ListN.{length}
use Rattle.node_tree.proofs.LawsPlaces.{LeftAt}
use Rattle.node_tree.proofs.tree.trees_right.Given as goal

abbrev pub invariant-loop-at : goal.invariant-loop-at
invariant-loop-at l = LeftAt l.depth l.file l.sections l.at

abbrev pub decreases-loop-at : goal.decreases-loop-at
decreases-loop-at l = length l.file - l.at * 2
