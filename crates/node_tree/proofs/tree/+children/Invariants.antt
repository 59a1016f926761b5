-- `tree::children` meets its contract. Each call of itself has a level less. The invariant of the loop: the children left, from the child `i` of the node
-- that the loop has come to, end where those of the first node do; less of the file is left each time. Assumes nothing.
use Prim.Native.Nat.{◌<◌, ◌≤◌, ◌-◌, ◌*◌}
use lib.ListN.{length}
use Rattle.node_tree.proofs.LawsPlaces.{SoFar}
use Rattle.node_tree.proofs.tree.+children.Given as goal

abbrev pub decreases-children : goal.decreases-children
decreases-children l = l.levels

abbrev pub invariant-loop-i : goal.invariant-loop-i
invariant-loop-i l = (l.i ≤ l.many) × (l.many < 65536) × (l.deep ≤ l.levels) × SoFar l.file l.types l.kind l.constant l.count l.first l.levels l.above l.fixed l.many l.deep l.i l.at

abbrev pub decreases-loop-i : goal.decreases-loop-i
decreases-loop-i l = length l.file - l.at * 2
