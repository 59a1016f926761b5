-- `walk::last_where` meets its contract. The loop keeps: `after` stands on the chain, and no position passed passes the test. Assumes
-- nothing.
use Rattle.type_index.proofs.LawsWalk.{OnWay}
use Rattle.type_index.proofs.walk.last_where.Given as goal

abbrev pub invariant-loop-after : goal.invariant-loop-after
invariant-loop-after g l = OnWay g.way l.after

abbrev pub decreases-loop-after : goal.decreases-loop-after
decreases-loop-after g l = l.after
