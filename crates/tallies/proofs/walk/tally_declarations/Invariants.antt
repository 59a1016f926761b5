-- `walk::tally_declarations` meets its contract. The loop keeps: the declarations before `node` are counted. Assumes nothing.
use mathlib.Core.Path.{◌≡◌}
use Prim.Native.Nat.{◌-◌}
use lib.ListN.{length}
use Rattle.tallies.proofs.LawsWalk.{TallyAlong}
use Rattle.tallies.proofs.walk.tally_declarations.Given as goal

abbrev pub invariant-loop-node : goal.invariant-loop-node
invariant-loop-node l =
    TallyAlong l.file l.sections l.rows l.node l.count l.types l.declarations × (length l.types ≡ length l.initial.types) × (length l.declarations ≡ length l.initial.declarations)

abbrev pub decreases-loop-node : goal.decreases-loop-node
decreases-loop-node l = l.sections.nodes - l.node
