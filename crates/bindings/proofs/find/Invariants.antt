-- `Bindings::find` meets its contract. The loop keeps: `after` stands on the name's chain, and no position above it has the name. Assumes nothing.
use Rattle.bindings.proofs.LawsBindings.{FindWalk}
use Rattle.bindings.proofs.find.Given as goal

abbrev pub invariant-loop-after : goal.invariant-loop-after
invariant-loop-after l = FindWalk l.file l.sections l.work l.chains l.name l.after

abbrev pub decreases-loop-after : goal.decreases-loop-after
decreases-loop-after l = l.after
