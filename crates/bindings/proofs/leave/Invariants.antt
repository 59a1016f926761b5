-- `leave` meets its contract. The loop keeps: the buffers hold the scope of the height `position`. Assumes nothing.
use mathlib.Core.Path.{◌≡◌}
use Prim.Native.Nat.{◌≤◌}
use lib.ListN.{length}
use Rattle.bindings.specs.Bindings.{Scoped}
use Rattle.bindings.proofs.leave.Given as goal

abbrev pub invariant-loop-position : goal.invariant-loop-position
invariant-loop-position l = (l.to ≤ l.position) × Scoped l.file l.sections l.work l.chains l.position × (length l.chains ≡ length l.fn.chains)
