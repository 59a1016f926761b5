-- `numbers::write_decimal` meets its contract. The loop keeps: the digits of the rest, put into the buffer, would make it what it is
-- to be. Assumes nothing.
use mathlib.Core.Path.{◌≡◌}
use Prim.Native.Nat.{◌+◌, ◌<◌}
use lib.ListN.{length}
use Rattle.printing.specs.Text.{decimal}
use Rattle.writing.specs.Placed.{placed}
use Rattle.printing.proofs.numbers.write_decimal.Given as goal

abbrev pub invariant-loop-rest : goal.invariant-loop-rest
invariant-loop-rest l = (l.last + 1 ≡ l.at + length (decimal l.rest)) × (l.last < length l.initial.out) × (length l.out ≡ length l.initial.out) × (placed l.out l.at (decimal l.rest) ≡ placed l.initial.out l.at (decimal l.n))

abbrev pub decreases-loop-rest : goal.decreases-loop-rest
decreases-loop-rest l = l.rest
