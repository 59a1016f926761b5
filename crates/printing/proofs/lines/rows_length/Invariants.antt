-- `lines::rows_length` meets its contract. The loop keeps: the sum is the length of the lines of the nodes passed. Assumes nothing.
use mathlib.Core.Path.{◌≡◌}
use Prim.Native.Nat.{◌*◌, ◌≤◌}
use lib.ListN.{length}
use Rattle.printing.specs.Text.{rows_text}
use Rattle.printing.proofs.lines.rows_length.Given as goal

abbrev pub invariant-loop-i : goal.invariant-loop-i
invariant-loop-i l = (l.sum ≡ length (rows_text l.rows l.i)) × (l.sum ≤ 18 * l.i)
