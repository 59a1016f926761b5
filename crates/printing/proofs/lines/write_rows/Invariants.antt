-- `lines::write_rows` meets its contract. The loop keeps: the lines of the nodes passed are written. Assumes nothing.
use mathlib.Core.Path.{◌≡◌}
use Prim.Native.Nat.{◌+◌}
use lib.ListN.{length}
use Rattle.printing.specs.Text.{rows_text}
use Rattle.writing.specs.Placed.{placed}
use Rattle.printing.proofs.lines.write_rows.Given as goal

abbrev pub invariant-loop-i : goal.invariant-loop-i
invariant-loop-i l = (l.next ≡ l.at + length (rows_text l.rows l.i)) × (length l.out ≡ length l.initial.out) × (l.out ≡ placed l.initial.out l.at (rows_text l.rows l.i))
