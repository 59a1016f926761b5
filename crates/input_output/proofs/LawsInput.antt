-- What was read is within the buffer. Assumes nothing.
use mathlib.Core.Path.{sym}
use mathlib.Core.List.{List}
use Prim.Native.Nat.{ℕ, ◌≤◌}
use lib.ListN.{length}
use lib.Seq.{length-take-le}
use Rattle.io.specs.Counts.{IsPrefixLen}

pub within : (n : ℕ) (s : List ℕ) → n ≤ length s → IsPrefixLen n s
within n s h = (h, sym (length-take-le n s h))
