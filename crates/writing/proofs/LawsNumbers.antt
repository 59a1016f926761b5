-- A number of 16 bits in a buffer. Assumes nothing.
use mathlib.Core.Path.{◌≡◌}
use mathlib.Core.List.{List, [], ◌∷◌}
use Prim.Native.Nat.{ℕ, ◌+◌, ◌/◌, ◌%◌, ◌≤◌}
use native.Mathlib.Omega.{arith}
use lib.ListN.{length, set}
use Rattle.oat.specs.Tables.{bytes_of}
use Rattle.writing.specs.Placed.{placed}
use Rattle.writing.proofs.LawsPlaced.{placed_one, placed_snoc}

pub number_placed : (out : List ℕ) (at n : ℕ) → at + 2 ≤ length out → set (set out at (n % 256)) (at + 1) (n / 256) ≡ placed out at (bytes_of (n ∷ []))
unfolding bytes_of
number_placed out at n h = placed_snoc out at (n % 256 ∷ []) (placed_one out at (n % 256) (omega arith)) (omega arith) (n / 256) (omega arith)
