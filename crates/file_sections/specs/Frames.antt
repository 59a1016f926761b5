-- Frames of lists of numbers: what of a list another one keeps, and what stands in it. Assumes nothing.
use Rattle.std.specs.Prelude.{◌≡◌, List, ℕ, ◌+◌, ◌≤◌, ◌<◌, length, get_or}

-- l' is l below k
pub record Same (k : ℕ) (l l' : List ℕ) : Type 0 where
  pub at : (i : ℕ) → i < k → get_or l' i 0 ≡ get_or l i 0

-- l' is l outside the numbers from a up to b
pub record Kept (a b : ℕ) (l l' : List ℕ) : Type 0 where
  pub before : (i : ℕ) → i < a → get_or l' i 0 ≡ get_or l i 0
  pub after : (i : ℕ) → b ≤ i → get_or l' i 0 ≡ get_or l i 0

-- the numbers of l stand in R from the number i on
pub record ListAt (R : List ℕ) (i : ℕ) (l : List ℕ) : Type 0 where
  pub at : (j : ℕ) → j < length l → get_or R (i + j) 0 ≡ get_or l j 0
