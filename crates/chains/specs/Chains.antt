-- Chains among numbers: heads of chains, one for each bucket, and a link for each position. A head and a link are one higher than the
-- position that they lead to, 0 for none. Assumes nothing.
use Rattle.std.specs.Prelude.{◌≡◌, List, ℕ, zero, suc, ◌+◌, ◌<◌, get_or, eqb}
use Rattle.oat.specs.Basics.{pick}

-- one more than the highest position below n whose bucket is h, where the position j has the bucket b j; 0 where there is none
unfoldable pub highest : (ℕ → ℕ) → ℕ → ℕ → ℕ
highest b h zero = 0
highest b h (suc j) = pick (eqb (b j) h) (suc j) (highest b h j)

-- the positions below n are chained: `count` heads stand from `heads` on, and the links from `links` on
pub record Chains (heads count links : ℕ) (b : ℕ → ℕ) (numbers : List ℕ) (n : ℕ) : Type 0 where
  pub head : (h : ℕ) → h < count → get_or numbers (heads + h) 0 ≡ highest b h n
  pub link : (j : ℕ) → j < n → get_or numbers (links + j) 0 ≡ highest b (b j) j
