-- The last position of a chain at which a test passes. Assumes nothing.
use Rattle.std.specs.Prelude.{◌≡◌, Bool, true, false, List, ℕ, ◌+◌, ◌≤◌, ◌<◌, length}
use Rattle.chains.specs.Chains.{Chains}

-- what a walk goes by: the positions below `count`, the bucket of each, the bucket of its chain, and the test
pub record Way : Type 0 where
  pub count : ℕ
  pub bucket : ℕ → ℕ
  pub own : ℕ
  pub passes : ℕ → Bool

-- the positions are chained, `head` is the head of the walk's chain, and the test passes at no position of another chain
pub record Leads (numbers : List ℕ) (head links : ℕ) (way : Way) : Type 0 where
  pub heads : ℕ
  pub buckets : ℕ
  pub low : way.own < buckets
  pub place : head ≡ heads + way.own
  pub chains : Chains heads buckets links way.bucket numbers way.count
  pub inside : (k : ℕ) → k < way.count → way.passes k ≡ true → way.bucket k ≡ way.own
  pub there : head < length numbers
  pub room : links + way.count ≤ length numbers

-- no position passes
abbrev pub NonePasses : Way → Type 0
NonePasses way = (k : ℕ) → k < way.count → way.passes k ≡ false

-- the position j passes, and none after it does
pub record LastPasses (way : Way) (j : ℕ) : Type 0 where
  pub below : j < way.count
  pub passes : way.passes j ≡ true
  pub last : (k : ℕ) → j < k → k < way.count → way.passes k ≡ false
