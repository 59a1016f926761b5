-- Laws of numbers in decimal: the digit that comes last, induction along the digits, and how many there are. Assumes nothing.
use mathlib.Core.Path.{◌≡◌, refl, ap, ◌∙◌}
use mathlib.Core.Bool.{Bool, true, false, cond}
use mathlib.Core.List.{List, [], ◌∷◌, ◌++◌}
use Prim.Native.Nat.{ℕ, zero, suc, ◌+◌, ◌*◌, ◌/◌, ◌%◌, ◌^◌, ◌≤◌, ◌<◌}
use native.Mathlib.Nat.{not-suc-le-zero}
use native.Mathlib.Omega.{arith}
use lib.ListN.{length, length-append}
use lib.Dec.{ltb}
use borrow.Author.Tests.{ltb-true, ltb-false, lt-ltb, le-ltb}
use Rattle.printing.specs.Text.{digit, digits, decimal}

-- places beyond those that are enough change nothing
enough : (f g n : ℕ) → n < f → n < g → digits f n ≡ digits g n
unfolding digits
enough zero g n h k = absurd (not-suc-le-zero h)
enough (suc f) zero n h k = absurd (not-suc-le-zero k)
enough (suc f) (suc g) n h k = go (ltb n 10) refl (enough f g (n / 10))
  where
    go : (b : Bool) → ltb n 10 ≡ b → (n / 10 < f → n / 10 < g → digits f (n / 10) ≡ digits g (n / 10))
        → cond b (digit n ∷ []) (digits f (n / 10) ++ (digit (n % 10) ∷ [])) ≡ cond b (digit n ∷ []) (digits g (n / 10) ++ (digit (n % 10) ∷ []))
    go true e r = refl
    go false e r =
        let l = ltb-false n 10 e in
        ap (λ s. s ++ (digit (n % 10) ∷ [])) (r (omega arith) (omega arith))

pub decimal_low : (n : ℕ) → n < 10 → decimal n ≡ digit n ∷ []
unfolding decimal digits
decimal_low n h = rw (lt-ltb n 10 h)

pub decimal_high : (n : ℕ) → 10 ≤ n → decimal n ≡ decimal (n / 10) ++ (digit (n % 10) ∷ [])
unfolding decimal digits
decimal_high n h =
    rw (le-ltb n 10 h) (ap (λ s. s ++ (digit (n % 10) ∷ [])) (enough n (suc (n / 10)) (n / 10) (omega arith) (omega arith)))

-- what holds of a digit, and goes on from the digits of n / 10 to those of n, holds of every number in decimal
module _ (P : ℕ → List ℕ → Type 0) (low : (n : ℕ) → n < 10 → P n (digit n ∷ [])) (high : (n : ℕ) (s : List ℕ) → 10 ≤ n → P (n / 10) s → P n (s ++ (digit (n % 10) ∷ []))) where
  along : (f n : ℕ) → n < f → P n (digits f n)
  unfolding digits
  along zero n h = absurd (not-suc-le-zero h)
  along (suc f) n h = go (ltb n 10) refl (along f (n / 10))
    where
      go : (b : Bool) → ltb n 10 ≡ b → (n / 10 < f → P (n / 10) (digits f (n / 10))) → P n (cond b (digit n ∷ []) (digits f (n / 10) ++ (digit (n % 10) ∷ [])))
      go true e r = low n (ltb-true n 10 e)
      go false e r =
          let l = ltb-false n 10 e in
          high n (digits f (n / 10)) l (r (omega arith))

  pub by_digits : (n : ℕ) → P n (decimal n)
  unfolding decimal
  by_digits n = along (suc n) n (omega arith)

-- how many digits a number has
pub length_low : (n : ℕ) → n < 10 → length (decimal n) ≡ 1
length_low n h = ap length (decimal_low n h)

pub length_high : (n : ℕ) → 10 ≤ n → length (decimal n) ≡ length (decimal (n / 10)) + 1
length_high n h = ap length (decimal_high n h) ∙ length-append (decimal (n / 10)) (digit (n % 10) ∷ [])

pub length_some : (n : ℕ) → 1 ≤ length (decimal n)
length_some = by_digits (λ n s. 1 ≤ length s) (λ n h. omega arith) (λ n s h r. simp length-append (omega arith))

most_more : (m k : ℕ) → ((n : ℕ) → n < m → length (decimal n) ≤ k) → (n : ℕ) → n < 10 * m → length (decimal n) ≤ k + 1
most_more m k f n h = go (ltb n 10) refl
  where
    go : (b : Bool) → ltb n 10 ≡ b → length (decimal n) ≤ k + 1
    go true e = omega (arith, length_low n (ltb-true n 10 e))
    go false e = omega (arith, length_high n (ltb-false n 10 e), f (n / 10) (omega arith))

-- a number below 10 to the power of w, which is not 0, has at most w digits
pub length_within : (w n : ℕ) → n < 10 ^ suc w → length (decimal n) ≤ suc w
length_within zero n h = omega (arith, length_low n (omega arith))
length_within (suc w) n h = omega (arith, most_more (10 ^ suc w) (suc w) (length_within w) n (omega arith))

pub length_most : (n : ℕ) → n < 65536 → length (decimal n) ≤ 5
length_most n h = length_within 4 n (omega arith)

-- digits counted from the last: `count` and those of `rest` are one more than those of n
module _ (n rest count : ℕ) (k : count + length (decimal rest) ≡ length (decimal n) + 1) where
  pub count_low : n < 65536 → count ≤ 5
  count_low h = omega (arith, length_most n h, length_some rest)

  pub count_more : 10 ≤ rest → count + 1 + length (decimal (rest / 10)) ≡ length (decimal n) + 1
  count_more h = omega (arith, length_high rest h)

  pub count_all : rest < 10 → count ≡ length (decimal n)
  count_all h = omega (arith, length_low rest h)
