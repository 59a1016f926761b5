-- Counts of the numbers that pass a test: one number more, two stretches together, a count for each of several answers. Assumes nothing.
use mathlib.Core.Path.{◌≡◌, refl, ap, ap₂, sym, ◌∙◌}
use mathlib.Core.Bool.{Bool, true, false, ◌&&◌}
use Prim.Native.Nat.{ℕ, zero, suc, ◌+◌, ◌≤◌, ◌<◌}
use native.Mathlib.Nat.{add-zero}
use native.Mathlib.Omega.{arith}
use lib.Dec.{eqb}
use borrow.Author.Tests.{ne_eqb, eqb-true, eqb-false}
use Rattle.oat.specs.Basics.{pick, sum_below, tabulate}
use Rattle.oat.proofs.LawsBasics.{sum_more, sum_front}
use Rattle.tallies.specs.Tallies.{count_below, count_from, total}

-- one number more
pub count_more : (n : ℕ) (test : ℕ → Bool) → count_below (n + 1) test ≡ count_below n test + pick (test n) 1 0
unfolding count_below
count_more n test = sum_more n (λ i. pick (test i) 1 0)

-- at most all of them
pick_most : (b : Bool) → pick b 1 0 ≤ 1
pick_most true = omega arith
pick_most false = omega arith

pub most_counted : (n : ℕ) (test : ℕ → Bool) → count_below n test ≤ n
unfolding count_below sum_below
most_counted zero test = omega arith
most_counted (suc n) test = omega (arith, most_counted n test, pick_most (test n))

-- tests that say the same
pub count_alike : (n : ℕ) (p q : ℕ → Bool) → ((i : ℕ) → i < n → p i ≡ q i) → count_below n p ≡ count_below n q
unfolding count_below sum_below
count_alike zero p q f = refl
count_alike (suc n) p q f = ap₂ (λ a b. a + pick b 1 0) (count_alike n p q (λ i h. f i (omega arith))) (f n (omega arith))

pub count_none : (n : ℕ) (p : ℕ → Bool) → ((i : ℕ) → i < n → p i ≡ false) → count_below n p ≡ 0
unfolding count_below sum_below
count_none zero p f = refl
count_none (suc n) p f = omega (arith, count_none n p (λ i h. f i (omega arith)), ap {B = ℕ} (λ b. pick b 1 0) (f n (omega arith)))

-- a stretch behind another
pub count_split : (n k : ℕ) (test : ℕ → Bool) → count_below (n + k) test ≡ count_below n test + count_from n k test
unfolding count_below sum_below
count_split n zero test = ap (λ i. count_below i test) (add-zero n) ∙ sym (add-zero (count_below n test))
count_split n (suc k) test =
    let at : n + suc k ≡ n + k + 1 = omega arith in
    let next = count_more (n + k) test in
    let before = count_split n k test in
    ap (λ i. count_below i test) at ∙ (omega (arith, next, before))

pub from_split : (n j k : ℕ) (test : ℕ → Bool) → count_from n (j + k) test ≡ count_from n j test + count_from (n + j) k test
from_split n j k test = count_split j k (λ i. test (n + i)) ∙ ap (λ c. count_from n j test + c) (count_alike k (λ i. test (n + (j + i))) (λ i. test (n + j + i)) (λ i h. ap test (omega arith)))

-- sums of sums, and what a tabulated tally adds up to
sum_both : (m : ℕ) (f g : ℕ → ℕ) → sum_below m (λ t. f t + g t) ≡ sum_below m f + sum_below m g
unfolding sum_below
sum_both zero f g = refl
sum_both (suc m) f g = omega (arith, sum_both m f g)

sum_zero : (m : ℕ) (f : ℕ → ℕ) → ((t : ℕ) → t < m → f t ≡ 0) → sum_below m f ≡ 0
unfolding sum_below
sum_zero zero f h = refl
sum_zero (suc m) f h = omega (arith, sum_zero m f (λ t l. h t (omega arith)), h m (omega arith))

-- one number of those below m
sum_one : (m k : ℕ) → k < m → sum_below m (λ t. pick (eqb k t) 1 0) ≡ 1
unfolding sum_below
sum_one zero k h = absurd (omega arith)
sum_one (suc m) k h = go (eqb k m) refl (λ l. sum_one m k l)
  where
    go : (b : Bool) → eqb k m ≡ b → (k < m → sum_below m (λ t. pick (eqb k t) 1 0) ≡ 1) → sum_below m (λ t. pick (eqb k t) 1 0) + pick b 1 0 ≡ 1
    go true e f =
        let at = eqb-true k m e in
        let none = sum_zero m (λ t. pick (eqb k t) 1 0) (λ t l. rw (ne_eqb k t (λ z. omega (arith, at, z, l))) refl) in
        omega (arith, none)
    go false e f =
        let other = eqb-false k m e in
        omega (arith, f (omega (arith, other, h)))

sum_under : (m : ℕ) (b : Bool) (k : ℕ) → (b ≡ true → k < m) → sum_below m (λ t. pick (b && eqb k t) 1 0) ≡ pick b 1 0
sum_under m true k h = sum_one m k (h refl)
sum_under m false k h = sum_zero m (λ t. 0) (λ t l. refl)

-- what passes p is counted under one number, f of it: the counts add up to that of all that pass
pub sum_counts : (m n : ℕ) (p : ℕ → Bool) (f : ℕ → ℕ) → ((i : ℕ) → i < n → p i ≡ true → f i < m)
    → sum_below m (λ t. count_below n (λ i. p i && eqb (f i) t)) ≡ count_below n p
unfolding count_below sum_below
sum_counts m zero p f h = sum_zero m (λ t. 0) (λ t l. refl)
sum_counts m (suc n) p f h =
    sum_both m (λ t. sum_below n (λ i. pick (p i && eqb (f i) t) 1 0)) (λ t. pick (p n && eqb (f n) t) 1 0)
    ∙ ap₂ (λ a b. a + b) (sum_counts m n p f (λ i l. h i (omega arith))) (sum_under m (p n) (f n) (h n (omega arith)))

pub total_tabulate : (m : ℕ) (f : ℕ → ℕ) → total (tabulate m f) ≡ sum_below m f
unfolding total tabulate sum_below
total_tabulate zero f = refl
total_tabulate (suc m) f = ap (λ n. f 0 + n) (total_tabulate m (λ i. f (suc i))) ∙ sym (sum_front m f)
