-- Laws of the tests, sums and lists over the numbers below a bound. Assumes nothing.
use mathlib.Core.Path.{◌≡◌, refl, ap, subst}
use mathlib.Core.Bool.{Bool, true, false, ◌&&◌, ◌||◌}
use Prim.Native.Nat.{ℕ, zero, suc, ◌+◌, ◌<◌}
use native.Mathlib.Numerals.{add-one}
use native.Mathlib.Omega.{arith}
use native.Mathlib.Nat.{not-suc-le-zero, le_of_suc-le-suc}
use lib.ListN.{length, get_or}
use lib.Dec.{ltb}
use borrow.Author.Tests.{ltb-true, ltb-false}
use Rattle.oat.specs.Basics.{all_below, sum_below, tabulate}

-- a conjunction and its parts
pub and_parts : (a b : Bool) → (a && b) ≡ true → (a ≡ true) × (b ≡ true)
and_parts true b e = (refl, e)
and_parts false b e = absurd (let z : ◌≡◌ {A = ℕ} 0 1 = cc in omega arith)

pub and_left : (a b : Bool) → a ≡ false → (a && b) ≡ false
and_left a b e = rw e

pub and_right : (a b : Bool) → b ≡ false → (a && b) ≡ false
and_right true b e = e
and_right false b e = refl

pub and_both : (a b : Bool) → a ≡ true → b ≡ true → (a && b) ≡ true
and_both a b e f = rw (e, f)

-- a choice
pub either : {X : Type 0} (a b : Bool) → (a || b) ≡ true → (a ≡ true → X) → (b ≡ true → X) → X
either true b e f g = f refl
either false b e f g = g e

pub tabulate_long : {A : Type 0} (n : ℕ) (f : ℕ → A) → length (tabulate n f) ≡ n
unfolding tabulate
tabulate_long zero f = refl
tabulate_long (suc n) f = ap suc (tabulate_long n (λ i. f (suc i)))

pub tabulate_at : {A : Type 0} (n : ℕ) (f : ℕ → A) (i : ℕ) (d : A) → i < n → get_or (tabulate n f) i d ≡ f i
unfolding tabulate
tabulate_at zero f i d h = absurd (not-suc-le-zero h)
tabulate_at (suc n) f zero d h = refl
tabulate_at (suc n) f (suc i) d h = tabulate_at n (λ j. f (suc j)) i d (le_of_suc-le-suc h)

-- one number more
pub sum_more : (n : ℕ) (f : ℕ → ℕ) → sum_below (n + 1) f ≡ sum_below n f + f n
unfolding sum_below
sum_more n f = rw add-one

-- the first number apart
pub sum_front : (n : ℕ) (f : ℕ → ℕ) → sum_below (suc n) f ≡ f 0 + sum_below n (λ j. f (suc j))
unfolding sum_below
sum_front zero f = omega arith
sum_front (suc n) f = omega (arith, sum_front n f)

-- one test more
pub all_more : (n : ℕ) (p : ℕ → Bool) → all_below n p ≡ true → p n ≡ true → all_below (n + 1) p ≡ true
unfolding all_below
all_more n p a b = rw (add-one, a, b)

-- below n or n itself
pub below_or_last : (P : ℕ → Type 0) (n i : ℕ) → i < suc n → (i < n → P i) → P n → P i
below_or_last P n i h f l = go (ltb i n) refl
  where
    go : (b : Bool) → ltb i n ≡ b → P i
    go true e = f (ltb-true i n e)
    go false e =
        let same : n ≡ i = omega (arith, ltb-false i n e) in
        subst P same l

-- each one passes
pub all_at : (n : ℕ) (p : ℕ → Bool) → all_below n p ≡ true → (i : ℕ) → i < n → p i ≡ true
unfolding all_below
all_at zero p a i h = absurd (not-suc-le-zero h)
all_at (suc n) p a i h =
    let (front, last) = and_parts (all_below n p) (p n) a in
    below_or_last (λ j. p j ≡ true) n i h (λ l. all_at n p front i l) last

-- all that pass make the whole pass
pub all_true : (n : ℕ) (p : ℕ → Bool) → ((i : ℕ) → i < n → p i ≡ true) → all_below n p ≡ true
unfolding all_below
all_true zero p f = refl
all_true (suc n) p f = and_both (all_below n p) (p n) (all_true n p (λ i h. f i (omega arith))) (f n (omega arith))

-- one that fails makes the whole fail
pub all_false : (n : ℕ) (p : ℕ → Bool) (i : ℕ) → i < n → p i ≡ false → all_below n p ≡ false
all_false n p i h e = go (all_below n p) refl
  where
    go : (b : Bool) → all_below n p ≡ b → b ≡ false
    go true a = let z = all_at n p a i h in cc
    go false a = refl
