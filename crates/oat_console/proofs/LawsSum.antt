-- A tally added up by the library's sum, and number by number. Assumes nothing.
use mathlib.Core.Path.{◌≡◌, refl, ap, ap₂, sym, ◌∙◌}
use mathlib.Core.List.{List, [], ◌∷◌}
use Prim.Native.Nat.{ℕ, zero, suc, ◌+◌, ◌<◌}
use native.Mathlib.Numerals.{add-one}
use native.Mathlib.Omega.{arith}
use lib.ListN.{length, get_or, take}
use Rattle.std.specs.List.{sum}
use Rattle.std.proofs.lemmas.List.Sums.{sum_by-cons}
use Rattle.tallies.specs.Tallies.{total}

pub total_sum : (s : List ℕ) → sum s ≡ total s
unfolding total
total_sum [] = refl
total_sum (x ∷ s) = sum_by-cons (λ n. n) x s ∙ ap (λ n. x + n) (total_sum s)

one_more : (s : List ℕ) (i : ℕ) → i < length s → total (take (suc i) s) ≡ total (take i s) + get_or s i 0
unfolding total
one_more [] i h = absurd (omega (arith, h))
one_more (x ∷ s) zero h = omega arith
one_more (x ∷ s) (suc i) h = let e = one_more s i (omega (arith, h)) in omega (arith, e)

pub sum_more : (s : List ℕ) (i n x : ℕ) → i < length s → n ≡ total (take i s) → x ≡ get_or s i 0 → n + x ≡ total (take (i + 1) s)
sum_more s i n x l e is = ap₂ (λ a b. a + b) e is ∙ sym (one_more s i l) ∙ ap (λ k. total (take k s)) (sym (add-one i))
