-- Laws of the rules on fields, structs and built-ins. Assumes nothing.
use mathlib.Core.Path.{◌≡◌, refl, ap, sym, ◌∙◌, fun_ext}
use mathlib.Core.Bool.{Bool, true, false, ◌&&◌}
use Prim.Native.Nat.{ℕ, zero, suc, ◌+◌}
use native.Mathlib.Omega.{arith}
use Rattle.std.specs.List.{range_with_len, list_all}
use Rattle.std.proofs.Math.Bool.{and_assoc}
use Rattle.oat.specs.Basics.{all_below}

-- the first number apart
all_front : (n : ℕ) (p : ℕ → Bool) → all_below (suc n) p ≡ (p 0 && all_below n (λ j. p (suc j)))
unfolding all_below
all_front zero p = elim (p 0) as (λ b. (true && b) ≡ (b && true)) [ true ↦ refl | false ↦ refl ]
all_front (suc n) p = rw (all_front n p) (and_assoc (p 0) (all_below n (λ j. p (suc j))) (p (suc n)))

-- the numbers from a on, each tested
counted : (a n : ℕ) (p : ℕ → Bool) → list_all p (range_with_len a n) ≡ all_below n (λ j. p (a + j))
unfolding all_below
counted a zero p = refl
counted a (suc n) p =
    let rest : (j : ℕ) → p (a + 1 + j) ≡ p (a + suc j) = λ j. ap p (omega arith) in
    let here : p a ≡ p (a + 0) = ap p (omega arith) in
    rw (counted (a + 1) n p, fun_ext rest, here) (sym (all_front n (λ j. p (a + j))))

pub all_of_range : (n : ℕ) (p : ℕ → Bool) → list_all p (range_with_len 0 n) ≡ all_below n p
all_of_range n p = counted 0 n p ∙ ap (all_below n) (fun_ext (λ j. ap p (omega arith)))
