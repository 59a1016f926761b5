-- Texts compared byte by byte. Assumes nothing.
use mathlib.Core.Path.{◌≡◌, refl, ap, ap₂, sym, ◌∙◌}
use mathlib.Core.Bool.{true, false}
use mathlib.Core.List.{List, [], ◌∷◌, ◌++◌}
use mathlib.Core.Logic.{◌↔◌}
use Prim.Native.Nat.{ℕ, ◌+◌, ◌≤◌, ◌<◌}
use native.Mathlib.Numerals.{add-one}
use native.Mathlib.Omega.{arith}
use lib.ListN.{length, get_or, take}
use lib.Seq.{take_all, take-suc}

-- no, where being the same is absurd
never : (a b : List ℕ) → (a ≡ b → ⊥) → (false ≡ true) ↔ (a ≡ b)
never a b h = (λ e. absurd (let z : ◌≡◌ {A = ℕ} 0 1 = cc in omega arith), λ e. absurd (h e))

module _ (a b : List ℕ) where
  pub other_length : (length a ≡ length b → ⊥) → (false ≡ true) ↔ (a ≡ b)
  other_length h = never a b (λ e. h (ap length e))

  module _ (i : ℕ) where
    pub other_byte : (get_or a i 0 ≡ get_or b i 0 → ⊥) → (false ≡ true) ↔ (a ≡ b)
    other_byte h = never a b (λ e. h (ap (λ (s : List ℕ). get_or s i 0) e))

    pub same_so_far : i < length a → length a ≡ length b → take i a ≡ take i b → get_or a i 0 ≡ get_or b i 0 → take (i + 1) a ≡ take (i + 1) b
    same_so_far l e before at =
        ap (λ k. take k a) (add-one i)
        ∙ take-suc a i 0 l
        ∙ ap₂ (λ (s : List ℕ) x. s ++ (x ∷ [])) before at
        ∙ sym (take-suc b i 0 (omega (arith, l, e)))
        ∙ ap (λ k. take k b) (sym (add-one i))

    pub same_all : length a ≤ i → length a ≡ length b → take i a ≡ take i b → (true ≡ true) ↔ (a ≡ b)
    same_all l e before = (λ t. sym (take_all i a l) ∙ before ∙ take_all i b (omega (arith, l, e)), λ s. refl)
