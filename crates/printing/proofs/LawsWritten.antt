-- Laws of a number written to a buffer: its digits, the last one first, and the byte after it. Assumes nothing.
use mathlib.Core.Path.{◌≡◌, ap, sym, subst, ◌∙◌}
use mathlib.Core.List.{List, [], ◌∷◌}
use Prim.Native.Nat.{ℕ, ◌+◌, ◌-◌, ◌/◌, ◌%◌, ◌≤◌, ◌<◌}
use native.Mathlib.Omega.{arith}
use lib.ListN.{length, set, length-append}
use Rattle.printing.specs.Text.{decimal, word}
use Rattle.writing.specs.Placed.{placed}
use Rattle.printing.proofs.LawsDecimal.{decimal_low, decimal_high, length_low, length_high, length_some}
use Rattle.writing.proofs.LawsPlaced.{placed_one, placed_last, placed_snoc}

-- where the first digits written stand, before any is
pub end_some : (at n count : ℕ) → count ≡ length (decimal n) → 1 ≤ at + count
end_some at n count e = omega (arith, length_some n)

pub end_last : (at n count : ℕ) → count ≡ length (decimal n) → at + count - 1 + 1 ≡ at + length (decimal n)
end_last at n count e = omega (arith, length_some n)

pub end_low : (at n count long : ℕ) → count ≡ length (decimal n) → at + length (decimal n) ≤ long → at + count - 1 < long
end_low at n count long e h = omega (arith, length_some n)

-- the digits of `rest` are still to be written, the last of them at `last`
module _ (at rest last : ℕ) (k : last + 1 ≡ at + length (decimal rest)) where
  pub last_some : 10 ≤ rest → 1 ≤ last
  last_some h = omega (arith, length_high rest h, length_some (rest / 10))

  pub last_next : 10 ≤ rest → last - 1 + 1 ≡ at + length (decimal (rest / 10))
  last_next h = omega (arith, length_high rest h, length_some (rest / 10))

  module _ (out : List ℕ) (h : last < length out) where
    digit_next : 10 ≤ rest → placed (set out last (48 + rest % 10)) at (decimal (rest / 10)) ≡ placed out at (decimal rest)
    digit_next l =
        let e : last ≡ at + length (decimal (rest / 10)) = omega (arith, length_high rest l) in
        ap (λ i. placed (set out i (48 + rest % 10)) at (decimal (rest / 10))) e
        ∙ placed_last out at (decimal (rest / 10)) (48 + rest % 10) (subst (λ i. i < length out) e h)
        ∙ ap (placed out at) (sym (decimal_high rest l))

    digit_first : rest < 10 → set out last (48 + rest) ≡ placed out at (decimal rest)
    digit_first l =
        let e : last ≡ at = omega (arith, length_low rest l) in
        ap (λ i. set out i (48 + rest)) e ∙ placed_one out at (48 + rest) (subst (λ i. i < length out) e h) ∙ ap (placed out at) (sym (decimal_low rest l))

-- a turn of the loop, and the last store
module _ (out₀ out : List ℕ) (at n rest last : ℕ) (k : last + 1 ≡ at + length (decimal rest)) (h : last < length out₀) (long : length out ≡ length out₀) (kept : placed out at (decimal rest) ≡ placed out₀ at (decimal n)) where
  pub digits_next : 10 ≤ rest → placed (set out last (48 + rest % 10)) at (decimal (rest / 10)) ≡ placed out₀ at (decimal n)
  digits_next l = digit_next at rest last k out (omega arith) l ∙ kept

  pub digits_done : rest < 10 → set out last (48 + rest) ≡ placed out₀ at (decimal n)
  digits_done l = digit_first at rest last k out (omega arith) l ∙ kept

-- the byte after a number
module _ (n last : ℕ) where
  pub word_length : length (word n last) ≡ length (decimal n) + 1
  unfolding word
  word_length = length-append (decimal n) (last ∷ [])

  pub word_long : (at next : ℕ) → next ≡ at + length (decimal n) → next + 1 ≡ at + length (word n last)
  word_long at next e = omega (arith, word_length)

  pub word_room : (at long : ℕ) → at + length (word n last) ≤ long → at + length (decimal n) ≤ long
  word_room at long h = omega (arith, word_length)

  pub word_next : (out₀ out : List ℕ) (at next : ℕ) → at + length (word n last) ≤ length out₀ → length out ≡ length out₀ → next ≡ at + length (decimal n) → next < length out
  word_next out₀ out at next h l e = omega (arith, word_length)

  pub word_done : (out₀ out : List ℕ) (at next : ℕ) → at + length (word n last) ≤ length out₀ → next ≡ at + length (decimal n) → out ≡ placed out₀ at (decimal n) → set out next last ≡ placed out₀ at (word n last)
  unfolding word
  word_done out₀ out at next h e f = placed_snoc out₀ at (decimal n) f e last (omega (arith, length-append (decimal n) (last ∷ [])))
