-- The number that a word says, digit by digit. Assumes nothing.
use mathlib.Core.Path.{◌≡◌, refl, ap, sym, ◌∙◌}
use mathlib.Core.Bool.{true, false}
use mathlib.Core.List.{List, [], ◌∷◌}
use mathlib.Core.Logic.{◌⊎◌, inl, inr}
use Prim.Native.Nat.{ℕ, suc, ◌+◌, ◌≤◌, ◌<◌}
use native.Mathlib.Numerals.{add-one}
use native.Mathlib.Omega.{arith}
use lib.ListN.{length, get_or, drop, drop_of_length-le}
use lib.Seq.{drop-cons}
use borrow.Author.Tests.{le-leb, lt-leb}
use Rattle.std.specs.Prelude.{Some, None}
use Rattle.oat.specs.Basics.{pick}
use Rattle.oat_console.specs.Numbers.{is_digit, with_digit, number_after, number_in}

pub most : (n c r : ℕ) → r ≡ with_digit n c → r ≤ 65536
unfolding with_digit
most n c r e = omega (arith, e)

-- which bytes are digits
digit_low : (c : ℕ) → c < 48 → is_digit c ≡ false
unfolding is_digit
digit_low c h = rw (lt-leb 48 c h)

digit_high : (c : ℕ) → 57 < c → is_digit c ≡ false
unfolding is_digit
digit_high c h = rw (le-leb 48 c (omega arith), lt-leb c 57 h)

digit_between : (c : ℕ) → 48 ≤ c → c ≤ 57 → is_digit c ≡ true
unfolding is_digit
digit_between c h k = rw (le-leb 48 c h, le-leb c 57 k)

-- one byte after another
module _ (w : List ℕ) where
  pub no_bytes : length w ≡ 0 → None ≡ number_in w
  unfolding number_in
  no_bytes e = go w e
    where
      go : (s : List ℕ) → length s ≡ 0 → None ≡ number_in s
      go [] z = refl
      go (c ∷ s) z = absurd (omega (arith, z))

  pub first_byte : (length w ≡ 0 → ⊥) → number_after 0 (drop 0 w) ≡ number_in w
  unfolding number_in
  first_byte h = go w h
    where
      go : (s : List ℕ) → (length s ≡ 0 → ⊥) → number_after 0 (drop 0 s) ≡ number_in s
      go [] z = absurd (z refl)
      go (c ∷ s) z = refl

  module _ (i n : ℕ) (k : number_after n (drop i w) ≡ number_in w) where
    at_byte : i < length w → number_after n (drop i w) ≡ pick (is_digit (get_or w i 0)) (number_after (with_digit n (get_or w i 0)) (drop (suc i) w)) None
    unfolding number_after
    at_byte h = ap (number_after n) (drop-cons w i 0 h)

    pub no_digit : i < length w → (get_or w i 0 < 48) ⊎ (57 < get_or w i 0) → None ≡ number_in w
    no_digit h (inl l) = sym (at_byte h ∙ rw (digit_low (get_or w i 0) l)) ∙ k
    no_digit h (inr l) = sym (at_byte h ∙ rw (digit_high (get_or w i 0) l)) ∙ k

    pub next_byte : (c r : ℕ) → c ≡ get_or w i 0 → i < length w → 48 ≤ c → c ≤ 57 → r ≡ with_digit n c → number_after r (drop (i + 1) w) ≡ number_in w
    next_byte c r e h l m q =
        ap (λ x. number_after x (drop (i + 1) w)) (q ∙ ap (with_digit n) e)
        ∙ ap (λ j. number_after (with_digit n (get_or w i 0)) (drop j w)) (add-one i)
        ∙ sym (at_byte h ∙ rw (digit_between (get_or w i 0) (omega (arith, e, l)) (omega (arith, e, m))))
        ∙ k

    pub all_bytes : length w ≤ i → Some n ≡ number_in w
    unfolding number_after
    all_bytes h = sym (ap (number_after n) (drop_of_length-le w h)) ∙ k
