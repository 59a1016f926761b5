-- The text is what is meant by it: the digits of a number, read back, give the number; each is a digit's byte; and none in front is
-- a zero, but for 0 itself. A text of three lines, byte by byte. Assumes nothing.
use mathlib.Core.Path.{◌≡◌, refl, sym, subst, ◌∙◌}
use mathlib.Core.List.{List, [], ◌∷◌, ◌++◌}
use mathlib.Core.Logic.{⊎_elim}
use Prim.Native.Nat.{ℕ, ◌+◌, ◌*◌, ◌-◌, ◌%◌, ◌≤◌, ◌<◌}
use native.Mathlib.Nat.{eq-or-lt_of_le}
use native.Mathlib.Omega.{arith}
use lib.ListN.{length, get_or, length-append, get_or-append}
use lib.Seq.{get_or_at}
use Rattle.printing.specs.Text.{digit, digits, decimal, word, line, rows_text, listed, text_of}
use Rattle.printing.specs.Digits.{Digit, value_from, value}
use Rattle.printing.proofs.LawsDecimal.{by_digits}

value_last : (v : ℕ) (s : List ℕ) (c : ℕ) → value_from v (s ++ (c ∷ [])) ≡ 10 * value_from v s + (c - 48)
unfolding value_from
value_last v [] c = refl
value_last v (x ∷ s) c = value_last (10 * v + (x - 48)) s c

pub value_decimal : (n : ℕ) → value (decimal n) ≡ n
unfolding value_from
value_decimal = by_digits (λ n s. value s ≡ n) (λ n h. omega arith) (λ n s h r. omega (arith, value_last 0 s (digit (n % 10))))

-- a zero in front is the number 0
pub zero_in_front : (n : ℕ) → get_or (decimal n) 0 0 ≡ 48 → n ≡ 0
zero_in_front n =
    (by_digits
    (λ m s. (1 ≤ length s) × (get_or s 0 0 ≡ 48 → m ≡ 0))
    (λ m h. (omega arith, λ e. omega arith))
    (λ m s h r. (simp length-append (omega arith), λ e. absurd (omega (arith, r.1 (sym (get_or-append s (digit (m % 10) ∷ []) 0 0 r.0) ∙ e)))))
    n
    ).1

pub digit_each : (n i : ℕ) → i < length (decimal n) → Digit (get_or (decimal n) i 0)
digit_each =
    by_digits
    (λ n s. (i : ℕ) → i < length s → Digit (get_or s i 0))
    (λ n h i l. subst (λ j. Digit (get_or (digit n ∷ []) j 0)) (first i l) (record { low = omega arith; high = omega arith }))
    (λ n s h r i l. after s (n % 10) (omega arith) r i l)
  where
    first : (i : ℕ) → i < 1 → 0 ≡ i
    first i l = omega arith

    after : (s : List ℕ) (d : ℕ) → d < 10 → ((i : ℕ) → i < length s → Digit (get_or s i 0)) → (i : ℕ) → i < length (s ++ (digit d ∷ [])) → Digit (get_or (s ++ (digit d ∷ [])) i 0)
    after s d h r i l =
        ⊎_elim
        (λ e. subst Digit (sym (get_or_at s (digit d) [] 0 i (sym e))) (record { low = omega arith; high = omega arith }))
        (λ k. subst Digit (sym (get_or-append s (digit d ∷ []) 0 i k)) (r i k))
        (eq-or-lt_of_le (omega (arith, length-append s (digit d ∷ []))))

-- two nodes of an accepted program: `0 1 0`, `0 1 65535`, `1 1 65535`
pub two_nodes : text_of 0 1 0 (1 ∷ 65535 ∷ 1 ∷ 65535 ∷ []) 2
    ≡ 48 ∷ 32 ∷ 49 ∷ 32 ∷ 48 ∷ 10
    ∷ 48 ∷ 32 ∷ 49 ∷ 32 ∷ 54 ∷ 53 ∷ 53 ∷ 51 ∷ 53 ∷ 10
    ∷ 49 ∷ 32 ∷ 49 ∷ 32 ∷ 54 ∷ 53 ∷ 53 ∷ 51 ∷ 53 ∷ 10 ∷ []
unfolding text_of listed rows_text line word decimal digits
two_nodes = refl

-- a refused program: `23 4 105`
pub refused : text_of 23 4 105 (1 ∷ 65535 ∷ []) 1 ≡ 50 ∷ 51 ∷ 32 ∷ 52 ∷ 32 ∷ 49 ∷ 48 ∷ 53 ∷ 10 ∷ []
unfolding text_of listed rows_text line word decimal digits
refused = refl
