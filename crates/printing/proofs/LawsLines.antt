-- Laws of a line: its length, and its words written to a buffer, one after another. Assumes nothing.
use mathlib.Core.Path.{◌≡◌, ap, ◌∙◌}
use mathlib.Core.List.{List, ◌++◌}
use Prim.Native.Nat.{ℕ, ◌+◌, ◌≤◌}
use native.Mathlib.Omega.{arith}
use lib.ListN.{length, length-append}
use Rattle.printing.specs.Text.{decimal, word, line}
use Rattle.writing.specs.Placed.{placed}
use Rattle.writing.proofs.LawsPlaced.{placed_then, placed_length}
use Rattle.printing.proofs.LawsWritten.{word_length}

module _ (a b c : ℕ) where
  line_words : length (line a b c) ≡ length (word a 32) + length (word b 32) + length (word c 10)
  unfolding line
  line_words = simp length-append

  pub line_long : (x y z : ℕ) → x ≡ length (decimal a) → y ≡ length (decimal b) → z ≡ length (decimal c) → x + y + z + 3 ≡ length (line a b c)
  line_long x y z e f g = omega (arith, line_words, word_length a 32, word_length b 32, word_length c 10)

  -- its words, one after another
  module _ (out₀ : List ℕ) (at : ℕ) (room : at + length (line a b c) ≤ length out₀) where
    pub first_room : at + length (word a 32) ≤ length out₀
    first_room = omega (arith, line_words)

    module _ (out₁ : List ℕ) (second : ℕ) (e : second ≡ at + length (word a 32)) (f : out₁ ≡ placed out₀ at (word a 32)) where
      first_long : length out₁ ≡ length out₀
      first_long = ap length f ∙ placed_length out₀ at (word a 32) first_room

      pub second_room : second + length (word b 32) ≤ length out₁
      second_room = omega (arith, line_words, first_long)

      module _ (out₂ : List ℕ) (third : ℕ) (g : third ≡ second + length (word b 32)) (h : out₂ ≡ placed out₁ second (word b 32)) where
        second_long : length out₂ ≡ length out₁
        second_long = ap length h ∙ placed_length out₁ second (word b 32) second_room

        pub third_room : (last : ℕ) → third + length (word c last) ≤ length out₂
        third_room last = omega (arith, line_words, word_length c 10, word_length c last, first_long, second_long)

        pub line_end : (last next : ℕ) → next ≡ third + length (word c last) → next ≡ at + length (line a b c)
        line_end last next k = omega (arith, line_words, word_length c 10, word_length c last)

        two_words : out₂ ≡ placed out₀ at (word a 32 ++ word b 32)
        two_words = placed_then out₀ at (word a 32) f e (word b 32) (omega (arith, line_words)) h

        pub line_done : (out₃ : List ℕ) → out₃ ≡ placed out₂ third (word c 10) → out₃ ≡ placed out₀ at (line a b c)
        unfolding line
        line_done out₃ k =
            let both = length-append (word a 32) (word b 32) in
            placed_then out₀ at (word a 32 ++ word b 32) two_words (omega (arith, both)) (word c 10) (omega (arith, both, length-append (word a 32 ++ word b 32) (word c 10))) k
