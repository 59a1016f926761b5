-- Laws of numbers in columns: how long a cell is, and blanks and cells written to a buffer. Assumes nothing.
use mathlib.Core.Path.{◌≡◌, ap, sym, ◌∙◌}
use mathlib.Core.List.{List, ◌++◌}
use Prim.Native.Nat.{ℕ, ◌+◌, ◌-◌, ◌≤◌, ◌<◌}
use native.Mathlib.Omega.{arith}
use lib.ListN.{length, set, length-append, length-replicate, replicate-append-replicate}
use Rattle.printing.specs.Text.{decimal, word}
use Rattle.writing.specs.Placed.{placed}
use Rattle.writing.proofs.LawsPlaced.{placed_none, placed_then, placed_snoc}
use Rattle.printing.proofs.LawsWritten.{word_length}
use Rattle.pages.specs.Page.{blanks, cell}

pub blanks_length : (count : ℕ) → length (blanks count) ≡ count
blanks_length count = length-replicate count 32

module _ (out₀ : List ℕ) (at : ℕ) where
  -- blanks, one by one
  pub blanks_none : out₀ ≡ placed out₀ at (blanks 0)
  blanks_none = placed_none out₀ at

  module _ (out : List ℕ) (count i : ℕ) (e : out ≡ placed out₀ at (blanks i)) where
    pub blanks_more : at + count ≤ length out₀ → i < count → set out (at + i) 32 ≡ placed out₀ at (blanks (i + 1))
    blanks_more h l =
        placed_snoc out₀ at (blanks i) e (ap (λ k. at + k) (sym (blanks_length i))) 32 (omega (arith, blanks_length i))
        ∙ ap (placed out₀ at) (replicate-append-replicate i 1 32)

    pub blanks_all : i ≤ count → count ≤ i → out ≡ placed out₀ at (blanks count)
    blanks_all h l =
        let same : i ≡ count = omega arith in
        e ∙ ap (λ k. placed out₀ at (blanks k)) same

-- a number in columns that are enough for its digits
module _ (width n last : ℕ) (fits : length (decimal n) ≤ width) where
  pub cell_length : length (cell width n last) ≡ width + 1
  unfolding cell
  cell_length = simp (length-append, blanks_length, word_length) (omega arith)

  module _ (out₀ : List ℕ) (at room digits : ℕ) (d : digits ≡ length (decimal n)) (b : room ≡ width - digits) (h : at + width < length out₀) where
    pub blanks_room : at + room ≤ length out₀
    blanks_room = omega arith

    module _ (out₁ : List ℕ) (e : out₁ ≡ placed out₀ at (blanks room)) where
      pub word_room : length out₁ ≡ length out₀ → at + room + length (word n last) ≤ length out₁
      word_room long = omega (arith, long, word_length n last)

      pub cell_done : (out₂ : List ℕ) → out₂ ≡ placed out₁ (at + room) (word n last) → out₂ ≡ placed out₀ at (cell width n last)
      unfolding cell
      cell_done out₂ f =
          let same : room ≡ width - length (decimal n) = omega arith in
          placed_then out₀ at (blanks room) e (ap (λ k. at + k) (sym (blanks_length room))) (word n last) (omega (arith, blanks_length room, word_length n last)) f
          ∙ ap (λ k. placed out₀ at (blanks k ++ word n last)) same
