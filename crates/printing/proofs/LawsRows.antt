-- Laws of the lines of the nodes: their length, and the lines written to a buffer, node by node. Assumes nothing.
use mathlib.Core.Path.{◌≡◌, refl, ap, sym, subst, ◌∙◌}
use mathlib.Core.List.{List, [], ◌++◌}
use mathlib.Core.Logic.{⊎_elim}
use Prim.Native.Nat.{ℕ, zero, suc, ◌+◌, ◌*◌, ◌≤◌, ◌<◌}
use native.Mathlib.Nat.{not-suc-le-zero, eq-or-lt_of_le, le_of_suc-le-suc}
use native.Mathlib.Numerals.{add-one}
use native.Mathlib.Omega.{arith}
use lib.ListN.{length, get_or, length-append}
use Rattle.printing.specs.Text.{line, rows_text}
use Rattle.writing.specs.Placed.{placed}
use Rattle.writing.proofs.LawsPlaced.{placed_none, placed_then}

module _ (rows : List ℕ) where
  rows_none : rows_text rows 0 ≡ []
  unfolding rows_text
  rows_none = refl

  -- before the first line
  pub sum_none : 0 ≡ length (rows_text rows 0)
  sum_none = sym (ap length rows_none)

  pub next_none : (at : ℕ) → at ≡ at + length (rows_text rows 0)
  next_none at = omega (arith, sum_none)

  pub rows_start : (out : List ℕ) (at : ℕ) → out ≡ placed out at (rows_text rows 0)
  rows_start out at = placed_none out at ∙ ap (placed out at) (sym rows_none)

  -- the line of the node i, whose row is x and y
  module _ (i x y : ℕ) (ex : x ≡ get_or rows (2 * i) 0) (ey : y ≡ get_or rows (2 * i + 1) 0) where
    rows_next : rows_text rows (i + 1) ≡ rows_text rows i ++ line i x y
    unfolding rows_text
    rows_next = rw (add-one i, ex, ey)

    next_long : length (rows_text rows (i + 1)) ≡ length (rows_text rows i) + length (line i x y)
    next_long = ap length rows_next ∙ length-append (rows_text rows i) (line i x y)

    pub sum_more : (sum r : ℕ) → sum ≡ length (rows_text rows i) → r ≡ length (line i x y) → sum + r ≡ length (rows_text rows (i + 1))
    sum_more sum r e f = omega (arith, next_long)

    pub next_more : (at next r : ℕ) → next ≡ at + length (rows_text rows i) → r ≡ next + length (line i x y) → r ≡ at + length (rows_text rows (i + 1))
    next_more at next r e f = omega (arith, next_long)

  -- the lines up to a node's are no longer than all
  up_to : (n i : ℕ) → i < n → length (rows_text rows (i + 1)) ≤ length (rows_text rows n)
  up_to zero i h = absurd (not-suc-le-zero h)
  up_to (suc n) i h =
      let more = next_long n (get_or rows (2 * n) 0) (get_or rows (2 * n + 1) 0) refl refl in
      ⊎_elim
      (λ e. subst (λ m. length (rows_text rows (i + 1)) ≤ length (rows_text rows m)) (ap (λ m. m + 1) e ∙ add-one n) (omega arith))
      (λ l. subst (λ m. length (rows_text rows (i + 1)) ≤ length (rows_text rows m)) (add-one n) (omega (arith, up_to n i l)))
      (eq-or-lt_of_le (le_of_suc-le-suc h))

  -- one line more in the buffer
  module _ (i x y : ℕ) (ex : x ≡ get_or rows (2 * i) 0) (ey : y ≡ get_or rows (2 * i + 1) 0) (out₀ : List ℕ) (at nodes next : ℕ) (room : at + length (rows_text rows nodes) ≤ length out₀) (h : i < nodes) (e : next ≡ at + length (rows_text rows i)) where
    pub rows_room : (out : List ℕ) → length out ≡ length out₀ → next + length (line i x y) ≤ length out
    rows_room out l = omega (arith, next_long i x y ex ey, up_to nodes i h)

    pub rows_more : (out out₁ : List ℕ) → out ≡ placed out₀ at (rows_text rows i) → out₁ ≡ placed out next (line i x y) → out₁ ≡ placed out₀ at (rows_text rows (i + 1))
    rows_more out out₁ f g =
        placed_then out₀ at (rows_text rows i) f e (line i x y) (omega (arith, next_long i x y ex ey, up_to nodes i h)) g
        ∙ ap (placed out₀ at) (sym (rows_next i x y ex ey))

  -- after the last line
  module _ (i nodes : ℕ) (h : i ≤ nodes) (k : nodes ≤ i) where
    same : i ≡ nodes
    same = omega arith

    pub sum_all : (sum : ℕ) → sum ≡ length (rows_text rows i) → sum ≡ length (rows_text rows nodes)
    sum_all sum e = e ∙ ap (λ n. length (rows_text rows n)) same

    pub rows_done : (out₀ out : List ℕ) (at : ℕ) → out ≡ placed out₀ at (rows_text rows i) → out ≡ placed out₀ at (rows_text rows nodes)
    rows_done out₀ out at e = e ∙ ap (λ n. placed out₀ at (rows_text rows n)) same
