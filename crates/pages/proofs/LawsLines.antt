-- Laws of the lines of a page: how long they are, and the lines written to a buffer. Assumes nothing.
use mathlib.Core.Path.{◌≡◌, refl, ap, sym, ◌∙◌}
use mathlib.Core.List.{List, [], ◌∷◌, ◌++◌}
use Prim.Native.Nat.{ℕ, zero, suc, ◌+◌, ◌*◌, ◌≤◌, ◌<◌}
use native.Mathlib.Numerals.{add-one}
use native.Mathlib.Omega.{arith}
use mir.Syntax.{w16}
use mir.Val.{Fits}
use lib.ListN.{length, get_or, set, length-append}
use Rattle.oat.specs.Tables.{Tables, node_at}
use Rattle.file_sections.specs.declared.Sections.{Sections}
use Rattle.file_sections.specs.Layout.{tables_of}
use Rattle.printing.specs.Text.{decimal}
use Rattle.writing.specs.Placed.{placed}
use Rattle.printing.proofs.LawsDecimal.{length_within, length_most}
use Rattle.writing.proofs.LawsPlaced.{placed_none, placed_then, placed_snoc}
use Rattle.pages.specs.Page.{cell, row_line, line_of, row_lines, pages_word, rows_word, last_line}
use Rattle.pages.specs.Writing.{ReadyRows}
use Rattle.pages.proofs.LawsCells.{cell_length}

-- numbers that fit their columns
pub four_digits : (n : ℕ) → n < 4096 → length (decimal n) ≤ 4
four_digits n h = length_within 3 n (omega arith)

pub two_digits : (n : ℕ) → n < 100 → length (decimal n) ≤ 2
two_digits n h = length_within 1 n (omega arith)

-- a row's line
pub record Fitting (node kind result binder : ℕ) : Type 0 where
  pub node_low : node < 4096
  pub kind_low : kind < 100
  pub result_low : result < 65536
  pub binder_low : binder < 65536

module _ {node kind result binder : ℕ} (fit : Fitting node kind result binder) where
  pub node_long : length (cell 4 node 32) ≡ 5
  node_long = cell_length 4 node 32 (four_digits node fit.node_low)

  kind_long : length (cell 2 kind 32) ≡ 3
  kind_long = cell_length 2 kind 32 (two_digits kind fit.kind_low)

  result_long : length (cell 5 result 32) ≡ 6
  result_long = cell_length 5 result 32 (length_most result fit.result_low)

  binder_long : length (cell 5 binder 10) ≡ 6
  binder_long = cell_length 5 binder 10 (length_most binder fit.binder_low)

  pub two_long : length (cell 4 node 32 ++ cell 2 kind 32) ≡ 8
  two_long = omega (arith, length-append (cell 4 node 32) (cell 2 kind 32), node_long, kind_long)

  pub three_long : length (cell 4 node 32 ++ cell 2 kind 32 ++ cell 5 result 32) ≡ 14
  three_long = omega (arith, length-append (cell 4 node 32 ++ cell 2 kind 32) (cell 5 result 32), two_long, result_long)

  -- 19 columns and a line end
  pub row_long : length (row_line node kind result binder) ≡ 20
  unfolding row_line
  row_long = omega (arith, length-append (cell 4 node 32 ++ cell 2 kind 32 ++ cell 5 result 32) (cell 5 binder 10), three_long, binder_long)

  -- its cells, one after another
  pub row_done : (out₀ out₁ out₂ out₃ out₄ : List ℕ) (at : ℕ) → at + 20 ≤ length out₀
      → out₁ ≡ placed out₀ at (cell 4 node 32) → out₂ ≡ placed out₁ (at + 5) (cell 2 kind 32) → out₃ ≡ placed out₂ (at + 8) (cell 5 result 32)
      → out₄ ≡ placed out₃ (at + 14) (cell 5 binder 10) → out₄ ≡ placed out₀ at (row_line node kind result binder)
  unfolding row_line
  row_done out₀ out₁ out₂ out₃ out₄ at h e f g k =
      let second = placed_then out₀ at (cell 4 node 32) e (ap (λ i. at + i) (sym node_long)) (cell 2 kind 32) (omega (arith, node_long, kind_long)) f in
      let third = placed_then out₀ at (cell 4 node 32 ++ cell 2 kind 32) second (ap (λ i. at + i) (sym two_long)) (cell 5 result 32) (omega (arith, two_long, result_long)) g in
      placed_then out₀ at (cell 4 node 32 ++ cell 2 kind 32 ++ cell 5 result 32) third (ap (λ i. at + i) (sym three_long)) (cell 5 binder 10) (omega (arith, three_long, binder_long)) k

-- the lines of nodes whose rows and kinds fit
pub record FittingRows (T : Tables) (R : List ℕ) (n : ℕ) : Type 0 where
  pub few : n ≤ 4096
  pub kinds : (i : ℕ) → i < n → (node_at T i).kind < 100
  pub small : (i : ℕ) → get_or R i 0 < 65536

-- a slice of 16-bit numbers holds such rows
pub small_of : (R : List ℕ) → ((i : ℕ) → Fits w16 (get_or R i 0)) → (i : ℕ) → get_or R i 0 < 65536
small_of R h i = omega (arith, h i)

pub rows_fit : {F R : List ℕ} {S : Sections} → ReadyRows F S R → ((i : ℕ) → Fits w16 (get_or R i 0)) → FittingRows (tables_of F S) R S.nodes
rows_fit {R = R} z h = record { few = z.laid.nodes_most; kinds = z.kinds; small = small_of R h }

module _ {T : Tables} {R : List ℕ} {n : ℕ} (fit : FittingRows T R n) where
  pub fitting : (i : ℕ) → i < n → Fitting i (node_at T i).kind (get_or R (2 * i) 0) (get_or R (2 * i + 1) 0)
  fitting i h = record { node_low = omega (arith, h, fit.few); kind_low = fit.kinds i h; result_low = fit.small (2 * i); binder_low = fit.small (2 * i + 1) }

  pub lines_long : (i : ℕ) → i ≤ n → length (row_lines T R i) ≡ 20 * i
  unfolding row_lines
  lines_long zero h = refl
  lines_long (suc i) h =
      omega (arith, length-append (row_lines T R i) (line_of T R i), lines_long i (omega arith), row_long (fitting i (omega arith)))

  -- node by node
  pub lines_more : (out₀ out out₁ : List ℕ) (i kind result binder : ℕ) → i < n → 20 * n ≤ length out₀ → out ≡ placed out₀ 0 (row_lines T R i)
      → kind ≡ (node_at T i).kind → result ≡ get_or R (2 * i) 0 → binder ≡ get_or R (2 * i + 1) 0
      → out₁ ≡ placed out (20 * i) (row_line i kind result binder) → out₁ ≡ placed out₀ 0 (row_lines T R (i + 1))
  unfolding row_lines
  lines_more out₀ out out₁ i kind result binder h room e k r b f =
      let long = lines_long i (omega arith) in
      placed_then out₀ 0 (row_lines T R i) e (omega (arith, long)) (line_of T R i) (omega (arith, long, row_long (fitting i h))) (f ∙ same k r b)
      ∙ ap (λ j. placed out₀ 0 (row_lines T R j)) (sym (add-one i))
    where
      same : kind ≡ (node_at T i).kind → result ≡ get_or R (2 * i) 0 → binder ≡ get_or R (2 * i + 1) 0
          → placed out (20 * i) (row_line i kind result binder) ≡ placed out (20 * i) (line_of T R i)
      same k r b = rw (k, r, b)

pub lines_none : (T : Tables) (R out : List ℕ) → out ≡ placed out 0 (row_lines T R 0)
unfolding row_lines
lines_none T R out = placed_none out 0

pub lines_all : (T : Tables) (R out₀ out : List ℕ) (i n : ℕ) → i ≤ n → n ≤ i → out ≡ placed out₀ 0 (row_lines T R i) → out ≡ placed out₀ 0 (row_lines T R n)
lines_all T R out₀ out i n h k e =
    let same : i ≡ n = omega arith in
    e ∙ ap (λ j. placed out₀ 0 (row_lines T R j)) same

-- a text and a number after it
module _ (label : List ℕ) (n : ℕ) (out₀ : List ℕ) (at : ℕ) (h : at + length (label ++ decimal n) ≤ length out₀) where
  pub label_room : at + length label ≤ length out₀
  label_room = omega (arith, length-append label (decimal n))

  pub number_room : (out : List ℕ) → length out ≡ length out₀ → at + length label + length (decimal n) ≤ length out
  number_room out l = omega (arith, length-append label (decimal n))

  pub labelled_end : (next : ℕ) → next ≡ at + length label + length (decimal n) → next ≡ at + length (label ++ decimal n)
  labelled_end next e = omega (arith, length-append label (decimal n))

  pub labelled_done : (out₁ out₂ : List ℕ) → out₁ ≡ placed out₀ at label → out₂ ≡ placed out₁ (at + length label) (decimal n) → out₂ ≡ placed out₀ at (label ++ decimal n)
  labelled_done out₁ out₂ e f = placed_then out₀ at label e refl (decimal n) (omega (arith, length-append label (decimal n))) f

-- the last line
module _ (pages rows : ℕ) where
  both_long : length ((pages_word ++ decimal pages) ++ (rows_word ++ decimal rows)) ≡ length (pages_word ++ decimal pages) + length (rows_word ++ decimal rows)
  both_long = length-append (pages_word ++ decimal pages) (rows_word ++ decimal rows)

  parts_long : length (last_line pages rows) ≡ length (pages_word ++ decimal pages) + length (rows_word ++ decimal rows) + 1
  unfolding last_line
  parts_long = omega (arith, length-append ((pages_word ++ decimal pages) ++ (rows_word ++ decimal rows)) (10 ∷ []), both_long)

  pub last_long : length (last_line pages rows) ≡ 13 + length (decimal pages) + length (decimal rows)
  last_long = omega (arith, parts_long, length-append pages_word (decimal pages), length-append rows_word (decimal rows))

  pub last_told : (x y : ℕ) → x ≡ length (decimal pages) → y ≡ length (decimal rows) → 13 + x + y ≡ length (last_line pages rows)
  last_told x y e f = omega (arith, last_long)

  -- room for its parts, in so many bytes
  module _ (at long : ℕ) (h : at + length (last_line pages rows) ≤ long) where
    pub pages_room : at + length (pages_word ++ decimal pages) ≤ long
    pages_room = omega (arith, parts_long)

    module _ (next : ℕ) (n : next ≡ at + length (pages_word ++ decimal pages)) where
      pub rows_room : (l : ℕ) → l ≡ long → next + length (rows_word ++ decimal rows) ≤ l
      rows_room l e = omega (arith, parts_long)

      pub end_room : (end : ℕ) → end ≡ next + length (rows_word ++ decimal rows) → (l : ℕ) → l ≡ long → end < l
      end_room end m l e = omega (arith, parts_long)

  -- its parts, one after another
  pub last_done : (out₀ out₁ out₂ : List ℕ) (at next end : ℕ) → at + length (last_line pages rows) ≤ length out₀ → next ≡ at + length (pages_word ++ decimal pages)
      → end ≡ next + length (rows_word ++ decimal rows) → out₁ ≡ placed out₀ at (pages_word ++ decimal pages) → out₂ ≡ placed out₁ next (rows_word ++ decimal rows)
      → set out₂ end 10 ≡ placed out₀ at (last_line pages rows)
  unfolding last_line
  last_done out₀ out₁ out₂ at next end h n m e f =
      let both = placed_then out₀ at (pages_word ++ decimal pages) e n (rows_word ++ decimal rows) (omega (arith, parts_long)) f in
      placed_snoc out₀ at ((pages_word ++ decimal pages) ++ (rows_word ++ decimal rows)) both (omega (arith, both_long)) 10 (omega (arith, both_long, parts_long))
