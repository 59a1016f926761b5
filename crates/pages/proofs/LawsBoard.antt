-- A page at the front of a buffer, as it is counted by eye: the columns of each row's line, and the last line. Assumes nothing.
use mathlib.Core.Path.{◌≡◌, refl, ap, sym, subst, ◌∙◌}
use mathlib.Core.List.{List, [], ◌∷◌, ◌++◌}
use mathlib.Core.Bool.{Bool, true, false}
use mathlib.Core.Logic.{⊎_elim}
use Prim.Native.Nat.{ℕ, zero, suc, ◌+◌, ◌*◌, ◌-◌, ◌≤◌, ◌<◌}
use native.Mathlib.Nat.{not-suc-le-zero, eq-or-lt_of_le}
use native.Mathlib.Omega.{arith}
use lib.ListN.{length, get_or, take, drop, length-append, get_or-replicate}
use lib.Dec.{ltb}
use borrow.Author.Tests.{ltb-true, ltb-false}
use Rattle.oat.specs.Tables.{Tables, node_at}
use Rattle.oat.proofs.LawsKinds.{Each, until, join, top}
use Rattle.file_sections.specs.Frames.{ListAt}
use Rattle.file_sections.proofs.LawsFrames.{list_from, list_first, list_left, list_right, list_front, list_taken}
use Rattle.printing.specs.Text.{decimal, word}
use Rattle.printing.specs.Digits.{Digit, value}
use Rattle.printing.proofs.LawsDecimal.{length_some, length_most}
use Rattle.printing.proofs.Theorems.{value_decimal, zero_in_front, digit_each}
use Rattle.pages.specs.Page.{blanks, cell, row_line, line_of, row_lines, last_line, full_pages, rows_left, page_of}
use Rattle.pages.specs.Columns.{InColumns, RowAt, PageLong, OnBoard}
use Rattle.pages.proofs.LawsCells.{blanks_length}
use Rattle.pages.proofs.LawsLines.{four_digits, two_digits, Fitting, node_long, two_long, three_long, FittingRows, fitting, lines_long}

-- a number's cell in a buffer: its columns, of which none is a line end, and the byte after them
record CellAt (out : List ℕ) (at width n last : ℕ) : Type 0 where
  columns : InColumns out at width n
  no_end : Each (λ k. get_or out k 0 ≡ 10 → ⊥) at (at + width)
  after : get_or out (at + width) 0 ≡ last

module _ (out : List ℕ) (at width n last : ℕ) (fits : length (decimal n) ≤ width) (room : at + width < length out) (h : ListAt out at (cell width n last)) where
  abbrev count : ℕ
  count = width - length (decimal n)

  at_blanks : ListAt out at (blanks count)
  unfolding cell
  at_blanks = list_left out at (blanks count) (word n last) h

  at_word : ListAt out (at + count) (word n last)
  unfolding cell
  at_word = list_from out (at + length (blanks count)) (at + count) (word n last) (ap (λ k. at + k) (blanks_length count)) (list_right out at (blanks count) (word n last) h)

  at_digits : ListAt out (at + count) (decimal n)
  unfolding word
  at_digits = list_left out (at + count) (decimal n) (last ∷ []) at_word

  blank_at : (j : ℕ) → j < count → get_or out (at + j) 0 ≡ 32
  blank_at j l = at_blanks.at j (omega (arith, l, blanks_length count)) ∙ get_or-replicate count j 32 0 l

  digit_at : (j : ℕ) → count ≤ j → j < width → Digit (get_or out (at + j) 0)
  digit_at j l k =
      let within : j - count < length (decimal n) = omega (arith, fits) in
      let same : at + count + (j - count) ≡ at + j = omega arith in
      subst Digit (sym (at_digits.at (j - count) within) ∙ ap (λ i. get_or out i 0) same) (digit_each n (j - count) within)

  front_digit : get_or out (at + count) 0 ≡ get_or (decimal n) 0 0
  front_digit = let same : at + count ≡ at + count + 0 = omega arith in ap (λ i. get_or out i 0) same ∙ at_digits.at 0 (omega (arith, length_some n))

  -- a blank or a digit is no line end
  no_end_at : (j : ℕ) → j < width → get_or out (at + j) 0 ≡ 10 → ⊥
  no_end_at j l e = go (ltb j count) refl
    where
      go : (b : Bool) → ltb j count ≡ b → ⊥
      go true t = omega (arith, e, blank_at j (ltb-true j count t))
      go false t = omega (arith, e, (digit_at j (ltb-false j count t) l).low)

  cell_at : CellAt out at width n last
  unfolding word
  cell_at =
      let long = length_some n in
      let size : length (decimal n) ≡ width - count = omega (arith, fits) in
      let end : at + count + length (decimal n) ≡ at + width = omega (arith, fits) in
      record {
        columns = record {
          blanks = count;
          some = omega (arith, long, fits);
          blank = blank_at;
          digit = digit_at;
          reads_back = ap (λ k. value (take k (drop (at + count) out))) (sym size) ∙ ap value (list_taken out (at + count) (decimal n) (omega (arith, room, fits)) at_digits) ∙ value_decimal n;
          no_zero_in_front = λ z. zero_in_front n (sym front_digit ∙ z);
        };
        no_end = record { at = λ k l r e. no_end_at (k - at) (omega arith) (let same : at + (k - at) ≡ k = omega arith in ap (λ i. get_or out i 0) same ∙ e) };
        after = ap (λ k. get_or out k 0) (sym end) ∙ list_first out (at + count + length (decimal n)) last [] (list_right out (at + count) (decimal n) (last ∷ []) at_word);
      }

-- a row's line in a buffer
module _ (T : Tables) (R out : List ℕ) (i : ℕ) (fit : Fitting i (node_at T i).kind (get_or R (2 * i) 0) (get_or R (2 * i + 1) 0)) (room : 20 * i + 20 ≤ length out) (h : ListAt out (20 * i) (line_of T R i)) where
  abbrev node_cell : List ℕ
  node_cell = cell 4 i 32

  abbrev kind_cell : List ℕ
  kind_cell = cell 2 (node_at T i).kind 32

  abbrev result_cell : List ℕ
  result_cell = cell 5 (get_or R (2 * i) 0) 32

  abbrev binder_cell : List ℕ
  binder_cell = cell 5 (get_or R (2 * i + 1) 0) 10

  three : ListAt out (20 * i) (node_cell ++ kind_cell ++ result_cell)
  unfolding row_line
  three = list_left out (20 * i) (node_cell ++ kind_cell ++ result_cell) binder_cell h

  two : ListAt out (20 * i) (node_cell ++ kind_cell)
  two = list_left out (20 * i) (node_cell ++ kind_cell) result_cell three

  at_node : CellAt out (20 * i) 4 i 32
  at_node = cell_at out (20 * i) 4 i 32 (four_digits i fit.node_low) (omega arith) (list_left out (20 * i) node_cell kind_cell two)

  at_kind : CellAt out (20 * i + 5) 2 (node_at T i).kind 32
  at_kind =
      cell_at out (20 * i + 5) 2 (node_at T i).kind 32 (two_digits (node_at T i).kind fit.kind_low) (omega arith)
      (list_from out (20 * i + length node_cell) (20 * i + 5) kind_cell (ap (λ k. 20 * i + k) (node_long fit)) (list_right out (20 * i) node_cell kind_cell two))

  at_result : CellAt out (20 * i + 8) 5 (get_or R (2 * i) 0) 32
  at_result =
      cell_at out (20 * i + 8) 5 (get_or R (2 * i) 0) 32 (length_most (get_or R (2 * i) 0) fit.result_low) (omega arith)
      (list_from out (20 * i + length (node_cell ++ kind_cell)) (20 * i + 8) result_cell (ap (λ k. 20 * i + k) (two_long fit)) (list_right out (20 * i) (node_cell ++ kind_cell) result_cell three))

  at_binder : CellAt out (20 * i + 14) 5 (get_or R (2 * i + 1) 0) 10
  unfolding row_line
  at_binder =
      cell_at out (20 * i + 14) 5 (get_or R (2 * i + 1) 0) 10 (length_most (get_or R (2 * i + 1) 0) fit.binder_low) (omega arith)
      (list_from out (20 * i + length (node_cell ++ kind_cell ++ result_cell)) (20 * i + 14) binder_cell (ap (λ k. 20 * i + k) (three_long fit))
      (list_right out (20 * i) (node_cell ++ kind_cell ++ result_cell) binder_cell h))

  -- the byte at the place k is no line end
  abbrev Column : ℕ → Type 0
  Column k = get_or out k 0 ≡ 10 → ⊥

  blank_column : (k j : ℕ) → k ≡ j → get_or out k 0 ≡ 32 → Column j
  blank_column k j e b z = omega (arith, ap (λ m. get_or out m 0) e, b, z)

  nineteen : Each Column (20 * i) (20 * i + 19)
  nineteen =
      join at_node.no_end
      (top (blank_column (20 * i + 4) (20 * i + 4) refl at_node.after) refl
      (join (from (omega arith) at_kind.no_end)
      (top (blank_column (20 * i + 5 + 2) (20 * i + 5 + 2) refl at_kind.after) refl
      (join (from (omega arith) at_result.no_end)
      (top (blank_column (20 * i + 8 + 5) (20 * i + 8 + 5) refl at_result.after) refl
      (until (omega arith) (from (omega arith) at_binder.no_end)))))))
    where
      from : {n m k : ℕ} → n ≡ m → Each Column n k → Each Column m k
      from {k = k} e p = subst (λ x. Each Column x k) e p

  pub row_at : RowAt T R out i
  row_at = record {
    node = at_node.columns;
    kind = at_kind.columns;
    result = at_result.columns;
    binder = at_binder.columns;
    between = (at_node.after, moved (20 * i + 5 + 2) (20 * i + 7) (omega arith) at_kind.after, moved (20 * i + 8 + 5) (20 * i + 13) (omega arith) at_result.after);
    width = λ j l. nineteen.at (20 * i + j) (omega arith) (omega arith);
    line_end = moved (20 * i + 14 + 5) (20 * i + 19) (omega arith) at_binder.after;
  }
    where
      moved : (k j : ℕ) {v : ℕ} → k ≡ j → get_or out k 0 ≡ v → get_or out j 0 ≡ v
      moved k j e f = ap (λ m. get_or out m 0) (sym e) ∙ f

-- the lines of n nodes, one after another
module _ {T : Tables} {R : List ℕ} {n : ℕ} (fit : FittingRows T R n) (out : List ℕ) where
  line_at : (m : ℕ) → m ≤ n → ListAt out 0 (row_lines T R m) → (i : ℕ) → i < m → ListAt out (20 * i) (line_of T R i)
  unfolding row_lines
  line_at zero l h i k = absurd (not-suc-le-zero k)
  line_at (suc m) l h i k =
      ⊎_elim
      (λ e. let same : m ≡ i = omega arith in subst (λ x. ListAt out (20 * x) (line_of T R x)) same
      (list_from out (0 + length (row_lines T R m)) (20 * m) (line_of T R m) (omega (arith, lines_long fit m (omega arith))) (list_right out 0 (row_lines T R m) (line_of T R m) h)))
      (λ e. line_at m (omega arith) (list_left out 0 (row_lines T R m) (line_of T R m) h) i (omega arith))
      (eq-or-lt_of_le k)

-- the whole page
module _ {T : Tables} {R : List ℕ} (fit : FittingRows T R (length T.nodes)) where
  abbrev n : ℕ
  n = length T.nodes

  abbrev last : List ℕ
  last = last_line (full_pages n) (rows_left n)

  pub page_long : PageLong T R
  unfolding page_of
  page_long = omega (arith, length-append (row_lines T R n) last, lines_long fit n (omega arith))

  module _ (rest : List ℕ) where
    abbrev out : List ℕ
    out = page_of T R ++ rest

    out_long : length out ≡ 20 * n + length last + length rest
    out_long = omega (arith, length-append (page_of T R) rest, page_long)

    at_lines : ListAt out 0 (row_lines T R n)
    unfolding page_of
    at_lines = list_left out 0 (row_lines T R n) last (list_front (page_of T R) rest)

    at_last : ListAt out (20 * n) last
    unfolding page_of
    at_last =
        list_from out (0 + length (row_lines T R n)) (20 * n) last (omega (arith, lines_long fit n (omega arith))) (list_right out 0 (row_lines T R n) last (list_front (page_of T R) rest))

    pub on_board : OnBoard T R out (length (page_of T R))
    on_board = record {
      each = λ i l. row_at T R out i (fitting fit i l) (omega (arith, out_long, l)) (line_at fit out n (omega arith) at_lines i l);
      last = record {
        full = full_pages n;
        left = rows_left n;
        long = page_long;
        last = list_taken out (20 * n) last (omega (arith, out_long)) at_last;
        all = omega arith;
        remainder = omega arith;
      };
    }
