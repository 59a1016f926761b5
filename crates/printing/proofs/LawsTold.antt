-- What a caller of `print` knows by its answer, and how long a text can be. Assumes nothing.
use Rattle.std.proofs.Common.{Result, Ok, Err}
use mathlib.Core.Path.{◌≡◌, refl, ap, sym, ◌∙◌}
use mathlib.Core.Bool.{Bool, true, false, cond}
use mathlib.Core.List.{List, ◌++◌}
use Prim.Native.Nat.{ℕ, zero, suc, ◌+◌, ◌*◌, ◌≤◌, ◌<◌}
use native.Mathlib.Omega.{arith}
use lib.ListN.{length, get_or, take, drop, length-append, length-take}
use lib.Seq.{take_at, drop_at}
use lib.Dec.{eqb, leb}
use borrow.Author.Tests.{leb-false}
use Rattle.printing.specs.declared.Unprinted.{Unprinted}
use Rattle.printing.specs.declared.Unprinted.TheVariants.{Short, NoRows}
use Rattle.printing.specs.Text.{line, rows_text, listed, text_of}
use Rattle.printing.specs.Outcome.{leaves, put, has_rows, print_of}
use Rattle.printing.proofs.LawsDecimal.{length_most}
use Rattle.printing.proofs.LawsLines.{line_long}

-- of a text for the buffer
module _ (text out left : List ℕ) (n : ℕ) where
  put_written : (b : Bool) → leaves (Ok n) left ≡ cond b (leaves (Ok (length text)) (text ++ drop (length text) out)) (leaves (Err (Short (length text))) out)
      → (n ≡ length text) × (take n left ≡ text) × (drop n left ≡ drop n out)
  put_written true e =
      let same : length text ≡ n = cc in
      let whole : left ≡ text ++ drop (length text) out = cc in (
        sym same,
        ap (take n) whole ∙ take_at text (drop (length text) out) n same,
        ap (drop n) whole ∙ drop_at text (drop (length text) out) n same ∙ ap (λ k. drop k out) same,
      )
  put_written false e =
      let z : ◌≡◌ {A = ℕ} 0 1 = cc in
      absurd (omega arith)

  put_short : (b : Bool) → leb (length text) (length out) ≡ b → leaves (Err (Short n)) left ≡ cond b (leaves (Ok (length text)) (text ++ drop (length text) out)) (leaves (Err (Short (length text))) out)
      → (n ≡ length text) × (length out < n) × (left ≡ out)
  put_short true t e =
      let z : ◌≡◌ {A = ℕ} 0 1 = cc in
      absurd (omega arith)
  put_short false t e =
      let same : n ≡ length text = cc in
      (same, omega (arith, leb-false (length text) (length out) t), cc)

-- of an answer r, with what is left in the buffer
module _ (number step place nodes : ℕ) (rows out left : List ℕ) (r : Result ℕ Unprinted) (told : leaves r left ≡ print_of number step place rows nodes out) where
  -- the first n bytes are the text, and what lies past them is as it was
  pub written_told : (n : ℕ) → r ≡ Ok n → (n ≡ length (text_of number step place rows nodes)) × (take n left ≡ text_of number step place rows nodes) × (drop n left ≡ drop n out)
  unfolding print_of put
  written_told n e = go (has_rows rows (listed number nodes)) (ap (λ x. leaves x left) (sym e) ∙ told)
    where
      text : List ℕ
      text = text_of number step place rows nodes

      go : (b : Bool) → leaves (Ok n) left ≡ cond b (put text out) (leaves (Err NoRows) out) → (n ≡ length text) × (take n left ≡ text) × (drop n left ≡ drop n out)
      go true f = put_written text out left n (leb (length text) (length out)) f
      go false f =
          let z : ◌≡◌ {A = ℕ} 0 1 = cc in
          absurd (omega arith)

  -- the buffer has n bytes
  pub written_room : (n : ℕ) → r ≡ Ok n → n ≤ length left
  written_room n e =
      let (same, front, past) = written_told n e in
      omega (arith, length-take n left, ap length front)

  -- the text has n bytes, for which there is no room, and the buffer is as it was
  pub short_told : (n : ℕ) → r ≡ Err (Short n) → (n ≡ length (text_of number step place rows nodes)) × (length out < n) × (left ≡ out)
  unfolding print_of put
  short_told n e = go (has_rows rows (listed number nodes)) (ap (λ x. leaves x left) (sym e) ∙ told)
    where
      text : List ℕ
      text = text_of number step place rows nodes

      go : (b : Bool) → leaves (Err (Short n)) left ≡ cond b (put text out) (leaves (Err NoRows) out) → (n ≡ length text) × (length out < n) × (left ≡ out)
      go true f = put_short text out left n (leb (length text) (length out)) refl f
      go false f =
          let z : ◌≡◌ {A = ℕ} 0 1 = cc in
          absurd (omega arith)

  -- the rows are not all there, and the buffer is as it was
  pub no_rows_told : r ≡ Err NoRows → (has_rows rows (listed number nodes) ≡ false) × (left ≡ out)
  unfolding print_of put
  no_rows_told e =
      go
      (has_rows rows (listed number nodes))
      (leb (length (text_of number step place rows nodes)) (length out))
      (ap (λ x. leaves x left) (sym e) ∙ told)
    where
      text : List ℕ
      text = text_of number step place rows nodes

      go : (b t : Bool) → leaves (Err NoRows) left ≡ cond b (cond t (leaves (Ok (length text)) (text ++ drop (length text) out)) (leaves (Err (Short (length text))) out)) (leaves (Err NoRows) out) → (b ≡ false) × (left ≡ out)
      go true true f =
          let z : ◌≡◌ {A = ℕ} 0 1 = cc in
          absurd (omega arith)
      go true false f =
          let z : ◌≡◌ {A = ℕ} 0 1 = cc in
          absurd (omega arith)
      go false t f = (refl, cc)

-- lines of numbers of two bytes
line_most : (a b c : ℕ) → a < 65536 → b < 65536 → c < 65536 → length (line a b c) ≤ 18
line_most a b c h k l =
    omega (arith, line_long a b c _ _ _ refl refl refl, length_most a h, length_most b k, length_most c l)

rows_most : (rows : List ℕ) → ((i : ℕ) → get_or rows i 0 < 65536) → (n : ℕ) → n ≤ 65536 → length (rows_text rows n) ≤ 18 * n
unfolding rows_text
rows_most rows f zero h = omega arith
rows_most rows f (suc n) h =
    simp length-append (omega (arith, rows_most rows f n (omega arith), line_most n (get_or rows (2 * n) 0) (get_or rows (2 * n + 1) 0) (omega arith) (f (2 * n)) (f (2 * n + 1))))

-- 18 bytes a line are room enough
pub text_most : (number step place nodes : ℕ) (rows : List ℕ) → number < 65536 → step < 65536 → place < 65536 → nodes ≤ 65535 → ((i : ℕ) → get_or rows i 0 < 65536)
    → length (text_of number step place rows nodes) ≤ 18 * (nodes + 1)
unfolding text_of listed
text_most number step place nodes rows h k l m f = simp length-append (go (eqb number 0))
  where
    go : (b : Bool) → length (line number step place) + length (rows_text rows (cond b nodes 0)) ≤ 18 * (nodes + 1)
    go true = omega (arith, line_most number step place h k l, rows_most rows f nodes (omega arith))
    go false = omega (arith, line_most number step place h k l, rows_most rows f 0 (omega arith))
