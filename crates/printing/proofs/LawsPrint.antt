-- Laws of what `print` does: which nodes have a line, and the buffer at each of its returns. Assumes nothing.
use Rattle.std.proofs.Common.{Ok, Err}
use mathlib.Core.Path.{◌≡◌, refl, ap, sym, ◌∙◌}
use mathlib.Core.Bool.{Bool, true, false, ◌&&◌}
use mathlib.Core.List.{List, ◌++◌}
use Prim.Native.Nat.{ℕ, ◌+◌, ◌*◌, ◌≤◌, ◌<◌}
use native.Mathlib.Omega.{arith}
use lib.ListN.{length, drop, length-append}
use lib.Dec.{leb}
use borrow.Author.Tests.{eq-eqb, ne_eqb, le-leb, lt-leb}
use Rattle.printing.specs.declared.Unprinted.TheVariants.{Short, NoRows}
use Rattle.printing.specs.Text.{line, rows_text, listed, text_of}
use Rattle.printing.specs.Outcome.{leaves, put, has_rows, print_of}
use Rattle.writing.specs.Placed.{placed}
use Rattle.writing.proofs.LawsPlaced.{placed_then, placed_front}

-- the nodes that have a line
module _ (number nodes : ℕ) where
  pub listed_all : number ≡ 0 → nodes ≡ listed number nodes
  unfolding listed
  listed_all e = rw (eq-eqb number 0 e)

  pub listed_none : (number ≡ 0 → ⊥) → 0 ≡ listed number nodes
  unfolding listed
  listed_none h = rw (ne_eqb number 0 h)

-- their rows
module _ (rows : List ℕ) (n : ℕ) where
  rows_there : n ≤ 65535 → 2 * n ≤ length rows → has_rows rows n ≡ true
  unfolding has_rows
  rows_there h k = rw (le-leb n 65535 h, le-leb (2 * n) (length rows) k)

  rows_many : 65535 < n → has_rows rows n ≡ false
  unfolding has_rows
  rows_many h = rw (lt-leb n 65535 h)

  rows_few : length rows < 2 * n → has_rows rows n ≡ false
  unfolding has_rows
  rows_few h = rw (lt-leb (2 * n) (length rows) h) (go (leb n 65535))
    where
      go : (b : Bool) → b && false ≡ false
      go true = refl
      go false = refl

-- a text for the buffer
module _ (text out : List ℕ) where
  put_short : length out < length text → leaves (Err (Short (length text))) out ≡ put text out
  unfolding put
  put_short h = rw (lt-leb (length text) (length out) h)

  put_written : length text ≤ length out → leaves (Ok (length text)) (text ++ drop (length text) out) ≡ put text out
  unfolding put
  put_written h = rw (le-leb (length text) (length out) h)

-- the returns
module _ (number step place nodes : ℕ) (rows out : List ℕ) (count : ℕ) (e : count ≡ listed number nodes) where
  pub many : 65535 < count → leaves (Err NoRows) out ≡ print_of number step place rows nodes out
  unfolding print_of
  many h = rw (← e, rows_many rows count h)

  pub few : length rows < 2 * count → leaves (Err NoRows) out ≡ print_of number step place rows nodes out
  unfolding print_of
  few h = rw (← e, rows_few rows count h)

  text_is : text_of number step place rows nodes ≡ line number step place ++ rows_text rows count
  unfolding text_of
  text_is = rw e

  text_long : (x y : ℕ) → x ≡ length (line number step place) → y ≡ length (rows_text rows count) → x + y ≡ length (text_of number step place rows nodes)
  text_long x y f g = omega (arith, ap length text_is, length-append (line number step place) (rows_text rows count))

  module _ (h : count ≤ 65535) (k : 2 * count ≤ length rows) where
    is_put : put (text_of number step place rows nodes) out ≡ print_of number step place rows nodes out
    unfolding print_of
    is_put = rw (← e, rows_there rows count h k)

    module _ (x y : ℕ) (f : x ≡ length (line number step place)) (g : y ≡ length (rows_text rows count)) where
      pub short : length out < x + y → leaves (Err (Short (x + y))) out ≡ print_of number step place rows nodes out
      short l =
          let long = text_long x y f g in
          ap (λ n. leaves (Err (Short n)) out) long ∙ put_short (text_of number step place rows nodes) out (omega arith) ∙ is_put

      pub written : (out₁ out₂ : List ℕ) (next : ℕ) → x + y ≤ length out → next ≡ 0 + length (line number step place) → out₁ ≡ placed out 0 (line number step place) → out₂ ≡ placed out₁ next (rows_text rows count)
          → leaves (Ok (x + y)) out₂ ≡ print_of number step place rows nodes out
      written out₁ out₂ next l n o w =
          let long = text_long x y f g in
          ap (λ m. leaves (Ok m) out₂) long
          ∙ ap (leaves (Ok (length (text_of number step place rows nodes)))) (whole ∙ ap (placed out 0) (sym text_is) ∙ placed_front out (text_of number step place rows nodes))
          ∙ put_written (text_of number step place rows nodes) out (omega arith)
          ∙ is_put
        where
          whole : out₂ ≡ placed out 0 (line number step place ++ rows_text rows count)
          whole = placed_then out 0 (line number step place) o n (rows_text rows count) (omega arith) w
