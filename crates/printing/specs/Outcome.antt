-- What `print` answers and what it leaves in the buffer. Assumes nothing.
use Rattle.std.specs.Prelude.{Bool, cond, ◌&&◌, List, ◌++◌, ℕ, ◌*◌, length, drop, leb, Result, Ok, Err}
use Rattle.printing.specs.declared.Unprinted.{Unprinted}
use Rattle.printing.specs.declared.Unprinted.TheVariants.{Short, NoRows}
use Rattle.printing.specs.Text.{listed, text_of}

-- an answer, and what is left in the buffer
pub data Outcome : Type 0 where
  leaves : Result ℕ Unprinted → List ℕ → Outcome

-- a text put at the front of a buffer that has room for it; else the buffer as it was
unfoldable pub put : List ℕ → List ℕ → Outcome
put text out =
    cond (leb (length text) (length out))
    (leaves (Ok (length text)) (text ++ drop (length text) out))
    (leaves (Err (Short (length text))) out)

-- two numbers stand in `rows` for each of n nodes, and n is a u16, as a node's number in a row is
unfoldable pub has_rows : List ℕ → ℕ → Bool
has_rows rows n = leb n 65535 && leb (2 * n) (length rows)

-- what `print` does
unfoldable pub print_of : ℕ → ℕ → ℕ → List ℕ → ℕ → List ℕ → Outcome
print_of number step place rows nodes out =
    cond (has_rows rows (listed number nodes)) (put (text_of number step place rows nodes) out) (leaves (Err NoRows) out)
