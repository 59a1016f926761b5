-- What is counted by eye on a board: the columns of each row's line, the numbers in them, and the last line. `out` holds the page at its front.
-- Assumes nothing.
use Rattle.std.specs.Prelude.{◌≡◌, List, ℕ, ◌+◌, ◌*◌, ◌-◌, ◌≤◌, ◌<◌, length, get_or, take, drop}
use Rattle.oat.specs.Tables.{Tables, node_at}
use Rattle.printing.specs.Digits.{Digit, value}
use Rattle.pages.specs.Page.{last_line, full_pages, rows_left, page_of}

-- n stands right aligned in the `width` columns from the byte `at` on: blanks, then digits and one at least, which read back give n, and
-- of which the first is a zero only where n is 0
pub record InColumns (out : List ℕ) (at width n : ℕ) : Type 0 where
  pub blanks : ℕ
  pub some : blanks < width
  pub blank : (j : ℕ) → j < blanks → get_or out (at + j) 0 ≡ 32
  pub digit : (j : ℕ) → blanks ≤ j → j < width → Digit (get_or out (at + j) 0)
  pub reads_back : value (take (width - blanks) (drop (at + blanks) out)) ≡ n
  pub no_zero_in_front : get_or out (at + blanks) 0 ≡ 48 → n ≡ 0

-- the row of the node i has the 20 bytes from 20 * i on: four numbers with one blank between, 19 columns that are no line end, and a line
-- end, byte 10
pub record RowAt (T : Tables) (rows out : List ℕ) (i : ℕ) : Type 0 where
  pub node : InColumns out (20 * i) 4 i
  pub kind : InColumns out (20 * i + 5) 2 (node_at T i).kind
  pub result : InColumns out (20 * i + 8) 5 (get_or rows (2 * i) 0)
  pub binder : InColumns out (20 * i + 14) 5 (get_or rows (2 * i + 1) 0)
  pub between : (get_or out (20 * i + 4) 0 ≡ 32) × (get_or out (20 * i + 7) 0 ≡ 32) × (get_or out (20 * i + 13) 0 ≡ 32)
  pub width : (j : ℕ) → j < 19 → get_or out (20 * i + j) 0 ≡ 10 → ⊥
  pub line_end : get_or out (20 * i + 19) 0 ≡ 10

-- behind the rows of n nodes the last line ends the page: `pages P rows Q`, where 50 times P plus Q is n, and Q is no full page
pub record LastAt (n bytes : ℕ) (out : List ℕ) : Type 0 where
  pub full : ℕ
  pub left : ℕ
  pub long : bytes ≡ 20 * n + length (last_line full left)
  pub last : take (length (last_line full left)) (drop (20 * n) out) ≡ last_line full left
  pub all : 50 * full + left ≡ n
  pub remainder : left < 50

-- a page has 20 bytes for each row, and those of its last line
abbrev pub PageLong : Tables → List ℕ → Type 0
PageLong T rows = length (page_of T rows) ≡ 20 * length T.nodes + length (last_line (full_pages (length T.nodes)) (rows_left (length T.nodes)))

-- the page of a file with these tables and rows, of so many bytes
pub record OnBoard (T : Tables) (rows out : List ℕ) (bytes : ℕ) : Type 0 where
  pub each : (i : ℕ) → i < length T.nodes → RowAt T rows out i
  pub last : LastAt (length T.nodes) bytes out
