-- Document 02, (iii): the page of a file's rows, as bytes of ASCII: a line for each row, and a last line. A page has 50 rows; nothing stands
-- between pages. T has the file's tables, `rows` the rows of its nodes. Assumes nothing.
use Rattle.std.specs.Prelude.{List, [], ◌∷◌, ◌++◌, ℕ, zero, suc, ◌+◌, ◌*◌, ◌-◌, ◌/◌, ◌%◌, length, get_or, replicate}
use Rattle.oat.specs.Tables.{Tables, node_at}
use Rattle.printing.specs.Text.{decimal, word}

abbrev pub blanks : ℕ → List ℕ
blanks count = replicate count 32

-- a number in `width` columns, right aligned with blanks, and the byte after it
unfoldable pub cell : ℕ → ℕ → ℕ → List ℕ
cell width n last = blanks (width - length (decimal n)) ++ word n last

-- a row as a line: node number in 4 columns, kind in 2, result in 5 and binder in 5, one blank between, and a line end
unfoldable pub row_line : ℕ → ℕ → ℕ → ℕ → List ℕ
row_line node kind result binder = cell 4 node 32 ++ cell 2 kind 32 ++ cell 5 result 32 ++ cell 5 binder 10

-- the line of the node i
abbrev pub line_of : Tables → List ℕ → ℕ → List ℕ
line_of T rows i = row_line i (node_at T i).kind (get_or rows (2 * i) 0) (get_or rows (2 * i + 1) 0)

-- the lines of the first n nodes
unfoldable pub row_lines : Tables → List ℕ → ℕ → List ℕ
row_lines T rows zero = []
row_lines T rows (suc n) = row_lines T rows n ++ line_of T rows n

-- `pages ` and ` rows `
abbrev pub pages_word : List ℕ
pages_word = 112 ∷ 97 ∷ 103 ∷ 101 ∷ 115 ∷ 32 ∷ []

abbrev pub rows_word : List ℕ
rows_word = 32 ∷ 114 ∷ 111 ∷ 119 ∷ 115 ∷ 32 ∷ []

-- the last line, `pages P rows Q` and a line end
unfoldable pub last_line : ℕ → ℕ → List ℕ
last_line pages rows = (pages_word ++ decimal pages) ++ (rows_word ++ decimal rows) ++ (10 ∷ [])

-- the number of full pages, and the exact remainder, of n rows
abbrev pub full_pages : ℕ → ℕ
full_pages n = n / 50

abbrev pub rows_left : ℕ → ℕ
rows_left n = n % 50

-- the whole page
unfoldable pub page_of : Tables → List ℕ → List ℕ
page_of T rows = row_lines T rows (length T.nodes) ++ last_line (full_pages (length T.nodes)) (rows_left (length T.nodes))
