-- What the contracts of the functions that write a page cite. F is the file, S its sections, R the rows, O the page buffer; a prime marks it after
-- the call. Assumes nothing.
use Rattle.std.specs.Prelude.{List, ◌++◌, ℕ, ◌*◌, ◌≤◌, ◌<◌, length, drop, Option, Some, None}
use Rattle.oat.specs.Tables.{Tables, node_at}
use Rattle.file_sections.specs.declared.Sections.{Sections}
use Rattle.file_sections.specs.Layout.{Laid, tables_of}
use Rattle.pages.specs.Page.{page_of}
use Rattle.pages.specs.Columns.{PageLong, OnBoard}

-- every node has a row, and a kind of two digits at most
pub record ReadyRows (F : List ℕ) (S : Sections) (R : List ℕ) : Type 0 where
  pub laid : Laid F S
  pub kinds : (i : ℕ) → i < S.nodes → (node_at (tables_of F S) i).kind < 100
  pub long : 2 * S.nodes ≤ length R

-- the page is written, with its length told; or nothing, where it has no room
pub data Writes (T : Tables) (R O : List ℕ) : Option ℕ → (O' : List ℕ) → Type 0 where
  writes : PageLong T R → length (page_of T R) ≤ length O → OnBoard T R (page_of T R ++ drop (length (page_of T R)) O) (length (page_of T R))
      → Writes T R O (Some (length (page_of T R))) (page_of T R ++ drop (length (page_of T R)) O)
  no_room : PageLong T R → length O < length (page_of T R) → Writes T R O None O
