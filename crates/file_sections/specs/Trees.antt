-- Trees of nodes by their child counts, and where one ends. Assumes nothing.
use Rattle.std.specs.Prelude.{◌≡◌, List, ℕ, ◌+◌, ◌<◌, length}
use Rattle.oat.specs.Tables.{Tables, node_at}
use Rattle.file_sections.specs.declared.Sections.{Sections}
use Rattle.file_sections.specs.Layout.{Laid, tables_of}

-- `left` trees stand from the node n on, by their child counts, and end before the node m
pub data Trees (T : Tables) : (n left m : ℕ) → Type 0 where
  no_tree : {n : ℕ} → Trees T n 0 n
  next_tree : {n m : ℕ} (left : ℕ) → n < length T.nodes → Trees T (n + 1) (left + (node_at T n).children) m → Trees T n (left + 1) m

-- a tree stands at the node n
pub record Tree (F : List ℕ) (S : Sections) (n : ℕ) : Type 0 where
  pub laid : Laid F S
  pub end : ℕ
  pub tree : Trees (tables_of F S) n 1 end

-- r is the node after it
pub record Past (F : List ℕ) (S : Sections) (n r : ℕ) : Type 0 where
  pub ends : (m : ℕ) → Trees (tables_of F S) n 1 m → r ≡ m
