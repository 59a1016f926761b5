-- What the contracts of the pass over the nodes cite. F is the file, S its sections, X the index of types, R the rows, A the counts by type, B
-- those by declaration; a prime marks a buffer after the call. Assumes nothing.
use Rattle.std.specs.Prelude.{◌≡◌, Bool, true, false, List, ◌++◌, ◌⊎◌, ℕ, ◌+◌, ◌*◌, ◌≤◌, ◌<◌, length, get_or, take, drop, Ok}
use Rattle.oat.specs.Tables.{Tables}
use Rattle.oat.specs.Syntax.{Decl}
use Rattle.oat.specs.Nodes.{is_expression}
use Rattle.oat.specs.ProgramFile.{widest, Program, IsFile}
use Rattle.file_sections.specs.declared.Sections.{Sections}
use Rattle.file_sections.specs.Layout.{tables_of, GoodTables}
use Rattle.file_sections.specs.Trees.{Past}
use Rattle.program_file.specs.Reading.{reading_within}
use Rattle.program_file.specs.Opened.{Declares}
use Rattle.type_index.specs.Index.{Indexed}
use Rattle.tallies.specs.declared.walk.Tree.{Tree}
use Rattle.tallies.specs.Tallies.{count_below, type_in_row, is_under, by_type, by_declaration}
use Rattle.tallies.specs.Tally.{type_count, declaration_count}

-- every node has a row, and an expression's row has the number of a type of the file
pub record TypedRows (T : Tables) (R : List ℕ) : Type 0 where
  pub long : 2 * length T.nodes ≤ length R
  pub typed : (i : ℕ) → i < length T.nodes → is_expression T i ≡ true → type_in_row R i < length T.types

-- what is there before a node is counted
pub record ReadyWalk (F : List ℕ) (S : Sections) (X R : List ℕ) : Type 0 where
  pub good_tables : GoodTables F S
  pub indexed : Indexed X (tables_of F S) S.types
  pub rows : TypedRows (tables_of F S) R

-- the expressions among the first n nodes are counted, each under the lowest number of its type
pub record CountedTo (T : Tables) (R : List ℕ) (n : ℕ) (A : List ℕ) : Type 0 where
  pub long : length A ≡ 512
  pub each : (t : ℕ) → t < 512 → get_or A t 0 ≡ count_below n (is_under T R t)

-- the tree at the node n is counted
pub record ToldTree (F : List ℕ) (S : Sections) (R : List ℕ) (n : ℕ) (A' : List ℕ) (r : Tree) : Type 0 where
  pub past : Past F S n r.past
  pub counted : CountedTo (tables_of F S) R r.past A'
  pub expressions : count_below r.past (is_expression (tables_of F S)) ≡ count_below n (is_expression (tables_of F S)) + r.expressions

-- before all declarations, of which there are some
pub record ReadyTally (F : List ℕ) (S : Sections) (X R A B : List ℕ) : Type 0 where
  pub ready : ReadyWalk F S X R
  pub declarations : List Decl
  pub declares : Declares F S declarations
  pub counted : CountedTo (tables_of F S) R 0 A
  pub long : length B ≡ 2048

-- all declarations are counted
pub record ToldTally (F : List ℕ) (S : Sections) (R A' B' : List ℕ) (r : ℕ) : Type 0 where
  pub counted : CountedTo (tables_of F S) R S.nodes A'
  pub long : length B' ≡ 2048
  pub few : r ≤ 2048
  pub tells : (ds : List Decl) → Declares F S ds → (r ≡ length ds) × (take r B' ≡ by_declaration (tables_of F S) 0 ds)

-- an accepted file, spoken of under the widest limits, with its rows
pub record ReadyAccepted (F : List ℕ) (S : Sections) (R : List ℕ) : Type 0 where
  pub reads : reading_within widest F ≡ Ok S
  pub program : Program
  pub file : IsFile widest F program
  pub rows : TypedRows (tables_of F S) R

-- both tallies are written, or neither where one has no room
pub data Writes (p : Program) (R A B A' B' : List ℕ) : Bool → Type 0 where
  writes : type_count p ≤ length A → declaration_count p ≤ length B → A' ≡ by_type p.tables R ++ drop (type_count p) A
      → B' ≡ by_declaration p.tables 0 p.declarations ++ drop (declaration_count p) B → Writes p R A B A' B' true
  no_room : (length A < type_count p) ⊎ (length B < declaration_count p) → A' ≡ A → B' ≡ B → Writes p R A B A' B' false

pub record ToldAccepted (F R A B A' B' : List ℕ) (r : Bool) : Type 0 where
  pub tells : (p : Program) → IsFile widest F p → Writes p R A B A' B' r
