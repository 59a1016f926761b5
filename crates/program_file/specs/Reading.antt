-- Document 01, 'Rows and answers': 1 and 2 by section, leftover bytes 1, then 3, 4, 5; before them 25 (document 02, (xi)); zero bytes are read
-- as the bytes that they mean (document 02, (v)); and demand 1, on the number of an answer. Assumes nothing.
use Rattle.std.specs.Prelude.{◌≡◌, true, false, List, ◌↔◌, ℕ, ◌≤◌, Result, Ok, Err}
use Rattle.oat.specs.Basics.{pick}
use Rattle.oat.specs.TypeRules.{types_right}
use Rattle.oat.specs.TableRules.{tables_right}
use Rattle.oat.specs.ProgramFile.{Limits, limits_of, in_range, Program, meant, IsFile}
use Rattle.file_sections.specs.declared.Sections.{Sections}
use Rattle.file_sections.specs.declared.Unreadable.{Unreadable}
use Rattle.file_sections.specs.declared.Unreadable.TheVariants.{Types, Tables, Nodes}
use Rattle.file_sections.specs.Unreadable.{unreadable_number}
use Rattle.file_sections.specs.Layout.{then_reading, sections_of, tables_of}
use Rattle.node_tree.specs.Tree.{trees_right}
use Rattle.program_file.specs.declared.Limits.{Limits as Given}

-- the limits that a caller gives
abbrev pub setting_of : Given → Limits
setting_of limits = limits_of limits.parts limits.depth

-- the reading of bytes that are there, within limits
unfoldable pub reading_within : Limits → List ℕ → Result Sections Unreadable
reading_within limits s =
    then_reading (sections_of s) λ S.
    pick (types_right limits.parts (tables_of s S))
    (pick (tables_right (tables_of s S))
    (pick (trees_right limits.depth (tables_of s S)) (Ok S) (Err Nodes))
    (Err Tables))
    (Err Types)

-- the reading of a file: a limit out of its range comes before everything else; then the bytes that are meant are read
unfoldable pub reading_of : Limits → List ℕ → Result Sections Unreadable
reading_of limits s = pick (in_range limits) (reading_within limits (meant s)) (Err Unreadable.Limits)

-- document 01's number for a reading: 0 where the file is readable
abbrev pub number_of : Result Sections Unreadable → ℕ
number_of (Ok S) = 0
number_of (Err unreadable) = unreadable_number unreadable

-- the number n of a reading, whatever stands for a refusal: 0 where the file is readable, and else a number that the refusal gives
pub record IsNumberOf {E : Type 0} (gives : E → ℕ → Type 0) (r : Result Sections E) (n : ℕ) : Type 0 where
  pub read : (S : Sections) → r ≡ Ok S → n ≡ 0
  pub refused : (e : E) → r ≡ Err e → gives e n

-- the bytes are a program file within the limits
pub record IsProgramFile (limits : Limits) (F : List ℕ) : Type 0 where
  pub program : Program
  pub file : IsFile limits F program

-- demand 1: what the number n says of the limits and the bytes F
pub record Reads (limits : Limits) (F : List ℕ) (n : ℕ) : Type 0 where
  -- 25 exactly when a limit is out of its range
  pub out_of_range : (n ≡ 25) ↔ (in_range limits ≡ false)
  -- with limits in range the bytes are read exactly when they are a program file
  pub read : (n ≡ 0) ↔ ((in_range limits ≡ true) × IsProgramFile limits F)
  -- and refused under 1 to 5 exactly when they are none
  pub refused : ((1 ≤ n) × (n ≤ 5)) ↔ ((in_range limits ≡ true) × (IsProgramFile limits F → ⊥))
  -- they are the file of one program alone
  pub one_program : (p q : Program) → IsFile limits F p → IsFile limits F q → p ≡ q

-- the same of an answer, whose sections give the tables of the program, in the bytes that are meant
pub record ReadsTables (limits : Limits) (F : List ℕ) (r : Result Sections Unreadable) : Type 0 where
  pub reads : Reads limits F (number_of r)
  pub tables : (S : Sections) → r ≡ Ok S → (p : Program) → IsFile limits F p → p.tables ≡ tables_of (meant F) S
