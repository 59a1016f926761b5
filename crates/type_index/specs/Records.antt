-- The chains of struct records by name. Assumes nothing.
use Rattle.std.specs.Prelude.{◌≡◌, List, ℕ, ◌-◌, ◌%◌, ◌≤◌, ◌<◌, length, get_or}
use Rattle.oat.specs.Tables.{Tables, struct_at}
use Rattle.chains.specs.Chains.{Chains}
use Rattle.file_sections.specs.declared.Sections.{Sections}
use Rattle.file_sections.specs.Layout.{Laid}

-- the name of the record that is the k-th from the last
abbrev pub name_from_last : Tables → ℕ → ℕ
name_from_last T k = (struct_at T (length T.structs - 1 - k)).name

-- the last m records are chained
pub record Recorded (records : List ℕ) (T : Tables) (m : ℕ) : Type 0 where
  pub long : 320 ≤ length records
  pub chains : Chains 0 64 64 (λ k. name_from_last T k % 64) records m

-- there is no chain yet
pub record RecordsFresh (s : List ℕ) (S : Sections) (records : List ℕ) : Type 0 where
  pub laid : Laid s S
  pub long : 320 ≤ length records
  pub none : (h : ℕ) → h < 64 → get_or records h 0 ≡ 0
