-- Limits that grow (document 02, (xi)): what stays, and which files move, between two settings of which the second is at least the first in
-- both. Assumes nothing.
use Rattle.std.specs.Prelude.{◌≡◌, true, List, ◌⊎◌, ℕ, ◌≤◌, ◌<◌, length, take, Ok}
use Rattle.oat.specs.TypeRules.{parts_at, types_right}
use Rattle.oat.specs.Syntax.{depth_decls}
use Rattle.oat.specs.ProgramFile.{Limits, Program, meant, IsFile}
use Rattle.file_sections.specs.declared.Sections.{Sections}
use Rattle.file_sections.specs.Layout.{sections_of, tables_of}
use Rattle.demand3.specs.CheckFile.{needed, Outcome}

-- a number that lasts when limits grow: acceptance, 6, and a typing refusal
abbrev pub Lasting : ℕ → Type 0
Lasting n = (n ≡ 0) ⊎ ((6 ≤ n) × (n ≤ 16))

-- the same number, step, place and pairs, and the same rows of the nodes
pub record SameAnswer (p : Program) (o u : Outcome) : Type 0 where
  pub number : o.number ≡ u.number
  pub step : o.step ≡ u.step
  pub place : o.place ≡ u.place
  pub pairs : o.pairs ≡ u.pairs
  pub rows : take (needed p) o.rows ≡ take (needed p) u.rows

-- the sections of the bytes that are meant can be cut, some type has more parts than the limits a let it have, and under b no rule of types is broken
pub record MoreParts (a b : Limits) (bytes : List ℕ) : Type 0 where
  pub sections : Sections
  pub cut : sections_of (meant bytes) ≡ Ok sections
  pub type : ℕ
  pub there : type < length (tables_of (meant bytes) sections).types
  pub more : a.parts < parts_at (tables_of (meant bytes) sections) type
  pub right : types_right b.parts (tables_of (meant bytes) sections) ≡ true

-- the bytes are a program file under b, and its trees are deeper than the limits a let them be
pub record Deeper (a b : Limits) (bytes : List ℕ) : Type 0 where
  pub program : Program
  pub file : IsFile b bytes program
  pub more : a.depth < depth_decls program.declarations

-- how the outcomes o under a and u under b go together: they are the same, or a alone refuses under 3, or a alone refuses under 5
pub data Moves (a b : Limits) (bytes : List ℕ) (o u : Outcome) : Type 0 where
  stays : o ≡ u → Moves a b bytes o u
  by_parts : o.number ≡ 3 → (u.number ≡ 3 → ⊥) → MoreParts a b bytes → Moves a b bytes o u
  by_depth : o.number ≡ 5 → Lasting u.number → Deeper a b bytes → Moves a b bytes o u
