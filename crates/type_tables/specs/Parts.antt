-- What the code that counts a type's parts relies on. Assumes nothing.
use Rattle.std.specs.Prelude.{◌≡◌, Bool, ◌&&◌, List, ℕ, ◌+◌, ◌≤◌, ◌<◌, length, get_or, leb}
use Rattle.oat.specs.Basics.{sum_below}
use Rattle.oat.specs.Tables.{Tables, type_at, entry_at}
use Rattle.oat.specs.TypeRules.{type_rule, parts_at}

-- `parts` has room for every type, and holds the parts of the types below i
pub record Measured (parts : List ℕ) (T : Tables) (i : ℕ) : Type 0 where
  pub long : 512 ≤ length parts
  pub each : (j : ℕ) → j < i → get_or parts j 0 ≡ parts_at T j

-- the parts of the `count` parameters from the entry `first` on, where `parts` holds those of lower types
unfoldable pub param_parts : List ℕ → Tables → ℕ → ℕ → ℕ
param_parts parts T first count = sum_below count (λ j. get_or parts (entry_at T (first + j)) 0)

-- the type i keeps its rule and has at most `most` parts
unfoldable pub keeps : ℕ → Tables → ℕ → Bool
keeps most T i = type_rule T i (type_at T i) && leb (parts_at T i) most
