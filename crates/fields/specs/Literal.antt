-- The names of a struct literal. Assumes nothing.
use Rattle.std.specs.Prelude.{◌≡◌, Bool, true, ◌&&◌, List, [], ◌∷◌, ℕ, ltb}
use Rattle.oat.specs.Types.{Field}
use Rattle.oat.specs.Syntax.{Inits, count_inits}
use Rattle.oat.specs.Nodes.{InitsStand}
use Rattle.typing_rules.specs.Rules.{named_times}
use Rattle.file_sections.specs.declared.Sections.{Sections}
use Rattle.file_sections.specs.Layout.{Laid, tables_of}

-- an initializer has the name x
unfoldable pub is_named : ℕ → Inits → Bool
is_named x is = ltb 0 (named_times x is)

-- each field's name is that of an initializer
unfoldable pub all_named : List Field → Inits → Bool
all_named [] is = true
all_named (f ∷ fs) is = is_named f.name is && all_named fs is

-- `count` initializers stand at the node n
pub record Initializers (F : List ℕ) (S : Sections) (n count : ℕ) : Type 0 where
  pub laid : Laid F S
  pub inits : Inits
  pub stand : InitsStand (tables_of F S) n inits
  pub counted : count_inits inits ≡ count

-- what holds of the initializers, whichever they are
pub record OfInitializers (F : List ℕ) (S : Sections) (n count : ℕ) (P : Inits → Type 0) : Type 0 where
  pub holds : (is : Inits) → InitsStand (tables_of F S) n is → count_inits is ≡ count → P is
