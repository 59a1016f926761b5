-- Scopes and contexts as the buffers hold them. A position is a built-in's number, or the number of built-ins plus that of an entry of
-- the stack W, two numbers each: binder and type. A scope is a height. Assumes nothing.
use Rattle.std.specs.Prelude.{◌≡◌, Bool, true, false, not, List, [], ◌∷◌, ℕ, zero, suc, ◌+◌, ◌-◌, ◌*◌, ◌%◌, ◌≤◌, ◌<◌, length, get_or, eqb, ltb, Option, Some as At, None as Nothing}
use Rattle.oat.specs.Basics.{pick}
use Rattle.oat.specs.Tables.{Tables, built_in_at, node_at}
use Rattle.chains.specs.Chains.{highest, Chains}
use Rattle.typing_rules.specs.Contexts.{Scope, empty, binds, Entry, find, is_unbound, is_fresh_at, is_fresh, is_fixed}
use Rattle.file_sections.specs.declared.Sections.{Sections}
use Rattle.file_sections.specs.Layout.{Laid, tables_of}
use Rattle.file_sections.specs.Frames.{Same}

-- where the entry of the position j stands in the stack
abbrev pub entry_of : Tables → ℕ → ℕ
entry_of T j = (j - length T.built_ins) * 2

-- the binder, the type and the name of the position j, and whether it can be assigned: whether it is a global's
unfoldable pub binder_of : Tables → List ℕ → ℕ → ℕ
binder_of T W j = pick (ltb j (length T.built_ins)) (40000 + j) (get_or W (entry_of T j) 0)

unfoldable pub type_bound : Tables → List ℕ → ℕ → ℕ
type_bound T W j = pick (ltb j (length T.built_ins)) (built_in_at T j).type (get_or W (entry_of T j + 1) 0)

unfoldable pub name_bound : Tables → List ℕ → ℕ → ℕ
name_bound T W j = pick (ltb j (length T.built_ins)) (built_in_at T j).name (node_at T (get_or W (entry_of T j) 0)).x

unfoldable pub is_global : Tables → List ℕ → ℕ → Bool
is_global T W j = pick (ltb j (length T.built_ins)) false (eqb (node_at T (get_or W (entry_of T j) 0)).kind 1)

-- the names of built-ins, functions and globals: the positions below `base`, the latest first
unfoldable pub names_of : Tables → List ℕ → ℕ → List (Entry ℕ)
names_of T W zero = []
names_of T W (suc j) =
    record { name = name_bound T W j; type = type_bound T W j; binder = binder_of T W j; assignable = is_global T W j } ∷ names_of T W j

-- the positions from `base` on and below s, as a scope of one block
unfoldable pub scope_of : Tables → List ℕ → ℕ → ℕ → Scope ℕ
scope_of T W base zero = empty
scope_of T W base (suc j) = pick (ltb j base) empty (binds (scope_of T W base j) (name_bound T W j) (type_bound T W j) (binder_of T W j))

-- the position one below the number; none below 0
abbrev pub found_below : ℕ → Option ℕ
found_below zero = Nothing
found_below (suc j) = At j

-- the latest position of the name x below s
unfoldable pub latest : Tables → List ℕ → ℕ → ℕ → Option ℕ
latest T W x s = found_below (highest (name_bound T W) x s)

-- the chains K lead through the positions below s, by the remainders of their names by 512
pub record Chained (T : Tables) (W K : List ℕ) (s : ℕ) : Type 0 where
  pub long : 4736 ≤ length K
  pub chains : Chains 0 512 512 (λ j. name_bound T W j % 512) K s

-- the stack has the position j: a built-in, or an entry whose binder is a node
pub record Position (F : List ℕ) (S : Sections) (W : List ℕ) (j : ℕ) : Type 0 where
  pub laid : Laid F S
  pub long : S.nodes * 2 ≤ length W
  pub high : j < S.built_ins + S.nodes
  pub node : S.built_ins ≤ j → get_or W (entry_of (tables_of F S) j) 0 < S.nodes

-- the stack W and the chains K hold a scope of the height s
pub record Scoped (F : List ℕ) (S : Sections) (W K : List ℕ) (s : ℕ) : Type 0 where
  pub laid : Laid F S
  pub long : S.nodes * 2 ≤ length W
  pub high : s ≤ S.built_ins + S.nodes
  pub binders : (j : ℕ) → j < s → S.built_ins ≤ j → get_or W (entry_of (tables_of F S) j) 0 < S.nodes
  pub types : (j : ℕ) → j < s → type_bound (tables_of F S) W j < S.types
  pub chained : Chained (tables_of F S) W K s

-- they hold some scope
pub record Some (F : List ℕ) (S : Sections) (W K : List ℕ) : Type 0 where
  pub height : ℕ
  pub scoped : Scoped F S W K height

-- some scope whose locals stand from the position `base` on
pub record SomeFrom (F : List ℕ) (S : Sections) (W K : List ℕ) (base : ℕ) : Type 0 where
  pub some : Some F S W K
  pub low : base ≤ some.height

-- the stack W holds the scope Γ at the height s: its locals stand from `base` on, those of its own block from `start` on
pub record Holds (T : Tables) (W : List ℕ) (base start s : ℕ) (Γ : Scope ℕ) : Type 0 where
  pub low : start ≤ s
  pub means : (x : ℕ) → find x Γ ≡ find x (scope_of T W base s)
  pub fresh : (x : ℕ) → is_fresh x Γ ≡ is_unbound x (scope_of T W start s)
  pub deepest : (l x : ℕ) → Γ.level < l → is_fresh_at l x Γ.bindings ≡ true

-- what `find`, `is_fresh` and `is_assignable` answer, in the scope that the buffers hold
pub record Finds (F : List ℕ) (S : Sections) (W K : List ℕ) (x : ℕ) (r : Option ℕ) : Type 0 where
  pub found : (s : ℕ) → Scoped F S W K s → r ≡ latest (tables_of F S) W x s

pub record Freshness (F : List ℕ) (S : Sections) (W K : List ℕ) (start x : ℕ) (r : Bool) : Type 0 where
  pub tells : (s : ℕ) → Scoped F S W K s → r ≡ is_unbound x (scope_of (tables_of F S) W start s)

pub record Assignability (F : List ℕ) (S : Sections) (W K : List ℕ) (base x : ℕ) (r : Bool) : Type 0 where
  pub tells : (s : ℕ) → Scoped F S W K s
      → r ≡ pick (is_unbound x (scope_of (tables_of F S) W base s)) (not (is_fixed x (names_of (tables_of F S) W base))) true

-- there is room for a binding of the node, with the type t, at the height s
pub record Bindable (F : List ℕ) (S : Sections) (W K : List ℕ) (s node t : ℕ) : Type 0 where
  pub scoped : Scoped F S W K s
  pub low : S.built_ins ≤ s
  pub room : s < S.built_ins + S.nodes
  pub node_there : node < S.nodes
  pub type_there : t < S.types

-- the buffers after it
pub record Bound (F : List ℕ) (S : Sections) (W K : List ℕ) (s node t : ℕ) (W' K' : List ℕ) : Type 0 where
  pub scoped : Scoped F S W' K' (s + 1)
  pub same : Same (entry_of (tables_of F S) s) W W'
  pub binder : binder_of (tables_of F S) W' s ≡ node
  pub type : type_bound (tables_of F S) W' s ≡ t
  pub name : name_bound (tables_of F S) W' s ≡ (node_at (tables_of F S) node).x
