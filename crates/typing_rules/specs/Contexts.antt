-- Document 01, 'Typing', with the blocks of document 02, (vi): scopes and contexts. A is what stands for a type: types written out in
-- derivations, type numbers in the definition of the check. Assumes nothing.
use Rattle.std.specs.Prelude.{Bool, true, false, ◌&&◌, List, [], ◌∷◌, ℕ, suc, eqb}
use Rattle.oat.specs.Basics.{pick}
use Rattle.oat.specs.Types.{Struct}

-- a binding: its name, its type, its binder, which is the node that binds it, and the level of the block that it belongs to
pub record Binding (A : Type 0) : Type 0 where
  pub name : ℕ
  pub type : A
  pub binder : ℕ
  pub level : ℕ

-- bindings in the order made
pub data Bindings (A : Type 0) : Type 0 where
  unbound : Bindings A
  bind : Bindings A → Binding A → Bindings A

-- a scope: its block level, that of the block that it belongs to, and the local bindings of this block and of those around it
pub record Scope (A : Type 0) : Type 0 where
  pub level : ℕ
  pub bindings : Bindings A

-- the level 0, where the parameters and a global's initializer stand, with no bindings
abbrev pub empty : {A : Type 0} → Scope A
empty = record { level = 0; bindings = unbound }

-- L, x : t, a binding of the scope's own block
abbrev pub binds : {A : Type 0} → Scope A → ℕ → A → ℕ → Scope A
binds Γ x t b = record { level = Γ.level; bindings = bind Γ.bindings (record { name = x; type = t; binder = b; level = Γ.level }) }

-- in an inner block: one level more
abbrev pub inner : {A : Type 0} → Scope A → Scope A
inner Γ = record { level = suc Γ.level; bindings = Γ.bindings }

-- what a name means
pub data Hit (A : Type 0) : Type 0 where
  hit : A → ℕ → Hit A
  miss : Hit A

abbrev pub is_miss : {A : Type 0} → Hit A → Bool
is_miss miss = true
is_miss (hit t b) = false

-- a name means its nearest binding, which is the latest
unfoldable pub nearest : {A : Type 0} → ℕ → Bindings A → Hit A
nearest x unbound = miss
nearest x (bind B b) = pick (eqb b.name x) (hit b.type b.binder) (nearest x B)

abbrev pub find : {A : Type 0} → ℕ → Scope A → Hit A
find x Γ = nearest x Γ.bindings

-- x ∉ L: no block has bound the name
abbrev pub is_unbound : {A : Type 0} → ℕ → Scope A → Bool
is_unbound x Γ = is_miss (find x Γ)

-- no binding of the level l has the name
unfoldable pub is_fresh_at : {A : Type 0} → ℕ → ℕ → Bindings A → Bool
is_fresh_at l x unbound = true
is_fresh_at l x (bind B b) = pick (eqb b.level l && eqb b.name x) false (is_fresh_at l x B)

-- the scope's own block has not bound the name
abbrev pub is_fresh : {A : Type 0} → ℕ → Scope A → Bool
is_fresh x Γ = is_fresh_at Γ.level x Γ.bindings

-- the name of a built-in, a function or a global; only a global can be assigned
pub record Entry (A : Type 0) : Type 0 where
  pub name : ℕ
  pub type : A
  pub binder : ℕ
  pub assignable : Bool

-- a context: the structs declared so far with their fields, and the names of built-ins, functions and globals so far, the latest first
pub record Context (A : Type 0) : Type 0 where
  pub structs : List Struct
  pub names : List (Entry A)

unfoldable pub find_name : {A : Type 0} → ℕ → List (Entry A) → Hit A
find_name x [] = miss
find_name x (e ∷ es) = pick (eqb e.name x) (hit e.type e.binder) (find_name x es)

-- the name is that of a function or a built-in
unfoldable pub is_fixed : {A : Type 0} → ℕ → List (Entry A) → Bool
is_fixed x [] = false
is_fixed x (e ∷ es) = pick (eqb e.name x) (pick e.assignable false true) (is_fixed x es)

-- a local binding of the name, or else what the context has
abbrev pub or_else : {A : Type 0} → Hit A → Hit A → Hit A
or_else (hit t b) other = hit t b
or_else miss other = other
