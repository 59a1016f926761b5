-- Levels: which names the own block of a scope has bound, with one binding more and from an inner block. Assumes nothing.
use mathlib.Core.Path.{◌≡◌, refl}
use mathlib.Core.Bool.{true, false}
use Prim.Native.Nat.{ℕ, suc, ◌<◌}
use native.Mathlib.Omega.{arith}
use lib.Dec.{eqb}
use borrow.Author.Tests.{eq-eqb, ne_eqb}
use Rattle.oat.specs.Basics.{pick}
use Rattle.typing_rules.specs.Contexts.{Scope, empty, binds, inner, is_fresh_at, is_fresh}

-- no binding of the scope is of a deeper block
abbrev pub Deepest : Scope ℕ → Type 0
Deepest Γ = (l x : ℕ) → Γ.level < l → is_fresh_at l x Γ.bindings ≡ true

pub deepest_empty : Deepest empty
unfolding is_fresh_at
deepest_empty l x h = refl

module _ (Γ : Scope ℕ) (d : Deepest Γ) where
  pub deepest_inner : Deepest (inner Γ)
  deepest_inner l x h = d l x (omega arith)

  pub deepest_binds : (y t n : ℕ) → Deepest (binds Γ y t n)
  unfolding is_fresh_at
  deepest_binds y t n l x h = rw (ne_eqb Γ.level l (λ e. omega arith)) (d l x h)

  -- an inner block has bound nothing yet
  pub fresh_inner : (x : ℕ) → is_fresh x (inner Γ) ≡ true
  fresh_inner x = d (suc Γ.level) x (omega arith)

-- what is bound is not fresh, and what else is fresh stays so
pub fresh_binds : {A : Type 0} (Γ : Scope A) (y : ℕ) (t : A) (n x : ℕ) → is_fresh x (binds Γ y t n) ≡ pick (eqb y x) false (is_fresh x Γ)
unfolding is_fresh_at
fresh_binds Γ y t n x = rw (eq-eqb Γ.level Γ.level refl)
