-- The shape of a node by its kind: what each arm of a `match` on the kind answers. Assumes nothing.
use mathlib.Core.Path.{◌≡◌, refl, ◌∙◌, ap}
use mathlib.Core.Bool.{Bool, true, false, ◌&&◌}
use mathlib.Core.List.{List, [], ◌∷◌, map}
use Prim.Native.Nat.{ℕ, zero, suc, ◌+◌, ◌<◌, ◌≤◌}
use native.Mathlib.Omega.{arith}
use lib.ListN.{length}
use lib.Dec.{T, eqb, leb, ltb}
use borrow.Author.Tests.{eqb-true, eqb-false, leb-true, eq-eqb, ne_eqb, lt-leb}
use Rattle.oat.specs.Basics.{pick}
use Rattle.oat.specs.Tables.{Tables}
use Rattle.oat.specs.TypeRules.{kind_at, is_reference_kind}
use Rattle.oat.specs.TableRules.{has_kind}
use Rattle.oat.specs.Nodes.{has_reference_kind}
use Rattle.node_tree.specs.Shape.{within, t_fits}
use Rattle.node_tree.specs.Demands.{kind_or, TypeFits}

-- n numbers from a on
abbrev from : ℕ → ℕ → List ℕ
from a zero = []
from a (suc n) = a ∷ from (suc a) n

-- f is v at each number of an arm's range, and k lies in it
at_range : {A : Type 0} (f : ℕ → A) (v : A) (a n : ℕ) → map f (from a n) ≡ map (λ i. v) (from a n) → (k : ℕ) → a ≤ k → k < a + n → v ≡ f k
at_range f v a zero e k l h = absurd (omega arith)
at_range f v a (suc n) e k l h = go (eqb k a) refl (λ ne. at_range f v (suc a) n (cc) k (omega arith) (omega arith))
  where
    go : (b : Bool) → eqb k a ≡ b → ((k ≡ a → ⊥) → v ≡ f k) → v ≡ f k
    go true t r = rw (eqb-true k a t) (cc)
    go false t r = r (eqb-false k a t)

-- k lies outside of the range
outside : (a k b : ℕ) → (a ≤ k → b < k) → within a k b ≡ false
outside a k b h = go (leb a k) refl
  where
    go : (t : Bool) → leb a k ≡ t → (t && leb k b) ≡ false
    go true e = lt-leb k b (h (leb-true a k e))
    go false e = refl

-- a choice by whether two numbers are equal
pub picked : {A : Type 0} (a b : ℕ) (x y : A) → a ≡ b → x ≡ pick (eqb a b) x y
picked a b x y e = rw (eq-eqb a b e)

pub not_picked : {A : Type 0} (a b : ℕ) (x y : A) → (a ≡ b → ⊥) → y ≡ pick (eqb a b) x y
not_picked a b x y h = rw (ne_eqb a b h)

-- the type t: its kind, where there is such a type, answers what is asked of it
pub kind_asked : (T : Tables) (t r q : ℕ) → r ≡ kind_or T t → q < 65536 → eqb r q ≡ has_kind T t q
unfolding kind_or has_kind
kind_asked T t r q e h = ap (λ (m : ℕ). eqb m q) e ∙ go (ltb t (length T.types))
  where
    go : (b : Bool) → eqb (pick b (kind_at T t) 65536) q ≡ (b && eqb (kind_at T t) q)
    go true = refl
    go false = ne_eqb 65536 q (λ f. omega arith)

reference_asked : (T : Tables) (t r : ℕ) → r ≡ kind_or T t → is_reference_kind r ≡ has_reference_kind T t
unfolding kind_or is_reference_kind has_reference_kind
reference_asked T t r e = ap is_reference_kind e ∙ go (ltb t (length T.types))
  where
    go : (b : Bool) → is_reference_kind (pick b (kind_at T t) 65536) ≡ (b && is_reference_kind (kind_at T t))
    go true = refl
    go false = refl

module _ (k t kind : ℕ) where
  pub t_2 : k ≡ 2 → TypeFits k t kind (eqb kind 6)
  unfolding t_fits
  t_2 e = record { is = λ T f. rw e (kind_asked T t kind 6 f (omega arith)) }

  pub t_10 : k ≡ 10 → TypeFits k t kind (eqb kind 7)
  unfolding t_fits
  t_10 e = record { is = λ T f. rw e (kind_asked T t kind 7 f (omega arith)) }

  pub t_16 : 16 ≤ k → k < 19 → TypeFits k t kind (eqb kind 5)
  unfolding t_fits
  t_16 a b = record {
    is =
        λ T f. kind_asked T t kind 5 f (omega arith) ∙ at_range (λ i. t_fits T i t) (has_kind T t 5) 16 3 refl k a b;
  }

  pub t_21 : k ≡ 21 → TypeFits k t kind (eqb kind 4)
  unfolding t_fits
  t_21 e = record { is = λ T f. rw e (kind_asked T t kind 4 f (omega arith)) }

  pub t_36 : (r : Bool) → k ≡ 36 → r ≡ is_reference_kind kind → TypeFits k t kind r
  unfolding t_fits
  t_36 r e h = record { is = λ T f. h ∙ rw e (reference_asked T t kind f) }

  pub t_other : (k ≡ 2 → ⊥) → (k ≡ 10 → ⊥) → (k ≡ 21 → ⊥) → (k ≡ 36 → ⊥) → (16 ≤ k → 18 < k) → TypeFits k t kind (eqb t 0)
  unfolding t_fits
  t_other a b c d r = record {
    is = λ T f. simp (ne_eqb k 2 a, ne_eqb k 10 b, outside 16 k 18 r, ne_eqb k 21 c, ne_eqb k 36 d);
  }
