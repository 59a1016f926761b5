-- A test on a type's shape is true exactly when the type has that shape; so two types pass `same_ty` exactly when they are equal, and
-- fields begin with others exactly when they are those and more. Assumes nothing.
use mathlib.Core.Path.{◌≡◌, refl, ap, ap₂, sym, subst}
use mathlib.Core.Logic.{◌↔◌}
use mathlib.Core.Bool.{Bool, true, false, ◌&&◌, false≢true}
use mathlib.Core.List.{List, [], ◌∷◌, ◌++◌}
use Prim.Native.Nat.{ℕ}
use native.Mathlib.Omega.{arith}
use lib.Dec.{eqb}
use borrow.Author.Tests.{eqb-true, eq-eqb}
use Rattle.oat.specs.Basics.{pick}
use Rattle.oat.specs.Types.{Ty, int, bool, string, void, struct, array, function, nullable, Tys, no_ty, and_ty, Field}
use Rattle.oat.specs.Decide.{kind_of, on_struct, on_array, on_function, on_nullable, on_also, is_none, same_ty, same_tys, begins_with}
use Rattle.oat.proofs.LawsBasics.{and_parts, and_both}

-- two tests that are true together are equal
pub both_true : (a b : Bool) → (a ≡ true) ↔ (b ≡ true) → a ≡ b
both_true true b h = sym (h.0 refl)
both_true false true h = h.1 refl
both_true false false h = refl

-- one after the other
pub iff_then : {A B C : Type 0} → A ↔ B → B ↔ C → A ↔ C
iff_then f g = (λ a. g.0 (f.0 a), λ c. f.1 (g.1 c))

-- a conjunction says both
pub and_says : (a b : Bool) {A B : Type 0} → (a ≡ true) ↔ A → (b ≡ true) ↔ B → (a && b ≡ true) ↔ (A × B)
and_says a b f g =
    (λ e. let (p, q) = and_parts a b e in (f.0 p, g.0 q), λ h. and_both a b (f.1 h.0) (g.1 h.1))

-- a test that fails, and what would make it pass
pub never : {P : Type 0} → (P → false ≡ true) → (false ≡ true) ↔ P
never n = (λ e. absurd (false≢true e), n)

-- P holds only of types of one kind: a test for that kind is true exactly when P holds
abbrev Base : ℕ → Ty → Type 0
Base k t = pick (eqb k 0) (int ≡ t) (pick (eqb k 1) (bool ≡ t) (pick (eqb k 2) (string ≡ t) (pick (eqb k 3) (void ≡ t) Unit)))

base : (t : Ty) → Base (kind_of t) t
base int = refl
base bool = refl
base string = refl
base void = refl
base (struct x) = tt
base (array t) = tt
base (function ts t) = tt
base (nullable t) = tt

module _ (P : Ty → Type 0) where
  abbrev pub Only : ℕ → Type 0
  Only k = (t : Ty) → P t → eqb (kind_of t) k ≡ true

  on_base : (k : ℕ) (b t : Ty) → (Base k t → b ≡ t) → Only k → P b → (eqb (kind_of t) k ≡ true) ↔ P t
  on_base k b t is only h = (λ e. subst P (is (subst (λ n. Base n t) (eqb-true (kind_of t) k e) (base t))) h, only t)

  pub on_int : Only 0 → P int → (t : Ty) → (eqb (kind_of t) 0 ≡ true) ↔ P t
  on_int only h t = on_base 0 int t (λ e. e) only h

  pub on_bool : Only 1 → P bool → (t : Ty) → (eqb (kind_of t) 1 ≡ true) ↔ P t
  on_bool only h t = on_base 1 bool t (λ e. e) only h

  pub on_string : Only 2 → P string → (t : Ty) → (eqb (kind_of t) 2 ≡ true) ↔ P t
  on_string only h t = on_base 2 string t (λ e. e) only h

  pub on_void : Only 3 → P void → (t : Ty) → (eqb (kind_of t) 3 ≡ true) ↔ P t
  on_void only h t = on_base 3 void t (λ e. e) only h

  pub at_struct : (k : ℕ → Bool) → Only 4 → ((x : ℕ) → (k x ≡ true) ↔ P (struct x)) → (t : Ty) → (on_struct t k ≡ true) ↔ P t
  at_struct k only h int = never (only int)
  at_struct k only h bool = never (only bool)
  at_struct k only h string = never (only string)
  at_struct k only h void = never (only void)
  at_struct k only h (struct x) = h x
  at_struct k only h (array t) = never (only (array t))
  at_struct k only h (function ts t) = never (only (function ts t))
  at_struct k only h (nullable t) = never (only (nullable t))

  pub on-array : (k : Ty → Bool) → Only 5 → ((u : Ty) → (k u ≡ true) ↔ P (array u)) → (t : Ty) → (on_array t k ≡ true) ↔ P t
  on-array k only h int = never (only int)
  on-array k only h bool = never (only bool)
  on-array k only h string = never (only string)
  on-array k only h void = never (only void)
  on-array k only h (struct x) = never (only (struct x))
  on-array k only h (array t) = h t
  on-array k only h (function ts t) = never (only (function ts t))
  on-array k only h (nullable t) = never (only (nullable t))

  pub on-function : (k : Tys → Ty → Bool) → Only 6 → ((us : Tys) (u : Ty) → (k us u ≡ true) ↔ P (function us u))
      → (t : Ty) → (on_function t k ≡ true) ↔ P t
  on-function k only h int = never (only int)
  on-function k only h bool = never (only bool)
  on-function k only h string = never (only string)
  on-function k only h void = never (only void)
  on-function k only h (struct x) = never (only (struct x))
  on-function k only h (array t) = never (only (array t))
  on-function k only h (function ts t) = h ts t
  on-function k only h (nullable t) = never (only (nullable t))

  pub on-nullable : (k : Ty → Bool) → Only 7 → ((u : Ty) → (k u ≡ true) ↔ P (nullable u)) → (t : Ty) → (on_nullable t k ≡ true) ↔ P t
  on-nullable k only h int = never (only int)
  on-nullable k only h bool = never (only bool)
  on-nullable k only h string = never (only string)
  on-nullable k only h void = never (only void)
  on-nullable k only h (struct x) = never (only (struct x))
  on-nullable k only h (array t) = never (only (array t))
  on-nullable k only h (function ts t) = never (only (function ts t))
  on-nullable k only h (nullable t) = h t

-- the same of lists
module _ (P : Tys → Type 0) where
  pub on_none : ((ts : Tys) → P ts → is_none ts ≡ true) → P no_ty → (ts : Tys) → (is_none ts ≡ true) ↔ P ts
  on_none only h no_ty = (λ e. h, λ p. refl)
  on_none only h (and_ty t ts) = never (only (and_ty t ts))

  pub on-also : (k : Ty → Tys → Bool) → (P no_ty → false ≡ true) → ((u : Ty) (us : Tys) → (k u us ≡ true) ↔ P (and_ty u us))
      → (ts : Tys) → (on_also ts k ≡ true) ↔ P ts
  on-also k only h no_ty = never only
  on-also k only h (and_ty t ts) = h t ts

-- equal types are of one kind
kind_same : (s t : Ty) → s ≡ t → eqb (kind_of t) (kind_of s) ≡ true
kind_same s t e = eq-eqb (kind_of t) (kind_of s) (sym (ap kind_of e))

both_functions : (ts us : Tys) (t u : Ty) → ((ts ≡ us) × (t ≡ u)) ↔ (function ts t ≡ function us u)
both_functions ts us t u = (λ h. ap₂ function h.0 h.1, λ e. (cc, cc))

both_also : (ts us : Tys) (t u : Ty) → ((t ≡ u) × (ts ≡ us)) ↔ (and_ty t ts ≡ and_ty u us)
both_also ts us t u = (λ h. ap₂ and_ty h.0 h.1, λ e. (cc, cc))

mutual
  unfolding same_ty same_tys

  pub same_is : (s t : Ty) → (same_ty s t ≡ true) ↔ (s ≡ t)
  same_is int t = on_int (λ y. int ≡ y) (kind_same int) refl t
  same_is bool t = on_bool (λ y. bool ≡ y) (kind_same bool) refl t
  same_is string t = on_string (λ y. string ≡ y) (kind_same string) refl t
  same_is void t = on_void (λ y. void ≡ y) (kind_same void) refl t
  same_is (struct x) t =
      at_struct (λ y. struct x ≡ y) (λ z. eqb x z) (kind_same (struct x))
      (λ z. (λ e. ap struct (eqb-true x z e), λ e. eq-eqb x z (cc))) t
  same_is (array s) t =
      on-array (λ y. array s ≡ y) (λ u. same_ty s u) (kind_same (array s))
      (λ u. iff_then (same_is s u) (λ e. ap array e, λ e. (cc))) t
  same_is (function ss s) t =
      on-function (λ y. function ss s ≡ y) (λ us u. same_tys ss us && same_ty s u) (kind_same (function ss s))
      (λ us u. iff_then (and_says (same_tys ss us) (same_ty s u) (sames_is ss us) (same_is s u)) (both_functions ss us s u)) t
  same_is (nullable s) t =
      on-nullable (λ y. nullable s ≡ y) (λ u. same_ty s u) (kind_same (nullable s))
      (λ u. iff_then (same_is s u) (λ e. ap nullable e, λ e. (cc))) t

  pub sames_is : (ss ts : Tys) → (same_tys ss ts ≡ true) ↔ (ss ≡ ts)
  sames_is no_ty ts = on_none (λ ys. no_ty ≡ ys) (λ ys e. sym (ap is_none e)) refl ts
  sames_is (and_ty s ss) ts =
      on-also (λ ys. and_ty s ss ≡ ys) (λ u us. same_ty s u && same_tys ss us) (λ e. ap is_none e)
      (λ u us. iff_then (and_says (same_ty s u) (same_tys ss us) (same_is s u) (sames_is ss us)) (both_also ss us s u)) ts

pub same_sound : (s t : Ty) → same_ty s t ≡ true → s ≡ t
same_sound s t = (same_is s t).0

pub same_refl : (t : Ty) → same_ty t t ≡ true
same_refl t = (same_is t t).1 refl

pub same_sym : (s t : Ty) → same_ty s t ≡ same_ty t s
same_sym s t =
    both_true (same_ty s t) (same_ty t s) (iff_then (same_is s t) (λ e. (same_is t s).1 (sym e), λ e. sym ((same_is t s).0 e)))

pub sames_sound : (ss ts : Tys) → same_tys ss ts ≡ true → ss ≡ ts
sames_sound ss ts = (sames_is ss ts).0

pub sames_refl : (ts : Tys) → same_tys ts ts ≡ true
sames_refl ts = (sames_is ts ts).1 refl

pub sames_sym : (ss ts : Tys) → same_tys ss ts ≡ same_tys ts ss
sames_sym ss ts =
    both_true (same_tys ss ts) (same_tys ts ss) (iff_then (sames_is ss ts) (λ e. (sames_is ts ss).1 (sym e), λ e. sym ((sames_is ts ss).0 e)))

-- one field
field_is : (m n : Field) → (eqb m.name n.name && same_ty m.type n.type ≡ true) ↔ (m ≡ n)
field_is m n =
    iff_then
    (and_says (eqb m.name n.name) (same_ty m.type n.type) (eqb-true _ _, eq-eqb _ _) (same_is m.type n.type))
    (λ h i. record { name = h.0 i; type = h.1 i }, λ e. (ap (λ f. f.name) e, ap (λ f. f.type) e))

pub begins_is : (ms ns : List Field) → (begins_with ms ns ≡ true) ↔ ((more : List Field) × (ms ≡ ns ++ more))
unfolding begins_with
begins_is ms [] = (λ e. (ms, refl), λ h. refl)
begins_is [] (n ∷ ns) = (λ e. absurd (false≢true e), λ h. absurd (let e = h.1 in let z : ◌≡◌ {A = ℕ} 0 1 = cc in omega arith))
begins_is (m ∷ ms) (n ∷ ns) =
    iff_then
    (and_says (eqb m.name n.name && same_ty m.type n.type) (begins_with ms ns) (field_is m n) (begins_is ms ns))
    (λ h. (h.1.0, ap₂ ◌∷◌ h.0 h.1.1), λ h. let e = h.1 in (cc, (h.0, cc)))
