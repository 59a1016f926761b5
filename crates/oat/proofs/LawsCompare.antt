-- The equations by which a recursive function on types compares two types and counts their pairs, one for each pair of shapes it meets:
-- parameters turn round, so that it always asks whether the one type is below the other. Assumes nothing.
use mathlib.Core.Path.{◌≡◌, refl, ap, sym, subst, ◌∙◌}
use mathlib.Core.Bool.{Bool, true, false, false≢true}
use mathlib.Core.List.{List}
use Prim.Native.Nat.{ℕ, ◌<◌}
use native.Mathlib.Omega.{arith}
use lib.Dec.{eqb}
use borrow.Author.Tests.{eq-eqb, ne_eqb}
use Rattle.oat.specs.TypeRules.{is_reference_kind}
use Rattle.oat.specs.Types.{Ty, int, bool, string, void, struct, array, function, nullable, Tys, no_ty, and_ty, Struct}
use Rattle.oat.specs.Decide.{kind_of, on_struct, struct_below}
use Rattle.oat.specs.Pairs.{Compared, plainly, pair, and_next, if_array, if_function, if_nullable, of_one_number, compare_same, reached, opened, comparison, compare_all, compare}
use Rattle.oat.proofs.LawsSubtyping.{is_ref}
use Rattle.oat.proofs.LawsTurned.{each, params_turn}

-- against a type that isn't nullable
reached_plain : (f : Ty → Compared) (t : Ty) → (kind_of t ≡ 7 → ⊥) → reached true f t ≡ f t
reached_plain f = each _ (λ n. refl) (λ n. refl) (λ n. refl) (λ n. refl) (λ x n. refl) (λ u n. refl) (λ us u n. refl) (λ u n. absurd (n refl))

-- a type of another kind
no_struct : (f : ℕ → Bool) (t : Ty) → (4 ≡ kind_of t → ⊥) → on_struct t f ≡ false
no_struct f = each _ (λ n. refl) (λ n. refl) (λ n. refl) (λ n. refl) (λ x n. absurd (n refl)) (λ u n. refl) (λ us u n. refl) (λ u n. refl)

no_array : (f : Ty → Compared) (t : Ty) → (5 ≡ kind_of t → ⊥) → if_array t f ≡ plainly false
no_array f = each _ (λ n. refl) (λ n. refl) (λ n. refl) (λ n. refl) (λ x n. refl) (λ u n. absurd (n refl)) (λ us u n. refl) (λ u n. refl)

no_function : (f : Tys → Ty → Compared) (t : Ty) → (6 ≡ kind_of t → ⊥) → if_function t f ≡ plainly false
no_function f = each _ (λ n. refl) (λ n. refl) (λ n. refl) (λ n. refl) (λ x n. refl) (λ u n. refl) (λ us u n. absurd (n refl)) (λ u n. refl)

no_nullable : (f : Ty → Compared) (t : Ty) → (7 ≡ kind_of t → ⊥) → if_nullable t f ≡ plainly false
no_nullable f = each _ (λ n. refl) (λ n. refl) (λ n. refl) (λ n. refl) (λ x n. refl) (λ u n. refl) (λ us u n. refl) (λ u n. absurd (n refl))

no_opened : (f : Ty → Compared) (t : Ty) → (7 ≡ kind_of t → ⊥) → opened true f t ≡ plainly false
no_opened f = each _ (λ n. refl) (λ n. refl) (λ n. refl) (λ n. refl) (λ x n. refl) (λ u n. refl) (λ us u n. refl) (λ u n. absurd (n refl))

single : {b c : Bool} → b ≡ c → pair (plainly b) ≡ pair (plainly c)
single e = ap (λ b. pair (plainly b)) e

other_kind : {m n : ℕ} → (m ≡ n → ⊥) → pair (plainly (eqb n m)) ≡ pair (plainly false)
other_kind {m} {n} d = single (ne_eqb n m (λ e. d (sym e)))

-- the equality test: of types of different kinds, and of types that refer to no other
pub same_kinds : (s t : Ty) → (kind_of s ≡ kind_of t → ⊥) → compare_same s t ≡ pair (plainly false)
unfolding compare_same
same_kinds int t d = other_kind d
same_kinds bool t d = other_kind d
same_kinds string t d = other_kind d
same_kinds void t d = other_kind d
same_kinds (struct x) t d = single (no_struct _ t d)
same_kinds (array s) t d = ap pair (no_array _ t d)
same_kinds (function ss s) t d = ap pair (no_function _ t d)
same_kinds (nullable s) t d = ap pair (no_nullable _ t d)

pub same_one : (s t : Ty) → kind_of s < 5 → (compare_same s t).pairs ≡ 1
unfolding compare_same
same_one int t l = refl
same_one bool t l = refl
same_one string t l = refl
same_one void t l = refl
same_one (struct x) t l = refl
same_one (array s) t l = absurd (omega arith)
same_one (function ss s) t l = absurd (omega arith)
same_one (nullable s) t l = absurd (omega arith)

module _ (H : List Struct) where
  -- the same kind, one without operands
  pub compare_base : (s t : Ty) → kind_of s ≡ kind_of t → kind_of s < 4 → compare H s t ≡ pair (plainly true)
  unfolding compare comparison
  compare_base int t e l = single (eq-eqb (kind_of t) 0 (sym e))
  compare_base bool t e l = single (eq-eqb (kind_of t) 1 (sym e))
  compare_base string t e l = reached_plain (λ y. pair (plainly (eqb (kind_of y) 2))) t (λ h. omega arith) ∙ single (eq-eqb (kind_of t) 2 (sym e))
  compare_base void t e l = single (eq-eqb (kind_of t) 3 (sym e))
  compare_base (struct x) t e l = absurd (omega arith)
  compare_base (array s) t e l = absurd (omega arith)
  compare_base (function ss s) t e l = absurd (omega arith)
  compare_base (nullable s) t e l = absurd (omega arith)

  pub compare_struct : (x y : ℕ) → compare H (struct x) (struct y) ≡ pair (plainly (struct_below H x y))
  unfolding compare comparison
  compare_struct x y = refl

  pub compare_array : (s t : Ty) → compare H (array s) (array t) ≡ pair (compare_same s t)
  unfolding compare comparison
  compare_array s t = refl

  pub compare_function : (ts us : Tys) (r q : Ty) → compare H (function ts r) (function us q) ≡ pair (of_one_number ts us (and_next (compare_all H true us ts) (compare H r q)))
  unfolding compare comparison
  compare_function ts us r q = ap (λ c. pair (of_one_number ts us (and_next c ((comparison H true r).ret q)))) (params_turn H ts us)

  -- a reference against a type that isn't nullable, as a reference; and against a nullable type
  ref_compare : (s t : Ty) → is_ref s ≡ true → (kind_of t ≡ 7 → ⊥) → (comparison H true s).ref t ≡ compare H s t
  unfolding compare comparison is_reference_kind
  ref_compare int t k n = absurd (false≢true k)
  ref_compare bool t k n = absurd (false≢true k)
  ref_compare string t k n = sym (reached_plain (λ y. pair (plainly (eqb (kind_of y) 2))) t n)
  ref_compare void t k n = absurd (false≢true k)
  ref_compare (struct x) t k n = sym (reached_plain (λ y. pair (plainly (on_struct y λ z. struct_below H x z))) t n)
  ref_compare (array s) t k n = sym (reached_plain (λ y. pair (if_array y λ u. compare_same s u)) t n)
  ref_compare (function ss s) t k n = sym (reached_plain (λ y. pair (if_function y λ us u. of_one_number ss us (and_next (compare_all H false ss us) ((comparison H true s).ret u)))) t n)
  ref_compare (nullable s) t k n = absurd (false≢true k)

  ref_nullable : (s t : Ty) → is_ref s ≡ true → compare H s (nullable t) ≡ pair ((comparison H true s).ref t)
  unfolding compare comparison is_reference_kind
  ref_nullable int t k = absurd (false≢true k)
  ref_nullable bool t k = absurd (false≢true k)
  ref_nullable string t k = refl
  ref_nullable void t k = absurd (false≢true k)
  ref_nullable (struct x) t k = refl
  ref_nullable (array s) t k = refl
  ref_nullable (function ss s) t k = refl
  ref_nullable (nullable s) t k = absurd (false≢true k)

  pub compare_nullable : (s t : Ty) → is_ref s ≡ true → (kind_of t ≡ 7 → ⊥) → compare H s (nullable t) ≡ pair (compare H s t)
  compare_nullable s t k n = ref_nullable s t k ∙ ap pair (ref_compare s t k n)

  pub compare_nullables : (s t : Ty) → is_ref s ≡ true → (kind_of t ≡ 7 → ⊥) → compare H (nullable s) (nullable t) ≡ pair (compare H s t)
  compare_nullables s t k n = both ∙ ap pair (ref_compare s t k n)
    where
      both : compare H (nullable s) (nullable t) ≡ pair ((comparison H true s).ref t)
      both = unfold compare comparison in refl

  -- different kinds: only a reference goes on, against a nullable type
  pub compare_kinds : (s t : Ty) → (kind_of s ≡ kind_of t → ⊥) → (kind_of t ≡ 7 → ⊥) → compare H s t ≡ pair (plainly false)
  unfolding compare comparison
  compare_kinds int t d n = other_kind d
  compare_kinds bool t d n = other_kind d
  compare_kinds string t d n = reached_plain (λ y. pair (plainly (eqb (kind_of y) 2))) t n ∙ other_kind d
  compare_kinds void t d n = other_kind d
  compare_kinds (struct x) t d n = reached_plain (λ y. pair (plainly (on_struct y λ z. struct_below H x z))) t n ∙ single (no_struct (λ z. struct_below H x z) t d)
  compare_kinds (array s) t d n = reached_plain (λ y. pair (if_array y λ u. compare_same s u)) t n ∙ ap pair (no_array (λ u. compare_same s u) t d)
  compare_kinds (function ss s) t d n = reached_plain (λ y. pair (if_function y λ us u. of_one_number ss us (and_next (compare_all H false ss us) ((comparison H true s).ret u)))) t n ∙ ap pair (no_function (λ us u. of_one_number ss us (and_next (compare_all H false ss us) ((comparison H true s).ret u))) t d)
  compare_kinds (nullable s) t d n = ap pair (no_opened _ t d)

  pub compare_not_ref : (s t : Ty) → (kind_of s ≡ kind_of t → ⊥) → is_ref s ≡ false → compare H s t ≡ pair (plainly false)
  unfolding compare comparison is_reference_kind
  compare_not_ref int t d k = other_kind d
  compare_not_ref bool t d k = other_kind d
  compare_not_ref string t d k = absurd (false≢true (sym k))
  compare_not_ref void t d k = other_kind d
  compare_not_ref (struct x) t d k = absurd (false≢true (sym k))
  compare_not_ref (array s) t d k = absurd (false≢true (sym k))
  compare_not_ref (function ss s) t d k = absurd (false≢true (sym k))
  compare_not_ref (nullable s) t d k = ap pair (no_opened _ t d)

  -- parameters, none of which is void: a type that isn't void compares as a type as it does as a return type
  typ_compare : (s t : Ty) → (kind_of s ≡ 3 → ⊥) → (comparison H true s).typ t ≡ compare H s t
  unfolding compare comparison
  typ_compare int t n = refl
  typ_compare bool t n = refl
  typ_compare string t n = refl
  typ_compare void t n = absurd (n refl)
  typ_compare (struct x) t n = refl
  typ_compare (array s) t n = refl
  typ_compare (function ss s) t n = refl
  typ_compare (nullable s) t n = refl

  pub compare_none : compare_all H true no_ty no_ty ≡ plainly true
  unfolding compare_all
  compare_none = refl

  pub compare_also : (t u : Ty) (ts us : Tys) → (kind_of t ≡ 3 → ⊥) → compare_all H true (and_ty t ts) (and_ty u us) ≡ and_next (compare H t u) (compare_all H true ts us)
  unfolding compare_all
  compare_also t u ts us n = ap (λ c. and_next c (compare_all H true ts us)) (typ_compare t u n)

-- what a nullable type refers to isn't nullable
pub plain : (k : ℕ) → is_reference_kind k ≡ true → k ≡ 7 → ⊥
unfolding is_reference_kind
plain k e h = false≢true (subst (λ n. is_reference_kind n ≡ true) h e)
