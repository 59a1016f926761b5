-- The decision of well-formedness is true exactly when the rules derive it, for each judgement. Assumes nothing.
use mathlib.Core.Path.{◌≡◌, refl, sym, ◌∙◌}
use mathlib.Core.Logic.{◌↔◌}
use mathlib.Core.Bool.{Bool, true, false, ◌&&◌, false≢true, true≢false}
use mathlib.Core.List.{List}
use Prim.Native.Nat.{ℕ}
use native.Mathlib.Omega.{arith}
use lib.Dec.{eqb}
use Rattle.oat.specs.TypeRules.{is_reference_kind}
use Rattle.oat.specs.Types.{Ty, int, bool, string, void, struct, array, function, nullable, Tys, no_ty, and_ty, Field, Struct, Lookup, found, missing, lookup}
use Rattle.oat.specs.Subtyping.{Formed, wf_typok_int, wf_typok_bool, wf_typok_ref, wf_typok_refq, FormedRef, wf_reftok_string, wf_reftok_array, wf_reftok_struct, wf_reftok_funt, FormedRet, wf_rtypok_void, wf_rtypok_typ, FormedAll, formed_none, formed_also}
use Rattle.oat.specs.Decide.{kind_of, is_found, Forms, all_forms, forms, forms_all, is_formed}
use Rattle.oat.proofs.LawsSame.{iff_then, and_says, never}
use Rattle.oat.proofs.LawsSubtyping.{is_ref, not_void}

module _ {H : List Struct} where
  -- a reference that is well-formed is of a kind of references
  pub formed_kind : {t : Ty} → FormedRef H t → is_ref t ≡ true
  unfolding is_reference_kind
  formed_kind wf_reftok_string = refl
  formed_kind (wf_reftok_array h) = refl
  formed_kind (wf_reftok_struct fields e) = refl
  formed_kind (wf_reftok_funt a r) = refl

  -- what a rule's conclusion says of its premises
  pub array_formed : {t : Ty} → FormedRef H (array t) → Formed H t
  array_formed (wf_reftok_array h) = h

  pub struct_formed : {x : ℕ} → FormedRef H (struct x) → (fields : List Field) × (lookup H x ≡ found fields)
  struct_formed (wf_reftok_struct fields e) = (fields, e)

  pub function_formed : {ts : Tys} {r : Ty} → FormedRef H (function ts r) → FormedAll H ts × FormedRet H r
  function_formed (wf_reftok_funt a r) = (a, r)

  pub nullable_formed : {t : Ty} → Formed H (nullable t) → FormedRef H t
  unfolding is_reference_kind
  nullable_formed (wf_typok_ref h) = absurd (false≢true (formed_kind h))
  nullable_formed (wf_typok_refq h) = h

  pub ref_formed : {t : Ty} → is_ref t ≡ true → Formed H t → FormedRef H t
  unfolding is_reference_kind
  ref_formed k wf_typok_int = absurd (false≢true k)
  ref_formed k wf_typok_bool = absurd (false≢true k)
  ref_formed k (wf_typok_ref h) = h
  ref_formed k (wf_typok_refq h) = absurd (false≢true k)

  pub value_formed : {t : Ty} → eqb (kind_of t) 3 ≡ false → FormedRet H t → Formed H t
  value_formed k wf_rtypok_void = absurd (true≢false k)
  value_formed k (wf_rtypok_typ h) = h

  pub void_formed : Formed H void → ⊥
  unfolding is_reference_kind
  void_formed (wf_typok_ref h) = false≢true (formed_kind h)

  pub also_formed : {t : Ty} {ts : Tys} → FormedAll H (and_ty t ts) → Formed H t × FormedAll H ts
  also_formed (formed_also h k) = (h, k)

-- F decides the judgements of t
pub record DecidesForm (H : List Struct) (t : Ty) (F : Forms) : Type 0 where
  pub ref : (F.ref ≡ true) ↔ FormedRef H t
  pub typ : (F.typ ≡ true) ↔ Formed H t
  pub ret : (F.ret ≡ true) ↔ FormedRet H t

found_formed : (l : Lookup) → (is_found l ≡ true) ↔ ((fields : List Field) × (l ≡ found fields))
found_formed missing = never λ h. absurd (let p = h.1 in let z : ◌≡◌ {A = ℕ} 0 1 = cc in omega arith)
found_formed (found fields) = (λ e. (fields, refl), λ h. refl)

holds : {A : Type 0} → A → (true ≡ true) ↔ A
holds h = (λ e. h, λ p. refl)

module _ (H : List Struct) where
  -- a type that is not void is well-formed as a return type when it is as a type
  value : (t : Ty) (b d : Bool) → eqb (kind_of t) 3 ≡ false → (b ≡ true) ↔ FormedRef H t → (d ≡ true) ↔ Formed H t → DecidesForm H t (all_forms b d d)
  value t b d k f g = record { ref = f; typ = g; ret = iff_then g (wf_rtypok_typ, value_formed k) }

  no_ref : (t : Ty) → is_ref t ≡ false → (false ≡ true) ↔ FormedRef H t
  no_ref t k = never λ h. sym k ∙ formed_kind h

  reference : (t : Ty) (d : Bool) → is_ref t ≡ true → (d ≡ true) ↔ FormedRef H t → DecidesForm H t (all_forms d d d)
  reference t d k f = value t d d (not_void (kind_of t) k) f (iff_then f (wf_typok_ref, ref_formed k))

  mutual
    unfolding forms forms_all is_reference_kind

    pub decides_form : (t : Ty) → DecidesForm H t (forms H t)
    decides_form int = value int false true refl (no_ref int refl) (holds wf_typok_int)
    decides_form bool = value bool false true refl (no_ref bool refl) (holds wf_typok_bool)
    decides_form string = reference string true refl (holds wf_reftok_string)
    decides_form void = record { ref = no_ref void refl; typ = never (λ h. absurd (void_formed h)); ret = holds wf_rtypok_void }
    decides_form (struct x) =
        reference (struct x) (is_found (lookup H x)) refl (iff_then (found_formed (lookup H x)) (λ h. wf_reftok_struct h.0 h.1, struct_formed))
    decides_form (array t) = reference (array t) (forms H t).typ refl (iff_then (decides_form t).typ (wf_reftok_array, array_formed))
    decides_form (function ts r) =
        reference (function ts r) (forms_all H ts && (forms H r).ret) refl
        (iff_then (and_says (forms_all H ts) (forms H r).ret (all_decides_form ts) (decides_form r).ret)
        (λ h. wf_reftok_funt h.0 h.1, function_formed))
    decides_form (nullable t) =
        value (nullable t) false (forms H t).ref refl (no_ref (nullable t) refl) (iff_then (decides_form t).ref (wf_typok_refq, nullable_formed))

    pub all_decides_form : (ts : Tys) → (forms_all H ts ≡ true) ↔ FormedAll H ts
    all_decides_form no_ty = holds formed_none
    all_decides_form (and_ty t ts) =
        iff_then (and_says (forms H t).typ (forms_all H ts) (decides_form t).typ (all_decides_form ts)) (λ h. formed_also h.0 h.1, also_formed)

  -- each judgement
  pub formed_ref : (t : Ty) → ((forms H t).ref ≡ true) ↔ FormedRef H t
  formed_ref t = (decides_form t).ref

  pub formed_typ : (t : Ty) → ((forms H t).typ ≡ true) ↔ Formed H t
  formed_typ t = (decides_form t).typ

  pub formed_ret : (t : Ty) → ((forms H t).ret ≡ true) ↔ FormedRet H t
  formed_ret t = (decides_form t).ret

  pub formed_all : (ts : Tys) → (forms_all H ts ≡ true) ↔ FormedAll H ts
  formed_all ts = all_decides_form ts

  -- the decision is true exactly when the rules derive it
  pub formed_is : (t : Ty) → (is_formed H t ≡ true) ↔ FormedRet H t
  unfolding is_formed
  formed_is t = formed_ret t
