-- Subtyping orders the well-formed types: it is reflexive on them and transitive, and of two types that it compares both are
-- well-formed or neither is. Assumes nothing.
use mathlib.Core.Path.{◌≡◌, refl, ap, sym, ◌∙◌}
use mathlib.Core.Logic.{◌↔◌, ◌⊎◌, inl, inr}
use mathlib.Core.Bool.{true, false, false≢true, true≢false}
use mathlib.Core.List.{List, [], ◌++◌, append-nil, append_assoc}
use Prim.Native.Nat.{ℕ}
use Rattle.oat.specs.TypeRules.{is_reference_kind}
use Rattle.oat.specs.Types.{Ty, int, bool, string, void, struct, array, function, nullable, Tys, no_ty, and_ty, Struct, found}
use Rattle.oat.specs.Subtyping.{Sub, sub_sub_int, sub_sub_bool, sub_sub_nref, sub_sub_ref, sub_sub_nrref, SubRef, sub_subr_string, sub_subr_array, sub_subr_struct, sub_subr_funt, SubRet, sub_subret_svoid, sub_subret_rttyp, SubAll, sub_none, sub_also, Formed, wf_typok_int, wf_typok_bool, wf_typok_ref, wf_typok_refq, FormedRef, wf_reftok_string, wf_reftok_array, wf_reftok_struct, wf_reftok_funt, FormedRet, wf_rtypok_void, wf_rtypok_typ, FormedAll, formed_none, formed_also}
use Rattle.oat.proofs.LawsSubtyping.{is_ref, ref_left, ref_right, value_left, value_right, Under, under, ref_down_inv, ref_up_inv, nullable_down_inv, nullable_up_inv}
use Rattle.oat.proofs.LawsFormed.{ref_formed, nullable_formed, function_formed, value_formed, also_formed}

module _ {H : List Struct} where
  mutual
    -- a well-formed type is below itself
    pub reflexive_typ : {t : Ty} → Formed H t → Sub H t t
    reflexive_typ wf_typok_int = sub_sub_int
    reflexive_typ wf_typok_bool = sub_sub_bool
    reflexive_typ (wf_typok_ref h) = sub_sub_ref (reflexive_ref h)
    reflexive_typ (wf_typok_refq h) = sub_sub_nref (reflexive_ref h)

    pub reflexive_ref : {t : Ty} → FormedRef H t → SubRef H t t
    reflexive_ref wf_reftok_string = sub_subr_string
    reflexive_ref (wf_reftok_array h) = sub_subr_array
    reflexive_ref (wf_reftok_struct fields e) = sub_subr_struct fields [] (e ∙ ap found (sym (append-nil fields))) e
    reflexive_ref (wf_reftok_funt a r) = sub_subr_funt (reflexive_all a) (reflexive r)

    pub reflexive : {t : Ty} → FormedRet H t → SubRet H t t
    reflexive wf_rtypok_void = sub_subret_svoid
    reflexive (wf_rtypok_typ h) = sub_subret_rttyp (reflexive_typ h)

    pub reflexive_all : {ts : Tys} → FormedAll H ts → SubAll H ts ts
    reflexive_all formed_none = sub_none
    reflexive_all (formed_also h k) = sub_also (reflexive_typ h) (reflexive_all k)

-- Transitivity is by induction on the type in between: parameters turn round, and it stays in between.
-- R leads from what stands before t to what stands after it
abbrev Through : {A : Type 0} → (A → A → Type 0) → A → Type 0
Through {A} R t = (s u : A) → R s t → R t u → R s u

-- each judgement does at t
record Between (H : List Struct) (t : Ty) : Type 0 where
  ref : Through (SubRef H) t
  typ : Through (Sub H) t
  ret : Through (SubRet H) t

module _ (H : List Struct) where
  ret_through : {s t u : Ty} → Through (Sub H) t → SubRet H s t → SubRet H t u → SubRet H s u
  ret_through f sub_subret_svoid q = q
  ret_through f (sub_subret_rttyp p) sub_subret_svoid = absurd (true≢false (value_right p))
  ret_through f (sub_subret_rttyp p) (sub_subret_rttyp q) = sub_subret_rttyp (f _ _ p q)

  between : (t : Ty) → Through (SubRef H) t → Through (Sub H) t → Between H t
  between t f g = record { ref = f; typ = g; ret = λ s u p q. ret_through g p q }

  -- a reference
  ref_case : {s t u : Ty} → Through (SubRef H) t → SubRef H s t → SubRef H t u ⊎ Under (SubRef H t) u → Sub H s u
  ref_case f p (inl q) = sub_sub_ref (f _ _ p q)
  ref_case f p (inr (under q)) = sub_sub_nrref (f _ _ p q)

  reference : (t : Ty) → is_ref t ≡ true → Through (SubRef H) t → Between H t
  reference t k f = between t f λ s u p q. ref_case f (ref_up_inv H k p) (ref_down_inv H k q)

  struct_through : {s u : Ty} {y : ℕ} → SubRef H s (struct y) → SubRef H (struct y) u → SubRef H s u
  struct_through (sub_subr_struct fields more e f) (sub_subr_struct first rest g h) =
      let z : fields ≡ first ++ rest = cc in
      sub_subr_struct first (rest ++ more) (e ∙ ap (λ l. found (l ++ more)) z ∙ ap found (append_assoc first rest more)) h

  function_through : {s u : Ty} {ts : Tys} {r : Ty} → Through (SubAll H) ts → Through (SubRet H) r
      → SubRef H s (function ts r) → SubRef H (function ts r) u → SubRef H s u
  function_through f g (sub_subr_funt a r) (sub_subr_funt b q) = sub_subr_funt (f _ _ b a) (g _ _ r q)

  string_through : {s u : Ty} → SubRef H s string → SubRef H string u → SubRef H s u
  string_through sub_subr_string q = q

  array_through : {s t u : Ty} → SubRef H s (array t) → SubRef H (array t) u → SubRef H s u
  array_through sub_subr_array q = q

  -- the others
  no_ref : (t : Ty) → is_ref t ≡ false → Through (SubRef H) t
  no_ref t k s u p q = absurd (false≢true (sym k ∙ ref_left q))

  int_through : {s u : Ty} → Sub H s int → Sub H int u → Sub H s u
  unfolding is_reference_kind
  int_through sub_sub_int q = q
  int_through (sub_sub_ref r) q = absurd (false≢true (ref_right r))

  bool_through : {s u : Ty} → Sub H s bool → Sub H bool u → Sub H s u
  unfolding is_reference_kind
  bool_through sub_sub_bool q = q
  bool_through (sub_sub_ref r) q = absurd (false≢true (ref_right r))

  nullable_case : {s t u : Ty} → Through (SubRef H) t → Under (λ v. SubRef H v t) s ⊎ SubRef H s t → Under (SubRef H t) u → Sub H s u
  nullable_case f (inl (under p)) (under q) = sub_sub_nref (f _ _ p q)
  nullable_case f (inr p) (under q) = sub_sub_nrref (f _ _ p q)

  all_through : {t : Ty} {ts ss us : Tys} → Through (Sub H) t → Through (SubAll H) ts
      → SubAll H ss (and_ty t ts) → SubAll H (and_ty t ts) us → SubAll H ss us
  all_through f g (sub_also p a) (sub_also q b) = sub_also (f _ _ p q) (g _ _ a b)

  mutual
    unfolding is_reference_kind

    everywhere : (t : Ty) → Between H t
    everywhere int = between int (no_ref int refl) (λ s u p q. int_through p q)
    everywhere bool = between bool (no_ref bool refl) (λ s u p q. bool_through p q)
    everywhere string = reference string refl (λ s u p q. string_through p q)
    everywhere void = between void (no_ref void refl) (λ s u p q. absurd (true≢false (value_right p)))
    everywhere (struct x) = reference (struct x) refl (λ s u p q. struct_through p q)
    everywhere (array t) = reference (array t) refl (λ s u p q. array_through p q)
    everywhere (function ts r) =
        reference (function ts r) refl (λ s u p q. function_through (λ ss us a b. everywhere_all ts ss us a b) (everywhere r).ret p q)
    everywhere (nullable t) =
        between (nullable t) (no_ref (nullable t) refl)
        (λ s u p q. nullable_case (everywhere t).ref (nullable_up_inv H p) (nullable_down_inv H q))

    everywhere_all : (ts ss us : Tys) → SubAll H ss ts → SubAll H ts us → SubAll H ss us
    everywhere_all no_ty ss us sub_none b = b
    everywhere_all (and_ty t ts) ss us a b = all_through (everywhere t).typ (λ vs ws c d. everywhere_all ts vs ws c d) a b

-- what is below a type is below all that the type is below
module _ {H : List Struct} {s t u : Ty} where
  pub transitive_ref : SubRef H s t → SubRef H t u → SubRef H s u
  transitive_ref p q = (everywhere H t).ref s u p q

  pub transitive_typ : Sub H s t → Sub H t u → Sub H s u
  transitive_typ p q = (everywhere H t).typ s u p q

  pub transitive : SubRet H s t → SubRet H t u → SubRet H s u
  transitive p q = (everywhere H t).ret s u p q

module _ {H : List Struct} where
  mutual
    -- what is below a well-formed type, or above one, is well-formed
    pub below_formed_typ : {s t : Ty} → Sub H s t → Formed H s ↔ Formed H t
    below_formed_typ sub_sub_int = (λ h. h, λ h. h)
    below_formed_typ sub_sub_bool = (λ h. h, λ h. h)
    below_formed_typ (sub_sub_nref r) =
        (λ h. wf_typok_refq ((below_formed_ref r).0 (nullable_formed h)), λ h. wf_typok_refq ((below_formed_ref r).1 (nullable_formed h)))
    below_formed_typ (sub_sub_ref r) = (
      λ h. wf_typok_ref ((below_formed_ref r).0 (ref_formed (ref_left r) h)),
      λ h. wf_typok_ref ((below_formed_ref r).1 (ref_formed (ref_right r) h)),
    )
    below_formed_typ (sub_sub_nrref r) =
        (λ h. wf_typok_refq ((below_formed_ref r).0 (ref_formed (ref_left r) h)), λ h. wf_typok_ref ((below_formed_ref r).1 (nullable_formed h)))

    pub below_formed_ref : {s t : Ty} → SubRef H s t → FormedRef H s ↔ FormedRef H t
    below_formed_ref sub_subr_string = (λ h. h, λ h. h)
    below_formed_ref sub_subr_array = (λ h. h, λ h. h)
    below_formed_ref (sub_subr_struct fields more e f) = (λ h. wf_reftok_struct fields f, λ h. wf_reftok_struct (fields ++ more) e)
    below_formed_ref (sub_subr_funt a r) = (
      λ h. let (k, l) = function_formed h in wf_reftok_funt ((below_formed_all a).1 k) ((below_formed r).0 l),
      λ h. let (k, l) = function_formed h in wf_reftok_funt ((below_formed_all a).0 k) ((below_formed r).1 l),
    )

    pub below_formed : {s t : Ty} → SubRet H s t → FormedRet H s ↔ FormedRet H t
    below_formed sub_subret_svoid = (λ h. h, λ h. h)
    below_formed (sub_subret_rttyp h) = (
      λ k. wf_rtypok_typ ((below_formed_typ h).0 (value_formed (value_left h) k)),
      λ k. wf_rtypok_typ ((below_formed_typ h).1 (value_formed (value_right h) k)),
    )

    pub below_formed_all : {ts us : Tys} → SubAll H ts us → FormedAll H ts ↔ FormedAll H us
    below_formed_all sub_none = (λ h. h, λ h. h)
    below_formed_all (sub_also h a) = (
      λ k. let (l, m) = also_formed k in formed_also ((below_formed_typ h).0 l) ((below_formed_all a).0 m),
      λ k. let (l, m) = also_formed k in formed_also ((below_formed_typ h).1 l) ((below_formed_all a).1 m),
    )
