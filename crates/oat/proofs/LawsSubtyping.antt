-- The decision of subtyping is true exactly when the rules derive it, for each judgement, with the type on either side; so a test with the
-- type on the right is one with the other type on the left. Assumes nothing.
use mathlib.Core.Path.{◌≡◌, refl, ap, sym, subst, ◌∙◌}
use mathlib.Core.Logic.{◌↔◌, ◌⊎◌, inl, inr, ⊎_elim}
use mathlib.Core.Bool.{Bool, true, false, not, ◌&&◌, ◌||◌, false≢true, true≢false}
use mathlib.Core.List.{List, ◌++◌}
use Prim.Native.Nat.{ℕ}
use native.Mathlib.Omega.{arith}
use lib.Dec.{eqb}
use borrow.Author.Tests.{eqb-true, eq-eqb}
use Rattle.oat.specs.Basics.{pick}
use Rattle.oat.specs.TypeRules.{is_reference_kind}
use Rattle.oat.specs.Types.{Ty, int, bool, string, void, struct, array, function, nullable, Tys, no_ty, and_ty, Field, Struct, Lookup, found, missing, lookup}
use Rattle.oat.specs.Subtyping.{Sub, sub_sub_int, sub_sub_bool, sub_sub_nref, sub_sub_ref, sub_sub_nrref, SubRef, sub_subr_string, sub_subr_array, sub_subr_struct, sub_subr_funt, SubRet, sub_subret_svoid, sub_subret_rttyp, SubAll, sub_none, sub_also}
use Rattle.oat.specs.Decide.{kind_of, on_struct, on_array, on_function, on_nullable, is_none, same_ty, begins_with, on_found, struct_below, Tests, base_tests, void_tests, or_nullable, ref_tests, or_plain, nullable_tests, tests, all_tests, below}
use Rattle.oat.proofs.LawsSame.{iff_then, and_says, never, on_int, on_bool, on_string, on_void, at_struct, on-array, on-function, on-nullable, on_none, on-also, same_is, begins_is}

-- the kinds of reference types
abbrev pub is_ref : Ty → Bool
is_ref t = is_reference_kind (kind_of t)

-- the relation with the type on the left, or on the right
abbrev pub facing : {A : Type 0} → Bool → (A → A → Type 0) → A → A → Type 0
facing true R s t = R s t
facing false R s t = R t s

-- a kind of references isn't void
pub not_void : (k : ℕ) → is_reference_kind k ≡ true → eqb k 3 ≡ false
unfolding is_reference_kind
not_void k e = go (eqb k 3) refl
  where
    go : (b : Bool) → eqb k 3 ≡ b → b ≡ false
    go true h = sym (subst (λ n. is_reference_kind n ≡ true) (eqb-true k 3 h) e)
    go false h = refl

module _ {H : List Struct} where
  -- references that are compared are of one kind, a kind of references
  pub ref_kinds : {s t : Ty} → SubRef H s t → kind_of s ≡ kind_of t
  ref_kinds sub_subr_string = refl
  ref_kinds sub_subr_array = refl
  ref_kinds (sub_subr_struct fields more e f) = refl
  ref_kinds (sub_subr_funt a r) = refl

  pub ref_left : {s t : Ty} → SubRef H s t → is_ref s ≡ true
  unfolding is_reference_kind
  ref_left sub_subr_string = refl
  ref_left sub_subr_array = refl
  ref_left (sub_subr_struct fields more e f) = refl
  ref_left (sub_subr_funt a r) = refl

  pub ref_right : {s t : Ty} → SubRef H s t → is_ref t ≡ true
  ref_right {s} {t} h = ap is_reference_kind (sym (ref_kinds h)) ∙ ref_left h

  -- types that are compared are of one kind, or a reference is below a nullable one; and neither is void
  pub sub_kinds : {s t : Ty} → Sub H s t → (kind_of s ≡ kind_of t) ⊎ ((is_ref s ≡ true) × (kind_of t ≡ 7))
  sub_kinds sub_sub_int = inl refl
  sub_kinds sub_sub_bool = inl refl
  sub_kinds (sub_sub_nref r) = inl refl
  sub_kinds (sub_sub_ref r) = inl (ref_kinds r)
  sub_kinds (sub_sub_nrref r) = inr (ref_left r, refl)

  pub value_left : {s t : Ty} → Sub H s t → eqb (kind_of s) 3 ≡ false
  value_left sub_sub_int = refl
  value_left sub_sub_bool = refl
  value_left (sub_sub_nref r) = refl
  value_left (sub_sub_ref {r = s} r) = not_void (kind_of s) (ref_left r)
  value_left (sub_sub_nrref {r = s} r) = not_void (kind_of s) (ref_left r)

  pub value_right : {s t : Ty} → Sub H s t → eqb (kind_of t) 3 ≡ false
  value_right sub_sub_int = refl
  value_right sub_sub_bool = refl
  value_right (sub_sub_nref r) = refl
  value_right (sub_sub_ref {s = t} r) = not_void (kind_of t) (ref_right r)
  value_right (sub_sub_nrref r) = refl

  -- what a rule's conclusion says of its premises
  pub array_inv : {s t : Ty} → SubRef H (array s) (array t) → s ≡ t
  array_inv sub_subr_array = refl

  pub function_inv : {ts us : Tys} {r q : Ty} → SubRef H (function ts r) (function us q) → SubAll H us ts × SubRet H r q
  function_inv (sub_subr_funt a r) = (a, r)

  struct_inv : {x y : ℕ} → SubRef H (struct x) (struct y)
      → (fields more : List Field) × (lookup H x ≡ found (fields ++ more)) × (lookup H y ≡ found fields)
  struct_inv (sub_subr_struct fields more e f) = (fields, more, e, f)

  also_inv : {t u : Ty} {ts us : Tys} → SubAll H (and_ty t ts) (and_ty u us) → Sub H t u × SubAll H ts us
  also_inv (sub_also a b) = (a, b)

found_is : (l m : Lookup) → ((on_found l λ ms. on_found m λ ns. begins_with ms ns) ≡ true)
    ↔ ((fields more : List Field) × (l ≡ found (fields ++ more)) × (m ≡ found fields))
found_is (found ms) (found ns) = (
  λ e. let h = (begins_is ms ns).0 e in (ns, h.0, ap found h.1, refl),
  λ h. (begins_is ms ns).1 (h.1, (let p = h.2 in let q = h.3 in cc)),
)
found_is (found ms) missing = never λ h. absurd (let p = h.3 in let z : ◌≡◌ {A = ℕ} 0 1 = cc in omega arith)
found_is missing m = never λ h. absurd (let p = h.2 in let z : ◌≡◌ {A = ℕ} 0 1 = cc in omega arith)

pub struct_is : (H : List Struct) (x y : ℕ) → (struct_below H x y ≡ true) ↔ SubRef H (struct x) (struct y)
unfolding struct_below
struct_is H x y = iff_then (found_is (lookup H x) (lookup H y)) (λ h. sub_subr_struct h.0 h.1 h.2 h.3, λ h. struct_inv h)

or_says : (a b : Bool) {A B : Type 0} → (a ≡ true) ↔ A → (b ≡ true) ↔ B → (a || b ≡ true) ↔ (A ⊎ B)
or_says true b f g = (λ e. inl (f.0 refl), λ h. refl)
or_says false b f g =
    (λ e. inr (g.0 e), λ h. elim h [ inl p ↦ absurd (false≢true (f.1 p)) | inr q ↦ g.1 q ])

-- R holds of what a nullable type refers to
pub data Under (R : Ty → Type 0) : Ty → Type 0 where
  under : {u : Ty} → R u → Under R (nullable u)

under_is : (R : Ty → Type 0) (f : Ty → Bool) → ((u : Ty) → (f u ≡ true) ↔ R u) → (t : Ty) → (on_nullable t f ≡ true) ↔ Under R t
under_is R f h = on-nullable (Under R) f only λ u. iff_then (h u) (under, inside u)
  where
    only : (t : Ty) → Under R t → eqb (kind_of t) 7 ≡ true
    only t (under r) = refl

    inside : (u : Ty) → Under R (nullable u) → R u
    inside u (under r) = r

module _ (H : List Struct) where
  pub facing_kinds : (down : Bool) (s t : Ty) → facing down (SubRef H) s t → eqb (kind_of t) (kind_of s) ≡ true
  facing_kinds true s t h = eq-eqb (kind_of t) (kind_of s) (sym (ref_kinds h))
  facing_kinds false s t h = eq-eqb (kind_of t) (kind_of s) (ref_kinds h)

  pub facing_ref : (down : Bool) (s t : Ty) → facing down (SubRef H) s t → is_ref s ≡ true
  facing_ref true s t h = ref_left h
  facing_ref false s t h = ref_right h

  -- the rules for a reference type with the type on the left and on the right
  ref_down : {s t : Ty} → SubRef H s t ⊎ Under (SubRef H s) t → Sub H s t
  ref_down (inl r) = sub_sub_ref r
  ref_down (inr (under r)) = sub_sub_nrref r

  pub ref_down_inv : {s t : Ty} → is_ref s ≡ true → Sub H s t → SubRef H s t ⊎ Under (SubRef H s) t
  unfolding is_reference_kind
  ref_down_inv k sub_sub_int = absurd (false≢true k)
  ref_down_inv k sub_sub_bool = absurd (false≢true k)
  ref_down_inv k (sub_sub_nref r) = absurd (false≢true k)
  ref_down_inv k (sub_sub_ref r) = inl r
  ref_down_inv k (sub_sub_nrref r) = inr (under r)

  pub ref_up_inv : {s t : Ty} → is_ref t ≡ true → Sub H s t → SubRef H s t
  unfolding is_reference_kind
  ref_up_inv k sub_sub_int = absurd (false≢true k)
  ref_up_inv k sub_sub_bool = absurd (false≢true k)
  ref_up_inv k (sub_sub_nref r) = absurd (false≢true k)
  ref_up_inv k (sub_sub_ref r) = r
  ref_up_inv k (sub_sub_nrref r) = absurd (false≢true k)

  -- and for a nullable one
  nullable_down : {s t : Ty} → Under (SubRef H s) t → Sub H (nullable s) t
  nullable_down (under r) = sub_sub_nref r

  pub nullable_down_inv : {s t : Ty} → Sub H (nullable s) t → Under (SubRef H s) t
  unfolding is_reference_kind
  nullable_down_inv (sub_sub_nref r) = under r
  nullable_down_inv (sub_sub_ref r) = absurd (false≢true (ref_left r))
  nullable_down_inv (sub_sub_nrref r) = absurd (false≢true (ref_left r))

  nullable_up : {s t : Ty} → Under (λ u. SubRef H u t) s ⊎ SubRef H s t → Sub H s (nullable t)
  nullable_up (inl (under r)) = sub_sub_nref r
  nullable_up (inr r) = sub_sub_nrref r

  pub nullable_up_inv : {s t : Ty} → Sub H s (nullable t) → Under (λ u. SubRef H u t) s ⊎ SubRef H s t
  unfolding is_reference_kind
  nullable_up_inv (sub_sub_nref r) = inl (under r)
  nullable_up_inv (sub_sub_ref r) = absurd (false≢true (ref_right r))
  nullable_up_inv (sub_sub_nrref r) = inr r

  -- only void is a return type and no type
  pub ret_left : {s t : Ty} → eqb (kind_of s) 3 ≡ false → SubRet H s t → Sub H s t
  ret_left k sub_subret_svoid = absurd (true≢false k)
  ret_left k (sub_subret_rttyp h) = h

  pub ret_right : {s t : Ty} → eqb (kind_of t) 3 ≡ false → SubRet H s t → Sub H s t
  ret_right k sub_subret_svoid = absurd (true≢false k)
  ret_right k (sub_subret_rttyp h) = h

  ret_is : (down : Bool) (s t : Ty) → eqb (kind_of s) 3 ≡ false → facing down (Sub H) s t ↔ facing down (SubRet H) s t
  ret_is true s t k = (sub_subret_rttyp, ret_left k)
  ret_is false s t k = (sub_subret_rttyp, ret_right k)

-- T decides the judgements between s and another type
pub record Decides (H : List Struct) (down : Bool) (s : Ty) (T : Tests) : Type 0 where
  pub ref : (t : Ty) → (T.ref t ≡ true) ↔ facing down (SubRef H) s t
  pub typ : (t : Ty) → (T.typ t ≡ true) ↔ facing down (Sub H) s t
  pub ret : (t : Ty) → (T.ret t ≡ true) ↔ facing down (SubRet H) s t

or-plain : (a : Bool) {A : Type 0} → (a ≡ true) ↔ A → (a || false ≡ true) ↔ A
or-plain true h = h
or-plain false h = h

typ_ref : (H : List Struct) (down : Bool) (s : Ty) (f : Ty → Bool) → is_ref s ≡ true → ((t : Ty) → (f t ≡ true) ↔ facing down (SubRef H) s t)
    → (t : Ty) → (or_nullable down f t ≡ true) ↔ facing down (Sub H) s t
typ_ref H true s f k h t = iff_then (or_says (f t) (on_nullable t f) (h t) (under_is (SubRef H s) f h t)) (ref_down H, ref_down_inv H k)
typ_ref H false s f k h t = iff_then (or-plain (f t) (h t)) (sub_sub_ref, ref_up_inv H k)

typ_nullable : (H : List Struct) (down : Bool) (s : Ty) (f : Ty → Bool) → ((t : Ty) → (f t ≡ true) ↔ facing down (SubRef H) s t)
    → (t : Ty) → (or_plain down f t ≡ true) ↔ facing down (Sub H) (nullable s) t
typ_nullable H true s f h t =
    iff_then (or-plain (on_nullable t f) (under_is (SubRef H s) f h t)) (nullable_down H, nullable_down_inv H)
typ_nullable H false s f h t =
    iff_then (or_says (on_nullable t f) (f t) (under_is (λ u. SubRef H u s) f h t) (h t)) (nullable_up H, nullable_up_inv H)

facing_self : {A : Type 0} (down : Bool) (R : A → A → Type 0) (s : A) → R s s → facing down R s s
facing_self true R s h = h
facing_self false R s h = h

module _ (H : List Struct) where
  base_only : (down : Bool) (s t : Ty) → is_ref s ≡ false → eqb (kind_of s) 7 ≡ false → facing down (Sub H) s t → eqb (kind_of t) (kind_of s) ≡ true
  base_only true s t k n h =
      ⊎_elim (λ e. eq-eqb (kind_of t) (kind_of s) (sym e)) (λ r. absurd (false≢true (sym k ∙ r.0))) (sub_kinds h)
  base_only false s t k n h =
      ⊎_elim (λ e. eq-eqb (kind_of t) (kind_of s) e) (λ r. absurd (false≢true (sym n ∙ eq-eqb (kind_of s) 7 r.1))) (sub_kinds h)

  value_only : (down : Bool) (s t : Ty) → facing down (Sub H) s t → eqb (kind_of s) 3 ≡ false
  value_only true s t h = value_left h
  value_only false s t h = value_right h

  void_only : (down : Bool) (t : Ty) → facing down (SubRet H) void t → eqb (kind_of t) 3 ≡ true
  void_only true t sub_subret_svoid = refl
  void_only true t (sub_subret_rttyp h) = absurd (true≢false (value_left h))
  void_only false t sub_subret_svoid = refl
  void_only false t (sub_subret_rttyp h) = absurd (true≢false (value_right h))

  struct_facing : (down : Bool) (x y : ℕ) → (pick down (struct_below H x y) (struct_below H y x) ≡ true) ↔ facing down (SubRef H) (struct x) (struct y)
  struct_facing true x y = struct_is H x y
  struct_facing false x y = struct_is H y x

  array_facing : (down : Bool) (s t : Ty) → (s ≡ t) ↔ facing down (SubRef H) (array s) (array t)
  array_facing true s t = (λ e. subst (λ u. SubRef H (array s) (array u)) e sub_subr_array, array_inv)
  array_facing false s t = (λ e. subst (λ u. SubRef H (array u) (array s)) e sub_subr_array, λ h. sym (array_inv h))

  function_facing : (down : Bool) (ts us : Tys) (r q : Ty)
      → (facing (not down) (SubAll H) ts us × facing down (SubRet H) r q) ↔ facing down (SubRef H) (function ts r) (function us q)
  function_facing true ts us r q = (λ h. sub_subr_funt h.0 h.1, function_inv)
  function_facing false ts us r q = (λ h. sub_subr_funt h.0 h.1, function_inv)

  none_only : (down : Bool) (ts : Tys) → facing down (SubAll H) no_ty ts → is_none ts ≡ true
  none_only true ts sub_none = refl
  none_only false ts sub_none = refl

  also_facing : (down : Bool) (ts us : Tys) (t u : Ty)
      → (facing down (Sub H) t u × facing down (SubAll H) ts us) ↔ facing down (SubAll H) (and_ty t ts) (and_ty u us)
  also_facing true ts us t u = (λ h. sub_also h.0 h.1, also_inv)
  also_facing false ts us t u = (λ h. sub_also h.0 h.1, also_inv)

  also_none : (down : Bool) (ts : Tys) (t : Ty) → facing down (SubAll H) (and_ty t ts) no_ty → false ≡ true
  also_none true ts t h = none_only false (and_ty t ts) h
  also_none false ts t h = none_only true (and_ty t ts) h

  module _ (down : Bool) where
    -- a type that is not void is a return type as it is a type
    value : (s : Ty) (f g : Ty → Bool) → eqb (kind_of s) 3 ≡ false → ((t : Ty) → (f t ≡ true) ↔ facing down (SubRef H) s t)
        → ((t : Ty) → (g t ≡ true) ↔ facing down (Sub H) s t) → Decides H down s (record { ref = f; typ = g; ret = g })
    value s f g k h l = record { ref = h; typ = l; ret = λ t. iff_then (l t) (ret_is H down s t k) }

    -- the types that are no references
    no_ref : (s : Ty) → is_ref s ≡ false → (t : Ty) → (false ≡ true) ↔ facing down (SubRef H) s t
    no_ref s k t = never λ h. sym k ∙ facing_ref H down s t h

    decides_int : Decides H down int (base_tests 0)
    unfolding is_reference_kind
    decides_int =
        value int (λ y. false) (λ y. eqb (kind_of y) 0) refl (no_ref int refl)
        (on_int (λ t. facing down (Sub H) int t) (λ t. base_only down int t refl refl) (facing_self down (Sub H) int sub_sub_int))

    decides_bool : Decides H down bool (base_tests 1)
    unfolding is_reference_kind
    decides_bool =
        value bool (λ y. false) (λ y. eqb (kind_of y) 1) refl (no_ref bool refl)
        (on_bool (λ t. facing down (Sub H) bool t) (λ t. base_only down bool t refl refl) (facing_self down (Sub H) bool sub_sub_bool))

    decides_void : Decides H down void void_tests
    unfolding is_reference_kind
    decides_void = record {
      ref = no_ref void refl;
      typ = λ t. never (λ h. sym (value_only down void t h));
      ret = on_void (λ t. facing down (SubRet H) void t) (void_only down) (facing_self down (SubRet H) void sub_subret_svoid);
    }

    decides_nullable : (s : Ty) (f : Ty → Bool) → ((t : Ty) → (f t ≡ true) ↔ facing down (SubRef H) s t)
        → Decides H down (nullable s) (nullable_tests down f)
    unfolding is_reference_kind
    decides_nullable s f h = value (nullable s) (λ y. false) (or_plain down f) refl (no_ref (nullable s) refl) (typ_nullable H down s f h)

    -- the references
    decides_ref : (s : Ty) (f : Ty → Bool) → is_ref s ≡ true → ((t : Ty) → (f t ≡ true) ↔ facing down (SubRef H) s t)
        → Decides H down s (ref_tests down f)
    decides_ref s f k h = value s f (or_nullable down f) (not_void (kind_of s) k) h (typ_ref H down s f k h)

    decides_string : Decides H down string (ref_tests down (λ y. eqb (kind_of y) 2))
    unfolding is_reference_kind
    decides_string =
        decides_ref string (λ y. eqb (kind_of y) 2) refl
        (on_string (λ t. facing down (SubRef H) string t) (facing_kinds H down string) (facing_self down (SubRef H) string sub_subr_string))

    decides_struct : (x : ℕ) → Decides H down (struct x) (ref_tests down (λ y. on_struct y λ z. pick down (struct_below H x z) (struct_below H z x)))
    unfolding is_reference_kind
    decides_struct x =
        decides_ref (struct x) (λ y. on_struct y λ z. pick down (struct_below H x z) (struct_below H z x)) refl
        (at_struct (λ t. facing down (SubRef H) (struct x) t) (λ z. pick down (struct_below H x z) (struct_below H z x))
        (facing_kinds H down (struct x)) (struct_facing down x))

    decides_array : (s : Ty) → Decides H down (array s) (ref_tests down (λ y. on_array y (same_ty s)))
    unfolding is_reference_kind
    decides_array s =
        decides_ref (array s) (λ y. on_array y (same_ty s)) refl
        (on-array (λ t. facing down (SubRef H) (array s) t) (same_ty s) (facing_kinds H down (array s))
        (λ u. iff_then (same_is s u) (array_facing down s u)))

    decides_function : (ts : Tys) (r : Ty) (f : Tys → Bool) (g : Ty → Bool) → ((us : Tys) → (f us ≡ true) ↔ facing (not down) (SubAll H) ts us)
        → ((q : Ty) → (g q ≡ true) ↔ facing down (SubRet H) r q)
        → Decides H down (function ts r) (ref_tests down (λ y. on_function y λ us q. f us && g q))
    unfolding is_reference_kind
    decides_function ts r f g h l =
        decides_ref (function ts r) (λ y. on_function y λ us q. f us && g q) refl
        (on-function (λ t. facing down (SubRef H) (function ts r) t) (λ us q. f us && g q) (facing_kinds H down (function ts r))
        (λ us q. iff_then (and_says (f us) (g q) (h us) (l q)) (function_facing down ts us r q)))

  mutual
    unfolding tests all_tests

    pub decides : (s : Ty) (down : Bool) → Decides H down s (tests H down s)
    decides int down = decides_int down
    decides bool down = decides_bool down
    decides string down = decides_string down
    decides void down = decides_void down
    decides (struct x) down = decides_struct down x
    decides (array s) down = decides_array down s
    decides (function ts r) down =
        decides_function down ts r (all_tests H (not down) ts) (tests H down r).ret (λ us. all_decides ts (not down) us) (decides r down).ret
    decides (nullable s) down = decides_nullable down s (tests H down s).ref (decides s down).ref

    pub all_decides : (ts : Tys) (down : Bool) (us : Tys) → (all_tests H down ts us ≡ true) ↔ facing down (SubAll H) ts us
    all_decides no_ty down us = on_none (λ ys. facing down (SubAll H) no_ty ys) (none_only down) (facing_self down (SubAll H) no_ty sub_none) us
    all_decides (and_ty t ts) down us =
        on-also (λ ys. facing down (SubAll H) (and_ty t ts) ys) (λ u vs. (tests H down t).typ u && all_tests H down ts vs) (also_none down ts t)
        (λ u vs. iff_then (and_says ((tests H down t).typ u) (all_tests H down ts vs) ((decides t down).typ u) (all_decides ts down vs))
        (also_facing down ts vs t u)) us

  -- the decision is true exactly when the rules derive it
  pub below_is : (s t : Ty) → (below H s t ≡ true) ↔ SubRet H s t
  unfolding below
  below_is s t = (decides s true).ret t
