-- Tests on type numbers say what the rules say of types written out. Assumes nothing.
use mathlib.Core.Path.{◌≡◌, refl, ap, sym, subst, ◌∙◌}
use mathlib.Core.Bool.{Bool, true, false, ◌||◌, ◌&&◌}
use mathlib.Core.List.{List, [], ◌∷◌, ◌++◌}
use mathlib.Core.Logic.{◌↔◌}
use Prim.Native.Nat.{ℕ, zero, suc, ◌+◌, ◌≤◌, ◌<◌}
use native.Mathlib.Nat.{zero-add}
use native.Mathlib.Omega.{arith}
use lib.ListN.{length}
use lib.Dec.{eqb, ltb}
use borrow.Author.Tests.{ltb-true, ltb-false, eqb-true, eqb-false, eq-eqb, ne_eqb}
use Rattle.oat.specs.Basics.{pick}
use Rattle.oat.specs.Tables.{Tables, TypeRecord, type_at, entry_at}
use Rattle.oat.specs.TypeRules.{kind_at, is_reference_kind}
use Rattle.oat.specs.Types.{Ty, int, bool, string, void, struct, array, function, nullable, Tys, no_ty, and_ty, written_params, written, type_of, Field, Struct, struct_of, found, lookup, structs_of}
use Rattle.oat.specs.Subtyping.{Sub, sub_subret_rttyp, SubAll, sub_none, sub_also, Formed, wf_typok_ref, wf_typok_refq, wf_rtypok_typ}
use Rattle.oat.specs.Decide.{kind_of, below, is_formed}
use Rattle.oat.specs.Pairs.{length_tys}
use Rattle.oat.specs.Syntax.{Expr, Inits, no_init, init, count_inits, Target, name_target, index_target, field_target}
use Rattle.oat.proofs.LawsWritten.{type_int, type_bool, type_string, type_void, type_struct, type_array, type_function, type_nullable}
use Rattle.oat.proofs.LawsSame.{iff_then, and_says, never}
use Rattle.oat.proofs.LawsSubtyping.{is_ref, not_void, ret_left, below_is}
use Rattle.oat.proofs.LawsWritten.{params_many}
use Rattle.oat.proofs.LawsFormed.{nullable_formed, ref_formed, value_formed, formed_is}
use Rattle.typing_rules.specs.Contexts.{Bindings, unbound, bind, Scope, Hit, hit, miss, nearest, find, is_miss, is_fresh_at, is_fresh, Entry, Context, find_name, is_fixed}
use Rattle.typing_rules.specs.Operators.{base_type}
use Rattle.typing_rules.specs.Labels.{Label, Labels}
use Rattle.typing_rules.specs.Rules.{SubEach, each_none, each_also, HasDefault, default_int, default_bool, default_null, Member, has, lacks, member, InitsBelow, below_no_init, below_init, names_fit, assigns}
use Rattle.typing_rules.specs.Judge.{is_kind, referred, is_below, formed, has_default, each_below, arguments_below, number, field_of, is_below_member, inits_below, assigns_to, arguments_asked, each_asked, inits_asked}
use Rattle.typing_rules.proofs.Claims.{File, Value, BindingsFit, ScopeFits, fits_empty, fits_bind, NamesFit, fits_none, fits_name, ContextFits, erase_bindings, erase_scope, erase_names, erase_context, erase_label, erase, Holds}
use Rattle.typing_rules.proofs.LawsFields.{member_of, member_in, member_is, from_lookup, from_number, number_value}

-- type numbers written out one by one
unfoldable pub types_of : Tables → List ℕ → Tys
types_of T [] = no_ty
types_of T (a ∷ ts) = and_ty (type_of T a) (types_of T ts)

-- every type number is a value
pub data Values (T : Tables) : List ℕ → Type 0 where
  values_none : Values T []
  values_also : {a : ℕ} {ts : List ℕ} → Value T a → Values T ts → Values T (a ∷ ts)

unfoldable pub erase_hit : Tables → Hit ℕ → Hit Ty
erase_hit T (hit a b) = hit (type_of T a) b
erase_hit T miss = miss

-- labels
pub erase_append : (T : Tables) (L M : List (Label ℕ)) → erase T (L ++ M) ≡ erase T L ++ erase T M
unfolding erase
erase_append T [] M = refl
erase_append T (l ∷ L) M = ap (λ N. erase_label T l ∷ N) (erase_append T L M)

pub erase_long : (T : Tables) (L : List (Label ℕ)) → length (erase T L) ≡ length L
unfolding erase
erase_long T [] = refl
erase_long T (l ∷ L) = ap suc (erase_long T L)

pub holds_split : (D : Labels Ty) (n k m : ℕ) (A B : List (Label Ty)) → length A ≡ k → m ≡ n + k → Holds D n (A ++ B) → Holds D n A × Holds D m B
unfolding Holds
holds_split D n k m [] B l e h =
    let same : n ≡ m = omega arith in
    (tt, subst (λ j. Holds D j B) same h)
holds_split D n k m (a ∷ A) B l e h =
    let r = holds_split D (n + 1) (length A) m A B refl (omega arith) h.1 in
    ((h.0, r.0), r.1)

pub holds_join : (D : Labels Ty) (n k m : ℕ) (A B : List (Label Ty)) → length A ≡ k → m ≡ n + k → Holds D n A → Holds D m B → Holds D n (A ++ B)
unfolding Holds
holds_join D n k m [] B l e a b =
    let same : m ≡ n = omega arith in
    subst (λ j. Holds D j B) same b
holds_join D n k m (c ∷ A) B l e a b = (a.0, holds_join D (n + 1) (length A) m A B refl (omega arith) a.1 b)

-- names
module _ (T : Tables) where
  -- the first binding or a later one
  first_erase : (t : Bool) (a b : ℕ) (g : Hit Ty) (h : Hit ℕ) → g ≡ erase_hit T h
      → pick t (hit (type_of T a) b) g ≡ erase_hit T (pick t (hit a b) h)
  unfolding erase_hit
  first_erase true a b g h e = refl
  first_erase false a b g h e = e

  first_value : (t : Bool) (c d a b : ℕ) (h : Hit ℕ) → Value T c → (h ≡ hit a b → Value T a) → pick t (hit c d) h ≡ hit a b → Value T a
  first_value true c d a b h v r e = subst (Value T) (cc) v
  first_value false c d a b h v r e = r e

  nearest_erase : (x : ℕ) (B : Bindings ℕ) → nearest x (erase_bindings T B) ≡ erase_hit T (nearest x B)
  unfolding nearest erase_bindings erase_hit
  nearest_erase x unbound = refl
  nearest_erase x (bind B b) = first_erase (eqb b.name x) b.type b.binder _ _ (nearest_erase x B)

  pub find_erase : (x : ℕ) (Γ : Scope ℕ) → find x (erase_scope T Γ) ≡ erase_hit T (find x Γ)
  find_erase x Γ = nearest_erase x Γ.bindings

  fresh_at_erase : (l x : ℕ) (B : Bindings ℕ) → is_fresh_at l x (erase_bindings T B) ≡ is_fresh_at l x B
  unfolding is_fresh_at erase_bindings
  fresh_at_erase l x unbound = refl
  fresh_at_erase l x (bind B b) = ap (λ r. pick (eqb b.level l && eqb b.name x) false r) (fresh_at_erase l x B)

  pub fresh_erase : (x : ℕ) (Γ : Scope ℕ) → is_fresh x (erase_scope T Γ) ≡ is_fresh x Γ
  fresh_erase x Γ = fresh_at_erase Γ.level x Γ.bindings

  miss_erase : (h : Hit ℕ) → is_miss (erase_hit T h) ≡ is_miss h
  unfolding erase_hit
  miss_erase (hit t b) = refl
  miss_erase miss = refl

  pub name_erase : (x : ℕ) (es : List (Entry ℕ)) → find_name x (erase_names T es) ≡ erase_hit T (find_name x es)
  unfolding find_name erase_names erase_hit
  name_erase x [] = refl
  name_erase x (e ∷ es) = first_erase (eqb e.name x) e.type e.binder _ _ (name_erase x es)

  fixed_erase : (x : ℕ) (es : List (Entry ℕ)) → is_fixed x (erase_names T es) ≡ is_fixed x es
  unfolding is_fixed erase_names
  fixed_erase x [] = refl
  fixed_erase x (e ∷ es) = ap (λ r. pick (eqb e.name x) (pick e.assignable false true) r) (fixed_erase x es)

  pub assigns_erase : (C : Context ℕ) (Γ : Scope ℕ) (g : Target) → assigns (erase_context T C) (erase_scope T Γ) g ≡ assigns_to C Γ g
  unfolding assigns assigns_to
  assigns_erase C Γ (name_target x) = rw (find_erase x Γ, miss_erase (find x Γ), fixed_erase x C.names)
  assigns_erase C Γ (index_target a b) = refl
  assigns_erase C Γ (field_target x a) = refl

  -- a name that is found has a value's type
  found_value : (x a b : ℕ) (B : Bindings ℕ) → BindingsFit T B → nearest x B ≡ hit a b → Value T a
  unfolding nearest
  found_value x a b unbound fits_empty e = absurd (let z : ◌≡◌ {A = ℕ} 0 1 = cc in omega arith)
  found_value x a b (bind B c) (fits_bind f v) e =
      first_value (eqb c.name x) c.type c.binder a b (nearest x B) v (λ r. found_value x a b B f r) e

  pub find_value : (x a b : ℕ) (Γ : Scope ℕ) → ScopeFits T Γ → find x Γ ≡ hit a b → Value T a
  find_value x a b Γ f e = found_value x a b Γ.bindings f e

  names_value : (x a b : ℕ) (es : List (Entry ℕ)) → NamesFit T es → find_name x es ≡ hit a b → Value T a
  unfolding find_name
  names_value x a b [] fits_none e = absurd (let z : ◌≡◌ {A = ℕ} 0 1 = cc in omega arith)
  names_value x a b (c ∷ es) (fits_name v f) e =
      first_value (eqb c.name x) c.type c.binder a b (find_name x es) v (λ r. names_value x a b es f r) e

  pub name_value : (x a b : ℕ) (C : Context ℕ) → ContextFits T C → find_name x C.names ≡ hit a b → Value T a
  name_value x a b C f e = names_value x a b C.names f.names e

-- a record of kind 0 to 7 is written out as a type of its kind
written_kind : (at : ℕ → Ty) (T : Tables) (r : TypeRecord) (k : ℕ) → r.kind ≡ k → k ≤ 7 → kind_of (written at T r) ≡ k
unfolding written
written_kind at T r zero e h = rw e
written_kind at T r (suc zero) e h = rw e
written_kind at T r (suc (suc zero)) e h = rw e
written_kind at T r (suc (suc (suc zero))) e h = rw e
written_kind at T r (suc (suc (suc (suc zero)))) e h = rw e
written_kind at T r (suc (suc (suc (suc (suc zero))))) e h = rw e
written_kind at T r (suc (suc (suc (suc (suc (suc zero)))))) e h = rw e
written_kind at T r (suc (suc (suc (suc (suc (suc (suc zero))))))) e h = rw e
written_kind at T r (suc (suc (suc (suc (suc (suc (suc (suc k)))))))) e h = absurd (omega arith)

base_kind : (k : ℕ) → k < 3 → kind_of (base_type k) ≡ k
base_kind zero h = refl
base_kind (suc zero) h = refl
base_kind (suc (suc zero)) h = refl
base_kind (suc (suc (suc k))) h = absurd (omega arith)

base-type : (T : Tables) (a k : ℕ) → k < 3 → kind_at T a ≡ k → type_of T a ≡ base_type k
base-type T a zero h e = type_int T a e
base-type T a (suc zero) h e = type_bool T a e
base-type T a (suc (suc zero)) h e = type_string T a e
base-type T a (suc (suc (suc k))) h e = absurd (omega arith)

-- which types have a default
default_kind : {t : Ty} → HasDefault t → (eqb (kind_of t) 0 || eqb (kind_of t) 1 || eqb (kind_of t) 7) ≡ true
default_kind default_int = refl
default_kind default_bool = refl
default_kind default_null = refl

default_test : (t : Ty) → ((eqb (kind_of t) 0 || eqb (kind_of t) 1 || eqb (kind_of t) 7) ≡ true) ↔ HasDefault t
default_test int = (λ e. default_int, default_kind)
default_test bool = (λ e. default_bool, default_kind)
default_test string = never default_kind
default_test void = never default_kind
default_test (struct x) = never default_kind
default_test (array t) = never default_kind
default_test (function ts t) = never default_kind
default_test (nullable t) = (λ e. default_null, default_kind)

-- kinds and what a type refers to
module _ (T : Tables) (F : File T) (a : ℕ) (h : a < length T.types) where
  kind_most : kind_at T a ≤ 7
  kind_most = go (ltb a 4) refl
    where
      go : (b : Bool) → ltb a 4 ≡ b → kind_at T a ≤ 7
      go true l = let k = F.types.base a (ltb-true a 4 l) in let m = ltb-true a 4 l in omega arith
      go false l = (F.types.later a (ltb-false a 4 l) h).1

  pub kind_is : kind_of (type_of T a) ≡ kind_at T a
  unfolding type_of
  kind_is = written_kind _ T (type_at T a) (kind_at T a) refl kind_most

  -- a type written out so is of that kind
  of_kind : (t : Ty) → type_of T a ≡ t → is_kind T a (kind_of t) ≡ true
  of_kind t e = eq-eqb (kind_at T a) (kind_of t) (sym kind_is ∙ ap kind_of e)

  -- the test on a kind passes exactly for the types written out so
  pub is_base : (k : ℕ) → k < 3 → (is_kind T a k ≡ true) ↔ (type_of T a ≡ base_type k)
  is_base k l = (λ e. base-type T a k l (eqb-true (kind_at T a) k e), λ e. eq-eqb (kind_at T a) k (sym kind_is ∙ ap kind_of e ∙ base_kind k l))

  pub is_void : (is_kind T a 3 ≡ true) ↔ (type_of T a ≡ void)
  is_void = (λ e. type_void T a (eqb-true (kind_at T a) 3 e), of_kind void)

  pub is_struct : (is_kind T a 4 ≡ true) ↔ (type_of T a ≡ struct (referred T a))
  is_struct = (λ e. type_struct T a (eqb-true (kind_at T a) 4 e), of_kind (struct (referred T a)))

  pub is_array : (is_kind T a 5 ≡ true) ↔ (type_of T a ≡ array (type_of T (referred T a)))
  is_array = (
    λ e. let k = eqb-true (kind_at T a) 5 e in type_array T a k (F.types.array a h k).lower,
    of_kind (array (type_of T (referred T a))),
  )

  pub is_function : (is_kind T a 6 ≡ true)
      ↔ (type_of T a ≡ function (written_params (type_of T) T (type_at T a).b (type_at T a).c) (type_of T (referred T a)))
  is_function = (
    λ e.
        let k = eqb-true (kind_at T a) 6 e in
        let f = F.types.function a h k in
        type_function T a k f.returns (λ j l. (f.parameter j l).lower),
    of_kind (function (written_params (type_of T) T (type_at T a).b (type_at T a).c) (type_of T (referred T a))),
  )

  pub is_nullable : (is_kind T a 7 ≡ true) ↔ (type_of T a ≡ nullable (type_of T (referred T a)))
  is_nullable = (
    λ e. let k = eqb-true (kind_at T a) 7 e in type_nullable T a k (F.types.nullable a h k).lower,
    of_kind (nullable (type_of T (referred T a))),
  )

  -- from any shape: the kind, and the parts
  pub array_parts : (u : Ty) → type_of T a ≡ array u → (is_kind T a 5 ≡ true) × (u ≡ type_of T (referred T a)) × Value T (referred T a)
  array_parts u e =
      let k = of_kind (array u) e in
      let s = is_array.0 k in
      let v = F.types.array a h (eqb-true (kind_at T a) 5 k) in
      (k, cc, record { within = let l = v.lower in omega arith; value = v.value })

  pub struct_parts : (x : ℕ) → type_of T a ≡ struct x → (is_kind T a 4 ≡ true) × (x ≡ referred T a)
  struct_parts x e =
      let k = of_kind (struct x) e in
      let s = is_struct.0 k in
      (k, cc)

  pub function_parts : (us : Tys) (r : Ty) → type_of T a ≡ function us r → (is_kind T a 6 ≡ true)
      × (us ≡ written_params (type_of T) T (type_at T a).b (type_at T a).c) × (r ≡ type_of T (referred T a)) × (referred T a < length T.types)
  function_parts us r e =
      let k = of_kind (function us r) e in
      let s = is_function.0 k in
      let l = (F.types.function a h (eqb-true (kind_at T a) 6 k)).returns in
      (k, cc, cc, omega arith)

  pub nullable_parts : (r : Ty) → type_of T a ≡ nullable r → (is_kind T a 7 ≡ true) × (r ≡ type_of T (referred T a)) × Value T (referred T a)
  nullable_parts r e =
      let k = of_kind (nullable r) e in
      let s = is_nullable.0 k in
      let v = F.types.nullable a h (eqb-true (kind_at T a) 7 k) in
      let kind = kind_at T (referred T a) in
      (k, cc, record { within = let l = v.lower in omega arith; value = eqb-false kind 3 (not_void kind v.reference) })

  pub default_is : (has_default T a ≡ true) ↔ HasDefault (type_of T a)
  default_is = subst (λ k. ((eqb k 0 || eqb k 1 || eqb k 7) ≡ true) ↔ HasDefault (type_of T a)) kind_is (default_test (type_of T a))

-- types 0 to 2
module _ (T : Tables) (F : File T) where
  pub base_is : (k : ℕ) → k < 3 → type_of T k ≡ base_type k
  base_is k l = base-type T k k l (F.types.base k (omega arith))

  pub base_value : (k : ℕ) → k < 3 → Value T k
  base_value k l =
      let four = F.types.four in
      let e = F.types.base k (omega arith) in
      record { within = omega arith; value = λ v. omega arith }

-- a test that passes
holds : {A : Type 0} → A → (true ≡ true) ↔ A
holds h = (λ e. h, λ p. refl)

-- what a rule's conclusion says of its premises
module _ {H : List Struct} where
  each_parts : {u t : Ty} {ts : Tys} → SubEach H u (and_ty t ts) → Sub H t u × SubEach H u ts
  each_parts (each_also s r) = (s, r)

  all_parts : {t u : Ty} {ts us : Tys} → SubAll H (and_ty t ts) (and_ty u us) → Sub H t u × SubAll H ts us
  all_parts (sub_also s r) = (s, r)

  -- types that are matched are of equal number
  same_many : {ts us : Tys} → SubAll H ts us → length_tys ts ≡ length_tys us
  unfolding length_tys
  same_many sub_none = refl
  same_many (sub_also s r) = ap (λ n. 1 + n) (same_many r)

  init_parts : {fs : List Field} {x : ℕ} {a : Expr} {is : Inits} {t : Ty} {ts : Tys} → InitsBelow H fs (init x a is) (and_ty t ts)
      → ((u : Ty) × (member x fs ≡ has u) × Sub H t u) × InitsBelow H fs is ts
  init_parts (below_init u m s r) = ((u, m, s), r)

  -- a nullable type is well-formed when what it refers to is
  null_formed : {r : Ty} → is_ref r ≡ true → (is_formed H (nullable r) ≡ true) ↔ Formed H r
  null_formed {r} k =
      iff_then (formed_is H (nullable r))
      (λ h. wf_typok_ref (nullable_formed (value_formed refl h)), λ h. wf_rtypok_typ (wf_typok_refq (ref_formed k h)))

types_many : (T : Tables) (ts : List ℕ) → length_tys (types_of T ts) ≡ length ts
unfolding length_tys types_of
types_many T [] = refl
types_many T (t ∷ ts) = omega (arith, types_many T ts)

-- subtyping and well-formedness of values
module _ (T : Tables) (F : File T) (C : Context ℕ) where
  -- a value isn't written out as void
  not_void_kind : (a : ℕ) → Value T a → eqb (kind_of (type_of T a)) 3 ≡ false
  not_void_kind a v = ne_eqb (kind_of (type_of T a)) 3 λ e. v.value (sym (kind_is T F a v.within) ∙ e)

  below_type : (a : ℕ) (u : Ty) → Value T a → (below C.structs (type_of T a) u ≡ true) ↔ Sub C.structs (type_of T a) u
  below_type a u v = iff_then (below_is C.structs (type_of T a) u) (ret_left C.structs (not_void_kind a v), sub_subret_rttyp)

  pub below_sub : (a b : ℕ) → Value T a → Value T b → (is_below T C a b ≡ true) ↔ Sub C.structs (type_of T a) (type_of T b)
  below_sub a b v w = below_type a (type_of T b) v

  pub formed_value : (a : ℕ) → Value T a → (formed T C a ≡ true) ↔ Formed C.structs (type_of T a)
  formed_value a v = iff_then (formed_is C.structs (type_of T a)) (value_formed (not_void_kind a v), wf_rtypok_typ)

  -- a null's type: what it refers to is well-formed
  pub formed_null : (a : ℕ) (r : Ty) → a < length T.types → type_of T a ≡ nullable r → (formed T C a ≡ true) ↔ Formed C.structs r
  formed_null a r h e =
      let (k, s, v) = nullable_parts T F a h r e in
      let reference = (F.types.nullable a h (eqb-true (kind_at T a) 7 k)).reference in
      let is = ap is_reference_kind (ap kind_of s ∙ kind_is T F (referred T a) v.within) ∙ reference in
      subst (λ t. (is_formed C.structs t ≡ true) ↔ Formed C.structs r) (sym e) (null_formed is)

  pub below_each : (ts : List ℕ) (u : ℕ) → Values T ts → Value T u
      → (each_below T C ts u ≡ true) ↔ SubEach C.structs (type_of T u) (types_of T ts)
  unfolding each_asked types_of
  below_each [] u values_none w = holds each_none
  below_each (t ∷ ts) u (values_also v vs) w =
      iff_then (and_says (is_below T C t u) (each_below T C ts u) (below_sub t u v w) (below_each ts u vs w))
      (λ s. each_also s.0 s.1, each_parts)

  -- `c` parameters from the entry p on
  params_below : (ts : List ℕ) (p c : ℕ) → Values T ts → length ts ≡ c
      → (arguments_below T C ts p ≡ true) ↔ SubAll C.structs (types_of T ts) (written_params (type_of T) T p c)
  unfolding arguments_asked types_of written_params
  params_below [] p zero values_none l = holds sub_none
  params_below [] p (suc c) values_none l = absurd (omega arith)
  params_below (t ∷ ts) p zero (values_also v vs) l = absurd (omega arith)
  params_below (t ∷ ts) p (suc c) (values_also v vs) l =
      iff_then
      (and_says (is_below T C t (entry_at T p)) (arguments_below T C ts (suc p)) (below_type t (type_of T (entry_at T p)) v)
      (params_below ts (suc p) c vs (omega arith)))
      (λ s. sub_also s.0 s.1, all_parts)

  -- arguments against the parameters of the function type f, of equal number
  pub arguments-below : (ts : List ℕ) (f : ℕ) → Values T ts → f < length T.types → is_kind T f 6 ≡ true
      → length ts ≡ (type_at T f).c → (arguments_below T C ts (type_at T f).b ≡ true)
      ↔ SubAll C.structs (types_of T ts) (written_params (type_of T) T (type_at T f).b (type_at T f).c)
  arguments-below ts f v h k l = params_below ts (type_at T f).b (type_at T f).c v l

  -- parameters that are matched are of equal number
  pub arguments_many : (ts : List ℕ) (p c : ℕ) → SubAll C.structs (types_of T ts) (written_params (type_of T) T p c) → length ts ≡ c
  arguments_many ts p c s = sym (types_many T ts) ∙ same_many s ∙ params_many (type_of T) T p c

  -- a value against the field that it initializes
  member_below : (a : ℕ) (m : Member) → Value T a → (is_below_member T C a m ≡ true) ↔ ((u : Ty) × (m ≡ has u) × Sub C.structs (type_of T a) u)
  member_below a lacks v = never λ s. absurd (let e = s.1 in let z : ◌≡◌ {A = ℕ} 0 1 = cc in omega arith)
  member_below a (has u) v =
      iff_then (below_type a u v) (λ s. (u, refl, s), λ s. subst (Sub C.structs (type_of T a)) (let e = s.1 in cc) s.2)

  each_init : (fs : List Field) (is : Inits) (ts : List ℕ) → Values T ts → length ts ≡ count_inits is
      → (inits_below T C fs is ts ≡ true) ↔ InitsBelow C.structs fs is (types_of T ts)
  unfolding inits_asked types_of
  each_init fs no_init [] values_none l = holds below_no_init
  each_init fs no_init (t ∷ ts) (values_also v vs) l = absurd (omega arith)
  each_init fs (init x a is) [] values_none l = absurd (omega arith)
  each_init fs (init x a is) (t ∷ ts) (values_also v vs) l =
      iff_then
      (and_says (is_below_member T C t (member x fs)) (inits_below T C fs is ts) (member_below t (member x fs) v) (each_init fs is ts vs (omega arith)))
      (λ s. below_init s.0.0 s.0.1 s.0.2 s.1, init_parts)

  pub inits-below : (fs : List Field) (is : Inits) (ts : List ℕ) → ((x : ℕ) (u : Ty) → member x fs ≡ has u → u ≡ void → ⊥)
      → Values T ts → length ts ≡ count_inits is → names_fit fs is ≡ true
      → (inits_below T C fs is ts ≡ true) ↔ InitsBelow C.structs fs is (types_of T ts)
  inits-below fs is ts n v l g = each_init fs is ts v l

-- fields of declared structs
module _ (T : Tables) (F : File T) (C : Context ℕ) (f : ContextFits T C) where
  -- the field x of the struct s, looked up and by its number
  declared : (s x : ℕ) → member_in x (lookup C.structs s) ≡ member_of T (field_of T s x 0 (length C.structs))
  unfolding structs_of
  declared s x =
      ap (λ H. member_in x (lookup H s)) f.structs
      ∙ member_is T s x (struct_of T) 0 (length C.structs) (λ j. ap (struct_of T) (sym (zero-add j)))

  field_value : (s x a : ℕ) → field_of T s x 0 (length C.structs) ≡ number a → Value T a
  field_value s x a e = number_value T F s x a 0 (length C.structs) (let few = f.few in omega arith) e

  -- the number of a field's type, found ..
  pub field_found : (s x a : ℕ) → field_of T s x 0 (length C.structs) ≡ number a
      → (fs : List Field) × (lookup C.structs s ≡ found fs) × (member x fs ≡ has (type_of T a)) × Value T a
  unfolding member_of
  field_found s x a e =
      let (fs, l, m) = from_lookup x (type_of T a) (lookup C.structs s) (declared s x ∙ ap (member_of T) e) in
      (fs, l, m, field_value s x a e)

  -- .. where there is one
  pub field_there : (s x : ℕ) (fs : List Field) (u : Ty) → lookup C.structs s ≡ found fs → member x fs ≡ has u
      → (a : ℕ) × (field_of T s x 0 (length C.structs) ≡ number a) × (u ≡ type_of T a) × Value T a
  unfolding member_in
  field_there s x fs u e g =
      let (a, n, t) = from_number T u (field_of T s x 0 (length C.structs)) (sym (declared s x) ∙ ap (member_in x) e ∙ g) in
      (a, n, t, field_value s x a n)

  -- a field's type is no void
  pub member_value : (s x : ℕ) (fs : List Field) (u : Ty) → lookup C.structs s ≡ found fs → member x fs ≡ has u → u ≡ void → ⊥
  member_value s x fs u e g h =
      let (a, n, t, v) = field_there s x fs u e g in
      v.value (sym (kind_is T F a v.within) ∙ ap kind_of (sym t ∙ h))
