-- What has a derivation is accepted, with the derivation's labels: expressions. Assumes nothing.
use mathlib.Core.Path.{◌≡◌, refl, ap, ap₂, sym, ◌∙◌}
use mathlib.Core.Bool.{Bool, true, false, ◌||◌}
use mathlib.Core.List.{List, [], ◌∷◌, ◌++◌}
use Prim.Native.Nat.{ℕ, ◌+◌, ◌<◌}
use native.Mathlib.Omega.{arith}
use lib.ListN.{length}
use lib.Dec.{eqb, leb}
use borrow.Author.Tests.{eqb-true, eq-eqb, ne_eqb}
use Rattle.oat.specs.Basics.{pick}
use Rattle.oat.specs.Tables.{Tables, type_at}
use Rattle.oat.specs.TypeRules.{kind_at}
use Rattle.oat.specs.TableRules.{has_kind}
use Rattle.oat.specs.Types.{Ty, bool, void, array, function, Tys, and_ty, type_of}
use Rattle.oat.specs.Subtyping.{SubAll, Formed}
use Rattle.oat.specs.Syntax.{Literal, truth, falsity, integer, text, Expr, null, literal, name, array_literal, default_array, array_with, index, length_of, struct_literal, field, call, unary, binary, Exprs, none, also, count, Inits, no_init, init, count_inits, size}
use Rattle.oat.specs.Nodes.{Stands, StandAll, InitsStand}
use Rattle.oat.proofs.LawsTables.{has-kind}
use Rattle.typing_rules.specs.Contexts.{Scope, binds, Hit, hit, miss, find, find_name, Context, inner}
use Rattle.typing_rules.specs.Operators.{is_equality, operand_type, result_type, unary_type, base_type, literal_type}
use Rattle.typing_rules.specs.Labels.{gives, Label, Labels, unlabelled}
use Rattle.typing_rules.specs.Rules.{Typed, Has, has, member, TypedAll, typed_none, typed_also, TypedInits, typed_no_init, typed_init, ExprRule, typ_null, typ_literal, typ_local, typ_global, typ_carr, typ_newarray, typ_newarrayinit, typ_index, typ_length, typ_structex, typ_field, typ_call, typ_bop, typ_eq, typ_uop}
use Rattle.typing_rules.specs.Derivations.{AtAll, AtInits, Derives, here, in_elements, in_length, in_with_length, in_with_value, in_indexed, in_position, in_measured, in_fields, in_record, in_callee, in_arguments, in_operand, in_left, in_right, in_first, in_rest, in_value, in_others}
use Rattle.typing_rules.specs.Judge.{ok, typed_as, is_kind, referred, formed, arguments_below, judge, judges, judge_inits}
use Rattle.typing_rules.proofs.Claims.{File, Value, ScopeFits, fits_bind, ContextFits, erase_scope, erase_context, erase_label, erase, gather, gathers, gather_inits, erase_bindings}
use Rattle.typing_rules.proofs.LawsBridge.{types_of, Values, values_none, values_also, erase_hit, find_erase, name_erase, find_value, name_value, is_base, is_void, array_parts, struct_parts, function_parts, default_is, base_is, base_value, below_sub, formed_value, formed_null, below_each, arguments-below, arguments_many, inits-below, member_value, field_there, erase_append}
use Rattle.typing_rules.proofs.LawsJudge.{null_ok, literal_ok, local_ok, global_ok, array_ok, default_ok, with_ok, index_ok, length_ok, struct_ok, field_ok, call_ok, unary_ok, operator_ok, equality_ok, none_ok, also_ok, no_init_ok, init_ok}

-- accepted with the labels of D
pub record Accepted (T : Tables) (C : Context ℕ) (D : Labels Ty) (e : Expr) (n : ℕ) (Γ : Scope ℕ) : Type 0 where
  pub type : ℕ
  pub labels : List (Label ℕ)
  pub accepts : judge T C e n Γ ≡ ok type labels
  pub value : Value T type
  pub result : (D n).result ≡ gives (type_of T type)
  pub same : erase T labels ≡ gather D e n

-- a list of expressions that have the types ts
pub record AcceptedAll (T : Tables) (C : Context ℕ) (D : Labels Ty) (es : Exprs) (n : ℕ) (Γ : Scope ℕ) (ts : Tys) : Type 0 where
  pub types : List ℕ
  pub labels : List (Label ℕ)
  pub accepts : judges T C es n Γ ≡ ok types labels
  pub values : Values T types
  pub many : count es ≡ length types
  pub written : ts ≡ types_of T types
  pub same : erase T labels ≡ gathers D es n

-- field initializers whose values have the types ts
pub record AcceptedInits (T : Tables) (C : Context ℕ) (D : Labels Ty) (is : Inits) (n : ℕ) (Γ : Scope ℕ) (ts : Tys) : Type 0 where
  pub types : List ℕ
  pub labels : List (Label ℕ)
  pub accepts : judge_inits T C is n Γ ≡ ok types labels
  pub values : Values T types
  pub many : length types ≡ count_inits is
  pub written : ts ≡ types_of T types
  pub same : erase T labels ≡ gather_inits D is n

-- operators and literals
literal_small : (l : Literal) → literal_type l < 3
literal_small truth = omega arith
literal_small falsity = omega arith
literal_small (integer x) = omega arith
literal_small (text x) = omega arith

pick_small : (c : Bool) (k m : ℕ) → k < 3 → m < 3 → pick c k m < 3
pick_small true k m h l = h
pick_small false k m h l = l

result_small : (x : ℕ) → result_type x < 3
result_small x = pick_small (leb x 5 || leb 14 x) 0 1 (omega arith) (omega arith)

equality_result : (x : ℕ) → is_equality x ≡ true → result_type x ≡ 1
equality_result x e = go (eqb x 10) refl e
  where
    go : (c : Bool) → eqb x 10 ≡ c → (c || eqb x 11) ≡ true → result_type x ≡ 1
    go true p q = rw (eqb-true x 10 p)
    go false p q = rw (eqb-true x 11 q)

-- a type of a kind other than void
pub kind_value : (T : Tables) (t k : ℕ) → has_kind T t k ≡ true → (k ≡ 3 → ⊥) → Value T t
kind_value T t k h d = record { within = (has-kind T t k h).within; value = λ z. d (sym (has-kind T t k h).kind ∙ z) }

pub not_void : (T : Tables) → File T → (a : ℕ) → a < length T.types → (type_of T a ≡ void → ⊥) → (is_kind T a 3 ≡ false) × Value T a
not_void T F a h o =
    let d : kind_at T a ≡ 3 → ⊥ = λ e. o ((is_void T F a h).0 (eq-eqb _ _ e)) in
    (ne_eqb _ _ d, record { within = h; value = d })

-- a call's premises: the function's type, the number of the arguments, and their types
pub call_parts : (T : Tables) → File T → (C : Context ℕ) (k : ℕ) → k < length T.types → (ts : List ℕ) (us : Tys) (t : Ty)
    → type_of T k ≡ function us t → Values T ts → SubAll C.structs (types_of T ts) us
    → (is_kind T k 6 ≡ true) × (length ts ≡ (type_at T k).c) × (arguments_below T C ts (type_at T k).b ≡ true)
    × (t ≡ type_of T (referred T k)) × (referred T k < length T.types)
call_parts T F C k h ts us t e v s =
    let (w, q, z, i) = function_parts T F k h us t e in
    let a = rw q at s in
    let l = arguments_many T F C ts (type_at T k).b (type_at T k).c a in
    (w, l, (arguments-below T F C ts k v h w l).1 a, z, i)

-- a child's type is the one that the premise says
module _ {T : Tables} {C : Context ℕ} {D : Labels Ty} {e : Expr} {n : ℕ} {Γ : Scope ℕ} (A : Accepted T C D e n Γ) where
  pub type_is : {Δ : Scope Ty} {t : Ty} → Typed D n Δ t → type_of T A.type ≡ t
  type_is p = cc (A.result, p.type)

  pub base_kind : {Δ : Scope Ty} → File T → (k : ℕ) → k < 3 → Typed D n Δ (base_type k) → is_kind T A.type k ≡ true
  base_kind F k l p = (is_base T F A.type A.value.within k l).1 (type_is p)

-- a scope with one more binding
pub bound : (T : Tables) (Γ : Scope ℕ) (x n a : ℕ) {Δ : Scope Ty} {t : Ty} → Δ ≡ erase_scope T Γ → t ≡ type_of T a
    → binds Δ x t n ≡ erase_scope T (binds Γ x a n)
unfolding erase_bindings
bound T Γ x n a p q = λ i. binds (p i) x (q i) n

-- the labels of one list after another
pub joined : (T : Tables) (L M : List (Label ℕ)) {A B : List (Label Ty)} → erase T L ≡ A → erase T M ≡ B → erase T (L ++ M) ≡ A ++ B
joined T L M p q = erase_append T L M ∙ ap₂ ◌++◌ p q

-- a name that is found written out is found
found_hit : (T : Tables) (h : Hit ℕ) (t : Ty) (k : ℕ) → erase_hit T h ≡ hit t k → (a : ℕ) × (h ≡ hit a k) × (t ≡ type_of T a)
unfolding erase_hit
found_hit T (hit a m) t k e = (a, cc, cc)
found_hit T miss t k e = absurd (let z : ◌≡◌ {A = ℕ} 0 1 = cc in omega arith)

found_miss : (T : Tables) (h : Hit ℕ) → erase_hit T h ≡ miss → h ≡ miss
unfolding erase_hit
found_miss T (hit a m) e = absurd (let z : ◌≡◌ {A = ℕ} 0 1 = cc in omega arith)
found_miss T miss e = refl

module _ (T : Tables) (C : Context ℕ) (D : Labels Ty) where
  -- what the induction says of a child at m, of children from m on, and of field initializers from m on
  abbrev Child : Expr → ℕ → Scope ℕ → Type 0
  Child a m Γ = (D m).before ≡ erase_scope T Γ → Accepted T C D a m Γ

  abbrev Children : Exprs → ℕ → Scope ℕ → Type 0
  Children es m Γ = (ts : Tys) → TypedAll D (erase_scope T Γ) m es ts → AcceptedAll T C D es m Γ ts

  abbrev Initial : Inits → ℕ → Scope ℕ → Type 0
  Initial is m Γ = (ts : Tys) → TypedInits D (erase_scope T Γ) m is ts → AcceptedInits T C D is m Γ ts

  -- a rule holds at n
  abbrev Rule : ℕ → Expr → Type 0
  Rule n e = ExprRule T (erase_context T C) D n e

  module _ (n : ℕ) (Γ : Scope ℕ) (b : (D n).before ≡ erase_scope T Γ) where
    find_is : (x : ℕ) (h : Hit Ty) → find x (D n).before ≡ h → erase_hit T (find x Γ) ≡ h
    find_is x h e = sym (find_erase T x Γ) ∙ ap (find x) (sym b) ∙ e

    label_is : (a k : ℕ) (t : Ty) → Has D n t k → t ≡ type_of T a → erase_label T (typed_as a k Γ) ≡ D n
    label_is a k t h z = sym (λ i. record { result = (h.type ∙ ap gives z) i; binder = h.binder_is i; before = b i; after = (h.after ∙ b) i })

    -- an accepted tree, from its type, its label and those of its children
    finish : {e : Expr} {a k : ℕ} {t : Ty} {L : List (Label ℕ)} {M : List (Label Ty)} → judge T C e n Γ ≡ ok a (typed_as a k Γ ∷ L) → Value T a
        → Has D n t k → t ≡ type_of T a → erase T L ≡ M → D n ∷ M ≡ gather D e n → Accepted T C D e n Γ
    unfolding erase
    finish {a} {k} {t} {L} j v h z l g = record {
      type = a;
      labels = typed_as a k Γ ∷ L;
      accepts = j;
      value = v;
      result = h.type ∙ ap gives z;
      same = ap₂ ◌∷◌ (label_is a k t h z) l ∙ g;
    }

    -- the rules one by one, from the children's acceptance
    module _ (F : File T) (f : ContextFits T C) (g : ScopeFits T Γ) where
      null_accepted : (t : ℕ) → has_kind T t 7 ≡ true → Rule n (null t) → Accepted T C D (null t) n Γ
      unfolding gather erase
      null_accepted t k (typ_null r e o h) =
          let p = (formed_null T F C t r (has-kind T t 7 k).within e).1 o in
          finish (null_ok T C n Γ t p) (kind_value T t 7 k (omega arith)) h (sym e) refl refl

      literal_accepted : (l : Literal) → Rule n (literal l) → Accepted T C D (literal l) n Γ
      unfolding gather erase
      literal_accepted l (typ_literal h) =
          let s = literal_small l in
          finish (literal_ok T C n Γ l) (base_value T F (literal_type l) s) h (sym (base_is T F (literal_type l) s)) refl refl

      name_accepted : (x : ℕ) → Rule n (name x) → Accepted T C D (name x) n Γ
      unfolding gather erase
      name_accepted x (typ_local t k e h) =
          let (a, p, z) = found_hit T (find x Γ) t k (find_is x (hit t k) e) in
          finish (local_ok T C n Γ x p) (find_value T x a k Γ g p) h z refl refl
      name_accepted x (typ_global t k m e h) =
          let (a, p, z) = found_hit T (find_name x C.names) t k (sym (name_erase T x C.names) ∙ e) in
          let q = found_miss T (find x Γ) (find_is x miss m) in
          finish (global_ok T C n Γ x q p) (name_value T x a k C f p) h z refl refl

      -- an array's element
      element : (t : ℕ) (u : Ty) → has_kind T t 5 ≡ true → type_of T t ≡ array u → Formed C.structs u
          → (formed T C (referred T t) ≡ true) × (u ≡ type_of T (referred T t)) × Value T (referred T t)
      element t u k e o =
          let (w, q, v) = array_parts T F t (has-kind T t 5 k).within u e in
          ((formed_value T F C (referred T t) v).1 (rw q at o), q, v)

      array_accepted : (t : ℕ) (es : Exprs) → has_kind T t 5 ≡ true → Children es (n + 1) Γ → Rule n (array_literal t es)
          → Accepted T C D (array_literal t es) n Γ
      unfolding gather erase
      array_accepted t es k c (typ_carr u ts e o ty s h) =
          let (j, q, v) = element t u k e o in
          let A = c ts (rw b at ty) in
          let l = (below_each T F C A.types (referred T t) A.values v).1 (rw (q, A.written) at s) in
          finish (array_ok T C n Γ t es j A.accepts l) (kind_value T t 5 k (omega arith)) h (sym e) A.same refl

      default_accepted : (t : ℕ) (a : Expr) → has_kind T t 5 ≡ true → Child a (n + 1) Γ → Rule n (default_array t a)
          → Accepted T C D (default_array t a) n Γ
      unfolding gather erase
      default_accepted t a k c (typ_newarray u e o ty s h) =
          let (j, q, v) = element t u k e o in
          let A = c (ty.scope ∙ b) in
          let l = (default_is T F (referred T t) v.within).1 (rw q at s) in
          let r = default_ok T C n Γ t a j A.accepts (base_kind A F 0 (omega arith) ty) l in
          finish r (kind_value T t 5 k (omega arith)) h (sym e) A.same refl

      with_accepted : (t x : ℕ) (a d : Expr) → has_kind T t 5 ≡ true → Child a (n + 1) Γ → Child d (n + 1 + size a) (binds (inner Γ) x 0 n)
          → Rule n (array_with t x a d) → Accepted T C D (array_with t x a d) n Γ
      unfolding gather erase
      with_accepted t x a d k c c' (typ_newarrayinit u v e o ty tv s h) =
          let (j, q, vu) = element t u k e o in
          let A = c (ty.scope ∙ b) in
          let B = c' (tv.scope ∙ bound T (inner Γ) x n 0 (ap (λ (G : Scope Ty). inner G) b) (sym (base_is T F 0 (omega arith)))) in
          let l = (below_sub T F C B.type (referred T t) B.value vu).1 (rw (q, ← type_is B tv) at s) in
          let r = with_ok T C n Γ t x a d j A.accepts (base_kind A F 0 (omega arith) ty) B.accepts l in
          finish r (kind_value T t 5 k (omega arith)) h (sym e) (joined T A.labels B.labels A.same B.same) refl

      index_accepted : (a d : Expr) → Child a (n + 1) Γ → Child d (n + 1 + size a) Γ → Rule n (index a d) → Accepted T C D (index a d) n Γ
      unfolding gather erase
      index_accepted a d c c' (typ_index t ty tu h) =
          let A = c (ty.scope ∙ b) in
          let B = c' (tu.scope ∙ b) in
          let (w, q, v) = array_parts T F A.type A.value.within t (type_is A ty) in
          let r = index_ok T C n Γ a d A.accepts w B.accepts (base_kind B F 0 (omega arith) tu) in
          finish r v h q (joined T A.labels B.labels A.same B.same) refl

      length_accepted : (a : Expr) → Child a (n + 1) Γ → Rule n (length_of a) → Accepted T C D (length_of a) n Γ
      unfolding gather erase
      length_accepted a c (typ_length t ty h) =
          let A = c (ty.scope ∙ b) in
          let (w, q, v) = array_parts T F A.type A.value.within t (type_is A ty) in
          finish (length_ok T C n Γ a A.accepts w) (base_value T F 0 (omega arith)) h (sym (base_is T F 0 (omega arith))) A.same refl

      struct_accepted : (t : ℕ) (is : Inits) → has_kind T t 4 ≡ true → Initial is (n + 1) Γ → Rule n (struct_literal t is)
          → Accepted T C D (struct_literal t is) n Γ
      unfolding gather erase
      struct_accepted t is k c (typ_structex s fs ts e l r ti ib h) =
          let (w, q) = struct_parts T F t (has-kind T t 4 k).within s e in
          let A = c ts (rw b at ti) in
          let m : (x : ℕ) (u : Ty) → member x fs ≡ has u → u ≡ void → ⊥ = λ x u. member_value T F C f s x fs u l in
          let p = (inits-below T F C fs is A.types m A.values A.many r).1 (rw A.written at ib) in
          finish (struct_ok T C n Γ t is (rw q at l) r A.accepts p) (kind_value T t 4 k (omega arith)) h (sym e) A.same refl

      field_accepted : (x : ℕ) (a : Expr) → Child a (n + 1) Γ → Rule n (field x a) → Accepted T C D (field x a) n Γ
      unfolding gather erase
      field_accepted x a c (typ_field s fs t ty l m h) =
          let A = c (ty.scope ∙ b) in
          let (w, q) = struct_parts T F A.type A.value.within s (type_is A ty) in
          let (u, p, z, v) = field_there T F C f (referred T A.type) x fs t (rw q at l) m in
          finish (field_ok T C n Γ x a A.accepts w p) v h z A.same refl

      call_accepted : (a : Expr) (es : Exprs) → Child a (n + 1) Γ → Children es (n + 1 + size a) Γ → Rule n (call a es)
          → Accepted T C D (call a es) n Γ
      unfolding gather erase
      call_accepted a es c c' (typ_call us ts t ty o tys s h) =
          let A = c (ty.scope ∙ b) in
          let B = c' ts (rw b at tys) in
          let (w, l, p, z, i) = call_parts T F C A.type A.value.within B.types us t (type_is A ty) B.values (rw B.written at s) in
          let (k, v) = not_void T F (referred T A.type) i (λ y. o (z ∙ y)) in
          let r = call_ok T C n Γ a es A.accepts w k (eq-eqb _ _ (B.many ∙ l)) B.accepts p in
          finish r v h z (joined T A.labels B.labels A.same B.same) refl

      unary_accepted : (x : ℕ) (a : Expr) → Child a (n + 1) Γ → Rule n (unary x a) → Accepted T C D (unary x a) n Γ
      unfolding gather erase
      unary_accepted x a c (typ_uop ty h) =
          let A = c (ty.scope ∙ b) in
          let s = pick_small (eqb x 1) 1 0 (omega arith) (omega arith) in
          let r = unary_ok T C n Γ x a A.accepts (base_kind A F (unary_type x) s ty) in
          finish r (base_value T F (unary_type x) s) h (sym (base_is T F (unary_type x) s)) A.same refl

      binary_accepted : (x : ℕ) (a d : Expr) → Child a (n + 1) Γ → Child d (n + 1 + size a) Γ → Rule n (binary x a d)
          → Accepted T C D (binary x a d) n Γ
      unfolding gather erase
      binary_accepted x a d c c' (typ_bop e ty tu h) =
          let A = c (ty.scope ∙ b) in
          let B = c' (tu.scope ∙ b) in
          let s = pick_small (eqb x 12 || eqb x 13) 1 0 (omega arith) (omega arith) in
          let k = operand_type x in
          let r = operator_ok T C n Γ x a d e A.accepts (base_kind A F k s ty) B.accepts (base_kind B F k s tu) in
          let z = sym (base_is T F (result_type x) (result_small x)) in
          finish r (base_value T F (result_type x) (result_small x)) h z (joined T A.labels B.labels A.same B.same) refl
      binary_accepted x a d c c' (typ_eq t u e ty tu st su h) =
          let A = c (ty.scope ∙ b) in
          let B = c' (tu.scope ∙ b) in
          let i = (below_sub T F C A.type B.type A.value B.value).1 (rw (← type_is A ty, ← type_is B tu) at st) in
          let j = (below_sub T F C B.type A.type B.value A.value).1 (rw (← type_is A ty, ← type_is B tu) at su) in
          let r = equality_ok T C n Γ x a d e A.accepts B.accepts i j in
          let z : bool ≡ type_of T (result_type x) = rw (equality_result x e) (sym (base_is T F 1 (omega arith))) in
          finish r (base_value T F (result_type x) (result_small x)) h z (joined T A.labels B.labels A.same B.same) refl

  -- lists
  module _ (n : ℕ) (Γ : Scope ℕ) where
    none_accepted : Children none n Γ
    unfolding gather erase types_of
    none_accepted _ typed_none = record {
      types = [];
      labels = [];
      accepts = none_ok T C n Γ;
      values = values_none;
      many = refl;
      written = refl;
      same = refl;
    }

    also_accepted : (a : Expr) (es : Exprs) → Child a n Γ → Children es (n + size a) Γ → Children (also a es) n Γ
    unfolding gather erase types_of
    also_accepted a es c c' _ (typed_also {ts = us} p q) =
        let A = c p.scope in
        let B = c' us q in
        record {
          types = A.type ∷ B.types;
          labels = A.labels ++ B.labels;
          accepts = also_ok T C n Γ a es A.accepts B.accepts;
          values = values_also A.value B.values;
          many = omega (arith, B.many);
          written = ap₂ and_ty (sym (type_is A p)) B.written;
          same = joined T A.labels B.labels A.same B.same;
        }

    no_init_accepted : Initial no_init n Γ
    unfolding gather erase types_of
    no_init_accepted _ typed_no_init = record {
      types = [];
      labels = [];
      accepts = no_init_ok T C n Γ;
      values = values_none;
      many = refl;
      written = refl;
      same = refl;
    }

    init_accepted : (x : ℕ) (a : Expr) (is : Inits) → Child a (n + 1) Γ → Initial is (n + 1 + size a) Γ → Initial (init x a is) n Γ
    unfolding gather erase types_of erase_bindings
    init_accepted x a is c c' _ (typed_init {ts = us} l p q) =
        let A = c p.scope in
        let B = c' us q in
        record {
          types = A.type ∷ B.types;
          labels = unlabelled ∷ A.labels ++ B.labels;
          accepts = init_ok T C n Γ x a is A.accepts B.accepts;
          values = values_also A.value B.values;
          many = omega (arith, B.many);
          written = ap₂ and_ty (sym (type_is A p)) B.written;
          same = ap₂ ◌∷◌ (sym l) (joined T A.labels B.labels A.same B.same);
        }

mutual
  pub complete : (T : Tables) → File T → (C : Context ℕ) → ContextFits T C → (D : Labels Ty) (e : Expr) (n : ℕ) (Γ : Scope ℕ)
      → ScopeFits T Γ → Stands T n e → Derives T (erase_context T C) D e n → (D n).before ≡ erase_scope T Γ → Accepted T C D e n Γ
  complete T F C f D (null t) n Γ g s d b = null_accepted T C D n Γ b F f g t s.1 (d.rule n (null t) here)
  complete T F C f D (literal l) n Γ g s d b = literal_accepted T C D n Γ b F f g l (d.rule n (literal l) here)
  complete T F C f D (name x) n Γ g s d b = name_accepted T C D n Γ b F f g x (d.rule n (name x) here)
  complete T F C f D (array_literal t es) n Γ g s d b =
      array_accepted T C D n Γ b F f g t es s.1
      (λ ts k. completes T F C f D es (n + 1) Γ ts g s.2 (λ m u w. d.rule m u (in_elements w)) k)
      (d.rule n (array_literal t es) here)
  complete T F C f D (default_array t a) n Γ g s d b =
      default_accepted T C D n Γ b F f g t a s.1
      (λ k. complete T F C f D a (n + 1) Γ g s.2 (record { rule = λ m u w. d.rule m u (in_length w) }) k)
      (d.rule n (default_array t a) here)
  complete T F C f D (array_with t x a c) n Γ g s d b =
      with_accepted T C D n Γ b F f g t x a c s.1
      (λ k. complete T F C f D a (n + 1) Γ g s.2 (record { rule = λ m u w. d.rule m u (in_with_length w) }) k)
      (λ k. complete T F C f D c (n + 1 + size a) (binds (inner Γ) x 0 n) (fits_bind g (base_value T F 0 (omega arith))) s.3
      (record { rule = λ m u w. d.rule m u (in_with_value w) }) k)
      (d.rule n (array_with t x a c) here)
  complete T F C f D (index a c) n Γ g s d b =
      index_accepted T C D n Γ b F f g a c
      (λ k. complete T F C f D a (n + 1) Γ g s.1 (record { rule = λ m u w. d.rule m u (in_indexed w) }) k)
      (λ k. complete T F C f D c (n + 1 + size a) Γ g s.2 (record { rule = λ m u w. d.rule m u (in_position w) }) k)
      (d.rule n (index a c) here)
  complete T F C f D (length_of a) n Γ g s d b =
      length_accepted T C D n Γ b F f g a
      (λ k. complete T F C f D a (n + 1) Γ g s.1 (record { rule = λ m u w. d.rule m u (in_measured w) }) k)
      (d.rule n (length_of a) here)
  complete T F C f D (struct_literal t is) n Γ g s d b =
      struct_accepted T C D n Γ b F f g t is s.1
      (λ ts k. complete_inits T F C f D is (n + 1) Γ ts g s.2 (λ m u w. d.rule m u (in_fields w)) k)
      (d.rule n (struct_literal t is) here)
  complete T F C f D (field x a) n Γ g s d b =
      field_accepted T C D n Γ b F f g x a
      (λ k. complete T F C f D a (n + 1) Γ g s.1 (record { rule = λ m u w. d.rule m u (in_record w) }) k)
      (d.rule n (field x a) here)
  complete T F C f D (call a es) n Γ g s d b =
      call_accepted T C D n Γ b F f g a es
      (λ k. complete T F C f D a (n + 1) Γ g s.1 (record { rule = λ m u w. d.rule m u (in_callee w) }) k)
      (λ ts k. completes T F C f D es (n + 1 + size a) Γ ts g s.2 (λ m u w. d.rule m u (in_arguments w)) k)
      (d.rule n (call a es) here)
  complete T F C f D (unary x a) n Γ g s d b =
      unary_accepted T C D n Γ b F f g x a
      (λ k. complete T F C f D a (n + 1) Γ g s.2 (record { rule = λ m u w. d.rule m u (in_operand w) }) k)
      (d.rule n (unary x a) here)
  complete T F C f D (binary x a c) n Γ g s d b =
      binary_accepted T C D n Γ b F f g x a c
      (λ k. complete T F C f D a (n + 1) Γ g s.2 (record { rule = λ m u w. d.rule m u (in_left w) }) k)
      (λ k. complete T F C f D c (n + 1 + size a) Γ g s.3 (record { rule = λ m u w. d.rule m u (in_right w) }) k)
      (d.rule n (binary x a c) here)

  pub completes : (T : Tables) → File T → (C : Context ℕ) → ContextFits T C → (D : Labels Ty) (es : Exprs) (n : ℕ) (Γ : Scope ℕ) (ts : Tys)
      → ScopeFits T Γ → StandAll T n es → ((m : ℕ) (u : Expr) → AtAll es n m u → ExprRule T (erase_context T C) D m u)
      → TypedAll D (erase_scope T Γ) n es ts → AcceptedAll T C D es n Γ ts
  completes T F C f D none n Γ ts g s d t = none_accepted T C D n Γ ts t
  completes T F C f D (also a es) n Γ ts g s d t =
      also_accepted T C D n Γ a es
      (λ k. complete T F C f D a n Γ g s.0 (record { rule = λ m u w. d m u (in_first w) }) k)
      (λ us k. completes T F C f D es (n + size a) Γ us g s.1 (λ m u w. d m u (in_rest w)) k)
      ts t

  pub complete_inits : (T : Tables) → File T → (C : Context ℕ) → ContextFits T C → (D : Labels Ty) (is : Inits) (n : ℕ) (Γ : Scope ℕ) (ts : Tys)
      → ScopeFits T Γ → InitsStand T n is → ((m : ℕ) (u : Expr) → AtInits is n m u → ExprRule T (erase_context T C) D m u)
      → TypedInits D (erase_scope T Γ) n is ts → AcceptedInits T C D is n Γ ts
  complete_inits T F C f D no_init n Γ ts g s d t = no_init_accepted T C D n Γ ts t
  complete_inits T F C f D (init x a is) n Γ ts g s d t =
      init_accepted T C D n Γ x a is
      (λ k. complete T F C f D a (n + 1) Γ g s.1 (record { rule = λ m u w. d m u (in_value w) }) k)
      (λ us k. complete_inits T F C f D is (n + 1 + size a) Γ us g s.2 (λ m u w. d m u (in_others w)) k)
      ts t
