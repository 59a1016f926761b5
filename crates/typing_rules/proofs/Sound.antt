-- A labelling that has the labels of an accepted expression is a derivation. Assumes nothing.
use mathlib.Core.Path.{◌≡◌, refl, ap, sym, ◌∙◌}
use mathlib.Core.Bool.{Bool, true, false, not, ◌&&◌, ◌||◌}
use mathlib.Core.List.{List, [], ◌∷◌, ◌++◌}
use Prim.Native.Nat.{ℕ, ◌+◌, ◌<◌}
use native.Mathlib.Omega.{arith}
use lib.ListN.{length, length-append}
use lib.Dec.{eqb, leb}
use borrow.Author.Tests.{eqb-true, eqb-false, eq-eqb, not-true}
use Rattle.oat.specs.Basics.{pick}
use Rattle.oat.specs.Tables.{Tables, type_at}
use Rattle.oat.specs.TypeRules.{kind_at}
use Rattle.oat.specs.TableRules.{has_kind}
use Rattle.oat.specs.Types.{Ty, int, array, type_of, Field, found, lookup}
use Rattle.oat.specs.Syntax.{Literal, truth, falsity, integer, text, Expr, null, literal, name, array_literal, default_array, array_with, index, length_of, struct_literal, field, call, unary, binary, Exprs, none, also, Inits, no_init, init, size, sizes, size_inits, count, count_inits}
use Rattle.oat.specs.Nodes.{Stands, StandAll, InitsStand}
use Rattle.oat.proofs.LawsBasics.{and_parts}
use Rattle.oat.proofs.LawsTables.{HasKind, has-kind}
use Rattle.typing_rules.specs.Contexts.{Scope, binds, Hit, hit, miss, find, Context, find_name, or_else, inner}
use Rattle.typing_rules.specs.Operators.{is_equality, operand_type, result_type, unary_type, literal_type}
use Rattle.typing_rules.specs.Labels.{gives, Label, Labels, unlabelled}
use Rattle.typing_rules.specs.Rules.{Typed, Has, TypedAll, typed_none, typed_also, TypedInits, typed_no_init, typed_init, names_fit, ExprRule, typ_null, typ_literal, typ_local, typ_global, typ_carr, typ_newarray, typ_newarrayinit, typ_index, typ_length, typ_structex, typ_field, typ_call, typ_bop, typ_eq, typ_uop}
use Rattle.typing_rules.specs.Derivations.{At, AtAll, AtInits, Derives}
use Rattle.typing_rules.specs.Judge.{ok, judge, judges, judge_inits, typed_as, plain, is_kind, referred, is_below, formed, has_default, each_below, arguments_below, number, field_of, inits_below, judging}
use Rattle.typing_rules.proofs.Claims.{File, Value, ScopeFits, fits_bind, ContextFits, erase_scope, erase_context, erase, Holds, erase_bindings}
use Rattle.typing_rules.proofs.LawsBridge.{types_of, Values, values_none, values_also, erase_hit, find_erase, name_erase, find_value, name_value, is_base, is_void, is_struct, is_array, is_function, is_nullable, array_parts, function_parts, default_is, base_is, base_value, below_sub, formed_value, formed_null, below_each, arguments-below, inits-below, member_value, field_found}
use Rattle.typing_rules.proofs.LawsOutcome.{ok_is, then_ok, needs_ok, named_ok, field_ok, declared_ok}
use Rattle.typing_rules.proofs.LawsHolds.{labels_split}
use Rattle.typing_rules.proofs.LawsSubtrees.{Ruled, at_null, at_literal, at_name, at_array_literal, at_default_array, at_array_with, at_index, at_length_of, at_struct_literal, at_field, at_call, at_unary, at_binary, at_none, at_also, at_no_init, at_init}

-- what an accepted expression says of every labelling that has its labels
pub record Right (T : Tables) (C : Context ℕ) (e : Expr) (n : ℕ) (Γ : Scope ℕ) (a : ℕ) (L : List (Label ℕ)) : Type 0 where
  pub value : Value T a
  pub long : length L ≡ size e
  pub derives : (D : Labels Ty) → Holds D n (erase T L) → Derives T (erase_context T C) D e n
  pub before : (D : Labels Ty) → Holds D n (erase T L) → (D n).before ≡ erase_scope T Γ
  pub result : (D : Labels Ty) → Holds D n (erase T L) → (D n).result ≡ gives (type_of T a)

-- what accepted expressions say
pub record RightAll (T : Tables) (C : Context ℕ) (es : Exprs) (n : ℕ) (Γ : Scope ℕ) (ts : List ℕ) (L : List (Label ℕ)) : Type 0 where
  pub values : Values T ts
  pub many : count es ≡ length ts
  pub long : length L ≡ sizes es
  pub derives : (D : Labels Ty) → Holds D n (erase T L) → (m : ℕ) (u : Expr) → AtAll es n m u → ExprRule T (erase_context T C) D m u
  pub typed : (D : Labels Ty) → Holds D n (erase T L) → TypedAll D (erase_scope T Γ) n es (types_of T ts)

-- what accepted field initializers say
pub record RightInits (T : Tables) (C : Context ℕ) (is : Inits) (n : ℕ) (Γ : Scope ℕ) (ts : List ℕ) (L : List (Label ℕ)) : Type 0 where
  pub values : Values T ts
  pub many : count_inits is ≡ length ts
  pub long : length L ≡ size_inits is
  pub derives : (D : Labels Ty) → Holds D n (erase T L) → (m : ℕ) (u : Expr) → AtInits is n m u → ExprRule T (erase_context T C) D m u
  pub typed : (D : Labels Ty) → Holds D n (erase T L) → TypedInits D (erase_scope T Γ) n is (types_of T ts)

-- what a labelling gives at a node that the check labels with the type t and the binder b
record Given (T : Tables) (D : Labels Ty) (n : ℕ) (Γ : Scope ℕ) (t b : ℕ) : Type 0 where
  before : (D n).before ≡ erase_scope T Γ
  has : Has D n (type_of T t) b

given : (T : Tables) (D : Labels Ty) (n : ℕ) (Γ : Scope ℕ) (t b : ℕ) (M : List (Label ℕ)) → Holds D n (erase T (typed_as t b Γ ∷ M))
    → Given T D n Γ t b × Holds D (n + 1) (erase T M)
unfolding Holds erase
given T D n Γ t b M (e, h) =
    let p : (D n).before ≡ erase_scope T Γ = ap (λ (l : Label Ty). l.before) e in
    let q : (D n).result ≡ gives (type_of T t) = ap (λ (l : Label Ty). l.result) e in
    let c : (D n).binder ≡ b = ap (λ (l : Label Ty). l.binder) e in
    (record { before = p; has = record { type = q; binder_is = c; after = ap (λ (l : Label Ty). l.after) e ∙ sym p } }, h)

-- the top's type, written out
has_as : {T : Tables} {D : Labels Ty} {n : ℕ} {Γ : Scope ℕ} {t b : ℕ} {v : Ty} → Given T D n Γ t b → type_of T t ≡ v → Has D n v b
has_as g e = rw e at g.has

-- a field initializer has no label of its own
init_split : (T : Tables) (D : Labels Ty) (n k : ℕ) (M N : List (Label ℕ)) → length M ≡ k → Holds D n (erase T (unlabelled ∷ M ++ N))
    → (D n ≡ unlabelled) × Holds D (n + 1) (erase T M) × Holds D (n + 1 + k) (erase T N)
unfolding Holds erase erase_bindings
init_split T D n k M N l (e, h) = let (x, y) = labels_split T D (n + 1) k M N l h in (e, x, y)

-- a premise on a child
pub typed_of : {T : Tables} {C : Context ℕ} {a : Expr} {m : ℕ} {Γ : Scope ℕ} {u : ℕ} {L : List (Label ℕ)} {D : Labels Ty} → Right T C a m Γ u L
    → Holds D m (erase T L) → Typed D m (erase_scope T Γ) (type_of T u)
typed_of {D = D} r h = record { scope = r.before D h; type = r.result D h }

said : {T : Tables} {C : Context ℕ} {a : Expr} {m n : ℕ} {Γ : Scope ℕ} {t u b : ℕ} {L : List (Label ℕ)} {D : Labels Ty} {v : Ty}
    → Given T D n Γ t b → Right T C a m Γ u L → Holds D m (erase T L) → type_of T u ≡ v → Typed D m (D n).before v
said {D = D} g r h e = record { scope = r.before D h ∙ sym g.before; type = r.result D h ∙ ap gives e }

-- a type of a kind other than void is a value's
kind_value : {T : Tables} {t k : ℕ} → HasKind T t k → (k ≡ 3 → ⊥) → Value T t
kind_value h z = record { within = h.within; value = λ e. z (sym h.kind ∙ e) }

-- an array's type
record ArrayType (T : Tables) (t : ℕ) : Type 0 where
  value : Value T t
  is : type_of T t ≡ array (type_of T (referred T t))
  element : Value T (referred T t)

array_type : (T : Tables) → File T → (t : ℕ) → has_kind T t 5 ≡ true → ArrayType T t
array_type T F t h =
    let k = has-kind T t 5 h in
    let e = (is_array T F t k.within).0 (eq-eqb _ _ k.kind) in
    record { value = kind_value k (omega arith); is = e; element = (array_parts T F t k.within _ e).2 }

-- literals and operators have types 0 to 2
literal_low : (l : Literal) → literal_type l < 3
literal_low truth = omega arith
literal_low falsity = omega arith
literal_low (integer x) = omega arith
literal_low (text x) = omega arith

pick_low : (b : Bool) (p q : ℕ) → p < 3 → q < 3 → pick b p q < 3
pick_low true p q h l = h
pick_low false p q h l = l

unary_low : (x : ℕ) → unary_type x < 3
unary_low x = pick_low (eqb x 1) 1 0 (omega arith) (omega arith)

operand_low : (x : ℕ) → operand_type x < 3
operand_low x = pick_low (eqb x 12 || eqb x 13) 1 0 (omega arith) (omega arith)

result_low : (x : ℕ) → result_type x < 3
result_low x = pick_low (leb x 5 || leb 14 x) 0 1 (omega arith) (omega arith)

-- a comparison gives bool
equality_result : (x : ℕ) → is_equality x ≡ true → result_type x ≡ 1
equality_result x e = go (eqb x 10) refl e
  where
    go : (b : Bool) → eqb x 10 ≡ b → (b || eqb x 11) ≡ true → result_type x ≡ 1
    go true p q = rw (eqb-true x 10 p)
    go false p q = rw (eqb-true x 11 q)

-- a name means a local binding, or else what the context has
local_or_global : {P : Type 0} {t b : ℕ} (h k : Hit ℕ) → or_else h k ≡ hit t b → (h ≡ hit t b → P) → (h ≡ miss → k ≡ hit t b → P) → P
local_or_global (hit u c) k e p q = p e
local_or_global miss k e p q = q refl e

-- the scope of an array's initial value has the index
index_bound : (T : Tables) → File T → (x n : ℕ) (Γ : Scope ℕ) {S : Scope Ty} → S ≡ erase_scope T Γ → erase_scope T (binds Γ x 0 n) ≡ binds S x int n
unfolding erase_bindings
index_bound T F x n Γ p = λ i. binds (sym p i) x (base_is T F 0 (omega arith) i) n

module _ (T : Tables) (F : File T) (C : Context ℕ) (f : ContextFits T C) where
  -- each kind: the rule at the node from the tests that passed, and all below it from the children's
  module _ {n : ℕ} {Γ : Scope ℕ} {r : ℕ} {L : List (Label ℕ)} where
    right : (e : Expr) (t b : ℕ) (M : List (Label ℕ)) → Value T t → size e ≡ 1 + length M
        → ((D : Labels Ty) → Given T D n Γ t b → Holds D (n + 1) (erase T M) → Ruled T (erase_context T C) D (At e n))
        → ok t (typed_as t b Γ ∷ M) ≡ ok r L → Right T C e n Γ r L
    right e t b M v l rules j = ok_is (λ a L. Right T C e n Γ a L) j (record {
      value = v;
      long = omega arith;
      derives = λ D h. let (g, k) = given T D n Γ t b M h in record { rule = rules D g k };
      before = λ D h. (given T D n Γ t b M h).0.before;
      result = λ D h. (given T D n Γ t b M h).0.has.type;
    })

    right_two : (e : Expr) (t : ℕ) (M N : List (Label ℕ)) (p q : ℕ) → Value T t → length M ≡ p → length N ≡ q → size e ≡ 1 + p + q
        → ((D : Labels Ty) → Given T D n Γ t 65535 → Holds D (n + 1) (erase T M) → Holds D (n + 1 + p) (erase T N)
        → Ruled T (erase_context T C) D (At e n))
        → plain t Γ (M ++ N) ≡ ok r L → Right T C e n Γ r L
    right_two e t M N p q v lm ln l rules j =
        right e t 65535 (M ++ N) v (simp length-append (omega arith))
        (λ D g h. let (x, y) = labels_split T D (n + 1) p M N lm h in rules D g x y) j

    null_right : (t : ℕ) → has_kind T t 7 ≡ true → formed T C t ≡ true → plain t Γ [] ≡ ok r L → Right T C (null t) n Γ r L
    null_right t h fo j =
        let k = has-kind T t 7 h in
        let e = (is_nullable T F t k.within).0 (eq-eqb _ _ k.kind) in
        right (null t) t 65535 [] (kind_value k (omega arith)) refl
        (λ D g h. at_null (typ_null _ e ((formed_null T F C t _ k.within e).0 fo) (has_as g e))) j

    literal_right : (l : Literal) → plain (literal_type l) Γ [] ≡ ok r L → Right T C (literal l) n Γ r L
    literal_right l j =
        right (literal l) (literal_type l) 65535 [] (base_value T F _ (literal_low l)) refl
        (λ D g h. at_literal (typ_literal (has_as g (base_is T F _ (literal_low l))))) j

    local_right : (x t b : ℕ) → ScopeFits T Γ → find x Γ ≡ hit t b → ok t (typed_as t b Γ ∷ []) ≡ ok r L → Right T C (name x) n Γ r L
    unfolding erase_hit
    local_right x t b s e j =
        right (name x) t b [] (find_value T x t b Γ s e) refl
        (λ D g h. at_name (typ_local _ b (rw (g.before, find_erase T x Γ, e)) g.has)) j

    global_right : (x t b : ℕ) → find x Γ ≡ miss → find_name x C.names ≡ hit t b → ok t (typed_as t b Γ ∷ []) ≡ ok r L
        → Right T C (name x) n Γ r L
    unfolding erase_hit
    global_right x t b m e j =
        right (name x) t b [] (name_value T x t b C f e) refl
        (λ D g h. at_name (typ_global _ b (rw (g.before, find_erase T x Γ, m)) (rw (name_erase T x C.names, e)) g.has)) j

    carr_right : {t : ℕ} {es : Exprs} {ts : List ℕ} {M : List (Label ℕ)} → has_kind T t 5 ≡ true → formed T C (referred T t) ≡ true
        → each_below T C ts (referred T t) ≡ true → RightAll T C es (n + 1) Γ ts M → plain t Γ M ≡ ok r L
        → Right T C (array_literal t es) n Γ r L
    carr_right {t} {es} {ts} {M} h fo eb ra j =
        let z = array_type T F t h in
        let w = (formed_value T F C _ z.element).0 fo in
        let sub = (below_each T F C ts _ ra.values z.element).0 eb in
        right (array_literal t es) t 65535 M z.value (omega arith)
        (λ D g h. at_array_literal
        (typ_carr _ (types_of T ts) z.is w (rw g.before (ra.typed D h)) sub (has_as g z.is)) (ra.derives D h)) j

    newarray_right : {t : ℕ} {a : Expr} {u : ℕ} {M : List (Label ℕ)} → has_kind T t 5 ≡ true → formed T C (referred T t) ≡ true
        → is_kind T u 0 ≡ true → has_default T (referred T t) ≡ true → Right T C a (n + 1) Γ u M → plain t Γ M ≡ ok r L
        → Right T C (default_array t a) n Γ r L
    newarray_right {t} {a} {u} {M} h fo ku de ra j =
        let z = array_type T F t h in
        let w = (formed_value T F C _ z.element).0 fo in
        let e = (is_base T F u ra.value.within 0 (omega arith)).0 ku in
        let d = (default_is T F _ z.element.within).0 de in
        right (default_array t a) t 65535 M z.value (omega arith)
        (λ D g h. at_default_array (typ_newarray _ z.is w (said g ra h e) d (has_as g z.is)) (ra.derives D h)) j

    with_right : {t x : ℕ} {a b : Expr} {u v : ℕ} {M N : List (Label ℕ)} → has_kind T t 5 ≡ true → formed T C (referred T t) ≡ true
        → is_kind T u 0 ≡ true → is_below T C v (referred T t) ≡ true → Right T C a (n + 1) Γ u M
        → Right T C b (n + 1 + size a) (binds (inner Γ) x 0 n) v N → plain t Γ (M ++ N) ≡ ok r L → Right T C (array_with t x a b) n Γ r L
    with_right {t} {x} {a} {b} {u} {v} {M} {N} h fo ku be ra rb j =
        let z = array_type T F t h in
        let w = (formed_value T F C _ z.element).0 fo in
        let e = (is_base T F u ra.value.within 0 (omega arith)).0 ku in
        let sub = (below_sub T F C v _ rb.value z.element).0 be in
        right_two (array_with t x a b) t M N _ _ z.value ra.long rb.long refl
        (λ D g h k. at_array_with
        (typ_newarrayinit _ (type_of T v) z.is w (said g ra h e)
        (record { scope = rb.before D k ∙ index_bound T F x n (inner Γ) (ap (λ (G : Scope Ty). inner G) g.before); type = rb.result D k }) sub (has_as g z.is))
        (ra.derives D h) (rb.derives D k)) j

    index_right : {a b : Expr} {t u : ℕ} {M N : List (Label ℕ)} → is_kind T t 5 ≡ true → is_kind T u 0 ≡ true → Right T C a (n + 1) Γ t M
        → Right T C b (n + 1 + size a) Γ u N → plain (referred T t) Γ (M ++ N) ≡ ok r L → Right T C (index a b) n Γ r L
    index_right {a} {b} {t} {u} {M} {N} kt ku ra rb j =
        let e = (is_array T F t ra.value.within).0 kt in
        let z = (is_base T F u rb.value.within 0 (omega arith)).0 ku in
        right_two (index a b) (referred T t) M N _ _ (array_parts T F t ra.value.within _ e).2 ra.long rb.long refl
        (λ D g h k. at_index (typ_index _ (said g ra h e) (said g rb k z) g.has) (ra.derives D h) (rb.derives D k)) j

    length_right : {a : Expr} {t : ℕ} {M : List (Label ℕ)} → is_kind T t 5 ≡ true → Right T C a (n + 1) Γ t M → plain 0 Γ M ≡ ok r L
        → Right T C (length_of a) n Γ r L
    length_right {a} {t} {M} kt ra j =
        let e = (is_array T F t ra.value.within).0 kt in
        right (length_of a) 0 65535 M (base_value T F 0 (omega arith)) (omega arith)
        (λ D g h. at_length_of (typ_length _ (said g ra h e) (has_as g (base_is T F 0 (omega arith)))) (ra.derives D h)) j

    struct_right : {t : ℕ} {is : Inits} {fs : List Field} {ts : List ℕ} {M : List (Label ℕ)} → has_kind T t 4 ≡ true
        → lookup C.structs (referred T t) ≡ found fs → names_fit fs is ≡ true → inits_below T C fs is ts ≡ true
        → RightInits T C is (n + 1) Γ ts M → plain t Γ M ≡ ok r L → Right T C (struct_literal t is) n Γ r L
    struct_right {t} {is} {fs} {ts} {M} h lk nf ib ra j =
        let k = has-kind T t 4 h in
        let e = (is_struct T F t k.within).0 (eq-eqb _ _ k.kind) in
        let sub = (inits-below T F C fs is ts
        (λ x u m. member_value T F C f (referred T t) x fs u lk m) ra.values (sym ra.many) nf).0 ib in
        right (struct_literal t is) t 65535 M (kind_value k (omega arith)) (omega arith)
        (λ D g h. at_struct_literal
        (typ_structex _ fs (types_of T ts) e lk nf (rw g.before (ra.typed D h)) sub (has_as g e)) (ra.derives D h)) j

    field_right : {x : ℕ} {a : Expr} {t v : ℕ} {M : List (Label ℕ)} → is_kind T t 4 ≡ true
        → field_of T (referred T t) x 0 (length C.structs) ≡ number v → Right T C a (n + 1) Γ t M → plain v Γ M ≡ ok r L
        → Right T C (field x a) n Γ r L
    field_right {x} {a} {t} {v} {M} kt nu ra j =
        let e = (is_struct T F t ra.value.within).0 kt in
        let (fs, lk, mb, va) = field_found T F C f (referred T t) x v nu in
        right (field x a) v 65535 M va (omega arith)
        (λ D g h. at_field (typ_field _ fs _ (said g ra h e) lk mb g.has) (ra.derives D h)) j

    call_right : {a : Expr} {es : Exprs} {t : ℕ} {ts : List ℕ} {M N : List (Label ℕ)} → is_kind T t 6 ≡ true
        → not (is_kind T (referred T t) 3) ≡ true → eqb (count es) (type_at T t).c ≡ true → arguments_below T C ts (type_at T t).b ≡ true
        → Right T C a (n + 1) Γ t M → RightAll T C es (n + 1 + size a) Γ ts N → plain (referred T t) Γ (M ++ N) ≡ ok r L
        → Right T C (call a es) n Γ r L
    call_right {a} {es} {t} {ts} {M} {N} kt nv ct ab ra rb j =
        let w = ra.value.within in
        let e = (is_function T F t w).0 kt in
        let i = (function_parts T F t w _ _ e).3 in
        let no-void = eqb-false (kind_at T (referred T t)) 3 (not-true _ nv) in
        let sub = (arguments-below T F C ts t rb.values w kt (sym rb.many ∙ eqb-true _ _ ct)).0 ab in
        right_two (call a es) (referred T t) M N _ _ (record { within = i; value = no-void }) ra.long rb.long refl
        (λ D g h k. at_call
        (typ_call _ (types_of T ts) _ (said g ra h e) (λ z. no-void (eqb-true _ _ ((is_void T F (referred T t) i).1 z)))
        (rw g.before (rb.typed D k)) sub g.has)
        (ra.derives D h) (rb.derives D k)) j

    unary_right : {x : ℕ} {a : Expr} {t : ℕ} {M : List (Label ℕ)} → is_kind T t (unary_type x) ≡ true → Right T C a (n + 1) Γ t M
        → plain (unary_type x) Γ M ≡ ok r L → Right T C (unary x a) n Γ r L
    unary_right {x} {a} {t} {M} kt ra j =
        let e = (is_base T F t ra.value.within (unary_type x) (unary_low x)).0 kt in
        right (unary x a) (unary_type x) 65535 M (base_value T F _ (unary_low x)) (omega arith)
        (λ D g h. at_unary (typ_uop (said g ra h e) (has_as g (base_is T F _ (unary_low x)))) (ra.derives D h)) j

    module _ {x : ℕ} {a b : Expr} {t u : ℕ} {M N : List (Label ℕ)} (ra : Right T C a (n + 1) Γ t M) (rb : Right T C b (n + 1 + size a) Γ u N) where
      bop_right : is_equality x ≡ false → is_kind T t (operand_type x) ≡ true → is_kind T u (operand_type x) ≡ true
          → plain (result_type x) Γ (M ++ N) ≡ ok r L → Right T C (binary x a b) n Γ r L
      bop_right q kt ku j =
          let e = (is_base T F t ra.value.within (operand_type x) (operand_low x)).0 kt in
          let z = (is_base T F u rb.value.within (operand_type x) (operand_low x)).0 ku in
          let i = base_is T F _ (result_low x) in
          right_two (binary x a b) (result_type x) M N _ _ (base_value T F _ (result_low x)) ra.long rb.long refl
          (λ D g h k. at_binary (typ_bop q (said g ra h e) (said g rb k z) (has_as g i)) (ra.derives D h) (rb.derives D k)) j

      eq_right : is_equality x ≡ true → (is_below T C t u && is_below T C u t) ≡ true → plain (result_type x) Γ (M ++ N) ≡ ok r L
          → Right T C (binary x a b) n Γ r L
      eq_right q be j =
          let (tu, ut) = and_parts (is_below T C t u) (is_below T C u t) be in
          let p = (below_sub T F C t u ra.value rb.value).0 tu in
          let s = (below_sub T F C u t rb.value ra.value).0 ut in
          let i = ap (type_of T) (equality_result x q) ∙ base_is T F 1 (omega arith) in
          right_two (binary x a b) (result_type x) M N _ _ (base_value T F _ (result_low x)) ra.long rb.long refl
          (λ D g h k. at_binary
          (typ_eq (type_of T t) (type_of T u) q (said g ra h refl) (said g rb k refl) p s (has_as g i)) (ra.derives D h) (rb.derives D k)) j

      binary_right : (q : Bool) → is_equality x ≡ q → (q || is_kind T t (operand_type x)) ≡ true → (q || is_kind T u (operand_type x)) ≡ true
          → (not q || (is_below T C t u && is_below T C u t)) ≡ true → plain (result_type x) Γ (M ++ N) ≡ ok r L
          → Right T C (binary x a b) n Γ r L
      binary_right true q kt ku be j = eq_right q be j
      binary_right false q kt ku be j = bop_right q kt ku j

  -- lists of expressions and of field initializers
  module _ {n : ℕ} {Γ : Scope ℕ} {us : List ℕ} {L : List (Label ℕ)} where
    none_right : ok [] [] ≡ ok us L → RightAll T C none n Γ us L
    unfolding types_of
    none_right j = ok_is (λ us L. RightAll T C none n Γ us L) j (record {
      values = values_none;
      many = refl;
      long = refl;
      derives = λ D h. at_none;
      typed = λ D h. typed_none;
    })

    no_init_right : ok [] [] ≡ ok us L → RightInits T C no_init n Γ us L
    unfolding types_of
    no_init_right j = ok_is (λ us L. RightInits T C no_init n Γ us L) j (record {
      values = values_none;
      many = refl;
      long = refl;
      derives = λ D h. at_no_init;
      typed = λ D h. typed_no_init;
    })

    module _ {a : Expr} {t : ℕ} {ts : List ℕ} {M N : List (Label ℕ)} where
      also_right : {es : Exprs} → Right T C a n Γ t M → RightAll T C es (n + size a) Γ ts N → ok (t ∷ ts) (M ++ N) ≡ ok us L
          → RightAll T C (also a es) n Γ us L
      unfolding types_of
      also_right {es} ra rb j = ok_is (λ us L. RightAll T C (also a es) n Γ us L) j (record {
        values = values_also ra.value rb.values;
        many = omega arith;
        long = simp length-append (omega arith);
        derives = λ D h. let (p, q) = labels_split T D n (size a) M N ra.long h in at_also (ra.derives D p) (rb.derives D q);
        typed = λ D h. let (p, q) = labels_split T D n (size a) M N ra.long h in typed_also (typed_of ra p) (rb.typed D q);
      })

      init_right : {x : ℕ} {is : Inits} → Right T C a (n + 1) Γ t M → RightInits T C is (n + 1 + size a) Γ ts N
          → ok (t ∷ ts) (unlabelled ∷ M ++ N) ≡ ok us L → RightInits T C (init x a is) n Γ us L
      unfolding types_of
      init_right {x} {is} ra rb j = ok_is (λ us L. RightInits T C (init x a is) n Γ us L) j (record {
        values = values_also ra.value rb.values;
        many = omega arith;
        long = simp length-append (omega arith);
        derives = λ D h. let (e, p, q) = init_split T D n (size a) M N ra.long h in at_init (ra.derives D p) (rb.derives D q);
        typed = λ D h. let (e, p, q) = init_split T D n (size a) M N ra.long h in typed_init e (typed_of ra p) (rb.typed D q);
      })

  -- soundness, step by step as `judge` goes
  mutual
    unfolding judging

    pub sound : (e : Expr) (n : ℕ) (Γ : Scope ℕ) (a : ℕ) (L : List (Label ℕ)) → ScopeFits T Γ → Stands T n e → judge T C e n Γ ≡ ok a L
        → Right T C e n Γ a L
    sound (null t) n Γ r L g s j =
        needs_ok (formed T C t) _ _ _ j λ fo j₁.
        null_right t s.1 fo j₁
    sound (literal l) n Γ r L g s j = literal_right l j
    sound (name x) n Γ r L g s j =
        named_ok (or_else (find x Γ) (find_name x C.names)) n Γ j λ t b e j₁.
        local_or_global (find x Γ) (find_name x C.names) e (λ h. local_right x t b g h j₁) (λ m h. global_right x t b m h j₁)
    sound (array_literal t es) n Γ r L g s j =
        needs_ok (formed T C (referred T t)) _ _ _ j λ fo j₁.
        then_ok (judges T C es (n + 1) Γ) _ j₁ λ ts M ja j₂.
        needs_ok (each_below T C ts (referred T t)) _ _ _ j₂ λ eb j₃.
        carr_right s.1 fo eb (sounds es (n + 1) Γ ts M g s.2 ja) j₃
    sound (default_array t a) n Γ r L g s j =
        needs_ok (formed T C (referred T t)) _ _ _ j λ fo j₁.
        then_ok (judge T C a (n + 1) Γ) _ j₁ λ u M ja j₂.
        needs_ok (is_kind T u 0) _ _ _ j₂ λ ku j₃.
        needs_ok (has_default T (referred T t)) _ _ _ j₃ λ de j₄.
        newarray_right s.1 fo ku de (sound a (n + 1) Γ u M g s.2 ja) j₄
    sound (array_with t x a b) n Γ r L g s j =
        needs_ok (formed T C (referred T t)) _ _ _ j λ fo j₁.
        then_ok (judge T C a (n + 1) Γ) _ j₁ λ u M ja j₂.
        needs_ok (is_kind T u 0) _ _ _ j₂ λ ku j₃.
        then_ok (judge T C b (n + 1 + size a) (binds (inner Γ) x 0 n)) _ j₃ λ v N jb j₅.
        needs_ok (is_below T C v (referred T t)) _ _ _ j₅ λ be j₆.
        with_right s.1 fo ku be (sound a (n + 1) Γ u M g s.2 ja)
        (sound b (n + 1 + size a) (binds (inner Γ) x 0 n) v N (fits_bind g (base_value T F 0 (omega arith))) s.3 jb) j₆
    sound (index a b) n Γ r L g s j =
        then_ok (judge T C a (n + 1) Γ) _ j λ t M ja j₁.
        needs_ok (is_kind T t 5) _ _ _ j₁ λ kt j₂.
        then_ok (judge T C b (n + 1 + size a) Γ) _ j₂ λ u N jb j₃.
        needs_ok (is_kind T u 0) _ _ _ j₃ λ ku j₄.
        index_right kt ku (sound a (n + 1) Γ t M g s.1 ja) (sound b (n + 1 + size a) Γ u N g s.2 jb) j₄
    sound (length_of a) n Γ r L g s j =
        then_ok (judge T C a (n + 1) Γ) _ j λ t M ja j₁.
        needs_ok (is_kind T t 5) _ _ _ j₁ λ kt j₂.
        length_right kt (sound a (n + 1) Γ t M g s.1 ja) j₂
    sound (struct_literal t is) n Γ r L g s j =
        declared_ok (lookup C.structs (referred T t)) n _ j λ fs lk j₁.
        needs_ok (names_fit fs is) _ _ _ j₁ λ nf j₂.
        then_ok (judge_inits T C is (n + 1) Γ) _ j₂ λ ts M ja j₃.
        needs_ok (inits_below T C fs is ts) _ _ _ j₃ λ ib j₄.
        struct_right s.1 lk nf ib (sound_inits is (n + 1) Γ ts M g s.2 ja) j₄
    sound (field x a) n Γ r L g s j =
        then_ok (judge T C a (n + 1) Γ) _ j λ t M ja j₁.
        needs_ok (is_kind T t 4) _ _ _ j₁ λ kt j₂.
        field_ok (field_of T (referred T t) x 0 (length C.structs)) n Γ M j₂ λ v nu j₃.
        field_right kt nu (sound a (n + 1) Γ t M g s.1 ja) j₃
    sound (call a es) n Γ r L g s j =
        then_ok (judge T C a (n + 1) Γ) _ j λ t M ja j₁.
        needs_ok (is_kind T t 6) _ _ _ j₁ λ kt j₂.
        needs_ok (not (is_kind T (referred T t) 3)) _ _ _ j₂ λ nv j₃.
        needs_ok (eqb (count es) (type_at T t).c) _ _ _ j₃ λ ct j₄.
        then_ok (judges T C es (n + 1 + size a) Γ) _ j₄ λ ts N jb j₅.
        needs_ok (arguments_below T C ts (type_at T t).b) _ _ _ j₅ λ ab j₆.
        call_right kt nv ct ab (sound a (n + 1) Γ t M g s.1 ja) (sounds es (n + 1 + size a) Γ ts N g s.2 jb) j₆
    sound (unary x a) n Γ r L g s j =
        then_ok (judge T C a (n + 1) Γ) _ j λ t M ja j₁.
        needs_ok (is_kind T t (unary_type x)) _ _ _ j₁ λ kt j₂.
        unary_right kt (sound a (n + 1) Γ t M g s.2 ja) j₂
    sound (binary x a b) n Γ r L g s j =
        then_ok (judge T C a (n + 1) Γ) _ j λ t M ja j₁.
        needs_ok (is_equality x || is_kind T t (operand_type x)) _ _ _ j₁ λ kt j₂.
        then_ok (judge T C b (n + 1 + size a) Γ) _ j₂ λ u N jb j₃.
        needs_ok (is_equality x || is_kind T u (operand_type x)) _ _ _ j₃ λ ku j₄.
        needs_ok (not (is_equality x) || (is_below T C t u && is_below T C u t)) _ _ _ j₄ λ be j₅.
        binary_right (sound a (n + 1) Γ t M g s.2 ja) (sound b (n + 1 + size a) Γ u N g s.3 jb) (is_equality x) refl kt ku be j₅

    pub sounds : (es : Exprs) (n : ℕ) (Γ : Scope ℕ) (ts : List ℕ) (L : List (Label ℕ)) → ScopeFits T Γ → StandAll T n es
        → judges T C es n Γ ≡ ok ts L → RightAll T C es n Γ ts L
    sounds none n Γ us L g s j = none_right j
    sounds (also a es) n Γ us L g s j =
        then_ok (judge T C a n Γ) _ j λ t M ja j₁.
        then_ok (judges T C es (n + size a) Γ) _ j₁ λ ts N jb j₂.
        also_right (sound a n Γ t M g s.0 ja) (sounds es (n + size a) Γ ts N g s.1 jb) j₂

    pub sound_inits : (is : Inits) (n : ℕ) (Γ : Scope ℕ) (ts : List ℕ) (L : List (Label ℕ)) → ScopeFits T Γ → InitsStand T n is
        → judge_inits T C is n Γ ≡ ok ts L → RightInits T C is n Γ ts L
    sound_inits no_init n Γ us L g s j = no_init_right j
    sound_inits (init x a is) n Γ us L g s j =
        then_ok (judge T C a (n + 1) Γ) _ j λ t M ja j₁.
        then_ok (judge_inits T C is (n + 1 + size a) Γ) _ j₁ λ ts N jb j₂.
        init_right (sound a (n + 1) Γ t M g s.1 ja) (sound_inits is (n + 1 + size a) Γ ts N g s.2 jb) j₂
