-- A labelling that has the labels of an accepted block is a derivation. Assumes nothing.
use mathlib.Core.Path.{◌≡◌, refl, ap, sym, ◌∙◌}
use mathlib.Core.Bool.{Bool, true, false, not, false≢true, true≢false}
use mathlib.Core.List.{List, [], ◌∷◌, ◌++◌}
use Prim.Native.Nat.{ℕ, ◌+◌, ◌<◌}
use native.Mathlib.Omega.{arith}
use lib.ListN.{length, length-append}
use lib.Dec.{eqb, ltb}
use borrow.Author.Tests.{eqb-true, eqb-false, ltb-true, not-true}
use Rattle.oat.specs.Tables.{Tables, type_at}
use Rattle.oat.specs.TypeRules.{kind_at, is_reference_kind}
use Rattle.oat.specs.Types.{Ty, bool, void, function, written_params, type_of}
use Rattle.oat.specs.Syntax.{Expr, Exprs, Target, target_expr, Vars, no_var, next_var, Condition, no_condition, condition, Stmt, assign, var, return_value, return_void, call_stmt, if_else, if_null, for, while, Step, no_step, step, Block, block, Stmts, empty, then, size, count, size_target, size_vars, size_condition, size_step, size_block, size_stmt, size_stmts}
use Rattle.oat.specs.Nodes.{Stands, StandAll, VarsStand, ConditionStands, StmtStands, StepStands, BlockStands, StmtsStand, has_reference_kind}
use Rattle.oat.proofs.LawsBasics.{and_parts}
use Rattle.typing_rules.specs.Contexts.{Scope, binds, is_fresh, Context, inner}
use Rattle.typing_rules.specs.Labels.{gives, marks, Label, Labels, unlabelled}
use Rattle.typing_rules.specs.Rules.{assigns, Typed, Marked, Ends, TypedAll, ExprRule, both, VarsChain, ConditionHolds, StepGoesOn, Chain, StmtRule, typ_assn, typ_decl, typ_rett, typ_retvoid, typ_scall, typ_if, typ_ifq, typ_while, typ_for, BlockRule, typ_block, while_mark}
use Rattle.typing_rules.specs.Derivations.{AtAll, Node, AtVars, at_var, in_var, in_vars, AtCondition, in_condition, InStmt, in_target, in_assigned, in_initial, in_returned, in_called, in_passed, in_test, in_then, in_else, in_nullable, in_some, in_null, in_for_vars, in_for_condition, in_for_step, in_for_body, in_while_test, in_while_body, AtStep, at_step, in_step, AtBlock, here_block, in_block, AtStmts, at_stmt, in_stmt, in_stmts, RuleAt, Derives, DerivesBlock, is_empty}
use Rattle.typing_rules.specs.Judge.{ok, marked_as, Done, done, is_kind, referred, is_below, arguments_below, judge, judges, assigns_to, execute_vars, judge_condition, execute, execute_step, execute_block, execute_all, executing, executing_vars, judging_condition}
use Rattle.typing_rules.proofs.Claims.{File, Value, ScopeFits, fits_bind, ContextFits, erase_scope, erase_context, erase, Holds, erase_bindings}
use Rattle.typing_rules.proofs.LawsBridge.{types_of, fresh_erase, assigns_erase, is_base, is_void, is_function, is_nullable, function_parts, nullable_parts, below_sub, arguments-below}
use Rattle.typing_rules.proofs.LawsOutcome.{IfOk, ok_says, needs_says, then_says}
use Rattle.typing_rules.proofs.LawsHolds.{labels_split, Labelled, one_part, two_parts, three_parts}
use Rattle.typing_rules.proofs.Sound.{Right, sound, RightAll, sounds}

pub record RightBlock (T : Tables) (C : Context ℕ) (rt : ℕ) (b : Block) (n : ℕ) (Γ : Scope ℕ) (p : ℕ) (L : List (Label ℕ)) : Type 0 where
  pub long : length L ≡ size_block b
  pub derives : (D : Labels Ty) → Holds D n (erase T L) → DerivesBlock T (erase_context T C) D (type_of T rt) b n
  pub before : (D : Labels Ty) → Holds D n (erase T L) → (D n).before ≡ erase_scope T Γ
  pub result : (D : Labels Ty) → Holds D n (erase T L) → (D n).result ≡ marks p

-- the nodes where P says so have their rules
abbrev Ruled : Tables → Context Ty → Labels Ty → Ty → (ℕ → Node → Type 0) → Type 0
Ruled T C D rt P = (m : ℕ) (u : Node) → P m u → RuleAt T C D rt m u

-- what an accepted statement says of a labelling that has its labels
record SaysStmt (T : Tables) (C : Context ℕ) (D : Labels Ty) (rt : ℕ) (last : Bool) (s : Stmt) (n : ℕ) (Γ : Scope ℕ) (d : Done) : Type 0 where
  rule : StmtRule T (erase_context T C) D (type_of T rt) last n s
  below : Ruled T (erase_context T C) D (type_of T rt) (InStmt s n)
  marked : Marked D n (erase_scope T Γ) d.mark
  after : (D n).after ≡ erase_scope T d.scope

record RightStmt (T : Tables) (C : Context ℕ) (rt : ℕ) (last : Bool) (s : Stmt) (n : ℕ) (Γ : Scope ℕ) (d : Done) (L : List (Label ℕ)) : Type 0 where
  fits : ScopeFits T d.scope
  long : length L ≡ size_stmt s
  says : (D : Labels Ty) → Holds D n (erase T L) → SaysStmt T C D rt last s n Γ d

-- the statements of a block, after one with the mark p
record RightStmts (T : Tables) (C : Context ℕ) (rt : ℕ) (ss : Stmts) (n p : ℕ) (Γ : Scope ℕ) (q : ℕ) (L : List (Label ℕ)) : Type 0 where
  long : length L ≡ size_stmts ss
  derives : (D : Labels Ty) → Holds D n (erase T L) → Ruled T (erase_context T C) D (type_of T rt) (AtStmts ss n)
  chain : (D : Labels Ty) → Holds D n (erase T L) → Chain D n ss p (erase_scope T Γ) q

-- the parts of a for
record RightVars (T : Tables) (C : Context ℕ) (rt : ℕ) (vs : Vars) (n : ℕ) (Γ Δ : Scope ℕ) (L : List (Label ℕ)) : Type 0 where
  fits : ScopeFits T Δ
  long : length L ≡ size_vars vs
  derives : (D : Labels Ty) → Holds D n (erase T L) → Ruled T (erase_context T C) D (type_of T rt) (AtVars vs n)
  chain : (D : Labels Ty) → Holds D n (erase T L) → VarsChain D n vs (erase_scope T Γ) (erase_scope T Δ)

record RightCondition (T : Tables) (C : Context ℕ) (rt : ℕ) (c : Condition) (n : ℕ) (Γ Δ : Scope ℕ) (L : List (Label ℕ)) : Type 0 where
  long : length L ≡ size_condition c
  derives : (D : Labels Ty) → Holds D n (erase T L) → Ruled T (erase_context T C) D (type_of T rt) (AtCondition c n)
  holds : (D : Labels Ty) → Holds D n (erase T L) → ConditionHolds D n (erase_scope T Γ) c

record RightStep (T : Tables) (C : Context ℕ) (rt : ℕ) (s : Step) (n : ℕ) (Γ : Scope ℕ) (p : ℕ) (L : List (Label ℕ)) : Type 0 where
  long : length L ≡ size_step s
  derives : (D : Labels Ty) → Holds D n (erase T L) → Ruled T (erase_context T C) D (type_of T rt) (AtStep s n)
  goes : (D : Labels Ty) → Holds D n (erase T L) → StepGoesOn D n (erase_scope T Γ) s

-- the rules of all nodes of a part, from those of its own parts
module _ {T : Tables} {C : Context Ty} {D : Labels Ty} (rt : Ty) where
  rules_assign : {g : Target} {a : Expr} {n : ℕ} → Derives T C D (target_expr g) (n + 1)
      → Derives T C D a (n + 1 + size_target g) → Ruled T C D rt (InStmt (assign g a) n)
  rules_assign p q m u (in_target w) = p.rule m _ w
  rules_assign p q m u (in_assigned w) = q.rule m _ w

  rules_var : {x : ℕ} {a : Expr} {n : ℕ} → Derives T C D a (n + 1) → Ruled T C D rt (InStmt (var x a) n)
  rules_var p m u (in_initial w) = p.rule m _ w

  rules_return : {a : Expr} {n : ℕ} → Derives T C D a (n + 1) → Ruled T C D rt (InStmt (return_value a) n)
  rules_return p m u (in_returned w) = p.rule m _ w

  rules_call : {a : Expr} {es : Exprs} {n : ℕ} → Derives T C D a (n + 1)
      → ((m : ℕ) (u : Expr) → AtAll es (n + 1 + size a) m u → ExprRule T C D m u) → Ruled T C D rt (InStmt (call_stmt a es) n)
  rules_call p q m u (in_called w) = p.rule m _ w
  rules_call p q m u (in_passed w) = q m _ w

  rules_condition : {a : Expr} {n : ℕ} → Derives T C D a n → Ruled T C D rt (AtCondition (condition a) n)
  rules_condition p m u (in_condition w) = p.rule m _ w

module _ {T : Tables} {C : Context Ty} {D : Labels Ty} {rt : Ty} where
  rules_if : {a : Expr} {b c : Block} {n : ℕ} → Derives T C D a (n + 1)
      → DerivesBlock T C D rt b (n + 1 + size a) → DerivesBlock T C D rt c (n + 1 + size a + size_block b)
      → Ruled T C D rt (InStmt (if_else a b c) n)
  rules_if p q t m u (in_test w) = p.rule m _ w
  rules_if p q t m u (in_then w) = q.rule m u w
  rules_if p q t m u (in_else w) = t.rule m u w

  rules_null : {x k : ℕ} {a : Expr} {b c : Block} {n : ℕ} → Derives T C D a (n + 1)
      → DerivesBlock T C D rt b (n + 1 + size a) → DerivesBlock T C D rt c (n + 1 + size a + size_block b)
      → Ruled T C D rt (InStmt (if_null x k a b c) n)
  rules_null p q t m u (in_nullable w) = p.rule m _ w
  rules_null p q t m u (in_some w) = q.rule m u w
  rules_null p q t m u (in_null w) = t.rule m u w

  rules_while : {a : Expr} {b : Block} {n : ℕ} → Derives T C D a (n + 1)
      → DerivesBlock T C D rt b (n + 1 + size a) → Ruled T C D rt (InStmt (while a b) n)
  rules_while p q m u (in_while_test w) = p.rule m _ w
  rules_while p q m u (in_while_body w) = q.rule m u w

  rules_for : {vs : Vars} {c : Condition} {s : Step} {b : Block} {n : ℕ} → Ruled T C D rt (AtVars vs (n + 1))
      → Ruled T C D rt (AtCondition c (n + 1 + size_vars vs)) → Ruled T C D rt (AtStep s (n + 1 + size_vars vs + size_condition c))
      → DerivesBlock T C D rt b (n + 1 + size_vars vs + size_condition c + size_step s) → Ruled T C D rt (InStmt (for vs c s b) n)
  rules_for p q t v m u (in_for_vars w) = p m u w
  rules_for p q t v m u (in_for_condition w) = q m u w
  rules_for p q t v m u (in_for_step w) = t m u w
  rules_for p q t v m u (in_for_body w) = v.rule m u w

  rules_vars : {x : ℕ} {a : Expr} {vs : Vars} {n : ℕ} → StmtRule T C D rt false n (var x a) → Derives T C D a (n + 1)
      → Ruled T C D rt (AtVars vs (n + 1 + size a)) → Ruled T C D rt (AtVars (next_var x a vs) n)
  rules_vars r p q m u at_var = r
  rules_vars r p q m u (in_var w) = p.rule m _ w
  rules_vars r p q m u (in_vars w) = q m u w

  rules_step : {s : Stmt} {n : ℕ} → StmtRule T C D rt false n s → Ruled T C D rt (InStmt s n) → Ruled T C D rt (AtStep (step s) n)
  rules_step r p m u at_step = r
  rules_step r p m u (in_step w) = p m u w

  rules_block : {ss : Stmts} {n : ℕ} → BlockRule D n (block ss) → Ruled T C D rt (AtStmts ss (n + 1)) → Ruled T C D rt (AtBlock (block ss) n)
  rules_block r p m u here_block = r
  rules_block r p m u (in_block w) = p m u w

  rules_then : {s : Stmt} {ss : Stmts} {n : ℕ} → StmtRule T C D rt (is_empty ss) n s → Ruled T C D rt (InStmt s n)
      → Ruled T C D rt (AtStmts ss (n + size_stmt s)) → Ruled T C D rt (AtStmts (then s ss) n)
  rules_then r p q m u at_stmt = r
  rules_then r p q m u (in_stmt w) = p m u w
  rules_then r p q m u (in_stmts w) = q m u w

-- a premise about a child, where its parent has the scope G
module _ {T : Tables} {C : Context ℕ} {D : Labels Ty} {n : ℕ} {Γ : Scope ℕ} {G : Scope Ty} {L : List (Label ℕ)} where
  typed_child : {e : Expr} {a : ℕ} {t : Ty} → Right T C e n Γ a L → Holds D n (erase T L) → G ≡ erase_scope T Γ → type_of T a ≡ t → Typed D n G t
  typed_child r h g e = record { scope = r.before D h ∙ sym g; type = r.result D h ∙ ap gives e }

  typed_children : {es : Exprs} {ts : List ℕ} → RightAll T C es n Γ ts L → Holds D n (erase T L) → G ≡ erase_scope T Γ
      → TypedAll D G n es (types_of T ts)
  typed_children r h g = rw g (r.typed D h)

  marked_child : {rt : ℕ} {b : Block} {p : ℕ} → RightBlock T C rt b n Γ p L → Holds D n (erase T L) → G ≡ erase_scope T Γ → Marked D n G p
  marked_child r h g = record { scope = r.before D h ∙ sym g; mark = r.result D h }

-- the label of a statement
module _ {T : Tables} {D : Labels Ty} {n p : ℕ} {Γ Δ : Scope ℕ} (h : Labelled T D n p Γ Δ) where
  before_is : (D n).before ≡ erase_scope T Γ
  before_is = ap (λ (l : Label Ty). l.before) h.label

  marked_is : Marked D n (erase_scope T Γ) p
  marked_is = record { scope = before_is; mark = ap (λ (l : Label Ty). l.result) h.label }

  after_is : (D n).after ≡ erase_scope T Δ
  after_is = ap (λ (l : Label Ty). l.after) h.label

  ends_with : {E : Scope Ty} → E ≡ erase_scope T Δ → Ends D n p E
  ends_with e = record { mark = marked_is.mark; binder_is = ap (λ (l : Label Ty). l.binder) h.label; after = after_is ∙ sym e }

  -- a name bound at the node
  binds_is : (x t : ℕ) → binds (D n).before x (type_of T t) n ≡ erase_scope T (binds Γ x t n)
  unfolding erase_bindings
  binds_is x t = ap (λ (G : Scope Ty). binds G x (type_of T t) n) before_is

  says_of : {C : Context ℕ} {rt : ℕ} {last : Bool} {s : Stmt} → StmtRule T (erase_context T C) D (type_of T rt) last n s
      → Ruled T (erase_context T C) D (type_of T rt) (InStmt s n) → SaysStmt T C D rt last s n Γ (done p Δ)
  says_of r b = record { rule = r; below = b; marked = marked_is; after = after_is }

-- a node that is given nothing
not_labelled : (T : Tables) (D : Labels Ty) (n : ℕ) → Holds D n (erase T (unlabelled ∷ [])) → D n ≡ unlabelled
unfolding Holds erase erase_bindings
not_labelled T D n h = h.0

-- tests that pass
module _ (T : Tables) (F : File T) where
  reference_value : (t : ℕ) → has_reference_kind T t ≡ true → Value T t
  unfolding has_reference_kind is_reference_kind
  reference_value t e =
      let (l, k) = and_parts (ltb t (length T.types)) (is_reference_kind (kind_at T t)) e in
      record { within = ltb-true t (length T.types) l; value = λ z. false≢true (rw z at k) }

  return-value : (t : ℕ) → t < length T.types → not (is_kind T t 3) ≡ true → Value T t
  return-value t l e = record { within = l; value = eqb-false (kind_at T t) 3 (not-true (is_kind T t 3) e) }

  return_type : (t : ℕ) → t < length T.types → not (is_kind T t 3) ≡ true → type_of T t ≡ void → ⊥
  return_type t l e v = true≢false (sym ((is_void T F t l).1 v) ∙ not-true (is_kind T t 3) e)

  -- a function that returns nothing
  calls_void : (a : ℕ) → a < length T.types → is_kind T a 6 ≡ true → is_kind T (referred T a) 3 ≡ true
      → type_of T a ≡ function (written_params (type_of T) T (type_at T a).b (type_at T a).c) void
  calls_void a l k v =
      let e = (is_function T F a l).0 k in
      let (_, _, _, w) = function_parts T F a l _ _ e in
      e ∙ ap (function (written_params (type_of T) T (type_at T a).b (type_at T a).c)) ((is_void T F (referred T a) w).0 v)

  is_bool : {a : ℕ} → Value T a → is_kind T a 1 ≡ true → type_of T a ≡ bool
  is_bool {a} v e = (is_base T F a v.within 1 (omega arith)).0 e

-- a var, also of a for
rule_var : {T : Tables} {C : Context ℕ} {rt : Ty} {last : Bool} {n : ℕ} {Γ : Scope ℕ} {L : List (Label ℕ)} {x : ℕ} {a : Expr} {i : ℕ}
    → Right T C a (n + 1) Γ i L → is_fresh x Γ ≡ true → (D : Labels Ty) → Labelled T D n 0 Γ (binds Γ x i n) → Holds D (n + 1) (erase T L)
    → StmtRule T (erase_context T C) D rt last n (var x a)
rule_var {T} {n = n} {Γ} {x = x} {i = i} r e D k y =
    let B = before_is k in
    let fresh : is_fresh x (D n).before ≡ true = rw B (fresh_erase T x Γ ∙ e) in
    typ_decl (type_of T i) (typed_child r y B refl) fresh (ends_with k (binds_is k x i))

-- a statement is right where its parts are and its tests pass
module _ {T : Tables} {C : Context ℕ} {rt n : ℕ} {last : Bool} {Γ : Scope ℕ} (F : File T) (g : ScopeFits T Γ) where
  right_assign : {L M : List (Label ℕ)} {t : Target} {a : Expr} {i j : ℕ} → assigns_to C Γ t ≡ true → Right T C (target_expr t) (n + 1) Γ i L
      → Right T C a (n + 1 + size_target t) Γ j M → is_below T C j i ≡ true → RightStmt T C rt last (assign t a) n Γ (done 0 Γ) (marked_as 0 Γ Γ ∷ L ++ M)
  right_assign {L} {M} {t} {a} {i} {j} e r q b = record {
    fits = g;
    long = simp (length-append, r.long, q.long) (omega arith);
    says = λ D h.
        let (k, x, y) = two_parts T D n L (size_target t) r.long M h in
        let B = before_is k in
        let sub = (below_sub T F C j i q.value r.value).0 b in
        let may : assigns (erase_context T C) (D n).before t ≡ true = rw B (assigns_erase T C Γ t ∙ e) in
        let rule = typ_assn _ _ may (typed_child r x B refl) (typed_child q y B refl) sub (ends_with k B) in
        says_of k rule (rules_assign (type_of T rt) (r.derives D x) (q.derives D y));
  }

  right_var : {L : List (Label ℕ)} {x : ℕ} {a : Expr} {i : ℕ} → Right T C a (n + 1) Γ i L → is_fresh x Γ ≡ true
      → RightStmt T C rt last (var x a) n Γ (done 0 (binds Γ x i n)) (marked_as 0 Γ (binds Γ x i n) ∷ L)
  right_var {L} {x} {a} {i} r e = record {
    fits = fits_bind g r.value;
    long = omega (arith, r.long);
    says = λ D h. let (k, y) = one_part T D n L h in says_of k (rule_var r e D k y) (rules_var (type_of T rt) (r.derives D y));
  }

  right_return : {L : List (Label ℕ)} {a : Expr} {i : ℕ} → rt < length T.types → not (is_kind T rt 3) ≡ true → Right T C a (n + 1) Γ i L
      → is_below T C i rt ≡ true → RightStmt T C rt last (return_value a) n Γ (done 1 Γ) (marked_as 1 Γ Γ ∷ L)
  right_return {L} {a} {i} l e r b = record {
    fits = g;
    long = omega (arith, r.long);
    says = λ D h.
        let (k, y) = one_part T D n L h in
        let B = before_is k in
        let sub = (below_sub T F C i rt r.value (return-value T F rt l e)).0 b in
        says_of k (typ_rett _ (return_type T F rt l e) (typed_child r y B refl) sub (ends_with k B)) (rules_return (type_of T rt) (r.derives D y));
  }

  right_void : rt < length T.types → is_kind T rt 3 ≡ true → RightStmt T C rt last return_void n Γ (done 1 Γ) (marked_as 1 Γ Γ ∷ [])
  right_void l e = record {
    fits = g;
    long = refl;
    says = λ D h.
        let (k, y) = one_part T D n [] h in
        says_of k (typ_retvoid ((is_void T F rt l).0 e) (ends_with k (before_is k))) (λ m u w. elim w [ ]);
  }

  right_call : {L M : List (Label ℕ)} {a : Expr} {es : Exprs} {i : ℕ} {ts : List ℕ} → Right T C a (n + 1) Γ i L → is_kind T i 6 ≡ true
      → is_kind T (referred T i) 3 ≡ true → eqb (count es) (type_at T i).c ≡ true → RightAll T C es (n + 1 + size a) Γ ts M
      → arguments_below T C ts (type_at T i).b ≡ true → RightStmt T C rt last (call_stmt a es) n Γ (done 0 Γ) (marked_as 0 Γ Γ ∷ L ++ M)
  right_call {L} {M} {a} {es} {i} {ts} r f v c q b = record {
    fits = g;
    long = simp (length-append, r.long, q.long) (omega arith);
    says = λ D h.
        let (k, x, y) = two_parts T D n L (size a) r.long M h in
        let B = before_is k in
        let callee = typed_child r x B (calls_void T F i r.value.within f v) in
        let many = sym q.many ∙ eqb-true (count es) (type_at T i).c c in
        let subs = (arguments-below T F C ts i q.values r.value.within f many).0 b in
        says_of k (typ_scall _ _ callee (typed_children q y B) subs (ends_with k B)) (rules_call (type_of T rt) (r.derives D x) (q.derives D y));
  }

  right_while : {L M : List (Label ℕ)} {a : Expr} {b : Block} {i p : ℕ} → Right T C a (n + 1) Γ i L → is_kind T i 1 ≡ true
      → RightBlock T C rt b (n + 1 + size a) (inner Γ) p M → RightStmt T C rt last (while a b) n Γ (done (while_mark last a) Γ) (marked_as (while_mark last a) Γ Γ ∷ L ++ M)
  right_while {L} {M} {a} {b} {i} {p} r e q = record {
    fits = g;
    long = simp (length-append, r.long, q.long) (omega arith);
    says = λ D h.
        let (k, x, y) = two_parts T D n L (size a) r.long M h in
        let B = before_is k in
        let rule = typ_while p (typed_child r x B (is_bool T F r.value e)) (marked_child q y (ap (λ (G : Scope Ty). inner G) B)) (ends_with k B) in
        says_of k rule (rules_while (r.derives D x) (q.derives D y));
  }

  right_if : {L M N : List (Label ℕ)} {a : Expr} {b c : Block} {i p q : ℕ} → Right T C a (n + 1) Γ i L → is_kind T i 1 ≡ true
      → RightBlock T C rt b (n + 1 + size a) (inner Γ) p M → RightBlock T C rt c (n + 1 + size a + size_block b) (inner Γ) q N
      → RightStmt T C rt last (if_else a b c) n Γ (done (both p q) Γ) (marked_as (both p q) Γ Γ ∷ L ++ (M ++ N))
  right_if {L} {M} {N} {a} {b} {c} {i} {p} {q} r e v w = record {
    fits = g;
    long = simp (length-append, r.long, v.long, w.long) (omega arith);
    says = λ D h.
        let (k, x, y, z) = three_parts T D n L (size a) r.long M (size_block b) v.long N h in
        let B = before_is k in
        let rule = typ_if p q (typed_child r x B (is_bool T F r.value e)) (marked_child v y (ap (λ (G : Scope Ty). inner G) B)) (marked_child w z (ap (λ (G : Scope Ty). inner G) B)) (ends_with k B) in
        says_of k rule (rules_if (r.derives D x) (v.derives D y) (w.derives D z));
  }

  right_null : {L M N : List (Label ℕ)} {x t : ℕ} {a : Expr} {b c : Block} {i p q : ℕ} → Value T t → Right T C a (n + 1) Γ i L → is_kind T i 7 ≡ true
      → is_below T C (referred T i) t ≡ true → RightBlock T C rt b (n + 1 + size a) (inner (binds (inner Γ) x t n)) p M
      → RightBlock T C rt c (n + 1 + size a + size_block b) (inner Γ) q N
      → RightStmt T C rt last (if_null x t a b c) n Γ (done (both p q) Γ) (marked_as (both p q) Γ Γ ∷ L ++ (M ++ N))
  unfolding erase_bindings
  right_null {L} {M} {N} {x} {t} {a} {b} {c} {i} {p} {q} o r e l v w = record {
    fits = g;
    long = simp (length-append, r.long, v.long, w.long) (omega arith);
    says = λ D h.
        let (k, y, z, u) = three_parts T D n L (size a) r.long M (size_block b) v.long N h in
        let B = before_is k in
        let null_is = (is_nullable T F i r.value.within).0 e in
        let sub = (below_sub T F C (referred T i) t (nullable_parts T F i r.value.within _ null_is).2 o).0 l in
        let rule = typ_ifq _ p q (typed_child r y B null_is) sub (marked_child v z (ap (λ (G : Scope Ty). inner (binds (inner G) x (type_of T t) n)) B)) (marked_child w u (ap (λ (G : Scope Ty). inner G) B)) (ends_with k B) in
        says_of k rule (rules_null (r.derives D y) (v.derives D z) (w.derives D u));
  }

  right_for : {L M N O : List (Label ℕ)} {vs : Vars} {c : Condition} {s : Step} {b : Block} {Δ E : Scope ℕ} {p q : ℕ}
      → RightVars T C rt vs (n + 1) (inner Γ) Δ L → RightCondition T C rt c (n + 1 + size_vars vs) Δ E M
      → RightStep T C rt s (n + 1 + size_vars vs + size_condition c) Δ p N
      → RightBlock T C rt b (n + 1 + size_vars vs + size_condition c + size_step s) (inner Δ) q O
      → RightStmt T C rt last (for vs c s b) n Γ (done 0 Γ) (marked_as 0 Γ Γ ∷ L ++ (M ++ (N ++ O)))
  right_for {L} {M} {N} {O} {vs} {c} {s} {b} {Δ} {E} {p} {q} r e v w = record {
    fits = g;
    long = simp (length-append, r.long, e.long, v.long, w.long) (omega arith);
    says = λ D h.
        let (k, x, y, zu) = three_parts T D n L (size_vars vs) r.long M (size_condition c) e.long (N ++ O) h in
        let (z, u) = labels_split T D (n + 1 + size_vars vs + size_condition c) (size_step s) N O v.long zu in
        let B = before_is k in
        let chain : VarsChain D (n + 1) vs (inner (D n).before) (erase_scope T Δ) = rw B (r.chain D x) in
        let rule = typ_for (erase_scope T Δ) q chain (e.holds D y) (v.goes D z) (marked_child w u refl) (ends_with k B) in
        says_of k rule (rules_for (r.derives D x) (e.derives D y) (v.derives D z) (w.derives D u));
  }

-- the parts of a for, and blocks
module _ {T : Tables} {C : Context ℕ} {rt n : ℕ} {Γ : Scope ℕ} where
  right_no_var : ScopeFits T Γ → RightVars T C rt no_var n Γ Γ []
  unfolding VarsChain
  right_no_var g = record { fits = g; long = refl; derives = λ D h m u w. elim w [ ]; chain = λ D h. refl }

  right_next_var : {L M : List (Label ℕ)} {x : ℕ} {a : Expr} {vs : Vars} {i : ℕ} {Δ : Scope ℕ} → Right T C a (n + 1) Γ i L → is_fresh x Γ ≡ true
      → RightVars T C rt vs (n + 1 + size a) (binds Γ x i n) Δ M → RightVars T C rt (next_var x a vs) n Γ Δ (marked_as 0 Γ (binds Γ x i n) ∷ L ++ M)
  unfolding VarsChain
  right_next_var {L} {M} {x} {a} {vs} {i} {Δ} r e q = record {
    fits = q.fits;
    long = simp (length-append, r.long, q.long) (omega arith);
    derives = λ D h. let (k, y, z) = two_parts T D n L (size a) r.long M h in rules_vars (rule_var r e D k y) (r.derives D y) (q.derives D z);
    chain = λ D h. let (k, y, z) = two_parts T D n L (size a) r.long M h in (marked_is k, rw (after_is k) (q.chain D z));
  }

  right_no_condition : RightCondition T C rt no_condition n Γ Γ (unlabelled ∷ [])
  unfolding ConditionHolds
  right_no_condition = record { long = refl; derives = λ D h m u w. elim w [ ]; holds = λ D h. not_labelled T D n h }

  right_condition : {L : List (Label ℕ)} {a : Expr} {i : ℕ} → File T → Right T C a n Γ i L → is_kind T i 1 ≡ true
      → RightCondition T C rt (condition a) n Γ Γ L
  unfolding ConditionHolds
  right_condition F r e = record {
    long = r.long;
    derives = λ D h. rules_condition (type_of T rt) (r.derives D h);
    holds = λ D h. typed_child r h refl (is_bool T F r.value e);
  }

  right_no_step : RightStep T C rt no_step n Γ 0 (unlabelled ∷ [])
  unfolding StepGoesOn
  right_no_step = record { long = refl; derives = λ D h m u w. elim w [ ]; goes = λ D h. not_labelled T D n h }

  right_step : {L : List (Label ℕ)} {s : Stmt} {d : Done} → RightStmt T C rt false s n Γ d L → eqb d.mark 0 ≡ true → RightStep T C rt (step s) n Γ 0 L
  unfolding StepGoesOn
  right_step {L} {s} {d} r e = record {
    long = r.long;
    derives = λ D h. rules_step (r.says D h).rule (r.says D h).below;
    goes = λ D h. rw (eqb-true d.mark 0 e) at (r.says D h).marked;
  }

  right_block : {L : List (Label ℕ)} {ss : Stmts} {p : ℕ} → RightStmts T C rt ss (n + 1) 0 Γ p L
      → RightBlock T C rt (block ss) n Γ p (marked_as p Γ Γ ∷ L)
  right_block {L} {ss} {p} r = record {
    long = omega (arith, r.long);
    derives = λ D h.
        let (k, y) = one_part T D n L h in
        let B = before_is k in
        record { rule = rules_block (typ_block p (rw B (r.chain D y)) (ends_with k B)) (r.derives D y) };
    before = λ D h. (marked_is (one_part T D n L h).0).scope;
    result = λ D h. (marked_is (one_part T D n L h).0).mark;
  }

  right_empty : (p : ℕ) → RightStmts T C rt empty n p Γ p []
  unfolding Chain
  right_empty p = record { long = refl; derives = λ D h m u w. elim w [ ]; chain = λ D h. refl }

  right_then : {L M : List (Label ℕ)} {s : Stmt} {ss : Stmts} {p q : ℕ} {d : Done} → eqb p 0 ≡ true → RightStmt T C rt (is_empty ss) s n Γ d L
      → RightStmts T C rt ss (n + size_stmt s) d.mark d.scope q M → RightStmts T C rt (then s ss) n p Γ q (L ++ M)
  unfolding Chain
  right_then {L} {M} {s} {ss} {p} {q} {d} e r t = record {
    long = simp (length-append, r.long, t.long) (omega arith);
    derives = λ D h. let (x, y) = labels_split T D n (size_stmt s) L M r.long h in rules_then (r.says D x).rule (r.says D x).below (t.derives D y);
    chain = λ D h.
        let (x, y) = labels_split T D n (size_stmt s) L M r.long h in
        (d.mark, eqb-true p 0 e, (r.says D x).marked, rw (r.says D x).after (t.chain D y));
  }

-- what each check says, step by step
module _ (T : Tables) (F : File T) (C : Context ℕ) (f : ContextFits T C) (rt : ℕ) (l : rt < length T.types) where
  expr_says : (e : Expr) (n : ℕ) (Γ : Scope ℕ) → ScopeFits T Γ → Stands T n e → IfOk (Right T C e n Γ) (judge T C e n Γ)
  expr_says e n Γ g s = record { given = λ a L j. sound T F C f e n Γ a L g s j }

  exprs_say : (es : Exprs) (n : ℕ) (Γ : Scope ℕ) → ScopeFits T Γ → StandAll T n es → IfOk (RightAll T C es n Γ) (judges T C es n Γ)
  exprs_say es n Γ g s = record { given = λ ts L j. sounds T F C f es n Γ ts L g s j }

  vars_say : (vs : Vars) (n : ℕ) (Γ : Scope ℕ) → ScopeFits T Γ → VarsStand T n vs → IfOk (RightVars T C rt vs n Γ) (execute_vars T C vs n Γ)
  unfolding executing_vars
  vars_say no_var n Γ g s = ok_says (right_no_var g)
  vars_say (next_var x a vs) n Γ g s =
      then_says _ _ (expr_says a (n + 1) Γ g s.1) λ t L r.
      needs_says _ _ _ _ λ e.
      then_says _ _ (vars_say vs (n + 1 + size a) (binds Γ x t n) (fits_bind g r.value) s.2) λ Δ M q.
      ok_says (right_next_var r e q)

  condition_says : (c : Condition) (m n : ℕ) (Γ : Scope ℕ) → ScopeFits T Γ → ConditionStands T m c
      → IfOk (RightCondition T C rt c m Γ) (judge_condition T C c m n Γ)
  unfolding judging_condition
  condition_says no_condition m n Γ g s = ok_says right_no_condition
  condition_says (condition a) m n Γ g s =
      then_says _ _ (expr_says a m Γ g s) λ t L r.
      needs_says _ _ _ _ λ e.
      ok_says (right_condition F r e)

  mutual
    unfolding executing

    stmt_says : (last : Bool) (s : Stmt) (n : ℕ) (Γ : Scope ℕ) → ScopeFits T Γ → StmtStands T n s → IfOk (RightStmt T C rt last s n Γ) (execute T C rt last s n Γ)
    stmt_says last (assign t a) n Γ g s =
        needs_says _ _ _ _ λ e.
        then_says _ _ (expr_says (target_expr t) (n + 1) Γ g s.1) λ i L r.
        then_says _ _ (expr_says a (n + 1 + size_target t) Γ g s.2) λ j M q.
        needs_says _ _ _ _ λ b.
        ok_says (right_assign F g e r q b)
    stmt_says last (var x a) n Γ g s =
        then_says _ _ (expr_says a (n + 1) Γ g s.1) λ t L r.
        needs_says _ _ _ _ λ e.
        ok_says (right_var F g r e)
    stmt_says last (return_value a) n Γ g s =
        needs_says _ _ _ _ λ e.
        then_says _ _ (expr_says a (n + 1) Γ g s.1) λ t L r.
        needs_says _ _ _ _ λ b.
        ok_says (right_return F g l e r b)
    stmt_says last return_void n Γ g s = needs_says _ _ _ _ λ e. ok_says (right_void F g l e)
    stmt_says last (call_stmt a es) n Γ g s =
        then_says _ _ (expr_says a (n + 1) Γ g s.1) λ i L r.
        needs_says _ _ _ _ λ e.
        needs_says _ _ _ _ λ v.
        needs_says _ _ _ _ λ c.
        then_says _ _ (exprs_say es (n + 1 + size a) Γ g s.2) λ ts M q.
        needs_says _ _ _ _ λ b.
        ok_says (right_call F g r e v c q b)
    stmt_says last (if_else a b c) n Γ g s =
        then_says _ _ (expr_says a (n + 1) Γ g s.1) λ t L r.
        needs_says _ _ _ _ λ e.
        then_says _ _ (block_says b (n + 1 + size a) (inner Γ) g s.2) λ p M v.
        then_says _ _ (block_says c (n + 1 + size a + size_block b) (inner Γ) g s.3) λ q N w.
        ok_says (right_if F g r e v w)
    stmt_says last (if_null x t a b c) n Γ g s =
        let o = reference_value T F t s.1 in
        then_says _ _ (expr_says a (n + 1) Γ g s.2) λ i L r.
        needs_says _ _ _ _ λ e.
        needs_says _ _ _ _ λ k.
        then_says _ _ (block_says b (n + 1 + size a) (inner (binds (inner Γ) x t n)) (fits_bind g o) s.3) λ p M v.
        then_says _ _ (block_says c (n + 1 + size a + size_block b) (inner Γ) g s.4) λ q N w.
        ok_says (right_null F g o r e k v w)
    stmt_says last (for vs c s b) n Γ g h =
        then_says _ _ (vars_say vs (n + 1) (inner Γ) g h.1) λ Δ L r.
        then_says _ _ (condition_says c (n + 1 + size_vars vs) n Δ r.fits h.2) λ E M e.
        then_says _ _ (step_says s (n + 1 + size_vars vs + size_condition c) Δ r.fits h.3) λ p N v.
        then_says _ _ (block_says b (n + 1 + size_vars vs + size_condition c + size_step s) (inner Δ) r.fits h.4) λ q O w.
        ok_says (right_for F g r e v w)
    stmt_says last (while a b) n Γ g s =
        then_says _ _ (expr_says a (n + 1) Γ g s.1) λ t L r.
        needs_says _ _ _ _ λ e.
        then_says _ _ (block_says b (n + 1 + size a) (inner Γ) g s.2) λ p M v.
        ok_says (right_while F g r e v)

    step_says : (s : Step) (n : ℕ) (Γ : Scope ℕ) → ScopeFits T Γ → StepStands T n s → IfOk (RightStep T C rt s n Γ) (execute_step T C rt s n Γ)
    step_says no_step n Γ g h = ok_says right_no_step
    step_says (step s) n Γ g h =
        then_says _ _ (stmt_says false s n Γ g h) λ d L r.
        needs_says _ _ _ _ λ e.
        ok_says (right_step r e)

    block_says : (b : Block) (n : ℕ) (Γ : Scope ℕ) → ScopeFits T Γ → BlockStands T n b → IfOk (RightBlock T C rt b n Γ) (execute_block T C rt b n Γ)
    block_says (block ss) n Γ g h =
        then_says _ _ (stmts_say ss (n + 1) n 0 Γ g h.1) λ p L r.
        ok_says (right_block r)

    stmts_say : (ss : Stmts) (n previous p : ℕ) (Γ : Scope ℕ) → ScopeFits T Γ → StmtsStand T n ss
        → IfOk (RightStmts T C rt ss n p Γ) (execute_all T C rt ss n previous p Γ)
    stmts_say empty n previous p Γ g h = ok_says (right_empty p)
    stmts_say (then s ss) n previous p Γ g h =
        needs_says _ _ _ _ λ e.
        then_says _ _ (stmt_says (is_empty ss) s n Γ g h.0) λ d L r.
        then_says _ _ (stmts_say ss (n + size_stmt s) n d.mark d.scope r.fits h.1) λ q M t.
        ok_says (right_then e r t)

pub sound_block : (T : Tables) → File T → (C : Context ℕ) → ContextFits T C
    → (rt : ℕ) (b : Block) (n : ℕ) (Γ : Scope ℕ) (p : ℕ) (L : List (Label ℕ)) → rt < length T.types → ScopeFits T Γ → BlockStands T n b
    → execute_block T C rt b n Γ ≡ ok p L → RightBlock T C rt b n Γ p L
sound_block T F C f rt b n Γ p L r g s j = (block_says T F C f rt r b n Γ g s).given p L j
