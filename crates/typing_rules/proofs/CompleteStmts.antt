-- What has a derivation is accepted, with the derivation's labels: statements and blocks. A lemma for each shape takes what its children
-- give; the recursion stands at the end. Assumes nothing.
use mathlib.Core.Path.{◌≡◌, refl, ap, ap₂, sym, ◌∙◌}
use mathlib.Core.Bool.{Bool, true, false}
use mathlib.Core.List.{List, [], ◌∷◌, ◌++◌}
use Prim.Native.Nat.{ℕ, ◌+◌, ◌<◌}
use native.Mathlib.Omega.{arith}
use lib.ListN.{length}
use lib.Dec.{ltb}
use borrow.Author.Tests.{ltb-true, eq-eqb, ne_eqb}
use Rattle.oat.specs.Tables.{Tables, type_at}
use Rattle.oat.specs.TypeRules.{kind_at, is_reference_kind}
use Rattle.oat.specs.Types.{Ty, bool, void, Tys, written_params, type_of}
use Rattle.oat.specs.Subtyping.{Sub, SubAll}
use Rattle.oat.specs.Syntax.{Expr, Exprs, Target, target_expr, Vars, no_var, next_var, Condition, no_condition, condition, Stmt, assign, var, return_value, return_void, call_stmt, if_else, if_null, for, while, Step, no_step, step, Block, block, Stmts, empty, then, size, size_target, size_vars, size_condition, size_step, size_block, size_stmt}
use Rattle.oat.specs.Nodes.{Stands, has_reference_kind, VarsStand, ConditionStands, StmtStands, StepStands, BlockStands, StmtsStand}
use Rattle.oat.proofs.LawsBasics.{and_parts}
use Rattle.typing_rules.specs.Contexts.{Scope, binds, is_fresh, Context, inner}
use Rattle.typing_rules.specs.Labels.{gives, marks, Label, Labels, unlabelled}
use Rattle.typing_rules.specs.Rules.{ExprRule, StmtRule, BlockRule, Typed, Marked, Ends, TypedAll, both, VarsChain, ConditionHolds, StepGoesOn, Chain, typ_assn, typ_decl, typ_rett, typ_retvoid, typ_scall, typ_if, typ_ifq, typ_while, typ_for, typ_block, while_mark}
use Rattle.typing_rules.specs.Derivations.{At, Node, expression, statement, blocked, AtVars, at_var, in_var, in_vars, AtCondition, in_condition, InStmt, in_target, in_assigned, in_initial, in_returned, in_called, in_passed, in_test, in_then, in_else, in_nullable, in_some, in_null, in_for_vars, in_for_condition, in_for_step, in_for_body, in_while_test, in_while_body, AtStep, at_step, in_step, AtBlock, here_block, in_block, AtStmts, at_stmt, in_stmt, in_stmts, RuleAt, DerivesBlock, is_empty}
use Rattle.typing_rules.specs.Judge.{ok, marked_as, is_kind, referred, is_below, arguments_below, done, ends, execute_vars, judge_condition, execute, execute_step, execute_block, execute_all, executing, executing_all, executing_vars, judging_condition}
use Rattle.typing_rules.proofs.Claims.{File, Value, ScopeFits, fits_bind, ContextFits, erase_scope, erase_context, erase_label, erase, gather_vars, gather_condition, gather_stmt, gather_step, gather_block, gather_stmts, erase_bindings}
use Rattle.typing_rules.proofs.LawsBridge.{fresh_erase, assigns_erase, is_base, is_void, function_parts, nullable_parts, below_sub, arguments-below, arguments_many, types_of, Values, erase_append}
use Rattle.typing_rules.proofs.LawsExecute.{vars_ok, condition_ok, assign_ok, var_ok, return_ok, return_void_ok, call_ok, if_ok, if_null_ok, for_ok, while_ok, step_ok, block_ok, then_ok}
use Rattle.typing_rules.proofs.Complete.{Accepted, complete, AcceptedAll, completes}

pub record AcceptedBlock (T : Tables) (C : Context ℕ) (D : Labels Ty) (rt : ℕ) (b : Block) (n : ℕ) (Γ : Scope ℕ) : Type 0 where
  pub mark : ℕ
  pub labels : List (Label ℕ)
  pub accepts : execute_block T C rt b n Γ ≡ ok mark labels
  pub result : (D n).result ≡ marks mark
  pub same : erase T labels ≡ gather_block D b n

pub record AcceptedStmt (T : Tables) (C : Context ℕ) (D : Labels Ty) (rt : ℕ) (last : Bool) (s : Stmt) (n : ℕ) (Γ : Scope ℕ) : Type 0 where
  pub mark : ℕ
  pub scope : Scope ℕ
  pub labels : List (Label ℕ)
  pub accepts : execute T C rt last s n Γ ≡ ok (done mark scope) labels
  pub result : (D n).result ≡ marks mark
  pub after : (D n).after ≡ erase_scope T scope
  pub fits : ScopeFits T scope
  pub same : erase T labels ≡ gather_stmt D s n

pub record AcceptedStep (T : Tables) (C : Context ℕ) (D : Labels Ty) (rt : ℕ) (s : Step) (n : ℕ) (Γ : Scope ℕ) : Type 0 where
  pub labels : List (Label ℕ)
  pub accepts : execute_step T C rt s n Γ ≡ ok 0 labels
  pub same : erase T labels ≡ gather_step D s n

-- statements after the one at `last` with the mark p; q is the mark of the last
pub record AcceptedStmts (T : Tables) (C : Context ℕ) (D : Labels Ty) (rt : ℕ) (ss : Stmts) (n previous p : ℕ) (Γ : Scope ℕ) (q : ℕ) : Type 0 where
  pub labels : List (Label ℕ)
  pub accepts : execute_all T C rt ss n previous p Γ ≡ ok q labels
  pub same : erase T labels ≡ gather_stmts D ss n

-- the vars of a for, up to the scope Δ
pub record AcceptedVars (T : Tables) (C : Context ℕ) (D : Labels Ty) (vs : Vars) (n : ℕ) (Γ : Scope ℕ) (Δ : Scope Ty) : Type 0 where
  pub scope : Scope ℕ
  pub labels : List (Label ℕ)
  pub accepts : execute_vars T C vs n Γ ≡ ok scope labels
  pub after : Δ ≡ erase_scope T scope
  pub fits : ScopeFits T scope
  pub same : erase T labels ≡ gather_vars D vs n

-- the condition at m of the for at n
pub record AcceptedCondition (T : Tables) (C : Context ℕ) (D : Labels Ty) (c : Condition) (m n : ℕ) (Γ : Scope ℕ) : Type 0 where
  pub labels : List (Label ℕ)
  pub accepts : judge_condition T C c m n Γ ≡ ok Γ labels
  pub same : erase T labels ≡ gather_condition D c m

-- labels and scopes written out

module _ (T : Tables) where
  same_node : (l : Label ℕ) (L : List (Label ℕ)) {k : Label Ty} {A : List (Label Ty)} → erase_label T l ≡ k → erase T L ≡ A → erase T (l ∷ L) ≡ k ∷ A
  unfolding erase
  same_node l L p q = ap₂ ◌∷◌ p q

  same_both : (L M : List (Label ℕ)) {A B : List (Label Ty)} → erase T L ≡ A → erase T M ≡ B → erase T (L ++ M) ≡ A ++ B
  same_both L M p q = erase_append T L M ∙ ap₂ ◌++◌ p q

  same_three : (L M N : List (Label ℕ)) {A B E : List (Label Ty)} → erase T L ≡ A → erase T M ≡ B → erase T N ≡ E
      → erase T (L ++ (M ++ N)) ≡ A ++ (B ++ E)
  same_three L M N p q r = same_both L (M ++ N) p (same_both M N q r)

  same_unlabelled : (D : Labels Ty) (n : ℕ) → D n ≡ unlabelled → erase T (unlabelled ∷ []) ≡ D n ∷ []
  unfolding erase erase_bindings
  same_unlabelled D n e = ap (λ (l : Label Ty). l ∷ []) (sym e)

  -- the label of a node that ends with a mark
  ends_label : (D : Labels Ty) (n p q : ℕ) (Γ Δ : Scope ℕ) (Θ : Scope Ty) → Ends D n p Θ → p ≡ q → (D n).before ≡ erase_scope T Γ → Θ ≡ erase_scope T Δ
      → erase_label T (marked_as q Γ Δ) ≡ D n
  ends_label D n p q Γ Δ Θ k m e f =
      let after = k.after ∙ f in
      let mark = k.mark ∙ ap marks m in
      sym (λ i. record { result = mark i; binder = k.binder_is i; before = e i; after = after i })

  is-fresh : (x : ℕ) (Γ : Scope ℕ) (Θ : Scope Ty) → Θ ≡ erase_scope T Γ → is_fresh x Θ ≡ true → is_fresh x Γ ≡ true
  is-fresh x Γ Θ e h = sym (fresh_erase T x Γ) ∙ (rw e at h)

  binds_erase : (Γ : Scope ℕ) (x t n : ℕ) (Θ : Scope Ty) (u : Ty) → Θ ≡ erase_scope T Γ → u ≡ type_of T t → binds Θ x u n ≡ erase_scope T (binds Γ x t n)
  unfolding erase_bindings
  binds_erase Γ x t n Θ u p q = rw (p, q)

-- a statement that leaves the scope as it is
stays : (T : Tables) (C : Context ℕ) (D : Labels Ty) (rt : ℕ) (last : Bool) (s : Stmt) (n p q : ℕ) (Γ : Scope ℕ) {L : List (Label ℕ)} {A : List (Label Ty)}
    → ScopeFits T Γ → (D n).before ≡ erase_scope T Γ → Ends D n p (D n).before → p ≡ q → execute T C rt last s n Γ ≡ ends q Γ Γ L → erase T L ≡ A
    → D n ∷ A ≡ gather_stmt D s n → AcceptedStmt T C D rt last s n Γ
stays T C D rt last s n p q Γ {L} g e k m o l a = record {
  mark = q;
  scope = Γ;
  labels = marked_as q Γ Γ ∷ L;
  accepts = o;
  result = k.mark ∙ ap marks m;
  after = k.after ∙ e;
  fits = g;
  same = same_node T (marked_as q Γ Γ) L (ends_label T D n p q Γ Γ (D n).before k m e e) l ∙ a;
}

-- premises, and the tests that they pass

type_is : {D : Labels Ty} {m : ℕ} {Γ : Scope Ty} {t u : Ty} → Typed D m Γ t → (D m).result ≡ gives u → t ≡ u
type_is h e = let k = h.type in cc

mark_is : {D : Labels Ty} {m : ℕ} {Γ : Scope Ty} {p q : ℕ} → Marked D m Γ p → (D m).result ≡ marks q → p ≡ q
mark_is h e = let k = h.mark in cc

reference_no_void : (k : ℕ) → is_reference_kind k ≡ true → k ≡ 3 → ⊥
unfolding is_reference_kind
reference_no_void k h e = let z : false ≡ true = rw e at h in let y : ◌≡◌ {A = ℕ} 0 1 = cc in omega arith

pub reference_value : (T : Tables) (t : ℕ) → has_reference_kind T t ≡ true → Value T t
unfolding has_reference_kind
reference_value T t h =
    let (l, k) = and_parts (ltb t (length T.types)) (is_reference_kind (kind_at T t)) h in
    record { within = ltb-true t (length T.types) l; value = reference_no_void (kind_at T t) k }

module _ (T : Tables) (F : File T) where
  is_bool : (a : ℕ) → Value T a → bool ≡ type_of T a → is_kind T a 1 ≡ true
  is_bool a v p = (is_base T F a v.within 1 (omega arith)).1 (sym p)

  -- a return type that isn't void
  not_void : (a : ℕ) → a < length T.types → (type_of T a ≡ void → ⊥) → (is_kind T a 3 ≡ false) × Value T a
  not_void a h z =
      let no_kind : kind_at T a ≡ 3 → ⊥ = λ k. z ((is_void T F a h).0 (eq-eqb (kind_at T a) 3 k)) in
      (ne_eqb (kind_at T a) 3 no_kind, record { within = h; value = no_kind })

module _ (T : Tables) (F : File T) (C : Context ℕ) where
  sub_below : (a b : ℕ) (t u : Ty) → Value T a → Value T b → t ≡ type_of T a → u ≡ type_of T b → Sub C.structs t u → is_below T C a b ≡ true
  sub_below a b t u v w p q s = (below_sub T F C a b v w).1 (rw (p, q) at s)

  -- arguments that are below the parameters of the function type f
  arguments_right : (f : ℕ) (types : List ℕ) (us ts : Tys) → Value T f → is_kind T f 6 ≡ true → Values T types
      → us ≡ written_params (type_of T) T (type_at T f).b (type_at T f).c → ts ≡ types_of T types → SubAll C.structs ts us
      → (length types ≡ (type_at T f).c) × (arguments_below T C types (type_at T f).b ≡ true)
  arguments_right f types us ts v k vs p q s =
      let sub : SubAll C.structs (types_of T types) (written_params (type_of T) T (type_at T f).b (type_at T f).c) = rw (q, p) at s in
      let many = arguments_many T F C types (type_at T f).b (type_at T f).c sub in
      (many, (arguments-below T F C types f vs v.within k many).1 sub)

-- statements: a child, accepted where its scope is right, and the rule
abbrev ExprAt : Tables → Context ℕ → Labels Ty → Expr → ℕ → Scope ℕ → Type 0
ExprAt T C D a n Γ = (D n).before ≡ erase_scope T Γ → Accepted T C D a n Γ

abbrev BlockAt : Tables → Context ℕ → Labels Ty → ℕ → Block → ℕ → Scope ℕ → Type 0
BlockAt T C D rt b n Γ = ScopeFits T Γ → (D n).before ≡ erase_scope T Γ → AcceptedBlock T C D rt b n Γ

abbrev Rule : Tables → Context ℕ → Labels Ty → ℕ → Bool → ℕ → Stmt → Type 0
Rule T C D rt last n s = StmtRule T (erase_context T C) D (type_of T rt) last n s

module _ (T : Tables) (F : File T) (C : Context ℕ) (D : Labels Ty) (rt : ℕ) (last : Bool) (n : ℕ) (Γ : Scope ℕ) (g : ScopeFits T Γ) (e : (D n).before ≡ erase_scope T Γ) where
  assign_case : (h : Target) (a : Expr) → Rule T C D rt last n (assign h a) → ExprAt T C D (target_expr h) (n + 1) Γ
      → ExprAt T C D a (n + 1 + size_target h) Γ → AcceptedStmt T C D rt last (assign h a) n Γ
  unfolding gather_stmt
  assign_case h a (typ_assn t u z p q s k) fa fb =
      let A = fa (p.scope ∙ e) in
      let B = fb (q.scope ∙ e) in
      let to = sym (assigns_erase T C Γ h) ∙ (rw e at z) in
      let sub = sub_below T F C B.type A.type u t B.value A.value (type_is q B.result) (type_is p A.result) s in
      let o = assign_ok T C rt last h a n Γ to A.accepts B.accepts sub in
      stays T C D rt last (assign h a) n 0 0 Γ g e k refl o (same_both T _ _ A.same B.same) refl

  var_case : (x : ℕ) (a : Expr) → Rule T C D rt last n (var x a) → ExprAt T C D a (n + 1) Γ → AcceptedStmt T C D rt last (var x a) n Γ
  unfolding gather_stmt
  var_case x a (typ_decl t p z k) fa =
      let A = fa (p.scope ∙ e) in
      let after = binds_erase T Γ x A.type n (D n).before t e (type_is p A.result) in
      record {
        mark = 0;
        scope = binds Γ x A.type n;
        labels = marked_as 0 Γ (binds Γ x A.type n) ∷ A.labels;
        accepts = var_ok T C rt last x a n Γ A.accepts (is-fresh T x Γ (D n).before e z);
        result = k.mark;
        after = k.after ∙ after;
        fits = fits_bind g A.value;
        same = same_node T _ _ (ends_label T D n 0 0 Γ (binds Γ x A.type n) _ k refl e after) A.same;
      }

  return_case : (a : Expr) → rt < length T.types → Rule T C D rt last n (return_value a) → ExprAt T C D a (n + 1) Γ
      → AcceptedStmt T C D rt last (return_value a) n Γ
  unfolding gather_stmt
  return_case a r (typ_rett t z p s k) fa =
      let A = fa (p.scope ∙ e) in
      let (kind, value) = not_void T F rt r z in
      let sub = sub_below T F C A.type rt t (type_of T rt) A.value value (type_is p A.result) refl s in
      stays T C D rt last (return_value a) n 1 1 Γ g e k refl (return_ok T C rt last a n Γ kind A.accepts sub) A.same refl

  return_void_case : rt < length T.types → Rule T C D rt last n return_void → AcceptedStmt T C D rt last return_void n Γ
  unfolding gather_stmt erase
  return_void_case r (typ_retvoid z k) =
      stays T C D rt last return_void n 1 1 Γ g e k refl (return_void_ok T C rt last n Γ ((is_void T F rt r).1 z)) refl refl

  -- arguments that have types
  abbrev ArgumentsAt : Exprs → ℕ → Type 0
  ArgumentsAt es m = (ts : Tys) → TypedAll D (erase_scope T Γ) m es ts → AcceptedAll T C D es m Γ ts

  call_case : (a : Expr) (es : Exprs) → Rule T C D rt last n (call_stmt a es) → ExprAt T C D a (n + 1) Γ → ArgumentsAt es (n + 1 + size a)
      → AcceptedStmt T C D rt last (call_stmt a es) n Γ
  unfolding gather_stmt
  call_case a es (typ_scall us ts p q s k) fa fb =
      let A = fa (p.scope ∙ e) in
      let B = fb ts (rw e at q) in
      let (kind, params, returns, within) = function_parts T F A.type A.value.within us void (sym (type_is p A.result)) in
      let returned = (is_void T F (referred T A.type) within).1 (sym returns) in
      let (many, sub) = arguments_right T F C A.type B.types us ts A.value kind B.values params B.written s in
      let o = call_ok T C rt last a es n Γ A.accepts kind returned (B.many ∙ many) B.accepts sub in
      stays T C D rt last (call_stmt a es) n 0 0 Γ g e k refl o (same_both T _ _ A.same B.same) refl

  if_case : (a : Expr) (b c : Block) → Rule T C D rt last n (if_else a b c) → ExprAt T C D a (n + 1) Γ → BlockAt T C D rt b (n + 1 + size a) (inner Γ)
      → BlockAt T C D rt c (n + 1 + size a + size_block b) (inner Γ) → AcceptedStmt T C D rt last (if_else a b c) n Γ
  unfolding gather_stmt
  if_case a b c (typ_if p q h i j k) fa fb fc =
      let A = fa (h.scope ∙ e) in
      let X = fb g (i.scope ∙ ap (λ (G : Scope Ty). inner G) e) in
      let Y = fc g (j.scope ∙ ap (λ (G : Scope Ty). inner G) e) in
      let test = is_bool T F A.type A.value (type_is h A.result) in
      let mark = ap₂ (λ (x y : ℕ). both x y) (mark_is i X.result) (mark_is j Y.result) in
      let o = if_ok T C rt last a b c n Γ A.accepts test X.accepts Y.accepts in
      stays T C D rt last (if_else a b c) n (both p q) (both X.mark Y.mark) Γ g e k mark o (same_three T _ _ _ A.same X.same Y.same) refl

  if_null_case : (x t : ℕ) (a : Expr) (b c : Block) → has_reference_kind T t ≡ true → Rule T C D rt last n (if_null x t a b c) → ExprAt T C D a (n + 1) Γ
      → BlockAt T C D rt b (n + 1 + size a) (inner (binds (inner Γ) x t n)) → BlockAt T C D rt c (n + 1 + size a + size_block b) (inner Γ)
      → AcceptedStmt T C D rt last (if_null x t a b c) n Γ
  unfolding gather_stmt
  if_null_case x t a b c m (typ_ifq r p q h s i j k) fa fb fc =
      let v = reference_value T t m in
      let A = fa (h.scope ∙ e) in
      let X = fb (fits_bind g v) (i.scope ∙ ap (λ (G : Scope Ty). inner G) (binds_erase T (inner Γ) x t n (inner (D n).before) (type_of T t) (ap (λ (G : Scope Ty). inner G) e) refl)) in
      let Y = fc g (j.scope ∙ ap (λ (G : Scope Ty). inner G) e) in
      let (kind, refers, value) = nullable_parts T F A.type A.value.within r (sym (type_is h A.result)) in
      let sub = sub_below T F C (referred T A.type) t r (type_of T t) value v refers refl s in
      let mark = ap₂ (λ (x y : ℕ). both x y) (mark_is i X.result) (mark_is j Y.result) in
      let o = if_null_ok T C rt last x t a b c n Γ A.accepts kind sub X.accepts Y.accepts in
      stays T C D rt last (if_null x t a b c) n (both p q) (both X.mark Y.mark) Γ g e k mark o (same_three T _ _ _ A.same X.same Y.same) refl

  while_case : (a : Expr) (b : Block) → Rule T C D rt last n (while a b) → ExprAt T C D a (n + 1) Γ → BlockAt T C D rt b (n + 1 + size a) (inner Γ)
      → AcceptedStmt T C D rt last (while a b) n Γ
  unfolding gather_stmt
  while_case a b (typ_while p h i k) fa fb =
      let A = fa (h.scope ∙ e) in
      let X = fb g (i.scope ∙ ap (λ (G : Scope Ty). inner G) e) in
      let test = is_bool T F A.type A.value (type_is h A.result) in
      let o = while_ok T C rt last a b n Γ A.accepts test X.accepts in
      stays T C D rt last (while a b) n (while_mark last a) (while_mark last a) Γ g e k refl o (same_both T _ _ A.same X.same) refl

  -- the parts of a for; all but its vars stand in the scope after them
  abbrev VarsAt : Vars → ℕ → Type 0
  VarsAt vs m = (Δ : Scope Ty) → VarsChain D m vs (erase_scope T (inner Γ)) Δ → AcceptedVars T C D vs m (inner Γ) Δ

  abbrev ConditionAt : Condition → ℕ → Type 0
  ConditionAt c m = (Θ : Scope ℕ) → ScopeFits T Θ → ConditionHolds D m (erase_scope T Θ) c → AcceptedCondition T C D c m n Θ

  abbrev StepAt : Step → ℕ → Type 0
  StepAt s m = (Θ : Scope ℕ) → ScopeFits T Θ → StepGoesOn D m (erase_scope T Θ) s → AcceptedStep T C D rt s m Θ

  for_case : (vs : Vars) (c : Condition) (s : Step) (b : Block) → Rule T C D rt last n (for vs c s b) → VarsAt vs (n + 1)
      → ConditionAt c (n + 1 + size_vars vs) → StepAt s (n + 1 + size_vars vs + size_condition c)
      → ((Θ : Scope ℕ) → BlockAt T C D rt b (n + 1 + size_vars vs + size_condition c + size_step s) (inner Θ)) → AcceptedStmt T C D rt last (for vs c s b) n Γ
  unfolding gather_stmt
  for_case vs c s b (typ_for Δ p v h i j k) fv fc fs fb =
      let U = fv Δ (rw e at v) in
      let X = fc U.scope U.fits (rw U.after at h) in
      let Y = fs U.scope U.fits (rw U.after at i) in
      let Z = fb U.scope U.fits (j.scope ∙ ap (λ (G : Scope Ty). inner G) U.after) in
      let o = for_ok T C rt last vs c s b n Γ U.accepts X.accepts Y.accepts Z.accepts in
      stays T C D rt last (for vs c s b) n 0 0 Γ g e k refl o (same_both T _ _ U.same (same_three T _ _ _ X.same Y.same Z.same)) refl

module _ (T : Tables) (F : File T) (C : Context ℕ) (D : Labels Ty) (rt n : ℕ) (Γ : Scope ℕ) (g : ScopeFits T Γ) (e : (D n).before ≡ erase_scope T Γ) where
  -- the statements of a block
  abbrev StmtsAt : Stmts → ℕ → Type 0
  StmtsAt ss m = (q : ℕ) → Chain D m ss 0 (erase_scope T Γ) q → AcceptedStmts T C D rt ss m n 0 Γ q

  block_case : (ss : Stmts) → BlockRule D n (block ss) → StmtsAt ss (n + 1) → AcceptedBlock T C D rt (block ss) n Γ
  unfolding gather_block
  block_case ss (typ_block q h k) f =
      let S = f q (rw e at h) in
      record {
        mark = q;
        labels = marked_as q Γ Γ ∷ S.labels;
        accepts = block_ok T C rt ss n Γ S.accepts;
        result = k.mark;
        same = same_node T _ _ (ends_label T D n q q Γ Γ (D n).before k refl e e) S.same;
      }

-- steps and lists of statements

module _ (T : Tables) (C : Context ℕ) (D : Labels Ty) (rt n : ℕ) (Γ : Scope ℕ) where
  step_left : D n ≡ unlabelled → AcceptedStep T C D rt no_step n Γ
  unfolding gather_step executing
  step_left z = record { labels = unlabelled ∷ []; accepts = refl; same = same_unlabelled T D n z }

  step_case : (s : Stmt) → Marked D n (erase_scope T Γ) 0 → AcceptedStmt T C D rt false s n Γ → AcceptedStep T C D rt (step s) n Γ
  unfolding gather_step
  step_case s m S = record {
    labels = S.labels;
    accepts = step_ok T C rt s n Γ S.scope S.accepts (sym (mark_is m S.result));
    same = S.same;
  }

  no_stmts : (previous p q : ℕ) → q ≡ p → AcceptedStmts T C D rt empty n previous p Γ q
  unfolding gather_stmts executing_all erase
  no_stmts previous p q z = record { labels = []; accepts = rw z; same = refl }

  -- the statements after the first, which go on from its mark and the scope after it
  abbrev RestAt : Stmts → ℕ → ℕ → Type 0
  RestAt ss m q = (p : ℕ) (Δ : Scope ℕ) → ScopeFits T Δ → Chain D m ss p (erase_scope T Δ) q → AcceptedStmts T C D rt ss m n p Δ q

  then_case : (s : Stmt) (ss : Stmts) (previous p q : ℕ) → Chain D n (then s ss) p (erase_scope T Γ) q
      → ((D n).before ≡ erase_scope T Γ → AcceptedStmt T C D rt (is_empty ss) s n Γ) → RestAt ss (n + size_stmt s) q
      → AcceptedStmts T C D rt (then s ss) n previous p Γ q
  unfolding gather_stmts Chain
  then_case s ss previous p q (r, z, m, c) f fs =
      let S = f m.scope in
      let R = fs S.mark S.scope S.fits (rw (mark_is m S.result, S.after) at c) in
      record {
        labels = S.labels ++ R.labels;
        accepts = then_ok T C rt s ss n previous p Γ z S.accepts R.accepts;
        same = same_both T _ _ S.same R.same;
      }

-- the vars and the condition of a for

module _ (T : Tables) (F : File T) (C : Context ℕ) (D : Labels Ty) where
  condition_case : (a : Expr) (m n : ℕ) (Γ : Scope ℕ) → Typed D m (erase_scope T Γ) bool → Accepted T C D a m Γ
      → AcceptedCondition T C D (condition a) m n Γ
  unfolding gather_condition
  condition_case a m n Γ h A = record {
    labels = A.labels;
    accepts = condition_ok T C a m n Γ A.accepts (is_bool T F A.type A.value (type_is h A.result));
    same = A.same;
  }

  -- the vars after the first
  abbrev NextAt : Vars → ℕ → Scope Ty → Type 0
  NextAt vs m Δ = (Θ : Scope ℕ) → ScopeFits T Θ → VarsChain D m vs (erase_scope T Θ) Δ → AcceptedVars T C D vs m Θ Δ

  next_case : (x : ℕ) (a : Expr) (vs : Vars) (n : ℕ) (Γ : Scope ℕ) (Δ : Scope Ty) (rt : Ty) → ScopeFits T Γ
      → VarsChain D n (next_var x a vs) (erase_scope T Γ) Δ → StmtRule T (erase_context T C) D rt false n (var x a) → ExprAt T C D a (n + 1) Γ
      → NextAt vs (n + 1 + size a) Δ → AcceptedVars T C D (next_var x a vs) n Γ Δ
  unfolding gather_vars VarsChain
  next_case x a vs n Γ Δ rt g (m, c) (typ_decl t p z k) fa fv =
      let e = m.scope in
      let A = fa (p.scope ∙ e) in
      let o = binds_erase T Γ x A.type n (D n).before t e (type_is p A.result) in
      let R = fv (binds Γ x A.type n) (fits_bind g A.value) (rw (k.after ∙ o) at c) in
      record {
        scope = R.scope;
        labels = marked_as 0 Γ (binds Γ x A.type n) ∷ A.labels ++ R.labels;
        accepts = vars_ok T C x a vs n Γ A.accepts (is-fresh T x Γ (D n).before e z) R.accepts;
        after = R.after;
        fits = R.fits;
        same = same_node T _ _ (ends_label T D n 0 0 Γ (binds Γ x A.type n) _ k refl e o) (same_both T _ _ A.same R.same);
      }

module _ (T : Tables) (F : File T) (C : Context ℕ) (f : ContextFits T C) (D : Labels Ty) (rt : Ty) where
  complete_condition : (c : Condition) (m n : ℕ) (Γ : Scope ℕ) → ScopeFits T Γ → ConditionStands T m c
      → ((i : ℕ) (u : Node) → AtCondition c m i u → RuleAt T (erase_context T C) D rt i u) → ConditionHolds D m (erase_scope T Γ) c
      → AcceptedCondition T C D c m n Γ
  unfolding ConditionHolds judging_condition gather_condition
  complete_condition no_condition m n Γ g s d h = record { labels = unlabelled ∷ []; accepts = refl; same = same_unlabelled T D m h }
  complete_condition (condition a) m n Γ g s d h =
      condition_case T F C D a m n Γ h (complete T F C f D a m Γ g s (record { rule = λ i u w. d i (expression u) (in_condition w) }) h.scope)

  complete_vars : (vs : Vars) (n : ℕ) (Γ : Scope ℕ) (Δ : Scope Ty) → ScopeFits T Γ → VarsStand T n vs
      → ((m : ℕ) (u : Node) → AtVars vs n m u → RuleAt T (erase_context T C) D rt m u) → VarsChain D n vs (erase_scope T Γ) Δ
      → AcceptedVars T C D vs n Γ Δ
  unfolding VarsChain executing_vars gather_vars erase
  complete_vars no_var n Γ Δ g s d c = record { scope = Γ; labels = []; accepts = refl; after = c; fits = g; same = refl }
  complete_vars (next_var x a vs) n Γ Δ g s d c =
      next_case T F C D x a vs n Γ Δ rt g c (d n (statement false (var x a)) at_var)
      (λ z. complete T F C f D a (n + 1) Γ g s.1 (record { rule = λ m u w. d m (expression u) (in_var w) }) z)
      (λ Θ h k. complete_vars vs (n + 1 + size a) Θ Δ h s.2 (λ m u w. d m u (in_vars w)) k)

-- the recursion

module _ (T : Tables) (F : File T) (C : Context ℕ) (f : ContextFits T C) (D : Labels Ty) (rt : ℕ) (r : rt < length T.types) where
  -- an expression of the tree, where its scope is right
  expr : (a : Expr) (n : ℕ) (Γ : Scope ℕ) → ScopeFits T Γ → Stands T n a → ((m : ℕ) (u : Expr) → At a n m u → ExprRule T (erase_context T C) D m u)
      → (D n).before ≡ erase_scope T Γ → Accepted T C D a n Γ
  expr a n Γ g s d e = complete T F C f D a n Γ g s (record { rule = d }) e

  mutual
    unfolding StepGoesOn Chain

    complete_stmt : (last : Bool) (s : Stmt) (n : ℕ) (Γ : Scope ℕ) → ScopeFits T Γ → StmtStands T n s → Rule T C D rt last n s
        → ((m : ℕ) (u : Node) → InStmt s n m u → RuleAt T (erase_context T C) D (type_of T rt) m u) → (D n).before ≡ erase_scope T Γ
        → AcceptedStmt T C D rt last s n Γ
    complete_stmt last (assign h a) n Γ g s o d e =
        assign_case T F C D rt last n Γ g e h a o
        (λ z. expr (target_expr h) (n + 1) Γ g s.1 (λ m u w. d m (expression u) (in_target w)) z)
        (λ z. expr a (n + 1 + size_target h) Γ g s.2 (λ m u w. d m (expression u) (in_assigned w)) z)
    complete_stmt last (var x a) n Γ g s o d e =
        var_case T F C D rt last n Γ g e x a o
        (λ z. expr a (n + 1) Γ g s.1 (λ m u w. d m (expression u) (in_initial w)) z)
    complete_stmt last (return_value a) n Γ g s o d e =
        return_case T F C D rt last n Γ g e a r o
        (λ z. expr a (n + 1) Γ g s.1 (λ m u w. d m (expression u) (in_returned w)) z)
    complete_stmt last return_void n Γ g s o d e = return_void_case T F C D rt last n Γ g e r o
    complete_stmt last (call_stmt a es) n Γ g s o d e =
        call_case T F C D rt last n Γ g e a es o
        (λ z. expr a (n + 1) Γ g s.1 (λ m u w. d m (expression u) (in_called w)) z)
        (λ ts t. completes T F C f D es (n + 1 + size a) Γ ts g s.2 (λ m u w. d m (expression u) (in_passed w)) t)
    complete_stmt last (if_else a b c) n Γ g s o d e =
        if_case T F C D rt last n Γ g e a b c o
        (λ z. expr a (n + 1) Γ g s.1 (λ m u w. d m (expression u) (in_test w)) z)
        (λ h z. block_accepted b (n + 1 + size a) (inner Γ) h s.2 (λ m u w. d m u (in_then w)) z)
        (λ h z. block_accepted c (n + 1 + size a + size_block b) (inner Γ) h s.3 (λ m u w. d m u (in_else w)) z)
    complete_stmt last (if_null x t a b c) n Γ g s o d e =
        if_null_case T F C D rt last n Γ g e x t a b c s.1 o
        (λ z. expr a (n + 1) Γ g s.2 (λ m u w. d m (expression u) (in_nullable w)) z)
        (λ h z. block_accepted b (n + 1 + size a) (inner (binds (inner Γ) x t n)) h s.3 (λ m u w. d m u (in_some w)) z)
        (λ h z. block_accepted c (n + 1 + size a + size_block b) (inner Γ) h s.4 (λ m u w. d m u (in_null w)) z)
    complete_stmt last (for vs c p b) n Γ g s o d e =
        for_case T F C D rt last n Γ g e vs c p b o
        (λ Δ z. complete_vars T F C f D (type_of T rt) vs (n + 1) (inner Γ) Δ g s.1 (λ m u w. d m u (in_for_vars w)) z)
        (λ Θ h z. complete_condition T F C f D (type_of T rt) c (n + 1 + size_vars vs) n Θ h s.2 (λ m u w. d m u (in_for_condition w)) z)
        (λ Θ h z. complete_step p (n + 1 + size_vars vs + size_condition c) Θ h s.3 (λ m u w. d m u (in_for_step w)) z)
        (λ Θ h z. block_accepted b (n + 1 + size_vars vs + size_condition c + size_step p) (inner Θ) h s.4 (λ m u w. d m u (in_for_body w)) z)
    complete_stmt last (while a b) n Γ g s o d e =
        while_case T F C D rt last n Γ g e a b o
        (λ z. expr a (n + 1) Γ g s.1 (λ m u w. d m (expression u) (in_while_test w)) z)
        (λ h z. block_accepted b (n + 1 + size a) (inner Γ) h s.2 (λ m u w. d m u (in_while_body w)) z)

    complete_step : (s : Step) (n : ℕ) (Γ : Scope ℕ) → ScopeFits T Γ → StepStands T n s
        → ((m : ℕ) (u : Node) → AtStep s n m u → RuleAt T (erase_context T C) D (type_of T rt) m u) → StepGoesOn D n (erase_scope T Γ) s
        → AcceptedStep T C D rt s n Γ
    complete_step no_step n Γ g s d h = step_left T C D rt n Γ h
    complete_step (step p) n Γ g s d h = step_case T C D rt n Γ p h (complete_stmt false p n Γ g s (d n (statement false p) at_step) (λ m u w. d m u (in_step w)) h.scope)

    block_accepted : (b : Block) (n : ℕ) (Γ : Scope ℕ) → ScopeFits T Γ → BlockStands T n b
        → ((m : ℕ) (u : Node) → AtBlock b n m u → RuleAt T (erase_context T C) D (type_of T rt) m u) → (D n).before ≡ erase_scope T Γ
        → AcceptedBlock T C D rt b n Γ
    block_accepted (block ss) n Γ g s d e =
        block_case T F C D rt n Γ g e ss (d n (blocked (block ss)) here_block)
        (λ q c. complete_stmts ss (n + 1) n 0 Γ q g s.1 (λ m u w. d m u (in_block w)) c)

    complete_stmts : (ss : Stmts) (n previous p : ℕ) (Γ : Scope ℕ) (q : ℕ) → ScopeFits T Γ → StmtsStand T n ss
        → ((m : ℕ) (u : Node) → AtStmts ss n m u → RuleAt T (erase_context T C) D (type_of T rt) m u) → Chain D n ss p (erase_scope T Γ) q
        → AcceptedStmts T C D rt ss n previous p Γ q
    complete_stmts empty n previous p Γ q g s d c = no_stmts T C D rt n Γ previous p q c
    complete_stmts (then t ss) n previous p Γ q g s d c =
        then_case T C D rt n Γ t ss previous p q c
        (λ z. complete_stmt (is_empty ss) t n Γ g s.0 (d n (statement (is_empty ss) t) at_stmt) (λ m u w. d m u (in_stmt w)) z)
        (λ k Δ h z. complete_stmts ss (n + size_stmt t) n k Δ q h s.1 (λ m u w. d m u (in_stmts w)) z)

-- rt is the number of the function's return type
pub complete_block : (T : Tables) → File T → (C : Context ℕ) → ContextFits T C → (D : Labels Ty) (rt : ℕ) (b : Block) (n : ℕ) (Γ : Scope ℕ)
    → rt < length T.types → ScopeFits T Γ → BlockStands T n b → DerivesBlock T (erase_context T C) D (type_of T rt) b n
    → (D n).before ≡ erase_scope T Γ → AcceptedBlock T C D rt b n Γ
complete_block T F C f D rt b n Γ r g s d e = block_accepted T F C f D rt r b n Γ g s d.rule e
