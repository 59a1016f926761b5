-- A name means its nearest binding (document 02, (vi)): in every derivation, whatever scope it has at a node, all bindings of one name belong
-- to different blocks, and the binder of a name that a local binds is that of the deepest (`binder_nearest`). Assumes nothing.
use mathlib.Core.Path.{◌≡◌, refl, ap, sym, subst, ◌∙◌}
use mathlib.Core.Bool.{Bool, true, false, ◌&&◌}
use mathlib.Core.List.{List, [], ◌∷◌}
use mathlib.Core.Logic.{◌⊎◌, inl, inr}
use Prim.Native.Nat.{ℕ, suc, ◌+◌, ◌≤◌, ◌<◌}
use native.Mathlib.Omega.{arith}
use lib.ListN.{length}
use lib.Dec.{eqb}
use borrow.Author.Tests.{eq-eqb, ne_eqb, eqb-true, eqb-false}
use Rattle.oat.specs.Basics.{pick}
use Rattle.oat.specs.Tables.{Tables, type_at, entry_at}
use Rattle.oat.specs.Types.{Ty, Tys, type_of}
use Rattle.oat.specs.Syntax.{Expr, name, array_literal, default_array, array_with, index, length_of, struct_literal, field, call, unary, binary, Exprs, Inits, Vars, no_var, next_var, Condition, Stmt, assign, var, return_value, return_void, call_stmt, if_else, if_null, for, while, Step, no_step, step, Block, block, Stmts, empty, then, size}
use Rattle.oat.specs.ProgramFile.{Program}
use Rattle.typing_rules.specs.Contexts.{Binding, Bindings, unbound, bind, Scope, empty as empty_scope, binds, inner, hit, miss, nearest, is_fresh_at, is_fresh, Context}
use Rattle.typing_rules.specs.Labels.{gives, Labels}
use Rattle.typing_rules.specs.Rules.{TypedAll, typed_also, TypedInits, typed_init, ExprRule, typ_local, typ_global, typ_carr, typ_newarray, typ_newarrayinit, typ_index, typ_length, typ_structex, typ_field, typ_call, typ_bop, typ_eq, typ_uop, VarsChain, ConditionHolds, StepGoesOn, Chain, StmtRule, typ_assn, typ_decl, typ_rett, typ_retvoid, typ_scall, typ_if, typ_ifq, typ_while, typ_for, BlockRule, typ_block}
use Rattle.typing_rules.specs.Derivations.{At, here, in_elements, in_length, in_with_length, in_with_value, in_indexed, in_position, in_measured, in_fields, in_record, in_callee, in_arguments, in_operand, in_left, in_right, AtAll, in_first, in_rest, AtInits, in_value, in_others, Node, expression, AtVars, at_var, in_var, in_vars, AtCondition, in_condition, InStmt, in_target, in_assigned, in_initial, in_returned, in_called, in_passed, in_test, in_then, in_else, in_nullable, in_some, in_null, in_for_vars, in_for_condition, in_for_step, in_for_body, in_while_test, in_while_body, AtStep, at_step, in_step, AtBlock, here_block, in_block, AtStmts, at_stmt, in_stmt, in_stmts, RuleAt}
use Rattle.typing_rules.specs.Endless.{InBodies}
use Rattle.typing_rules.specs.Steps.{body, is_among, distinct_names, parameters, StepRule, typ_fdeclok, DerivesFile}
use Rattle.typing_rules.specs.Nearest.{Among, latest, earlier, Nearest, Means, means_local, means_outer}
use Rattle.typing_rules.proofs.LawsLevels.{fresh_binds}
use Rattle.typing_rules.proofs.LawsBodies.{of_body}

-- bindings of one name belong to different blocks, the later the deeper
data Apart : Bindings Ty → Type 0 where
  apart_none : Apart unbound
  apart_next : {B : Bindings Ty} {b : Binding Ty} → Apart B → ((d : Binding Ty) → Among d B → d.name ≡ b.name → d.level < b.level) → Apart (bind B b)

-- and no binding is of a deeper block than its scope
record Layered (Γ : Scope Ty) : Type 0 where
  low : (d : Binding Ty) → Among d Γ.bindings → d.level ≤ Γ.level
  apart : Apart Γ.bindings

-- what the own block has not bound is none of its bindings
not_bound : (l x : ℕ) {d : Binding Ty} {B : Bindings Ty} → is_fresh_at l x B ≡ true → Among d B → d.name ≡ x → d.level ≡ l → ⊥
unfolding is_fresh_at
not_bound l x {d = d} h (latest {B}) e f = go d.level d.name f e h
  where
    go : (m y : ℕ) → m ≡ l → y ≡ x → pick (eqb m l && eqb y x) false (is_fresh_at l x B) ≡ true → ⊥
    go m y i j k = let z : false ≡ true = rw (eq-eqb m l i, eq-eqb y x j) at k in absurd (let w : ◌≡◌ {A = ℕ} 0 1 = cc in omega arith)
not_bound l x (h) (earlier {B} {b} a) e f = not_bound l x (rest (eqb b.level l && eqb b.name x) h) a e f
  where
    rest : (c : Bool) → pick c false (is_fresh_at l x B) ≡ true → is_fresh_at l x B ≡ true
    rest true k = absurd (let w : ◌≡◌ {A = ℕ} 0 1 = cc in omega arith)
    rest false k = k

-- a level that no binding has reached is free
fresh_above : (l x : ℕ) (B : Bindings Ty) → ((d : Binding Ty) → Among d B → d.level < l) → is_fresh_at l x B ≡ true
unfolding is_fresh_at
fresh_above l x unbound f = refl
fresh_above l x (bind B b) f =
    let below = f b latest in
    rw (ne_eqb b.level l (λ e. omega (arith, below, e))) (fresh_above l x B (λ d a. f d (earlier a)))

none_among : {d : Binding Ty} {B : Bindings Ty} → Among d B → B ≡ unbound → ⊥
none_among latest e = let z : ◌≡◌ {A = ℕ} 0 1 = cc in omega arith
none_among (earlier a) e = let z : ◌≡◌ {A = ℕ} 0 1 = cc in omega arith

layered_empty : Layered empty_scope
layered_empty = record { low = λ d a. absurd (none_among a refl); apart = apart_none }

layered_inner : {Γ : Scope Ty} → Layered Γ → Layered (inner Γ)
layered_inner h = record { low = λ d a. let k = h.low d a in omega (arith, k); apart = h.apart }

-- a name that is new in the block
layered_binds : {Γ : Scope Ty} {x : ℕ} {t : Ty} {n : ℕ} → Layered Γ → is_fresh x Γ ≡ true → Layered (binds Γ x t n)
layered_binds {Γ} {x} {t} {n} h f = record {
  low = λ d a. low_bound d a;
  apart = apart_next h.apart (λ d a e. deeper d a e);
}
  where
    low_bound : (d : Binding Ty) → Among d (binds Γ x t n).bindings → d.level ≤ Γ.level
    low_bound d latest = omega arith
    low_bound d (earlier a) = h.low d a

    deeper : (d : Binding Ty) → Among d Γ.bindings → d.name ≡ x → d.level < Γ.level
    deeper d a e =
        let most = h.low d a in
        let other : d.level ≡ Γ.level → ⊥ = λ i. not_bound Γ.level x f a e i in
        omega (arith, most, other)

-- in a block of its own
layered_own : {Γ : Scope Ty} {x : ℕ} {t : Ty} {n : ℕ} → Layered Γ → Layered (binds (inner Γ) x t n)
layered_own {Γ} {x} h = layered_binds (layered_inner h) (fresh_above (suc Γ.level) x Γ.bindings (λ d a. let k = h.low d a in omega (arith, k)))

-- what is found is the nearest
found_nearest : (x : ℕ) (B : Bindings Ty) (l : ℕ) (t : Ty) (b : ℕ) → Apart B → nearest x B ≡ hit t b
    → (c : Binding Ty) × Nearest (record { level = l; bindings = B }) x c × (c.type ≡ t) × (c.binder ≡ b)
unfolding nearest
found_nearest x unbound l t b apart_none e = absurd (let z : ◌≡◌ {A = ℕ} 0 1 = cc in omega arith)
found_nearest x (bind B c) l t b (apart_next a f) e = go (eqb c.name x) refl e (λ j. found_nearest x B l t b a j)
  where
    top : (d : Binding Ty) → Among d (bind B c) → c.name ≡ x → d.name ≡ x → (d ≡ c) ⊎ (d.level < c.level)
    top d latest i j = inl refl
    top d (earlier w) i j = inr (f d w (j ∙ sym i))

    under : (k : Binding Ty) → ((d : Binding Ty) → Among d B → d.name ≡ x → (d ≡ k) ⊎ (d.level < k.level)) → (c.name ≡ x → ⊥)
        → (d : Binding Ty) → Among d (bind B c) → d.name ≡ x → (d ≡ k) ⊎ (d.level < k.level)
    under k g i d latest j = absurd (i j)
    under k g i d (earlier w) j = g d w j

    go : (v : Bool) → eqb c.name x ≡ v → pick v (hit c.type c.binder) (nearest x B) ≡ hit t b
        → (nearest x B ≡ hit t b → (k : Binding Ty) × Nearest (record { level = l; bindings = B }) x k × (k.type ≡ t) × (k.binder ≡ b))
        → (k : Binding Ty) × Nearest (record { level = l; bindings = bind B c }) x k × (k.type ≡ t) × (k.binder ≡ b)
    go true i j r = (c, record { among = latest; named = eqb-true c.name x i; others = λ d w k. top d w (eqb-true c.name x i) k }, cc, cc)
    go false i j r =
        let (k, h, u, v) = r j in
        (k, record { among = earlier h.among; named = h.named; others = under k h.others (eqb-false c.name x i) }, u, v)

-- the scopes of the children of an expression, by its rule
module _ {T : Tables} {C : Context Ty} {D : Labels Ty} {n : ℕ} where
  elements_of : {t : ℕ} {es : Exprs} → ExprRule T C D n (array_literal t es) → (ts : Tys) × TypedAll D (D n).before (n + 1) es ts
  elements_of (typ_carr u ts e o p q h) = (ts, p)

  length-of : {t : ℕ} {a : Expr} → ExprRule T C D n (default_array t a) → (D (n + 1)).before ≡ (D n).before
  length-of (typ_newarray u e o p q h) = p.scope

  with_length_of : {t x : ℕ} {a b : Expr} → ExprRule T C D n (array_with t x a b) → (D (n + 1)).before ≡ (D n).before
  with_length_of (typ_newarrayinit u v e o p q r h) = p.scope

  with_value_of : {t x : ℕ} {a b : Expr} → ExprRule T C D n (array_with t x a b) → (u : Ty) × ((D (n + 1 + size a)).before ≡ binds (inner (D n).before) x u n)
  with_value_of (typ_newarrayinit u v e o p q r h) = (_, q.scope)

  indexed_of : {a b : Expr} → ExprRule T C D n (index a b) → ((D (n + 1)).before ≡ (D n).before) × ((D (n + 1 + size a)).before ≡ (D n).before)
  indexed_of (typ_index t p q h) = (p.scope, q.scope)

  measured_of : {a : Expr} → ExprRule T C D n (length_of a) → (D (n + 1)).before ≡ (D n).before
  measured_of (typ_length t p h) = p.scope

  fields_of : {t : ℕ} {is : Inits} → ExprRule T C D n (struct_literal t is) → (ts : Tys) × TypedInits D (D n).before (n + 1) is ts
  fields_of (typ_structex s fs ts e l o p q h) = (ts, p)

  of_record : {x : ℕ} {a : Expr} → ExprRule T C D n (field x a) → (D (n + 1)).before ≡ (D n).before
  of_record (typ_field s fs t p l o h) = p.scope

  callee_of : {a : Expr} {es : Exprs} → ExprRule T C D n (call a es) → (D (n + 1)).before ≡ (D n).before
  callee_of (typ_call us ts t p v q r h) = p.scope

  arguments_of : {a : Expr} {es : Exprs} → ExprRule T C D n (call a es) → (ts : Tys) × TypedAll D (D n).before (n + 1 + size a) es ts
  arguments_of (typ_call us ts t p v q r h) = (ts, q)

  operand_of : {x : ℕ} {a : Expr} → ExprRule T C D n (unary x a) → (D (n + 1)).before ≡ (D n).before
  operand_of (typ_uop p h) = p.scope

  operands_of : {x : ℕ} {a b : Expr} → ExprRule T C D n (binary x a b) → ((D (n + 1)).before ≡ (D n).before) × ((D (n + 1 + size a)).before ≡ (D n).before)
  operands_of (typ_bop i p q h) = (p.scope, q.scope)
  operands_of (typ_eq t u i p q r s h) = (p.scope, q.scope)

-- every node of a derivation has such a scope: an expression's
abbrev Keeps : Labels Ty → ℕ → Type 0
Keeps D m = Layered (D m).before

kept : {Γ Δ : Scope Ty} → Δ ≡ Γ → Layered Γ → Layered Δ
kept e h = subst Layered (sym e) h

module _ {T : Tables} {C : Context Ty} {D : Labels Ty} where
  mutual
    expr_keeps : {e u : Expr} {n m : ℕ} → At e n m u → ((i : ℕ) (v : Expr) → At e n i v → ExprRule T C D i v) → Keeps D n → Keeps D m
    expr_keeps here f h = h
    expr_keeps (in_elements w) f h = exprs_keep w (elements_of (f _ _ here)).1 (λ i v k. f i v (in_elements k)) h
    expr_keeps (in_length w) f h = expr_keeps w (λ i v k. f i v (in_length k)) (kept (length-of (f _ _ here)) h)
    expr_keeps (in_with_length w) f h = expr_keeps w (λ i v k. f i v (in_with_length k)) (kept (with_length_of (f _ _ here)) h)
    expr_keeps (in_with_value w) f h = expr_keeps w (λ i v k. f i v (in_with_value k)) (kept (with_value_of (f _ _ here)).1 (layered_own h))
    expr_keeps (in_indexed w) f h = expr_keeps w (λ i v k. f i v (in_indexed k)) (kept (indexed_of (f _ _ here)).0 h)
    expr_keeps (in_position w) f h = expr_keeps w (λ i v k. f i v (in_position k)) (kept (indexed_of (f _ _ here)).1 h)
    expr_keeps (in_measured w) f h = expr_keeps w (λ i v k. f i v (in_measured k)) (kept (measured_of (f _ _ here)) h)
    expr_keeps (in_fields w) f h = inits_keep w (fields_of (f _ _ here)).1 (λ i v k. f i v (in_fields k)) h
    expr_keeps (in_record w) f h = expr_keeps w (λ i v k. f i v (in_record k)) (kept (of_record (f _ _ here)) h)
    expr_keeps (in_callee w) f h = expr_keeps w (λ i v k. f i v (in_callee k)) (kept (callee_of (f _ _ here)) h)
    expr_keeps (in_arguments w) f h = exprs_keep w (arguments_of (f _ _ here)).1 (λ i v k. f i v (in_arguments k)) h
    expr_keeps (in_operand w) f h = expr_keeps w (λ i v k. f i v (in_operand k)) (kept (operand_of (f _ _ here)) h)
    expr_keeps (in_left w) f h = expr_keeps w (λ i v k. f i v (in_left k)) (kept (operands_of (f _ _ here)).0 h)
    expr_keeps (in_right w) f h = expr_keeps w (λ i v k. f i v (in_right k)) (kept (operands_of (f _ _ here)).1 h)

    exprs_keep : {es : Exprs} {Γ : Scope Ty} {n m : ℕ} {ts : Tys} {u : Expr} → AtAll es n m u → TypedAll D Γ n es ts
        → ((i : ℕ) (v : Expr) → AtAll es n i v → ExprRule T C D i v) → Layered Γ → Keeps D m
    exprs_keep (in_first w) (typed_also p q) f h = expr_keeps w (λ i v k. f i v (in_first k)) (kept p.scope h)
    exprs_keep (in_rest w) (typed_also p q) f h = exprs_keep w q (λ i v k. f i v (in_rest k)) h

    inits_keep : {is : Inits} {Γ : Scope Ty} {n m : ℕ} {ts : Tys} {u : Expr} → AtInits is n m u → TypedInits D Γ n is ts
        → ((i : ℕ) (v : Expr) → AtInits is n i v → ExprRule T C D i v) → Layered Γ → Keeps D m
    inits_keep (in_value w) (typed_init l p q) f h = expr_keeps w (λ i v k. f i v (in_value k)) (kept p.scope h)
    inits_keep (in_others w) (typed_init l p q) f h = inits_keep w q (λ i v k. f i v (in_others k)) h

-- the scopes of the parts of a statement, by its rule, and the scope after it
module _ {T : Tables} {C : Context Ty} {D : Labels Ty} {rt : Ty} {last : Bool} {n : ℕ} where
  after_keeps : (s : Stmt) → StmtRule T C D rt last n s → Keeps D n → Layered (D n).after
  after_keeps (assign g a) (typ_assn t u v p q r h) k = kept h.after k
  after_keeps (var x a) (typ_decl t p f h) k = kept h.after (layered_binds k f)
  after_keeps (return_value a) (typ_rett t v p q h) k = kept h.after k
  after_keeps return_void (typ_retvoid v h) k = kept h.after k
  after_keeps (call_stmt a es) (typ_scall us ts p q r h) k = kept h.after k
  after_keeps (if_else a b c) (typ_if p q i j l h) k = kept h.after k
  after_keeps (if_null x t a b c) (typ_ifq r p q i j l m h) k = kept h.after k
  after_keeps (for vs c s b) (typ_for Δ p i j l m h) k = kept h.after k
  after_keeps (while a b) (typ_while p i j h) k = kept h.after k

chain-of : {D : Labels Ty} {n : ℕ} {ss : Stmts} → BlockRule D n (block ss) → (q : ℕ) × Chain D (n + 1) ss 0 (D n).before q
chain-of (typ_block q e h) = (q, e)

-- a statement's
module _ {T : Tables} {C : Context Ty} {D : Labels Ty} {rt : Ty} where
  vars_keep : {vs : Vars} {n m : ℕ} {u : Node} {Γ : Scope Ty} (Δ : Scope Ty) → AtVars vs n m u → VarsChain D n vs Γ Δ → ((i : ℕ) (v : Node) → AtVars vs n i v → RuleAt T C D rt i v)
      → Layered Γ → Keeps D m
  unfolding VarsChain
  vars_keep Δ at_var (p, q) f h = kept p.scope h
  vars_keep Δ (in_var w) (p, q) f h = value_keeps (f _ _ at_var) (kept p.scope h) (λ k. expr_keeps w (λ i v a. f i (expression v) (in_var a)) k)
    where
      value_keeps : {x n : ℕ} {a : Expr} {P : Type 0} → StmtRule T C D rt false n (var x a) → Keeps D n → (Keeps D (n + 1) → P) → P
      value_keeps (typ_decl t p g h) k c = c (kept p.scope k)
  vars_keep Δ (in_vars w) (p, q) f h = vars_keep Δ w q (λ i v k. f i v (in_vars k)) (after_keeps _ (f _ _ at_var) (kept p.scope h))

  vars_after : (vs : Vars) {n : ℕ} {Γ Δ : Scope Ty} → VarsChain D n vs Γ Δ → ((i : ℕ) (v : Node) → AtVars vs n i v → RuleAt T C D rt i v) → Layered Γ → Layered Δ
  unfolding VarsChain
  vars_after no_var e f h = kept e h
  vars_after (next_var x a vs) (p, q) f h = vars_after vs q (λ i v k. f i v (in_vars k)) (after_keeps (var x a) (f _ _ at_var) (kept p.scope h))

  condition_keeps : {c : Condition} {n m : ℕ} {u : Node} {Γ : Scope Ty} → AtCondition c n m u → ConditionHolds D n Γ c → ((i : ℕ) (v : Node) → AtCondition c n i v → RuleAt T C D rt i v)
      → Layered Γ → Keeps D m
  unfolding ConditionHolds
  condition_keeps (in_condition w) p f h = expr_keeps w (λ i v k. f i (expression v) (in_condition k)) (kept p.scope h)

  mutual
    unfolding StepGoesOn Chain

    stmt_keeps : (s : Stmt) {n m : ℕ} {u : Node} {last : Bool} → InStmt s n m u → StmtRule T C D rt last n s → ((i : ℕ) (v : Node) → InStmt s n i v → RuleAt T C D rt i v)
        → Keeps D n → Keeps D m
    stmt_keeps return_void w r f h = elim w [ ]
    stmt_keeps (assign g a) (in_target w) (typ_assn t u v p q r z) f h = expr_keeps w (λ i e k. f i (expression e) (in_target k)) (kept p.scope h)
    stmt_keeps (assign g a) (in_assigned w) (typ_assn t u v p q r z) f h = expr_keeps w (λ i e k. f i (expression e) (in_assigned k)) (kept q.scope h)
    stmt_keeps (var x a) (in_initial w) (typ_decl t p q z) f h = expr_keeps w (λ i e k. f i (expression e) (in_initial k)) (kept p.scope h)
    stmt_keeps (return_value a) (in_returned w) (typ_rett t v p q z) f h = expr_keeps w (λ i e k. f i (expression e) (in_returned k)) (kept p.scope h)
    stmt_keeps (call_stmt a es) (in_called w) (typ_scall us ts p q r z) f h = expr_keeps w (λ i e k. f i (expression e) (in_called k)) (kept p.scope h)
    stmt_keeps (call_stmt a es) (in_passed w) (typ_scall us ts p q r z) f h = exprs_keep w q (λ i e k. f i (expression e) (in_passed k)) h
    stmt_keeps (if_else a b c) (in_test w) (typ_if p q t u v z) f h = expr_keeps w (λ i e k. f i (expression e) (in_test k)) (kept t.scope h)
    stmt_keeps (if_else a b c) (in_then w) (typ_if p q t u v z) f h = block_keeps b w (λ i e k. f i e (in_then k)) (kept u.scope (layered_inner h))
    stmt_keeps (if_else a b c) (in_else w) (typ_if p q t u v z) f h = block_keeps c w (λ i e k. f i e (in_else k)) (kept v.scope (layered_inner h))
    stmt_keeps (if_null x o a b c) (in_nullable w) (typ_ifq r p q t s u v z) f h = expr_keeps w (λ i e k. f i (expression e) (in_nullable k)) (kept t.scope h)
    stmt_keeps (if_null x o a b c) (in_some w) (typ_ifq r p q t s u v z) f h = block_keeps b w (λ i e k. f i e (in_some k)) (kept u.scope (layered_inner (layered_own h)))
    stmt_keeps (if_null x o a b c) (in_null w) (typ_ifq r p q t s u v z) f h = block_keeps c w (λ i e k. f i e (in_null k)) (kept v.scope (layered_inner h))
    stmt_keeps (for vs c s b) (in_for_vars w) (typ_for Δ p t u v y z) f h = vars_keep Δ w t (λ i e k. f i e (in_for_vars k)) (layered_inner h)
    stmt_keeps (for vs c s b) (in_for_condition w) (typ_for Δ p t u v y z) f h =
        condition_keeps w u (λ i e k. f i e (in_for_condition k)) (vars_after vs t (λ i e k. f i e (in_for_vars k)) (layered_inner h))
    stmt_keeps (for vs c s b) (in_for_step w) (typ_for Δ p t u v y z) f h =
        step_keeps s w v (λ i e k. f i e (in_for_step k)) (vars_after vs t (λ i e k. f i e (in_for_vars k)) (layered_inner h))
    stmt_keeps (for vs c s b) (in_for_body w) (typ_for Δ p t u v y z) f h =
        block_keeps b w (λ i e k. f i e (in_for_body k)) (kept y.scope (layered_inner (vars_after vs t (λ i e k. f i e (in_for_vars k)) (layered_inner h))))
    stmt_keeps (while a b) (in_while_test w) (typ_while p t u z) f h = expr_keeps w (λ i e k. f i (expression e) (in_while_test k)) (kept t.scope h)
    stmt_keeps (while a b) (in_while_body w) (typ_while p t u z) f h = block_keeps b w (λ i e k. f i e (in_while_body k)) (kept u.scope (layered_inner h))

    step_keeps : (s : Step) {n m : ℕ} {u : Node} {Γ : Scope Ty} → AtStep s n m u → StepGoesOn D n Γ s → ((i : ℕ) (v : Node) → AtStep s n i v → RuleAt T C D rt i v)
        → Layered Γ → Keeps D m
    step_keeps no_step w p f h = elim w [ ]
    step_keeps (step s) at_step p f h = kept p.scope h
    step_keeps (step s) (in_step w) p f h = stmt_keeps s w (f _ _ at_step) (λ i v k. f i v (in_step k)) (kept p.scope h)

    block_keeps : (b : Block) {n m : ℕ} {u : Node} → AtBlock b n m u → ((i : ℕ) (v : Node) → AtBlock b n i v → RuleAt T C D rt i v) → Keeps D n → Keeps D m
    block_keeps (block ss) here_block f h = h
    block_keeps (block ss) (in_block w) f h = stmts_keep 0 (chain-of (f _ _ here_block)).0 ss w (chain-of (f _ _ here_block)).1 (λ i v k. f i v (in_block k)) h

    stmts_keep : (p q : ℕ) (ss : Stmts) {n m : ℕ} {u : Node} {Γ : Scope Ty} → AtStmts ss n m u → Chain D n ss p Γ q → ((i : ℕ) (v : Node) → AtStmts ss n i v → RuleAt T C D rt i v)
        → Layered Γ → Keeps D m
    stmts_keep p q empty w e f h = elim w [ ]
    stmts_keep p q (then s ss) at_stmt (r, z, k, e) f h = kept k.scope h
    stmts_keep p q (then s ss) (in_stmt w) (r, z, k, e) f h = stmt_keeps s w (f _ _ at_stmt) (λ i v a. f i v (in_stmt a)) (kept k.scope h)
    stmts_keep p q (then s ss) (in_stmts w) (r, z, k, e) f h = stmts_keep r q ss w e (λ i v a. f i v (in_stmts a)) (after_keeps s (f _ _ at_stmt) (kept k.scope h))

-- the parameters, whose names are distinct
same_among : (x y : ℕ) (ps : List ℕ) → is_among x ps ≡ false → is_among y ps ≡ true → eqb x y ≡ false
same_among x y ps e f = ne_eqb x y (λ z. let w : true ≡ false = sym f ∙ ap (λ i. is_among i ps) (sym z) ∙ e in let u : ◌≡◌ {A = ℕ} 0 1 = cc in omega arith)

layered_parameters : (T : Tables) (ps : List ℕ) (Γ : Scope Ty) (first m : ℕ) → distinct_names ps ≡ true → ((y : ℕ) → is_among y ps ≡ true → is_fresh y Γ ≡ true)
    → Layered Γ → Layered (parameters (type_of T) T Γ first m ps)
unfolding parameters distinct_names is_among
layered_parameters T [] Γ first m d f h = h
layered_parameters T (x ∷ ps) Γ first m d f h =
    let (e, r) = apart_from (is_among x ps) d in
    layered_parameters T ps (binds Γ x (type_of T (entry_at T first)) m) (suc first) (suc m) r
    (λ y a. fresh_binds Γ x (type_of T (entry_at T first)) m y ∙ rw (same_among x y ps e a) (f y (later (eqb x y) y a)))
    (layered_binds h (f x (rw (eq-eqb x x refl) refl)))
  where
    apart_from : (b : Bool) → pick b false (distinct_names ps) ≡ true → (b ≡ false) × (distinct_names ps ≡ true)
    apart_from true e = absurd (let u : ◌≡◌ {A = ℕ} 0 1 = cc in omega arith)
    apart_from false e = (refl, e)

    later : (b : Bool) (y : ℕ) → is_among y ps ≡ true → pick b true (is_among y ps) ≡ true
    later true y e = refl
    later false y e = e

-- a node of a function's body
body_keeps : {T : Tables} {C : Context Ty} {D : Labels Ty} {n t : ℕ} {ps : List ℕ} {b : Block} {m : ℕ} {u : Node} → StepRule T C D (body n t ps b)
    → AtBlock b (n + 1 + length ps) m u → Keeps D m
unfolding is_fresh_at
body_keeps {T = T} {n = n} {t = t} {ps = ps} {b = b} (typ_fdeclok d z e k r) w =
    block_keeps b w (λ i v a. k.rule i v a)
    (kept e (layered_parameters T ps empty_scope (type_at T t).b (n + 1) d (λ y a. refl) layered_empty))

-- a name, by its rule
none_found : (x : ℕ) (B : Bindings Ty) → nearest x B ≡ miss → (c : Binding Ty) → Among c B → c.name ≡ x → ⊥
unfolding nearest
none_found x unbound e c a i = elim a [ ]
none_found x (bind B b) e c latest i = go (eqb b.name x) (eq-eqb b.name x i) e
  where
    go : (v : Bool) → v ≡ true → pick v (hit b.type b.binder) (nearest x B) ≡ miss → ⊥
    go true z j = let u : ◌≡◌ {A = ℕ} 0 1 = cc in omega arith
    go false z j = let u : ◌≡◌ {A = ℕ} 0 1 = cc in omega arith
none_found x (bind B b) e c (earlier a) i = none_found x B (rest (eqb b.name x) e) c a i
  where
    rest : (v : Bool) → pick v (hit b.type b.binder) (nearest x B) ≡ miss → nearest x B ≡ miss
    rest true j = absurd (let u : ◌≡◌ {A = ℕ} 0 1 = cc in omega arith)
    rest false j = j

name_means : {T : Tables} {C : Context Ty} {D : Labels Ty} {m x : ℕ} → ExprRule T C D m (name x) → Keeps D m → Means D m x
name_means {D = D} {m = m} {x = x} (typ_local t b f h) k =
    let (c, near, u, v) = found_nearest x (D m).before.bindings (D m).before.level t b k.apart f in
    means_local c near (h.type ∙ ap gives (sym u)) (h.binder_is ∙ sym v)
name_means {D = D} {m = m} {x = x} (typ_global t b f g h) k = means_outer (none_found x (D m).before.bindings f)

-- a name in a function's body, in a derivation of the file
body_name : {T : Tables} {C : Context Ty} {D : Labels Ty} {n t : ℕ} {ps : List ℕ} {b : Block} {m x : ℕ} → StepRule T C D (body n t ps b)
    → AtBlock b (n + 1 + length ps) m (expression (name x)) → Means D m x
body_name r w = name_means (rule_at r w) (body_keeps r w)
  where
    rule_at : {T : Tables} {C : Context Ty} {D : Labels Ty} {n t : ℕ} {ps : List ℕ} {b : Block} {m x : ℕ} → StepRule T C D (body n t ps b)
        → AtBlock b (n + 1 + length ps) m (expression (name x)) → ExprRule T C D m (name x)
    rule_at (typ_fdeclok d z e k r) w = k.rule _ _ w

pub binder_nearest : (p : Program) (D : Labels Ty) (C : Context Ty) (m : ℕ) {x : ℕ} → DerivesFile p D C → InBodies 0 p.declarations m (expression (name x)) → Means D m x
binder_nearest p D C m d w = let o = of_body p D C m d w in body_name o.rule o.stands
