-- Blocks that bind no name twice (document 02, (vi)): an accepted program has no other (`distinct-accepted`), and a refusal under 7 is where
-- `SevenAt` says: at a struct, a built-in, a declaration, or a var whose own block has bound the name, never at an index name (`seven_at`).
-- Assumes nothing.
use mathlib.Core.Path.{◌≡◌, refl, ap, subst, ◌∙◌}
use mathlib.Core.Bool.{Bool, true, false, not, ◌&&◌}
use mathlib.Core.List.{List, [], ◌∷◌, ◌++◌}
use mathlib.Core.Logic.{inl, inr}
use Prim.Native.Nat.{ℕ, suc, ◌+◌}
use native.Mathlib.Omega.{arith}
use lib.ListN.{length, get_or, replicate}
use lib.Dec.{eqb}
use Rattle.oat.specs.Basics.{pick, tabulate}
use Rattle.oat.specs.Tables.{Tables, type_at, entry_at, struct_at, built_in_at}
use Rattle.oat.specs.Types.{lookup, struct_of}
use Rattle.oat.specs.Syntax.{Expr, count, target_expr, Vars, no_var, next_var, Stmt, assign, var, return_value, return_void, call_stmt, if_else, if_null, for, while, Step, no_step, step, Block, block, Stmts, empty, then, Decl, global, function, size, size_target, size_vars, size_condition, size_step, size_block, size_stmt, size_decl}
use Rattle.oat.specs.ProgramFile.{Program}
use Rattle.typing_rules.specs.Contexts.{Scope, empty as empty_scope, binds, inner, is_miss, is_fresh_at, is_fresh, Context, find_name}
use Rattle.typing_rules.specs.Labels.{Label, unlabelled}
use Rattle.typing_rules.specs.Derivations.{is_empty}
use Rattle.typing_rules.specs.Judge.{Out, ok, no, and_then, needs, is_kind, referred, formed, is_below, arguments_below, assigns_to, execute_vars, execute, execute_step, execute_block, execute_all, executing, executing_vars}
use Rattle.typing_rules.specs.Steps.{Step as CheckStep, struct_name, built_in, heading, global_value, struct_fields, body, headings, globals, bodies, steps_of, is_among, distinct_fields, distinct_names, parameters}
use Rattle.typing_rules.specs.Check.{is_missing, fields_formed, run_step, Segment, accepted, refused, stepping}
use Rattle.typing_rules.specs.Blocks.{bound_after, bound_by, distinct_vars, distinct_stmt, distinct_step, distinct_block, distinct_stmts, distinct_body, distinct_decls, AmongVars, this_var, later_var, Within, of_block, AmongStmts, this_stmt, below_stmt, later_stmt, AsStep, this_step, below_step, Below, of_then, of_else, of_some, of_null, of_for_vars, of_for_step, of_for_body, of_while, SevenAt}
use Rattle.typing_rules.proofs.LawsLevels.{Deepest, deepest_empty, deepest_inner, deepest_binds, fresh_inner, fresh_binds}
use Rattle.typing_rules.proofs.Theorem.{run_of}
use Rattle.typing_rules.proofs.LawsNumbers.{InRange, ok_in, no_in, NotUnder, expr_not, condition_not, exprs_not}
use Rattle.typing_rules.proofs.LawsTells.{Tells as StepTells, fine as step-fine, told as step-seven, other as step_other, asks as step-asks, tells as step-new, plainly as step-plainly, AllFine, next_fine, all_fine, told_at}

-- the own block of the scope Γ has bound the names `own`
record Owns (own : List ℕ) (Γ : Scope ℕ) : Type 0 where
  fresh : (x : ℕ) → is_fresh x Γ ≡ not (is_among x own)
  deepest : Deepest Γ

not_pick : (a b : Bool) → pick a false (not b) ≡ not (pick a true b)
not_pick true b = refl
not_pick false b = refl

owns_inner : {own : List ℕ} {Γ : Scope ℕ} → Owns own Γ → Owns [] (inner Γ)
unfolding is_among
owns_inner {own} {Γ} h = record { fresh = fresh_inner Γ h.deepest; deepest = deepest_inner Γ h.deepest }

owns_binds : {own : List ℕ} {Γ : Scope ℕ} → Owns own Γ → (x t n : ℕ) → Owns (x ∷ own) (binds Γ x t n)
unfolding is_among
owns_binds {own} {Γ} h x t n = record {
  fresh = λ y. fresh_binds Γ x t n y ∙ ap (λ b. pick (eqb x y) false b) (h.fresh y) ∙ not_pick (eqb x y) (is_among y own);
  deepest = deepest_binds Γ h.deepest x t n;
}

-- a var stands at q whose own block has bound its name, by the relation R of places, statements and names
data VarAt (R : ℕ → Stmt → List ℕ → Type 0) (q : ℕ) : Type 0 where
  var_at : {x : ℕ} {a : Expr} {names : List ℕ} → R q (var x a) names → is_among x names ≡ true → VarAt R q

var_in : {R Q : ℕ → Stmt → List ℕ → Type 0} → ((m : ℕ) (s : Stmt) (names : List ℕ) → R m s names → Q m s names) → (q : ℕ) → VarAt R q → VarAt Q q
var_in f q (var_at r e) = var_at (f q _ _ r) e

-- the statement s at n, or one below it
data OfStmt (own : List ℕ) (s : Stmt) (n : ℕ) : ℕ → Stmt → List ℕ → Type 0 where
  itself : OfStmt own s n n s own
  below : {m : ℕ} {t : Stmt} {names : List ℕ} → Below s n m t names → OfStmt own s n m t names

of_stmts : {own names : List ℕ} {s t : Stmt} {ss : Stmts} {n m : ℕ} → OfStmt own s n m t names → AmongStmts own (then s ss) n m t names
of_stmts itself = this_stmt
of_stmts (below w) = below_stmt w

of_step : {own names : List ℕ} {s t : Stmt} {n m : ℕ} → OfStmt own s n m t names → AsStep own (step s) n m t names
of_step itself = this_step
of_step (below w) = below_step w

-- an outcome against `distinct`, whether no block of a part binds a name twice. Where it is accepted P holds of its value, and none does;
-- where it is refused under 7 one does, and Z holds of the place.
data Tells {A : Type 0} (P : A → Type 0) (Z : ℕ → Type 0) (distinct : Bool) : Out A → Type 0 where
  fine : {a : A} {L : List (Label ℕ)} → P a → distinct ≡ true → Tells P Z distinct (ok a L)
  twice : {q : ℕ} → Z q → distinct ≡ false → Tells P Z distinct (no 7 q)
  other : {p q : ℕ} → NotUnder 7 p → Tells P Z distinct (no p q)

module _ {A : Type 0} {P : A → Type 0} {Z : ℕ → Type 0} {d : Bool} where
  -- a premise that is not numbered 7
  asks : (b : Bool) (p q : ℕ) {o : Out A} → NotUnder 7 p → Tells P Z d o → Tells P Z d (needs b p q o)
  asks true p q h t = t
  asks false p q h t = other h

  -- a part without blocks
  plainly : {B : Type 0} {o : Out B} {k : B → List (Label ℕ) → Out A} → InRange (NotUnder 7) o → ((b : B) (L : List (Label ℕ)) → Tells P Z d (k b L)) → Tells P Z d (and_then o k)
  plainly ok_in f = f _ _
  plainly (no_in p h) f = other h

  -- a part with blocks, which tells of its own, c
  after : {B : Type 0} {Q : B → Type 0} {U : ℕ → Type 0} {c : Bool} {o : Out B} {k : B → List (Label ℕ) → Out A} → Tells Q U c o → ((q : ℕ) → U q → Z q)
      → ((b : B) (L : List (Label ℕ)) → Q b → Tells P Z d (k b L)) → Tells P Z (c && d) (and_then o k)
  after {k = k} (fine {a} {L} p e) u f = rw e (f a L p)
  after (twice v e) u f = twice (u _ v) (rw e refl)
  after (other h) u f = other h

  -- a var's premise: the own block has not bound the name, which is c
  new : (b c : Bool) (q : ℕ) {o : Out A} → b ≡ not c → (c ≡ true → Z q) → Tells P Z d o → Tells P Z (not c && d) (needs b 7 q o)
  new b true q e z t = rw e (twice (z refl) refl)
  new b false q e z t = rw e t

  -- the last part
  all_of : {o : Out A} → Tells P Z (d && true) o → Tells P Z d o
  all_of {o} t = subst (λ b. Tells P Z b o) (and-true d) t
    where
      and-true : (b : Bool) → (b && true) ≡ b
      and-true true = refl
      and-true false = refl

abbrev Any : {A : Type 0} → A → Type 0
Any a = Unit {0}

module _ (T : Tables) (C : Context ℕ) where
  vars_tell : {own : List ℕ} (vs : Vars) (n : ℕ) (Γ : Scope ℕ) → Owns own Γ → Tells (Owns (bound_by own vs)) (VarAt (AmongVars own vs n)) (distinct_vars own vs) (execute_vars T C vs n Γ)
  unfolding executing_vars distinct_vars bound_by
  vars_tell no_var n Γ h = fine h refl
  vars_tell {own} (next_var x a vs) n Γ h =
      plainly (expr_not 7 refl T C a (n + 1) Γ) λ t L.
      new (is_fresh x Γ) (is_among x own) n (h.fresh x) (λ e. var_at this_var e)
      (all_of (after (vars_tell vs (n + 1 + size a) (binds Γ x t n) (owns_binds h x t n)) (var_in (λ m u e w. later_var w)) λ Δ M o. fine o refl))

  module _ (rt : ℕ) where
    mutual
      unfolding executing distinct_stmt

      stmt_tells : {own : List ℕ} (last : Bool) (s : Stmt) (n : ℕ) (Γ : Scope ℕ) → Owns own Γ
          → Tells (λ d. Owns (bound_after own s) d.scope) (VarAt (OfStmt own s n)) (distinct_stmt own s) (execute T C rt last s n Γ)
      stmt_tells last (assign g a) n Γ h =
          asks (assigns_to C Γ g) 15 n (λ i. omega arith)
          (plainly (expr_not 7 refl T C (target_expr g) (n + 1) Γ) λ t L.
          plainly (expr_not 7 refl T C a (n + 1 + size_target g) Γ) λ u M.
          asks (is_below T C u t) 11 n (λ i. omega arith) (fine h refl))
      stmt_tells {own} last (var x a) n Γ h =
          plainly (expr_not 7 refl T C a (n + 1) Γ) λ t L.
          all_of (new (is_fresh x Γ) (is_among x own) n (h.fresh x) (λ e. var_at itself e) (fine (owns_binds h x t n) refl))
      stmt_tells last (return_value a) n Γ h =
          asks (not (is_kind T rt 3)) 13 n (λ i. omega arith)
          (plainly (expr_not 7 refl T C a (n + 1) Γ) λ t L.
          asks (is_below T C t rt) 11 n (λ i. omega arith) (fine h refl))
      stmt_tells last return_void n Γ h = asks (is_kind T rt 3) 13 n (λ i. omega arith) (fine h refl)
      stmt_tells last (call_stmt a es) n Γ h =
          plainly (expr_not 7 refl T C a (n + 1) Γ) λ f L.
          asks (is_kind T f 6) 10 n (λ i. omega arith)
          (asks (is_kind T (referred T f) 3) 13 n (λ i. omega arith)
          (asks (eqb (count es) (type_at T f).c) 12 n (λ i. omega arith)
          (plainly (exprs_not 7 refl T C es (n + 1 + size a) Γ) λ ts M.
          asks (arguments_below T C ts (type_at T f).b) 11 n (λ i. omega arith) (fine h refl))))
      stmt_tells last (if_else a b c) n Γ h =
          plainly (expr_not 7 refl T C a (n + 1) Γ) λ t L.
          asks (is_kind T t 1) 10 n (λ i. omega arith)
          (after (block_tells b (n + 1 + size a) (inner Γ) (owns_inner h)) (var_in (λ m u e w. below (of_then w))) λ p M i.
          all_of (after (block_tells c (n + 1 + size a + size_block b) (inner Γ) (owns_inner h)) (var_in (λ m u e w. below (of_else w))) λ q N j.
          fine h refl))
      stmt_tells last (if_null x t a b c) n Γ h =
          plainly (expr_not 7 refl T C a (n + 1) Γ) λ u L.
          asks (is_kind T u 7) 10 n (λ i. omega arith)
          (asks (is_below T C (referred T u) t) 11 n (λ i. omega arith)
          (after (block_tells b (n + 1 + size a) (inner (binds (inner Γ) x t n)) (owns_inner (owns_binds (owns_inner h) x t n))) (var_in (λ m u e w. below (of_some w))) λ p M i.
          all_of (after (block_tells c (n + 1 + size a + size_block b) (inner Γ) (owns_inner h)) (var_in (λ m u e w. below (of_null w))) λ q N j.
          fine h refl)))
      stmt_tells last (for vs c s b) n Γ h =
          after (vars_tell vs (n + 1) (inner Γ) (owns_inner h)) (var_in (λ m u e w. below (of_for_vars w))) λ Δ L o.
          plainly (condition_not 7 refl T C c (n + 1 + size_vars vs) n Δ) λ Δ₁ M.
          after (step_tells s (n + 1 + size_vars vs + size_condition c) Δ o) (var_in (λ m u e w. below (of_for_step w))) λ p N i.
          all_of (after (block_tells b (n + 1 + size_vars vs + size_condition c + size_step s) (inner Δ) (owns_inner o)) (var_in (λ m u e w. below (of_for_body w))) λ q O j.
          fine h refl)
      stmt_tells last (while a b) n Γ h =
          plainly (expr_not 7 refl T C a (n + 1) Γ) λ t L.
          asks (is_kind T t 1) 10 n (λ i. omega arith)
          (all_of (after (block_tells b (n + 1 + size a) (inner Γ) (owns_inner h)) (var_in (λ m u e w. below (of_while w))) λ p M i. fine h refl))

      step_tells : {own : List ℕ} (s : Step) (n : ℕ) (Γ : Scope ℕ) → Owns own Γ → Tells Any (VarAt (AsStep own s n)) (distinct_step own s) (execute_step T C rt s n Γ)
      step_tells no_step n Γ h = fine tt refl
      step_tells (step s) n Γ h =
          all_of (after (stmt_tells false s n Γ h) (var_in (λ m u e w. of_step w)) λ d L o. asks (eqb d.mark 0) 14 n (λ i. omega arith) (fine tt refl))

      block_tells : {own : List ℕ} (b : Block) (n : ℕ) (Γ : Scope ℕ) → Owns own Γ → Tells Any (VarAt (Within own b n)) (distinct_block own b) (execute_block T C rt b n Γ)
      block_tells (block ss) n Γ h = all_of (after (all_tell ss (n + 1) n 0 Γ h) (var_in (λ m u e w. of_block w)) λ p L i. fine tt refl)

      all_tell : {own : List ℕ} (ss : Stmts) (n previous p : ℕ) (Γ : Scope ℕ) → Owns own Γ
          → Tells Any (VarAt (AmongStmts own ss n)) (distinct_stmts own ss) (execute_all T C rt ss n previous p Γ)
      all_tell empty n previous p Γ h = fine tt refl
      all_tell (then s ss) n previous p Γ h =
          asks (eqb p 0) 14 previous (λ i. omega arith)
          (after (stmt_tells (is_empty ss) s n Γ h) (var_in (λ m u e w. of_stmts w)) λ d L o.
          all_of (after (all_tell ss (n + size_stmt s) n d.mark d.scope o) (var_in (λ m u e w. later_stmt w)) λ q M i. fine tt refl))

-- the scope of the parameters: they belong to the body's block
own_parameters : (T : Tables) (ps : List ℕ) (Γ : Scope ℕ) (first m x : ℕ) → is_fresh x (parameters (λ a. a) T Γ first m ps) ≡ pick (is_among x ps) false (is_fresh x Γ)
unfolding parameters is_among
own_parameters T [] Γ first m x = refl
own_parameters T (y ∷ ps) Γ first m x =
    own_parameters T ps (binds Γ y (entry_at T first) m) (suc first) (suc m) x
    ∙ ap (λ b. pick (is_among x ps) false b) (fresh_binds Γ y (entry_at T first) m x)
    ∙ either (eqb y x) (is_among x ps) (is_fresh x Γ)
  where
    either : (a b c : Bool) → pick b false (pick a false c) ≡ pick (pick a true b) false c
    either true true c = refl
    either true false c = refl
    either false b c = refl

deepest_parameters : (T : Tables) (ps : List ℕ) (Γ : Scope ℕ) (first m : ℕ) → Deepest Γ → Deepest (parameters (λ a. a) T Γ first m ps)
unfolding parameters
deepest_parameters T [] Γ first m d = d
deepest_parameters T (y ∷ ps) Γ first m d =
    deepest_parameters T ps (binds Γ y (entry_at T first) m) (suc first) (suc m) (deepest_binds Γ d y (entry_at T first) m)

owns_parameters : (T : Tables) (ps : List ℕ) (first m : ℕ) → Owns ps (parameters (λ a. a) T empty_scope first m ps)
unfolding is_fresh_at
owns_parameters T ps first m = record {
  fresh = λ x. own_parameters T ps empty_scope first m x ∙ is_not (is_among x ps);
  deepest = deepest_parameters T ps empty_scope first m deepest_empty;
}
  where
    is_not : (b : Bool) → pick b false true ≡ not b
    is_not true = refl
    is_not false = refl

-- an accepted body has no block that binds a name twice
abbrev distinct_of : CheckStep → Bool
distinct_of (struct_name i) = true
distinct_of (built_in i) = true
distinct_of (heading n x t) = true
distinct_of (global_value n x a) = true
distinct_of (struct_fields i) = true
distinct_of (body n t ps b) = distinct_body ps b

abbrev Distinct : CheckStep → Type 0
Distinct s = distinct_of s ≡ true

step_told : (T : Tables) (C : Context ℕ) (s : CheckStep) → StepTells 7 (λ E. Distinct s) (SevenAt s) (run_step T C s)
unfolding stepping SevenAt
step_told T C (struct_name i) = step-new (is_missing (lookup C.structs (struct_at T i).name)) i (λ e. refl) (step-fine refl)
step_told T C (built_in i) =
    step-asks (formed T C (built_in_at T i).type) 9 i (λ e. omega arith)
    (step-new (is_miss (find_name (built_in_at T i).name C.names)) i (λ e. refl) (step-fine refl))
step_told T C (heading n x t) =
    step-asks (formed T C t) 9 n (λ e. omega arith)
    (step-new (is_miss (find_name x C.names)) n (λ e. refl) (step-fine refl))
step_told T C (global_value n x a) =
    step-plainly (expr_not 7 refl T C a (n + 1) empty_scope) λ t L.
    step-new (is_miss (find_name x C.names)) n (λ e. refl) (step-fine refl)
step_told T C (struct_fields i) =
    step-asks (fields_formed C (struct_of T i).fields) 9 i (λ e. omega arith)
    (step-new (distinct_fields (struct_of T i).fields) i (λ e. refl) (step-fine refl))
step_told T C (body n t ps b) =
    go (distinct_names ps) refl
    (block_tells T C (referred T t) b (n + 1 + length ps) (parameters (λ a. a) T empty_scope (type_at T t).b (n + 1) ps) (owns_parameters T ps (type_at T t).b (n + 1)))
  where
    go : (d : Bool) → distinct_names ps ≡ d → {o : Out ℕ} → Tells Any (VarAt (Within ps b (n + 1 + length ps))) (distinct_block ps b) o
        → StepTells 7 (λ E. Distinct (body n t ps b)) (SevenAt (body n t ps b)) (needs d 7 n (and_then o λ p L. needs (eqb p 1) 14 n (ok C (replicate (1 + length ps) unlabelled ++ L))))
    go false e h = step-seven (inl (refl, e))
    go true e (fine {a} i f) = step-asks (eqb a 1) 14 n (λ z. omega arith) (step-fine (rw (e, f) refl))
    go true e (twice (var_at {x = x} {a = a} {names = names} w i) f) = step-seven (inr (record { name = x; value = a; names = names; stands = w; bound = i }))
    go true e (other h) = step_other h

-- the bodies are the last steps
rest_distinct : (rs : List CheckStep) {ss : List CheckStep} → AllFine Distinct (rs ++ ss) → AllFine Distinct ss
rest_distinct [] a = a
rest_distinct (r ∷ rs) (next_fine d a) = rest_distinct rs a

bodies_distinct : (n : ℕ) (ds : List Decl) → AllFine Distinct (bodies n ds) → distinct_decls ds ≡ true
unfolding bodies distinct_decls
bodies_distinct n [] a = refl
bodies_distinct n (global x e ∷ ds) a = bodies_distinct (n + size_decl (global x e)) ds a
bodies_distinct n (function x t ps b ∷ ds) (next_fine d a) = rw (d, bodies_distinct (n + size_decl (function x t ps b)) ds a) refl

module _ (p : Program) where
  pub distinct-accepted : (gs : List Segment) (k : ℕ) → run_of p ≡ accepted gs k → distinct_decls p.declarations ≡ true
  unfolding steps_of
  distinct-accepted gs k e =
      bodies_distinct 0 p.declarations
      (rest_distinct (tabulate (length p.tables.structs) struct_fields)
      (rest_distinct (globals 0 p.declarations)
      (rest_distinct (headings 0 p.declarations)
      (rest_distinct (tabulate (length p.tables.built_ins) built_in)
      (rest_distinct (tabulate (length p.tables.structs) struct_name) (all_fine 7 Distinct SevenAt p (step_told p.tables) e))))))

  pub seven_at : (j q : ℕ) → run_of p ≡ refused 7 j q → SevenAt (get_or (steps_of p) j (struct_name 0)) q
  seven_at j q e = told_at 7 Distinct SevenAt p (step_told p.tables) e
