-- The definition of the check on statements where every test passes: one equation for each shape. Assumes nothing.
use mathlib.Core.Path.{◌≡◌}
use mathlib.Core.Bool.{Bool, true, false}
use mathlib.Core.List.{List, [], ◌∷◌, ◌++◌}
use Prim.Native.Nat.{ℕ, ◌+◌}
use borrow.Author.Tests.{eq-eqb}
use Rattle.oat.specs.Tables.{Tables, type_at}
use Rattle.oat.specs.Syntax.{Expr, Exprs, count, Target, target_expr, Vars, next_var, Condition, condition, Stmt, assign, var, return_value, return_void, call_stmt, if_else, if_null, for, while, Step, step, Block, block, Stmts, then, size, size_target, size_vars, size_condition, size_step, size_block, size_stmt}
use Rattle.typing_rules.specs.Contexts.{Scope, binds, is_fresh, Context, inner}
use Rattle.typing_rules.specs.Labels.{Label}
use Rattle.typing_rules.specs.Rules.{both, while_mark}
use Rattle.typing_rules.specs.Derivations.{is_empty}
use Rattle.typing_rules.specs.Judge.{ok, marked_as, is_kind, referred, is_below, arguments_below, judge, judges, done, ends, assigns_to, execute_vars, judge_condition, execute, execute_step, execute_block, execute_all, executing, executing_vars, judging_condition}

module _ (T : Tables) (C : Context ℕ) where
  pub vars_ok : (x : ℕ) (a : Expr) (vs : Vars) (n : ℕ) (Γ : Scope ℕ) {t : ℕ} {L M : List (Label ℕ)} {Δ : Scope ℕ} → judge T C a (n + 1) Γ ≡ ok t L
      → is_fresh x Γ ≡ true → execute_vars T C vs (n + 1 + size a) (binds Γ x t n) ≡ ok Δ M
      → execute_vars T C (next_var x a vs) n Γ ≡ ok Δ (marked_as 0 Γ (binds Γ x t n) ∷ L ++ M)
  unfolding executing_vars
  vars_ok x a vs n Γ p q r = rw (p, q, r)

  pub condition_ok : (a : Expr) (m n : ℕ) (Γ : Scope ℕ) {t : ℕ} {L : List (Label ℕ)} → judge T C a m Γ ≡ ok t L → is_kind T t 1 ≡ true
      → judge_condition T C (condition a) m n Γ ≡ ok Γ L
  unfolding judging_condition
  condition_ok a m n Γ p q = rw (p, q)

module _ (T : Tables) (C : Context ℕ) (rt : ℕ) (last : Bool) where
  pub assign_ok : (g : Target) (a : Expr) (n : ℕ) (Γ : Scope ℕ) {t u : ℕ} {L M : List (Label ℕ)} → assigns_to C Γ g ≡ true
      → judge T C (target_expr g) (n + 1) Γ ≡ ok t L → judge T C a (n + 1 + size_target g) Γ ≡ ok u M → is_below T C u t ≡ true
      → execute T C rt last (assign g a) n Γ ≡ ends 0 Γ Γ (L ++ M)
  unfolding executing
  assign_ok g a n Γ p q r s = rw (p, q, r, s)

  pub var_ok : (x : ℕ) (a : Expr) (n : ℕ) (Γ : Scope ℕ) {t : ℕ} {L : List (Label ℕ)} → judge T C a (n + 1) Γ ≡ ok t L → is_fresh x Γ ≡ true
      → execute T C rt last (var x a) n Γ ≡ ends 0 Γ (binds Γ x t n) L
  unfolding executing
  var_ok x a n Γ p q = rw (p, q)

  pub return_ok : (a : Expr) (n : ℕ) (Γ : Scope ℕ) {t : ℕ} {L : List (Label ℕ)} → is_kind T rt 3 ≡ false → judge T C a (n + 1) Γ ≡ ok t L
      → is_below T C t rt ≡ true → execute T C rt last (return_value a) n Γ ≡ ends 1 Γ Γ L
  unfolding executing
  return_ok a n Γ p q r = rw (p, q, r)

  pub return_void_ok : (n : ℕ) (Γ : Scope ℕ) → is_kind T rt 3 ≡ true → execute T C rt last return_void n Γ ≡ ends 1 Γ Γ []
  unfolding executing
  return_void_ok n Γ p = rw p

  pub call_ok : (a : Expr) (es : Exprs) (n : ℕ) (Γ : Scope ℕ) {t : ℕ} {ts : List ℕ} {L M : List (Label ℕ)} → judge T C a (n + 1) Γ ≡ ok t L
      → is_kind T t 6 ≡ true → is_kind T (referred T t) 3 ≡ true → count es ≡ (type_at T t).c → judges T C es (n + 1 + size a) Γ ≡ ok ts M
      → arguments_below T C ts (type_at T t).b ≡ true → execute T C rt last (call_stmt a es) n Γ ≡ ends 0 Γ Γ (L ++ M)
  unfolding executing
  call_ok a es n Γ {t} p q r s u v = rw (p, q, r, eq-eqb (count es) (type_at T t).c s, u, v)

  pub if_ok : (a : Expr) (b c : Block) (n : ℕ) (Γ : Scope ℕ) {t p q : ℕ} {L M N : List (Label ℕ)} → judge T C a (n + 1) Γ ≡ ok t L
      → is_kind T t 1 ≡ true → execute_block T C rt b (n + 1 + size a) (inner Γ) ≡ ok p M → execute_block T C rt c (n + 1 + size a + size_block b) (inner Γ) ≡ ok q N
      → execute T C rt last (if_else a b c) n Γ ≡ ends (both p q) Γ Γ (L ++ (M ++ N))
  unfolding executing
  if_ok a b c n Γ h i j k = rw (h, i, j, k)

  pub if_null_ok : (x t : ℕ) (a : Expr) (b c : Block) (n : ℕ) (Γ : Scope ℕ) {u p q : ℕ} {L M N : List (Label ℕ)} → judge T C a (n + 1) Γ ≡ ok u L
      → is_kind T u 7 ≡ true → is_below T C (referred T u) t ≡ true → execute_block T C rt b (n + 1 + size a) (inner (binds (inner Γ) x t n)) ≡ ok p M
      → execute_block T C rt c (n + 1 + size a + size_block b) (inner Γ) ≡ ok q N
      → execute T C rt last (if_null x t a b c) n Γ ≡ ends (both p q) Γ Γ (L ++ (M ++ N))
  unfolding executing
  if_null_ok x t a b c n Γ h i j k l = rw (h, i, j, k, l)

  pub for_ok : (vs : Vars) (c : Condition) (s : Step) (b : Block) (n : ℕ) (Γ : Scope ℕ) {Δ Δ₁ : Scope ℕ} {p q : ℕ} {L M N O : List (Label ℕ)}
      → execute_vars T C vs (n + 1) (inner Γ) ≡ ok Δ L → judge_condition T C c (n + 1 + size_vars vs) n Δ ≡ ok Δ₁ M
      → execute_step T C rt s (n + 1 + size_vars vs + size_condition c) Δ ≡ ok p N
      → execute_block T C rt b (n + 1 + size_vars vs + size_condition c + size_step s) (inner Δ) ≡ ok q O
      → execute T C rt last (for vs c s b) n Γ ≡ ends 0 Γ Γ (L ++ (M ++ (N ++ O)))
  unfolding executing
  for_ok vs c s b n Γ h i j k = rw (h, i, j, k)

  pub while_ok : (a : Expr) (b : Block) (n : ℕ) (Γ : Scope ℕ) {t p : ℕ} {L M : List (Label ℕ)} → judge T C a (n + 1) Γ ≡ ok t L
      → is_kind T t 1 ≡ true → execute_block T C rt b (n + 1 + size a) (inner Γ) ≡ ok p M → execute T C rt last (while a b) n Γ ≡ ends (while_mark last a) Γ Γ (L ++ M)
  unfolding executing
  while_ok a b n Γ h i j = rw (h, i, j)

module _ (T : Tables) (C : Context ℕ) (rt : ℕ) where
  pub step_ok : (s : Stmt) (n : ℕ) (Γ Δ : Scope ℕ) {p : ℕ} {L : List (Label ℕ)} → execute T C rt false s n Γ ≡ ok (done p Δ) L → p ≡ 0
      → execute_step T C rt (step s) n Γ ≡ ok 0 L
  unfolding executing
  step_ok s n Γ Δ {p} h z = rw (h, eq-eqb p 0 z)

  pub block_ok : (ss : Stmts) (n : ℕ) (Γ : Scope ℕ) {p : ℕ} {L : List (Label ℕ)} → execute_all T C rt ss (n + 1) n 0 Γ ≡ ok p L
      → execute_block T C rt (block ss) n Γ ≡ ok p (marked_as p Γ Γ ∷ L)
  unfolding executing
  block_ok ss n Γ h = rw h

  pub then_ok : (s : Stmt) (ss : Stmts) (n previous p : ℕ) (Γ : Scope ℕ) {r q : ℕ} {Δ : Scope ℕ} {L M : List (Label ℕ)} → p ≡ 0
      → execute T C rt (is_empty ss) s n Γ ≡ ok (done r Δ) L → execute_all T C rt ss (n + size_stmt s) n r Δ ≡ ok q M
      → execute_all T C rt (then s ss) n previous p Γ ≡ ok q (L ++ M)
  unfolding executing
  then_ok s ss n previous p Γ z h i = rw (eq-eqb p 0 z, h, i)
