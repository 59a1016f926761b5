-- The labels of accepted statements, blocks and lists of statements: one for each node, the last of which gives something, and the first
-- of which has a mark, which is 0 or 1. A statement by the kind of its node; and the nodes it takes up, which are all in the section.
-- Assumes nothing.
use mathlib.Core.Path.{◌≡◌, refl, sym, ◌∙◌, subst}
use mathlib.Core.Bool.{Bool, true, false, not}
use mathlib.Core.List.{List, ◌∷◌, ◌++◌}
use Prim.Native.Nat.{ℕ, ◌+◌, ◌≤◌, ◌<◌}
use native.Mathlib.Omega.{arith}
use lib.ListN.{length, length-append}
use lib.Dec.{eqb}
use Rattle.oat.specs.Basics.{pick}
use Rattle.oat.specs.Tables.{Tables, type_at, node_at}
use Rattle.oat.specs.Syntax.{Expr, Exprs, count, Target, target_expr, Vars, no_var, next_var, Condition, no_condition, condition, Stmt, assign, var, return_value, return_void, call_stmt, if_else, if_null, for, while, Step, no_step, step, Block, block, Stmts, empty, then, size, size_target, size_vars, size_condition, size_step, size_block, size_stmt, size_stmts}
use Rattle.oat.specs.Nodes.{VarsStand, ConditionStands, StmtStands, StepStands, BlockStands, StmtsStand}
use Rattle.typing_rules.specs.Contexts.{Scope, binds, inner, is_fresh, Context}
use Rattle.typing_rules.specs.Labels.{Result, marks, nothing, Label}
use Rattle.typing_rules.specs.Rules.{both}
use Rattle.typing_rules.specs.Derivations.{is_empty}
use Rattle.typing_rules.specs.Judge.{ok, marked_as, is_kind, referred, is_below, arguments_below, judge, judges, Done, assigns_to, execute_vars, judge_condition, execute, execute_step, execute_block, execute_all, executing, executing_vars, judging_condition}
use Rattle.typing_rules.specs.Check.{next_result}
use Rattle.typing_rules.proofs.Endless.{while_most}
use Rattle.typing_rules.proofs.LawsOutcome.{ok_is, then_ok, needs_ok}
use Rattle.expressions.proofs.LawsLabels.{last_result, last_append, Closed, closed_append, closed_marked, Run, run_none, run_append, expr_run, list_run}
use Rattle.expressions.proofs.LawsShape.{stands_within, stands_end, list_end}

-- there are labels, and the last gives something
record Ended (L : List (Label ℕ)) : Type 0 where
  ends_so : (d : Result ℕ) → last_result d L ≡ nothing → ⊥

ended_closed : {L : List (Label ℕ)} → Ended L → Closed L
ended_closed e = record { last = λ z. e.ends_so (marks 0) z }

ended_after : (L : List (Label ℕ)) {M : List (Label ℕ)} → Ended M → Ended (L ++ M)
ended_after L {M} e = record { ends_so = λ d z. e.ends_so (last_result d L) (sym (last_append d L M) ∙ z) }

ended_label : (l : Label ℕ) (L : List (Label ℕ)) → Closed (l ∷ L) → Ended (l ∷ L)
unfolding last_result
ended_label l L c = record { ends_so = λ d z. c.last z }

-- a statement's or block's k labels, with the mark p
data Marked (k : ℕ) : ℕ → List (Label ℕ) → Type 0 where
  marked : {j p : ℕ} {Γ Δ : Scope ℕ} {L : List (Label ℕ)} → k ≡ 1 + j → p ≤ 1 → Run j L → Marked k p (marked_as p Γ Δ ∷ L)

abbrev DoneMarked : ℕ → Done → List (Label ℕ) → Type 0
DoneMarked k d L = Marked k d.mark L

run_marked : {k p : ℕ} {L : List (Label ℕ)} → Marked k p L → Run k L
run_marked (marked e h r) = record { long = omega arith; closed = closed_marked r.closed }

mark_marked : {k p : ℕ} {L : List (Label ℕ)} → Marked k p L → p ≤ 1
mark_marked (marked e h r) = h

head_marked : {k p : ℕ} {L : List (Label ℕ)} → Marked k p L → (M : List (Label ℕ)) → next_result (L ++ M) ≡ 0
head_marked (marked e h r) M = refl

ended_marked : {k p : ℕ} {L : List (Label ℕ)} → Marked k p L → Ended L
ended_marked (marked e h r) = ended_label _ _ (closed_marked r.closed)

picked_mark : (b : Bool) (q : ℕ) → q ≤ 1 → pick b 0 q ≤ 1
picked_mark true q h = omega arith
picked_mark false q h = h

both_marks : (p q : ℕ) → q ≤ 1 → both p q ≤ 1
both_marks p q h = picked_mark (eqb p 0) q h

-- the step of a for
record Stepping (k : ℕ) (L : List (Label ℕ)) : Type 0 where
  long : length L ≡ k
  head : (M : List (Label ℕ)) → next_result (L ++ M) ≡ 0

-- statements after one with the mark p, the last with the mark q
record Following (k p q : ℕ) (L : List (Label ℕ)) : Type 0 where
  run : Run k L
  mark : p ≤ 1 → q ≤ 1

-- a var of a for, before others
run_var : {j k m : ℕ} {Γ Δ : Scope ℕ} {L M : List (Label ℕ)} → m ≡ 1 + j + k → Run j L → Run k M → Run m (marked_as 0 Γ Δ ∷ L ++ M)
run_var {L = L} {M = M} w r s = record {
  long = simp length-append (omega arith);
  closed = closed_marked (closed_append r.closed s.closed);
}

-- a test and two blocks
if_marked : {i j k p q : ℕ} {Γ Δ : Scope ℕ} {L M N : List (Label ℕ)} → Run i L → Marked j p M → Marked k q N
    → Marked (1 + i + j + k) (both p q) (marked_as (both p q) Γ Δ ∷ L ++ (M ++ N))
if_marked {i = i} {j = j} {k = k} {p = p} {q = q} r b c =
    marked {j = i + (j + k)} (omega arith) (both_marks p q (mark_marked c)) (run_append r (run_append (run_marked b) (run_marked c)))

stepping : {k p : ℕ} {L : List (Label ℕ)} → Marked k p L → Stepping k L
stepping m = record { long = (run_marked m).long; head = λ M. head_marked m M }

following : {j k p q r : ℕ} {L M : List (Label ℕ)} → Marked j q L → Following k q r M → Following (j + k) p r (L ++ M)
following m f = record { run = run_append (run_marked m) f.run; mark = λ h. f.mark (mark_marked m) }

block_marked : {k q : ℕ} {Γ Δ : Scope ℕ} {L : List (Label ℕ)} → Following k 0 q L → Marked (1 + k) q (marked_as q Γ Δ ∷ L)
block_marked f = marked refl (f.mark (omega arith)) f.run

-- vars, a condition, a step and a block
for_run : {i j k m p : ℕ} {L N O : List (Label ℕ)} → Run i L → (M : List (Label ℕ)) → length M ≡ j → Stepping k N → Marked m p O
    → Run (i + (j + (k + m))) (L ++ (M ++ (N ++ O)))
for_run {L = L} {N = N} {O = O} l M m n o =
    let r = run_marked o in
    record {
      long = simp length-append (omega (arith, l.long, m, n.long, r.long));
      closed = ended_closed (ended_after L (ended_after M (ended_after N (ended_marked o))));
    }

module _ (T : Tables) (C : Context ℕ) where
  vars_labels : (vs : Vars) (n : ℕ) (Γ Δ : Scope ℕ) (L : List (Label ℕ)) → execute_vars T C vs n Γ ≡ ok Δ L → Run (size_vars vs) L
  unfolding executing_vars
  vars_labels no_var n Γ Δ L j = ok_is (λ Δ L. Run 0 L) j run_none
  vars_labels (next_var x a vs) n Γ Δ L j =
      then_ok (judge T C a (n + 1) Γ) _ j λ t M i k1.
      needs_ok (is_fresh x Γ) _ _ _ k1 λ q k2.
      then_ok (execute_vars T C vs (n + 1 + size a) (binds Γ x t n)) _ k2 λ E N i1 k3.
      ok_is (λ Δ L. Run (size_vars (next_var x a vs)) L) k3
      (run_var refl (expr_run T C a (n + 1) Γ t M i) (vars_labels vs (n + 1 + size a) (binds Γ x t n) E N i1))

  pub vars_long : (vs : Vars) (n : ℕ) (Γ Δ : Scope ℕ) (L : List (Label ℕ)) → execute_vars T C vs n Γ ≡ ok Δ L → length L ≡ size_vars vs
  vars_long vs n Γ Δ L j = (vars_labels vs n Γ Δ L j).long

  pub vars_closed : (vs : Vars) (n : ℕ) (Γ Δ : Scope ℕ) (L : List (Label ℕ)) → execute_vars T C vs n Γ ≡ ok Δ L → Closed L
  vars_closed vs n Γ Δ L j = (vars_labels vs n Γ Δ L j).closed

  pub condition_long : (c : Condition) (m n : ℕ) (Γ Δ : Scope ℕ) (L : List (Label ℕ)) → judge_condition T C c m n Γ ≡ ok Δ L
      → length L ≡ size_condition c
  unfolding judging_condition
  condition_long no_condition m n Γ Δ L j = ok_is (λ Δ L. length L ≡ 1) j refl
  condition_long (condition a) m n Γ Δ L j =
      then_ok (judge T C a m Γ) _ j λ t M i k1.
      needs_ok (is_kind T t 1) _ _ _ k1 λ q k2.
      ok_is (λ Δ L. length L ≡ size a) k2 (expr_run T C a m Γ t M i).long

  module _ (rt : ℕ) where
    mutual
      unfolding executing

      stmt_labels : (last : Bool) (s : Stmt) (n : ℕ) (Γ : Scope ℕ) (d : Done) (L : List (Label ℕ)) → execute T C rt last s n Γ ≡ ok d L → DoneMarked (size_stmt s) d L
      stmt_labels last (assign g a) n Γ d L j =
          needs_ok (assigns_to C Γ g) _ _ _ j λ q k.
          then_ok (judge T C (target_expr g) (n + 1) Γ) _ k λ u M i k1.
          then_ok (judge T C a (n + 1 + size_target g) Γ) _ k1 λ v N i1 k2.
          needs_ok (is_below T C v u) _ _ _ k2 λ q1 k3.
          ok_is (DoneMarked (size_stmt (assign g a))) k3
          (marked (omega arith) (omega arith)
          (run_append (expr_run T C (target_expr g) (n + 1) Γ u M i) (expr_run T C a (n + 1 + size_target g) Γ v N i1)))
      stmt_labels last (var x a) n Γ d L j =
          then_ok (judge T C a (n + 1) Γ) _ j λ u M i k1.
          needs_ok (is_fresh x Γ) _ _ _ k1 λ q k2.
          ok_is (DoneMarked (size_stmt (var x a))) k2 (marked refl (omega arith) (expr_run T C a (n + 1) Γ u M i))
      stmt_labels last (return_value a) n Γ d L j =
          needs_ok (not (is_kind T rt 3)) _ _ _ j λ q k.
          then_ok (judge T C a (n + 1) Γ) _ k λ u M i k1.
          needs_ok (is_below T C u rt) _ _ _ k1 λ q1 k2.
          ok_is (DoneMarked (size_stmt (return_value a))) k2 (marked refl (omega arith) (expr_run T C a (n + 1) Γ u M i))
      stmt_labels last return_void n Γ d L j =
          needs_ok (is_kind T rt 3) _ _ _ j λ q k.
          ok_is (DoneMarked 1) k (marked refl (omega arith) run_none)
      stmt_labels last (call_stmt a es) n Γ d L j =
          then_ok (judge T C a (n + 1) Γ) _ j λ u M i k1.
          needs_ok (is_kind T u 6) _ _ _ k1 λ q1 k2.
          needs_ok (is_kind T (referred T u) 3) _ _ _ k2 λ q2 k3.
          needs_ok (eqb (count es) (type_at T u).c) _ _ _ k3 λ q3 k4.
          then_ok (judges T C es (n + 1 + size a) Γ) _ k4 λ ts N i1 k5.
          needs_ok (arguments_below T C ts (type_at T u).b) _ _ _ k5 λ q4 k6.
          ok_is (DoneMarked (size_stmt (call_stmt a es))) k6
          (marked (omega arith) (omega arith)
          (run_append (expr_run T C a (n + 1) Γ u M i) (list_run T C es (n + 1 + size a) Γ ts N i1)))
      stmt_labels last (if_else a b c) n Γ d L j =
          then_ok (judge T C a (n + 1) Γ) _ j λ u M i k1.
          needs_ok (is_kind T u 1) _ _ _ k1 λ q1 k2.
          then_ok (execute_block T C rt b (n + 1 + size a) (inner Γ)) _ k2 λ p N i1 k3.
          then_ok (execute_block T C rt c (n + 1 + size a + size_block b) (inner Γ)) _ k3 λ r O i2 k4.
          ok_is (DoneMarked (size_stmt (if_else a b c))) k4
          (if_marked (expr_run T C a (n + 1) Γ u M i)
          (block_labels b (n + 1 + size a) (inner Γ) p N i1) (block_labels c (n + 1 + size a + size_block b) (inner Γ) r O i2))
      stmt_labels last (if_null x t a b c) n Γ d L j =
          then_ok (judge T C a (n + 1) Γ) _ j λ u M i k1.
          needs_ok (is_kind T u 7) _ _ _ k1 λ q1 k2.
          needs_ok (is_below T C (referred T u) t) _ _ _ k2 λ q2 k3.
          then_ok (execute_block T C rt b (n + 1 + size a) (inner (binds (inner Γ) x t n))) _ k3 λ p N i1 k4.
          then_ok (execute_block T C rt c (n + 1 + size a + size_block b) (inner Γ)) _ k4 λ r O i2 k5.
          ok_is (DoneMarked (size_stmt (if_null x t a b c))) k5
          (if_marked (expr_run T C a (n + 1) Γ u M i)
          (block_labels b (n + 1 + size a) (inner (binds (inner Γ) x t n)) p N i1) (block_labels c (n + 1 + size a + size_block b) (inner Γ) r O i2))
      stmt_labels last (for vs c s b) n Γ d L j =
          then_ok (execute_vars T C vs (n + 1) (inner Γ)) _ j λ Δ M i k1.
          then_ok (judge_condition T C c (n + 1 + size_vars vs) n Δ) _ k1 λ E N i1 k2.
          then_ok (execute_step T C rt s (n + 1 + size_vars vs + size_condition c) Δ) _ k2 λ p O i2 k3.
          then_ok (execute_block T C rt b (n + 1 + size_vars vs + size_condition c + size_step s) (inner Δ)) _ k3 λ r P i3 k4.
          ok_is (DoneMarked (size_stmt (for vs c s b))) k4
          (marked (omega arith) (omega arith)
          (for_run (vars_labels vs (n + 1) (inner Γ) Δ M i) N (condition_long c (n + 1 + size_vars vs) n Δ E N i1)
          (step_labels s (n + 1 + size_vars vs + size_condition c) Δ p O i2)
          (block_labels b (n + 1 + size_vars vs + size_condition c + size_step s) (inner Δ) r P i3)))
      stmt_labels last (while a b) n Γ d L j =
          then_ok (judge T C a (n + 1) Γ) _ j λ u M i k1.
          needs_ok (is_kind T u 1) _ _ _ k1 λ q1 k2.
          then_ok (execute_block T C rt b (n + 1 + size a) (inner Γ)) _ k2 λ p N i1 k3.
          ok_is (DoneMarked (size_stmt (while a b))) k3
          (marked (omega arith) (while_most last a)
          (run_append (expr_run T C a (n + 1) Γ u M i) (run_marked (block_labels b (n + 1 + size a) (inner Γ) p N i1))))

      step_labels : (s : Step) (n : ℕ) (Γ : Scope ℕ) (p : ℕ) (L : List (Label ℕ)) → execute_step T C rt s n Γ ≡ ok p L → Stepping (size_step s) L
      step_labels no_step n Γ p L j = ok_is (λ p L. Stepping 1 L) j (record { long = refl; head = λ M. refl })
      step_labels (step s) n Γ p L j =
          then_ok (execute T C rt false s n Γ) _ j λ d M i k.
          needs_ok (eqb d.mark 0) _ _ _ k λ q k1.
          ok_is (λ p L. Stepping (size_stmt s) L) k1 (stepping (stmt_labels false s n Γ d M i))

      block_labels : (b : Block) (n : ℕ) (Γ : Scope ℕ) (p : ℕ) (L : List (Label ℕ)) → execute_block T C rt b n Γ ≡ ok p L → Marked (size_block b) p L
      block_labels (block ss) n Γ p L j =
          then_ok (execute_all T C rt ss (n + 1) n 0 Γ) _ j λ r M i k.
          ok_is (Marked (size_block (block ss))) k (block_marked (all_labels ss (n + 1) n 0 Γ r M i))

      all_labels : (ss : Stmts) (n previous p : ℕ) (Γ : Scope ℕ) (q : ℕ) (L : List (Label ℕ)) → execute_all T C rt ss n previous p Γ ≡ ok q L
          → Following (size_stmts ss) p q L
      all_labels empty n previous p Γ q L j = ok_is (λ q L. Following 0 p q L) j (record { run = run_none; mark = λ h. h })
      all_labels (then s ss) n previous p Γ q L j =
          needs_ok (eqb p 0) _ _ _ j λ z k.
          then_ok (execute T C rt (is_empty ss) s n Γ) _ k λ d M i k1.
          then_ok (execute_all T C rt ss (n + size_stmt s) n d.mark d.scope) _ k1 λ u N i1 k2.
          ok_is (λ q L. Following (size_stmts (then s ss)) p q L) k2
          (following (stmt_labels (is_empty ss) s n Γ d M i) (all_labels ss (n + size_stmt s) n d.mark d.scope u N i1))

    -- a statement
    pub stmt_long : (last : Bool) (s : Stmt) (n : ℕ) (Γ : Scope ℕ) (d : Done) (L : List (Label ℕ)) → execute T C rt last s n Γ ≡ ok d L → length L ≡ size_stmt s
    stmt_long last s n Γ d L j = (run_marked (stmt_labels last s n Γ d L j)).long

    pub stmt_closed : (last : Bool) (s : Stmt) (n : ℕ) (Γ : Scope ℕ) (d : Done) (L : List (Label ℕ)) → execute T C rt last s n Γ ≡ ok d L → Closed L
    stmt_closed last s n Γ d L j = (run_marked (stmt_labels last s n Γ d L j)).closed

    pub stmt_mark : (last : Bool) (s : Stmt) (n : ℕ) (Γ : Scope ℕ) (d : Done) (L : List (Label ℕ)) → execute T C rt last s n Γ ≡ ok d L → d.mark ≤ 1
    stmt_mark last s n Γ d L j = mark_marked (stmt_labels last s n Γ d L j)

    -- the step of a for
    pub step_long : (s : Step) (n : ℕ) (Γ : Scope ℕ) (p : ℕ) (L : List (Label ℕ)) → execute_step T C rt s n Γ ≡ ok p L → length L ≡ size_step s
    step_long s n Γ p L j = (step_labels s n Γ p L j).long

    pub step_head : (s : Step) (n : ℕ) (Γ : Scope ℕ) (p : ℕ) (L : List (Label ℕ)) → execute_step T C rt s n Γ ≡ ok p L
        → (M : List (Label ℕ)) → next_result (L ++ M) ≡ 0
    step_head s n Γ p L j M = (step_labels s n Γ p L j).head M

    -- a block
    pub block_long : (b : Block) (n : ℕ) (Γ : Scope ℕ) (p : ℕ) (L : List (Label ℕ)) → execute_block T C rt b n Γ ≡ ok p L → length L ≡ size_block b
    block_long b n Γ p L j = (run_marked (block_labels b n Γ p L j)).long

    pub block_closed : (b : Block) (n : ℕ) (Γ : Scope ℕ) (p : ℕ) (L : List (Label ℕ)) → execute_block T C rt b n Γ ≡ ok p L → Closed L
    block_closed b n Γ p L j = (run_marked (block_labels b n Γ p L j)).closed

    pub block_mark : (b : Block) (n : ℕ) (Γ : Scope ℕ) (p : ℕ) (L : List (Label ℕ)) → execute_block T C rt b n Γ ≡ ok p L → p ≤ 1
    block_mark b n Γ p L j = mark_marked (block_labels b n Γ p L j)

    pub block_head : (b : Block) (n : ℕ) (Γ : Scope ℕ) (p : ℕ) (L : List (Label ℕ)) → execute_block T C rt b n Γ ≡ ok p L
        → (M : List (Label ℕ)) → next_result (L ++ M) ≡ 0
    block_head b n Γ p L j M = head_marked (block_labels b n Γ p L j) M

    pub all_mark : (ss : Stmts) (n previous p : ℕ) (Γ : Scope ℕ) (q : ℕ) (L : List (Label ℕ)) → execute_all T C rt ss n previous p Γ ≡ ok q L → p ≤ 1 → q ≤ 1
    all_mark ss n previous p Γ q L j h = (all_labels ss n previous p Γ q L j).mark h

-- the kind of a statement
abbrev kind_of : Stmt → ℕ
kind_of (assign g a) = 30
kind_of (var x a) = 31
kind_of (return_value a) = 32
kind_of return_void = 33
kind_of (call_stmt a es) = 34
kind_of (if_else a b c) = 35
kind_of (if_null x t a b c) = 36
kind_of (for vs q s b) = 37
kind_of (while a b) = 38

-- what a statement of the kind k is
abbrev Is : ℕ → Stmt → Type 0
Is k z =
    pick (eqb k 30) ((g : Target) × (a : Expr) × (z ≡ assign g a))
    (pick (eqb k 31) ((x : ℕ) × (a : Expr) × (z ≡ var x a))
    (pick (eqb k 32) ((a : Expr) × (z ≡ return_value a))
    (pick (eqb k 33) (z ≡ return_void)
    (pick (eqb k 34) ((a : Expr) × (es : Exprs) × (z ≡ call_stmt a es))
    (pick (eqb k 35) ((a : Expr) × (b c : Block) × (z ≡ if_else a b c))
    (pick (eqb k 36) ((x t : ℕ) × (a : Expr) × (b c : Block) × (z ≡ if_null x t a b c))
    (pick (eqb k 37) ((vs : Vars) × (q : Condition) × (s : Step) × (b : Block) × (z ≡ for vs q s b))
    ((a : Expr) × (b : Block) × (z ≡ while a b)))))))))

view : (z : Stmt) → Is (kind_of z) z
view (assign g a) = (g, a, refl)
view (var x a) = (x, a, refl)
view (return_value a) = (a, refl)
view return_void = refl
view (call_stmt a es) = (a, es, refl)
view (if_else a b c) = (a, b, c, refl)
view (if_null x t a b c) = (x, t, a, b, c, refl)
view (for vs q s b) = (vs, q, s, b, refl)
view (while a b) = (a, b, refl)

kind_stands : (T : Tables) (n : ℕ) (z : Stmt) → StmtStands T n z → (node_at T n).kind ≡ kind_of z
kind_stands T n (assign g a) h = h.0.kind_is
kind_stands T n (var x a) h = h.0.kind_is
kind_stands T n (return_value a) h = h.0.kind_is
kind_stands T n return_void h = h.kind_is
kind_stands T n (call_stmt a es) h = h.0.kind_is
kind_stands T n (if_else a b c) h = h.0.kind_is
kind_stands T n (if_null x t a b c) h = h.0.kind_is
kind_stands T n (for vs q s b) h = h.0.kind_is
kind_stands T n (while a b) h = h.0.kind_is

-- the statement at a node whose kind is read
seen : (T : Tables) (n k : ℕ) (z : Stmt) → StmtStands T n z → (node_at T n).kind ≡ k → Is k z
seen T n k z h f = subst (λ (j : ℕ). Is j z) (sym (kind_stands T n z h) ∙ f) (view z)

module _ {T : Tables} {n : ℕ} where
  pub on_assign : (P : Stmt → Type 0) → ((g : Target) (a : Expr) → StmtStands T n (assign g a) → P (assign g a))
      → (node_at T n).kind ≡ 30 → (z : Stmt) → StmtStands T n z → P z
  on_assign P f k z h =
      let (g, a, v) = seen T n 30 z h k in
      subst P (sym v) (f g a (subst (StmtStands T n) v h))

  pub on_var : (P : Stmt → Type 0) → ((x : ℕ) (a : Expr) → StmtStands T n (var x a) → P (var x a))
      → (node_at T n).kind ≡ 31 → (z : Stmt) → StmtStands T n z → P z
  on_var P f k z h =
      let (x, a, v) = seen T n 31 z h k in
      subst P (sym v) (f x a (subst (StmtStands T n) v h))

  pub on_return_value : (P : Stmt → Type 0) → ((a : Expr) → StmtStands T n (return_value a) → P (return_value a))
      → (node_at T n).kind ≡ 32 → (z : Stmt) → StmtStands T n z → P z
  on_return_value P f k z h =
      let (a, v) = seen T n 32 z h k in
      subst P (sym v) (f a (subst (StmtStands T n) v h))

  pub on_return_void : (P : Stmt → Type 0) → (StmtStands T n return_void → P return_void)
      → (node_at T n).kind ≡ 33 → (z : Stmt) → StmtStands T n z → P z
  on_return_void P f k z h =
      let v = seen T n 33 z h k in
      subst P (sym v) (f (subst (StmtStands T n) v h))

  pub on_call_stmt : (P : Stmt → Type 0) → ((a : Expr) (es : Exprs) → StmtStands T n (call_stmt a es) → P (call_stmt a es))
      → (node_at T n).kind ≡ 34 → (z : Stmt) → StmtStands T n z → P z
  on_call_stmt P f k z h =
      let (a, es, v) = seen T n 34 z h k in
      subst P (sym v) (f a es (subst (StmtStands T n) v h))

  pub on_if : (P : Stmt → Type 0) → ((a : Expr) (b c : Block) → StmtStands T n (if_else a b c) → P (if_else a b c))
      → (node_at T n).kind ≡ 35 → (z : Stmt) → StmtStands T n z → P z
  on_if P f k z h =
      let (a, b, c, v) = seen T n 35 z h k in
      subst P (sym v) (f a b c (subst (StmtStands T n) v h))

  pub on_if_null : (P : Stmt → Type 0) → ((x t : ℕ) (a : Expr) (b c : Block) → StmtStands T n (if_null x t a b c) → P (if_null x t a b c))
      → (node_at T n).kind ≡ 36 → (z : Stmt) → StmtStands T n z → P z
  on_if_null P f k z h =
      let (x, t, a, b, c, v) = seen T n 36 z h k in
      subst P (sym v) (f x t a b c (subst (StmtStands T n) v h))

  pub on_for : (P : Stmt → Type 0) → ((vs : Vars) (q : Condition) (s : Step) (b : Block) → StmtStands T n (for vs q s b) → P (for vs q s b))
      → (node_at T n).kind ≡ 37 → (z : Stmt) → StmtStands T n z → P z
  on_for P f k z h =
      let (vs, q, s, b, v) = seen T n 37 z h k in
      subst P (sym v) (f vs q s b (subst (StmtStands T n) v h))

  pub on_while : (P : Stmt → Type 0) → ((a : Expr) (b : Block) → StmtStands T n (while a b) → P (while a b))
      → (node_at T n).kind ≡ 38 → (z : Stmt) → StmtStands T n z → P z
  on_while P f k z h =
      let (a, b, v) = seen T n 38 z h k in
      subst P (sym v) (f a b (subst (StmtStands T n) v h))

-- the kinds of statements
kind_bounds : (z : Stmt) → (30 ≤ kind_of z) × (kind_of z ≤ 38)
kind_bounds (assign g a) = (omega arith, omega arith)
kind_bounds (var x a) = (omega arith, omega arith)
kind_bounds (return_value a) = (omega arith, omega arith)
kind_bounds return_void = (omega arith, omega arith)
kind_bounds (call_stmt a es) = (omega arith, omega arith)
kind_bounds (if_else a b c) = (omega arith, omega arith)
kind_bounds (if_null x t a b c) = (omega arith, omega arith)
kind_bounds (for vs q s b) = (omega arith, omega arith)
kind_bounds (while a b) = (omega arith, omega arith)

pub stmt_kind : (T : Tables) (n : ℕ) (z : Stmt) → StmtStands T n z → (30 ≤ (node_at T n).kind) × ((node_at T n).kind ≤ 38)
stmt_kind T n z h = rw (kind_stands T n z h) (kind_bounds z)

-- sizes
pub size_stmt_one : (z : Stmt) → 1 ≤ size_stmt z
size_stmt_one (assign g a) = omega arith
size_stmt_one (var x a) = omega arith
size_stmt_one (return_value a) = omega arith
size_stmt_one return_void = omega arith
size_stmt_one (call_stmt a es) = omega arith
size_stmt_one (if_else a b c) = omega arith
size_stmt_one (if_null x t a b c) = omega arith
size_stmt_one (for vs q s b) = omega arith
size_stmt_one (while a b) = omega arith

pub size_block_one : (b : Block) → 1 ≤ size_block b
size_block_one (block ss) = omega arith

pub size_step_one : (s : Step) → 1 ≤ size_step s
size_step_one no_step = omega arith
size_step_one (step s) = size_stmt_one s

module _ (T : Tables) where
  pub stmt_within : (n : ℕ) (z : Stmt) → StmtStands T n z → n < length T.nodes
  stmt_within n (assign g a) h = h.0.within
  stmt_within n (var x a) h = h.0.within
  stmt_within n (return_value a) h = h.0.within
  stmt_within n return_void h = h.within
  stmt_within n (call_stmt a es) h = h.0.within
  stmt_within n (if_else a b c) h = h.0.within
  stmt_within n (if_null x t a b c) h = h.0.within
  stmt_within n (for vs q s b) h = h.0.within
  stmt_within n (while a b) h = h.0.within

  pub block_within : (n : ℕ) (b : Block) → BlockStands T n b → n < length T.nodes
  block_within n (block ss) h = h.0.within

  pub condition_within : (n : ℕ) (c : Condition) → ConditionStands T n c → n < length T.nodes
  condition_within n no_condition h = h.within
  condition_within n (condition a) h = stands_within T n a h

  pub step_within : (n : ℕ) (s : Step) → StepStands T n s → n < length T.nodes
  step_within n no_step h = h.within
  step_within n (step s) h = stmt_within n s h

  -- the nodes of a tree are all in the section
  pub vars_end : (n : ℕ) (vs : Vars) → VarsStand T n vs → n ≤ length T.nodes → n + size_vars vs ≤ length T.nodes
  vars_end n no_var h k = omega arith
  vars_end n (next_var x a vs) h k = omega (arith, vars_end (n + 1 + size a) vs h.2 (stands_end T (n + 1) a h.1))

  mutual
    pub stmt_end : (n : ℕ) (z : Stmt) → StmtStands T n z → n + size_stmt z ≤ length T.nodes
    stmt_end n (assign g a) h = omega (arith, stands_end T (n + 1 + size_target g) a h.2)
    stmt_end n (var x a) h = omega (arith, stands_end T (n + 1) a h.1)
    stmt_end n (return_value a) h = omega (arith, stands_end T (n + 1) a h.1)
    stmt_end n return_void h = omega (arith, h.within)
    stmt_end n (call_stmt a es) h = omega (arith, list_end T (n + 1 + size a) es h.2 (stands_end T (n + 1) a h.1))
    stmt_end n (if_else a b c) h = omega (arith, block_end (n + 1 + size a + size_block b) c h.3)
    stmt_end n (if_null x t a b c) h = omega (arith, block_end (n + 1 + size a + size_block b) c h.4)
    stmt_end n (for vs q s b) h = omega (arith, block_end (n + 1 + size_vars vs + size_condition q + size_step s) b h.4)
    stmt_end n (while a b) h = omega (arith, block_end (n + 1 + size a) b h.2)

    pub block_end : (n : ℕ) (b : Block) → BlockStands T n b → n + size_block b ≤ length T.nodes
    block_end n (block ss) h = omega (arith, stmts_end (n + 1) ss h.1 (omega (arith, h.0.within)))

    pub stmts_end : (n : ℕ) (ss : Stmts) → StmtsStand T n ss → n ≤ length T.nodes → n + size_stmts ss ≤ length T.nodes
    stmts_end n empty h k = omega arith
    stmts_end n (then s ss) h k = omega (arith, stmts_end (n + size_stmt s) ss h.1 (stmt_end n s h.0))
