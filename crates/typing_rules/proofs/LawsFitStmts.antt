-- The labels of an accepted block have type numbers of the file. Assumes nothing.
use mathlib.Core.Path.{◌≡◌}
use mathlib.Core.Bool.{Bool, false, not}
use mathlib.Core.List.{List}
use Prim.Native.Nat.{ℕ, ◌+◌}
use lib.Dec.{eqb}
use Rattle.oat.specs.Tables.{Tables, type_at}
use Rattle.oat.specs.Syntax.{count, target_expr, Vars, no_var, next_var, Condition, no_condition, condition, Stmt, assign, var, return_value, return_void, call_stmt, if_else, if_null, for, while, Step, no_step, step, Block, block, Stmts, empty, then, size, size_target, size_vars, size_condition, size_step, size_block, size_stmt}
use Rattle.oat.specs.Nodes.{VarsStand, ConditionStands, StmtStands, StepStands, BlockStands, StmtsStand}
use Rattle.typing_rules.specs.Contexts.{Scope, binds, is_fresh, Context, inner}
use Rattle.typing_rules.specs.Labels.{Label}
use Rattle.typing_rules.specs.Derivations.{is_empty}
use Rattle.typing_rules.specs.Judge.{ok, is_kind, referred, is_below, arguments_below, judge, judges, Done, assigns_to, execute_vars, judge_condition, execute, execute_step, execute_block, execute_all, executing, executing_vars, judging_condition}
use Rattle.typing_rules.proofs.Claims.{File, ScopeFits, fits_bind, ContextFits}
use Rattle.typing_rules.proofs.CompleteStmts.{reference_value}
use Rattle.typing_rules.proofs.LawsFit.{expr_fit, exprs_fit}
use Rattle.typing_rules.proofs.LawsOutcome.{ok_is, then_ok, needs_ok}
use Rattle.typing_rules.proofs.LawsRows.{LabelsFit, fit_none, fit_label, fit_append}
use Rattle.typing_rules.proofs.Sound.{sound}

-- the labels, and the scope after them
record Scoped (T : Tables) (Δ : Scope ℕ) (L : List (Label ℕ)) : Type 0 where
  scope : ScopeFits T Δ
  labels : LabelsFit T L

abbrev DoneFits : Tables → Done → List (Label ℕ) → Type 0
DoneFits T d L = Scoped T d.scope L

module _ {T : Tables} (F : File T) {C : Context ℕ} (f : ContextFits T C) where
  vars_fit : (vs : Vars) (n : ℕ) (Γ : Scope ℕ) → ScopeFits T Γ → VarsStand T n vs → (Δ : Scope ℕ) (L : List (Label ℕ)) → execute_vars T C vs n Γ ≡ ok Δ L → Scoped T Δ L
  unfolding executing_vars
  vars_fit no_var n Γ g s Δ L j = ok_is (Scoped T) j (record { scope = g; labels = fit_none })
  vars_fit (next_var x a vs) n Γ g s Δ L j =
      then_ok (judge T C a (n + 1) Γ) _ j λ t M i k1.
      needs_ok (is_fresh x Γ) _ _ _ k1 λ q k2.
      let v = (sound T F C f a (n + 1) Γ t M g s.1 i).value in
      then_ok (execute_vars T C vs (n + 1 + size a) (binds Γ x t n)) _ k2 λ E N i1 k3.
      let r = vars_fit vs (n + 1 + size a) (binds Γ x t n) (fits_bind g v) s.2 E N i1 in
      ok_is (Scoped T) k3 (record { scope = r.scope; labels = fit_label tt (fit_append (expr_fit F f a (n + 1) Γ g s.1 t M i) r.labels) })

  condition_fit : (c : Condition) (m n : ℕ) (Γ : Scope ℕ) → ScopeFits T Γ → ConditionStands T m c → (Δ : Scope ℕ) (L : List (Label ℕ)) → judge_condition T C c m n Γ ≡ ok Δ L → LabelsFit T L
  unfolding judging_condition
  condition_fit no_condition m n Γ g s Δ L j = ok_is (λ Δ L. LabelsFit T L) j (fit_label tt fit_none)
  condition_fit (condition a) m n Γ g s Δ L j =
      then_ok (judge T C a m Γ) _ j λ t M i k1.
      needs_ok (is_kind T t 1) _ _ _ k1 λ q k2.
      ok_is (λ Δ L. LabelsFit T L) k2 (expr_fit F f a m Γ g s t M i)

  module _ (rt : ℕ) where
    mutual
      unfolding executing

      stmt_fit : (last : Bool) (s : Stmt) (n : ℕ) (Γ : Scope ℕ) → ScopeFits T Γ → StmtStands T n s → (d : Done) (L : List (Label ℕ)) → execute T C rt last s n Γ ≡ ok d L → DoneFits T d L
      stmt_fit last (assign t a) n Γ g s d L j =
          needs_ok (assigns_to C Γ t) _ _ _ j λ q k.
          then_ok (judge T C (target_expr t) (n + 1) Γ) _ k λ u M i k1.
          then_ok (judge T C a (n + 1 + size_target t) Γ) _ k1 λ v N i1 k2.
          needs_ok (is_below T C v u) _ _ _ k2 λ q1 k3.
          ok_is (DoneFits T) k3
          (record {
            scope = g;
            labels = fit_label tt (fit_append (expr_fit F f (target_expr t) (n + 1) Γ g s.1 u M i) (expr_fit F f a (n + 1 + size_target t) Γ g s.2 v N i1));
          })
      stmt_fit last (var x a) n Γ g s d L j =
          then_ok (judge T C a (n + 1) Γ) _ j λ u M i k1.
          needs_ok (is_fresh x Γ) _ _ _ k1 λ q k2.
          ok_is (DoneFits T) k2
          (record { scope = fits_bind g (sound T F C f a (n + 1) Γ u M g s.1 i).value; labels = fit_label tt (expr_fit F f a (n + 1) Γ g s.1 u M i) })
      stmt_fit last (return_value a) n Γ g s d L j =
          needs_ok (not (is_kind T rt 3)) _ _ _ j λ q k.
          then_ok (judge T C a (n + 1) Γ) _ k λ u M i k1.
          needs_ok (is_below T C u rt) _ _ _ k1 λ q1 k2.
          ok_is (DoneFits T) k2 (record { scope = g; labels = fit_label tt (expr_fit F f a (n + 1) Γ g s.1 u M i) })
      stmt_fit last return_void n Γ g s d L j =
          needs_ok (is_kind T rt 3) _ _ _ j λ q k.
          ok_is (DoneFits T) k (record { scope = g; labels = fit_label tt fit_none })
      stmt_fit last (call_stmt a es) n Γ g s d L j =
          then_ok (judge T C a (n + 1) Γ) _ j λ u M i k1.
          needs_ok (is_kind T u 6) _ _ _ k1 λ q1 k2.
          needs_ok (is_kind T (referred T u) 3) _ _ _ k2 λ q2 k3.
          needs_ok (eqb (count es) (type_at T u).c) _ _ _ k3 λ q3 k4.
          then_ok (judges T C es (n + 1 + size a) Γ) _ k4 λ ts N i1 k5.
          needs_ok (arguments_below T C ts (type_at T u).b) _ _ _ k5 λ q4 k6.
          ok_is (DoneFits T) k6
          (record {
            scope = g;
            labels = fit_label tt (fit_append (expr_fit F f a (n + 1) Γ g s.1 u M i) (exprs_fit F f es (n + 1 + size a) Γ g s.2 ts N i1));
          })
      stmt_fit last (if_else a b c) n Γ g s d L j =
          then_ok (judge T C a (n + 1) Γ) _ j λ u M i k1.
          needs_ok (is_kind T u 1) _ _ _ k1 λ q1 k2.
          then_ok (execute_block T C rt b (n + 1 + size a) (inner Γ)) _ k2 λ p N i1 k3.
          then_ok (execute_block T C rt c (n + 1 + size a + size_block b) (inner Γ)) _ k3 λ r O i2 k4.
          ok_is (DoneFits T) k4
          (record {
            scope = g;
            labels = fit_label tt
                (fit_append (expr_fit F f a (n + 1) Γ g s.1 u M i)
                (fit_append (block_fit b (n + 1 + size a) (inner Γ) g s.2 p N i1) (block_fit c (n + 1 + size a + size_block b) (inner Γ) g s.3 r O i2)));
          })
      stmt_fit last (if_null x t a b c) n Γ g s d L j =
          let h : ScopeFits T (binds (inner Γ) x t n) = fits_bind g (reference_value T t s.1) in
          then_ok (judge T C a (n + 1) Γ) _ j λ u M i k1.
          needs_ok (is_kind T u 7) _ _ _ k1 λ q1 k2.
          needs_ok (is_below T C (referred T u) t) _ _ _ k2 λ q2 k3.
          then_ok (execute_block T C rt b (n + 1 + size a) (inner (binds (inner Γ) x t n))) _ k3 λ p N i1 k4.
          then_ok (execute_block T C rt c (n + 1 + size a + size_block b) (inner Γ)) _ k4 λ r O i2 k5.
          ok_is (DoneFits T) k5
          (record {
            scope = g;
            labels = fit_label tt
                (fit_append (expr_fit F f a (n + 1) Γ g s.2 u M i)
                (fit_append (block_fit b (n + 1 + size a) (inner (binds (inner Γ) x t n)) h s.3 p N i1) (block_fit c (n + 1 + size a + size_block b) (inner Γ) g s.4 r O i2)));
          })
      stmt_fit last (for vs c t b) n Γ g s d L j =
          then_ok (execute_vars T C vs (n + 1) (inner Γ)) _ j λ Δ M i k1.
          let v = vars_fit vs (n + 1) (inner Γ) g s.1 Δ M i in
          then_ok (judge_condition T C c (n + 1 + size_vars vs) n Δ) _ k1 λ E N i1 k2.
          then_ok (execute_step T C rt t (n + 1 + size_vars vs + size_condition c) Δ) _ k2 λ p O i2 k3.
          then_ok (execute_block T C rt b (n + 1 + size_vars vs + size_condition c + size_step t) (inner Δ)) _ k3 λ r P i3 k4.
          ok_is (DoneFits T) k4
          (record {
            scope = g;
            labels = fit_label tt
                (fit_append v.labels
                (fit_append (condition_fit c (n + 1 + size_vars vs) n Δ v.scope s.2 E N i1)
                (fit_append (step_fit t (n + 1 + size_vars vs + size_condition c) Δ v.scope s.3 p O i2)
                (block_fit b (n + 1 + size_vars vs + size_condition c + size_step t) (inner Δ) v.scope s.4 r P i3))));
          })
      stmt_fit last (while a b) n Γ g s d L j =
          then_ok (judge T C a (n + 1) Γ) _ j λ u M i k1.
          needs_ok (is_kind T u 1) _ _ _ k1 λ q1 k2.
          then_ok (execute_block T C rt b (n + 1 + size a) (inner Γ)) _ k2 λ p N i1 k3.
          ok_is (DoneFits T) k3
          (record { scope = g; labels = fit_label tt (fit_append (expr_fit F f a (n + 1) Γ g s.1 u M i) (block_fit b (n + 1 + size a) (inner Γ) g s.2 p N i1)) })

      step_fit : (s : Step) (n : ℕ) (Γ : Scope ℕ) → ScopeFits T Γ → StepStands T n s → (p : ℕ) (L : List (Label ℕ)) → execute_step T C rt s n Γ ≡ ok p L → LabelsFit T L
      step_fit no_step n Γ g s p L j = ok_is (λ p L. LabelsFit T L) j (fit_label tt fit_none)
      step_fit (step t) n Γ g s p L j =
          then_ok (execute T C rt false t n Γ) _ j λ d M i k.
          needs_ok (eqb d.mark 0) _ _ _ k λ q k1.
          ok_is (λ p L. LabelsFit T L) k1 (stmt_fit false t n Γ g s d M i).labels

      block_fit : (b : Block) (n : ℕ) (Γ : Scope ℕ) → ScopeFits T Γ → BlockStands T n b → (p : ℕ) (L : List (Label ℕ)) → execute_block T C rt b n Γ ≡ ok p L → LabelsFit T L
      block_fit (block ss) n Γ g s p L j =
          then_ok (execute_all T C rt ss (n + 1) n 0 Γ) _ j λ r M i k.
          ok_is (λ p L. LabelsFit T L) k (fit_label tt (all_fit ss (n + 1) n 0 Γ g s.1 r M i))

      all_fit : (ss : Stmts) (n last p : ℕ) (Γ : Scope ℕ) → ScopeFits T Γ → StmtsStand T n ss → (r : ℕ) (L : List (Label ℕ)) → execute_all T C rt ss n last p Γ ≡ ok r L → LabelsFit T L
      all_fit empty n last p Γ g s r L j = ok_is (λ p L. LabelsFit T L) j fit_none
      all_fit (then t ss) n last p Γ g s r L j =
          needs_ok (eqb p 0) _ _ _ j λ q k.
          then_ok (execute T C rt (is_empty ss) t n Γ) _ k λ d M i k1.
          then_ok (execute_all T C rt ss (n + size_stmt t) n d.mark d.scope) _ k1 λ u N i1 k2.
          let e = stmt_fit (is_empty ss) t n Γ g s.0 d M i in
          ok_is (λ p L. LabelsFit T L) k2 (fit_append e.labels (all_fit ss (n + size_stmt t) n d.mark d.scope e.scope s.1 u N i1))

    pub fit_block : (b : Block) (n : ℕ) (Γ : Scope ℕ) → ScopeFits T Γ → BlockStands T n b → (p : ℕ) (L : List (Label ℕ)) → execute_block T C rt b n Γ ≡ ok p L → LabelsFit T L
    fit_block b n Γ g s p L j = block_fit b n Γ g s p L j
