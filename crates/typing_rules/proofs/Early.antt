-- Refusals under 14 by the text of a program alone (document 02, (i)): one is at a statement that returns by its shape and is not the last of
-- its block or is a for's step, or at a function whose block goes on by its shape (`fourteen_at`). Assumes nothing.
use mathlib.Core.Path.{◌≡◌, refl, ap, sym, ◌∙◌}
use mathlib.Core.Bool.{Bool, true, false, not, ◌&&◌}
use mathlib.Core.List.{List}
use mathlib.Core.Logic.{◌⊎◌, inl, inr}
use Prim.Native.Nat.{ℕ, ◌+◌}
use native.Mathlib.Omega.{arith}
use lib.ListN.{length, get_or}
use lib.Dec.{eqb}
use Rattle.oat.specs.Tables.{Tables, type_at, struct_at, built_in_at}
use Rattle.oat.specs.Types.{lookup, struct_of}
use Rattle.oat.specs.Syntax.{count, target_expr, Stmt, assign, var, return_value, return_void, call_stmt, if_else, if_null, for, while, Step, no_step, step, Block, block, Stmts, empty, then, size, size_target, size_vars, size_condition, size_step, size_block, size_stmt}
use Rattle.oat.specs.ProgramFile.{Program}
use Rattle.oat.specs.Marks.{stmt_returns, block_returns, mark_of, Mark, is_last, vars_marks, marks_below, step_marks, block_marks, stmts_marks, SomeMark, this_mark, later_mark, ReturnsEarly}
use Rattle.oat.proofs.LawsMarks.{some_left, some_right}
use Rattle.typing_rules.specs.Contexts.{Scope, empty as empty_scope, binds, inner, is_miss, is_fresh, Context, find_name}
use Rattle.typing_rules.specs.Derivations.{is_empty}
use Rattle.typing_rules.specs.Judge.{Out, needs, is_kind, referred, formed, is_below, arguments_below, assigns_to, execute, execute_step, execute_block, execute_all, executing}
use Rattle.typing_rules.specs.Steps.{Step as CheckStep, struct_name, built_in, heading, global_value, struct_fields, body, steps_of, distinct_fields, distinct_names, parameters}
use Rattle.typing_rules.specs.Check.{is_missing, fields_formed, run_step, refused, stepping}
use Rattle.typing_rules.specs.Marks.{FourteenAt}
use Rattle.typing_rules.proofs.Theorem.{run_of}
use Rattle.typing_rules.proofs.LawsNumbers.{expr_not, exprs_not, condition_not, vars_not}
use Rattle.typing_rules.proofs.LawsTells.{Tells, fine, told, asks, plainly, after, told_at}
use Rattle.typing_rules.proofs.Marks.{node_true, last_is, both_marks, end_returns, end_is, block_is}

-- the premise that what has the mark p goes on; that it returns
module _ {A : Type 0} {P : A → Type 0} {Z : ℕ → Type 0} where
  goes_on : (b : Bool) (p q : ℕ) {o : Out A} → p ≡ mark_of b → (b ≡ true → Z q) → Tells 14 P Z o → Tells 14 P Z (needs (eqb p 0) 14 q o)
  goes_on true p q e z t = rw e (told (z refl))
  goes_on false p q e z t = rw e t

  ends : (b : Bool) (p q : ℕ) {o : Out A} → p ≡ mark_of b → (b ≡ false → Z q) → Tells 14 P Z o → Tells 14 P Z (needs (eqb p 1) 14 q o)
  ends true p q e z t = rw e t
  ends false p q e z t = rw e (told (z refl))

abbrev Any : {A : Type 0} → A → Type 0
Any a = Unit {0}

abbrev Early : List Mark → ℕ → Type 0
Early ks q = SomeMark (ReturnsEarly q) ks

-- among the statements ss from n on, or at the statement before them, which returns or not, as b says
abbrev Behind : Bool → Stmts → (previous n : ℕ) → ℕ → Type 0
Behind b ss previous n q = ((q ≡ previous) × (is_last ss ≡ false) × (b ≡ true)) ⊎ Early (stmts_marks ss n) q

behind : (s : Stmt) (ss : Stmts) (n q : ℕ) → Behind (stmt_returns (is_last ss) s) ss n (n + size_stmt s) q → Early (stmts_marks (then s ss) n) q
unfolding stmts_marks
behind s ss n q (inl (e, l, b)) = this_mark (record { node = sym e; last = l; returns = b })
behind s ss n q (inr w) = later_mark (some_right (marks_below s n) w)

in_block : (ss : Stmts) (n q : ℕ) → Behind false ss n (n + 1) q → Early (block_marks (block ss) n) q
unfolding block_marks
in_block ss n q (inl (e, l, b)) = let z : ◌≡◌ {A = ℕ} 0 1 = ap (λ x. mark_of x) b in absurd (omega arith)
in_block ss n q (inr w) = later_mark w

module _ (T : Tables) (C : Context ℕ) (rt : ℕ) where
  mutual
    unfolding executing stmt_returns marks_below

    stmt_tells : (last : Bool) (s : Stmt) (n : ℕ) (Γ : Scope ℕ) → Tells 14 (λ d. d.mark ≡ mark_of (stmt_returns last s)) (Early (marks_below s n)) (execute T C rt last s n Γ)
    stmt_tells last (assign g a) n Γ =
        asks (assigns_to C Γ g) 15 n (λ i. omega arith)
        (plainly (expr_not 14 refl T C (target_expr g) (n + 1) Γ) λ t L.
        plainly (expr_not 14 refl T C a (n + 1 + size_target g) Γ) λ u M.
        asks (is_below T C u t) 11 n (λ i. omega arith) (fine refl))
    stmt_tells last (var x a) n Γ =
        plainly (expr_not 14 refl T C a (n + 1) Γ) λ t L.
        asks (is_fresh x Γ) 7 n (λ i. omega arith) (fine refl)
    stmt_tells last (return_value a) n Γ =
        asks (not (is_kind T rt 3)) 13 n (λ i. omega arith)
        (plainly (expr_not 14 refl T C a (n + 1) Γ) λ t L.
        asks (is_below T C t rt) 11 n (λ i. omega arith) (fine refl))
    stmt_tells last return_void n Γ = asks (is_kind T rt 3) 13 n (λ i. omega arith) (fine refl)
    stmt_tells last (call_stmt a es) n Γ =
        plainly (expr_not 14 refl T C a (n + 1) Γ) λ f L.
        asks (is_kind T f 6) 10 n (λ i. omega arith)
        (asks (is_kind T (referred T f) 3) 13 n (λ i. omega arith)
        (asks (eqb (count es) (type_at T f).c) 12 n (λ i. omega arith)
        (plainly (exprs_not 14 refl T C es (n + 1 + size a) Γ) λ ts M.
        asks (arguments_below T C ts (type_at T f).b) 11 n (λ i. omega arith) (fine refl))))
    stmt_tells last (if_else a b c) n Γ =
        plainly (expr_not 14 refl T C a (n + 1) Γ) λ t L.
        asks (is_kind T t 1) 10 n (λ i. omega arith)
        (after (block_tells b (n + 1 + size a) (inner Γ)) (λ q w. some_left (block_marks c (n + 1 + size a + size_block b)) w) λ p M e.
        after (block_tells c (n + 1 + size a + size_block b) (inner Γ)) (λ q w. some_right (block_marks b (n + 1 + size a)) w) λ q N f.
        fine (both_marks (block_returns b) (block_returns c) e f))
    stmt_tells last (if_null x t a b c) n Γ =
        plainly (expr_not 14 refl T C a (n + 1) Γ) λ u L.
        asks (is_kind T u 7) 10 n (λ i. omega arith)
        (asks (is_below T C (referred T u) t) 11 n (λ i. omega arith)
        (after (block_tells b (n + 1 + size a) (inner (binds (inner Γ) x t n))) (λ q w. some_left (block_marks c (n + 1 + size a + size_block b)) w) λ p M e.
        after (block_tells c (n + 1 + size a + size_block b) (inner Γ)) (λ q w. some_right (block_marks b (n + 1 + size a)) w) λ q N f.
        fine (both_marks (block_returns b) (block_returns c) e f)))
    stmt_tells last (for vs c s b) n Γ =
        plainly (vars_not 14 refl T C (λ i. omega arith) vs (n + 1) (inner Γ)) λ Δ L.
        plainly (condition_not 14 refl T C c (n + 1 + size_vars vs) n Δ) λ Δ₁ M.
        after (step_tells s (n + 1 + size_vars vs + size_condition c) Δ)
        (λ q w. some_right (vars_marks vs (n + 1)) (some_left (block_marks b (n + 1 + size_vars vs + size_condition c + size_step s)) w)) λ p N i.
        after (block_tells b (n + 1 + size_vars vs + size_condition c + size_step s) (inner Δ))
        (λ q w. some_right (vars_marks vs (n + 1)) (some_right (step_marks s (n + 1 + size_vars vs + size_condition c)) w)) λ q O e.
        fine refl
    stmt_tells last (while a b) n Γ =
        plainly (expr_not 14 refl T C a (n + 1) Γ) λ t L.
        asks (is_kind T t 1) 10 n (λ i. omega arith)
        (after (block_tells b (n + 1 + size a) (inner Γ)) (λ q w. w) λ p M e.
        fine (ap (λ x. mark_of (last && x)) (node_true a)))

    step_tells : (s : Step) (n : ℕ) (Γ : Scope ℕ) → Tells 14 Any (Early (step_marks s n)) (execute_step T C rt s n Γ)
    step_tells no_step n Γ = fine tt
    step_tells (step s) n Γ =
        after (stmt_tells false s n Γ) (λ q w. later_mark w) λ d L e.
        goes_on (stmt_returns false s) d.mark n e (λ b. this_mark (record { node = refl; last = refl; returns = b })) (fine tt)

    block_tells : (b : Block) (n : ℕ) (Γ : Scope ℕ) → Tells 14 (λ p. p ≡ mark_of (block_returns b)) (Early (block_marks b n)) (execute_block T C rt b n Γ)
    block_tells (block ss) n Γ = after (all_tell ss false (n + 1) n 0 Γ refl) (in_block ss n) λ p L e. fine (e ∙ ap (λ x. mark_of x) (block_is ss))

    all_tell : (ss : Stmts) (b : Bool) (n previous p : ℕ) (Γ : Scope ℕ) → p ≡ mark_of b
        → Tells 14 (λ q. q ≡ mark_of (end_returns b ss)) (Behind b ss previous n) (execute_all T C rt ss n previous p Γ)
    all_tell empty b n previous p Γ e = fine e
    all_tell (then s ss) b n previous p Γ e =
        goes_on b p previous e (λ f. inl (refl, refl, f))
        (after (stmt_tells (is_empty ss) s n Γ) (λ q w. inr (later_mark (some_left (stmts_marks ss (n + size_stmt s)) w))) λ d L f.
        after
        (all_tell ss (stmt_returns (is_last ss) s) (n + size_stmt s) n d.mark d.scope (f ∙ ap (λ last. mark_of (stmt_returns last s)) (last_is ss)))
        (λ q w. inr (behind s ss n q w)) λ q M g.
        fine (g ∙ ap (λ x. mark_of x) (end_is s ss)))

check_tells : (T : Tables) (C : Context ℕ) (s : CheckStep) → Tells 14 Any (FourteenAt s) (run_step T C s)
unfolding stepping FourteenAt
check_tells T C (struct_name i) = asks (is_missing (lookup C.structs (struct_at T i).name)) 7 i (λ e. omega arith) (fine tt)
check_tells T C (built_in i) =
    asks (formed T C (built_in_at T i).type) 9 i (λ e. omega arith)
    (asks (is_miss (find_name (built_in_at T i).name C.names)) 7 i (λ e. omega arith) (fine tt))
check_tells T C (heading n x t) =
    asks (formed T C t) 9 n (λ e. omega arith)
    (asks (is_miss (find_name x C.names)) 7 n (λ e. omega arith) (fine tt))
check_tells T C (global_value n x a) =
    plainly (expr_not 14 refl T C a (n + 1) empty_scope) λ t L.
    asks (is_miss (find_name x C.names)) 7 n (λ e. omega arith) (fine tt)
check_tells T C (struct_fields i) =
    asks (fields_formed C (struct_of T i).fields) 9 i (λ e. omega arith)
    (asks (distinct_fields (struct_of T i).fields) 7 i (λ e. omega arith) (fine tt))
check_tells T C (body n t ps b) =
    asks (distinct_names ps) 7 n (λ e. omega arith)
    (after (block_tells T C (referred T t) b (n + 1 + length ps) (parameters (λ a. a) T empty_scope (type_at T t).b (n + 1) ps)) (λ q w. inr w) λ p L e.
    ends (block_returns b) p n e (λ f. inl (refl, f)) (fine tt))

pub fourteen_at : (p : Program) (j q : ℕ) → run_of p ≡ refused 14 j q → FourteenAt (get_or (steps_of p) j (struct_name 0)) q
fourteen_at p j q e = told_at 14 Any FourteenAt p (check_tells p.tables) e
