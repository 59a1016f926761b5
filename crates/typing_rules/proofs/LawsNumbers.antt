-- The numbers of refusals: one is under 7 to 16, and an expression's under 8 to 13 or 16. Assumes nothing.
use mathlib.Core.Path.{◌≡◌, refl, ap, sym, subst, ◌∙◌}
use mathlib.Core.Bool.{Bool, true, false, not, ◌&&◌, ◌||◌}
use mathlib.Core.List.{List, [], ◌∷◌}
use Prim.Native.Nat.{ℕ, suc, ◌+◌, ◌≤◌}
use native.Mathlib.Omega.{arith}
use lib.ListN.{length}
use lib.Dec.{eqb, leb}
use Rattle.oat.specs.Basics.{pick}
use Rattle.oat.specs.Tables.{Tables, type_at, struct_at, built_in_at}
use Rattle.oat.specs.Types.{Field, Lookup, found, missing, lookup, struct_of}
use Rattle.oat.specs.Syntax.{Expr, null, literal, name, array_literal, default_array, array_with, index, length_of, struct_literal, field, call, unary, binary, Exprs, none, also, count, Inits, no_init, init, target_expr, Vars, no_var, next_var, Condition, no_condition, condition, Stmt, assign, var, return_value, return_void, call_stmt, if_else, if_null, for, while, Step, no_step, step, Block, block, Stmts, empty, then, size, size_target, size_vars, size_condition, size_step, size_block, size_stmt}
use Rattle.oat.specs.ProgramFile.{Program}
use Rattle.typing_rules.specs.Contexts.{Scope, empty as empty_scope, binds, Hit, hit, miss, find, is_fresh, Context, find_name, or_else, inner, is_miss}
use Rattle.typing_rules.specs.Labels.{Label}
use Rattle.typing_rules.specs.Operators.{is_equality, operand_type, unary_type}
use Rattle.typing_rules.specs.Rules.{names_fit}
use Rattle.typing_rules.specs.Derivations.{is_empty}
use Rattle.typing_rules.specs.Judge.{Out, ok, no, and_then, needs, is_kind, referred, is_below, formed, has_default, each_below, arguments_below, named, Number, number, unknown, field_of, field_type, on_declared, inits_below, judge, judges, judge_inits, assigns_to, execute_vars, judge_condition, execute, execute_step, execute_block, execute_all, executing, executing_vars, judging, judging_condition}
use Rattle.typing_rules.specs.Steps.{Step as CheckStep, struct_name, built_in, heading, global_value, struct_fields, body, steps_of, distinct_fields, distinct_names, parameters, empty_context}
use Rattle.typing_rules.specs.Check.{is_missing, fields_formed, run_step, Segment, Ran, accepted, refused, with_segment, on_step, run, stepping}
use Rattle.typing_rules.proofs.Theorem.{run_of}

-- o is accepted, or refused under one of the numbers Q
pub data InRange {A : Type 0} (Q : ℕ → Type 0) : Out A → Type 0 where
  ok_in : {a : A} {L : List (Label ℕ)} → InRange Q (ok a L)
  no_in : (p : ℕ) {q : ℕ} → Q p → InRange Q (no p q)

-- the parts of the definitions keep to the numbers
module _ {A : Type 0} {Q : ℕ → Type 0} where
  pub needs_in : (b : Bool) (q p : ℕ) {o : Out A} → Q p → InRange Q o → InRange Q (needs b p q o)
  needs_in true q p h r = r
  needs_in false q p h r = no_in p h

  pub then_in : {B : Type 0} {o : Out B} {k : B → List (Label ℕ) → Out A} → InRange Q o → ((b : B) (L : List (Label ℕ)) → InRange Q (k b L)) → InRange Q (and_then o k)
  then_in ok_in f = f _ _
  then_in (no_in p h) f = no_in p h

  declared_in : (l : Lookup) (n : ℕ) {k : List Field → Out A} → Q 9 → ((fs : List Field) → InRange Q (k fs)) → InRange Q (on_declared l n k)
  declared_in missing n h f = no_in 9 h
  declared_in (found fs) n h f = f fs

-- an unknown name or field is refused under 8
named_in : {Q : ℕ → Type 0} (h : Hit ℕ) (n : ℕ) (Γ : Scope ℕ) → Q 8 → InRange Q (named h n Γ)
named_in (hit t b) n Γ h = ok_in
named_in miss n Γ h = no_in 8 h

in_field : {Q : ℕ → Type 0} (v : Number) (n : ℕ) (Γ : Scope ℕ) (L : List (Label ℕ)) → Q 8 → InRange Q (field_type v n Γ L)
in_field (number t) n Γ L h = ok_in
in_field unknown n Γ L h = no_in 8 h

-- expressions
module _ {Q : ℕ → Type 0} (p8 : Q 8) (p9 : Q 9) (p10 : Q 10) (p11 : Q 11) (p12 : Q 12) (p13 : Q 13) (p16 : Q 16) (T : Tables) (C : Context ℕ) where
  mutual
    unfolding judging

    expr-in : (e : Expr) (n : ℕ) (Γ : Scope ℕ) → InRange Q (judge T C e n Γ)
    expr-in (null t) n Γ = needs_in (formed T C t) n 9 p9 ok_in
    expr-in (literal l) n Γ = ok_in
    expr-in (name x) n Γ = named_in (or_else (find x Γ) (find_name x C.names)) n Γ p8
    expr-in (array_literal t es) n Γ =
        needs_in (formed T C (referred T t)) n 9 p9
        (then_in (exprs_in es (n + 1) Γ) λ ts L.
        needs_in (each_below T C ts (referred T t)) n 11 p11 ok_in)
    expr-in (default_array t a) n Γ =
        needs_in (formed T C (referred T t)) n 9 p9
        (then_in (expr-in a (n + 1) Γ) λ u L.
        needs_in (is_kind T u 0) n 10 p10
        (needs_in (has_default T (referred T t)) n 16 p16 ok_in))
    expr-in (array_with t x a b) n Γ =
        needs_in (formed T C (referred T t)) n 9 p9
        (then_in (expr-in a (n + 1) Γ) λ u L.
        needs_in (is_kind T u 0) n 10 p10
        (then_in (expr-in b (n + 1 + size a) (binds (inner Γ) x 0 n)) λ v M.
        needs_in (is_below T C v (referred T t)) n 11 p11 ok_in))
    expr-in (index a b) n Γ =
        then_in (expr-in a (n + 1) Γ) λ t L.
        needs_in (is_kind T t 5) n 10 p10
        (then_in (expr-in b (n + 1 + size a) Γ) λ u M.
        needs_in (is_kind T u 0) n 10 p10 ok_in)
    expr-in (length_of a) n Γ =
        then_in (expr-in a (n + 1) Γ) λ t L.
        needs_in (is_kind T t 5) n 10 p10 ok_in
    expr-in (struct_literal t is) n Γ =
        declared_in (lookup C.structs (referred T t)) n p9 λ fs.
        needs_in (names_fit fs is) n 12 p12
        (then_in (inits-in is (n + 1) Γ) λ ts L.
        needs_in (inits_below T C fs is ts) n 11 p11 ok_in)
    expr-in (field x a) n Γ =
        then_in (expr-in a (n + 1) Γ) λ t L.
        needs_in (is_kind T t 4) n 10 p10 (in_field (field_of T (referred T t) x 0 (length C.structs)) n Γ L p8)
    expr-in (call a es) n Γ =
        then_in (expr-in a (n + 1) Γ) λ f L.
        needs_in (is_kind T f 6) n 10 p10
        (needs_in (not (is_kind T (referred T f) 3)) n 13 p13
        (needs_in (eqb (count es) (type_at T f).c) n 12 p12
        (then_in (exprs_in es (n + 1 + size a) Γ) λ ts M.
        needs_in (arguments_below T C ts (type_at T f).b) n 11 p11 ok_in)))
    expr-in (unary x a) n Γ =
        then_in (expr-in a (n + 1) Γ) λ t L.
        needs_in (is_kind T t (unary_type x)) n 10 p10 ok_in
    expr-in (binary x a b) n Γ =
        then_in (expr-in a (n + 1) Γ) λ t L.
        needs_in (is_equality x || is_kind T t (operand_type x)) n 10 p10
        (then_in (expr-in b (n + 1 + size a) Γ) λ u M.
        needs_in (is_equality x || is_kind T u (operand_type x)) n 10 p10
        (needs_in (not (is_equality x) || (is_below T C t u && is_below T C u t)) n 11 p11 ok_in))

    exprs_in : (es : Exprs) (n : ℕ) (Γ : Scope ℕ) → InRange Q (judges T C es n Γ)
    exprs_in none n Γ = ok_in
    exprs_in (also a es) n Γ =
        then_in (expr-in a n Γ) λ t L.
        then_in (exprs_in es (n + size a) Γ) λ ts M.
        ok_in

    inits-in : (is : Inits) (n : ℕ) (Γ : Scope ℕ) → InRange Q (judge_inits T C is n Γ)
    inits-in no_init n Γ = ok_in
    inits-in (init x a is) n Γ =
        then_in (expr-in a (n + 1) Γ) λ t L.
        then_in (inits-in is (n + 1 + size a) Γ) λ ts M.
        ok_in

  condition-in : (c : Condition) (m n : ℕ) (Γ : Scope ℕ) → InRange Q (judge_condition T C c m n Γ)
  unfolding judging_condition
  condition-in no_condition m n Γ = ok_in
  condition-in (condition a) m n Γ =
      then_in (expr-in a m Γ) λ t L.
      needs_in (is_kind T t 1) n 10 p10 ok_in

  -- statements and steps
  module _ (p7 : Q 7) where
    vars-in : (vs : Vars) (n : ℕ) (Γ : Scope ℕ) → InRange Q (execute_vars T C vs n Γ)
    unfolding executing_vars
    vars-in no_var n Γ = ok_in
    vars-in (next_var x a vs) n Γ =
        then_in (expr-in a (n + 1) Γ) λ t L.
        needs_in (is_fresh x Γ) n 7 p7
        (then_in (vars-in vs (n + 1 + size a) (binds Γ x t n)) λ Δ M.
        ok_in)

  module _ (p7 : Q 7) (p14 : Q 14) (p15 : Q 15) where
    module _ (rt : ℕ) where
      mutual
        unfolding executing

        stmt-in : (last : Bool) (s : Stmt) (n : ℕ) (Γ : Scope ℕ) → InRange Q (execute T C rt last s n Γ)
        stmt-in last (assign g a) n Γ =
            needs_in (assigns_to C Γ g) n 15 p15
            (then_in (expr-in (target_expr g) (n + 1) Γ) λ t L.
            then_in (expr-in a (n + 1 + size_target g) Γ) λ u M.
            needs_in (is_below T C u t) n 11 p11 ok_in)
        stmt-in last (var x a) n Γ =
            then_in (expr-in a (n + 1) Γ) λ t L.
            needs_in (is_fresh x Γ) n 7 p7 ok_in
        stmt-in last (return_value a) n Γ =
            needs_in (not (is_kind T rt 3)) n 13 p13
            (then_in (expr-in a (n + 1) Γ) λ t L.
            needs_in (is_below T C t rt) n 11 p11 ok_in)
        stmt-in last return_void n Γ = needs_in (is_kind T rt 3) n 13 p13 ok_in
        stmt-in last (call_stmt a es) n Γ =
            then_in (expr-in a (n + 1) Γ) λ f L.
            needs_in (is_kind T f 6) n 10 p10
            (needs_in (is_kind T (referred T f) 3) n 13 p13
            (needs_in (eqb (count es) (type_at T f).c) n 12 p12
            (then_in (exprs_in es (n + 1 + size a) Γ) λ ts M.
            needs_in (arguments_below T C ts (type_at T f).b) n 11 p11 ok_in)))
        stmt-in last (if_else a b c) n Γ =
            then_in (expr-in a (n + 1) Γ) λ t L.
            needs_in (is_kind T t 1) n 10 p10
            (then_in (in_block b (n + 1 + size a) (inner Γ)) λ p M.
            then_in (in_block c (n + 1 + size a + size_block b) (inner Γ)) λ q N.
            ok_in)
        stmt-in last (if_null x t a b c) n Γ =
            then_in (expr-in a (n + 1) Γ) λ u L.
            needs_in (is_kind T u 7) n 10 p10
            (needs_in (is_below T C (referred T u) t) n 11 p11
            (then_in (in_block b (n + 1 + size a) (inner (binds (inner Γ) x t n))) λ p M.
            then_in (in_block c (n + 1 + size a + size_block b) (inner Γ)) λ q N.
            ok_in))
        stmt-in last (for vs c s b) n Γ =
            then_in (vars-in p7 vs (n + 1) (inner Γ)) λ Δ L.
            then_in (condition-in c (n + 1 + size_vars vs) n Δ) λ Δ₁ M.
            then_in (in_step s (n + 1 + size_vars vs + size_condition c) Δ) λ p N.
            then_in (in_block b (n + 1 + size_vars vs + size_condition c + size_step s) (inner Δ)) λ q O.
            ok_in
        stmt-in last (while a b) n Γ =
            then_in (expr-in a (n + 1) Γ) λ t L.
            needs_in (is_kind T t 1) n 10 p10
            (then_in (in_block b (n + 1 + size a) (inner Γ)) λ p M.
            ok_in)

        in_step : (s : Step) (n : ℕ) (Γ : Scope ℕ) → InRange Q (execute_step T C rt s n Γ)
        in_step no_step n Γ = ok_in
        in_step (step s) n Γ =
            then_in (stmt-in false s n Γ) λ d L.
            needs_in (eqb d.mark 0) n 14 p14 ok_in

        in_block : (b : Block) (n : ℕ) (Γ : Scope ℕ) → InRange Q (execute_block T C rt b n Γ)
        in_block (block ss) n Γ =
            then_in (in_all ss (n + 1) n 0 Γ) λ p L.
            ok_in

        in_all : (ss : Stmts) (n last p : ℕ) (Γ : Scope ℕ) → InRange Q (execute_all T C rt ss n last p Γ)
        in_all empty n last p Γ = ok_in
        in_all (then s ss) n last p Γ =
            needs_in (eqb p 0) last 14 p14
            (then_in (stmt-in (is_empty ss) s n Γ) λ d L.
            then_in (in_all ss (n + size_stmt s) n d.mark d.scope) λ q M.
            ok_in)

    check_in : (s : CheckStep) → InRange Q (run_step T C s)
    unfolding stepping
    check_in (struct_name i) = needs_in (is_missing (lookup C.structs (struct_at T i).name)) i 7 p7 ok_in
    check_in (built_in i) =
        needs_in (formed T C (built_in_at T i).type) i 9 p9
        (needs_in (is_miss (find_name (built_in_at T i).name C.names)) i 7 p7 ok_in)
    check_in (heading n x t) =
        needs_in (formed T C t) n 9 p9
        (needs_in (is_miss (find_name x C.names)) n 7 p7 ok_in)
    check_in (global_value n x a) =
        then_in (expr-in a (n + 1) empty_scope) λ t L.
        needs_in (is_miss (find_name x C.names)) n 7 p7 ok_in
    check_in (struct_fields i) =
        needs_in (fields_formed C (struct_of T i).fields) i 9 p9
        (needs_in (distinct_fields (struct_of T i).fields) i 7 p7 ok_in)
    check_in (body n t ps b) =
        needs_in (distinct_names ps) n 7 p7
        (then_in (in_block (referred T t) b (n + 1 + length ps) (parameters (λ a. a) T empty_scope (type_at T t).b (n + 1) ps)) λ p L.
        needs_in (eqb p 1) n 14 p14 ok_in)

-- the number of a premise
pub record Premise (m : ℕ) : Type 0 where
  pub least : 7 ≤ m
  pub most : m ≤ 16

premise : (m : ℕ) → 7 ≤ m → m ≤ 16 → Premise m
premise m h k = record { least = h; most = k }

p7 : Premise 7
p7 = premise 7 (omega arith) (omega arith)

p8 : Premise 8
p8 = premise 8 (omega arith) (omega arith)

p9 : Premise 9
p9 = premise 9 (omega arith) (omega arith)

p10 : Premise 10
p10 = premise 10 (omega arith) (omega arith)

p11 : Premise 11
p11 = premise 11 (omega arith) (omega arith)

p12 : Premise 12
p12 = premise 12 (omega arith) (omega arith)

p13 : Premise 13
p13 = premise 13 (omega arith) (omega arith)

p14 : Premise 14
p14 = premise 14 (omega arith) (omega arith)

p15 : Premise 15
p15 = premise 15 (omega arith) (omega arith)

p16 : Premise 16
p16 = premise 16 (omega arith) (omega arith)

-- a step is refused under 7 to 16, and so are its parts
module _ (T : Tables) (C : Context ℕ) where
  pub expr_in_range : (e : Expr) (n : ℕ) (Γ : Scope ℕ) → InRange Premise (judge T C e n Γ)
  expr_in_range = expr-in p8 p9 p10 p11 p12 p13 p16 T C

  pub exprs_in_range : (es : Exprs) (n : ℕ) (Γ : Scope ℕ) → InRange Premise (judges T C es n Γ)
  exprs_in_range = exprs_in p8 p9 p10 p11 p12 p13 p16 T C

  pub condition_in_range : (c : Condition) (m n : ℕ) (Γ : Scope ℕ) → InRange Premise (judge_condition T C c m n Γ)
  condition_in_range = condition-in p8 p9 p10 p11 p12 p13 p16 T C

  pub vars_in_range : (vs : Vars) (n : ℕ) (Γ : Scope ℕ) → InRange Premise (execute_vars T C vs n Γ)
  vars_in_range = vars-in p8 p9 p10 p11 p12 p13 p16 T C p7

  pub stmt_in_range : (rt : ℕ) (last : Bool) (s : Stmt) (n : ℕ) (Γ : Scope ℕ) → InRange Premise (execute T C rt last s n Γ)
  stmt_in_range = stmt-in p8 p9 p10 p11 p12 p13 p16 T C p7 p14 p15

  pub block_in_range : (rt : ℕ) (b : Block) (n : ℕ) (Γ : Scope ℕ) → InRange Premise (execute_block T C rt b n Γ)
  block_in_range = in_block p8 p9 p10 p11 p12 p13 p16 T C p7 p14 p15

  pub step_in_range : (s : CheckStep) → InRange Premise (run_step T C s)
  step_in_range = check_in p8 p9 p10 p11 p12 p13 p16 T C p7 p14 p15

-- an expression is refused under 8 to 13 or 16 alone, and so is a condition; the vars of a for besides under 7
abbrev pub is_of_expression : ℕ → Bool
is_of_expression p = (leb 8 p && leb p 13) || eqb p 16

abbrev pub NotUnder : ℕ → ℕ → Type 0
NotUnder m p = p ≡ m → ⊥

module _ (m : ℕ) (h : is_of_expression m ≡ false) (T : Tables) (C : Context ℕ) where
  apart : (p : ℕ) → is_of_expression p ≡ true → NotUnder m p
  apart p k e = let z : ◌≡◌ {A = ℕ} 1 0 = ap (λ b. pick b 1 0) (sym k ∙ ap is_of_expression e ∙ h) in omega arith

  pub expr_not : (e : Expr) (n : ℕ) (Γ : Scope ℕ) → InRange (NotUnder m) (judge T C e n Γ)
  expr_not = expr-in (apart 8 refl) (apart 9 refl) (apart 10 refl) (apart 11 refl) (apart 12 refl) (apart 13 refl) (apart 16 refl) T C

  pub exprs_not : (es : Exprs) (n : ℕ) (Γ : Scope ℕ) → InRange (NotUnder m) (judges T C es n Γ)
  exprs_not = exprs_in (apart 8 refl) (apart 9 refl) (apart 10 refl) (apart 11 refl) (apart 12 refl) (apart 13 refl) (apart 16 refl) T C

  pub condition_not : (c : Condition) (k n : ℕ) (Γ : Scope ℕ) → InRange (NotUnder m) (judge_condition T C c k n Γ)
  condition_not = condition-in (apart 8 refl) (apart 9 refl) (apart 10 refl) (apart 11 refl) (apart 12 refl) (apart 13 refl) (apart 16 refl) T C

  pub vars_not : NotUnder m 7 → (vs : Vars) (n : ℕ) (Γ : Scope ℕ) → InRange (NotUnder m) (execute_vars T C vs n Γ)
  vars_not = vars-in (apart 8 refl) (apart 9 refl) (apart 10 refl) (apart 11 refl) (apart 12 refl) (apart 13 refl) (apart 16 refl) T C

-- the same of a run
data RanInRange : Ran → Type 0 where
  accepted_in : {gs : List Segment} {k : ℕ} → RanInRange (accepted gs k)
  refused_in : {p k q : ℕ} → Premise p → RanInRange (refused p k q)

segment_in : (g : Segment) {r : Ran} → RanInRange r → RanInRange (with_segment g r)
segment_in g accepted_in = accepted_in
segment_in g (refused_in h) = refused_in h

on_in : (k : ℕ) {o : Out (Context ℕ)} {f : Context ℕ → List (Label ℕ) → Ran} → InRange Premise o → ((C : Context ℕ) (L : List (Label ℕ)) → RanInRange (f C L)) → RanInRange (on_step o k f)
on_in k ok_in f = f _ _
on_in k (no_in p h) f = refused_in h

run_in : (T : Tables) (ss : List CheckStep) (C : Context ℕ) (k : ℕ) → RanInRange (run T C ss k)
unfolding run
run_in T [] C k = accepted_in
run_in T (s ∷ ss) C k = on_in k (step_in_range T C s) λ E L. segment_in _ (run_in T ss E (suc k))

-- what that says of a refusal
number_in : {m j q : ℕ} → RanInRange (refused m j q) → (7 ≤ m) × (m ≤ 16)
number_in (refused_in h) = (h.least, h.most)

pub refused_number : (p : Program) (m j q : ℕ) → run_of p ≡ refused m j q → (7 ≤ m) × (m ≤ 16)
refused_number p m j q e = number_in (subst RanInRange e (run_in p.tables (steps_of p) empty_context 0))
