-- Where a refusal is: its place is below any bound on the nodes, the structs and the built-ins (`refused_place`). So the numbers of an
-- answer to a file fit in 16 bits (`refused_fits`, `accepted_fits`). Assumes nothing.
use mathlib.Core.Path.{◌≡◌, subst}
use mathlib.Core.Bool.{Bool, true, false, not, ◌&&◌, ◌||◌}
use mathlib.Core.List.{List, [], ◌∷◌, ◌++◌}
use Prim.Native.Nat.{ℕ, zero, suc, ◌+◌, ◌*◌, ◌≤◌, ◌<◌}
use native.Mathlib.Omega.{arith}
use lib.ListN.{length, length-append}
use lib.Dec.{eqb}
use Rattle.oat.specs.Basics.{tabulate}
use Rattle.oat.specs.Tables.{Tables, type_at, struct_at, built_in_at}
use Rattle.oat.specs.Types.{Field, Lookup, found, missing, lookup, struct_of}
use Rattle.oat.specs.Syntax.{Expr, null, literal, name, array_literal, default_array, array_with, index, length_of, struct_literal, field, call, unary, binary, Exprs, none, also, count, Inits, no_init, init, target_expr, Vars, no_var, next_var, Condition, no_condition, condition, Stmt, assign, var, return_value, return_void, call_stmt, if_else, if_null, for, while, Step, no_step, step, Block, block, Stmts, empty, then, Decl, global, function, size, sizes, size_inits, size_target, size_vars, size_condition, size_step, size_block, size_stmt, size_stmts, size_decl, size_decls}
use Rattle.oat.specs.ProgramFile.{widest, Program, IsFile}
use Rattle.oat.proofs.LawsBasics.{tabulate_long}
use Rattle.typing_rules.specs.Contexts.{Scope, empty as empty_scope, binds, Hit, hit, miss, inner, find, is_miss, is_fresh, Context, find_name, or_else}
use Rattle.typing_rules.specs.Labels.{Label}
use Rattle.typing_rules.specs.Operators.{is_equality, operand_type, unary_type}
use Rattle.typing_rules.specs.Rules.{names_fit}
use Rattle.typing_rules.specs.Derivations.{is_empty}
use Rattle.typing_rules.specs.Judge.{Out, ok, no, and_then, needs, is_kind, referred, is_below, formed, has_default, each_below, arguments_below, named, Number, number, unknown, field_of, field_type, on_declared, inits_below, judge, judges, judge_inits, assigns_to, execute_vars, judge_condition, execute, execute_step, execute_block, execute_all, executing, executing_vars, judging, judging_condition}
use Rattle.typing_rules.specs.Steps.{Step as CheckStep, struct_name, built_in, heading, global_value, struct_fields, body, headings, globals, bodies, steps_of, distinct_fields, distinct_names, parameters, empty_context}
use Rattle.typing_rules.specs.Check.{is_missing, fields_formed, run_step, Segment, Ran, accepted, refused, with_segment, on_step, run, stepping}
use Rattle.typing_rules.proofs.Theorem.{run_of, accepted_derives, refused_step}
use Rattle.typing_rules.proofs.LawsPlaced.{some_node}
use Rattle.typing_rules.proofs.LawsNumbers.{refused_number}
use Rattle.demand3.proofs.Theorem.{fits}

module _ (most : ℕ) where
  -- o is accepted, or refused at a place below most
  data Placed {A : Type 0} : Out A → Type 0 where
    ok_at : {a : A} {L : List (Label ℕ)} → Placed (ok a L)
    no_at : {p q : ℕ} → q < most → Placed (no p q)

  -- the parts of the definitions keep to the places
  module _ {A : Type 0} where
    needs_at : (b : Bool) (p : ℕ) {q : ℕ} {o : Out A} → q < most → Placed o → Placed (needs b p q o)
    needs_at true p h r = r
    needs_at false p h r = no_at h

    at_then : {B : Type 0} {o : Out B} {k : B → List (Label ℕ) → Out A} → Placed o → ((b : B) (L : List (Label ℕ)) → Placed (k b L)) → Placed (and_then o k)
    at_then ok_at f = f _ _
    at_then (no_at h) f = no_at h

    declared_at : (l : Lookup) {n : ℕ} {k : List Field → Out A} → n < most → ((fs : List Field) → Placed (k fs)) → Placed (on_declared l n k)
    declared_at missing h f = no_at h
    declared_at (found fs) h f = f fs

  -- an unknown name or field is refused at its node
  named_at : (t : Hit ℕ) {n : ℕ} (Γ : Scope ℕ) → n < most → Placed (named t n Γ)
  named_at (hit t b) Γ h = ok_at
  named_at miss Γ h = no_at h

  field_at : (v : Number) {n : ℕ} (Γ : Scope ℕ) (L : List (Label ℕ)) → n < most → Placed (field_type v n Γ L)
  field_at (number t) Γ L h = ok_at
  field_at unknown Γ L h = no_at h

  module _ (T : Tables) (C : Context ℕ) where
    mutual
      unfolding judging

      expr-at : (e : Expr) (n : ℕ) (Γ : Scope ℕ) → n + size e ≤ most → Placed (judge T C e n Γ)
      expr-at (null t) n Γ h = needs_at (formed T C t) 9 (omega arith) ok_at
      expr-at (literal l) n Γ h = ok_at
      expr-at (name x) n Γ h = named_at (or_else (find x Γ) (find_name x C.names)) Γ (omega arith)
      expr-at (array_literal t es) n Γ h =
          let l : n < most = omega arith in
          needs_at (formed T C (referred T t)) 9 l
          (at_then (exprs_at es (n + 1) Γ (omega arith)) λ ts L.
          needs_at (each_below T C ts (referred T t)) 11 l ok_at)
      expr-at (default_array t a) n Γ h =
          let l : n < most = omega arith in
          needs_at (formed T C (referred T t)) 9 l
          (at_then (expr-at a (n + 1) Γ (omega arith)) λ u L.
          needs_at (is_kind T u 0) 10 l
          (needs_at (has_default T (referred T t)) 16 l ok_at))
      expr-at (array_with t x a b) n Γ h =
          let l : n < most = omega arith in
          needs_at (formed T C (referred T t)) 9 l
          (at_then (expr-at a (n + 1) Γ (omega arith)) λ u L.
          needs_at (is_kind T u 0) 10 l
          (at_then (expr-at b (n + 1 + size a) (binds (inner Γ) x 0 n) (omega arith)) λ v M.
          needs_at (is_below T C v (referred T t)) 11 l ok_at))
      expr-at (index a b) n Γ h =
          let l : n < most = omega arith in
          at_then (expr-at a (n + 1) Γ (omega arith)) λ t L.
          needs_at (is_kind T t 5) 10 l
          (at_then (expr-at b (n + 1 + size a) Γ (omega arith)) λ u M.
          needs_at (is_kind T u 0) 10 l ok_at)
      expr-at (length_of a) n Γ h =
          let l : n < most = omega arith in
          at_then (expr-at a (n + 1) Γ (omega arith)) λ t L.
          needs_at (is_kind T t 5) 10 l ok_at
      expr-at (struct_literal t is) n Γ h =
          let l : n < most = omega arith in
          declared_at (lookup C.structs (referred T t)) l λ fs.
          needs_at (names_fit fs is) 12 l
          (at_then (inits_at is (n + 1) Γ (omega arith)) λ ts L.
          needs_at (inits_below T C fs is ts) 11 l ok_at)
      expr-at (field x a) n Γ h =
          let l : n < most = omega arith in
          at_then (expr-at a (n + 1) Γ (omega arith)) λ t L.
          needs_at (is_kind T t 4) 10 l (field_at (field_of T (referred T t) x 0 (length C.structs)) Γ L l)
      expr-at (call a es) n Γ h =
          let l : n < most = omega arith in
          at_then (expr-at a (n + 1) Γ (omega arith)) λ f L.
          needs_at (is_kind T f 6) 10 l
          (needs_at (not (is_kind T (referred T f) 3)) 13 l
          (needs_at (eqb (count es) (type_at T f).c) 12 l
          (at_then (exprs_at es (n + 1 + size a) Γ (omega arith)) λ ts M.
          needs_at (arguments_below T C ts (type_at T f).b) 11 l ok_at)))
      expr-at (unary x a) n Γ h =
          let l : n < most = omega arith in
          at_then (expr-at a (n + 1) Γ (omega arith)) λ t L.
          needs_at (is_kind T t (unary_type x)) 10 l ok_at
      expr-at (binary x a b) n Γ h =
          let l : n < most = omega arith in
          at_then (expr-at a (n + 1) Γ (omega arith)) λ t L.
          needs_at (is_equality x || is_kind T t (operand_type x)) 10 l
          (at_then (expr-at b (n + 1 + size a) Γ (omega arith)) λ u M.
          needs_at (is_equality x || is_kind T u (operand_type x)) 10 l
          (needs_at (not (is_equality x) || (is_below T C t u && is_below T C u t)) 11 l ok_at))

      exprs_at : (es : Exprs) (n : ℕ) (Γ : Scope ℕ) → n + sizes es ≤ most → Placed (judges T C es n Γ)
      exprs_at none n Γ h = ok_at
      exprs_at (also a es) n Γ h =
          at_then (expr-at a n Γ (omega arith)) λ t L.
          at_then (exprs_at es (n + size a) Γ (omega arith)) λ ts M.
          ok_at

      inits_at : (is : Inits) (n : ℕ) (Γ : Scope ℕ) → n + size_inits is ≤ most → Placed (judge_inits T C is n Γ)
      inits_at no_init n Γ h = ok_at
      inits_at (init x a is) n Γ h =
          at_then (expr-at a (n + 1) Γ (omega arith)) λ t L.
          at_then (inits_at is (n + 1 + size a) Γ (omega arith)) λ ts M.
          ok_at

    vars_at : (vs : Vars) (n : ℕ) (Γ : Scope ℕ) → n + size_vars vs ≤ most → Placed (execute_vars T C vs n Γ)
    unfolding executing_vars
    vars_at no_var n Γ h = ok_at
    vars_at (next_var x a vs) n Γ h =
        at_then (expr-at a (n + 1) Γ (omega arith)) λ t L.
        needs_at (is_fresh x Γ) 7 (omega arith)
        (at_then (vars_at vs (n + 1 + size a) (binds Γ x t n) (omega arith)) λ Δ M.
        ok_at)

    -- a condition of the wrong sort is refused at its for, n
    condition-at : (c : Condition) (m n : ℕ) (Γ : Scope ℕ) → m + size_condition c ≤ most → n < most → Placed (judge_condition T C c m n Γ)
    unfolding judging_condition
    condition-at no_condition m n Γ h l = ok_at
    condition-at (condition a) m n Γ h l =
        at_then (expr-at a m Γ h) λ t L.
        needs_at (is_kind T t 1) 10 l ok_at

    module _ (rt : ℕ) where
      mutual
        unfolding executing

        stmt-at : (last : Bool) (s : Stmt) (n : ℕ) (Γ : Scope ℕ) → n + size_stmt s ≤ most → Placed (execute T C rt last s n Γ)
        stmt-at last (assign g a) n Γ h =
            let l : n < most = omega arith in
            needs_at (assigns_to C Γ g) 15 l
            (at_then (expr-at (target_expr g) (n + 1) Γ (omega arith)) λ t L.
            at_then (expr-at a (n + 1 + size_target g) Γ (omega arith)) λ u M.
            needs_at (is_below T C u t) 11 l ok_at)
        stmt-at last (var x a) n Γ h =
            let l : n < most = omega arith in
            at_then (expr-at a (n + 1) Γ (omega arith)) λ t L.
            needs_at (is_fresh x Γ) 7 l ok_at
        stmt-at last (return_value a) n Γ h =
            let l : n < most = omega arith in
            needs_at (not (is_kind T rt 3)) 13 l
            (at_then (expr-at a (n + 1) Γ (omega arith)) λ t L.
            needs_at (is_below T C t rt) 11 l ok_at)
        stmt-at last return_void n Γ h = needs_at (is_kind T rt 3) 13 (omega arith) ok_at
        stmt-at last (call_stmt a es) n Γ h =
            let l : n < most = omega arith in
            at_then (expr-at a (n + 1) Γ (omega arith)) λ f L.
            needs_at (is_kind T f 6) 10 l
            (needs_at (is_kind T (referred T f) 3) 13 l
            (needs_at (eqb (count es) (type_at T f).c) 12 l
            (at_then (exprs_at es (n + 1 + size a) Γ (omega arith)) λ ts M.
            needs_at (arguments_below T C ts (type_at T f).b) 11 l ok_at)))
        stmt-at last (if_else a b c) n Γ h =
            at_then (expr-at a (n + 1) Γ (omega arith)) λ t L.
            needs_at (is_kind T t 1) 10 (omega arith)
            (at_then (block-at b (n + 1 + size a) (inner Γ) (omega arith)) λ p M.
            at_then (block-at c (n + 1 + size a + size_block b) (inner Γ) (omega arith)) λ q N.
            ok_at)
        stmt-at last (if_null x t a b c) n Γ h =
            let l : n < most = omega arith in
            at_then (expr-at a (n + 1) Γ (omega arith)) λ u L.
            needs_at (is_kind T u 7) 10 l
            (needs_at (is_below T C (referred T u) t) 11 l
            (at_then (block-at b (n + 1 + size a) (inner (binds (inner Γ) x t n)) (omega arith)) λ p M.
            at_then (block-at c (n + 1 + size a + size_block b) (inner Γ) (omega arith)) λ q N.
            ok_at))
        stmt-at last (for vs c s b) n Γ h =
            at_then (vars_at vs (n + 1) (inner Γ) (omega arith)) λ Δ L.
            at_then (condition-at c (n + 1 + size_vars vs) n Δ (omega arith) (omega arith)) λ Δ₁ M.
            at_then (step-at s (n + 1 + size_vars vs + size_condition c) Δ (omega arith)) λ p N.
            at_then (block-at b (n + 1 + size_vars vs + size_condition c + size_step s) (inner Δ) (omega arith)) λ q O.
            ok_at
        stmt-at last (while a b) n Γ h =
            at_then (expr-at a (n + 1) Γ (omega arith)) λ t L.
            needs_at (is_kind T t 1) 10 (omega arith)
            (at_then (block-at b (n + 1 + size a) (inner Γ) (omega arith)) λ p M.
            ok_at)

        step-at : (s : Step) (n : ℕ) (Γ : Scope ℕ) → n + size_step s ≤ most → Placed (execute_step T C rt s n Γ)
        step-at no_step n Γ h = ok_at
        step-at (step s) n Γ h =
            at_then (stmt-at false s n Γ h) λ d L.
            needs_at (eqb d.mark 0) 14 (omega (arith, some_node s)) ok_at

        block-at : (b : Block) (n : ℕ) (Γ : Scope ℕ) → n + size_block b ≤ most → Placed (execute_block T C rt b n Γ)
        block-at (block ss) n Γ h =
            at_then (all_at ss (n + 1) n 0 Γ (omega arith) (omega arith)) λ p L.
            ok_at

        -- after the statement at `previous`, or in the block there
        all_at : (ss : Stmts) (n previous p : ℕ) (Γ : Scope ℕ) → n + size_stmts ss ≤ most → previous < most → Placed (execute_all T C rt ss n previous p Γ)
        all_at empty n previous p Γ h l = ok_at
        all_at (then s ss) n previous p Γ h l =
            needs_at (eqb p 0) 14 l
            (at_then (stmt-at (is_empty ss) s n Γ (omega arith)) λ d L.
            at_then (all_at ss (n + size_stmt s) n d.mark d.scope (omega arith) (omega (arith, some_node s))) λ q M.
            ok_at)

  -- all that a step may name is below most: its nodes, or its struct or built-in
  unfoldable StepWithin : CheckStep → Type 0
  StepWithin (struct_name i) = i < most
  StepWithin (built_in i) = i < most
  StepWithin (heading n x t) = n < most
  StepWithin (global_value n x a) = n + (1 + size a) ≤ most
  StepWithin (struct_fields i) = i < most
  StepWithin (body n t ps b) = n + (1 + length ps + size_block b) ≤ most

  check_at : (T : Tables) (C : Context ℕ) (s : CheckStep) → StepWithin s → Placed (run_step T C s)
  unfolding stepping StepWithin
  check_at T C (struct_name i) h = needs_at (is_missing (lookup C.structs (struct_at T i).name)) 7 h ok_at
  check_at T C (built_in i) h =
      needs_at (formed T C (built_in_at T i).type) 9 h
      (needs_at (is_miss (find_name (built_in_at T i).name C.names)) 7 h ok_at)
  check_at T C (heading n x t) h =
      needs_at (formed T C t) 9 h
      (needs_at (is_miss (find_name x C.names)) 7 h ok_at)
  check_at T C (global_value n x a) h =
      at_then (expr-at T C a (n + 1) empty_scope (omega arith)) λ t L.
      needs_at (is_miss (find_name x C.names)) 7 (omega arith) ok_at
  check_at T C (struct_fields i) h =
      needs_at (fields_formed C (struct_of T i).fields) 9 h
      (needs_at (distinct_fields (struct_of T i).fields) 7 h ok_at)
  check_at T C (body n t ps b) h =
      let l : n < most = omega arith in
      needs_at (distinct_names ps) 7 l
      (at_then (block-at T C (referred T t) b (n + 1 + length ps) (parameters (λ a. a) T empty_scope (type_at T t).b (n + 1) ps) (omega arith)) λ p L.
      needs_at (eqb p 1) 14 l ok_at)

  -- the same of steps together
  data Within : List CheckStep → Type 0 where
    none_within : Within []
    step_within : {s : CheckStep} {ss : List CheckStep} → StepWithin s → Within ss → Within (s ∷ ss)

  within_append : {ss us : List CheckStep} → Within ss → Within us → Within (ss ++ us)
  within_append none_within w = w
  within_append (step_within h v) w = step_within h (within_append v w)

  within_plain : (n : ℕ) (f : ℕ → CheckStep) → ((i : ℕ) → i < n → StepWithin (f i)) → Within (tabulate n f)
  unfolding tabulate
  within_plain zero f v = none_within
  within_plain (suc n) f v = step_within (v 0 (omega arith)) (within_plain n (λ i. f (suc i)) (λ i h. v (suc i) (omega arith)))

  within_headings : (n : ℕ) (ds : List Decl) → n + size_decls ds ≤ most → Within (headings n ds)
  unfolding headings StepWithin
  within_headings n [] h = none_within
  within_headings n (global x a ∷ ds) h = within_headings (n + size_decl (global x a)) ds (omega arith)
  within_headings n (function x t ps b ∷ ds) h =
      step_within {s = heading n x t} (omega arith) (within_headings (n + size_decl (function x t ps b)) ds (omega arith))

  within_globals : (n : ℕ) (ds : List Decl) → n + size_decls ds ≤ most → Within (globals n ds)
  unfolding globals StepWithin
  within_globals n [] h = none_within
  within_globals n (global x a ∷ ds) h =
      step_within {s = global_value n x a} (omega arith) (within_globals (n + size_decl (global x a)) ds (omega arith))
  within_globals n (function x t ps b ∷ ds) h = within_globals (n + size_decl (function x t ps b)) ds (omega arith)

  within_bodies : (n : ℕ) (ds : List Decl) → n + size_decls ds ≤ most → Within (bodies n ds)
  unfolding bodies StepWithin
  within_bodies n [] h = none_within
  within_bodies n (global x a ∷ ds) h = within_bodies (n + size_decl (global x a)) ds (omega arith)
  within_bodies n (function x t ps b ∷ ds) h =
      step_within {s = body n t ps b} (omega arith) (within_bodies (n + size_decl (function x t ps b)) ds (omega arith))

  steps_within : (p : Program) → length p.tables.structs ≤ most → length p.tables.built_ins ≤ most → size_decls p.declarations ≤ most → Within (steps_of p)
  unfolding steps_of StepWithin
  steps_within p s b d =
      within_append (within_plain (length p.tables.structs) struct_name (λ i h. omega arith))
      (within_append (within_plain (length p.tables.built_ins) built_in (λ i h. omega arith))
      (within_append (within_headings 0 p.declarations (omega arith))
      (within_append (within_globals 0 p.declarations (omega arith))
      (within_append (within_plain (length p.tables.structs) struct_fields (λ i h. omega arith)) (within_bodies 0 p.declarations (omega arith))))))

  -- the same of a run
  data RanPlaced : Ran → Type 0 where
    accepted_at : {gs : List Segment} {k : ℕ} → RanPlaced (accepted gs k)
    refused_at : {p k q : ℕ} → q < most → RanPlaced (refused p k q)

  segment-at : (g : Segment) {r : Ran} → RanPlaced r → RanPlaced (with_segment g r)
  segment-at g accepted_at = accepted_at
  segment-at g (refused_at h) = refused_at h

  on_at : (k : ℕ) {o : Out (Context ℕ)} {f : Context ℕ → List (Label ℕ) → Ran} → Placed o → ((C : Context ℕ) (L : List (Label ℕ)) → RanPlaced (f C L)) → RanPlaced (on_step o k f)
  on_at k ok_at f = f _ _
  on_at k (no_at h) f = refused_at h

  run_at : (T : Tables) {ss : List CheckStep} → Within ss → (C : Context ℕ) (k : ℕ) → RanPlaced (run T C ss k)
  unfolding run
  run_at T none_within C k = accepted_at
  run_at T (step_within {s = s} h w) C k = on_at k (check_at T C s h) λ E L. segment-at _ (run_at T w E (suc k))

  -- what that says of a refusal
  place_at : {m j q : ℕ} → RanPlaced (refused m j q) → q < most
  place_at (refused_at h) = h

pub refused_place : (p : Program) (most : ℕ) → length p.tables.structs ≤ most → length p.tables.built_ins ≤ most → size_decls p.declarations ≤ most
    → (m j q : ℕ) → run_of p ≡ refused m j q → q < most
refused_place p most s b d m j q e = place_at most (subst (RanPlaced most) e (run_at most p.tables (steps_within most p s b d) empty_context 0))

-- each group of declarations has at most as many steps as nodes
few_headings : (n : ℕ) (ds : List Decl) → length (headings n ds) ≤ size_decls ds
unfolding headings
few_headings n [] = omega arith
few_headings n (global x a ∷ ds) = omega (arith, few_headings (n + size_decl (global x a)) ds)
few_headings n (function x t ps b ∷ ds) = omega (arith, few_headings (n + size_decl (function x t ps b)) ds)

few_globals : (n : ℕ) (ds : List Decl) → length (globals n ds) ≤ size_decls ds
unfolding globals
few_globals n [] = omega arith
few_globals n (global x a ∷ ds) = omega (arith, few_globals (n + size_decl (global x a)) ds)
few_globals n (function x t ps b ∷ ds) = omega (arith, few_globals (n + size_decl (function x t ps b)) ds)

few_bodies : (n : ℕ) (ds : List Decl) → length (bodies n ds) ≤ size_decls ds
unfolding bodies
few_bodies n [] = omega arith
few_bodies n (global x a ∷ ds) = omega (arith, few_bodies (n + size_decl (global x a)) ds)
few_bodies n (function x t ps b ∷ ds) = omega (arith, few_bodies (n + size_decl (function x t ps b)) ds)

few_steps : (p : Program) → length (steps_of p) ≤ 2 * length p.tables.structs + length p.tables.built_ins + 3 * size_decls p.declarations
unfolding steps_of
few_steps p =
    simp (length-append, tabulate_long)
    (omega (arith, few_headings 0 p.declarations, few_globals 0 p.declarations, few_bodies 0 p.declarations))

-- so a file has few steps
file_steps : (bytes : List ℕ) (p : Program) → IsFile widest bytes p → length (steps_of p) < 65535
file_steps bytes p f = omega (arith, few_steps p, f.used_up, f.counts.structs, f.counts.built_ins, f.counts.nodes)

pub refused_fits : (bytes : List ℕ) (p : Program) → IsFile widest bytes p → (m j q : ℕ) → run_of p ≡ refused m j q → (m ≤ 16) × (j < 65535) × (q < 65535)
refused_fits bytes p f m j q e =
    let (least, most) = refused_number p m j q e in
    let within = (refused_step p (fits bytes p f) m j q e).0 in
    let c = f.counts in
    let place = refused_place p 4096 (omega (arith, c.structs)) (omega (arith, c.built_ins)) (omega (arith, f.used_up, c.nodes)) m j q e in
    (omega arith, omega (arith, file_steps bytes p f), omega arith)

pub accepted_fits : (bytes : List ℕ) (p : Program) → IsFile widest bytes p → (gs : List Segment) (k : ℕ) → run_of p ≡ accepted gs k → k < 65535
accepted_fits bytes p f gs k e =
    let all = (accepted_derives p (fits bytes p f) gs k e).0 in
    omega (arith, file_steps bytes p f)
