-- The pairs that the check compares: at most 1,200 a node (document 02, (viii)). A node asks at most two questions of its own, and its
-- parent asks at most one about it; each compares at most 399 pairs, since types have at most 200 parts. Assumes nothing.
use mathlib.Core.Path.{◌≡◌, refl, ap, sym, subst, ◌∙◌}
use mathlib.Core.Bool.{Bool, true, false, not, ◌||◌}
use mathlib.Core.List.{List, [], ◌∷◌, ◌++◌}
use Prim.Native.Nat.{ℕ, zero, suc, ◌+◌, ◌*◌, ◌≤◌}
use native.Mathlib.Nat.{zero-add}
use native.Mathlib.Omega.{arith}
use lib.ListN.{length, get_or-eq_default}
use lib.Dec.{eqb, ltb}
use borrow.Author.Tests.{ltb-true, ltb-false}
use Rattle.oat.specs.Basics.{pick, tabulate}
use Rattle.oat.specs.Tables.{Tables, TypeRecord, type_at, entry_at, struct_at, built_in_at}
use Rattle.oat.specs.TypeRules.{kind_at}
use Rattle.oat.specs.Types.{Ty, type_of, Field, struct_of, structs_of, Lookup, found, missing, lookup}
use Rattle.oat.specs.Pairs.{parts_ty}
use Rattle.oat.specs.Syntax.{Expr, null, literal, name, array_literal, default_array, array_with, index, length_of, struct_literal, field, call, unary, binary, Exprs, none, also, count, Inits, no_init, init, count_inits, target_expr, Vars, no_var, next_var, Condition, no_condition, condition, Stmt, assign, var, return_value, return_void, call_stmt, if_else, if_null, for, while, Step, no_step, step, Block, block, Stmts, empty, then, Decl, global, function, size, sizes, size_inits, size_target, size_vars, size_condition, size_step, size_block, size_stmt, size_stmts, size_decl, size_decls}
use Rattle.oat.specs.ProgramFile.{Program}
use Rattle.oat.proofs.LawsTypes.{TypesFormed}
use Rattle.oat.proofs.LawsWritten.{type_int}
use Rattle.oat.proofs.LawsPairs.{below_most}
use Rattle.oat.proofs.LawsPartsWritten.{parts_written}
use Rattle.typing_rules.specs.Contexts.{Scope, empty as empty_scope, binds, inner, is_miss, is_fresh, Context, find_name}
use Rattle.typing_rules.specs.Labels.{Label}
use Rattle.typing_rules.specs.Operators.{is_equality, operand_type, unary_type}
use Rattle.typing_rules.specs.Rules.{Member, has, lacks, member, names_fit}
use Rattle.typing_rules.specs.Derivations.{is_empty}
use Rattle.typing_rules.specs.Judge.{Out, ok, no, pairs_after, is_kind, referred, is_below, formed, has_default, asked, each_asked, each_below, arguments_asked, arguments_below, equal_asked, pairs_declared, member_asked, is_below_member, inits_asked, inits_below, judging, judging_all, judging_inits, assigns_to, executing_vars, judging_condition, executing, executing_step, executing_block, executing_all, judge, judges, judge_inits, execute_vars, judge_condition, execute, execute_step, execute_block, execute_all}
use Rattle.typing_rules.specs.Steps.{Step as CheckStep, struct_name, built_in, heading, global_value, struct_fields, body, headings, globals, bodies, steps_of, distinct_fields, distinct_names, empty_context}
use Rattle.typing_rules.specs.Check.{is_missing, fields_formed, stepping, run_step, node_count, Ran, accepted, refused, run_pairs, answer_of, check_of}
use Rattle.typing_rules.proofs.Claims.{File, ContextFits}
use Rattle.typing_rules.proofs.LawsFields.{member_in, member_is, from_number}
use Rattle.typing_rules.proofs.LawsOutcome.{ok_is, then_ok}
use Rattle.typing_rules.proofs.LawsSteps.{parameter_scope, sound_step}
use Rattle.typing_rules.proofs.LawsRuns.{Fitting, fit_step}
use Rattle.typing_rules.proofs.Theorem.{Fits, run_of, empty_fits, trees}

-- no type has more than 200 parts, by its number or as a field of a declared struct
pub record FewParts (T : Tables) (C : Context ℕ) : Type 0 where
  pub types : (i : ℕ) → parts_ty (type_of T i) ≤ 200
  pub fields : (s x : ℕ) (fs : List Field) (u : Ty) → lookup C.structs s ≡ found fs → member x fs ≡ has u → parts_ty u ≤ 200

module _ (T : Tables) (F : TypesFormed 200 T) where
  -- past the table stands int's record
  few_at : (i : ℕ) → parts_ty (type_of T i) ≤ 200
  unfolding parts_ty
  few_at i = go (ltb i (length T.types)) refl
    where
      go : (b : Bool) → ltb i (length T.types) ≡ b → parts_ty (type_of T i) ≤ 200
      go true e = let l = ltb-true i (length T.types) e in omega (arith, parts_written T F i l, F.few i l)
      go false e =
          let past : kind_at T i ≡ 0 = ap (λ (r : TypeRecord). r.kind) (get_or-eq_default T.types _ (ltb-false i (length T.types) e)) in
          omega (arith, ap parts_ty (type_int T i past))

  pub few_parts : (C : Context ℕ) (k : ℕ) → C.structs ≡ structs_of T k → FewParts T C
  unfolding member_in structs_of
  few_parts C k e = record {
    types = few_at;
    fields = λ s x fs u l m.
        let is = ap (λ H. member_in x (lookup H s)) e ∙ member_is T s x (struct_of T) 0 k (λ j. ap (struct_of T) (sym (zero-add j))) in
        let (a, n, t) = from_number T u _ (sym is ∙ ap (member_in x) l ∙ m) in
        omega (arith, ap parts_ty t, few_at a);
  }

pick_most : (b : Bool) (n : ℕ) → pick b n 0 ≤ n
pick_most true n = omega arith
pick_most false n = omega arith

-- questions
module _ {T : Tables} {C : Context ℕ} (few : FewParts T C) where
  pub asked_most : (t u : ℕ) → (asked T C t u).pairs ≤ 399
  asked_most t u = omega (arith, below_most C.structs (type_of T t) (type_of T u), few.types t, few.types u)

  pub member_most : (s x : ℕ) (fs : List Field) → lookup C.structs s ≡ found fs → (t : ℕ) → (member_asked T C t (member x fs)).pairs ≤ 399
  member_most s x fs l t = go (member x fs) refl
    where
      go : (m : Member) → member x fs ≡ m → (member_asked T C t m).pairs ≤ 399
      go lacks e = omega arith
      go (has u) e = omega (arith, below_most C.structs (type_of T t) u, few.types t, few.fields s x fs u l e)

  pub each_most : (ts : List ℕ) (u : ℕ) → (each_asked T C ts u).pairs ≤ 400 * length ts
  unfolding each_asked
  each_most [] u = omega arith
  each_most (t ∷ ts) u = omega (arith, asked_most t u, pick_most (is_below T C t u) (each_asked T C ts u).pairs, each_most ts u)

  pub arguments_most : (ts : List ℕ) (p : ℕ) → (arguments_asked T C ts p).pairs ≤ 400 * length ts
  unfolding arguments_asked
  arguments_most [] p = omega arith
  arguments_most (t ∷ ts) p =
      omega (arith, asked_most t (entry_at T p), pick_most (is_below T C t (entry_at T p)) (arguments_asked T C ts (suc p)).pairs, arguments_most ts (suc p))

  pub inits_most : (s : ℕ) (fs : List Field) → lookup C.structs s ≡ found fs → (is : Inits) (ts : List ℕ) → (inits_asked T C fs is ts).pairs ≤ 400 * length ts
  unfolding inits_asked
  inits_most s fs l no_init ts = omega arith
  inits_most s fs l (init x a is) [] = omega arith
  inits_most s fs l (init x a is) (t ∷ ts) =
      omega (
        arith,
        member_most s x fs l t,
        pick_most (is_below_member T C t (member x fs)) (inits_asked T C fs is ts).pairs,
        inits_most s fs l is ts,
      )

  equal_most : (x t u : ℕ) → (equal_asked T C x t u).pairs ≤ 798
  equal_most x t u =
      omega (
        arith,
        pick_most (is_equality x) ((asked T C t u).pairs + pick (is_below T C t u) (asked T C u t).pairs 0),
        pick_most (is_below T C t u) (asked T C u t).pairs,
        asked_most t u,
        asked_most u t,
      )

-- a list of expressions has as many types
module _ (T : Tables) (C : Context ℕ) where
  pub list_length : (es : Exprs) (n : ℕ) (Γ : Scope ℕ) (ts : List ℕ) (L : List (Label ℕ)) → judges T C es n Γ ≡ ok ts L → length ts ≡ count es
  unfolding judging
  list_length none n Γ ts L e = ok_is (λ us M. length us ≡ 0) e refl
  list_length (also a es) n Γ ts L e =
      then_ok (judge T C a n Γ) _ e λ t M i k.
      then_ok (judges T C es (n + size a) Γ) _ k λ us N j r.
      ok_is (λ vs O. length vs ≡ 1 + count es) r (omega (arith, list_length es (n + size a) Γ us N j))

  pub inits_length : (is : Inits) (n : ℕ) (Γ : Scope ℕ) (ts : List ℕ) (L : List (Label ℕ)) → judge_inits T C is n Γ ≡ ok ts L → length ts ≡ count_inits is
  unfolding judging
  inits_length no_init n Γ ts L e = ok_is (λ us M. length us ≡ 0) e refl
  inits_length (init x a is) n Γ ts L e =
      then_ok (judge T C a (n + 1) Γ) _ e λ t M i k.
      then_ok (judge_inits T C is (n + 1 + size a) Γ) _ k λ us N j r.
      ok_is (λ vs O. length vs ≡ 1 + count_inits is) r (omega (arith, inits_length is (n + 1 + size a) Γ us N j))

-- the parts of the definitions one after another: s pairs came before, and all keep to c
then_most : {A : Type 0} (o : Out A) (k : A → List (Label ℕ) → ℕ) (m s c : ℕ) → m + s ≤ c
    → ((a : A) (L : List (Label ℕ)) → o ≡ ok a L → k a L + (m + s) ≤ c) → m + pairs_after o k + s ≤ c
then_most (ok a L) k m s c h f = omega (arith, f a L refl)
then_most (no p q) k m s c h f = omega arith

requires_most : (b : Bool) (m s c : ℕ) → m + s ≤ c → pick b m 0 + s ≤ c
requires_most b m s c h = omega (arith, pick_most b m)

asks_most : (b : Bool) (p m s c : ℕ) → m + (p + s) ≤ c → p + pick b m 0 + s ≤ c
asks_most b p m s c h = omega (arith, pick_most b m)

declared_most : (l : Lookup) (k : List Field → ℕ) (s c : ℕ) → s ≤ c → ((fs : List Field) → l ≡ found fs → k fs + s ≤ c) → pairs_declared l k + s ≤ c
declared_most missing k s c h f = omega arith
declared_most (found fs) k s c h f = f fs refl

from_none : (m c : ℕ) → m + 0 ≤ c → m ≤ c
from_none m c h = omega arith

-- expressions: 400 are left for the question in which the parent asks about one
module _ {T : Tables} {C : Context ℕ} (few : FewParts T C) where
  mutual
    unfolding judging

    pub expr_pairs : (e : Expr) (n : ℕ) (Γ : Scope ℕ) → (judging T C e n Γ).pairs + 400 ≤ 1200 * size e
    expr_pairs (null t) n Γ = requires_most (formed T C t) _ _ _ (omega arith)
    expr_pairs (literal l) n Γ = omega arith
    expr_pairs (name x) n Γ = omega arith
    expr_pairs (array_literal t es) n Γ =
        let i = exprs_pairs es (n + 1) Γ in
        requires_most (formed T C (referred T t)) _ _ _
        (then_most (judges T C es (n + 1) Γ) _ _ _ _ (omega arith) λ ts L e.
        asks_most (each_below T C ts (referred T t)) _ _ _ _
        (omega (arith, each_most few ts (referred T t), list_length T C es (n + 1) Γ ts L e)))
    expr_pairs (default_array t a) n Γ =
        let i = expr_pairs a (n + 1) Γ in
        requires_most (formed T C (referred T t)) _ _ _
        (then_most (judge T C a (n + 1) Γ) _ _ _ _ (omega arith) λ u L e.
        requires_most (is_kind T u 0) _ _ _
        (requires_most (has_default T (referred T t)) _ _ _ (omega arith)))
    expr_pairs (array_with t x a b) n Γ =
        let i = expr_pairs a (n + 1) Γ in
        let j = expr_pairs b (n + 1 + size a) (binds (inner Γ) x 0 n) in
        requires_most (formed T C (referred T t)) _ _ _
        (then_most (judge T C a (n + 1) Γ) _ _ _ _ (omega arith) λ u L e.
        requires_most (is_kind T u 0) _ _ _
        (then_most (judge T C b (n + 1 + size a) (binds (inner Γ) x 0 n)) _ _ _ _ (omega arith) λ v M f.
        asks_most (is_below T C v (referred T t)) _ _ _ _ (omega (arith, asked_most few v (referred T t)))))
    expr_pairs (index a b) n Γ =
        let i = expr_pairs a (n + 1) Γ in
        let j = expr_pairs b (n + 1 + size a) Γ in
        then_most (judge T C a (n + 1) Γ) _ _ _ _ (omega arith) λ t L e.
        requires_most (is_kind T t 5) _ _ _
        (then_most (judge T C b (n + 1 + size a) Γ) _ _ _ _ (omega arith) λ u M f.
        requires_most (is_kind T u 0) _ _ _ (omega arith))
    expr_pairs (length_of a) n Γ =
        let i = expr_pairs a (n + 1) Γ in
        then_most (judge T C a (n + 1) Γ) _ _ _ _ (omega arith) λ t L e.
        requires_most (is_kind T t 5) _ _ _ (omega arith)
    expr_pairs (struct_literal t is) n Γ =
        let i = inits_pairs is (n + 1) Γ in
        declared_most (lookup C.structs (referred T t)) _ _ _ (omega arith) λ fs l.
        requires_most (names_fit fs is) _ _ _
        (then_most (judge_inits T C is (n + 1) Γ) _ _ _ _ (omega arith) λ ts L e.
        asks_most (inits_below T C fs is ts) _ _ _ _
        (omega (arith, inits_most few (referred T t) fs l is ts, inits_length T C is (n + 1) Γ ts L e)))
    expr_pairs (field x a) n Γ =
        let i = expr_pairs a (n + 1) Γ in
        then_most (judge T C a (n + 1) Γ) _ _ _ _ (omega arith) λ t L e.
        requires_most (is_kind T t 4) _ _ _ (omega arith)
    expr_pairs (call a es) n Γ =
        let i = expr_pairs a (n + 1) Γ in
        let j = exprs_pairs es (n + 1 + size a) Γ in
        then_most (judge T C a (n + 1) Γ) _ _ _ _ (omega arith) λ f L e.
        requires_most (is_kind T f 6) _ _ _
        (requires_most (not (is_kind T (referred T f) 3)) _ _ _
        (requires_most (eqb (count es) (type_at T f).c) _ _ _
        (then_most (judges T C es (n + 1 + size a) Γ) _ _ _ _ (omega arith) λ ts M g.
        asks_most (arguments_below T C ts (type_at T f).b) _ _ _ _
        (omega (arith, arguments_most few ts (type_at T f).b, list_length T C es (n + 1 + size a) Γ ts M g)))))
    expr_pairs (unary x a) n Γ =
        let i = expr_pairs a (n + 1) Γ in
        then_most (judge T C a (n + 1) Γ) _ _ _ _ (omega arith) λ t L e.
        requires_most (is_kind T t (unary_type x)) _ _ _ (omega arith)
    expr_pairs (binary x a b) n Γ =
        let i = expr_pairs a (n + 1) Γ in
        let j = expr_pairs b (n + 1 + size a) Γ in
        then_most (judge T C a (n + 1) Γ) _ _ _ _ (omega arith) λ t L e.
        requires_most (is_equality x || is_kind T t (operand_type x)) _ _ _
        (then_most (judge T C b (n + 1 + size a) Γ) _ _ _ _ (omega arith) λ u M f.
        requires_most (is_equality x || is_kind T u (operand_type x)) _ _ _
        (asks_most (equal_asked T C x t u).holds _ _ _ _ (omega (arith, equal_most few x t u))))

    pub exprs_pairs : (es : Exprs) (n : ℕ) (Γ : Scope ℕ) → (judging_all T C es n Γ).pairs + 400 * count es ≤ 1200 * sizes es
    exprs_pairs none n Γ = omega arith
    exprs_pairs (also a es) n Γ =
        let i = expr_pairs a n Γ in
        let j = exprs_pairs es (n + size a) Γ in
        then_most (judge T C a n Γ) _ _ _ _ (omega arith) λ t L e.
        then_most (judges T C es (n + size a) Γ) _ _ _ _ (omega arith) λ ts M f.
        omega arith

    pub inits_pairs : (is : Inits) (n : ℕ) (Γ : Scope ℕ) → (judging_inits T C is n Γ).pairs + 400 * count_inits is ≤ 1200 * size_inits is
    inits_pairs no_init n Γ = omega arith
    inits_pairs (init x a is) n Γ =
        let i = expr_pairs a (n + 1) Γ in
        let j = inits_pairs is (n + 1 + size a) Γ in
        then_most (judge T C a (n + 1) Γ) _ _ _ _ (omega arith) λ t L e.
        then_most (judge_inits T C is (n + 1 + size a) Γ) _ _ _ _ (omega arith) λ ts M f.
        omega arith

  -- statements
  pub vars_pairs : (vs : Vars) (n : ℕ) (Γ : Scope ℕ) → (executing_vars T C vs n Γ).pairs ≤ 1200 * size_vars vs
  unfolding executing_vars
  vars_pairs no_var n Γ = omega arith
  vars_pairs (next_var x a vs) n Γ =
      let i = expr_pairs a (n + 1) Γ in
      from_none _ _
      (then_most (judge T C a (n + 1) Γ) _ _ _ _ (omega arith) λ t L e.
      let j = vars_pairs vs (n + 1 + size a) (binds Γ x t n) in
      requires_most (is_fresh x Γ) _ _ _
      (then_most (execute_vars T C vs (n + 1 + size a) (binds Γ x t n)) _ _ _ _ (omega arith) λ Δ M f.
      omega arith))

  pub condition_pairs : (c : Condition) (m n : ℕ) (Γ : Scope ℕ) → (judging_condition T C c m n Γ).pairs ≤ 1200 * size_condition c
  unfolding judging_condition
  condition_pairs no_condition m n Γ = omega arith
  condition_pairs (condition a) m n Γ =
      let i = expr_pairs a m Γ in
      from_none _ _
      (then_most (judge T C a m Γ) _ _ _ _ (omega arith) λ t L e.
      requires_most (is_kind T t 1) _ _ _ (omega arith))

  module _ (rt : ℕ) where
    mutual
      unfolding executing

      pub stmt_pairs : (last : Bool) (s : Stmt) (n : ℕ) (Γ : Scope ℕ) → (executing T C rt last s n Γ).pairs ≤ 1200 * size_stmt s
      stmt_pairs last (assign g a) n Γ =
          let i = expr_pairs (target_expr g) (n + 1) Γ in
          let j = expr_pairs a (n + 1 + size_target g) Γ in
          from_none _ _
          (requires_most (assigns_to C Γ g) _ _ _
          (then_most (judge T C (target_expr g) (n + 1) Γ) _ _ _ _ (omega arith) λ t L e.
          then_most (judge T C a (n + 1 + size_target g) Γ) _ _ _ _ (omega arith) λ u M f.
          asks_most (is_below T C u t) _ _ _ _ (omega (arith, asked_most few u t))))
      stmt_pairs last (var x a) n Γ =
          let i = expr_pairs a (n + 1) Γ in
          from_none _ _
          (then_most (judge T C a (n + 1) Γ) _ _ _ _ (omega arith) λ t L e.
          requires_most (is_fresh x Γ) _ _ _ (omega arith))
      stmt_pairs last (return_value a) n Γ =
          let i = expr_pairs a (n + 1) Γ in
          from_none _ _
          (requires_most (not (is_kind T rt 3)) _ _ _
          (then_most (judge T C a (n + 1) Γ) _ _ _ _ (omega arith) λ t L e.
          asks_most (is_below T C t rt) _ _ _ _ (omega (arith, asked_most few t rt))))
      stmt_pairs last return_void n Γ = from_none _ _ (requires_most (is_kind T rt 3) _ _ _ (omega arith))
      stmt_pairs last (call_stmt a es) n Γ =
          let i = expr_pairs a (n + 1) Γ in
          let j = exprs_pairs es (n + 1 + size a) Γ in
          from_none _ _
          (then_most (judge T C a (n + 1) Γ) _ _ _ _ (omega arith) λ f L e.
          requires_most (is_kind T f 6) _ _ _
          (requires_most (is_kind T (referred T f) 3) _ _ _
          (requires_most (eqb (count es) (type_at T f).c) _ _ _
          (then_most (judges T C es (n + 1 + size a) Γ) _ _ _ _ (omega arith) λ ts M g.
          asks_most (arguments_below T C ts (type_at T f).b) _ _ _ _
          (omega (arith, arguments_most few ts (type_at T f).b, list_length T C es (n + 1 + size a) Γ ts M g))))))
      stmt_pairs last (if_else a b c) n Γ =
          let i = expr_pairs a (n + 1) Γ in
          let j = block_pairs b (n + 1 + size a) (inner Γ) in
          let k = block_pairs c (n + 1 + size a + size_block b) (inner Γ) in
          from_none _ _
          (then_most (judge T C a (n + 1) Γ) _ _ _ _ (omega arith) λ t L e.
          requires_most (is_kind T t 1) _ _ _
          (then_most (execute_block T C rt b (n + 1 + size a) (inner Γ)) _ _ _ _ (omega arith) λ p M f.
          then_most (execute_block T C rt c (n + 1 + size a + size_block b) (inner Γ)) _ _ _ _ (omega arith) λ q N g.
          omega arith))
      stmt_pairs last (if_null x t a b c) n Γ =
          let i = expr_pairs a (n + 1) Γ in
          let j = block_pairs b (n + 1 + size a) (inner (binds (inner Γ) x t n)) in
          let k = block_pairs c (n + 1 + size a + size_block b) (inner Γ) in
          from_none _ _
          (then_most (judge T C a (n + 1) Γ) _ _ _ _ (omega arith) λ u L e.
          let m = asked_most few (referred T u) t in
          requires_most (is_kind T u 7) _ _ _
          (asks_most (is_below T C (referred T u) t) _ _ _ _
          (then_most (execute_block T C rt b (n + 1 + size a) (inner (binds (inner Γ) x t n))) _ _ _ _ (omega arith) λ p M f.
          then_most (execute_block T C rt c (n + 1 + size a + size_block b) (inner Γ)) _ _ _ _ (omega arith) λ q N g.
          omega arith)))
      stmt_pairs last (for vs c s b) n Γ =
          let i = vars_pairs vs (n + 1) (inner Γ) in
          from_none _ _
          (then_most (execute_vars T C vs (n + 1) (inner Γ)) _ _ _ _ (omega arith) λ Δ L e.
          let j = condition_pairs c (n + 1 + size_vars vs) n Δ in
          let k = step_pairs s (n + 1 + size_vars vs + size_condition c) Δ in
          let l = block_pairs b (n + 1 + size_vars vs + size_condition c + size_step s) (inner Δ) in
          then_most (judge_condition T C c (n + 1 + size_vars vs) n Δ) _ _ _ _ (omega arith) λ Δ₁ M f.
          then_most (execute_step T C rt s (n + 1 + size_vars vs + size_condition c) Δ) _ _ _ _ (omega arith) λ p N g.
          then_most (execute_block T C rt b (n + 1 + size_vars vs + size_condition c + size_step s) (inner Δ)) _ _ _ _ (omega arith) λ q O h.
          omega arith)
      stmt_pairs last (while a b) n Γ =
          let i = expr_pairs a (n + 1) Γ in
          let j = block_pairs b (n + 1 + size a) (inner Γ) in
          from_none _ _
          (then_most (judge T C a (n + 1) Γ) _ _ _ _ (omega arith) λ t L e.
          requires_most (is_kind T t 1) _ _ _
          (then_most (execute_block T C rt b (n + 1 + size a) (inner Γ)) _ _ _ _ (omega arith) λ p M f.
          omega arith))

      pub step_pairs : (s : Step) (n : ℕ) (Γ : Scope ℕ) → (executing_step T C rt s n Γ).pairs ≤ 1200 * size_step s
      step_pairs no_step n Γ = omega arith
      step_pairs (step s) n Γ =
          let i = stmt_pairs false s n Γ in
          from_none _ _
          (then_most (execute T C rt false s n Γ) _ _ _ _ (omega arith) λ d L e.
          requires_most (eqb d.mark 0) _ _ _ (omega arith))

      pub block_pairs : (b : Block) (n : ℕ) (Γ : Scope ℕ) → (executing_block T C rt b n Γ).pairs ≤ 1200 * size_block b
      block_pairs (block ss) n Γ =
          let i = stmts_pairs ss (n + 1) n 0 Γ in
          from_none _ _
          (then_most (execute_all T C rt ss (n + 1) n 0 Γ) _ _ _ _ (omega arith) λ p L e.
          omega arith)

      pub stmts_pairs : (ss : Stmts) (n previous p : ℕ) (Γ : Scope ℕ) → (executing_all T C rt ss n previous p Γ).pairs ≤ 1200 * size_stmts ss
      stmts_pairs empty n previous p Γ = omega arith
      stmts_pairs (then s ss) n previous p Γ =
          let i = stmt_pairs (is_empty ss) s n Γ in
          from_none _ _
          (requires_most (eqb p 0) _ _ _
          (then_most (execute T C rt (is_empty ss) s n Γ) _ _ _ _ (omega arith) λ d L e.
          let j = stmts_pairs ss (n + size_stmt s) n d.mark d.scope in
          then_most (execute_all T C rt ss (n + size_stmt s) n d.mark d.scope) _ _ _ _ (omega arith) λ q M f.
          omega arith))

  -- steps
  pub stepping_pairs : (s : CheckStep) → (stepping T C s).pairs ≤ 1200 * node_count s
  unfolding stepping
  stepping_pairs (struct_name i) = from_none _ _ (requires_most (is_missing (lookup C.structs (struct_at T i).name)) _ _ _ (omega arith))
  stepping_pairs (built_in i) =
      from_none _ _
      (requires_most (formed T C (built_in_at T i).type) _ _ _
      (requires_most (is_miss (find_name (built_in_at T i).name C.names)) _ _ _ (omega arith)))
  stepping_pairs (heading n x t) =
      from_none _ _
      (requires_most (formed T C t) _ _ _
      (requires_most (is_miss (find_name x C.names)) _ _ _ (omega arith)))
  stepping_pairs (global_value n x a) =
      let i = expr_pairs a (n + 1) empty_scope in
      from_none _ _
      (then_most (judge T C a (n + 1) empty_scope) _ _ _ _ (omega arith) λ t L e.
      requires_most (is_miss (find_name x C.names)) _ _ _ (omega arith))
  stepping_pairs (struct_fields i) =
      from_none _ _
      (requires_most (fields_formed C (struct_of T i).fields) _ _ _
      (requires_most (distinct_fields (struct_of T i).fields) _ _ _ (omega arith)))
  stepping_pairs (body n t ps b) =
      let i = block_pairs (referred T t) b (n + 1 + length ps) (parameter_scope T n t ps) in
      from_none _ _
      (requires_most (distinct_names ps) _ _ _
      (then_most (execute_block T C (referred T t) b (n + 1 + length ps) (parameter_scope T n t ps)) _ _ _ _ (omega arith) λ p L e.
      requires_most (eqb p 1) _ _ _ (omega arith)))

-- how many nodes steps have
abbrev pub step_nodes : List CheckStep → ℕ
step_nodes [] = 0
step_nodes (s ∷ ss) = node_count s + step_nodes ss

nodes_append : (xs ys : List CheckStep) → step_nodes (xs ++ ys) ≡ step_nodes xs + step_nodes ys
nodes_append [] ys = omega arith
nodes_append (x ∷ xs) ys = omega (arith, nodes_append xs ys)

nodes_none : (n : ℕ) (f : ℕ → CheckStep) → ((i : ℕ) → node_count (f i) ≡ 0) → step_nodes (tabulate n f) ≡ 0
unfolding tabulate
nodes_none zero f e = refl
nodes_none (suc n) f e = omega (arith, e 0, nodes_none n (λ i. f (suc i)) (λ i. e (suc i)))

nodes_headings : (n : ℕ) (ds : List Decl) → step_nodes (headings n ds) ≡ 0
unfolding headings
nodes_headings n [] = refl
nodes_headings n (global x a ∷ ds) = nodes_headings (n + size_decl (global x a)) ds
nodes_headings n (function x t ps b ∷ ds) = omega (arith, nodes_headings (n + size_decl (function x t ps b)) ds)

nodes_decls : (n : ℕ) (ds : List Decl) → step_nodes (globals n ds) + step_nodes (bodies n ds) ≡ size_decls ds
unfolding globals bodies
nodes_decls n [] = refl
nodes_decls n (global x a ∷ ds) = omega (arith, nodes_decls (n + size_decl (global x a)) ds)
nodes_decls n (function x t ps b ∷ ds) = omega (arith, nodes_decls (n + size_decl (function x t ps b)) ds)

-- those of a program have each node of its declarations once
nodes_steps : (p : Program) → step_nodes (steps_of p) ≡ size_decls p.declarations
unfolding steps_of
nodes_steps p =
    rw (
      nodes_append,
      nodes_none (length p.tables.structs) struct_name (λ i. refl),
      nodes_append,
      nodes_none (length p.tables.built_ins) built_in (λ i. refl),
      nodes_append,
      nodes_headings 0 p.declarations,
      nodes_append,
      nodes_append,
      nodes_none (length p.tables.structs) struct_fields (λ i. refl),
    )
    (omega (arith, nodes_decls 0 p.declarations))

-- a run of steps that stand
pub run-pairs : (T : Tables) → File T → (ss : List CheckStep) (C : Context ℕ) → ContextFits T C → Fitting T (length C.structs) ss
    → run_pairs T C ss ≤ 1200 * step_nodes ss
unfolding run_pairs
run-pairs T F [] C f h = omega arith
run-pairs T F (s ∷ ss) C f (fit_step h hs) =
    let i = stepping_pairs (few_parts T F.types C (length C.structs) f.structs) s in
    from_none _ _
    (then_most (run_step T C s) _ _ _ _ (omega arith) λ B L e.
    let r = sound_step T F C f s B L h e in
    omega (arith, run-pairs T F ss B r.fits (subst (λ k. Fitting T k ss) (sym r.many) hs)))

-- the answer has the sum of the run
pub check_pairs : (p : Program) → (check_of p).pairs ≡ run_pairs p.tables empty_context (steps_of p)
unfolding check_of
check_pairs p = go (run_of p)
  where
    go : (r : Ran) → (answer_of p (run_pairs p.tables empty_context (steps_of p)) r).pairs ≡ run_pairs p.tables empty_context (steps_of p)
    go (accepted gs k) = refl
    go (refused m k q) = refl

pub sum_most : (p : Program) → Fits p → size_decls p.declarations ≡ length p.tables.nodes → (check_of p).pairs ≤ 1200 * length p.tables.nodes
sum_most p f used =
    omega (arith, check_pairs p, run-pairs p.tables f.file (steps_of p) empty_context (empty_fits p.tables) (trees p f), nodes_steps p)
