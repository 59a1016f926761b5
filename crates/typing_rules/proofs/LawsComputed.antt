-- What antt computes of a program that is written out: the check's answer (`computed`), and whether the program is a file's (`is-file`). The
-- second is tried part by part, and a trial that succeeds holds the proof. Assumes nothing.
use mathlib.Core.Path.{◌≡◌, refl}
use mathlib.Core.Bool.{Bool, true, false}
use mathlib.Core.List.{List, [], ◌∷◌}
use Prim.Native.Nat.{ℕ, ◌+◌, ◌≤◌}
use native.Mathlib.Omega.{arith}
use lib.ListN.{length}
use lib.Dec.{eqb, ltb, leb}
use borrow.Author.Tests.{eqb-true, ltb-true, leb-true}
use Rattle.oat.specs.Basics.{all_below, sum_below, tabulate}
use Rattle.oat.specs.Tables.{Tables, type_at, node_at, file_of}
use Rattle.oat.specs.Types.{written_params, written, first_types, type_of, struct_of, lookup}
use Rattle.oat.specs.TypeRules.{is_reference_kind, is_lower_value, param_count, taken_before, unused_bc, base_rule, array_rule, params_right, function_rule, nullable_rule, type_rule, parts_of, first_parts, parts_at, each_type_right, types_right}
use Rattle.oat.specs.TableRules.{field_rule, fields_before, struct_rule, structs_right, has_kind, built_in_rule, tables_right}
use Rattle.oat.specs.Decide.{same_ty, begins_with, struct_below, tests, below, forms, is_formed}
use Rattle.oat.specs.Pairs.{length_tys, compare_same, comparison, compare}
use Rattle.oat.specs.Syntax.{Literal, truth, falsity, integer, text, Expr, null, literal, name, array_literal, default_array, array_with, index, length_of, struct_literal, field, call, unary, binary, Exprs, none, also, Inits, no_init, init, target_expr, Vars, no_var, next_var, Condition, no_condition, condition, Stmt, assign, var, return_value, return_void, call_stmt, if_else, if_null, for, while, Step, no_step, step, Block, block, Stmts, empty, then, Decl, global, function, size, size_target, size_vars, size_condition, size_step, size_block, size_stmt, size_decl, size_decls, count, count_inits, count_vars, count_stmts, depth_decls, is_constant}
use Rattle.oat.specs.Nodes.{Node, has_reference_kind, LiteralStands, Stands, StandAll, InitsStand, VarsStand, ConditionStands, StmtStands, StepStands, BlockStands, StmtsStand, ParametersStand, DeclStands, DeclsStand}
use Rattle.oat.specs.ProgramFile.{Limits, Program, Counts, IsFile}
use Rattle.oat.proofs.LawsBlank.{meant_file}
use Rattle.typing_rules.specs.Contexts.{nearest, is_fresh_at, find_name, is_fixed}
use Rattle.typing_rules.specs.Rules.{names_fit, each_once, named_times, declared_times, member}
use Rattle.typing_rules.specs.Judge.{each_asked, arguments_asked, field_among, field_of, inits_asked, assigns_to, executing, executing_vars, judging, judging_condition}
use Rattle.typing_rules.specs.Steps.{headings, globals, bodies, steps_of, has_field, distinct_fields, is_among, distinct_names, parameters}
use Rattle.typing_rules.specs.Check.{fields_formed, rows_of, parameter_rows, step_rows, rows_begin, run, run_pairs, segment_at, rows_from, Answer, check_of, stepping}

-- to unfold this is to unfold all that the definition of the check computes with
unfoldable pub computed : Program → Answer
unfolding check_of steps_of tabulate headings globals bodies run stepping judging executing executing_vars judging_condition find_name is_fixed step_rows rows_of
    rows_begin segment_at rows_from nearest is_fresh_at type_of written written_params first_types struct_of lookup below tests same_ty begins_with struct_below
    forms is_formed compare comparison compare_same length_tys each_asked arguments_asked field_among field_of inits_asked names_fit each_once named_times declared_times member assigns_to has_field
    distinct_fields is_among distinct_names parameters fields_formed parameter_rows run_pairs
computed p = check_of p

pub data Trial (A : Type 0) : Type 0 where
  proved : A → Trial A
  failed : Trial A

abbrev try : {A B : Type 0} → Trial A → (A → Trial B) → Trial B
try (proved a) k = k a
try failed k = failed

abbrev succeeds : {A : Type 0} → Trial A → Bool
succeeds (proved a) = true
succeeds failed = false

taken : {A : Type 0} (r : Trial A) → succeeds r ≡ true → A
taken (proved a) e = a
taken failed e = absurd (let z : ◌≡◌ {A = ℕ} 0 1 = cc in omega arith)

-- tests
abbrev decided : {A : Type 0} (b : Bool) → (b ≡ true → A) → Trial A
decided true f = proved (f refl)
decided false f = failed

abbrev holds : (b : Bool) → Trial (b ≡ true)
holds b = decided b (λ e. e)

abbrev equal : (m n : ℕ) → Trial (m ≡ n)
equal m n = decided (eqb m n) (eqb-true m n)

abbrev at_most : (m n : ℕ) → Trial (m ≤ n)
at_most m n = decided (leb m n) (leb-true m n)

-- the trees stand in the nodes
abbrev node_tried : (T : Tables) (n k x t c : ℕ) → Trial (Node T n k x t c)
node_tried T n k x t c =
    try (decided (ltb n (length T.nodes)) (ltb-true n (length T.nodes))) λ w.
    try (equal (node_at T n).kind k) λ ek.
    try (equal (node_at T n).x x) λ ex.
    try (equal (node_at T n).t t) λ et.
    try (equal (node_at T n).children c) λ ec.
    proved (record { within = w; kind_is = ek; x_is = ex; t_is = et; children_is = ec })

abbrev literal_tried : (T : Tables) (n : ℕ) (l : Literal) → Trial (LiteralStands T n l)
literal_tried T n truth = node_tried T n 11 0 0 0
literal_tried T n falsity = node_tried T n 12 0 0 0
literal_tried T n (integer x) = node_tried T n 13 x 0 0
literal_tried T n (text x) = node_tried T n 14 x 0 0

abbrev mutual
  expr_tried : (T : Tables) (n : ℕ) (e : Expr) → Trial (Stands T n e)
  expr_tried T n (null t) = try (node_tried T n 10 0 t 0) λ h. try (holds (has_kind T t 7)) λ k. proved (h, k)
  expr_tried T n (literal l) = literal_tried T n l
  expr_tried T n (name x) = node_tried T n 15 x 0 0
  expr_tried T n (array_literal t es) =
      try (node_tried T n 16 0 t (count es)) λ h. try (holds (has_kind T t 5)) λ k. try (exprs_tried T (n + 1) es) λ s. proved (h, k, s)
  expr_tried T n (default_array t a) =
      try (node_tried T n 17 0 t 1) λ h. try (holds (has_kind T t 5)) λ k. try (expr_tried T (n + 1) a) λ s. proved (h, k, s)
  expr_tried T n (array_with t x a b) =
      try (node_tried T n 18 x t 2) λ h.
      try (holds (has_kind T t 5)) λ k.
      try (expr_tried T (n + 1) a) λ s.
      try (expr_tried T (n + 1 + size a) b) λ r.
      proved (h, k, s, r)
  expr_tried T n (index a b) =
      try (node_tried T n 19 0 0 2) λ h. try (expr_tried T (n + 1) a) λ s. try (expr_tried T (n + 1 + size a) b) λ r. proved (h, s, r)
  expr_tried T n (length_of a) = try (node_tried T n 20 0 0 1) λ h. try (expr_tried T (n + 1) a) λ s. proved (h, s)
  expr_tried T n (struct_literal t is) =
      try (node_tried T n 21 0 t (count_inits is)) λ h. try (holds (has_kind T t 4)) λ k. try (inits_tried T (n + 1) is) λ s. proved (h, k, s)
  expr_tried T n (field x a) = try (node_tried T n 23 x 0 1) λ h. try (expr_tried T (n + 1) a) λ s. proved (h, s)
  expr_tried T n (call a es) =
      try (node_tried T n 24 0 0 (1 + count es)) λ h.
      try (expr_tried T (n + 1) a) λ s.
      try (exprs_tried T (n + 1 + size a) es) λ r.
      proved (h, s, r)
  expr_tried T n (unary x a) =
      try (node_tried T n 25 x 0 1) λ h. try (at_most x 2) λ k. try (expr_tried T (n + 1) a) λ s. proved (h, k, s)
  expr_tried T n (binary x a b) =
      try (node_tried T n 26 x 0 2) λ h.
      try (at_most x 15) λ k.
      try (expr_tried T (n + 1) a) λ s.
      try (expr_tried T (n + 1 + size a) b) λ r.
      proved (h, k, s, r)

  exprs_tried : (T : Tables) (n : ℕ) (es : Exprs) → Trial (StandAll T n es)
  exprs_tried T n none = proved tt
  exprs_tried T n (also a es) = try (expr_tried T n a) λ s. try (exprs_tried T (n + size a) es) λ r. proved (s, r)

  inits_tried : (T : Tables) (n : ℕ) (is : Inits) → Trial (InitsStand T n is)
  inits_tried T n no_init = proved tt
  inits_tried T n (init x a is) =
      try (node_tried T n 22 x 0 1) λ h. try (expr_tried T (n + 1) a) λ s. try (inits_tried T (n + 1 + size a) is) λ r. proved (h, s, r)

abbrev vars_tried : (T : Tables) (n : ℕ) (vs : Vars) → Trial (VarsStand T n vs)
vars_tried T n no_var = proved tt
vars_tried T n (next_var x a vs) =
    try (node_tried T n 31 x 0 1) λ h. try (expr_tried T (n + 1) a) λ s. try (vars_tried T (n + 1 + size a) vs) λ r. proved (h, s, r)

abbrev condition_tried : (T : Tables) (n : ℕ) (q : Condition) → Trial (ConditionStands T n q)
condition_tried T n no_condition = node_tried T n 40 0 0 0
condition_tried T n (condition a) = expr_tried T n a

abbrev mutual
  stmt_tried : (T : Tables) (n : ℕ) (s : Stmt) → Trial (StmtStands T n s)
  stmt_tried T n (assign g a) =
      try (node_tried T n 30 0 0 2) λ h.
      try (expr_tried T (n + 1) (target_expr g)) λ s.
      try (expr_tried T (n + 1 + size_target g) a) λ r.
      proved (h, s, r)
  stmt_tried T n (var x a) = try (node_tried T n 31 x 0 1) λ h. try (expr_tried T (n + 1) a) λ s. proved (h, s)
  stmt_tried T n (return_value a) = try (node_tried T n 32 0 0 1) λ h. try (expr_tried T (n + 1) a) λ s. proved (h, s)
  stmt_tried T n return_void = node_tried T n 33 0 0 0
  stmt_tried T n (call_stmt a es) =
      try (node_tried T n 34 0 0 (1 + count es)) λ h.
      try (expr_tried T (n + 1) a) λ s.
      try (exprs_tried T (n + 1 + size a) es) λ r.
      proved (h, s, r)
  stmt_tried T n (if_else a b c) =
      try (node_tried T n 35 0 0 3) λ h.
      try (expr_tried T (n + 1) a) λ s.
      try (block_tried T (n + 1 + size a) b) λ r.
      try (block_tried T (n + 1 + size a + size_block b) c) λ q.
      proved (h, s, r, q)
  stmt_tried T n (if_null x t a b c) =
      try (node_tried T n 36 x t 3) λ h.
      try (holds (has_reference_kind T t)) λ k.
      try (expr_tried T (n + 1) a) λ s.
      try (block_tried T (n + 1 + size a) b) λ r.
      try (block_tried T (n + 1 + size a + size_block b) c) λ q.
      proved (h, k, s, r, q)
  stmt_tried T n (for vs q s b) =
      try (node_tried T n 37 0 0 (count_vars vs + 3)) λ h.
      try (vars_tried T (n + 1) vs) λ v.
      try (condition_tried T (n + 1 + size_vars vs) q) λ c.
      try (step_tried T (n + 1 + size_vars vs + size_condition q) s) λ r.
      try (block_tried T (n + 1 + size_vars vs + size_condition q + size_step s) b) λ o.
      proved (h, v, c, r, o)
  stmt_tried T n (while a b) =
      try (node_tried T n 38 0 0 2) λ h. try (expr_tried T (n + 1) a) λ s. try (block_tried T (n + 1 + size a) b) λ r. proved (h, s, r)

  step_tried : (T : Tables) (n : ℕ) (s : Step) → Trial (StepStands T n s)
  step_tried T n no_step = node_tried T n 40 0 0 0
  step_tried T n (step s) = stmt_tried T n s

  block_tried : (T : Tables) (n : ℕ) (b : Block) → Trial (BlockStands T n b)
  block_tried T n (block ss) = try (node_tried T n 39 0 0 (count_stmts ss)) λ h. try (stmts_tried T (n + 1) ss) λ s. proved (h, s)

  stmts_tried : (T : Tables) (n : ℕ) (ss : Stmts) → Trial (StmtsStand T n ss)
  stmts_tried T n empty = proved tt
  stmts_tried T n (then s ss) = try (stmt_tried T n s) λ h. try (stmts_tried T (n + size_stmt s) ss) λ r. proved (h, r)

abbrev parameters_tried : (T : Tables) (n : ℕ) (xs : List ℕ) → Trial (ParametersStand T n xs)
parameters_tried T n [] = proved tt
parameters_tried T n (x ∷ xs) = try (node_tried T n 3 x 0 0) λ h. try (parameters_tried T (n + 1) xs) λ r. proved (h, r)

abbrev decl_tried : (T : Tables) (n : ℕ) (d : Decl) → Trial (DeclStands T n d)
decl_tried T n (global x a) =
    try (node_tried T n 1 x 0 1) λ h. try (holds (is_constant a)) λ k. try (expr_tried T (n + 1) a) λ s. proved (h, k, s)
decl_tried T n (function x t ps b) =
    try (node_tried T n 2 x t (length ps + 1)) λ h.
    try (holds (has_kind T t 6)) λ k.
    try (equal (length ps) (type_at T t).c) λ c.
    try (parameters_tried T (n + 1) ps) λ s.
    try (block_tried T (n + 1 + length ps) b) λ r.
    proved (h, k, c, s, r)

abbrev decls_tried : (T : Tables) (n : ℕ) (ds : List Decl) → Trial (DeclsStand T n ds)
decls_tried T n [] = proved tt
decls_tried T n (d ∷ ds) = try (decl_tried T n d) λ h. try (decls_tried T (n + size_decl d) ds) λ r. proved (h, r)

abbrev counts_tried : (T : Tables) → Trial (Counts T)
counts_tried T =
    try (at_most (length T.types) 512) λ a.
    try (at_most (length T.list) 1024) λ b.
    try (at_most (length T.fields) 1024) λ c.
    try (at_most (length T.structs) 256) λ d.
    try (at_most (length T.built_ins) 128) λ e.
    try (at_most (length T.nodes) 4096) λ f.
    proved (record { types = a; list = b; fields = c; structs = d; built_ins = e; nodes = f })

abbrev file_tried : (limits : Limits) (p : Program) → Trial (IsFile limits (file_of p.tables) p)
file_tried limits p =
    try (counts_tried p.tables) λ c.
    try (holds (types_right limits.parts p.tables)) λ y.
    try (holds (tables_right p.tables)) λ t.
    try (decls_tried p.tables 0 p.declarations) λ s.
    try (equal (size_decls p.declarations) (length p.tables.nodes)) λ u.
    try (at_most (depth_decls p.declarations) limits.depth) λ d.
    proved (record { layout = meant_file p.tables; counts = c; types = y; tables = t; stand = s; used_up = u; deep = d })

-- to unfold this is to unfold all that it computes with
unfoldable pub is_file : Limits → Program → Bool
unfolding all_below sum_below is_reference_kind is_lower_value param_count taken_before unused_bc base_rule array_rule params_right function_rule nullable_rule
    type_rule parts_of first_parts parts_at each_type_right types_right field_rule fields_before struct_rule structs_right has_kind built_in_rule tables_right
    has_reference_kind
is_file limits p = succeeds (file_tried limits p)

pub is-file : (limits : Limits) (p : Program) → is_file limits p ≡ true → IsFile limits (file_of p.tables) p
unfolding is_file
is-file limits p e = taken (file_tried limits p) e
