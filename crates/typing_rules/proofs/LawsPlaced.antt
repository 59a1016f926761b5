-- Where a node stands in a tree it is one of the tree's. Assumes nothing.
use Prim.Native.Nat.{ℕ, ◌+◌, ◌≤◌, ◌<◌}
use native.Mathlib.Omega.{arith}
use Rattle.oat.specs.Syntax.{Expr, null, literal, name, array_literal, default_array, array_with, index, length_of, struct_literal, field, call, unary, binary, Exprs, none, also, Inits, no_init, init, Target, name_target, index_target, field_target, target_expr, Vars, no_var, next_var, Condition, no_condition, condition, Stmt, assign, var, return_value, return_void, call_stmt, if_else, if_null, for, while, Step, no_step, step, Block, block, Stmts, empty, then, size, sizes, size_inits, size_target, size_vars, size_condition, size_stmt, size_step, size_block, size_stmts}
use Rattle.typing_rules.specs.Derivations.{At, here, in_elements, in_length, in_with_length, in_with_value, in_indexed, in_position, in_measured, in_fields, in_record, in_callee, in_arguments, in_operand, in_left, in_right, AtAll, in_first, in_rest, AtInits, in_value, in_others, Node, AtVars, at_var, in_var, in_vars, AtCondition, in_condition, InStmt, in_target, in_assigned, in_initial, in_returned, in_called, in_passed, in_test, in_then, in_else, in_nullable, in_some, in_null, in_for_vars, in_for_condition, in_for_step, in_for_body, in_while_test, in_while_body, AtStep, at_step, in_step, AtBlock, here_block, in_block, AtStmts, at_stmt, in_stmt, in_stmts}

-- a statement has a node
pub some_node : (s : Stmt) → 1 ≤ size_stmt s
some_node (assign g a) = omega arith
some_node (var x a) = omega arith
some_node (return_value a) = omega arith
some_node return_void = omega arith
some_node (call_stmt a es) = omega arith
some_node (if_else a b c) = omega arith
some_node (if_null x t a b c) = omega arith
some_node (for vs c s b) = omega arith
some_node (while a b) = omega arith

target_size : (g : Target) → size (target_expr g) ≤ size_target g
target_size (name_target x) = omega arith
target_size (index_target a b) = omega arith
target_size (field_target x a) = omega arith

-- expressions
mutual
  pub expr_holds : (e : Expr) {n m : ℕ} {u : Expr} → At e n m u → (n ≤ m) × (m < n + size e)
  expr_holds (null t) here = (omega arith, omega arith)
  expr_holds (literal l) here = (omega arith, omega arith)
  expr_holds (name x) here = (omega arith, omega arith)
  expr_holds (array_literal t es) here = (omega arith, omega arith)
  expr_holds (default_array t a) here = (omega arith, omega arith)
  expr_holds (array_with t x a b) here = (omega arith, omega arith)
  expr_holds (index a b) here = (omega arith, omega arith)
  expr_holds (length_of a) here = (omega arith, omega arith)
  expr_holds (struct_literal t is) here = (omega arith, omega arith)
  expr_holds (field x a) here = (omega arith, omega arith)
  expr_holds (call a es) here = (omega arith, omega arith)
  expr_holds (unary x a) here = (omega arith, omega arith)
  expr_holds (binary x a b) here = (omega arith, omega arith)
  expr_holds (array_literal t es) (in_elements w) = let (h, k) = exprs_hold es w in (omega (arith, h), omega (arith, k))
  expr_holds (default_array t a) (in_length w) = let (h, k) = expr_holds a w in (omega (arith, h), omega (arith, k))
  expr_holds (array_with t x a b) (in_with_length w) = let (h, k) = expr_holds a w in (omega (arith, h), omega (arith, k))
  expr_holds (array_with t x a b) (in_with_value w) = let (h, k) = expr_holds b w in (omega (arith, h), omega (arith, k))
  expr_holds (index a b) (in_indexed w) = let (h, k) = expr_holds a w in (omega (arith, h), omega (arith, k))
  expr_holds (index a b) (in_position w) = let (h, k) = expr_holds b w in (omega (arith, h), omega (arith, k))
  expr_holds (length_of a) (in_measured w) = let (h, k) = expr_holds a w in (omega (arith, h), omega (arith, k))
  expr_holds (struct_literal t is) (in_fields w) = let (h, k) = inits_hold is w in (omega (arith, h), omega (arith, k))
  expr_holds (field x a) (in_record w) = let (h, k) = expr_holds a w in (omega (arith, h), omega (arith, k))
  expr_holds (call a es) (in_callee w) = let (h, k) = expr_holds a w in (omega (arith, h), omega (arith, k))
  expr_holds (call a es) (in_arguments w) = let (h, k) = exprs_hold es w in (omega (arith, h), omega (arith, k))
  expr_holds (unary x a) (in_operand w) = let (h, k) = expr_holds a w in (omega (arith, h), omega (arith, k))
  expr_holds (binary x a b) (in_left w) = let (h, k) = expr_holds a w in (omega (arith, h), omega (arith, k))
  expr_holds (binary x a b) (in_right w) = let (h, k) = expr_holds b w in (omega (arith, h), omega (arith, k))

  exprs_hold : (es : Exprs) {n m : ℕ} {u : Expr} → AtAll es n m u → (n ≤ m) × (m < n + sizes es)
  exprs_hold none w = elim w [ ]
  exprs_hold (also a es) (in_first w) = let (h, k) = expr_holds a w in (omega (arith, h), omega (arith, k))
  exprs_hold (also a es) (in_rest w) = let (h, k) = exprs_hold es w in (omega (arith, h), omega (arith, k))

  inits_hold : (is : Inits) {n m : ℕ} {u : Expr} → AtInits is n m u → (n ≤ m) × (m < n + size_inits is)
  inits_hold no_init w = elim w [ ]
  inits_hold (init x a is) (in_value w) = let (h, k) = expr_holds a w in (omega (arith, h), omega (arith, k))
  inits_hold (init x a is) (in_others w) = let (h, k) = inits_hold is w in (omega (arith, h), omega (arith, k))

-- statements
vars_hold : (vs : Vars) {n m : ℕ} {u : Node} → AtVars vs n m u → (n ≤ m) × (m < n + size_vars vs)
vars_hold no_var w = elim w [ ]
vars_hold (next_var x a vs) at_var = (omega arith, omega arith)
vars_hold (next_var x a vs) (in_var w) = let (h, k) = expr_holds a w in (omega (arith, h), omega (arith, k))
vars_hold (next_var x a vs) (in_vars w) = let (h, k) = vars_hold vs w in (omega (arith, h), omega (arith, k))

condition_holds : (c : Condition) {n m : ℕ} {u : Node} → AtCondition c n m u → (n ≤ m) × (m < n + size_condition c)
condition_holds no_condition w = elim w [ ]
condition_holds (condition a) (in_condition w) = expr_holds a w

mutual
  stmt_holds : (t : Stmt) {n m : ℕ} {u : Node} → InStmt t n m u → (n ≤ m) × (m < n + size_stmt t)
  stmt_holds return_void w = elim w [ ]
  stmt_holds (assign g a) (in_target w) = let (h, k) = expr_holds (target_expr g) w in (omega (arith, h), omega (arith, k, target_size g))
  stmt_holds (assign g a) (in_assigned w) = let (h, k) = expr_holds a w in (omega (arith, h), omega (arith, k))
  stmt_holds (var x a) (in_initial w) = let (h, k) = expr_holds a w in (omega (arith, h), omega (arith, k))
  stmt_holds (return_value a) (in_returned w) = let (h, k) = expr_holds a w in (omega (arith, h), omega (arith, k))
  stmt_holds (call_stmt a es) (in_called w) = let (h, k) = expr_holds a w in (omega (arith, h), omega (arith, k))
  stmt_holds (call_stmt a es) (in_passed w) = let (h, k) = exprs_hold es w in (omega (arith, h), omega (arith, k))
  stmt_holds (if_else a b c) (in_test w) = let (h, k) = expr_holds a w in (omega (arith, h), omega (arith, k))
  stmt_holds (if_else a b c) (in_then w) = let (h, k) = block_holds b w in (omega (arith, h), omega (arith, k))
  stmt_holds (if_else a b c) (in_else w) = let (h, k) = block_holds c w in (omega (arith, h), omega (arith, k))
  stmt_holds (if_null x t a b c) (in_nullable w) = let (h, k) = expr_holds a w in (omega (arith, h), omega (arith, k))
  stmt_holds (if_null x t a b c) (in_some w) = let (h, k) = block_holds b w in (omega (arith, h), omega (arith, k))
  stmt_holds (if_null x t a b c) (in_null w) = let (h, k) = block_holds c w in (omega (arith, h), omega (arith, k))
  stmt_holds (for vs c z b) (in_for_vars w) = let (h, k) = vars_hold vs w in (omega (arith, h), omega (arith, k))
  stmt_holds (for vs c z b) (in_for_condition w) = let (h, k) = condition_holds c w in (omega (arith, h), omega (arith, k))
  stmt_holds (for vs c z b) (in_for_step w) = let (h, k) = step_holds z w in (omega (arith, h), omega (arith, k))
  stmt_holds (for vs c z b) (in_for_body w) = let (h, k) = block_holds b w in (omega (arith, h), omega (arith, k))
  stmt_holds (while a b) (in_while_test w) = let (h, k) = expr_holds a w in (omega (arith, h), omega (arith, k))
  stmt_holds (while a b) (in_while_body w) = let (h, k) = block_holds b w in (omega (arith, h), omega (arith, k))

  step_holds : (t : Step) {n m : ℕ} {u : Node} → AtStep t n m u → (n ≤ m) × (m < n + size_step t)
  step_holds no_step w = elim w [ ]
  step_holds (step t) at_step = (omega arith, omega (arith, some_node t))
  step_holds (step t) (in_step w) = stmt_holds t w

  pub block_holds : (b : Block) {n m : ℕ} {u : Node} → AtBlock b n m u → (n ≤ m) × (m < n + size_block b)
  block_holds (block ss) here_block = (omega arith, omega arith)
  block_holds (block ss) (in_block w) = let (h, k) = stmts_hold ss w in (omega (arith, h), omega (arith, k))

  stmts_hold : (ss : Stmts) {n m : ℕ} {u : Node} → AtStmts ss n m u → (n ≤ m) × (m < n + size_stmts ss)
  stmts_hold empty w = elim w [ ]
  stmts_hold (then t ss) at_stmt = (omega arith, omega (arith, some_node t))
  stmts_hold (then t ss) (in_stmt w) = let (h, k) = stmt_holds t w in (omega (arith, h), omega (arith, k))
  stmts_hold (then t ss) (in_stmts w) = let (h, k) = stmts_hold ss w in (omega (arith, h), omega (arith, k))
