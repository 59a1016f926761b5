-- Document 01, 'The program file': programs as typed trees, one constructor for each shape of a node, and how many nodes, children and
-- levels a tree has. A tree's numbers are the node's x (a name, a literal, an operator) and t (a type number). At each constructor stands
-- document 01's term with the node's kind, then x and t where the kind has them, then the children in order. What a node's t and operator
-- may be is said in Nodes. Assumes nothing.
use Rattle.std.specs.Prelude.{Bool, true, false, ◌&&◌, List, [], ◌∷◌, ℕ, ◌+◌, max, length}

-- literals, kinds 11 to 14
pub data Literal : Type 0 where
  -- true (11), false (12)
  truth falsity : Literal
  -- integer (13), string (14): x, the literal's number
  integer text : ℕ → Literal

mutual
  -- expressions, kinds 10 to 21 and 23 to 26
  pub data Expr : Type 0 where
    -- null (10): t
    null : (t : ℕ) → Expr
    -- true, false, integer, string (11 to 14)
    literal : Literal → Expr
    -- name (15): x
    name : (x : ℕ) → Expr
    -- array literal (16): t; elements
    array_literal : (t : ℕ) → (elements : Exprs) → Expr
    -- default array (17): t; length
    default_array : (t : ℕ) → (length : Expr) → Expr
    -- array with initializer (18): t, index name x; length, value
    array_with : (t x : ℕ) → (length value : Expr) → Expr
    -- index (19): array, index
    index : (array position : Expr) → Expr
    -- length (20): array
    length_of : (array : Expr) → Expr
    -- struct literal (21): t; field initializers
    struct_literal : (t : ℕ) → (fields : Inits) → Expr
    -- field (23): x; record
    field : (x : ℕ) → (of : Expr) → Expr
    -- call (24): callee, arguments
    call : (callee : Expr) → (arguments : Exprs) → Expr
    -- unary (25): x, the operator; operand
    unary : (operator : ℕ) → (operand : Expr) → Expr
    -- binary (26): x, the operator; left and right operand
    binary : (operator : ℕ) → (left right : Expr) → Expr

  -- the elements of an array literal, or the arguments of a call
  pub data Exprs : Type 0 where
    none : Exprs
    also : (first : Expr) → (rest : Exprs) → Exprs

  -- the field initializers of a struct literal
  pub data Inits : Type 0 where
    no_init : Inits
    -- field initializer (22): x; one expression; and those after it
    init : (x : ℕ) → (value : Expr) → (rest : Inits) → Inits

-- the left side of an assignment: a 15, 19 or 23
pub data Target : Type 0 where
  -- name (15): x
  name_target : (x : ℕ) → Target
  -- index (19): array, index
  index_target : (array position : Expr) → Target
  -- field (23): x; record
  field_target : (x : ℕ) → (of : Expr) → Target

-- the left side as the expression that it is
abbrev pub target_expr : Target → Expr
target_expr (name_target x) = name x
target_expr (index_target a b) = index a b
target_expr (field_target x a) = field x a

-- the vars of a for
pub data Vars : Type 0 where
  no_var : Vars
  -- var (31): x; expression; and those after it
  next_var : (x : ℕ) → (value : Expr) → (rest : Vars) → Vars

-- the condition of a for
pub data Condition : Type 0 where
  -- absent (40)
  no_condition : Condition
  condition : Expr → Condition

mutual
  -- statements, kinds 30 to 38
  pub data Stmt : Type 0 where
    -- assignment (30): a 15, 19 or 23, expression
    assign : (left : Target) → (value : Expr) → Stmt
    -- var (31): x; expression
    var : (x : ℕ) → (value : Expr) → Stmt
    -- return with value (32): expression
    return_value : (value : Expr) → Stmt
    -- return (33)
    return_void : Stmt
    -- call statement (34): callee, arguments
    call_stmt : (callee : Expr) → (arguments : Exprs) → Stmt
    -- if (35): condition, block, block; a missing else is an empty block
    if_else : (test : Expr) → (yes no : Block) → Stmt
    -- if? (36): x, t; expression, block, block
    if_null : (x t : ℕ) → (value : Expr) → (yes no : Block) → Stmt
    -- for (37): vars, condition or 40, one statement or 40, block
    for : (vars : Vars) → (test : Condition) → (step : Step) → (body : Block) → Stmt
    -- while (38): condition, block
    while : (test : Expr) → (body : Block) → Stmt

  -- the step of a for
  pub data Step : Type 0 where
    -- absent (40)
    no_step : Step
    step : Stmt → Step

  pub data Block : Type 0 where
    -- block (39): statements
    block : Stmts → Block

  -- the statements of a block
  pub data Stmts : Type 0 where
    empty : Stmts
    then : (first : Stmt) → (rest : Stmts) → Stmts

-- declarations, kinds 1 and 2
pub data Decl : Type 0 where
  -- global (1): x; one initializer
  global : (x : ℕ) → (initializer : Expr) → Decl
  -- function (2): x, t; parameters (3), each by its x, then a block
  function : (x t : ℕ) → (parameters : List ℕ) → (body : Block) → Decl

-- how many nodes a tree has
abbrev mutual
  pub size : Expr → ℕ
  size (null t) = 1
  size (literal l) = 1
  size (name x) = 1
  size (array_literal t es) = 1 + sizes es
  size (default_array t a) = 1 + size a
  size (array_with t x a b) = 1 + size a + size b
  size (index a b) = 1 + size a + size b
  size (length_of a) = 1 + size a
  size (struct_literal t is) = 1 + size_inits is
  size (field x a) = 1 + size a
  size (call a es) = 1 + size a + sizes es
  size (unary x a) = 1 + size a
  size (binary x a b) = 1 + size a + size b

  pub sizes : Exprs → ℕ
  sizes none = 0
  sizes (also a es) = size a + sizes es

  pub size_inits : Inits → ℕ
  size_inits no_init = 0
  size_inits (init x a is) = 1 + size a + size_inits is

abbrev pub size_target : Target → ℕ
size_target g = size (target_expr g)

abbrev pub size_vars : Vars → ℕ
size_vars no_var = 0
size_vars (next_var x a vs) = 1 + size a + size_vars vs

abbrev pub size_condition : Condition → ℕ
size_condition no_condition = 1
size_condition (condition a) = size a

abbrev mutual
  pub size_stmt : Stmt → ℕ
  size_stmt (assign g a) = 1 + size_target g + size a
  size_stmt (var x a) = 1 + size a
  size_stmt (return_value a) = 1 + size a
  size_stmt return_void = 1
  size_stmt (call_stmt a es) = 1 + size a + sizes es
  size_stmt (if_else a b c) = 1 + size a + size_block b + size_block c
  size_stmt (if_null x t a b c) = 1 + size a + size_block b + size_block c
  size_stmt (for vs q s b) = 1 + size_vars vs + size_condition q + size_step s + size_block b
  size_stmt (while a b) = 1 + size a + size_block b

  pub size_step : Step → ℕ
  size_step no_step = 1
  size_step (step s) = size_stmt s

  pub size_block : Block → ℕ
  size_block (block ss) = 1 + size_stmts ss

  pub size_stmts : Stmts → ℕ
  size_stmts empty = 0
  size_stmts (then s ss) = size_stmt s + size_stmts ss

abbrev pub size_decl : Decl → ℕ
size_decl (global x a) = 1 + size a
size_decl (function x t ps b) = 1 + length ps + size_block b

abbrev pub size_decls : List Decl → ℕ
size_decls [] = 0
size_decls (d ∷ ds) = size_decl d + size_decls ds

-- how many children a list makes
abbrev pub count : Exprs → ℕ
count none = 0
count (also a es) = 1 + count es

abbrev pub count_inits : Inits → ℕ
count_inits no_init = 0
count_inits (init x a is) = 1 + count_inits is

abbrev pub count_vars : Vars → ℕ
count_vars no_var = 0
count_vars (next_var x a vs) = 1 + count_vars vs

abbrev pub count_stmts : Stmts → ℕ
count_stmts empty = 0
count_stmts (then s ss) = 1 + count_stmts ss

-- the depth of a tree whose top is at depth 1; every node counts
abbrev mutual
  pub depth : Expr → ℕ
  depth (null t) = 1
  depth (literal l) = 1
  depth (name x) = 1
  depth (array_literal t es) = 1 + depths es
  depth (default_array t a) = 1 + depth a
  depth (array_with t x a b) = 1 + max (depth a) (depth b)
  depth (index a b) = 1 + max (depth a) (depth b)
  depth (length_of a) = 1 + depth a
  depth (struct_literal t is) = 1 + depth_inits is
  depth (field x a) = 1 + depth a
  depth (call a es) = 1 + max (depth a) (depths es)
  depth (unary x a) = 1 + depth a
  depth (binary x a b) = 1 + max (depth a) (depth b)

  pub depths : Exprs → ℕ
  depths none = 0
  depths (also a es) = max (depth a) (depths es)

  pub depth_inits : Inits → ℕ
  depth_inits no_init = 0
  depth_inits (init x a is) = max (1 + depth a) (depth_inits is)

abbrev pub depth_vars : Vars → ℕ
depth_vars no_var = 0
depth_vars (next_var x a vs) = max (1 + depth a) (depth_vars vs)

abbrev pub depth_condition : Condition → ℕ
depth_condition no_condition = 1
depth_condition (condition a) = depth a

abbrev mutual
  pub depth_stmt : Stmt → ℕ
  depth_stmt (assign g a) = 1 + max (depth (target_expr g)) (depth a)
  depth_stmt (var x a) = 1 + depth a
  depth_stmt (return_value a) = 1 + depth a
  depth_stmt return_void = 1
  depth_stmt (call_stmt a es) = 1 + max (depth a) (depths es)
  depth_stmt (if_else a b c) = 1 + max (depth a) (max (depth_block b) (depth_block c))
  depth_stmt (if_null x t a b c) = 1 + max (depth a) (max (depth_block b) (depth_block c))
  depth_stmt (for vs q s b) = 1 + max (depth_vars vs) (max (depth_condition q) (max (depth_step s) (depth_block b)))
  depth_stmt (while a b) = 1 + max (depth a) (depth_block b)

  pub depth_step : Step → ℕ
  depth_step no_step = 1
  depth_step (step s) = depth_stmt s

  pub depth_block : Block → ℕ
  depth_block (block ss) = 1 + depth_stmts ss

  pub depth_stmts : Stmts → ℕ
  depth_stmts empty = 0
  depth_stmts (then s ss) = max (depth_stmt s) (depth_stmts ss)

abbrev pub depth_decl : Decl → ℕ
depth_decl (global x a) = 1 + depth a
depth_decl (function x t ps b) = 1 + depth_block b

abbrev pub depth_decls : List Decl → ℕ
depth_decls [] = 0
depth_decls (d ∷ ds) = max (depth_decl d) (depth_decls ds)

-- what may stand in a global's tree: 10 to 16 and 21, field initializers too
abbrev mutual
  pub is_constant : Expr → Bool
  is_constant (null t) = true
  is_constant (literal l) = true
  is_constant (name x) = true
  is_constant (array_literal t es) = are_constant es
  is_constant (default_array t a) = false
  is_constant (array_with t x a b) = false
  is_constant (index a b) = false
  is_constant (length_of a) = false
  is_constant (struct_literal t is) = inits_constant is
  is_constant (field x a) = false
  is_constant (call a es) = false
  is_constant (unary x a) = false
  is_constant (binary x a b) = false

  pub are_constant : Exprs → Bool
  are_constant none = true
  are_constant (also a es) = is_constant a && are_constant es

  pub inits_constant : Inits → Bool
  inits_constant no_init = true
  inits_constant (init x a is) = is_constant a && inits_constant is
