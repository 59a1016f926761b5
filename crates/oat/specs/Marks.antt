-- Return marks by the text of a program alone (document 01, 'Typing', with while as in document 02, (i)): 1, it returns; 0, it may go on. A
-- statement's mark is told by its shape and by whether it is the last of its block, a block's by its last statement, a function's by its
-- block; whether anything is typed is not asked. Assumes nothing.
use Rattle.std.specs.Prelude.{◌≡◌, Bool, true, false, ◌&&◌, List, [], ◌∷◌, ◌++◌, ℕ, ◌+◌, length}
use Rattle.oat.specs.Basics.{pick}
use Rattle.oat.specs.Syntax.{truth, falsity, integer, text, Expr, null, literal, name, array_literal, default_array, array_with, index, length_of, struct_literal, field, call, unary, binary, Vars, no_var, next_var, Stmt, assign, var, return_value, return_void, call_stmt, if_else, if_null, for, while, Step, no_step, step, Block, block, Stmts, empty, then, Decl, global, function, size, size_vars, size_condition, size_step, size_block, size_stmt, size_decl}

-- the condition is the node true (11)
abbrev pub is_node_true : Expr → Bool
is_node_true (literal truth) = true
is_node_true (literal falsity) = false
is_node_true (literal (integer x)) = false
is_node_true (literal (text x)) = false
is_node_true (null t) = false
is_node_true (name x) = false
is_node_true (array_literal t es) = false
is_node_true (default_array t a) = false
is_node_true (array_with t x a b) = false
is_node_true (index a b) = false
is_node_true (length_of a) = false
is_node_true (struct_literal t is) = false
is_node_true (field x a) = false
is_node_true (call a es) = false
is_node_true (unary x a) = false
is_node_true (binary x a b) = false

unfoldable mutual
  -- a statement returns; `last`: it is the last of its block. An if and an if? return where both blocks do, a while where it is the last and
  -- its condition is the node true; a for goes on
  pub stmt_returns : (last : Bool) → Stmt → Bool
  stmt_returns last (assign g a) = false
  stmt_returns last (var x a) = false
  stmt_returns last (return_value a) = true
  stmt_returns last return_void = true
  stmt_returns last (call_stmt a es) = false
  stmt_returns last (if_else a b c) = block_returns b && block_returns c
  stmt_returns last (if_null x t a b c) = block_returns b && block_returns c
  stmt_returns last (for vs q s b) = false
  stmt_returns last (while a b) = last && is_node_true a

  -- a block, and with it its function, returns where its last statement does; an empty block may go on
  pub block_returns : Block → Bool
  block_returns (block ss) = last_returns ss

  pub last_returns : Stmts → Bool
  last_returns empty = false
  last_returns (then s empty) = stmt_returns true s
  last_returns (then s (then t ss)) = last_returns (then t ss)

-- the mark of what returns is 1, of what may go on 0
abbrev pub mark_of : (returns : Bool) → ℕ
mark_of returns = pick returns 1 0

-- a statement, a block or a function, by its node; `last`: it is the last of its block, or no statement; `returns`: its mark is 1
pub record Mark : Type 0 where
  pub node : ℕ
  pub last : Bool
  pub returns : Bool

abbrev pub mark_at : ℕ → Bool → Bool → Mark
mark_at n last returns = record { node = n; last = last; returns = returns }

-- no statement follows
abbrev pub is_last : (after : Stmts) → Bool
is_last empty = true
is_last (then s ss) = false

-- the marks of a tree that stands at n, in the order of the nodes; the vars of a for and its step are the last of no block
unfoldable pub vars_marks : Vars → ℕ → List Mark
vars_marks no_var n = []
vars_marks (next_var x a vs) n = mark_at n false false ∷ vars_marks vs (n + 1 + size a)

unfoldable mutual
  -- those below a statement, a step's, a block's, and those of a block's statements
  pub marks_below : Stmt → ℕ → List Mark
  marks_below (assign g a) n = []
  marks_below (var x a) n = []
  marks_below (return_value a) n = []
  marks_below return_void n = []
  marks_below (call_stmt a es) n = []
  marks_below (if_else a b c) n = block_marks b (n + 1 + size a) ++ block_marks c (n + 1 + size a + size_block b)
  marks_below (if_null x t a b c) n = block_marks b (n + 1 + size a) ++ block_marks c (n + 1 + size a + size_block b)
  marks_below (for vs q s b) n =
      vars_marks vs (n + 1)
      ++ (step_marks s (n + 1 + size_vars vs + size_condition q) ++ block_marks b (n + 1 + size_vars vs + size_condition q + size_step s))
  marks_below (while a b) n = block_marks b (n + 1 + size a)

  pub step_marks : Step → ℕ → List Mark
  step_marks no_step n = []
  step_marks (step s) n = mark_at n false (stmt_returns false s) ∷ marks_below s n

  pub block_marks : Block → ℕ → List Mark
  block_marks (block ss) n = mark_at n true (block_returns (block ss)) ∷ stmts_marks ss (n + 1)

  pub stmts_marks : Stmts → ℕ → List Mark
  stmts_marks empty n = []
  stmts_marks (then s ss) n = mark_at n (is_last ss) (stmt_returns (is_last ss) s) ∷ marks_below s n ++ stmts_marks ss (n + size_stmt s)

-- the marks of declarations that stand from n on
unfoldable pub decl_marks : ℕ → List Decl → List Mark
decl_marks n [] = []
decl_marks n (global x a ∷ ds) = decl_marks (n + size_decl (global x a)) ds
decl_marks n (function x t ps b ∷ ds) =
    mark_at n true (block_returns b) ∷ block_marks b (n + 1 + length ps) ++ decl_marks (n + size_decl (function x t ps b)) ds

-- P holds of each mark; of some mark
pub data EachMark (P : Mark → Type 0) : List Mark → Type 0 where
  each_none : EachMark P []
  each_next : {k : Mark} {ks : List Mark} → P k → EachMark P ks → EachMark P (k ∷ ks)

pub data SomeMark (P : Mark → Type 0) : List Mark → Type 0 where
  this_mark : {k : Mark} {ks : List Mark} → P k → SomeMark P (k ∷ ks)
  later_mark : {k : Mark} {ks : List Mark} → SomeMark P ks → SomeMark P (k ∷ ks)

-- at q stands a statement that returns and is not the last of its block, or is a for's step
pub record ReturnsEarly (q : ℕ) (k : Mark) : Type 0 where
  pub node : k.node ≡ q
  pub last : k.last ≡ false
  pub returns : k.returns ≡ true
