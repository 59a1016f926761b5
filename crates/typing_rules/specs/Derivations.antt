-- Document 01: a derivation labels the nodes of a tree so that at every node the premises of a rule hold between it and its children.
-- `At` says which subtree stands where, of a statement also whether it is the last of its block; nothing walks the tree. Assumes nothing.
use Rattle.std.specs.Prelude.{Bool, true, false, ℕ, ◌+◌}
use Rattle.oat.specs.Tables.{Tables}
use Rattle.oat.specs.Types.{Ty}
use Rattle.oat.specs.Syntax.{Expr, array_literal, default_array, array_with, index, length_of, struct_literal, field, call, unary, binary, Exprs, also, Inits, init, Target, target_expr, Vars, next_var, Condition, condition, Stmt, assign, var, return_value, call_stmt, if_else, if_null, for, while, Step, step, Block, block, Stmts, empty, then, size, size_target, size_vars, size_condition, size_step, size_block, size_stmt}
use Rattle.typing_rules.specs.Contexts.{Context}
use Rattle.typing_rules.specs.Labels.{Labels}
use Rattle.typing_rules.specs.Rules.{ExprRule, StmtRule, BlockRule}

mutual
  -- in the expression that stands at n, the expression u stands at m
  pub data At : Expr → ℕ → ℕ → Expr → Type 0 where
    here : {e : Expr} {n : ℕ} → At e n n e
    in_elements : {t : ℕ} {es : Exprs} {u : Expr} {n m : ℕ} → AtAll es (n + 1) m u → At (array_literal t es) n m u
    in_length : {t : ℕ} {a u : Expr} {n m : ℕ} → At a (n + 1) m u → At (default_array t a) n m u
    in_with_length : {t x : ℕ} {a b u : Expr} {n m : ℕ} → At a (n + 1) m u → At (array_with t x a b) n m u
    in_with_value : {t x : ℕ} {a b u : Expr} {n m : ℕ} → At b (n + 1 + size a) m u → At (array_with t x a b) n m u
    in_indexed : {a b u : Expr} {n m : ℕ} → At a (n + 1) m u → At (index a b) n m u
    in_position : {a b u : Expr} {n m : ℕ} → At b (n + 1 + size a) m u → At (index a b) n m u
    in_measured : {a u : Expr} {n m : ℕ} → At a (n + 1) m u → At (length_of a) n m u
    in_fields : {t : ℕ} {is : Inits} {u : Expr} {n m : ℕ} → AtInits is (n + 1) m u → At (struct_literal t is) n m u
    in_record : {x : ℕ} {a u : Expr} {n m : ℕ} → At a (n + 1) m u → At (field x a) n m u
    in_callee : {a : Expr} {es : Exprs} {u : Expr} {n m : ℕ} → At a (n + 1) m u → At (call a es) n m u
    in_arguments : {a : Expr} {es : Exprs} {u : Expr} {n m : ℕ} → AtAll es (n + 1 + size a) m u → At (call a es) n m u
    in_operand : {x : ℕ} {a u : Expr} {n m : ℕ} → At a (n + 1) m u → At (unary x a) n m u
    in_left : {x : ℕ} {a b u : Expr} {n m : ℕ} → At a (n + 1) m u → At (binary x a b) n m u
    in_right : {x : ℕ} {a b u : Expr} {n m : ℕ} → At b (n + 1 + size a) m u → At (binary x a b) n m u

  pub data AtAll : Exprs → ℕ → ℕ → Expr → Type 0 where
    in_first : {a : Expr} {es : Exprs} {u : Expr} {n m : ℕ} → At a n m u → AtAll (also a es) n m u
    in_rest : {a : Expr} {es : Exprs} {u : Expr} {n m : ℕ} → AtAll es (n + size a) m u → AtAll (also a es) n m u

  pub data AtInits : Inits → ℕ → ℕ → Expr → Type 0 where
    in_value : {x : ℕ} {a : Expr} {is : Inits} {u : Expr} {n m : ℕ} → At a (n + 1) m u → AtInits (init x a is) n m u
    in_others : {x : ℕ} {a : Expr} {is : Inits} {u : Expr} {n m : ℕ} → AtInits is (n + 1 + size a) m u → AtInits (init x a is) n m u

-- a node that has a rule; a statement with its place: it is the last of its block, or not
pub data Node : Type 0 where
  expression : Expr → Node
  statement : (last : Bool) → Stmt → Node
  blocked : Block → Node

-- no statement follows
abbrev pub is_empty : Stmts → Bool
is_empty empty = true
is_empty (then s ss) = false

-- the vars of a for are statements, of no block
pub data AtVars : Vars → ℕ → ℕ → Node → Type 0 where
  at_var : {x : ℕ} {a : Expr} {vs : Vars} {n : ℕ} → AtVars (next_var x a vs) n n (statement false (var x a))
  in_var : {x : ℕ} {a : Expr} {vs : Vars} {u : Expr} {n m : ℕ} → At a (n + 1) m u → AtVars (next_var x a vs) n m (expression u)
  in_vars : {x : ℕ} {a : Expr} {vs : Vars} {u : Node} {n m : ℕ} → AtVars vs (n + 1 + size a) m u → AtVars (next_var x a vs) n m u

pub data AtCondition : Condition → ℕ → ℕ → Node → Type 0 where
  in_condition : {a u : Expr} {n m : ℕ} → At a n m u → AtCondition (condition a) n m (expression u)

mutual
  -- below the statement that stands at n, in its tree, the node u stands at m
  pub data InStmt : Stmt → ℕ → ℕ → Node → Type 0 where
    in_target : {g : Target} {a u : Expr} {n m : ℕ} → At (target_expr g) (n + 1) m u → InStmt (assign g a) n m (expression u)
    in_assigned : {g : Target} {a u : Expr} {n m : ℕ} → At a (n + 1 + size_target g) m u → InStmt (assign g a) n m (expression u)
    in_initial : {x : ℕ} {a u : Expr} {n m : ℕ} → At a (n + 1) m u → InStmt (var x a) n m (expression u)
    in_returned : {a u : Expr} {n m : ℕ} → At a (n + 1) m u → InStmt (return_value a) n m (expression u)
    in_called : {a : Expr} {es : Exprs} {u : Expr} {n m : ℕ} → At a (n + 1) m u → InStmt (call_stmt a es) n m (expression u)
    in_passed : {a : Expr} {es : Exprs} {u : Expr} {n m : ℕ} → AtAll es (n + 1 + size a) m u → InStmt (call_stmt a es) n m (expression u)
    in_test : {a : Expr} {b c : Block} {u : Expr} {n m : ℕ} → At a (n + 1) m u → InStmt (if_else a b c) n m (expression u)
    in_then : {a : Expr} {b c : Block} {u : Node} {n m : ℕ} → AtBlock b (n + 1 + size a) m u → InStmt (if_else a b c) n m u
    in_else : {a : Expr} {b c : Block} {u : Node} {n m : ℕ} → AtBlock c (n + 1 + size a + size_block b) m u → InStmt (if_else a b c) n m u
    in_nullable : {x t : ℕ} {a : Expr} {b c : Block} {u : Expr} {n m : ℕ} → At a (n + 1) m u → InStmt (if_null x t a b c) n m (expression u)
    in_some : {x t : ℕ} {a : Expr} {b c : Block} {u : Node} {n m : ℕ} → AtBlock b (n + 1 + size a) m u → InStmt (if_null x t a b c) n m u
    in_null : {x t : ℕ} {a : Expr} {b c : Block} {u : Node} {n m : ℕ} → AtBlock c (n + 1 + size a + size_block b) m u → InStmt (if_null x t a b c) n m u
    in_for_vars : {vs : Vars} {c : Condition} {s : Step} {b : Block} {u : Node} {n m : ℕ} → AtVars vs (n + 1) m u → InStmt (for vs c s b) n m u
    in_for_condition : {vs : Vars} {c : Condition} {s : Step} {b : Block} {u : Node} {n m : ℕ} → AtCondition c (n + 1 + size_vars vs) m u → InStmt (for vs c s b) n m u
    in_for_step : {vs : Vars} {c : Condition} {s : Step} {b : Block} {u : Node} {n m : ℕ} → AtStep s (n + 1 + size_vars vs + size_condition c) m u → InStmt (for vs c s b) n m u
    in_for_body : {vs : Vars} {c : Condition} {s : Step} {b : Block} {u : Node} {n m : ℕ} → AtBlock b (n + 1 + size_vars vs + size_condition c + size_step s) m u → InStmt (for vs c s b) n m u
    in_while_test : {a : Expr} {b : Block} {u : Expr} {n m : ℕ} → At a (n + 1) m u → InStmt (while a b) n m (expression u)
    in_while_body : {a : Expr} {b : Block} {u : Node} {n m : ℕ} → AtBlock b (n + 1 + size a) m u → InStmt (while a b) n m u

  -- a for's step is the last of no block
  pub data AtStep : Step → ℕ → ℕ → Node → Type 0 where
    at_step : {s : Stmt} {n : ℕ} → AtStep (step s) n n (statement false s)
    in_step : {s : Stmt} {u : Node} {n m : ℕ} → InStmt s n m u → AtStep (step s) n m u

  pub data AtBlock : Block → ℕ → ℕ → Node → Type 0 where
    here_block : {b : Block} {n : ℕ} → AtBlock b n n (blocked b)
    in_block : {ss : Stmts} {u : Node} {n m : ℕ} → AtStmts ss (n + 1) m u → AtBlock (block ss) n m u

  -- a statement is the last of its block where no statement follows
  pub data AtStmts : Stmts → ℕ → ℕ → Node → Type 0 where
    at_stmt : {s : Stmt} {ss : Stmts} {n : ℕ} → AtStmts (then s ss) n n (statement (is_empty ss) s)
    in_stmt : {s : Stmt} {ss : Stmts} {u : Node} {n m : ℕ} → InStmt s n m u → AtStmts (then s ss) n m u
    in_stmts : {s : Stmt} {ss : Stmts} {u : Node} {n m : ℕ} → AtStmts ss (n + size_stmt s) m u → AtStmts (then s ss) n m u

-- the rule of a node
abbrev pub RuleAt : Tables → Context Ty → Labels Ty → Ty → ℕ → Node → Type 0
RuleAt T C D rt m (expression e) = ExprRule T C D m e
RuleAt T C D rt m (statement last s) = StmtRule T C D rt last m s
RuleAt T C D rt m (blocked b) = BlockRule D m b

-- at every node of the tree that stands at n the premises of a rule hold
pub record Derives (T : Tables) (C : Context Ty) (D : Labels Ty) (e : Expr) (n : ℕ) : Type 0 where
  pub rule : (m : ℕ) (u : Expr) → At e n m u → ExprRule T C D m u

pub record DerivesBlock (T : Tables) (C : Context Ty) (D : Labels Ty) (rt : Ty) (b : Block) (n : ℕ) : Type 0 where
  pub rule : (m : ℕ) (u : Node) → AtBlock b n m u → RuleAt T C D rt m u
