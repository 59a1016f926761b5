-- Document 01, 'The program file': how trees stand in the node section, parent first, then each child's tree in turn, and
-- what a node's operands may be; an operand not named for its kind is 0. Assumes nothing.
use Rattle.std.specs.Prelude.{◌≡◌, Bool, true, ◌&&◌, ◌||◌, List, [], ◌∷◌, ℕ, ◌+◌, ◌≤◌, ◌<◌, length, leb, ltb}
use Rattle.oat.specs.Tables.{Tables, type_at, node_at}
use Rattle.oat.specs.TypeRules.{kind_at, is_reference_kind}
use Rattle.oat.specs.TableRules.{has_kind}
use Rattle.oat.specs.Syntax.{Literal, truth, falsity, integer, text, Expr, null, literal, name, array_literal, default_array, array_with, index, length_of, struct_literal, field, call, unary, binary, Exprs, none, also, Inits, no_init, init, target_expr, Vars, no_var, next_var, Condition, no_condition, condition, Stmt, assign, var, return_value, return_void, call_stmt, if_else, if_null, for, while, Step, no_step, step, Block, block, Stmts, empty, then, Decl, global, function, size, size_target, size_vars, size_condition, size_step, size_block, size_stmt, size_decl, count, count_inits, count_vars, count_stmts, is_constant}

-- the node n is there, with its kind, x, t and child count
pub record Node (T : Tables) (n kind x t children : ℕ) : Type 0 where
  pub within : n < length T.nodes
  pub kind_is : (node_at T n).kind ≡ kind
  pub x_is : (node_at T n).x ≡ x
  pub t_is : (node_at T n).t ≡ t
  pub children_is : (node_at T n).children ≡ children

-- the type t of the file is of kind 2, 4, 5 or 6
unfoldable pub has_reference_kind : Tables → ℕ → Bool
has_reference_kind T t = ltb t (length T.types) && is_reference_kind (kind_at T t)

-- a literal of kind 11 to 14
abbrev pub LiteralStands : Tables → ℕ → Literal → Type 0
LiteralStands T n truth = Node T n 11 0 0 0
LiteralStands T n falsity = Node T n 12 0 0 0
LiteralStands T n (integer x) = Node T n 13 x 0 0
LiteralStands T n (text x) = Node T n 14 x 0 0

-- the tree stands from the node n on
abbrev mutual
  pub Stands : Tables → ℕ → Expr → Type 0
  Stands T n (null t) = Node T n 10 0 t 0 × (has_kind T t 7 ≡ true)
  Stands T n (literal l) = LiteralStands T n l
  Stands T n (name x) = Node T n 15 x 0 0
  Stands T n (array_literal t es) = Node T n 16 0 t (count es) × (has_kind T t 5 ≡ true) × StandAll T (n + 1) es
  Stands T n (default_array t a) = Node T n 17 0 t 1 × (has_kind T t 5 ≡ true) × Stands T (n + 1) a
  Stands T n (array_with t x a b) = Node T n 18 x t 2 × (has_kind T t 5 ≡ true) × Stands T (n + 1) a × Stands T (n + 1 + size a) b
  Stands T n (index a b) = Node T n 19 0 0 2 × Stands T (n + 1) a × Stands T (n + 1 + size a) b
  Stands T n (length_of a) = Node T n 20 0 0 1 × Stands T (n + 1) a
  Stands T n (struct_literal t is) = Node T n 21 0 t (count_inits is) × (has_kind T t 4 ≡ true) × InitsStand T (n + 1) is
  Stands T n (field x a) = Node T n 23 x 0 1 × Stands T (n + 1) a
  Stands T n (call a es) = Node T n 24 0 0 (1 + count es) × Stands T (n + 1) a × StandAll T (n + 1 + size a) es
  Stands T n (unary x a) = Node T n 25 x 0 1 × (x ≤ 2) × Stands T (n + 1) a
  Stands T n (binary x a b) = Node T n 26 x 0 2 × (x ≤ 15) × Stands T (n + 1) a × Stands T (n + 1 + size a) b

  pub StandAll : Tables → ℕ → Exprs → Type 0
  StandAll T n none = Unit {0}
  StandAll T n (also a es) = Stands T n a × StandAll T (n + size a) es

  pub InitsStand : Tables → ℕ → Inits → Type 0
  InitsStand T n no_init = Unit {0}
  InitsStand T n (init x a is) = Node T n 22 x 0 1 × Stands T (n + 1) a × InitsStand T (n + 1 + size a) is

abbrev pub VarsStand : Tables → ℕ → Vars → Type 0
VarsStand T n no_var = Unit {0}
VarsStand T n (next_var x a vs) = Node T n 31 x 0 1 × Stands T (n + 1) a × VarsStand T (n + 1 + size a) vs

abbrev pub ConditionStands : Tables → ℕ → Condition → Type 0
ConditionStands T n no_condition = Node T n 40 0 0 0
ConditionStands T n (condition a) = Stands T n a

abbrev mutual
  pub StmtStands : Tables → ℕ → Stmt → Type 0
  StmtStands T n (assign g a) = Node T n 30 0 0 2 × Stands T (n + 1) (target_expr g) × Stands T (n + 1 + size_target g) a
  StmtStands T n (var x a) = Node T n 31 x 0 1 × Stands T (n + 1) a
  StmtStands T n (return_value a) = Node T n 32 0 0 1 × Stands T (n + 1) a
  StmtStands T n return_void = Node T n 33 0 0 0
  StmtStands T n (call_stmt a es) = Node T n 34 0 0 (1 + count es) × Stands T (n + 1) a × StandAll T (n + 1 + size a) es
  StmtStands T n (if_else a b c) =
      Node T n 35 0 0 3
      × Stands T (n + 1) a
      × BlockStands T (n + 1 + size a) b
      × BlockStands T (n + 1 + size a + size_block b) c
  StmtStands T n (if_null x t a b c) =
      Node T n 36 x t 3
      × (has_reference_kind T t ≡ true)
      × Stands T (n + 1) a
      × BlockStands T (n + 1 + size a) b
      × BlockStands T (n + 1 + size a + size_block b) c
  StmtStands T n (for vs q s b) =
      Node T n 37 0 0 (count_vars vs + 3)
      × VarsStand T (n + 1) vs
      × ConditionStands T (n + 1 + size_vars vs) q
      × StepStands T (n + 1 + size_vars vs + size_condition q) s
      × BlockStands T (n + 1 + size_vars vs + size_condition q + size_step s) b
  StmtStands T n (while a b) = Node T n 38 0 0 2 × Stands T (n + 1) a × BlockStands T (n + 1 + size a) b

  pub StepStands : Tables → ℕ → Step → Type 0
  StepStands T n no_step = Node T n 40 0 0 0
  StepStands T n (step s) = StmtStands T n s

  pub BlockStands : Tables → ℕ → Block → Type 0
  BlockStands T n (block ss) = Node T n 39 0 0 (count_stmts ss) × StmtsStand T (n + 1) ss

  pub StmtsStand : Tables → ℕ → Stmts → Type 0
  StmtsStand T n empty = Unit {0}
  StmtsStand T n (then s ss) = StmtStands T n s × StmtsStand T (n + size_stmt s) ss

-- parameters, kind 3
abbrev pub ParametersStand : Tables → ℕ → List ℕ → Type 0
ParametersStand T n [] = Unit {0}
ParametersStand T n (x ∷ xs) = Node T n 3 x 0 0 × ParametersStand T (n + 1) xs

-- a function has as many parameters as its type
abbrev pub DeclStands : Tables → ℕ → Decl → Type 0
DeclStands T n (global x a) = Node T n 1 x 0 1 × (is_constant a ≡ true) × Stands T (n + 1) a
DeclStands T n (function x t ps b) =
    Node T n 2 x t (length ps + 1)
    × (has_kind T t 6 ≡ true)
    × (length ps ≡ (type_at T t).c)
    × ParametersStand T (n + 1) ps
    × BlockStands T (n + 1 + length ps) b

-- the declarations are the outermost trees
abbrev pub DeclsStand : Tables → ℕ → List Decl → Type 0
DeclsStand T n [] = Unit {0}
DeclsStand T n (d ∷ ds) = DeclStands T n d × DeclsStand T (n + size_decl d) ds

-- the kinds of declarations, of expressions and of statements; the node i is of an expression's kind
unfoldable pub is_declaration_kind : ℕ → Bool
is_declaration_kind k = leb 1 k && leb k 2

unfoldable pub is_expression_kind : ℕ → Bool
is_expression_kind k = (leb 10 k && leb k 21) || (leb 23 k && leb k 26)

unfoldable pub is_statement_kind : ℕ → Bool
is_statement_kind k = leb 30 k && leb k 38

unfoldable pub is_expression : Tables → ℕ → Bool
is_expression T i = is_expression_kind (node_at T i).kind
