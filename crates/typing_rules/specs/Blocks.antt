-- Document 02, (vi), as its theorems say it, by the text of a program alone, without scopes and levels: no block binds a name twice, and where
-- a refusal under 7 may be. `own` are the names that a block has bound so far. Assumes nothing.
use Rattle.std.specs.Prelude.{◌≡◌, Bool, true, false, not, ◌&&◌, List, [], ◌∷◌, ◌⊎◌, ℕ, ◌+◌, length}
use Rattle.oat.specs.Syntax.{Expr, Vars, no_var, next_var, Condition, Stmt, assign, var, return_value, return_void, call_stmt, if_else, if_null, for, while, Step, no_step, step, Block, block, Stmts, empty, then, Decl, global, function, size, size_vars, size_condition, size_step, size_block, size_stmt}
use Rattle.typing_rules.specs.Steps.{Step as CheckStep, struct_name, built_in, heading, global_value, struct_fields, body, is_among, distinct_names}

-- the names that a block has bound after one of its statements, and after the vars of a for
abbrev pub bound_after : List ℕ → Stmt → List ℕ
bound_after own (var x a) = x ∷ own
bound_after own (assign g a) = own
bound_after own (return_value a) = own
bound_after own return_void = own
bound_after own (call_stmt a es) = own
bound_after own (if_else a b c) = own
bound_after own (if_null x t a b c) = own
bound_after own (for vs c s b) = own
bound_after own (while a b) = own

unfoldable pub bound_by : List ℕ → Vars → List ℕ
bound_by own no_var = own
bound_by own (next_var x a vs) = bound_by (x ∷ own) vs

unfoldable pub distinct_vars : List ℕ → Vars → Bool
distinct_vars own no_var = true
distinct_vars own (next_var x a vs) = not (is_among x own) && distinct_vars (x ∷ own) vs

-- a var is new in its block; a for's vars and step are one block; every other block begins anew, and in that of an if?'s name or of an index
-- name nothing else is bound
unfoldable mutual
  pub distinct_stmt : List ℕ → Stmt → Bool
  distinct_stmt own (var x a) = not (is_among x own)
  distinct_stmt own (assign g a) = true
  distinct_stmt own (return_value a) = true
  distinct_stmt own return_void = true
  distinct_stmt own (call_stmt a es) = true
  distinct_stmt own (if_else a b c) = distinct_block [] b && distinct_block [] c
  distinct_stmt own (if_null x t a b c) = distinct_block [] b && distinct_block [] c
  distinct_stmt own (for vs c s b) = distinct_vars [] vs && (distinct_step (bound_by [] vs) s && distinct_block [] b)
  distinct_stmt own (while a b) = distinct_block [] b

  pub distinct_step : List ℕ → Step → Bool
  distinct_step own no_step = true
  distinct_step own (step s) = distinct_stmt own s

  pub distinct_block : List ℕ → Block → Bool
  distinct_block own (block ss) = distinct_stmts own ss

  pub distinct_stmts : List ℕ → Stmts → Bool
  distinct_stmts own empty = true
  distinct_stmts own (then s ss) = distinct_stmt own s && distinct_stmts (bound_after own s) ss

-- a function's parameters and its body's block are one
abbrev pub distinct_body : List ℕ → Block → Bool
distinct_body ps b = distinct_names ps && distinct_block ps b

unfoldable pub distinct_decls : List Decl → Bool
distinct_decls [] = true
distinct_decls (global x a ∷ ds) = distinct_decls ds
distinct_decls (function x t ps b ∷ ds) = distinct_body ps b && distinct_decls ds

-- at m the statement s stands, in a block that has bound the names `names` before it: among the vars of a for from n on
pub data AmongVars : (own : List ℕ) → Vars → (n m : ℕ) → (s : Stmt) → (names : List ℕ) → Type 0 where
  this_var : {own : List ℕ} {x : ℕ} {a : Expr} {vs : Vars} {n : ℕ} → AmongVars own (next_var x a vs) n n (var x a) own
  later_var : {own names : List ℕ} {x : ℕ} {a : Expr} {vs : Vars} {n m : ℕ} {s : Stmt} → AmongVars (x ∷ own) vs (n + 1 + size a) m s names → AmongVars own (next_var x a vs) n m s names

mutual
  -- in a block or below it, among statements from n on or below one of them, as a for's step or below it, and below a statement
  pub data Within : (own : List ℕ) → Block → (n m : ℕ) → (s : Stmt) → (names : List ℕ) → Type 0 where
    of_block : {own names : List ℕ} {ss : Stmts} {n m : ℕ} {s : Stmt} → AmongStmts own ss (n + 1) m s names → Within own (block ss) n m s names

  pub data AmongStmts : (own : List ℕ) → Stmts → (n m : ℕ) → (s : Stmt) → (names : List ℕ) → Type 0 where
    this_stmt : {own : List ℕ} {s : Stmt} {ss : Stmts} {n : ℕ} → AmongStmts own (then s ss) n n s own
    below_stmt : {own names : List ℕ} {t s : Stmt} {ss : Stmts} {n m : ℕ} → Below t n m s names → AmongStmts own (then t ss) n m s names
    later_stmt : {own names : List ℕ} {t s : Stmt} {ss : Stmts} {n m : ℕ} → AmongStmts (bound_after own t) ss (n + size_stmt t) m s names → AmongStmts own (then t ss) n m s names

  pub data AsStep : (own : List ℕ) → Step → (n m : ℕ) → (s : Stmt) → (names : List ℕ) → Type 0 where
    this_step : {own : List ℕ} {s : Stmt} {n : ℕ} → AsStep own (step s) n n s own
    below_step : {own names : List ℕ} {t s : Stmt} {n m : ℕ} → Below t n m s names → AsStep own (step t) n m s names

  pub data Below : Stmt → (n m : ℕ) → (s : Stmt) → (names : List ℕ) → Type 0 where
    of_then : {names : List ℕ} {a : Expr} {b c : Block} {n m : ℕ} {s : Stmt} → Within [] b (n + 1 + size a) m s names → Below (if_else a b c) n m s names
    of_else : {names : List ℕ} {a : Expr} {b c : Block} {n m : ℕ} {s : Stmt} → Within [] c (n + 1 + size a + size_block b) m s names → Below (if_else a b c) n m s names
    of_some : {names : List ℕ} {x t : ℕ} {a : Expr} {b c : Block} {n m : ℕ} {s : Stmt} → Within [] b (n + 1 + size a) m s names → Below (if_null x t a b c) n m s names
    of_null : {names : List ℕ} {x t : ℕ} {a : Expr} {b c : Block} {n m : ℕ} {s : Stmt} → Within [] c (n + 1 + size a + size_block b) m s names → Below (if_null x t a b c) n m s names
    of_for_vars : {names : List ℕ} {vs : Vars} {c : Condition} {z : Step} {b : Block} {n m : ℕ} {s : Stmt} → AmongVars [] vs (n + 1) m s names → Below (for vs c z b) n m s names
    of_for_step : {names : List ℕ} {vs : Vars} {c : Condition} {z : Step} {b : Block} {n m : ℕ} {s : Stmt} → AsStep (bound_by [] vs) z (n + 1 + size_vars vs + size_condition c) m s names → Below (for vs c z b) n m s names
    of_for_body : {names : List ℕ} {vs : Vars} {c : Condition} {z : Step} {b : Block} {n m : ℕ} {s : Stmt} → Within [] b (n + 1 + size_vars vs + size_condition c + size_step z) m s names → Below (for vs c z b) n m s names
    of_while : {names : List ℕ} {a : Expr} {b : Block} {n m : ℕ} {s : Stmt} → Within [] b (n + 1 + size a) m s names → Below (while a b) n m s names

-- in a body whose block b stands at n, a var stands at q whose own block has bound its name before it
pub record BoundBefore (ps : List ℕ) (b : Block) (n q : ℕ) : Type 0 where
  pub name : ℕ
  pub value : Expr
  pub names : List ℕ
  pub stands : Within ps b n q (var name value) names
  pub bound : is_among name names ≡ true

-- where a refusal of a step under 7 may be: at its struct, its built-in or its declaration, in a body where two parameters have one name, or at
-- a var whose own block has bound the name before it
unfoldable pub SevenAt : CheckStep → ℕ → Type 0
SevenAt (struct_name i) q = q ≡ i
SevenAt (built_in i) q = q ≡ i
SevenAt (heading n x t) q = q ≡ n
SevenAt (global_value n x a) q = q ≡ n
SevenAt (struct_fields i) q = q ≡ i
SevenAt (body n t ps b) q = ((q ≡ n) × (distinct_names ps ≡ false)) ⊎ BoundBefore ps b (n + 1 + length ps) q
