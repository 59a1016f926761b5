-- Of every node of a tree: what holds of each part holds of the whole; and the kind of every node is at most 40. Assumes nothing.
use mathlib.Core.Path.{◌≡◌, refl, subst}
use mathlib.Core.Bool.{Bool, true, false}
use mathlib.Core.List.{List, [], ◌∷◌}
use Prim.Native.Nat.{ℕ, ◌+◌, ◌≤◌, ◌<◌}
use native.Mathlib.Omega.{arith}
use lib.ListN.{length}
use lib.Dec.{ltb}
use borrow.Author.Tests.{ltb-true, ltb-false}
use Rattle.oat.specs.Tables.{Tables, node_at}
use Rattle.oat.specs.Syntax.{Literal, truth, falsity, integer, text, Expr, null, literal, name, array_literal, default_array, array_with, index, length_of, struct_literal, field, call, unary, binary, Exprs, none, also, Inits, no_init, init, target_expr, Vars, no_var, next_var, Condition, no_condition, condition, Stmt, assign, var, return_value, return_void, call_stmt, if_else, if_null, for, while, Step, no_step, step, Block, block, Stmts, empty, then, Decl, global, function, size, sizes, size_inits, size_target, size_vars, size_condition, size_stmt, size_step, size_block, size_stmts, size_decl, size_decls}
use Rattle.oat.specs.Nodes.{Node, LiteralStands, Stands, StandAll, InitsStand, VarsStand, ConditionStands, StmtStands, StepStands, BlockStands, StmtsStand, ParametersStand, DeclsStand}

-- P holds of every node from n on and before m
pub record Each (P : ℕ → Type 0) (n m : ℕ) : Type 0 where
  pub at : (i : ℕ) → n ≤ i → i < m → P i

-- no node, an end written otherwise, nodes before those that come next, and one node before others
module _ {P : ℕ → Type 0} where
  pub no_node : {n : ℕ} → Each P n n
  no_node = record { at = λ i l h. absurd (omega arith) }

  pub until : {n k m : ℕ} → k ≡ m → Each P n k → Each P n m
  until e p = record { at = λ i l h. p.at i l (omega arith) }

  pub join : {n k m : ℕ} → Each P n k → Each P k m → Each P n m
  join {n} {k} {m} p q = record { at = λ i l h. go i l h (ltb i k) refl }
    where
      go : (i : ℕ) → n ≤ i → i < m → (b : Bool) → ltb i k ≡ b → P i
      go i l h true f = p.at i l (ltb-true i k f)
      go i l h false f = q.at i (ltb-false i k f) h

  pub top : {n k m : ℕ} → P n → k ≡ m → Each P (n + 1) k → Each P n m
  top p e q = join (record { at = λ i l h. subst P (omega arith) p }) (until e q)

-- every node from n on and before m has a kind of at most 40
module _ (T : Tables) where
  abbrev Low : ℕ → ℕ → Type 0
  Low n m = Each (λ i. (node_at T i).kind ≤ 40) n m

  -- a node of the kind d, and those after it
  low : {n k m d x t c : ℕ} → Node T n d x t c → d ≤ 40 → k ≡ m → Low (n + 1) k → Low n m
  low v l e q = top (omega (arith, v.kind_is)) e q

  low_literal : (l : Literal) (n : ℕ) → LiteralStands T n l → Low n (n + 1)
  low_literal truth n h = low h (omega arith) refl no_node
  low_literal falsity n h = low h (omega arith) refl no_node
  low_literal (integer x) n h = low h (omega arith) refl no_node
  low_literal (text x) n h = low h (omega arith) refl no_node

  mutual
    low_expr : (e : Expr) (n : ℕ) → Stands T n e → Low n (n + size e)
    low_expr (null t) n h = low h.0 (omega arith) refl no_node
    low_expr (literal l) n h = low_literal l n h
    low_expr (name x) n h = low h (omega arith) refl no_node
    low_expr (array_literal t es) n h = low h.0 (omega arith) (omega arith) (low_exprs es (n + 1) h.2)
    low_expr (default_array t a) n h = low h.0 (omega arith) (omega arith) (low_expr a (n + 1) h.2)
    low_expr (array_with t x a b) n h = low h.0 (omega arith) (omega arith) (join (low_expr a (n + 1) h.2) (low_expr b (n + 1 + size a) h.3))
    low_expr (index a b) n h = low h.0 (omega arith) (omega arith) (join (low_expr a (n + 1) h.1) (low_expr b (n + 1 + size a) h.2))
    low_expr (length_of a) n h = low h.0 (omega arith) (omega arith) (low_expr a (n + 1) h.1)
    low_expr (struct_literal t is) n h = low h.0 (omega arith) (omega arith) (low_inits is (n + 1) h.2)
    low_expr (field x a) n h = low h.0 (omega arith) (omega arith) (low_expr a (n + 1) h.1)
    low_expr (call a es) n h = low h.0 (omega arith) (omega arith) (join (low_expr a (n + 1) h.1) (low_exprs es (n + 1 + size a) h.2))
    low_expr (unary x a) n h = low h.0 (omega arith) (omega arith) (low_expr a (n + 1) h.2)
    low_expr (binary x a b) n h = low h.0 (omega arith) (omega arith) (join (low_expr a (n + 1) h.2) (low_expr b (n + 1 + size a) h.3))

    low_exprs : (es : Exprs) (n : ℕ) → StandAll T n es → Low n (n + sizes es)
    low_exprs none n h = until (omega arith) no_node
    low_exprs (also a es) n h = until (omega arith) (join (low_expr a n h.0) (low_exprs es (n + size a) h.1))

    low_inits : (is : Inits) (n : ℕ) → InitsStand T n is → Low n (n + size_inits is)
    low_inits no_init n h = until (omega arith) no_node
    low_inits (init x a is) n h = low h.0 (omega arith) (omega arith) (join (low_expr a (n + 1) h.1) (low_inits is (n + 1 + size a) h.2))

  low_vars : (vs : Vars) (n : ℕ) → VarsStand T n vs → Low n (n + size_vars vs)
  low_vars no_var n h = until (omega arith) no_node
  low_vars (next_var x a vs) n h = low h.0 (omega arith) (omega arith) (join (low_expr a (n + 1) h.1) (low_vars vs (n + 1 + size a) h.2))

  low_condition : (q : Condition) (n : ℕ) → ConditionStands T n q → Low n (n + size_condition q)
  low_condition no_condition n h = low h (omega arith) refl no_node
  low_condition (condition a) n h = low_expr a n h

  mutual
    low_stmt : (s : Stmt) (n : ℕ) → StmtStands T n s → Low n (n + size_stmt s)
    low_stmt (assign g a) n h = low h.0 (omega arith) (omega arith) (join (low_expr (target_expr g) (n + 1) h.1) (low_expr a (n + 1 + size_target g) h.2))
    low_stmt (var x a) n h = low h.0 (omega arith) (omega arith) (low_expr a (n + 1) h.1)
    low_stmt (return_value a) n h = low h.0 (omega arith) (omega arith) (low_expr a (n + 1) h.1)
    low_stmt return_void n h = low h (omega arith) refl no_node
    low_stmt (call_stmt a es) n h = low h.0 (omega arith) (omega arith) (join (low_expr a (n + 1) h.1) (low_exprs es (n + 1 + size a) h.2))
    low_stmt (if_else a b c) n h =
        low h.0 (omega arith) (omega arith)
        (join (low_expr a (n + 1) h.1) (join (low_block b (n + 1 + size a) h.2) (low_block c (n + 1 + size a + size_block b) h.3)))
    low_stmt (if_null x t a b c) n h =
        low h.0 (omega arith) (omega arith)
        (join (low_expr a (n + 1) h.2) (join (low_block b (n + 1 + size a) h.3) (low_block c (n + 1 + size a + size_block b) h.4)))
    low_stmt (for vs q s b) n h =
        low h.0 (omega arith) (omega arith)
        (join (low_vars vs (n + 1) h.1)
        (join (low_condition q (n + 1 + size_vars vs) h.2)
        (join (low_step s (n + 1 + size_vars vs + size_condition q) h.3) (low_block b (n + 1 + size_vars vs + size_condition q + size_step s) h.4))))
    low_stmt (while a b) n h = low h.0 (omega arith) (omega arith) (join (low_expr a (n + 1) h.1) (low_block b (n + 1 + size a) h.2))

    low_step : (s : Step) (n : ℕ) → StepStands T n s → Low n (n + size_step s)
    low_step no_step n h = low h (omega arith) refl no_node
    low_step (step s) n h = low_stmt s n h

    low_block : (b : Block) (n : ℕ) → BlockStands T n b → Low n (n + size_block b)
    low_block (block ss) n h = low h.0 (omega arith) (omega arith) (low_stmts ss (n + 1) h.1)

    low_stmts : (ss : Stmts) (n : ℕ) → StmtsStand T n ss → Low n (n + size_stmts ss)
    low_stmts empty n h = until (omega arith) no_node
    low_stmts (then s ss) n h = until (omega arith) (join (low_stmt s n h.0) (low_stmts ss (n + size_stmt s) h.1))

  low_parameters : (ps : List ℕ) (n : ℕ) → ParametersStand T n ps → Low n (n + length ps)
  low_parameters [] n h = until (omega arith) no_node
  low_parameters (x ∷ ps) n h = low h.0 (omega arith) (omega arith) (low_parameters ps (n + 1) h.1)

  low_decls : (ds : List Decl) (n : ℕ) → DeclsStand T n ds → Low n (n + size_decls ds)
  low_decls [] n h = until (omega arith) no_node
  low_decls (global x a ∷ ds) n h =
      until (omega arith) (join (low h.0.0 (omega arith) (omega arith) (low_expr a (n + 1) h.0.2)) (low_decls ds (n + size_decl (global x a)) h.1))
  low_decls (function x t ps b ∷ ds) n h =
      until (omega arith)
      (join
      (low h.0.0 (omega arith) (omega arith) (join (low_parameters ps (n + 1) h.0.3) (low_block b (n + 1 + length ps) h.0.4)))
      (low_decls ds (n + size_decl (function x t ps b)) h.1))

  -- in declarations that stand from node 0 on
  pub kind_most : (ds : List Decl) → DeclsStand T 0 ds → (i : ℕ) → i < size_decls ds → (node_at T i).kind ≤ 40
  kind_most ds h i l = (low_decls ds 0 h).at i (omega arith) (omega arith)
