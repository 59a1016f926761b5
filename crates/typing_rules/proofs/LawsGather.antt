-- The labels that a labelling gives to the nodes of a tree, in order, stand from the tree's node on, one for each node. Assumes nothing.
use mathlib.Core.Path.{◌≡◌, refl}
use mathlib.Core.List.{List, [], ◌∷◌, ◌++◌}
use Prim.Native.Nat.{ℕ, ◌+◌}
use native.Mathlib.Omega.{arith}
use lib.ListN.{length, length-append}
use Rattle.oat.specs.Types.{Ty}
use Rattle.oat.specs.Syntax.{Expr, null, literal, name, array_literal, default_array, array_with, index, length_of, struct_literal, field, call, unary, binary, Exprs, none, also, Inits, no_init, init, target_expr, Vars, no_var, next_var, Condition, no_condition, condition, Stmt, assign, var, return_value, return_void, call_stmt, if_else, if_null, for, while, Step, no_step, step, Block, block, Stmts, empty, then, size, sizes, size_inits, size_target, size_vars, size_condition, size_step, size_block, size_stmt, size_stmts}
use Rattle.typing_rules.specs.Labels.{Label, Labels}
use Rattle.typing_rules.proofs.Claims.{gather, gathers, gather_inits, gather_vars, gather_condition, gather_stmt, gather_step, gather_block, gather_stmts, Holds}
use Rattle.typing_rules.proofs.LawsBridge.{holds_join}

-- L are the labels of the k nodes from n on
pub record Covers (D : Labels Ty) (n k : ℕ) (L : List (Label Ty)) : Type 0 where
  pub long : length L ≡ k
  pub holds : Holds D n L

module _ (D : Labels Ty) where
  none_covered : (n : ℕ) → Covers D n 0 []
  unfolding Holds
  none_covered n = record { long = refl; holds = tt }

  -- a node and what follows it
  node_covered : (n : ℕ) {k m : ℕ} {L : List (Label Ty)} → m ≡ 1 + k → Covers D (n + 1) k L → Covers D n m (D n ∷ L)
  unfolding Holds
  node_covered n e c = record { long = omega arith; holds = (refl, c.holds) }

  leaf : (n : ℕ) → Covers D n 1 (D n ∷ [])
  leaf n = node_covered n refl (none_covered (n + 1))

  both_covered : {n j k : ℕ} {A B : List (Label Ty)} → Covers D n j A → Covers D (n + j) k B → Covers D n (j + k) (A ++ B)
  both_covered {n} {j} {k} {A} {B} a b = record {
    long = simp length-append (omega arith);
    holds = holds_join D n j (n + j) A B a.long refl a.holds b.holds;
  }

  mutual
    unfolding gather gathers gather_inits

    pub expr_covered : (e : Expr) (n : ℕ) → Covers D n (size e) (gather D e n)
    expr_covered (null t) n = leaf n
    expr_covered (literal l) n = leaf n
    expr_covered (name x) n = leaf n
    expr_covered (array_literal t es) n = node_covered n refl (exprs_covered es (n + 1))
    expr_covered (default_array t a) n = node_covered n refl (expr_covered a (n + 1))
    expr_covered (array_with t x a b) n = node_covered n (omega arith) (both_covered (expr_covered a (n + 1)) (expr_covered b (n + 1 + size a)))
    expr_covered (index a b) n = node_covered n (omega arith) (both_covered (expr_covered a (n + 1)) (expr_covered b (n + 1 + size a)))
    expr_covered (length_of a) n = node_covered n refl (expr_covered a (n + 1))
    expr_covered (struct_literal t is) n = node_covered n refl (inits_covered is (n + 1))
    expr_covered (field x a) n = node_covered n refl (expr_covered a (n + 1))
    expr_covered (call a es) n = node_covered n (omega arith) (both_covered (expr_covered a (n + 1)) (exprs_covered es (n + 1 + size a)))
    expr_covered (unary x a) n = node_covered n refl (expr_covered a (n + 1))
    expr_covered (binary x a b) n = node_covered n (omega arith) (both_covered (expr_covered a (n + 1)) (expr_covered b (n + 1 + size a)))

    exprs_covered : (es : Exprs) (n : ℕ) → Covers D n (sizes es) (gathers D es n)
    exprs_covered none n = none_covered n
    exprs_covered (also a es) n = both_covered (expr_covered a n) (exprs_covered es (n + size a))

    inits_covered : (is : Inits) (n : ℕ) → Covers D n (size_inits is) (gather_inits D is n)
    inits_covered no_init n = none_covered n
    inits_covered (init x a is) n = node_covered n (omega arith) (both_covered (expr_covered a (n + 1)) (inits_covered is (n + 1 + size a)))

  vars_covered : (vs : Vars) (n : ℕ) → Covers D n (size_vars vs) (gather_vars D vs n)
  unfolding gather_vars
  vars_covered no_var n = none_covered n
  vars_covered (next_var x a vs) n = node_covered n (omega arith) (both_covered (expr_covered a (n + 1)) (vars_covered vs (n + 1 + size a)))

  condition_covered : (q : Condition) (n : ℕ) → Covers D n (size_condition q) (gather_condition D q n)
  unfolding gather_condition
  condition_covered no_condition n = leaf n
  condition_covered (condition a) n = expr_covered a n

  mutual
    unfolding gather_stmt gather_step gather_block gather_stmts

    stmt_covered : (s : Stmt) (n : ℕ) → Covers D n (size_stmt s) (gather_stmt D s n)
    stmt_covered (assign g a) n =
        node_covered n (omega arith) (both_covered (expr_covered (target_expr g) (n + 1)) (expr_covered a (n + 1 + size_target g)))
    stmt_covered (var x a) n = node_covered n refl (expr_covered a (n + 1))
    stmt_covered (return_value a) n = node_covered n refl (expr_covered a (n + 1))
    stmt_covered return_void n = leaf n
    stmt_covered (call_stmt a es) n = node_covered n (omega arith) (both_covered (expr_covered a (n + 1)) (exprs_covered es (n + 1 + size a)))
    stmt_covered (if_else a b c) n =
        node_covered n (omega arith)
        (both_covered (expr_covered a (n + 1)) (both_covered (block_covered b (n + 1 + size a)) (block_covered c (n + 1 + size a + size_block b))))
    stmt_covered (if_null x t a b c) n =
        node_covered n (omega arith)
        (both_covered (expr_covered a (n + 1)) (both_covered (block_covered b (n + 1 + size a)) (block_covered c (n + 1 + size a + size_block b))))
    stmt_covered (for vs q s b) n =
        node_covered n (omega arith)
        (both_covered (vars_covered vs (n + 1))
        (both_covered (condition_covered q (n + 1 + size_vars vs))
        (both_covered (step_covered s (n + 1 + size_vars vs + size_condition q))
        (block_covered b (n + 1 + size_vars vs + size_condition q + size_step s)))))
    stmt_covered (while a b) n = node_covered n (omega arith) (both_covered (expr_covered a (n + 1)) (block_covered b (n + 1 + size a)))

    step_covered : (s : Step) (n : ℕ) → Covers D n (size_step s) (gather_step D s n)
    step_covered no_step n = leaf n
    step_covered (step s) n = stmt_covered s n

    pub block_covered : (b : Block) (n : ℕ) → Covers D n (size_block b) (gather_block D b n)
    block_covered (block ss) n = node_covered n refl (stmts_covered ss (n + 1))

    stmts_covered : (ss : Stmts) (n : ℕ) → Covers D n (size_stmts ss) (gather_stmts D ss n)
    stmts_covered empty n = none_covered n
    stmts_covered (then s ss) n = both_covered (stmt_covered s n) (stmts_covered ss (n + size_stmt s))
