-- Trees by their child counts: where they end, that an expression, statement or declaration is such a tree, and what the walk over one
-- keeps. Assumes nothing.
use mathlib.Core.Path.{◌≡◌, refl, ap, sym, subst}
use mathlib.Core.List.{List, [], ◌∷◌}
use mathlib.Core.Logic.{◌⊎◌, inl, inr, ⊎_elim}
use Prim.Native.Nat.{ℕ, ◌+◌, ◌*◌, ◌-◌, ◌≤◌, ◌<◌}
use native.Mathlib.Omega.{arith}
use lib.ListN.{length}
use Rattle.oat.specs.Tables.{Tables, node_at}
use Rattle.oat.specs.Syntax.{Literal, truth, falsity, integer, text, Expr, null, literal, name, array_literal, default_array, array_with, index, length_of, struct_literal, field, call, unary, binary, Exprs, none, also, Inits, no_init, init, target_expr, Vars, no_var, next_var, Condition, no_condition, condition, Stmt, assign, var, return_value, return_void, call_stmt, if_else, if_null, for, while, Step, no_step, step, Block, block, Stmts, empty, then, Decl, global, function, size, sizes, size_inits, size_target, size_vars, size_condition, size_step, size_block, size_stmt, size_stmts, size_decl, count, count_inits, count_vars, count_stmts}
use Rattle.oat.specs.Nodes.{Node, LiteralStands, Stands, StandAll, InitsStand, VarsStand, ConditionStands, StmtStands, StepStands, BlockStands, StmtsStand, ParametersStand, DeclStands}
use Rattle.file_sections.specs.declared.Sections.{Sections}
use Rattle.file_sections.specs.Layout.{tables_of}
use Rattle.file_sections.specs.Trees.{Trees, no_tree, next_tree, Tree, Past}
use Rattle.file_sections.proofs.LawsRecords.{nodes_long}

module _ {T : Tables} where
  -- no tree, or one that begins at the node n
  trees_begin : {n l m : ℕ} → Trees T n l m
      → ((l ≡ 0) × (n ≡ m)) ⊎ ((k : ℕ) × (l ≡ k + 1) × (n < length T.nodes) × Trees T (n + 1) (k + (node_at T n).children) m)
  trees_begin no_tree = inl (refl, refl)
  trees_begin (next_tree k h t) = inr (k, refl, h, t)

  trees_more : {n k l m : ℕ} → k ≡ l → Trees T n k m → Trees T n l m
  trees_more {n = n} {m = m} e t = subst (λ i. Trees T n i m) e t

  trees_from : {i n k m : ℕ} → i ≡ n → Trees T i k m → Trees T n k m
  trees_from {k = k} {m = m} e t = subst (λ i. Trees T i k m) e t

  -- trees end at one node only
  pub trees_one : {n k i m : ℕ} → Trees T n k i → Trees T n k m → i ≡ m
  trees_one no_tree u = ⊎_elim (λ z. z.1) (λ z. absurd (let e = z.1 in omega arith)) (trees_begin u)
  trees_one (next_tree k h t) u =
      ⊎_elim
      (λ z. absurd (let e = z.0 in omega arith))
      (λ z. trees_one t (trees_more (let e = z.1 in omega arith) z.3))
      (trees_begin u)

  pub trees_end : {n m : ℕ} → Trees T n 0 m → n ≡ m
  trees_end t = trees_one no_tree t

  -- at least one tree: its node is there, and its children come next
  pub trees_within : {n k m : ℕ} → Trees T n k m → 0 < k → n < length T.nodes
  trees_within t h = ⊎_elim (λ z. absurd (let e = z.0 in omega arith)) (λ z. z.2) (trees_begin t)

  pub trees_next : {n k m : ℕ} → Trees T n k m → 0 < k → Trees T (n + 1) (k - 1 + (node_at T n).children) m
  trees_next t h =
      ⊎_elim
      (λ z. absurd (let e = z.0 in omega arith))
      (λ z. trees_more (let e = z.1 in omega arith) z.3)
      (trees_begin t)

  -- a node, before its children and what comes after them
  pub node_next : {n m d x t c : ℕ} (k : ℕ) → Node T n d x t c → Trees T (n + 1) (k + c) m → Trees T n (k + 1) m
  node_next k v t = next_tree k v.within (trees_more (let e = v.children_is in omega arith) t)

  pub leaf_next : {n m d x t : ℕ} (k : ℕ) → Node T n d x t 0 → Trees T (n + 1) k m → Trees T n (k + 1) m
  leaf_next k v t = node_next k v (trees_more (omega arith) t)

module _ (T : Tables) where
  pub literal_next : (l : Literal) (n k m : ℕ) → LiteralStands T n l → Trees T (n + 1) k m → Trees T n (k + 1) m
  literal_next truth n k m h t = leaf_next k h t
  literal_next falsity n k m h t = leaf_next k h t
  literal_next (integer x) n k m h t = leaf_next k h t
  literal_next (text x) n k m h t = leaf_next k h t

  -- an expression, before k trees
  mutual
    pub expr_next : (e : Expr) (n k m : ℕ) → Stands T n e → Trees T (n + size e) k m → Trees T n (k + 1) m
    expr_next (null x) n k m h t = leaf_next k h.0 t
    expr_next (literal l) n k m h t = literal_next l n k m h t
    expr_next (name x) n k m h t = leaf_next k h t
    expr_next (array_literal x es) n k m h t = node_next k h.0 (exprs_next es (n + 1) k m h.2 (trees_from (omega arith) t))
    expr_next (default_array x a) n k m h t = node_next k h.0 (expr_next a (n + 1) k m h.2 (trees_from (omega arith) t))
    expr_next (array_with x y a b) n k m h t =
        node_next k h.0 (trees_more (omega arith) (expr_next a (n + 1) (k + 1) m h.2 (expr_next b (n + 1 + size a) k m h.3 (trees_from (omega arith) t))))
    expr_next (index a b) n k m h t =
        node_next k h.0 (trees_more (omega arith) (expr_next a (n + 1) (k + 1) m h.1 (expr_next b (n + 1 + size a) k m h.2 (trees_from (omega arith) t))))
    expr_next (length_of a) n k m h t = node_next k h.0 (expr_next a (n + 1) k m h.1 (trees_from (omega arith) t))
    expr_next (struct_literal x is) n k m h t = node_next k h.0 (inits_next is (n + 1) k m h.2 (trees_from (omega arith) t))
    expr_next (field x a) n k m h t = node_next k h.0 (expr_next a (n + 1) k m h.1 (trees_from (omega arith) t))
    expr_next (call a es) n k m h t =
        node_next k h.0 (trees_more (omega arith) (expr_next a (n + 1) (k + count es) m h.1 (exprs_next es (n + 1 + size a) k m h.2 (trees_from (omega arith) t))))
    expr_next (unary x a) n k m h t = node_next k h.0 (expr_next a (n + 1) k m h.2 (trees_from (omega arith) t))
    expr_next (binary x a b) n k m h t =
        node_next k h.0 (trees_more (omega arith) (expr_next a (n + 1) (k + 1) m h.2 (expr_next b (n + 1 + size a) k m h.3 (trees_from (omega arith) t))))

    pub exprs_next : (es : Exprs) (n k m : ℕ) → StandAll T n es → Trees T (n + sizes es) k m → Trees T n (k + count es) m
    exprs_next none n k m h t = trees_more (omega arith) (trees_from (omega arith) t)
    exprs_next (also a es) n k m h t =
        trees_more (omega arith) (expr_next a n (k + count es) m h.0 (exprs_next es (n + size a) k m h.1 (trees_from (omega arith) t)))

    pub inits_next : (is : Inits) (n k m : ℕ) → InitsStand T n is → Trees T (n + size_inits is) k m → Trees T n (k + count_inits is) m
    inits_next no_init n k m h t = trees_more (omega arith) (trees_from (omega arith) t)
    inits_next (init x a is) n k m h t =
        trees_more
        (omega arith)
        (node_next (k + count_inits is)
        h.0
        (expr_next a (n + 1) (k + count_inits is) m h.1 (inits_next is (n + 1 + size a) k m h.2 (trees_from (omega arith) t))))

  pub vars_next : (vs : Vars) (n k m : ℕ) → VarsStand T n vs → Trees T (n + size_vars vs) k m → Trees T n (k + count_vars vs) m
  vars_next no_var n k m h t = trees_more (omega arith) (trees_from (omega arith) t)
  vars_next (next_var x a vs) n k m h t =
      trees_more
      (omega arith)
      (node_next (k + count_vars vs)
      h.0
      (expr_next a (n + 1) (k + count_vars vs) m h.1 (vars_next vs (n + 1 + size a) k m h.2 (trees_from (omega arith) t))))

  pub condition_next : (q : Condition) (n k m : ℕ) → ConditionStands T n q → Trees T (n + size_condition q) k m → Trees T n (k + 1) m
  condition_next no_condition n k m h t = leaf_next k h t
  condition_next (condition a) n k m h t = expr_next a n k m h t

  -- a statement, a block
  mutual
    pub stmt_next : (s : Stmt) (n k m : ℕ) → StmtStands T n s → Trees T (n + size_stmt s) k m → Trees T n (k + 1) m
    stmt_next (assign g a) n k m h t =
        node_next k
        h.0
        (trees_more
        (omega arith)
        (expr_next (target_expr g) (n + 1) (k + 1) m h.1 (expr_next a (n + 1 + size_target g) k m h.2 (trees_from (omega arith) t))))
    stmt_next (var x a) n k m h t = node_next k h.0 (expr_next a (n + 1) k m h.1 (trees_from (omega arith) t))
    stmt_next (return_value a) n k m h t = node_next k h.0 (expr_next a (n + 1) k m h.1 (trees_from (omega arith) t))
    stmt_next return_void n k m h t = leaf_next k h t
    stmt_next (call_stmt a es) n k m h t =
        node_next k h.0 (trees_more (omega arith) (expr_next a (n + 1) (k + count es) m h.1 (exprs_next es (n + 1 + size a) k m h.2 (trees_from (omega arith) t))))
    stmt_next (if_else a b c) n k m h t =
        node_next k
        h.0
        (trees_more
        (omega arith)
        (expr_next a (n + 1) (k + 1 + 1) m h.1
        (block_next b (n + 1 + size a) (k + 1) m h.2
        (block_next c (n + 1 + size a + size_block b) k m h.3 (trees_from (omega arith) t)))))
    stmt_next (if_null x y a b c) n k m h t =
        node_next k
        h.0
        (trees_more
        (omega arith)
        (expr_next a (n + 1) (k + 1 + 1) m h.2
        (block_next b (n + 1 + size a) (k + 1) m h.3
        (block_next c (n + 1 + size a + size_block b) k m h.4 (trees_from (omega arith) t)))))
    stmt_next (for vs q s b) n k m h t =
        node_next k
        h.0
        (trees_more
        (omega arith)
        (vars_next vs (n + 1) (k + 1 + 1 + 1) m h.1
        (condition_next q (n + 1 + size_vars vs) (k + 1 + 1) m h.2
        (step_next s (n + 1 + size_vars vs + size_condition q) (k + 1) m h.3
        (block_next b (n + 1 + size_vars vs + size_condition q + size_step s) k m h.4 (trees_from (omega arith) t))))))
    stmt_next (while a b) n k m h t =
        node_next k h.0 (trees_more (omega arith) (expr_next a (n + 1) (k + 1) m h.1 (block_next b (n + 1 + size a) k m h.2 (trees_from (omega arith) t))))

    pub step_next : (s : Step) (n k m : ℕ) → StepStands T n s → Trees T (n + size_step s) k m → Trees T n (k + 1) m
    step_next no_step n k m h t = leaf_next k h t
    step_next (step s) n k m h t = stmt_next s n k m h t

    pub block_next : (b : Block) (n k m : ℕ) → BlockStands T n b → Trees T (n + size_block b) k m → Trees T n (k + 1) m
    block_next (block ss) n k m h t = node_next k h.0 (stmts_next ss (n + 1) k m h.1 (trees_from (omega arith) t))

    pub stmts_next : (ss : Stmts) (n k m : ℕ) → StmtsStand T n ss → Trees T (n + size_stmts ss) k m → Trees T n (k + count_stmts ss) m
    stmts_next empty n k m h t = trees_more (omega arith) (trees_from (omega arith) t)
    stmts_next (then s ss) n k m h t =
        trees_more (omega arith) (stmt_next s n (k + count_stmts ss) m h.0 (stmts_next ss (n + size_stmt s) k m h.1 (trees_from (omega arith) t)))

  pub parameters_next : (ps : List ℕ) (n k m : ℕ) → ParametersStand T n ps → Trees T (n + length ps) k m → Trees T n (k + length ps) m
  parameters_next [] n k m h t = trees_more (omega arith) (trees_from (omega arith) t)
  parameters_next (x ∷ ps) n k m h t =
      trees_more (omega arith) (leaf_next (k + length ps) h.0 (parameters_next ps (n + 1) k m h.1 (trees_from (omega arith) t)))

  pub decl_next : (d : Decl) (n k m : ℕ) → DeclStands T n d → Trees T (n + size_decl d) k m → Trees T n (k + 1) m
  decl_next (global x a) n k m h t = node_next k h.0 (expr_next a (n + 1) k m h.2 (trees_from (omega arith) t))
  decl_next (function x y ps b) n k m h t =
      node_next k
      h.0
      (trees_more
      (omega arith)
      (parameters_next ps (n + 1) (k + 1) m h.3 (block_next b (n + 1 + length ps) k m h.4 (trees_from (omega arith) t))))

  -- each is one tree
  module _ (n : ℕ) where
    pub expr_tree : (e : Expr) → Stands T n e → Trees T n 1 (n + size e)
    expr_tree e h = expr_next e n 0 (n + size e) h no_tree

    pub stmt_tree : (s : Stmt) → StmtStands T n s → Trees T n 1 (n + size_stmt s)
    stmt_tree s h = stmt_next s n 0 (n + size_stmt s) h no_tree

    pub block_tree : (b : Block) → BlockStands T n b → Trees T n 1 (n + size_block b)
    block_tree b h = block_next b n 0 (n + size_block b) h no_tree

    pub decl_tree : (d : Decl) → DeclStands T n d → Trees T n 1 (n + size_decl d)
    decl_tree d h = decl_next d n 0 (n + size_decl d) h no_tree

-- the walk over the tree at `node` has come to `at`, and `left` trees are left of it
pub record Along (T : Tables) (node at left : ℕ) : Type 0 where
  pub from : (m : ℕ) → Trees T node 1 m → Trees T at left m
  pub few : left ≤ at * 65536 + 1

pub along_start : (T : Tables) (node : ℕ) → Along T node node 1
along_start T node = record { from = λ m t. t; few = omega arith }

module _ (s : List ℕ) (S : Sections) (node at left : ℕ) where
  pub along_within : Tree s S node → Along (tables_of s S) node at left → 0 < left → at < S.nodes
  along_within R A h = rw (sym (nodes_long s S)) (trees_within (A.from R.end R.tree) h)

  pub along_low : Tree s S node → Along (tables_of s S) node at left → 0 < left → at < 4096
  along_low R A h = omega (arith, along_within R A h, R.laid.nodes_most)

  pub along_few : Tree s S node → Along (tables_of s S) node at left → 0 < left → left < 268435457
  along_few R A h = omega (arith, along_within R A h, R.laid.nodes_most, A.few)

  pub along_next : (c : ℕ) → Along (tables_of s S) node at left → 0 < left → c ≡ (node_at (tables_of s S) at).children → c < 65536
      → Along (tables_of s S) node (at + 1) (left - 1 + c)
  along_next c A h e l = record {
    from = λ m t. trees_more (ap (λ i. left - 1 + i) (sym e)) (trees_next (A.from m t) h);
    few = omega (arith, A.few);
  }

  pub along_done : Along (tables_of s S) node at left → left ≤ 0 → Past s S node at
  along_done A h = record { ends = λ m t. trees_end (trees_more (omega arith) (A.from m t)) }
