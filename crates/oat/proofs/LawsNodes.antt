-- At most one program stands in the node section: a reader gives back the tree that stands at a node. Assumes nothing.
use mathlib.Core.Path.{◌≡◌, refl, ap, ap₂, sym, subst, ◌∙◌}
use mathlib.Core.Bool.{true}
use mathlib.Core.List.{List, [], ◌∷◌}
use Prim.Native.Nat.{ℕ, zero, suc, ◌+◌, ◌-◌, ◌≤◌, max}
use native.Mathlib.Numerals.{sub-one}
use native.Mathlib.Nat.{add-sub_cancel, add-sub_cancel_left}
use native.Mathlib.Omega.{arith}
use lib.ListN.{length}
use lib.Dec.{eqb, leb}
use Rattle.oat.specs.Basics.{pick}
use Rattle.oat.specs.Tables.{Tables, node_at}
use Rattle.oat.specs.Syntax.{truth, falsity, integer, text, Expr, null, literal, name, array_literal, default_array, array_with, index, length_of, struct_literal, field, call, unary, binary, Exprs, none, also, Inits, no_init, init, Target, name_target, index_target, field_target, target_expr, Vars, no_var, next_var, Condition, no_condition, condition, Stmt, assign, var, return_value, return_void, call_stmt, if_else, if_null, for, while, Step, no_step, step, Block, block, Stmts, empty, then, Decl, global, function, size, size_target, size_vars, size_condition, size_stmt, size_step, size_block, size_decl, size_decls, count, count_inits, count_vars, count_stmts, depth, depths, depth_inits, depth_vars, depth_condition, depth_stmt, depth_step, depth_block, depth_stmts, depth_decl}
use Rattle.oat.specs.Nodes.{Node, Stands, StandAll, InitsStand, VarsStand, ConditionStands, StmtStands, StepStands, BlockStands, StmtsStand, ParametersStand, DeclStands, DeclsStand}

-- The reader. Lists first, where f reads the tree at a node.
exprs_from : (ℕ → Expr) → ℕ → ℕ → Exprs
exprs_from f zero n = none
exprs_from f (suc c) n = also (f n) (exprs_from f c (n + size (f n)))

inits_from : Tables → (ℕ → Expr) → ℕ → ℕ → Inits
inits_from T f zero n = no_init
inits_from T f (suc c) n = init (node_at T n).x (f (n + 1)) (inits_from T f c (n + 1 + size (f (n + 1))))

-- the expression of a node, by its kind, x, t and child count, from its first child's node on
expr_of : Tables → (ℕ → Expr) → ℕ → ℕ → ℕ → ℕ → ℕ → Expr
expr_of T f k x t c n =
    let a = f n in
    let b = f (n + size a) in
    pick (eqb k 10) (null t)
    (pick (eqb k 11) (literal truth)
    (pick (eqb k 12) (literal falsity)
    (pick (eqb k 13) (literal (integer x))
    (pick (eqb k 14) (literal (text x))
    (pick (eqb k 15) (name x)
    (pick (eqb k 16) (array_literal t (exprs_from f c n))
    (pick (eqb k 17) (default_array t a)
    (pick (eqb k 18) (array_with t x a b)
    (pick (eqb k 19) (index a b)
    (pick (eqb k 20) (length_of a)
    (pick (eqb k 21) (struct_literal t (inits_from T f c n))
    (pick (eqb k 23) (field x a)
    (pick (eqb k 24) (call a (exprs_from f (c - 1) (n + size a)))
    (pick (eqb k 25) (unary x a) (binary x a b)))))))))))))))

-- the expression at a node; its depth bounds the recursion
expr_at : ℕ → Tables → ℕ → Expr
expr_at zero T n = name 0
expr_at (suc d) T n = expr_of T (expr_at d T) (node_at T n).kind (node_at T n).x (node_at T n).t (node_at T n).children (n + 1)

-- targets, vars and conditions, where f reads the expression at a node
target_of : (ℕ → Expr) → ℕ → ℕ → ℕ → Target
target_of f k x n = pick (eqb k 15) (name_target x) (pick (eqb k 19) (index_target (f n) (f (n + size (f n)))) (field_target x (f n)))

target_at : Tables → (ℕ → Expr) → ℕ → Target
target_at T f n = target_of f (node_at T n).kind (node_at T n).x (n + 1)

vars_from : Tables → (ℕ → Expr) → ℕ → ℕ → Vars
vars_from T f zero n = no_var
vars_from T f (suc c) n = next_var (node_at T n).x (f (n + 1)) (vars_from T f c (n + 1 + size (f (n + 1))))

condition_at : Tables → (ℕ → Expr) → ℕ → Condition
condition_at T f n = pick (leb (node_at T n).kind 26) (condition (f n)) no_condition

-- blocks and steps, where g reads the statement at a node
stmts_from : (ℕ → Stmt) → ℕ → ℕ → Stmts
stmts_from g zero n = empty
stmts_from g (suc c) n = then (g n) (stmts_from g c (n + size_stmt (g n)))

block_at : Tables → (ℕ → Stmt) → ℕ → Block
block_at T g n = block (stmts_from g (node_at T n).children (n + 1))

step_at : Tables → (ℕ → Stmt) → ℕ → Step
step_at T g n = pick (leb (node_at T n).kind 38) (step (g n)) no_step

for_of : Tables → (ℕ → Expr) → (ℕ → Stmt) → ℕ → ℕ → Stmt
for_of T f g c n =
    let vs = vars_from T f c n in
    let q = condition_at T f (n + size_vars vs) in
    let s = step_at T g (n + size_vars vs + size_condition q) in
    for vs q s (block_at T g (n + size_vars vs + size_condition q + size_step s))

-- the statement of a node, by its kind, x, t and child count, from its first child's node on
stmt_of : Tables → (ℕ → Expr) → (ℕ → Stmt) → ℕ → ℕ → ℕ → ℕ → ℕ → Stmt
stmt_of T f g k x t c n =
    let a = f n in
    let b = block_at T g (n + size a) in
    let e = block_at T g (n + size a + size_block b) in
    pick (eqb k 30) (assign (target_at T f n) (f (n + size_target (target_at T f n))))
    (pick (eqb k 31) (var x a)
    (pick (eqb k 32) (return_value a)
    (pick (eqb k 33) return_void
    (pick (eqb k 34) (call_stmt a (exprs_from f (c - 1) (n + size a)))
    (pick (eqb k 35) (if_else a b e)
    (pick (eqb k 36) (if_null x t a b e)
    (pick (eqb k 37) (for_of T f g (c - 3) n) (while a b))))))))

stmt_at : ℕ → Tables → ℕ → Stmt
stmt_at zero T n = return_void
stmt_at (suc d) T n =
    stmt_of T (expr_at d T) (stmt_at d T) (node_at T n).kind (node_at T n).x (node_at T n).t (node_at T n).children (n + 1)

parameters_from : Tables → ℕ → ℕ → List ℕ
parameters_from T zero n = []
parameters_from T (suc c) n = (node_at T n).x ∷ parameters_from T c (n + 1)

decl_of : Tables → (ℕ → Expr) → (ℕ → Stmt) → ℕ → ℕ → ℕ → ℕ → ℕ → Decl
decl_of T f g k x t c n =
    pick (eqb k 1) (global x (f n)) (function x t (parameters_from T (c - 1) n) (block_at T g (n + (c - 1))))

decl_at : ℕ → Tables → ℕ → Decl
decl_at d T n = decl_of T (expr_at d T) (stmt_at d T) (node_at T n).kind (node_at T n).x (node_at T n).t (node_at T n).children (n + 1)

one_more : (n : ℕ) → 1 + n ≡ suc n
one_more n = omega arith

-- a declaration has a node
pub some_node : (e : Decl) → 1 ≤ size_decl e
some_node (global x a) = omega arith
some_node (function x t xs b) = omega arith

module _ (T : Tables) where
  -- the tree is read, and no condition that is left out has its kind
  read : {k x t c : ℕ} (d n : ℕ) (e : Expr) → 1 ≤ d → Node T n k x t c → leb k 26 ≡ true
      → expr_of T (expr_at (d - 1) T) k x t c (n + 1) ≡ e → (expr_at d T n ≡ e) × (leb (node_at T n).kind 26 ≡ true)
  unfolding expr_at
  read zero n e l h k q = absurd (omega arith)
  read (suc d) n e l h k q = (rw (h.kind_is, h.x_is, h.t_is, h.children_is) (rw sub-one at q), rw h.kind_is k)

  mutual
    unfolding expr_of exprs_from inits_from

    read_expr : (e : Expr) (d n : ℕ) → Stands T n e → depth e ≤ d → (expr_at d T n ≡ e) × (leb (node_at T n).kind 26 ≡ true)
    read_expr (null t) d n h l = read d n _ l h.0 refl refl
    read_expr (literal truth) d n h l = read d n _ l h refl refl
    read_expr (literal falsity) d n h l = read d n _ l h refl refl
    read_expr (literal (integer x)) d n h l = read d n _ l h refl refl
    read_expr (literal (text x)) d n h l = read d n _ l h refl refl
    read_expr (name x) d n h l = read d n _ l h refl refl
    read_expr (array_literal t es) d n h l =
        read d n _ (omega arith) h.0 refl (rw (read_exprs es (d - 1) (n + 1) h.2 (omega arith)))
    read_expr (default_array t a) d n h l =
        read d n _ (omega arith) h.0 refl (rw (read_expr a (d - 1) (n + 1) h.2 (omega arith)).0)
    read_expr (array_with t x a b) d n h l =
        let p = read_expr a (d - 1) (n + 1) h.2 (omega arith) in
        let q = read_expr b (d - 1) (n + 1 + size a) h.3 (omega arith) in
        read d n _ (omega arith) h.0 refl (rw (p.0, q.0))
    read_expr (index a b) d n h l =
        let p = read_expr a (d - 1) (n + 1) h.1 (omega arith) in
        let q = read_expr b (d - 1) (n + 1 + size a) h.2 (omega arith) in
        read d n _ (omega arith) h.0 refl (rw (p.0, q.0))
    read_expr (length_of a) d n h l =
        read d n _ (omega arith) h.0 refl (rw (read_expr a (d - 1) (n + 1) h.1 (omega arith)).0)
    read_expr (struct_literal t is) d n h l =
        read d n _ (omega arith) h.0 refl (rw (read_inits is (d - 1) (n + 1) h.2 (omega arith)))
    read_expr (field x a) d n h l =
        read d n _ (omega arith) h.0 refl (rw (read_expr a (d - 1) (n + 1) h.1 (omega arith)).0)
    read_expr (call a es) d n h l =
        let p = read_expr a (d - 1) (n + 1) h.1 (omega arith) in
        let q = read_exprs es (d - 1) (n + 1 + size a) h.2 (omega arith) in
        read d n _ (omega arith) h.0 refl (rw (add-sub_cancel_left 1 (count es), p.0, q))
    read_expr (unary x a) d n h l =
        read d n _ (omega arith) h.0 refl (rw (read_expr a (d - 1) (n + 1) h.2 (omega arith)).0)
    read_expr (binary x a b) d n h l =
        let p = read_expr a (d - 1) (n + 1) h.2 (omega arith) in
        let q = read_expr b (d - 1) (n + 1 + size a) h.3 (omega arith) in
        read d n _ (omega arith) h.0 refl (rw (p.0, q.0))

    read_exprs : (es : Exprs) (d n : ℕ) → StandAll T n es → depths es ≤ d → exprs_from (expr_at d T) (count es) n ≡ es
    read_exprs none d n h l = refl
    read_exprs (also a es) d n h l =
        rw (one_more, (read_expr a d n h.0 (omega arith)).0, read_exprs es d (n + size a) h.1 (omega arith))

    read_inits : (is : Inits) (d n : ℕ) → InitsStand T n is → depth_inits is ≤ d → inits_from T (expr_at d T) (count_inits is) n ≡ is
    read_inits no_init d n h l = refl
    read_inits (init x a is) d n h l =
        rw (one_more, h.0.x_is, (read_expr a d (n + 1) h.1 (omega arith)).0, read_inits is d (n + 1 + size a) h.2 (omega arith))

  read_target : (g : Target) (d n : ℕ) → Stands T n (target_expr g) → depth (target_expr g) ≤ d → target_at T (expr_at d T) n ≡ g
  unfolding target_at target_of
  read_target (name_target x) d n h l = rw (h.kind_is, h.x_is)
  read_target (index_target a b) d n h l =
      rw (h.0.kind_is, (read_expr a d (n + 1) h.1 (omega arith)).0, (read_expr b d (n + 1 + size a) h.2 (omega arith)).0)
  read_target (field_target x a) d n h l = rw (h.0.kind_is, h.0.x_is, (read_expr a d (n + 1) h.1 (omega arith)).0)

  read_vars : (vs : Vars) (d n : ℕ) → VarsStand T n vs → depth_vars vs ≤ d → vars_from T (expr_at d T) (count_vars vs) n ≡ vs
  unfolding vars_from
  read_vars no_var d n h l = refl
  read_vars (next_var x a vs) d n h l =
      rw (one_more, h.0.x_is, (read_expr a d (n + 1) h.1 (omega arith)).0, read_vars vs d (n + 1 + size a) h.2 (omega arith))

  read_condition : (q : Condition) (d n : ℕ) → ConditionStands T n q → depth_condition q ≤ d → condition_at T (expr_at d T) n ≡ q
  unfolding condition_at
  read_condition no_condition d n h l = rw h.kind_is
  read_condition (condition a) d n h l = rw ((read_expr a d n h l).1, (read_expr a d n h l).0)

  -- the tree is read, and no step that is left out has its kind
  read_as : {k x t c : ℕ} (d n : ℕ) (s : Stmt) → 1 ≤ d → Node T n k x t c → leb k 38 ≡ true
      → stmt_of T (expr_at (d - 1) T) (stmt_at (d - 1) T) k x t c (n + 1) ≡ s → (stmt_at d T n ≡ s) × (leb (node_at T n).kind 38 ≡ true)
  unfolding stmt_at
  read_as zero n e l h k q = absurd (omega arith)
  read_as (suc d) n e l h k q = (rw (h.kind_is, h.x_is, h.t_is, h.children_is) (rw sub-one at q), rw h.kind_is k)

  module _ (g : ℕ → Stmt) (n : ℕ) where
    block-at : {c : ℕ} {ss : Stmts} → (node_at T n).children ≡ c → stmts_from g c (n + 1) ≡ ss → block_at T g n ≡ block ss
    unfolding block_at
    block-at e f = rw (e, f)

    step_none : (node_at T n).kind ≡ 40 → step_at T g n ≡ no_step
    unfolding step_at
    step_none e = rw e

    step_some : {s : Stmt} → (g n ≡ s) × (leb (node_at T n).kind 38 ≡ true) → step_at T g n ≡ step s
    unfolding step_at
    step_some e = rw (e.1, e.0)

  mutual
    unfolding stmt_of for_of stmts_from

    read_stmt : (s : Stmt) (d n : ℕ) → StmtStands T n s → depth_stmt s ≤ d → (stmt_at d T n ≡ s) × (leb (node_at T n).kind 38 ≡ true)
    read_stmt (assign g a) d n h l =
        let p = read_target g (d - 1) (n + 1) h.1 (omega arith) in
        let q = read_expr a (d - 1) (n + 1 + size_target g) h.2 (omega arith) in
        read_as d n _ (omega arith) h.0 refl (rw (p, q.0))
    read_stmt (var x a) d n h l =
        read_as d n _ (omega arith) h.0 refl (rw (read_expr a (d - 1) (n + 1) h.1 (omega arith)).0)
    read_stmt (return_value a) d n h l =
        read_as d n _ (omega arith) h.0 refl (rw (read_expr a (d - 1) (n + 1) h.1 (omega arith)).0)
    read_stmt return_void d n h l = read_as d n _ l h refl refl
    read_stmt (call_stmt a es) d n h l =
        let p = read_expr a (d - 1) (n + 1) h.1 (omega arith) in
        let q = read_exprs es (d - 1) (n + 1 + size a) h.2 (omega arith) in
        read_as d n _ (omega arith) h.0 refl (rw (add-sub_cancel_left 1 (count es), p.0, q))
    read_stmt (if_else a b c) d n h l =
        let p = read_expr a (d - 1) (n + 1) h.1 (omega arith) in
        let q = read_block b (d - 1) (n + 1 + size a) h.2 (omega arith) in
        let r = read_block c (d - 1) (n + 1 + size a + size_block b) h.3 (omega arith) in
        read_as d n _ (omega arith) h.0 refl (rw (p.0, q, r))
    read_stmt (if_null x t a b c) d n h l =
        let p = read_expr a (d - 1) (n + 1) h.2 (omega arith) in
        let q = read_block b (d - 1) (n + 1 + size a) h.3 (omega arith) in
        let r = read_block c (d - 1) (n + 1 + size a + size_block b) h.4 (omega arith) in
        read_as d n _ (omega arith) h.0 refl (rw (p.0, q, r))
    read_stmt (for vs q s b) d n h l =
        let p = read_vars vs (d - 1) (n + 1) h.1 (omega arith) in
        let u = read_condition q (d - 1) (n + 1 + size_vars vs) h.2 (omega arith) in
        let v = read_step s (d - 1) (n + 1 + size_vars vs + size_condition q) h.3 (omega arith) in
        let w = read_block b (d - 1) (n + 1 + size_vars vs + size_condition q + size_step s) h.4 (omega arith) in
        read_as d n _ (omega arith) h.0 refl (rw (add-sub_cancel (count_vars vs) 3, p, u, v, w))
    read_stmt (while a b) d n h l =
        let p = read_expr a (d - 1) (n + 1) h.1 (omega arith) in
        let q = read_block b (d - 1) (n + 1 + size a) h.2 (omega arith) in
        read_as d n _ (omega arith) h.0 refl (rw (p.0, q))

    read_step : (s : Step) (d n : ℕ) → StepStands T n s → depth_step s ≤ d → step_at T (stmt_at d T) n ≡ s
    read_step no_step d n h l = step_none (stmt_at d T) n h.kind_is
    read_step (step s) d n h l = step_some (stmt_at d T) n (read_stmt s d n h l)

    read_block : (b : Block) (d n : ℕ) → BlockStands T n b → depth_block b ≤ d → block_at T (stmt_at d T) n ≡ b
    read_block (block ss) d n h l = block-at (stmt_at d T) n h.0.children_is (read_stmts ss d (n + 1) h.1 (omega arith))

    read_stmts : (ss : Stmts) (d n : ℕ) → StmtsStand T n ss → depth_stmts ss ≤ d → stmts_from (stmt_at d T) (count_stmts ss) n ≡ ss
    read_stmts empty d n h l = refl
    read_stmts (then s ss) d n h l =
        rw (one_more, (read_stmt s d n h.0 (omega arith)).0, read_stmts ss d (n + size_stmt s) h.1 (omega arith))

  read_parameters : (xs : List ℕ) (n : ℕ) → ParametersStand T n xs → parameters_from T (length xs) n ≡ xs
  unfolding parameters_from
  read_parameters [] n h = refl
  read_parameters (x ∷ xs) n h = rw (h.0.x_is, read_parameters xs (n + 1) h.1)

  read_decl : (e : Decl) (d n : ℕ) → DeclStands T n e → depth_decl e ≤ d → decl_at d T n ≡ e
  unfolding decl_at decl_of
  read_decl (global x a) d n h l = rw (h.0.kind_is, h.0.x_is, (read_expr a d (n + 1) h.2 (omega arith)).0)
  read_decl (function x t xs b) d n h l =
      let p = read_parameters xs (n + 1) h.3 in
      let q = read_block b d (n + 1 + length xs) h.4 (omega arith) in
      rw (h.0.kind_is, h.0.x_is, h.0.t_is, h.0.children_is, add-sub_cancel (length xs) 1, p, q)

  -- two trees that stand at the same node are equal
  pub same_expr : (n : ℕ) (a b : Expr) → Stands T n a → Stands T n b → a ≡ b
  same_expr n a b h k =
      let d = max (depth a) (depth b) in
      sym (read_expr a d n h (omega arith)).0 ∙ (read_expr b d n k (omega arith)).0

  pub same_stmt : (n : ℕ) (a b : Stmt) → StmtStands T n a → StmtStands T n b → a ≡ b
  same_stmt n a b h k =
      let d = max (depth_stmt a) (depth_stmt b) in
      sym (read_stmt a d n h (omega arith)).0 ∙ (read_stmt b d n k (omega arith)).0

  pub same_decl : (n : ℕ) (a b : Decl) → DeclStands T n a → DeclStands T n b → a ≡ b
  same_decl n a b h k =
      let d = max (depth_decl a) (depth_decl b) in
      sym (read_decl a d n h (omega arith)) ∙ read_decl b d n k (omega arith)

  same_decls : (n : ℕ) (ds es : List Decl) → DeclsStand T n ds → DeclsStand T n es → size_decls ds ≡ size_decls es → ds ≡ es
  same_decls n [] [] h k e = refl
  same_decls n [] (b ∷ es) h k e = absurd (omega (arith, some_node b))
  same_decls n (a ∷ ds) [] h k e = absurd (omega (arith, some_node a))
  same_decls n (a ∷ ds) (b ∷ es) h k e =
      let s = same_decl n a b h.0 k.0 in
      let r = subst (λ c. DeclsStand T (n + size_decl c) es) (sym s) k.1 in
      ap₂ ◌∷◌ s (same_decls (n + size_decl a) ds es h.1 r (omega (arith, ap size_decl s)))

pub same_trees : (T : Tables) (ds es : List Decl) → DeclsStand T 0 ds → DeclsStand T 0 es → size_decls ds ≡ length T.nodes
    → size_decls es ≡ length T.nodes → ds ≡ es
same_trees T ds es h k e f = same_decls T 0 ds es h k (omega arith)
