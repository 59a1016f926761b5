-- Every program that stands in the node section within the depth is accepted by the recursive descent. Assumes nothing.
use mathlib.Core.Path.{◌≡◌, refl, ap}
use mathlib.Core.Bool.{Bool, true, false, ◌&&◌, ◌||◌, or-false, or-true, false≢true}
use mathlib.Core.List.{List, [], ◌∷◌}
use Prim.Native.Nat.{ℕ, zero, suc, ◌+◌, ◌-◌, ◌≤◌, ◌<◌}
use native.Mathlib.Numerals.{sub-one}
use native.Mathlib.Nat.{add_assoc, zero-add}
use native.Mathlib.Omega.{arith}
use lib.ListN.{length}
use lib.Dec.{eqb, ltb}
use borrow.Author.Tests.{lt-ltb, le-leb, eq-eqb, ne_eqb}
use Rattle.oat.specs.Basics.{pick}
use Rattle.oat.proofs.LawsBasics.{and_parts}
use Rattle.oat.proofs.LawsNodes.{some_node}
use Rattle.oat.specs.Tables.{Tables, type_at, node_at}
use Rattle.oat.specs.Syntax.{truth, falsity, integer, text, Expr, null, literal, name, array_literal, default_array, array_with, index, length_of, struct_literal, field, call, unary, binary, Exprs, none, also, Inits, no_init, init, Target, name_target, index_target, field_target, target_expr, Vars, no_var, next_var, Condition, no_condition, condition, Stmt, assign, var, return_value, return_void, call_stmt, if_else, if_null, for, while, Step, no_step, step, Block, block, Stmts, empty, then, Decl, global, function, size, sizes, size_inits, size_target, size_vars, size_condition, size_stmt, size_step, size_block, size_stmts, size_decl, size_decls, count, count_inits, count_vars, count_stmts, depth, depths, depth_inits, depth_vars, depth_condition, depth_stmt, depth_step, depth_block, depth_stmts, depth_decl, depth_decls, is_constant, are_constant, inits_constant}
use Rattle.oat.specs.Nodes.{Node, Stands, StandAll, InitsStand, VarsStand, ConditionStands, StmtStands, StepStands, BlockStands, StmtsStand, ParametersStand, DeclStands, DeclsStand}
use Rattle.node_tree.specs.Shape.{is_expression, is_statement, admits, x_fits, t_fits, params_of, count_fits, for_role, child_role}
use Rattle.node_tree.specs.Tree.{Ending, Broken, At, node_fits, node_right, children_of, tree_of, declarations_from, trees_right}
use Rattle.node_tree.specs.declared.shape.Role.{Role}
use Rattle.node_tree.specs.declared.shape.Role.TheVariants.{Declaration, Parameter, Expression, Initializer, Var, Statement}

-- the tree in this role at the node n ends at m
record Ends (T : Tables) (d : ℕ) (c : Bool) (role : Role) (n m : ℕ) : Type 0 where
  ends : tree_of d T c role n ≡ At m

-- `left` children from the child i on, the next one at the node n, end at m
record Run (T : Tables) (d : ℕ) (c : Bool) (role : ℕ → Role) (left i n m : ℕ) : Type 0 where
  runs : children_of (tree_of d T c) role left i n ≡ At m

module _ {T : Tables} {d : ℕ} {c : Bool} {role : ℕ → Role} where
  done : {i n m : ℕ} → n ≡ m → Run T d c role 0 i n m
  unfolding children_of
  done e = record { runs = ap At e }

  -- the next child, in its role
  next_as : {left i n m p : ℕ} {r : Role} → role i ≡ r → Ends T d c r n m → Run T d c role left (i + 1) m p
      → Run T d c role (suc left) i n p
  unfolding children_of
  next_as e a b = record { runs = rw (e, a.ends) b.runs }

  next : {left i n m p : ℕ} → Ends T d c (role i) n m → Run T d c role left (i + 1) m p → Run T d c role (suc left) i n p
  next a b = next_as refl a b

  -- the same for a child of a list
  more : {left i n m p : ℕ} {r : Role} → role i ≡ r → Ends T d c r n m → Run T d c role left (i + 1) m p
      → Run T d c role (1 + left) i n p
  more {left = left} e a b =
      let one : 1 + left ≡ suc left = omega arith in
      rw one (next_as e a b)

  shift : {left i j n m p : ℕ} → Run T d c role left j m p → i ≡ j → n ≡ m → Run T d c role left i n p
  shift s e f = rw (e, f) s

-- a node that fits has its children's trees
module _ {T : Tables} {n k x t count : ℕ} (h : Node T n k x t count) where
  right : (c : Bool) (role : Role) → admits c role k ≡ true → x_fits k x ≡ true → t_fits T k t ≡ true
      → count_fits k (params_of T k t) count ≡ true → node_right T c role n ≡ true
  unfolding node_right node_fits
  right c role a p q r =
      rw (lt-ltb n (length T.nodes) h.within, h.kind_is, h.x_is, h.t_is, h.children_is, a, p, q, r)

  node : {c : Bool} {role : Role} {d m : ℕ} → admits c role k ≡ true → x_fits k x ≡ true → t_fits T k t ≡ true
      → count_fits k (params_of T k t) count ≡ true → 1 ≤ d → Run T (d - 1) (c || eqb k 1) (child_role k count) count 0 (n + 1) m → Ends T d c role n m
  unfolding tree_of
  node {d = zero} a p q r l s = absurd (omega arith)
  node {c} {role} {d = suc d} a p q r l s =
      record { ends = rw (right c role a p q r, h.kind_is, h.children_is) (rw sub-one at s.runs) }

  -- below a global all is in its tree, and below any other node what the node itself is in
  inner : {c : Bool} {role : Role} {d m : ℕ} → eqb k 1 ≡ false → admits c role k ≡ true → x_fits k x ≡ true → t_fits T k t ≡ true
      → count_fits k (params_of T k t) count ≡ true → 1 ≤ d → Run T (d - 1) c (child_role k count) count 0 (n + 1) m → Ends T d c role n m
  inner e a p q r l s = node a p q r l (rw (e, or-false) s)

free : {b : Bool} → false ≡ true → b ≡ true
free e = absurd (false≢true e)

-- an expression that is no constant stands outside a global's tree, where nothing is asked of its children
outside : (k : ℕ) → is_expression false k ≡ true → (c : Bool) → (c ≡ true → false ≡ true) → admits c Expression k ≡ true
unfolding admits
outside k e true q = free (q refl)
outside k e false q = e

anyway : {b c : Bool} → (c ≡ true → false ≡ true) → c ≡ true → b ≡ true
anyway q e = free (q e)

both : {c : Bool} (a b : Bool) → (c ≡ true → (a && b) ≡ true) → (c ≡ true → a ≡ true) × (c ≡ true → b ≡ true)
both a b q = (λ e. (and_parts a b (q e)).0, λ e. (and_parts a b (q e)).1)

mutual
  unfolding admits is_expression x_fits t_fits count_fits child_role

  expr : {T : Tables} {n d : ℕ} {c : Bool} (e : Expr) → Stands T n e → depth e ≤ d → (c ≡ true → is_constant e ≡ true)
      → Ends T d c Expression n (n + size e)
  expr (null t) h l q = inner h.0 refl refl refl h.1 refl l (done refl)
  expr (literal truth) h l q = inner h refl refl refl refl refl l (done refl)
  expr (literal falsity) h l q = inner h refl refl refl refl refl l (done refl)
  expr (literal (integer x)) h l q = inner h refl refl refl refl refl l (done refl)
  expr (literal (text x)) h l q = inner h refl refl refl refl refl l (done refl)
  expr (name x) h l q = inner h refl refl refl refl refl l (done refl)
  expr (array_literal t es) h l q =
      inner h.0 refl refl refl h.1 refl (omega arith) (exprs es h.2 (omega arith) q (λ j. refl) (omega arith))
  expr {c = c} (default_array t a) h l q =
      inner h.0 refl (outside 17 refl c q) refl h.1 refl (omega arith)
      (next (expr a h.2 (omega arith) (anyway q)) (done (omega arith)))
  expr {c = c} (array_with t x a b) h l q =
      inner h.0 refl (outside 18 refl c q) refl h.1 refl (omega arith)
      (next (expr a h.2 (omega arith) (anyway q)) (next (expr b h.3 (omega arith) (anyway q)) (done (omega arith))))
  expr {c = c} (index a b) h l q =
      inner h.0 refl (outside 19 refl c q) refl refl refl (omega arith)
      (next (expr a h.1 (omega arith) (anyway q)) (next (expr b h.2 (omega arith) (anyway q)) (done (omega arith))))
  expr {c = c} (length_of a) h l q =
      inner h.0 refl (outside 20 refl c q) refl refl refl (omega arith)
      (next (expr a h.1 (omega arith) (anyway q)) (done (omega arith)))
  expr (struct_literal t is) h l q =
      inner h.0 refl refl refl h.1 refl (omega arith) (inits is h.2 (omega arith) q (λ j. refl) (omega arith))
  expr {c = c} (field x a) h l q =
      inner h.0 refl (outside 23 refl c q) refl refl refl (omega arith)
      (next (expr a h.1 (omega arith) (anyway q)) (done (omega arith)))
  expr {c = c} (call a es) h l q =
      inner h.0 refl (outside 24 refl c q) refl refl (le-leb 1 (1 + count es) (omega arith)) (omega arith)
      (more refl (expr a h.1 (omega arith) (anyway q)) (exprs es h.2 (omega arith) (anyway q) (λ j. refl) (omega arith)))
  expr {c = c} (unary x a) h l q =
      inner h.0 refl (outside 25 refl c q) (le-leb x 2 h.1) refl refl (omega arith)
      (next (expr a h.2 (omega arith) (anyway q)) (done (omega arith)))
  expr {c = c} (binary x a b) h l q =
      inner h.0 refl (outside 26 refl c q) (le-leb x 15 h.1) refl refl (omega arith)
      (next (expr a h.2 (omega arith) (anyway q)) (next (expr b h.3 (omega arith) (anyway q)) (done (omega arith))))

  exprs : {T : Tables} {n m d i : ℕ} {c : Bool} {role : ℕ → Role} (es : Exprs) → StandAll T n es → depths es ≤ d
      → (c ≡ true → are_constant es ≡ true) → ((j : ℕ) → role j ≡ Expression) → n + sizes es ≡ m → Run T d c role (count es) i n m
  exprs none h l q r e = done (omega arith)
  exprs {i = i} (also a es) h l q r e =
      let (p, s) = both (is_constant a) (are_constant es) q in
      more (r i) (expr a h.0 (omega arith) p) (exprs es h.1 (omega arith) s r (omega arith))

  inits : {T : Tables} {n m d i : ℕ} {c : Bool} {role : ℕ → Role} (is : Inits) → InitsStand T n is → depth_inits is ≤ d
      → (c ≡ true → inits_constant is ≡ true) → ((j : ℕ) → role j ≡ Initializer) → n + size_inits is ≡ m → Run T d c role (count_inits is) i n m
  inits no_init h l q r e = done (omega arith)
  inits {i = i} (init x a is) h l q r e =
      let (p, s) = both (is_constant a) (inits_constant is) q in
      more (r i) (inner h.0 refl refl refl refl refl (omega arith) (next (expr a h.1 (omega arith) p) (done refl)))
      (inits is h.2 (omega arith) s r (omega arith))

-- a tree of one role is one of another role that admits its kind
change : (a r s f : Bool) (o : Ending) (m : ℕ) → (r ≡ true → s ≡ true) → pick (a && r && f) o Broken ≡ At m
    → pick (a && s && f) o Broken ≡ At m
change true true s f o m g e = rw (g refl) e
change true false s f o m g e = absurd (let z : ◌≡◌ {A = ℕ} 0 1 = cc in omega arith)
change false r s f o m g e = e

in_role : {T : Tables} {d : ℕ} {c : Bool} {r s : Role} {n m : ℕ} → Ends T d c r n m
    → (admits c r (node_at T n).kind ≡ true → admits c s (node_at T n).kind ≡ true) → Ends T d c s n m
unfolding tree_of node_right
in_role {d = zero} a g = absurd (let e = a.ends in let z : ◌≡◌ {A = ℕ} 0 1 = cc in omega arith)
in_role {T} {d = suc d} {c} {n = n} {m} a g =
    record { ends = change (ltb n (length T.nodes)) _ _ (node_fits T n) _ m g a.ends }

target : {T : Tables} {n d : ℕ} (g : Target) → Stands T n (target_expr g) → depth (target_expr g) ≤ d
    → Ends T d false Role.Target n (n + size_target g)
unfolding admits
target (name_target x) h l = in_role (expr (name x) h l (λ e. refl)) (λ e. rw h.kind_is)
target (index_target a b) h l = in_role (expr (index a b) h l free) (λ e. rw h.0.kind_is)
target (field_target x a) h l = in_role (expr (field x a) h l free) (λ e. rw h.0.kind_is)

test : {T : Tables} {n d : ℕ} (q : Condition) → ConditionStands T n q → depth_condition q ≤ d
    → Ends T d false Role.Condition n (n + size_condition q)
unfolding admits is_expression x_fits t_fits count_fits
test no_condition h l = inner h refl refl refl refl refl l (done refl)
test (condition a) h l = in_role (expr a h l free) (λ e. rw (e, or-true))

-- the vars of a for, and then its other children
vars : {T : Tables} {n d i left p : ℕ} {role : ℕ → Role} (vs : Vars) → VarsStand T n vs → depth_vars vs ≤ d
    → ((j : ℕ) → j < i + count_vars vs → role j ≡ Var) → Run T d false role left (i + count_vars vs) (n + size_vars vs) p
    → Run T d false role (count_vars vs + left) i n p
unfolding admits x_fits t_fits count_fits child_role
vars no_var h l r s = rw zero-add (shift s (omega arith) (omega arith))
vars {n = n} {i = i} (next_var x a vs) h l r s =
    rw add_assoc
    (more (r i (omega arith)) (inner h.0 refl refl refl refl refl (omega arith) (next (expr a h.1 (omega arith) free) (done refl)))
    (vars {n = n + 1 + size a} vs h.2 (omega arith) (λ j k. r j (omega arith)) (shift s (omega arith) (omega arith))))

-- the roles of a for's children
module _ (count i : ℕ) where
  for_var : i + 3 < count → for_role count i ≡ Var
  unfolding for_role
  for_var h = simp (ne_eqb (i + 1) count (omega arith), ne_eqb (i + 2) count (omega arith), ne_eqb (i + 3) count (omega arith))

  for_condition : i + 3 ≡ count → for_role count i ≡ Role.Condition
  unfolding for_role
  for_condition h = simp (ne_eqb (i + 1) count (omega arith), ne_eqb (i + 2) count (omega arith), eq-eqb (i + 3) count h)

  for_step : i + 2 ≡ count → for_role count i ≡ Role.Step
  unfolding for_role
  for_step h = simp (ne_eqb (i + 1) count (omega arith), eq-eqb (i + 2) count h)

  for_block : i + 1 ≡ count → for_role count i ≡ Role.Block
  unfolding for_role
  for_block h = rw (eq-eqb (i + 1) count h)

mutual
  unfolding admits is_statement x_fits t_fits count_fits child_role

  stmt : {T : Tables} {n d : ℕ} (s : Stmt) → StmtStands T n s → depth_stmt s ≤ d → Ends T d false Statement n (n + size_stmt s)
  stmt (assign g a) h l =
      inner h.0 refl refl refl refl refl (omega arith)
      (next (target g h.1 (omega arith)) (next (expr a h.2 (omega arith) free) (done (omega arith))))
  stmt (var x a) h l =
      inner h.0 refl refl refl refl refl (omega arith) (next (expr a h.1 (omega arith) free) (done (omega arith)))
  stmt (return_value a) h l =
      inner h.0 refl refl refl refl refl (omega arith) (next (expr a h.1 (omega arith) free) (done (omega arith)))
  stmt return_void h l = inner h refl refl refl refl refl l (done refl)
  stmt (call_stmt a es) h l =
      inner h.0 refl refl refl refl (le-leb 1 (1 + count es) (omega arith)) (omega arith)
      (more refl (expr a h.1 (omega arith) free) (exprs es h.2 (omega arith) free (λ j. refl) (omega arith)))
  stmt (if_else a b c) h l =
      inner h.0 refl refl refl refl refl (omega arith)
      (next (expr a h.1 (omega arith) free) (next (body b h.2 (omega arith)) (next (body c h.3 (omega arith)) (done (omega arith)))))
  stmt (if_null x t a b c) h l =
      inner h.0 refl refl refl h.1 refl (omega arith)
      (next (expr a h.2 (omega arith) free) (next (body b h.3 (omega arith)) (next (body c h.4 (omega arith)) (done (omega arith)))))
  stmt (for vs q s b) h l =
      inner h.0 refl refl refl refl (le-leb 3 (count_vars vs + 3) (omega arith)) (omega arith)
      (vars vs h.1 (omega arith) (λ j k. for_var _ j (omega arith))
      (next_as (for_condition _ _ (omega arith)) (test q h.2 (omega arith))
      (next_as (for_step _ _ (omega arith)) (stepping s h.3 (omega arith))
      (next_as (for_block _ _ (omega arith)) (body b h.4 (omega arith)) (done (omega arith))))))
  stmt (while a b) h l =
      inner h.0 refl refl refl refl refl (omega arith)
      (next (expr a h.1 (omega arith) free) (next (body b h.2 (omega arith)) (done (omega arith))))

  stepping : {T : Tables} {n d : ℕ} (s : Step) → StepStands T n s → depth_step s ≤ d → Ends T d false Role.Step n (n + size_step s)
  stepping no_step h l = inner h refl refl refl refl refl l (done refl)
  stepping (step s) h l = in_role (stmt s h l) (λ e. rw (e, or-true))

  body : {T : Tables} {n d : ℕ} (b : Block) → BlockStands T n b → depth_block b ≤ d → Ends T d false Role.Block n (n + size_block b)
  body (block ss) h l =
      inner h.0 refl refl refl refl refl (omega arith) (stmts ss h.1 (omega arith) (λ j. refl) (omega arith))

  stmts : {T : Tables} {n m d i : ℕ} {role : ℕ → Role} (ss : Stmts) → StmtsStand T n ss → depth_stmts ss ≤ d
      → ((j : ℕ) → role j ≡ Statement) → n + size_stmts ss ≡ m → Run T d false role (count_stmts ss) i n m
  stmts empty h l r e = done (omega arith)
  stmts {i = i} (then s ss) h l r e = more (r i) (stmt s h.0 (omega arith)) (stmts ss h.1 (omega arith) r (omega arith))

-- the parameters of a function, and then its block
parameters : {T : Tables} {n d i left p : ℕ} {role : ℕ → Role} (xs : List ℕ) → ParametersStand T n xs → 1 ≤ d
    → ((j : ℕ) → j < i + length xs → role j ≡ Parameter) → Run T d false role left (i + length xs) (n + length xs) p
    → Run T d false role (length xs + left) i n p
unfolding admits x_fits t_fits count_fits
parameters [] h l r s = rw zero-add (shift s (omega arith) (omega arith))
parameters {n = n} {i = i} {left = left} (x ∷ xs) h l r s =
    let one : suc (length xs) + left ≡ 1 + (length xs + left) = omega arith in
    rw one
    (more (r i (omega arith)) (inner h.0 refl refl refl refl refl l (done refl))
    (parameters {n = n + 1} xs h.1 l (λ j k. r j (omega arith)) (shift s (omega arith) (omega arith))))

-- the roles of a function's children
module _ (count i : ℕ) where
  function_parameter : i + 1 < count → child_role 2 count i ≡ Parameter
  unfolding child_role
  function_parameter h = rw (ne_eqb (i + 1) count (omega arith))

  function_block : i + 1 ≡ count → child_role 2 count i ≡ Role.Block
  unfolding child_role
  function_block h = rw (eq-eqb (i + 1) count h)

declaration : {T : Tables} {n d : ℕ} (e : Decl) → DeclStands T n e → depth_decl e ≤ d → Ends T d false Declaration n (n + size_decl e)
unfolding admits x_fits t_fits count_fits params_of child_role
declaration (global x a) h l =
    node h.0 refl refl refl refl (omega arith) (next (expr a h.2 (omega arith) (λ e. h.1)) (done (omega arith)))
declaration {T} (function x t xs (block ss)) h l =
    inner h.0 refl refl refl h.1 (eq-eqb (length xs + 1) ((type_at T t).c + 1) (ap (λ k. k + 1) h.2)) (omega arith)
    (parameters xs h.3 (omega arith) (λ j k. function_parameter (length xs + 1) j (omega arith))
    (next_as (function_block (length xs + 1) (0 + length xs) (omega arith)) (body (block ss) h.4 (omega arith)) (done (omega arith))))

-- the declarations from the node n on use up the nodes
declarations : (T : Tables) (d most n : ℕ) (ds : List Decl) → DeclsStand T n ds → n + size_decls ds ≡ length T.nodes
    → depth_decls ds ≤ d → size_decls ds ≤ most → declarations_from most d T n ≡ true
unfolding declarations_from
declarations T d zero n [] h e l k = eq-eqb n (length T.nodes) (omega arith)
declarations T d (suc most) n [] h e l k = rw (eq-eqb n (length T.nodes) (omega arith))
declarations T d zero n (a ∷ ds) h e l k = absurd (omega (arith, some_node a))
declarations T d (suc most) n (a ∷ ds) h e l k =
    let more : 1 ≤ size_decl a = some_node a in
    rw (ne_eqb n (length T.nodes) (omega arith), (declaration {T = T} {n = n} {d = d} a h.0 (omega arith)).ends)
    (declarations T d most (n + size_decl a) ds h.1 (omega arith) (omega arith) (omega arith))

pub trees_accepted : (depth : ℕ) (T : Tables) (ds : List Decl) → DeclsStand T 0 ds → size_decls ds ≡ length T.nodes → depth_decls ds ≤ depth
    → trees_right depth T ≡ true
unfolding trees_right
trees_accepted depth T ds h e l = declarations T depth (length T.nodes) 0 ds h (omega arith) l (omega arith)
