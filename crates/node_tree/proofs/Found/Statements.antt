-- The trees of statements, blocks and declarations, kind by kind. Assumes nothing.
use mathlib.Core.Path.{◌≡◌, refl, sym, subst, subst₃}
use mathlib.Core.Bool.{Bool, true, false, ◌||◌}
use Prim.Native.Nat.{ℕ, suc, ◌+◌, ◌-◌, ◌≤◌, ◌<◌, max}
use native.Mathlib.Omega.{arith}
use lib.Dec.{eqb}
use borrow.Author.Tests.{leb-true, eqb-true, eq-eqb, ne_eqb}
use Rattle.oat.specs.Tables.{Tables, type_at}
use Rattle.oat.specs.Syntax.{assign, var, return_value, return_void, call_stmt, if_else, if_null, for, while, no_condition, condition, no_step, step, block, global, function}
use Rattle.node_tree.specs.Shape.{is_expression, is_statement, x_fits, t_fits, params_of, count_fits, for_role, child_role}
use Rattle.node_tree.specs.Tree.{At, children_of, tree_of}
use Rattle.node_tree.specs.declared.shape.Role.{Role}
use Rattle.node_tree.specs.declared.shape.Role.TheVariants.{Declaration, Parameter, Var, Statement, Block, Condition, Step}
use Rattle.node_tree.proofs.Found.Sorts.{Sort, Found, nothing, next, found_next, found_as, sort_of, vars, parameters}
use Rattle.node_tree.proofs.Found.Children.{children_found, list_found, whole_list}
use Rattle.node_tree.proofs.Found.Lists.{var_list, statement_list, parameter_list}
use Rattle.node_tree.proofs.Found.Fitting.{Fits, fits_as, zero_is, plain, at_kind, at_range, either}
use Rattle.node_tree.proofs.Found.Descent.{Levels, node_found, call_found}
use Rattle.node_tree.proofs.Found.Expressions.{var_found, expression_found}

-- the roles of a for's children, and of a function's
var_role : (left k : ℕ) → k < left → child_role 37 (left + 3) k ≡ Var
unfolding child_role for_role
var_role left k h = simp (ne_eqb (k + 1) (left + 3) (omega arith), ne_eqb (k + 2) (left + 3) (omega arith), ne_eqb (k + 3) (left + 3) (omega arith))

condition_role : (left k : ℕ) → k ≡ left → child_role 37 (left + 3) k ≡ Condition
unfolding child_role for_role
condition_role left k h =
    simp (ne_eqb (k + 1) (left + 3) (omega arith), ne_eqb (k + 2) (left + 3) (omega arith), eq-eqb (k + 3) (left + 3) (omega arith))

step_role : (left k : ℕ) → k ≡ left + 1 → child_role 37 (left + 3) k ≡ Step
unfolding child_role for_role
step_role left k h = simp (ne_eqb (k + 1) (left + 3) (omega arith), eq-eqb (k + 2) (left + 3) (omega arith))

body_role : (left k : ℕ) → k ≡ left + 2 → child_role 37 (left + 3) k ≡ Block
unfolding child_role for_role
body_role left k h = simp (eq-eqb (k + 1) (left + 3) (omega arith))

parameter_role : (left k : ℕ) → k < left → child_role 2 (left + 1) k ≡ Parameter
unfolding child_role
parameter_role left k h = simp (ne_eqb (k + 1) (left + 1) (omega arith))

function_role : (left k : ℕ) → k ≡ left → child_role 2 (left + 1) k ≡ Block
unfolding child_role
function_role left k h = simp (eq-eqb (k + 1) (left + 1) (omega arith))

for_deep : (v q s b d : ℕ) → max v (max q (max s (max b 0))) ≤ d → 1 + max v (max q (max s b)) ≤ suc d
for_deep v q s b d h =
    let e : max b 0 ≡ b = omega arith in
    let k = rw e at h in
    omega arith

or-true : (b : Bool) → (b || true) ≡ true
or-true true = refl
or-true false = refl

-- the children of a for and of a function
module _ {T : Tables} {d : ℕ} (levels : Levels T d) (b : Bool) (left n j : ℕ) where
  abbrev for_sorts : Role → Role → Role → Sort
  for_sorts u v w = next (sort_of T b u) (next (sort_of T b v) (next (sort_of T b w) nothing))

  for_found : children_of (tree_of d T b) (child_role 37 (left + 3)) (left + 3) 0 n ≡ At j
      → Found (next (vars T left) (for_sorts Condition Step Block)) d n j
  for_found e =
      let role = child_role 37 (left + 3) in
      let (m, a, f) = list_found (levels.below b) role (var_list T b d) left 3 0 n j (λ k l. var_role left k (omega arith)) e in
      let g = children_found (levels.below b) role 3 (0 + left) m j f in
      let q = condition_role left (0 + left) (omega arith) in
      let s = step_role left (0 + left + 1) (omega arith) in
      let r = body_role left (0 + left + 1 + 1) (omega arith) in
      found_next a (subst₃ (λ u v w. Found (for_sorts u v w) d m j) q s r g)

  function_found : children_of (tree_of d T b) (child_role 2 (left + 1)) (left + 1) 0 n ≡ At j
      → Found (next (parameters T left) (next (sort_of T b Block) nothing)) d n j
  function_found e =
      let role = child_role 2 (left + 1) in
      let (m, a, f) = list_found (levels.below b) role (parameter_list T b d) left 1 0 n j (λ k l. parameter_role left k (omega arith)) e in
      let g = children_found (levels.below b) role 1 (0 + left) m j f in
      let r = function_role left (0 + left) (omega arith) in
      found_next a (subst (λ u. Found (next (sort_of T b u) nothing) d m j) r g)

-- trees are found on the d levels below the node n, whose own tree ends at j
module _ {T : Tables} {d : ℕ} (levels : Levels T d) (constant : Bool) (n j x t c : ℕ) where
  -- from a node of the kind k a tree in the role r
  abbrev Gives : Role → ℕ → Type 0
  Gives r k = Fits T constant d n j k x t c → Found (sort_of T constant r) (suc d) n j

  assign_found : Gives Statement 30
  unfolding x_fits t_fits count_fits child_role
  assign_found f =
      node_found levels (plain 2 f f.x_fit f.t-fits f.count_fit)
      (λ p. assign p.0 p.1.0)
      (λ node p s. (node, s.0, s.1.0.0))
      (λ p. omega arith)

  var_statement : Gives Statement 31
  var_statement f =
      found_as (suc d) n (var_found levels constant n j x t c f) (λ p. var p.0 p.1) (λ p s. (s.0, s.1.0)) (λ p. refl) (λ p h. h)

  return_found : Gives Statement 32
  unfolding x_fits t_fits count_fits child_role
  return_found f =
      node_found levels (plain 1 f f.x_fit f.t-fits f.count_fit)
      (λ p. return_value p.0)
      (λ node p s. (node, s.0.0))
      (λ p. omega arith)

  void_found : Gives Statement 33
  unfolding x_fits t_fits count_fits child_role
  void_found f =
      node_found levels (plain 0 f f.x_fit f.t-fits f.count_fit)
      (λ p. return_void)
      (λ node p s. node)
      (λ p. omega arith)

  call_statement : Gives Statement 34
  unfolding x_fits t_fits count_fits child_role
  call_statement f =
      let some = leb-true 1 c f.count_fit in
      let (left, e, a) = call_found levels (constant || false) (child_role 34 c) (λ k. refl) c (n + 1) j some f.children in
      found_as (suc d) n a
      (λ p. call_stmt p.0 p.1)
      (λ p s. ((fits_as f (zero_is f.x_fit) (zero_is f.t-fits) (omega (arith, e, s.1.0))).node, s.0.0, s.1.1))
      (λ p. omega arith)
      (λ p h. omega arith)

  if_found : Gives Statement 35
  unfolding x_fits t_fits count_fits child_role
  if_found f =
      node_found levels (plain 3 f f.x_fit f.t-fits f.count_fit)
      (λ p. if_else p.0 p.1.0 p.1.1.0)
      (λ node p s. (node, s.0.0, s.1.0, s.1.1.0))
      (λ p. omega arith)

  if_null_found : Gives Statement 36
  unfolding x_fits t_fits count_fits child_role
  if_null_found f =
      node_found levels (fits_as f refl refl (eqb-true c 3 f.count_fit))
      (λ p. if_null x t p.0 p.1.0 p.1.1.0)
      (λ node p s. (node, f.t-fits, s.0.0, s.1.0, s.1.1.0))
      (λ p. omega arith)

  for_statement : Gives Statement 37
  unfolding x_fits t_fits count_fits
  for_statement f =
      let h = leb-true 3 c f.count_fit in
      let g : Fits T constant d n j 37 0 0 (c - 3 + 3) = fits_as f (zero_is f.x_fit) (zero_is f.t-fits) (omega arith) in
      found_as (suc d) n (for_found levels (constant || false) (c - 3) (n + 1) j g.children)
      (λ p. for p.0 p.1.0 p.1.1.0 p.1.1.1.0)
      (λ p s. ((fits_as g refl refl (omega (arith, s.0.0))).node, s.0.1, s.1.0, s.1.1.0, s.1.1.1.0))
      (λ p. omega arith)
      (λ p m. for_deep _ _ _ _ d m)

  while_found : Gives Statement 38
  unfolding x_fits t_fits count_fits child_role
  while_found f =
      node_found levels (plain 2 f f.x_fit f.t-fits f.count_fit)
      (λ p. while p.0 p.1.0)
      (λ node p s. (node, s.0.0, s.1.0))
      (λ p. omega arith)

  pub statement_found : (k : ℕ) → is_statement k ≡ true → Gives Statement k
  unfolding is_statement
  statement_found k e =
      at_range (Gives Statement) k 30 38 9 e (omega arith)
      (assign_found, (var_statement, (return_found, (void_found, (call_statement, (if_found, (if_null_found, (for_statement, (while_found, tt)))))))))

  pub block_found : Gives Block 39
  unfolding x_fits t_fits count_fits child_role
  block_found f =
      let b = constant || false in
      let a = whole_list (levels.below b) (child_role 39 c) (statement_list T b d) c 0 (n + 1) j (λ k. refl) f.children in
      found_as (suc d) n a
      (λ ss. block ss)
      (λ ss s. ((fits_as f (zero_is f.x_fit) (zero_is f.t-fits) (sym s.0)).node, s.1))
      (λ ss. omega arith)
      (λ ss h. omega arith)

  -- the condition and the step of a for
  no_condition_found : Gives Condition 40
  unfolding x_fits t_fits count_fits child_role
  no_condition_found f =
      node_found levels (plain 0 f f.x_fit f.t-fits f.count_fit)
      (λ p. no_condition)
      (λ node p s. node)
      (λ p. omega arith)

  pub condition_found : (k : ℕ) → (eqb k 40 || is_expression constant k) ≡ true → Gives Condition k
  condition_found k e =
      either (eqb k 40) (is_expression constant k) e
      (λ u. at_kind (Gives Condition) k 40 u no_condition_found)
      (λ u f. found_as (suc d) n (expression_found levels constant n j x t c k u f) condition (λ a s. s.0) (λ a. refl) (λ a h. h))

  no_step_found : Gives Step 40
  unfolding x_fits t_fits count_fits child_role
  no_step_found f =
      node_found levels (plain 0 f f.x_fit f.t-fits f.count_fit)
      (λ p. no_step)
      (λ node p s. node)
      (λ p. omega arith)

  pub step_found : (k : ℕ) → (eqb k 40 || is_statement k) ≡ true → Gives Step k
  step_found k e =
      either (eqb k 40) (is_statement k) e
      (λ u. at_kind (Gives Step) k 40 u no_step_found)
      (λ u f. found_as (suc d) n (statement_found k u f) step (λ a s. s) (λ a. refl) (λ a h. h))

  -- declarations
  pub parameter_found : Gives Parameter 3
  unfolding x_fits t_fits count_fits child_role
  parameter_found f =
      node_found levels (fits_as f refl (zero_is f.t-fits) (zero_is f.count_fit))
      (λ p. x)
      (λ node p s. node)
      (λ p. omega arith)

  pub global_found : Gives Declaration 1
  unfolding x_fits t_fits count_fits child_role
  global_found f =
      node_found levels (fits_as f refl (zero_is f.t-fits) (eqb-true c 1 f.count_fit))
      (λ p. global x p.0)
      (λ node p s. (node, s.0.1 (or-true constant), s.0.0))
      (λ p. omega arith)

  pub function_declaration : Gives Declaration 2
  unfolding x_fits t_fits count_fits params_of
  function_declaration f =
      let g : Fits T constant d n j 2 x t ((type_at T t).c + 1) = fits_as f refl refl (eqb-true c ((type_at T t).c + 1) f.count_fit) in
      found_as (suc d) n (function_found levels (constant || false) (type_at T t).c (n + 1) j g.children)
      (λ p. function x t p.0 p.1.0)
      (λ p s. ((fits_as g refl refl (omega (arith, s.0.0))).node, f.t-fits, s.0.0, s.0.1, s.1.0))
      (λ p. omega arith)
      (λ p m. omega arith)
