-- The trees of expressions, initializers, vars and targets, kind by kind. Assumes nothing.
use mathlib.Core.Path.{◌≡◌, refl, sym}
use mathlib.Core.Bool.{Bool, true, false, ◌||◌}
use Prim.Native.Nat.{ℕ, suc, ◌+◌}
use native.Mathlib.Omega.{arith}
use lib.Dec.{eqb}
use borrow.Author.Tests.{leb-true, eqb-true}
use Rattle.oat.specs.Tables.{Tables}
use Rattle.oat.specs.Syntax.{truth, falsity, integer, text, null, literal, name, array_literal, default_array, array_with, length_of, struct_literal, call, unary, binary, name_target, index_target, field_target, target_expr}
use Rattle.node_tree.specs.Shape.{is_expression, x_fits, t_fits, count_fits, child_role}
use Rattle.node_tree.specs.declared.shape.Role.{Role}
use Rattle.node_tree.specs.declared.shape.Role.TheVariants.{Expression, Initializer, Target, Var}
use Rattle.node_tree.proofs.Found.Sorts.{Found, found_as, expression, sort_of}
use Rattle.node_tree.proofs.Found.Children.{whole_list}
use Rattle.node_tree.proofs.Found.Lists.{initializer_list}
use Rattle.node_tree.proofs.Found.Fitting.{Fits, fits_as, zero_is, plain, either, at_kind, at_expression}
use Rattle.node_tree.proofs.Found.Descent.{Levels, node_found, expressions_found, call_found}

never : {X : Type 0} {b : Bool} → b ≡ false → b ≡ true → X
never e f = absurd (let z : ◌≡◌ {A = ℕ} 0 1 = cc in omega arith)

-- trees are found on the d levels below the node n, whose own tree ends at j
module _ {T : Tables} {d : ℕ} (levels : Levels T d) (constant : Bool) (n j x t c : ℕ) where
  -- from a node of the kind k a tree in the role r
  abbrev Gives : Role → ℕ → Type 0
  Gives r k = Fits T constant d n j k x t c → Found (sort_of T constant r) (suc d) n j

  -- a name over an expression
  pub initializer_found : Gives Initializer 22
  unfolding x_fits t_fits count_fits child_role
  initializer_found f =
      node_found levels (fits_as f refl (zero_is f.t-fits) (eqb-true c 1 f.count_fit))
      (λ p. (x, p.0))
      (λ node p s. (node, (s.0.0, λ e. s.0.1 (rw e))))
      (λ p. omega arith)

  pub var_found : Gives Var 31
  unfolding x_fits t_fits count_fits child_role
  var_found f =
      node_found levels (fits_as f refl (zero_is f.t-fits) (eqb-true c 1 f.count_fit))
      (λ p. (x, p.0))
      (λ node p s. (node, (s.0.0, λ e. s.0.1 (rw e))))
      (λ p. omega arith)

  -- targets
  name-target : Gives Target 15
  unfolding x_fits t_fits count_fits child_role
  name-target f =
      node_found levels (fits_as f refl (zero_is f.t-fits) (zero_is f.count_fit))
      (λ a. name_target x)
      (λ node a s. node)
      (λ a. omega arith)

  index-target : Gives Target 19
  unfolding x_fits t_fits count_fits child_role
  index-target f =
      node_found levels (plain 2 f f.x_fit f.t-fits f.count_fit)
      (λ p. index_target p.0 p.1.0)
      (λ node p s. (node, s.0.0, s.1.0.0))
      (λ p. omega arith)

  field-target : Gives Target 23
  unfolding x_fits t_fits count_fits child_role
  field-target f =
      node_found levels (fits_as f refl (zero_is f.t-fits) (eqb-true c 1 f.count_fit))
      (λ p. field_target x p.0)
      (λ node p s. (node, s.0.0))
      (λ p. omega arith)

  pub target_found : (k : ℕ) → (eqb k 15 || eqb k 19 || eqb k 23) ≡ true → Gives Target k
  target_found k e =
      either (eqb k 15 || eqb k 19) (eqb k 23) e
      (λ u. either (eqb k 15) (eqb k 19) u (λ w. at_kind (Gives Target) k 15 w name-target) (λ w. at_kind (Gives Target) k 19 w index-target))
      (λ u. at_kind (Gives Target) k 23 u field-target)

  -- leaves
  null_found : Gives Expression 10
  unfolding x_fits t_fits count_fits child_role
  null_found f =
      node_found levels (fits_as f (zero_is f.x_fit) refl (zero_is f.count_fit))
      (λ a. null t)
      (λ node a s. ((node, f.t-fits), λ e. refl))
      (λ a. omega arith)

  truth_found : Gives Expression 11
  unfolding x_fits t_fits count_fits child_role
  truth_found f =
      node_found levels (plain 0 f f.x_fit f.t-fits f.count_fit)
      (λ a. literal truth)
      (λ node a s. (node, λ e. refl))
      (λ a. omega arith)

  falsity_found : Gives Expression 12
  unfolding x_fits t_fits count_fits child_role
  falsity_found f =
      node_found levels (plain 0 f f.x_fit f.t-fits f.count_fit)
      (λ a. literal falsity)
      (λ node a s. (node, λ e. refl))
      (λ a. omega arith)

  integer_found : Gives Expression 13
  unfolding x_fits t_fits count_fits child_role
  integer_found f =
      node_found levels (fits_as f refl (zero_is f.t-fits) (zero_is f.count_fit))
      (λ a. literal (integer x))
      (λ node a s. (node, λ e. refl))
      (λ a. omega arith)

  text_found : Gives Expression 14
  unfolding x_fits t_fits count_fits child_role
  text_found f =
      node_found levels (fits_as f refl (zero_is f.t-fits) (zero_is f.count_fit))
      (λ a. literal (text x))
      (λ node a s. (node, λ e. refl))
      (λ a. omega arith)

  name_found : Gives Expression 15
  unfolding x_fits t_fits count_fits child_role
  name_found f =
      node_found levels (fits_as f refl (zero_is f.t-fits) (zero_is f.count_fit))
      (λ a. name x)
      (λ node a s. (node, λ e. refl))
      (λ a. omega arith)

  -- lists
  array_literal_found : Gives Expression 16
  unfolding x_fits t_fits count_fits child_role
  array_literal_found f =
      found_as (suc d) n (expressions_found levels (constant || false) (child_role 16 c) (λ k. refl) c 0 (n + 1) j f.children)
      (λ es. array_literal t es)
      (λ es s. (((fits_as f (zero_is f.x_fit) refl (sym s.0)).node, f.t-fits, s.1), λ e. s.2 (rw e)))
      (λ es. omega arith)
      (λ es h. omega arith)

  struct_literal_found : Gives Expression 21
  unfolding x_fits t_fits count_fits child_role
  struct_literal_found f =
      let b = constant || false in
      let a = whole_list (levels.below b) (child_role 21 c) (initializer_list T b d) c 0 (n + 1) j (λ k. refl) f.children in
      found_as (suc d) n a
      (λ is. struct_literal t is)
      (λ is s. (((fits_as f (zero_is f.x_fit) refl (sym s.0)).node, f.t-fits, s.1), λ e. s.2 (rw e)))
      (λ is. omega arith)
      (λ is h. omega arith)

  -- what isn't constant
  module _ (off : constant ≡ false) where
    of_target : Found (sort_of T constant Target) (suc d) n j → Found (expression T constant) (suc d) n j
    of_target g = found_as (suc d) n g target_expr (λ a s. (s, never off)) (λ a. refl) (λ a h. h)

    default_array_found : Gives Expression 17
    unfolding x_fits t_fits count_fits child_role
    default_array_found f =
        node_found levels (fits_as f (zero_is f.x_fit) refl (eqb-true c 1 f.count_fit))
        (λ p. default_array t p.0)
        (λ node p s. ((node, f.t-fits, s.0.0), never off))
        (λ p. omega arith)

    array_with_found : Gives Expression 18
    unfolding x_fits t_fits count_fits child_role
    array_with_found f =
        node_found levels (fits_as f refl refl (eqb-true c 2 f.count_fit))
        (λ p. array_with t x p.0 p.1.0)
        (λ node p s. ((node, f.t-fits, s.0.0, s.1.0.0), never off))
        (λ p. omega arith)

    length_found : Gives Expression 20
    unfolding x_fits t_fits count_fits child_role
    length_found f =
        node_found levels (plain 1 f f.x_fit f.t-fits f.count_fit)
        (λ p. length_of p.0)
        (λ node p s. ((node, s.0.0), never off))
        (λ p. omega arith)

    call_expression_found : Gives Expression 24
    unfolding x_fits t_fits count_fits child_role
    call_expression_found f =
        let some = leb-true 1 c f.count_fit in
        let (left, e, a) = call_found levels (constant || false) (child_role 24 c) (λ k. refl) c (n + 1) j some f.children in
        found_as (suc d) n a
        (λ p. call p.0 p.1)
        (λ p s. (((fits_as f (zero_is f.x_fit) (zero_is f.t-fits) (omega (arith, e, s.1.0))).node, s.0.0, s.1.1), never off))
        (λ p. omega arith)
        (λ p h. omega arith)

    unary_found : Gives Expression 25
    unfolding x_fits t_fits count_fits child_role
    unary_found f =
        node_found levels (fits_as f refl (zero_is f.t-fits) (eqb-true c 1 f.count_fit))
        (λ p. unary x p.0)
        (λ node p s. ((node, leb-true x 2 f.x_fit, s.0.0), never off))
        (λ p. omega arith)

    binary_found : Gives Expression 26
    unfolding x_fits t_fits count_fits child_role
    binary_found f =
        node_found levels (fits_as f refl (zero_is f.t-fits) (eqb-true c 2 f.count_fit))
        (λ p. binary x p.0 p.1.0)
        (λ node p s. ((node, leb-true x 15 f.x_fit, s.0.0, s.1.0.0), never off))
        (λ p. omega arith)

  pub expression_found : (k : ℕ) → is_expression constant k ≡ true → Gives Expression k
  expression_found k e =
      at_expression (Gives Expression) k constant e
      (null_found, (truth_found, (falsity_found, (integer_found, (text_found, (name_found, (array_literal_found, tt)))))))
      struct_literal_found
      (λ off. (default_array_found off, (array_with_found off, ((λ g. of_target off (index-target g)), (length_found off, tt)))))
      (λ off. ((λ g. of_target off (field-target g)), (call_expression_found off, (unary_found off, (binary_found off, tt)))))
