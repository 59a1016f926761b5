-- A node over the trees of its children, where trees are found on the levels below it. Assumes nothing.
use mathlib.Core.Path.{◌≡◌, subst}
use mathlib.Core.Bool.{Bool, ◌||◌}
use Prim.Native.Nat.{ℕ, zero, suc, ◌+◌, ◌≤◌}
use native.Mathlib.Omega.{arith}
use lib.Dec.{eqb}
use Rattle.oat.specs.Tables.{Tables}
use Rattle.oat.specs.Nodes.{Node}
use Rattle.node_tree.specs.Shape.{child_role}
use Rattle.node_tree.specs.Tree.{At, children_of, tree_of}
use Rattle.node_tree.specs.declared.shape.Role.{Role}
use Rattle.node_tree.specs.declared.shape.Role.TheVariants.{Expression}
use Rattle.node_tree.proofs.Found.Sorts.{Sort, Found, next, found_next, found_as, expression, sort_of, expressions}
use Rattle.node_tree.proofs.Found.Children.{Below, sorts, first_found, children_found, whole_list}
use Rattle.node_tree.proofs.Found.Lists.{expression_list}
use Rattle.node_tree.proofs.Found.Fitting.{Fits}

-- trees are found on d levels, in a global's tree and outside
pub record Levels (T : Tables) (d : ℕ) : Type 0 where
  pub below : (constant : Bool) → Below T constant d (tree_of d T constant)

-- the children of a node of the kind k
abbrev pub kids : Tables → Bool → ℕ → ℕ → Sort
kids T constant k c = sorts T (constant || eqb k 1) (child_role k c) c 0

module _ {T : Tables} {d : ℕ} (levels : Levels T d) where
  -- a tree made of a node's children
  pub node_found : {constant : Bool} {n j k x t c : ℕ} {S : Sort}
      → Fits T constant d n j k x t c
      → (f : (kids T constant k c).Tree → S.Tree)
      → (Node T n k x t c → (a : (kids T constant k c).Tree) → (kids T constant k c).Stand (n + 1) a → S.Stand n (f a))
      → ((a : (kids T constant k c).Tree) → (S.long (f a) ≡ 1 + (kids T constant k c).long a) × (S.deep (f a) ≤ 1 + (kids T constant k c).deep a))
      → Found S (suc d) n j
  node_found {constant} {n} {j} {k} {x} {t} {c} g f s h =
      let a = children_found (levels.below (constant || eqb k 1)) (child_role k c) c 0 (n + 1) j g.children in
      found_as (suc d) n a f (s g.node) (λ a. omega (arith, (h a).0)) (λ a m. omega (arith, (h a).1))

  module _ (b : Bool) (role : ℕ → Role) (all : (k : ℕ) → role k ≡ Expression) where
    -- children that are all expressions
    pub expressions_found : (c i n j : ℕ) → children_of (tree_of d T b) role c i n ≡ At j → Found (expressions T b c) d n j
    expressions_found c i n j e = whole_list (levels.below b) role (expression_list T b d) c i n j all e

    -- a callee and its arguments
    pub call_found : (c n j : ℕ)
        → 1 ≤ c
        → children_of (tree_of d T b) role c 0 n ≡ At j
        → (left : ℕ) × (c ≡ 1 + left) × Found (next (expression T b) (expressions T b left)) d n j
    call_found zero n j l e = absurd (omega arith)
    call_found (suc left) n j l e =
        let (m, a, f) = first_found (levels.below b) role left 0 n j e in
        let callee = subst (λ r. Found (sort_of T b r) d n m) (all 0) a in
        (left, omega arith, found_next callee (expressions_found left 1 m j f))
