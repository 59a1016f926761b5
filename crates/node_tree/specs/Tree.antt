-- The node tree by recursive descent: structural on the levels left, so that depth is bounded (number 5). Assumes nothing.
use Rattle.std.specs.Prelude.{Bool, true, false, ◌&&◌, ◌||◌, ℕ, zero, suc, ◌+◌, length, eqb, ltb}
use Rattle.oat.specs.Basics.{pick}
use Rattle.oat.specs.Tables.{Tables, node_at}
use Rattle.node_tree.specs.Shape.{admits, x_fits, t_fits, params_of, count_fits, child_role}
use Rattle.node_tree.specs.declared.shape.Role.{Role}
use Rattle.node_tree.specs.declared.shape.Role.TheVariants.{Declaration}

-- where a tree ends: at the node after it
pub data Ending : Type 0 where
  Broken : Ending
  At : (n : ℕ) → Ending

-- the operands and the child count of the node n are those of its kind
unfoldable pub node_fits : Tables → ℕ → Bool
node_fits T n =
    x_fits (node_at T n).kind (node_at T n).x
    && t_fits T (node_at T n).kind (node_at T n).t
    && count_fits (node_at T n).kind (params_of T (node_at T n).kind (node_at T n).t) (node_at T n).children

-- the node n is there, may stand in this role, and fits
unfoldable pub node_right : Tables → Bool → Role → ℕ → Bool
node_right T constant role n = ltb n (length T.nodes) && admits constant role (node_at T n).kind && node_fits T n

abbrev pub then_at : Ending → (ℕ → Ending) → Ending
then_at Broken k = Broken
then_at (At n) k = k n

-- `left` children from the child i on, the next one at the node n, where `tree` says where a tree in a role ends
unfoldable pub children_of : (Role → ℕ → Ending) → (ℕ → Role) → ℕ → ℕ → ℕ → Ending
children_of tree role zero i n = At n
children_of tree role (suc left) i n = then_at (tree (role i) n) λ next. children_of tree role left (i + 1) next

-- where the tree that stands at the node n ends: the node after it. A global's initializer is constant.
unfoldable pub tree_of : ℕ → Tables → Bool → Role → ℕ → Ending
tree_of zero T constant role n = Broken
tree_of (suc levels) T constant role n =
    pick (node_right T constant role n)
    (children_of
    (tree_of levels T (constant || eqb (node_at T n).kind 1))
    (child_role (node_at T n).kind (node_at T n).children)
    (node_at T n).children
    0
    (n + 1))
    Broken

abbrev pub ends_at : Ending → (ℕ → Bool) → Bool
ends_at Broken k = false
ends_at (At n) k = k n

-- declarations stand from the node n on up to the last node; each has a node at least, so that there are at most `most`
unfoldable pub declarations_from : ℕ → ℕ → Tables → ℕ → Bool
declarations_from zero depth T n = eqb n (length T.nodes)
declarations_from (suc most) depth T n =
    pick (eqb n (length T.nodes)) true
    (ends_at (tree_of depth T false Declaration n) λ next. declarations_from most depth T next)

-- the declarations are the outermost trees, from node 0 on, and use up the nodes
unfoldable pub trees_right : ℕ → Tables → Bool
trees_right depth T = declarations_from (length T.nodes) depth T 0
