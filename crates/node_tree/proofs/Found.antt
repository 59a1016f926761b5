-- Where the recursive descent ends well there are trees: by induction on the levels, for all roles at once, and from them the
-- declarations of a file whose node tree is right. Assumes nothing.
mod Children
mod Expressions
mod Fitting
mod Descent
mod Lists
mod Sorts
mod Statements
use mathlib.Core.Path.{◌≡◌, refl, subst}
use mathlib.Core.Bool.{Bool, true, false}
use mathlib.Core.List.{List, [], ◌∷◌}
use Prim.Native.Nat.{ℕ, zero, suc, ◌≤◌}
use native.Mathlib.Omega.{arith}
use lib.ListN.{length}
use lib.Dec.{eqb}
use borrow.Author.Tests.{eqb-true}
use Rattle.oat.specs.Basics.{pick}
use Rattle.oat.specs.Tables.{Tables, node_at}
use Rattle.oat.specs.Syntax.{Decl, size_decls, depth_decls}
use Rattle.oat.specs.Nodes.{DeclsStand}
use Rattle.node_tree.specs.Shape.{admits}
use Rattle.node_tree.specs.Tree.{Ending, Broken, At, tree_of, ends_at, declarations_from, trees_right}
use Rattle.node_tree.specs.declared.shape.Role.{Role}
use Rattle.node_tree.specs.declared.shape.Role.TheVariants.{Declaration, Parameter, Expression, Initializer, Target, Var, Statement, Block, Condition, Step}
use Rattle.node_tree.proofs.Found.Sorts.{Sort, Found, found_nothing, found_next, found_as, sort_of}
use Rattle.node_tree.proofs.Found.Fitting.{Fits, node-fits, at_kind, either}
use Rattle.node_tree.proofs.Found.Descent.{Levels}
use Rattle.node_tree.proofs.Found.Expressions.{initializer_found, var_found, target_found, expression_found}
use Rattle.node_tree.proofs.Found.Statements.{statement_found, block_found, condition_found, step_found, parameter_found, global_found, function_declaration}

module _ {T : Tables} {d : ℕ} (levels : Levels T d) (constant : Bool) (n j x t c k : ℕ) where
  -- from a node of the kind k a tree in the role r
  abbrev Gives : Role → ℕ → Type 0
  Gives r k = Fits T constant d n j k x t c → Found (sort_of T constant r) (suc d) n j

  -- its role admits the kind
  role_found : (r : Role) → admits constant r k ≡ true → Gives r k
  unfolding admits
  role_found Declaration e =
      either (eqb k 1) (eqb k 2) e
      (λ u. at_kind (Gives Declaration) k 1 u (global_found levels constant n j x t c))
      (λ u. at_kind (Gives Declaration) k 2 u (function_declaration levels constant n j x t c))
  role_found Parameter e = at_kind (Gives Parameter) k 3 e (parameter_found levels constant n j x t c)
  role_found Expression e = expression_found levels constant n j x t c k e
  role_found Initializer e = at_kind (Gives Initializer) k 22 e (initializer_found levels constant n j x t c)
  role_found Target e = target_found levels constant n j x t c k e
  role_found Var e = at_kind (Gives Var) k 31 e (var_found levels constant n j x t c)
  role_found Statement e = statement_found levels constant n j x t c k e
  role_found Block e = at_kind (Gives Block) k 39 e (block_found levels constant n j x t c)
  role_found Condition e = condition_found levels constant n j x t c k e
  role_found Step e = step_found levels constant n j x t c k e

-- trees are found on every number of levels
pub tree_found : (d : ℕ) (T : Tables) → Levels T d
unfolding tree_of
tree_found zero T = record {
  below = λ constant. record { found = λ r n j e. absurd (let z : ◌≡◌ {A = ℕ} 0 1 = cc in omega arith) };
}
tree_found (suc d) T = record {
  below = λ constant. record {
    found = λ r n j e.
        let (admitted, fits) = node-fits d T constant r n j e in
        role_found (tree_found d T) constant n j (node_at T n).x (node_at T n).t (node_at T n).children (node_at T n).kind r admitted fits;
  };
}

-- the outermost trees
abbrev declarations : Tables → Sort
declarations T = record { Tree = List Decl; Stand = DeclsStand T; long = size_decls; deep = depth_decls }

ends-at : (a : Ending) (k : ℕ → Bool) → ends_at a k ≡ true → (m : ℕ) × (a ≡ At m) × (k m ≡ true)
ends-at Broken k e = absurd (let z : ◌≡◌ {A = ℕ} 0 1 = cc in omega arith)
ends-at (At m) k e = (m, refl, e)

pick_cases : {X : Type 0} (a b : Bool) → pick a true b ≡ true → (a ≡ true → X) → (b ≡ true → X) → X
pick_cases true b e f g = f refl
pick_cases false b e f g = g e

no_declarations : (T : Tables) (d n : ℕ) → eqb n (length T.nodes) ≡ true → Found (declarations T) d n (length T.nodes)
no_declarations T d n e =
    subst (Found (declarations T) d n) (eqb-true n (length T.nodes) e)
    (found_as d n (found_nothing d n) (λ a. []) (λ a s. tt) (λ a. refl) (λ a h. h))

declarations_found : (most d : ℕ) (T : Tables) (n : ℕ) → declarations_from most d T n ≡ true → Found (declarations T) d n (length T.nodes)
unfolding declarations_from
declarations_found zero d T n e = no_declarations T d n e
declarations_found (suc most) d T n e =
    let rest = declarations_from most d T in
    pick_cases (eqb n (length T.nodes)) (ends_at (tree_of d T false Declaration n) rest) e (λ h. no_declarations T d n h) λ h.
    let (m, a, b) = ends-at (tree_of d T false Declaration n) rest h in
    let first = ((tree_found d T).below false).found Declaration n m a in
    found_as d n (found_next first (declarations_found most d T m b)) (λ p. p.0 ∷ p.1) (λ p s. s) (λ p. refl) (λ p h. h)

pub trees_found : (depth : ℕ) (T : Tables)
    → trees_right depth T ≡ true
    → (ds : List Decl) × DeclsStand T 0 ds × (size_decls ds ≡ length T.nodes) × (depth_decls ds ≤ depth)
unfolding trees_right
trees_found d T e =
    let a = declarations_found (length T.nodes) d T 0 e in
    (a.tree, a.stands, omega (arith, a.ends), a.shallow)
