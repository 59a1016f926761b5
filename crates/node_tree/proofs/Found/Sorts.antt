-- The sorts of trees: what stands in each role of the node tree, and what it is to have found a tree there. Assumes nothing.
use mathlib.Core.Path.{◌≡◌, subst}
use mathlib.Core.Bool.{Bool, true}
use mathlib.Core.List.{List}
use Prim.Native.Nat.{ℕ, ◌+◌, ◌≤◌, max}
use native.Mathlib.Omega.{arith}
use lib.ListN.{length}
use Rattle.oat.specs.Tables.{Tables}
use Rattle.oat.specs.Syntax
use Rattle.oat.specs.Syntax.{Expr, Exprs, Inits, Vars, Stmt, Stmts, Decl, target_expr, size, sizes, size_inits, size_target, size_vars, size_condition, size_stmt, size_step, size_block, size_stmts, size_decl, count, count_inits, count_vars, count_stmts, depth, depths, depth_inits, depth_vars, depth_condition, depth_stmt, depth_step, depth_block, depth_stmts, depth_decl, is_constant, are_constant, inits_constant}
use Rattle.oat.specs.Nodes.{Node, Stands, StandAll, InitsStand, VarsStand, ConditionStands, StmtStands, StepStands, BlockStands, StmtsStand, ParametersStand, DeclStands}
use Rattle.node_tree.specs.declared.shape.Role.{Role}
use Rattle.node_tree.specs.declared.shape.Role.TheVariants.{Declaration, Parameter, Expression, Initializer, Target, Var, Statement, Block, Condition, Step}

-- a sort of trees: where one stands, how many nodes it has, and how deep it is
pub record Sort : Type 1 where
  pub Tree : Type 0
  pub Stand : ℕ → Tree → Type 0
  pub long : Tree → ℕ
  pub deep : Tree → ℕ

-- a tree stands from the node n on, ends before the node j, and is at most d deep
pub record Found (S : Sort) (d n j : ℕ) : Type 0 where
  pub tree : S.Tree
  pub stands : S.Stand n tree
  pub ends : j ≡ n + S.long tree
  pub shallow : S.deep tree ≤ d

-- nothing, and one tree after another
abbrev pub nothing : Sort
nothing = record { Tree = Unit {0}; Stand = λ n a. Unit {0}; long = λ a. 0; deep = λ a. 0 }

abbrev pub next : Sort → Sort → Sort
next A B = record {
  Tree = A.Tree × B.Tree;
  Stand = λ n p. A.Stand n p.0 × B.Stand (n + A.long p.0) p.1;
  long = λ p. A.long p.0 + B.long p.1;
  deep = λ p. max (A.deep p.0) (B.deep p.1);
}

pub found_nothing : (d n : ℕ) → Found nothing d n n
found_nothing d n = record { tree = tt; stands = tt; ends = omega arith; shallow = omega arith }

pub found_next : {A B : Sort} {d n m j : ℕ} → Found A d n m → Found B d m j → Found (next A B) d n j
found_next {B = B} a b = record {
  tree = (a.tree, b.tree);
  stands = (a.stands, subst (λ i. B.Stand i b.tree) a.ends b.stands);
  ends = omega (arith, a.ends, b.ends);
  shallow = omega (arith, a.shallow, b.shallow);
}

-- a tree made of another one
pub found_as : {A B : Sort} {d n j : ℕ} (d' n' : ℕ)
    → Found A d n j
    → (f : A.Tree → B.Tree)
    → ((a : A.Tree) → A.Stand n a → B.Stand n' (f a))
    → ((a : A.Tree) → n + A.long a ≡ n' + B.long (f a))
    → ((a : A.Tree) → A.deep a ≤ d → B.deep (f a) ≤ d')
    → Found B d' n' j
found_as d' n' a f s l h = record {
  tree = f a.tree;
  stands = s a.tree a.stands;
  ends = omega (arith, a.ends, l a.tree);
  shallow = h a.tree a.shallow;
}

-- what stands in a role; in a global's tree the expressions are constant
abbrev pub expression : Tables → Bool → Sort
expression T constant = record {
  Tree = Expr;
  Stand = λ n a. Stands T n a × (constant ≡ true → is_constant a ≡ true);
  long = size;
  deep = depth;
}

-- an initializer or a var: a name and an expression under a node of the kind k
abbrev pub named : Tables → Bool → ℕ → Sort
named T constant k = record {
  Tree = ℕ × Expr;
  Stand = λ n p. Node T n k p.0 0 1 × (expression T constant).Stand (n + 1) p.1;
  long = λ p. 1 + size p.1;
  deep = λ p. 1 + depth p.1;
}

abbrev pub sort_of : Tables → Bool → Role → Sort
sort_of T constant Declaration = record { Tree = Decl; Stand = DeclStands T; long = size_decl; deep = depth_decl }
sort_of T constant Parameter = record { Tree = ℕ; Stand = λ n x. Node T n 3 x 0 0; long = λ x. 1; deep = λ x. 1 }
sort_of T constant Expression = expression T constant
sort_of T constant Initializer = named T constant 22
sort_of T constant Target = record {
  Tree = Syntax.Target;
  Stand = λ n g. Stands T n (target_expr g);
  long = size_target;
  deep = λ g. depth (target_expr g);
}
sort_of T constant Var = named T constant 31
sort_of T constant Statement = record { Tree = Stmt; Stand = StmtStands T; long = size_stmt; deep = depth_stmt }
sort_of T constant Block = record { Tree = Syntax.Block; Stand = BlockStands T; long = size_block; deep = depth_block }
sort_of T constant Condition = record { Tree = Syntax.Condition; Stand = ConditionStands T; long = size_condition; deep = depth_condition }
sort_of T constant Step = record { Tree = Syntax.Step; Stand = StepStands T; long = size_step; deep = depth_step }

-- lists of `many` children
abbrev pub expressions : Tables → Bool → ℕ → Sort
expressions T constant many = record {
  Tree = Exprs;
  Stand = λ n es. (count es ≡ many) × StandAll T n es × (constant ≡ true → are_constant es ≡ true);
  long = sizes;
  deep = depths;
}

abbrev pub initializers : Tables → Bool → ℕ → Sort
initializers T constant many = record {
  Tree = Inits;
  Stand = λ n is. (count_inits is ≡ many) × InitsStand T n is × (constant ≡ true → inits_constant is ≡ true);
  long = size_inits;
  deep = depth_inits;
}

abbrev pub vars : Tables → ℕ → Sort
vars T many = record { Tree = Vars; Stand = λ n vs. (count_vars vs ≡ many) × VarsStand T n vs; long = size_vars; deep = depth_vars }

abbrev pub statements : Tables → ℕ → Sort
statements T many = record { Tree = Stmts; Stand = λ n ss. (count_stmts ss ≡ many) × StmtsStand T n ss; long = size_stmts; deep = depth_stmts }

abbrev pub parameters : Tables → ℕ → Sort
parameters T many = record { Tree = List ℕ; Stand = λ n ps. (length ps ≡ many) × ParametersStand T n ps; long = length; deep = λ ps. 0 }
