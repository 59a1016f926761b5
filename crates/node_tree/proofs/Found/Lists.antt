-- The lists of children: a list is found where none is left, and where its first tree and the rest are found. Assumes nothing.
use mathlib.Core.Path.{refl, subst}
use mathlib.Core.Bool.{Bool}
use mathlib.Core.List.{[], ◌∷◌}
use Prim.Native.Nat.{ℕ, ◌+◌}
use native.Mathlib.Omega.{arith}
use Rattle.oat.specs.Tables.{Tables}
use Rattle.oat.specs.Syntax.{none, also, no_init, init, no_var, next_var, empty, then, size}
use Rattle.oat.specs.Nodes.{InitsStand, VarsStand}
use Rattle.node_tree.proofs.Found.Sorts.{found_nothing, found_next, found_as, expressions, initializers, vars, statements, parameters}
use Rattle.node_tree.proofs.Found.Children.{Listing}
use Rattle.node_tree.specs.declared.shape.Role.TheVariants.{Parameter, Expression, Initializer, Var, Statement}

-- the node after a node and a tree of s nodes
past : (P : ℕ → Type 0) (n s : ℕ) → P (n + (1 + s)) → P (n + 1 + s)
past P n s p = subst P (omega arith) p

module _ (T : Tables) (constant : Bool) (d : ℕ) where
  pub expression_list : Listing T constant d Expression (expressions T constant)
  expression_list = record {
    nil = λ n. found_as d n (found_nothing d n) (λ a. none) (λ a s. (refl, tt, λ e. refl)) (λ a. refl) (λ a h. h);
    cons = λ left n m j a b.
        found_as d n (found_next a b) (λ p. also p.0 p.1)
        (λ p s. (omega (arith, s.1.0), (s.0.0, s.1.1), λ e. rw (s.0.1 e, s.1.2 e)))
        (λ p. refl) (λ p h. h);
  }

  pub initializer_list : Listing T constant d Initializer (initializers T constant)
  initializer_list = record {
    nil = λ n. found_as d n (found_nothing d n) (λ a. no_init) (λ a s. (refl, tt, λ e. refl)) (λ a. refl) (λ a h. h);
    cons = λ left n m j a b.
        found_as d n (found_next a b) (λ p. init p.0.0 p.0.1 p.1)
        (λ p s.
        let rest = past (λ i. InitsStand T i p.1) n (size p.0.1) s.1.1 in
        (omega (arith, s.1.0), (s.0.0, s.0.1.0, rest), λ e. rw (s.0.1.1 e, s.1.2 e)))
        (λ p. refl) (λ p h. h);
  }

  pub var_list : Listing T constant d Var (vars T)
  var_list = record {
    nil = λ n. found_as d n (found_nothing d n) (λ a. no_var) (λ a s. (refl, tt)) (λ a. refl) (λ a h. h);
    cons = λ left n m j a b.
        found_as d n (found_next a b) (λ p. next_var p.0.0 p.0.1 p.1)
        (λ p s.
        let rest = past (λ i. VarsStand T i p.1) n (size p.0.1) s.1.1 in
        (omega (arith, s.1.0), (s.0.0, s.0.1.0, rest)))
        (λ p. refl) (λ p h. h);
  }

  pub statement_list : Listing T constant d Statement (statements T)
  statement_list = record {
    nil = λ n. found_as d n (found_nothing d n) (λ a. empty) (λ a s. (refl, tt)) (λ a. refl) (λ a h. h);
    cons = λ left n m j a b.
        found_as d n (found_next a b) (λ p. then p.0 p.1)
        (λ p s. (omega (arith, s.1.0), (s.0, s.1.1)))
        (λ p. refl) (λ p h. h);
  }

  pub parameter_list : Listing T constant d Parameter (parameters T)
  parameter_list = record {
    nil = λ n. found_as d n (found_nothing d n) (λ a. []) (λ a s. (refl, tt)) (λ a. refl) (λ a h. h);
    cons = λ left n m j a b.
        found_as d n (found_next a b) (λ p. p.0 ∷ p.1)
        (λ p s. (omega (arith, s.1.0), (s.0, s.1.1)))
        (λ p. omega arith) (λ p h. omega arith);
  }
