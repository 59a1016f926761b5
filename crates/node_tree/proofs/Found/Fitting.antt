-- What a tree's first node is known to be: its operands, its child count and its children fit its kind, and the kind is one of
-- those that its role admits. Assumes nothing.
use mathlib.Core.Path.{◌≡◌, refl, sym, subst, subst₃}
use mathlib.Core.Bool.{Bool, true, false, not, ◌&&◌, ◌||◌}
use Prim.Native.Nat.{ℕ, zero, suc, ◌+◌, ◌≤◌, ◌<◌}
use native.Mathlib.Omega.{arith}
use lib.ListN.{length}
use lib.Dec.{eqb, leb, ltb}
use borrow.Author.Tests.{ltb-true, leb-true, eqb-true, eqb-false, not-true}
use Rattle.oat.specs.Basics.{pick}
use Rattle.oat.specs.Tables.{Tables, node_at}
use Rattle.oat.specs.Nodes.{Node}
use Rattle.oat.proofs.LawsBasics.{and_parts}
use Rattle.node_tree.specs.Shape.{within, is_expression, admits, x_fits, t_fits, params_of, count_fits, child_role}
use Rattle.node_tree.specs.Tree.{Ending, Broken, At, node_fits, node_right, children_of, tree_of}
use Rattle.node_tree.specs.declared.shape.Role.{Role}

-- a choice
pub either : {X : Type 0} (a b : Bool) → (a || b) ≡ true → (a ≡ true → X) → (b ≡ true → X) → X
either true b e f g = f refl
either false b e f g = g e

picked : (b : Bool) (a : Ending) (j : ℕ) → pick b a Broken ≡ At j → (b ≡ true) × (a ≡ At j)
picked true a j e = (refl, e)
picked false a j e = absurd (let z : ◌≡◌ {A = ℕ} 0 1 = cc in omega arith)

-- P at each of `many` numbers from a on
abbrev pub Each : (ℕ → Type 0) → ℕ → ℕ → Type 0
Each P a zero = Unit {0}
Each P a (suc many) = P a × Each P (suc a) many

pub at_each : (P : ℕ → Type 0) (a many k : ℕ) → a ≤ k → k < a + many → Each P a many → P k
at_each P a zero k low high p = absurd (omega arith)
at_each P a (suc many) k low high p = go (eqb a k) refl λ l. at_each P (suc a) many k l (omega arith) p.1
  where
    go : (b : Bool) → eqb a k ≡ b → (a < k → P k) → P k
    go true e f = subst P (eqb-true a k e) p.0
    go false e f = f (omega (arith, eqb-false a k e))

module _ (P : ℕ → Type 0) (k : ℕ) where
  -- one kind
  pub at_kind : (a : ℕ) → eqb k a ≡ true → P a → P k
  at_kind a e p = subst P (sym (eqb-true k a e)) p

  -- the kinds of a range
  pub at_range : (a b many : ℕ) → within a k b ≡ true → b < a + many → Each P a many → P k
  at_range a b many e h p =
      let (low, high) = and_parts (leb a k) (leb k b) e in
      at_each P a many k (leb-true a k low) (omega (arith, leb-true k b high)) p

  -- the kinds of expressions; those that aren't constant come where `constant` is false
  pub at_expression : (constant : Bool)
      → is_expression constant k ≡ true
      → Each P 10 7
      → P 21
      → (constant ≡ false → Each P 17 4) → (constant ≡ false → Each P 23 4) → P k
  unfolding is_expression
  at_expression constant e p q r s =
      either
      (within 10 k 16 || eqb k 21)
      (not constant && (within 17 k 20 || within 23 k 26))
      e
      (λ u. either (within 10 k 16) (eqb k 21) u (λ w. at_range 10 16 7 w (omega arith) p) (λ w. at_kind 21 w q))
      λ u.
      let (off, v) = and_parts (not constant) (within 17 k 20 || within 23 k 26) u in
      either
      (within 17 k 20)
      (within 23 k 26)
      v
      (λ w. at_range 17 20 4 w (omega arith) (r (not-true constant off)))
      (λ w. at_range 23 26 4 w (omega arith) (s (not-true constant off)))

-- the node n is of the kind k, its x, t and child count fit, and its children's trees end at j
pub record Fits (T : Tables) (constant : Bool) (d n j k x t c : ℕ) : Type 0 where
  pub node : Node T n k x t c
  pub x_fit : x_fits k x ≡ true
  pub t-fits : t_fits T k t ≡ true
  pub count_fit : count_fits k (params_of T k t) c ≡ true
  pub children : children_of (tree_of d T (constant || eqb k 1)) (child_role k c) c 0 (n + 1) ≡ At j

pub node-fits : (d : ℕ) (T : Tables) (constant : Bool) (role : Role) (n j : ℕ)
    → tree_of (suc d) T constant role n ≡ At j
    → (admits constant role (node_at T n).kind ≡ true)
    × Fits T constant d n j (node_at T n).kind (node_at T n).x (node_at T n).t (node_at T n).children
unfolding tree_of node_right node_fits
node-fits d T constant role n j e =
    let (right, kids) = picked (node_right T constant role n) _ j e in
    let (a, fits) = and_parts (ltb n (length T.nodes) && admits constant role (node_at T n).kind) (node_fits T n) right in
    let (within, admitted) = and_parts (ltb n (length T.nodes)) _ a in
    let (b, c) = and_parts _ (count_fits (node_at T n).kind (params_of T (node_at T n).kind (node_at T n).t) (node_at T n).children) fits in
    let (x, t) = and_parts (x_fits (node_at T n).kind (node_at T n).x) _ b in (
      admitted,
      record {
        node = record { within = ltb-true _ _ within; kind_is = refl; x_is = refl; t_is = refl; children_is = refl };
        x_fit = x;
        t-fits = t;
        count_fit = c;
        children = kids;
      },
    )

-- the operands and the child count by other names
pub fits_as : {T : Tables} {constant : Bool} {d n j k x t c x' t' c' : ℕ}
    → Fits T constant d n j k x t c → x ≡ x' → t ≡ t' → c ≡ c' → Fits T constant d n j k x' t' c'
fits_as {T} {constant} {d} {n} {j} {k} f ex et ec = subst₃ (Fits T constant d n j k) ex et ec f

pub zero_is : {x : ℕ} → eqb x 0 ≡ true → x ≡ 0
zero_is {x} e = eqb-true x 0 e

-- a node with neither x nor t
pub plain : {T : Tables} {constant : Bool} {d n j k x t c : ℕ} (m : ℕ)
    → Fits T constant d n j k x t c → eqb x 0 ≡ true → eqb t 0 ≡ true → eqb c m ≡ true → Fits T constant d n j k 0 0 m
plain {c = c} m f ex et ec = fits_as f (zero_is ex) (zero_is et) (eqb-true c m ec)
