-- The node tree: where it ends, one child after another, and the declarations up to the last node. Assumes nothing.
use mathlib.Core.Path.{◌≡◌, refl, sym, ◌∙◌}
use mathlib.Core.Bool.{Bool, true, false, ◌&&◌, ◌||◌}
use mathlib.Core.List.{List}
use Prim.Native.Nat.{ℕ, zero, suc, ◌+◌, ◌-◌, ◌<◌, ◌≤◌}
use native.Mathlib.Numerals.{sub-one}
use native.Mathlib.Omega.{arith}
use lib.ListN.{length}
use lib.Dec.{eqb, ltb}
use borrow.Author.Tests.{ltb-true, le-ltb, eq-eqb, ne_eqb}
use Rattle.oat.specs.Basics.{pick}
use Rattle.oat.specs.Tables.{Tables, node_at}
use Rattle.oat.proofs.LawsBasics.{and_parts}
use Rattle.file_sections.specs.declared.Sections.{Sections}
use Rattle.file_sections.specs.Layout.{tables_of}
use Rattle.file_sections.proofs.LawsRecords.{nodes_long}
use Rattle.node_tree.specs.Shape.{admits, x_fits, t_fits, params_of, count_fits, child_role}
use Rattle.node_tree.specs.Tree.{Ending, Broken, At, node_fits, node_right, then_at, children_of, tree_of, ends_at, declarations_from, trees_right}
use Rattle.node_tree.specs.declared.shape.Role.{Role}
use Rattle.node_tree.specs.declared.shape.Role.TheVariants.{Declaration}

-- the node's operands and child count
module _ (T : Tables) (n k x : ℕ) (a : Bool) (ek : k ≡ (node_at T n).kind) (ex : x ≡ (node_at T n).x) (ea : a ≡ x_fits k x) where
  pub x_wrong : a ≡ false → false ≡ node_fits T n
  unfolding node_fits
  x_wrong h = rw (← ek, ← ex, ← ea, h)

  module _ (right : a ≡ true) (t : ℕ) (b : Bool) (et : t ≡ (node_at T n).t) (eb : b ≡ t_fits T k t) where
    pub t_wrong : b ≡ false → false ≡ node_fits T n
    unfolding node_fits
    t_wrong h = rw (← ek, ← ex, ← et, ← ea, ← eb, right, h)

    pub count_is : b ≡ true → (p c : ℕ) (r : Bool) → c ≡ (node_at T n).children → p ≡ params_of T k t → r ≡ count_fits k p c → r ≡ node_fits T n
    unfolding node_fits
    count_is h p c r ec ep er = rw (← ek, ← ex, ← et, ← ec, ← ep, ← ea, ← eb, ← er, right, h)

-- a tree whose node is wrong is broken
pub tree_none : (d : ℕ) (T : Tables) (c : Bool) (role : Role) (n : ℕ) → d ≡ 0 → Broken ≡ tree_of d T c role n
unfolding tree_of
tree_none d T c role n e = rw e

pub tree_wrong : (d : ℕ) (T : Tables) (c : Bool) (role : Role) (n : ℕ) → node_right T c role n ≡ false → Broken ≡ tree_of d T c role n
unfolding tree_of
tree_wrong zero T c role n e = refl
tree_wrong (suc d) T c role n e = rw e

-- where the children of the node n end
abbrev pub below_of : ℕ → Tables → Bool → ℕ → Ending
below_of d T c n =
    children_of
    (tree_of d T (c || eqb (node_at T n).kind 1))
    (child_role (node_at T n).kind (node_at T n).children)
    (node_at T n).children
    0
    (n + 1)

-- a tree ends where the children of its node do
pub tree_right : (d : ℕ) (T : Tables) (c : Bool) (role : Role) (n : ℕ) → (d ≡ 0 → ⊥) → node_right T c role n ≡ true → below_of (d - 1) T c n ≡ tree_of d T c role n
unfolding tree_of
tree_right zero T c role n z e = absurd (z refl)
tree_right (suc d) T c role n z e = rw (sub-one, e)

pub tree_past : (d : ℕ) (s : List ℕ) (S : Sections) (c : Bool) (role : Role) (n : ℕ) → S.nodes ≤ n → Broken ≡ tree_of d (tables_of s S) c role n
unfolding node_right
tree_past d s S c role n h = tree_wrong d (tables_of s S) c role n (rw (nodes_long, le-ltb n S.nodes h))

-- one child after another: those from the child i on end where all do, at `all`
then_there : (o : Ending) → then_at o (λ next. At next) ≡ o
then_there Broken = refl
then_there (At n) = refl

module _ (f : Role → ℕ → Ending) (role : ℕ → Role) (count : ℕ) where
  pub no_child_yet : (first : ℕ) → children_of f role (count - 0) 0 first ≡ children_of f role count 0 first
  no_child_yet first = let e : count - 0 ≡ count = omega arith in rw e

  module _ (all : Ending) (i at : ℕ) (so_far : children_of f role (count - i) i at ≡ all) where
    pub children_end : i ≤ count → count ≤ i → At at ≡ all
    unfolding children_of
    children_end a b = let e : count - i ≡ 0 = omega arith in rw e at so_far

    module _ (l : i < count) (child : Ending) (ec : child ≡ f (role i) at) where
      child_decides : then_at child (λ next. children_of f role (count - (i + 1)) (i + 1) next) ≡ all
      unfolding children_of
      child_decides =
          let m : count - i ≡ suc (count - (i + 1)) = omega arith in
          rw ec (rw m at so_far)

      pub children_broken : child ≡ Broken → Broken ≡ all
      children_broken e = rw e at child_decides

      pub children_next : (next : ℕ) → child ≡ At next → children_of f role (count - (i + 1)) (i + 1) next ≡ all
      children_next next e = rw e at child_decides

      -- the last child ends where all do
      pub children_last : i + 1 ≡ count → child ≡ all
      unfolding children_of
      children_last e =
          let z : count - (i + 1) ≡ 0 = omega arith in
          sym (then_there child) ∙ rw z at child_decides

-- a tree ends past its node, and among the nodes
children_ends : (f : Role → ℕ → Ending) (role : ℕ → Role) (most : ℕ) → ((r : Role) (n j : ℕ) → f r n ≡ At j → (n < j) × (j ≤ most)) → (m i n j : ℕ) → n ≤ most → children_of f role m i n ≡ At j → (n ≤ j) × (j ≤ most)
unfolding children_of
children_ends f role most ends zero i n j h e = let s : n ≡ j = cc in omega arith
children_ends f role most ends (suc m) i n j h e =
    go (f (role i) n) refl e (λ x l. children_ends f role most ends m (i + 1) x j l)
  where
    go : (o : Ending) → f (role i) n ≡ o → then_at o (λ next. children_of f role m (i + 1) next) ≡ At j → ((x : ℕ) → x ≤ most → children_of f role m (i + 1) x ≡ At j → (x ≤ j) × (j ≤ most)) → (n ≤ j) × (j ≤ most)
    go Broken t e r = let z : ◌≡◌ {A = ℕ} 0 1 = cc in absurd (omega arith)
    go (At x) t e r =
        let (a, b) = ends (role i) n x t in
        let (p, q) = r x b e in
        omega arith

-- a node that is right is there
pub node_there : (T : Tables) (c : Bool) (role : Role) (n : ℕ) → node_right T c role n ≡ true → n < length T.nodes
unfolding node_right
node_there T c role n e =
    let (front, fits) = and_parts (ltb n (length T.nodes) && admits c role (node_at T n).kind) (node_fits T n) e in
    let (there, admitted) = and_parts (ltb n (length T.nodes)) (admits c role (node_at T n).kind) front in
    ltb-true n (length T.nodes) there

-- a tree that ends has a node that is right, and ends where the children of the node do
ends_right : (b : Bool) (o : Ending) (j : ℕ) → pick b o Broken ≡ At j → (b ≡ true) × (o ≡ At j)
ends_right true o j e = (refl, e)
ends_right false o j e = let z : ◌≡◌ {A = ℕ} 0 1 = cc in absurd (omega arith)

pub tree_ends : (d : ℕ) (T : Tables) (c : Bool) (role : Role) (n j : ℕ) → tree_of d T c role n ≡ At j → (n < j) × (j ≤ length T.nodes)
unfolding tree_of
tree_ends zero T c role n j e = let z : ◌≡◌ {A = ℕ} 0 1 = cc in absurd (omega arith)
tree_ends (suc d) T c role n j e =
    let (right, ends) = ends_right (node_right T c role n) (below_of d T c n) j e in
    let there = node_there T c role n right in
    let (past, among) = children_ends _ _ (length T.nodes) (λ r x y. tree_ends d T (c || eqb (node_at T n).kind 1) r x y) _ _ _ j (omega arith) ends in
    (omega arith, among)

-- the declarations before the node `at` are right: those from there on decide
pub record Left (depth : ℕ) (T : Tables) (at : ℕ) : Type 0 where
  pub most : ℕ
  pub enough : length T.nodes ≤ at + most
  pub inside : at ≤ length T.nodes
  pub same : declarations_from most depth T at ≡ trees_right depth T

pub none_left_out : (depth : ℕ) (T : Tables) → Left depth T 0
unfolding trees_right
none_left_out depth T = record { most = length T.nodes; enough = omega arith; inside = omega arith; same = refl }

declarations_end : (most depth : ℕ) (T : Tables) (n : ℕ) → n ≡ length T.nodes → declarations_from most depth T n ≡ true
unfolding declarations_from
declarations_end zero depth T n e = eq-eqb n (length T.nodes) e
declarations_end (suc most) depth T n e = rw (eq-eqb n (length T.nodes) e)

-- where nodes are left, the next declaration decides
next_decides : (most depth : ℕ) (T : Tables) (n : ℕ) → n < length T.nodes → length T.nodes ≤ n + most → declarations_from most depth T n ≡ ends_at (tree_of depth T false Declaration n) (λ j. declarations_from (most - 1) depth T j)
unfolding declarations_from
next_decides zero depth T n h m = absurd (omega arith)
next_decides (suc most) depth T n h m = rw (ne_eqb n (length T.nodes) (λ e. omega arith), sub-one)

module _ (depth : ℕ) (s : List ℕ) (S : Sections) (at : ℕ) (l : Left depth (tables_of s S) at) where
  pub trees_end : S.nodes ≤ at → true ≡ trees_right depth (tables_of s S)
  trees_end h = sym (declarations_end l.most depth (tables_of s S) at (omega (arith, nodes_long s S))) ∙ l.same

  module _ (r : Ending) (h : at < S.nodes) (er : r ≡ tree_of depth (tables_of s S) false Declaration at) where
    decided : ends_at r (λ j. declarations_from (l.most - 1) depth (tables_of s S) j) ≡ trees_right depth (tables_of s S)
    decided = rw er (sym (next_decides l.most depth (tables_of s S) at (omega (arith, nodes_long s S)) l.enough) ∙ l.same)

    pub trees_broken : r ≡ Broken → false ≡ trees_right depth (tables_of s S)
    trees_broken e = rw e at decided

    pub trees_next : (next : ℕ) → r ≡ At next → Left depth (tables_of s S) next
    trees_next next e =
        let (past, among) = tree_ends depth (tables_of s S) false Declaration at next (cc) in
        record { most = l.most - 1; enough = omega arith; inside = among; same = rw e at decided }

    pub fewer_left : (next : ℕ) → r ≡ At next → S.nodes - next < S.nodes - at
    fewer_left next e = let f = tree_ends depth (tables_of s S) false Declaration at next (cc) in omega arith
