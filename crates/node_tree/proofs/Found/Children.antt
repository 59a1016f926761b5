-- The children of a node: where each child's tree is found, the trees of all of them are found one after another, and so is a
-- list of children in one role. Assumes nothing.
use mathlib.Core.Path.{◌≡◌, refl, subst}
use mathlib.Core.Bool.{Bool}
use Prim.Native.Nat.{ℕ, zero, suc, ◌+◌, ◌<◌}
use native.Mathlib.Nat.{zero-add, add-zero, suc-add}
use native.Mathlib.Omega.{arith}
use Rattle.oat.specs.Tables.{Tables}
use Rattle.node_tree.specs.Tree.{Ending, Broken, At, then_at, children_of}
use Rattle.node_tree.specs.declared.shape.Role.{Role}
use Rattle.node_tree.proofs.Found.Sorts.{Sort, Found, nothing, next, found_nothing, found_next, sort_of}

at_then : (a : Ending) (k : ℕ → Ending) (j : ℕ) → then_at a k ≡ At j → (m : ℕ) × (a ≡ At m) × (k m ≡ At j)
at_then Broken k j e = absurd (let z : ◌≡◌ {A = ℕ} 0 1 = cc in omega arith)
at_then (At m) k j e = (m, refl, e)

-- `left` children from the child i on
abbrev pub sorts : Tables → Bool → (ℕ → Role) → ℕ → ℕ → Sort
sorts T constant role zero i = nothing
sorts T constant role (suc left) i = next (sort_of T constant (role i)) (sorts T constant role left (i + 1))

-- a tree is found wherever one ends
pub record Below (T : Tables) (constant : Bool) (d : ℕ) (tree : Role → ℕ → Ending) : Type 0 where
  pub found : (r : Role) (n j : ℕ) → tree r n ≡ At j → Found (sort_of T constant r) d n j

-- what stands in the role r makes lists of the sorts L
pub record Listing (T : Tables) (constant : Bool) (d : ℕ) (r : Role) (L : ℕ → Sort) : Type 0 where
  pub nil : (n : ℕ) → Found (L 0) d n n
  pub cons : (left n m j : ℕ) → Found (sort_of T constant r) d n m → Found (L left) d m j → Found (L (suc left)) d n j

module _ {T : Tables} {constant : Bool} {d : ℕ} {tree : Role → ℕ → Ending} (below : Below T constant d tree) (role : ℕ → Role) where
  pub first_found : (left i n j : ℕ)
      → children_of tree role (suc left) i n ≡ At j
      → (m : ℕ) × Found (sort_of T constant (role i)) d n m × (children_of tree role left (i + 1) m ≡ At j)
  unfolding children_of
  first_found left i n j e =
      let (m, a, b) = at_then (tree (role i) n) (λ m. children_of tree role left (i + 1) m) j e in
      (m, below.found (role i) n m a, b)

  pub children_found : (left i n j : ℕ) → children_of tree role left i n ≡ At j → Found (sorts T constant role left i) d n j
  unfolding children_of
  children_found zero i n j e = subst (Found nothing d n) (cc) (found_nothing d n)
  children_found (suc left) i n j e =
      let (m, a, b) = first_found left i n j e in
      found_next a (children_found left (i + 1) m j b)

  module _ {r : Role} {L : ℕ → Sort} (listing : Listing T constant d r L) where
    -- the first `left` children have the role r
    pub list_found : (left rest i n j : ℕ)
        → ((k : ℕ) → k < i + left → role k ≡ r)
        → children_of tree role (left + rest) i n ≡ At j
        → (m : ℕ) × Found (L left) d n m × (children_of tree role rest (i + left) m ≡ At j)
    list_found zero rest i n j h e = (n, listing.nil n, rw add-zero (rw zero-add at e))
    list_found (suc left) rest i n j h e =
        let (m, a, b) = first_found (left + rest) i n j (rw (suc-add left rest) at e) in
        let (q, c, f) = list_found left rest (i + 1) m j (λ k l. h k (omega arith)) b in
        let first = subst (λ s. Found (sort_of T constant s) d n m) (h i (omega arith)) a in
        (q, listing.cons left n m q first c, subst (λ k. children_of tree role rest k q ≡ At j) (omega arith) f)

    -- all children have
    pub whole_list : (left i n j : ℕ) → ((k : ℕ) → role k ≡ r) → children_of tree role left i n ≡ At j → Found (L left) d n j
    unfolding children_of
    whole_list left i n j h e =
        let (m, a, b) = list_found left 0 i n j (λ k l. h k) (rw add-zero e) in
        subst (Found (L left) d n) (cc) a
