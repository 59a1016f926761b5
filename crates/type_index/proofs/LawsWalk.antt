-- Laws of the walk along a chain. Assumes nothing.
use mathlib.Core.Path.{◌≡◌, refl, sym, ◌∙◌}
use mathlib.Core.Bool.{Bool, true, false, false≢true}
use mathlib.Core.List.{List, [], ◌++◌}
use Prim.Native.Nat.{ℕ, ◌+◌, ◌-◌, ◌≤◌, ◌<◌}
use native.Mathlib.Omega.{arith}
use lib.ListN.{length, get_or}
use base.Fml.{Lft}
use contract.BorrowLft.{◌⊑◌, ⊑_meet, ⊑_static}
use Rattle.chains.proofs.LawsChains.{Walks, walk_starts, walk_falls, walk_on}
use Rattle.type_index.specs.Walk.{Way, Leads, NonePasses, LastPasses}

-- what is not true is false
untrue : (b : Bool) → (b ≡ true → ⊥) → b ≡ false
untrue true h = absurd (h refl)
untrue false h = refl

-- `after` stands on the chain, and no position passed passes the test
abbrev pub OnWay : Way → ℕ → Type 0
OnWay way after = Walks way.bucket way.own (λ k. way.passes k ≡ true) way.count after

module _ (numbers : List ℕ) (head links : ℕ) (way : Way) (leads : Leads numbers head links way) (after : ℕ) where
  pub way_starts : after ≡ get_or numbers head 0 → OnWay way after
  way_starts e = walk_starts way.bucket way.own _ way.count leads.inside leads.chains head after leads.low leads.place e

  module _ (o : OnWay way after) where
    pub way_ends : after ≤ 0 → NonePasses way
    way_ends l k h = untrue (way.passes k) (o.none k (omega arith) h)

    module _ (l : 0 < after) where
      pub way_below : after - 1 < way.count
      way_below = omega (arith, o.most)

      pub way_found : way.passes (after - 1) ≡ true → LastPasses way (after - 1)
      way_found e = record { below = way_below; passes = e; last = λ k g h. untrue (way.passes k) (o.none k (omega arith) h) }

      pub way_room : links + (after - 1) < length numbers
      way_room = omega (arith, leads.room, way_below)

      module _ (next : ℕ) (e : next ≡ get_or numbers (links + (after - 1)) 0) where
        pub way_falls : next < after
        way_falls = walk_falls way.bucket way.own _ way.count leads.inside leads.chains (links + (after - 1)) after next o l refl e

        pub way_on : way.passes (after - 1) ≡ false → OnWay way next
        way_on f = walk_on way.bucket way.own _ way.count leads.inside leads.chains (links + (after - 1)) after next o l refl e (λ t. false≢true (sym f ∙ t))

-- what a closure holds lives as long as each reference in it: one reference more, and the whole, which is written twice
pub held_more : (κ a m : Lft) → κ ⊑ a → κ ⊑ m → κ ⊑ (a ++ []) ++ m
held_more κ a m h k = ⊑_meet κ (a ++ []) m (⊑_meet κ a [] h (⊑_static κ)) k

pub held_all : (κ m : Lft) → κ ⊑ m → κ ⊑ m ++ m
held_all κ m h = ⊑_meet κ m m h h
