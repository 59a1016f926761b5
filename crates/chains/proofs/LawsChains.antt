-- Laws of chains: the highest position of a bucket, the way along a chain, and chains with one position more or one less. Assumes
-- nothing.
use mathlib.Core.Path.{◌≡◌, refl, ap, sym, subst, ◌∙◌}
use mathlib.Core.Bool.{Bool, true, false}
use mathlib.Core.List.{List}
use Prim.Native.Nat.{ℕ, zero, suc, ◌+◌, ◌-◌, ◌≤◌, ◌<◌}
use native.Mathlib.Numerals.{add-one}
use native.Mathlib.Nat.{not-suc-le-zero}
use native.Mathlib.Omega.{arith}
use lib.ListN.{length, get_or, set, length-set}
use lib.Seq.{get_or-set_same, get_or-set_other}
use lib.Dec.{eqb, ltb}
use borrow.Author.Count.{below_more}
use borrow.Author.Tests.{ltb-true, ltb-false, eqb-true, eqb-false, eq-eqb, ne_eqb}
use Rattle.oat.specs.Basics.{pick}
use Rattle.oat.proofs.LawsBasics.{below_or_last}
use Rattle.chains.specs.Chains.{highest, Chains}

-- the highest position of the bucket h
module _ (b : ℕ → ℕ) (h : ℕ) where
  pub highest_most : (n : ℕ) → highest b h n ≤ n
  unfolding highest
  highest_most zero = omega arith
  highest_most (suc n) = go (eqb (b n) h) (highest_most n)
    where
      go : (t : Bool) → highest b h n ≤ n → pick t (suc n) (highest b h n) ≤ suc n
      go true r = omega arith
      go false r = omega arith

  highest_here : (n : ℕ) → 0 < highest b h n → b (highest b h n - 1) ≡ h
  unfolding highest
  highest_here zero l = absurd (not-suc-le-zero l)
  highest_here (suc n) l = go (eqb (b n) h) refl (highest_here n) l
    where
      go : (t : Bool) → eqb (b n) h ≡ t → (0 < highest b h n → b (highest b h n - 1) ≡ h) → 0 < pick t (suc n) (highest b h n) → b (pick t (suc n) (highest b h n) - 1) ≡ h
      go true e r l = ap b (omega arith) ∙ eqb-true (b n) h e
      go false e r l = r l

  pub highest_reaches : (n k : ℕ) → k < n → b k ≡ h → k < highest b h n
  unfolding highest
  highest_reaches zero k l e = absurd (not-suc-le-zero l)
  highest_reaches (suc n) k l e = go (eqb (b n) h) refl (highest_reaches n k)
    where
      go : (t : Bool) → eqb (b n) h ≡ t → (k < n → b k ≡ h → k < highest b h n) → k < pick t (suc n) (highest b h n)
      go true f r = l
      go false f r = below_or_last (λ m. b m ≡ h → m < highest b h n) n k l r (λ z. absurd (eqb-false (b n) h f z)) e

  highest_own : (n : ℕ) → b n ≡ h → highest b h (n + 1) ≡ n + 1
  unfolding highest
  highest_own n e = rw (add-one, eq-eqb (b n) h e)

  highest_other : (n : ℕ) → (b n ≡ h → ⊥) → highest b h (n + 1) ≡ highest b h n
  unfolding highest
  highest_other n e = rw (add-one, ne_eqb (b n) h e)

  highest_same : (c : ℕ → ℕ) (n : ℕ) → ((k : ℕ) → k < n → c k ≡ b k) → highest c h n ≡ highest b h n
  unfolding highest
  highest_same c zero e = refl
  highest_same c (suc n) e = rw (e n (omega arith), highest_same c n (λ k l. e k (omega arith)))

-- the way along the chain h: `after` leads to a position of the chain, or to none, and P is at no position below n that is higher
pub record Walks (b : ℕ → ℕ) (h : ℕ) (P : ℕ → Type 0) (n after : ℕ) : Type 0 where
  pub most : after ≤ n
  pub own : 0 < after → b (after - 1) ≡ h
  pub none : (k : ℕ) → after ≤ k → k < n → P k → ⊥

-- a position at which P is belongs to the chain
module _ (b : ℕ → ℕ) (h : ℕ) (P : ℕ → Type 0) (n : ℕ) (inside : (k : ℕ) → k < n → P k → b k ≡ h) where
  walk_at : (m after : ℕ) → m ≤ n → after ≡ highest b h m → ((k : ℕ) → m ≤ k → k < n → P k → ⊥) → Walks b h P n after
  walk_at m after l e f = rw e (record {
    most = omega (arith, highest_most b h m);
    own = highest_here b h m;
    none = λ k p q z. go k p q z (ltb k m) refl;
  })
    where
      go : (k : ℕ) → highest b h m ≤ k → k < n → P k → (t : Bool) → ltb k m ≡ t → ⊥
      go k p q z true t = omega (arith, highest_reaches b h m k (ltb-true k m t) (inside k q z))
      go k p q z false t = f k (ltb-false k m t) q z

  module _ {heads count links : ℕ} {numbers : List ℕ} (c : Chains heads count links b numbers n) where
    pub walk_starts : (place after : ℕ) → h < count → place ≡ heads + h → after ≡ get_or numbers place 0 → Walks b h P n after
    walk_starts place after l i e = walk_at n after (omega arith) (e ∙ ap (λ j. get_or numbers j 0) i ∙ c.head h l) (λ k p q. absurd (omega arith))

    module _ (place after next : ℕ) (w : Walks b h P n after) (l : 0 < after) (i : place ≡ links + (after - 1)) (e : next ≡ get_or numbers place 0) where
      next_is : next ≡ highest b h (after - 1)
      next_is = e ∙ ap (λ j. get_or numbers j 0) i ∙ c.link (after - 1) (omega (arith, w.most)) ∙ ap (λ g. highest b g (after - 1)) (w.own l)

      pub walk_falls : next < after
      walk_falls = omega (arith, next_is, highest_most b h (after - 1))

      pub walk_on : (P (after - 1) → ⊥) → Walks b h P n next
      walk_on f = walk_at (after - 1) next (omega (arith, w.most)) next_is (λ k p q. go k q (ltb (after - 1) k) p refl)
        where
          go : (k : ℕ) → k < n → (t : Bool) → after - 1 ≤ k → ltb (after - 1) k ≡ t → P k → ⊥
          go k q true p t = w.none k (omega (arith, ltb-true (after - 1) k t)) q
          go k q false p t =
              let same : after - 1 ≡ k = omega (arith, ltb-false (after - 1) k t) in
              subst (λ m. P m → ⊥) same f

-- the highest position at which f is x ends the way
pub walk_highest : (f : ℕ → ℕ) (x n after : ℕ) → after ≤ n → (0 < after → f (after - 1) ≡ x) → ((k : ℕ) → after ≤ k → k < n → f k ≡ x → ⊥) → highest f x n ≡ after
walk_highest f x n after l here none = go (ltb (highest f x n) after) (ltb after (highest f x n)) refl refl
  where
    go : (t u : Bool) → ltb (highest f x n) after ≡ t → ltb after (highest f x n) ≡ u → highest f x n ≡ after
    go true u p q =
        let low = ltb-true (highest f x n) after p in
        absurd (omega (arith, highest_reaches f x n (after - 1) (omega arith) (here (omega arith))))
    go false true p q =
        let low = ltb-true after (highest f x n) q in
        absurd (none (highest f x n - 1) (omega arith) (omega (arith, highest_most f x n)) (highest_here f x n (omega arith)))
    go false false p q = omega (arith, ltb-false (highest f x n) after p, ltb-false after (highest f x n) q)

-- the same chains, where the positions have the same buckets
pub chains_same : {heads count links : ℕ} {b : ℕ → ℕ} {numbers : List ℕ} {n : ℕ} (c : ℕ → ℕ) → ((k : ℕ) → k < n → c k ≡ b k) → Chains heads count links b numbers n → Chains heads count links c numbers n
chains_same {b = b} {n = n} c e C = record {
  head = λ h l. C.head h l ∙ sym (highest_same b h c n e);
  link = λ j l. C.link j l ∙ sym (highest_same b (b j) c j (λ k m. e k (omega arith))) ∙ ap (λ h. highest c h j) (sym (e j l));
}

-- the position n, of the bucket h, whose head is at `place`
module _ (heads count links : ℕ) (b : ℕ → ℕ) (numbers : List ℕ) (n h place : ℕ) (own : b n ≡ h) (low : h < count) (is : place ≡ heads + h) (long : heads + count ≤ length numbers) (apart : (g j : ℕ) → g < count → j ≤ n → heads + g ≡ links + j → ⊥) where
  not_link : (j : ℕ) → j ≤ n → links + j ≡ place → ⊥
  not_link j l e = apart h j low l (sym (e ∙ is))

  -- put first in its chain
  module _ (C : Chains heads count links b numbers n) (room : links + n < length numbers) where
    abbrev inner : List ℕ
    inner = set numbers (links + n) (get_or numbers place 0)

    abbrev longer : List ℕ
    longer = set inner place (n + 1)

    linked_head : (g : ℕ) → g < count → get_or longer (heads + g) 0 ≡ highest b g (n + 1)
    linked_head g l = go (eqb h g) refl
      where
        go : (t : Bool) → eqb h g ≡ t → get_or longer (heads + g) 0 ≡ highest b g (n + 1)
        go true e =
            subst (λ m. get_or longer (heads + m) 0 ≡ highest b m (n + 1)) (eqb-true h g e)
            (ap (λ j. get_or longer j 0) (sym is) ∙ get_or-set_same inner place (n + 1) 0 (simp length-set (omega arith)) ∙ sym (highest_own b h n own))
        go false e =
            let other = eqb-false h g e in
            get_or-set_other inner place (heads + g) (n + 1) 0 (λ m. other (omega arith))
            ∙ get_or-set_other numbers (links + n) (heads + g) _ 0 (apart g n l (omega arith))
            ∙ C.head g l
            ∙ sym (highest_other b g n (λ m. other (sym own ∙ m)))

    link_own : get_or longer (links + n) 0 ≡ highest b (b n) n
    link_own =
        get_or-set_other inner place (links + n) (n + 1) 0 (not_link n (omega arith))
        ∙ get_or-set_same numbers (links + n) _ 0 room
        ∙ ap (λ j. get_or numbers j 0) is
        ∙ C.head h low
        ∙ ap (λ g. highest b g n) (sym own)

    link_before : (j : ℕ) → j < n → get_or longer (links + j) 0 ≡ highest b (b j) j
    link_before j l =
        get_or-set_other inner place (links + j) (n + 1) 0 (not_link j (omega arith))
        ∙ get_or-set_other numbers (links + n) (links + j) _ 0 (λ m. omega arith)
        ∙ C.link j l

    pub linked : Chains heads count links b (set (set numbers (links + n) (get_or numbers place 0)) place (n + 1)) (n + 1)
    linked = record { head = linked_head; link = below_more (λ j. get_or longer (links + j) 0 ≡ highest b (b j) j) n link_before link_own }

  -- taken out of its chain, where it is the last position
  module _ (C : Chains heads count links b numbers (n + 1)) where
    abbrev shorter : List ℕ
    shorter = set numbers place (get_or numbers (links + n) 0)

    unlinked_head : (g : ℕ) → g < count → get_or shorter (heads + g) 0 ≡ highest b g n
    unlinked_head g l = go (eqb h g) refl
      where
        go : (t : Bool) → eqb h g ≡ t → get_or shorter (heads + g) 0 ≡ highest b g n
        go true e =
            subst (λ m. get_or shorter (heads + m) 0 ≡ highest b m n) (eqb-true h g e)
            (ap (λ j. get_or shorter j 0) (sym is) ∙ get_or-set_same numbers place _ 0 (omega arith) ∙ C.link n (omega arith) ∙ ap (λ m. highest b m n) own)
        go false e =
            let other = eqb-false h g e in
            get_or-set_other numbers place (heads + g) _ 0 (λ m. other (omega arith)) ∙ C.head g l ∙ highest_other b g n (λ m. other (sym own ∙ m))

    pub unlinked : Chains heads count links b (set numbers place (get_or numbers (links + n) 0)) n
    unlinked = record {
      head = unlinked_head;
      link = λ j l. get_or-set_other numbers place (links + j) _ 0 (not_link j (omega arith)) ∙ C.link j (omega arith);
    }

-- no position yet
pub chains_none : {heads count links : ℕ} {b : ℕ → ℕ} {numbers : List ℕ} → ((h : ℕ) → h < count → get_or numbers (heads + h) 0 ≡ 0) → Chains heads count links b numbers 0
unfolding highest
chains_none e = record { head = e; link = λ j l. absurd (not-suc-le-zero l) }
