-- Laws of the bindings: the binder, the type and the name of a position, what a name means in the scope that the buffers hold, the way
-- along a chain, one binding more and one less. Assumes nothing.
use mathlib.Core.Path.{◌≡◌, refl, ap, sym, subst, ◌∙◌}
use mathlib.Core.Bool.{Bool, true, false, not}
use mathlib.Core.List.{List, ◌∷◌}
use Prim.Native.Nat.{ℕ, zero, suc, ◌+◌, ◌-◌, ◌*◌, ◌%◌, ◌≤◌, ◌<◌}
use native.Mathlib.Numerals.{add-one}
use native.Mathlib.Nat.{not-suc-le-zero, zero-add, mod-lt}
use native.Mathlib.Omega.{arith}
use lib.ListN.{length, get_or, set, length-set}
use lib.Seq.{get_or-set_same, get_or-set_other}
use lib.Dec.{eqb, ltb, leb}
use borrow.Author.Count.{below_more}
use borrow.Author.Tests.{ltb-true, ltb-false, lt-ltb, le-ltb, le-leb, lt-leb}
use Rattle.std.specs.Prelude.{Option, Some as At, None as Nothing, MatchOption, IsTrue}
use Rattle.oat.specs.Basics.{pick}
use Rattle.oat.specs.Tables.{Tables, built_in_at, node_at}
use Rattle.chains.specs.Chains.{highest, Chains}
use Rattle.chains.proofs.LawsChains.{Walks, highest_most, highest_reaches, walk_starts, walk_falls, walk_on, walk_highest, chains_same, chains_none, linked, unlinked}
use Rattle.typing_rules.specs.Contexts.{Scope, empty, binds, inner, Hit, hit, miss, is_miss, nearest, Entry, find, find_name, is_unbound, is_fresh_at, is_fixed, or_else}
use Rattle.typing_rules.proofs.LawsLevels.{deepest_inner, deepest_binds, fresh_inner, fresh_binds}
use Rattle.file_sections.specs.declared.Sections.{Sections}
use Rattle.file_sections.specs.Layout.{Laid, Has, tables_of}
use Rattle.file_sections.specs.Frames.{Same}
use Rattle.file_sections.proofs.LawsRecords.{built_ins_long}
use Rattle.file_sections.proofs.LawsFrames.{same_refl}
use Rattle.bindings.specs.Bindings.{entry_of, binder_of, type_bound, name_bound, is_global, names_of, scope_of, found_below, latest, Chained, Holds, Position, Scoped, Some, SomeFrom, Finds, Freshness, Assignability, Bindable, Bound}

-- a position of a built-in
module _ (F : List ℕ) (S : Sections) (W : List ℕ) (j : ℕ) (h : j < S.built_ins) where
  pub built_in_binder : 40000 + j ≡ binder_of (tables_of F S) W j
  unfolding binder_of
  built_in_binder = rw (built_ins_long F S, lt-ltb _ _ h)

  pub built_in_bound : (n : ℕ) → n ≡ (built_in_at (tables_of F S) j).type → n ≡ type_bound (tables_of F S) W j
  unfolding type_bound
  built_in_bound n e = rw (built_ins_long F S, lt-ltb _ _ h) e

  pub built_in_named : (n : ℕ) → n ≡ (built_in_at (tables_of F S) j).name → n ≡ name_bound (tables_of F S) W j
  unfolding name_bound
  built_in_named n e = rw (built_ins_long F S, lt-ltb _ _ h) e

  built_in_fixed : is_global (tables_of F S) W j ≡ false
  unfolding is_global
  built_in_fixed = rw (built_ins_long F S, lt-ltb _ _ h)

-- a position of the stack
module _ (F : List ℕ) (S : Sections) (W : List ℕ) (j : ℕ) (h : S.built_ins ≤ j) where
  pub stack_binder : (n : ℕ) → n ≡ get_or W ((j - S.built_ins) * 2) 0 → n ≡ binder_of (tables_of F S) W j
  unfolding binder_of
  stack_binder n e = rw (built_ins_long F S, le-ltb _ _ h) e

  pub stack_bound : (n : ℕ) → n ≡ get_or W ((j - S.built_ins) * 2 + 1) 0 → n ≡ type_bound (tables_of F S) W j
  unfolding type_bound
  stack_bound n e = rw (built_ins_long F S, le-ltb _ _ h) e

  pub stack_named : (b n : ℕ) → b ≡ get_or W ((j - S.built_ins) * 2) 0 → n ≡ (node_at (tables_of F S) b).x → n ≡ name_bound (tables_of F S) W j
  unfolding name_bound
  stack_named b n e f = rw (built_ins_long F S, le-ltb _ _ h, ← e) f

  stack_global : (b : ℕ) → b ≡ binder_of (tables_of F S) W j → is_global (tables_of F S) W j ≡ eqb (node_at (tables_of F S) b).kind 1
  unfolding is_global binder_of
  stack_global b e = rw (e, built_ins_long F S, le-ltb _ _ h)

  pub stack_there : Position F S W j → (b : ℕ) → b ≡ get_or W ((j - S.built_ins) * 2) 0 → Has F S b S.nodes
  stack_there p b e = record { laid = p.laid; within = rw (e, ← built_ins_long F S) (p.node h) }

  pub binder_there : Position F S W j → (b : ℕ) → b ≡ binder_of (tables_of F S) W j → Has F S b S.nodes
  unfolding binder_of
  binder_there p b e = stack_there p b (e ∙ rw (built_ins_long F S, le-ltb _ _ h))

-- positions below s are the same where the stack is
module _ (T : Tables) (s : ℕ) {W W' : List ℕ} (same : Same (entry_of T s) W W') where
  module _ (j : ℕ) (h : j < s) where
    pub binder_same : binder_of T W' j ≡ binder_of T W j
    unfolding binder_of
    binder_same = go (ltb j (length T.built_ins)) refl
      where
        go : (b : Bool) → ltb j (length T.built_ins) ≡ b → pick b (40000 + j) (get_or W' (entry_of T j) 0) ≡ pick b (40000 + j) (get_or W (entry_of T j) 0)
        go true e = refl
        go false e = same.at _ (omega (arith, ltb-false j (length T.built_ins) e))

    pub type_same : type_bound T W' j ≡ type_bound T W j
    unfolding type_bound
    type_same = go (ltb j (length T.built_ins)) refl
      where
        go : (b : Bool) → ltb j (length T.built_ins) ≡ b → pick b (built_in_at T j).type (get_or W' (entry_of T j + 1) 0) ≡ pick b (built_in_at T j).type (get_or W (entry_of T j + 1) 0)
        go true e = refl
        go false e = same.at _ (omega (arith, ltb-false j (length T.built_ins) e))

    pub name_same : name_bound T W' j ≡ name_bound T W j
    unfolding name_bound
    name_same = go (ltb j (length T.built_ins)) refl
      where
        go : (b : Bool) → ltb j (length T.built_ins) ≡ b → pick b (built_in_at T j).name (node_at T (get_or W' (entry_of T j) 0)).x ≡ pick b (built_in_at T j).name (node_at T (get_or W (entry_of T j) 0)).x
        go true e = refl
        go false e = ap (λ n. (node_at T n).x) (same.at _ (omega (arith, ltb-false j (length T.built_ins) e)))

    pub global_same : is_global T W' j ≡ is_global T W j
    unfolding is_global
    global_same = go (ltb j (length T.built_ins)) refl
      where
        go : (b : Bool) → ltb j (length T.built_ins) ≡ b → pick b false (eqb (node_at T (get_or W' (entry_of T j) 0)).kind 1) ≡ pick b false (eqb (node_at T (get_or W (entry_of T j) 0)).kind 1)
        go true e = refl
        go false e = ap (λ n. eqb (node_at T n).kind 1) (same.at _ (omega (arith, ltb-false j (length T.built_ins) e)))

  pub names_same : (base : ℕ) → base ≤ s → names_of T W' base ≡ names_of T W base
  unfolding names_of
  names_same zero h = refl
  names_same (suc n) h = rw (name_same n (omega arith), type_same n (omega arith), binder_same n (omega arith), global_same n (omega arith), names_same n (omega arith))

  scope_below : (base n : ℕ) → n ≤ s → scope_of T W' base n ≡ scope_of T W base n
  unfolding scope_of
  scope_below base zero h = refl
  scope_below base (suc n) h = rw (name_same n (omega arith), type_same n (omega arith), binder_same n (omega arith), scope_below base n (omega arith))

  pub scope_same : (base : ℕ) → scope_of T W' base s ≡ scope_of T W base s
  scope_same base = scope_below base s (omega arith)

  chains_kept : {K : List ℕ} → Chains 0 512 512 (λ j. name_bound T W j % 512) K s → Chains 0 512 512 (λ j. name_bound T W' j % 512) K s
  chains_kept c = chains_same (λ j. name_bound T W' j % 512) (λ k l. ap (λ m. m % 512) (name_same k l)) c

-- what a scope has
pub position_of : {F : List ℕ} {S : Sections} {W K : List ℕ} {s : ℕ} (j : ℕ) → Scoped F S W K s → j < s → Position F S W j
position_of j c h = record {
  laid = c.laid;
  long = c.long;
  high = omega (arith, c.high);
  node = c.binders j h;
}

pub scoped_same : {F : List ℕ} {S : Sections} {W W' K : List ℕ} {s : ℕ} → Scoped F S W K s → Same (entry_of (tables_of F S) s) W W' → S.nodes * 2 ≤ length W' → Scoped F S W' K s
scoped_same {F} {S} {W} {W'} {K} {s} c same l =
    record {
      laid = c.laid;
      long = l;
      high = c.high;
      binders = λ j h k. rw (same.at (entry_of (tables_of F S) j) (omega (arith, built_ins_long F S))) (c.binders j h k);
      types = λ j h. rw (type_same (tables_of F S) s same j h) (c.types j h);
      chained = record { long = c.chained.long; chains = chains_kept (tables_of F S) s same c.chained.chains };
    }

-- induction from `base` on
from_base : (P : ℕ → Type 0) (base : ℕ) → P base → ((n : ℕ) → base ≤ n → P n → P (suc n)) → (s : ℕ) → base ≤ s → P s
from_base P base p f zero h =
    let e : base ≡ 0 = omega arith in
    subst P e p
from_base P base p f (suc n) h = go (ltb n base) refl (λ k. from_base P base p f n k)
  where
    go : (b : Bool) → ltb n base ≡ b → (base ≤ n → P n) → P (suc n)
    go true e r =
        let same : base ≡ suc n = omega (arith, ltb-true n base e) in
        subst P same p
    go false e r = f n (ltb-false n base e) (r (ltb-false n base e))

-- a scope that begins at its own height, and one binding more
pub scope_none : (T : Tables) (W : List ℕ) (s : ℕ) → scope_of T W s s ≡ empty
unfolding scope_of
scope_none T W zero = refl
scope_none T W (suc j) = rw (lt-ltb j (suc j) (omega arith))

scope_more : (T : Tables) (W : List ℕ) (base n : ℕ) → base ≤ n → scope_of T W base (suc n) ≡ binds (scope_of T W base n) (name_bound T W n) (type_bound T W n) (binder_of T W n)
unfolding scope_of
scope_more T W base n h = rw (le-ltb n base h)

-- what a position says of a name: what the name means, whether no position from `start` on binds it, whether it can be assigned
abbrev meant : Tables → List ℕ → Option ℕ → Hit ℕ
meant T W (At j) = hit (type_bound T W j) (binder_of T W j)
meant T W Nothing = miss

abbrev fresh_from : ℕ → Option ℕ → Bool
fresh_from start (At j) = ltb j start
fresh_from start Nothing = true

abbrev assign_from : Tables → List ℕ → ℕ → Option ℕ → Bool
assign_from T W base (At j) = pick (ltb j base) (is_global T W j) true
assign_from T W base Nothing = true

module _ (T : Tables) (W : List ℕ) (x : ℕ) where
  name_meant : (s : ℕ) → find_name x (names_of T W s) ≡ meant T W (latest T W x s)
  unfolding find_name names_of latest highest
  name_meant zero = refl
  name_meant (suc n) = go (eqb (name_bound T W n) x) (name_meant n)
    where
      go : (b : Bool) → find_name x (names_of T W n) ≡ meant T W (latest T W x n) → pick b (hit (type_bound T W n) (binder_of T W n)) (find_name x (names_of T W n)) ≡ meant T W (found_below (pick b (suc n) (highest (name_bound T W) x n)))
      go true r = refl
      go false r = r

  scope_meant : (base s : ℕ) → base ≤ s → or_else (find x (scope_of T W base s)) (find_name x (names_of T W base)) ≡ meant T W (latest T W x s)
  unfolding nearest latest highest
  scope_meant base s h = from_base
      (λ n. or_else (find x (scope_of T W base n)) (find_name x (names_of T W base)) ≡ meant T W (latest T W x n))
      base
      (rw (scope_none T W base) (name_meant base))
      (λ n l r. rw (scope_more T W base n l) (go n (eqb (name_bound T W n) x) r))
      s
      h
    where
      go : (n : ℕ) (b : Bool) → or_else (find x (scope_of T W base n)) (find_name x (names_of T W base)) ≡ meant T W (latest T W x n) → or_else (pick b (hit (type_bound T W n) (binder_of T W n)) (find x (scope_of T W base n))) (find_name x (names_of T W base)) ≡ meant T W (found_below (pick b (suc n) (highest (name_bound T W) x n)))
      go n true r = refl
      go n false r = r

  fresh-from : (start s : ℕ) → is_unbound x (scope_of T W start s) ≡ fresh_from start (latest T W x s)
  unfolding nearest scope_of latest highest
  fresh-from start zero = refl
  fresh-from start (suc n) = go (ltb n start) refl (fresh-from start n)
    where
      old_step : (n : ℕ) (b : Bool) → n < start → fresh_from start (latest T W x n) ≡ true → fresh_from start (found_below (pick b (suc n) (highest (name_bound T W) x n))) ≡ true
      old_step n true l r = lt-ltb n start l
      old_step n false l r = r

      old : (n : ℕ) → n ≤ start → fresh_from start (latest T W x n) ≡ true
      old zero l = refl
      old (suc n) l = old_step n (eqb (name_bound T W n) x) (omega arith) (old n (omega arith))

      own : (b : Bool) → start ≤ n → is_unbound x (scope_of T W start n) ≡ fresh_from start (latest T W x n) → is_miss (pick b (hit (type_bound T W n) (binder_of T W n)) (find x (scope_of T W start n))) ≡ fresh_from start (found_below (pick b (suc n) (highest (name_bound T W) x n)))
      own true l r = sym (le-ltb n start l)
      own false l r = r

      go : (a : Bool) → ltb n start ≡ a → is_unbound x (scope_of T W start n) ≡ fresh_from start (latest T W x n) → is_unbound x (pick a empty (binds (scope_of T W start n) (name_bound T W n) (type_bound T W n) (binder_of T W n))) ≡ fresh_from start (latest T W x (suc n))
      go true e r = sym (old (suc n) (omega (arith, ltb-true n start e)))
      go false e r = own (eqb (name_bound T W n) x) (ltb-false n start e) r

  assign_names : (base n : ℕ) → n ≤ base → not (is_fixed x (names_of T W n)) ≡ assign_from T W base (latest T W x n)
  unfolding is_fixed names_of latest highest
  assign_names base zero h = refl
  assign_names base (suc n) h = go (eqb (name_bound T W n) x) (is_global T W n) refl (omega arith) (assign_names base n (omega arith))
    where
      go : (b g : Bool) → is_global T W n ≡ g → n < base → not (is_fixed x (names_of T W n)) ≡ assign_from T W base (latest T W x n) → not (pick b (pick (is_global T W n) false true) (is_fixed x (names_of T W n))) ≡ assign_from T W base (found_below (pick b (suc n) (highest (name_bound T W) x n)))
      go true true e l r = rw (lt-ltb n base l, e)
      go true false e l r = rw (lt-ltb n base l, e)
      go false g e l r = r

  assign-from : (base s : ℕ) → base ≤ s → pick (is_unbound x (scope_of T W base s)) (not (is_fixed x (names_of T W base))) true ≡ assign_from T W base (latest T W x s)
  unfolding nearest latest highest
  assign-from base s h = from_base
      (λ n. pick (is_unbound x (scope_of T W base n)) (not (is_fixed x (names_of T W base))) true ≡ assign_from T W base (latest T W x n))
      base
      (rw (scope_none T W base) (assign_names base base (omega arith)))
      (λ n l r. rw (scope_more T W base n l) (go n (eqb (name_bound T W n) x) l r))
      s
      h
    where
      go : (n : ℕ) (b : Bool) → base ≤ n → pick (is_unbound x (scope_of T W base n)) (not (is_fixed x (names_of T W base))) true ≡ assign_from T W base (latest T W x n) → pick (is_miss (pick b (hit (type_bound T W n) (binder_of T W n)) (find x (scope_of T W base n)))) (not (is_fixed x (names_of T W base))) true ≡ assign_from T W base (found_below (pick b (suc n) (highest (name_bound T W) x n)))
      go n true l r = rw (le-ltb n base l)
      go n false l r = r

  pub latest_low : (s j : ℕ) → latest T W x s ≡ At j → j < s
  unfolding latest
  latest_low s j e = omega (arith, low (highest (name_bound T W) x s) e, highest_most (name_bound T W) x s)
    where
      low : (n : ℕ) → found_below n ≡ At j → j < n
      low zero e = absurd (let z : ◌≡◌ {A = ℕ} 0 1 = cc in omega arith)
      low (suc n) e = let z : n ≡ j = cc in omega arith

  -- the name's meaning by its latest position
  pub name_found : (s j : ℕ) → latest T W x s ≡ At j → find_name x (names_of T W s) ≡ hit (type_bound T W j) (binder_of T W j)
  name_found s j e = name_meant s ∙ ap (meant T W) e

  pub name_missing : (s : ℕ) → latest T W x s ≡ Nothing → find_name x (names_of T W s) ≡ miss
  name_missing s e = name_meant s ∙ ap (meant T W) e

  pub found_is : (base s j : ℕ) → latest T W x s ≡ At j → base ≤ s → or_else (find x (scope_of T W base s)) (find_name x (names_of T W base)) ≡ hit (type_bound T W j) (binder_of T W j)
  found_is base s j e h = scope_meant base s h ∙ ap (meant T W) e

  pub missing_is : (base s : ℕ) → latest T W x s ≡ Nothing → base ≤ s → or_else (find x (scope_of T W base s)) (find_name x (names_of T W base)) ≡ miss
  missing_is base s e h = scope_meant base s h ∙ ap (meant T W) e

-- the latest position of a name, at the end of the way along its chain
abbrev NameWalk : Tables → List ℕ → ℕ → ℕ → ℕ → Type 0
NameWalk T W x s after = Walks (λ j. name_bound T W j % 512) (x % 512) (λ j. name_bound T W j ≡ x) s after

found_under : (n : ℕ) → 0 < n → found_below n ≡ At (n - 1)
found_under zero l = absurd (not-suc-le-zero l)
found_under (suc n) l = ap At (omega arith)

module _ (T : Tables) (W : List ℕ) (x s after : ℕ) (w : NameWalk T W x s after) where
  latest_at : 0 < after → name_bound T W (after - 1) ≡ x → At (after - 1) ≡ latest T W x s
  unfolding latest
  latest_at l e = sym (ap found_below (walk_highest (name_bound T W) x s after w.most (λ k. e) w.none) ∙ found_under after l)

  latest_none : after ≤ 0 → Nothing ≡ latest T W x s
  unfolding latest
  latest_none l = sym (ap found_below (walk_highest (name_bound T W) x s 0 (omega arith) (λ k. absurd (not-suc-le-zero k)) (λ k p. w.none k (omega arith))))

name_inside : (T : Tables) (W : List ℕ) (x s k : ℕ) → k < s → name_bound T W k ≡ x → name_bound T W k % 512 ≡ x % 512
name_inside T W x s k l e = ap (λ m. m % 512) e

-- the way along the chain of a name, in each scope that the buffers hold
pub record FindWalk (F : List ℕ) (S : Sections) (W K : List ℕ) (x after : ℕ) : Type 0 where
  pub most : after ≤ 4224
  pub walks : (s : ℕ) → Scoped F S W K s → NameWalk (tables_of F S) W x s after

scoped_most : {F : List ℕ} {S : Sections} {W K : List ℕ} {s : ℕ} → Scoped F S W K s → s ≤ 4224
scoped_most c = omega (arith, c.high, c.laid.built_ins_most, c.laid.nodes_most)

module _ {F : List ℕ} {S : Sections} {W K : List ℕ} {x : ℕ} where
  pub find_starts : (after : ℕ) → Some F S W K → after ≡ get_or K (x % 512) 0 → FindWalk F S W K x after
  find_starts after o e = record { most = omega (arith, (starts o.height o.scoped).most, scoped_most o.scoped); walks = starts }
    where
      starts : (s : ℕ) → Scoped F S W K s → NameWalk (tables_of F S) W x s after
      starts s c = walk_starts _ _ _ s (name_inside (tables_of F S) W x s) c.chained.chains (x % 512) after (mod-lt x (omega arith)) (omega arith) e

  module _ (after : ℕ) (walk : FindWalk F S W K x after) (h : 0 < after) where
    pub find_position : Some F S W K → Position F S W (after - 1)
    find_position o = position_of (after - 1) o.scoped (omega (arith, (walk.walks o.height o.scoped).most))

    pub find_found : (y : ℕ) → y ≡ name_bound (tables_of F S) W (after - 1) → y ≡ x → Finds F S W K x (At (after - 1))
    find_found y e f = record { found = λ s c. latest_at (tables_of F S) W x s after (walk.walks s c) h (sym e ∙ f) }

    module _ (n : ℕ) (o : Some F S W K) (en : n ≡ get_or K (512 + (after - 1)) 0) where
      pub find_falls : n < after
      find_falls = walk_falls _ _ _ o.height (name_inside (tables_of F S) W x o.height) o.scoped.chained.chains _ after n (walk.walks o.height o.scoped) h refl en

      pub find_on : (y : ℕ) → y ≡ name_bound (tables_of F S) W (after - 1) → (y ≡ x → ⊥) → FindWalk F S W K x n
      find_on y e f = record {
        most = omega (arith, walk.most, find_falls);
        walks = λ s c. walk_on _ _ _ s (name_inside (tables_of F S) W x s) c.chained.chains _ after n (walk.walks s c) h refl en (λ g. f (e ∙ g));
      }

  pub find_ends : (after : ℕ) → FindWalk F S W K x after → after ≤ 0 → Finds F S W K x Nothing
  find_ends after walk h = record { found = λ s c. latest_none (tables_of F S) W x s after (walk.walks s c) h }

-- buffers hold a scope of one height alone
scoped_highest : {F : List ℕ} {S : Sections} {W K : List ℕ} {s : ℕ} (t : ℕ) → Scoped F S W K s → Scoped F S W K t → t ≤ s
scoped_highest zero c d = omega arith
scoped_highest {F} {S} {W} {K} {s} (suc n) c d =
    let b : ℕ → ℕ = λ j. name_bound (tables_of F S) W j % 512 in
    let l : b n < 512 = mod-lt (name_bound (tables_of F S) W n) (omega arith) in
    omega (arith, highest_reaches b (b n) (suc n) n (omega arith) refl, d.chained.chains.head (b n) l, c.chained.chains.head (b n) l, highest_most b (b n) s)

from_low : {F : List ℕ} {S : Sections} {W K : List ℕ} {base : ℕ} → SomeFrom F S W K base → (s : ℕ) → Scoped F S W K s → base ≤ s
from_low o s c = omega (arith, o.low, scoped_highest o.some.height c o.some.scoped)

-- whether a name is fresh, and whether it can be assigned
module _ {F : List ℕ} {S : Sections} {W K : List ℕ} {x : ℕ} (r : Option ℕ) (found : Finds F S W K x r) (j : ℕ) (e : r ≡ At j) (o : Some F S W K) where
  pub found_position : Position F S W j
  found_position = position_of j o.scoped (latest_low (tables_of F S) W x o.height j (sym (found.found o.height o.scoped) ∙ e))

  pub found_there : (b : ℕ) → S.built_ins ≤ j → b ≡ binder_of (tables_of F S) W j → Has F S b S.nodes
  found_there b h eb = binder_there F S W j h found_position b eb

module _ {F : List ℕ} {S : Sections} {W K : List ℕ} {x : ℕ} (start : ℕ) (r : Option ℕ) (found : Finds F S W K x r) where
  fresh_is : (t : Bool) → fresh_from start r ≡ t → Freshness F S W K start x t
  fresh_is t e = record {
    tells = λ s c. sym (fresh-from (tables_of F S) W x start s ∙ ap (fresh_from start) (sym (found.found s c)) ∙ e);
  }

  pub fresh_told : (b : Bool) → MatchOption r (IsTrue b) (λ j. b ≡ ltb j start) → Freshness F S W K start x b
  fresh_told b m = fresh_is b (told r m)
    where
      told : (f : Option ℕ) → MatchOption f (IsTrue b) (λ j. b ≡ ltb j start) → fresh_from start f ≡ b
      told (At j) e = sym e
      told Nothing e = sym e

module _ {F : List ℕ} {S : Sections} {W K : List ℕ} {x : ℕ} (base : ℕ) (r : Option ℕ) (found : Finds F S W K x r) where
  module _ (o : SomeFrom F S W K base) where
    assign_is : (t : Bool) → assign_from (tables_of F S) W base r ≡ t → Assignability F S W K base x t
    assign_is t e = record {
      tells = λ s c. sym (assign-from (tables_of F S) W x base s (from_low o s c) ∙ ap (assign_from (tables_of F S) W base) (sym (found.found s c)) ∙ e);
    }

    pub assign_none : r ≡ Nothing → Assignability F S W K base x true
    assign_none e = assign_is true (ap (assign_from (tables_of F S) W base) e)

    module _ (j : ℕ) (e : r ≡ At j) where
      assign_at : (t : Bool) → pick (ltb j base) (is_global (tables_of F S) W j) true ≡ t → Assignability F S W K base x t
      assign_at t f = assign_is t (ap (assign_from (tables_of F S) W base) e ∙ f)

      pub assign_local : base ≤ j → Assignability F S W K base x (leb base j)
      assign_local h = assign_at (leb base j) (rw (le-ltb j base h, le-leb base j h))

      pub assign_built_in : j < base → j < S.built_ins → Assignability F S W K base x (leb S.built_ins j)
      assign_built_in h k = assign_at (leb S.built_ins j) (rw (lt-ltb j base h, lt-leb S.built_ins j k) (built_in_fixed F S W j k))

      pub assign_stack : (b n : ℕ) → j < base → S.built_ins ≤ j → b ≡ binder_of (tables_of F S) W j → n ≡ (node_at (tables_of F S) b).kind → Assignability F S W K base x (eqb n 1)
      assign_stack b n h k eb en = assign_at (eqb n 1) (rw (lt-ltb j base h) (stack_global F S W j k b eb ∙ ap (λ m. eqb m 1) (sym en)))

-- leaving a binding
left_to : (F : List ℕ) (S : Sections) (W K : List ℕ) (q : ℕ) → Scoped F S W K (q + 1) → Scoped F S W (set K (name_bound (tables_of F S) W q % 512) (get_or K (512 + q) 0)) q
left_to F S W K q c = record {
  laid = c.laid;
  long = c.long;
  high = omega (arith, c.high);
  binders = λ j l. c.binders j (omega arith);
  types = λ j l. c.types j (omega arith);
  chained = record {
    long = simp length-set c.chained.long;
    chains = unlinked 0 512 512 (λ j. name_bound (tables_of F S) W j % 512) K q _ _ refl (mod-lt _ (omega arith)) (omega arith) (omega (arith, c.chained.long)) (λ g j l m e. omega arith) c.chained.chains;
  };
}

module _ {F : List ℕ} {S : Sections} {W K : List ℕ} (to p : ℕ) (c : Scoped F S W K p) (h : to < p) where
  pub left_one : (x : ℕ) (K' : List ℕ) → x ≡ name_bound (tables_of F S) W (p - 1) → K' ≡ set K (x % 512) (get_or K (512 + (p - 1)) 0) → Scoped F S W K' (p - 1)
  left_one x K' ex e_k =
      let one : p ≡ p - 1 + 1 = omega arith in
      rw (e_k, ex) (left_to F S W K (p - 1) (subst (Scoped F S W K) one c))

-- the chains with one position more
module _ (T : Tables) (W W' K : List ℕ) (s x : ℕ) (same : Same (entry_of T s) W W') (c : Chained T W K s) (low : s < 4224) (named : name_bound T W' s ≡ x) where
  chained_more : Chained T W' (set (set K (512 + s) (get_or K (x % 512) 0)) (x % 512) (s + 1)) (s + 1)
  chained_more = record {
    long = simp length-set c.long;
    chains = linked 0 512 512 (λ j. name_bound T W' j % 512) K s (x % 512) (x % 512) (ap (λ m. m % 512) named) (mod-lt x (omega arith)) (omega arith) (omega (arith, c.long)) (λ g j l m e. omega arith) (chains_kept T s same c.chains) (omega (arith, c.long));
  }

-- binding
module _ {F : List ℕ} {S : Sections} {W K : List ℕ} {s node t : ℕ} (b : Bindable F S W K s node t) where
  abbrev entry : ℕ
  entry = (s - S.built_ins) * 2

  abbrev once : List ℕ
  once = set W entry node

  abbrev written : List ℕ
  written = set once (entry + 1) t

  entry_low : entry + 1 < length W
  entry_low = omega (arith, b.low, b.room, b.scoped.long)

  own_binder : get_or written entry 0 ≡ node
  own_binder = get_or-set_other once (entry + 1) entry t 0 (λ m. omega arith) ∙ get_or-set_same W entry node 0 (omega (arith, entry_low))

  own_type : get_or written (entry + 1) 0 ≡ t
  own_type = get_or-set_same once (entry + 1) t 0 (simp length-set entry_low)

  written_same : Same (entry_of (tables_of F S) s) W written
  written_same = record {
    at = λ i l.
        let e = built_ins_long F S in
        get_or-set_other once (entry + 1) i t 0 (λ m. omega arith) ∙ get_or-set_other W entry i node 0 (λ m. omega arith);
  }

  bound_binder : binder_of (tables_of F S) written s ≡ node
  bound_binder = sym (stack_binder F S written s b.low node (sym own_binder))

  bound_type : type_bound (tables_of F S) written s ≡ t
  bound_type = sym (stack_bound F S written s b.low t (sym own_type))

  bound_name : name_bound (tables_of F S) written s ≡ (node_at (tables_of F S) node).x
  bound_name = sym (stack_named F S written s b.low node (node_at (tables_of F S) node).x (sym own_binder) refl)

  bound_scoped : (x : ℕ) → x ≡ (node_at (tables_of F S) node).x → Scoped F S written (set (set K (512 + s) (get_or K (x % 512) 0)) (x % 512) (s + 1)) (s + 1)
  bound_scoped x e =
      let c = b.scoped in
      let old = scoped_same c written_same (simp length-set c.long) in
      record {
        laid = c.laid;
        long = old.long;
        high = omega (arith, b.room);
        binders = below_more (λ j. S.built_ins ≤ j → get_or written (entry_of (tables_of F S) j) 0 < S.nodes) s old.binders (λ k. rw (built_ins_long F S, own_binder) b.node_there);
        types = below_more (λ j. type_bound (tables_of F S) written j < S.types) s old.types (rw bound_type b.type_there);
        chained = chained_more (tables_of F S) W written K s x written_same c.chained (omega (arith, b.room, c.laid.built_ins_most, c.laid.nodes_most)) (bound_name ∙ sym e);
      }

  pub bound_is : (x : ℕ) (K' : List ℕ) → x ≡ (node_at (tables_of F S) node).x → K' ≡ set (set K (512 + s) (get_or K (x % 512) 0)) (x % 512) (s + 1) → Bound F S W K s node t (set (set W ((s - S.built_ins) * 2) node) ((s - S.built_ins) * 2 + 1) t) K'
  bound_is x K' ex e_k = record {
    scoped = rw e_k (bound_scoped x ex);
    same = written_same;
    binder = bound_binder;
    type = bound_type;
    name = bound_name;
  }

-- the scope and the names after a binding
module _ {F : List ℕ} {S : Sections} {W K W' K' : List ℕ} {s node t : ℕ} (base : ℕ) (b : Bound F S W K s node t W' K') (h : base ≤ s) where
  pub scope_bound : scope_of (tables_of F S) W' base (s + 1) ≡ binds (scope_of (tables_of F S) W base s) (node_at (tables_of F S) node).x t node
  scope_bound =
      ap (scope_of (tables_of F S) W' base) (add-one s)
      ∙ scope_more (tables_of F S) W' base s h
      ∙ rw (scope_same (tables_of F S) s b.same base, b.name, b.type, b.binder)

  pub names_bound : names_of (tables_of F S) W' base ≡ names_of (tables_of F S) W base
  names_bound = names_same (tables_of F S) s b.same base h

-- the scope that the stack holds: where the stack is the same, from an inner block, and with one binding more
module _ {T : Tables} {W : List ℕ} {base start s : ℕ} {Γ : Scope ℕ} (h : Holds T W base start s Γ) where
  pub holds_same : {W' : List ℕ} → Same (entry_of T s) W W' → Holds T W' base start s Γ
  holds_same same = record {
    low = h.low;
    means = λ x. h.means x ∙ ap (find x) (sym (scope_same T s same base));
    fresh = λ x. h.fresh x ∙ ap (is_unbound x) (sym (scope_same T s same start));
    deepest = h.deepest;
  }

  pub holds_inner : Holds T W base s s (inner Γ)
  unfolding nearest
  holds_inner = record {
    low = omega arith;
    means = h.means;
    fresh = λ x. fresh_inner Γ h.deepest x ∙ ap (is_unbound x) (sym (scope_none T W s));
    deepest = deepest_inner Γ h.deepest;
  }

  holds_more : base ≤ s → Holds T W base start (suc s) (binds Γ (name_bound T W s) (type_bound T W s) (binder_of T W s))
  unfolding nearest
  holds_more l = record {
    low = omega (arith, h.low);
    means = λ x. ap (λ m. pick (eqb (name_bound T W s) x) (hit (type_bound T W s) (binder_of T W s)) m) (h.means x) ∙ ap (find x) (sym (scope_more T W base s l));
    fresh = λ x. fresh_binds Γ (name_bound T W s) (type_bound T W s) (binder_of T W s) x
        ∙ ap (λ m. pick (eqb (name_bound T W s) x) false m) (h.fresh x)
        ∙ taken (eqb (name_bound T W s) x) _
        ∙ ap (is_unbound x) (sym (scope_more T W start s h.low));
    deepest = deepest_binds Γ h.deepest (name_bound T W s) (type_bound T W s) (binder_of T W s);
  }
    where
      taken : (a : Bool) (m : Hit ℕ) → pick a false (is_miss m) ≡ is_miss (pick a (hit (type_bound T W s) (binder_of T W s)) m)
      taken true m = refl
      taken false m = refl

pub holds_bound : {F : List ℕ} {S : Sections} {W K W' K' : List ℕ} {base start s node t : ℕ} {Γ : Scope ℕ} → Holds (tables_of F S) W base start s Γ → base ≤ s → Bound F S W K s node t W' K' → Holds (tables_of F S) W' base start (s + 1) (binds Γ (node_at (tables_of F S) node).x t node)
holds_bound h l b = rw (add-one, ← b.name, ← b.type, ← b.binder) (holds_more (holds_same h b.same) l)

-- a scope of one block: that of a body, with its parameters
pub holds_own : (T : Tables) (W : List ℕ) (base s : ℕ) → base ≤ s → Holds T W base base s (scope_of T W base s)
unfolding nearest is_fresh_at
holds_own T W base s h = from_base (λ n. Holds T W base base n (scope_of T W base n)) base none (λ n l r. rw (scope_more T W base n l) (holds_more r l)) s h
  where
    none : Holds T W base base base (scope_of T W base base)
    none = record {
      low = omega arith;
      means = λ x. refl;
      fresh = λ x. rw (scope_none T W base);
      deepest = λ l x k. rw (scope_none T W base);
    }

-- some scope is held, wherever its own block begins
pub holds_some : (T : Tables) (W : List ℕ) (base start s : ℕ) → base ≤ start → start ≤ s → (Γ : Scope ℕ) × Holds T W base start s Γ
holds_some T W base start s l h =
    from_base (λ n. (Γ : Scope ℕ) × Holds T W base start n Γ) start
    (inner (scope_of T W base start), holds_inner (holds_own T W base start l))
    (λ n k r. (binds r.0 (name_bound T W n) (type_bound T W n) (binder_of T W n), holds_more r.1 (omega arith)))
    s h

-- no binding yet
pub scoped_none : (F : List ℕ) (S : Sections) (W K : List ℕ) → Laid F S → S.nodes * 2 ≤ length W → 4736 ≤ length K → ((h : ℕ) → h < 512 → get_or K h 0 ≡ 0) → Scoped F S W K 0
scoped_none F S W K laid w k e = record {
  laid = laid;
  long = w;
  high = omega arith;
  binders = λ j l. absurd (not-suc-le-zero l);
  types = λ j l. absurd (not-suc-le-zero l);
  chained = record { long = k; chains = chains_none (λ h l. rw (zero-add h) (e h l)) };
}

-- the binding of a built-in: only the chains have it
module _ {F : List ℕ} {S : Sections} {W K : List ℕ} {s : ℕ} (c : Scoped F S W K s) (h : s < S.built_ins) where
  pub scoped_linked : (x : ℕ) (K' : List ℕ) → x ≡ (built_in_at (tables_of F S) s).name → (built_in_at (tables_of F S) s).type < S.types → K' ≡ set (set K (512 + s) (get_or K (x % 512) 0)) (x % 512) (s + 1) → Scoped F S W K' (s + 1)
  scoped_linked x K' e t e_k = record {
    laid = c.laid;
    long = c.long;
    high = omega arith;
    binders = below_more (λ j. S.built_ins ≤ j → get_or W (entry_of (tables_of F S) j) 0 < S.nodes) s c.binders (λ k. absurd (omega arith));
    types = below_more (λ j. type_bound (tables_of F S) W j < S.types) s c.types (rw (← built_in_bound F S W s h _ refl) t);
    chained = rw e_k (chained_more (tables_of F S) W W K s x (same_refl _ W) c.chained (omega (arith, c.laid.built_ins_most)) (sym (built_in_named F S W s h x e)));
  }

-- the names with one more: a built-in's, or that of a function or a global
pub names_more : (T : Tables) (W : List ℕ) (s : ℕ) → names_of T W (s + 1) ≡ (record { name = name_bound T W s; type = type_bound T W s; binder = binder_of T W s; assignable = is_global T W s } ∷ names_of T W s)
unfolding names_of
names_more T W s = rw add-one

entry_is : (n m t u b d : ℕ) (a e : Bool) (l k : List (Entry ℕ)) → n ≡ m → t ≡ u → b ≡ d → a ≡ e → l ≡ k → ◌≡◌ {A = List (Entry ℕ)} (record { name = n; type = t; binder = b; assignable = a } ∷ l) (record { name = m; type = u; binder = d; assignable = e } ∷ k)
entry_is n m t u b d a e l k p q r z y = rw (p, q, r, z, y)

pub names_linked : (F : List ℕ) (S : Sections) (W : List ℕ) (s : ℕ) → s < S.built_ins → names_of (tables_of F S) W (s + 1) ≡ (record { name = (built_in_at (tables_of F S) s).name; type = (built_in_at (tables_of F S) s).type; binder = 40000 + s; assignable = false } ∷ names_of (tables_of F S) W s)
names_linked F S W s h =
    names_more (tables_of F S) W s
    ∙ entry_is _ _ _ _ _ _ _ _ _ _ (sym (built_in_named F S W s h _ refl)) (sym (built_in_bound F S W s h _ refl)) (sym (built_in_binder F S W s h)) (built_in_fixed F S W s h) refl

pub names_declared : {F : List ℕ} {S : Sections} {W K W' K' : List ℕ} {s node t : ℕ} → Bound F S W K s node t W' K' → S.built_ins ≤ s → names_of (tables_of F S) W' (s + 1) ≡ (record { name = (node_at (tables_of F S) node).x; type = t; binder = node; assignable = eqb (node_at (tables_of F S) node).kind 1 } ∷ names_of (tables_of F S) W s)
names_declared {F} {S} {W} {K} {W'} {K'} {s} {node} {t} b h =
    names_more (tables_of F S) W' s
    ∙ entry_is _ _ _ _ _ _ _ _ _ _ b.name b.type b.binder (stack_global F S W' s h node (sym b.binder)) (names_same (tables_of F S) s b.same s (omega arith))
