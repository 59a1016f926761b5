-- The comparison on type numbers, by kinds, and what the types compared refer to: lower types. Assumes nothing.
use mathlib.Core.Path.{◌≡◌, refl, ap, ap₂, sym, ◌∙◌}
use mathlib.Core.Bool.{Bool, true, false, not, ◌||◌}
use mathlib.Core.List.{List}
use Prim.Native.Nat.{ℕ, zero, suc, ◌+◌, ◌-◌, ◌≤◌, ◌<◌}
use native.Mathlib.Numerals.{add-one, sub-one}
use native.Mathlib.Nat.{add-zero}
use native.Mathlib.Omega.{arith}
use lib.ListN.{length}
use lib.Dec.{eqb}
use borrow.Author.Tests.{eqb-true, eqb-false, eq-eqb, ne_eqb, not-true, not-false}
use Rattle.oat.specs.Basics.{pick}
use Rattle.oat.specs.Tables.{Tables, type_at, entry_at}
use Rattle.oat.specs.TypeRules.{kind_at, is_reference_kind, parts_at}
use Rattle.oat.specs.Types.{function, Tys, written_params, type_of, Struct}
use Rattle.oat.specs.Decide.{kind_of, struct_below, below, is_formed}
use Rattle.oat.specs.Pairs
use Rattle.oat.specs.Pairs.{plainly, pair, and_next, compare_all, compare, below_pairs, parts_ty}
use Rattle.oat.proofs.LawsBasics.{and_parts, and_left}
use Rattle.oat.proofs.LawsSame.{same_sound}
use Rattle.oat.proofs.LawsFormed.{formed_is}
use Rattle.oat.proofs.LawsSubtyping.{below_is}
use Rattle.oat.proofs.LawsOrder.{reflexive}
use Rattle.oat.proofs.LawsTypes.{TypesFormed, types-formed}
use Rattle.oat.proofs.LawsWritten.{type_struct, type_array, type_function, type_nullable}
use Rattle.oat.proofs.LawsWritten.{params_many}
use Rattle.oat.proofs.LawsCompare.{plain}
use Rattle.oat.proofs.LawsPairs.{compare_below, below_most, below_exact}
use Rattle.oat.proofs.LawsPartsWritten.{parts_written}
use Rattle.oat.proofs.LawsCompare.{compare_base, compare_struct, compare_array, compare_function, compare_nullable, compare_nullables, compare_kinds, compare_not_ref, compare_none, compare_also}
use Rattle.file_sections.specs.declared.Sections.{Sections}
use Rattle.file_sections.specs.Layout.{tables_of, GoodTables}
use Rattle.file_sections.proofs.LawsRecords.{types_long, list_long}
use Rattle.type_index.specs.Index.{declared, lowest_entry, formed_entry, parts_entry, Indexed}
use Rattle.type_index.proofs.LawsIndex.{entries_same}
use Rattle.type_index.proofs.LawsSameTypes.{kind_is, kind_most}
use Rattle.subtyping.specs.Numbered.{is_itself, compare_at, compare_params, compare_functions, same_at, Params, Matches}
use Rattle.subtyping.specs.declared.below.Compared.{Compared}

-- a pair that leads to no other, a pair and what it leads to, and what `below` says
module _ {c : Pairs.Compared} (r : Compared) where
  one_pair : (b : Bool) → r ≡ record { holds = b; pairs = 1 } → c ≡ pair (plainly b) → Matches r c
  one_pair b e is = record { holds = ap (λ x. x.holds) e ∙ sym (ap (λ x. x.holds) is); pairs = ap (λ x. x.pairs) e ∙ sym (ap (λ x. x.pairs) is) }

  pair_on : {d : Pairs.Compared} (q : Compared) → r ≡ record { holds = q.holds; pairs = 1 + q.pairs } → Matches q d → c ≡ pair d → Matches r c
  pair_on q e m is = record {
    holds = ap (λ x. x.holds) e ∙ m.holds ∙ sym (ap (λ x. x.holds) is);
    pairs = ap (λ x. x.pairs) e ∙ ap (λ n. 1 + n) m.pairs ∙ sym (ap (λ x. x.pairs) is);
  }

abbrev pub Says : Tables → ℕ → ℕ → Compared → Type 0
Says T a b r =
    (r.holds ≡ below (declared T) (type_of T a) (type_of T b)) × (r.pairs ≡ below_pairs (declared T) (type_of T a) (type_of T b))

as_compared : (T : Tables) (a b : ℕ) (r : Compared) → Says T a b r → Matches r (compare_at T a b)
as_compared T a b r e = record { holds = e.0 ∙ sym (compare_below (declared T) (type_of T a) (type_of T b)); pairs = e.1 }

-- the kinds that a nullable may hold: 2, and 4 to 6
is_string : (k : ℕ) → k ≡ 2 → is_reference_kind k ≡ true
unfolding is_reference_kind
is_string k e = rw e

is_other : (k : ℕ) → 4 ≤ k → k < 7 → is_reference_kind k ≡ true
unfolding is_reference_kind
is_other k l h = rw (ne_eqb k 2 (λ e. omega arith)) (go (eqb k 4) (eqb k 5) refl refl)
  where
    go : (a b : Bool) → eqb k 4 ≡ a → eqb k 5 ≡ b → (a || b || eqb k 6) ≡ true
    go true b e f = refl
    go false true e f = refl
    go false false e f = eq-eqb k 6 (omega (arith, eqb-false k 4 e, eqb-false k 5 f))

not_low : (k : ℕ) → k < 4 → (k ≡ 2 → ⊥) → is_reference_kind k ≡ false
unfolding is_reference_kind
not_low k l n = rw (ne_eqb k 2 n, ne_eqb k 4 (λ e. omega arith), ne_eqb k 5 (λ e. omega arith), ne_eqb k 6 (λ e. omega arith))

not_high : (k : ℕ) → 7 ≤ k → is_reference_kind k ≡ false
unfolding is_reference_kind
not_high k l =
    rw (ne_eqb k 2 (λ e. omega arith), ne_eqb k 4 (λ e. omega arith), ne_eqb k 5 (λ e. omega arith), ne_eqb k 6 (λ e. omega arith))

-- parameters, one by one
param_decides : (T : Tables) (p q count : ℕ) → (count ≡ 0 → ⊥) → (kind_of (type_of T (entry_at T p)) ≡ 3 → ⊥) → compare_params T p q count ≡ and_next (compare_at T (entry_at T p) (entry_at T q)) (compare_params T (p + 1) (q + 1) (count - 1))
unfolding compare_params written_params
param_decides T p q zero n v = absurd (n refl)
param_decides T p q (suc count) n v = rw (sub-one, add-one p, add-one q) (compare_also (declared T) _ _ _ _ v)

-- the first j parameters are below those at their places, after `pairs` pairs, and the others decide
pub record Passed (T : Tables) (p q count j pairs : ℕ) : Type 0 where
  pub rest : compare_params T p q count ≡ and_next (record { holds = true; pairs = pairs }) (compare_params T (p + j) (q + j) (count - j))

after_none : (d : Pairs.Compared) → d ≡ and_next (plainly true) d
after_none d =
    let e : 0 + d.pairs ≡ d.pairs = omega arith in
    rw e refl

pub none_passed : (T : Tables) (p q count : ℕ) → Passed T p q count 0 0
none_passed T p q count =
    let e : count - 0 ≡ count = omega arith in
    record { rest = rw (add-zero p, add-zero q, e) (after_none (compare_params T p q count)) }

pub all_passed : (T : Tables) (p q count j pairs : ℕ) → j ≤ count → count ≤ j → Passed T p q count j pairs → Matches (record { holds = true; pairs = pairs }) (compare_params T p q count)
unfolding compare_params written_params
all_passed T p q count j pairs h k P =
    let e : count - j ≡ 0 = omega arith in
    let is = rw (e, compare_none (declared T)) at P.rest in
    record { holds = sym (ap (λ c. c.holds) is); pairs = omega (arith, ap (λ c. c.pairs) is) }

-- one comparison more, after m pairs
module _ (c d : Pairs.Compared) (m k n : ℕ) where
  next_holds : c.holds ≡ true → c.pairs ≡ k → n ≡ m + k → and_next (record { holds = true; pairs = m }) (and_next c d) ≡ and_next (record { holds = true; pairs = n }) d
  next_holds e ek en =
      let f : m + (c.pairs + d.pairs) ≡ n + d.pairs = omega arith in
      rw e (ap (λ x. record { holds = d.holds; pairs = x }) f)

  next_fails : c.holds ≡ false → c.pairs ≡ k → n ≡ m + k → and_next (record { holds = true; pairs = m }) (and_next c d) ≡ record { holds = false; pairs = n }
  next_fails e ek en =
      let f : m + (c.pairs + 0) ≡ n = omega arith in
      rw e (ap (λ x. record { holds = false; pairs = x }) f)

-- equal types that are well-formed
module _ (index : List ℕ) (a b : ℕ) (t : Bool) (et : t ≡ eqb (lowest_entry index a) (lowest_entry index b)) where
  pub equal_formed : (r : Bool) → t ≡ true → r ≡ formed_entry index a → r ≡ is_itself index a b
  unfolding is_itself
  equal_formed r e er = er ∙ rw (← et, e)

  pub not_equal : (r : Bool) → r ≡ false → t ≡ false → r ≡ is_itself index a b
  unfolding is_itself
  not_equal r er e = er ∙ rw (← et, e)

-- where two numbers are equal, either may stand
same_number : (m n : ℕ) (f : ℕ → Pairs.Compared) (d : Pairs.Compared) → pick (eqb m n) (f n) d ≡ pick (eqb m n) (f m) d
same_number m n f d = go (eqb m n) refl
  where
    go : (b : Bool) → eqb m n ≡ b → pick b (f n) d ≡ pick b (f m) d
    go true e = ap f (sym (eqb-true m n e))
    go false e = refl

-- a comparison that stops at its first part, and one that goes on
module _ (c d : Pairs.Compared) (q : Compared) (m : Matches q c) where
  stops : not q.holds ≡ true → Matches q (and_next c d)
  stops n =
      let e = sym m.holds ∙ not-true q.holds n in
      record { holds = m.holds ∙ e ∙ sym (and_left c.holds d.holds e); pairs = m.pairs ∙ rw e (omega arith) }

  goes_on : (v r : Compared) → r ≡ record { holds = v.holds; pairs = q.pairs + v.pairs } → not q.holds ≡ false → Matches v d → Matches r (and_next c d)
  goes_on v r er n w =
      let e = sym m.holds ∙ not-false q.holds n in
      record { holds = rw e (ap (λ x. x.holds) er ∙ w.holds); pairs = rw e (ap (λ x. x.pairs) er ∙ ap₂ ◌+◌ m.pairs w.pairs) }

module _ (s : List ℕ) (S : Sections) where
  abbrev pub T : Tables
  T = tables_of s S

  abbrev pub H : List Struct
  H = declared T

  module _ (good_tables : GoodTables s S) where
    formed : TypesFormed 200 T
    formed = types-formed 200 T good_tables.types

    within : (i : ℕ) → i < S.types → i < length T.types
    within i l = omega (arith, types_long s S)

    kind-at : (i : ℕ) → i < S.types → kind_of (type_of T i) ≡ kind_at T i
    kind-at = kind_is s S good_tables

    -- what a type refers to is lower
    pub array_lower : (i x k : ℕ) → x ≡ (type_at T i).a → k ≡ (type_at T i).kind → k ≡ 5 → i < S.types → x < i
    array_lower i x k e ek h l = omega (arith, (formed.array i (within i l) (sym ek ∙ h)).lower)

    pub nullable_lower : (i x k : ℕ) → x ≡ (type_at T i).a → k ≡ (type_at T i).kind → k ≡ 7 → i < S.types → x < i
    nullable_lower i x k e ek h l = omega (arith, (formed.nullable i (within i l) (sym ek ∙ h)).lower)

    pub returns_lower : (i x : ℕ) → x ≡ (type_at T i).a → (type_at T i).kind ≡ 6 → i < S.types → x < i
    returns_lower i x e k l = omega (arith, (formed.function i (within i l) k).returns)

    -- parameters
    pub params_of : (i p count : ℕ) → p ≡ (type_at T i).b → count ≡ (type_at T i).c → (type_at T i).kind ≡ 6 → i < S.types → Params s S i p count
    params_of i p count ep ec k l =
        let f = formed.function i (within i l) k in
        record {
          listed = omega (arith, f.listed, list_long s S);
          lower = λ j h. rw ep (f.parameter j (omega arith)).lower;
          value = λ j h. rw ep (f.parameter j (omega arith)).value;
        }

    pub params_too : (i p m n : ℕ) → p ≡ (type_at T i).b → n ≡ (type_at T i).c → m ≡ n → (type_at T i).kind ≡ 6 → i < S.types → Params s S i p m
    params_too i p m n ep en e = params_of i p m ep (e ∙ en)

    -- a comparison is what `below` says, and it has fewer pairs than both types have parts: at most 399
    module _ (a b : ℕ) (la : a < S.types) (lb : b < S.types) (r : Compared) where
      parts-at : (i : ℕ) → i < S.types → parts_at T i ≡ parts_ty (type_of T i)
      parts-at i l = parts_written T formed i (within i l)

      pub answers : Matches r (compare_at T a b) → Says T a b r × ((r.pairs + 1 ≤ parts_at T a + parts_at T b) × (r.pairs < 400))
      answers m =
          let most : r.pairs + 1 ≤ parts_at T a + parts_at T b = omega (arith, m.pairs, below_most H (type_of T a) (type_of T b), parts-at a la, parts-at b lb) in
          ((m.holds ∙ compare_below H (type_of T a) (type_of T b), m.pairs), (most, omega (arith, formed.few a (within a la), formed.few b (within b lb))))

    -- equal types that are well-formed: all parts are compared
    pub itself_below : (index : List ℕ) (a b w : ℕ) (t : Bool) → t ≡ is_itself index a b → t ≡ true → Indexed index T S.types → a < S.types → b < S.types → w ≡ parts_entry index a → Matches (record { holds = true; pairs = w }) (compare_at T a b)
    unfolding is_itself
    itself_below index a b w t et e I la lb ew =
        let (same, is-formed) = and_parts (eqb (lowest_entry index a) (lowest_entry index b)) (formed_entry index a) (sym et ∙ e) in
        let equal : type_of T a ≡ type_of T b = same_sound (type_of T a) (type_of T b) (sym (entries_same I a b la lb) ∙ same) in
        let well : is_formed H (type_of T a) ≡ true = sym (I.formed a la) ∙ is-formed in
        record {
          holds = sym (compare_below H (type_of T a) (type_of T b) ∙ ap (below H (type_of T a)) (sym equal) ∙ (below_is H (type_of T a) (type_of T a)).1 (reflexive ((formed_is H (type_of T a)).0 well)));
          pairs = ew ∙ I.parts a la ∙ sym (ap (below_pairs H (type_of T a)) (sym equal) ∙ below_exact H (type_of T a) well);
        }

    -- the kinds of two types
    module _ (a b : ℕ) (la : a < S.types) (lb : b < S.types) where
      pub kinds_apart : (k o : ℕ) (r : Compared) → k ≡ (type_at T a).kind → o ≡ (type_at T b).kind → (k ≡ o → ⊥) → (o ≡ 7 → ⊥) → r ≡ record { holds = false; pairs = 1 } → Matches r (compare_at T a b)
      kinds_apart k o r ek eo d n er =
          one_pair r false er (compare_kinds H (type_of T a) (type_of T b)
          (λ e. d (ek ∙ sym (kind-at a la) ∙ e ∙ kind-at b lb ∙ sym eo))
          (λ e. n (eo ∙ sym (kind-at b lb) ∙ e)))

      module _ (k o : ℕ) (ek : k ≡ (type_at T a).kind) (eo : o ≡ (type_at T b).kind) (r : Compared) where
        no_reference : is_reference_kind k ≡ false → (k ≡ o → ⊥) → r ≡ record { holds = false; pairs = 1 } → Matches r (compare_at T a b)
        no_reference n d er =
            one_pair r false er (compare_not_ref H (type_of T a) (type_of T b)
            (λ e. d (ek ∙ sym (kind-at a la) ∙ e ∙ kind-at b lb ∙ sym eo))
            (ap is_reference_kind (kind-at a la ∙ sym ek) ∙ n))

        pub below_4 : k < 4 → (k ≡ 2 → ⊥) → (k ≡ o → ⊥) → r ≡ record { holds = false; pairs = 1 } → Matches r (compare_at T a b)
        below_4 l n = no_reference (not_low k l n)

        pub from_7 : 7 ≤ k → (k ≡ o → ⊥) → r ≡ record { holds = false; pairs = 1 } → Matches r (compare_at T a b)
        from_7 l = no_reference (not_high k l)

        -- a reference, and a nullable type
        module _ (e : o ≡ 7) (y : ℕ) (q : Compared) (ey : y ≡ (type_at T b).a) (eq : Says T a y q) (er : r ≡ record { holds = q.holds; pairs = 1 + q.pairs }) where
          reference : is_reference_kind k ≡ true → Matches r (compare_at T a b)
          reference n =
              let f = formed.nullable b (within b lb) (sym eo ∙ e) in
              let ly : (type_at T b).a < S.types = omega (arith, f.lower) in
              pair_on r q er (as_compared T a y q eq)
              (ap (compare H (type_of T a)) (type_nullable T b (sym eo ∙ e) f.lower)
              ∙ compare_nullable H (type_of T a) (type_of T (type_at T b).a)
              (ap is_reference_kind (kind-at a la ∙ sym ek) ∙ n)
              (λ z. plain (kind_at T (type_at T b).a) f.reference (sym (kind-at (type_at T b).a ly) ∙ z))
              ∙ ap (λ z. pair (compare_at T a z)) (sym ey))

          pub string_held : k ≡ 2 → Matches r (compare_at T a b)
          string_held h = reference (is_string k h)

          pub other_held : 4 ≤ k → k < 7 → Matches r (compare_at T a b)
          other_held l h = reference (is_other k l h)

      -- two types of one kind
      module _ (k : ℕ) (ka : k ≡ (type_at T a).kind) (kb : k ≡ (type_at T b).kind) (r : Compared) where
        pub base_below : (k ≡ 4 → ⊥) → (k ≡ 5 → ⊥) → (k ≡ 6 → ⊥) → (k ≡ 7 → ⊥) → r ≡ record { holds = true; pairs = 1 } → Matches r (compare_at T a b)
        base_below n4 n5 n6 n7 er =
            one_pair r true er (compare_base H (type_of T a) (type_of T b)
            (kind-at a la ∙ sym ka ∙ kb ∙ sym (kind-at b lb))
            (omega (arith, kind-at a la, kind_most s S good_tables a la)))

        pub struct_is : (t : Bool) → k ≡ 4 → t ≡ struct_below H (type_at T a).a (type_at T b).a → r ≡ record { holds = t; pairs = 1 } → Matches r (compare_at T a b)
        struct_is t e et er =
            one_pair r t er
            (ap₂ (compare H) (type_struct T a (sym ka ∙ e)) (type_struct T b (sym kb ∙ e))
            ∙ compare_struct H (type_at T a).a (type_at T b).a
            ∙ ap (λ x. pair (plainly x)) (sym et))

        pub function_is : k ≡ 6 → Matches r (compare_functions T a b) → Matches r (compare_at T a b)
        unfolding compare_functions compare_params
        function_is e m = rw decides m
          where
            params : ℕ → Tys
            params i = written_params (type_of T) T (type_at T i).b (type_at T i).c

            written : (i : ℕ) → i < S.types → k ≡ (type_at T i).kind → type_of T i ≡ function (params i) (type_of T (type_at T i).a)
            written i l ki =
                let f = formed.function i (within i l) (sym ki ∙ e) in
                type_function T i (sym ki ∙ e) f.returns (λ j h. (f.parameter j h).lower)

            decides : compare_at T a b ≡ compare_functions T a b
            decides =
                ap₂ (compare H) (written a la ka) (written b lb kb)
                ∙ compare_function H _ _ _ _
                ∙ rw (params_many (type_of T) T (type_at T a).b (type_at T a).c, params_many (type_of T) T (type_at T b).b (type_at T b).c)
                (ap pair (same_number (type_at T a).c (type_at T b).c (λ n. and_next (compare_all H true (written_params (type_of T) T (type_at T b).b n) (params a)) (compare_at T (type_at T a).a (type_at T b).a)) (plainly false)))

        module _ (x y : ℕ) (q : Compared) (ex : x ≡ (type_at T a).a) (ey : y ≡ (type_at T b).a) (er : r ≡ record { holds = q.holds; pairs = 1 + q.pairs }) where
          pub array_is : k ≡ 5 → Matches q (same_at T x y) → Matches r (compare_at T a b)
          array_is e m =
              let fa = (formed.array a (within a la) (sym ka ∙ e)).lower in
              let fb = (formed.array b (within b lb) (sym kb ∙ e)).lower in
              pair_on r q er m
              (ap₂ (compare H) (type_array T a (sym ka ∙ e) fa) (type_array T b (sym kb ∙ e) fb)
              ∙ compare_array H (type_of T (type_at T a).a) (type_of T (type_at T b).a)
              ∙ ap₂ (λ i j. pair (same_at T i j)) (sym ex) (sym ey))

          pub nullable_is : k ≡ 7 → Says T x y q → Matches r (compare_at T a b)
          nullable_is e eq =
              let fa = formed.nullable a (within a la) (sym ka ∙ e) in
              let fb = formed.nullable b (within b lb) (sym kb ∙ e) in
              let lx : (type_at T a).a < S.types = omega (arith, fa.lower) in
              let ly : (type_at T b).a < S.types = omega (arith, fb.lower) in
              pair_on r q er (as_compared T x y q eq)
              (ap₂ (compare H) (type_nullable T a (sym ka ∙ e) fa.lower) (type_nullable T b (sym kb ∙ e) fb.lower)
              ∙ compare_nullables H (type_of T (type_at T a).a) (type_of T (type_at T b).a)
              (ap is_reference_kind (kind-at (type_at T a).a lx) ∙ fa.reference)
              (λ z. plain (kind_at T (type_at T b).a) fb.reference (sym (kind-at (type_at T b).a ly) ∙ z))
              ∙ ap₂ (λ i j. pair (compare_at T i j)) (sym ex) (sym ey))

      -- two function types
      module _ (m n : ℕ) (em : m ≡ (type_at T a).c) (en : n ≡ (type_at T b).c) where
        pub counts_differ : (r : Compared) → (m ≡ n → ⊥) → r ≡ record { holds = false; pairs = 1 } → Matches r (compare_functions T a b)
        unfolding compare_functions
        counts_differ r d er = one_pair r false er (rw (ne_eqb (type_at T a).c (type_at T b).c (λ e. d (em ∙ e ∙ sym en))))

        module _ (same : m ≡ n) (p q : ℕ) (t : Compared) (ep : p ≡ (type_at T b).b) (eq : q ≡ (type_at T a).b) (et : Matches t (compare_params T p q m)) where
          of-one-number : compare_functions T a b ≡ pair (and_next (compare_params T p q m) (compare_at T (type_at T a).a (type_at T b).a))
          unfolding compare_functions
          of-one-number = rw (← ep, ← eq, ← em, ← en, ← same, eq-eqb m m refl)

          pub params_fail : (r : Compared) → r ≡ record { holds = t.holds; pairs = 1 + t.pairs } → not t.holds ≡ true → Matches r (compare_functions T a b)
          params_fail r er h = pair_on r t er (stops _ _ t et h) of-one-number

          pub returns_are : (x y : ℕ) (v r : Compared) → r ≡ record { holds = v.holds; pairs = 1 + t.pairs + v.pairs } → not t.holds ≡ false → x ≡ (type_at T a).a → y ≡ (type_at T b).a → Says T x y v → Matches r (compare_functions T a b)
          returns_are x y v r er h ex ey ev =
              pair_on r (record { holds = v.holds; pairs = t.pairs + v.pairs }) (er ∙ ap (λ k. record { holds = v.holds; pairs = k }) (omega arith)) (goes_on _ _ t et v _ refl h (as_compared T x y v ev))
              (of-one-number ∙ ap₂ (λ i j. pair (and_next (compare_params T p q m) (compare_at T i j))) (sym ex) (sym ey))

  -- a parameter
  module _ (i p count : ℕ) (params : Params s S i p count) (j : ℕ) (h : j < count) (x : ℕ) (ex : x ≡ entry_at T (p + j)) where
    pub param_lower : x < i
    param_lower = omega (arith, params.lower j h)

    param_value : GoodTables s S → i < S.types → kind_of (type_of T (entry_at T (p + j))) ≡ 3 → ⊥
    param_value R l z =
        params.value j h (sym (kind_is s S R (entry_at T (p + j)) (omega (arith, params.lower j h))) ∙ z)

    -- against the parameter at its place, after those passed
    module _ (good_tables : GoodTables s S) (l : i < S.types) (q y : ℕ) (ey : y ≡ entry_at T (q + j)) (r : Compared) (says : Says T x y r) (m : ℕ) (P : Passed T p q count j m) where
      decided : compare_params T p q count ≡ and_next (record { holds = true; pairs = m }) (and_next (compare_at T x y) (compare_params T (p + (j + 1)) (q + (j + 1)) (count - (j + 1))))
      decided =
          let shift : (n : ℕ) → n + j + 1 ≡ n + (j + 1) = λ n. omega arith in
          let fewer : count - j - 1 ≡ count - (j + 1) = omega arith in
          P.rest
          ∙ ap (and_next (record { holds = true; pairs = m })) (param_decides T (p + j) (q + j) (count - j) (λ z. omega arith) (param_value good_tables l)
          ∙ rw (sym ex, sym ey, shift p, shift q, fewer) refl)

      matches : Matches r (compare_at T x y)
      matches = as_compared T x y r says

      pub more_passed : (n : ℕ) → n ≡ m + r.pairs → not r.holds ≡ false → Passed T p q count (j + 1) n
      more_passed n en f = record { rest = decided ∙ next_holds _ _ m r.pairs n (sym matches.holds ∙ not-false r.holds f) (sym matches.pairs) en }

      pub param_fails : (n : ℕ) → n ≡ m + r.pairs → not r.holds ≡ true → Matches (record { holds = false; pairs = n }) (compare_params T p q count)
      param_fails n en f =
          let is = decided ∙ next_fails _ _ m r.pairs n (sym matches.holds ∙ not-true r.holds f) (sym matches.pairs) en in
          record { holds = sym (ap (λ c. c.holds) is); pairs = sym (ap (λ c. c.pairs) is) }
