-- The equality test of unequal types on type numbers, by kinds: of function types the parameters before the first that are unequal are
-- compared whole. Assumes nothing.
use mathlib.Core.Path.{◌≡◌, refl, ap, ap₂, sym, ◌∙◌}
use mathlib.Core.Bool.{Bool, true, false, not, ◌&&◌}
use mathlib.Core.List.{List}
use mathlib.Core.Logic.{◌⊎◌, inl, inr, ⊎_elim}
use Prim.Native.Nat.{ℕ, zero, suc, ◌+◌, ◌≤◌, ◌<◌}
use native.Mathlib.Nat.{not-suc-le-zero, add-zero}
use native.Mathlib.Omega.{arith}
use lib.ListN.{length}
use lib.Dec.{eqb, ltb}
use borrow.Author.Tests.{ltb-true, ltb-false, lt-ltb, le-ltb, eq-eqb, ne_eqb, not-true}
use Rattle.oat.specs.Basics.{pick}
use Rattle.oat.specs.Tables.{Tables, type_at, entry_at}
use Rattle.oat.specs.TypeRules.{kind_at}
use Rattle.oat.specs.Types.{Ty, function, Tys, and_ty, written_params, type_of}
use Rattle.oat.specs.Decide.{same_ty}
use Rattle.oat.specs.Pairs.{Compared, and_next, length_tys, compare_same, compare_sames, parts_ty, parts_tys}
use Rattle.oat.proofs.LawsBasics.{all_at}
use Rattle.oat.proofs.LawsWritten.{params_many}
use Rattle.oat.proofs.LawsSame.{sames_is, same_sound}
use Rattle.oat.proofs.LawsTypes.{types-formed}
use Rattle.oat.proofs.LawsWritten.{type_array, type_function, type_nullable}
use Rattle.oat.proofs.LawsPairs.{same_holds, same_most, whole, same_whole, sames_whole}
use Rattle.oat.proofs.LawsPartsWritten.{params-parts, parts_written}
use Rattle.oat.proofs.LawsCompare.{same_kinds, same_one}
use Rattle.file_sections.specs.declared.Sections.{Sections}
use Rattle.file_sections.specs.Layout.{tables_of, GoodTables}
use Rattle.file_sections.proofs.LawsRecords.{types_long, list_long}
use Rattle.type_index.specs.Index.{lowest_entry, parts_entry, same_params, params_parts, Indexed, Listed}
use Rattle.type_index.proofs.LawsIndex.{entries_same}
use Rattle.type_index.proofs.LawsSameTypes.{kind_is, kind_most, array_kept, function_kept, nullable_kept, holder_lower, params_listed}
use Rattle.subtyping.specs.Numbered.{same_at, operand_at, Differ, Matches}

-- a comparison that fails after n pairs
abbrev stopped : ℕ → Compared
stopped n = record { holds = false; pairs = n }

first_stops : (h : Bool) (n : ℕ) (d : Compared) → h ≡ false → record { holds = h && d.holds; pairs = n + pick h d.pairs 0 } ≡ stopped (0 + n)
first_stops h n d e = rw e (ap stopped (omega arith))

-- parameters, equal up to the first that are not
module _ (T : Tables) where
  abbrev params : ℕ → ℕ → Tys
  params p count = written_params (type_of T) T p count

  moved : (p k : ℕ) → p + suc k ≡ suc p + k
  moved p k = omega arith

  stops_at : (j count p q x y : ℕ) → j < count → ((k : ℕ) → k < j → type_of T (entry_at T (p + k)) ≡ type_of T (entry_at T (q + k))) → x ≡ entry_at T (p + j) → y ≡ entry_at T (q + j) → same_ty (type_of T x) (type_of T y) ≡ false → compare_sames (params p count) (params q count) ≡ stopped (parts_tys (params p j) + (compare_same (type_of T x) (type_of T y)).pairs)
  unfolding compare_same parts_ty written_params
  stops_at j zero p q x y l e ex ey d = absurd (not-suc-le-zero l)
  stops_at zero (suc count) p q x y l e ex ey d =
      rw (← add-zero p, ← add-zero q, ← ex, ← ey) (first_stops _ _ _ (same_holds (type_of T x) (type_of T y) ∙ d))
  stops_at (suc j) (suc count) p q x y l e ex ey d =
      ap₂ and_next
      (first (entry_at T p) (entry_at T q) (rw (add-zero p, add-zero q) at (e 0 (omega arith))))
      (stops_at j count (suc p) (suc q) x y (omega arith) (λ k h. rw (moved p k, moved q k) at (e (suc k) (omega arith))) (ex ∙ ap (entry_at T) (moved p j)) (ey ∙ ap (entry_at T) (moved q j)) d)
      ∙ ap stopped (omega arith)
    where
      first : (u v : ℕ) → type_of T u ≡ type_of T v → compare_same (type_of T u) (type_of T v) ≡ whole (parts_ty (type_of T u))
      first u v e = rw (← e) (same_whole (type_of T u))

  all_equal : (count p q : ℕ) → ((k : ℕ) → k < count → type_of T (entry_at T (p + k)) ≡ type_of T (entry_at T (q + k))) → params p count ≡ params q count
  unfolding written_params
  all_equal zero p q e = refl
  all_equal (suc count) p q e =
      ap₂ and_ty (rw (add-zero p, add-zero q) at (e 0 (omega arith))) (all_equal count (suc p) (suc q) (λ k h. rw (moved p k, moved q k) at (e (suc k) (omega arith))))

-- two function types of one number of parameters
module _ (ts us : Tys) (t u : Ty) (long : length_tys ts ≡ length_tys us) where
  function_is : (compare_same (function ts t) (function us u)).pairs ≡ 1 + (and_next (compare_sames ts us) (compare_same t u)).pairs
  unfolding compare_same
  function_is = rw (eq-eqb (length_tys ts) (length_tys us) long)

  function_stops : (n : ℕ) → compare_sames ts us ≡ stopped n → (compare_same (function ts t) (function us u)).pairs ≡ 1 + n
  function_stops n e = function_is ∙ ap (λ c. 1 + (and_next c (compare_same t u)).pairs) e ∙ omega arith

  function_goes : ts ≡ us → (compare_same (function ts t) (function us u)).pairs ≡ 1 + parts_tys ts + (compare_same t u).pairs
  function_goes e = function_is ∙ ap (λ c. 1 + (and_next c (compare_same t u)).pairs) (ap (compare_sames ts) (sym e) ∙ sames_whole ts) ∙ omega arith

-- the loop over parameters
module _ (index : List ℕ) (T : Tables) (p q count : ℕ) where
  pub differ_here : (j x y : ℕ) (t : Bool) → j < count → same_params index T p q j ≡ true → x ≡ entry_at T (p + j) → y ≡ entry_at T (q + j) → t ≡ eqb (lowest_entry index x) (lowest_entry index y) → not t ≡ true → Differ index T p q count j
  differ_here j x y t l before ex ey et n = record { most = omega arith; before = before; apart = λ h. sym (sym (not-true t n) ∙ et ∙ rw (ex, ey)) }

  pub differ_nowhere : (j : ℕ) → j ≤ count → count ≤ j → same_params index T p q j ≡ true → Differ index T p q count j
  differ_nowhere j h k before = record { most = h; before = before; apart = λ l. absurd (omega arith) }

module _ (s : List ℕ) (S : Sections) where
  abbrev T : Tables
  T = tables_of s S

  -- the parameter j of a function type, or its return type
  module _ (i j : ℕ) where
    pub parameter_at : (n p x : ℕ) → n ≡ (type_at T i).c → p ≡ (type_at T i).b → j < n → x ≡ entry_at T (p + j) → x ≡ operand_at T i j
    unfolding operand_at
    parameter_at n p x en ep l ex = rw (lt-ltb j (type_at T i).c (omega arith)) (ex ∙ ap (λ m. entry_at T (m + j)) ep)

    pub returns_at : (n x : ℕ) → n ≡ (type_at T i).c → n ≤ j → x ≡ (type_at T i).a → x ≡ operand_at T i j
    unfolding operand_at
    returns_at n x en l ex = rw (le-ltb j (type_at T i).c (omega arith)) ex

    pub operand_lower : (x : ℕ) → GoodTables s S → i < S.types → kind_at T i ≡ 6 → x ≡ operand_at T i j → x < i
    unfolding operand_at
    operand_lower x R h k ex = go (ltb j (type_at T i).c) refl ex
      where
        go : (b : Bool) → ltb j (type_at T i).c ≡ b → x ≡ pick b (entry_at T ((type_at T i).b + j)) (type_at T i).a → x < i
        go true e is = omega (arith, ((function_kept s S R i h k).parameter j (ltb-true j _ e)).lower)
        go false e is = omega (arith, (function_kept s S R i h k).returns)

    pub parameter_listed : (n p : ℕ) → GoodTables s S → i < S.types → kind_at T i ≡ 6 → n ≡ (type_at T i).c → p ≡ (type_at T i).b → j < n → p + j < S.list
    parameter_listed n p R h k en ep l = omega (arith, (function_kept s S R i h k).listed, list_long s S)

  -- the parameters of a type that has as many as another
  pub listed_too : (i p m n : ℕ) → p ≡ (type_at T i).b → n ≡ (type_at T i).c → m ≡ n → GoodTables s S → i < S.types → kind_at T i ≡ 6 → Listed s S p m
  listed_too i p m n ep en e = params_listed s S i p m ep (e ∙ en)

  -- the first of some parameters
  pub listed_fewer : (index : List ℕ) (p q count j : ℕ) → Listed s S p count → Differ index T p q count j → Listed s S p j
  listed_fewer index p q count j L D = record {
    laid = L.laid;
    room = omega (arith, L.room, D.most);
    below = λ k l. L.below k (omega (arith, D.most));
  }

  module _ (R : GoodTables s S) where
    -- at most 399 pairs: no type has more than 200 parts
    parts_few : (i : ℕ) → i < S.types → parts_ty (type_of T i) ≤ 200
    parts_few i h =
        let formed = types-formed 200 T R.types in
        let there : i < length T.types = rw (types_long s S) h in
        omega (arith, formed.few i there, parts_written T formed i there)

    pub entry_few : (index : List ℕ) (i w : ℕ) → Indexed index T S.types → i < S.types → w ≡ parts_entry index i → w < 400
    entry_few index i w I l e = omega (arith, I.parts i l, parts_few i l)

    -- what an array or nullable type holds is lower
    pub held_lower : (i k x : ℕ) → i < S.types → k ≡ kind_at T i → (k ≡ 5) ⊎ (k ≡ 7) → x ≡ (type_at T i).a → x < i
    held_lower i k x l ek d ex = holder_lower s S i x R l ex k (sym ek) d

    pub held_too : (i k o x : ℕ) → i < S.types → o ≡ kind_at T i → k ≡ o → (k ≡ 5) ⊎ (k ≡ 7) → x ≡ (type_at T i).a → x < i
    held_too i k o x l eo e d ex = held_lower i k x l (e ∙ eo) d ex

    module _ (a b : ℕ) (la : a < S.types) (lb : b < S.types) where
      pub same_few : (n : ℕ) → n ≡ (same_at T a b).pairs → n < 400
      same_few n e = omega (arith, same_most (type_of T a) (type_of T b), parts_few a la, parts_few b lb)

      module _ (k o : ℕ) (ek : k ≡ kind_at T a) (eo : o ≡ kind_at T b) where
        pub kinds_unequal : (k ≡ o → ⊥) → 1 ≡ (same_at T a b).pairs
        kinds_unequal d = sym (ap (λ c. c.pairs) (same_kinds (type_of T a) (type_of T b) (λ e. d (ek ∙ sym (kind_is s S R a la) ∙ e ∙ kind_is s S R b lb ∙ sym eo))))

        pub base_unequal : ((k ≡ 5) ⊎ (k ≡ 7) → ⊥) → (k ≡ 6 → ⊥) → 1 ≡ (same_at T a b).pairs
        base_unequal n m =
            let five : k ≡ 5 → ⊥ = λ e. n (inl e) in
            let seven : k ≡ 7 → ⊥ = λ e. n (inr e) in
            sym (same_one (type_of T a) (type_of T b) (omega (arith, kind_is s S R a la, kind_most s S R a la)))

        -- what array and nullable types hold
        module _ (e : k ≡ o) (d : (k ≡ 5) ⊎ (k ≡ 7)) (x y : ℕ) (ex : x ≡ (type_at T a).a) (ey : y ≡ (type_at T b).a) where
          held : (same_ty (type_of T a) (type_of T b) ≡ same_ty (type_of T x) (type_of T y)) × ((same_at T a b).pairs ≡ 1 + (same_at T x y).pairs)
          unfolding same_ty compare_same
          held = ⊎_elim of_array of_nullable d
            where
              of_array : k ≡ 5 → (same_ty (type_of T a) (type_of T b) ≡ same_ty (type_of T x) (type_of T y)) × ((same_at T a b).pairs ≡ 1 + (same_at T x y).pairs)
              of_array f =
                  let p = (array_kept s S R a la (omega arith)).lower in
                  let q = (array_kept s S R b lb (omega arith)).lower in
                  rw (type_array T a (omega arith) p, type_array T b (omega arith) q, ex, ey) (refl, refl)

              of_nullable : k ≡ 7 → (same_ty (type_of T a) (type_of T b) ≡ same_ty (type_of T x) (type_of T y)) × ((same_at T a b).pairs ≡ 1 + (same_at T x y).pairs)
              of_nullable f =
                  let p = (nullable_kept s S R a la (omega arith)).lower in
                  let q = (nullable_kept s S R b lb (omega arith)).lower in
                  rw (type_nullable T a (omega arith) p, type_nullable T b (omega arith) q, ex, ey) (refl, refl)

          pub held_unequal : same_ty (type_of T a) (type_of T b) ≡ false → same_ty (type_of T x) (type_of T y) ≡ false
          held_unequal n = sym held.0 ∙ n

          pub held_pairs : (n : ℕ) → n ≡ (same_at T x y).pairs → 1 + n ≡ (same_at T a b).pairs
          held_pairs n en = ap (λ m. 1 + m) en ∙ sym held.1

      -- two function types
      module _ (ka : kind_at T a ≡ 6) (kb : kind_at T b ≡ 6) where
        written_function : (i : ℕ) → i < S.types → kind_at T i ≡ 6 → type_of T i ≡ function (params T (type_at T i).b (type_at T i).c) (type_of T (type_at T i).a)
        written_function i l k =
            let F = function_kept s S R i l k in
            type_function T i k F.returns (λ j h. (F.parameter j h).lower)

        pub numbers_differ : (m n : ℕ) → m ≡ (type_at T a).c → n ≡ (type_at T b).c → (m ≡ n → ⊥) → 1 ≡ (same_at T a b).pairs
        unfolding compare_same
        numbers_differ m n em en d =
            rw (written_function a la ka, written_function b lb kb, params_many (type_of T) T (type_at T a).b (type_at T a).c, params_many (type_of T) T (type_at T b).b (type_at T b).c, ne_eqb (type_at T a).c (type_at T b).c (λ e. d (em ∙ e ∙ sym en)))

        -- with as many parameters, of which the first j are equal
        module _ (index : List ℕ) (I : Indexed index T S.types) (m n p q j x y : ℕ) (em : m ≡ (type_at T a).c) (en : n ≡ (type_at T b).c) (same : m ≡ n) (ep : p ≡ (type_at T a).b) (eq : q ≡ (type_at T b).b) (D : Differ index T p q m j) (ex : x ≡ operand_at T a j) (ey : y ≡ operand_at T b j) where
          first-equal : (k : ℕ) → k < j → type_of T (entry_at T (p + k)) ≡ type_of T (entry_at T (q + k))
          unfolding same_params
          first-equal k l =
              let u = rw (← ep) at ((function_kept s S R a la ka).parameter k (omega (arith, D.most))).lower in
              let v = rw (← eq) at ((function_kept s S R b lb kb).parameter k (omega (arith, D.most))).lower in
              same_sound _ _ (sym (entries_same I _ _ (omega arith) (omega arith)) ∙ all_at j _ D.before k l)

          types_are : (P : Ty → Ty → Type 0) → P (function (params T p m) (type_of T (type_at T a).a)) (function (params T q m) (type_of T (type_at T b).a)) → P (type_of T a) (type_of T b)
          types_are P f = rw (written_function a la ka, written_function b lb kb, ← ep, ← eq, ← em, ← en, ← same) f

          long : length_tys (params T p m) ≡ length_tys (params T q m)
          long = params_many (type_of T) T p m ∙ sym (params_many (type_of T) T q m)

          -- a parameter is next, or the return type
          parameter_next : j < m → (x ≡ entry_at T (p + j)) × (y ≡ entry_at T (q + j))
          unfolding operand_at
          parameter_next l = (ex ∙ rw (lt-ltb j (type_at T a).c (omega arith), ep), ey ∙ rw (lt-ltb j (type_at T b).c (omega arith), eq))

          returns_next : m ≤ j → (x ≡ (type_at T a).a) × (y ≡ (type_at T b).a)
          unfolding operand_at
          returns_next l = (ex ∙ rw (le-ltb j (type_at T a).c (omega arith)), ey ∙ rw (le-ltb j (type_at T b).c (omega arith)))

          params_equal : m ≤ j → params T p m ≡ params T q m
          params_equal l = all_equal T m p q (λ k h. first-equal k (omega arith))

          pub operands_unequal : same_ty (type_of T a) (type_of T b) ≡ false → same_ty (type_of T x) (type_of T y) ≡ false
          unfolding same_ty
          operands_unequal d = go (ltb j m) refl
            where
              go : (c : Bool) → ltb j m ≡ c → same_ty (type_of T x) (type_of T y) ≡ false
              go true e =
                  let l = ltb-true j m e in
                  let (ix, iy) = parameter_next l in
                  let u = operand_lower a j x R la ka ex in
                  let v = operand_lower b j y R lb kb ey in
                  sym (entries_same I x y (omega arith) (omega arith)) ∙ rw (ix, iy) (D.apart l)
              go false e =
                  let l = ltb-false j m e in
                  let (ix, iy) = returns_next l in
                  types_are (λ t u. same_ty t u ≡ false → same_ty (type_of T x) (type_of T y) ≡ false) (λ n. rw (ix, iy) (rw ((sames_is (params T p m) (params T q m)).1 (params_equal l)) at n)) d

          pub functions_pairs : (sum w : ℕ) → same_ty (type_of T a) (type_of T b) ≡ false → sum ≡ params_parts index T p j → w ≡ (same_at T x y).pairs → 1 + sum + w ≡ (same_at T a b).pairs
          unfolding params_parts
          functions_pairs sum w d es ew = types_are (λ t u. 1 + sum + w ≡ (compare_same t u).pairs) (go (ltb j m) refl)
            where
              parts : sum ≡ parts_tys (params T p j)
              parts =
                  es
                  ∙ params-parts (type_of T) T _ p j (λ k l. let u = rw (← ep) at ((function_kept s S R a la ka).parameter k (omega (arith, D.most))).lower in I.parts _ (omega arith))

              go : (c : Bool) → ltb j m ≡ c → 1 + sum + w ≡ (compare_same (function (params T p m) (type_of T (type_at T a).a)) (function (params T q m) (type_of T (type_at T b).a))).pairs
              go true e =
                  let l = ltb-true j m e in
                  let (ix, iy) = parameter_next l in
                  omega (arith, parts, ew, function_stops _ _ (type_of T (type_at T a).a) (type_of T (type_at T b).a) long _ (stops_at T j m p q x y l first-equal ix iy (operands_unequal d)))
              go false e =
                  let l = ltb-false j m e in
                  let (ix, iy) = returns_next l in
                  let end : j ≡ m = omega (arith, D.most) in
                  omega (arith, rw end at parts, rw (ix, iy) at ew, function_goes _ _ (type_of T (type_at T a).a) (type_of T (type_at T b).a) long (params_equal l))

-- equal types are those whose lowest numbers are equal
module _ (index : List ℕ) (T : Tables) (n a b : ℕ) (I : Indexed index T n) (la : a < n) (lb : b < n) (t : Bool) (et : t ≡ eqb (lowest_entry index a) (lowest_entry index b)) where
  pub apart_entries : t ≡ false → same_ty (type_of T a) (type_of T b) ≡ false
  apart_entries e = sym (entries_same I a b la lb) ∙ sym et ∙ e

  pub equal_whole : (w : ℕ) → t ≡ true → w ≡ parts_entry index a → Matches (record { holds = true; pairs = w }) (same_at T a b)
  equal_whole w e ew =
      let equal : type_of T a ≡ type_of T b = same_sound _ _ (sym (entries_same I a b la lb) ∙ sym et ∙ e) in
      let is : same_at T a b ≡ whole (parts_ty (type_of T a)) = ap (compare_same (type_of T a)) (sym equal) ∙ same_whole (type_of T a) in
      record { holds = sym (ap (λ c. c.holds) is); pairs = ew ∙ I.parts a la ∙ sym (ap (λ c. c.pairs) is) }

  pub unequal_stops : (w : ℕ) → t ≡ false → w ≡ (same_at T a b).pairs → Matches (record { holds = false; pairs = w }) (same_at T a b)
  unequal_stops w e ew = record { holds = sym (same_holds (type_of T a) (type_of T b) ∙ apart_entries e); pairs = ew }
