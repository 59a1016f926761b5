-- Laws of equal types: two types of a file are equal as written out where their kinds are equal and what they refer to is, which the
-- index has. Assumes nothing.
use mathlib.Core.Path.{◌≡◌, refl, ap, ap₂, sym, ◌∙◌}
use mathlib.Core.Bool.{Bool, true, false, not, ◌&&◌, and_assoc}
use mathlib.Core.List.{List}
use mathlib.Core.Logic.{◌⊎◌, inl, inr, ⊎_elim}
use Prim.Native.Nat.{ℕ, zero, suc, ◌+◌, ◌≤◌, ◌<◌}
use native.Mathlib.Nat.{add-zero}
use native.Mathlib.Omega.{arith}
use lib.ListN.{length}
use lib.Dec.{eqb, ltb}
use Rattle.std.specs.List.{list_all, range_with_len}
use borrow.Author.Tests.{ltb-true, ltb-false}
use Rattle.oat.specs.Basics.{pick, all_below}
use Rattle.oat.specs.Tables.{Tables, type_at, entry_at}
use Rattle.oat.specs.TypeRules.{kind_at}
use Rattle.oat.specs.Types.{Ty, int, bool, string, void, struct, array, function, nullable, Tys, written_params, written, type_of}
use Rattle.oat.specs.Decide.{kind_of, same_ty, same_tys}
use Rattle.oat.proofs.LawsBasics.{and_left, and_right}
use Rattle.oat.proofs.LawsSame.{same_sound}
use Rattle.oat.proofs.LawsTypes.{LowerValue, FunctionType, NullableType, TypesFormed, types-formed}
use Rattle.oat.proofs.LawsWritten.{type_struct, type_array, type_function, type_nullable}
use Rattle.file_sections.specs.declared.Sections.{Sections}
use Rattle.file_sections.specs.Layout.{tables_of, GoodTables}
use Rattle.file_sections.proofs.LawsRecords.{types_long, list_long}
use Rattle.type_index.specs.Index.{lowest_entry, same_params, Entered, Indexed, Listed, Operand, Parameters}
use Rattle.type_index.proofs.LawsIndex.{loop_goes, none_tested, entries_same}

-- all from the first on, and tests that agree
pub all_front : (n : ℕ) (p : ℕ → Bool) → all_below (suc n) p ≡ (p 0 && all_below n (λ j. p (suc j)))
unfolding all_below
all_front zero p = go (p 0)
  where
    go : (b : Bool) → (true && b) ≡ (b && true)
    go true = refl
    go false = refl
all_front (suc n) p = ap (λ b. b && p (suc n)) (all_front n p) ∙ and_assoc (p 0) (all_below n (λ j. p (suc j))) (p (suc n))

pub all_same : (n : ℕ) (p q : ℕ → Bool) → ((j : ℕ) → j < n → p j ≡ q j) → all_below n p ≡ all_below n q
unfolding all_below
all_same zero p q h = refl
all_same (suc n) p q h = ap₂ (λ a b. a && b) (all_same n p q (λ j l. h j (omega arith))) (h n (omega arith))

-- all, as a list of the numbers from a on has it
pub all_listed : (p : ℕ → Bool) (n a : ℕ) → list_all p (range_with_len a n) ≡ all_below n (λ j. p (a + j))
all_listed p zero a = sym (none_tested _)
all_listed p (suc n) a =
    ap₂ (λ x y. p x && y) (sym (add-zero a)) (all_listed p n (a + 1) ∙ all_same n _ _ (λ j l. ap p (omega arith)))
    ∙ sym (all_front n (λ j. p (a + j)))

-- parameters one by one
sames_written : (T : Tables) (count p q : ℕ) → same_tys (written_params (type_of T) T p count) (written_params (type_of T) T q count) ≡ all_below count (λ j. same_ty (type_of T (entry_at T (p + j))) (type_of T (entry_at T (q + j))))
unfolding same_ty written_params
sames_written T zero p q = sym (none_tested _)
sames_written T (suc count) p q =
    ap₂ (λ a b. a && b) (here (p + 0) (q + 0) (add-zero p) (add-zero q)) (sames_written T count (suc p) (suc q) ∙ all_same count _ _ (λ j l. shift j))
    ∙ sym (all_front count (λ j. same_ty (type_of T (entry_at T (p + j))) (type_of T (entry_at T (q + j)))))
  where
    here : (x y : ℕ) → x ≡ p → y ≡ q → same_ty (type_of T (entry_at T p)) (type_of T (entry_at T q)) ≡ same_ty (type_of T (entry_at T x)) (type_of T (entry_at T y))
    here x y e f = rw (e, f)

    moved : (x j : ℕ) → suc x + j ≡ x + suc j
    moved x j = omega arith

    shift : (j : ℕ) → same_ty (type_of T (entry_at T (suc p + j))) (type_of T (entry_at T (suc q + j))) ≡ same_ty (type_of T (entry_at T (p + suc j))) (type_of T (entry_at T (q + suc j)))
    shift j = rw (moved p j, moved q j)

counts_differ : (T : Tables) (m n p q : ℕ) → (m ≡ n → ⊥) → same_tys (written_params (type_of T) T p m) (written_params (type_of T) T q n) ≡ false
unfolding same_ty written_params
counts_differ T zero zero p q h = absurd (h refl)
counts_differ T zero (suc n) p q h = refl
counts_differ T (suc m) zero p q h = refl
counts_differ T (suc m) (suc n) p q h = and_right (same_ty (type_of T (entry_at T p)) (type_of T (entry_at T q))) _ (counts_differ T m n (suc p) (suc q) (λ e. h (ap suc e)))

-- the kind of a type, written out
kind_picked : (k x : ℕ) (t : Ty) (ts : Tys) → k ≤ 7 → kind_of (pick (eqb k 0) int (pick (eqb k 1) bool (pick (eqb k 2) string (pick (eqb k 4) (struct x) (pick (eqb k 5) (array t) (pick (eqb k 6) (function ts t) (pick (eqb k 7) (nullable t) void))))))) ≡ k
kind_picked zero x t ts h = refl
kind_picked (suc zero) x t ts h = refl
kind_picked (suc (suc zero)) x t ts h = refl
kind_picked (suc (suc (suc zero))) x t ts h = refl
kind_picked (suc (suc (suc (suc zero)))) x t ts h = refl
kind_picked (suc (suc (suc (suc (suc zero))))) x t ts h = refl
kind_picked (suc (suc (suc (suc (suc (suc zero)))))) x t ts h = refl
kind_picked (suc (suc (suc (suc (suc (suc (suc zero))))))) x t ts h = refl
kind_picked (suc (suc (suc (suc (suc (suc (suc (suc k)))))))) x t ts h = absurd (omega arith)

-- a type of a kind below 4
pub on_base : (P : Ty → Type 0) → P int → P bool → P string → P void → (t : Ty) → kind_of t < 4 → P t
on_base P i b s v int h = i
on_base P i b s v bool h = b
on_base P i b s v string h = s
on_base P i b s v void h = v
on_base P i b s v (struct x) h = absurd (omega arith)
on_base P i b s v (array t) h = absurd (omega arith)
on_base P i b s v (function ts t) h = absurd (omega arith)
on_base P i b s v (nullable t) h = absurd (omega arith)

-- what the rules say of the type i
module _ (s : List ℕ) (S : Sections) (R : GoodTables s S) where
  kept : TypesFormed 200 (tables_of s S)
  kept = types-formed 200 (tables_of s S) R.types

  -- a base type's number is its kind
  pub base_own : (i : ℕ) → i < 4 → kind_at (tables_of s S) i ≡ i
  base_own = kept.base

  module _ (i : ℕ) (h : i < S.types) where
    there : i < length (tables_of s S).types
    there = rw (types_long s S) h

    pub array_kept : kind_at (tables_of s S) i ≡ 5 → LowerValue (tables_of s S) i (type_at (tables_of s S) i).a
    array_kept = kept.array i there

    pub function_kept : kind_at (tables_of s S) i ≡ 6 → FunctionType (tables_of s S) i
    function_kept = kept.function i there

    pub nullable_kept : kind_at (tables_of s S) i ≡ 7 → NullableType (tables_of s S) i
    nullable_kept = kept.nullable i there

    pub kind_most : kind_at (tables_of s S) i ≤ 7
    kind_most = go (ltb i 4) refl
      where
        go : (b : Bool) → ltb i 4 ≡ b → kind_at (tables_of s S) i ≤ 7
        go true e = omega (arith, kept.base i (ltb-true i 4 e), ltb-true i 4 e)
        go false e = (kept.later i (ltb-false i 4 e) there).1

    pub kind_is : kind_of (type_of (tables_of s S) i) ≡ kind_at (tables_of s S) i
    unfolding type_of written
    kind_is = kind_picked (kind_at (tables_of s S) i) _ _ _ kind_most

    -- a type of no other kind is a base type
    pub base_kept : (k : ℕ) → k ≡ kind_at (tables_of s S) i → (k ≡ 4 → ⊥) → ((k ≡ 5) ⊎ (k ≡ 7) → ⊥) → (k ≡ 6 → ⊥) → i < 4
    base_kept k ek n o m = go (ltb i 4) refl
      where
        go : (b : Bool) → ltb i 4 ≡ b → i < 4
        go true e = ltb-true i 4 e
        go false e =
            let (least, most) = kept.later i (ltb-false i 4 e) there in
            let not_five : k ≡ 5 → ⊥ = λ x. o (inl x) in
            let not_seven : k ≡ 7 → ⊥ = λ x. o (inr x) in
            absurd (omega arith)

-- the kind of a type, as read
pub kind_read : (s : List ℕ) (S : Sections) (i j k : ℕ) → j ≡ kind_at (tables_of s S) i → j ≡ k → kind_at (tables_of s S) i ≡ k
kind_read s S i j k ej e = sym ej ∙ e

-- the kind of an array or nullable type
pub holder_most : {k : ℕ} → (k ≡ 5) ⊎ (k ≡ 7) → k ≤ 7
holder_most d = ⊎_elim (λ e. omega arith) (λ e. omega arith) d

-- two types by their kinds
different : (t u : Ty) → (kind_of t ≡ kind_of u → ⊥) → same_ty t u ≡ false
different t u h = go (same_ty t u) refl
  where
    go : (b : Bool) → same_ty t u ≡ b → b ≡ false
    go true e = absurd (h (ap kind_of (same_sound t u e)))
    go false e = refl

module _ (s : List ℕ) (S : Sections) (a b j k : ℕ) (R : GoodTables s S) (l : a < b) (h : b < S.types) (ej : j ≡ kind_at (tables_of s S) a) (ek : kind_at (tables_of s S) b ≡ k) where
  pub kinds_differ : (j ≡ k → ⊥) → false ≡ same_ty (type_of (tables_of s S) a) (type_of (tables_of s S) b)
  kinds_differ n =
      sym (different _ _ (λ e. n (omega (arith, e, kind_is s S R a (omega arith), kind_is s S R b h))))

  pub same_struct : (x y : ℕ) → j ≡ k → k ≡ 4 → x ≡ (type_at (tables_of s S) a).a → y ≡ (type_at (tables_of s S) b).a → eqb x y ≡ same_ty (type_of (tables_of s S) a) (type_of (tables_of s S) b)
  unfolding same_ty
  same_struct x y e f ex ey =
      rw (type_struct (tables_of s S) a (omega arith), type_struct (tables_of s S) b (omega arith)) (ap₂ eqb ex ey)

  pub same_holder : (index : List ℕ) (r : Bool) → Indexed index (tables_of s S) b → j ≡ k → (k ≡ 5) ⊎ (k ≡ 7) → r ≡ eqb (lowest_entry index (type_at (tables_of s S) a).a) (lowest_entry index (type_at (tables_of s S) b).a) → r ≡ same_ty (type_of (tables_of s S) a) (type_of (tables_of s S) b)
  unfolding same_ty
  same_holder index r I e d er = ⊎_elim of_array of_nullable d
    where
      of_array : k ≡ 5 → r ≡ same_ty (type_of (tables_of s S) a) (type_of (tables_of s S) b)
      of_array f =
          let p = (array_kept s S R a (omega arith) (omega arith)).lower in
          let q = (array_kept s S R b h (omega arith)).lower in
          rw (type_array (tables_of s S) a (omega arith) p, type_array (tables_of s S) b (omega arith) q) (er ∙ entries_same I _ _ (omega arith) q)

      of_nullable : k ≡ 7 → r ≡ same_ty (type_of (tables_of s S) a) (type_of (tables_of s S) b)
      of_nullable f =
          let p = (nullable_kept s S R a (omega arith) (omega arith)).lower in
          let q = (nullable_kept s S R b h (omega arith)).lower in
          rw (type_nullable (tables_of s S) a (omega arith) p, type_nullable (tables_of s S) b (omega arith) q) (er ∙ entries_same I _ _ (omega arith) q)

-- the walk over parameters
module _ (index : List ℕ) (T : Tables) (p q : ℕ) where
  -- two parameters are equal, as the index has it
  abbrev pub same_param : ℕ → Bool
  same_param j = eqb (lowest_entry index (entry_at T (p + j))) (lowest_entry index (entry_at T (q + j)))

  pub params_walked : (count : ℕ) (u : Bool) → u ≡ list_all same_param (range_with_len 0 count) → u ≡ same_params index T p q count
  unfolding same_params
  params_walked count u e = e ∙ all_listed same_param count 0 ∙ all_same count _ _ (λ j l. ap same_param (omega arith))

-- a loop over parameters, that of the first two that are unequal
module _ (index : List ℕ) (T : Tables) (p q : ℕ) where
  pub no_params : same_params index T p q 0 ≡ true
  unfolding same_params
  no_params = none_tested _

  pub params_more : (j x y : ℕ) (t : Bool) → x ≡ entry_at T (p + j) → y ≡ entry_at T (q + j) → t ≡ eqb (lowest_entry index x) (lowest_entry index y) → same_params index T p q j ≡ true → not t ≡ false → same_params index T p q (j + 1) ≡ true
  unfolding same_params
  params_more j x y t ex ey et a f = loop_goes 0 _ j t a f (et ∙ rw (ex, ey))

-- the index has places for the entries of a parameter
pub in_list : (s : List ℕ) (S : Sections) (index : List ℕ) (first count j x : ℕ) → Listed s S first count → j < count → x ≡ entry_at (tables_of s S) (first + j) → 2624 ≤ length index → Entered index x
in_list s S index first count j x L h e l = record { low = omega (arith, L.below j h); long = l }

-- parameters are equal where their entries in the index are
params_same : (index : List ℕ) (T : Tables) (i p q count : ℕ) → Indexed index T i → ((j : ℕ) → j < count → entry_at T (p + j) < i) → ((j : ℕ) → j < count → entry_at T (q + j) < i) → same_params index T p q count ≡ same_tys (written_params (type_of T) T p count) (written_params (type_of T) T q count)
unfolding same_params
params_same index T i p q count I f g = all_same count _ _ (λ j h. entries_same I _ _ (f j h) (g j h)) ∙ sym (sames_written T count p q)

-- what a type refers to is lower
module _ (s : List ℕ) (S : Sections) (i a : ℕ) (R : GoodTables s S) (h : i < S.types) (ea : a ≡ (type_at (tables_of s S) i).a) where
  pub holder_lower : (k : ℕ) → kind_at (tables_of s S) i ≡ k → (k ≡ 5) ⊎ (k ≡ 7) → a < i
  holder_lower k ek d =
      ⊎_elim (λ e. omega (arith, (array_kept s S R i h (omega arith)).lower)) (λ e. omega (arith, (nullable_kept s S R i h (omega arith)).lower)) d

  pub returns_lower : kind_at (tables_of s S) i ≡ 6 → a < i
  returns_lower k = omega (arith, (function_kept s S R i h k).returns)

-- a lower type than one of the file is of the file
pub lower_there : (a b n : ℕ) → b < n → a < b → a < n
lower_there a b n h l = omega arith

-- the parameters of a function type stand in the type list
module _ (s : List ℕ) (S : Sections) (i count : ℕ) (R : GoodTables s S) (h : i < S.types) (k : kind_at (tables_of s S) i ≡ 6) where
  pub parameters_in : count ≡ (type_at (tables_of s S) i).c → Parameters s S i count
  parameters_in ec =
      let F = function_kept s S R i h k in
      record {
        there = h;
        listed = record {
          laid = R.laid;
          room = omega (arith, F.listed, list_long s S);
          below = λ j l. omega (arith, (F.parameter j (omega arith)).lower, R.laid.types_most);
        };
      }

  -- where the count is that of another type
  pub as_many_in : (n : ℕ) → n ≡ (type_at (tables_of s S) i).c → count ≡ n → Parameters s S i count
  as_many_in n en e = parameters_in (e ∙ en)

module _ (s : List ℕ) (S : Sections) (i first count : ℕ) where
  pub parameters_listed : first ≡ (type_at (tables_of s S) i).b → Parameters s S i count → Listed s S first count
  parameters_listed e P = rw e P.listed

  pub params_listed : first ≡ (type_at (tables_of s S) i).b → count ≡ (type_at (tables_of s S) i).c → GoodTables s S → i < S.types → kind_at (tables_of s S) i ≡ 6 → Listed s S first count
  params_listed eb ec R h k = parameters_listed eb (parameters_in s S i count R h k ec)

-- the index has places for the entries of what a type refers to
module _ (s : List ℕ) (S : Sections) (index : List ℕ) (i : ℕ) (R : GoodTables s S) (h : i < S.types) (long : 2624 ≤ length index) where
  module _ (x : ℕ) (ex : x ≡ (type_at (tables_of s S) i).a) where
    pub held_entered : (k : ℕ) → kind_at (tables_of s S) i ≡ k → (k ≡ 5) ⊎ (k ≡ 7) → Entered index x
    held_entered k ek d = record { low = omega (arith, holder_lower s S i x R h ex k ek d, R.laid.types_most); long = long }

    pub returns_entered : kind_at (tables_of s S) i ≡ 6 → Entered index x
    returns_entered k = record { low = omega (arith, returns_lower s S i x R h ex k, R.laid.types_most); long = long }

  pub held_in : (k : ℕ) → kind_at (tables_of s S) i ≡ k → (k ≡ 5) ⊎ (k ≡ 7) → Operand s S index i
  held_in k ek d = record { there = h; entered = held_entered _ refl k ek d }

  pub returns_in : kind_at (tables_of s S) i ≡ 6 → Operand s S index i
  returns_in k = record { there = h; entered = returns_entered _ refl k }

-- two function types
module _ (s : List ℕ) (S : Sections) (a b : ℕ) (R : GoodTables s S) (l : a < b) (h : b < S.types) (ka : kind_at (tables_of s S) a ≡ 6) (kb : kind_at (tables_of s S) b ≡ 6) where
  params_of : ℕ → Tys
  params_of i = written_params (type_of (tables_of s S)) (tables_of s S) (type_at (tables_of s S) i).b (type_at (tables_of s S) i).c

  same_function : same_ty (type_of (tables_of s S) a) (type_of (tables_of s S) b) ≡ (same_tys (params_of a) (params_of b) && same_ty (type_of (tables_of s S) (type_at (tables_of s S) a).a) (type_of (tables_of s S) (type_at (tables_of s S) b).a))
  unfolding same_ty params_of
  same_function =
      let F = function_kept s S R a (omega arith) ka in
      let G = function_kept s S R b h kb in
      rw (type_function (tables_of s S) a ka F.returns (λ j m. (F.parameter j m).lower), type_function (tables_of s S) b kb G.returns (λ j m. (G.parameter j m).lower))

  pub counts_apart : (m n : ℕ) → m ≡ (type_at (tables_of s S) a).c → n ≡ (type_at (tables_of s S) b).c → (m ≡ n → ⊥) → false ≡ same_ty (type_of (tables_of s S) a) (type_of (tables_of s S) b)
  unfolding params_of
  counts_apart m n em en d = sym (same_function ∙ and_left _ _ (counts_differ (tables_of s S) _ _ _ _ (λ e. d (omega arith))))

  module _ (index : List ℕ) (count n : ℕ) (u : Bool) (I : Indexed index (tables_of s S) b) (ec : count ≡ (type_at (tables_of s S) a).c) (en : n ≡ (type_at (tables_of s S) b).c) (d : count ≡ n) (eu : u ≡ same_params index (tables_of s S) (type_at (tables_of s S) a).b (type_at (tables_of s S) b).b count) where
    params_is : u ≡ same_tys (params_of a) (params_of b)
    unfolding params_of
    params_is =
        let F = function_kept s S R a (omega arith) ka in
        let G = function_kept s S R b h kb in
        eu
        ∙ params_same index (tables_of s S) b _ _ count I (λ j m. omega (arith, (F.parameter j (omega arith)).lower)) (λ j m. (G.parameter j (omega arith)).lower)
        ∙ ap₂ same_tys (ap (written_params (type_of (tables_of s S)) (tables_of s S) (type_at (tables_of s S) a).b) ec) (ap (written_params (type_of (tables_of s S)) (tables_of s S) (type_at (tables_of s S) b).b) (d ∙ en))

    pub params_apart : u ≡ false → u ≡ same_ty (type_of (tables_of s S) a) (type_of (tables_of s S) b)
    params_apart f = f ∙ sym (same_function ∙ and_left _ _ (sym params_is ∙ f))

    pub function_rest : (r : Bool) → u ≡ true → r ≡ eqb (lowest_entry index (type_at (tables_of s S) a).a) (lowest_entry index (type_at (tables_of s S) b).a) → r ≡ same_ty (type_of (tables_of s S) a) (type_of (tables_of s S) b)
    function_rest r f er =
        er
        ∙ entries_same I _ _ (omega (arith, (function_kept s S R a (omega arith) ka).returns)) (function_kept s S R b h kb).returns
        ∙ ap (λ z. z && same_ty (type_of (tables_of s S) (type_at (tables_of s S) a).a) (type_of (tables_of s S) (type_at (tables_of s S) b).a)) (sym f ∙ params_is)
        ∙ sym same_function
