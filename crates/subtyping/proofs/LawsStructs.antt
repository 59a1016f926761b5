-- Fields and structs of an indexed file: fields begin others exactly where they are the same one by one, and the index names the record
-- that a struct's name means. Assumes nothing.
use mathlib.Core.Path.{◌≡◌, refl, ap, sym, ◌∙◌}
use mathlib.Core.Bool.{Bool, true, false, not, ◌&&◌}
use mathlib.Core.List.{List}
use Prim.Native.Nat.{ℕ, zero, suc, ◌+◌, ◌≤◌, ◌<◌}
use native.Mathlib.Nat.{not-suc-le-zero, le_of_suc-le-suc}
use native.Mathlib.Omega.{arith}
use lib.ListN.{length}
use lib.Dec.{eqb, ltb, leb}
use borrow.Author.Tests.{lt-ltb, le-ltb, ltb-true, lt-leb, eq-eqb, ne_eqb, not-true, not-false}
use Rattle.std.proofs.Math.Bool.{and-true, and_assoc}
use Rattle.oat.specs.Basics.{pick, all_below, sum_below, tabulate}
use Rattle.oat.specs.Tables.{Tables, type_at, field_at, struct_at}
use Rattle.oat.specs.TypeRules.{kind_at}
use Rattle.oat.specs.TableRules.{fields_before}
use Rattle.oat.specs.Types.{Field, struct_of, found, missing}
use Rattle.oat.specs.Decide.{same_ty, begins_with, on_found, struct_below}
use Rattle.oat.proofs.LawsBasics.{and_right, all_more, all_false, below_or_last}
use Rattle.oat.proofs.LawsTables.{tables_formed}
use Rattle.file_sections.specs.declared.Sections.{Sections}
use Rattle.file_sections.specs.Layout.{tables_of, GoodTables}
use Rattle.file_sections.proofs.LawsRecords.{types_long, fields_long, structs_long}
use Rattle.type_index.specs.Index.{declared, record_of, struct_named, lowest_entry, struct_entry, Indexed}
use Rattle.type_index.proofs.LawsIndex.{lookup_is, entries_same}
use Rattle.subtyping.specs.Numbered.{same_field, same_fields}

-- one field
module _ (T : Tables) (i j m n : ℕ) (em : m ≡ (field_at T i).name) (en : n ≡ (field_at T j).name) where
  pub names_differ : (m ≡ n → ⊥) → eqb m n ≡ same_field T i j
  unfolding same_field
  names_differ h = rw (← em, ← en, ne_eqb m n h)

-- fields, one after another
module _ (T : Tables) (p q : ℕ) where
  pub no_fields : same_fields T p q 0 ≡ true
  unfolding same_fields all_below
  no_fields = refl

  pub fields_done : (count j : ℕ) → j ≤ count → count ≤ j → same_fields T p q j ≡ true → true ≡ same_fields T p q count
  fields_done count j h k a =
      let e : j ≡ count = omega arith in
      sym a ∙ rw e

  module _ (j : ℕ) (t : Bool) (et : t ≡ same_field T (p + j) (q + j)) where
    pub fields_fail : (count : ℕ) → j < count → not t ≡ true → false ≡ same_fields T p q count
    unfolding same_fields
    fields_fail count h f = sym (all_false count _ j h (sym et ∙ not-true t f))

    pub fields_more : same_fields T p q j ≡ true → not t ≡ false → same_fields T p q (j + 1) ≡ true
    unfolding same_fields
    fields_more a f = all_more j _ a (sym et ∙ not-false t f)

-- the test at 0, then at the others
all_first : (n : ℕ) (p : ℕ → Bool) → all_below (suc n) p ≡ (p 0 && all_below n (λ j. p (suc j)))
unfolding all_below
all_first zero p = sym (and-true (p 0))
all_first (suc n) p = ap (λ a. a && p (suc n)) (all_first n p) ∙ and_assoc (p 0) (all_below n (λ j. p (suc j))) (p (suc n))

-- fields begin others: not where there are fewer, else where they are the same one by one
begins_short : (f g : ℕ → Field) (m n : ℕ) → m < n → begins_with (tabulate m f) (tabulate n g) ≡ false
unfolding begins_with tabulate
begins_short f g m zero h = absurd (not-suc-le-zero h)
begins_short f g zero (suc n) h = refl
begins_short f g (suc m) (suc n) h =
    and_right (eqb (f 0).name (g 0).name && same_ty (f 0).type (g 0).type) (begins_with (tabulate m (λ j. f (suc j))) (tabulate n (λ j. g (suc j))))
    (begins_short (λ j. f (suc j)) (λ j. g (suc j)) m n (le_of_suc-le-suc h))

begins_all : (f g : ℕ → Field) (m n : ℕ) → n ≤ m → begins_with (tabulate m f) (tabulate n g) ≡ all_below n (λ j. eqb (f j).name (g j).name && same_ty (f j).type (g j).type)
unfolding begins_with tabulate all_below
begins_all f g m zero h = refl
begins_all f g zero (suc n) h = absurd (not-suc-le-zero h)
begins_all f g (suc m) (suc n) h =
    ap (λ a. eqb (f 0).name (g 0).name && same_ty (f 0).type (g 0).type && a) (begins_all (λ j. f (suc j)) (λ j. g (suc j)) m n (le_of_suc-le-suc h))
    ∙ sym (all_first n (λ j. eqb (f j).name (g j).name && same_ty (f j).type (g j).type))

-- the fields of the struct j begin those of the struct i
module _ (T : Tables) (i j m n : ℕ) (em : m ≡ (struct_at T i).count) (en : n ≡ (struct_at T j).count) where
  pub fewer : m < n → leb n m ≡ begins_with (struct_of T i).fields (struct_of T j).fields
  unfolding struct_of
  fewer h = lt-leb n m h ∙ sym (begins_short _ _ (struct_at T i).count (struct_at T j).count (omega arith))

  module _ (l : n ≤ m) (p q : ℕ) (ep : p ≡ (struct_at T i).first) (eq : q ≡ (struct_at T j).first) where
    pub fields_same : (r : Bool) → r ≡ same_fields T p q n → r ≡ begins_with (struct_of T i).fields (struct_of T j).fields
    unfolding struct_of same_fields same_field
    fields_same r er =
        er
        ∙ rw (ep, eq, en) (sym (begins_all _ _ (struct_at T i).count (struct_at T j).count (omega arith)))

-- both structs are declared, and the fields of the second begin those of the first
on-found : (b : Bool) (fs : List Field) (k : List Field → Bool) → on_found (pick b (found fs) missing) k ≡ pick b (k fs) false
on-found true fs k = refl
on-found false fs k = refl

struct_decides : (T : Tables) (x y : ℕ) → struct_below (declared T) x y ≡ pick (ltb (record_of T x) (length T.structs)) (pick (ltb (record_of T y) (length T.structs)) (begins_with (struct_of T (record_of T x)).fields (struct_of T (record_of T y)).fields) false) false
unfolding struct_below
struct_decides T x y = rw (lookup_is T x, lookup_is T y, on-found, on-found)

-- the running total of counts
sum_within : (f : ℕ → ℕ) (n i : ℕ) → i < n → sum_below i f + f i ≤ sum_below n f
unfolding sum_below
sum_within f zero i h = absurd (not-suc-le-zero h)
sum_within f (suc n) i h =
    below_or_last (λ j. sum_below j f + f j ≤ sum_below n f + f n) n i h (λ l. let z = sum_within f n i l in omega arith) (omega arith)

module _ (s : List ℕ) (S : Sections) where
  abbrev pub T : Tables
  T = tables_of s S

  -- the type of a field is a type of the file
  module _ (good_tables : GoodTables s S) where
    pub field-type : (i x : ℕ) → i < S.fields → x ≡ (field_at T i).type → x < S.types
    field-type i x h e =
        let l = ((tables_formed T good_tables.tables).field i (omega (arith, fields_long s S))).lower in
        omega (arith, types_long s S)

    module _ (index : List ℕ) (indexed : Indexed index T S.types) where
      pub types_same : (i j m n x y : ℕ) (t : Bool) → t ≡ eqb (lowest_entry index x) (lowest_entry index y) → x ≡ (field_at T i).type → y ≡ (field_at T j).type → m ≡ (field_at T i).name → n ≡ (field_at T j).name → m ≡ n → i < S.fields → j < S.fields → t ≡ same_field T i j
      unfolding same_field
      types_same i j m n x y t et ex ey em en e hi hj =
          et
          ∙ entries_same indexed x y (field-type i x hi ex) (field-type j y hj ey)
          ∙ rw (ex, ey, eq-eqb (field_at T i).name (field_at T j).name (sym em ∙ e ∙ en))

  -- the fields of a struct are fields of the file
  module _ (good_tables : GoodTables s S) (i : ℕ) where
    fields_of : i < S.structs → (struct_at T i).first + (struct_at T i).count ≤ S.fields
    unfolding fields_before
    fields_of h =
        let f = tables_formed T good_tables.tables in
        let l : i < length T.structs = omega (arith, structs_long s S) in
        omega (arith, f.struct i l, f.used_up, fields_long s S, sum_within (λ j. (struct_at T j).count) (length T.structs) i l)

  module _ (i p : ℕ) (ep : p ≡ (struct_at T i).first) (count : ℕ) (ec : count ≡ (struct_at T i).count) (h : i < S.structs) (good_tables : GoodTables s S) where
    pub own_fields : p + count ≤ S.fields
    own_fields = omega (arith, fields_of good_tables i h)

    pub first_fields : (n : ℕ) → n ≤ count → p + n ≤ S.fields
    first_fields n l = omega (arith, fields_of good_tables i h)

  module _ (index : List ℕ) (indexed : Indexed index T S.types) where
    -- the index names the record
    named_is : (a first : ℕ) → first ≡ struct_entry index a → a < S.types → (type_at T a).kind ≡ 4 → record_of T (type_at T a).a ≡ first
    unfolding struct_named
    named_is a first e l k = sym (e ∙ indexed.named a l ∙ rw (eq-eqb (kind_at T a) 4 k))

    module _ (a b first second : ℕ) (ea : first ≡ struct_entry index a) (eb : second ≡ struct_entry index b) (la : a < S.types) (lb : b < S.types) (ka : (type_at T a).kind ≡ 4) (kb : (type_at T b).kind ≡ 4) where
      decides : struct_below (declared T) (type_at T a).a (type_at T b).a ≡ pick (ltb first S.structs) (pick (ltb second S.structs) (begins_with (struct_of T first).fields (struct_of T second).fields) false) false
      decides =
          struct_decides T (type_at T a).a (type_at T b).a
          ∙ rw (named_is a first ea la ka, named_is b second eb lb kb, structs_long s S)

      -- `v` is what the tests on the records say
      module _ (v : Bool) where
        pub first_told : S.structs ≤ first → v ≡ ltb first S.structs → v ≡ true → ⊥
        first_told h ev e = absurd (omega (arith, ltb-true first S.structs (sym ev ∙ e)))

        pub first_missing : S.structs ≤ first → v ≡ ltb first S.structs → v ≡ struct_below (declared T) (type_at T a).a (type_at T b).a
        first_missing h ev = ev ∙ le-ltb first S.structs h ∙ sym (decides ∙ rw (le-ltb first S.structs h))

        module _ (here : first < S.structs) (ev : v ≡ ltb second S.structs) where
          pub second_missing : v ≡ false → v ≡ struct_below (declared T) (type_at T a).a (type_at T b).a
          second_missing e = e ∙ sym (decides ∙ rw (lt-ltb first S.structs here, ← ev, e))

          pub both_declared : (r : Bool) → v ≡ true → r ≡ begins_with (struct_of T first).fields (struct_of T second).fields → r ≡ struct_below (declared T) (type_at T a).a (type_at T b).a
          both_declared r e er = er ∙ sym (decides ∙ rw (lt-ltb first S.structs here, ← ev, e))
