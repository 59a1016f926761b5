-- A field by its name: the loop over the fields of a record, and what the answer is of the file written out. Assumes nothing.
use mathlib.Core.Path.{◌≡◌, refl, ap, ap₂, sym, subst, ◌∙◌}
use mathlib.Core.Bool.{Bool, true, false}
use mathlib.Core.List.{List}
use Prim.Native.Nat.{ℕ, zero, suc, ◌+◌, ◌-◌, ◌*◌, ◌≤◌, ◌<◌}
use native.Mathlib.Omega.{arith}
use mir.Syntax.{w8}
use mir.Val.{Fits}
use lib.ListN.{length, get_or}
use lib.Dec.{eqb, ltb}
use borrow.Author.Tests.{ltb-true, ltb-false, lt-ltb, le-ltb, eq-eqb, ne_eqb}
use Rattle.oat.specs.Basics.{pick}
use Rattle.oat.specs.Tables.{FieldRecord, Tables, field_at, struct_at}
use Rattle.oat.specs.Types.{struct_of, found, missing, lookup}
use Rattle.oat.proofs.LawsBasics.{tabulate_at}
use Rattle.oat.proofs.LawsTypes.{types-formed}
use Rattle.oat.proofs.LawsTables.{tables_formed}
use Rattle.file_sections.specs.declared.Sections.{Sections}
use Rattle.file_sections.specs.Numbers.{number_at}
use Rattle.file_sections.specs.Layout.{records_at, tables_of, GoodTables}
use Rattle.file_sections.proofs.LawsRecords.{types_long, fields_long, structs_long}
use Rattle.type_index.specs.Index.{declared, record_of}
use Rattle.type_index.proofs.LawsIndex.{first_passes, first_fails, lookup_is}
use Rattle.typing_rules.specs.Rules.{member}
use Rattle.typing_rules.specs.Judge.{Number, number, unknown, field_among, field_of}
use Rattle.typing_rules.proofs.Claims.{File, Value}
use Rattle.typing_rules.proofs.LawsFields.{member_of, fields_of_struct, fields_listed, among_value}
use Rattle.fields.specs.Lookup.{field_in}

-- the loop over the fields: the field is among those left
unfoldable pub among_left : Tables → ℕ → ℕ → ℕ → ℕ → Number
among_left T x first count i = field_among T x (first + i) (count - i)

module _ (T : Tables) (x first count : ℕ) where
  pub among_start : among_left T x first count 0 ≡ field_among T x first count
  unfolding among_left
  among_start =
      let none : first + 0 ≡ first = omega arith in
      let all : count - 0 ≡ count = omega arith in
      ap₂ (field_among T x) none all

  among_next : (i : ℕ) → i < count
      → among_left T x first count i ≡ pick (eqb (field_at T (first + i)).name x) (number (field_at T (first + i)).type) (among_left T x first count (i + 1))
  unfolding among_left field_among
  among_next i h =
      let left : count - i ≡ suc (count - (i + 1)) = omega arith in
      let next : suc (first + i) ≡ first + (i + 1) = omega arith in
      ap (field_among T x (first + i)) left
      ∙ ap (λ n. pick (eqb (field_at T (first + i)).name x) (number (field_at T (first + i)).type) (field_among T x n (count - (i + 1)))) next

  module _ (i n : ℕ) (a : among_left T x first count i ≡ field_among T x first count) (en : n ≡ (field_at T (first + i)).name) (h : i < count) where
    pub among_hit : (t : ℕ) → n ≡ x → t ≡ (field_at T (first + i)).type → number t ≡ field_among T x first count
    among_hit t e et =
        ap number et
        ∙ sym (ap (λ b. pick b (number (field_at T (first + i)).type) (among_left T x first count (i + 1))) (eq-eqb (field_at T (first + i)).name x (sym en ∙ e)))
        ∙ sym (among_next i h)
        ∙ a

    pub among_miss : (n ≡ x → ⊥) → among_left T x first count (i + 1) ≡ field_among T x first count
    among_miss f =
        sym (ap (λ b. pick b (number (field_at T (first + i)).type) (among_left T x first count (i + 1))) (ne_eqb (field_at T (first + i)).name x (λ e. f (en ∙ e))))
        ∙ sym (among_next i h)
        ∙ a

  pub among_none : (i : ℕ) → count ≤ i → among_left T x first count i ≡ field_among T x first count → unknown ≡ field_among T x first count
  unfolding among_left field_among
  among_none i h a =
      let none : count - i ≡ 0 = omega arith in
      sym (ap (field_among T x (first + i)) none) ∙ a

-- a number wider than 16 bits is no field's name
module _ (s : List ℕ) (S : Sections) (b : (k : ℕ) → Fits w8 (get_or s k 0)) where
  name_narrow : (i : ℕ) → i < S.fields → (field_at (tables_of s S) i).name < 65536
  unfolding tables_of records_at number_at
  name_narrow i h =
      let is : (field_at (tables_of s S) i).name ≡ number_at s (S.fields_at + i * 2 + 0) = ap (λ (r : FieldRecord). r.name) (tabulate_at _ _ i _ h) in
      let low = b ((S.fields_at + i * 2 + 0) * 2) in
      let high = b ((S.fields_at + i * 2 + 0) * 2 + 1) in
      omega (arith, is, low, high)

  pub among_wide : (x first count : ℕ) → first + count ≤ S.fields → 65536 ≤ x → unknown ≡ field_among (tables_of s S) x first count
  unfolding field_among
  among_wide x first zero h w = refl
  among_wide x first (suc count) h w =
      let own = name_narrow first (omega (arith, h)) in
      rw (ne_eqb (field_at (tables_of s S) first).name x (λ e. omega (arith, e, own, w)), among_wide x (suc first) count (omega (arith, h)) w) refl

-- the struct record
module _ (T : Tables) (r x : ℕ) where
  pub field_no_record : length T.structs ≤ r → field_in T r x ≡ unknown
  unfolding field_in
  field_no_record h = rw (le-ltb r (length T.structs) h)

  pub field_of_record : r < length T.structs → field_in T r x ≡ field_among T x (struct_at T r).first (struct_at T r).count
  unfolding field_in
  field_of_record h = rw (lt-ltb r (length T.structs) h)

  -- its type is one of the file's
  pub field_value : (u : ℕ) → File T → field_in T r x ≡ number u → Value T u
  field_value u F e = go (ltb r (length T.structs)) refl
    where
      go : (b : Bool) → ltb r (length T.structs) ≡ b → Value T u
      go true l =
          let h = ltb-true r (length T.structs) l in
          among_value T F x u (struct_at T r).first (struct_at T r).count (fields_listed T F r h) (sym (field_of_record h) ∙ e)
      go false l =
          let n : ◌≡◌ {A = Number} unknown (number u) = sym (field_no_record (ltb-false r (length T.structs) l)) ∙ e in
          absurd (let z : ◌≡◌ {A = ℕ} 0 1 = cc in omega arith)

  pub field_found : (u : ℕ) → File T → field_in T r x ≡ number u → u < length T.types
  field_found u F e = (field_value u F e).within

  -- written out
  pub member-in : r < length T.structs → member x (struct_of T r).fields ≡ member_of T (field_in T r x)
  member-in h = fields_of_struct T x r ∙ ap (member_of T) (sym (field_of_record h))

-- of a readable file
module _ (s : List ℕ) (S : Sections) (R : GoodTables s S) where
  pub file-of : File (tables_of s S)
  file-of = record { types = types-formed 200 (tables_of s S) R.types; tables = tables_formed (tables_of s S) R.tables }

  pub found_under : (r x u : ℕ) → field_in (tables_of s S) r x ≡ number u → u < S.types
  found_under r x u e = rw (sym (types_long s S)) (field_found (tables_of s S) r x u file-of e)

  pub found_value : (r x u : ℕ) → field_in (tables_of s S) r x ≡ number u → Value (tables_of s S) u
  found_value r x u e = field_value (tables_of s S) r x u file-of e

  pub record_fields : (r : ℕ) → r < S.structs → (struct_at (tables_of s S) r).first + (struct_at (tables_of s S) r).count ≤ S.fields
  record_fields r h = omega (arith, fields_listed (tables_of s S) file-of r (omega (arith, structs_long s S)), fields_long s S)

-- the fields of a struct by its name
module _ (T : Tables) (s r : ℕ) (e : record_of T s ≡ r) where
  pub declared_is : lookup (declared T) s ≡ pick (ltb r (length T.structs)) (found (struct_of T r).fields) missing
  declared_is = lookup_is T s ∙ ap (λ i. pick (ltb i (length T.structs)) (found (struct_of T i).fields) missing) e

  pub declared_found : r < length T.structs → lookup (declared T) s ≡ found (struct_of T r).fields
  declared_found h = declared_is ∙ ap (λ b. pick b (found (struct_of T r).fields) missing) (lt-ltb r (length T.structs) h)

  pub declared_missing : length T.structs ≤ r → lookup (declared T) s ≡ missing
  declared_missing h = declared_is ∙ ap (λ b. pick b (found (struct_of T r).fields) missing) (le-ltb r (length T.structs) h)

-- the record that the code reads
module _ (s : List ℕ) (S : Sections) (r x : ℕ) where
  pub no_record : S.structs ≤ r → unknown ≡ field_in (tables_of s S) r x
  no_record h = sym (field_no_record (tables_of s S) r x (omega (arith, structs_long s S)))

  module _ (first count : ℕ) (ef : first ≡ (struct_at (tables_of s S) r).first) (ec : count ≡ (struct_at (tables_of s S) r).count) (h : r < S.structs) where
    pub own_fields : GoodTables s S → first + count ≤ S.fields
    own_fields R = omega (arith, record_fields s S R r h)

    pub record_field : (n : Number) → n ≡ field_among (tables_of s S) x first count → n ≡ field_in (tables_of s S) r x
    record_field n e =
        e ∙ ap₂ (field_among (tables_of s S) x) ef ec ∙ sym (field_of_record (tables_of s S) r x (omega (arith, structs_long s S)))

-- the field of a struct by its name: its first record's
module _ (T : Tables) (s x : ℕ) where
  -- among `left` structs from i on, where none passed has the name
  of_first : (r i left : ℕ) → i ≤ r → r < i + left → eqb (struct_at T r).name s ≡ true → ((j : ℕ) → j < r → eqb (struct_at T j).name s ≡ false)
      → field_of T s x i left ≡ field_among T x (struct_at T r).first (struct_at T r).count
  unfolding field_of
  of_first r i zero h l t f = absurd (omega arith)
  of_first r i (suc left) h l t f = go (ltb i r) refl (λ a b. of_first r (suc i) left a b t f)
    where
      go : (b : Bool) → ltb i r ≡ b
          → (suc i ≤ r → r < suc i + left → field_of T s x (suc i) left ≡ field_among T x (struct_at T r).first (struct_at T r).count)
          → pick (eqb (struct_at T i).name s) (field_among T x (struct_at T i).first (struct_at T i).count) (field_of T s x (suc i) left) ≡ field_among T x (struct_at T r).first (struct_at T r).count
      go true e n = rw (f i (ltb-true i r e)) (n (ltb-true i r e) (omega arith))
      go false e n =
          let same : r ≡ i = omega (arith, ltb-false i r e) in
          subst
          (λ j. pick (eqb (struct_at T j).name s) (field_among T x (struct_at T j).first (struct_at T j).count) (field_of T s x (suc i) left) ≡ field_among T x (struct_at T r).first (struct_at T r).count)
          same
          (rw t refl)

  of_none : (i left : ℕ) → ((j : ℕ) → j < i + left → eqb (struct_at T j).name s ≡ false) → field_of T s x i left ≡ unknown
  unfolding field_of
  of_none i zero f = refl
  of_none i (suc left) f = rw (f i (omega arith)) (of_none (suc i) left (λ j h. f j (omega arith)))

  record_is : field_of T s x 0 (length T.structs) ≡ field_in T (record_of T s) x
  unfolding record_of
  record_is = go (ltb (record_of T s) (length T.structs)) refl
    where
      named : ℕ → Bool
      named i = eqb (struct_at T i).name s

      go : (b : Bool) → ltb (record_of T s) (length T.structs) ≡ b → field_of T s x 0 (length T.structs) ≡ field_in T (record_of T s) x
      go true e =
          let h = ltb-true (record_of T s) (length T.structs) e in
          of_first (record_of T s) 0 (length T.structs) (omega arith) (omega arith) (first_passes named (length T.structs) h) (first_fails named (length T.structs))
          ∙ sym (field_of_record T (record_of T s) x h)
      go false e =
          let h = ltb-false (record_of T s) (length T.structs) e in
          of_none 0 (length T.structs) (λ j l. first_fails named (length T.structs) j (omega arith)) ∙ sym (field_no_record T (record_of T s) x h)

  pub field_is : (r : ℕ) → record_of T s ≡ r → field_of T s x 0 (length T.structs) ≡ field_in T r x
  field_is r e = record_is ∙ ap (λ i. field_in T i x) e
