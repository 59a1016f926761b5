-- Names that are new, and loops over the types of fields and over names: what they answer is what the definition asks of the names of
-- a context and of the fields of a struct. Assumes nothing.
use mathlib.Core.Path.{◌≡◌, refl, ap, sym, ◌∙◌}
use mathlib.Core.Bool.{Bool, true, false, not, ◌&&◌, false≢true}
use mathlib.Core.List.{List}
use Prim.Native.Nat.{ℕ, zero, suc, ◌+◌, ◌≤◌, ◌<◌}
use native.Mathlib.Numerals.{add-one}
use native.Mathlib.Nat.{not-suc-le-zero}
use native.Mathlib.Omega.{arith}
use lib.ListN.{get_or, take}
use lib.Dec.{eqb}
use borrow.Author.Tests.{eq-eqb, ne_eqb}
use Rattle.std.proofs.lemmas.List.{get_or-take}
use Rattle.std.specs.Prelude.{Option, Some as At, None as Nothing, is_some}
use Rattle.oat.specs.Basics.{pick, sum_below, all_below, tabulate}
use Rattle.oat.specs.Tables.{Tables, field_at, struct_at}
use Rattle.oat.specs.Types.{Field, type_of, struct_of}
use Rattle.oat.specs.Decide.{is_formed}
use Rattle.oat.proofs.LawsBasics.{below_or_last}
use Rattle.oat.proofs.LawsTables.{tables_formed}
use Rattle.typing_rules.specs.Contexts as Contexts
use Rattle.typing_rules.specs.Check.{fields_formed}
use Rattle.file_sections.specs.declared.Sections.{Sections}
use Rattle.file_sections.specs.Layout.{tables_of, GoodTables}
use Rattle.file_sections.proofs.LawsRecords.{types_long, fields_long}
use Rattle.type_index.specs.Index.{declared, formed_entry, Entered, Indexed}
use Rattle.type_index.proofs.LawsIndex.{loop_fails, loop_goes, loop_done, none_tested, entered}
use Rattle.type_index.proofs.LawsSameTypes.{all_front, all_same}
use Rattle.bindings.specs.Bindings.{Finds}
use Rattle.bindings.proofs.LawsBindings.{name_found, name_missing}
use Rattle.steps.specs.Contract.{Newness, types_formed, times_in}

-- a name that is nowhere is new, and one that is somewhere is not
pub newness : {F : List ℕ} {S : Sections} {W K : List ℕ} {x : ℕ} (r : Option ℕ) (b : Bool) → Finds F S W K x r → is_some r ≡ not b → Newness F S W K x b
newness {F} {S} {W} {K} {x} Nothing true found e = record { tells = λ s c. sym (ap Contexts.is_miss (name_missing (tables_of F S) W x s (sym (found.found s c)))) }
newness {F} {S} {W} {K} {x} (At j) false found e = record { tells = λ s c. sym (ap Contexts.is_miss (name_found (tables_of F S) W x s j (sym (found.found s c)))) }
newness Nothing false found e = absurd (false≢true e)
newness (At j) true found e = absurd (false≢true (sym e))

-- the loop over the types of fields
module _ (X : List ℕ) (T : Tables) (first : ℕ) where
  pub no_field_formed : types_formed X T first 0 ≡ true
  unfolding types_formed
  no_field_formed = none_tested _

  pub all_fields_formed : (count j : ℕ) → j ≤ count → count ≤ j → types_formed X T first j ≡ true → true ≡ types_formed X T first count
  unfolding types_formed
  all_fields_formed count j h k a = loop_done count _ j h k a

  module _ (j x : ℕ) (t : Bool) (ex : x ≡ (field_at T (first + j)).type) (et : t ≡ formed_entry X x) where
    pub field_unformed : (count : ℕ) → j < count → not t ≡ true → false ≡ types_formed X T first count
    unfolding types_formed
    field_unformed count h f = loop_fails count _ j t h f (et ∙ rw ex)

    pub more_fields_formed : types_formed X T first j ≡ true → not t ≡ false → types_formed X T first (j + 1) ≡ true
    unfolding types_formed
    more_fields_formed a f = loop_goes 0 _ j t a f (et ∙ rw ex)

-- the type of a field is one of the file's
module _ {F : List ℕ} {S : Sections} (R : GoodTables F S) where
  pub field_type_within : (i : ℕ) → i < S.fields → (field_at (tables_of F S) i).type < S.types
  field_type_within i h =
      let l = ((tables_formed (tables_of F S) R.tables).field i (omega (arith, fields_long F S))).lower in
      omega (arith, types_long F S)

  pub field_entered : (X : List ℕ) (first count j x : ℕ) → Indexed X (tables_of F S) S.types → first + count ≤ S.fields → j < count
      → x ≡ (field_at (tables_of F S) (first + j)).type → Entered X x
  field_entered X first count j x I h k e = entered R I (omega (arith, field_type_within (first + j) (omega arith)))

-- fields that are well-formed, one by one
fields-formed : (C : Contexts.Context ℕ) (n : ℕ) (g : ℕ → Field) → all_below n (λ j. is_formed C.structs (g j).type) ≡ fields_formed C (tabulate n g)
unfolding fields_formed tabulate
fields-formed C zero g = none_tested _
fields-formed C (suc n) g =
    all_front n (λ j. is_formed C.structs (g j).type)
    ∙ ap (λ b. is_formed C.structs (g 0).type && b) (fields-formed C n (λ j. g (suc j)))

-- the index tells whether those of a struct are, where all structs are declared
pub types_formed_are : (F : List ℕ) (S : Sections) (X : List ℕ) (C : Contexts.Context ℕ) (i : ℕ) → GoodTables F S → Indexed X (tables_of F S) S.types
    → C.structs ≡ declared (tables_of F S) → (struct_at (tables_of F S) i).first + (struct_at (tables_of F S) i).count ≤ S.fields
    → types_formed X (tables_of F S) (struct_at (tables_of F S) i).first (struct_at (tables_of F S) i).count ≡ fields_formed C (struct_of (tables_of F S) i).fields
unfolding types_formed struct_of
types_formed_are F S X C i R I e h =
    all_same
    (struct_at (tables_of F S) i).count
    _
    _
    (λ j l.
    I.formed (field_at (tables_of F S) ((struct_at (tables_of F S) i).first + j)).type (field_type_within R ((struct_at (tables_of F S) i).first + j) (omega arith))
    ∙ ap (λ H. is_formed H (type_of (tables_of F S) (field_at (tables_of F S) ((struct_at (tables_of F S) i).first + j)).type)) (sym e))
    ∙ fields-formed C (struct_at (tables_of F S) i).count _

-- the loop that counts a name
module _ (l : List ℕ) (x : ℕ) where
  pub times_none : 0 ≡ times_in l 0 x
  unfolding times_in sum_below
  times_none = refl

  module _ (i n k : ℕ) (e : n ≡ times_in l i x) where
    pub times_hit : (count : ℕ) → i < count → get_or (take count l) i 0 ≡ x → k ≡ n + 1 → k ≡ times_in l (i + 1) x
    unfolding times_in sum_below
    times_hit count m h f = rw (add-one i, eq-eqb (get_or l i 0) x (sym (get_or-take count l i 0 m) ∙ h)) (omega arith)

    pub times_miss : (count : ℕ) → i < count → (get_or (take count l) i 0 ≡ x → ⊥) → k ≡ n → k ≡ times_in l (i + 1) x
    unfolding times_in sum_below
    times_miss count m h f = rw (add-one i, ne_eqb (get_or l i 0) x (λ z. h (get_or-take count l i 0 m ∙ z))) (omega arith)

  -- a number that is not among others
  pub times_none_of : (n : ℕ) → ((i : ℕ) → i < n → get_or l i 0 ≡ x → ⊥) → times_in l n x ≡ 0
  unfolding times_in sum_below
  times_none_of zero f = refl
  times_none_of (suc n) f = rw (times_none_of n (λ i h. f i (omega arith)), ne_eqb (get_or l n 0) x (f n (omega arith)))

  pub times_absent : (n : ℕ) → times_in l n x ≡ 0 → (i : ℕ) → i < n → get_or l i 0 ≡ x → ⊥
  unfolding times_in sum_below
  times_absent zero e i h = absurd (not-suc-le-zero h)
  times_absent (suc n) e i h =
      below_or_last
      (λ k. get_or l k 0 ≡ x → ⊥)
      n
      i
      h
      (times_absent n (omega arith) i)
      (λ z. last (eqb (get_or l n 0) x) (eq-eqb (get_or l n 0) x z) (omega arith))
    where
      last : (b : Bool) → b ≡ true → ◌≡◌ {A = ℕ} (pick b 1 0) 0 → ⊥
      last true t z = omega arith
      last false t z = false≢true t
