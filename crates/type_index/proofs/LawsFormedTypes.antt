-- Laws of well-formed types: a type of a file is well-formed where what it refers to is, which the index has. Assumes nothing.
use mathlib.Core.Path.{◌≡◌, refl, ap, ap₂, sym, ◌∙◌}
use mathlib.Core.Bool.{Bool, true, false, ◌&&◌, false≢true}
use mathlib.Core.List.{List}
use mathlib.Core.Logic.{◌⊎◌, ⊎_elim}
use Prim.Native.Nat.{ℕ, zero, suc, ◌+◌, ◌<◌}
use native.Mathlib.Nat.{add-zero}
use native.Mathlib.Omega.{arith}
use lib.Dec.{ltb}
use Rattle.std.specs.List.{list_all, range_with_len}
use Rattle.oat.specs.Basics.{pick, all_below}
use Rattle.oat.specs.Tables.{Tables, type_at, entry_at}
use Rattle.oat.specs.TypeRules.{kind_at, is_reference_kind}
use Rattle.oat.specs.Types.{Ty, int, bool, string, void, struct, array, function, nullable, Struct, Lookup, missing, written_params, type_of}
use Rattle.oat.specs.Decide.{kind_of, is_found, forms, forms_all, is_formed}
use Rattle.oat.proofs.LawsBasics.{and_left}
use Rattle.oat.proofs.LawsTypes.{LowerValue}
use Rattle.oat.proofs.LawsWritten.{type_struct, type_array, type_function, type_nullable}
use Rattle.file_sections.specs.declared.Sections.{Sections}
use Rattle.file_sections.specs.Layout.{tables_of, GoodTables}
use Rattle.file_sections.proofs.LawsRecords.{structs_long}
use Rattle.type_index.specs.Index.{declared, record_of, formed_entry, params_formed, Indexed}
use Rattle.type_index.proofs.LawsIndex.{none_tested, lookup_is}
use Rattle.type_index.proofs.LawsSameTypes.{all_front, all_same, all_listed, on_base, kind_is, array_kept, function_kept, nullable_kept}

-- the walk over parameters
module _ (index : List ℕ) (T : Tables) (first : ℕ) where
  -- a parameter is well-formed, as the index has it
  abbrev pub formed_param : ℕ → Bool
  formed_param j = formed_entry index (entry_at T (first + j))

  pub formed_walked : (count : ℕ) (u : Bool) → u ≡ list_all formed_param (range_with_len 0 count) → u ≡ params_formed index T first count
  unfolding params_formed
  formed_walked count u e = e ∙ all_listed formed_param count 0 ∙ all_same count _ _ (λ j l. ap formed_param (omega arith))

-- a type that isn't void is well-formed as a value where it is as a return type; one that may be null, as a reference too
module _ (H : List Struct) where
  value_same : (t : Ty) → (kind_of t ≡ 3 → ⊥) → (forms H t).typ ≡ is_formed H t
  unfolding forms is_formed
  value_same int h = refl
  value_same bool h = refl
  value_same string h = refl
  value_same void h = absurd (h refl)
  value_same (struct x) h = refl
  value_same (array t) h = refl
  value_same (function ts t) h = refl
  value_same (nullable t) h = refl

  reference_same : (t : Ty) → is_reference_kind (kind_of t) ≡ true → (forms H t).ref ≡ is_formed H t
  unfolding forms is_formed is_reference_kind
  reference_same int h = h
  reference_same bool h = h
  reference_same string h = refl
  reference_same void h = h
  reference_same (struct x) h = refl
  reference_same (array t) h = refl
  reference_same (function ts t) h = refl
  reference_same (nullable t) h = absurd (false≢true h)

  all_written : (T : Tables) (count first : ℕ) → ((j : ℕ) → j < count → kind_of (type_of T (entry_at T (first + j))) ≡ 3 → ⊥) → forms_all H (written_params (type_of T) T first count) ≡ all_below count (λ j. is_formed H (type_of T (entry_at T (first + j))))
  unfolding forms written_params
  all_written T zero first v = sym (none_tested _)
  all_written T (suc count) first v =
      ap₂ (λ a b. a && b) (here (first + 0) (add-zero first) (v 0 (omega arith))) (all_written T count (suc first) (λ j l. later j (v (suc j) (omega arith))) ∙ all_same count _ _ (λ j l. rw (moved j)))
      ∙ sym (all_front count (λ j. is_formed H (type_of T (entry_at T (first + j)))))
    where
      here : (x : ℕ) → x ≡ first → (kind_of (type_of T (entry_at T x)) ≡ 3 → ⊥) → (forms H (type_of T (entry_at T first))).typ ≡ is_formed H (type_of T (entry_at T x))
      here x e n = rw (← e) (value_same (type_of T (entry_at T x)) n)

      moved : (j : ℕ) → suc first + j ≡ first + suc j
      moved j = omega arith

      later : (j : ℕ) → (kind_of (type_of T (entry_at T (first + suc j))) ≡ 3 → ⊥) → kind_of (type_of T (entry_at T (suc first + j))) ≡ 3 → ⊥
      later j n e = n (rw (moved j) at e)

-- a struct is well-formed where it is declared
found_by : (b : Bool) (fs : Lookup) → is_found fs ≡ true → is_found (pick b fs missing) ≡ b
found_by true fs h = h
found_by false fs h = refl

module _ (s : List ℕ) (S : Sections) (i : ℕ) where
  pub formed_base : GoodTables s S → i < S.types → kind_at (tables_of s S) i < 4 → true ≡ is_formed (declared (tables_of s S)) (type_of (tables_of s S) i)
  unfolding forms is_formed
  formed_base R h l = on_base (λ t. true ≡ is_formed (declared (tables_of s S)) t) refl refl refl refl (type_of (tables_of s S) i) (rw (kind_is s S R i h) l)

  pub formed_struct : (x r : ℕ) → kind_at (tables_of s S) i ≡ 4 → x ≡ (type_at (tables_of s S) i).a → r ≡ record_of (tables_of s S) x → ltb r S.structs ≡ is_formed (declared (tables_of s S)) (type_of (tables_of s S) i)
  unfolding forms is_formed
  formed_struct x r k ex er =
      let is : r ≡ record_of (tables_of s S) (type_at (tables_of s S) i).a = er ∙ ap (record_of (tables_of s S)) ex in
      rw (type_struct (tables_of s S) i k, lookup_is (tables_of s S) (type_at (tables_of s S) i).a, structs_long s S, ← is) (sym (found_by _ _ refl))

  module _ (index : List ℕ) (R : GoodTables s S) (h : i < S.types) (I : Indexed index (tables_of s S) i) where
    formed_at : (x : ℕ) (r : Bool) → x < i → r ≡ formed_entry index x → r ≡ is_formed (declared (tables_of s S)) (type_of (tables_of s S) x)
    formed_at x r l e = e ∙ I.formed x l

    -- a lower type that isn't void
    value_at : (x : ℕ) (r : Bool) → LowerValue (tables_of s S) i x → r ≡ formed_entry index x → r ≡ (forms (declared (tables_of s S)) (type_of (tables_of s S) x)).typ
    value_at x r v e =
        formed_at x r v.lower e
        ∙ sym (value_same (declared (tables_of s S)) (type_of (tables_of s S) x) (λ z. v.value (sym (kind_is s S R x (omega (arith, v.lower))) ∙ z)))

    pub formed_holder : (k x : ℕ) (r : Bool) → kind_at (tables_of s S) i ≡ k → (k ≡ 5) ⊎ (k ≡ 7) → x ≡ (type_at (tables_of s S) i).a → r ≡ formed_entry index x → r ≡ is_formed (declared (tables_of s S)) (type_of (tables_of s S) i)
    unfolding forms is_formed
    formed_holder k x r ek d ex er = ⊎_elim of_array of_nullable d
      where
        stands : r ≡ formed_entry index (type_at (tables_of s S) i).a
        stands = er ∙ ap (formed_entry index) ex

        of_array : k ≡ 5 → r ≡ is_formed (declared (tables_of s S)) (type_of (tables_of s S) i)
        of_array f =
            let v = array_kept s S R i h (omega arith) in
            rw (type_array (tables_of s S) i (omega arith) v.lower) (value_at _ r v stands)

        of_nullable : k ≡ 7 → r ≡ is_formed (declared (tables_of s S)) (type_of (tables_of s S) i)
        of_nullable f =
            let v = nullable_kept s S R i h (omega arith) in
            let same = reference_same (declared (tables_of s S)) (type_of (tables_of s S) (type_at (tables_of s S) i).a) (rw (kind_is s S R (type_at (tables_of s S) i).a (omega (arith, v.lower))) v.reference) in
            rw (type_nullable (tables_of s S) i (omega arith) v.lower) (formed_at _ r v.lower stands ∙ sym same)

    -- a function type
    module _ (k : kind_at (tables_of s S) i ≡ 6) (p count : ℕ) (u : Bool) (ep : p ≡ (type_at (tables_of s S) i).b) (ec : count ≡ (type_at (tables_of s S) i).c) (eu : u ≡ params_formed index (tables_of s S) p count) where
      parameters : Bool
      parameters = forms_all (declared (tables_of s S)) (written_params (type_of (tables_of s S)) (tables_of s S) (type_at (tables_of s S) i).b (type_at (tables_of s S) i).c)

      function_is : is_formed (declared (tables_of s S)) (type_of (tables_of s S) i) ≡ (parameters && is_formed (declared (tables_of s S)) (type_of (tables_of s S) (type_at (tables_of s S) i).a))
      unfolding forms is_formed parameters
      function_is =
          let F = function_kept s S R i h k in
          rw (type_function (tables_of s S) i k F.returns (λ j m. (F.parameter j m).lower))

      params_are : u ≡ parameters
      unfolding parameters params_formed
      params_are =
          let F = function_kept s S R i h k in
          eu
          ∙ ap₂ (params_formed index (tables_of s S)) ep ec
          ∙ all_same (type_at (tables_of s S) i).c _ _ (λ j m. I.formed _ (F.parameter j m).lower)
          ∙ sym (all_written (declared (tables_of s S)) (tables_of s S) _ _ (λ j m e. (F.parameter j m).value (sym (kind_is s S R _ (omega (arith, (F.parameter j m).lower))) ∙ e)))

      pub unformed_params : u ≡ false → u ≡ is_formed (declared (tables_of s S)) (type_of (tables_of s S) i)
      unformed_params n = n ∙ sym (function_is ∙ and_left _ _ (sym params_are ∙ n))

      pub formed_function : (x : ℕ) (r : Bool) → u ≡ true → x ≡ (type_at (tables_of s S) i).a → r ≡ formed_entry index x → r ≡ is_formed (declared (tables_of s S)) (type_of (tables_of s S) i)
      formed_function x r n ex er =
          formed_at _ r (function_kept s S R i h k).returns (er ∙ ap (formed_entry index) ex)
          ∙ ap (λ z. z && is_formed (declared (tables_of s S)) (type_of (tables_of s S) (type_at (tables_of s S) i).a)) (sym n ∙ params_are)
          ∙ sym function_is
