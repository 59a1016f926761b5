-- Laws of the parts of types: a type's parts come from those of what it refers to, which the index has. Assumes nothing.
use mathlib.Core.Path.{◌≡◌, refl, ap, ap₂, sym, ◌∙◌}
use mathlib.Core.List.{List}
use mathlib.Core.Logic.{◌⊎◌, ⊎_elim}
use Prim.Native.Nat.{ℕ, zero, suc, ◌+◌, ◌*◌, ◌≤◌, ◌<◌}
use native.Mathlib.Nat.{add-zero}
use native.Mathlib.Omega.{arith}
use lib.ListN.{length, get_or}
use Rattle.std.specs.List.{sum_by, range_with_len}
use Rattle.std.proofs.lemmas.List.Sums.{sum_by-cons}
use Rattle.oat.specs.Basics.{sum_below}
use Rattle.oat.specs.Tables.{Tables, type_at, entry_at}
use Rattle.oat.specs.TypeRules.{kind_at}
use Rattle.oat.specs.Types.{type_of}
use Rattle.oat.specs.Pairs.{parts_ty}
use Rattle.oat.proofs.LawsBasics.{sum_front}
use Rattle.oat.proofs.LawsTypes.{types-formed}
use Rattle.oat.proofs.LawsPartsWritten.{params-parts, parts_written}
use Rattle.oat.proofs.LawsWritten.{type_struct, type_array, type_function, type_nullable}
use Rattle.file_sections.specs.declared.Sections.{Sections}
use Rattle.file_sections.specs.Layout.{tables_of, GoodTables}
use Rattle.file_sections.proofs.LawsRecords.{types_long}
use Rattle.type_index.specs.Index.{parts_entry, params_parts, Indexed}
use Rattle.type_index.proofs.LawsSameTypes.{on_base, kind_is, array_kept, function_kept, nullable_kept}

-- a sum of numbers that are the same one by one, of numbers below 65536, and as a list of the numbers from a on has it
sum_same : (n : ℕ) (f g : ℕ → ℕ) → ((j : ℕ) → f j ≡ g j) → sum_below n f ≡ sum_below n g
unfolding sum_below
sum_same zero f g e = refl
sum_same (suc n) f g e = ap₂ (λ x y. x + y) (sum_same n f g e) (e n)

sum_fits : (n : ℕ) (f : ℕ → ℕ) → ((j : ℕ) → f j < 65536) → sum_below n f ≤ 65535 * n
unfolding sum_below
sum_fits zero f h = omega arith
sum_fits (suc n) f h = omega (arith, sum_fits n f h, h n)

sum_listed : (f : ℕ → ℕ) (n a : ℕ) → sum_by f (range_with_len a n) ≡ sum_below n (λ j. f (a + j))
unfolding sum_below
sum_listed f zero a = refl
sum_listed f (suc n) a =
    sum_by-cons f a (range_with_len (a + 1) n)
    ∙ ap₂ (λ x y. x + y) (ap f (sym (add-zero a))) (sum_listed f n (a + 1) ∙ sum_same n _ _ (λ j. ap f (omega arith)))
    ∙ sym (sum_front n (λ j. f (a + j)))

-- the walk over parameters
module _ (index : List ℕ) (T : Tables) (first : ℕ) where
  -- the parts of a parameter, as the index has them
  abbrev pub param_parts : ℕ → ℕ
  param_parts j = parts_entry index (entry_at T (first + j))

  module _ (count : ℕ) (small : (i : ℕ) → get_or index i 0 < 65536) where
    parts_listed : sum_by param_parts (range_with_len 0 count) ≡ params_parts index T first count
    unfolding params_parts
    parts_listed = sum_listed param_parts count 0 ∙ sum_same count _ _ (λ j. ap param_parts (omega arith))

    parts_low : params_parts index T first count ≤ 65535 * count
    unfolding params_parts parts_entry
    parts_low = sum_fits count param_parts (λ j. small _)

    pub parts_walked : (r : ℕ) → r ≡ sum_by param_parts (range_with_len 0 count) → (r ≡ params_parts index T first count) × (r ≤ 65535 * count)
    parts_walked r e = (e ∙ parts_listed, omega (arith, e, parts_listed, parts_low))

    pub parts_total : count ≤ 1024 → sum_by param_parts (range_with_len 0 count) < 18446744073709551616
    parts_total h = omega (arith, parts_listed, parts_low)

module _ (s : List ℕ) (S : Sections) (i : ℕ) where
  pub parts_struct : kind_at (tables_of s S) i ≡ 4 → 1 ≡ parts_ty (type_of (tables_of s S) i)
  unfolding parts_ty
  parts_struct k = rw (type_struct (tables_of s S) i k)

  module _ (R : GoodTables s S) (h : i < S.types) where
    -- a type has at most 200 parts, so that they are stored
    pub parts_fit : (w : ℕ) → w ≡ parts_ty (type_of (tables_of s S) i) → w < 65536
    parts_fit w e =
        let formed = types-formed 200 (tables_of s S) R.types in
        let there : i < length (tables_of s S).types = rw (types_long s S) h in
        omega (arith, formed.few i there, parts_written (tables_of s S) formed i there)

    pub parts_base : kind_at (tables_of s S) i < 4 → 1 ≡ parts_ty (type_of (tables_of s S) i)
    unfolding parts_ty
    parts_base l = on_base (λ t. 1 ≡ parts_ty t) refl refl refl refl (type_of (tables_of s S) i) (rw (kind_is s S R i h) l)

    module _ (index : List ℕ) (I : Indexed index (tables_of s S) i) (x n : ℕ) (ex : x ≡ (type_at (tables_of s S) i).a) (en : n ≡ parts_entry index x) where
      held : (type_at (tables_of s S) i).a < i → n ≡ parts_ty (type_of (tables_of s S) (type_at (tables_of s S) i).a)
      held l = en ∙ ap (parts_entry index) ex ∙ I.parts _ l

      pub parts_holder : (k : ℕ) → kind_at (tables_of s S) i ≡ k → (k ≡ 5) ⊎ (k ≡ 7) → 1 + n ≡ parts_ty (type_of (tables_of s S) i)
      unfolding parts_ty
      parts_holder k ek d = ⊎_elim of_array of_nullable d
        where
          of_array : k ≡ 5 → 1 + n ≡ parts_ty (type_of (tables_of s S) i)
          of_array f =
              let v = array_kept s S R i h (omega arith) in
              rw (type_array (tables_of s S) i (omega arith) v.lower) (ap (λ a. 1 + a) (held v.lower))

          of_nullable : k ≡ 7 → 1 + n ≡ parts_ty (type_of (tables_of s S) i)
          of_nullable f =
              let v = nullable_kept s S R i h (omega arith) in
              rw (type_nullable (tables_of s S) i (omega arith) v.lower) (ap (λ a. 1 + a) (held v.lower))

      pub parts_function : (p count sum : ℕ) → kind_at (tables_of s S) i ≡ 6 → p ≡ (type_at (tables_of s S) i).b → count ≡ (type_at (tables_of s S) i).c → sum ≡ params_parts index (tables_of s S) p count → 1 + sum + n ≡ parts_ty (type_of (tables_of s S) i)
      unfolding parts_ty params_parts
      parts_function p count sum k ep ec es =
          let F = function_kept s S R i h k in
          let params = params-parts (type_of (tables_of s S)) (tables_of s S) _ (type_at (tables_of s S) i).b (type_at (tables_of s S) i).c (λ j m. I.parts _ (F.parameter j m).lower) in
          rw (type_function (tables_of s S) i k F.returns (λ j m. (F.parameter j m).lower)) (omega (arith, es ∙ ap₂ (params_parts index (tables_of s S)) ep ec ∙ params, held F.returns))
