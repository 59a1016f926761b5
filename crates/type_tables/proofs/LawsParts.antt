-- Laws of the parts of types: a type that keeps its rule refers to lower types only, so its parts come from theirs. Assumes nothing.
use mathlib.Core.Path.{◌≡◌, refl, ap₂, sym, ◌∙◌}
use mathlib.Core.Bool.{Bool, true, false, not}
use mathlib.Core.List.{List, [], ◌∷◌, ◌++◌}
use Prim.Native.Nat.{ℕ, zero, suc, ◌+◌, ◌≤◌, ◌<◌}
use native.Mathlib.Numerals.{add-one}
use native.Mathlib.Nat.{not-suc-le-zero}
use native.Mathlib.Omega.{arith}
use lib.ListN.{length, get_or, set, length-append, length-set, get_or-append}
use lib.Seq.{get_or_at, get_or-set_same, get_or-set_other}
use lib.Dec.{eqb, ltb}
use borrow.Author.Count.{below_more}
use borrow.Author.Tests.{le-leb, lt-leb, ne_eqb, ltb-true}
use Rattle.std.specs.Prelude.{Option, Some, None}
use Rattle.oat.specs.Basics.{pick, all_below, sum_below}
use Rattle.oat.specs.Tables.{Tables, type_at, entry_at}
use Rattle.oat.specs.TypeRules.{kind_at, is_lower_value, param_count, taken_before, params_right, type_rule, parts_of, first_parts, parts_at, each_type_right}
use Rattle.oat.proofs.LawsBasics.{and_parts, and_both, and_left, and_right, sum_more, all_more, all_at, all_false}
use Rattle.file_sections.specs.declared.Sections.{Sections}
use Rattle.file_sections.specs.Layout.{tables_of}
use Rattle.file_sections.proofs.LawsRecords.{types_long}
use Rattle.type_tables.specs.Parts.{Measured, param_parts, keeps}

-- the parts of the first types stand in order
first_long : (T : Tables) (n : ℕ) → length (first_parts T n) ≡ n
unfolding first_parts
first_long T zero = refl
first_long T (suc n) = rw (length-append, first_long T n) (add-one n)

first_at : (T : Tables) (n j : ℕ) → j < n → get_or (first_parts T n) j 0 ≡ parts_at T j
unfolding first_parts parts_at
first_at T zero j h = absurd (not-suc-le-zero h)
first_at T (suc n) j h =
    below_more
    (λ k. get_or (first_parts T n ++ (parts_at T n ∷ [])) k 0 ≡ parts_at T k)
    n
    (λ k l. get_or-append (first_parts T n) _ 0 k (rw (first_long T n) l) ∙ first_at T n k l)
    (get_or_at (first_parts T n) (parts_at T n) [] 0 n (first_long T n))
    j
    (omega arith)

sum_same : (n : ℕ) (f g : ℕ → ℕ) → ((j : ℕ) → j < n → f j ≡ g j) → sum_below n f ≡ sum_below n g
unfolding sum_below
sum_same zero f g h = refl
sum_same (suc n) f g h = ap₂ (λ x y. x + y) (sum_same n f g (λ j l. h j (omega arith))) (h n (omega arith))

-- a lower type is lower
pub lower_below : (T : Tables) (i j : ℕ) → is_lower_value T i j ≡ true → j < i
unfolding is_lower_value
lower_below T i j t = ltb-true j i (and_parts (ltb j i) (not (eqb (kind_at T j) 3)) t).0

-- the parts of a type that refers to no other
pub leaf_parts : (T : Tables) (i : ℕ) → kind_at T i < 5 → parts_at T i ≡ 1
unfolding parts_at parts_of
leaf_parts T i h = rw (ne_eqb (kind_at T i) 5 (λ e. omega arith), ne_eqb (kind_at T i) 7 (λ e. omega arith), ne_eqb (kind_at T i) 6 (λ e. omega arith))

-- and of one that does, from those of lower types
module _ (parts : List ℕ) (T : Tables) (i : ℕ) (m : Measured parts T i) where
  held : (j : ℕ) → j < i → get_or (first_parts T i) j 0 ≡ get_or parts j 0
  held j h = first_at T i j h ∙ sym (m.each j h)

  pub array_parts : kind_at T i ≡ 5 → (type_at T i).a < i → parts_at T i ≡ 1 + get_or parts (type_at T i).a 0
  unfolding parts_at parts_of
  array_parts k h = rw (k, held _ h)

  pub nullable_parts : kind_at T i ≡ 7 → (type_at T i).a < i → parts_at T i ≡ 1 + get_or parts (type_at T i).a 0
  unfolding parts_at parts_of
  nullable_parts k h = rw (k, held _ h)

  params_held : (first count : ℕ) → params_right T i first count ≡ true → sum_below count (λ j. get_or (first_parts T i) (entry_at T (first + j)) 0) ≡ param_parts parts T first count
  unfolding param_parts params_right
  params_held first count t = sum_same count _ _ (λ j h. held _ (lower_below T i _ (all_at count (λ k. is_lower_value T i (entry_at T (first + k))) t j h)))

  pub function_parts : kind_at T i ≡ 6 → (type_at T i).a < i → params_right T i (type_at T i).b (type_at T i).c ≡ true → parts_at T i ≡ 1 + param_parts parts T (type_at T i).b (type_at T i).c + get_or parts (type_at T i).a 0
  unfolding parts_at parts_of
  function_parts k h t = rw (k, held _ h, params_held _ _ t) (omega arith)

  -- one type more is measured
  pub measured_more : (own : ℕ) → own ≡ parts_at T i → i < 512 → Measured (set parts i own) T (i + 1)
  measured_more own e l = record {
    long = simp length-set m.long;
    each = below_more
        (λ k. get_or (set parts i own) k 0 ≡ parts_at T k)
        i
        (λ k h. get_or-set_other parts i k own 0 (λ x. omega arith) ∙ m.each k h)
        (get_or-set_same parts i own 0 (omega (arith, m.long)) ∙ e);
  }

pub measured_none : (parts : List ℕ) (T : Tables) → 512 ≤ length parts → Measured parts T 0
measured_none parts T h = record { long = h; each = λ j l. absurd (not-suc-le-zero l) }

-- parts of a type that keeps its rule, or none
some_parts : (x : Bool) (n m : ℕ) (r : Option ℕ) → r ≡ pick x (Some n) None → r ≡ Some m → (x ≡ true) × (m ≡ n)
some_parts true n m r e f = (refl, cc)
some_parts false n m r e f = absurd (let z : ◌≡◌ {A = ℕ} 0 1 = cc in omega arith)

no_parts : (x : Bool) (n : ℕ) (r : Option ℕ) → r ≡ pick x (Some n) None → r ≡ None → x ≡ false
no_parts true n r e f = absurd (let z : ◌≡◌ {A = ℕ} 0 1 = cc in omega arith)
no_parts false n r e f = refl

-- the loop over all types
pub taken_more : (T : Tables) (i taken n : ℕ) → taken ≡ taken_before T i → n ≡ param_count (type_at T i) → taken + n ≡ taken_before T (i + 1)
unfolding taken_before
taken_more T i taken n e f = rw (e, f, sum_more)

module _ (T : Tables) (i : ℕ) (r : Option ℕ) (e : r ≡ pick (type_rule T i (type_at T i)) (Some (parts_at T i)) None) where
  pub measured_own : (parts : List ℕ) (own : ℕ) → Measured parts T i → i < 512 → r ≡ Some own → Measured (set parts i own) T (i + 1)
  measured_own parts own m l h = measured_more parts T i m own (some_parts _ _ _ _ e h).1 l

  pub keeps_more : (most own : ℕ) → all_below i (keeps most T) ≡ true → r ≡ Some own → own ≤ most → all_below (i + 1) (keeps most T) ≡ true
  unfolding keeps
  keeps_more most own a h l =
      let (t, is) = some_parts (type_rule T i (type_at T i)) _ _ _ e h in
      all_more i (keeps most T) a (and_both _ _ t (rw (← is, le-leb _ _ l)))

module _ (s : List ℕ) (S : Sections) (most i : ℕ) (r : Option ℕ) (h : i < S.types) (e : r ≡ pick (type_rule (tables_of s S) i (type_at (tables_of s S) i)) (Some (parts_at (tables_of s S) i)) None) where
  each_fails : keeps most (tables_of s S) i ≡ false → false ≡ each_type_right most (tables_of s S)
  unfolding each_type_right keeps
  each_fails f = rw (types_long s S, all_false S.types (keeps most (tables_of s S)) i h f)

  pub type_fails : r ≡ None → false ≡ each_type_right most (tables_of s S)
  unfolding keeps
  type_fails f = each_fails (and_left _ _ (no_parts _ _ r e f))

  pub parts_fail : (own : ℕ) → r ≡ Some own → most < own → false ≡ each_type_right most (tables_of s S)
  unfolding keeps
  parts_fail own f l =
      let is = (some_parts _ _ _ r e f).1 in
      each_fails (and_right (type_rule (tables_of s S) i (type_at (tables_of s S) i)) _ (rw (← is, lt-leb _ _ l)))
