-- Laws of the index: the first number that passes a test, the struct that a name means, equal types under their lowest number, and
-- an index with one type more. Assumes nothing.
use mathlib.Core.Path.{◌≡◌, refl, ap, ap₂, sym, ◌∙◌}
use mathlib.Core.Bool.{Bool, true, false, not, false≢true}
use mathlib.Core.List.{List}
use mathlib.Core.Logic.{◌⊎◌, ⊎_elim}
use Prim.Native.Nat.{ℕ, zero, suc, ◌+◌, ◌≤◌, ◌<◌}
use native.Mathlib.Nat.{not-suc-le-zero, le_of_suc-le-suc, eq-or-lt_of_le}
use native.Mathlib.Omega.{arith}
use lib.ListN.{length, get_or, set, length-set}
use lib.Seq.{get_or-set_same, get_or-set_other}
use lib.Dec.{eqb, ltb}
use borrow.Author.Count.{below_more}
use borrow.Author.Tests.{ltb-true, ltb-false, eqb-true, eqb-false, eq-eqb, ne_eqb, not-true, not-false}
use Rattle.oat.specs.Basics.{pick, all_below, tabulate}
use Rattle.oat.specs.Tables.{Tables, type_at, struct_at}
use Rattle.oat.specs.TypeRules.{kind_at}
use Rattle.oat.specs.Types.{Ty, Struct, found, missing, lookup, type_of, struct_of, structs_of}
use Rattle.oat.specs.Decide.{same_ty, is_formed}
use Rattle.oat.specs.Pairs.{parts_ty}
use Rattle.oat.proofs.LawsBasics.{below_or_last, all_more, all_false}
use Rattle.oat.proofs.LawsSame.{both_true, same_is, same_sound}
use Rattle.file_sections.specs.declared.Sections.{Sections}
use Rattle.file_sections.specs.Layout.{tables_of, GoodTables}
use Rattle.file_sections.proofs.LawsRecords.{structs_long}
use Rattle.type_index.specs.Index.{declared, first_below, record_of, struct_named, lowest_entry, struct_entry, formed_entry, parts_entry, Entered, Indexed}

-- a loop that tests the numbers below n, one after another
module _ (n : ℕ) (p : ℕ → Bool) (i : ℕ) where
  pub loop_fails : (t : Bool) → i < n → not t ≡ true → t ≡ p i → false ≡ all_below n p
  loop_fails t h f e = sym (all_false n p i h (sym e ∙ not-true t f))

  pub loop_goes : (t : Bool) → all_below i p ≡ true → not t ≡ false → t ≡ p i → all_below (i + 1) p ≡ true
  loop_goes t a f e = all_more i p a (sym e ∙ not-false t f)

  pub loop_done : i ≤ n → n ≤ i → all_below i p ≡ true → true ≡ all_below n p
  loop_done h k a =
      let e : i ≡ n = omega arith in
      sym a ∙ rw e

pub none_tested : (p : ℕ → Bool) → all_below 0 p ≡ true
unfolding all_below
none_tested p = refl

-- the first number that passes
module _ (p : ℕ → Bool) where
  first_before : (n i : ℕ) → first_below n p ≡ i → i < n → first_below (suc n) p ≡ i
  unfolding first_below
  first_before n i e h = rw (e, ne_eqb i n (λ x. omega arith))

  first_last : (n : ℕ) → p n ≡ true → first_below (suc n) p ≡ first_below n p
  unfolding first_below
  first_last n t = go (eqb (first_below n p) n) refl
    where
      go : (b : Bool) → eqb (first_below n p) n ≡ b → pick b (pick (p n) n (suc n)) (first_below n p) ≡ first_below n p
      go true e = rw t (sym (eqb-true (first_below n p) n e))
      go false e = refl

  pub first_most : (n : ℕ) → first_below n p ≤ n
  unfolding first_below
  first_most zero = omega arith
  first_most (suc n) = go (eqb (first_below n p) n) (p n) (first_most n)
    where
      go : (a b : Bool) → first_below n p ≤ n → pick a (pick b n (suc n)) (first_below n p) ≤ suc n
      go true true h = omega arith
      go true false h = omega arith
      go false b h = omega arith

  -- the same below a number that passes and below any higher one
  pub first_longer : (n i : ℕ) → i < n → p i ≡ true → first_below n p ≡ first_below i p
  first_longer zero i h = absurd (not-suc-le-zero h)
  first_longer (suc n) i h =
      below_or_last
      (λ j. p j ≡ true → first_below (suc n) p ≡ first_below j p)
      n
      i
      h
      (λ l t. first_before n (first_below i p) (first_longer n i l t) (omega (arith, first_most i)))
      (first_last n)

  pub first_passes : (n : ℕ) → first_below n p < n → p (first_below n p) ≡ true
  unfolding first_below
  first_passes zero h = absurd (not-suc-le-zero h)
  first_passes (suc n) h = go (eqb (first_below n p) n) (p n) refl refl (first_passes n) h
    where
      go : (a b : Bool) → eqb (first_below n p) n ≡ a → p n ≡ b → (first_below n p < n → p (first_below n p) ≡ true) → pick a (pick b n (suc n)) (first_below n p) < suc n → p (pick a (pick b n (suc n)) (first_below n p)) ≡ true
      go true true e f r l = f
      go true false e f r l = absurd (omega arith)
      go false b e f r l = r (⊎_elim (λ s. absurd (eqb-false _ n e s)) (λ s. s) (eq-or-lt_of_le (first_most n)))

  pub first_fails : (n j : ℕ) → j < first_below n p → p j ≡ false
  unfolding first_below
  first_fails zero j h = absurd (not-suc-le-zero h)
  first_fails (suc n) j h = go (eqb (first_below n p) n) (p n) refl refl (first_fails n j) h
    where
      go : (a b : Bool) → eqb (first_below n p) n ≡ a → p n ≡ b → (j < first_below n p → p j ≡ false) → j < pick a (pick b n (suc n)) (first_below n p) → p j ≡ false
      go true true e f r l = r (omega (arith, eqb-true (first_below n p) n e))
      go true false e f r l = below_or_last (λ k. p k ≡ false) n j l (λ s. r (omega (arith, eqb-true (first_below n p) n e))) f
      go false b e f r l = r l

  pub first_nowhere : (n : ℕ) → ((i : ℕ) → i < n → p i ≡ true → ⊥) → first_below n p ≡ n
  first_nowhere n f = ⊎_elim (λ e. e) (λ l. absurd (f (first_below n p) l (first_passes n l))) (eq-or-lt_of_le (first_most n))

-- the struct that a name means
module _ (x : ℕ) where
  lookup_at : (n : ℕ) (f : ℕ → Struct) (r : ℕ) → r < n → eqb (f r).name x ≡ true → ((j : ℕ) → j < r → eqb (f j).name x ≡ false) → lookup (tabulate n f) x ≡ found (f r).fields
  unfolding lookup tabulate
  lookup_at zero f r h t g = absurd (not-suc-le-zero h)
  lookup_at (suc n) f zero h t g = rw t
  lookup_at (suc n) f (suc r) h t g =
      rw (g 0 (omega arith)) (lookup_at n (λ i. f (suc i)) r (le_of_suc-le-suc h) t (λ j l. g (suc j) (omega arith)))

  lookup_none : (n : ℕ) (f : ℕ → Struct) → ((j : ℕ) → j < n → eqb (f j).name x ≡ false) → lookup (tabulate n f) x ≡ missing
  unfolding lookup tabulate
  lookup_none zero f g = refl
  lookup_none (suc n) f g = rw (g 0 (omega arith)) (lookup_none n (λ i. f (suc i)) (λ j l. g (suc j) (omega arith)))

pub lookup_is : (T : Tables) (x : ℕ) → lookup (declared T) x ≡ pick (ltb (record_of T x) (length T.structs)) (found (struct_of T (record_of T x)).fields) missing
unfolding record_of structs_of struct_of
lookup_is T x = go (ltb (record_of T x) (length T.structs)) refl
  where
    named : ℕ → Bool
    named i = eqb (struct_at T i).name x

    go : (b : Bool) → ltb (record_of T x) (length T.structs) ≡ b → lookup (declared T) x ≡ pick b (found (struct_of T (record_of T x)).fields) missing
    go true e =
        let h = ltb-true (record_of T x) (length T.structs) e in
        lookup_at x (length T.structs) (struct_of T) (record_of T x) h (first_passes named (length T.structs) h) (first_fails named (length T.structs))
    go false e =
        lookup_none x (length T.structs) (struct_of T) (λ j l. first_fails named (length T.structs) j (omega (arith, ltb-false (record_of T x) (length T.structs) e)))

-- equal types have the same first equal type
module _ (t : ℕ → Ty) where
  abbrev pub first_of : ℕ → ℕ
  first_of i = first_below i (λ j. same_ty (t j) (t i))

  pub first_type : (i : ℕ) → t (first_of i) ≡ t i
  first_type i =
      ⊎_elim
      (λ e. ap t e)
      (λ l. same_sound (t (first_of i)) (t i) (first_passes (λ j. same_ty (t j) (t i)) i l))
      (eq-or-lt_of_le (first_most (λ j. same_ty (t j) (t i)) i))

  first_least : (i j : ℕ) → t i ≡ t j → first_of j ≤ first_of i
  first_least i j e = go (ltb (first_of i) (first_of j)) refl
    where
      go : (b : Bool) → ltb (first_of i) (first_of j) ≡ b → first_of j ≤ first_of i
      go true l =
          let f = first_fails (λ k. same_ty (t k) (t j)) j (first_of i) (ltb-true (first_of i) (first_of j) l) in
          let g = (same_is (t (first_of i)) (t j)).1 (first_type i ∙ e) in
          absurd (false≢true (sym f ∙ g))
      go false l = ltb-false (first_of i) (first_of j) l

  pub first-equal : (i j : ℕ) → t i ≡ t j → first_of i ≡ first_of j
  first-equal i j e = omega (arith, first_least i j e, first_least j i (sym e))

  pub firsts_same : (i j : ℕ) → eqb (first_of i) (first_of j) ≡ same_ty (t i) (t j)
  firsts_same i j =
      both_true
      (eqb (first_of i) (first_of j))
      (same_ty (t i) (t j))
      (λ e. (same_is (t i) (t j)).1 (sym (first_type i) ∙ ap t (eqb-true (first_of i) (first_of j) e) ∙ first_type j), λ s. eq-eqb (first_of i) (first_of j) (first-equal i j (same_sound (t i) (t j) s)))

-- the index of a file has places for the entries of its types
pub entered : {s : List ℕ} {S : Sections} {index : List ℕ} {n i : ℕ} → GoodTables s S → Indexed index (tables_of s S) n → i < S.types → Entered index i
entered R I h = record { low = omega (arith, R.laid.types_most); long = I.long }

-- indexed types are equal where their lowest numbers are
pub entries_same : {index : List ℕ} {T : Tables} {n : ℕ} → Indexed index T n → (i j : ℕ) → i < n → j < n → eqb (lowest_entry index i) (lowest_entry index j) ≡ same_ty (type_of T i) (type_of T j)
entries_same {T = T} I i j l m = ap₂ eqb (I.lowest i l) (I.lowest j m) ∙ firsts_same (type_of T) i j

-- the struct that a type names
module _ (s : List ℕ) (S : Sections) (i : ℕ) where
  pub names_struct : (a r : ℕ) → kind_at (tables_of s S) i ≡ 4 → a ≡ (type_at (tables_of s S) i).a → r ≡ record_of (tables_of s S) a → r ≡ struct_named (tables_of s S) i
  unfolding struct_named
  names_struct a r k ea e = rw (eq-eqb _ _ k) (e ∙ ap (record_of (tables_of s S)) ea)

  pub names_none : (kind_at (tables_of s S) i ≡ 4 → ⊥) → S.structs ≡ struct_named (tables_of s S) i
  unfolding struct_named
  names_none n = rw (ne_eqb _ _ n) (sym (structs_long s S))

  pub holder_names_none : (k : ℕ) → kind_at (tables_of s S) i ≡ k → (k ≡ 5) ⊎ (k ≡ 7) → S.structs ≡ struct_named (tables_of s S) i
  holder_names_none k ek d = names_none (λ e. ⊎_elim (λ f. omega arith) (λ f. omega arith) d)

  pub function_names_none : kind_at (tables_of s S) i ≡ 6 → S.structs ≡ struct_named (tables_of s S) i
  function_names_none k = names_none (λ e. omega arith)

-- the entries of the type i, stored
module _ (index : List ℕ) (i e r m w : ℕ) where
  abbrev one : List ℕ
  one = set index i e

  abbrev two : List ℕ
  two = set one (512 + i) r

  abbrev three : List ℕ
  three = set two (1024 + i) m

  abbrev pub stored : List ℕ
  stored = set three (2112 + i) w

  pub elsewhere : (j : ℕ) → (j ≡ i → ⊥) → (j ≡ 512 + i → ⊥) → (j ≡ 1024 + i → ⊥) → (j ≡ 2112 + i → ⊥) → get_or stored j 0 ≡ get_or index j 0
  elsewhere j x y z q =
      get_or-set_other three (2112 + i) j w 0 q ∙ get_or-set_other two (1024 + i) j m 0 z ∙ get_or-set_other one (512 + i) j r 0 y ∙ get_or-set_other index i j e 0 x

  module _ (long : 2624 ≤ length index) (low : i < 512) where
    module _ (k : ℕ) (l : k < i) where
      kept_first : get_or stored k 0 ≡ get_or index k 0
      kept_first = elsewhere k (λ x. omega arith) (λ x. omega arith) (λ x. omega arith) (λ x. omega arith)

      kept_named : get_or stored (512 + k) 0 ≡ get_or index (512 + k) 0
      kept_named = elsewhere (512 + k) (λ x. omega arith) (λ x. omega arith) (λ x. omega arith) (λ x. omega arith)

      kept_formed : get_or stored (1024 + k) 0 ≡ get_or index (1024 + k) 0
      kept_formed = elsewhere (1024 + k) (λ x. omega arith) (λ x. omega arith) (λ x. omega arith) (λ x. omega arith)

      kept_parts : get_or stored (2112 + k) 0 ≡ get_or index (2112 + k) 0
      kept_parts = elsewhere (2112 + k) (λ x. omega arith) (λ x. omega arith) (λ x. omega arith) (λ x. omega arith)

    own_first : get_or stored i 0 ≡ e
    own_first =
        get_or-set_other three (2112 + i) i w 0 (λ x. omega arith)
        ∙ get_or-set_other two (1024 + i) i m 0 (λ x. omega arith)
        ∙ get_or-set_other one (512 + i) i r 0 (λ x. omega arith)
        ∙ get_or-set_same index i e 0 (omega arith)

    own_named : get_or stored (512 + i) 0 ≡ r
    own_named =
        get_or-set_other three (2112 + i) (512 + i) w 0 (λ x. omega arith)
        ∙ get_or-set_other two (1024 + i) (512 + i) m 0 (λ x. omega arith)
        ∙ get_or-set_same one (512 + i) r 0 (simp length-set (omega arith))

    own_formed : get_or stored (1024 + i) 0 ≡ m
    own_formed =
        get_or-set_other three (2112 + i) (1024 + i) w 0 (λ x. omega arith) ∙ get_or-set_same two (1024 + i) m 0 (simp length-set (omega arith))

    own_parts : get_or stored (2112 + i) 0 ≡ w
    own_parts = get_or-set_same three (2112 + i) w 0 (simp length-set (omega arith))

marked : (b : Bool) → eqb (pick b 1 0) 1 ≡ b
marked true = refl
marked false = refl

-- one type more
module _ (s : List ℕ) (S : Sections) (index : List ℕ) (i e r m w : ℕ) (R : GoodTables s S) (h : i < S.types) (I : Indexed index (tables_of s S) i) where
  below_512 : i < 512
  below_512 = omega (arith, R.laid.types_most)

  pub indexed_more : (f : Bool) → e ≡ first_below i (λ j. same_ty (type_of (tables_of s S) j) (type_of (tables_of s S) i)) → r ≡ struct_named (tables_of s S) i → f ≡ is_formed (declared (tables_of s S)) (type_of (tables_of s S) i) → m ≡ pick f 1 0 → w ≡ parts_ty (type_of (tables_of s S) i) → Indexed (stored index i e r m w) (tables_of s S) (i + 1)
  unfolding lowest_entry struct_entry formed_entry parts_entry
  indexed_more f ee er ef em ew = record {
    long = simp length-set I.long;
    lowest = below_more
        (λ k. get_or (stored index i e r m w) k 0 ≡ first_of (type_of (tables_of s S)) k)
        i
        (λ k l. kept_first index i e r m w I.long below_512 k l ∙ I.lowest k l)
        (own_first index i e r m w I.long below_512 ∙ ee);
    named = below_more
        (λ k. get_or (stored index i e r m w) (512 + k) 0 ≡ struct_named (tables_of s S) k)
        i
        (λ k l. kept_named index i e r m w I.long below_512 k l ∙ I.named k l)
        (own_named index i e r m w I.long below_512 ∙ er);
    formed = below_more
        (λ k. eqb (get_or (stored index i e r m w) (1024 + k) 0) 1 ≡ is_formed (declared (tables_of s S)) (type_of (tables_of s S) k))
        i
        (λ k l. ap (λ x. eqb x 1) (kept_formed index i e r m w I.long below_512 k l) ∙ I.formed k l)
        (ap (λ x. eqb x 1) (own_formed index i e r m w I.long below_512 ∙ em) ∙ marked f ∙ ef);
    parts = below_more
        (λ k. get_or (stored index i e r m w) (2112 + k) 0 ≡ parts_ty (type_of (tables_of s S) k))
        i
        (λ k l. kept_parts index i e r m w I.long below_512 k l ∙ I.parts k l)
        (own_parts index i e r m w I.long below_512 ∙ ew);
  }

-- no type yet
pub indexed_none : (index : List ℕ) (T : Tables) → 2624 ≤ length index → Indexed index T 0
indexed_none index T h = record {
  long = h;
  lowest = λ i l. absurd (not-suc-le-zero l);
  named = λ i l. absurd (not-suc-le-zero l);
  formed = λ i l. absurd (not-suc-le-zero l);
  parts = λ i l. absurd (not-suc-le-zero l);
}

-- every type
pub indexed_all : (index : List ℕ) (T : Tables) (i n : ℕ) → i ≤ n → n ≤ i → Indexed index T i → Indexed index T n
indexed_all index T i n h k I =
    let e : i ≡ n = omega arith in
    rw e at I

-- the numbers that are stored fit
pub first_fits : (s : List ℕ) (S : Sections) (i e : ℕ) → GoodTables s S → i < S.types → e ≡ first_below i (λ j. same_ty (type_of (tables_of s S) j) (type_of (tables_of s S) i)) → e < 65536
first_fits s S i e R h ee = omega (arith, first_most (λ j. same_ty (type_of (tables_of s S) j) (type_of (tables_of s S) i)) i, R.laid.types_most)

pub record_fits : (s : List ℕ) (S : Sections) (x r : ℕ) → GoodTables s S → r ≡ record_of (tables_of s S) x → r < 65536
unfolding record_of
record_fits s S x r R er = omega (arith, er, first_most (λ i. eqb (struct_at (tables_of s S) i).name x) (length (tables_of s S).structs), structs_long s S, R.laid.structs_most)
