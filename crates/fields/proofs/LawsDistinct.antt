-- Fields with distinct names: pairs of them, and the loop over the fields of a record. Assumes nothing.
use mathlib.Core.Path.{◌≡◌, refl, ap, sym, ◌∙◌}
use mathlib.Core.Bool.{Bool, true, false, false≢true}
use Prim.Native.Nat.{ℕ, zero, suc, ◌+◌, ◌≤◌, ◌<◌}
use native.Mathlib.Numerals.{add-one}
use native.Mathlib.Nat.{not-suc-le-zero, le_of_suc-le-suc, add-zero}
use native.Mathlib.Omega.{arith}
use lib.Dec.{eqb}
use borrow.Author.Tests.{eq-eqb, ne_eqb, eqb-true}
use borrow.Author.Count.{below_more}
use Rattle.std.specs.Prelude.{Option, Some, None}
use Rattle.std.specs.Option.{is_some}
use Rattle.oat.specs.Basics.{pick, tabulate}
use Rattle.oat.specs.Tables.{Tables, field_at, struct_at}
use Rattle.oat.specs.Types.{Field, struct_of}
use Rattle.oat.proofs.LawsBasics.{below_or_last}
use Rattle.typing_rules.specs.Steps.{has_field, distinct_fields}
use Rattle.typing_rules.specs.Judge.{number, unknown, field_among}
use Rattle.fields.specs.Lookup.{number_of}

-- fields without a name, and with distinct names
has_none : (x n : ℕ) (g : ℕ → Field) → ((i : ℕ) → i < n → (g i).name ≡ x → ⊥) → has_field x (tabulate n g) ≡ false
unfolding has_field tabulate
has_none x zero g f = refl
has_none x (suc n) g f = rw (ne_eqb (g 0).name x (f 0 (omega arith)), has_none x n (λ i. g (suc i)) (λ i h. f (suc i) (omega arith)))

has_absent : (x n : ℕ) (g : ℕ → Field) → has_field x (tabulate n g) ≡ false → (i : ℕ) → i < n → (g i).name ≡ x → ⊥
unfolding has_field tabulate
has_absent x zero g e i h = absurd (not-suc-le-zero h)
has_absent x (suc n) g e zero h = λ z. false≢true (sym (rw (eq-eqb (g 0).name x z) at e))
has_absent x (suc n) g e (suc i) h = has_absent x n (λ i. g (suc i)) (rest (eqb (g 0).name x) e) i (le_of_suc-le-suc h)
  where
    rest : (b : Bool) → pick b true (has_field x (tabulate n (λ i. g (suc i)))) ≡ false → has_field x (tabulate n (λ i. g (suc i))) ≡ false
    rest true f = absurd (false≢true (sym f))
    rest false f = f

pub picked_none : (b c : Bool) → pick b false c ≡ true → (b ≡ false) × (c ≡ true)
picked_none true c e = absurd (false≢true e)
picked_none false c e = (refl, e)

distinct_accepted : (n : ℕ) (g : ℕ → Field) → ((i j : ℕ) → i < j → j < n → (g i).name ≡ (g j).name → ⊥) → distinct_fields (tabulate n g) ≡ true
unfolding distinct_fields tabulate
distinct_accepted zero g f = refl
distinct_accepted (suc n) g f =
    rw (has_none (g 0).name n (λ i. g (suc i)) (λ i h z. f 0 (suc i) (omega arith) (omega arith) (sym z)), distinct_accepted n (λ i. g (suc i)) (λ i j h k. f (suc i) (suc j) (omega arith) (omega arith)))

distinct_apart : (n : ℕ) (g : ℕ → Field) → distinct_fields (tabulate n g) ≡ true → (i j : ℕ) → i < j → j < n → (g i).name ≡ (g j).name → ⊥
unfolding distinct_fields tabulate
distinct_apart zero g e i j h k = absurd (not-suc-le-zero k)
distinct_apart (suc n) g e i zero h k = absurd (not-suc-le-zero h)
distinct_apart (suc n) g e zero (suc j) h k = λ z. has_absent (g 0).name n (λ i. g (suc i)) (picked_none (has_field (g 0).name (tabulate n (λ i. g (suc i)))) _ e).0 j (le_of_suc-le-suc k) (sym z)
distinct_apart (suc n) g e (suc i) (suc j) h k =
    distinct_apart n (λ i. g (suc i)) (picked_none (has_field (g 0).name (tabulate n (λ i. g (suc i)))) _ e).1 i j (le_of_suc-le-suc h) (le_of_suc-le-suc k)

module _ (T : Tables) (x : ℕ) where
  -- a name that is not among fields, and one that is
  among_absent : (n first : ℕ) → field_among T x first n ≡ unknown → (j : ℕ) → j < n → (field_at T (first + j)).name ≡ x → ⊥
  unfolding field_among
  among_absent zero first e j h z = not-suc-le-zero h
  among_absent (suc n) first e zero h z = go (eqb (field_at T first).name x) (eq-eqb (field_at T first).name x (ap (λ k. (field_at T k).name) (sym (add-zero first)) ∙ z)) e
    where
      go : (b : Bool) → b ≡ true → pick b (number (field_at T first).type) (field_among T x (suc first) n) ≡ unknown → ⊥
      go true t e = let z : ◌≡◌ {A = ℕ} 0 1 = cc in omega arith
      go false t e = false≢true t
  among_absent (suc n) first e (suc j) h z = among_absent n (suc first) (go (eqb (field_at T first).name x) e) j (le_of_suc-le-suc h) (ap (λ k. (field_at T k).name) (shift first j) ∙ z)
    where
      shift : (a b : ℕ) → suc a + b ≡ a + suc b
      shift a b = omega arith

      go : (b : Bool) → pick b (number (field_at T first).type) (field_among T x (suc first) n) ≡ unknown → field_among T x (suc first) n ≡ unknown
      go true e = absurd (let z : ◌≡◌ {A = ℕ} 0 1 = cc in omega arith)
      go false e = e

  among_present : (n first t : ℕ) → field_among T x first n ≡ number t → (j : ℕ) × (j < n) × ((field_at T (first + j)).name ≡ x)
  unfolding field_among
  among_present zero first t e = absurd (let z : ◌≡◌ {A = ℕ} 0 1 = cc in omega arith)
  among_present (suc n) first t e = go (eqb (field_at T first).name x) refl e (among_present n (suc first) t)
    where
      shift : (a b : ℕ) → a + suc b ≡ suc a + b
      shift a b = omega arith

      go : (b : Bool) → eqb (field_at T first).name x ≡ b → pick b (number (field_at T first).type) (field_among T x (suc first) n) ≡ number t
          → (field_among T x (suc first) n ≡ number t → (j : ℕ) × (j < n) × ((field_at T (suc first + j)).name ≡ x))
          → (j : ℕ) × (j < suc n) × ((field_at T (first + j)).name ≡ x)
      go true l e f = (0, omega arith, ap (λ k. (field_at T k).name) (add-zero first) ∙ eqb-true (field_at T first).name x l)
      go false l e f = (suc (f e).0, omega (arith, (f e).1), ap (λ k. (field_at T k).name) (shift first (f e).0) ∙ (f e).2)

-- of the first i fields no two have one name, and all names are below `above`
pub record Apart (T : Tables) (first above i : ℕ) : Type 0 where
  pub apart : (j k : ℕ) → j < k → k < i → (field_at T (first + j)).name ≡ (field_at T (first + k)).name → ⊥
  pub below : (j : ℕ) → j < i → (field_at T (first + j)).name < above

module _ (T : Tables) (first : ℕ) where
  pub apart_none : Apart T first 0 0
  apart_none = record { apart = λ j k h l. absurd (not-suc-le-zero l); below = λ j h. absurd (not-suc-le-zero h) }

  -- one name more, which is none of those before
  module _ (above i x : ℕ) (A : Apart T first above i) (ex : x ≡ (field_at T (first + i)).name) where
    more_apart : ((j : ℕ) → j < i → (field_at T (first + j)).name ≡ x → ⊥) → (j k : ℕ) → j < k → k < suc i → (field_at T (first + j)).name ≡ (field_at T (first + k)).name → ⊥
    more_apart f j k h l =
        below_or_last
        (λ k. j < k → (field_at T (first + j)).name ≡ (field_at T (first + k)).name → ⊥)
        i
        k
        l
        (λ m n. A.apart j k n m)
        (λ n z. f j n (z ∙ sym ex))
        h

    pub apart_above : (a : ℕ) → above ≤ x → a ≡ x + 1 → Apart T first a (i + 1)
    apart_above a h ea = record {
      apart = rw (add-one i) (more_apart (λ j l z. omega (arith, A.below j l)));
      below = below_more (λ j. (field_at T (first + j)).name < a) i (λ j l. omega (arith, A.below j l)) (omega arith);
    }

    pub apart_new : (a : ℕ) (f : Option ℕ) → x < above → number_of f ≡ field_among T x first i → is_some f ≡ false → a ≡ above → Apart T first a (i + 1)
    apart_new a None h e n ea = record {
      apart = rw (add-one i) (more_apart (among_absent T x i first (sym e)));
      below = below_more (λ j. (field_at T (first + j)).name < a) i (λ j l. omega (arith, A.below j l)) (omega arith);
    }
    apart_new a (Some t) h e n ea = absurd (false≢true (sym n))

-- the fields of a record
module _ (T : Tables) (r first count : ℕ) (ef : first ≡ (struct_at T r).first) (ec : count ≡ (struct_at T r).count) where
  pub name_again : (i x : ℕ) (f : Option ℕ) → i < count → x ≡ (field_at T (first + i)).name → number_of f ≡ field_among T x first i → is_some f ≡ true → false ≡ distinct_fields (struct_of T r).fields
  unfolding struct_of
  name_again i x None h ex e n = absurd (false≢true n)
  name_again i x (Some t) h ex e n = go (distinct_fields (struct_of T r).fields) refl
    where
      go : (b : Bool) → distinct_fields (struct_of T r).fields ≡ b → false ≡ b
      go false d = refl
      go true d =
          let found = among_present T x i first t (sym e) in
          absurd
          (distinct_apart
          (struct_at T r).count
          _
          d
          found.0
          i
          found.1
          (omega arith)
          (ap (λ k. (field_at T (k + found.0)).name) (sym ef) ∙ found.2 ∙ ex ∙ ap (λ k. (field_at T (k + i)).name) ef))

  pub names_apart : (above i : ℕ) → i ≤ count → count ≤ i → Apart T first above i → true ≡ distinct_fields (struct_of T r).fields
  unfolding struct_of
  names_apart above i h k A =
      sym
      (distinct_accepted
      (struct_at T r).count
      _
      (λ j l m n z. A.apart j l m (omega arith) (ap (λ k. (field_at T (k + j)).name) ef ∙ z ∙ ap (λ k. (field_at T (k + l)).name) (sym ef))))
