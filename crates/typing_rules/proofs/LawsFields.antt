-- The fields of the structs of a file, by their type numbers and written out. Assumes nothing.
use mathlib.Core.Path.{◌≡◌, refl, ap, subst, ◌∙◌}
use mathlib.Core.Bool.{Bool, true, false}
use mathlib.Core.List.{List}
use Prim.Native.Nat.{ℕ, zero, suc, ◌+◌, ◌≤◌, ◌<◌}
use native.Mathlib.Nat.{not-suc-le-zero, add-zero}
use native.Mathlib.Omega.{arith}
use lib.ListN.{length}
use lib.Dec.{eqb}
use Rattle.oat.specs.Basics.{pick, sum_below, tabulate}
use Rattle.oat.specs.Tables.{Tables, field_at, struct_at}
use Rattle.oat.specs.TableRules.{fields_before}
use Rattle.oat.specs.Types.{Ty, type_of, Field, Struct, struct_of, Lookup, found, missing, lookup}
use Rattle.oat.proofs.LawsBasics.{below_or_last}
use Rattle.typing_rules.specs.Rules.{Member, has, lacks, member}
use Rattle.typing_rules.specs.Judge.{Number, number, unknown, field_among, field_of}
use Rattle.typing_rules.proofs.Claims.{File, Value}

-- a field number written out
unfoldable pub member_of : Tables → Number → Member
member_of T (number a) = has (type_of T a)
member_of T unknown = lacks

-- the field x of a struct that is looked up
unfoldable pub member_in : ℕ → Lookup → Member
member_in x missing = lacks
member_in x (found fs) = member x fs

-- a struct that has the field is declared
pub from_lookup : (x : ℕ) (u : Ty) (l : Lookup) → member_in x l ≡ has u → (fs : List Field) × (l ≡ found fs) × (member x fs ≡ has u)
unfolding member_in
from_lookup x u missing e = absurd (let z : ◌≡◌ {A = ℕ} 0 1 = cc in omega arith)
from_lookup x u (found fs) e = (fs, refl, e)

-- one part of a sum, with what is before it
sum_part : (n : ℕ) (f : ℕ → ℕ) (i : ℕ) → i < n → sum_below i f + f i ≤ sum_below n f
unfolding sum_below
sum_part zero f i h = absurd (not-suc-le-zero h)
sum_part (suc n) f i h =
    below_or_last (λ j. sum_below j f + f j ≤ sum_below (suc n) f) n i h (λ l. let s = sum_part n f i l in omega arith) (omega arith)

shift : (i j : ℕ) → i + suc j ≡ suc i + j
shift i j = omega arith

module _ (T : Tables) where
  abbrev field_written : ℕ → Field
  field_written i = record { name = (field_at T i).name; type = type_of T (field_at T i).type }

  -- the first field or struct, or one of the rest
  first_field : (t : Bool) (a : ℕ) (m : Member) (r : Number) → m ≡ member_of T r → pick t (has (type_of T a)) m ≡ member_of T (pick t (number a) r)
  unfolding member_of
  first_field true a m r e = refl
  first_field false a m r e = e

  first_struct : (t : Bool) (x : ℕ) (fs : List Field) (l : Lookup) (n r : Number) → member x fs ≡ member_of T n → member_in x l ≡ member_of T r
      → member_in x (pick t (found fs) l) ≡ member_of T (pick t n r)
  unfolding member_in
  first_struct true x fs l n r e g = e
  first_struct false x fs l n r e g = g

  -- the field x among `count` fields from `first` on
  among_is : (x : ℕ) (g : ℕ → Field) (first count : ℕ) → ((j : ℕ) → g j ≡ field_written (first + j))
      → member x (tabulate count g) ≡ member_of T (field_among T x first count)
  unfolding member tabulate member_of field_among
  among_is x g first zero e = refl
  among_is x g first (suc count) e =
      let rest = among_is x (λ j. g (suc j)) (suc first) count (λ j. e (suc j) ∙ ap field_written (shift first j)) in
      ap (λ m. pick (eqb m.name x) (has m.type) (member x (tabulate count (λ j. g (suc j))))) (e 0 ∙ ap field_written (add-zero first))
      ∙ first_field (eqb (field_at T first).name x) (field_at T first).type _ _ rest

  pub fields_of_struct : (x i : ℕ) → member x (struct_of T i).fields ≡ member_of T (field_among T x (struct_at T i).first (struct_at T i).count)
  unfolding struct_of
  fields_of_struct x i = among_is x (λ j. field_written ((struct_at T i).first + j)) (struct_at T i).first (struct_at T i).count (λ j. refl)

  -- of the struct s among `left` structs from i on
  pub member_is : (s x : ℕ) (g : ℕ → Struct) (i left : ℕ) → ((j : ℕ) → g j ≡ struct_of T (i + j))
      → member_in x (lookup (tabulate left g) s) ≡ member_of T (field_of T s x i left)
  unfolding member_in lookup tabulate member_of field_of struct_of
  member_is s x g i zero e = refl
  member_is s x g i (suc left) e =
      let rest = member_is s x (λ j. g (suc j)) (suc i) left (λ j. e (suc j) ∙ ap (struct_of T) (shift i j)) in
      let first = e 0 ∙ ap (struct_of T) (add-zero i) in
      ap (λ m. member_in x (pick (eqb m.name s) (found m.fields) (lookup (tabulate left (λ j. g (suc j))) s))) first
      ∙ first_struct (eqb (struct_at T i).name s) x (struct_of T i).fields _ _ _ (fields_of_struct x i) rest

  -- a number that is written out so
  pub from_number : (u : Ty) (n : Number) → member_of T n ≡ has u → (a : ℕ) × (n ≡ number a) × (u ≡ type_of T a)
  unfolding member_of
  from_number u (number a) e = (a, refl, cc)
  from_number u unknown e = absurd (let z : ◌≡◌ {A = ℕ} 0 1 = cc in omega arith)

-- a field's type is a value
module _ (T : Tables) (F : File T) where
  pub fields_listed : (i : ℕ) → i < length T.structs → (struct_at T i).first + (struct_at T i).count ≤ length T.fields
  unfolding fields_before
  fields_listed i h =
      let first = F.tables.struct i h in
      let all = F.tables.used_up in
      let part = sum_part (length T.structs) (λ j. (struct_at T j).count) i h in
      omega arith

  pub among_value : (x a first count : ℕ) → first + count ≤ length T.fields → field_among T x first count ≡ number a → Value T a
  unfolding field_among
  among_value x a first zero h e = absurd (let z : ◌≡◌ {A = ℕ} 0 1 = cc in omega arith)
  among_value x a first (suc count) h e = go (eqb (field_at T first).name x) (λ r. among_value x a (suc first) count (omega arith) r) e
    where
      go : (t : Bool) → (field_among T x (suc first) count ≡ number a → Value T a)
          → pick t (number (field_at T first).type) (field_among T x (suc first) count) ≡ number a → Value T a
      go true r q =
          let v = F.tables.field first (omega arith) in
          subst (Value T) (cc) (record { within = v.lower; value = v.value })
      go false r q = r q

  pub number_value : (s x a i left : ℕ) → i + left ≤ length T.structs → field_of T s x i left ≡ number a → Value T a
  unfolding field_of
  number_value s x a i zero h e = absurd (let z : ◌≡◌ {A = ℕ} 0 1 = cc in omega arith)
  number_value s x a i (suc left) h e = go (eqb (struct_at T i).name s) (λ r. number_value s x a (suc i) left (omega arith) r) e
    where
      go : (t : Bool) → (field_of T s x (suc i) left ≡ number a → Value T a)
          → pick t (field_among T x (struct_at T i).first (struct_at T i).count) (field_of T s x (suc i) left) ≡ number a → Value T a
      go true r q = among_value x a (struct_at T i).first (struct_at T i).count (fields_listed i (omega arith)) q
      go false r q = r q
