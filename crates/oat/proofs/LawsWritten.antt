-- Taking a type number apart commutes with writing out: what the type i refers to is lower, so it is written out in turn.
-- Assumes nothing.
use mathlib.Core.Path.{◌≡◌, refl, ap, ap₂, ◌∙◌}
use mathlib.Core.List.{[]}
use Prim.Native.Nat.{ℕ, zero, suc, ◌+◌, ◌<◌}
use native.Mathlib.Nat.{not-suc-le-zero, add-zero}
use native.Mathlib.Omega.{arith}
use lib.ListN.{length, get_or, length-append, get_or-append}
use lib.Seq.{get_or_at}
use Rattle.oat.specs.Tables.{Tables, type_at, entry_at}
use Rattle.oat.specs.TypeRules.{kind_at}
use Rattle.oat.specs.Types.{Ty, int, bool, string, void, struct, array, function, nullable, and_ty, written_params, written, first_types, type_of}
use Rattle.oat.specs.Pairs.{length_tys}
use Rattle.oat.proofs.LawsBasics.{below_or_last}

first_long : (T : Tables) (n : ℕ) → length (first_types T n) ≡ n
unfolding first_types
first_long T zero = refl
first_long T (suc n) = rw length-append (omega (arith, first_long T n))

first_front : (T : Tables) (n j : ℕ) → j < n → get_or (first_types T (suc n)) j void ≡ get_or (first_types T n) j void
unfolding first_types
first_front T n j h = get_or-append (first_types T n) _ void j (rw (first_long T n) h)

first_last : (T : Tables) (n : ℕ) → get_or (first_types T (suc n)) n void ≡ type_of T n
unfolding first_types type_of
first_last T n = get_or_at (first_types T n) _ [] void n (first_long T n)

-- a lower type among the first n
pub first_at : (T : Tables) (n j : ℕ) → j < n → get_or (first_types T n) j void ≡ type_of T j
first_at T zero j h = absurd (not-suc-le-zero h)
first_at T (suc n) j h =
    below_or_last (λ k. get_or (first_types T (suc n)) k void ≡ type_of T k) n j h (λ l. first_front T n j l ∙ first_at T n j l) (first_last T n)

-- the parameters of a function type, each lower than the type
params_at : (T : Tables) (i first count : ℕ) → ((j : ℕ) → j < count → entry_at T (first + j) < i) → written_params (λ j. get_or (first_types T i) j void) T first count ≡ written_params (type_of T) T first count
unfolding written_params
params_at T i first zero h = refl
params_at T i first (suc count) h =
    let low : entry_at T first < i = rw add-zero at (h 0 (omega arith)) in
    ap₂ and_ty (first_at T i (entry_at T first) low) (params_at T i (suc first) count (λ j l. rw (shift j) (h (suc j) (omega arith))))
  where
    shift : (j : ℕ) → suc first + j ≡ first + suc j
    shift j = omega arith

-- the type i by its kind
module _ (T : Tables) (i : ℕ) where
  pub type_int : kind_at T i ≡ 0 → type_of T i ≡ int
  unfolding type_of written
  type_int k = rw k

  pub type_bool : kind_at T i ≡ 1 → type_of T i ≡ bool
  unfolding type_of written
  type_bool k = rw k

  pub type_string : kind_at T i ≡ 2 → type_of T i ≡ string
  unfolding type_of written
  type_string k = rw k

  pub type_void : kind_at T i ≡ 3 → type_of T i ≡ void
  unfolding type_of written
  type_void k = rw k

  pub type_struct : kind_at T i ≡ 4 → type_of T i ≡ struct (type_at T i).a
  unfolding type_of written
  type_struct k = rw k

  pub type_array : kind_at T i ≡ 5 → (type_at T i).a < i → type_of T i ≡ array (type_of T (type_at T i).a)
  unfolding type_of written
  type_array k h = rw k (ap array (first_at T i (type_at T i).a h))

  pub type_function : kind_at T i ≡ 6 → (type_at T i).a < i → ((j : ℕ) → j < (type_at T i).c → entry_at T ((type_at T i).b + j) < i) → type_of T i ≡ function (written_params (type_of T) T (type_at T i).b (type_at T i).c) (type_of T (type_at T i).a)
  unfolding type_of written
  type_function k h g = rw k (ap₂ function (params_at T i (type_at T i).b (type_at T i).c g) (first_at T i (type_at T i).a h))

  pub type_nullable : kind_at T i ≡ 7 → (type_at T i).a < i → type_of T i ≡ nullable (type_of T (type_at T i).a)
  unfolding type_of written
  type_nullable k h = rw k (ap nullable (first_at T i (type_at T i).a h))

-- the parameters of a function type are as many as it names
pub params_many : (at : ℕ → Ty) (T : Tables) (first count : ℕ) → length_tys (written_params at T first count) ≡ count
unfolding length_tys written_params
params_many at T first zero = refl
params_many at T first (suc count) = omega (arith, params_many at T (suc first) count)
