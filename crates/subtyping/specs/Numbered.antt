-- What subtyping and the equality test say of the numbers of an indexed file: of fields, of parameters, and of types. Assumes nothing.
use Rattle.std.specs.Prelude.{◌≡◌, Bool, true, false, ◌&&◌, List, ℕ, ◌+◌, ◌≤◌, ◌<◌, eqb, ltb}
use Rattle.oat.specs.Basics.{pick, all_below}
use Rattle.oat.specs.Tables.{Tables, type_at, entry_at, field_at}
use Rattle.oat.specs.TypeRules.{kind_at}
use Rattle.oat.specs.Types.{type_of, written_params}
use Rattle.oat.specs.Decide.{same_ty, below}
use Rattle.oat.specs.Pairs
use Rattle.oat.specs.Pairs.{plainly, pair, and_next, compare_same, compare_all, compare, below_pairs}
use Rattle.file_sections.specs.declared.Sections.{Sections}
use Rattle.file_sections.specs.Layout.{tables_of}
use Rattle.type_index.specs.Index.{declared, lowest_entry, formed_entry, same_params}
use Rattle.subtyping.specs.declared.below.Compared.{Compared}

-- the fields i and j have the same name and the same type
unfoldable pub same_field : Tables → ℕ → ℕ → Bool
same_field T i j =
    eqb (field_at T i).name (field_at T j).name && same_ty (type_of T (field_at T i).type) (type_of T (field_at T j).type)

-- `count` fields from p on are those from q on
unfoldable pub same_fields : Tables → ℕ → ℕ → ℕ → Bool
same_fields T p q count = all_below count (λ j. same_field T (p + j) (q + j))

-- the types a and b are equal and well-formed, as the index has it
unfoldable pub is_itself : List ℕ → ℕ → ℕ → Bool
is_itself index a b = eqb (lowest_entry index a) (lowest_entry index b) && formed_entry index a

-- the type a is below the type b
abbrev pub below_at : Tables → ℕ → ℕ → Bool
below_at T a b = below (declared T) (type_of T a) (type_of T b)

-- and how many pairs of types that compares
abbrev pub pairs_at : Tables → ℕ → ℕ → ℕ
pairs_at T a b = below_pairs (declared T) (type_of T a) (type_of T b)

-- a comparison on type numbers says what the definition's says, after as many pairs
pub record Matches (r : Compared) (c : Pairs.Compared) : Type 0 where
  pub holds : r.holds ≡ c.holds
  pub pairs : r.pairs ≡ c.pairs

-- the types a and b, compared
abbrev pub compare_at : Tables → ℕ → ℕ → Pairs.Compared
compare_at T a b = compare (declared T) (type_of T a) (type_of T b)

-- `count` parameters from the entry p on against those from q on, one by one
unfoldable pub compare_params : Tables → ℕ → ℕ → ℕ → Pairs.Compared
compare_params T p q count = compare_all (declared T) true (written_params (type_of T) T p count) (written_params (type_of T) T q count)

-- the function types a and b, compared: their numbers of parameters, then parameters, which turn round, then return types
unfoldable pub compare_functions : Tables → ℕ → ℕ → Pairs.Compared
compare_functions T a b =
    pair (pick (eqb (type_at T a).c (type_at T b).c)
    (and_next (compare_params T (type_at T b).b (type_at T a).b (type_at T a).c) (compare_at T (type_at T a).a (type_at T b).a))
    (plainly false))

-- the types a and b, tested for equality
abbrev pub same_at : Tables → ℕ → ℕ → Pairs.Compared
same_at T a b = compare_same (type_of T a) (type_of T b)

-- of `count` parameters from the entries p and q on the first j are equal, as the index has it, and the next, if there is one, are not
pub record Differ (index : List ℕ) (T : Tables) (p q count j : ℕ) : Type 0 where
  pub most : j ≤ count
  pub before : same_params index T p q j ≡ true
  pub apart : j < count → eqb (lowest_entry index (entry_at T (p + j))) (lowest_entry index (entry_at T (q + j))) ≡ false

-- the parameter j of the function type i, or its return type, which comes after them
unfoldable pub operand_at : Tables → ℕ → ℕ → ℕ
operand_at T i j = pick (ltb j (type_at T i).c) (entry_at T ((type_at T i).b + j)) (type_at T i).a

-- `count` entries from p on stand in the type list, each a type that is lower than i and isn't void
pub record Params (s : List ℕ) (S : Sections) (i p count : ℕ) : Type 0 where
  pub listed : p + count ≤ S.list
  pub lower : (j : ℕ) → j < count → entry_at (tables_of s S) (p + j) < i
  pub value : (j : ℕ) → j < count → kind_at (tables_of s S) (entry_at (tables_of s S) (p + j)) ≡ 3 → ⊥
