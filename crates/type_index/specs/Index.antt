-- The index of a file's types: five numbers for each type i, and the heads of 64 chains. At i the lowest number of an equal type, at
-- 512 + i the first record of the struct that the type names, at 1024 + i 1 where the type is well-formed, at 1536 + i the link to the
-- type before it in its chain, at 2048 + h the head of the chain h, at 2112 + i the type's parts; links and heads are one higher than
-- the type that they lead to, 0 for none. Assumes nothing.
use Rattle.std.specs.Prelude.{◌≡◌, Bool, List, ℕ, zero, suc, ◌+◌, ◌*◌, ◌%◌, ◌≤◌, ◌<◌, length, get_or, set, eqb}
use Rattle.oat.specs.Basics.{pick, all_below, sum_below}
use Rattle.oat.specs.Tables.{Tables, type_at, entry_at, struct_at}
use Rattle.oat.specs.TypeRules.{kind_at}
use Rattle.oat.specs.Types.{Ty, int, bool, string, void, struct, array, function, nullable, Struct, type_of, structs_of}
use Rattle.oat.specs.Decide.{same_ty, is_formed}
use Rattle.oat.specs.Pairs.{length_tys, parts_ty}
use Rattle.chains.specs.Chains.{Chains}
use Rattle.file_sections.specs.declared.Sections.{Sections}
use Rattle.file_sections.specs.Layout.{Laid, tables_of}

-- the structs that a file declares
abbrev pub declared : Tables → List Struct
declared T = structs_of T (length T.structs)

-- the first number below n at which the test passes, else n
unfoldable pub first_below : ℕ → (ℕ → Bool) → ℕ
first_below zero p = 0
first_below (suc n) p = pick (eqb (first_below n p) n) (pick (p n) n (suc n)) (first_below n p)

-- the first record of the struct x, or the number of structs
unfoldable pub record_of : Tables → ℕ → ℕ
record_of T x = first_below (length T.structs) (λ i. eqb (struct_at T i).name x)

-- the same of the struct that the type i names; the number of structs where it names none
unfoldable pub struct_named : Tables → ℕ → ℕ
struct_named T i = pick (eqb (kind_at T i) 4) (record_of T (type_at T i).a) (length T.structs)

-- what the index has for the type i: the lowest number of an equal type, the first record of the struct that the type names, whether
-- the type is well-formed, and its parts
unfoldable pub lowest_entry : List ℕ → ℕ → ℕ
lowest_entry index i = get_or index i 0

unfoldable pub struct_entry : List ℕ → ℕ → ℕ
struct_entry index i = get_or index (512 + i) 0

unfoldable pub formed_entry : List ℕ → ℕ → Bool
formed_entry index i = eqb (get_or index (1024 + i) 0) 1

unfoldable pub parts_entry : List ℕ → ℕ → ℕ
parts_entry index i = get_or index (2112 + i) 0

-- the index has places for these entries
pub record Entered (index : List ℕ) (i : ℕ) : Type 0 where
  pub low : i < 512
  pub long : 2624 ≤ length index

-- the first n types are indexed
pub record Indexed (index : List ℕ) (T : Tables) (n : ℕ) : Type 0 where
  pub long : 2624 ≤ length index
  pub lowest : (i : ℕ) → i < n → lowest_entry index i ≡ first_below i (λ j. same_ty (type_of T j) (type_of T i))
  pub named : (i : ℕ) → i < n → struct_entry index i ≡ struct_named T i
  pub formed : (i : ℕ) → i < n → formed_entry index i ≡ is_formed (declared T) (type_of T i)
  pub parts : (i : ℕ) → i < n → parts_entry index i ≡ parts_ty (type_of T i)

-- the first type equal to t, or the number of types
unfoldable pub first_equal : Tables → Ty → ℕ
first_equal T t = first_below (length T.types) (λ i. same_ty (type_of T i) t)

-- the chain of a type, below 64: a base type's by its kind, a struct's by its name, any other type's by its kind and the first type
-- equal to the element, the reference or the return type, a function type's by its number of parameters too
unfoldable pub chain_of : Tables → Ty → ℕ
chain_of T int = 0
chain_of T bool = 1
chain_of T string = 2
chain_of T void = 3
chain_of T (struct x) = x % 64
chain_of T (array t) = (first_equal T t + 5) % 64
chain_of T (function ts t) = (first_equal T t + 6 + length_tys ts * 8) % 64
chain_of T (nullable t) = (first_equal T t + 7) % 64

-- that of the type i
unfoldable pub bucket_of : Tables → ℕ → ℕ
bucket_of T i = chain_of T (type_of T i)

-- the chains lead through the first n types
pub record Chained (index : List ℕ) (T : Tables) (n : ℕ) : Type 0 where
  pub long : 2624 ≤ length index
  pub chains : Chains 2048 64 1536 (bucket_of T) index n

-- an index, with the type i put first in its chain
abbrev pub linking : List ℕ → ℕ → ℕ → List ℕ
linking index i bucket = set (set index (1536 + i) (get_or index (2048 + bucket) 0)) (2048 + bucket) (i + 1)

-- the same, with the four entries of the type i too
unfoldable pub entering : List ℕ → ℕ → ℕ → ℕ → Bool → ℕ → ℕ → List ℕ
entering index i lowest named formed parts bucket =
    linking (set (set (set (set index i lowest) (512 + i) named) (1024 + i) (pick formed 1 0)) (2112 + i) parts) i bucket

-- the first n chains are empty
pub record Cleared (index : List ℕ) (n : ℕ) : Type 0 where
  pub heads : (h : ℕ) → h < n → get_or index (2048 + h) 0 ≡ 0

-- `count` entries of the type list from the entry `first` on are in the file, each a type below 512
pub record Listed (s : List ℕ) (S : Sections) (first count : ℕ) : Type 0 where
  pub laid : Laid s S
  pub room : first + count ≤ S.list
  pub below : (j : ℕ) → j < count → entry_at (tables_of s S) (first + j) < 512

-- the file has a type i, and the index has places for the entries of its operand a
pub record Operand (s : List ℕ) (S : Sections) (index : List ℕ) (i : ℕ) : Type 0 where
  pub there : i < S.types
  pub entered : Entered index (type_at (tables_of s S) i).a

-- the file has a type i, and the `count` parameters that it names
pub record Parameters (s : List ℕ) (S : Sections) (i count : ℕ) : Type 0 where
  pub there : i < S.types
  pub listed : Listed s S (type_at (tables_of s S) i).b count

-- `count` parameters from the entries p and q of the type list on are equal, one by one, as the index has it
unfoldable pub same_params : List ℕ → Tables → ℕ → ℕ → ℕ → Bool
same_params index T p q count =
    all_below count (λ j. eqb (lowest_entry index (entry_at T (p + j))) (lowest_entry index (entry_at T (q + j))))

-- `count` parameters from the entry `first` of the type list on are well-formed, as the index has it
unfoldable pub params_formed : List ℕ → Tables → ℕ → ℕ → Bool
params_formed index T first count = all_below count (λ j. formed_entry index (entry_at T (first + j)))

-- the parts of `count` parameters from the entry `first` of the type list on, as the index has them
unfoldable pub params_parts : List ℕ → Tables → ℕ → ℕ → ℕ
params_parts index T first count = sum_below count (λ j. parts_entry index (entry_at T (first + j)))
