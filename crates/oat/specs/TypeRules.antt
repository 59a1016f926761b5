-- Document 01, 'The program file': the rules on types and the type list (number 3). Assumes nothing.
use Rattle.std.specs.Prelude.{Bool, false, not, ◌&&◌, ◌||◌, List, [], ◌∷◌, ◌++◌, ℕ, zero, suc, ◌+◌, length, get_or, eqb, ltb, leb}
use Rattle.oat.specs.Basics.{pick, all_below, sum_below}
use Rattle.oat.specs.Tables.{Tables, TypeRecord, type_at, entry_at}

-- Kinds: 0 int, 1 bool, 2 string, 3 void, 4 struct, 5 array, 6 function, 7 nullable.
abbrev pub kind_at : Tables → ℕ → ℕ
kind_at T i = (type_at T i).kind

-- the kinds that a nullable may hold
unfoldable pub is_reference_kind : ℕ → Bool
is_reference_kind k = eqb k 2 || eqb k 4 || eqb k 5 || eqb k 6

-- the type j is lower than i, and it isn't void
unfoldable pub is_lower_value : Tables → ℕ → ℕ → Bool
is_lower_value T i j = ltb j i && not (eqb (kind_at T j) 3)

-- how many entries of the type list a record takes: a function's parameters
unfoldable pub param_count : TypeRecord → ℕ
param_count r = pick (eqb r.kind 6) r.c 0

-- the total taken by the records before i
unfoldable pub taken_before : Tables → ℕ → ℕ
taken_before T i = sum_below i (λ j. param_count (type_at T j))

-- an operand not named for its kind is 0
unfoldable pub unused_bc : TypeRecord → Bool
unused_bc r = eqb r.b 0 && eqb r.c 0

-- types 0 to 3 are of kinds 0 to 3
unfoldable pub base_rule : ℕ → TypeRecord → Bool
base_rule i r = eqb r.kind i && eqb r.a 0 && unused_bc r

-- array (a: element)
unfoldable pub array_rule : Tables → ℕ → TypeRecord → Bool
array_rule T i r = is_lower_value T i r.a && unused_bc r

-- the parameters from the entry `first` of the type list on are lower types, and none is void
unfoldable pub params_right : Tables → ℕ → ℕ → ℕ → Bool
params_right T i first count = all_below count (λ j. is_lower_value T i (entry_at T (first + j)))

-- function (a: return type, b: first parameter in the type list, c: how many)
unfoldable pub function_rule : Tables → ℕ → TypeRecord → Bool
function_rule T i r =
    ltb r.a i && eqb r.b (taken_before T i) && leb (r.b + r.c) (length T.list) && params_right T i r.b r.c

-- nullable (a: a type of kind 2, 4, 5 or 6)
unfoldable pub nullable_rule : Tables → ℕ → TypeRecord → Bool
nullable_rule T i r = ltb r.a i && is_reference_kind (kind_at T r.a) && unused_bc r

-- the rule of the type i, but for its parts; no later type is of kinds 0 to 3
unfoldable pub type_rule : Tables → ℕ → TypeRecord → Bool
type_rule T i r =
    pick (ltb i 4) (base_rule i r)
    (pick (eqb r.kind 4) (unused_bc r)
    (pick (eqb r.kind 5) (array_rule T i r)
    (pick (eqb r.kind 6) (function_rule T i r)
    (pick (eqb r.kind 7) (nullable_rule T i r) false))))

-- A type's parts: 1 for itself, plus those of what it refers to, where `part` gives the parts of a lower type.
unfoldable pub parts_of : (ℕ → ℕ) → Tables → TypeRecord → ℕ
parts_of part T r =
    1
    + pick (eqb r.kind 5 || eqb r.kind 7) (part r.a)
    (pick (eqb r.kind 6) (part r.a + sum_below r.c (λ j. part (entry_at T (r.b + j)))) 0)

-- the parts of the first n types, front to back
unfoldable pub first_parts : Tables → ℕ → List ℕ
first_parts T zero = []
first_parts T (suc n) = first_parts T n ++ (parts_of (λ j. get_or (first_parts T n) j 0) T (type_at T n) ∷ [])

unfoldable pub parts_at : Tables → ℕ → ℕ
parts_at T i = parts_of (λ j. get_or (first_parts T i) j 0) T (type_at T i)

-- every type keeps its rule and has at most `parts` parts, and the type list is used up
unfoldable pub each_type_right : ℕ → Tables → Bool
each_type_right parts T =
    all_below (length T.types) (λ i. type_rule T i (type_at T i) && leb (parts_at T i) parts)
    && eqb (taken_before T (length T.types)) (length T.list)

-- and types 0 to 3 are there
unfoldable pub types_right : ℕ → Tables → Bool
types_right parts T = leb 4 (length T.types) && each_type_right parts T
