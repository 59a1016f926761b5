-- Document 01, 'The program file': the rules on fields, structs and built-ins (number 4). Assumes nothing.
use Rattle.std.specs.Prelude.{Bool, ◌&&◌, ℕ, length, eqb, ltb}
use Rattle.oat.specs.Basics.{all_below, sum_below}
use Rattle.oat.specs.Tables.{Tables, field_at, struct_at, built_in_at}
use Rattle.oat.specs.TypeRules.{kind_at, is_lower_value}

-- a field has a type of the file that isn't void
unfoldable pub field_rule : Tables → ℕ → Bool
field_rule T i = is_lower_value T (length T.types) (field_at T i).type

-- the total of fields taken by the structs before i
unfoldable pub fields_before : Tables → ℕ → ℕ
fields_before T i = sum_below i (λ j. (struct_at T j).count)

-- a struct's first field is the total taken by the structs before it
unfoldable pub struct_rule : Tables → ℕ → Bool
struct_rule T i = eqb (struct_at T i).first (fields_before T i)

-- every struct keeps its rule, and the fields are used up
unfoldable pub structs_right : Tables → Bool
structs_right T =
    all_below (length T.structs) (struct_rule T) && eqb (fields_before T (length T.structs)) (length T.fields)

-- the type t of the file is of the kind k
unfoldable pub has_kind : Tables → ℕ → ℕ → Bool
has_kind T t k = ltb t (length T.types) && eqb (kind_at T t) k

-- a built-in has a function type
unfoldable pub built_in_rule : Tables → ℕ → Bool
built_in_rule T i = has_kind T (built_in_at T i).type 6

-- the rules on fields, structs and built-ins
unfoldable pub tables_right : Tables → Bool
tables_right T =
    all_below (length T.fields) (field_rule T) && structs_right T && all_below (length T.built_ins) (built_in_rule T)
