-- The type of a field by its name, as the code answers it. Assumes nothing.
use Rattle.std.specs.Prelude.{ℕ, Option, Some, None, length, ltb}
use Rattle.oat.specs.Basics.{pick}
use Rattle.oat.specs.Tables.{Tables, struct_at}
use Rattle.typing_rules.specs.Judge.{Number, number, unknown, field_among}

-- the definition's answer
abbrev pub number_of : Option ℕ → Number
number_of (Some t) = number t
number_of None = unknown

-- the field x of the struct record r; none where there is no such record
unfoldable pub field_in : Tables → ℕ → ℕ → Number
field_in T r x = pick (ltb r (length T.structs)) (field_among T x (struct_at T r).first (struct_at T r).count) unknown
