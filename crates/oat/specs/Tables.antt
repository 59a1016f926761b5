-- Document 01, 'The program file': the six sections as lists of records, and their bytes. Assumes nothing.
use Rattle.std.specs.Prelude.{List, [], ◌∷◌, ◌++◌, ℕ, ◌/◌, ◌%◌, length, get_or}

-- the record of a type: its kind, and what the kind makes of a, b and c
pub record TypeRecord : Type 0 where
  pub kind : ℕ
  pub a : ℕ
  pub b : ℕ
  pub c : ℕ

pub record FieldRecord : Type 0 where
  pub name : ℕ
  pub type : ℕ

pub record StructRecord : Type 0 where
  pub name : ℕ
  pub first : ℕ
  pub count : ℕ

pub record BuiltInRecord : Type 0 where
  pub name : ℕ
  pub type : ℕ

pub record NodeRecord : Type 0 where
  pub kind : ℕ
  pub x : ℕ
  pub t : ℕ
  pub children : ℕ

-- the six sections, in the file's order; `list` is the type list
pub record Tables : Type 0 where
  pub types : List TypeRecord
  pub list : List ℕ
  pub fields : List FieldRecord
  pub structs : List StructRecord
  pub built_ins : List BuiltInRecord
  pub nodes : List NodeRecord

-- the record with a given number; zeros past the end of its section
abbrev pub type_at : Tables → ℕ → TypeRecord
type_at T i = get_or T.types i (record { kind = 0; a = 0; b = 0; c = 0 })

abbrev pub entry_at : Tables → ℕ → ℕ
entry_at T i = get_or T.list i 0

abbrev pub field_at : Tables → ℕ → FieldRecord
field_at T i = get_or T.fields i (record { name = 0; type = 0 })

abbrev pub struct_at : Tables → ℕ → StructRecord
struct_at T i = get_or T.structs i (record { name = 0; first = 0; count = 0 })

abbrev pub built_in_at : Tables → ℕ → BuiltInRecord
built_in_at T i = get_or T.built_ins i (record { name = 0; type = 0 })

abbrev pub node_at : Tables → ℕ → NodeRecord
node_at T i = get_or T.nodes i (record { kind = 0; x = 0; t = 0; children = 0 })

-- the numbers of a record
abbrev pub type_numbers : TypeRecord → List ℕ
type_numbers r = r.kind ∷ r.a ∷ r.b ∷ r.c ∷ []

abbrev pub entry_numbers : ℕ → List ℕ
entry_numbers n = n ∷ []

abbrev pub field_numbers : FieldRecord → List ℕ
field_numbers r = r.name ∷ r.type ∷ []

abbrev pub struct_numbers : StructRecord → List ℕ
struct_numbers r = r.name ∷ r.first ∷ r.count ∷ []

abbrev pub built_in_numbers : BuiltInRecord → List ℕ
built_in_numbers r = r.name ∷ r.type ∷ []

abbrev pub node_numbers : NodeRecord → List ℕ
node_numbers r = r.kind ∷ r.x ∷ r.t ∷ r.children ∷ []

-- the numbers of records, one record after another
unfoldable pub record_numbers : {A : Type 0} → (A → List ℕ) → List A → List ℕ
record_numbers numbers [] = []
record_numbers numbers (r ∷ rs) = numbers r ++ record_numbers numbers rs

-- a section: its count, then its records
abbrev pub section_numbers : {A : Type 0} → (A → List ℕ) → List A → List ℕ
section_numbers numbers rs = length rs ∷ record_numbers numbers rs

-- six sections in a fixed order, each after its count
unfoldable pub numbers_of : Tables → List ℕ
numbers_of T =
    section_numbers type_numbers T.types
    ++ (section_numbers entry_numbers T.list
    ++ (section_numbers field_numbers T.fields
    ++ (section_numbers struct_numbers T.structs
    ++ (section_numbers built_in_numbers T.built_ins ++ section_numbers node_numbers T.nodes))))

-- every number is 16 bits, low byte first
unfoldable pub bytes_of : List ℕ → List ℕ
bytes_of [] = []
bytes_of (n ∷ ns) = n % 256 ∷ n / 256 ∷ bytes_of ns

-- the bytes of the file that has these sections
abbrev pub file_of : Tables → List ℕ
file_of T = bytes_of (numbers_of T)
