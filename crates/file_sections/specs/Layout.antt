-- Document 01, 'Rows and answers': counts are tested section by section (missing 1, too large 2, records cut 1), leftover
-- bytes 1. Positions are counted in numbers. Assumes nothing.
use Rattle.std.specs.Prelude.{◌≡◌, true, List, ℕ, ◌+◌, ◌*◌, ◌≤◌, ◌<◌, length, eqb, ltb, Result, Ok, Err}
use Rattle.oat.specs.Basics.{pick, tabulate}
use Rattle.oat.specs.Tables.{Tables, TypeRecord, FieldRecord, StructRecord, BuiltInRecord, NodeRecord}
use Rattle.oat.specs.TypeRules.{types_right}
use Rattle.oat.specs.TableRules.{tables_right}
use Rattle.file_sections.specs.Numbers.{number_at}
use Rattle.file_sections.specs.declared.Sections.{Sections}
use Rattle.file_sections.specs.declared.Unreadable.{Unreadable}
use Rattle.file_sections.specs.declared.Unreadable.TheVariants.{Length, Count}
use Rattle.file_sections.specs.declared.layout.Section.{Section}

-- the section whose count is the number `at`, of at most `most` records of `size` numbers: its count, and what comes after it
unfoldable pub section_of : List ℕ → ℕ → ℕ → ℕ → Result Section Unreadable
section_of s at most size =
    pick (ltb (length s) (at * 2 + 2)) (Err Length)
    (pick (ltb most (number_at s at)) (Err Count)
    (pick (ltb (length s) ((at + 1 + number_at s at * size) * 2)) (Err Length)
    (Ok (record { count = number_at s at; next = at + 1 + number_at s at * size }))))

-- a refusal is passed on, and what is read goes on
abbrev pub then_reading : {A B : Type 0} → Result A Unreadable → (A → Result B Unreadable) → Result B Unreadable
then_reading (Err e) k = Err e
then_reading (Ok x) k = k x

-- the first three sections, laid; `structs_at` is the number after them
abbrev pub front_sections : ℕ → ℕ → ℕ → ℕ → ℕ → ℕ → Sections
front_sections types entries list members fields structs = record {
  types = types;
  list = entries;
  list_at = list + 1;
  fields = members;
  fields_at = fields + 1;
  structs = 0;
  structs_at = structs;
  built_ins = 0;
  built_ins_at = 0;
  nodes = 0;
  nodes_at = 0;
}

unfoldable pub front_of : List ℕ → Result Sections Unreadable
front_of s =
    then_reading (section_of s 0 512 4) λ types.
    then_reading (section_of s types.next 1024 1) λ list.
    then_reading (section_of s list.next 1024 2) λ fields.
    Ok (front_sections types.count list.count types.next fields.count list.next fields.next)

-- all six sections, laid
abbrev pub all_sections : Sections → ℕ → ℕ → ℕ → ℕ → ℕ → Sections
all_sections F records built_ins given nodes count = record {
  types = F.types;
  list = F.list;
  list_at = F.list_at;
  fields = F.fields;
  fields_at = F.fields_at;
  structs = records;
  structs_at = F.structs_at + 1;
  built_ins = given;
  built_ins_at = built_ins + 1;
  nodes = count;
  nodes_at = nodes + 1;
}

-- the six sections, in a fixed order, with nothing left over
unfoldable pub sections_of : List ℕ → Result Sections Unreadable
sections_of s =
    then_reading (front_of s) λ F.
    then_reading (section_of s F.structs_at 256 3) λ structs.
    then_reading (section_of s structs.next 128 2) λ built_ins.
    then_reading (section_of s built_ins.next 4096 4) λ nodes.
    pick (eqb (length s) (nodes.next * 2)) (Ok (all_sections F structs.count structs.next built_ins.count built_ins.next nodes.count)) (Err Length)

-- the sections stand end to end in the file, and none is larger than its most
pub record Laid (s : List ℕ) (S : Sections) : Type 0 where
  pub list_at : S.list_at ≡ S.types * 4 + 2
  pub fields_at : S.fields_at ≡ S.list_at + S.list + 1
  pub structs_at : S.structs_at ≡ S.fields_at + S.fields * 2 + 1
  pub built_ins_at : S.built_ins_at ≡ S.structs_at + S.structs * 3 + 1
  pub nodes_at : S.nodes_at ≡ S.built_ins_at + S.built_ins * 2 + 1
  pub end : length s ≡ (S.nodes_at + S.nodes * 4) * 2
  pub types_most : S.types ≤ 512
  pub list_most : S.list ≤ 1024
  pub fields_most : S.fields ≤ 1024
  pub structs_most : S.structs ≤ 256
  pub built_ins_most : S.built_ins ≤ 128
  pub nodes_most : S.nodes ≤ 4096

-- the sections stand in the file, and one of them has a record i
pub record Has (s : List ℕ) (S : Sections) (i count : ℕ) : Type 0 where
  pub laid : Laid s S
  pub within : i < count

-- the record that has these numbers, the number j being f j
abbrev pub type_from : (ℕ → ℕ) → TypeRecord
type_from f = record { kind = f 0; a = f 1; b = f 2; c = f 3 }

abbrev pub entry_from : (ℕ → ℕ) → ℕ
entry_from f = f 0

abbrev pub field_from : (ℕ → ℕ) → FieldRecord
field_from f = record { name = f 0; type = f 1 }

abbrev pub struct_from : (ℕ → ℕ) → StructRecord
struct_from f = record { name = f 0; first = f 1; count = f 2 }

abbrev pub built_in_from : (ℕ → ℕ) → BuiltInRecord
built_in_from f = record { name = f 0; type = f 1 }

abbrev pub node_from : (ℕ → ℕ) → NodeRecord
node_from f = record { kind = f 0; x = f 1; t = f 2; children = f 3 }

-- `count` records of `size` numbers, the first at the number `at`
unfoldable pub records_at : {A : Type 0} → ((ℕ → ℕ) → A) → ℕ → List ℕ → ℕ → ℕ → List A
records_at from size s at count = tabulate count (λ i. from (λ j. number_at s (at + i * size + j)))

-- the records of the sections
unfoldable pub tables_of : List ℕ → Sections → Tables
tables_of s S = record {
  types = records_at type_from 4 s 1 S.types;
  list = records_at entry_from 1 s S.list_at S.list;
  fields = records_at field_from 2 s S.fields_at S.fields;
  structs = records_at struct_from 3 s S.structs_at S.structs;
  built_ins = records_at built_in_from 2 s S.built_ins_at S.built_ins;
  nodes = records_at node_from 4 s S.nodes_at S.nodes;
}

-- the sections stand in the file, and its types, type list, fields, structs and built-ins keep the rules: none of 1 to 4 applies to it
pub record GoodTables (s : List ℕ) (S : Sections) : Type 0 where
  pub laid : Laid s S
  pub types : types_right 200 (tables_of s S) ≡ true
  pub tables : tables_right (tables_of s S) ≡ true
