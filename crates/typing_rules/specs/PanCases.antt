-- Document 01, 'Pan cases': the marked cases as one table, and what it is for a case to come out as the table has it: in a program file,
-- by the decision and by the rules. Assumes nothing.
use Rattle.std.specs.Prelude.{◌≡◌, Bool, true, false, List, [], ◌∷◌, ◌++◌, ℕ, eqb}
use Rattle.oat.specs.Tables.{TypeRecord, FieldRecord, StructRecord, NodeRecord, Tables, file_of}
use Rattle.oat.specs.Types.{Ty, int, struct, array, function, nullable, no_ty, and_ty, type_of, Field, Struct, structs_of}
use Rattle.oat.specs.Subtyping.{SubRet}
use Rattle.oat.specs.Decide.{below}
use Rattle.oat.specs.Syntax.{literal, truth, return_void, if_else, Block, block, empty, then}
use Rattle.oat.specs.Syntax as Syntax
use Rattle.oat.specs.ProgramFile.{widest, Program, base_types, IsFile}
use Rattle.typing_rules.specs.Contexts.{Context}
use Rattle.typing_rules.specs.Labels.{Labels}
use Rattle.typing_rules.specs.Steps.{DerivesFile}
use Rattle.typing_rules.specs.Check.{check_of}

-- a type written out, and its number in the file of the pan types
pub record Numbered : Type 0 where
  pub number : ℕ
  pub type : Ty

-- a block, and its nodes
pub record Body : Type 0 where
  pub tree : Block
  pub nodes : List NodeRecord

-- a pair of types, and whether the first is below the second; a body of a function from nothing to void, and the number of its answer
pub data Case : Type 0 where
  is_below : Numbered → Numbered → Bool → Case
  answers : Body → ℕ → Case

-- A{int p; int dry}, B{int p; int dry; int wet}, C{int p; int wet}: the names are 1, 2 and 3, the fields 1, 2 and 3
abbrev pub int_field : ℕ → Field
int_field x = record { name = x; type = int }

abbrev pub pan_structs : List Struct
pan_structs =
    record { name = 1; fields = int_field 1 ∷ int_field 2 ∷ [] }
    ∷ record { name = 2; fields = int_field 1 ∷ int_field 2 ∷ int_field 3 ∷ [] }
    ∷ record { name = 3; fields = int_field 1 ∷ int_field 3 ∷ [] }
    ∷ []

abbrev pub numbered : ℕ → Ty → Numbered
numbered n t = record { number = n; type = t }

abbrev pub A : Numbered
A = numbered 4 (struct 1)

abbrev pub B : Numbered
B = numbered 5 (struct 2)

abbrev pub C : Numbered
C = numbered 6 (struct 3)

-- A?, A[] and B[]
abbrev pub nullable_a : Numbered
nullable_a = numbered 7 (nullable (struct 1))

abbrev pub array_a : Numbered
array_a = numbered 8 (array (struct 1))

abbrev pub array_b : Numbered
array_b = numbered 9 (array (struct 2))

-- (A)->B and (B)->A
abbrev pub from_a_to_b : Numbered
from_a_to_b = numbered 10 (function (and_ty (struct 1) no_ty) (struct 2))

abbrev pub from_b_to_a : Numbered
from_b_to_a = numbered 11 (function (and_ty (struct 2) no_ty) (struct 1))

-- records by their numbers
abbrev pub type_record : ℕ → ℕ → ℕ → ℕ → TypeRecord
type_record k a b c = record { kind = k; a = a; b = b; c = c }

abbrev pub node_record : ℕ → ℕ → ℕ → ℕ → NodeRecord
node_record k x t n = record { kind = k; x = x; t = t; children = n }

abbrev pub int_record : ℕ → FieldRecord
int_record x = record { name = x; type = 0 }

abbrev pub struct_record : ℕ → ℕ → ℕ → StructRecord
struct_record x first n = record { name = x; first = first; count = n }

-- the file of the pan types: it has no declarations
abbrev pub pan_tables : Tables
pan_tables = record {
  types =
      base_types
      ++ (type_record 4 1 0 0 ∷ type_record 4 2 0 0 ∷ type_record 4 3 0 0 ∷ type_record 7 4 0 0 ∷ type_record 5 4 0 0 ∷ type_record 5 5 0 0 ∷ type_record 6 5 0 1 ∷ type_record 6 4 1 1 ∷ []);
  list = 4 ∷ 5 ∷ [];
  fields = int_record 1 ∷ int_record 2 ∷ int_record 1 ∷ int_record 2 ∷ int_record 3 ∷ int_record 1 ∷ int_record 3 ∷ [];
  structs = struct_record 1 0 2 ∷ struct_record 2 2 3 ∷ struct_record 3 5 2 ∷ [];
  built_ins = [];
  nodes = [];
}

abbrev pub pan_types : Program
pan_types = record { tables = pan_tables; declarations = [] }

-- the program void f() body: type 4 is a function from nothing to void, and f is 1
abbrev pub with_body : Body → Program
with_body b = record {
  tables = record {
    types = base_types ++ (type_record 6 3 0 0 ∷ []);
    list = [];
    fields = [];
    structs = [];
    built_ins = [];
    nodes = node_record 2 1 4 1 ∷ b.nodes;
  };
  declarations = Syntax.function 1 4 [] b.tree ∷ [];
}

abbrev pub returning : Body
returning = record { tree = block (then return_void empty); nodes = node_record 39 0 0 1 ∷ node_record 33 0 0 0 ∷ [] }

abbrev pub going : Body
going = record { tree = block empty; nodes = node_record 39 0 0 0 ∷ [] }

abbrev pub either : Body → Body → Body
either b c = record {
  tree = block (then (if_else (literal truth) b.tree c.tree) empty);
  nodes = node_record 39 0 0 1 ∷ node_record 35 0 0 3 ∷ node_record 11 0 0 0 ∷ b.nodes ++ c.nodes;
}

abbrev pub pan_cases : List Case
pan_cases =
    is_below B A true
    ∷ is_below A B false
    ∷ is_below C A false
    ∷ is_below A nullable_a true
    ∷ is_below nullable_a A false
    ∷ is_below array_b array_a false
    ∷ is_below from_a_to_b from_b_to_a true
    ∷ is_below from_b_to_a from_a_to_b false
    ∷ answers returning 0
    ∷ answers going 14
    ∷ answers (either returning returning) 0
    ∷ answers (either returning going) 14
    ∷ []

-- the rules derive it where the answer is yes, and do not where it is no
abbrev pub Says : Bool → Type 0 → Type 0
Says true P = P
Says false P = P → ⊥

-- the two types stand in the file of the pan types with its structs, and decision and rules say of them what the table has
pub record BelowIs (s t : Numbered) (b : Bool) : Type 0 where
  pub file : IsFile widest (file_of pan_tables) pan_types
  pub structs : structs_of pan_tables 3 ≡ pan_structs
  pub first : type_of pan_tables s.number ≡ s.type
  pub second : type_of pan_tables t.number ≡ t.type
  pub decision : below pan_structs s.type t.type ≡ b
  pub rules : Says b (SubRet pan_structs s.type t.type)

-- the program is a file's, the check answers what the table has, and there is a derivation exactly where the answer is 0
pub record AnswerIs (b : Body) (n : ℕ) : Type 0 where
  pub file : IsFile widest (file_of (with_body b).tables) (with_body b)
  pub decision : (check_of (with_body b)).number ≡ n
  pub rules : Says (eqb n 0) ((D : Labels Ty) × (C : Context Ty) × DerivesFile (with_body b) D C)

abbrev pub Holds : Case → Type 0
Holds (is_below s t b) = BelowIs s t b
Holds (answers b n) = AnswerIs b n

pub data AllHold : List Case → Type 0 where
  hold_none : AllHold []
  hold_also : {c : Case} {cs : List Case} → Holds c → AllHold cs → AllHold (c ∷ cs)
