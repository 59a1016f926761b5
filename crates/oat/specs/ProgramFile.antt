-- Document 01, 'The program file', and document 02, (xi), its limits, and (v), what zero bytes mean: what it is for bytes to be a program
-- file. A file can be read exactly when this holds of its bytes and some program (`program_file`, proofs/Theorem.antt). Assumes nothing.
use Rattle.std.specs.Prelude.{◌≡◌, Bool, true, ◌&&◌, List, [], ◌∷◌, ℕ, ◌≤◌, length, leb}
use Rattle.oat.specs.Tables.{TypeRecord, Tables, file_of}
use Rattle.oat.specs.TypeRules.{types_right}
use Rattle.oat.specs.TableRules.{tables_right}
use Rattle.oat.specs.Syntax.{Decl, size_decls, depth_decls}
use Rattle.oat.specs.Nodes.{DeclsStand}

-- the two limits: how many parts a type has at most, and how deep nodes are at most
pub record Limits : Type 0 where
  pub parts : ℕ
  pub depth : ℕ

abbrev pub limits_of : ℕ → ℕ → Limits
limits_of parts depth = record { parts = parts; depth = depth }

-- from 1 to `most`, both ends in
unfoldable pub from_one_to : ℕ → ℕ → Bool
from_one_to most n = leb 1 n && leb n most

-- in range: from 1 to 200 parts, from 1 to 100 levels
unfoldable pub in_range : Limits → Bool
in_range l = from_one_to 200 l.parts && from_one_to 100 l.depth

-- document 01's limits, the widest
abbrev pub widest : Limits
widest = limits_of 200 100

-- a is within b: b is at least a in both
pub record Within (a b : Limits) : Type 0 where
  pub parts : a.parts ≤ b.parts
  pub depth : a.depth ≤ b.depth

-- a program: its sections, and the trees of its declarations
pub record Program : Type 0 where
  pub tables : Tables
  pub declarations : List Decl

-- types 0 to 3: int, bool, string and void
abbrev pub base_types : List TypeRecord
base_types = base 0 ∷ base 1 ∷ base 2 ∷ base 3 ∷ []
  where
    base : ℕ → TypeRecord
    base k = record { kind = k; a = 0; b = 0; c = 0 }

-- types 0 to 3 and nothing else
abbrev pub blank_tables : Tables
blank_tables = record { types = base_types; list = []; fields = []; structs = []; built_ins = []; nodes = [] }

-- its program: no declarations
abbrev pub blank_program : Program
blank_program = record { tables = blank_tables; declarations = [] }

-- the blank file: the 44 bytes which hold types 0 to 3 and nothing else
abbrev pub blank_file : List ℕ
blank_file = file_of blank_tables

-- the bytes, or others where there are none
unfoldable pub or_else : List ℕ → List ℕ → List ℕ
or_else others [] = others
or_else others (b ∷ bytes) = b ∷ bytes

-- the bytes that are meant: zero bytes mean the blank file, all others themselves
abbrev pub meant : List ℕ → List ℕ
meant bytes = or_else blank_file bytes

-- each section has at most this many records
pub record Counts (T : Tables) : Type 0 where
  pub types : length T.types ≤ 512
  pub list : length T.list ≤ 1024
  pub fields : length T.fields ≤ 1024
  pub structs : length T.structs ≤ 256
  pub built_ins : length T.built_ins ≤ 128
  pub nodes : length T.nodes ≤ 4096

-- the bytes are a program file, that of p: in the bytes that are meant the sections stand end to end, every record keeps its rule, and the
-- trees of the declarations stand from node 0 on, use up the nodes and keep to the depth
pub record IsFile (limits : Limits) (bytes : List ℕ) (p : Program) : Type 0 where
  pub layout : meant bytes ≡ file_of p.tables
  pub counts : Counts p.tables
  pub types : types_right limits.parts p.tables ≡ true
  pub tables : tables_right p.tables ≡ true
  pub stand : DeclsStand p.tables 0 p.declarations
  pub used_up : size_decls p.declarations ≡ length p.tables.nodes
  pub deep : depth_decls p.declarations ≤ limits.depth
