-- Document 01's example of 60 bytes: a global of value true; its program, its derivation and its rows. And the same file with a name for
-- the value, which nothing binds: that one is refused. Assumes nothing.
use Rattle.std.specs.Prelude.{true, List, [], ◌∷◌, ℕ, zero, suc}
use Rattle.oat.specs.Tables.{Tables, NodeRecord}
use Rattle.oat.specs.Types.{Ty, bool}
use Rattle.oat.specs.Syntax.{literal, truth, name, global}
use Rattle.oat.specs.ProgramFile.{Program, base_types}
use Rattle.typing_rules.specs.Contexts.{empty, Context}
use Rattle.typing_rules.specs.Labels.{gives, Labels, unlabelled}
use Rattle.typing_rules.specs.Steps.{add_name, empty_context}

-- types 0 to 3, no list, fields, structs and built-ins, and the nodes (1, 5, 0, 1), (11, 0, 0, 0)
abbrev pub example_bytes : List ℕ
example_bytes =
    4 ∷ 0
    ∷ 0 ∷ 0 ∷ 0 ∷ 0 ∷ 0 ∷ 0 ∷ 0 ∷ 0
    ∷ 1 ∷ 0 ∷ 0 ∷ 0 ∷ 0 ∷ 0 ∷ 0 ∷ 0
    ∷ 2 ∷ 0 ∷ 0 ∷ 0 ∷ 0 ∷ 0 ∷ 0 ∷ 0
    ∷ 3 ∷ 0 ∷ 0 ∷ 0 ∷ 0 ∷ 0 ∷ 0 ∷ 0
    ∷ 0 ∷ 0
    ∷ 0 ∷ 0
    ∷ 0 ∷ 0
    ∷ 0 ∷ 0
    ∷ 2 ∷ 0
    ∷ 1 ∷ 0 ∷ 5 ∷ 0 ∷ 0 ∷ 0 ∷ 1 ∷ 0
    ∷ 11 ∷ 0 ∷ 0 ∷ 0 ∷ 0 ∷ 0 ∷ 0 ∷ 0
    ∷ []

-- a global, named 5, over the node of its value
abbrev pub example_tables : NodeRecord → Tables
example_tables value = record {
  types = base_types;
  list = [];
  fields = [];
  structs = [];
  built_ins = [];
  nodes = record { kind = 1; x = 5; t = 0; children = 1 } ∷ value ∷ [];
}

abbrev pub example : Program
example = record {
  tables = example_tables (record { kind = 11; x = 0; t = 0; children = 0 });
  declarations = global 5 (literal truth) ∷ [];
}

-- its derivation: nothing for the global, bool for its value, in empty scopes; the context has the global then
abbrev pub example_labels : Labels Ty
example_labels zero = unlabelled
example_labels (suc m) = record { result = gives bool; binder = 65535; before = empty; after = empty }

abbrev pub example_context : Context Ty
example_context = add_name empty_context 5 bool 0 true

-- results and binders
abbrev pub example_rows : List ℕ
example_rows = 1 ∷ 65535 ∷ 1 ∷ 65535 ∷ []

-- the value is the name 7
abbrev pub unbound : Program
unbound = record {
  tables = example_tables (record { kind = 15; x = 7; t = 0; children = 0 });
  declarations = global 5 (name 7) ∷ [];
}
