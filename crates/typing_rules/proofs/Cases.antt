-- Small programs with the answers of the independent peer, computed: every rule is gone through, every number from 7 to 16 appears at
-- each kind of place, and rows are written out. One theorem for each: the program is that of a file, and the definition of the check
-- answers as the peer did (`tests/rules/cases.py` writes this file). Assumes nothing.
use mathlib.Core.Path.{◌≡◌, refl}
use mathlib.Core.List.{List, [], ◌∷◌}
use Prim.Native.Nat.{ℕ}
use Rattle.oat.specs.Tables.{TypeRecord, FieldRecord, StructRecord, BuiltInRecord, NodeRecord, file_of}
use Rattle.oat.specs.Syntax.{truth, falsity, integer, text, null, literal, name, array_literal, default_array, array_with, index, length_of, struct_literal, field, call, unary, binary, none, also, no_init, init, name_target, field_target, no_var, next_var, no_condition, condition, assign, var, return_value, return_void, call_stmt, if_else, if_null, for, while, no_step, step, block, empty, then, global, function}
use Rattle.oat.specs.ProgramFile.{widest, Program, IsFile}
use Rattle.typing_rules.specs.Check.{check_of}
use Rattle.typing_rules.proofs.LawsComputed.{computed, is_file, is-file}

abbrev pub ty : ℕ → ℕ → ℕ → ℕ → TypeRecord
ty k a b c = record { kind = k; a = a; b = b; c = c }

abbrev pub fd : ℕ → ℕ → FieldRecord
fd a b = record { name = a; type = b }

abbrev pub st : ℕ → ℕ → ℕ → StructRecord
st a b c = record { name = a; first = b; count = c }

abbrev pub bi : ℕ → ℕ → BuiltInRecord
bi a b = record { name = a; type = b }

abbrev pub nd : ℕ → ℕ → ℕ → ℕ → NodeRecord
nd k x t c = record { kind = k; x = x; t = t; children = c }

-- the program is that of a file, and the check answers number, step, place and pairs, with these rows
pub record Answers (p : Program) (number step place pairs : ℕ) (rows : List ℕ) : Type 0 where
  pub file : IsFile widest (file_of p.tables) p
  pub answer : check_of p ≡ record { number = number; step = step; place = place; pairs = pairs; rows = rows }

unfoldable pub program_accepted_1 : Program
program_accepted_1 = record {
  tables = record {
    types = (ty 0 0 0 0 ∷ ty 1 0 0 0 ∷ ty 2 0 0 0 ∷ ty 3 0 0 0 ∷ ty 7 2 0 0 ∷ ty 6 1 0 2 ∷ []);
    list = (4 ∷ 4 ∷ []);
    fields = ([]);
    structs = ([]);
    built_ins = ([]);
    nodes = (nd 2 10 5 3 ∷ nd 3 20 0 0 ∷ nd 3 21 0 0 ∷ nd 39 0 0 1 ∷ nd 32 0 0 1 ∷ nd 26 10 0 2 ∷ nd 15 20 0 0 ∷ nd 15 21 0 0
        ∷ []);
  };
  declarations = (function 10 5 (20 ∷ 21 ∷ []) (block (then (return_value (binary 10 (name 20) (name 21))) empty)) ∷ []);
}

pub accepted_1 : Answers program_accepted_1 0 2 0 5 (1 ∷ 65535 ∷ 4 ∷ 65535 ∷ 4 ∷ 65535 ∷ 1 ∷ 65535 ∷ 1 ∷ 65535 ∷ 1 ∷ 65535 ∷ 4 ∷ 1
    ∷ 4 ∷ 2 ∷ [])
unfolding program_accepted_1 computed is_file
accepted_1 = record { file = is-file widest program_accepted_1 refl; answer = refl }

unfoldable pub program_accepted_2 : Program
program_accepted_2 = record {
  tables = record {
    types = (ty 0 0 0 0 ∷ ty 1 0 0 0 ∷ ty 2 0 0 0 ∷ ty 3 0 0 0 ∷ ty 6 3 0 0 ∷ ty 6 0 0 0 ∷ ty 6 0 0 1 ∷ ty 6 3 1 2 ∷ ty 7 2 0 0
        ∷ ty 5 0 0 0 ∷ ty 5 9 0 0 ∷ ty 7 9 0 0 ∷ ty 5 1 0 0 ∷ ty 6 3 3 1 ∷ ty 6 9 4 1 ∷ ty 4 9 0 0 ∷ ty 7 15 0 0 ∷ ty 5 15 0 0
        ∷ []);
    list = (0 ∷ 0 ∷ 0 ∷ 8 ∷ 9 ∷ []);
    fields = ([]);
    structs = ([]);
    built_ins = ([]);
    nodes = (nd 2 10 6 2 ∷ nd 3 20 0 0 ∷ nd 39 0 0 2 ∷ nd 37 0 0 3 ∷ nd 40 0 0 0 ∷ nd 38 0 0 2 ∷ nd 12 0 0 0 ∷ nd 39 0 0 2
        ∷ nd 31 20 0 1 ∷ nd 11 0 0 0 ∷ nd 30 0 0 2 ∷ nd 15 20 0 0 ∷ nd 11 0 0 0 ∷ nd 39 0 0 0 ∷ nd 32 0 0 1 ∷ nd 15 20 0 0 ∷ []);
  };
  declarations = (function 10 6 (20 ∷ []) (block (then (for no_var no_condition (step (while (literal falsity) (block (then (var 20
      (literal truth)) (then (assign (name_target 20) (literal truth)) empty))))) (block empty)) (then (return_value (name 20))
      empty))) ∷ []);
}

pub accepted_2 : Answers program_accepted_2 0 2 0 2 (1 ∷ 65535 ∷ 0 ∷ 65535 ∷ 1 ∷ 65535 ∷ 0 ∷ 65535 ∷ 0 ∷ 65535 ∷ 0 ∷ 65535 ∷ 1
    ∷ 65535 ∷ 0 ∷ 65535 ∷ 0 ∷ 65535 ∷ 1 ∷ 65535 ∷ 0 ∷ 65535 ∷ 1 ∷ 8 ∷ 1 ∷ 65535 ∷ 0 ∷ 65535 ∷ 1 ∷ 65535 ∷ 0 ∷ 1 ∷ [])
unfolding program_accepted_2 computed is_file
accepted_2 = record { file = is-file widest program_accepted_2 refl; answer = refl }

unfoldable pub program_accepted_3 : Program
program_accepted_3 = record {
  tables = record {
    types = (ty 0 0 0 0 ∷ ty 1 0 0 0 ∷ ty 2 0 0 0 ∷ ty 3 0 0 0 ∷ ty 5 0 0 0 ∷ ty 7 2 0 0 ∷ ty 6 3 0 1 ∷ ty 6 3 1 1 ∷ ty 6 3 2 2
        ∷ []);
    list = (5 ∷ 2 ∷ 6 ∷ 7 ∷ []);
    fields = ([]);
    structs = ([]);
    built_ins = ([]);
    nodes = (nd 2 10 8 3 ∷ nd 3 20 0 0 ∷ nd 3 21 0 0 ∷ nd 39 0 0 6 ∷ nd 31 30 0 1 ∷ nd 17 0 4 1 ∷ nd 13 3 0 0 ∷ nd 31 31 0 1
        ∷ nd 26 1 0 2 ∷ nd 20 0 0 1 ∷ nd 15 30 0 0 ∷ nd 19 0 0 2 ∷ nd 15 30 0 0 ∷ nd 13 0 0 0 ∷ nd 35 0 0 3 ∷ nd 25 1 0 1
        ∷ nd 11 0 0 0 ∷ nd 39 0 0 0 ∷ nd 39 0 0 0 ∷ nd 38 0 0 2 ∷ nd 26 6 0 2 ∷ nd 13 1 0 0 ∷ nd 13 2 0 0 ∷ nd 39 0 0 0
        ∷ nd 31 22 0 1 ∷ nd 15 20 0 0 ∷ nd 33 0 0 0 ∷ []);
  };
  declarations = (function 10 8 (20 ∷ 21 ∷ []) (block (then (var 30 (default_array 4 (literal (integer 3)))) (then (var 31 (binary
      1 (length_of (name 30)) (index (name 30) (literal (integer 0))))) (then (if_else (unary 1 (literal truth)) (block empty)
      (block empty)) (then (while (binary 6 (literal (integer 1)) (literal (integer 2))) (block empty)) (then (var 22 (name 20))
      (then return_void empty))))))) ∷ []);
}

pub accepted_3 : Answers program_accepted_3 0 2 0 0 (1 ∷ 65535 ∷ 6 ∷ 65535 ∷ 7 ∷ 65535 ∷ 1 ∷ 65535 ∷ 0 ∷ 65535 ∷ 4 ∷ 65535 ∷ 0
    ∷ 65535 ∷ 0 ∷ 65535 ∷ 0 ∷ 65535 ∷ 0 ∷ 65535 ∷ 4 ∷ 4 ∷ 0 ∷ 65535 ∷ 4 ∷ 4 ∷ 0 ∷ 65535 ∷ 0 ∷ 65535 ∷ 1 ∷ 65535 ∷ 1 ∷ 65535 ∷ 0
    ∷ 65535 ∷ 0 ∷ 65535 ∷ 0 ∷ 65535 ∷ 1 ∷ 65535 ∷ 0 ∷ 65535 ∷ 0 ∷ 65535 ∷ 0 ∷ 65535 ∷ 0 ∷ 65535 ∷ 6 ∷ 1 ∷ 1 ∷ 65535 ∷ [])
unfolding program_accepted_3 computed is_file
accepted_3 = record { file = is-file widest program_accepted_3 refl; answer = refl }

unfoldable pub program_accepted_4 : Program
program_accepted_4 = record {
  tables = record {
    types = (ty 0 0 0 0 ∷ ty 1 0 0 0 ∷ ty 2 0 0 0 ∷ ty 3 0 0 0 ∷ ty 4 1 0 0 ∷ ty 4 2 0 0 ∷ ty 4 3 0 0 ∷ ty 7 4 0 0 ∷ ty 7 5 0 0
        ∷ ty 5 4 0 0 ∷ ty 5 5 0 0 ∷ ty 5 0 0 0 ∷ ty 6 3 0 0 ∷ ty 6 0 0 0 ∷ ty 6 0 0 1 ∷ ty 4 9 0 0 ∷ ty 7 15 0 0 ∷ ty 5 15 0 0
        ∷ ty 6 3 1 1 ∷ ty 7 2 0 0 ∷ ty 5 2 0 0 ∷ ty 5 0 0 0 ∷ ty 4 1 0 0 ∷ ty 5 7 0 0 ∷ ty 7 11 0 0 ∷ ty 6 5 2 1 ∷ ty 6 4 3 1
        ∷ ty 5 1 0 0 ∷ ty 6 3 4 2 ∷ ty 5 11 0 0 ∷ ty 7 13 0 0 ∷ ty 6 15 6 0 ∷ ty 6 17 6 1 ∷ ty 7 17 0 0 ∷ ty 6 21 7 0
        ∷ ty 6 21 7 1 ∷ ty 6 11 8 1 ∷ ty 6 3 9 1 ∷ ty 6 3 10 2 ∷ ty 6 3 12 2 ∷ []);
    list = (0 ∷ 15 ∷ 4 ∷ 5 ∷ 0 ∷ 1 ∷ 17 ∷ 21 ∷ 22 ∷ 7 ∷ 0 ∷ 0 ∷ 4 ∷ 4 ∷ []);
    fields = ([]);
    structs = ([]);
    built_ins = ([]);
    nodes = (nd 2 10 13 1 ∷ nd 39 0 0 1 ∷ nd 32 0 0 1 ∷ nd 25 0 0 1 ∷ nd 13 1 0 0 ∷ []);
  };
  declarations = (function 10 13 ([]) (block (then (return_value (unary 0 (literal (integer 1)))) empty)) ∷ []);
}

pub accepted_4 : Answers program_accepted_4 0 2 0 1 (1 ∷ 65535 ∷ 1 ∷ 65535 ∷ 1 ∷ 65535 ∷ 0 ∷ 65535 ∷ 0 ∷ 65535 ∷ [])
unfolding program_accepted_4 computed is_file
accepted_4 = record { file = is-file widest program_accepted_4 refl; answer = refl }

unfoldable pub program_accepted_5 : Program
program_accepted_5 = record {
  tables = record {
    types = (ty 0 0 0 0 ∷ ty 1 0 0 0 ∷ ty 2 0 0 0 ∷ ty 3 0 0 0 ∷ ty 4 1 0 0 ∷ ty 4 2 0 0 ∷ ty 4 3 0 0 ∷ ty 7 4 0 0 ∷ ty 7 5 0 0
        ∷ ty 5 4 0 0 ∷ ty 5 5 0 0 ∷ ty 5 0 0 0 ∷ ty 6 3 0 0 ∷ ty 6 0 0 0 ∷ ty 6 0 0 1 ∷ ty 4 9 0 0 ∷ ty 7 15 0 0 ∷ ty 5 15 0 0
        ∷ ty 6 3 1 1 ∷ ty 7 2 0 0 ∷ ty 5 2 0 0 ∷ ty 5 0 0 0 ∷ ty 4 1 0 0 ∷ ty 5 7 0 0 ∷ ty 7 11 0 0 ∷ ty 6 5 2 1 ∷ ty 6 4 3 1
        ∷ ty 5 1 0 0 ∷ ty 6 3 4 2 ∷ ty 5 11 0 0 ∷ ty 7 13 0 0 ∷ ty 6 15 6 0 ∷ ty 6 17 6 1 ∷ ty 7 17 0 0 ∷ ty 6 21 7 0
        ∷ ty 6 21 7 1 ∷ ty 6 11 8 1 ∷ ty 6 3 9 1 ∷ ty 6 3 10 2 ∷ ty 6 3 12 2 ∷ []);
    list = (0 ∷ 15 ∷ 4 ∷ 5 ∷ 0 ∷ 1 ∷ 17 ∷ 21 ∷ 22 ∷ 7 ∷ 0 ∷ 0 ∷ 4 ∷ 4 ∷ []);
    fields = ([]);
    structs = ([]);
    built_ins = ([]);
    nodes = (nd 2 10 13 1 ∷ nd 39 0 0 1 ∷ nd 32 0 0 1 ∷ nd 26 3 0 2 ∷ nd 13 1 0 0 ∷ nd 13 1 0 0 ∷ []);
  };
  declarations = (function 10 13 ([]) (block (then (return_value (binary 3 (literal (integer 1)) (literal (integer 1)))) empty))
      ∷ []);
}

pub accepted_5 : Answers program_accepted_5 0 2 0 1 (1 ∷ 65535 ∷ 1 ∷ 65535 ∷ 1 ∷ 65535 ∷ 0 ∷ 65535 ∷ 0 ∷ 65535 ∷ 0 ∷ 65535 ∷ [])
unfolding program_accepted_5 computed is_file
accepted_5 = record { file = is-file widest program_accepted_5 refl; answer = refl }

unfoldable pub program_accepted_6 : Program
program_accepted_6 = record {
  tables = record {
    types = (ty 0 0 0 0 ∷ ty 1 0 0 0 ∷ ty 2 0 0 0 ∷ ty 3 0 0 0 ∷ ty 4 1 0 0 ∷ ty 4 2 0 0 ∷ ty 4 3 0 0 ∷ ty 7 4 0 0 ∷ ty 7 5 0 0
        ∷ ty 5 4 0 0 ∷ ty 5 5 0 0 ∷ ty 5 0 0 0 ∷ ty 6 3 0 0 ∷ ty 6 0 0 0 ∷ ty 6 0 0 1 ∷ ty 4 9 0 0 ∷ ty 7 15 0 0 ∷ ty 5 15 0 0
        ∷ ty 6 3 1 1 ∷ ty 7 2 0 0 ∷ ty 5 2 0 0 ∷ ty 5 0 0 0 ∷ ty 4 1 0 0 ∷ ty 5 7 0 0 ∷ ty 7 11 0 0 ∷ ty 6 5 2 1 ∷ ty 6 4 3 1
        ∷ ty 5 1 0 0 ∷ ty 6 3 4 2 ∷ ty 5 11 0 0 ∷ ty 7 13 0 0 ∷ ty 6 15 6 0 ∷ ty 6 17 6 1 ∷ ty 7 17 0 0 ∷ ty 6 21 7 0
        ∷ ty 6 21 7 1 ∷ ty 6 11 8 1 ∷ ty 6 3 9 1 ∷ ty 6 3 10 2 ∷ ty 6 3 12 2 ∷ []);
    list = (0 ∷ 15 ∷ 4 ∷ 5 ∷ 0 ∷ 1 ∷ 17 ∷ 21 ∷ 22 ∷ 7 ∷ 0 ∷ 0 ∷ 4 ∷ 4 ∷ []);
    fields = ([]);
    structs = ([]);
    built_ins = ([]);
    nodes = (nd 2 10 13 1 ∷ nd 39 0 0 1 ∷ nd 32 0 0 1 ∷ nd 26 5 0 2 ∷ nd 13 1 0 0 ∷ nd 13 1 0 0 ∷ []);
  };
  declarations = (function 10 13 ([]) (block (then (return_value (binary 5 (literal (integer 1)) (literal (integer 1)))) empty))
      ∷ []);
}

pub accepted_6 : Answers program_accepted_6 0 2 0 1 (1 ∷ 65535 ∷ 1 ∷ 65535 ∷ 1 ∷ 65535 ∷ 0 ∷ 65535 ∷ 0 ∷ 65535 ∷ 0 ∷ 65535 ∷ [])
unfolding program_accepted_6 computed is_file
accepted_6 = record { file = is-file widest program_accepted_6 refl; answer = refl }

unfoldable pub program_accepted_7 : Program
program_accepted_7 = record {
  tables = record {
    types = (ty 0 0 0 0 ∷ ty 1 0 0 0 ∷ ty 2 0 0 0 ∷ ty 3 0 0 0 ∷ ty 4 1 0 0 ∷ ty 4 2 0 0 ∷ ty 4 3 0 0 ∷ ty 7 4 0 0 ∷ ty 7 5 0 0
        ∷ ty 5 4 0 0 ∷ ty 5 5 0 0 ∷ ty 5 0 0 0 ∷ ty 6 3 0 0 ∷ ty 6 0 0 0 ∷ ty 6 0 0 1 ∷ ty 4 9 0 0 ∷ ty 7 15 0 0 ∷ ty 5 15 0 0
        ∷ ty 6 3 1 1 ∷ ty 7 2 0 0 ∷ ty 5 2 0 0 ∷ ty 5 0 0 0 ∷ ty 4 1 0 0 ∷ ty 5 7 0 0 ∷ ty 7 11 0 0 ∷ ty 6 5 2 1 ∷ ty 6 4 3 1
        ∷ ty 5 1 0 0 ∷ ty 6 3 4 2 ∷ ty 5 11 0 0 ∷ ty 7 13 0 0 ∷ ty 6 15 6 0 ∷ ty 6 17 6 1 ∷ ty 7 17 0 0 ∷ ty 6 21 7 0
        ∷ ty 6 21 7 1 ∷ ty 6 11 8 1 ∷ ty 6 3 9 1 ∷ ty 6 3 10 2 ∷ ty 6 3 12 2 ∷ []);
    list = (0 ∷ 15 ∷ 4 ∷ 5 ∷ 0 ∷ 1 ∷ 17 ∷ 21 ∷ 22 ∷ 7 ∷ 0 ∷ 0 ∷ 4 ∷ 4 ∷ []);
    fields = ([]);
    structs = ([]);
    built_ins = ([]);
    nodes = (nd 2 10 12 1 ∷ nd 39 0 0 2 ∷ nd 37 0 0 3 ∷ nd 40 0 0 0 ∷ nd 38 0 0 2 ∷ nd 11 0 0 0 ∷ nd 39 0 0 0 ∷ nd 39 0 0 0
        ∷ nd 33 0 0 0 ∷ []);
  };
  declarations = (function 10 12 ([]) (block (then (for no_var no_condition (step (while (literal truth) (block empty))) (block
      empty)) (then return_void empty))) ∷ []);
}

pub accepted_7 : Answers program_accepted_7 0 2 0 0 (1 ∷ 65535 ∷ 1 ∷ 65535 ∷ 0 ∷ 65535 ∷ 0 ∷ 65535 ∷ 0 ∷ 65535 ∷ 1 ∷ 65535 ∷ 0
    ∷ 65535 ∷ 0 ∷ 65535 ∷ 1 ∷ 65535 ∷ [])
unfolding program_accepted_7 computed is_file
accepted_7 = record { file = is-file widest program_accepted_7 refl; answer = refl }

unfoldable pub program_accepted_8 : Program
program_accepted_8 = record {
  tables = record {
    types = (ty 0 0 0 0 ∷ ty 1 0 0 0 ∷ ty 2 0 0 0 ∷ ty 3 0 0 0 ∷ ty 4 1 0 0 ∷ ty 4 2 0 0 ∷ ty 4 3 0 0 ∷ ty 7 4 0 0 ∷ ty 7 5 0 0
        ∷ ty 5 4 0 0 ∷ ty 5 5 0 0 ∷ ty 5 0 0 0 ∷ ty 6 3 0 0 ∷ ty 6 0 0 0 ∷ ty 6 0 0 1 ∷ ty 4 9 0 0 ∷ ty 7 15 0 0 ∷ ty 5 15 0 0
        ∷ ty 6 3 1 1 ∷ ty 7 2 0 0 ∷ ty 5 2 0 0 ∷ ty 5 0 0 0 ∷ ty 4 1 0 0 ∷ ty 5 7 0 0 ∷ ty 7 11 0 0 ∷ ty 6 5 2 1 ∷ ty 6 4 3 1
        ∷ ty 5 1 0 0 ∷ ty 6 3 4 2 ∷ ty 5 11 0 0 ∷ ty 7 13 0 0 ∷ ty 6 15 6 0 ∷ ty 6 17 6 1 ∷ ty 7 17 0 0 ∷ ty 6 21 7 0
        ∷ ty 6 21 7 1 ∷ ty 6 11 8 1 ∷ ty 6 3 9 1 ∷ ty 6 3 10 2 ∷ ty 6 3 12 2 ∷ []);
    list = (0 ∷ 15 ∷ 4 ∷ 5 ∷ 0 ∷ 1 ∷ 17 ∷ 21 ∷ 22 ∷ 7 ∷ 0 ∷ 0 ∷ 4 ∷ 4 ∷ []);
    fields = (fd 1 21 ∷ []);
    structs = (st 1 0 1 ∷ []);
    built_ins = ([]);
    nodes = (nd 2 10 34 1 ∷ nd 39 0 0 1 ∷ nd 32 0 0 1 ∷ nd 23 1 0 1 ∷ nd 21 0 4 1 ∷ nd 22 1 0 1 ∷ nd 16 0 11 0 ∷ []);
  };
  declarations = (function 10 34 ([]) (block (then (return_value (field 1 (struct_literal 4 (init 1 (array_literal 11 none)
      no_init)))) empty)) ∷ []);
}

pub accepted_8 : Answers program_accepted_8 0 4 0 4 (1 ∷ 65535 ∷ 1 ∷ 65535 ∷ 1 ∷ 65535 ∷ 21 ∷ 65535 ∷ 4 ∷ 65535 ∷ 11 ∷ 65535 ∷ 11
    ∷ 65535 ∷ [])
unfolding program_accepted_8 computed is_file
accepted_8 = record { file = is-file widest program_accepted_8 refl; answer = refl }

unfoldable pub program_accepted_9 : Program
program_accepted_9 = record {
  tables = record {
    types = (ty 0 0 0 0 ∷ ty 1 0 0 0 ∷ ty 2 0 0 0 ∷ ty 3 0 0 0 ∷ ty 6 3 0 0 ∷ ty 6 3 0 1 ∷ ty 6 0 1 0 ∷ ty 6 0 1 1 ∷ ty 7 2 0 0
        ∷ []);
    list = (1 ∷ 1 ∷ []);
    fields = ([]);
    structs = ([]);
    built_ins = (bi 50 4 ∷ []);
    nodes = (nd 1 40 0 1 ∷ nd 11 0 0 0 ∷ nd 1 41 0 1 ∷ nd 13 1 0 0 ∷ nd 2 10 6 1 ∷ nd 39 0 0 2 ∷ nd 30 0 0 2 ∷ nd 15 41 0 0
        ∷ nd 13 2 0 0 ∷ nd 35 0 0 3 ∷ nd 11 0 0 0 ∷ nd 39 0 0 3 ∷ nd 38 0 0 2 ∷ nd 11 0 0 0 ∷ nd 39 0 0 0 ∷ nd 35 0 0 3
        ∷ nd 15 40 0 0 ∷ nd 39 0 0 1 ∷ nd 38 0 0 2 ∷ nd 11 0 0 0 ∷ nd 39 0 0 0 ∷ nd 39 0 0 0 ∷ nd 38 0 0 2 ∷ nd 11 0 0 0
        ∷ nd 39 0 0 0 ∷ nd 39 0 0 2 ∷ nd 34 0 0 1 ∷ nd 15 50 0 0 ∷ nd 32 0 0 1 ∷ nd 13 1 0 0 ∷ []);
  };
  declarations = (global 40 (literal truth) ∷ global 41 (literal (integer 1)) ∷ function 10 6 ([]) (block (then (assign
      (name_target 41) (literal (integer 2))) (then (if_else (literal truth) (block (then (while (literal truth) (block empty))
      (then (if_else (name 40) (block (then (while (literal truth) (block empty)) empty)) (block empty)) (then (while (literal
      truth) (block empty)) empty)))) (block (then (call_stmt (name 50) none) (then (return_value (literal (integer 1))) empty))))
      empty))) ∷ []);
}

pub accepted_9 : Answers program_accepted_9 0 5 0 2 (1 ∷ 65535 ∷ 1 ∷ 65535 ∷ 0 ∷ 65535 ∷ 0 ∷ 65535 ∷ 1 ∷ 65535 ∷ 1 ∷ 65535 ∷ 0
    ∷ 65535 ∷ 0 ∷ 2 ∷ 0 ∷ 65535 ∷ 1 ∷ 65535 ∷ 1 ∷ 65535 ∷ 1 ∷ 65535 ∷ 0 ∷ 65535 ∷ 1 ∷ 65535 ∷ 0 ∷ 65535 ∷ 0 ∷ 65535 ∷ 1 ∷ 0 ∷ 1
    ∷ 65535 ∷ 1 ∷ 65535 ∷ 1 ∷ 65535 ∷ 0 ∷ 65535 ∷ 0 ∷ 65535 ∷ 1 ∷ 65535 ∷ 1 ∷ 65535 ∷ 0 ∷ 65535 ∷ 1 ∷ 65535 ∷ 0 ∷ 65535 ∷ 4
    ∷ 40000 ∷ 1 ∷ 65535 ∷ 0 ∷ 65535 ∷ [])
unfolding program_accepted_9 computed is_file
accepted_9 = record { file = is-file widest program_accepted_9 refl; answer = refl }

unfoldable pub program_accepted_10 : Program
program_accepted_10 = record {
  tables = record {
    types = (ty 0 0 0 0 ∷ ty 1 0 0 0 ∷ ty 2 0 0 0 ∷ ty 3 0 0 0 ∷ ty 6 3 0 0 ∷ ty 6 3 0 1 ∷ ty 6 3 1 1 ∷ ty 6 3 2 1 ∷ ty 7 2 0 0
        ∷ ty 5 0 0 0 ∷ ty 6 3 3 2 ∷ ty 6 0 5 1 ∷ ty 6 3 6 2 ∷ ty 6 0 8 0 ∷ []);
    list = (0 ∷ 1 ∷ 2 ∷ 0 ∷ 1 ∷ 8 ∷ 9 ∷ 0 ∷ []);
    fields = ([]);
    structs = ([]);
    built_ins = (bi 50 4 ∷ bi 60 5 ∷ bi 61 6 ∷ bi 62 7 ∷ []);
    nodes = (nd 1 40 0 1 ∷ nd 13 1 0 0 ∷ nd 2 10 12 3 ∷ nd 3 50 0 0 ∷ nd 3 21 0 0 ∷ nd 39 0 0 3 ∷ nd 36 50 2 3 ∷ nd 10 0 8 0
        ∷ nd 39 0 0 2 ∷ nd 31 20 0 1 ∷ nd 15 50 0 0 ∷ nd 36 20 2 3 ∷ nd 10 0 8 0 ∷ nd 39 0 0 2 ∷ nd 36 50 2 3 ∷ nd 10 0 8 0
        ∷ nd 39 0 0 1 ∷ nd 34 0 0 2 ∷ nd 15 62 0 0 ∷ nd 15 20 0 0 ∷ nd 39 0 0 2 ∷ nd 30 0 0 2 ∷ nd 15 20 0 0 ∷ nd 15 50 0 0
        ∷ nd 31 20 0 1 ∷ nd 18 21 9 2 ∷ nd 15 21 0 0 ∷ nd 13 1 0 0 ∷ nd 31 20 0 1 ∷ nd 15 50 0 0 ∷ nd 39 0 0 4 ∷ nd 31 20 0 1
        ∷ nd 15 21 0 0 ∷ nd 31 21 0 1 ∷ nd 15 50 0 0 ∷ nd 31 50 0 1 ∷ nd 18 50 9 2 ∷ nd 15 20 0 0 ∷ nd 15 20 0 0 ∷ nd 34 0 0 2
        ∷ nd 15 61 0 0 ∷ nd 12 0 0 0 ∷ nd 39 0 0 2 ∷ nd 31 50 0 1 ∷ nd 15 50 0 0 ∷ nd 31 20 0 1 ∷ nd 15 50 0 0 ∷ nd 34 0 0 2
        ∷ nd 15 61 0 0 ∷ nd 26 6 0 2 ∷ nd 15 21 0 0 ∷ nd 13 1 0 0 ∷ nd 33 0 0 0 ∷ []);
  };
  declarations = (global 40 (literal (integer 1)) ∷ function 10 12 (50 ∷ 21 ∷ []) (block (then (if_null 50 2 (null 8) (block (then
      (var 20 (name 50)) (then (if_null 20 2 (null 8) (block (then (if_null 50 2 (null 8) (block (then (call_stmt (name 62) (also
      (name 20) none)) empty)) (block (then (assign (name_target 20) (name 50)) (then (var 20 (array_with 9 21 (name 21) (literal
      (integer 1)))) empty)))) (then (var 20 (name 50)) empty))) (block (then (var 20 (name 21)) (then (var 21 (name 50)) (then
      (var 50 (array_with 9 50 (name 20) (name 20))) (then (call_stmt (name 61) (also (literal falsity) none)) empty)))))) empty)))
      (block (then (var 50 (name 50)) (then (var 20 (name 50)) empty)))) (then (call_stmt (name 61) (also (binary 6 (name 21)
      (literal (integer 1))) none)) (then return_void empty)))) ∷ []);
}

pub accepted_10 : Answers program_accepted_10 0 7 0 9 (0 ∷ 65535 ∷ 0 ∷ 65535 ∷ 1 ∷ 65535 ∷ 9 ∷ 65535 ∷ 0 ∷ 65535 ∷ 1 ∷ 65535 ∷ 0
    ∷ 65535 ∷ 8 ∷ 65535 ∷ 0 ∷ 65535 ∷ 0 ∷ 65535 ∷ 2 ∷ 6 ∷ 0 ∷ 65535 ∷ 8 ∷ 65535 ∷ 0 ∷ 65535 ∷ 0 ∷ 65535 ∷ 8 ∷ 65535 ∷ 0 ∷ 65535
    ∷ 0 ∷ 65535 ∷ 7 ∷ 40003 ∷ 2 ∷ 11 ∷ 0 ∷ 65535 ∷ 0 ∷ 65535 ∷ 2 ∷ 11 ∷ 2 ∷ 6 ∷ 0 ∷ 65535 ∷ 9 ∷ 65535 ∷ 0 ∷ 4 ∷ 0 ∷ 65535 ∷ 0
    ∷ 65535 ∷ 2 ∷ 6 ∷ 0 ∷ 65535 ∷ 0 ∷ 65535 ∷ 0 ∷ 4 ∷ 0 ∷ 65535 ∷ 2 ∷ 6 ∷ 0 ∷ 65535 ∷ 9 ∷ 65535 ∷ 0 ∷ 31 ∷ 0 ∷ 31 ∷ 0 ∷ 65535 ∷ 6
    ∷ 40002 ∷ 1 ∷ 65535 ∷ 0 ∷ 65535 ∷ 0 ∷ 65535 ∷ 9 ∷ 3 ∷ 0 ∷ 65535 ∷ 9 ∷ 43 ∷ 0 ∷ 65535 ∷ 6 ∷ 40002 ∷ 1 ∷ 65535 ∷ 0 ∷ 4 ∷ 0
    ∷ 65535 ∷ 1 ∷ 65535 ∷ [])
unfolding program_accepted_10 computed is_file
accepted_10 = record { file = is-file widest program_accepted_10 refl; answer = refl }

unfoldable pub program_accepted_11 : Program
program_accepted_11 = record {
  tables = record {
    types = (ty 0 0 0 0 ∷ ty 1 0 0 0 ∷ ty 2 0 0 0 ∷ ty 3 0 0 0 ∷ ty 6 3 0 0 ∷ ty 6 3 0 1 ∷ ty 6 3 1 1 ∷ ty 6 3 2 1 ∷ ty 7 2 0 0
        ∷ ty 5 0 0 0 ∷ ty 6 3 3 2 ∷ ty 6 0 5 1 ∷ ty 6 3 6 2 ∷ ty 6 0 8 0 ∷ []);
    list = (0 ∷ 1 ∷ 2 ∷ 0 ∷ 1 ∷ 8 ∷ 9 ∷ 0 ∷ []);
    fields = ([]);
    structs = ([]);
    built_ins = (bi 50 4 ∷ bi 60 5 ∷ bi 61 6 ∷ bi 62 7 ∷ []);
    nodes = (nd 1 40 0 1 ∷ nd 13 1 0 0 ∷ nd 2 10 13 1 ∷ nd 39 0 0 3 ∷ nd 36 20 2 3 ∷ nd 10 0 8 0 ∷ nd 39 0 0 1 ∷ nd 31 21 0 1
        ∷ nd 15 20 0 0 ∷ nd 39 0 0 4 ∷ nd 34 0 0 2 ∷ nd 15 60 0 0 ∷ nd 20 0 0 1 ∷ nd 18 20 9 2 ∷ nd 13 1 0 0 ∷ nd 15 20 0 0
        ∷ nd 35 0 0 3 ∷ nd 26 6 0 2 ∷ nd 13 1 0 0 ∷ nd 13 1 0 0 ∷ nd 39 0 0 4 ∷ nd 31 21 0 1 ∷ nd 20 0 0 1 ∷ nd 18 50 9 2
        ∷ nd 13 1 0 0 ∷ nd 15 50 0 0 ∷ nd 31 50 0 1 ∷ nd 18 21 9 2 ∷ nd 15 21 0 0 ∷ nd 15 21 0 0 ∷ nd 31 20 0 1 ∷ nd 13 1 0 0
        ∷ nd 34 0 0 2 ∷ nd 15 60 0 0 ∷ nd 15 21 0 0 ∷ nd 39 0 0 2 ∷ nd 34 0 0 2 ∷ nd 15 60 0 0 ∷ nd 20 0 0 1 ∷ nd 18 21 9 2
        ∷ nd 13 1 0 0 ∷ nd 15 21 0 0 ∷ nd 34 0 0 2 ∷ nd 15 62 0 0 ∷ nd 14 1 0 0 ∷ nd 31 21 0 1 ∷ nd 18 20 9 2 ∷ nd 13 1 0 0
        ∷ nd 20 0 0 1 ∷ nd 16 0 9 0 ∷ nd 31 50 0 1 ∷ nd 13 1 0 0 ∷ nd 31 50 0 1 ∷ nd 13 1 0 0 ∷ nd 32 0 0 1 ∷ nd 13 1 0 0 ∷ []);
  };
  declarations = (global 40 (literal (integer 1)) ∷ function 10 13 ([]) (block (then (if_null 20 2 (null 8) (block (then (var 21
      (name 20)) empty)) (block (then (call_stmt (name 60) (also (length_of (array_with 9 20 (literal (integer 1)) (name 20))) none))
      (then (if_else (binary 6 (literal (integer 1)) (literal (integer 1))) (block (then (var 21 (length_of (array_with 9 50 (literal
      (integer 1)) (name 50)))) (then (var 50 (array_with 9 21 (name 21) (name 21))) (then (var 20 (literal (integer 1))) (then
      (call_stmt (name 60) (also (name 21) none)) empty))))) (block (then (call_stmt (name 60) (also (length_of (array_with 9 21
      (literal (integer 1)) (name 21))) none)) (then (call_stmt (name 62) (also (literal (text 1)) none)) empty)))) (then (var 21
      (array_with 9 20 (literal (integer 1)) (length_of (array_literal 9 none)))) (then (var 50 (literal (integer 1))) empty))))))
      (then (var 50 (literal (integer 1))) (then (return_value (literal (integer 1))) empty)))) ∷ []);
}

pub accepted_11 : Answers program_accepted_11 0 7 0 11 (0 ∷ 65535 ∷ 0 ∷ 65535 ∷ 1 ∷ 65535 ∷ 1 ∷ 65535 ∷ 0 ∷ 65535 ∷ 8 ∷ 65535 ∷ 0
    ∷ 65535 ∷ 0 ∷ 65535 ∷ 2 ∷ 4 ∷ 0 ∷ 65535 ∷ 0 ∷ 65535 ∷ 5 ∷ 40001 ∷ 0 ∷ 65535 ∷ 9 ∷ 65535 ∷ 0 ∷ 65535 ∷ 0 ∷ 13 ∷ 0 ∷ 65535 ∷ 1
    ∷ 65535 ∷ 0 ∷ 65535 ∷ 0 ∷ 65535 ∷ 0 ∷ 65535 ∷ 0 ∷ 65535 ∷ 0 ∷ 65535 ∷ 9 ∷ 65535 ∷ 0 ∷ 65535 ∷ 0 ∷ 23 ∷ 0 ∷ 65535 ∷ 9 ∷ 65535
    ∷ 0 ∷ 21 ∷ 0 ∷ 27 ∷ 0 ∷ 65535 ∷ 0 ∷ 65535 ∷ 0 ∷ 65535 ∷ 5 ∷ 40001 ∷ 0 ∷ 21 ∷ 0 ∷ 65535 ∷ 0 ∷ 65535 ∷ 5 ∷ 40001 ∷ 0 ∷ 65535 ∷ 9
    ∷ 65535 ∷ 0 ∷ 65535 ∷ 0 ∷ 39 ∷ 0 ∷ 65535 ∷ 7 ∷ 40003 ∷ 2 ∷ 65535 ∷ 0 ∷ 65535 ∷ 9 ∷ 65535 ∷ 0 ∷ 65535 ∷ 0 ∷ 65535 ∷ 9 ∷ 65535
    ∷ 0 ∷ 65535 ∷ 0 ∷ 65535 ∷ 0 ∷ 65535 ∷ 0 ∷ 65535 ∷ 1 ∷ 65535 ∷ 0 ∷ 65535 ∷ [])
unfolding program_accepted_11 computed is_file
accepted_11 = record { file = is-file widest program_accepted_11 refl; answer = refl }

unfoldable pub program_accepted_12 : Program
program_accepted_12 = record {
  tables = record {
    types = (ty 0 0 0 0 ∷ ty 1 0 0 0 ∷ ty 2 0 0 0 ∷ ty 3 0 0 0 ∷ ty 4 0 0 0 ∷ ty 4 1 0 0 ∷ ty 4 77 0 0 ∷ ty 5 0 0 0 ∷ ty 5 4 0 0
        ∷ ty 5 2 0 0 ∷ ty 7 4 0 0 ∷ ty 7 6 0 0 ∷ ty 5 6 0 0 ∷ ty 6 3 0 0 ∷ ty 6 0 0 1 ∷ ty 6 3 1 1 ∷ ty 6 5 2 0 ∷ ty 7 6 0 0
        ∷ ty 6 12 2 0 ∷ ty 7 16 0 0 ∷ ty 7 14 0 0 ∷ ty 5 16 0 0 ∷ ty 6 15 2 3 ∷ ty 5 2 0 0 ∷ ty 6 3 5 3 ∷ ty 6 3 8 3 ∷ ty 5 18 0 0
        ∷ ty 5 2 0 0 ∷ ty 5 2 0 0 ∷ []);
    list = (0 ∷ 6 ∷ 20 ∷ 21 ∷ 4 ∷ 15 ∷ 20 ∷ 12 ∷ 12 ∷ 14 ∷ 18 ∷ []);
    fields = (fd 0 9 ∷ fd 0 9 ∷ fd 1 4 ∷ fd 2 4 ∷ fd 3 19 ∷ []);
    structs = (st 0 0 1 ∷ st 1 1 4 ∷ []);
    built_ins = (bi 113 13 ∷ bi 114 14 ∷ bi 116 16 ∷ []);
    nodes = (nd 2 20 13 1 ∷ nd 39 0 0 4 ∷ nd 30 0 0 2 ∷ nd 15 40 0 0 ∷ nd 15 20 0 0 ∷ nd 34 0 0 1 ∷ nd 15 40 0 0 ∷ nd 36 0 16 3
        ∷ nd 10 0 19 0 ∷ nd 39 0 0 1 ∷ nd 35 0 0 3 ∷ nd 26 8 0 2 ∷ nd 26 14 0 2 ∷ nd 13 25910 0 0 ∷ nd 13 62080 0 0 ∷ nd 24 0 0 2
        ∷ nd 15 114 0 0 ∷ nd 13 13664 0 0 ∷ nd 39 0 0 0 ∷ nd 39 0 0 2 ∷ nd 38 0 0 2 ∷ nd 25 1 0 1 ∷ nd 11 0 0 0 ∷ nd 39 0 0 3
        ∷ nd 30 0 0 2 ∷ nd 15 0 0 0 ∷ nd 15 0 0 0 ∷ nd 36 20 14 3 ∷ nd 10 0 20 0 ∷ nd 39 0 0 2 ∷ nd 31 39 0 1 ∷ nd 16 0 27 2
        ∷ nd 14 2 0 0 ∷ nd 14 5 0 0 ∷ nd 31 38 0 1 ∷ nd 15 39 0 0 ∷ nd 39 0 0 1 ∷ nd 33 0 0 0 ∷ nd 36 14 16 3 ∷ nd 10 0 19 0
        ∷ nd 39 0 0 3 ∷ nd 34 0 0 1 ∷ nd 15 40 0 0 ∷ nd 30 0 0 2 ∷ nd 15 0 0 0 ∷ nd 15 0 0 0 ∷ nd 30 0 0 2 ∷ nd 15 40 0 0
        ∷ nd 15 20 0 0 ∷ nd 39 0 0 2 ∷ nd 30 0 0 2 ∷ nd 15 40 0 0 ∷ nd 15 40 0 0 ∷ nd 30 0 0 2 ∷ nd 15 0 0 0 ∷ nd 15 0 0 0
        ∷ nd 35 0 0 3 ∷ nd 26 12 0 2 ∷ nd 26 11 0 2 ∷ nd 16 0 9 0 ∷ nd 16 0 9 0 ∷ nd 11 0 0 0 ∷ nd 39 0 0 0 ∷ nd 39 0 0 0
        ∷ nd 39 0 0 0 ∷ nd 33 0 0 0 ∷ nd 1 40 0 1 ∷ nd 15 20 0 0 ∷ []);
  };
  declarations = (function 20 13 ([]) (block (then (assign (name_target 40) (name 20)) (then (call_stmt (name 40) none) (then
      (if_null 0 16 (null 19) (block (then (if_else (binary 8 (binary 14 (literal (integer 25910)) (literal (integer 62080))) (call
      (name 114) (also (literal (integer 13664)) none))) (block empty) (block (then (while (unary 1 (literal truth)) (block (then
      (assign (name_target 0) (name 0)) (then (if_null 20 14 (null 20) (block (then (var 39 (array_literal 27 (also (literal (text
      2)) (also (literal (text 5)) none)))) (then (var 38 (name 39)) empty))) (block (then return_void empty))) (then (if_null 14 16
      (null 19) (block (then (call_stmt (name 40) none) (then (assign (name_target 0) (name 0)) (then (assign (name_target 40) (name
      20)) empty)))) (block (then (assign (name_target 40) (name 40)) (then (assign (name_target 0) (name 0)) empty)))) empty)))))
      (then (if_else (binary 12 (binary 11 (array_literal 9 none) (array_literal 9 none)) (literal truth)) (block empty) (block
      empty)) empty)))) empty)) (block empty)) (then return_void empty))))) ∷ global 40 (name 20) ∷ []);
}

pub accepted_12 : Answers program_accepted_12 0 10 0 26 (1 ∷ 65535 ∷ 1 ∷ 65535 ∷ 0 ∷ 65535 ∷ 13 ∷ 66 ∷ 13 ∷ 0 ∷ 0 ∷ 65535 ∷ 13
    ∷ 66 ∷ 0 ∷ 65535 ∷ 19 ∷ 65535 ∷ 0 ∷ 65535 ∷ 0 ∷ 65535 ∷ 1 ∷ 65535 ∷ 0 ∷ 65535 ∷ 0 ∷ 65535 ∷ 0 ∷ 65535 ∷ 0 ∷ 65535 ∷ 14 ∷ 40001
    ∷ 0 ∷ 65535 ∷ 0 ∷ 65535 ∷ 0 ∷ 65535 ∷ 0 ∷ 65535 ∷ 1 ∷ 65535 ∷ 1 ∷ 65535 ∷ 0 ∷ 65535 ∷ 0 ∷ 65535 ∷ 16 ∷ 7 ∷ 16 ∷ 7 ∷ 0 ∷ 65535
    ∷ 20 ∷ 65535 ∷ 0 ∷ 65535 ∷ 0 ∷ 65535 ∷ 27 ∷ 65535 ∷ 2 ∷ 65535 ∷ 2 ∷ 65535 ∷ 0 ∷ 65535 ∷ 27 ∷ 30 ∷ 1 ∷ 65535 ∷ 1 ∷ 65535 ∷ 0
    ∷ 65535 ∷ 19 ∷ 65535 ∷ 0 ∷ 65535 ∷ 0 ∷ 65535 ∷ 13 ∷ 66 ∷ 0 ∷ 65535 ∷ 16 ∷ 7 ∷ 16 ∷ 7 ∷ 0 ∷ 65535 ∷ 13 ∷ 66 ∷ 13 ∷ 0 ∷ 0
    ∷ 65535 ∷ 0 ∷ 65535 ∷ 13 ∷ 66 ∷ 13 ∷ 66 ∷ 0 ∷ 65535 ∷ 16 ∷ 7 ∷ 16 ∷ 7 ∷ 0 ∷ 65535 ∷ 1 ∷ 65535 ∷ 1 ∷ 65535 ∷ 9 ∷ 65535 ∷ 9
    ∷ 65535 ∷ 1 ∷ 65535 ∷ 0 ∷ 65535 ∷ 0 ∷ 65535 ∷ 0 ∷ 65535 ∷ 1 ∷ 65535 ∷ 13 ∷ 65535 ∷ 13 ∷ 0 ∷ [])
unfolding program_accepted_12 computed is_file
accepted_12 = record { file = is-file widest program_accepted_12 refl; answer = refl }

unfoldable pub program_accepted_13 : Program
program_accepted_13 = record {
  tables = record {
    types = (ty 0 0 0 0 ∷ ty 1 0 0 0 ∷ ty 2 0 0 0 ∷ ty 3 0 0 0 ∷ ty 4 0 0 0 ∷ ty 4 1 0 0 ∷ ty 4 2 0 0 ∷ ty 4 3 0 0 ∷ ty 4 77 0 0
        ∷ ty 5 0 0 0 ∷ ty 5 4 0 0 ∷ ty 5 2 0 0 ∷ ty 7 4 0 0 ∷ ty 7 8 0 0 ∷ ty 5 8 0 0 ∷ ty 6 3 0 0 ∷ ty 6 0 0 1 ∷ ty 6 3 1 1
        ∷ ty 5 6 0 0 ∷ ty 4 3 0 0 ∷ ty 5 8 0 0 ∷ ty 5 20 0 0 ∷ ty 7 8 0 0 ∷ ty 5 1 0 0 ∷ []);
    list = (0 ∷ 8 ∷ []);
    fields = (fd 0 10 ∷ fd 1 1 ∷ fd 0 10 ∷ fd 1 1 ∷ fd 0 10 ∷ fd 1 2 ∷ fd 2 10 ∷ fd 0 10 ∷ fd 1 1 ∷ []);
    structs = (st 0 0 2 ∷ st 1 2 2 ∷ st 2 4 3 ∷ st 3 7 2 ∷ []);
    built_ins = (bi 115 15 ∷ bi 116 16 ∷ []);
    nodes = (nd 2 20 16 2 ∷ nd 3 60 0 0 ∷ nd 39 0 0 3 ∷ nd 36 34 5 3 ∷ nd 10 0 12 0 ∷ nd 39 0 0 0 ∷ nd 39 0 0 4 ∷ nd 34 0 0 1
        ∷ nd 15 115 0 0 ∷ nd 34 0 0 1 ∷ nd 15 115 0 0 ∷ nd 36 115 7 3 ∷ nd 10 0 12 0 ∷ nd 39 0 0 1 ∷ nd 36 8 4 3 ∷ nd 10 0 12 0
        ∷ nd 39 0 0 2 ∷ nd 31 51 0 1 ∷ nd 15 115 0 0 ∷ nd 32 0 0 1 ∷ nd 26 14 0 2 ∷ nd 26 0 0 2 ∷ nd 13 39198 0 0 ∷ nd 26 4 0 2
        ∷ nd 13 46088 0 0 ∷ nd 13 20074 0 0 ∷ nd 25 2 0 1 ∷ nd 26 2 0 2 ∷ nd 13 30635 0 0 ∷ nd 13 21202 0 0 ∷ nd 39 0 0 0
        ∷ nd 39 0 0 0 ∷ nd 31 17 0 1 ∷ nd 26 11 0 2 ∷ nd 21 0 19 2 ∷ nd 22 1 0 1 ∷ nd 26 12 0 2 ∷ nd 11 0 0 0 ∷ nd 11 0 0 0
        ∷ nd 22 0 0 1 ∷ nd 16 0 10 1 ∷ nd 21 0 4 2 ∷ nd 22 0 0 1 ∷ nd 16 0 10 0 ∷ nd 22 1 0 1 ∷ nd 12 0 0 0 ∷ nd 21 0 19 2
        ∷ nd 22 0 0 1 ∷ nd 16 0 10 0 ∷ nd 22 1 0 1 ∷ nd 26 11 0 2 ∷ nd 15 60 0 0 ∷ nd 13 4084 0 0 ∷ nd 31 64 0 1 ∷ nd 16 0 18 0
        ∷ nd 32 0 0 1 ∷ nd 25 2 0 1 ∷ nd 24 0 0 2 ∷ nd 15 20 0 0 ∷ nd 24 0 0 2 ∷ nd 15 116 0 0 ∷ nd 13 17726 0 0 ∷ []);
  };
  declarations = (function 20 16 (60 ∷ []) (block (then (if_null 34 5 (null 12) (block empty) (block (then (call_stmt (name 115)
      none) (then (call_stmt (name 115) none) (then (if_null 115 7 (null 12) (block (then (if_null 8 4 (null 12) (block (then (var 51
      (name 115)) (then (return_value (binary 14 (binary 0 (literal (integer 39198)) (binary 4 (literal (integer 46088)) (literal
      (integer 20074)))) (unary 2 (binary 2 (literal (integer 30635)) (literal (integer 21202)))))) empty))) (block empty))
      empty)) (block empty)) (then (var 17 (binary 11 (struct_literal 19 (init 1 (binary 12 (literal truth) (literal truth)) (init
      0 (array_literal 10 (also (struct_literal 4 (init 0 (array_literal 10 none) (init 1 (literal falsity) no_init))) none))
      no_init))) (struct_literal 19 (init 0 (array_literal 10 none) (init 1 (binary 11 (name 60) (literal (integer 4084)))
      no_init))))) empty)))))) (then (var 64 (array_literal 18 none)) (then (return_value (unary 2 (call (name 20) (also (call (name
      116) (also (literal (integer 17726)) none)) none)))) empty)))) ∷ []);
}

pub accepted_13 : Answers program_accepted_13 0 12 0 21 (1 ∷ 65535 ∷ 0 ∷ 65535 ∷ 1 ∷ 65535 ∷ 0 ∷ 65535 ∷ 12 ∷ 65535 ∷ 0 ∷ 65535
    ∷ 0 ∷ 65535 ∷ 0 ∷ 65535 ∷ 15 ∷ 40000 ∷ 0 ∷ 65535 ∷ 15 ∷ 40000 ∷ 0 ∷ 65535 ∷ 12 ∷ 65535 ∷ 0 ∷ 65535 ∷ 0 ∷ 65535 ∷ 12 ∷ 65535
    ∷ 1 ∷ 65535 ∷ 0 ∷ 65535 ∷ 7 ∷ 11 ∷ 1 ∷ 65535 ∷ 0 ∷ 65535 ∷ 0 ∷ 65535 ∷ 0 ∷ 65535 ∷ 0 ∷ 65535 ∷ 0 ∷ 65535 ∷ 0 ∷ 65535 ∷ 0
    ∷ 65535 ∷ 0 ∷ 65535 ∷ 0 ∷ 65535 ∷ 0 ∷ 65535 ∷ 0 ∷ 65535 ∷ 0 ∷ 65535 ∷ 0 ∷ 65535 ∷ 1 ∷ 65535 ∷ 19 ∷ 65535 ∷ 1 ∷ 65535 ∷ 1
    ∷ 65535 ∷ 1 ∷ 65535 ∷ 1 ∷ 65535 ∷ 10 ∷ 65535 ∷ 10 ∷ 65535 ∷ 4 ∷ 65535 ∷ 10 ∷ 65535 ∷ 10 ∷ 65535 ∷ 1 ∷ 65535 ∷ 1 ∷ 65535 ∷ 19
    ∷ 65535 ∷ 10 ∷ 65535 ∷ 10 ∷ 65535 ∷ 1 ∷ 65535 ∷ 1 ∷ 65535 ∷ 0 ∷ 1 ∷ 0 ∷ 65535 ∷ 0 ∷ 65535 ∷ 18 ∷ 65535 ∷ 1 ∷ 65535 ∷ 0 ∷ 65535
    ∷ 0 ∷ 65535 ∷ 16 ∷ 0 ∷ 0 ∷ 65535 ∷ 16 ∷ 40001 ∷ 0 ∷ 65535 ∷ [])
unfolding program_accepted_13 computed is_file
accepted_13 = record { file = is-file widest program_accepted_13 refl; answer = refl }

unfoldable pub program_accepted_14 : Program
program_accepted_14 = record {
  tables = record {
    types = (ty 0 0 0 0 ∷ ty 1 0 0 0 ∷ ty 2 0 0 0 ∷ ty 3 0 0 0 ∷ ty 4 0 0 0 ∷ ty 4 1 0 0 ∷ ty 4 2 0 0 ∷ ty 4 77 0 0 ∷ ty 5 0 0 0
        ∷ ty 5 4 0 0 ∷ ty 5 2 0 0 ∷ ty 7 4 0 0 ∷ ty 7 7 0 0 ∷ ty 5 7 0 0 ∷ ty 6 3 0 0 ∷ ty 6 0 0 1 ∷ ty 6 3 1 1 ∷ ty 6 15 2 2
        ∷ ty 5 12 0 0 ∷ ty 7 17 0 0 ∷ ty 6 3 4 0 ∷ ty 5 10 0 0 ∷ ty 6 21 4 1 ∷ ty 6 3 5 3 ∷ ty 6 3 8 3 ∷ ty 5 6 0 0 ∷ ty 5 7 0 0
        ∷ ty 5 5 0 0 ∷ ty 6 24 11 0 ∷ ty 5 2 0 0 ∷ []);
    list = (0 ∷ 7 ∷ 10 ∷ 5 ∷ 15 ∷ 21 ∷ 7 ∷ 13 ∷ 6 ∷ 10 ∷ 21 ∷ []);
    fields = ([]);
    structs = (st 0 0 0 ∷ st 1 0 0 ∷ st 2 0 0 ∷ []);
    built_ins = (bi 114 14 ∷ bi 115 15 ∷ bi 117 17 ∷ bi 120 20 ∷ bi 122 22 ∷ bi 124 24 ∷ bi 128 28 ∷ []);
    nodes = (nd 1 40 0 1 ∷ nd 16 0 29 2 ∷ nd 14 1 0 0 ∷ nd 14 4 0 0 ∷ nd 2 20 15 2 ∷ nd 3 60 0 0 ∷ nd 39 0 0 2 ∷ nd 36 117 17 3
        ∷ nd 10 0 19 0 ∷ nd 39 0 0 2 ∷ nd 31 24 0 1 ∷ nd 18 46 25 2 ∷ nd 26 2 0 2 ∷ nd 24 0 0 2 ∷ nd 15 20 0 0 ∷ nd 15 60 0 0
        ∷ nd 24 0 0 2 ∷ nd 15 115 0 0 ∷ nd 13 7555 0 0 ∷ nd 21 0 5 0 ∷ nd 38 0 0 2 ∷ nd 26 9 0 2 ∷ nd 15 60 0 0 ∷ nd 26 2 0 2
        ∷ nd 13 10762 0 0 ∷ nd 15 60 0 0 ∷ nd 39 0 0 1 ∷ nd 35 0 0 3 ∷ nd 26 13 0 2 ∷ nd 25 1 0 1 ∷ nd 12 0 0 0 ∷ nd 26 7 0 2
        ∷ nd 13 63098 0 0 ∷ nd 13 57252 0 0 ∷ nd 39 0 0 2 ∷ nd 35 0 0 3 ∷ nd 26 11 0 2 ∷ nd 21 0 4 0 ∷ nd 19 0 0 2 ∷ nd 15 24 0 0
        ∷ nd 13 60625 0 0 ∷ nd 39 0 0 3 ∷ nd 31 116 0 1 ∷ nd 14 1 0 0 ∷ nd 34 0 0 1 ∷ nd 15 21 0 0 ∷ nd 30 0 0 2 ∷ nd 15 60 0 0
        ∷ nd 26 15 0 2 ∷ nd 13 1738 0 0 ∷ nd 13 55237 0 0 ∷ nd 39 0 0 3 ∷ nd 31 70 0 1 ∷ nd 15 21 0 0 ∷ nd 30 0 0 2 ∷ nd 15 60 0 0
        ∷ nd 24 0 0 2 ∷ nd 15 20 0 0 ∷ nd 24 0 0 2 ∷ nd 15 20 0 0 ∷ nd 13 20804 0 0 ∷ nd 31 18 0 1 ∷ nd 10 0 19 0 ∷ nd 34 0 0 4
        ∷ nd 15 124 0 0 ∷ nd 19 0 0 2 ∷ nd 15 24 0 0 ∷ nd 24 0 0 2 ∷ nd 15 115 0 0 ∷ nd 26 4 0 2 ∷ nd 13 63165 0 0 ∷ nd 15 60 0 0
        ∷ nd 16 0 29 2 ∷ nd 14 8 0 0 ∷ nd 14 5 0 0 ∷ nd 24 0 0 2 ∷ nd 15 122 0 0 ∷ nd 15 115 0 0 ∷ nd 39 0 0 0 ∷ nd 39 0 0 0
        ∷ nd 32 0 0 1 ∷ nd 13 46586 0 0 ∷ nd 2 21 14 1 ∷ nd 39 0 0 1 ∷ nd 33 0 0 0 ∷ []);
  };
  declarations = (global 40 (array_literal 29 (also (literal (text 1)) (also (literal (text 4)) none))) ∷ function 20 15 (60 ∷ [])
      (block (then (if_null 117 17 (null 19) (block (then (var 24 (array_with 25 46 (binary 2 (call (name 20) (also (name 60) none))
      (call (name 115) (also (literal (integer 7555)) none))) (struct_literal 5 no_init))) (then (while (binary 9 (name 60) (binary
      2 (literal (integer 10762)) (name 60))) (block (then (if_else (binary 13 (unary 1 (literal falsity)) (binary 7 (literal
      (integer 63098)) (literal (integer 57252)))) (block (then (if_else (binary 11 (struct_literal 4 no_init) (index (name 24)
      (literal (integer 60625)))) (block (then (var 116 (literal (text 1))) (then (call_stmt (name 21) none) (then (assign
      (name_target 60) (binary 15 (literal (integer 1738)) (literal (integer 55237)))) empty)))) (block (then (var 70 (name 21))
      (then (assign (name_target 60) (call (name 20) (also (call (name 20) (also (literal (integer 20804)) none)) none))) (then
      (var 18 (null 19)) empty))))) (then (call_stmt (name 124) (also (index (name 24) (call (name 115) (also (binary 4 (literal
      (integer 63165)) (name 60)) none))) (also (array_literal 29 (also (literal (text 8)) (also (literal (text 5)) none))) (also
      (call (name 122) (also (name 115) none)) none)))) empty))) (block empty)) empty))) empty))) (block empty)) (then
      (return_value (literal (integer 46586))) empty))) ∷ function 21 14 ([]) (block (then return_void empty)) ∷ []);
}

pub accepted_14 : Answers program_accepted_14 0 18 0 31 (29 ∷ 65535 ∷ 29 ∷ 65535 ∷ 2 ∷ 65535 ∷ 2 ∷ 65535 ∷ 1 ∷ 65535 ∷ 0 ∷ 65535
    ∷ 1 ∷ 65535 ∷ 0 ∷ 65535 ∷ 19 ∷ 65535 ∷ 0 ∷ 65535 ∷ 0 ∷ 65535 ∷ 25 ∷ 65535 ∷ 0 ∷ 65535 ∷ 0 ∷ 65535 ∷ 15 ∷ 4 ∷ 0 ∷ 5 ∷ 0 ∷ 65535
    ∷ 15 ∷ 40001 ∷ 0 ∷ 65535 ∷ 5 ∷ 65535 ∷ 0 ∷ 65535 ∷ 1 ∷ 65535 ∷ 0 ∷ 5 ∷ 0 ∷ 65535 ∷ 0 ∷ 65535 ∷ 0 ∷ 5 ∷ 0 ∷ 65535 ∷ 0 ∷ 65535
    ∷ 1 ∷ 65535 ∷ 1 ∷ 65535 ∷ 1 ∷ 65535 ∷ 1 ∷ 65535 ∷ 0 ∷ 65535 ∷ 0 ∷ 65535 ∷ 0 ∷ 65535 ∷ 0 ∷ 65535 ∷ 1 ∷ 65535 ∷ 4 ∷ 65535 ∷ 6
    ∷ 65535 ∷ 25 ∷ 10 ∷ 0 ∷ 65535 ∷ 0 ∷ 65535 ∷ 0 ∷ 65535 ∷ 2 ∷ 65535 ∷ 0 ∷ 65535 ∷ 14 ∷ 82 ∷ 0 ∷ 65535 ∷ 0 ∷ 5 ∷ 0 ∷ 65535 ∷ 0
    ∷ 65535 ∷ 0 ∷ 65535 ∷ 0 ∷ 65535 ∷ 0 ∷ 65535 ∷ 14 ∷ 82 ∷ 0 ∷ 65535 ∷ 0 ∷ 5 ∷ 0 ∷ 65535 ∷ 15 ∷ 4 ∷ 0 ∷ 65535 ∷ 15 ∷ 4 ∷ 0
    ∷ 65535 ∷ 0 ∷ 65535 ∷ 19 ∷ 65535 ∷ 0 ∷ 65535 ∷ 24 ∷ 40005 ∷ 6 ∷ 65535 ∷ 25 ∷ 10 ∷ 0 ∷ 65535 ∷ 15 ∷ 40001 ∷ 0 ∷ 65535 ∷ 0
    ∷ 65535 ∷ 0 ∷ 5 ∷ 29 ∷ 65535 ∷ 2 ∷ 65535 ∷ 2 ∷ 65535 ∷ 21 ∷ 65535 ∷ 22 ∷ 40004 ∷ 15 ∷ 40001 ∷ 0 ∷ 65535 ∷ 0 ∷ 65535 ∷ 1
    ∷ 65535 ∷ 0 ∷ 65535 ∷ 1 ∷ 65535 ∷ 1 ∷ 65535 ∷ 1 ∷ 65535 ∷ [])
unfolding program_accepted_14 computed is_file
accepted_14 = record { file = is-file widest program_accepted_14 refl; answer = refl }

unfoldable pub program_refused_7_1 : Program
program_refused_7_1 = record {
  tables = record {
    types = (ty 0 0 0 0 ∷ ty 1 0 0 0 ∷ ty 2 0 0 0 ∷ ty 3 0 0 0 ∷ ty 6 3 0 0 ∷ ty 4 1 0 0 ∷ ty 4 9 0 0 ∷ ty 6 6 0 0 ∷ []);
    list = ([]);
    fields = (fd 1 0 ∷ fd 1 0 ∷ []);
    structs = (st 1 0 2 ∷ []);
    built_ins = ([]);
    nodes = ([]);
  };
  declarations = ([]);
}

pub refused_7_1 : Answers program_refused_7_1 7 1 0 0 ([])
unfolding program_refused_7_1 computed is_file
refused_7_1 = record { file = is-file widest program_refused_7_1 refl; answer = refl }

unfoldable pub program_refused_7_2 : Program
program_refused_7_2 = record {
  tables = record {
    types = (ty 0 0 0 0 ∷ ty 1 0 0 0 ∷ ty 2 0 0 0 ∷ ty 3 0 0 0 ∷ ty 7 2 0 0 ∷ ty 6 3 0 1 ∷ ty 6 3 1 1 ∷ ty 6 3 2 2 ∷ []);
    list = (4 ∷ 2 ∷ 5 ∷ 6 ∷ []);
    fields = ([]);
    structs = ([]);
    built_ins = ([]);
    nodes = (nd 2 10 7 3 ∷ nd 3 20 0 0 ∷ nd 3 20 0 0 ∷ nd 39 0 0 2 ∷ nd 30 0 0 2 ∷ nd 15 21 0 0 ∷ nd 15 20 0 0 ∷ nd 33 0 0 0
        ∷ []);
  };
  declarations = (function 10 7 (20 ∷ 20 ∷ []) (block (then (assign (name_target 21) (name 20)) (then return_void empty))) ∷ []);
}

pub refused_7_2 : Answers program_refused_7_2 7 1 0 0 (65535 ∷ 65535 ∷ 65535 ∷ 65535 ∷ 65535 ∷ 65535 ∷ 65535 ∷ 65535 ∷ 65535
    ∷ 65535 ∷ 65535 ∷ 65535 ∷ 65535 ∷ 65535 ∷ 65535 ∷ 65535 ∷ [])
unfolding program_refused_7_2 computed is_file
refused_7_2 = record { file = is-file widest program_refused_7_2 refl; answer = refl }

unfoldable pub program_refused_7_3 : Program
program_refused_7_3 = record {
  tables = record {
    types = (ty 0 0 0 0 ∷ ty 1 0 0 0 ∷ ty 2 0 0 0 ∷ ty 3 0 0 0 ∷ ty 4 1 0 0 ∷ ty 4 2 0 0 ∷ ty 4 3 0 0 ∷ ty 7 4 0 0 ∷ ty 7 5 0 0
        ∷ ty 5 4 0 0 ∷ ty 5 5 0 0 ∷ ty 5 0 0 0 ∷ ty 6 3 0 0 ∷ ty 6 0 0 0 ∷ ty 6 0 0 1 ∷ ty 4 9 0 0 ∷ ty 7 15 0 0 ∷ ty 5 15 0 0
        ∷ ty 6 3 1 1 ∷ ty 7 2 0 0 ∷ ty 5 2 0 0 ∷ ty 5 0 0 0 ∷ ty 4 1 0 0 ∷ ty 5 7 0 0 ∷ ty 7 11 0 0 ∷ ty 6 5 2 1 ∷ ty 6 4 3 1
        ∷ ty 5 1 0 0 ∷ ty 6 3 4 2 ∷ ty 5 11 0 0 ∷ ty 7 13 0 0 ∷ ty 6 15 6 0 ∷ ty 6 17 6 1 ∷ ty 7 17 0 0 ∷ ty 6 21 7 0
        ∷ ty 6 21 7 1 ∷ ty 6 11 8 1 ∷ ty 6 3 9 1 ∷ ty 6 3 10 2 ∷ ty 6 3 12 2 ∷ []);
    list = (0 ∷ 15 ∷ 4 ∷ 5 ∷ 0 ∷ 1 ∷ 17 ∷ 21 ∷ 22 ∷ 7 ∷ 0 ∷ 0 ∷ 4 ∷ 4 ∷ []);
    fields = ([]);
    structs = ([]);
    built_ins = (bi 11 12 ∷ []);
    nodes = (nd 1 11 0 1 ∷ nd 13 1 0 0 ∷ []);
  };
  declarations = (global 11 (literal (integer 1)) ∷ []);
}

pub refused_7_3 : Answers program_refused_7_3 7 1 0 0 (65535 ∷ 65535 ∷ 65535 ∷ 65535 ∷ [])
unfolding program_refused_7_3 computed is_file
refused_7_3 = record { file = is-file widest program_refused_7_3 refl; answer = refl }

unfoldable pub program_refused_7_4 : Program
program_refused_7_4 = record {
  tables = record {
    types = (ty 0 0 0 0 ∷ ty 1 0 0 0 ∷ ty 2 0 0 0 ∷ ty 3 0 0 0 ∷ ty 6 3 0 0 ∷ ty 4 1 0 0 ∷ ty 4 9 0 0 ∷ ty 6 6 0 0 ∷ []);
    list = ([]);
    fields = ([]);
    structs = (st 1 0 0 ∷ st 1 0 0 ∷ []);
    built_ins = ([]);
    nodes = ([]);
  };
  declarations = ([]);
}

pub refused_7_4 : Answers program_refused_7_4 7 1 1 0 ([])
unfolding program_refused_7_4 computed is_file
refused_7_4 = record { file = is-file widest program_refused_7_4 refl; answer = refl }

unfoldable pub program_refused_7_5 : Program
program_refused_7_5 = record {
  tables = record {
    types = (ty 0 0 0 0 ∷ ty 1 0 0 0 ∷ ty 2 0 0 0 ∷ ty 3 0 0 0 ∷ ty 4 1 0 0 ∷ ty 4 2 0 0 ∷ ty 4 3 0 0 ∷ ty 7 4 0 0 ∷ ty 7 5 0 0
        ∷ ty 5 4 0 0 ∷ ty 5 5 0 0 ∷ ty 5 0 0 0 ∷ ty 6 3 0 0 ∷ ty 6 0 0 0 ∷ ty 6 0 0 1 ∷ ty 4 9 0 0 ∷ ty 7 15 0 0 ∷ ty 5 15 0 0
        ∷ ty 6 3 1 1 ∷ ty 7 2 0 0 ∷ ty 5 2 0 0 ∷ ty 5 0 0 0 ∷ ty 4 1 0 0 ∷ ty 5 7 0 0 ∷ ty 7 11 0 0 ∷ ty 6 5 2 1 ∷ ty 6 4 3 1
        ∷ ty 5 1 0 0 ∷ ty 6 3 4 2 ∷ ty 5 11 0 0 ∷ ty 7 13 0 0 ∷ ty 6 15 6 0 ∷ ty 6 17 6 1 ∷ ty 7 17 0 0 ∷ ty 6 21 7 0
        ∷ ty 6 21 7 1 ∷ ty 6 11 8 1 ∷ ty 6 3 9 1 ∷ ty 6 3 10 2 ∷ ty 6 3 12 2 ∷ []);
    list = (0 ∷ 15 ∷ 4 ∷ 5 ∷ 0 ∷ 1 ∷ 17 ∷ 21 ∷ 22 ∷ 7 ∷ 0 ∷ 0 ∷ 4 ∷ 4 ∷ []);
    fields = ([]);
    structs = ([]);
    built_ins = (bi 12 12 ∷ bi 12 13 ∷ []);
    nodes = ([]);
  };
  declarations = ([]);
}

pub refused_7_5 : Answers program_refused_7_5 7 1 1 0 ([])
unfolding program_refused_7_5 computed is_file
refused_7_5 = record { file = is-file widest program_refused_7_5 refl; answer = refl }

unfoldable pub program_refused_7_6 : Program
program_refused_7_6 = record {
  tables = record {
    types = (ty 0 0 0 0 ∷ ty 1 0 0 0 ∷ ty 2 0 0 0 ∷ ty 3 0 0 0 ∷ ty 7 2 0 0 ∷ ty 6 3 0 1 ∷ ty 6 3 1 1 ∷ ty 6 3 2 2 ∷ []);
    list = (4 ∷ 2 ∷ 5 ∷ 6 ∷ []);
    fields = ([]);
    structs = ([]);
    built_ins = ([]);
    nodes = (nd 2 10 7 3 ∷ nd 3 20 0 0 ∷ nd 3 21 0 0 ∷ nd 39 0 0 2 ∷ nd 31 20 0 1 ∷ nd 26 10 0 2 ∷ nd 15 20 0 0 ∷ nd 15 20 0 0
        ∷ nd 33 0 0 0 ∷ []);
  };
  declarations = (function 10 7 (20 ∷ 21 ∷ []) (block (then (var 20 (binary 10 (name 20) (name 20))) (then return_void empty)))
      ∷ []);
}

pub refused_7_6 : Answers program_refused_7_6 7 1 4 8 (65535 ∷ 65535 ∷ 65535 ∷ 65535 ∷ 65535 ∷ 65535 ∷ 65535 ∷ 65535 ∷ 65535
    ∷ 65535 ∷ 65535 ∷ 65535 ∷ 65535 ∷ 65535 ∷ 65535 ∷ 65535 ∷ 65535 ∷ 65535 ∷ [])
unfolding program_refused_7_6 computed is_file
refused_7_6 = record { file = is-file widest program_refused_7_6 refl; answer = refl }

unfoldable pub program_refused_7_7 : Program
program_refused_7_7 = record {
  tables = record {
    types = (ty 0 0 0 0 ∷ ty 1 0 0 0 ∷ ty 2 0 0 0 ∷ ty 3 0 0 0 ∷ ty 6 3 0 0 ∷ ty 6 0 0 0 ∷ ty 6 0 0 1 ∷ ty 6 3 1 2 ∷ ty 7 2 0 0
        ∷ ty 5 0 0 0 ∷ ty 5 9 0 0 ∷ ty 7 9 0 0 ∷ ty 5 1 0 0 ∷ ty 6 3 3 1 ∷ ty 6 9 4 1 ∷ ty 4 9 0 0 ∷ ty 7 15 0 0 ∷ ty 5 15 0 0
        ∷ []);
    list = (0 ∷ 0 ∷ 0 ∷ 8 ∷ 9 ∷ []);
    fields = ([]);
    structs = ([]);
    built_ins = ([]);
    nodes = (nd 2 10 7 3 ∷ nd 3 20 0 0 ∷ nd 3 21 0 0 ∷ nd 39 0 0 2 ∷ nd 31 21 0 1 ∷ nd 13 1 0 0 ∷ nd 33 0 0 0 ∷ []);
  };
  declarations = (function 10 7 (20 ∷ 21 ∷ []) (block (then (var 21 (literal (integer 1))) (then return_void empty))) ∷ []);
}

pub refused_7_7 : Answers program_refused_7_7 7 1 4 0 (65535 ∷ 65535 ∷ 65535 ∷ 65535 ∷ 65535 ∷ 65535 ∷ 65535 ∷ 65535 ∷ 65535
    ∷ 65535 ∷ 65535 ∷ 65535 ∷ 65535 ∷ 65535 ∷ [])
unfolding program_refused_7_7 computed is_file
refused_7_7 = record { file = is-file widest program_refused_7_7 refl; answer = refl }

unfoldable pub program_refused_7_8 : Program
program_refused_7_8 = record {
  tables = record {
    types = (ty 0 0 0 0 ∷ ty 1 0 0 0 ∷ ty 2 0 0 0 ∷ ty 3 0 0 0 ∷ ty 5 0 0 0 ∷ []);
    list = ([]);
    fields = ([]);
    structs = ([]);
    built_ins = ([]);
    nodes = (nd 1 11 0 1 ∷ nd 16 0 4 3 ∷ nd 13 1 0 0 ∷ nd 13 1 0 0 ∷ nd 13 1 0 0 ∷ nd 1 11 0 1 ∷ nd 16 0 4 2 ∷ nd 13 1 0 0
        ∷ nd 13 1 0 0 ∷ []);
  };
  declarations = (global 11 (array_literal 4 (also (literal (integer 1)) (also (literal (integer 1)) (also (literal (integer 1))
      none)))) ∷ global 11 (array_literal 4 (also (literal (integer 1)) (also (literal (integer 1)) none))) ∷ []);
}

pub refused_7_8 : Answers program_refused_7_8 7 1 5 5 (65535 ∷ 65535 ∷ 65535 ∷ 65535 ∷ 65535 ∷ 65535 ∷ 65535 ∷ 65535 ∷ 65535
    ∷ 65535 ∷ 65535 ∷ 65535 ∷ 65535 ∷ 65535 ∷ 65535 ∷ 65535 ∷ 65535 ∷ 65535 ∷ [])
unfolding program_refused_7_8 computed is_file
refused_7_8 = record { file = is-file widest program_refused_7_8 refl; answer = refl }

unfoldable pub program_refused_7_9 : Program
program_refused_7_9 = record {
  tables = record {
    types = (ty 0 0 0 0 ∷ ty 1 0 0 0 ∷ ty 2 0 0 0 ∷ ty 3 0 0 0 ∷ ty 6 3 0 0 ∷ ty 6 0 0 0 ∷ ty 6 0 0 1 ∷ ty 6 3 1 2 ∷ ty 7 2 0 0
        ∷ ty 5 0 0 0 ∷ ty 5 9 0 0 ∷ ty 7 9 0 0 ∷ ty 5 1 0 0 ∷ ty 6 3 3 1 ∷ ty 6 9 4 1 ∷ ty 4 9 0 0 ∷ ty 7 15 0 0 ∷ ty 5 15 0 0
        ∷ []);
    list = (0 ∷ 0 ∷ 0 ∷ 8 ∷ 9 ∷ []);
    fields = ([]);
    structs = ([]);
    built_ins = ([]);
    nodes = (nd 2 10 4 1 ∷ nd 39 0 0 2 ∷ nd 37 0 0 5 ∷ nd 31 20 0 1 ∷ nd 13 1 0 0 ∷ nd 31 20 0 1 ∷ nd 11 0 0 0 ∷ nd 40 0 0 0
        ∷ nd 40 0 0 0 ∷ nd 39 0 0 0 ∷ nd 33 0 0 0 ∷ []);
  };
  declarations = (function 10 4 ([]) (block (then (for (next_var 20 (literal (integer 1)) (next_var 20 (literal truth) no_var))
      no_condition no_step (block empty)) (then return_void empty))) ∷ []);
}

pub refused_7_9 : Answers program_refused_7_9 7 1 5 0 (65535 ∷ 65535 ∷ 65535 ∷ 65535 ∷ 65535 ∷ 65535 ∷ 65535 ∷ 65535 ∷ 65535
    ∷ 65535 ∷ 65535 ∷ 65535 ∷ 65535 ∷ 65535 ∷ 65535 ∷ 65535 ∷ 65535 ∷ 65535 ∷ 65535 ∷ 65535 ∷ 65535 ∷ 65535 ∷ [])
unfolding program_refused_7_9 computed is_file
refused_7_9 = record { file = is-file widest program_refused_7_9 refl; answer = refl }

unfoldable pub program_refused_7_10 : Program
program_refused_7_10 = record {
  tables = record {
    types = (ty 0 0 0 0 ∷ ty 1 0 0 0 ∷ ty 2 0 0 0 ∷ ty 3 0 0 0 ∷ ty 6 3 0 0 ∷ ty 6 0 0 0 ∷ ty 6 0 0 1 ∷ ty 6 3 1 2 ∷ ty 7 2 0 0
        ∷ ty 5 0 0 0 ∷ ty 5 9 0 0 ∷ ty 7 9 0 0 ∷ ty 5 1 0 0 ∷ ty 6 3 3 1 ∷ ty 6 9 4 1 ∷ ty 4 9 0 0 ∷ ty 7 15 0 0 ∷ ty 5 15 0 0
        ∷ []);
    list = (0 ∷ 0 ∷ 0 ∷ 8 ∷ 9 ∷ []);
    fields = ([]);
    structs = ([]);
    built_ins = ([]);
    nodes = (nd 2 10 4 1 ∷ nd 39 0 0 2 ∷ nd 37 0 0 4 ∷ nd 31 20 0 1 ∷ nd 13 1 0 0 ∷ nd 40 0 0 0 ∷ nd 31 20 0 1 ∷ nd 13 1 0 0
        ∷ nd 39 0 0 0 ∷ nd 33 0 0 0 ∷ []);
  };
  declarations = (function 10 4 ([]) (block (then (for (next_var 20 (literal (integer 1)) no_var) no_condition (step (var 20 (literal
      (integer 1)))) (block empty)) (then return_void empty))) ∷ []);
}

pub refused_7_10 : Answers program_refused_7_10 7 1 6 0 (65535 ∷ 65535 ∷ 65535 ∷ 65535 ∷ 65535 ∷ 65535 ∷ 65535 ∷ 65535 ∷ 65535
    ∷ 65535 ∷ 65535 ∷ 65535 ∷ 65535 ∷ 65535 ∷ 65535 ∷ 65535 ∷ 65535 ∷ 65535 ∷ 65535 ∷ 65535 ∷ [])
unfolding program_refused_7_10 computed is_file
refused_7_10 = record { file = is-file widest program_refused_7_10 refl; answer = refl }

unfoldable pub program_refused_7_11 : Program
program_refused_7_11 = record {
  tables = record {
    types = (ty 0 0 0 0 ∷ ty 1 0 0 0 ∷ ty 2 0 0 0 ∷ ty 3 0 0 0 ∷ ty 5 0 0 0 ∷ []);
    list = ([]);
    fields = (fd 1 0 ∷ fd 1 0 ∷ []);
    structs = (st 68 0 2 ∷ []);
    built_ins = ([]);
    nodes = (nd 1 11 0 1 ∷ nd 16 0 4 4 ∷ nd 13 1 0 0 ∷ nd 13 1 0 0 ∷ nd 13 1 0 0 ∷ nd 13 1 0 0 ∷ nd 1 12 0 1 ∷ nd 16 0 4 2
        ∷ nd 13 1 0 0 ∷ nd 13 1 0 0 ∷ []);
  };
  declarations = (global 11 (array_literal 4 (also (literal (integer 1)) (also (literal (integer 1)) (also (literal (integer 1))
      (also (literal (integer 1)) none))))) ∷ global 12 (array_literal 4 (also (literal (integer 1)) (also (literal (integer 1))
      none))) ∷ []);
}

pub refused_7_11 : Answers program_refused_7_11 7 3 0 6 (65535 ∷ 65535 ∷ 65535 ∷ 65535 ∷ 65535 ∷ 65535 ∷ 65535 ∷ 65535 ∷ 65535
    ∷ 65535 ∷ 65535 ∷ 65535 ∷ 65535 ∷ 65535 ∷ 65535 ∷ 65535 ∷ 65535 ∷ 65535 ∷ 65535 ∷ 65535 ∷ [])
unfolding program_refused_7_11 computed is_file
refused_7_11 = record { file = is-file widest program_refused_7_11 refl; answer = refl }

unfoldable pub program_refused_7_12 : Program
program_refused_7_12 = record {
  tables = record {
    types = (ty 0 0 0 0 ∷ ty 1 0 0 0 ∷ ty 2 0 0 0 ∷ ty 3 0 0 0 ∷ ty 4 0 0 0 ∷ ty 4 1 0 0 ∷ ty 4 2 0 0 ∷ ty 4 3 0 0 ∷ ty 4 77 0 0
        ∷ ty 5 0 0 0 ∷ ty 5 4 0 0 ∷ ty 5 2 0 0 ∷ ty 7 4 0 0 ∷ ty 7 8 0 0 ∷ ty 5 8 0 0 ∷ ty 6 3 0 0 ∷ ty 6 0 0 1 ∷ ty 6 3 1 1
        ∷ ty 5 14 0 0 ∷ ty 7 10 0 0 ∷ ty 7 17 0 0 ∷ ty 6 3 2 3 ∷ ty 7 6 0 0 ∷ ty 6 10 5 0 ∷ []);
    list = (0 ∷ 8 ∷ 10 ∷ 8 ∷ 16 ∷ []);
    fields = (fd 0 12 ∷ fd 1 15 ∷ fd 2 10 ∷ fd 0 12 ∷ fd 1 15 ∷ fd 2 10 ∷ fd 3 0 ∷ fd 14 4 ∷ fd 15 22 ∷ fd 0 4 ∷ fd 1 19 ∷ fd 2 4
        ∷ []);
    structs = (st 0 0 3 ∷ st 1 3 6 ∷ st 2 9 3 ∷ st 3 12 0 ∷ []);
    built_ins = (bi 115 15 ∷ bi 116 16 ∷ bi 123 23 ∷ []);
    nodes = (nd 2 123 15 1 ∷ nd 39 0 0 1 ∷ nd 33 0 0 0 ∷ nd 2 21 15 1 ∷ nd 39 0 0 1 ∷ nd 33 0 0 0 ∷ []);
  };
  declarations = (function 123 15 ([]) (block (then return_void empty)) ∷ function 21 15 ([]) (block (then return_void empty))
      ∷ []);
}

pub refused_7_12 : Answers program_refused_7_12 7 7 0 0 (65535 ∷ 65535 ∷ 65535 ∷ 65535 ∷ 65535 ∷ 65535 ∷ 65535 ∷ 65535 ∷ 65535
    ∷ 65535 ∷ 65535 ∷ 65535 ∷ [])
unfolding program_refused_7_12 computed is_file
refused_7_12 = record { file = is-file widest program_refused_7_12 refl; answer = refl }

unfoldable pub program_refused_8_1 : Program
program_refused_8_1 = record {
  tables = record {
    types = (ty 0 0 0 0 ∷ ty 1 0 0 0 ∷ ty 2 0 0 0 ∷ ty 3 0 0 0 ∷ ty 4 1 0 0 ∷ ty 4 2 0 0 ∷ ty 4 3 0 0 ∷ ty 7 4 0 0 ∷ ty 7 5 0 0
        ∷ ty 5 4 0 0 ∷ ty 5 5 0 0 ∷ ty 5 0 0 0 ∷ ty 6 3 0 0 ∷ ty 6 0 0 0 ∷ ty 6 0 0 1 ∷ ty 4 9 0 0 ∷ ty 7 15 0 0 ∷ ty 5 15 0 0
        ∷ ty 6 3 1 1 ∷ ty 7 2 0 0 ∷ ty 5 2 0 0 ∷ ty 5 0 0 0 ∷ ty 4 1 0 0 ∷ ty 5 7 0 0 ∷ ty 7 11 0 0 ∷ ty 6 5 2 1 ∷ ty 6 4 3 1
        ∷ ty 5 1 0 0 ∷ ty 6 3 4 2 ∷ ty 5 11 0 0 ∷ ty 7 13 0 0 ∷ ty 6 15 6 0 ∷ ty 6 17 6 1 ∷ ty 7 17 0 0 ∷ ty 6 21 7 0
        ∷ ty 6 21 7 1 ∷ ty 6 11 8 1 ∷ ty 6 3 9 1 ∷ ty 6 3 10 2 ∷ ty 6 3 12 2 ∷ []);
    list = (0 ∷ 15 ∷ 4 ∷ 5 ∷ 0 ∷ 1 ∷ 17 ∷ 21 ∷ 22 ∷ 7 ∷ 0 ∷ 0 ∷ 4 ∷ 4 ∷ []);
    fields = ([]);
    structs = ([]);
    built_ins = ([]);
    nodes = (nd 1 11 0 1 ∷ nd 15 11 0 0 ∷ []);
  };
  declarations = (global 11 (name 11) ∷ []);
}

pub refused_8_1 : Answers program_refused_8_1 8 0 1 0 (65535 ∷ 65535 ∷ 65535 ∷ 65535 ∷ [])
unfolding program_refused_8_1 computed is_file
refused_8_1 = record { file = is-file widest program_refused_8_1 refl; answer = refl }

unfoldable pub program_refused_8_2 : Program
program_refused_8_2 = record {
  tables = record {
    types = (ty 0 0 0 0 ∷ ty 1 0 0 0 ∷ ty 2 0 0 0 ∷ ty 3 0 0 0 ∷ ty 5 0 0 0 ∷ ty 4 68 0 0 ∷ []);
    list = ([]);
    fields = (fd 1 4 ∷ fd 2 0 ∷ []);
    structs = (st 68 0 2 ∷ []);
    built_ins = ([]);
    nodes = (nd 1 11 0 1 ∷ nd 21 0 5 2 ∷ nd 22 1 0 1 ∷ nd 16 0 4 2 ∷ nd 13 1 0 0 ∷ nd 13 2 0 0 ∷ nd 22 2 0 1 ∷ nd 15 99 0 0 ∷ []);
  };
  declarations = (global 11 (struct_literal 5 (init 1 (array_literal 4 (also (literal (integer 1)) (also (literal (integer 2))
      none))) (init 2 (name 99) no_init))) ∷ []);
}

pub refused_8_2 : Answers program_refused_8_2 8 1 7 2 (65535 ∷ 65535 ∷ 65535 ∷ 65535 ∷ 65535 ∷ 65535 ∷ 65535 ∷ 65535 ∷ 65535
    ∷ 65535 ∷ 65535 ∷ 65535 ∷ 65535 ∷ 65535 ∷ 65535 ∷ 65535 ∷ [])
unfolding program_refused_8_2 computed is_file
refused_8_2 = record { file = is-file widest program_refused_8_2 refl; answer = refl }

unfoldable pub program_refused_8_3 : Program
program_refused_8_3 = record {
  tables = record {
    types = (ty 0 0 0 0 ∷ ty 1 0 0 0 ∷ ty 2 0 0 0 ∷ ty 3 0 0 0 ∷ ty 7 2 0 0 ∷ ty 6 3 0 1 ∷ ty 6 3 1 1 ∷ ty 6 3 2 2 ∷ []);
    list = (4 ∷ 2 ∷ 5 ∷ 6 ∷ []);
    fields = ([]);
    structs = ([]);
    built_ins = ([]);
    nodes = (nd 2 10 7 3 ∷ nd 3 20 0 0 ∷ nd 3 21 0 0 ∷ nd 39 0 0 3 ∷ nd 30 0 0 2 ∷ nd 15 21 0 0 ∷ nd 15 20 0 0 ∷ nd 31 31 0 1
        ∷ nd 15 99 0 0 ∷ nd 33 0 0 0 ∷ []);
  };
  declarations = (function 10 7 (20 ∷ 21 ∷ []) (block (then (assign (name_target 21) (name 20)) (then (var 31 (name 99)) (then
      return_void empty)))) ∷ []);
}

pub refused_8_3 : Answers program_refused_8_3 8 1 8 4 (65535 ∷ 65535 ∷ 65535 ∷ 65535 ∷ 65535 ∷ 65535 ∷ 65535 ∷ 65535 ∷ 65535
    ∷ 65535 ∷ 65535 ∷ 65535 ∷ 65535 ∷ 65535 ∷ 65535 ∷ 65535 ∷ 65535 ∷ 65535 ∷ 65535 ∷ 65535 ∷ [])
unfolding program_refused_8_3 computed is_file
refused_8_3 = record { file = is-file widest program_refused_8_3 refl; answer = refl }

unfoldable pub program_refused_8_4 : Program
program_refused_8_4 = record {
  tables = record {
    types = (ty 0 0 0 0 ∷ ty 1 0 0 0 ∷ ty 2 0 0 0 ∷ ty 3 0 0 0 ∷ ty 7 2 0 0 ∷ ty 6 3 0 1 ∷ ty 6 3 1 1 ∷ ty 6 3 2 2 ∷ ty 6 3 4 3
        ∷ []);
    list = (4 ∷ 2 ∷ 6 ∷ 0 ∷ 5 ∷ 6 ∷ 7 ∷ []);
    fields = ([]);
    structs = ([]);
    built_ins = ([]);
    nodes = (nd 2 10 8 4 ∷ nd 3 20 0 0 ∷ nd 3 21 0 0 ∷ nd 3 30 0 0 ∷ nd 39 0 0 2 ∷ nd 34 0 0 3 ∷ nd 15 30 0 0 ∷ nd 11 0 0 0
        ∷ nd 15 99 0 0 ∷ nd 33 0 0 0 ∷ []);
  };
  declarations = (function 10 8 (20 ∷ 21 ∷ 30 ∷ []) (block (then (call_stmt (name 30) (also (literal truth) (also (name 99) none)))
      (then return_void empty))) ∷ []);
}

pub refused_8_4 : Answers program_refused_8_4 8 1 8 0 (65535 ∷ 65535 ∷ 65535 ∷ 65535 ∷ 65535 ∷ 65535 ∷ 65535 ∷ 65535 ∷ 65535
    ∷ 65535 ∷ 65535 ∷ 65535 ∷ 65535 ∷ 65535 ∷ 65535 ∷ 65535 ∷ 65535 ∷ 65535 ∷ 65535 ∷ 65535 ∷ [])
unfolding program_refused_8_4 computed is_file
refused_8_4 = record { file = is-file widest program_refused_8_4 refl; answer = refl }

unfoldable pub program_refused_8_5 : Program
program_refused_8_5 = record {
  tables = record {
    types = (ty 0 0 0 0 ∷ ty 1 0 0 0 ∷ ty 2 0 0 0 ∷ ty 3 0 0 0 ∷ ty 4 1 0 0 ∷ ty 4 2 0 0 ∷ ty 4 3 0 0 ∷ ty 7 4 0 0 ∷ ty 7 5 0 0
        ∷ ty 5 4 0 0 ∷ ty 5 5 0 0 ∷ ty 5 0 0 0 ∷ ty 6 3 0 0 ∷ ty 6 0 0 0 ∷ ty 6 0 0 1 ∷ ty 4 9 0 0 ∷ ty 7 15 0 0 ∷ ty 5 15 0 0
        ∷ ty 6 3 1 1 ∷ ty 7 2 0 0 ∷ ty 5 2 0 0 ∷ ty 5 0 0 0 ∷ ty 4 1 0 0 ∷ ty 5 7 0 0 ∷ ty 7 11 0 0 ∷ ty 6 5 2 1 ∷ ty 6 4 3 1
        ∷ ty 5 1 0 0 ∷ ty 6 3 4 2 ∷ ty 5 11 0 0 ∷ ty 7 13 0 0 ∷ ty 6 15 6 0 ∷ ty 6 17 6 1 ∷ ty 7 17 0 0 ∷ ty 6 21 7 0
        ∷ ty 6 21 7 1 ∷ ty 6 11 8 1 ∷ ty 6 3 9 1 ∷ ty 6 3 10 2 ∷ ty 6 3 12 2 ∷ []);
    list = (0 ∷ 15 ∷ 4 ∷ 5 ∷ 0 ∷ 1 ∷ 17 ∷ 21 ∷ 22 ∷ 7 ∷ 0 ∷ 0 ∷ 4 ∷ 4 ∷ []);
    fields = (fd 1 0 ∷ fd 2 0 ∷ fd 1 0 ∷ fd 2 0 ∷ fd 3 0 ∷ fd 1 0 ∷ fd 3 0 ∷ []);
    structs = (st 1 0 2 ∷ st 2 2 3 ∷ st 3 5 2 ∷ []);
    built_ins = ([]);
    nodes = (nd 2 10 12 1 ∷ nd 39 0 0 2 ∷ nd 31 20 0 1 ∷ nd 23 3 0 1 ∷ nd 21 0 4 2 ∷ nd 22 1 0 1 ∷ nd 13 1 0 0 ∷ nd 22 2 0 1
        ∷ nd 13 1 0 0 ∷ nd 33 0 0 0 ∷ []);
  };
  declarations = (function 10 12 ([]) (block (then (var 20 (field 3 (struct_literal 4 (init 1 (literal (integer 1)) (init 2
      (literal (integer 1)) no_init))))) (then return_void empty))) ∷ []);
}

pub refused_8_5 : Answers program_refused_8_5 8 7 3 2 (65535 ∷ 65535 ∷ 65535 ∷ 65535 ∷ 65535 ∷ 65535 ∷ 65535 ∷ 65535 ∷ 65535
    ∷ 65535 ∷ 65535 ∷ 65535 ∷ 65535 ∷ 65535 ∷ 65535 ∷ 65535 ∷ 65535 ∷ 65535 ∷ 65535 ∷ 65535 ∷ [])
unfolding program_refused_8_5 computed is_file
refused_8_5 = record { file = is-file widest program_refused_8_5 refl; answer = refl }

unfoldable pub program_refused_9_1 : Program
program_refused_9_1 = record {
  tables = record {
    types = (ty 0 0 0 0 ∷ ty 1 0 0 0 ∷ ty 2 0 0 0 ∷ ty 3 0 0 0 ∷ ty 6 3 0 0 ∷ ty 4 1 0 0 ∷ ty 4 9 0 0 ∷ ty 6 6 0 0 ∷ []);
    list = ([]);
    fields = ([]);
    structs = ([]);
    built_ins = (bi 1 7 ∷ []);
    nodes = ([]);
  };
  declarations = ([]);
}

pub refused_9_1 : Answers program_refused_9_1 9 0 0 0 ([])
unfolding program_refused_9_1 computed is_file
refused_9_1 = record { file = is-file widest program_refused_9_1 refl; answer = refl }

unfoldable pub program_refused_9_2 : Program
program_refused_9_2 = record {
  tables = record {
    types = (ty 0 0 0 0 ∷ ty 1 0 0 0 ∷ ty 2 0 0 0 ∷ ty 3 0 0 0 ∷ ty 4 81 0 0 ∷ ty 6 3 0 1 ∷ []);
    list = (4 ∷ []);
    fields = ([]);
    structs = ([]);
    built_ins = ([]);
    nodes = (nd 2 10 5 2 ∷ nd 3 20 0 0 ∷ nd 39 0 0 1 ∷ nd 33 0 0 0 ∷ []);
  };
  declarations = (function 10 5 (20 ∷ []) (block (then return_void empty)) ∷ []);
}

pub refused_9_2 : Answers program_refused_9_2 9 0 0 0 (65535 ∷ 65535 ∷ 65535 ∷ 65535 ∷ 65535 ∷ 65535 ∷ 65535 ∷ 65535 ∷ [])
unfolding program_refused_9_2 computed is_file
refused_9_2 = record { file = is-file widest program_refused_9_2 refl; answer = refl }

unfoldable pub program_refused_9_3 : Program
program_refused_9_3 = record {
  tables = record {
    types = (ty 0 0 0 0 ∷ ty 1 0 0 0 ∷ ty 2 0 0 0 ∷ ty 3 0 0 0 ∷ ty 4 1 0 0 ∷ ty 4 2 0 0 ∷ ty 4 3 0 0 ∷ ty 7 4 0 0 ∷ ty 7 5 0 0
        ∷ ty 5 4 0 0 ∷ ty 5 5 0 0 ∷ ty 5 0 0 0 ∷ ty 6 3 0 0 ∷ ty 6 0 0 0 ∷ ty 6 0 0 1 ∷ ty 4 9 0 0 ∷ ty 7 15 0 0 ∷ ty 5 15 0 0
        ∷ ty 6 3 1 1 ∷ ty 7 2 0 0 ∷ ty 5 2 0 0 ∷ ty 5 0 0 0 ∷ ty 4 1 0 0 ∷ ty 5 7 0 0 ∷ ty 7 11 0 0 ∷ ty 6 5 2 1 ∷ ty 6 4 3 1
        ∷ ty 5 1 0 0 ∷ ty 6 3 4 2 ∷ ty 5 11 0 0 ∷ ty 7 13 0 0 ∷ ty 6 15 6 0 ∷ ty 6 17 6 1 ∷ ty 7 17 0 0 ∷ ty 6 21 7 0
        ∷ ty 6 21 7 1 ∷ ty 6 11 8 1 ∷ ty 6 3 9 1 ∷ ty 6 3 10 2 ∷ ty 6 3 12 2 ∷ []);
    list = (0 ∷ 15 ∷ 4 ∷ 5 ∷ 0 ∷ 1 ∷ 17 ∷ 21 ∷ 22 ∷ 7 ∷ 0 ∷ 0 ∷ 4 ∷ 4 ∷ []);
    fields = ([]);
    structs = ([]);
    built_ins = ([]);
    nodes = (nd 1 11 0 1 ∷ nd 21 0 4 0 ∷ []);
  };
  declarations = (global 11 (struct_literal 4 no_init) ∷ []);
}

pub refused_9_3 : Answers program_refused_9_3 9 0 1 0 (65535 ∷ 65535 ∷ 65535 ∷ 65535 ∷ [])
unfolding program_refused_9_3 computed is_file
refused_9_3 = record { file = is-file widest program_refused_9_3 refl; answer = refl }

unfoldable pub program_refused_9_4 : Program
program_refused_9_4 = record {
  tables = record {
    types = (ty 0 0 0 0 ∷ ty 1 0 0 0 ∷ ty 2 0 0 0 ∷ ty 3 0 0 0 ∷ ty 6 3 0 0 ∷ ty 4 1 0 0 ∷ ty 4 9 0 0 ∷ ty 6 6 0 0 ∷ []);
    list = ([]);
    fields = (fd 1 7 ∷ []);
    structs = (st 1 0 1 ∷ []);
    built_ins = ([]);
    nodes = ([]);
  };
  declarations = ([]);
}

pub refused_9_4 : Answers program_refused_9_4 9 1 0 0 ([])
unfolding program_refused_9_4 computed is_file
refused_9_4 = record { file = is-file widest program_refused_9_4 refl; answer = refl }

unfoldable pub program_refused_9_5 : Program
program_refused_9_5 = record {
  tables = record {
    types = (ty 0 0 0 0 ∷ ty 1 0 0 0 ∷ ty 2 0 0 0 ∷ ty 3 0 0 0 ∷ ty 4 1 0 0 ∷ ty 4 2 0 0 ∷ ty 4 3 0 0 ∷ ty 7 4 0 0 ∷ ty 7 5 0 0
        ∷ ty 5 4 0 0 ∷ ty 5 5 0 0 ∷ ty 5 0 0 0 ∷ ty 6 3 0 0 ∷ ty 6 0 0 0 ∷ ty 6 0 0 1 ∷ ty 4 9 0 0 ∷ ty 7 15 0 0 ∷ ty 5 15 0 0
        ∷ ty 6 3 1 1 ∷ ty 7 2 0 0 ∷ ty 5 2 0 0 ∷ ty 5 0 0 0 ∷ ty 4 1 0 0 ∷ ty 5 7 0 0 ∷ ty 7 11 0 0 ∷ ty 6 5 2 1 ∷ ty 6 4 3 1
        ∷ ty 5 1 0 0 ∷ ty 6 3 4 2 ∷ ty 5 11 0 0 ∷ ty 7 13 0 0 ∷ ty 6 15 6 0 ∷ ty 6 17 6 1 ∷ ty 7 17 0 0 ∷ ty 6 21 7 0
        ∷ ty 6 21 7 1 ∷ ty 6 11 8 1 ∷ ty 6 3 9 1 ∷ ty 6 3 10 2 ∷ ty 6 3 12 2 ∷ []);
    list = (0 ∷ 15 ∷ 4 ∷ 5 ∷ 0 ∷ 1 ∷ 17 ∷ 21 ∷ 22 ∷ 7 ∷ 0 ∷ 0 ∷ 4 ∷ 4 ∷ []);
    fields = ([]);
    structs = ([]);
    built_ins = ([]);
    nodes = (nd 2 10 13 1 ∷ nd 39 0 0 1 ∷ nd 32 0 0 1 ∷ nd 21 0 4 0 ∷ []);
  };
  declarations = (function 10 13 ([]) (block (then (return_value (struct_literal 4 no_init)) empty)) ∷ []);
}

pub refused_9_5 : Answers program_refused_9_5 9 1 3 0 (65535 ∷ 65535 ∷ 65535 ∷ 65535 ∷ 65535 ∷ 65535 ∷ 65535 ∷ 65535 ∷ [])
unfolding program_refused_9_5 computed is_file
refused_9_5 = record { file = is-file widest program_refused_9_5 refl; answer = refl }

unfoldable pub program_refused_9_6 : Program
program_refused_9_6 = record {
  tables = record {
    types = (ty 0 0 0 0 ∷ ty 1 0 0 0 ∷ ty 2 0 0 0 ∷ ty 3 0 0 0 ∷ ty 4 1 0 0 ∷ ty 4 2 0 0 ∷ ty 4 3 0 0 ∷ ty 7 4 0 0 ∷ ty 7 5 0 0
        ∷ ty 5 4 0 0 ∷ ty 5 5 0 0 ∷ ty 5 0 0 0 ∷ ty 6 3 0 0 ∷ ty 6 0 0 0 ∷ ty 6 0 0 1 ∷ ty 4 9 0 0 ∷ ty 7 15 0 0 ∷ ty 5 15 0 0
        ∷ ty 6 3 1 1 ∷ ty 7 2 0 0 ∷ ty 5 2 0 0 ∷ ty 5 0 0 0 ∷ ty 4 1 0 0 ∷ ty 5 7 0 0 ∷ ty 7 11 0 0 ∷ ty 6 5 2 1 ∷ ty 6 4 3 1
        ∷ ty 5 1 0 0 ∷ ty 6 3 4 2 ∷ ty 5 11 0 0 ∷ ty 7 13 0 0 ∷ ty 6 15 6 0 ∷ ty 6 17 6 1 ∷ ty 7 17 0 0 ∷ ty 6 21 7 0
        ∷ ty 6 21 7 1 ∷ ty 6 11 8 1 ∷ ty 6 3 9 1 ∷ ty 6 3 10 2 ∷ ty 6 3 12 2 ∷ []);
    list = (0 ∷ 15 ∷ 4 ∷ 5 ∷ 0 ∷ 1 ∷ 17 ∷ 21 ∷ 22 ∷ 7 ∷ 0 ∷ 0 ∷ 4 ∷ 4 ∷ []);
    fields = ([]);
    structs = ([]);
    built_ins = ([]);
    nodes = (nd 2 10 13 1 ∷ nd 39 0 0 1 ∷ nd 32 0 0 1 ∷ nd 17 0 9 1 ∷ nd 13 1 0 0 ∷ []);
  };
  declarations = (function 10 13 ([]) (block (then (return_value (default_array 9 (literal (integer 1)))) empty)) ∷ []);
}

pub refused_9_6 : Answers program_refused_9_6 9 1 3 0 (65535 ∷ 65535 ∷ 65535 ∷ 65535 ∷ 65535 ∷ 65535 ∷ 65535 ∷ 65535 ∷ 65535
    ∷ 65535 ∷ [])
unfolding program_refused_9_6 computed is_file
refused_9_6 = record { file = is-file widest program_refused_9_6 refl; answer = refl }

unfoldable pub program_refused_9_7 : Program
program_refused_9_7 = record {
  tables = record {
    types = (ty 0 0 0 0 ∷ ty 1 0 0 0 ∷ ty 2 0 0 0 ∷ ty 3 0 0 0 ∷ ty 6 3 0 0 ∷ ty 6 0 0 0 ∷ ty 6 0 0 1 ∷ ty 6 3 1 2 ∷ ty 7 2 0 0
        ∷ ty 5 0 0 0 ∷ ty 5 9 0 0 ∷ ty 7 9 0 0 ∷ ty 5 1 0 0 ∷ ty 6 3 3 1 ∷ ty 6 9 4 1 ∷ ty 4 9 0 0 ∷ ty 7 15 0 0 ∷ ty 5 15 0 0
        ∷ []);
    list = (0 ∷ 0 ∷ 0 ∷ 8 ∷ 9 ∷ []);
    fields = ([]);
    structs = ([]);
    built_ins = ([]);
    nodes = (nd 2 10 4 1 ∷ nd 39 0 0 3 ∷ nd 31 20 0 1 ∷ nd 13 1 0 0 ∷ nd 31 20 0 1 ∷ nd 10 0 16 0 ∷ nd 33 0 0 0 ∷ []);
  };
  declarations = (function 10 4 ([]) (block (then (var 20 (literal (integer 1))) (then (var 20 (null 16)) (then return_void
      empty)))) ∷ []);
}

pub refused_9_7 : Answers program_refused_9_7 9 1 5 0 (65535 ∷ 65535 ∷ 65535 ∷ 65535 ∷ 65535 ∷ 65535 ∷ 65535 ∷ 65535 ∷ 65535
    ∷ 65535 ∷ 65535 ∷ 65535 ∷ 65535 ∷ 65535 ∷ [])
unfolding program_refused_9_7 computed is_file
refused_9_7 = record { file = is-file widest program_refused_9_7 refl; answer = refl }

unfoldable pub program_refused_9_8 : Program
program_refused_9_8 = record {
  tables = record {
    types = (ty 0 0 0 0 ∷ ty 1 0 0 0 ∷ ty 2 0 0 0 ∷ ty 3 0 0 0 ∷ ty 6 3 0 0 ∷ ty 6 0 0 0 ∷ ty 6 0 0 1 ∷ ty 6 3 1 2 ∷ ty 7 2 0 0
        ∷ ty 5 0 0 0 ∷ ty 5 9 0 0 ∷ ty 7 9 0 0 ∷ ty 5 1 0 0 ∷ ty 6 3 3 1 ∷ ty 6 9 4 1 ∷ ty 4 9 0 0 ∷ ty 7 15 0 0 ∷ ty 5 15 0 0
        ∷ []);
    list = (0 ∷ 0 ∷ 0 ∷ 8 ∷ 9 ∷ []);
    fields = ([]);
    structs = ([]);
    built_ins = ([]);
    nodes = (nd 2 10 4 1 ∷ nd 39 0 0 3 ∷ nd 31 20 0 1 ∷ nd 11 0 0 0 ∷ nd 31 21 0 1 ∷ nd 18 20 17 2 ∷ nd 15 99 0 0 ∷ nd 15 99 0 0
        ∷ nd 33 0 0 0 ∷ []);
  };
  declarations = (function 10 4 ([]) (block (then (var 20 (literal truth)) (then (var 21 (array_with 17 20 (name 99) (name 99)))
      (then return_void empty)))) ∷ []);
}

pub refused_9_8 : Answers program_refused_9_8 9 1 5 0 (65535 ∷ 65535 ∷ 65535 ∷ 65535 ∷ 65535 ∷ 65535 ∷ 65535 ∷ 65535 ∷ 65535
    ∷ 65535 ∷ 65535 ∷ 65535 ∷ 65535 ∷ 65535 ∷ 65535 ∷ 65535 ∷ 65535 ∷ 65535 ∷ [])
unfolding program_refused_9_8 computed is_file
refused_9_8 = record { file = is-file widest program_refused_9_8 refl; answer = refl }

unfoldable pub program_refused_9_9 : Program
program_refused_9_9 = record {
  tables = record {
    types = (ty 0 0 0 0 ∷ ty 1 0 0 0 ∷ ty 2 0 0 0 ∷ ty 3 0 0 0 ∷ ty 4 81 0 0 ∷ ty 7 4 0 0 ∷ ty 7 2 0 0 ∷ ty 6 3 0 1 ∷ ty 6 3 1 1
        ∷ ty 6 3 2 2 ∷ []);
    list = (6 ∷ 2 ∷ 7 ∷ 8 ∷ []);
    fields = ([]);
    structs = ([]);
    built_ins = ([]);
    nodes = (nd 2 10 9 3 ∷ nd 3 20 0 0 ∷ nd 3 21 0 0 ∷ nd 39 0 0 3 ∷ nd 30 0 0 2 ∷ nd 15 21 0 0 ∷ nd 15 20 0 0 ∷ nd 31 31 0 1
        ∷ nd 10 0 5 0 ∷ nd 33 0 0 0 ∷ []);
  };
  declarations = (function 10 9 (20 ∷ 21 ∷ []) (block (then (assign (name_target 21) (name 20)) (then (var 31 (null 5)) (then
      return_void empty)))) ∷ []);
}

pub refused_9_9 : Answers program_refused_9_9 9 1 8 4 (65535 ∷ 65535 ∷ 65535 ∷ 65535 ∷ 65535 ∷ 65535 ∷ 65535 ∷ 65535 ∷ 65535
    ∷ 65535 ∷ 65535 ∷ 65535 ∷ 65535 ∷ 65535 ∷ 65535 ∷ 65535 ∷ 65535 ∷ 65535 ∷ 65535 ∷ 65535 ∷ [])
unfolding program_refused_9_9 computed is_file
refused_9_9 = record { file = is-file widest program_refused_9_9 refl; answer = refl }

unfoldable pub program_refused_9_10 : Program
program_refused_9_10 = record {
  tables = record {
    types = (ty 0 0 0 0 ∷ ty 1 0 0 0 ∷ ty 2 0 0 0 ∷ ty 3 0 0 0 ∷ ty 4 81 0 0 ∷ ty 5 4 0 0 ∷ ty 7 2 0 0 ∷ ty 6 3 0 1 ∷ ty 6 3 1 1
        ∷ ty 6 3 2 2 ∷ []);
    list = (6 ∷ 2 ∷ 7 ∷ 8 ∷ []);
    fields = ([]);
    structs = ([]);
    built_ins = ([]);
    nodes = (nd 2 10 9 3 ∷ nd 3 20 0 0 ∷ nd 3 21 0 0 ∷ nd 39 0 0 3 ∷ nd 30 0 0 2 ∷ nd 15 21 0 0 ∷ nd 15 20 0 0 ∷ nd 31 31 0 1
        ∷ nd 16 0 5 1 ∷ nd 15 20 0 0 ∷ nd 33 0 0 0 ∷ []);
  };
  declarations = (function 10 9 (20 ∷ 21 ∷ []) (block (then (assign (name_target 21) (name 20)) (then (var 31 (array_literal 5 (also
      (name 20) none))) (then return_void empty)))) ∷ []);
}

pub refused_9_10 : Answers program_refused_9_10 9 1 8 4 (65535 ∷ 65535 ∷ 65535 ∷ 65535 ∷ 65535 ∷ 65535 ∷ 65535 ∷ 65535 ∷ 65535
    ∷ 65535 ∷ 65535 ∷ 65535 ∷ 65535 ∷ 65535 ∷ 65535 ∷ 65535 ∷ 65535 ∷ 65535 ∷ 65535 ∷ 65535 ∷ 65535 ∷ 65535 ∷ [])
unfolding program_refused_9_10 computed is_file
refused_9_10 = record { file = is-file widest program_refused_9_10 refl; answer = refl }

unfoldable pub program_refused_9_11 : Program
program_refused_9_11 = record {
  tables = record {
    types = (ty 0 0 0 0 ∷ ty 1 0 0 0 ∷ ty 2 0 0 0 ∷ ty 3 0 0 0 ∷ ty 4 81 0 0 ∷ ty 7 4 0 0 ∷ ty 5 0 0 0 ∷ []);
    list = ([]);
    fields = (fd 1 0 ∷ fd 2 5 ∷ []);
    structs = (st 68 0 2 ∷ []);
    built_ins = ([]);
    nodes = (nd 1 11 0 1 ∷ nd 16 0 6 4 ∷ nd 13 1 0 0 ∷ nd 13 1 0 0 ∷ nd 13 1 0 0 ∷ nd 13 1 0 0 ∷ nd 1 12 0 1 ∷ nd 16 0 6 2
        ∷ nd 13 1 0 0 ∷ nd 13 1 0 0 ∷ []);
  };
  declarations = (global 11 (array_literal 6 (also (literal (integer 1)) (also (literal (integer 1)) (also (literal (integer 1))
      (also (literal (integer 1)) none))))) ∷ global 12 (array_literal 6 (also (literal (integer 1)) (also (literal (integer 1))
      none))) ∷ []);
}

pub refused_9_11 : Answers program_refused_9_11 9 3 0 6 (65535 ∷ 65535 ∷ 65535 ∷ 65535 ∷ 65535 ∷ 65535 ∷ 65535 ∷ 65535 ∷ 65535
    ∷ 65535 ∷ 65535 ∷ 65535 ∷ 65535 ∷ 65535 ∷ 65535 ∷ 65535 ∷ 65535 ∷ 65535 ∷ 65535 ∷ 65535 ∷ [])
unfolding program_refused_9_11 computed is_file
refused_9_11 = record { file = is-file widest program_refused_9_11 refl; answer = refl }

unfoldable pub program_refused_9_12 : Program
program_refused_9_12 = record {
  tables = record {
    types = (ty 0 0 0 0 ∷ ty 1 0 0 0 ∷ ty 2 0 0 0 ∷ ty 3 0 0 0 ∷ ty 4 0 0 0 ∷ ty 4 1 0 0 ∷ ty 4 77 0 0 ∷ ty 5 0 0 0 ∷ ty 5 4 0 0
        ∷ ty 5 2 0 0 ∷ ty 7 4 0 0 ∷ ty 7 6 0 0 ∷ ty 5 6 0 0 ∷ ty 6 3 0 0 ∷ ty 6 0 0 1 ∷ ty 6 3 1 1 ∷ ty 6 14 2 2 ∷ ty 7 14 0 0
        ∷ ty 5 1 0 0 ∷ ty 5 1 0 0 ∷ ty 7 9 0 0 ∷ ty 5 18 0 0 ∷ ty 6 3 4 1 ∷ ty 7 22 0 0 ∷ ty 6 22 5 0 ∷ ty 5 0 0 0 ∷ ty 6 3 5 2
        ∷ ty 5 22 0 0 ∷ ty 5 16 0 0 ∷ ty 5 5 0 0 ∷ ty 7 13 0 0 ∷ ty 6 3 7 1 ∷ ty 7 9 0 0 ∷ ty 6 28 8 0 ∷ []);
    list = (0 ∷ 6 ∷ 13 ∷ 8 ∷ 6 ∷ 11 ∷ 11 ∷ 6 ∷ []);
    fields = (fd 0 18 ∷ fd 1 13 ∷ fd 2 17 ∷ []);
    structs = (st 0 0 0 ∷ st 1 0 3 ∷ []);
    built_ins = (bi 113 13 ∷ bi 114 14 ∷ bi 116 16 ∷ bi 133 33 ∷ []);
    nodes = (nd 2 20 16 3 ∷ nd 3 60 0 0 ∷ nd 3 61 0 0 ∷ nd 39 0 0 1 ∷ nd 32 0 0 1 ∷ nd 16 0 27 0 ∷ []);
  };
  declarations = (function 20 16 (60 ∷ 61 ∷ []) (block (then (return_value (array_literal 27 none)) empty)) ∷ []);
}

pub refused_9_12 : Answers program_refused_9_12 9 9 5 0 (65535 ∷ 65535 ∷ 65535 ∷ 65535 ∷ 65535 ∷ 65535 ∷ 65535 ∷ 65535 ∷ 65535
    ∷ 65535 ∷ 65535 ∷ 65535 ∷ [])
unfolding program_refused_9_12 computed is_file
refused_9_12 = record { file = is-file widest program_refused_9_12 refl; answer = refl }

unfoldable pub program_refused_9_13 : Program
program_refused_9_13 = record {
  tables = record {
    types = (ty 0 0 0 0 ∷ ty 1 0 0 0 ∷ ty 2 0 0 0 ∷ ty 3 0 0 0 ∷ ty 4 0 0 0 ∷ ty 4 1 0 0 ∷ ty 4 2 0 0 ∷ ty 4 77 0 0 ∷ ty 5 0 0 0
        ∷ ty 5 4 0 0 ∷ ty 5 2 0 0 ∷ ty 7 4 0 0 ∷ ty 7 7 0 0 ∷ ty 5 7 0 0 ∷ ty 6 3 0 0 ∷ ty 6 0 0 1 ∷ ty 6 3 1 1 ∷ ty 7 4 0 0
        ∷ ty 7 4 0 0 ∷ ty 6 3 2 0 ∷ ty 6 3 2 2 ∷ ty 5 12 0 0 ∷ ty 7 10 0 0 ∷ ty 5 21 0 0 ∷ ty 5 14 0 0 ∷ ty 6 18 4 0 ∷ []);
    list = (0 ∷ 7 ∷ 6 ∷ 5 ∷ []);
    fields = (fd 10 10 ∷ fd 11 2 ∷ fd 0 1 ∷ fd 1 1 ∷ []);
    structs = (st 0 0 0 ∷ st 1 0 2 ∷ st 2 2 2 ∷ []);
    built_ins = (bi 114 14 ∷ bi 115 15 ∷ bi 119 19 ∷ bi 120 20 ∷ bi 125 25 ∷ []);
    nodes = (nd 1 40 0 1 ∷ nd 13 51175 0 0 ∷ nd 2 20 14 1 ∷ nd 39 0 0 2 ∷ nd 30 0 0 2 ∷ nd 15 40 0 0 ∷ nd 15 40 0 0 ∷ nd 33 0 0 0
        ∷ nd 1 120 0 1 ∷ nd 10 0 12 0 ∷ []);
  };
  declarations = (global 40 (literal (integer 51175)) ∷ function 20 14 ([]) (block (then (assign (name_target 40) (name 40)) (then
      return_void empty))) ∷ global 120 (null 12) ∷ []);
}

pub refused_9_13 : Answers program_refused_9_13 9 10 9 0 (65535 ∷ 65535 ∷ 65535 ∷ 65535 ∷ 65535 ∷ 65535 ∷ 65535 ∷ 65535 ∷ 65535
    ∷ 65535 ∷ 65535 ∷ 65535 ∷ 65535 ∷ 65535 ∷ 65535 ∷ 65535 ∷ 65535 ∷ 65535 ∷ 65535 ∷ 65535 ∷ [])
unfolding program_refused_9_13 computed is_file
refused_9_13 = record { file = is-file widest program_refused_9_13 refl; answer = refl }

unfoldable pub program_refused_10_1 : Program
program_refused_10_1 = record {
  tables = record {
    types = (ty 0 0 0 0 ∷ ty 1 0 0 0 ∷ ty 2 0 0 0 ∷ ty 3 0 0 0 ∷ ty 6 3 0 0 ∷ ty 6 0 0 0 ∷ ty 6 0 0 1 ∷ ty 6 3 1 2 ∷ ty 7 2 0 0
        ∷ ty 5 0 0 0 ∷ ty 5 9 0 0 ∷ ty 7 9 0 0 ∷ ty 5 1 0 0 ∷ ty 6 3 3 1 ∷ ty 6 9 4 1 ∷ ty 4 9 0 0 ∷ ty 7 15 0 0 ∷ ty 5 15 0 0
        ∷ []);
    list = (0 ∷ 0 ∷ 0 ∷ 8 ∷ 9 ∷ []);
    fields = ([]);
    structs = ([]);
    built_ins = ([]);
    nodes = (nd 2 10 4 1 ∷ nd 39 0 0 2 ∷ nd 37 0 0 4 ∷ nd 31 20 0 1 ∷ nd 13 1 0 0 ∷ nd 15 20 0 0 ∷ nd 31 20 0 1 ∷ nd 13 1 0 0
        ∷ nd 39 0 0 0 ∷ nd 33 0 0 0 ∷ []);
  };
  declarations = (function 10 4 ([]) (block (then (for (next_var 20 (literal (integer 1)) no_var) (condition (name 20)) (step (var
      20 (literal (integer 1)))) (block empty)) (then return_void empty))) ∷ []);
}

pub refused_10_1 : Answers program_refused_10_1 10 1 2 0 (65535 ∷ 65535 ∷ 65535 ∷ 65535 ∷ 65535 ∷ 65535 ∷ 65535 ∷ 65535 ∷ 65535
    ∷ 65535 ∷ 65535 ∷ 65535 ∷ 65535 ∷ 65535 ∷ 65535 ∷ 65535 ∷ 65535 ∷ 65535 ∷ 65535 ∷ 65535 ∷ [])
unfolding program_refused_10_1 computed is_file
refused_10_1 = record { file = is-file widest program_refused_10_1 refl; answer = refl }

unfoldable pub program_refused_10_2 : Program
program_refused_10_2 = record {
  tables = record {
    types = (ty 0 0 0 0 ∷ ty 1 0 0 0 ∷ ty 2 0 0 0 ∷ ty 3 0 0 0 ∷ ty 4 1 0 0 ∷ ty 4 2 0 0 ∷ ty 4 3 0 0 ∷ ty 7 4 0 0 ∷ ty 7 5 0 0
        ∷ ty 5 4 0 0 ∷ ty 5 5 0 0 ∷ ty 5 0 0 0 ∷ ty 6 3 0 0 ∷ ty 6 0 0 0 ∷ ty 6 0 0 1 ∷ ty 4 9 0 0 ∷ ty 7 15 0 0 ∷ ty 5 15 0 0
        ∷ ty 6 3 1 1 ∷ ty 7 2 0 0 ∷ ty 5 2 0 0 ∷ ty 5 0 0 0 ∷ ty 4 1 0 0 ∷ ty 5 7 0 0 ∷ ty 7 11 0 0 ∷ ty 6 5 2 1 ∷ ty 6 4 3 1
        ∷ ty 5 1 0 0 ∷ ty 6 3 4 2 ∷ ty 5 11 0 0 ∷ ty 7 13 0 0 ∷ ty 6 15 6 0 ∷ ty 6 17 6 1 ∷ ty 7 17 0 0 ∷ ty 6 21 7 0
        ∷ ty 6 21 7 1 ∷ ty 6 11 8 1 ∷ ty 6 3 9 1 ∷ ty 6 3 10 2 ∷ ty 6 3 12 2 ∷ []);
    list = (0 ∷ 15 ∷ 4 ∷ 5 ∷ 0 ∷ 1 ∷ 17 ∷ 21 ∷ 22 ∷ 7 ∷ 0 ∷ 0 ∷ 4 ∷ 4 ∷ []);
    fields = ([]);
    structs = ([]);
    built_ins = ([]);
    nodes = (nd 2 10 12 1 ∷ nd 39 0 0 1 ∷ nd 38 0 0 2 ∷ nd 13 1 0 0 ∷ nd 39 0 0 2 ∷ nd 33 0 0 0 ∷ nd 33 0 0 0 ∷ []);
  };
  declarations = (function 10 12 ([]) (block (then (while (literal (integer 1)) (block (then return_void (then return_void empty))))
      empty)) ∷ []);
}

pub refused_10_2 : Answers program_refused_10_2 10 1 2 0 (65535 ∷ 65535 ∷ 65535 ∷ 65535 ∷ 65535 ∷ 65535 ∷ 65535 ∷ 65535 ∷ 65535
    ∷ 65535 ∷ 65535 ∷ 65535 ∷ 65535 ∷ 65535 ∷ [])
unfolding program_refused_10_2 computed is_file
refused_10_2 = record { file = is-file widest program_refused_10_2 refl; answer = refl }

unfoldable pub program_refused_10_3 : Program
program_refused_10_3 = record {
  tables = record {
    types = (ty 0 0 0 0 ∷ ty 1 0 0 0 ∷ ty 2 0 0 0 ∷ ty 3 0 0 0 ∷ ty 6 3 0 1 ∷ []);
    list = (2 ∷ []);
    fields = ([]);
    structs = ([]);
    built_ins = ([]);
    nodes = (nd 2 10 4 2 ∷ nd 3 20 0 0 ∷ nd 39 0 0 2 ∷ nd 36 31 2 3 ∷ nd 15 20 0 0 ∷ nd 39 0 0 0 ∷ nd 39 0 0 0 ∷ nd 33 0 0 0
        ∷ []);
  };
  declarations = (function 10 4 (20 ∷ []) (block (then (if_null 31 2 (name 20) (block empty) (block empty)) (then return_void
      empty))) ∷ []);
}

pub refused_10_3 : Answers program_refused_10_3 10 1 3 0 (65535 ∷ 65535 ∷ 65535 ∷ 65535 ∷ 65535 ∷ 65535 ∷ 65535 ∷ 65535 ∷ 65535
    ∷ 65535 ∷ 65535 ∷ 65535 ∷ 65535 ∷ 65535 ∷ 65535 ∷ 65535 ∷ [])
unfolding program_refused_10_3 computed is_file
refused_10_3 = record { file = is-file widest program_refused_10_3 refl; answer = refl }

unfoldable pub program_refused_10_4 : Program
program_refused_10_4 = record {
  tables = record {
    types = (ty 0 0 0 0 ∷ ty 1 0 0 0 ∷ ty 2 0 0 0 ∷ ty 3 0 0 0 ∷ ty 4 1 0 0 ∷ ty 4 2 0 0 ∷ ty 4 3 0 0 ∷ ty 7 4 0 0 ∷ ty 7 5 0 0
        ∷ ty 5 4 0 0 ∷ ty 5 5 0 0 ∷ ty 5 0 0 0 ∷ ty 6 3 0 0 ∷ ty 6 0 0 0 ∷ ty 6 0 0 1 ∷ ty 4 9 0 0 ∷ ty 7 15 0 0 ∷ ty 5 15 0 0
        ∷ ty 6 3 1 1 ∷ ty 7 2 0 0 ∷ ty 5 2 0 0 ∷ ty 5 0 0 0 ∷ ty 4 1 0 0 ∷ ty 5 7 0 0 ∷ ty 7 11 0 0 ∷ ty 6 5 2 1 ∷ ty 6 4 3 1
        ∷ ty 5 1 0 0 ∷ ty 6 3 4 2 ∷ ty 5 11 0 0 ∷ ty 7 13 0 0 ∷ ty 6 15 6 0 ∷ ty 6 17 6 1 ∷ ty 7 17 0 0 ∷ ty 6 21 7 0
        ∷ ty 6 21 7 1 ∷ ty 6 11 8 1 ∷ ty 6 3 9 1 ∷ ty 6 3 10 2 ∷ ty 6 3 12 2 ∷ []);
    list = (0 ∷ 15 ∷ 4 ∷ 5 ∷ 0 ∷ 1 ∷ 17 ∷ 21 ∷ 22 ∷ 7 ∷ 0 ∷ 0 ∷ 4 ∷ 4 ∷ []);
    fields = ([]);
    structs = ([]);
    built_ins = ([]);
    nodes = (nd 2 10 12 1 ∷ nd 39 0 0 2 ∷ nd 31 20 0 1 ∷ nd 20 0 0 1 ∷ nd 13 1 0 0 ∷ nd 33 0 0 0 ∷ []);
  };
  declarations = (function 10 12 ([]) (block (then (var 20 (length_of (literal (integer 1)))) (then return_void empty))) ∷ []);
}

pub refused_10_4 : Answers program_refused_10_4 10 1 3 0 (65535 ∷ 65535 ∷ 65535 ∷ 65535 ∷ 65535 ∷ 65535 ∷ 65535 ∷ 65535 ∷ 65535
    ∷ 65535 ∷ 65535 ∷ 65535 ∷ [])
unfolding program_refused_10_4 computed is_file
refused_10_4 = record { file = is-file widest program_refused_10_4 refl; answer = refl }

unfoldable pub program_refused_10_5 : Program
program_refused_10_5 = record {
  tables = record {
    types = (ty 0 0 0 0 ∷ ty 1 0 0 0 ∷ ty 2 0 0 0 ∷ ty 3 0 0 0 ∷ ty 4 1 0 0 ∷ ty 4 2 0 0 ∷ ty 4 3 0 0 ∷ ty 7 4 0 0 ∷ ty 7 5 0 0
        ∷ ty 5 4 0 0 ∷ ty 5 5 0 0 ∷ ty 5 0 0 0 ∷ ty 6 3 0 0 ∷ ty 6 0 0 0 ∷ ty 6 0 0 1 ∷ ty 4 9 0 0 ∷ ty 7 15 0 0 ∷ ty 5 15 0 0
        ∷ ty 6 3 1 1 ∷ ty 7 2 0 0 ∷ ty 5 2 0 0 ∷ ty 5 0 0 0 ∷ ty 4 1 0 0 ∷ ty 5 7 0 0 ∷ ty 7 11 0 0 ∷ ty 6 5 2 1 ∷ ty 6 4 3 1
        ∷ ty 5 1 0 0 ∷ ty 6 3 4 2 ∷ ty 5 11 0 0 ∷ ty 7 13 0 0 ∷ ty 6 15 6 0 ∷ ty 6 17 6 1 ∷ ty 7 17 0 0 ∷ ty 6 21 7 0
        ∷ ty 6 21 7 1 ∷ ty 6 11 8 1 ∷ ty 6 3 9 1 ∷ ty 6 3 10 2 ∷ ty 6 3 12 2 ∷ []);
    list = (0 ∷ 15 ∷ 4 ∷ 5 ∷ 0 ∷ 1 ∷ 17 ∷ 21 ∷ 22 ∷ 7 ∷ 0 ∷ 0 ∷ 4 ∷ 4 ∷ []);
    fields = ([]);
    structs = ([]);
    built_ins = ([]);
    nodes = (nd 2 10 12 1 ∷ nd 39 0 0 2 ∷ nd 31 20 0 1 ∷ nd 23 1 0 1 ∷ nd 13 1 0 0 ∷ nd 33 0 0 0 ∷ []);
  };
  declarations = (function 10 12 ([]) (block (then (var 20 (field 1 (literal (integer 1)))) (then return_void empty))) ∷ []);
}

pub refused_10_5 : Answers program_refused_10_5 10 1 3 0 (65535 ∷ 65535 ∷ 65535 ∷ 65535 ∷ 65535 ∷ 65535 ∷ 65535 ∷ 65535 ∷ 65535
    ∷ 65535 ∷ 65535 ∷ 65535 ∷ [])
unfolding program_refused_10_5 computed is_file
refused_10_5 = record { file = is-file widest program_refused_10_5 refl; answer = refl }

unfoldable pub program_refused_10_6 : Program
program_refused_10_6 = record {
  tables = record {
    types = (ty 0 0 0 0 ∷ ty 1 0 0 0 ∷ ty 2 0 0 0 ∷ ty 3 0 0 0 ∷ ty 4 1 0 0 ∷ ty 4 2 0 0 ∷ ty 4 3 0 0 ∷ ty 7 4 0 0 ∷ ty 7 5 0 0
        ∷ ty 5 4 0 0 ∷ ty 5 5 0 0 ∷ ty 5 0 0 0 ∷ ty 6 3 0 0 ∷ ty 6 0 0 0 ∷ ty 6 0 0 1 ∷ ty 4 9 0 0 ∷ ty 7 15 0 0 ∷ ty 5 15 0 0
        ∷ ty 6 3 1 1 ∷ ty 7 2 0 0 ∷ ty 5 2 0 0 ∷ ty 5 0 0 0 ∷ ty 4 1 0 0 ∷ ty 5 7 0 0 ∷ ty 7 11 0 0 ∷ ty 6 5 2 1 ∷ ty 6 4 3 1
        ∷ ty 5 1 0 0 ∷ ty 6 3 4 2 ∷ ty 5 11 0 0 ∷ ty 7 13 0 0 ∷ ty 6 15 6 0 ∷ ty 6 17 6 1 ∷ ty 7 17 0 0 ∷ ty 6 21 7 0
        ∷ ty 6 21 7 1 ∷ ty 6 11 8 1 ∷ ty 6 3 9 1 ∷ ty 6 3 10 2 ∷ ty 6 3 12 2 ∷ []);
    list = (0 ∷ 15 ∷ 4 ∷ 5 ∷ 0 ∷ 1 ∷ 17 ∷ 21 ∷ 22 ∷ 7 ∷ 0 ∷ 0 ∷ 4 ∷ 4 ∷ []);
    fields = ([]);
    structs = ([]);
    built_ins = ([]);
    nodes = (nd 2 10 12 1 ∷ nd 39 0 0 2 ∷ nd 31 20 0 1 ∷ nd 17 0 20 1 ∷ nd 11 0 0 0 ∷ nd 33 0 0 0 ∷ []);
  };
  declarations = (function 10 12 ([]) (block (then (var 20 (default_array 20 (literal truth))) (then return_void empty))) ∷ []);
}

pub refused_10_6 : Answers program_refused_10_6 10 1 3 0 (65535 ∷ 65535 ∷ 65535 ∷ 65535 ∷ 65535 ∷ 65535 ∷ 65535 ∷ 65535 ∷ 65535
    ∷ 65535 ∷ 65535 ∷ 65535 ∷ [])
unfolding program_refused_10_6 computed is_file
refused_10_6 = record { file = is-file widest program_refused_10_6 refl; answer = refl }

unfoldable pub program_refused_10_7 : Program
program_refused_10_7 = record {
  tables = record {
    types = (ty 0 0 0 0 ∷ ty 1 0 0 0 ∷ ty 2 0 0 0 ∷ ty 3 0 0 0 ∷ ty 4 1 0 0 ∷ ty 4 2 0 0 ∷ ty 4 3 0 0 ∷ ty 7 4 0 0 ∷ ty 7 5 0 0
        ∷ ty 5 4 0 0 ∷ ty 5 5 0 0 ∷ ty 5 0 0 0 ∷ ty 6 3 0 0 ∷ ty 6 0 0 0 ∷ ty 6 0 0 1 ∷ ty 4 9 0 0 ∷ ty 7 15 0 0 ∷ ty 5 15 0 0
        ∷ ty 6 3 1 1 ∷ ty 7 2 0 0 ∷ ty 5 2 0 0 ∷ ty 5 0 0 0 ∷ ty 4 1 0 0 ∷ ty 5 7 0 0 ∷ ty 7 11 0 0 ∷ ty 6 5 2 1 ∷ ty 6 4 3 1
        ∷ ty 5 1 0 0 ∷ ty 6 3 4 2 ∷ ty 5 11 0 0 ∷ ty 7 13 0 0 ∷ ty 6 15 6 0 ∷ ty 6 17 6 1 ∷ ty 7 17 0 0 ∷ ty 6 21 7 0
        ∷ ty 6 21 7 1 ∷ ty 6 11 8 1 ∷ ty 6 3 9 1 ∷ ty 6 3 10 2 ∷ ty 6 3 12 2 ∷ []);
    list = (0 ∷ 15 ∷ 4 ∷ 5 ∷ 0 ∷ 1 ∷ 17 ∷ 21 ∷ 22 ∷ 7 ∷ 0 ∷ 0 ∷ 4 ∷ 4 ∷ []);
    fields = ([]);
    structs = ([]);
    built_ins = ([]);
    nodes = (nd 2 10 13 1 ∷ nd 39 0 0 1 ∷ nd 32 0 0 1 ∷ nd 26 12 0 2 ∷ nd 13 1 0 0 ∷ nd 13 2 0 0 ∷ []);
  };
  declarations = (function 10 13 ([]) (block (then (return_value (binary 12 (literal (integer 1)) (literal (integer 2)))) empty))
      ∷ []);
}

pub refused_10_7 : Answers program_refused_10_7 10 1 3 0 (65535 ∷ 65535 ∷ 65535 ∷ 65535 ∷ 65535 ∷ 65535 ∷ 65535 ∷ 65535 ∷ 65535
    ∷ 65535 ∷ 65535 ∷ 65535 ∷ [])
unfolding program_refused_10_7 computed is_file
refused_10_7 = record { file = is-file widest program_refused_10_7 refl; answer = refl }

unfoldable pub program_refused_10_8 : Program
program_refused_10_8 = record {
  tables = record {
    types = (ty 0 0 0 0 ∷ ty 1 0 0 0 ∷ ty 2 0 0 0 ∷ ty 3 0 0 0 ∷ ty 4 1 0 0 ∷ ty 4 2 0 0 ∷ ty 4 3 0 0 ∷ ty 7 4 0 0 ∷ ty 7 5 0 0
        ∷ ty 5 4 0 0 ∷ ty 5 5 0 0 ∷ ty 5 0 0 0 ∷ ty 6 3 0 0 ∷ ty 6 0 0 0 ∷ ty 6 0 0 1 ∷ ty 4 9 0 0 ∷ ty 7 15 0 0 ∷ ty 5 15 0 0
        ∷ ty 6 3 1 1 ∷ ty 7 2 0 0 ∷ ty 5 2 0 0 ∷ ty 5 0 0 0 ∷ ty 4 1 0 0 ∷ ty 5 7 0 0 ∷ ty 7 11 0 0 ∷ ty 6 5 2 1 ∷ ty 6 4 3 1
        ∷ ty 5 1 0 0 ∷ ty 6 3 4 2 ∷ ty 5 11 0 0 ∷ ty 7 13 0 0 ∷ ty 6 15 6 0 ∷ ty 6 17 6 1 ∷ ty 7 17 0 0 ∷ ty 6 21 7 0
        ∷ ty 6 21 7 1 ∷ ty 6 11 8 1 ∷ ty 6 3 9 1 ∷ ty 6 3 10 2 ∷ ty 6 3 12 2 ∷ []);
    list = (0 ∷ 15 ∷ 4 ∷ 5 ∷ 0 ∷ 1 ∷ 17 ∷ 21 ∷ 22 ∷ 7 ∷ 0 ∷ 0 ∷ 4 ∷ 4 ∷ []);
    fields = ([]);
    structs = ([]);
    built_ins = ([]);
    nodes = (nd 2 10 12 1 ∷ nd 39 0 0 2 ∷ nd 31 20 0 1 ∷ nd 19 0 0 2 ∷ nd 13 1 0 0 ∷ nd 15 99 0 0 ∷ nd 33 0 0 0 ∷ []);
  };
  declarations = (function 10 12 ([]) (block (then (var 20 (index (literal (integer 1)) (name 99))) (then return_void empty)))
      ∷ []);
}

pub refused_10_8 : Answers program_refused_10_8 10 1 3 0 (65535 ∷ 65535 ∷ 65535 ∷ 65535 ∷ 65535 ∷ 65535 ∷ 65535 ∷ 65535 ∷ 65535
    ∷ 65535 ∷ 65535 ∷ 65535 ∷ 65535 ∷ 65535 ∷ [])
unfolding program_refused_10_8 computed is_file
refused_10_8 = record { file = is-file widest program_refused_10_8 refl; answer = refl }

unfoldable pub program_refused_10_9 : Program
program_refused_10_9 = record {
  tables = record {
    types = (ty 0 0 0 0 ∷ ty 1 0 0 0 ∷ ty 2 0 0 0 ∷ ty 3 0 0 0 ∷ ty 4 1 0 0 ∷ ty 4 2 0 0 ∷ ty 4 3 0 0 ∷ ty 7 4 0 0 ∷ ty 7 5 0 0
        ∷ ty 5 4 0 0 ∷ ty 5 5 0 0 ∷ ty 5 0 0 0 ∷ ty 6 3 0 0 ∷ ty 6 0 0 0 ∷ ty 6 0 0 1 ∷ ty 4 9 0 0 ∷ ty 7 15 0 0 ∷ ty 5 15 0 0
        ∷ ty 6 3 1 1 ∷ ty 7 2 0 0 ∷ ty 5 2 0 0 ∷ ty 5 0 0 0 ∷ ty 4 1 0 0 ∷ ty 5 7 0 0 ∷ ty 7 11 0 0 ∷ ty 6 5 2 1 ∷ ty 6 4 3 1
        ∷ ty 5 1 0 0 ∷ ty 6 3 4 2 ∷ ty 5 11 0 0 ∷ ty 7 13 0 0 ∷ ty 6 15 6 0 ∷ ty 6 17 6 1 ∷ ty 7 17 0 0 ∷ ty 6 21 7 0
        ∷ ty 6 21 7 1 ∷ ty 6 11 8 1 ∷ ty 6 3 9 1 ∷ ty 6 3 10 2 ∷ ty 6 3 12 2 ∷ []);
    list = (0 ∷ 15 ∷ 4 ∷ 5 ∷ 0 ∷ 1 ∷ 17 ∷ 21 ∷ 22 ∷ 7 ∷ 0 ∷ 0 ∷ 4 ∷ 4 ∷ []);
    fields = ([]);
    structs = ([]);
    built_ins = ([]);
    nodes = (nd 2 10 12 1 ∷ nd 39 0 0 2 ∷ nd 31 20 0 1 ∷ nd 24 0 0 2 ∷ nd 13 1 0 0 ∷ nd 15 99 0 0 ∷ nd 33 0 0 0 ∷ []);
  };
  declarations = (function 10 12 ([]) (block (then (var 20 (call (literal (integer 1)) (also (name 99) none))) (then return_void
      empty))) ∷ []);
}

pub refused_10_9 : Answers program_refused_10_9 10 1 3 0 (65535 ∷ 65535 ∷ 65535 ∷ 65535 ∷ 65535 ∷ 65535 ∷ 65535 ∷ 65535 ∷ 65535
    ∷ 65535 ∷ 65535 ∷ 65535 ∷ 65535 ∷ 65535 ∷ [])
unfolding program_refused_10_9 computed is_file
refused_10_9 = record { file = is-file widest program_refused_10_9 refl; answer = refl }

unfoldable pub program_refused_10_10 : Program
program_refused_10_10 = record {
  tables = record {
    types = (ty 0 0 0 0 ∷ ty 1 0 0 0 ∷ ty 2 0 0 0 ∷ ty 3 0 0 0 ∷ ty 7 2 0 0 ∷ ty 6 3 0 1 ∷ ty 6 3 1 1 ∷ ty 6 3 2 2 ∷ []);
    list = (4 ∷ 2 ∷ 5 ∷ 6 ∷ []);
    fields = ([]);
    structs = ([]);
    built_ins = ([]);
    nodes = (nd 2 10 7 3 ∷ nd 3 20 0 0 ∷ nd 3 21 0 0 ∷ nd 39 0 0 2 ∷ nd 36 31 2 3 ∷ nd 26 10 0 2 ∷ nd 15 20 0 0 ∷ nd 15 20 0 0
        ∷ nd 39 0 0 1 ∷ nd 30 0 0 2 ∷ nd 15 21 0 0 ∷ nd 15 20 0 0 ∷ nd 39 0 0 0 ∷ nd 33 0 0 0 ∷ []);
  };
  declarations = (function 10 7 (20 ∷ 21 ∷ []) (block (then (if_null 31 2 (binary 10 (name 20) (name 20)) (block (then (assign
      (name_target 21) (name 20)) empty)) (block empty)) (then return_void empty))) ∷ []);
}

pub refused_10_10 : Answers program_refused_10_10 10 1 4 8 (65535 ∷ 65535 ∷ 65535 ∷ 65535 ∷ 65535 ∷ 65535 ∷ 65535 ∷ 65535 ∷ 65535
    ∷ 65535 ∷ 65535 ∷ 65535 ∷ 65535 ∷ 65535 ∷ 65535 ∷ 65535 ∷ 65535 ∷ 65535 ∷ 65535 ∷ 65535 ∷ 65535 ∷ 65535 ∷ 65535 ∷ 65535
    ∷ 65535 ∷ 65535 ∷ 65535 ∷ 65535 ∷ [])
unfolding program_refused_10_10 computed is_file
refused_10_10 = record { file = is-file widest program_refused_10_10 refl; answer = refl }

unfoldable pub program_refused_10_11 : Program
program_refused_10_11 = record {
  tables = record {
    types = (ty 0 0 0 0 ∷ ty 1 0 0 0 ∷ ty 2 0 0 0 ∷ ty 3 0 0 0 ∷ ty 7 2 0 0 ∷ ty 6 3 0 1 ∷ ty 6 3 1 1 ∷ ty 6 3 2 2 ∷ []);
    list = (4 ∷ 2 ∷ 5 ∷ 6 ∷ []);
    fields = ([]);
    structs = ([]);
    built_ins = ([]);
    nodes = (nd 2 10 7 3 ∷ nd 3 20 0 0 ∷ nd 3 21 0 0 ∷ nd 39 0 0 2 ∷ nd 31 31 0 1 ∷ nd 26 12 0 2 ∷ nd 26 10 0 2 ∷ nd 15 20 0 0
        ∷ nd 15 20 0 0 ∷ nd 13 1 0 0 ∷ nd 33 0 0 0 ∷ []);
  };
  declarations = (function 10 7 (20 ∷ 21 ∷ []) (block (then (var 31 (binary 12 (binary 10 (name 20) (name 20)) (literal (integer
      1)))) (then return_void empty))) ∷ []);
}

pub refused_10_11 : Answers program_refused_10_11 10 1 5 8 (65535 ∷ 65535 ∷ 65535 ∷ 65535 ∷ 65535 ∷ 65535 ∷ 65535 ∷ 65535 ∷ 65535
    ∷ 65535 ∷ 65535 ∷ 65535 ∷ 65535 ∷ 65535 ∷ 65535 ∷ 65535 ∷ 65535 ∷ 65535 ∷ 65535 ∷ 65535 ∷ 65535 ∷ 65535 ∷ [])
unfolding program_refused_10_11 computed is_file
refused_10_11 = record { file = is-file widest program_refused_10_11 refl; answer = refl }

unfoldable pub program_refused_10_12 : Program
program_refused_10_12 = record {
  tables = record {
    types = (ty 0 0 0 0 ∷ ty 1 0 0 0 ∷ ty 2 0 0 0 ∷ ty 3 0 0 0 ∷ ty 6 3 0 0 ∷ ty 6 0 0 0 ∷ ty 6 0 0 1 ∷ ty 6 3 1 2 ∷ ty 7 2 0 0
        ∷ ty 5 0 0 0 ∷ ty 5 9 0 0 ∷ ty 7 9 0 0 ∷ ty 5 1 0 0 ∷ ty 6 3 3 1 ∷ ty 6 9 4 1 ∷ ty 4 9 0 0 ∷ ty 7 15 0 0 ∷ ty 5 15 0 0
        ∷ []);
    list = (0 ∷ 0 ∷ 0 ∷ 8 ∷ 9 ∷ []);
    fields = ([]);
    structs = ([]);
    built_ins = ([]);
    nodes = (nd 2 10 4 1 ∷ nd 39 0 0 3 ∷ nd 31 20 0 1 ∷ nd 13 1 0 0 ∷ nd 31 20 0 1 ∷ nd 25 1 0 1 ∷ nd 15 20 0 0 ∷ nd 33 0 0 0
        ∷ []);
  };
  declarations = (function 10 4 ([]) (block (then (var 20 (literal (integer 1))) (then (var 20 (unary 1 (name 20))) (then
      return_void empty)))) ∷ []);
}

pub refused_10_12 : Answers program_refused_10_12 10 1 5 0 (65535 ∷ 65535 ∷ 65535 ∷ 65535 ∷ 65535 ∷ 65535 ∷ 65535 ∷ 65535 ∷ 65535
    ∷ 65535 ∷ 65535 ∷ 65535 ∷ 65535 ∷ 65535 ∷ 65535 ∷ 65535 ∷ [])
unfolding program_refused_10_12 computed is_file
refused_10_12 = record { file = is-file widest program_refused_10_12 refl; answer = refl }

unfoldable pub program_refused_10_13 : Program
program_refused_10_13 = record {
  tables = record {
    types = (ty 0 0 0 0 ∷ ty 1 0 0 0 ∷ ty 2 0 0 0 ∷ ty 3 0 0 0 ∷ ty 6 3 0 0 ∷ ty 6 0 0 0 ∷ ty 6 0 0 1 ∷ ty 6 3 1 2 ∷ ty 7 2 0 0
        ∷ ty 5 0 0 0 ∷ ty 5 9 0 0 ∷ ty 7 9 0 0 ∷ ty 5 1 0 0 ∷ ty 6 3 3 1 ∷ ty 6 9 4 1 ∷ ty 4 9 0 0 ∷ ty 7 15 0 0 ∷ ty 5 15 0 0
        ∷ []);
    list = (0 ∷ 0 ∷ 0 ∷ 8 ∷ 9 ∷ []);
    fields = ([]);
    structs = ([]);
    built_ins = ([]);
    nodes = (nd 2 10 4 1 ∷ nd 39 0 0 3 ∷ nd 31 20 0 1 ∷ nd 11 0 0 0 ∷ nd 31 21 0 1 ∷ nd 18 20 9 2 ∷ nd 15 20 0 0 ∷ nd 15 20 0 0
        ∷ nd 33 0 0 0 ∷ []);
  };
  declarations = (function 10 4 ([]) (block (then (var 20 (literal truth)) (then (var 21 (array_with 9 20 (name 20) (name 20)))
      (then return_void empty)))) ∷ []);
}

pub refused_10_13 : Answers program_refused_10_13 10 1 5 0 (65535 ∷ 65535 ∷ 65535 ∷ 65535 ∷ 65535 ∷ 65535 ∷ 65535 ∷ 65535 ∷ 65535
    ∷ 65535 ∷ 65535 ∷ 65535 ∷ 65535 ∷ 65535 ∷ 65535 ∷ 65535 ∷ 65535 ∷ 65535 ∷ [])
unfolding program_refused_10_13 computed is_file
refused_10_13 = record { file = is-file widest program_refused_10_13 refl; answer = refl }

unfoldable pub program_refused_10_14 : Program
program_refused_10_14 = record {
  tables = record {
    types = (ty 0 0 0 0 ∷ ty 1 0 0 0 ∷ ty 2 0 0 0 ∷ ty 3 0 0 0 ∷ ty 7 2 0 0 ∷ ty 6 3 0 1 ∷ ty 6 3 1 1 ∷ ty 6 3 2 2 ∷ []);
    list = (4 ∷ 2 ∷ 5 ∷ 6 ∷ []);
    fields = ([]);
    structs = ([]);
    built_ins = ([]);
    nodes = (nd 2 10 7 3 ∷ nd 3 20 0 0 ∷ nd 3 21 0 0 ∷ nd 39 0 0 3 ∷ nd 30 0 0 2 ∷ nd 15 21 0 0 ∷ nd 15 20 0 0 ∷ nd 35 0 0 3
        ∷ nd 13 1 0 0 ∷ nd 39 0 0 0 ∷ nd 39 0 0 0 ∷ nd 33 0 0 0 ∷ []);
  };
  declarations = (function 10 7 (20 ∷ 21 ∷ []) (block (then (assign (name_target 21) (name 20)) (then (if_else (literal (integer 1))
      (block empty) (block empty)) (then return_void empty)))) ∷ []);
}

pub refused_10_14 : Answers program_refused_10_14 10 1 7 4 (65535 ∷ 65535 ∷ 65535 ∷ 65535 ∷ 65535 ∷ 65535 ∷ 65535 ∷ 65535 ∷ 65535
    ∷ 65535 ∷ 65535 ∷ 65535 ∷ 65535 ∷ 65535 ∷ 65535 ∷ 65535 ∷ 65535 ∷ 65535 ∷ 65535 ∷ 65535 ∷ 65535 ∷ 65535 ∷ 65535 ∷ 65535 ∷ [])
unfolding program_refused_10_14 computed is_file
refused_10_14 = record { file = is-file widest program_refused_10_14 refl; answer = refl }

unfoldable pub program_refused_10_15 : Program
program_refused_10_15 = record {
  tables = record {
    types = (ty 0 0 0 0 ∷ ty 1 0 0 0 ∷ ty 2 0 0 0 ∷ ty 3 0 0 0 ∷ ty 6 3 0 0 ∷ ty 6 0 0 0 ∷ ty 6 0 0 1 ∷ ty 6 3 1 2 ∷ ty 7 2 0 0
        ∷ ty 5 0 0 0 ∷ ty 5 9 0 0 ∷ ty 7 9 0 0 ∷ ty 5 1 0 0 ∷ ty 6 3 3 1 ∷ ty 6 9 4 1 ∷ ty 4 9 0 0 ∷ ty 7 15 0 0 ∷ ty 5 15 0 0
        ∷ []);
    list = (0 ∷ 0 ∷ 0 ∷ 8 ∷ 9 ∷ []);
    fields = ([]);
    structs = ([]);
    built_ins = ([]);
    nodes = (nd 2 10 4 1 ∷ nd 39 0 0 2 ∷ nd 38 0 0 2 ∷ nd 12 0 0 0 ∷ nd 39 0 0 2 ∷ nd 31 10 0 1 ∷ nd 13 1 0 0 ∷ nd 34 0 0 1
        ∷ nd 15 10 0 0 ∷ nd 33 0 0 0 ∷ []);
  };
  declarations = (function 10 4 ([]) (block (then (while (literal falsity) (block (then (var 10 (literal (integer 1))) (then
      (call_stmt (name 10) none) empty)))) (then return_void empty))) ∷ []);
}

pub refused_10_15 : Answers program_refused_10_15 10 1 7 0 (65535 ∷ 65535 ∷ 65535 ∷ 65535 ∷ 65535 ∷ 65535 ∷ 65535 ∷ 65535 ∷ 65535
    ∷ 65535 ∷ 65535 ∷ 65535 ∷ 65535 ∷ 65535 ∷ 65535 ∷ 65535 ∷ 65535 ∷ 65535 ∷ 65535 ∷ 65535 ∷ [])
unfolding program_refused_10_15 computed is_file
refused_10_15 = record { file = is-file widest program_refused_10_15 refl; answer = refl }

unfoldable pub program_refused_10_16 : Program
program_refused_10_16 = record {
  tables = record {
    types = (ty 0 0 0 0 ∷ ty 1 0 0 0 ∷ ty 2 0 0 0 ∷ ty 3 0 0 0 ∷ ty 7 2 0 0 ∷ ty 6 3 0 1 ∷ ty 6 3 1 1 ∷ ty 6 3 2 2 ∷ []);
    list = (4 ∷ 2 ∷ 5 ∷ 6 ∷ []);
    fields = ([]);
    structs = ([]);
    built_ins = ([]);
    nodes = (nd 2 10 7 3 ∷ nd 3 20 0 0 ∷ nd 3 21 0 0 ∷ nd 39 0 0 3 ∷ nd 30 0 0 2 ∷ nd 15 21 0 0 ∷ nd 15 20 0 0 ∷ nd 31 31 0 1
        ∷ nd 19 0 0 2 ∷ nd 15 20 0 0 ∷ nd 13 1 0 0 ∷ nd 33 0 0 0 ∷ []);
  };
  declarations = (function 10 7 (20 ∷ 21 ∷ []) (block (then (assign (name_target 21) (name 20)) (then (var 31 (index (name 20)
      (literal (integer 1)))) (then return_void empty)))) ∷ []);
}

pub refused_10_16 : Answers program_refused_10_16 10 1 8 4 (65535 ∷ 65535 ∷ 65535 ∷ 65535 ∷ 65535 ∷ 65535 ∷ 65535 ∷ 65535 ∷ 65535
    ∷ 65535 ∷ 65535 ∷ 65535 ∷ 65535 ∷ 65535 ∷ 65535 ∷ 65535 ∷ 65535 ∷ 65535 ∷ 65535 ∷ 65535 ∷ 65535 ∷ 65535 ∷ 65535 ∷ 65535 ∷ [])
unfolding program_refused_10_16 computed is_file
refused_10_16 = record { file = is-file widest program_refused_10_16 refl; answer = refl }

unfoldable pub program_refused_10_17 : Program
program_refused_10_17 = record {
  tables = record {
    types = (ty 0 0 0 0 ∷ ty 1 0 0 0 ∷ ty 2 0 0 0 ∷ ty 3 0 0 0 ∷ ty 6 3 0 0 ∷ ty 6 0 0 0 ∷ ty 6 0 0 1 ∷ ty 6 3 1 2 ∷ ty 7 2 0 0
        ∷ ty 5 0 0 0 ∷ ty 5 9 0 0 ∷ ty 7 9 0 0 ∷ ty 5 1 0 0 ∷ ty 6 3 3 1 ∷ ty 6 9 4 1 ∷ ty 4 9 0 0 ∷ ty 7 15 0 0 ∷ ty 5 15 0 0
        ∷ []);
    list = (0 ∷ 0 ∷ 0 ∷ 8 ∷ 9 ∷ []);
    fields = ([]);
    structs = ([]);
    built_ins = ([]);
    nodes = (nd 2 10 4 1 ∷ nd 39 0 0 3 ∷ nd 31 20 0 1 ∷ nd 11 0 0 0 ∷ nd 35 0 0 3 ∷ nd 11 0 0 0 ∷ nd 39 0 0 0 ∷ nd 39 0 0 2
        ∷ nd 31 20 0 1 ∷ nd 13 1 0 0 ∷ nd 35 0 0 3 ∷ nd 15 20 0 0 ∷ nd 39 0 0 0 ∷ nd 39 0 0 0 ∷ nd 33 0 0 0 ∷ []);
  };
  declarations = (function 10 4 ([]) (block (then (var 20 (literal truth)) (then (if_else (literal truth) (block empty) (block
      (then (var 20 (literal (integer 1))) (then (if_else (name 20) (block empty) (block empty)) empty)))) (then return_void
      empty)))) ∷ []);
}

pub refused_10_17 : Answers program_refused_10_17 10 1 10 0 (65535 ∷ 65535 ∷ 65535 ∷ 65535 ∷ 65535 ∷ 65535 ∷ 65535 ∷ 65535 ∷ 65535
    ∷ 65535 ∷ 65535 ∷ 65535 ∷ 65535 ∷ 65535 ∷ 65535 ∷ 65535 ∷ 65535 ∷ 65535 ∷ 65535 ∷ 65535 ∷ 65535 ∷ 65535 ∷ 65535 ∷ 65535
    ∷ 65535 ∷ 65535 ∷ 65535 ∷ 65535 ∷ 65535 ∷ 65535 ∷ [])
unfolding program_refused_10_17 computed is_file
refused_10_17 = record { file = is-file widest program_refused_10_17 refl; answer = refl }

unfoldable pub program_refused_10_18 : Program
program_refused_10_18 = record {
  tables = record {
    types = (ty 0 0 0 0 ∷ ty 1 0 0 0 ∷ ty 2 0 0 0 ∷ ty 3 0 0 0 ∷ ty 5 0 0 0 ∷ ty 5 4 0 0 ∷ ty 7 2 0 0 ∷ ty 6 3 0 1 ∷ ty 6 3 1 1
        ∷ ty 6 3 2 2 ∷ []);
    list = (6 ∷ 2 ∷ 7 ∷ 8 ∷ []);
    fields = ([]);
    structs = ([]);
    built_ins = ([]);
    nodes = (nd 2 10 9 3 ∷ nd 3 20 0 0 ∷ nd 3 21 0 0 ∷ nd 39 0 0 3 ∷ nd 30 0 0 2 ∷ nd 15 21 0 0 ∷ nd 15 20 0 0 ∷ nd 31 31 0 1
        ∷ nd 16 0 5 3 ∷ nd 16 0 4 2 ∷ nd 13 1 0 0 ∷ nd 13 2 0 0 ∷ nd 11 0 0 0 ∷ nd 25 0 0 1 ∷ nd 11 0 0 0 ∷ nd 33 0 0 0 ∷ []);
  };
  declarations = (function 10 9 (20 ∷ 21 ∷ []) (block (then (assign (name_target 21) (name 20)) (then (var 31 (array_literal 5 (also
      (array_literal 4 (also (literal (integer 1)) (also (literal (integer 2)) none))) (also (literal truth) (also (unary 0
      (literal truth)) none))))) (then return_void empty)))) ∷ []);
}

pub refused_10_18 : Answers program_refused_10_18 10 1 13 6 (65535 ∷ 65535 ∷ 65535 ∷ 65535 ∷ 65535 ∷ 65535 ∷ 65535 ∷ 65535 ∷ 65535
    ∷ 65535 ∷ 65535 ∷ 65535 ∷ 65535 ∷ 65535 ∷ 65535 ∷ 65535 ∷ 65535 ∷ 65535 ∷ 65535 ∷ 65535 ∷ 65535 ∷ 65535 ∷ 65535 ∷ 65535
    ∷ 65535 ∷ 65535 ∷ 65535 ∷ 65535 ∷ 65535 ∷ 65535 ∷ 65535 ∷ 65535 ∷ [])
unfolding program_refused_10_18 computed is_file
refused_10_18 = record { file = is-file widest program_refused_10_18 refl; answer = refl }

unfoldable pub program_refused_10_19 : Program
program_refused_10_19 = record {
  tables = record {
    types = (ty 0 0 0 0 ∷ ty 1 0 0 0 ∷ ty 2 0 0 0 ∷ ty 3 0 0 0 ∷ ty 6 3 0 0 ∷ ty 6 3 0 1 ∷ ty 6 3 1 1 ∷ ty 6 3 2 1 ∷ ty 7 2 0 0
        ∷ ty 5 0 0 0 ∷ ty 6 3 3 2 ∷ ty 6 0 5 1 ∷ ty 6 3 6 2 ∷ ty 6 0 8 0 ∷ []);
    list = (0 ∷ 1 ∷ 2 ∷ 0 ∷ 1 ∷ 8 ∷ 9 ∷ 0 ∷ []);
    fields = ([]);
    structs = ([]);
    built_ins = (bi 50 4 ∷ bi 60 5 ∷ bi 61 6 ∷ bi 62 7 ∷ []);
    nodes = (nd 1 40 0 1 ∷ nd 13 1 0 0 ∷ nd 2 10 12 3 ∷ nd 3 20 0 0 ∷ nd 3 21 0 0 ∷ nd 39 0 0 4 ∷ nd 36 21 2 3 ∷ nd 10 0 8 0
        ∷ nd 39 0 0 1 ∷ nd 34 0 0 2 ∷ nd 15 21 0 0 ∷ nd 26 1 0 2 ∷ nd 26 1 0 2 ∷ nd 13 1 0 0 ∷ nd 13 1 0 0 ∷ nd 26 1 0 2
        ∷ nd 13 1 0 0 ∷ nd 13 1 0 0 ∷ nd 39 0 0 1 ∷ nd 34 0 0 2 ∷ nd 15 61 0 0 ∷ nd 26 6 0 2 ∷ nd 15 21 0 0 ∷ nd 13 1 0 0
        ∷ nd 38 0 0 2 ∷ nd 26 6 0 2 ∷ nd 15 21 0 0 ∷ nd 15 21 0 0 ∷ nd 39 0 0 1 ∷ nd 30 0 0 2 ∷ nd 15 21 0 0 ∷ nd 15 21 0 0
        ∷ nd 38 0 0 2 ∷ nd 11 0 0 0 ∷ nd 39 0 0 3 ∷ nd 30 0 0 2 ∷ nd 15 21 0 0 ∷ nd 15 21 0 0 ∷ nd 34 0 0 2 ∷ nd 15 60 0 0
        ∷ nd 13 1 0 0 ∷ nd 37 0 0 3 ∷ nd 12 0 0 0 ∷ nd 30 0 0 2 ∷ nd 15 20 0 0 ∷ nd 15 20 0 0 ∷ nd 39 0 0 1 ∷ nd 31 21 0 1
        ∷ nd 13 1 0 0 ∷ nd 33 0 0 0 ∷ []);
  };
  declarations = (global 40 (literal (integer 1)) ∷ function 10 12 (20 ∷ 21 ∷ []) (block (then (if_null 21 2 (null 8) (block (then
      (call_stmt (name 21) (also (binary 1 (binary 1 (literal (integer 1)) (literal (integer 1))) (binary 1 (literal (integer 1))
      (literal (integer 1)))) none)) empty)) (block (then (call_stmt (name 61) (also (binary 6 (name 21) (literal (integer 1)))
      none)) empty))) (then (while (binary 6 (name 21) (name 21)) (block (then (assign (name_target 21) (name 21)) empty))) (then
      (while (literal truth) (block (then (assign (name_target 21) (name 21)) (then (call_stmt (name 60) (also (literal (integer 1))
      none)) (then (for no_var (condition (literal falsity)) (step (assign (name_target 20) (name 20))) (block (then (var 21
      (literal (integer 1))) empty))) empty))))) (then return_void empty))))) ∷ []);
}

pub refused_10_19 : Answers program_refused_10_19 10 6 9 1 (65535 ∷ 65535 ∷ 65535 ∷ 65535 ∷ 65535 ∷ 65535 ∷ 65535 ∷ 65535 ∷ 65535
    ∷ 65535 ∷ 65535 ∷ 65535 ∷ 65535 ∷ 65535 ∷ 65535 ∷ 65535 ∷ 65535 ∷ 65535 ∷ 65535 ∷ 65535 ∷ 65535 ∷ 65535 ∷ 65535 ∷ 65535
    ∷ 65535 ∷ 65535 ∷ 65535 ∷ 65535 ∷ 65535 ∷ 65535 ∷ 65535 ∷ 65535 ∷ 65535 ∷ 65535 ∷ 65535 ∷ 65535 ∷ 65535 ∷ 65535 ∷ 65535
    ∷ 65535 ∷ 65535 ∷ 65535 ∷ 65535 ∷ 65535 ∷ 65535 ∷ 65535 ∷ 65535 ∷ 65535 ∷ 65535 ∷ 65535 ∷ 65535 ∷ 65535 ∷ 65535 ∷ 65535
    ∷ 65535 ∷ 65535 ∷ 65535 ∷ 65535 ∷ 65535 ∷ 65535 ∷ 65535 ∷ 65535 ∷ 65535 ∷ 65535 ∷ 65535 ∷ 65535 ∷ 65535 ∷ 65535 ∷ 65535
    ∷ 65535 ∷ 65535 ∷ 65535 ∷ 65535 ∷ 65535 ∷ 65535 ∷ 65535 ∷ 65535 ∷ 65535 ∷ 65535 ∷ 65535 ∷ 65535 ∷ 65535 ∷ 65535 ∷ 65535
    ∷ 65535 ∷ 65535 ∷ 65535 ∷ 65535 ∷ 65535 ∷ 65535 ∷ 65535 ∷ 65535 ∷ 65535 ∷ 65535 ∷ 65535 ∷ 65535 ∷ 65535 ∷ 65535 ∷ 65535
    ∷ 65535 ∷ [])
unfolding program_refused_10_19 computed is_file
refused_10_19 = record { file = is-file widest program_refused_10_19 refl; answer = refl }

unfoldable pub program_refused_10_20 : Program
program_refused_10_20 = record {
  tables = record {
    types = (ty 0 0 0 0 ∷ ty 1 0 0 0 ∷ ty 2 0 0 0 ∷ ty 3 0 0 0 ∷ ty 4 0 0 0 ∷ ty 4 1 0 0 ∷ ty 4 2 0 0 ∷ ty 4 3 0 0 ∷ ty 4 77 0 0
        ∷ ty 5 0 0 0 ∷ ty 5 4 0 0 ∷ ty 5 2 0 0 ∷ ty 7 4 0 0 ∷ ty 7 8 0 0 ∷ ty 5 8 0 0 ∷ ty 6 3 0 0 ∷ ty 6 0 0 1 ∷ ty 6 3 1 1
        ∷ ty 7 7 0 0 ∷ ty 5 12 0 0 ∷ ty 5 0 0 0 ∷ ty 7 15 0 0 ∷ ty 5 13 0 0 ∷ ty 7 6 0 0 ∷ ty 6 1 2 3 ∷ ty 7 2 0 0 ∷ ty 5 13 0 0
        ∷ ty 6 18 5 2 ∷ ty 5 7 0 0 ∷ []);
    list = (0 ∷ 8 ∷ 18 ∷ 2 ∷ 11 ∷ 18 ∷ 4 ∷ []);
    fields = (fd 10 0 ∷ fd 1 21 ∷ fd 0 18 ∷ fd 0 18 ∷ []);
    structs = (st 0 0 0 ∷ st 1 0 2 ∷ st 2 2 1 ∷ st 3 3 1 ∷ []);
    built_ins = (bi 115 15 ∷ bi 116 16 ∷ bi 124 24 ∷ bi 127 27 ∷ []);
    nodes = (nd 1 40 0 1 ∷ nd 15 124 0 0 ∷ nd 1 41 0 1 ∷ nd 21 0 6 1 ∷ nd 22 0 0 1 ∷ nd 21 0 6 1 ∷ nd 22 0 0 1 ∷ nd 10 0 18 0
        ∷ nd 2 20 27 3 ∷ nd 3 60 0 0 ∷ nd 3 61 0 0 ∷ nd 39 0 0 4 ∷ nd 35 0 0 3 ∷ nd 24 0 0 4 ∷ nd 10 0 21 0 ∷ nd 15 41 0 0
        ∷ nd 14 5 0 0 ∷ nd 16 0 11 2 ∷ nd 14 1 0 0 ∷ nd 14 6 0 0 ∷ nd 39 0 0 0 ∷ nd 39 0 0 0 ∷ nd 30 0 0 2 ∷ nd 15 41 0 0
        ∷ nd 21 0 6 1 ∷ nd 22 0 0 1 ∷ nd 21 0 7 1 ∷ nd 22 0 0 1 ∷ nd 21 0 7 1 ∷ nd 22 0 0 1 ∷ nd 10 0 18 0 ∷ nd 35 0 0 3
        ∷ nd 12 0 0 0 ∷ nd 39 0 0 2 ∷ nd 36 16 7 3 ∷ nd 23 0 0 1 ∷ nd 15 41 0 0 ∷ nd 39 0 0 4 ∷ nd 31 30 0 1 ∷ nd 15 124 0 0
        ∷ nd 34 0 0 1 ∷ nd 15 115 0 0 ∷ nd 34 0 0 1 ∷ nd 15 115 0 0 ∷ nd 36 119 6 3 ∷ nd 15 60 0 0 ∷ nd 39 0 0 1 ∷ nd 32 0 0 1
        ∷ nd 21 0 6 1 ∷ nd 22 0 0 1 ∷ nd 21 0 7 1 ∷ nd 22 0 0 1 ∷ nd 21 0 7 1 ∷ nd 22 0 0 1 ∷ nd 10 0 18 0 ∷ nd 39 0 0 0
        ∷ nd 39 0 0 0 ∷ nd 36 3 15 3 ∷ nd 10 0 21 0 ∷ nd 39 0 0 2 ∷ nd 30 0 0 2 ∷ nd 15 41 0 0 ∷ nd 21 0 6 1 ∷ nd 22 0 0 1
        ∷ nd 10 0 18 0 ∷ nd 32 0 0 1 ∷ nd 10 0 18 0 ∷ nd 39 0 0 0 ∷ nd 39 0 0 0 ∷ nd 32 0 0 1 ∷ nd 10 0 18 0 ∷ []);
  };
  declarations = (global 40 (name 124) ∷ global 41 (struct_literal 6 (init 0 (struct_literal 6 (init 0 (null 18) no_init)) no_init))
      ∷ function 20 27 (60 ∷ 61 ∷ []) (block (then (if_else (call (null 21) (also (name 41) (also (literal (text 5)) (also
      (array_literal 11 (also (literal (text 1)) (also (literal (text 6)) none))) none)))) (block empty) (block empty)) (then
      (assign (name_target 41) (struct_literal 6 (init 0 (struct_literal 7 (init 0 (struct_literal 7 (init 0 (null 18) no_init))
      no_init)) no_init))) (then (if_else (literal falsity) (block (then (if_null 16 7 (field 0 (name 41)) (block (then (var 30 (name
      124)) (then (call_stmt (name 115) none) (then (call_stmt (name 115) none) (then (if_null 119 6 (name 60) (block (then
      (return_value (struct_literal 6 (init 0 (struct_literal 7 (init 0 (struct_literal 7 (init 0 (null 18) no_init)) no_init))
      no_init))) empty)) (block empty)) empty))))) (block empty)) (then (if_null 3 15 (null 21) (block (then (assign (name_target 41)
      (struct_literal 6 (init 0 (null 18) no_init))) (then (return_value (null 18)) empty))) (block empty)) empty))) (block empty))
      (then (return_value (null 18)) empty))))) ∷ []);
}

pub refused_10_20 : Answers program_refused_10_20 10 15 13 4 (65535 ∷ 65535 ∷ 65535 ∷ 65535 ∷ 65535 ∷ 65535 ∷ 65535 ∷ 65535
    ∷ 65535 ∷ 65535 ∷ 65535 ∷ 65535 ∷ 65535 ∷ 65535 ∷ 65535 ∷ 65535 ∷ 65535 ∷ 65535 ∷ 65535 ∷ 65535 ∷ 65535 ∷ 65535 ∷ 65535
    ∷ 65535 ∷ 65535 ∷ 65535 ∷ 65535 ∷ 65535 ∷ 65535 ∷ 65535 ∷ 65535 ∷ 65535 ∷ 65535 ∷ 65535 ∷ 65535 ∷ 65535 ∷ 65535 ∷ 65535
    ∷ 65535 ∷ 65535 ∷ 65535 ∷ 65535 ∷ 65535 ∷ 65535 ∷ 65535 ∷ 65535 ∷ 65535 ∷ 65535 ∷ 65535 ∷ 65535 ∷ 65535 ∷ 65535 ∷ 65535
    ∷ 65535 ∷ 65535 ∷ 65535 ∷ 65535 ∷ 65535 ∷ 65535 ∷ 65535 ∷ 65535 ∷ 65535 ∷ 65535 ∷ 65535 ∷ 65535 ∷ 65535 ∷ 65535 ∷ 65535
    ∷ 65535 ∷ 65535 ∷ 65535 ∷ 65535 ∷ 65535 ∷ 65535 ∷ 65535 ∷ 65535 ∷ 65535 ∷ 65535 ∷ 65535 ∷ 65535 ∷ 65535 ∷ 65535 ∷ 65535
    ∷ 65535 ∷ 65535 ∷ 65535 ∷ 65535 ∷ 65535 ∷ 65535 ∷ 65535 ∷ 65535 ∷ 65535 ∷ 65535 ∷ 65535 ∷ 65535 ∷ 65535 ∷ 65535 ∷ 65535
    ∷ 65535 ∷ 65535 ∷ 65535 ∷ 65535 ∷ 65535 ∷ 65535 ∷ 65535 ∷ 65535 ∷ 65535 ∷ 65535 ∷ 65535 ∷ 65535 ∷ 65535 ∷ 65535 ∷ 65535
    ∷ 65535 ∷ 65535 ∷ 65535 ∷ 65535 ∷ 65535 ∷ 65535 ∷ 65535 ∷ 65535 ∷ 65535 ∷ 65535 ∷ 65535 ∷ 65535 ∷ 65535 ∷ 65535 ∷ 65535
    ∷ 65535 ∷ 65535 ∷ 65535 ∷ 65535 ∷ 65535 ∷ 65535 ∷ 65535 ∷ 65535 ∷ 65535 ∷ 65535 ∷ 65535 ∷ 65535 ∷ 65535 ∷ 65535 ∷ [])
unfolding program_refused_10_20 computed is_file
refused_10_20 = record { file = is-file widest program_refused_10_20 refl; answer = refl }

unfoldable pub program_refused_10_21 : Program
program_refused_10_21 = record {
  tables = record {
    types = (ty 0 0 0 0 ∷ ty 1 0 0 0 ∷ ty 2 0 0 0 ∷ ty 3 0 0 0 ∷ ty 4 0 0 0 ∷ ty 4 1 0 0 ∷ ty 4 2 0 0 ∷ ty 4 3 0 0 ∷ ty 4 4 0 0
        ∷ ty 4 77 0 0 ∷ ty 5 0 0 0 ∷ ty 5 4 0 0 ∷ ty 5 2 0 0 ∷ ty 7 4 0 0 ∷ ty 7 9 0 0 ∷ ty 5 9 0 0 ∷ ty 6 3 0 0 ∷ ty 6 0 0 1
        ∷ ty 6 3 1 1 ∷ ty 7 2 0 0 ∷ ty 5 15 0 0 ∷ ty 6 16 2 3 ∷ ty 5 12 0 0 ∷ ty 7 12 0 0 ∷ ty 5 0 0 0 ∷ []);
    list = (0 ∷ 9 ∷ 0 ∷ 2 ∷ 1 ∷ []);
    fields = (fd 0 13 ∷ fd 1 22 ∷ fd 0 10 ∷ fd 1 21 ∷ fd 0 5 ∷ fd 1 6 ∷ fd 2 24 ∷ fd 0 6 ∷ fd 1 19 ∷ fd 2 10 ∷ []);
    structs = (st 0 0 2 ∷ st 1 2 2 ∷ st 2 4 0 ∷ st 3 4 3 ∷ st 4 7 3 ∷ []);
    built_ins = (bi 116 16 ∷ bi 117 17 ∷ bi 121 21 ∷ []);
    nodes = (nd 2 20 21 4 ∷ nd 3 60 0 0 ∷ nd 3 61 0 0 ∷ nd 3 62 0 0 ∷ nd 39 0 0 3 ∷ nd 30 0 0 2 ∷ nd 15 61 0 0 ∷ nd 15 61 0 0
        ∷ nd 38 0 0 2 ∷ nd 26 12 0 2 ∷ nd 15 62 0 0 ∷ nd 15 62 0 0 ∷ nd 39 0 0 1 ∷ nd 35 0 0 3 ∷ nd 26 9 0 2 ∷ nd 26 0 0 2
        ∷ nd 15 60 0 0 ∷ nd 15 60 0 0 ∷ nd 24 0 0 2 ∷ nd 15 117 0 0 ∷ nd 13 11851 0 0 ∷ nd 39 0 0 2 ∷ nd 31 110 0 1 ∷ nd 17 0 24 1
        ∷ nd 10 0 19 0 ∷ nd 35 0 0 3 ∷ nd 15 62 0 0 ∷ nd 39 0 0 3 ∷ nd 34 0 0 1 ∷ nd 15 116 0 0 ∷ nd 34 0 0 1 ∷ nd 15 116 0 0
        ∷ nd 36 21 12 3 ∷ nd 10 0 23 0 ∷ nd 39 0 0 1 ∷ nd 31 107 0 1 ∷ nd 21 0 4 2 ∷ nd 22 1 0 1 ∷ nd 18 16 22 2 ∷ nd 19 0 0 2
        ∷ nd 15 110 0 0 ∷ nd 13 21913 0 0 ∷ nd 16 0 12 0 ∷ nd 22 0 0 1 ∷ nd 10 0 13 0 ∷ nd 39 0 0 0 ∷ nd 39 0 0 0 ∷ nd 39 0 0 0
        ∷ nd 32 0 0 1 ∷ nd 15 116 0 0 ∷ nd 2 21 21 4 ∷ nd 3 60 0 0 ∷ nd 3 61 0 0 ∷ nd 3 62 0 0 ∷ nd 39 0 0 1 ∷ nd 35 0 0 3
        ∷ nd 11 0 0 0 ∷ nd 39 0 0 1 ∷ nd 32 0 0 1 ∷ nd 15 116 0 0 ∷ nd 39 0 0 1 ∷ nd 32 0 0 1 ∷ nd 15 116 0 0 ∷ nd 2 22 21 4
        ∷ nd 3 60 0 0 ∷ nd 3 61 0 0 ∷ nd 3 62 0 0 ∷ nd 39 0 0 1 ∷ nd 32 0 0 1 ∷ nd 15 116 0 0 ∷ []);
  };
  declarations = (function 20 21 (60 ∷ 61 ∷ 62 ∷ []) (block (then (assign (name_target 61) (name 61)) (then (while (binary 12 (name
      62) (name 62)) (block (then (if_else (binary 9 (binary 0 (name 60) (name 60)) (call (name 117) (also (literal (integer
      11851)) none))) (block (then (var 110 (default_array 24 (null 19))) (then (if_else (name 62) (block (then (call_stmt (name 116)
      none) (then (call_stmt (name 116) none) (then (if_null 21 12 (null 23) (block (then (var 107 (struct_literal 4 (init 1
      (array_with 22 16 (index (name 110) (literal (integer 21913))) (array_literal 12 none)) (init 0 (null 13) no_init)))) empty))
      (block empty)) empty)))) (block empty)) empty))) (block empty)) empty))) (then (return_value (name 116)) empty)))) ∷ function
      21 21 (60 ∷ 61 ∷ 62 ∷ []) (block (then (if_else (literal truth) (block (then (return_value (name 116)) empty)) (block (then
      (return_value (name 116)) empty))) empty)) ∷ function 22 21 (60 ∷ 61 ∷ 62 ∷ []) (block (then (return_value (name 116)) empty))
      ∷ []);
}

pub refused_10_21 : Answers program_refused_10_21 10 16 23 2 (65535 ∷ 65535 ∷ 65535 ∷ 65535 ∷ 65535 ∷ 65535 ∷ 65535 ∷ 65535
    ∷ 65535 ∷ 65535 ∷ 65535 ∷ 65535 ∷ 65535 ∷ 65535 ∷ 65535 ∷ 65535 ∷ 65535 ∷ 65535 ∷ 65535 ∷ 65535 ∷ 65535 ∷ 65535 ∷ 65535
    ∷ 65535 ∷ 65535 ∷ 65535 ∷ 65535 ∷ 65535 ∷ 65535 ∷ 65535 ∷ 65535 ∷ 65535 ∷ 65535 ∷ 65535 ∷ 65535 ∷ 65535 ∷ 65535 ∷ 65535
    ∷ 65535 ∷ 65535 ∷ 65535 ∷ 65535 ∷ 65535 ∷ 65535 ∷ 65535 ∷ 65535 ∷ 65535 ∷ 65535 ∷ 65535 ∷ 65535 ∷ 65535 ∷ 65535 ∷ 65535
    ∷ 65535 ∷ 65535 ∷ 65535 ∷ 65535 ∷ 65535 ∷ 65535 ∷ 65535 ∷ 65535 ∷ 65535 ∷ 65535 ∷ 65535 ∷ 65535 ∷ 65535 ∷ 65535 ∷ 65535
    ∷ 65535 ∷ 65535 ∷ 65535 ∷ 65535 ∷ 65535 ∷ 65535 ∷ 65535 ∷ 65535 ∷ 65535 ∷ 65535 ∷ 65535 ∷ 65535 ∷ 65535 ∷ 65535 ∷ 65535
    ∷ 65535 ∷ 65535 ∷ 65535 ∷ 65535 ∷ 65535 ∷ 65535 ∷ 65535 ∷ 65535 ∷ 65535 ∷ 65535 ∷ 65535 ∷ 65535 ∷ 65535 ∷ 65535 ∷ 65535
    ∷ 65535 ∷ 65535 ∷ 65535 ∷ 65535 ∷ 65535 ∷ 65535 ∷ 65535 ∷ 65535 ∷ 65535 ∷ 65535 ∷ 65535 ∷ 65535 ∷ 65535 ∷ 65535 ∷ 65535
    ∷ 65535 ∷ 65535 ∷ 65535 ∷ 65535 ∷ 65535 ∷ 65535 ∷ 65535 ∷ 65535 ∷ 65535 ∷ 65535 ∷ 65535 ∷ 65535 ∷ 65535 ∷ 65535 ∷ 65535
    ∷ 65535 ∷ 65535 ∷ 65535 ∷ 65535 ∷ 65535 ∷ 65535 ∷ 65535 ∷ 65535 ∷ 65535 ∷ 65535 ∷ 65535 ∷ 65535 ∷ [])
unfolding program_refused_10_21 computed is_file
refused_10_21 = record { file = is-file widest program_refused_10_21 refl; answer = refl }

unfoldable pub program_refused_11_1 : Program
program_refused_11_1 = record {
  tables = record {
    types = (ty 0 0 0 0 ∷ ty 1 0 0 0 ∷ ty 2 0 0 0 ∷ ty 3 0 0 0 ∷ ty 7 2 0 0 ∷ ty 6 4 0 1 ∷ []);
    list = (0 ∷ []);
    fields = ([]);
    structs = ([]);
    built_ins = ([]);
    nodes = (nd 2 10 5 2 ∷ nd 3 20 0 0 ∷ nd 39 0 0 1 ∷ nd 32 0 0 1 ∷ nd 15 20 0 0 ∷ []);
  };
  declarations = (function 10 5 (20 ∷ []) (block (then (return_value (name 20)) empty)) ∷ []);
}

pub refused_11_1 : Answers program_refused_11_1 11 1 3 1 (65535 ∷ 65535 ∷ 65535 ∷ 65535 ∷ 65535 ∷ 65535 ∷ 65535 ∷ 65535 ∷ 65535
    ∷ 65535 ∷ [])
unfolding program_refused_11_1 computed is_file
refused_11_1 = record { file = is-file widest program_refused_11_1 refl; answer = refl }

unfoldable pub program_refused_11_2 : Program
program_refused_11_2 = record {
  tables = record {
    types = (ty 0 0 0 0 ∷ ty 1 0 0 0 ∷ ty 2 0 0 0 ∷ ty 3 0 0 0 ∷ ty 5 0 0 0 ∷ ty 7 2 0 0 ∷ ty 6 3 0 1 ∷ []);
    list = (5 ∷ []);
    fields = ([]);
    structs = ([]);
    built_ins = ([]);
    nodes = (nd 2 10 6 2 ∷ nd 3 20 0 0 ∷ nd 39 0 0 2 ∷ nd 36 31 4 3 ∷ nd 15 20 0 0 ∷ nd 39 0 0 0 ∷ nd 39 0 0 0 ∷ nd 33 0 0 0
        ∷ []);
  };
  declarations = (function 10 6 (20 ∷ []) (block (then (if_null 31 4 (name 20) (block empty) (block empty)) (then return_void
      empty))) ∷ []);
}

pub refused_11_2 : Answers program_refused_11_2 11 1 3 1 (65535 ∷ 65535 ∷ 65535 ∷ 65535 ∷ 65535 ∷ 65535 ∷ 65535 ∷ 65535 ∷ 65535
    ∷ 65535 ∷ 65535 ∷ 65535 ∷ 65535 ∷ 65535 ∷ 65535 ∷ 65535 ∷ [])
unfolding program_refused_11_2 computed is_file
refused_11_2 = record { file = is-file widest program_refused_11_2 refl; answer = refl }

unfoldable pub program_refused_11_3 : Program
program_refused_11_3 = record {
  tables = record {
    types = (ty 0 0 0 0 ∷ ty 1 0 0 0 ∷ ty 2 0 0 0 ∷ ty 3 0 0 0 ∷ ty 7 2 0 0 ∷ ty 6 3 0 1 ∷ ty 6 3 1 1 ∷ ty 6 3 2 2 ∷ []);
    list = (4 ∷ 2 ∷ 5 ∷ 6 ∷ []);
    fields = ([]);
    structs = ([]);
    built_ins = ([]);
    nodes = (nd 2 10 7 3 ∷ nd 3 20 0 0 ∷ nd 3 21 0 0 ∷ nd 39 0 0 2 ∷ nd 30 0 0 2 ∷ nd 15 20 0 0 ∷ nd 15 21 0 0 ∷ nd 33 0 0 0
        ∷ []);
  };
  declarations = (function 10 7 (20 ∷ 21 ∷ []) (block (then (assign (name_target 20) (name 21)) (then return_void empty))) ∷ []);
}

pub refused_11_3 : Answers program_refused_11_3 11 1 4 2 (65535 ∷ 65535 ∷ 65535 ∷ 65535 ∷ 65535 ∷ 65535 ∷ 65535 ∷ 65535 ∷ 65535
    ∷ 65535 ∷ 65535 ∷ 65535 ∷ 65535 ∷ 65535 ∷ 65535 ∷ 65535 ∷ [])
unfolding program_refused_11_3 computed is_file
refused_11_3 = record { file = is-file widest program_refused_11_3 refl; answer = refl }

unfoldable pub program_refused_11_4 : Program
program_refused_11_4 = record {
  tables = record {
    types = (ty 0 0 0 0 ∷ ty 1 0 0 0 ∷ ty 2 0 0 0 ∷ ty 3 0 0 0 ∷ ty 7 2 0 0 ∷ ty 6 1 0 2 ∷ []);
    list = (4 ∷ 2 ∷ []);
    fields = ([]);
    structs = ([]);
    built_ins = ([]);
    nodes = (nd 2 10 5 3 ∷ nd 3 20 0 0 ∷ nd 3 21 0 0 ∷ nd 39 0 0 1 ∷ nd 32 0 0 1 ∷ nd 26 10 0 2 ∷ nd 15 20 0 0 ∷ nd 15 21 0 0
        ∷ []);
  };
  declarations = (function 10 5 (20 ∷ 21 ∷ []) (block (then (return_value (binary 10 (name 20) (name 21))) empty)) ∷ []);
}

pub refused_11_4 : Answers program_refused_11_4 11 1 5 1 (65535 ∷ 65535 ∷ 65535 ∷ 65535 ∷ 65535 ∷ 65535 ∷ 65535 ∷ 65535 ∷ 65535
    ∷ 65535 ∷ 65535 ∷ 65535 ∷ 65535 ∷ 65535 ∷ 65535 ∷ 65535 ∷ [])
unfolding program_refused_11_4 computed is_file
refused_11_4 = record { file = is-file widest program_refused_11_4 refl; answer = refl }

unfoldable pub program_refused_11_5 : Program
program_refused_11_5 = record {
  tables = record {
    types = (ty 0 0 0 0 ∷ ty 1 0 0 0 ∷ ty 2 0 0 0 ∷ ty 3 0 0 0 ∷ ty 5 1 0 0 ∷ ty 7 2 0 0 ∷ ty 6 3 0 1 ∷ ty 6 3 1 1 ∷ ty 6 3 2 2
        ∷ []);
    list = (5 ∷ 2 ∷ 6 ∷ 7 ∷ []);
    fields = ([]);
    structs = ([]);
    built_ins = ([]);
    nodes = (nd 2 10 8 3 ∷ nd 3 20 0 0 ∷ nd 3 21 0 0 ∷ nd 39 0 0 2 ∷ nd 31 31 0 1 ∷ nd 18 22 4 2 ∷ nd 13 3 0 0 ∷ nd 15 22 0 0
        ∷ nd 33 0 0 0 ∷ []);
  };
  declarations = (function 10 8 (20 ∷ 21 ∷ []) (block (then (var 31 (array_with 4 22 (literal (integer 3)) (name 22))) (then
      return_void empty))) ∷ []);
}

pub refused_11_5 : Answers program_refused_11_5 11 1 5 1 (65535 ∷ 65535 ∷ 65535 ∷ 65535 ∷ 65535 ∷ 65535 ∷ 65535 ∷ 65535 ∷ 65535
    ∷ 65535 ∷ 65535 ∷ 65535 ∷ 65535 ∷ 65535 ∷ 65535 ∷ 65535 ∷ 65535 ∷ 65535 ∷ [])
unfolding program_refused_11_5 computed is_file
refused_11_5 = record { file = is-file widest program_refused_11_5 refl; answer = refl }

unfoldable pub program_refused_11_6 : Program
program_refused_11_6 = record {
  tables = record {
    types = (ty 0 0 0 0 ∷ ty 1 0 0 0 ∷ ty 2 0 0 0 ∷ ty 3 0 0 0 ∷ ty 7 2 0 0 ∷ ty 6 3 0 1 ∷ ty 5 5 0 0 ∷ ty 6 3 1 1 ∷ ty 5 7 0 0
        ∷ ty 6 3 2 2 ∷ []);
    list = (4 ∷ 2 ∷ 5 ∷ 7 ∷ []);
    fields = ([]);
    structs = ([]);
    built_ins = ([]);
    nodes = (nd 2 10 9 3 ∷ nd 3 20 0 0 ∷ nd 3 21 0 0 ∷ nd 39 0 0 2 ∷ nd 31 31 0 1 ∷ nd 16 0 6 2 ∷ nd 15 20 0 0 ∷ nd 15 21 0 0
        ∷ nd 33 0 0 0 ∷ []);
  };
  declarations = (function 10 9 (20 ∷ 21 ∷ []) (block (then (var 31 (array_literal 6 (also (name 20) (also (name 21) none)))) (then
      return_void empty))) ∷ []);
}

pub refused_11_6 : Answers program_refused_11_6 11 1 5 6 (65535 ∷ 65535 ∷ 65535 ∷ 65535 ∷ 65535 ∷ 65535 ∷ 65535 ∷ 65535 ∷ 65535
    ∷ 65535 ∷ 65535 ∷ 65535 ∷ 65535 ∷ 65535 ∷ 65535 ∷ 65535 ∷ 65535 ∷ 65535 ∷ [])
unfolding program_refused_11_6 computed is_file
refused_11_6 = record { file = is-file widest program_refused_11_6 refl; answer = refl }

unfoldable pub program_refused_11_7 : Program
program_refused_11_7 = record {
  tables = record {
    types = (ty 0 0 0 0 ∷ ty 1 0 0 0 ∷ ty 2 0 0 0 ∷ ty 3 0 0 0 ∷ ty 7 2 0 0 ∷ ty 6 3 0 1 ∷ ty 6 3 1 1 ∷ ty 6 3 2 2 ∷ ty 6 3 4 3
        ∷ []);
    list = (4 ∷ 2 ∷ 6 ∷ 0 ∷ 5 ∷ 6 ∷ 7 ∷ []);
    fields = ([]);
    structs = ([]);
    built_ins = ([]);
    nodes = (nd 2 10 8 4 ∷ nd 3 20 0 0 ∷ nd 3 21 0 0 ∷ nd 3 30 0 0 ∷ nd 39 0 0 2 ∷ nd 34 0 0 3 ∷ nd 15 30 0 0 ∷ nd 11 0 0 0
        ∷ nd 11 0 0 0 ∷ nd 33 0 0 0 ∷ []);
  };
  declarations = (function 10 8 (20 ∷ 21 ∷ 30 ∷ []) (block (then (call_stmt (name 30) (also (literal truth) (also (literal truth)
      none))) (then return_void empty))) ∷ []);
}

pub refused_11_7 : Answers program_refused_11_7 11 1 5 1 (65535 ∷ 65535 ∷ 65535 ∷ 65535 ∷ 65535 ∷ 65535 ∷ 65535 ∷ 65535 ∷ 65535
    ∷ 65535 ∷ 65535 ∷ 65535 ∷ 65535 ∷ 65535 ∷ 65535 ∷ 65535 ∷ 65535 ∷ 65535 ∷ 65535 ∷ 65535 ∷ [])
unfolding program_refused_11_7 computed is_file
refused_11_7 = record { file = is-file widest program_refused_11_7 refl; answer = refl }

unfoldable pub program_refused_11_8 : Program
program_refused_11_8 = record {
  tables = record {
    types = (ty 0 0 0 0 ∷ ty 1 0 0 0 ∷ ty 2 0 0 0 ∷ ty 3 0 0 0 ∷ ty 7 2 0 0 ∷ ty 6 3 0 1 ∷ ty 6 3 1 1 ∷ ty 6 0 2 2 ∷ ty 6 3 4 3
        ∷ []);
    list = (4 ∷ 2 ∷ 6 ∷ 0 ∷ 5 ∷ 6 ∷ 7 ∷ []);
    fields = ([]);
    structs = ([]);
    built_ins = ([]);
    nodes = (nd 2 10 8 4 ∷ nd 3 20 0 0 ∷ nd 3 21 0 0 ∷ nd 3 30 0 0 ∷ nd 39 0 0 2 ∷ nd 31 31 0 1 ∷ nd 24 0 0 3 ∷ nd 15 30 0 0
        ∷ nd 11 0 0 0 ∷ nd 11 0 0 0 ∷ nd 33 0 0 0 ∷ []);
  };
  declarations = (function 10 8 (20 ∷ 21 ∷ 30 ∷ []) (block (then (var 31 (call (name 30) (also (literal truth) (also (literal
      truth) none)))) (then return_void empty))) ∷ []);
}

pub refused_11_8 : Answers program_refused_11_8 11 1 6 1 (65535 ∷ 65535 ∷ 65535 ∷ 65535 ∷ 65535 ∷ 65535 ∷ 65535 ∷ 65535 ∷ 65535
    ∷ 65535 ∷ 65535 ∷ 65535 ∷ 65535 ∷ 65535 ∷ 65535 ∷ 65535 ∷ 65535 ∷ 65535 ∷ 65535 ∷ 65535 ∷ 65535 ∷ 65535 ∷ [])
unfolding program_refused_11_8 computed is_file
refused_11_8 = record { file = is-file widest program_refused_11_8 refl; answer = refl }

unfoldable pub program_refused_11_9 : Program
program_refused_11_9 = record {
  tables = record {
    types = (ty 0 0 0 0 ∷ ty 1 0 0 0 ∷ ty 2 0 0 0 ∷ ty 3 0 0 0 ∷ ty 5 0 0 0 ∷ ty 7 2 0 0 ∷ ty 6 3 0 1 ∷ ty 6 3 1 1 ∷ ty 6 3 2 2
        ∷ []);
    list = (5 ∷ 2 ∷ 6 ∷ 7 ∷ []);
    fields = ([]);
    structs = ([]);
    built_ins = ([]);
    nodes = (nd 1 11 0 1 ∷ nd 16 0 4 3 ∷ nd 13 1 0 0 ∷ nd 11 0 0 0 ∷ nd 13 3 0 0 ∷ nd 2 10 8 3 ∷ nd 3 20 0 0 ∷ nd 3 21 0 0
        ∷ nd 39 0 0 2 ∷ nd 30 0 0 2 ∷ nd 15 21 0 0 ∷ nd 15 20 0 0 ∷ nd 33 0 0 0 ∷ nd 2 12 8 3 ∷ nd 3 20 0 0 ∷ nd 3 21 0 0
        ∷ nd 39 0 0 3 ∷ nd 30 0 0 2 ∷ nd 15 21 0 0 ∷ nd 15 20 0 0 ∷ nd 30 0 0 2 ∷ nd 15 21 0 0 ∷ nd 15 20 0 0 ∷ nd 33 0 0 0 ∷ []);
  };
  declarations = (global 11 (array_literal 4 (also (literal (integer 1)) (also (literal truth) (also (literal (integer 3)) none))))
      ∷ function 10 8 (20 ∷ 21 ∷ []) (block (then (assign (name_target 21) (name 20)) (then return_void empty))) ∷ function 12 8 (20
      ∷ 21 ∷ []) (block (then (assign (name_target 21) (name 20)) (then (assign (name_target 21) (name 20)) (then return_void
      empty)))) ∷ []);
}

pub refused_11_9 : Answers program_refused_11_9 11 2 1 2 (65535 ∷ 65535 ∷ 65535 ∷ 65535 ∷ 65535 ∷ 65535 ∷ 65535 ∷ 65535 ∷ 65535
    ∷ 65535 ∷ 65535 ∷ 65535 ∷ 65535 ∷ 65535 ∷ 65535 ∷ 65535 ∷ 65535 ∷ 65535 ∷ 65535 ∷ 65535 ∷ 65535 ∷ 65535 ∷ 65535 ∷ 65535
    ∷ 65535 ∷ 65535 ∷ 65535 ∷ 65535 ∷ 65535 ∷ 65535 ∷ 65535 ∷ 65535 ∷ 65535 ∷ 65535 ∷ 65535 ∷ 65535 ∷ 65535 ∷ 65535 ∷ 65535
    ∷ 65535 ∷ 65535 ∷ 65535 ∷ 65535 ∷ 65535 ∷ 65535 ∷ 65535 ∷ 65535 ∷ 65535 ∷ [])
unfolding program_refused_11_9 computed is_file
refused_11_9 = record { file = is-file widest program_refused_11_9 refl; answer = refl }

unfoldable pub program_refused_11_10 : Program
program_refused_11_10 = record {
  tables = record {
    types = (ty 0 0 0 0 ∷ ty 1 0 0 0 ∷ ty 2 0 0 0 ∷ ty 3 0 0 0 ∷ ty 4 81 0 0 ∷ ty 5 0 0 0 ∷ ty 4 68 0 0 ∷ []);
    list = ([]);
    fields = (fd 1 4 ∷ []);
    structs = (st 68 0 1 ∷ []);
    built_ins = ([]);
    nodes = (nd 1 11 0 1 ∷ nd 16 0 5 4 ∷ nd 13 1 0 0 ∷ nd 13 1 0 0 ∷ nd 13 1 0 0 ∷ nd 13 1 0 0 ∷ nd 1 12 0 1 ∷ nd 21 0 6 1
        ∷ nd 22 1 0 1 ∷ nd 13 1 0 0 ∷ []);
  };
  declarations = (global 11 (array_literal 5 (also (literal (integer 1)) (also (literal (integer 1)) (also (literal (integer 1))
      (also (literal (integer 1)) none))))) ∷ global 12 (struct_literal 6 (init 1 (literal (integer 1)) no_init)) ∷ []);
}

pub refused_11_10 : Answers program_refused_11_10 11 2 7 5 (65535 ∷ 65535 ∷ 65535 ∷ 65535 ∷ 65535 ∷ 65535 ∷ 65535 ∷ 65535 ∷ 65535
    ∷ 65535 ∷ 65535 ∷ 65535 ∷ 65535 ∷ 65535 ∷ 65535 ∷ 65535 ∷ 65535 ∷ 65535 ∷ 65535 ∷ 65535 ∷ [])
unfolding program_refused_11_10 computed is_file
refused_11_10 = record { file = is-file widest program_refused_11_10 refl; answer = refl }

unfoldable pub program_refused_11_11 : Program
program_refused_11_11 = record {
  tables = record {
    types = (ty 0 0 0 0 ∷ ty 1 0 0 0 ∷ ty 2 0 0 0 ∷ ty 3 0 0 0 ∷ ty 6 3 0 1 ∷ ty 4 68 0 0 ∷ ty 7 2 0 0 ∷ ty 6 3 1 1 ∷ ty 6 3 2 2
        ∷ []);
    list = (2 ∷ 6 ∷ 7 ∷ 4 ∷ []);
    fields = (fd 1 4 ∷ fd 2 0 ∷ []);
    structs = (st 68 0 2 ∷ []);
    built_ins = ([]);
    nodes = (nd 2 10 8 3 ∷ nd 3 20 0 0 ∷ nd 3 21 0 0 ∷ nd 39 0 0 2 ∷ nd 31 31 0 1 ∷ nd 21 0 5 2 ∷ nd 22 1 0 1 ∷ nd 13 1 0 0
        ∷ nd 22 2 0 1 ∷ nd 13 1 0 0 ∷ nd 33 0 0 0 ∷ []);
  };
  declarations = (function 10 8 (20 ∷ 21 ∷ []) (block (then (var 31 (struct_literal 5 (init 1 (literal (integer 1)) (init 2
      (literal (integer 1)) no_init)))) (then return_void empty))) ∷ []);
}

pub refused_11_11 : Answers program_refused_11_11 11 3 5 1 (65535 ∷ 65535 ∷ 65535 ∷ 65535 ∷ 65535 ∷ 65535 ∷ 65535 ∷ 65535 ∷ 65535
    ∷ 65535 ∷ 65535 ∷ 65535 ∷ 65535 ∷ 65535 ∷ 65535 ∷ 65535 ∷ 65535 ∷ 65535 ∷ 65535 ∷ 65535 ∷ 65535 ∷ 65535 ∷ [])
unfolding program_refused_11_11 computed is_file
refused_11_11 = record { file = is-file widest program_refused_11_11 refl; answer = refl }

unfoldable pub program_refused_12_1 : Program
program_refused_12_1 = record {
  tables = record {
    types = (ty 0 0 0 0 ∷ ty 1 0 0 0 ∷ ty 2 0 0 0 ∷ ty 3 0 0 0 ∷ ty 7 2 0 0 ∷ ty 6 3 0 1 ∷ ty 6 3 1 1 ∷ ty 6 3 2 2 ∷ ty 6 3 4 3
        ∷ []);
    list = (4 ∷ 2 ∷ 6 ∷ 0 ∷ 5 ∷ 6 ∷ 7 ∷ []);
    fields = ([]);
    structs = ([]);
    built_ins = ([]);
    nodes = (nd 2 10 8 4 ∷ nd 3 20 0 0 ∷ nd 3 21 0 0 ∷ nd 3 30 0 0 ∷ nd 39 0 0 2 ∷ nd 34 0 0 2 ∷ nd 15 30 0 0 ∷ nd 15 20 0 0
        ∷ nd 33 0 0 0 ∷ []);
  };
  declarations = (function 10 8 (20 ∷ 21 ∷ 30 ∷ []) (block (then (call_stmt (name 30) (also (name 20) none)) (then return_void
      empty))) ∷ []);
}

pub refused_12_1 : Answers program_refused_12_1 12 1 5 0 (65535 ∷ 65535 ∷ 65535 ∷ 65535 ∷ 65535 ∷ 65535 ∷ 65535 ∷ 65535 ∷ 65535
    ∷ 65535 ∷ 65535 ∷ 65535 ∷ 65535 ∷ 65535 ∷ 65535 ∷ 65535 ∷ 65535 ∷ 65535 ∷ [])
unfolding program_refused_12_1 computed is_file
refused_12_1 = record { file = is-file widest program_refused_12_1 refl; answer = refl }

unfoldable pub program_refused_12_2 : Program
program_refused_12_2 = record {
  tables = record {
    types = (ty 0 0 0 0 ∷ ty 1 0 0 0 ∷ ty 2 0 0 0 ∷ ty 3 0 0 0 ∷ ty 7 2 0 0 ∷ ty 6 3 0 1 ∷ ty 6 3 1 1 ∷ ty 6 0 2 2 ∷ ty 6 3 4 3
        ∷ []);
    list = (4 ∷ 2 ∷ 6 ∷ 0 ∷ 5 ∷ 6 ∷ 7 ∷ []);
    fields = ([]);
    structs = ([]);
    built_ins = ([]);
    nodes = (nd 2 10 8 4 ∷ nd 3 20 0 0 ∷ nd 3 21 0 0 ∷ nd 3 30 0 0 ∷ nd 39 0 0 2 ∷ nd 31 31 0 1 ∷ nd 24 0 0 2 ∷ nd 15 30 0 0
        ∷ nd 15 20 0 0 ∷ nd 33 0 0 0 ∷ []);
  };
  declarations = (function 10 8 (20 ∷ 21 ∷ 30 ∷ []) (block (then (var 31 (call (name 30) (also (name 20) none))) (then return_void
      empty))) ∷ []);
}

pub refused_12_2 : Answers program_refused_12_2 12 1 6 0 (65535 ∷ 65535 ∷ 65535 ∷ 65535 ∷ 65535 ∷ 65535 ∷ 65535 ∷ 65535 ∷ 65535
    ∷ 65535 ∷ 65535 ∷ 65535 ∷ 65535 ∷ 65535 ∷ 65535 ∷ 65535 ∷ 65535 ∷ 65535 ∷ 65535 ∷ 65535 ∷ [])
unfolding program_refused_12_2 computed is_file
refused_12_2 = record { file = is-file widest program_refused_12_2 refl; answer = refl }

unfoldable pub program_refused_12_3 : Program
program_refused_12_3 = record {
  tables = record {
    types = (ty 0 0 0 0 ∷ ty 1 0 0 0 ∷ ty 2 0 0 0 ∷ ty 3 0 0 0 ∷ ty 7 2 0 0 ∷ ty 6 3 0 1 ∷ ty 6 3 1 1 ∷ ty 6 3 2 2 ∷ []);
    list = (4 ∷ 2 ∷ 5 ∷ 6 ∷ []);
    fields = ([]);
    structs = ([]);
    built_ins = ([]);
    nodes = (nd 2 10 7 3 ∷ nd 3 20 0 0 ∷ nd 3 21 0 0 ∷ nd 39 0 0 3 ∷ nd 30 0 0 2 ∷ nd 15 21 0 0 ∷ nd 15 20 0 0 ∷ nd 34 0 0 1
        ∷ nd 15 20 0 0 ∷ nd 33 0 0 0 ∷ []);
  };
  declarations = (function 10 7 (20 ∷ 21 ∷ []) (block (then (assign (name_target 21) (name 20)) (then (call_stmt (name 20) none)
      (then return_void empty)))) ∷ []);
}

pub refused_12_3 : Answers program_refused_12_3 12 1 7 4 (65535 ∷ 65535 ∷ 65535 ∷ 65535 ∷ 65535 ∷ 65535 ∷ 65535 ∷ 65535 ∷ 65535
    ∷ 65535 ∷ 65535 ∷ 65535 ∷ 65535 ∷ 65535 ∷ 65535 ∷ 65535 ∷ 65535 ∷ 65535 ∷ 65535 ∷ 65535 ∷ [])
unfolding program_refused_12_3 computed is_file
refused_12_3 = record { file = is-file widest program_refused_12_3 refl; answer = refl }

unfoldable pub program_refused_12_4 : Program
program_refused_12_4 = record {
  tables = record {
    types = (ty 0 0 0 0 ∷ ty 1 0 0 0 ∷ ty 2 0 0 0 ∷ ty 3 0 0 0 ∷ ty 4 0 0 0 ∷ ty 7 4 0 0 ∷ ty 6 3 0 0 ∷ ty 6 3 0 1 ∷ ty 6 3 1 2
        ∷ []);
    list = (0 ∷ 0 ∷ 0 ∷ []);
    fields = (fd 18 0 ∷ fd 15 0 ∷ fd 12 2 ∷ fd 6 5 ∷ []);
    structs = (st 0 0 4 ∷ []);
    built_ins = ([]);
    nodes = (nd 1 40 0 1 ∷ nd 21 0 4 4 ∷ nd 22 65535 0 1 ∷ nd 10 0 5 0 ∷ nd 22 15 0 1 ∷ nd 13 1 0 0 ∷ nd 22 12 0 1 ∷ nd 14 1 0 0
        ∷ nd 22 18 0 1 ∷ nd 13 1 0 0 ∷ nd 2 10 8 3 ∷ nd 3 20 0 0 ∷ nd 3 21 0 0 ∷ nd 39 0 0 1 ∷ nd 33 0 0 0 ∷ []);
  };
  declarations = (global 40 (struct_literal 4 (init 65535 (null 5) (init 15 (literal (integer 1)) (init 12 (literal (text 1)) (init
      18 (literal (integer 1)) no_init))))) ∷ function 10 8 (20 ∷ 21 ∷ []) (block (then return_void empty)) ∷ []);
}

pub refused_12_4 : Answers program_refused_12_4 12 2 1 0 (65535 ∷ 65535 ∷ 65535 ∷ 65535 ∷ 65535 ∷ 65535 ∷ 65535 ∷ 65535 ∷ 65535
    ∷ 65535 ∷ 65535 ∷ 65535 ∷ 65535 ∷ 65535 ∷ 65535 ∷ 65535 ∷ 65535 ∷ 65535 ∷ 65535 ∷ 65535 ∷ 65535 ∷ 65535 ∷ 65535 ∷ 65535
    ∷ 65535 ∷ 65535 ∷ 65535 ∷ 65535 ∷ 65535 ∷ 65535 ∷ [])
unfolding program_refused_12_4 computed is_file
refused_12_4 = record { file = is-file widest program_refused_12_4 refl; answer = refl }

unfoldable pub program_refused_12_5 : Program
program_refused_12_5 = record {
  tables = record {
    types = (ty 0 0 0 0 ∷ ty 1 0 0 0 ∷ ty 2 0 0 0 ∷ ty 3 0 0 0 ∷ ty 5 0 0 0 ∷ ty 4 68 0 0 ∷ []);
    list = ([]);
    fields = (fd 1 0 ∷ fd 1 0 ∷ []);
    structs = (st 68 0 2 ∷ []);
    built_ins = ([]);
    nodes = (nd 1 11 0 1 ∷ nd 16 0 4 4 ∷ nd 13 1 0 0 ∷ nd 13 1 0 0 ∷ nd 13 1 0 0 ∷ nd 13 1 0 0 ∷ nd 1 12 0 1 ∷ nd 21 0 5 2
        ∷ nd 22 1 0 1 ∷ nd 16 0 4 1 ∷ nd 13 1 0 0 ∷ nd 22 2 0 1 ∷ nd 16 0 4 2 ∷ nd 13 1 0 0 ∷ nd 13 1 0 0 ∷ []);
  };
  declarations = (global 11 (array_literal 4 (also (literal (integer 1)) (also (literal (integer 1)) (also (literal (integer 1))
      (also (literal (integer 1)) none))))) ∷ global 12 (struct_literal 5 (init 1 (array_literal 4 (also (literal (integer 1))
      none)) (init 2 (array_literal 4 (also (literal (integer 1)) (also (literal (integer 1)) none))) no_init))) ∷ []);
}

pub refused_12_5 : Answers program_refused_12_5 12 2 7 4 (65535 ∷ 65535 ∷ 65535 ∷ 65535 ∷ 65535 ∷ 65535 ∷ 65535 ∷ 65535 ∷ 65535
    ∷ 65535 ∷ 65535 ∷ 65535 ∷ 65535 ∷ 65535 ∷ 65535 ∷ 65535 ∷ 65535 ∷ 65535 ∷ 65535 ∷ 65535 ∷ 65535 ∷ 65535 ∷ 65535 ∷ 65535
    ∷ 65535 ∷ 65535 ∷ 65535 ∷ 65535 ∷ 65535 ∷ 65535 ∷ [])
unfolding program_refused_12_5 computed is_file
refused_12_5 = record { file = is-file widest program_refused_12_5 refl; answer = refl }

unfoldable pub program_refused_12_6 : Program
program_refused_12_6 = record {
  tables = record {
    types = (ty 0 0 0 0 ∷ ty 1 0 0 0 ∷ ty 2 0 0 0 ∷ ty 3 0 0 0 ∷ ty 6 3 0 1 ∷ ty 4 68 0 0 ∷ ty 7 2 0 0 ∷ ty 6 3 1 1 ∷ ty 6 3 2 2
        ∷ []);
    list = (2 ∷ 6 ∷ 7 ∷ 4 ∷ []);
    fields = (fd 1 4 ∷ fd 2 0 ∷ []);
    structs = (st 68 0 2 ∷ []);
    built_ins = ([]);
    nodes = (nd 2 10 8 3 ∷ nd 3 20 0 0 ∷ nd 3 21 0 0 ∷ nd 39 0 0 2 ∷ nd 31 31 0 1 ∷ nd 21 0 5 2 ∷ nd 22 1 0 1 ∷ nd 15 20 0 0
        ∷ nd 22 1 0 1 ∷ nd 15 20 0 0 ∷ nd 33 0 0 0 ∷ []);
  };
  declarations = (function 10 8 (20 ∷ 21 ∷ []) (block (then (var 31 (struct_literal 5 (init 1 (name 20) (init 1 (name 20)
      no_init)))) (then return_void empty))) ∷ []);
}

pub refused_12_6 : Answers program_refused_12_6 12 3 5 0 (65535 ∷ 65535 ∷ 65535 ∷ 65535 ∷ 65535 ∷ 65535 ∷ 65535 ∷ 65535 ∷ 65535
    ∷ 65535 ∷ 65535 ∷ 65535 ∷ 65535 ∷ 65535 ∷ 65535 ∷ 65535 ∷ 65535 ∷ 65535 ∷ 65535 ∷ 65535 ∷ 65535 ∷ 65535 ∷ [])
unfolding program_refused_12_6 computed is_file
refused_12_6 = record { file = is-file widest program_refused_12_6 refl; answer = refl }

unfoldable pub program_refused_12_7 : Program
program_refused_12_7 = record {
  tables = record {
    types = (ty 0 0 0 0 ∷ ty 1 0 0 0 ∷ ty 2 0 0 0 ∷ ty 3 0 0 0 ∷ ty 6 3 0 1 ∷ ty 4 68 0 0 ∷ ty 6 0 1 1 ∷ ty 5 6 0 0 ∷ ty 7 2 0 0
        ∷ ty 6 3 2 1 ∷ ty 6 3 3 2 ∷ []);
    list = (2 ∷ 0 ∷ 8 ∷ 9 ∷ 4 ∷ []);
    fields = (fd 1 4 ∷ fd 2 0 ∷ []);
    structs = (st 68 0 2 ∷ []);
    built_ins = ([]);
    nodes = (nd 2 10 10 3 ∷ nd 3 20 0 0 ∷ nd 3 21 0 0 ∷ nd 39 0 0 3 ∷ nd 30 0 0 2 ∷ nd 15 21 0 0 ∷ nd 15 20 0 0 ∷ nd 31 31 0 1
        ∷ nd 21 0 5 2 ∷ nd 22 1 0 1 ∷ nd 13 1 0 0 ∷ nd 22 2 0 1 ∷ nd 24 0 0 1 ∷ nd 19 0 0 2 ∷ nd 16 0 7 0 ∷ nd 13 0 0 0
        ∷ nd 33 0 0 0 ∷ []);
  };
  declarations = (function 10 10 (20 ∷ 21 ∷ []) (block (then (assign (name_target 21) (name 20)) (then (var 31 (struct_literal 5
      (init 1 (literal (integer 1)) (init 2 (call (index (array_literal 7 none) (literal (integer 0))) none) no_init)))) (then
      return_void empty)))) ∷ []);
}

pub refused_12_7 : Answers program_refused_12_7 12 3 12 4 (65535 ∷ 65535 ∷ 65535 ∷ 65535 ∷ 65535 ∷ 65535 ∷ 65535 ∷ 65535 ∷ 65535
    ∷ 65535 ∷ 65535 ∷ 65535 ∷ 65535 ∷ 65535 ∷ 65535 ∷ 65535 ∷ 65535 ∷ 65535 ∷ 65535 ∷ 65535 ∷ 65535 ∷ 65535 ∷ 65535 ∷ 65535
    ∷ 65535 ∷ 65535 ∷ 65535 ∷ 65535 ∷ 65535 ∷ 65535 ∷ 65535 ∷ 65535 ∷ 65535 ∷ 65535 ∷ [])
unfolding program_refused_12_7 computed is_file
refused_12_7 = record { file = is-file widest program_refused_12_7 refl; answer = refl }

unfoldable pub program_refused_12_8 : Program
program_refused_12_8 = record {
  tables = record {
    types = (ty 0 0 0 0 ∷ ty 1 0 0 0 ∷ ty 2 0 0 0 ∷ ty 3 0 0 0 ∷ ty 4 0 0 0 ∷ ty 4 1 0 0 ∷ ty 7 4 0 0 ∷ ty 7 5 0 0 ∷ ty 6 3 0 0
        ∷ ty 6 3 0 1 ∷ ty 6 3 1 2 ∷ []);
    list = (0 ∷ 0 ∷ 0 ∷ []);
    fields = (fd 9 1 ∷ fd 18 0 ∷ fd 12 0 ∷ fd 65534 0 ∷ fd 65279 4 ∷ fd 257 7 ∷ []);
    structs = (st 0 0 3 ∷ st 1 3 3 ∷ []);
    built_ins = ([]);
    nodes = (nd 1 40 0 1 ∷ nd 21 0 4 3 ∷ nd 22 12 0 1 ∷ nd 13 1 0 0 ∷ nd 22 18 0 1 ∷ nd 13 1 0 0 ∷ nd 22 9 0 1 ∷ nd 12 0 0 0
        ∷ nd 2 10 8 1 ∷ nd 39 0 0 3 ∷ nd 31 30 0 1 ∷ nd 21 0 4 3 ∷ nd 22 18 0 1 ∷ nd 13 1 0 0 ∷ nd 22 12 0 1 ∷ nd 13 1 0 0
        ∷ nd 22 10 0 1 ∷ nd 12 0 0 0 ∷ nd 31 31 0 1 ∷ nd 13 1 0 0 ∷ nd 33 0 0 0 ∷ []);
  };
  declarations = (global 40 (struct_literal 4 (init 12 (literal (integer 1)) (init 18 (literal (integer 1)) (init 9 (literal
      falsity) no_init)))) ∷ function 10 8 ([]) (block (then (var 30 (struct_literal 4 (init 18 (literal (integer 1)) (init 12
      (literal (integer 1)) (init 10 (literal falsity) no_init))))) (then (var 31 (literal (integer 1))) (then return_void empty))))
      ∷ []);
}

pub refused_12_8 : Answers program_refused_12_8 12 6 11 3 (65535 ∷ 65535 ∷ 65535 ∷ 65535 ∷ 65535 ∷ 65535 ∷ 65535 ∷ 65535 ∷ 65535
    ∷ 65535 ∷ 65535 ∷ 65535 ∷ 65535 ∷ 65535 ∷ 65535 ∷ 65535 ∷ 65535 ∷ 65535 ∷ 65535 ∷ 65535 ∷ 65535 ∷ 65535 ∷ 65535 ∷ 65535
    ∷ 65535 ∷ 65535 ∷ 65535 ∷ 65535 ∷ 65535 ∷ 65535 ∷ 65535 ∷ 65535 ∷ 65535 ∷ 65535 ∷ 65535 ∷ 65535 ∷ 65535 ∷ 65535 ∷ 65535
    ∷ 65535 ∷ 65535 ∷ 65535 ∷ [])
unfolding program_refused_12_8 computed is_file
refused_12_8 = record { file = is-file widest program_refused_12_8 refl; answer = refl }

unfoldable pub program_refused_13_1 : Program
program_refused_13_1 = record {
  tables = record {
    types = (ty 0 0 0 0 ∷ ty 1 0 0 0 ∷ ty 2 0 0 0 ∷ ty 3 0 0 0 ∷ ty 4 1 0 0 ∷ ty 4 2 0 0 ∷ ty 4 3 0 0 ∷ ty 7 4 0 0 ∷ ty 7 5 0 0
        ∷ ty 5 4 0 0 ∷ ty 5 5 0 0 ∷ ty 5 0 0 0 ∷ ty 6 3 0 0 ∷ ty 6 0 0 0 ∷ ty 6 0 0 1 ∷ ty 4 9 0 0 ∷ ty 7 15 0 0 ∷ ty 5 15 0 0
        ∷ ty 6 3 1 1 ∷ ty 7 2 0 0 ∷ ty 5 2 0 0 ∷ ty 5 0 0 0 ∷ ty 4 1 0 0 ∷ ty 5 7 0 0 ∷ ty 7 11 0 0 ∷ ty 6 5 2 1 ∷ ty 6 4 3 1
        ∷ ty 5 1 0 0 ∷ ty 6 3 4 2 ∷ ty 5 11 0 0 ∷ ty 7 13 0 0 ∷ ty 6 15 6 0 ∷ ty 6 17 6 1 ∷ ty 7 17 0 0 ∷ ty 6 21 7 0
        ∷ ty 6 21 7 1 ∷ ty 6 11 8 1 ∷ ty 6 3 9 1 ∷ ty 6 3 10 2 ∷ ty 6 3 12 2 ∷ []);
    list = (0 ∷ 15 ∷ 4 ∷ 5 ∷ 0 ∷ 1 ∷ 17 ∷ 21 ∷ 22 ∷ 7 ∷ 0 ∷ 0 ∷ 4 ∷ 4 ∷ []);
    fields = ([]);
    structs = ([]);
    built_ins = ([]);
    nodes = (nd 2 10 13 1 ∷ nd 39 0 0 1 ∷ nd 33 0 0 0 ∷ []);
  };
  declarations = (function 10 13 ([]) (block (then return_void empty)) ∷ []);
}

pub refused_13_1 : Answers program_refused_13_1 13 1 2 0 (65535 ∷ 65535 ∷ 65535 ∷ 65535 ∷ 65535 ∷ 65535 ∷ [])
unfolding program_refused_13_1 computed is_file
refused_13_1 = record { file = is-file widest program_refused_13_1 refl; answer = refl }

unfoldable pub program_refused_13_2 : Program
program_refused_13_2 = record {
  tables = record {
    types = (ty 0 0 0 0 ∷ ty 1 0 0 0 ∷ ty 2 0 0 0 ∷ ty 3 0 0 0 ∷ ty 7 2 0 0 ∷ ty 6 3 0 1 ∷ ty 6 3 1 1 ∷ ty 6 3 2 2 ∷ []);
    list = (4 ∷ 2 ∷ 5 ∷ 6 ∷ []);
    fields = ([]);
    structs = ([]);
    built_ins = ([]);
    nodes = (nd 2 10 7 3 ∷ nd 3 20 0 0 ∷ nd 3 21 0 0 ∷ nd 39 0 0 2 ∷ nd 32 0 0 1 ∷ nd 26 10 0 2 ∷ nd 15 20 0 0 ∷ nd 15 20 0 0
        ∷ nd 33 0 0 0 ∷ []);
  };
  declarations = (function 10 7 (20 ∷ 21 ∷ []) (block (then (return_value (binary 10 (name 20) (name 20))) (then return_void
      empty))) ∷ []);
}

pub refused_13_2 : Answers program_refused_13_2 13 1 4 0 (65535 ∷ 65535 ∷ 65535 ∷ 65535 ∷ 65535 ∷ 65535 ∷ 65535 ∷ 65535 ∷ 65535
    ∷ 65535 ∷ 65535 ∷ 65535 ∷ 65535 ∷ 65535 ∷ 65535 ∷ 65535 ∷ 65535 ∷ 65535 ∷ [])
unfolding program_refused_13_2 computed is_file
refused_13_2 = record { file = is-file widest program_refused_13_2 refl; answer = refl }

unfoldable pub program_refused_13_3 : Program
program_refused_13_3 = record {
  tables = record {
    types = (ty 0 0 0 0 ∷ ty 1 0 0 0 ∷ ty 2 0 0 0 ∷ ty 3 0 0 0 ∷ ty 7 2 0 0 ∷ ty 6 3 0 1 ∷ ty 6 3 1 1 ∷ ty 6 0 2 2 ∷ ty 6 3 4 3
        ∷ []);
    list = (4 ∷ 2 ∷ 6 ∷ 0 ∷ 5 ∷ 6 ∷ 7 ∷ []);
    fields = ([]);
    structs = ([]);
    built_ins = ([]);
    nodes = (nd 2 10 8 4 ∷ nd 3 20 0 0 ∷ nd 3 21 0 0 ∷ nd 3 30 0 0 ∷ nd 39 0 0 2 ∷ nd 34 0 0 2 ∷ nd 15 30 0 0 ∷ nd 15 20 0 0
        ∷ nd 33 0 0 0 ∷ []);
  };
  declarations = (function 10 8 (20 ∷ 21 ∷ 30 ∷ []) (block (then (call_stmt (name 30) (also (name 20) none)) (then return_void
      empty))) ∷ []);
}

pub refused_13_3 : Answers program_refused_13_3 13 1 5 0 (65535 ∷ 65535 ∷ 65535 ∷ 65535 ∷ 65535 ∷ 65535 ∷ 65535 ∷ 65535 ∷ 65535
    ∷ 65535 ∷ 65535 ∷ 65535 ∷ 65535 ∷ 65535 ∷ 65535 ∷ 65535 ∷ 65535 ∷ 65535 ∷ [])
unfolding program_refused_13_3 computed is_file
refused_13_3 = record { file = is-file widest program_refused_13_3 refl; answer = refl }

unfoldable pub program_refused_13_4 : Program
program_refused_13_4 = record {
  tables = record {
    types = (ty 0 0 0 0 ∷ ty 1 0 0 0 ∷ ty 2 0 0 0 ∷ ty 3 0 0 0 ∷ ty 7 2 0 0 ∷ ty 6 3 0 1 ∷ ty 6 3 1 1 ∷ ty 6 3 2 2 ∷ ty 6 3 4 3
        ∷ []);
    list = (4 ∷ 2 ∷ 6 ∷ 0 ∷ 5 ∷ 6 ∷ 7 ∷ []);
    fields = ([]);
    structs = ([]);
    built_ins = ([]);
    nodes = (nd 2 10 8 4 ∷ nd 3 20 0 0 ∷ nd 3 21 0 0 ∷ nd 3 30 0 0 ∷ nd 39 0 0 2 ∷ nd 31 31 0 1 ∷ nd 24 0 0 2 ∷ nd 15 30 0 0
        ∷ nd 15 20 0 0 ∷ nd 33 0 0 0 ∷ []);
  };
  declarations = (function 10 8 (20 ∷ 21 ∷ 30 ∷ []) (block (then (var 31 (call (name 30) (also (name 20) none))) (then return_void
      empty))) ∷ []);
}

pub refused_13_4 : Answers program_refused_13_4 13 1 6 0 (65535 ∷ 65535 ∷ 65535 ∷ 65535 ∷ 65535 ∷ 65535 ∷ 65535 ∷ 65535 ∷ 65535
    ∷ 65535 ∷ 65535 ∷ 65535 ∷ 65535 ∷ 65535 ∷ 65535 ∷ 65535 ∷ 65535 ∷ 65535 ∷ 65535 ∷ 65535 ∷ [])
unfolding program_refused_13_4 computed is_file
refused_13_4 = record { file = is-file widest program_refused_13_4 refl; answer = refl }

unfoldable pub program_refused_13_5 : Program
program_refused_13_5 = record {
  tables = record {
    types = (ty 0 0 0 0 ∷ ty 1 0 0 0 ∷ ty 2 0 0 0 ∷ ty 3 0 0 0 ∷ ty 7 2 0 0 ∷ ty 6 3 0 1 ∷ ty 6 3 1 1 ∷ ty 6 3 2 2 ∷ []);
    list = (4 ∷ 2 ∷ 5 ∷ 6 ∷ []);
    fields = ([]);
    structs = ([]);
    built_ins = ([]);
    nodes = (nd 2 10 7 3 ∷ nd 3 20 0 0 ∷ nd 3 21 0 0 ∷ nd 39 0 0 3 ∷ nd 30 0 0 2 ∷ nd 15 21 0 0 ∷ nd 15 20 0 0 ∷ nd 32 0 0 1
        ∷ nd 13 1 0 0 ∷ nd 33 0 0 0 ∷ []);
  };
  declarations = (function 10 7 (20 ∷ 21 ∷ []) (block (then (assign (name_target 21) (name 20)) (then (return_value (literal
      (integer 1))) (then return_void empty)))) ∷ []);
}

pub refused_13_5 : Answers program_refused_13_5 13 1 7 4 (65535 ∷ 65535 ∷ 65535 ∷ 65535 ∷ 65535 ∷ 65535 ∷ 65535 ∷ 65535 ∷ 65535
    ∷ 65535 ∷ 65535 ∷ 65535 ∷ 65535 ∷ 65535 ∷ 65535 ∷ 65535 ∷ 65535 ∷ 65535 ∷ 65535 ∷ 65535 ∷ [])
unfolding program_refused_13_5 computed is_file
refused_13_5 = record { file = is-file widest program_refused_13_5 refl; answer = refl }

unfoldable pub program_refused_13_6 : Program
program_refused_13_6 = record {
  tables = record {
    types = (ty 0 0 0 0 ∷ ty 1 0 0 0 ∷ ty 2 0 0 0 ∷ ty 3 0 0 0 ∷ ty 7 2 0 0 ∷ ty 6 3 0 1 ∷ ty 6 3 1 1 ∷ ty 6 3 2 2 ∷ []);
    list = (4 ∷ 2 ∷ 5 ∷ 6 ∷ []);
    fields = ([]);
    structs = ([]);
    built_ins = ([]);
    nodes = (nd 2 10 7 3 ∷ nd 3 20 0 0 ∷ nd 3 21 0 0 ∷ nd 39 0 0 3 ∷ nd 30 0 0 2 ∷ nd 15 21 0 0 ∷ nd 15 20 0 0 ∷ nd 31 31 0 1
        ∷ nd 24 0 0 2 ∷ nd 15 20 0 0 ∷ nd 14 1 0 0 ∷ nd 33 0 0 0 ∷ []);
  };
  declarations = (function 10 7 (20 ∷ 21 ∷ []) (block (then (assign (name_target 21) (name 20)) (then (var 31 (call (name 20) (also
      (literal (text 1)) none))) (then return_void empty)))) ∷ []);
}

pub refused_13_6 : Answers program_refused_13_6 13 1 8 4 (65535 ∷ 65535 ∷ 65535 ∷ 65535 ∷ 65535 ∷ 65535 ∷ 65535 ∷ 65535 ∷ 65535
    ∷ 65535 ∷ 65535 ∷ 65535 ∷ 65535 ∷ 65535 ∷ 65535 ∷ 65535 ∷ 65535 ∷ 65535 ∷ 65535 ∷ 65535 ∷ 65535 ∷ 65535 ∷ 65535 ∷ 65535 ∷ [])
unfolding program_refused_13_6 computed is_file
refused_13_6 = record { file = is-file widest program_refused_13_6 refl; answer = refl }

unfoldable pub program_refused_13_7 : Program
program_refused_13_7 = record {
  tables = record {
    types = (ty 0 0 0 0 ∷ ty 1 0 0 0 ∷ ty 2 0 0 0 ∷ ty 3 0 0 0 ∷ ty 6 3 0 0 ∷ ty 6 3 0 1 ∷ ty 6 3 1 1 ∷ ty 6 3 2 1 ∷ ty 7 2 0 0
        ∷ ty 5 0 0 0 ∷ ty 6 3 3 2 ∷ ty 6 0 5 1 ∷ ty 6 3 6 2 ∷ ty 6 0 8 0 ∷ []);
    list = (0 ∷ 1 ∷ 2 ∷ 0 ∷ 1 ∷ 8 ∷ 9 ∷ 0 ∷ []);
    fields = ([]);
    structs = ([]);
    built_ins = (bi 50 4 ∷ bi 60 5 ∷ bi 61 6 ∷ bi 62 7 ∷ []);
    nodes = (nd 1 40 0 1 ∷ nd 13 1 0 0 ∷ nd 2 10 13 1 ∷ nd 39 0 0 4 ∷ nd 38 0 0 2 ∷ nd 11 0 0 0 ∷ nd 39 0 0 1 ∷ nd 36 21 2 3
        ∷ nd 10 0 8 0 ∷ nd 39 0 0 4 ∷ nd 34 0 0 2 ∷ nd 15 10 0 0 ∷ nd 26 6 0 2 ∷ nd 26 1 0 2 ∷ nd 13 1 0 0 ∷ nd 13 1 0 0
        ∷ nd 26 1 0 2 ∷ nd 13 1 0 0 ∷ nd 13 1 0 0 ∷ nd 34 0 0 2 ∷ nd 15 61 0 0 ∷ nd 26 6 0 2 ∷ nd 20 0 0 1 ∷ nd 16 0 9 0
        ∷ nd 13 1 0 0 ∷ nd 34 0 0 2 ∷ nd 15 61 0 0 ∷ nd 11 0 0 0 ∷ nd 31 10 0 1 ∷ nd 20 0 0 1 ∷ nd 18 20 9 2 ∷ nd 13 1 0 0
        ∷ nd 15 20 0 0 ∷ nd 39 0 0 1 ∷ nd 31 20 0 1 ∷ nd 18 20 9 2 ∷ nd 26 1 0 2 ∷ nd 13 1 0 0 ∷ nd 13 1 0 0 ∷ nd 15 20 0 0
        ∷ nd 31 20 0 1 ∷ nd 20 0 0 1 ∷ nd 18 10 9 2 ∷ nd 13 1 0 0 ∷ nd 15 10 0 0 ∷ nd 31 10 0 1 ∷ nd 15 20 0 0 ∷ nd 32 0 0 1
        ∷ nd 15 20 0 0 ∷ []);
  };
  declarations = (global 40 (literal (integer 1)) ∷ function 10 13 ([]) (block (then (while (literal truth) (block (then (if_null
      21 2 (null 8) (block (then (call_stmt (name 10) (also (binary 6 (binary 1 (literal (integer 1)) (literal (integer 1)))
      (binary 1 (literal (integer 1)) (literal (integer 1)))) none)) (then (call_stmt (name 61) (also (binary 6 (length_of
      (array_literal 9 none)) (literal (integer 1))) none)) (then (call_stmt (name 61) (also (literal truth) none)) (then (var 10
      (length_of (array_with 9 20 (literal (integer 1)) (name 20)))) empty))))) (block (then (var 20 (array_with 9 20 (binary 1
      (literal (integer 1)) (literal (integer 1))) (name 20))) empty))) empty))) (then (var 20 (length_of (array_with 9 10 (literal
      (integer 1)) (name 10)))) (then (var 10 (name 20)) (then (return_value (name 20)) empty))))) ∷ []);
}

pub refused_13_7 : Answers program_refused_13_7 13 6 10 1 (65535 ∷ 65535 ∷ 65535 ∷ 65535 ∷ 65535 ∷ 65535 ∷ 65535 ∷ 65535 ∷ 65535
    ∷ 65535 ∷ 65535 ∷ 65535 ∷ 65535 ∷ 65535 ∷ 65535 ∷ 65535 ∷ 65535 ∷ 65535 ∷ 65535 ∷ 65535 ∷ 65535 ∷ 65535 ∷ 65535 ∷ 65535
    ∷ 65535 ∷ 65535 ∷ 65535 ∷ 65535 ∷ 65535 ∷ 65535 ∷ 65535 ∷ 65535 ∷ 65535 ∷ 65535 ∷ 65535 ∷ 65535 ∷ 65535 ∷ 65535 ∷ 65535
    ∷ 65535 ∷ 65535 ∷ 65535 ∷ 65535 ∷ 65535 ∷ 65535 ∷ 65535 ∷ 65535 ∷ 65535 ∷ 65535 ∷ 65535 ∷ 65535 ∷ 65535 ∷ 65535 ∷ 65535
    ∷ 65535 ∷ 65535 ∷ 65535 ∷ 65535 ∷ 65535 ∷ 65535 ∷ 65535 ∷ 65535 ∷ 65535 ∷ 65535 ∷ 65535 ∷ 65535 ∷ 65535 ∷ 65535 ∷ 65535
    ∷ 65535 ∷ 65535 ∷ 65535 ∷ 65535 ∷ 65535 ∷ 65535 ∷ 65535 ∷ 65535 ∷ 65535 ∷ 65535 ∷ 65535 ∷ 65535 ∷ 65535 ∷ 65535 ∷ 65535
    ∷ 65535 ∷ 65535 ∷ 65535 ∷ 65535 ∷ 65535 ∷ 65535 ∷ 65535 ∷ 65535 ∷ 65535 ∷ 65535 ∷ 65535 ∷ 65535 ∷ 65535 ∷ 65535 ∷ [])
unfolding program_refused_13_7 computed is_file
refused_13_7 = record { file = is-file widest program_refused_13_7 refl; answer = refl }

unfoldable pub program_refused_13_8 : Program
program_refused_13_8 = record {
  tables = record {
    types = (ty 0 0 0 0 ∷ ty 1 0 0 0 ∷ ty 2 0 0 0 ∷ ty 3 0 0 0 ∷ ty 4 0 0 0 ∷ ty 4 1 0 0 ∷ ty 4 2 0 0 ∷ ty 4 3 0 0 ∷ ty 4 77 0 0
        ∷ ty 5 0 0 0 ∷ ty 5 4 0 0 ∷ ty 5 2 0 0 ∷ ty 7 4 0 0 ∷ ty 7 8 0 0 ∷ ty 5 8 0 0 ∷ ty 6 3 0 0 ∷ ty 6 0 0 1 ∷ ty 6 3 1 1
        ∷ ty 6 3 2 0 ∷ ty 6 11 2 3 ∷ ty 7 10 0 0 ∷ ty 7 17 0 0 ∷ ty 6 11 5 1 ∷ ty 7 10 0 0 ∷ ty 5 12 0 0 ∷ ty 6 15 6 1
        ∷ ty 7 5 0 0 ∷ ty 7 9 0 0 ∷ ty 5 8 0 0 ∷ ty 6 0 7 1 ∷ ty 6 4 8 3 ∷ ty 5 6 0 0 ∷ ty 5 9 0 0 ∷ ty 7 14 0 0 ∷ ty 6 16 11 2
        ∷ ty 5 30 0 0 ∷ []);
    list = (0 ∷ 8 ∷ 12 ∷ 2 ∷ 7 ∷ 4 ∷ 0 ∷ 0 ∷ 26 ∷ 7 ∷ 10 ∷ 11 ∷ 18 ∷ []);
    fields = (fd 0 23 ∷ fd 1 27 ∷ fd 2 32 ∷ fd 0 23 ∷ fd 1 27 ∷ fd 2 32 ∷ fd 3 26 ∷ fd 4 10 ∷ fd 0 23 ∷ fd 1 27 ∷ fd 2 32
        ∷ fd 13 25 ∷ fd 4 29 ∷ fd 5 32 ∷ fd 0 20 ∷ []);
    structs = (st 0 0 3 ∷ st 1 3 5 ∷ st 2 8 6 ∷ st 3 14 1 ∷ []);
    built_ins = (bi 115 15 ∷ bi 116 16 ∷ bi 118 18 ∷ bi 119 19 ∷ bi 122 22 ∷ bi 125 25 ∷ bi 129 29 ∷ bi 130 30 ∷ bi 134 34 ∷ []);
    nodes = (nd 2 20 29 2 ∷ nd 3 60 0 0 ∷ nd 39 0 0 5 ∷ nd 30 0 0 2 ∷ nd 15 60 0 0 ∷ nd 26 14 0 2 ∷ nd 13 40586 0 0
        ∷ nd 13 65187 0 0 ∷ nd 34 0 0 1 ∷ nd 15 118 0 0 ∷ nd 37 0 0 3 ∷ nd 12 0 0 0 ∷ nd 40 0 0 0 ∷ nd 39 0 0 1 ∷ nd 31 65 0 1
        ∷ nd 15 130 0 0 ∷ nd 31 118 0 1 ∷ nd 18 15 31 2 ∷ nd 24 0 0 2 ∷ nd 15 116 0 0 ∷ nd 24 0 0 2 ∷ nd 15 116 0 0
        ∷ nd 13 52008 0 0 ∷ nd 21 0 6 6 ∷ nd 22 5 0 1 ∷ nd 18 48 32 2 ∷ nd 13 31949 0 0 ∷ nd 16 0 9 0 ∷ nd 22 4 0 1
        ∷ nd 15 116 0 0 ∷ nd 22 0 0 1 ∷ nd 16 0 10 0 ∷ nd 22 2 0 1 ∷ nd 16 0 32 1 ∷ nd 16 0 9 0 ∷ nd 22 1 0 1 ∷ nd 17 0 9 1
        ∷ nd 15 15 0 0 ∷ nd 22 13 0 1 ∷ nd 15 125 0 0 ∷ nd 33 0 0 0 ∷ nd 1 40 0 1 ∷ nd 15 119 0 0 ∷ nd 1 41 0 1 ∷ nd 13 3761 0 0
        ∷ []);
  };
  declarations = (function 20 29 (60 ∷ []) (block (then (assign (name_target 60) (binary 14 (literal (integer 40586)) (literal
      (integer 65187)))) (then (call_stmt (name 118) none) (then (for no_var (condition (literal falsity)) no_step (block (then (var
      65 (name 130)) empty))) (then (var 118 (array_with 31 15 (call (name 116) (also (call (name 116) (also (literal (integer
      52008)) none)) none)) (struct_literal 6 (init 5 (array_with 32 48 (literal (integer 31949)) (array_literal 9 none)) (init 4
      (name 116) (init 0 (array_literal 10 none) (init 2 (array_literal 32 (also (array_literal 9 none) none)) (init 1 (default_array
      9 (name 15)) (init 13 (name 125) no_init))))))))) (then return_void empty)))))) ∷ global 40 (name 119) ∷ global 41 (literal
      (integer 3761)) ∷ []);
}

pub refused_13_8 : Answers program_refused_13_8 13 20 40 27 (65535 ∷ 65535 ∷ 65535 ∷ 65535 ∷ 65535 ∷ 65535 ∷ 65535 ∷ 65535 ∷ 65535
    ∷ 65535 ∷ 65535 ∷ 65535 ∷ 65535 ∷ 65535 ∷ 65535 ∷ 65535 ∷ 65535 ∷ 65535 ∷ 65535 ∷ 65535 ∷ 65535 ∷ 65535 ∷ 65535 ∷ 65535
    ∷ 65535 ∷ 65535 ∷ 65535 ∷ 65535 ∷ 65535 ∷ 65535 ∷ 65535 ∷ 65535 ∷ 65535 ∷ 65535 ∷ 65535 ∷ 65535 ∷ 65535 ∷ 65535 ∷ 65535
    ∷ 65535 ∷ 65535 ∷ 65535 ∷ 65535 ∷ 65535 ∷ 65535 ∷ 65535 ∷ 65535 ∷ 65535 ∷ 65535 ∷ 65535 ∷ 65535 ∷ 65535 ∷ 65535 ∷ 65535
    ∷ 65535 ∷ 65535 ∷ 65535 ∷ 65535 ∷ 65535 ∷ 65535 ∷ 65535 ∷ 65535 ∷ 65535 ∷ 65535 ∷ 65535 ∷ 65535 ∷ 65535 ∷ 65535 ∷ 65535
    ∷ 65535 ∷ 65535 ∷ 65535 ∷ 65535 ∷ 65535 ∷ 65535 ∷ 65535 ∷ 65535 ∷ 65535 ∷ 65535 ∷ 65535 ∷ 65535 ∷ 65535 ∷ 65535 ∷ 65535
    ∷ 65535 ∷ 65535 ∷ 65535 ∷ 65535 ∷ 65535 ∷ 65535 ∷ [])
unfolding program_refused_13_8 computed is_file
refused_13_8 = record { file = is-file widest program_refused_13_8 refl; answer = refl }

unfoldable pub program_refused_14_1 : Program
program_refused_14_1 = record {
  tables = record {
    types = (ty 0 0 0 0 ∷ ty 1 0 0 0 ∷ ty 2 0 0 0 ∷ ty 3 0 0 0 ∷ ty 7 2 0 0 ∷ ty 6 3 0 1 ∷ ty 6 3 1 1 ∷ ty 6 3 2 2 ∷ []);
    list = (4 ∷ 2 ∷ 5 ∷ 6 ∷ []);
    fields = ([]);
    structs = ([]);
    built_ins = ([]);
    nodes = (nd 2 10 7 3 ∷ nd 3 20 0 0 ∷ nd 3 21 0 0 ∷ nd 39 0 0 1 ∷ nd 30 0 0 2 ∷ nd 15 21 0 0 ∷ nd 15 20 0 0 ∷ []);
  };
  declarations = (function 10 7 (20 ∷ 21 ∷ []) (block (then (assign (name_target 21) (name 20)) empty)) ∷ []);
}

pub refused_14_1 : Answers program_refused_14_1 14 1 0 4 (65535 ∷ 65535 ∷ 65535 ∷ 65535 ∷ 65535 ∷ 65535 ∷ 65535 ∷ 65535 ∷ 65535
    ∷ 65535 ∷ 65535 ∷ 65535 ∷ 65535 ∷ 65535 ∷ [])
unfolding program_refused_14_1 computed is_file
refused_14_1 = record { file = is-file widest program_refused_14_1 refl; answer = refl }

unfoldable pub program_refused_14_2 : Program
program_refused_14_2 = record {
  tables = record {
    types = (ty 0 0 0 0 ∷ ty 1 0 0 0 ∷ ty 2 0 0 0 ∷ ty 3 0 0 0 ∷ ty 4 1 0 0 ∷ ty 4 2 0 0 ∷ ty 4 3 0 0 ∷ ty 7 4 0 0 ∷ ty 7 5 0 0
        ∷ ty 5 4 0 0 ∷ ty 5 5 0 0 ∷ ty 5 0 0 0 ∷ ty 6 3 0 0 ∷ ty 6 0 0 0 ∷ ty 6 0 0 1 ∷ ty 4 9 0 0 ∷ ty 7 15 0 0 ∷ ty 5 15 0 0
        ∷ ty 6 3 1 1 ∷ ty 7 2 0 0 ∷ ty 5 2 0 0 ∷ ty 5 0 0 0 ∷ ty 4 1 0 0 ∷ ty 5 7 0 0 ∷ ty 7 11 0 0 ∷ ty 6 5 2 1 ∷ ty 6 4 3 1
        ∷ ty 5 1 0 0 ∷ ty 6 3 4 2 ∷ ty 5 11 0 0 ∷ ty 7 13 0 0 ∷ ty 6 15 6 0 ∷ ty 6 17 6 1 ∷ ty 7 17 0 0 ∷ ty 6 21 7 0
        ∷ ty 6 21 7 1 ∷ ty 6 11 8 1 ∷ ty 6 3 9 1 ∷ ty 6 3 10 2 ∷ ty 6 3 12 2 ∷ []);
    list = (0 ∷ 15 ∷ 4 ∷ 5 ∷ 0 ∷ 1 ∷ 17 ∷ 21 ∷ 22 ∷ 7 ∷ 0 ∷ 0 ∷ 4 ∷ 4 ∷ []);
    fields = ([]);
    structs = ([]);
    built_ins = ([]);
    nodes = (nd 2 10 12 1 ∷ nd 39 0 0 2 ∷ nd 38 0 0 2 ∷ nd 11 0 0 0 ∷ nd 39 0 0 0 ∷ nd 31 20 0 1 ∷ nd 13 1 0 0 ∷ []);
  };
  declarations = (function 10 12 ([]) (block (then (while (literal truth) (block empty)) (then (var 20 (literal (integer 1)))
      empty))) ∷ []);
}

pub refused_14_2 : Answers program_refused_14_2 14 1 0 0 (65535 ∷ 65535 ∷ 65535 ∷ 65535 ∷ 65535 ∷ 65535 ∷ 65535 ∷ 65535 ∷ 65535
    ∷ 65535 ∷ 65535 ∷ 65535 ∷ 65535 ∷ 65535 ∷ [])
unfolding program_refused_14_2 computed is_file
refused_14_2 = record { file = is-file widest program_refused_14_2 refl; answer = refl }

unfoldable pub program_refused_14_3 : Program
program_refused_14_3 = record {
  tables = record {
    types = (ty 0 0 0 0 ∷ ty 1 0 0 0 ∷ ty 2 0 0 0 ∷ ty 3 0 0 0 ∷ ty 4 1 0 0 ∷ ty 4 2 0 0 ∷ ty 4 3 0 0 ∷ ty 7 4 0 0 ∷ ty 7 5 0 0
        ∷ ty 5 4 0 0 ∷ ty 5 5 0 0 ∷ ty 5 0 0 0 ∷ ty 6 3 0 0 ∷ ty 6 0 0 0 ∷ ty 6 0 0 1 ∷ ty 4 9 0 0 ∷ ty 7 15 0 0 ∷ ty 5 15 0 0
        ∷ ty 6 3 1 1 ∷ ty 7 2 0 0 ∷ ty 5 2 0 0 ∷ ty 5 0 0 0 ∷ ty 4 1 0 0 ∷ ty 5 7 0 0 ∷ ty 7 11 0 0 ∷ ty 6 5 2 1 ∷ ty 6 4 3 1
        ∷ ty 5 1 0 0 ∷ ty 6 3 4 2 ∷ ty 5 11 0 0 ∷ ty 7 13 0 0 ∷ ty 6 15 6 0 ∷ ty 6 17 6 1 ∷ ty 7 17 0 0 ∷ ty 6 21 7 0
        ∷ ty 6 21 7 1 ∷ ty 6 11 8 1 ∷ ty 6 3 9 1 ∷ ty 6 3 10 2 ∷ ty 6 3 12 2 ∷ []);
    list = (0 ∷ 15 ∷ 4 ∷ 5 ∷ 0 ∷ 1 ∷ 17 ∷ 21 ∷ 22 ∷ 7 ∷ 0 ∷ 0 ∷ 4 ∷ 4 ∷ []);
    fields = ([]);
    structs = ([]);
    built_ins = ([]);
    nodes = (nd 2 10 12 1 ∷ nd 39 0 0 2 ∷ nd 36 20 2 3 ∷ nd 10 0 19 0 ∷ nd 39 0 0 1 ∷ nd 33 0 0 0 ∷ nd 39 0 0 1 ∷ nd 33 0 0 0
        ∷ nd 33 0 0 0 ∷ []);
  };
  declarations = (function 10 12 ([]) (block (then (if_null 20 2 (null 19) (block (then return_void empty)) (block (then return_void
      empty))) (then return_void empty))) ∷ []);
}

pub refused_14_3 : Answers program_refused_14_3 14 1 2 1 (65535 ∷ 65535 ∷ 65535 ∷ 65535 ∷ 65535 ∷ 65535 ∷ 65535 ∷ 65535 ∷ 65535
    ∷ 65535 ∷ 65535 ∷ 65535 ∷ 65535 ∷ 65535 ∷ 65535 ∷ 65535 ∷ 65535 ∷ 65535 ∷ [])
unfolding program_refused_14_3 computed is_file
refused_14_3 = record { file = is-file widest program_refused_14_3 refl; answer = refl }

unfoldable pub program_refused_14_4 : Program
program_refused_14_4 = record {
  tables = record {
    types = (ty 0 0 0 0 ∷ ty 1 0 0 0 ∷ ty 2 0 0 0 ∷ ty 3 0 0 0 ∷ ty 6 3 0 0 ∷ ty 6 0 0 0 ∷ ty 6 0 0 1 ∷ ty 6 3 1 2 ∷ ty 7 2 0 0
        ∷ ty 5 0 0 0 ∷ ty 5 9 0 0 ∷ ty 7 9 0 0 ∷ ty 5 1 0 0 ∷ ty 6 3 3 1 ∷ ty 6 9 4 1 ∷ ty 4 9 0 0 ∷ ty 7 15 0 0 ∷ ty 5 15 0 0
        ∷ []);
    list = (0 ∷ 0 ∷ 0 ∷ 8 ∷ 9 ∷ []);
    fields = ([]);
    structs = ([]);
    built_ins = ([]);
    nodes = (nd 2 10 4 1 ∷ nd 39 0 0 4 ∷ nd 31 20 0 1 ∷ nd 13 1 0 0 ∷ nd 35 0 0 3 ∷ nd 11 0 0 0 ∷ nd 39 0 0 2 ∷ nd 31 20 0 1
        ∷ nd 11 0 0 0 ∷ nd 33 0 0 0 ∷ nd 39 0 0 2 ∷ nd 31 20 0 1 ∷ nd 14 1 0 0 ∷ nd 33 0 0 0 ∷ nd 31 20 0 1 ∷ nd 13 1 0 0
        ∷ nd 33 0 0 0 ∷ []);
  };
  declarations = (function 10 4 ([]) (block (then (var 20 (literal (integer 1))) (then (if_else (literal truth) (block (then (var
      20 (literal truth)) (then return_void empty))) (block (then (var 20 (literal (text 1))) (then return_void empty)))) (then (var
      20 (literal (integer 1))) (then return_void empty))))) ∷ []);
}

pub refused_14_4 : Answers program_refused_14_4 14 1 4 0 (65535 ∷ 65535 ∷ 65535 ∷ 65535 ∷ 65535 ∷ 65535 ∷ 65535 ∷ 65535 ∷ 65535
    ∷ 65535 ∷ 65535 ∷ 65535 ∷ 65535 ∷ 65535 ∷ 65535 ∷ 65535 ∷ 65535 ∷ 65535 ∷ 65535 ∷ 65535 ∷ 65535 ∷ 65535 ∷ 65535 ∷ 65535
    ∷ 65535 ∷ 65535 ∷ 65535 ∷ 65535 ∷ 65535 ∷ 65535 ∷ 65535 ∷ 65535 ∷ 65535 ∷ 65535 ∷ [])
unfolding program_refused_14_4 computed is_file
refused_14_4 = record { file = is-file widest program_refused_14_4 refl; answer = refl }

unfoldable pub program_refused_14_5 : Program
program_refused_14_5 = record {
  tables = record {
    types = (ty 0 0 0 0 ∷ ty 1 0 0 0 ∷ ty 2 0 0 0 ∷ ty 3 0 0 0 ∷ ty 7 2 0 0 ∷ ty 6 3 0 1 ∷ ty 6 3 1 1 ∷ ty 6 3 2 2 ∷ []);
    list = (4 ∷ 2 ∷ 5 ∷ 6 ∷ []);
    fields = ([]);
    structs = ([]);
    built_ins = ([]);
    nodes = (nd 2 10 7 3 ∷ nd 3 20 0 0 ∷ nd 3 21 0 0 ∷ nd 39 0 0 2 ∷ nd 37 0 0 3 ∷ nd 40 0 0 0 ∷ nd 33 0 0 0 ∷ nd 39 0 0 1
        ∷ nd 30 0 0 2 ∷ nd 15 21 0 0 ∷ nd 15 20 0 0 ∷ nd 33 0 0 0 ∷ []);
  };
  declarations = (function 10 7 (20 ∷ 21 ∷ []) (block (then (for no_var no_condition (step return_void) (block (then (assign
      (name_target 21) (name 20)) empty))) (then return_void empty))) ∷ []);
}

pub refused_14_5 : Answers program_refused_14_5 14 1 6 0 (65535 ∷ 65535 ∷ 65535 ∷ 65535 ∷ 65535 ∷ 65535 ∷ 65535 ∷ 65535 ∷ 65535
    ∷ 65535 ∷ 65535 ∷ 65535 ∷ 65535 ∷ 65535 ∷ 65535 ∷ 65535 ∷ 65535 ∷ 65535 ∷ 65535 ∷ 65535 ∷ 65535 ∷ 65535 ∷ 65535 ∷ 65535 ∷ [])
unfolding program_refused_14_5 computed is_file
refused_14_5 = record { file = is-file widest program_refused_14_5 refl; answer = refl }

unfoldable pub program_refused_14_6 : Program
program_refused_14_6 = record {
  tables = record {
    types = (ty 0 0 0 0 ∷ ty 1 0 0 0 ∷ ty 2 0 0 0 ∷ ty 3 0 0 0 ∷ ty 7 2 0 0 ∷ ty 6 3 0 1 ∷ ty 6 3 1 1 ∷ ty 6 3 2 2 ∷ []);
    list = (4 ∷ 2 ∷ 5 ∷ 6 ∷ []);
    fields = ([]);
    structs = ([]);
    built_ins = ([]);
    nodes = (nd 2 10 7 3 ∷ nd 3 20 0 0 ∷ nd 3 21 0 0 ∷ nd 39 0 0 4 ∷ nd 30 0 0 2 ∷ nd 15 21 0 0 ∷ nd 15 20 0 0 ∷ nd 33 0 0 0
        ∷ nd 30 0 0 2 ∷ nd 15 21 0 0 ∷ nd 15 20 0 0 ∷ nd 33 0 0 0 ∷ []);
  };
  declarations = (function 10 7 (20 ∷ 21 ∷ []) (block (then (assign (name_target 21) (name 20)) (then return_void (then (assign
      (name_target 21) (name 20)) (then return_void empty))))) ∷ []);
}

pub refused_14_6 : Answers program_refused_14_6 14 1 7 4 (65535 ∷ 65535 ∷ 65535 ∷ 65535 ∷ 65535 ∷ 65535 ∷ 65535 ∷ 65535 ∷ 65535
    ∷ 65535 ∷ 65535 ∷ 65535 ∷ 65535 ∷ 65535 ∷ 65535 ∷ 65535 ∷ 65535 ∷ 65535 ∷ 65535 ∷ 65535 ∷ 65535 ∷ 65535 ∷ 65535 ∷ 65535 ∷ [])
unfolding program_refused_14_6 computed is_file
refused_14_6 = record { file = is-file widest program_refused_14_6 refl; answer = refl }

unfoldable pub program_refused_14_7 : Program
program_refused_14_7 = record {
  tables = record {
    types = (ty 0 0 0 0 ∷ ty 1 0 0 0 ∷ ty 2 0 0 0 ∷ ty 3 0 0 0 ∷ ty 6 3 0 0 ∷ ty 6 3 0 1 ∷ ty 6 0 1 0 ∷ ty 6 0 1 1 ∷ ty 7 2 0 0
        ∷ []);
    list = (1 ∷ 1 ∷ []);
    fields = ([]);
    structs = ([]);
    built_ins = (bi 50 4 ∷ []);
    nodes = (nd 1 40 0 1 ∷ nd 11 0 0 0 ∷ nd 1 41 0 1 ∷ nd 13 1 0 0 ∷ nd 2 10 5 2 ∷ nd 3 20 0 0 ∷ nd 39 0 0 0 ∷ []);
  };
  declarations = (global 40 (literal truth) ∷ global 41 (literal (integer 1)) ∷ function 10 5 (20 ∷ []) (block empty) ∷ []);
}

pub refused_14_7 : Answers program_refused_14_7 14 4 4 0 (65535 ∷ 65535 ∷ 65535 ∷ 65535 ∷ 65535 ∷ 65535 ∷ 65535 ∷ 65535 ∷ 65535
    ∷ 65535 ∷ 65535 ∷ 65535 ∷ 65535 ∷ 65535 ∷ [])
unfolding program_refused_14_7 computed is_file
refused_14_7 = record { file = is-file widest program_refused_14_7 refl; answer = refl }

unfoldable pub program_refused_14_8 : Program
program_refused_14_8 = record {
  tables = record {
    types = (ty 0 0 0 0 ∷ ty 1 0 0 0 ∷ ty 2 0 0 0 ∷ ty 3 0 0 0 ∷ ty 6 3 0 0 ∷ ty 6 3 0 1 ∷ ty 6 0 1 0 ∷ ty 6 0 1 1 ∷ ty 7 2 0 0
        ∷ []);
    list = (1 ∷ 1 ∷ []);
    fields = ([]);
    structs = ([]);
    built_ins = (bi 50 4 ∷ []);
    nodes = (nd 1 40 0 1 ∷ nd 11 0 0 0 ∷ nd 1 41 0 1 ∷ nd 13 1 0 0 ∷ nd 2 10 4 1 ∷ nd 39 0 0 1 ∷ nd 38 0 0 2 ∷ nd 12 0 0 0
        ∷ nd 39 0 0 3 ∷ nd 38 0 0 2 ∷ nd 15 40 0 0 ∷ nd 39 0 0 1 ∷ nd 38 0 0 2 ∷ nd 11 0 0 0 ∷ nd 39 0 0 0 ∷ nd 30 0 0 2
        ∷ nd 15 41 0 0 ∷ nd 13 2 0 0 ∷ nd 30 0 0 2 ∷ nd 15 41 0 0 ∷ nd 13 2 0 0 ∷ []);
  };
  declarations = (global 40 (literal truth) ∷ global 41 (literal (integer 1)) ∷ function 10 4 ([]) (block (then (while (literal
      falsity) (block (then (while (name 40) (block (then (while (literal truth) (block empty)) empty))) (then (assign (name_target
      41) (literal (integer 2))) (then (assign (name_target 41) (literal (integer 2))) empty))))) empty)) ∷ []);
}

pub refused_14_8 : Answers program_refused_14_8 14 4 4 2 (65535 ∷ 65535 ∷ 65535 ∷ 65535 ∷ 65535 ∷ 65535 ∷ 65535 ∷ 65535 ∷ 65535
    ∷ 65535 ∷ 65535 ∷ 65535 ∷ 65535 ∷ 65535 ∷ 65535 ∷ 65535 ∷ 65535 ∷ 65535 ∷ 65535 ∷ 65535 ∷ 65535 ∷ 65535 ∷ 65535 ∷ 65535
    ∷ 65535 ∷ 65535 ∷ 65535 ∷ 65535 ∷ 65535 ∷ 65535 ∷ 65535 ∷ 65535 ∷ 65535 ∷ 65535 ∷ 65535 ∷ 65535 ∷ 65535 ∷ 65535 ∷ 65535
    ∷ 65535 ∷ 65535 ∷ 65535 ∷ [])
unfolding program_refused_14_8 computed is_file
refused_14_8 = record { file = is-file widest program_refused_14_8 refl; answer = refl }

unfoldable pub program_refused_14_9 : Program
program_refused_14_9 = record {
  tables = record {
    types = (ty 0 0 0 0 ∷ ty 1 0 0 0 ∷ ty 2 0 0 0 ∷ ty 3 0 0 0 ∷ ty 6 3 0 0 ∷ ty 6 3 0 1 ∷ ty 6 0 1 0 ∷ ty 6 0 1 1 ∷ ty 7 2 0 0
        ∷ []);
    list = (1 ∷ 1 ∷ []);
    fields = ([]);
    structs = ([]);
    built_ins = (bi 50 4 ∷ []);
    nodes = (nd 1 40 0 1 ∷ nd 11 0 0 0 ∷ nd 1 41 0 1 ∷ nd 13 1 0 0 ∷ nd 2 10 6 1 ∷ nd 39 0 0 2 ∷ nd 32 0 0 1 ∷ nd 13 1 0 0
        ∷ nd 37 0 0 3 ∷ nd 11 0 0 0 ∷ nd 40 0 0 0 ∷ nd 39 0 0 1 ∷ nd 36 100 2 3 ∷ nd 10 0 8 0 ∷ nd 39 0 0 1 ∷ nd 36 100 2 3
        ∷ nd 10 0 8 0 ∷ nd 39 0 0 2 ∷ nd 37 0 0 3 ∷ nd 40 0 0 0 ∷ nd 36 100 2 3 ∷ nd 10 0 8 0 ∷ nd 39 0 0 1 ∷ nd 38 0 0 2
        ∷ nd 11 0 0 0 ∷ nd 39 0 0 0 ∷ nd 39 0 0 2 ∷ nd 34 0 0 1 ∷ nd 15 50 0 0 ∷ nd 34 0 0 1 ∷ nd 15 50 0 0 ∷ nd 39 0 0 3
        ∷ nd 30 0 0 2 ∷ nd 15 41 0 0 ∷ nd 13 2 0 0 ∷ nd 34 0 0 1 ∷ nd 15 50 0 0 ∷ nd 31 101 0 1 ∷ nd 13 1 0 0 ∷ nd 32 0 0 1
        ∷ nd 13 1 0 0 ∷ nd 39 0 0 2 ∷ nd 30 0 0 2 ∷ nd 15 41 0 0 ∷ nd 13 2 0 0 ∷ nd 32 0 0 1 ∷ nd 13 1 0 0 ∷ nd 39 0 0 1
        ∷ nd 38 0 0 2 ∷ nd 11 0 0 0 ∷ nd 39 0 0 0 ∷ []);
  };
  declarations = (global 40 (literal truth) ∷ global 41 (literal (integer 1)) ∷ function 10 6 ([]) (block (then (return_value
      (literal (integer 1))) (then (for no_var (condition (literal truth)) no_step (block (then (if_null 100 2 (null 8) (block (then
      (if_null 100 2 (null 8) (block (then (for no_var no_condition (step (if_null 100 2 (null 8) (block (then (while (literal truth)
      (block empty)) empty)) (block (then (call_stmt (name 50) none) (then (call_stmt (name 50) none) empty))))) (block (then
      (assign (name_target 41) (literal (integer 2))) (then (call_stmt (name 50) none) (then (var 101 (literal (integer 1)))
      empty))))) (then (return_value (literal (integer 1))) empty))) (block (then (assign (name_target 41) (literal (integer 2)))
      (then (return_value (literal (integer 1))) empty)))) empty)) (block (then (while (literal truth) (block empty)) empty)))
      empty))) empty))) ∷ []);
}

pub refused_14_9 : Answers program_refused_14_9 14 4 6 1 (65535 ∷ 65535 ∷ 65535 ∷ 65535 ∷ 65535 ∷ 65535 ∷ 65535 ∷ 65535 ∷ 65535
    ∷ 65535 ∷ 65535 ∷ 65535 ∷ 65535 ∷ 65535 ∷ 65535 ∷ 65535 ∷ 65535 ∷ 65535 ∷ 65535 ∷ 65535 ∷ 65535 ∷ 65535 ∷ 65535 ∷ 65535
    ∷ 65535 ∷ 65535 ∷ 65535 ∷ 65535 ∷ 65535 ∷ 65535 ∷ 65535 ∷ 65535 ∷ 65535 ∷ 65535 ∷ 65535 ∷ 65535 ∷ 65535 ∷ 65535 ∷ 65535
    ∷ 65535 ∷ 65535 ∷ 65535 ∷ 65535 ∷ 65535 ∷ 65535 ∷ 65535 ∷ 65535 ∷ 65535 ∷ 65535 ∷ 65535 ∷ 65535 ∷ 65535 ∷ 65535 ∷ 65535
    ∷ 65535 ∷ 65535 ∷ 65535 ∷ 65535 ∷ 65535 ∷ 65535 ∷ 65535 ∷ 65535 ∷ 65535 ∷ 65535 ∷ 65535 ∷ 65535 ∷ 65535 ∷ 65535 ∷ 65535
    ∷ 65535 ∷ 65535 ∷ 65535 ∷ 65535 ∷ 65535 ∷ 65535 ∷ 65535 ∷ 65535 ∷ 65535 ∷ 65535 ∷ 65535 ∷ 65535 ∷ 65535 ∷ 65535 ∷ 65535
    ∷ 65535 ∷ 65535 ∷ 65535 ∷ 65535 ∷ 65535 ∷ 65535 ∷ 65535 ∷ 65535 ∷ 65535 ∷ 65535 ∷ 65535 ∷ 65535 ∷ 65535 ∷ 65535 ∷ 65535
    ∷ 65535 ∷ 65535 ∷ 65535 ∷ [])
unfolding program_refused_14_9 computed is_file
refused_14_9 = record { file = is-file widest program_refused_14_9 refl; answer = refl }

unfoldable pub program_refused_14_10 : Program
program_refused_14_10 = record {
  tables = record {
    types = (ty 0 0 0 0 ∷ ty 1 0 0 0 ∷ ty 2 0 0 0 ∷ ty 3 0 0 0 ∷ ty 6 3 0 0 ∷ ty 6 3 0 1 ∷ ty 6 0 1 0 ∷ ty 6 0 1 1 ∷ ty 7 2 0 0
        ∷ []);
    list = (1 ∷ 1 ∷ []);
    fields = ([]);
    structs = ([]);
    built_ins = (bi 50 4 ∷ []);
    nodes = (nd 1 40 0 1 ∷ nd 11 0 0 0 ∷ nd 1 41 0 1 ∷ nd 13 1 0 0 ∷ nd 2 10 5 2 ∷ nd 3 20 0 0 ∷ nd 39 0 0 2 ∷ nd 37 0 0 3
        ∷ nd 11 0 0 0 ∷ nd 35 0 0 3 ∷ nd 11 0 0 0 ∷ nd 39 0 0 1 ∷ nd 33 0 0 0 ∷ nd 39 0 0 1 ∷ nd 33 0 0 0 ∷ nd 39 0 0 2
        ∷ nd 38 0 0 2 ∷ nd 11 0 0 0 ∷ nd 39 0 0 2 ∷ nd 34 0 0 1 ∷ nd 15 50 0 0 ∷ nd 33 0 0 0 ∷ nd 36 100 2 3 ∷ nd 10 0 8 0
        ∷ nd 39 0 0 1 ∷ nd 38 0 0 2 ∷ nd 11 0 0 0 ∷ nd 39 0 0 0 ∷ nd 39 0 0 1 ∷ nd 33 0 0 0 ∷ nd 33 0 0 0 ∷ []);
  };
  declarations = (global 40 (literal truth) ∷ global 41 (literal (integer 1)) ∷ function 10 5 (20 ∷ []) (block (then (for no_var
      (condition (literal truth)) (step (if_else (literal truth) (block (then return_void empty)) (block (then return_void empty))))
      (block (then (while (literal truth) (block (then (call_stmt (name 50) none) (then return_void empty)))) (then (if_null 100 2
      (null 8) (block (then (while (literal truth) (block empty)) empty)) (block (then return_void empty))) empty)))) (then
      return_void empty))) ∷ []);
}

pub refused_14_10 : Answers program_refused_14_10 14 4 9 0 (65535 ∷ 65535 ∷ 65535 ∷ 65535 ∷ 65535 ∷ 65535 ∷ 65535 ∷ 65535 ∷ 65535
    ∷ 65535 ∷ 65535 ∷ 65535 ∷ 65535 ∷ 65535 ∷ 65535 ∷ 65535 ∷ 65535 ∷ 65535 ∷ 65535 ∷ 65535 ∷ 65535 ∷ 65535 ∷ 65535 ∷ 65535
    ∷ 65535 ∷ 65535 ∷ 65535 ∷ 65535 ∷ 65535 ∷ 65535 ∷ 65535 ∷ 65535 ∷ 65535 ∷ 65535 ∷ 65535 ∷ 65535 ∷ 65535 ∷ 65535 ∷ 65535
    ∷ 65535 ∷ 65535 ∷ 65535 ∷ 65535 ∷ 65535 ∷ 65535 ∷ 65535 ∷ 65535 ∷ 65535 ∷ 65535 ∷ 65535 ∷ 65535 ∷ 65535 ∷ 65535 ∷ 65535
    ∷ 65535 ∷ 65535 ∷ 65535 ∷ 65535 ∷ 65535 ∷ 65535 ∷ 65535 ∷ 65535 ∷ [])
unfolding program_refused_14_10 computed is_file
refused_14_10 = record { file = is-file widest program_refused_14_10 refl; answer = refl }

unfoldable pub program_refused_14_11 : Program
program_refused_14_11 = record {
  tables = record {
    types = (ty 0 0 0 0 ∷ ty 1 0 0 0 ∷ ty 2 0 0 0 ∷ ty 3 0 0 0 ∷ ty 6 3 0 0 ∷ ty 6 3 0 1 ∷ ty 6 0 1 0 ∷ ty 6 0 1 1 ∷ ty 7 2 0 0
        ∷ []);
    list = (1 ∷ 1 ∷ []);
    fields = ([]);
    structs = ([]);
    built_ins = (bi 50 4 ∷ []);
    nodes = (nd 1 40 0 1 ∷ nd 11 0 0 0 ∷ nd 1 41 0 1 ∷ nd 13 1 0 0 ∷ nd 2 10 6 1 ∷ nd 39 0 0 2 ∷ nd 35 0 0 3 ∷ nd 11 0 0 0
        ∷ nd 39 0 0 1 ∷ nd 32 0 0 1 ∷ nd 13 1 0 0 ∷ nd 39 0 0 2 ∷ nd 35 0 0 3 ∷ nd 11 0 0 0 ∷ nd 39 0 0 1 ∷ nd 38 0 0 2
        ∷ nd 11 0 0 0 ∷ nd 39 0 0 0 ∷ nd 39 0 0 1 ∷ nd 38 0 0 2 ∷ nd 11 0 0 0 ∷ nd 39 0 0 0 ∷ nd 32 0 0 1 ∷ nd 13 1 0 0
        ∷ nd 32 0 0 1 ∷ nd 13 1 0 0 ∷ []);
  };
  declarations = (global 40 (literal truth) ∷ global 41 (literal (integer 1)) ∷ function 10 6 ([]) (block (then (if_else (literal
      truth) (block (then (return_value (literal (integer 1))) empty)) (block (then (if_else (literal truth) (block (then (while
      (literal truth) (block empty)) empty)) (block (then (while (literal truth) (block empty)) empty))) (then (return_value
      (literal (integer 1))) empty)))) (then (return_value (literal (integer 1))) empty))) ∷ []);
}

pub refused_14_11 : Answers program_refused_14_11 14 4 12 1 (65535 ∷ 65535 ∷ 65535 ∷ 65535 ∷ 65535 ∷ 65535 ∷ 65535 ∷ 65535 ∷ 65535
    ∷ 65535 ∷ 65535 ∷ 65535 ∷ 65535 ∷ 65535 ∷ 65535 ∷ 65535 ∷ 65535 ∷ 65535 ∷ 65535 ∷ 65535 ∷ 65535 ∷ 65535 ∷ 65535 ∷ 65535
    ∷ 65535 ∷ 65535 ∷ 65535 ∷ 65535 ∷ 65535 ∷ 65535 ∷ 65535 ∷ 65535 ∷ 65535 ∷ 65535 ∷ 65535 ∷ 65535 ∷ 65535 ∷ 65535 ∷ 65535
    ∷ 65535 ∷ 65535 ∷ 65535 ∷ 65535 ∷ 65535 ∷ 65535 ∷ 65535 ∷ 65535 ∷ 65535 ∷ 65535 ∷ 65535 ∷ 65535 ∷ 65535 ∷ [])
unfolding program_refused_14_11 computed is_file
refused_14_11 = record { file = is-file widest program_refused_14_11 refl; answer = refl }

unfoldable pub program_refused_14_12 : Program
program_refused_14_12 = record {
  tables = record {
    types = (ty 0 0 0 0 ∷ ty 1 0 0 0 ∷ ty 2 0 0 0 ∷ ty 3 0 0 0 ∷ ty 6 3 0 0 ∷ ty 6 3 0 1 ∷ ty 6 0 1 0 ∷ ty 6 0 1 1 ∷ ty 7 2 0 0
        ∷ []);
    list = (1 ∷ 1 ∷ []);
    fields = ([]);
    structs = ([]);
    built_ins = (bi 50 4 ∷ []);
    nodes = (nd 1 40 0 1 ∷ nd 11 0 0 0 ∷ nd 1 41 0 1 ∷ nd 13 1 0 0 ∷ nd 2 10 5 2 ∷ nd 3 20 0 0 ∷ nd 39 0 0 4 ∷ nd 38 0 0 2
        ∷ nd 11 0 0 0 ∷ nd 39 0 0 0 ∷ nd 38 0 0 2 ∷ nd 11 0 0 0 ∷ nd 39 0 0 3 ∷ nd 31 101 0 1 ∷ nd 13 1 0 0 ∷ nd 33 0 0 0
        ∷ nd 33 0 0 0 ∷ nd 38 0 0 2 ∷ nd 11 0 0 0 ∷ nd 39 0 0 0 ∷ nd 38 0 0 2 ∷ nd 11 0 0 0 ∷ nd 39 0 0 0 ∷ []);
  };
  declarations = (global 40 (literal truth) ∷ global 41 (literal (integer 1)) ∷ function 10 5 (20 ∷ []) (block (then (while
      (literal truth) (block empty)) (then (while (literal truth) (block (then (var 101 (literal (integer 1))) (then return_void
      (then return_void empty))))) (then (while (literal truth) (block empty)) (then (while (literal truth) (block empty))
      empty))))) ∷ []);
}

pub refused_14_12 : Answers program_refused_14_12 14 4 15 0 (65535 ∷ 65535 ∷ 65535 ∷ 65535 ∷ 65535 ∷ 65535 ∷ 65535 ∷ 65535 ∷ 65535
    ∷ 65535 ∷ 65535 ∷ 65535 ∷ 65535 ∷ 65535 ∷ 65535 ∷ 65535 ∷ 65535 ∷ 65535 ∷ 65535 ∷ 65535 ∷ 65535 ∷ 65535 ∷ 65535 ∷ 65535
    ∷ 65535 ∷ 65535 ∷ 65535 ∷ 65535 ∷ 65535 ∷ 65535 ∷ 65535 ∷ 65535 ∷ 65535 ∷ 65535 ∷ 65535 ∷ 65535 ∷ 65535 ∷ 65535 ∷ 65535
    ∷ 65535 ∷ 65535 ∷ 65535 ∷ 65535 ∷ 65535 ∷ 65535 ∷ 65535 ∷ [])
unfolding program_refused_14_12 computed is_file
refused_14_12 = record { file = is-file widest program_refused_14_12 refl; answer = refl }

unfoldable pub program_refused_14_13 : Program
program_refused_14_13 = record {
  tables = record {
    types = (ty 0 0 0 0 ∷ ty 1 0 0 0 ∷ ty 2 0 0 0 ∷ ty 3 0 0 0 ∷ ty 6 3 0 0 ∷ ty 6 3 0 1 ∷ ty 6 0 1 0 ∷ ty 6 0 1 1 ∷ ty 7 2 0 0
        ∷ []);
    list = (1 ∷ 1 ∷ []);
    fields = ([]);
    structs = ([]);
    built_ins = (bi 50 4 ∷ []);
    nodes = (nd 1 40 0 1 ∷ nd 11 0 0 0 ∷ nd 1 41 0 1 ∷ nd 13 1 0 0 ∷ nd 2 10 4 1 ∷ nd 39 0 0 3 ∷ nd 30 0 0 2 ∷ nd 15 41 0 0
        ∷ nd 13 2 0 0 ∷ nd 36 100 2 3 ∷ nd 10 0 8 0 ∷ nd 39 0 0 1 ∷ nd 38 0 0 2 ∷ nd 11 0 0 0 ∷ nd 39 0 0 0 ∷ nd 39 0 0 1
        ∷ nd 33 0 0 0 ∷ nd 33 0 0 0 ∷ nd 2 11 5 2 ∷ nd 3 20 0 0 ∷ nd 39 0 0 0 ∷ []);
  };
  declarations = (global 40 (literal truth) ∷ global 41 (literal (integer 1)) ∷ function 10 4 ([]) (block (then (assign
      (name_target 41) (literal (integer 2))) (then (if_null 100 2 (null 8) (block (then (while (literal truth) (block empty))
      empty)) (block (then return_void empty))) (then return_void empty)))) ∷ function 11 5 (20 ∷ []) (block empty) ∷ []);
}

pub refused_14_13 : Answers program_refused_14_13 14 5 9 2 (65535 ∷ 65535 ∷ 65535 ∷ 65535 ∷ 65535 ∷ 65535 ∷ 65535 ∷ 65535 ∷ 65535
    ∷ 65535 ∷ 65535 ∷ 65535 ∷ 65535 ∷ 65535 ∷ 65535 ∷ 65535 ∷ 65535 ∷ 65535 ∷ 65535 ∷ 65535 ∷ 65535 ∷ 65535 ∷ 65535 ∷ 65535
    ∷ 65535 ∷ 65535 ∷ 65535 ∷ 65535 ∷ 65535 ∷ 65535 ∷ 65535 ∷ 65535 ∷ 65535 ∷ 65535 ∷ 65535 ∷ 65535 ∷ 65535 ∷ 65535 ∷ 65535
    ∷ 65535 ∷ 65535 ∷ 65535 ∷ [])
unfolding program_refused_14_13 computed is_file
refused_14_13 = record { file = is-file widest program_refused_14_13 refl; answer = refl }

unfoldable pub program_refused_14_14 : Program
program_refused_14_14 = record {
  tables = record {
    types = (ty 0 0 0 0 ∷ ty 1 0 0 0 ∷ ty 2 0 0 0 ∷ ty 3 0 0 0 ∷ ty 4 0 0 0 ∷ ty 4 1 0 0 ∷ ty 4 77 0 0 ∷ ty 5 0 0 0 ∷ ty 5 4 0 0
        ∷ ty 5 2 0 0 ∷ ty 7 4 0 0 ∷ ty 7 6 0 0 ∷ ty 5 6 0 0 ∷ ty 6 3 0 0 ∷ ty 6 0 0 1 ∷ ty 6 3 1 1 ∷ ty 5 4 0 0 ∷ ty 5 8 0 0
        ∷ ty 5 14 0 0 ∷ ty 7 18 0 0 ∷ ty 7 4 0 0 ∷ ty 7 15 0 0 ∷ ty 6 15 2 3 ∷ ty 6 3 5 3 ∷ ty 6 3 8 3 ∷ ty 6 3 11 1 ∷ ty 5 14 0 0
        ∷ []);
    list = (0 ∷ 6 ∷ 20 ∷ 8 ∷ 0 ∷ 4 ∷ 19 ∷ 8 ∷ 11 ∷ 10 ∷ 13 ∷ 23 ∷ []);
    fields = (fd 10 10 ∷ fd 1 1 ∷ fd 2 1 ∷ fd 0 2 ∷ []);
    structs = (st 0 0 3 ∷ st 1 3 1 ∷ []);
    built_ins = (bi 113 13 ∷ bi 114 14 ∷ bi 123 23 ∷ bi 125 25 ∷ []);
    nodes = (nd 1 40 0 1 ∷ nd 21 0 4 3 ∷ nd 22 1 0 1 ∷ nd 12 0 0 0 ∷ nd 22 2 0 1 ∷ nd 12 0 0 0 ∷ nd 22 10 0 1 ∷ nd 21 0 4 3
        ∷ nd 22 10 0 1 ∷ nd 10 0 10 0 ∷ nd 22 2 0 1 ∷ nd 12 0 0 0 ∷ nd 22 1 0 1 ∷ nd 11 0 0 0 ∷ nd 2 20 14 2 ∷ nd 3 60 0 0
        ∷ nd 39 0 0 2 ∷ nd 35 0 0 3 ∷ nd 26 10 0 2 ∷ nd 15 123 0 0 ∷ nd 15 123 0 0 ∷ nd 39 0 0 4 ∷ nd 31 110 0 1 ∷ nd 10 0 19 0
        ∷ nd 32 0 0 1 ∷ nd 24 0 0 2 ∷ nd 15 114 0 0 ∷ nd 13 8612 0 0 ∷ nd 30 0 0 2 ∷ nd 23 0 0 1 ∷ nd 10 0 11 0 ∷ nd 14 4 0 0
        ∷ nd 30 0 0 2 ∷ nd 15 41 0 0 ∷ nd 16 0 9 0 ∷ nd 39 0 0 0 ∷ nd 32 0 0 1 ∷ nd 13 64869 0 0 ∷ nd 1 41 0 1 ∷ nd 16 0 9 1
        ∷ nd 14 3 0 0 ∷ nd 1 42 0 1 ∷ nd 21 0 5 1 ∷ nd 22 0 0 1 ∷ nd 14 4 0 0 ∷ []);
  };
  declarations = (global 40 (struct_literal 4 (init 1 (literal falsity) (init 2 (literal falsity) (init 10 (struct_literal 4 (init
      10 (null 10) (init 2 (literal falsity) (init 1 (literal truth) no_init)))) no_init)))) ∷ function 20 14 (60 ∷ []) (block (then
      (if_else (binary 10 (name 123) (name 123)) (block (then (var 110 (null 19)) (then (return_value (call (name 114) (also
      (literal (integer 8612)) none))) (then (assign (field_target 0 (null 11)) (literal (text 4))) (then (assign (name_target 41)
      (array_literal 9 none)) empty))))) (block empty)) (then (return_value (literal (integer 64869))) empty))) ∷ global 41
      (array_literal 9 (also (literal (text 3)) none)) ∷ global 42 (struct_literal 5 (init 0 (literal (text 4)) no_init)) ∷ []);
}

pub refused_14_14 : Answers program_refused_14_14 14 12 24 32 (65535 ∷ 65535 ∷ 65535 ∷ 65535 ∷ 65535 ∷ 65535 ∷ 65535 ∷ 65535
    ∷ 65535 ∷ 65535 ∷ 65535 ∷ 65535 ∷ 65535 ∷ 65535 ∷ 65535 ∷ 65535 ∷ 65535 ∷ 65535 ∷ 65535 ∷ 65535 ∷ 65535 ∷ 65535 ∷ 65535
    ∷ 65535 ∷ 65535 ∷ 65535 ∷ 65535 ∷ 65535 ∷ 65535 ∷ 65535 ∷ 65535 ∷ 65535 ∷ 65535 ∷ 65535 ∷ 65535 ∷ 65535 ∷ 65535 ∷ 65535
    ∷ 65535 ∷ 65535 ∷ 65535 ∷ 65535 ∷ 65535 ∷ 65535 ∷ 65535 ∷ 65535 ∷ 65535 ∷ 65535 ∷ 65535 ∷ 65535 ∷ 65535 ∷ 65535 ∷ 65535
    ∷ 65535 ∷ 65535 ∷ 65535 ∷ 65535 ∷ 65535 ∷ 65535 ∷ 65535 ∷ 65535 ∷ 65535 ∷ 65535 ∷ 65535 ∷ 65535 ∷ 65535 ∷ 65535 ∷ 65535
    ∷ 65535 ∷ 65535 ∷ 65535 ∷ 65535 ∷ 65535 ∷ 65535 ∷ 65535 ∷ 65535 ∷ 65535 ∷ 65535 ∷ 65535 ∷ 65535 ∷ 65535 ∷ 65535 ∷ 65535
    ∷ 65535 ∷ 65535 ∷ 65535 ∷ 65535 ∷ 65535 ∷ 65535 ∷ 65535 ∷ [])
unfolding program_refused_14_14 computed is_file
refused_14_14 = record { file = is-file widest program_refused_14_14 refl; answer = refl }

unfoldable pub program_refused_15_1 : Program
program_refused_15_1 = record {
  tables = record {
    types = (ty 0 0 0 0 ∷ ty 1 0 0 0 ∷ ty 2 0 0 0 ∷ ty 3 0 0 0 ∷ ty 7 2 0 0 ∷ ty 6 3 0 1 ∷ ty 6 3 1 1 ∷ ty 6 3 2 2 ∷ []);
    list = (4 ∷ 2 ∷ 5 ∷ 6 ∷ []);
    fields = ([]);
    structs = ([]);
    built_ins = ([]);
    nodes = (nd 2 10 7 3 ∷ nd 3 20 0 0 ∷ nd 3 21 0 0 ∷ nd 39 0 0 2 ∷ nd 30 0 0 2 ∷ nd 15 10 0 0 ∷ nd 26 10 0 2 ∷ nd 15 20 0 0
        ∷ nd 15 20 0 0 ∷ nd 33 0 0 0 ∷ []);
  };
  declarations = (function 10 7 (20 ∷ 21 ∷ []) (block (then (assign (name_target 10) (binary 10 (name 20) (name 20))) (then
      return_void empty))) ∷ []);
}

pub refused_15_1 : Answers program_refused_15_1 15 1 4 0 (65535 ∷ 65535 ∷ 65535 ∷ 65535 ∷ 65535 ∷ 65535 ∷ 65535 ∷ 65535 ∷ 65535
    ∷ 65535 ∷ 65535 ∷ 65535 ∷ 65535 ∷ 65535 ∷ 65535 ∷ 65535 ∷ 65535 ∷ 65535 ∷ 65535 ∷ 65535 ∷ [])
unfolding program_refused_15_1 computed is_file
refused_15_1 = record { file = is-file widest program_refused_15_1 refl; answer = refl }

unfoldable pub program_refused_15_2 : Program
program_refused_15_2 = record {
  tables = record {
    types = (ty 0 0 0 0 ∷ ty 1 0 0 0 ∷ ty 2 0 0 0 ∷ ty 3 0 0 0 ∷ ty 7 2 0 0 ∷ ty 6 3 0 1 ∷ ty 6 3 1 1 ∷ ty 6 3 2 2 ∷ []);
    list = (4 ∷ 2 ∷ 5 ∷ 6 ∷ []);
    fields = ([]);
    structs = ([]);
    built_ins = ([]);
    nodes = (nd 2 10 7 3 ∷ nd 3 20 0 0 ∷ nd 3 21 0 0 ∷ nd 39 0 0 3 ∷ nd 30 0 0 2 ∷ nd 15 21 0 0 ∷ nd 15 20 0 0 ∷ nd 30 0 0 2
        ∷ nd 15 10 0 0 ∷ nd 15 21 0 0 ∷ nd 33 0 0 0 ∷ []);
  };
  declarations = (function 10 7 (20 ∷ 21 ∷ []) (block (then (assign (name_target 21) (name 20)) (then (assign (name_target 10) (name
      21)) (then return_void empty)))) ∷ []);
}

pub refused_15_2 : Answers program_refused_15_2 15 1 7 4 (65535 ∷ 65535 ∷ 65535 ∷ 65535 ∷ 65535 ∷ 65535 ∷ 65535 ∷ 65535 ∷ 65535
    ∷ 65535 ∷ 65535 ∷ 65535 ∷ 65535 ∷ 65535 ∷ 65535 ∷ 65535 ∷ 65535 ∷ 65535 ∷ 65535 ∷ 65535 ∷ 65535 ∷ 65535 ∷ [])
unfolding program_refused_15_2 computed is_file
refused_15_2 = record { file = is-file widest program_refused_15_2 refl; answer = refl }

unfoldable pub program_refused_16_1 : Program
program_refused_16_1 = record {
  tables = record {
    types = (ty 0 0 0 0 ∷ ty 1 0 0 0 ∷ ty 2 0 0 0 ∷ ty 3 0 0 0 ∷ ty 4 1 0 0 ∷ ty 4 2 0 0 ∷ ty 4 3 0 0 ∷ ty 7 4 0 0 ∷ ty 7 5 0 0
        ∷ ty 5 4 0 0 ∷ ty 5 5 0 0 ∷ ty 5 0 0 0 ∷ ty 6 3 0 0 ∷ ty 6 0 0 0 ∷ ty 6 0 0 1 ∷ ty 4 9 0 0 ∷ ty 7 15 0 0 ∷ ty 5 15 0 0
        ∷ ty 6 3 1 1 ∷ ty 7 2 0 0 ∷ ty 5 2 0 0 ∷ ty 5 0 0 0 ∷ ty 4 1 0 0 ∷ ty 5 7 0 0 ∷ ty 7 11 0 0 ∷ ty 6 5 2 1 ∷ ty 6 4 3 1
        ∷ ty 5 1 0 0 ∷ ty 6 3 4 2 ∷ ty 5 11 0 0 ∷ ty 7 13 0 0 ∷ ty 6 15 6 0 ∷ ty 6 17 6 1 ∷ ty 7 17 0 0 ∷ ty 6 21 7 0
        ∷ ty 6 21 7 1 ∷ ty 6 11 8 1 ∷ ty 6 3 9 1 ∷ ty 6 3 10 2 ∷ ty 6 3 12 2 ∷ []);
    list = (0 ∷ 15 ∷ 4 ∷ 5 ∷ 0 ∷ 1 ∷ 17 ∷ 21 ∷ 22 ∷ 7 ∷ 0 ∷ 0 ∷ 4 ∷ 4 ∷ []);
    fields = ([]);
    structs = ([]);
    built_ins = ([]);
    nodes = (nd 2 10 12 1 ∷ nd 39 0 0 2 ∷ nd 31 20 0 1 ∷ nd 17 0 20 1 ∷ nd 13 3 0 0 ∷ nd 33 0 0 0 ∷ []);
  };
  declarations = (function 10 12 ([]) (block (then (var 20 (default_array 20 (literal (integer 3)))) (then return_void empty)))
      ∷ []);
}

pub refused_16_1 : Answers program_refused_16_1 16 1 3 0 (65535 ∷ 65535 ∷ 65535 ∷ 65535 ∷ 65535 ∷ 65535 ∷ 65535 ∷ 65535 ∷ 65535
    ∷ 65535 ∷ 65535 ∷ 65535 ∷ [])
unfolding program_refused_16_1 computed is_file
refused_16_1 = record { file = is-file widest program_refused_16_1 refl; answer = refl }

unfoldable pub program_refused_16_2 : Program
program_refused_16_2 = record {
  tables = record {
    types = (ty 0 0 0 0 ∷ ty 1 0 0 0 ∷ ty 2 0 0 0 ∷ ty 3 0 0 0 ∷ ty 5 2 0 0 ∷ ty 7 2 0 0 ∷ ty 6 3 0 1 ∷ ty 6 3 1 1 ∷ ty 6 3 2 2
        ∷ []);
    list = (5 ∷ 2 ∷ 6 ∷ 7 ∷ []);
    fields = ([]);
    structs = ([]);
    built_ins = ([]);
    nodes = (nd 2 10 8 3 ∷ nd 3 20 0 0 ∷ nd 3 21 0 0 ∷ nd 39 0 0 3 ∷ nd 30 0 0 2 ∷ nd 15 21 0 0 ∷ nd 15 20 0 0 ∷ nd 31 31 0 1
        ∷ nd 17 0 4 1 ∷ nd 13 1 0 0 ∷ nd 33 0 0 0 ∷ []);
  };
  declarations = (function 10 8 (20 ∷ 21 ∷ []) (block (then (assign (name_target 21) (name 20)) (then (var 31 (default_array 4
      (literal (integer 1)))) (then return_void empty)))) ∷ []);
}

pub refused_16_2 : Answers program_refused_16_2 16 1 8 4 (65535 ∷ 65535 ∷ 65535 ∷ 65535 ∷ 65535 ∷ 65535 ∷ 65535 ∷ 65535 ∷ 65535
    ∷ 65535 ∷ 65535 ∷ 65535 ∷ 65535 ∷ 65535 ∷ 65535 ∷ 65535 ∷ 65535 ∷ 65535 ∷ 65535 ∷ 65535 ∷ 65535 ∷ 65535 ∷ [])
unfolding program_refused_16_2 computed is_file
refused_16_2 = record { file = is-file widest program_refused_16_2 refl; answer = refl }
