-- Small programs with the tallies of the independent peer, computed: the accepted programs of typing_rules' Cases, and the peer's cases by
-- hand on equal types, on declarations and on nodes that are no expressions. One theorem for each: the program is that of a file, the
-- definition of the check accepts it, and the definitions of the tallies give the peer's numbers (`tests/rules/cases.py` writes this file).
-- Assumes nothing.
use mathlib.Core.Path.{◌≡◌, refl}
use mathlib.Core.List.{List, [], ◌∷◌}
use Prim.Native.Nat.{ℕ}
use Rattle.oat.specs.Basics.{sum_below, tabulate}
use Rattle.oat.specs.Tables.{file_of}
use Rattle.oat.specs.Syntax.{integer, text, null, literal, name, array_literal, struct_literal, call, none, also, no_init, init, no_var, no_condition, var, return_value, return_void, call_stmt, for, no_step, block, empty, then, global, function}
use Rattle.oat.specs.Nodes.{is_expression_kind, is_expression}
use Rattle.oat.specs.ProgramFile.{widest, Program, IsFile}
use Rattle.type_index.specs.Index.{first_below}
use Rattle.typing_rules.specs.Check.{check_of}
use Rattle.typing_rules.proofs.LawsComputed.{computed, is_file, is-file}
use Rattle.typing_rules.proofs.Cases.{ty, fd, st, bi, nd, program_accepted_1, program_accepted_2, program_accepted_3, program_accepted_4, program_accepted_5, program_accepted_6, program_accepted_7, program_accepted_8, program_accepted_9, program_accepted_10, program_accepted_11, program_accepted_12, program_accepted_13, program_accepted_14}
use Rattle.tallies.specs.Tallies.{count_below, expression_count, by_type, by_declaration}

-- the program is that of a file, the check accepts it after these steps, and these are the tallies of the rows as the check leaves them, and
-- the count of expressions
pub record Tallies (p : Program) (steps : ℕ) (types declarations : List ℕ) (expressions : ℕ) : Type 0 where
  pub file : IsFile widest (file_of p.tables) p
  pub number : (check_of p).number ≡ 0
  pub step : (check_of p).step ≡ steps
  pub place : (check_of p).place ≡ 0
  pub by-type : by_type p.tables (check_of p).rows ≡ types
  pub by-declaration : by_declaration p.tables 0 p.declarations ≡ declarations
  pub count : expression_count p.tables ≡ expressions

-- to unfold this is to unfold all that a theorem computes with
tallied : Program → List ℕ
unfolding computed is_file by_type by_declaration count_below sum_below tabulate first_below is_expression is_expression_kind
tallied p = by_type p.tables (check_of p).rows

pub accepted_1 : Tallies program_accepted_1 2 (0 ∷ 1 ∷ 0 ∷ 0 ∷ 2 ∷ 0 ∷ []) (3 ∷ []) 3
unfolding program_accepted_1 tallied
accepted_1 = record { file = is-file widest program_accepted_1 refl; number = refl; step = refl; place = refl; by-type = refl; by-declaration = refl; count = refl }

pub accepted_2 : Tallies program_accepted_2 2 (1 ∷ 4 ∷ 0 ∷ 0 ∷ 0 ∷ 0 ∷ 0 ∷ 0 ∷ 0 ∷ 0 ∷ 0 ∷ 0 ∷ 0 ∷ 0 ∷ 0 ∷ 0 ∷ 0 ∷ 0 ∷ []) (5
    ∷ []) 5
unfolding program_accepted_2 tallied
accepted_2 = record { file = is-file widest program_accepted_2 refl; number = refl; step = refl; place = refl; by-type = refl; by-declaration = refl; count = refl }

pub accepted_3 : Tallies program_accepted_3 2 (7 ∷ 3 ∷ 0 ∷ 0 ∷ 3 ∷ 0 ∷ 1 ∷ 0 ∷ 0 ∷ []) (14 ∷ []) 14
unfolding program_accepted_3 tallied
accepted_3 = record { file = is-file widest program_accepted_3 refl; number = refl; step = refl; place = refl; by-type = refl; by-declaration = refl; count = refl }

pub accepted_4 : Tallies program_accepted_4 2 (2 ∷ 0 ∷ 0 ∷ 0 ∷ 0 ∷ 0 ∷ 0 ∷ 0 ∷ 0 ∷ 0 ∷ 0 ∷ 0 ∷ 0 ∷ 0 ∷ 0 ∷ 0 ∷ 0 ∷ 0 ∷ 0 ∷ 0 ∷ 0
    ∷ 0 ∷ 0 ∷ 0 ∷ 0 ∷ 0 ∷ 0 ∷ 0 ∷ 0 ∷ 0 ∷ 0 ∷ 0 ∷ 0 ∷ 0 ∷ 0 ∷ 0 ∷ 0 ∷ 0 ∷ 0 ∷ 0 ∷ []) (2 ∷ []) 2
unfolding program_accepted_4 tallied
accepted_4 = record { file = is-file widest program_accepted_4 refl; number = refl; step = refl; place = refl; by-type = refl; by-declaration = refl; count = refl }

pub accepted_5 : Tallies program_accepted_5 2 (3 ∷ 0 ∷ 0 ∷ 0 ∷ 0 ∷ 0 ∷ 0 ∷ 0 ∷ 0 ∷ 0 ∷ 0 ∷ 0 ∷ 0 ∷ 0 ∷ 0 ∷ 0 ∷ 0 ∷ 0 ∷ 0 ∷ 0 ∷ 0
    ∷ 0 ∷ 0 ∷ 0 ∷ 0 ∷ 0 ∷ 0 ∷ 0 ∷ 0 ∷ 0 ∷ 0 ∷ 0 ∷ 0 ∷ 0 ∷ 0 ∷ 0 ∷ 0 ∷ 0 ∷ 0 ∷ 0 ∷ []) (3 ∷ []) 3
unfolding program_accepted_5 tallied
accepted_5 = record { file = is-file widest program_accepted_5 refl; number = refl; step = refl; place = refl; by-type = refl; by-declaration = refl; count = refl }

pub accepted_6 : Tallies program_accepted_6 2 (3 ∷ 0 ∷ 0 ∷ 0 ∷ 0 ∷ 0 ∷ 0 ∷ 0 ∷ 0 ∷ 0 ∷ 0 ∷ 0 ∷ 0 ∷ 0 ∷ 0 ∷ 0 ∷ 0 ∷ 0 ∷ 0 ∷ 0 ∷ 0
    ∷ 0 ∷ 0 ∷ 0 ∷ 0 ∷ 0 ∷ 0 ∷ 0 ∷ 0 ∷ 0 ∷ 0 ∷ 0 ∷ 0 ∷ 0 ∷ 0 ∷ 0 ∷ 0 ∷ 0 ∷ 0 ∷ 0 ∷ []) (3 ∷ []) 3
unfolding program_accepted_6 tallied
accepted_6 = record { file = is-file widest program_accepted_6 refl; number = refl; step = refl; place = refl; by-type = refl; by-declaration = refl; count = refl }

pub accepted_7 : Tallies program_accepted_7 2 (0 ∷ 1 ∷ 0 ∷ 0 ∷ 0 ∷ 0 ∷ 0 ∷ 0 ∷ 0 ∷ 0 ∷ 0 ∷ 0 ∷ 0 ∷ 0 ∷ 0 ∷ 0 ∷ 0 ∷ 0 ∷ 0 ∷ 0 ∷ 0
    ∷ 0 ∷ 0 ∷ 0 ∷ 0 ∷ 0 ∷ 0 ∷ 0 ∷ 0 ∷ 0 ∷ 0 ∷ 0 ∷ 0 ∷ 0 ∷ 0 ∷ 0 ∷ 0 ∷ 0 ∷ 0 ∷ 0 ∷ []) (1 ∷ []) 1
unfolding program_accepted_7 tallied
accepted_7 = record { file = is-file widest program_accepted_7 refl; number = refl; step = refl; place = refl; by-type = refl; by-declaration = refl; count = refl }

pub accepted_8 : Tallies program_accepted_8 4 (0 ∷ 0 ∷ 0 ∷ 0 ∷ 1 ∷ 0 ∷ 0 ∷ 0 ∷ 0 ∷ 0 ∷ 0 ∷ 2 ∷ 0 ∷ 0 ∷ 0 ∷ 0 ∷ 0 ∷ 0 ∷ 0 ∷ 0 ∷ 0
    ∷ 0 ∷ 0 ∷ 0 ∷ 0 ∷ 0 ∷ 0 ∷ 0 ∷ 0 ∷ 0 ∷ 0 ∷ 0 ∷ 0 ∷ 0 ∷ 0 ∷ 0 ∷ 0 ∷ 0 ∷ 0 ∷ 0 ∷ []) (3 ∷ []) 3
unfolding program_accepted_8 tallied
accepted_8 = record { file = is-file widest program_accepted_8 refl; number = refl; step = refl; place = refl; by-type = refl; by-declaration = refl; count = refl }

pub accepted_9 : Tallies program_accepted_9 5 (4 ∷ 6 ∷ 0 ∷ 0 ∷ 1 ∷ 0 ∷ 0 ∷ 0 ∷ 0 ∷ []) (1 ∷ 1 ∷ 9 ∷ []) 11
unfolding program_accepted_9 tallied
accepted_9 = record { file = is-file widest program_accepted_9 refl; number = refl; step = refl; place = refl; by-type = refl; by-declaration = refl; count = refl }

pub accepted_10 : Tallies program_accepted_10 7 (8 ∷ 2 ∷ 6 ∷ 0 ∷ 0 ∷ 0 ∷ 2 ∷ 1 ∷ 3 ∷ 4 ∷ 0 ∷ 0 ∷ 0 ∷ 0 ∷ []) (1 ∷ 25 ∷ []) 26
unfolding program_accepted_10 tallied
accepted_10 = record { file = is-file widest program_accepted_10 refl; number = refl; step = refl; place = refl; by-type = refl; by-declaration = refl; count = refl }

pub accepted_11 : Tallies program_accepted_11 7 (21 ∷ 1 ∷ 2 ∷ 0 ∷ 0 ∷ 3 ∷ 0 ∷ 1 ∷ 1 ∷ 6 ∷ 0 ∷ 0 ∷ 0 ∷ 0 ∷ []) (1 ∷ 34 ∷ []) 35
unfolding program_accepted_11 tallied
accepted_11 = record { file = is-file widest program_accepted_11 refl; number = refl; step = refl; place = refl; by-type = refl; by-declaration = refl; count = refl }

pub accepted_12 : Tallies program_accepted_12 10 (5 ∷ 6 ∷ 2 ∷ 0 ∷ 0 ∷ 0 ∷ 0 ∷ 0 ∷ 0 ∷ 4 ∷ 0 ∷ 0 ∷ 0 ∷ 9 ∷ 1 ∷ 0 ∷ 6 ∷ 0 ∷ 0 ∷ 2
    ∷ 1 ∷ 0 ∷ 0 ∷ 0 ∷ 0 ∷ 0 ∷ 0 ∷ 0 ∷ 0 ∷ []) (35 ∷ 1 ∷ []) 36
unfolding program_accepted_12 tallied
accepted_12 = record { file = is-file widest program_accepted_12 refl; number = refl; step = refl; place = refl; by-type = refl; by-declaration = refl; count = refl }

pub accepted_13 : Tallies program_accepted_13 12 (16 ∷ 6 ∷ 0 ∷ 0 ∷ 1 ∷ 0 ∷ 0 ∷ 3 ∷ 0 ∷ 0 ∷ 3 ∷ 0 ∷ 3 ∷ 0 ∷ 0 ∷ 2 ∷ 2 ∷ 0 ∷ 1 ∷ 0
    ∷ 0 ∷ 0 ∷ 0 ∷ 0 ∷ []) (37 ∷ []) 37
unfolding program_accepted_13 tallied
accepted_13 = record { file = is-file widest program_accepted_13 refl; number = refl; step = refl; place = refl; by-type = refl; by-declaration = refl; count = refl }

pub accepted_14 : Tallies program_accepted_14 18 (25 ∷ 6 ∷ 5 ∷ 0 ∷ 1 ∷ 1 ∷ 2 ∷ 0 ∷ 0 ∷ 0 ∷ 2 ∷ 0 ∷ 0 ∷ 0 ∷ 2 ∷ 6 ∷ 0 ∷ 0 ∷ 0 ∷ 2
    ∷ 0 ∷ 1 ∷ 1 ∷ 0 ∷ 1 ∷ 3 ∷ 0 ∷ 0 ∷ 0 ∷ 0 ∷ []) (3 ∷ 55 ∷ 0 ∷ []) 58
unfolding program_accepted_14 tallied
accepted_14 = record { file = is-file widest program_accepted_14 refl; number = refl; step = refl; place = refl; by-type = refl; by-declaration = refl; count = refl }

-- nodes of kind 40
unfoldable pub program_by_hand_1 : Program
program_by_hand_1 = record {
  tables = record {
    types = (ty 0 0 0 0 ∷ ty 1 0 0 0 ∷ ty 2 0 0 0 ∷ ty 3 0 0 0 ∷ ty 4 1 0 0 ∷ ty 7 4 0 0 ∷ ty 5 0 0 0 ∷ ty 6 3 0 0 ∷ ty 6 0 0 1
        ∷ ty 7 2 0 0 ∷ ty 6 3 1 2 ∷ ty 6 0 3 0 ∷ ty 5 1 0 0 ∷ ty 5 6 0 0 ∷ ty 6 11 3 0 ∷ []);
    list = (0 ∷ 0 ∷ 1 ∷ []);
    fields = (fd 1 0 ∷ fd 2 1 ∷ []);
    structs = (st 1 0 2 ∷ []);
    built_ins = ([]);
    nodes = (nd 2 10 7 1 ∷ nd 39 0 0 2 ∷ nd 37 0 0 3 ∷ nd 40 0 0 0 ∷ nd 40 0 0 0 ∷ nd 39 0 0 0 ∷ nd 33 0 0 0 ∷ []);
  };
  declarations = (function 10 7 ([]) (block (then (for no_var no_condition no_step (block empty)) (then return_void empty))) ∷ []);
}

pub by_hand_1 : Tallies program_by_hand_1 4 (0 ∷ 0 ∷ 0 ∷ 0 ∷ 0 ∷ 0 ∷ 0 ∷ 0 ∷ 0 ∷ 0 ∷ 0 ∷ 0 ∷ 0 ∷ 0 ∷ 0 ∷ []) (0 ∷ []) 0
unfolding program_by_hand_1 tallied
by_hand_1 = record { file = is-file widest program_by_hand_1 refl; number = refl; step = refl; place = refl; by-type = refl; by-declaration = refl; count = refl }

-- equal arrays through elements, both in rows; equal arrays, both in rows
unfoldable pub program_by_hand_2 : Program
program_by_hand_2 = record {
  tables = record {
    types = (ty 0 0 0 0 ∷ ty 1 0 0 0 ∷ ty 2 0 0 0 ∷ ty 3 0 0 0 ∷ ty 5 0 0 0 ∷ ty 5 0 0 0 ∷ ty 5 4 0 0 ∷ ty 5 5 0 0 ∷ []);
    list = ([]);
    fields = ([]);
    structs = ([]);
    built_ins = ([]);
    nodes = (nd 1 11 0 1 ∷ nd 16 0 7 1 ∷ nd 16 0 4 0 ∷ nd 1 12 0 1 ∷ nd 16 0 6 1 ∷ nd 16 0 5 0 ∷ []);
  };
  declarations = (global 11 (array_literal 7 (also (array_literal 4 none) none)) ∷ global 12 (array_literal 6 (also (array_literal 5
      none) none)) ∷ []);
}

pub by_hand_2 : Tallies program_by_hand_2 2 (0 ∷ 0 ∷ 0 ∷ 0 ∷ 2 ∷ 0 ∷ 2 ∷ 0 ∷ []) (2 ∷ 2 ∷ []) 4
unfolding program_by_hand_2 tallied
by_hand_2 = record { file = is-file widest program_by_hand_2 refl; number = refl; step = refl; place = refl; by-type = refl; by-declaration = refl; count = refl }

-- equal arrays through elements, the lowest number in no row; equal nullables through what they refer to, both in rows; equal nullables,
-- the lowest number in no row
unfoldable pub program_by_hand_3 : Program
program_by_hand_3 = record {
  tables = record {
    types = (ty 0 0 0 0 ∷ ty 1 0 0 0 ∷ ty 2 0 0 0 ∷ ty 3 0 0 0 ∷ ty 7 2 0 0 ∷ ty 7 2 0 0 ∷ ty 5 5 0 0 ∷ ty 5 4 0 0 ∷ ty 7 7 0 0
        ∷ ty 7 6 0 0 ∷ []);
    list = ([]);
    fields = ([]);
    structs = ([]);
    built_ins = ([]);
    nodes = (nd 1 11 0 1 ∷ nd 10 0 8 0 ∷ nd 1 12 0 1 ∷ nd 10 0 9 0 ∷ nd 1 22 0 1 ∷ nd 16 0 7 2 ∷ nd 10 0 5 0 ∷ nd 14 1 0 0 ∷ []);
  };
  declarations = (global 11 (null 8) ∷ global 12 (null 9) ∷ global 22 (array_literal 7 (also (null 5) (also (literal (text 1))
      none))) ∷ []);
}

pub by_hand_3 : Tallies program_by_hand_3 3 (0 ∷ 0 ∷ 1 ∷ 0 ∷ 1 ∷ 0 ∷ 1 ∷ 0 ∷ 2 ∷ 0 ∷ []) (1 ∷ 1 ∷ 3 ∷ []) 5
unfolding program_by_hand_3 tallied
by_hand_3 = record { file = is-file widest program_by_hand_3 refl; number = refl; step = refl; place = refl; by-type = refl; by-declaration = refl; count = refl }

-- equal functions, both in rows
unfoldable pub program_by_hand_4 : Program
program_by_hand_4 = record {
  tables = record {
    types = (ty 0 0 0 0 ∷ ty 1 0 0 0 ∷ ty 2 0 0 0 ∷ ty 3 0 0 0 ∷ ty 6 3 0 0 ∷ ty 6 3 0 0 ∷ []);
    list = ([]);
    fields = ([]);
    structs = ([]);
    built_ins = ([]);
    nodes = (nd 2 10 4 1 ∷ nd 39 0 0 1 ∷ nd 33 0 0 0 ∷ nd 2 11 5 1 ∷ nd 39 0 0 1 ∷ nd 33 0 0 0 ∷ nd 1 12 0 1 ∷ nd 15 10 0 0
        ∷ nd 1 22 0 1 ∷ nd 15 11 0 0 ∷ []);
  };
  declarations = (function 10 4 ([]) (block (then return_void empty)) ∷ function 11 5 ([]) (block (then return_void empty)) ∷ global
      12 (name 10) ∷ global 22 (name 11) ∷ []);
}

pub by_hand_4 : Tallies program_by_hand_4 6 (0 ∷ 0 ∷ 0 ∷ 0 ∷ 2 ∷ 0 ∷ []) (0 ∷ 0 ∷ 1 ∷ 1 ∷ []) 2
unfolding program_by_hand_4 tallied
by_hand_4 = record { file = is-file widest program_by_hand_4 refl; number = refl; step = refl; place = refl; by-type = refl; by-declaration = refl; count = refl }

-- equal functions through parameters, both in rows; nodes of kind 3
unfoldable pub program_by_hand_5 : Program
program_by_hand_5 = record {
  tables = record {
    types = (ty 0 0 0 0 ∷ ty 1 0 0 0 ∷ ty 2 0 0 0 ∷ ty 3 0 0 0 ∷ ty 5 0 0 0 ∷ ty 5 0 0 0 ∷ ty 6 3 0 1 ∷ ty 6 3 1 1 ∷ []);
    list = (4 ∷ 5 ∷ []);
    fields = ([]);
    structs = ([]);
    built_ins = ([]);
    nodes = (nd 2 10 6 2 ∷ nd 3 20 0 0 ∷ nd 39 0 0 1 ∷ nd 33 0 0 0 ∷ nd 2 11 7 2 ∷ nd 3 20 0 0 ∷ nd 39 0 0 1 ∷ nd 33 0 0 0
        ∷ nd 2 12 7 2 ∷ nd 3 20 0 0 ∷ nd 39 0 0 3 ∷ nd 34 0 0 2 ∷ nd 15 10 0 0 ∷ nd 15 20 0 0 ∷ nd 34 0 0 2 ∷ nd 15 11 0 0
        ∷ nd 15 20 0 0 ∷ nd 33 0 0 0 ∷ []);
  };
  declarations = (function 10 6 (20 ∷ []) (block (then return_void empty)) ∷ function 11 7 (20 ∷ []) (block (then return_void
      empty)) ∷ function 12 7 (20 ∷ []) (block (then (call_stmt (name 10) (also (name 20) none)) (then (call_stmt (name 11) (also
      (name 20) none)) (then return_void empty)))) ∷ []);
}

pub by_hand_5 : Tallies program_by_hand_5 6 (0 ∷ 0 ∷ 0 ∷ 0 ∷ 2 ∷ 0 ∷ 2 ∷ 0 ∷ []) (0 ∷ 0 ∷ 4 ∷ []) 4
unfolding program_by_hand_5 tallied
by_hand_5 = record { file = is-file widest program_by_hand_5 refl; number = refl; step = refl; place = refl; by-type = refl; by-declaration = refl; count = refl }

-- equal functions through results, both in rows
unfoldable pub program_by_hand_6 : Program
program_by_hand_6 = record {
  tables = record {
    types = (ty 0 0 0 0 ∷ ty 1 0 0 0 ∷ ty 2 0 0 0 ∷ ty 3 0 0 0 ∷ ty 5 0 0 0 ∷ ty 5 0 0 0 ∷ ty 6 5 0 0 ∷ ty 6 4 0 0 ∷ []);
    list = ([]);
    fields = ([]);
    structs = ([]);
    built_ins = ([]);
    nodes = (nd 2 10 6 1 ∷ nd 39 0 0 1 ∷ nd 32 0 0 1 ∷ nd 16 0 4 0 ∷ nd 2 11 7 1 ∷ nd 39 0 0 1 ∷ nd 32 0 0 1 ∷ nd 24 0 0 1
        ∷ nd 15 10 0 0 ∷ nd 2 12 7 1 ∷ nd 39 0 0 1 ∷ nd 32 0 0 1 ∷ nd 24 0 0 1 ∷ nd 15 11 0 0 ∷ []);
  };
  declarations = (function 10 6 ([]) (block (then (return_value (array_literal 4 none)) empty)) ∷ function 11 7 ([]) (block (then
      (return_value (call (name 10) none)) empty)) ∷ function 12 7 ([]) (block (then (return_value (call (name 11) none)) empty))
      ∷ []);
}

pub by_hand_6 : Tallies program_by_hand_6 6 (0 ∷ 0 ∷ 0 ∷ 0 ∷ 3 ∷ 0 ∷ 2 ∷ 0 ∷ []) (1 ∷ 2 ∷ 2 ∷ []) 5
unfolding program_by_hand_6 tallied
by_hand_6 = record { file = is-file widest program_by_hand_6 refl; number = refl; step = refl; place = refl; by-type = refl; by-declaration = refl; count = refl }

-- equal functions through results and parameters, the lowest number in no row; nodes of kind 3
unfoldable pub program_by_hand_7 : Program
program_by_hand_7 = record {
  tables = record {
    types = (ty 0 0 0 0 ∷ ty 1 0 0 0 ∷ ty 2 0 0 0 ∷ ty 3 0 0 0 ∷ ty 6 0 0 1 ∷ ty 6 0 1 1 ∷ ty 6 4 2 1 ∷ ty 6 5 3 1 ∷ []);
    list = (0 ∷ 0 ∷ 5 ∷ 4 ∷ []);
    fields = ([]);
    structs = ([]);
    built_ins = ([]);
    nodes = (nd 2 10 4 2 ∷ nd 3 20 0 0 ∷ nd 39 0 0 1 ∷ nd 32 0 0 1 ∷ nd 15 20 0 0 ∷ nd 2 11 7 2 ∷ nd 3 20 0 0 ∷ nd 39 0 0 1
        ∷ nd 32 0 0 1 ∷ nd 15 20 0 0 ∷ nd 2 12 6 2 ∷ nd 3 20 0 0 ∷ nd 39 0 0 1 ∷ nd 32 0 0 1 ∷ nd 24 0 0 2 ∷ nd 15 11 0 0
        ∷ nd 15 20 0 0 ∷ []);
  };
  declarations = (function 10 4 (20 ∷ []) (block (then (return_value (name 20)) empty)) ∷ function 11 7 (20 ∷ []) (block (then
      (return_value (name 20)) empty)) ∷ function 12 6 (20 ∷ []) (block (then (return_value (call (name 11) (also (name 20) none)))
      empty)) ∷ []);
}

pub by_hand_7 : Tallies program_by_hand_7 6 (1 ∷ 0 ∷ 0 ∷ 0 ∷ 3 ∷ 0 ∷ 1 ∷ 0 ∷ []) (1 ∷ 1 ∷ 3 ∷ []) 5
unfolding program_by_hand_7 tallied
by_hand_7 = record { file = is-file widest program_by_hand_7 refl; number = refl; step = refl; place = refl; by-type = refl; by-declaration = refl; count = refl }

-- equal functions through parameters, the lowest number in no row
unfoldable pub program_by_hand_8 : Program
program_by_hand_8 = record {
  tables = record {
    types = (ty 0 0 0 0 ∷ ty 1 0 0 0 ∷ ty 2 0 0 0 ∷ ty 3 0 0 0 ∷ ty 5 0 0 0 ∷ ty 5 0 0 0 ∷ ty 6 3 0 3 ∷ ty 6 3 3 3 ∷ []);
    list = (1 ∷ 2 ∷ 4 ∷ 1 ∷ 2 ∷ 5 ∷ []);
    fields = ([]);
    structs = ([]);
    built_ins = (bi 50 7 ∷ []);
    nodes = (nd 1 11 0 1 ∷ nd 15 50 0 0 ∷ []);
  };
  declarations = (global 11 (name 50) ∷ []);
}

pub by_hand_8 : Tallies program_by_hand_8 2 (0 ∷ 0 ∷ 0 ∷ 0 ∷ 0 ∷ 0 ∷ 1 ∷ 0 ∷ []) (1 ∷ []) 1
unfolding program_by_hand_8 tallied
by_hand_8 = record { file = is-file widest program_by_hand_8 refl; number = refl; step = refl; place = refl; by-type = refl; by-declaration = refl; count = refl }

-- equal structs, both in rows; nodes of kind 22
unfoldable pub program_by_hand_9 : Program
program_by_hand_9 = record {
  tables = record {
    types = (ty 0 0 0 0 ∷ ty 1 0 0 0 ∷ ty 2 0 0 0 ∷ ty 3 0 0 0 ∷ ty 4 1 0 0 ∷ ty 4 1 0 0 ∷ []);
    list = ([]);
    fields = (fd 1 0 ∷ []);
    structs = (st 1 0 1 ∷ []);
    built_ins = ([]);
    nodes = (nd 1 11 0 1 ∷ nd 21 0 5 1 ∷ nd 22 1 0 1 ∷ nd 13 1 0 0 ∷ nd 1 12 0 1 ∷ nd 21 0 4 1 ∷ nd 22 1 0 1 ∷ nd 13 1 0 0 ∷ []);
  };
  declarations = (global 11 (struct_literal 5 (init 1 (literal (integer 1)) no_init)) ∷ global 12 (struct_literal 4 (init 1 (literal
      (integer 1)) no_init)) ∷ []);
}

pub by_hand_9 : Tallies program_by_hand_9 4 (2 ∷ 0 ∷ 0 ∷ 0 ∷ 2 ∷ 0 ∷ []) (2 ∷ 2 ∷ []) 4
unfolding program_by_hand_9 tallied
by_hand_9 = record { file = is-file widest program_by_hand_9 refl; number = refl; step = refl; place = refl; by-type = refl; by-declaration = refl; count = refl }

-- equal arrays through elements, the lowest number in no row; equal nullables through what they refer to, the lowest number in no row;
-- equal structs, the lowest number in no row; nodes of kind 22
unfoldable pub program_by_hand_10 : Program
program_by_hand_10 = record {
  tables = record {
    types = (ty 0 0 0 0 ∷ ty 1 0 0 0 ∷ ty 2 0 0 0 ∷ ty 3 0 0 0 ∷ ty 4 1 0 0 ∷ ty 4 1 0 0 ∷ ty 4 1 0 0 ∷ ty 7 5 0 0 ∷ ty 7 6 0 0
        ∷ ty 5 7 0 0 ∷ ty 5 8 0 0 ∷ []);
    list = ([]);
    fields = (fd 1 0 ∷ []);
    structs = (st 1 0 1 ∷ []);
    built_ins = ([]);
    nodes = (nd 1 11 0 1 ∷ nd 16 0 10 2 ∷ nd 10 0 8 0 ∷ nd 21 0 6 1 ∷ nd 22 1 0 1 ∷ nd 13 1 0 0 ∷ []);
  };
  declarations = (global 11 (array_literal 10 (also (null 8) (also (struct_literal 6 (init 1 (literal (integer 1)) no_init)) none)))
      ∷ []);
}

pub by_hand_10 : Tallies program_by_hand_10 3 (1 ∷ 0 ∷ 0 ∷ 0 ∷ 1 ∷ 0 ∷ 0 ∷ 1 ∷ 0 ∷ 1 ∷ 0 ∷ []) (4 ∷ []) 4
unfolding program_by_hand_10 tallied
by_hand_10 = record { file = is-file widest program_by_hand_10 refl; number = refl; step = refl; place = refl; by-type = refl; by-declaration = refl; count = refl }

-- equal arrays, the lowest number in no row; equal functions, the lowest number in no row
unfoldable pub program_by_hand_11 : Program
program_by_hand_11 = record {
  tables = record {
    types = (ty 0 0 0 0 ∷ ty 1 0 0 0 ∷ ty 2 0 0 0 ∷ ty 3 0 0 0 ∷ ty 6 3 0 0 ∷ ty 6 3 0 0 ∷ ty 5 0 0 0 ∷ ty 5 0 0 0 ∷ []);
    list = ([]);
    fields = (fd 1 6 ∷ []);
    structs = (st 1 0 1 ∷ []);
    built_ins = (bi 12 4 ∷ []);
    nodes = (nd 2 10 5 1 ∷ nd 39 0 0 3 ∷ nd 34 0 0 1 ∷ nd 15 10 0 0 ∷ nd 31 20 0 1 ∷ nd 16 0 7 0 ∷ nd 33 0 0 0 ∷ []);
  };
  declarations = (function 10 5 ([]) (block (then (call_stmt (name 10) none) (then (var 20 (array_literal 7 none)) (then return_void
      empty)))) ∷ []);
}

pub by_hand_11 : Tallies program_by_hand_11 5 (0 ∷ 0 ∷ 0 ∷ 0 ∷ 1 ∷ 0 ∷ 1 ∷ 0 ∷ []) (2 ∷ []) 2
unfolding program_by_hand_11 tallied
by_hand_11 = record { file = is-file widest program_by_hand_11 refl; number = refl; step = refl; place = refl; by-type = refl; by-declaration = refl; count = refl }

-- functions, globals, functions
unfoldable pub program_by_hand_12 : Program
program_by_hand_12 = record {
  tables = record {
    types = (ty 0 0 0 0 ∷ ty 1 0 0 0 ∷ ty 2 0 0 0 ∷ ty 3 0 0 0 ∷ ty 6 3 0 0 ∷ ty 5 0 0 0 ∷ []);
    list = ([]);
    fields = ([]);
    structs = ([]);
    built_ins = ([]);
    nodes = (nd 2 10 4 1 ∷ nd 39 0 0 4 ∷ nd 31 100 0 1 ∷ nd 13 0 0 0 ∷ nd 31 101 0 1 ∷ nd 13 1 0 0 ∷ nd 31 102 0 1 ∷ nd 13 2 0 0
        ∷ nd 33 0 0 0 ∷ nd 1 11 0 1 ∷ nd 16 0 5 0 ∷ nd 2 12 4 1 ∷ nd 39 0 0 3 ∷ nd 31 100 0 1 ∷ nd 13 0 0 0 ∷ nd 31 101 0 1
        ∷ nd 13 1 0 0 ∷ nd 33 0 0 0 ∷ []);
  };
  declarations = (function 10 4 ([]) (block (then (var 100 (literal (integer 0))) (then (var 101 (literal (integer 1))) (then (var
      102 (literal (integer 2))) (then return_void empty))))) ∷ global 11 (array_literal 5 none) ∷ function 12 4 ([]) (block (then
      (var 100 (literal (integer 0))) (then (var 101 (literal (integer 1))) (then return_void empty)))) ∷ []);
}

pub by_hand_12 : Tallies program_by_hand_12 5 (5 ∷ 0 ∷ 0 ∷ 0 ∷ 0 ∷ 1 ∷ []) (3 ∷ 1 ∷ 2 ∷ []) 6
unfolding program_by_hand_12 tallied
by_hand_12 = record { file = is-file widest program_by_hand_12 refl; number = refl; step = refl; place = refl; by-type = refl; by-declaration = refl; count = refl }

-- globals, functions, globals
unfoldable pub program_by_hand_13 : Program
program_by_hand_13 = record {
  tables = record {
    types = (ty 0 0 0 0 ∷ ty 1 0 0 0 ∷ ty 2 0 0 0 ∷ ty 3 0 0 0 ∷ ty 6 3 0 0 ∷ ty 5 0 0 0 ∷ []);
    list = ([]);
    fields = ([]);
    structs = ([]);
    built_ins = ([]);
    nodes = (nd 1 10 0 1 ∷ nd 16 0 5 2 ∷ nd 13 1 0 0 ∷ nd 13 2 0 0 ∷ nd 2 11 4 1 ∷ nd 39 0 0 2 ∷ nd 31 100 0 1 ∷ nd 13 0 0 0
        ∷ nd 33 0 0 0 ∷ nd 1 12 0 1 ∷ nd 16 0 5 1 ∷ nd 13 1 0 0 ∷ []);
  };
  declarations = (global 10 (array_literal 5 (also (literal (integer 1)) (also (literal (integer 2)) none))) ∷ function 11 4 ([])
      (block (then (var 100 (literal (integer 0))) (then return_void empty))) ∷ global 12 (array_literal 5 (also (literal (integer
      1)) none)) ∷ []);
}

pub by_hand_13 : Tallies program_by_hand_13 4 (4 ∷ 0 ∷ 0 ∷ 0 ∷ 0 ∷ 2 ∷ []) (3 ∷ 1 ∷ 2 ∷ []) 6
unfolding program_by_hand_13 tallied
by_hand_13 = record { file = is-file widest program_by_hand_13 refl; number = refl; step = refl; place = refl; by-type = refl; by-declaration = refl; count = refl }

-- a declaration without expressions between others
unfoldable pub program_by_hand_14 : Program
program_by_hand_14 = record {
  tables = record {
    types = (ty 0 0 0 0 ∷ ty 1 0 0 0 ∷ ty 2 0 0 0 ∷ ty 3 0 0 0 ∷ ty 6 3 0 0 ∷ ty 5 0 0 0 ∷ []);
    list = ([]);
    fields = ([]);
    structs = ([]);
    built_ins = ([]);
    nodes = (nd 2 20 4 1 ∷ nd 39 0 0 3 ∷ nd 31 100 0 1 ∷ nd 13 0 0 0 ∷ nd 31 101 0 1 ∷ nd 13 1 0 0 ∷ nd 33 0 0 0 ∷ nd 2 21 4 1
        ∷ nd 39 0 0 1 ∷ nd 33 0 0 0 ∷ nd 2 22 4 1 ∷ nd 39 0 0 2 ∷ nd 31 100 0 1 ∷ nd 13 0 0 0 ∷ nd 33 0 0 0 ∷ []);
  };
  declarations = (function 20 4 ([]) (block (then (var 100 (literal (integer 0))) (then (var 101 (literal (integer 1))) (then
      return_void empty)))) ∷ function 21 4 ([]) (block (then return_void empty)) ∷ function 22 4 ([]) (block (then (var 100
      (literal (integer 0))) (then return_void empty))) ∷ []);
}

pub by_hand_14 : Tallies program_by_hand_14 6 (3 ∷ 0 ∷ 0 ∷ 0 ∷ 0 ∷ 0 ∷ []) (2 ∷ 0 ∷ 1 ∷ []) 3
unfolding program_by_hand_14 tallied
by_hand_14 = record { file = is-file widest program_by_hand_14 refl; number = refl; step = refl; place = refl; by-type = refl; by-declaration = refl; count = refl }

-- no declaration
unfoldable pub program_by_hand_15 : Program
program_by_hand_15 = record {
  tables = record {
    types = (ty 0 0 0 0 ∷ ty 1 0 0 0 ∷ ty 2 0 0 0 ∷ ty 3 0 0 0 ∷ []);
    list = ([]);
    fields = ([]);
    structs = ([]);
    built_ins = ([]);
    nodes = ([]);
  };
  declarations = ([]);
}

pub by_hand_15 : Tallies program_by_hand_15 0 (0 ∷ 0 ∷ 0 ∷ 0 ∷ []) ([]) 0
unfolding program_by_hand_15 tallied
by_hand_15 = record { file = is-file widest program_by_hand_15 refl; number = refl; step = refl; place = refl; by-type = refl; by-declaration = refl; count = refl }
