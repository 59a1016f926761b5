-- Zero bytes (document 02, (v)): they mean the blank file, and a file depends on its bytes through the bytes that are meant alone. Assumes
-- nothing.
use mathlib.Core.Path.{◌≡◌, refl, ap, sym, ◌∙◌}
use mathlib.Core.Bool.{true}
use mathlib.Core.List.{List, [], ◌∷◌}
use mathlib.Core.Logic.{◌↔◌}
use Prim.Native.Nat.{ℕ}
use native.Mathlib.Omega.{arith}
use lib.ListN.{length}
use Rattle.oat.specs.Basics.{all_below, sum_below}
use Rattle.oat.specs.Tables.{Tables, record_numbers, numbers_of, bytes_of, file_of}
use Rattle.oat.specs.TypeRules.{param_count, taken_before, unused_bc, base_rule, type_rule, parts_of, first_parts, parts_at, each_type_right, types_right}
use Rattle.oat.specs.TableRules.{fields_before, structs_right, tables_right}
use Rattle.oat.specs.ProgramFile.{Limits, limits_of, in_range, Program, blank_tables, blank_program, blank_file, or_else, meant, IsFile}
use Rattle.oat.proofs.LawsLimits.{in-range, wider}

-- zero bytes mean the blank file
pub zero_bytes : meant [] ≡ blank_file
unfolding or_else
zero_bytes = refl

-- its 44 bytes, computed
pub blank_bytes : blank_file ≡
    4 ∷ 0
    ∷ 0 ∷ 0 ∷ 0 ∷ 0 ∷ 0 ∷ 0 ∷ 0 ∷ 0
    ∷ 1 ∷ 0 ∷ 0 ∷ 0 ∷ 0 ∷ 0 ∷ 0 ∷ 0
    ∷ 2 ∷ 0 ∷ 0 ∷ 0 ∷ 0 ∷ 0 ∷ 0 ∷ 0
    ∷ 3 ∷ 0 ∷ 0 ∷ 0 ∷ 0 ∷ 0 ∷ 0 ∷ 0
    ∷ 0 ∷ 0
    ∷ 0 ∷ 0
    ∷ 0 ∷ 0
    ∷ 0 ∷ 0
    ∷ 0 ∷ 0
    ∷ []
unfolding record_numbers numbers_of bytes_of
blank_bytes = refl

-- the file of some sections means itself
pub meant_file : (T : Tables) → meant (file_of T) ≡ file_of T
unfolding numbers_of bytes_of or_else
meant_file T = refl

-- what is meant means itself
pub meant_twice : (s : List ℕ) → meant (meant s) ≡ meant s
unfolding or_else
meant_twice [] = meant_file blank_tables
meant_twice (b ∷ s) = refl

-- others where there are none, and bytes that are there as they are
pub none_there : (s t : List ℕ) → length s ≡ 0 → t ≡ or_else t s
unfolding or_else
none_there [] t none = refl
none_there (b ∷ s) t none = absurd (omega (arith, none))

pub some_there : (s t : List ℕ) → (length s ≡ 0 → ⊥) → s ≡ or_else t s
unfolding or_else
some_there [] t some = absurd (some refl)
some_there (b ∷ s) t some = refl

-- the bytes to go on with, where the others are the blank file
pub these_meant : (s u : List ℕ) {t : List ℕ} → t ≡ or_else u s → u ≡ blank_file → t ≡ meant s
these_meant s u e is = e ∙ ap (λ x. or_else x s) is

-- bytes that mean the same are the files of the same programs
pub same_meaning : {limits : Limits} {s t : List ℕ} {p : Program} → meant s ≡ meant t → IsFile limits s p → IsFile limits t p
same_meaning e f = record {
  layout = sym e ∙ f.layout;
  counts = f.counts;
  types = f.types;
  tables = f.tables;
  stand = f.stand;
  used_up = f.used_up;
  deep = f.deep;
}

pub meant_is_file : {limits : Limits} (s : List ℕ) {p : Program} → IsFile limits s p → IsFile limits (meant s) p
meant_is_file s f = same_meaning (sym (meant_twice s)) f

-- Zero bytes are the file of a program exactly when the 44 bytes are.
pub blank-file : (limits : Limits) (p : Program) → IsFile limits [] p ↔ IsFile limits blank_file p
unfolding or_else
blank-file limits p = (same_meaning (sym (meant_file blank_tables)), same_meaning (meant_file blank_tables))

-- types of 1 part and no node: the least limits in range let it pass
least : IsFile (limits_of 1 1) [] blank_program
unfolding all_below sum_below param_count taken_before unused_bc base_rule type_rule parts_of first_parts parts_at each_type_right types_right fields_before structs_right tables_right or_else
least = record {
  layout = refl;
  counts = record { types = omega arith; list = omega arith; fields = omega arith; structs = omega arith; built_ins = omega arith; nodes = omega arith };
  types = refl;
  tables = refl;
  stand = tt;
  used_up = refl;
  deep = omega arith;
}

-- With limits in range zero bytes are the file of the program of types 0 to 3 and nothing else.
pub blank_is_file : (limits : Limits) → in_range limits ≡ true → IsFile limits [] blank_program
blank_is_file limits range = let r = in-range limits range in wider (record { parts = r.some_parts; depth = r.some_depth }) least
