-- What the rules on fields, structs and built-ins say of each record. Assumes nothing.
use mathlib.Core.Path.{◌≡◌}
use mathlib.Core.Bool.{true, ◌&&◌}
use Prim.Native.Nat.{ℕ, ◌<◌}
use lib.ListN.{length}
use lib.Dec.{eqb, ltb}
use borrow.Author.Tests.{ltb-true, eqb-true}
use Rattle.oat.specs.Basics.{all_below}
use Rattle.oat.specs.Tables.{Tables, field_at, struct_at, built_in_at}
use Rattle.oat.specs.TypeRules.{kind_at}
use Rattle.oat.specs.TableRules.{field_rule, fields_before, struct_rule, structs_right, has_kind, built_in_rule, tables_right}
use Rattle.oat.proofs.LawsBasics.{and_parts, all_at}
use Rattle.oat.proofs.LawsTypes.{LowerValue, lower_value}

-- the type t of the file is of the kind k
pub record HasKind (T : Tables) (t k : ℕ) : Type 0 where
  pub within : t < length T.types
  pub kind : kind_at T t ≡ k

pub has-kind : (T : Tables) (t k : ℕ) → has_kind T t k ≡ true → HasKind T t k
unfolding has_kind
has-kind T t k e =
    let (l, is) = and_parts (ltb t (length T.types)) (eqb (kind_at T t) k) e in
    record { within = ltb-true t (length T.types) l; kind = eqb-true (kind_at T t) k is }

-- the records of a file that keeps the rules
pub record TablesFormed (T : Tables) : Type 0 where
  pub field : (i : ℕ) → i < length T.fields → LowerValue T (length T.types) (field_at T i).type
  pub struct : (i : ℕ) → i < length T.structs → (struct_at T i).first ≡ fields_before T i
  pub used_up : fields_before T (length T.structs) ≡ length T.fields
  pub built_in_kind : (i : ℕ) → i < length T.built_ins → HasKind T (built_in_at T i).type 6

pub tables_formed : (T : Tables) → tables_right T ≡ true → TablesFormed T
unfolding tables_right structs_right field_rule struct_rule built_in_rule
tables_formed T e =
    let (two, given) = and_parts (all_below (length T.fields) (field_rule T) && structs_right T) (all_below (length T.built_ins) (built_in_rule T)) e in
    let (fields, structs) = and_parts (all_below (length T.fields) (field_rule T)) (structs_right T) two in
    let (each, used) = and_parts (all_below (length T.structs) (struct_rule T)) (eqb (fields_before T (length T.structs)) (length T.fields)) structs in
    record {
      field = λ i h. lower_value T (length T.types) (field_at T i).type (all_at (length T.fields) (field_rule T) fields i h);
      struct = λ i h. eqb-true (struct_at T i).first (fields_before T i) (all_at (length T.structs) (struct_rule T) each i h);
      used_up = eqb-true (fields_before T (length T.structs)) (length T.fields) used;
      built_in_kind = λ i h. has-kind T (built_in_at T i).type 6 (all_at (length T.built_ins) (built_in_rule T) given i h);
    }
