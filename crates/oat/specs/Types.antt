-- Types written out (document 01, 'The program file'): a type's kind, with a struct's name or a function's parameters, and what it
-- refers to, each written out in turn; and the structs of a file with their fields. Assumes nothing.
use Rattle.std.specs.Prelude.{List, [], ◌∷◌, ◌++◌, ℕ, zero, suc, ◌+◌, get_or, eqb}
use Rattle.oat.specs.Basics.{pick, tabulate}
use Rattle.oat.specs.Tables.{Tables, TypeRecord, type_at, entry_at, field_at, struct_at}

mutual
  pub data Ty : Type 0 where
    int bool string void : Ty
    struct : (name : ℕ) → Ty
    array : (element : Ty) → Ty
    function : (parameters : Tys) → (returns : Ty) → Ty
    nullable : (reference : Ty) → Ty

  pub data Tys : Type 0 where
    no_ty : Tys
    and_ty : Ty → Tys → Tys

-- `count` parameters from the entry `first` of the type list on, where `at` writes a lower type out
unfoldable pub written_params : (ℕ → Ty) → Tables → ℕ → ℕ → Tys
written_params at T first zero = no_ty
written_params at T first (suc count) = and_ty (at (entry_at T first)) (written_params at T (suc first) count)

-- a record written out
unfoldable pub written : (ℕ → Ty) → Tables → TypeRecord → Ty
written at T r =
    pick (eqb r.kind 0) int
    (pick (eqb r.kind 1) bool
    (pick (eqb r.kind 2) string
    (pick (eqb r.kind 4) (struct r.a)
    (pick (eqb r.kind 5) (array (at r.a))
    (pick (eqb r.kind 6) (function (written_params at T r.b r.c) (at r.a))
    (pick (eqb r.kind 7) (nullable (at r.a)) void))))))

-- the first n types, front to back: a type refers only to lower numbers
unfoldable pub first_types : Tables → ℕ → List Ty
first_types T zero = []
first_types T (suc n) = first_types T n ++ (written (λ j. get_or (first_types T n) j void) T (type_at T n) ∷ [])

-- the type i, written out
unfoldable pub type_of : Tables → ℕ → Ty
type_of T i = written (λ j. get_or (first_types T i) j void) T (type_at T i)

-- a field: its name, and its type written out
pub record Field : Type 0 where
  pub name : ℕ
  pub type : Ty

pub record Struct : Type 0 where
  pub name : ℕ
  pub fields : List Field

-- the structs of a file, with their fields
unfoldable pub struct_of : Tables → ℕ → Struct
struct_of T i = record {
  name = (struct_at T i).name;
  fields = tabulate (struct_at T i).count (λ j. record {
    name = (field_at T ((struct_at T i).first + j)).name;
    type = type_of T (field_at T ((struct_at T i).first + j)).type;
  });
}

-- the structs that the first n records declare
unfoldable pub structs_of : Tables → ℕ → List Struct
structs_of T n = tabulate n (struct_of T)

-- the fields of the struct x: a name declared twice means its first record
pub data Lookup : Type 0 where
  found : List Field → Lookup
  missing : Lookup

unfoldable pub lookup : List Struct → ℕ → Lookup
lookup [] x = missing
lookup (s ∷ H) x = pick (eqb s.name x) (found s.fields) (lookup H x)
