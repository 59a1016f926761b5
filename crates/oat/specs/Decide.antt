-- Decisions: equality of types written out, subtyping and well-formedness. Each is true exactly when the rules derive it
-- (`proofs/LawsSame.antt`, `LawsSubtyping.antt`, `LawsFormed.antt`). Assumes nothing.
use Rattle.std.specs.Prelude.{Bool, true, false, not, ◌&&◌, ◌||◌, List, [], ◌∷◌, ℕ, eqb}
use Rattle.oat.specs.Basics.{pick}
use Rattle.oat.specs.Types.{Ty, int, bool, string, void, struct, array, function, nullable, Tys, no_ty, and_ty, Field, Struct, Lookup, found, missing, lookup}

-- the kind of a type
abbrev pub kind_of : Ty → ℕ
kind_of int = 0
kind_of bool = 1
kind_of string = 2
kind_of void = 3
kind_of (struct x) = 4
kind_of (array t) = 5
kind_of (function ts t) = 6
kind_of (nullable t) = 7

-- a test on what a type refers to, false for the other kinds
abbrev pub on_struct : Ty → (ℕ → Bool) → Bool
on_struct int k = false
on_struct bool k = false
on_struct string k = false
on_struct void k = false
on_struct (struct x) k = k x
on_struct (array t) k = false
on_struct (function ts t) k = false
on_struct (nullable t) k = false

abbrev pub on_array : Ty → (Ty → Bool) → Bool
on_array int k = false
on_array bool k = false
on_array string k = false
on_array void k = false
on_array (struct x) k = false
on_array (array t) k = k t
on_array (function ts t) k = false
on_array (nullable t) k = false

abbrev pub on_function : Ty → (Tys → Ty → Bool) → Bool
on_function int k = false
on_function bool k = false
on_function string k = false
on_function void k = false
on_function (struct x) k = false
on_function (array t) k = false
on_function (function ts t) k = k ts t
on_function (nullable t) k = false

abbrev pub on_nullable : Ty → (Ty → Bool) → Bool
on_nullable int k = false
on_nullable bool k = false
on_nullable string k = false
on_nullable void k = false
on_nullable (struct x) k = false
on_nullable (array t) k = false
on_nullable (function ts t) k = false
on_nullable (nullable t) k = k t

abbrev pub on_also : Tys → (Ty → Tys → Bool) → Bool
on_also no_ty k = false
on_also (and_ty t ts) k = k t ts

abbrev pub is_none : Tys → Bool
is_none no_ty = true
is_none (and_ty t ts) = false

-- equal as written out
unfoldable mutual
  pub same_ty : Ty → Ty → Bool
  same_ty int y = eqb (kind_of y) 0
  same_ty bool y = eqb (kind_of y) 1
  same_ty string y = eqb (kind_of y) 2
  same_ty void y = eqb (kind_of y) 3
  same_ty (struct x) y = on_struct y (λ z. eqb x z)
  same_ty (array t) y = on_array y (λ u. same_ty t u)
  same_ty (function ts t) y = on_function y (λ us u. same_tys ts us && same_ty t u)
  same_ty (nullable t) y = on_nullable y (λ u. same_ty t u)

  pub same_tys : Tys → Tys → Bool
  same_tys no_ty ys = is_none ys
  same_tys (and_ty t ts) ys = on_also ys (λ u us. same_ty t u && same_tys ts us)

-- the fields `ms` begin with the fields `ns`, name and type each
unfoldable pub begins_with : List Field → List Field → Bool
begins_with ms [] = true
begins_with [] (n ∷ ns) = false
begins_with (m ∷ ms) (n ∷ ns) = eqb m.name n.name && same_ty m.type n.type && begins_with ms ns

abbrev pub on_found : Lookup → (List Field → Bool) → Bool
on_found missing k = false
on_found (found fs) k = k fs

-- both are declared, and y's fields begin x's
unfoldable pub struct_below : List Struct → ℕ → ℕ → Bool
struct_below H x y = on_found (lookup H x) λ ms. on_found (lookup H y) λ ns. begins_with ms ns

-- the three judgements between a type and another, as tests on the other
pub record Tests : Type 0 where
  pub ref : Ty → Bool
  pub typ : Ty → Bool
  pub ret : Ty → Bool

-- int and bool; void; a reference; a nullable one. `down`: the type is the left one of the two.
abbrev pub base_tests : ℕ → Tests
base_tests k = record { ref = λ y. false; typ = λ y. eqb (kind_of y) k; ret = λ y. eqb (kind_of y) k }

abbrev pub void_tests : Tests
void_tests = record { ref = λ y. false; typ = λ y. false; ret = λ y. eqb (kind_of y) 3 }

abbrev pub or_nullable : Bool → (Ty → Bool) → Ty → Bool
or_nullable down f y = f y || (down && on_nullable y f)

abbrev pub ref_tests : Bool → (Ty → Bool) → Tests
ref_tests down f = record { ref = f; typ = or_nullable down f; ret = or_nullable down f }

abbrev pub or_plain : Bool → (Ty → Bool) → Ty → Bool
or_plain down f y = on_nullable y f || (not down && f y)

abbrev pub nullable_tests : Bool → (Ty → Bool) → Tests
nullable_tests down f = record { ref = λ y. false; typ = or_plain down f; ret = or_plain down f }

-- parameters turn round: where the type is the left one, its parameters are the right ones
unfoldable mutual
  pub tests : List Struct → Bool → Ty → Tests
  tests H down int = base_tests 0
  tests H down bool = base_tests 1
  tests H down string = ref_tests down (λ y. eqb (kind_of y) 2)
  tests H down void = void_tests
  tests H down (struct x) = ref_tests down (λ y. on_struct y λ z. pick down (struct_below H x z) (struct_below H z x))
  tests H down (array t) = ref_tests down (λ y. on_array y (same_ty t))
  tests H down (function ts t) = ref_tests down (λ y. on_function y λ us u. all_tests H (not down) ts us && (tests H down t).ret u)
  tests H down (nullable t) = nullable_tests down (tests H down t).ref

  pub all_tests : List Struct → Bool → Tys → Tys → Bool
  all_tests H down no_ty ys = is_none ys
  all_tests H down (and_ty t ts) ys = on_also ys λ u us. (tests H down t).typ u && all_tests H down ts us

-- s is below t, as return types: void is below void only
unfoldable pub below : List Struct → Ty → Ty → Bool
below H s t = (tests H true s).ret t

-- the three judgements of well-formedness
pub record Forms : Type 0 where
  pub ref : Bool
  pub typ : Bool
  pub ret : Bool

abbrev pub is_found : Lookup → Bool
is_found l = on_found l (λ fs. true)

abbrev pub all_forms : Bool → Bool → Bool → Forms
all_forms r t v = record { ref = r; typ = t; ret = v }

unfoldable mutual
  pub forms : List Struct → Ty → Forms
  forms H int = all_forms false true true
  forms H bool = all_forms false true true
  forms H string = all_forms true true true
  forms H void = all_forms false false true
  forms H (struct x) = let d = is_found (lookup H x) in all_forms d d d
  forms H (array t) = let d = (forms H t).typ in all_forms d d d
  forms H (function ts t) = let d = forms_all H ts && (forms H t).ret in all_forms d d d
  forms H (nullable t) = let d = (forms H t).ref in all_forms false d d

  pub forms_all : List Struct → Tys → Bool
  forms_all H no_ty = true
  forms_all H (and_ty t ts) = (forms H t).typ && forms_all H ts

-- the type is well-formed, as a return type
unfoldable pub is_formed : List Struct → Ty → Bool
is_formed H t = (forms H t).ret
