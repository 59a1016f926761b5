-- Request (viii): the comparison that decides a subtype question, with the count of the pairs of types that it compares, in document
-- 02's words. A pair counts 1; a pair of structs counts nothing further; an array adds the pairs of its equality test; int, bool and
-- void against a nullable type fail at that pair; parameters come before return types; comparison stops at the first pair that fails.
-- That it says what `below` says is `compare_below` (`proofs/LawsPairs.antt`). Assumes nothing.
use Rattle.std.specs.Prelude.{Bool, true, false, not, ◌&&◌, List, ℕ, ◌+◌, eqb}
use Rattle.oat.specs.Basics.{pick}
use Rattle.oat.specs.Types.{Ty, int, bool, string, void, struct, array, function, nullable, Tys, no_ty, and_ty, Struct}
use Rattle.oat.specs.Decide.{kind_of, on_struct, is_none, struct_below}

-- how a comparison went: whether it holds, and how many pairs it compared
pub record Compared : Type 0 where
  pub holds : Bool
  pub pairs : ℕ

-- no pair is compared
abbrev pub plainly : Bool → Compared
plainly b = record { holds = b; pairs = 0 }

-- a pair, and what it leads to
abbrev pub pair : Compared → Compared
pair c = record { holds = c.holds; pairs = 1 + c.pairs }

-- one comparison, then another: it stops where the first fails
abbrev pub and_next : Compared → Compared → Compared
and_next c d = record { holds = c.holds && d.holds; pairs = c.pairs + pick c.holds d.pairs 0 }

-- what the other type refers to; types of different kinds fail at their pair
abbrev pub if_array : Ty → (Ty → Compared) → Compared
if_array int f = plainly false
if_array bool f = plainly false
if_array string f = plainly false
if_array void f = plainly false
if_array (struct x) f = plainly false
if_array (array u) f = f u
if_array (function us u) f = plainly false
if_array (nullable u) f = plainly false

abbrev pub if_function : Ty → (Tys → Ty → Compared) → Compared
if_function int f = plainly false
if_function bool f = plainly false
if_function string f = plainly false
if_function void f = plainly false
if_function (struct x) f = plainly false
if_function (array u) f = plainly false
if_function (function us u) f = f us u
if_function (nullable u) f = plainly false

abbrev pub if_nullable : Ty → (Ty → Compared) → Compared
if_nullable int f = plainly false
if_nullable bool f = plainly false
if_nullable string f = plainly false
if_nullable void f = plainly false
if_nullable (struct x) f = plainly false
if_nullable (array u) f = plainly false
if_nullable (function us u) f = plainly false
if_nullable (nullable u) f = f u

abbrev pub if_also : Tys → (Ty → Tys → Compared) → Compared
if_also no_ty f = plainly false
if_also (and_ty u us) f = f u us

-- the length of a list of types
unfoldable pub length_tys : Tys → ℕ
length_tys no_ty = 0
length_tys (and_ty t ts) = 1 + length_tys ts

-- functions of unequal number of parameters fail at their pair
abbrev pub of_one_number : Tys → Tys → Compared → Compared
of_one_number ts us c = pick (eqb (length_tys ts) (length_tys us)) c (plainly false)

-- the equality test of an array's elements, all the way down: structs by name
unfoldable mutual
  pub compare_same : Ty → Ty → Compared
  compare_same int y = pair (plainly (eqb (kind_of y) 0))
  compare_same bool y = pair (plainly (eqb (kind_of y) 1))
  compare_same string y = pair (plainly (eqb (kind_of y) 2))
  compare_same void y = pair (plainly (eqb (kind_of y) 3))
  compare_same (struct x) y = pair (plainly (on_struct y (λ z. eqb x z)))
  compare_same (array t) y = pair (if_array y (λ u. compare_same t u))
  compare_same (function ts t) y = pair (if_function y (λ us u. of_one_number ts us (and_next (compare_sames ts us) (compare_same t u))))
  compare_same (nullable t) y = pair (if_nullable y (λ u. compare_same t u))

  pub compare_sames : Tys → Tys → Compared
  compare_sames no_ty ys = plainly (is_none ys)
  compare_sames (and_ty t ts) ys = if_also ys (λ u us. and_next (compare_same t u) (compare_sames ts us))

-- the comparisons of a type with another: as references, as types, as return types
pub record Comparison : Type 0 where
  pub ref : Ty → Compared
  pub typ : Ty → Compared
  pub ret : Ty → Compared

-- int and bool, of the kind k
abbrev pub base_pair : ℕ → Comparison
base_pair k = record {
  ref = λ y. pair (plainly false);
  typ = λ y. pair (plainly (eqb (kind_of y) k));
  ret = λ y. pair (plainly (eqb (kind_of y) k));
}

-- void is below void only as a return type
abbrev pub void_pair : Comparison
void_pair = record {
  ref = λ y. pair (plainly false);
  typ = λ y. pair (plainly false);
  ret = λ y. pair (plainly (eqb (kind_of y) 3));
}

-- `down`: the type is the left one of the two. A reference on the left of a nullable type goes on with that type's reference.
abbrev pub reached : Bool → (Ty → Compared) → Ty → Compared
reached true f int = f int
reached true f bool = f bool
reached true f string = f string
reached true f void = f void
reached true f (struct x) = f (struct x)
reached true f (array u) = f (array u)
reached true f (function us u) = f (function us u)
reached true f (nullable u) = pair (f u)
reached false f y = f y

abbrev pub ref_pair : Bool → (Ty → Compared) → Comparison
ref_pair down f = record { ref = f; typ = reached down f; ret = reached down f }

-- a nullable type against a nullable one goes on with both references; on the right of a reference, with its own
abbrev pub opened : Bool → (Ty → Compared) → Ty → Compared
opened down f int = plainly false
opened down f bool = plainly false
opened down f void = plainly false
opened down f string = pick down (plainly false) (f string)
opened down f (struct x) = pick down (plainly false) (f (struct x))
opened down f (array u) = pick down (plainly false) (f (array u))
opened down f (function us u) = pick down (plainly false) (f (function us u))
opened down f (nullable u) = f u

abbrev pub nullable_pair : Bool → (Ty → Compared) → Comparison
nullable_pair down f = record { ref = λ y. pair (plainly false); typ = λ y. pair (opened down f y); ret = λ y. pair (opened down f y) }

-- parameters turn round: where the type is the left one, its parameters are the right ones
unfoldable mutual
  pub comparison : List Struct → Bool → Ty → Comparison
  comparison H down int = base_pair 0
  comparison H down bool = base_pair 1
  comparison H down string = ref_pair down (λ y. pair (plainly (eqb (kind_of y) 2)))
  comparison H down void = void_pair
  comparison H down (struct x) = ref_pair down (λ y. pair (plainly (on_struct y λ z. pick down (struct_below H x z) (struct_below H z x))))
  comparison H down (array t) = ref_pair down (λ y. pair (if_array y (λ u. compare_same t u)))
  comparison H down (function ts t) =
      ref_pair down (λ y. pair (if_function y λ us u. of_one_number ts us (and_next (compare_all H (not down) ts us) ((comparison H down t).ret u))))
  comparison H down (nullable t) = nullable_pair down (comparison H down t).ref

  pub compare_all : List Struct → Bool → Tys → Tys → Compared
  compare_all H down no_ty ys = plainly (is_none ys)
  compare_all H down (and_ty t ts) ys = if_also ys λ u us. and_next ((comparison H down t).typ u) (compare_all H down ts us)

-- the question whether s is below t, as return types
unfoldable pub compare : List Struct → Ty → Ty → Compared
compare H s t = (comparison H true s).ret t

-- how many pairs it compares
abbrev pub below_pairs : List Struct → Ty → Ty → ℕ
below_pairs H s t = (compare H s t).pairs

-- a type's parts (document 01, 'The program file'): 1 for itself, plus those of what it refers to, here of types written out
unfoldable mutual
  pub parts_ty : Ty → ℕ
  parts_ty int = 1
  parts_ty bool = 1
  parts_ty string = 1
  parts_ty void = 1
  parts_ty (struct x) = 1
  parts_ty (array t) = 1 + parts_ty t
  parts_ty (function ts t) = 1 + (parts_tys ts + parts_ty t)
  parts_ty (nullable t) = 1 + parts_ty t

  pub parts_tys : Tys → ℕ
  parts_tys no_ty = 0
  parts_tys (and_ty t ts) = parts_ty t + parts_tys ts
