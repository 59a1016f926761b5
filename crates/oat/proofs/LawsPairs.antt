-- The comparison of a subtype question: it says what `below` says, it compares fewer pairs than both types have parts, and of a
-- well-formed type against itself exactly its parts. Assumes nothing.
use mathlib.Core.Path.{◌≡◌, refl, ap, ap₂, sym, ◌∙◌}
use mathlib.Core.Logic.{◌↔◌}
use mathlib.Core.Bool.{Bool, true, false, not, ◌&&◌, ◌||◌, false≢true}
use mathlib.Core.List.{List, [], append-nil}
use Prim.Native.Nat.{ℕ, ◌+◌, ◌≤◌}
use native.Mathlib.Omega.{arith}
use lib.Dec.{eqb}
use borrow.Author.Tests.{eq-eqb, eqb-false}
use Rattle.oat.specs.Basics.{pick}
use Rattle.oat.specs.TypeRules.{is_reference_kind}
use Rattle.oat.specs.Types.{Ty, int, bool, string, void, struct, array, function, nullable, Tys, no_ty, and_ty, Struct, Lookup, found, missing, lookup}
use Rattle.oat.specs.Decide.{on_array, on_function, on_nullable, is_none, same_ty, same_tys, begins_with, on_found, is_found, struct_below, Tests, or_nullable, ref_tests, or_plain, nullable_tests, tests, all_tests, below, Forms, all_forms, forms, forms_all, is_formed}
use Rattle.oat.specs.Pairs.{Compared, plainly, pair, and_next, if_array, if_function, if_nullable, length_tys, of_one_number, compare_same, compare_sames, Comparison, reached, ref_pair, opened, nullable_pair, comparison, compare_all, compare, below_pairs, parts_ty, parts_tys}
use Rattle.oat.proofs.LawsBasics.{and_parts, and_right}
use Rattle.oat.proofs.LawsSame.{begins_is}
use Rattle.oat.proofs.LawsSubtyping.{is_ref, ref_left, ref_right, decides}

-- a test of what cannot be fails
fails : {a : Bool} {A : Type 0} → (a ≡ true) ↔ A → (A → ⊥) → a ≡ false
fails {a = true} f n = absurd (n (f.0 refl))
fails {a = false} f n = refl

or-false : (a : Bool) → (a || false) ≡ a
or-false true = refl
or-false false = refl

pub parts_some : (t : Ty) → 1 ≤ parts_ty t
unfolding parts_ty
parts_some int = omega arith
parts_some bool = omega arith
parts_some string = omega arith
parts_some void = omega arith
parts_some (struct x) = omega arith
parts_some (array t) = omega arith
parts_some (function ts t) = omega arith
parts_some (nullable t) = omega arith

-- a comparison of types of n and m parts says b, and it compares fewer pairs than they have parts
record Right (n m : ℕ) (b : Bool) (c : Compared) : Type 0 where
  says : c.holds ≡ b
  few : c.pairs + 1 ≤ n + m

-- and of lists of types, which are of one length where it holds
record RightAll (ts us : Tys) (b : Bool) (c : Compared) : Type 0 where
  says : c.holds ≡ b
  few : c.pairs ≤ parts_tys ts + parts_tys us
  long : b ≡ true → length_tys ts ≡ length_tys us

-- a pair that leads to no other
alone : (n : ℕ) (y : Ty) (b : Bool) → Right (1 + n) (parts_ty y) b (pair (plainly b))
alone n y b = record { says = refl; few = omega (arith, parts_some y) }

more : {n m : ℕ} {b : Bool} {c : Compared} → Right n m b c → Right (1 + n) (1 + m) b (pair c)
more r = record { says = r.says; few = omega (arith, r.few) }

-- what a second comparison adds
at_most : (b : Bool) (n : ℕ) → pick b n 0 ≤ n
at_most true n = omega arith
at_most false n = omega arith

-- against a type that is to be an array, a function or a nullable type
record Ifs (n : ℕ) (y : Ty) : Type 0 where
  array : (g : Ty → Bool) (f : Ty → Compared) → ((u : Ty) → Right n (parts_ty u) (g u) (f u)) → Right (1 + n) (parts_ty y) (on_array y g) (pair (if_array y f))
  nullable : (g : Ty → Bool) (f : Ty → Compared) → ((u : Ty) → Right n (parts_ty u) (g u) (f u)) → Right (1 + n) (parts_ty y) (on_nullable y g) (pair (if_nullable y f))
  function : (g : Tys → Ty → Bool) (f : Tys → Ty → Compared) → ((us : Tys) (u : Ty) → Right n (parts_tys us + parts_ty u) (g us u) (f us u))
      → Right (1 + n) (parts_ty y) (on_function y g) (pair (if_function y f))

ifs : (n : ℕ) (y : Ty) → Ifs n y
unfolding parts_ty
ifs n int = let no = alone n int false in record { array = λ g f h. no; nullable = λ g f h. no; function = λ g f h. no }
ifs n bool = let no = alone n bool false in record { array = λ g f h. no; nullable = λ g f h. no; function = λ g f h. no }
ifs n string = let no = alone n string false in record { array = λ g f h. no; nullable = λ g f h. no; function = λ g f h. no }
ifs n void = let no = alone n void false in record { array = λ g f h. no; nullable = λ g f h. no; function = λ g f h. no }
ifs n (struct x) = let no = alone n (struct x) false in record { array = λ g f h. no; nullable = λ g f h. no; function = λ g f h. no }
ifs n (array u) = let no = alone n (array u) false in record { array = λ g f h. more (h u); nullable = λ g f h. no; function = λ g f h. no }
ifs n (function us u) = let no = alone n (function us u) false in record { array = λ g f h. no; nullable = λ g f h. no; function = λ g f h. more (h us u) }
ifs n (nullable u) = let no = alone n (nullable u) false in record { array = λ g f h. no; nullable = λ g f h. more (h u); function = λ g f h. no }

-- parameters, then the return type
next : {b d : Bool} {c e : Compared} (ts us : Tys) (t u : Ty) → RightAll ts us b c → Right (parts_ty t) (parts_ty u) d e
    → Right (parts_tys ts + parts_ty t) (parts_tys us + parts_ty u) (b && d) (of_one_number ts us (and_next c e))
next {b} {d} {c} {e} ts us t u p q = go (eqb (length_tys ts) (length_tys us)) refl
  where
    go : (x : Bool) → eqb (length_tys ts) (length_tys us) ≡ x → Right (parts_tys ts + parts_ty t) (parts_tys us + parts_ty u) (b && d) (pick x (and_next c e) (plainly false))
    go true h = record { says = ap₂ ◌&&◌ p.says q.says; few = omega (arith, p.few, q.few, at_most c.holds e.pairs) }
    go false h = record {
      says = sym (ap (λ a. a && d) (fails (λ k. k, λ k. k) (λ k. eqb-false _ _ h (p.long k))));
      few = omega (arith, parts_some t, parts_some u);
    }

-- lists of types, one after another
one_short : (ts us : Tys) → RightAll ts us false (plainly false)
one_short ts us = record { says = refl; few = omega arith; long = λ e. absurd (false≢true e) }

none : (us : Tys) → RightAll no_ty us (is_none us) (plainly (is_none us))
none no_ty = record { says = refl; few = omega arith; long = λ e. refl }
none (and_ty u us) = one_short no_ty (and_ty u us)

also : {b d : Bool} {c e : Compared} (ts us : Tys) (t u : Ty) → Right (parts_ty t) (parts_ty u) b c → RightAll ts us d e
    → RightAll (and_ty t ts) (and_ty u us) (b && d) (and_next c e)
unfolding parts_ty length_tys
also {b} {d} {c} {e} ts us t u p q =
    record {
      says = ap₂ ◌&&◌ p.says q.says;
      few = omega (arith, p.few, q.few, at_most c.holds e.pairs);
      long = λ h. ap (λ n. 1 + n) (q.long (and_parts b d h).1);
    }

mutual
  unfolding compare_same same_ty parts_ty length_tys

  same_right : (s t : Ty) → Right (parts_ty s) (parts_ty t) (same_ty s t) (compare_same s t)
  same_right int t = alone 0 t _
  same_right bool t = alone 0 t _
  same_right string t = alone 0 t _
  same_right void t = alone 0 t _
  same_right (struct x) t = alone 0 t _
  same_right (array s) t = (ifs (parts_ty s) t).array _ _ (same_right s)
  same_right (function ss s) t =
      (ifs (parts_tys ss + parts_ty s) t).function _ _ (λ us u. next ss us s u (sames_right ss us) (same_right s u))
  same_right (nullable s) t = (ifs (parts_ty s) t).nullable _ _ (same_right s)

  sames_right : (ss ts : Tys) → RightAll ss ts (same_tys ss ts) (compare_sames ss ts)
  sames_right no_ty ts = none ts
  sames_right (and_ty s ss) no_ty = one_short (and_ty s ss) no_ty
  sames_right (and_ty s ss) (and_ty t ts) = also ss ts s t (same_right s t) (sames_right ss ts)

-- the comparisons of s say what its tests say
record Agrees (s : Ty) (T : Tests) (C : Comparison) : Type 0 where
  ref : (t : Ty) → Right (parts_ty s) (parts_ty t) (T.ref t) (C.ref t)
  typ : (t : Ty) → Right (parts_ty s) (parts_ty t) (T.typ t) (C.typ t)
  ret : (t : Ty) → Right (parts_ty s) (parts_ty t) (T.ret t) (C.ret t)

-- the same comparison, of an equal test
says_same : {n m : ℕ} {a b : Bool} {c : Compared} → Right n m a c → b ≡ a → Right n m b c
says_same r e = record { says = r.says ∙ sym e; few = r.few }

-- a reference: no test of one passes against a nullable type
module _ (s : Ty) (g : Ty → Bool) (f : Ty → Compared) (no : (u : Ty) → g (nullable u) ≡ false) (h : (t : Ty) → Right (parts_ty s) (parts_ty t) (g t) (f t)) where
  as_ref : (t : Ty) → Right (parts_ty s) (parts_ty t) (g t || false) (f t)
  as_ref t = says_same (h t) (or-false (g t))

  reached_right : (down : Bool) (t : Ty) → Right (parts_ty s) (parts_ty t) (or_nullable down g t) (reached down f t)
  unfolding parts_ty
  reached_right false t = as_ref t
  reached_right true int = as_ref int
  reached_right true bool = as_ref bool
  reached_right true string = as_ref string
  reached_right true void = as_ref void
  reached_right true (struct x) = as_ref (struct x)
  reached_right true (array u) = as_ref (array u)
  reached_right true (function us u) = as_ref (function us u)
  reached_right true (nullable u) = record { says = (h u).says ∙ sym (ap (λ a. a || g u) (no u)); few = omega (arith, (h u).few) }

  ref_agrees : (down : Bool) → Agrees s (ref_tests down g) (ref_pair down f)
  ref_agrees down = record { ref = h; typ = reached_right down; ret = reached_right down }

-- a nullable type: no test of a reference passes against a type that is none
module _ (s : Ty) (g : Ty → Bool) (f : Ty → Compared) (no : (t : Ty) → is_ref t ≡ false → g t ≡ false) (h : (t : Ty) → Right (parts_ty s) (parts_ty t) (g t) (f t)) (down : Bool) where
  closed : (t : Ty) → is_ref t ≡ false → Right (1 + parts_ty s) (parts_ty t) (not down && g t) (pair (plainly false))
  closed t k = says_same (alone (parts_ty s) t false) (and_right (not down) (g t) (no t k))

  turned : (d : Bool) (t : Ty) → Right (1 + parts_ty s) (parts_ty t) (not d && g t) (pair (pick d (plainly false) (f t)))
  turned true t = alone (parts_ty s) t false
  turned false t = record { says = (h t).says; few = omega (arith, (h t).few) }

  opened_right : (t : Ty) → Right (1 + parts_ty s) (parts_ty t) (or_plain down g t) (pair (opened down f t))
  unfolding parts_ty is_reference_kind
  opened_right int = closed int refl
  opened_right bool = closed bool refl
  opened_right void = closed void refl
  opened_right string = turned down string
  opened_right (struct x) = turned down (struct x)
  opened_right (array u) = turned down (array u)
  opened_right (function us u) = turned down (function us u)
  opened_right (nullable u) = says_same (more (h u)) (ap (λ a. g u || a) (and_right (not down) (g (nullable u)) (no (nullable u) refl)) ∙ or-false (g u))

  nullable_agrees : Agrees (nullable s) (nullable_tests down g) (nullable_pair down f)
  unfolding parts_ty
  nullable_agrees = record { ref = λ t. alone (parts_ty s) t false; typ = opened_right; ret = opened_right }

-- only references are compared as references
not_ref : (H : List Struct) (down : Bool) (s t : Ty) → is_ref t ≡ false → (tests H down s).ref t ≡ false
not_ref H true s t k = fails ((decides H s true).ref t) (λ r. false≢true (sym k ∙ ref_right r))
not_ref H false s t k = fails ((decides H s false).ref t) (λ r. false≢true (sym k ∙ ref_left r))

mutual
  unfolding comparison tests compare_same same_ty parts_ty

  agrees : (H : List Struct) (down : Bool) (s : Ty) → Agrees s (tests H down s) (comparison H down s)
  agrees H down int = record { ref = λ t. alone 0 t _; typ = λ t. alone 0 t _; ret = λ t. alone 0 t _ }
  agrees H down bool = record { ref = λ t. alone 0 t _; typ = λ t. alone 0 t _; ret = λ t. alone 0 t _ }
  agrees H down void = record { ref = λ t. alone 0 t _; typ = λ t. alone 0 t _; ret = λ t. alone 0 t _ }
  agrees H down string = ref_agrees string _ _ (λ u. refl) (λ t. alone 0 t _) down
  agrees H down (struct x) = ref_agrees (struct x) _ _ (λ u. refl) (λ t. alone 0 t _) down
  agrees H down (array s) = ref_agrees (array s) _ _ (λ u. refl) (same_right (array s)) down
  agrees H down (function ss s) =
      ref_agrees (function ss s) _ _ (λ u. refl)
      (λ t. (ifs (parts_tys ss + parts_ty s) t).function _ _ (λ us u. next ss us s u (all_agree H (not down) ss us) ((agrees H down s).ret u))) down
  agrees H down (nullable s) = nullable_agrees s (tests H down s).ref (comparison H down s).ref (not_ref H down s) (agrees H down s).ref down

  all_agree : (H : List Struct) (down : Bool) (ss ts : Tys) → RightAll ss ts (all_tests H down ss ts) (compare_all H down ss ts)
  all_agree H down no_ty ts = none ts
  all_agree H down (and_ty s ss) no_ty = one_short (and_ty s ss) no_ty
  all_agree H down (and_ty s ss) (and_ty t ts) = also ss ts s t ((agrees H down s).typ t) (all_agree H down ss ts)

-- the comparison says what the tests say
pub same_holds : (s t : Ty) → (compare_same s t).holds ≡ same_ty s t
same_holds s t = (same_right s t).says

pub sames_holds : (ss ts : Tys) → (compare_sames ss ts).holds ≡ same_tys ss ts
sames_holds ss ts = (sames_right ss ts).says

pub record Says (H : List Struct) (down : Bool) (t : Ty) : Type 0 where
  pub ref : (y : Ty) → ((comparison H down t).ref y).holds ≡ (tests H down t).ref y
  pub typ : (y : Ty) → ((comparison H down t).typ y).holds ≡ (tests H down t).typ y
  pub ret : (y : Ty) → ((comparison H down t).ret y).holds ≡ (tests H down t).ret y

pub compare_tests : (H : List Struct) (down : Bool) (t : Ty) → Says H down t
compare_tests H down t =
    let a = agrees H down t in
    record { ref = λ y. (a.ref y).says; typ = λ y. (a.typ y).says; ret = λ y. (a.ret y).says }

pub compare-all : (H : List Struct) (down : Bool) (ts ys : Tys) → (compare_all H down ts ys).holds ≡ all_tests H down ts ys
compare-all H down ts ys = (all_agree H down ts ys).says

-- it decides subtyping
pub compare_below : (H : List Struct) (s t : Ty) → (compare H s t).holds ≡ below H s t
unfolding compare below
compare_below H s t = ((agrees H true s).ret t).says

-- it compares at most the parts of both types minus 1
pub same_most : (s t : Ty) → (compare_same s t).pairs + 1 ≤ parts_ty s + parts_ty t
same_most s t = (same_right s t).few

pub below_most : (H : List Struct) (s t : Ty) → below_pairs H s t + 1 ≤ parts_ty s + parts_ty t
unfolding compare
below_most H s t = ((agrees H true s).ret t).few

-- a type against itself: it holds, and all its parts are compared
abbrev pub whole : ℕ → Compared
whole n = record { holds = true; pairs = n }

one_number : (ts : Tys) (c : Compared) → of_one_number ts ts c ≡ c
one_number ts c = rw (eq-eqb (length_tys ts) (length_tys ts) refl)

one_pair : (b : Bool) → b ≡ true → pair (plainly b) ≡ whole 1
one_pair b e = ap (λ a. pair (plainly a)) e

function_whole : (ts : Tys) {c d : Compared} {n m : ℕ} → c ≡ whole n → d ≡ whole m → pair (of_one_number ts ts (and_next c d)) ≡ whole (1 + (n + m))
function_whole ts e f = ap pair (one_number ts _ ∙ ap₂ and_next e f)

mutual
  unfolding compare_same parts_ty

  pub same_whole : (t : Ty) → compare_same t t ≡ whole (parts_ty t)
  same_whole int = refl
  same_whole bool = refl
  same_whole string = refl
  same_whole void = refl
  same_whole (struct x) = one_pair _ (eq-eqb x x refl)
  same_whole (array t) = ap pair (same_whole t)
  same_whole (function ts t) = function_whole ts (sames_whole ts) (same_whole t)
  same_whole (nullable t) = ap pair (same_whole t)

  pub sames_whole : (ts : Tys) → compare_sames ts ts ≡ whole (parts_tys ts)
  sames_whole no_ty = refl
  sames_whole (and_ty t ts) = ap₂ and_next (same_whole t) (sames_whole ts)

pub same_all : (t : Ty) → (compare_same t t).pairs ≡ parts_ty t
same_all t = ap (λ c. c.pairs) (same_whole t)

-- of a well-formed type, whose structs are all declared
pub record Self (t : Ty) (F : Forms) (C : Comparison) : Type 0 where
  pub ref : F.ref ≡ true → C.ref t ≡ whole (parts_ty t)
  pub typ : F.typ ≡ true → C.typ t ≡ whole (parts_ty t)
  pub ret : F.ret ≡ true → C.ret t ≡ whole (parts_ty t)

reached_plain : (down : Bool) (f : Ty → Compared) (t : Ty) → reached true f t ≡ f t → reached down f t ≡ f t
reached_plain true f t e = e
reached_plain false f t e = refl

ref_self : (down : Bool) (t : Ty) (d : Bool) (f : Ty → Compared) → reached true f t ≡ f t → (d ≡ true → f t ≡ whole (parts_ty t)) → Self t (all_forms d d d) (ref_pair down f)
ref_self down t d f p h = record { ref = h; typ = λ e. reached_plain down f t p ∙ h e; ret = λ e. reached_plain down f t p ∙ h e }

struct_self : (H : List Struct) (down : Bool) (x : ℕ) → is_found (lookup H x) ≡ true → pick down (struct_below H x x) (struct_below H x x) ≡ true
unfolding struct_below
struct_self H down x = go down (lookup H x)
  where
    go : (b : Bool) (l : Lookup) → is_found l ≡ true → (let c = on_found l λ ms. on_found l λ ns. begins_with ms ns in pick b c c) ≡ true
    go b missing e = absurd (false≢true e)
    go true (found fs) e = (begins_is fs fs).1 ([], sym (append-nil fs))
    go false (found fs) e = (begins_is fs fs).1 ([], sym (append-nil fs))

mutual
  unfolding comparison forms parts_ty

  pub self : (H : List Struct) (down : Bool) (t : Ty) → Self t (forms H t) (comparison H down t)
  self H down int = record { ref = λ e. absurd (false≢true e); typ = λ e. refl; ret = λ e. refl }
  self H down bool = record { ref = λ e. absurd (false≢true e); typ = λ e. refl; ret = λ e. refl }
  self H down void = record { ref = λ e. absurd (false≢true e); typ = λ e. absurd (false≢true e); ret = λ e. refl }
  self H down string = ref_self down string true _ refl (λ e. refl)
  self H down (struct x) = ref_self down (struct x) (is_found (lookup H x)) _ refl (λ e. one_pair _ (struct_self H down x e))
  self H down (array t) = ref_self down (array t) (forms H t).typ _ refl (λ e. ap pair (same_whole t))
  self H down (function ts t) =
      ref_self down (function ts t) (forms_all H ts && (forms H t).ret) _ refl
      (λ e. let (a, b) = and_parts (forms_all H ts) (forms H t).ret e in function_whole ts (all_self H (not down) ts a) ((self H down t).ret b))
  self H down (nullable t) = record {
    ref = λ e. absurd (false≢true e);
    typ = λ e. ap pair ((self H down t).ref e);
    ret = λ e. ap pair ((self H down t).ref e);
  }

  pub all_self : (H : List Struct) (down : Bool) (ts : Tys) → forms_all H ts ≡ true → compare_all H down ts ts ≡ whole (parts_tys ts)
  all_self H down no_ty e = refl
  all_self H down (and_ty t ts) e =
      let (a, b) = and_parts (forms H t).typ (forms_all H ts) e in
      ap₂ and_next ((self H down t).typ a) (all_self H down ts b)

pub below_exact : (H : List Struct) (t : Ty) → is_formed H t ≡ true → below_pairs H t t ≡ parts_ty t
unfolding compare is_formed
below_exact H t e = ap (λ c. c.pairs) ((self H true t).ret e)
