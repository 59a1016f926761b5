-- A comparison may be turned round: the comparison of s with t is that of t with s, from the other side. The definition keeps the two in
-- order and turns `down` for parameters; code that always asks whether the left one is below the right one exchanges them instead.
-- Assumes nothing.
use mathlib.Core.Path.{◌≡◌, refl, ap, ap₂, sym, subst}
use mathlib.Core.Bool.{Bool, true, false, not}
use mathlib.Core.List.{List}
use Prim.Native.Nat.{ℕ}
use lib.Dec.{eqb}
use borrow.Author.Tests.{eqb-true, eq-eqb}
use Rattle.oat.specs.Basics.{pick}
use Rattle.oat.specs.Types.{Ty, int, bool, string, void, struct, array, function, nullable, Tys, no_ty, and_ty, Struct}
use Rattle.oat.specs.Decide.{struct_below}
use Rattle.oat.specs.Pairs.{Compared, plainly, pair, and_next, length_tys, of_one_number, compare_same, compare_sames, comparison, compare_all}
use Rattle.oat.proofs.LawsSame.{both_true}

-- one case for each kind
pub each : (P : Ty → Type 0) → P int → P bool → P string → P void → ((x : ℕ) → P (struct x)) → ((u : Ty) → P (array u))
    → ((us : Tys) (u : Ty) → P (function us u)) → ((u : Ty) → P (nullable u)) → (t : Ty) → P t
each P i b s v x a f n int = i
each P i b s v x a f n bool = b
each P i b s v x a f n string = s
each P i b s v x a f n void = v
each P i b s v x a f n (struct z) = x z
each P i b s v x a f n (array u) = a u
each P i b s v x a f n (function us u) = f us u
each P i b s v x a f n (nullable u) = n u

eqb_turn : (x y : ℕ) → eqb x y ≡ eqb y x
eqb_turn x y = both_true (eqb x y) (eqb y x) (λ e. eq-eqb y x (sym (eqb-true x y e)), λ e. eq-eqb x y (sym (eqb-true y x e)))

pick_turn : (down a b : Bool) → pick down a b ≡ pick (not down) b a
pick_turn true a b = refl
pick_turn false a b = refl

-- parameters, then the return type
function_turn : (ts us : Tys) {c d e f : Compared} → c ≡ d → e ≡ f → pair (of_one_number ts us (and_next c e)) ≡ pair (of_one_number us ts (and_next d f))
function_turn ts us p q = ap₂ (λ b c. pair (pick b c (plainly false))) (eqb_turn (length_tys ts) (length_tys us)) (ap₂ and_next p q)

mutual
  unfolding compare_same

  pub same_turn : (s t : Ty) → compare_same s t ≡ compare_same t s
  same_turn int = each _ refl refl refl refl (λ z. refl) (λ u. refl) (λ us u. refl) (λ u. refl)
  same_turn bool = each _ refl refl refl refl (λ z. refl) (λ u. refl) (λ us u. refl) (λ u. refl)
  same_turn string = each _ refl refl refl refl (λ z. refl) (λ u. refl) (λ us u. refl) (λ u. refl)
  same_turn void = each _ refl refl refl refl (λ z. refl) (λ u. refl) (λ us u. refl) (λ u. refl)
  same_turn (struct x) =
      each _ refl refl refl refl (λ z. ap (λ b. pair (plainly b)) (eqb_turn x z)) (λ u. refl) (λ us u. refl) (λ u. refl)
  same_turn (array s) = each _ refl refl refl refl (λ z. refl) (λ u. ap pair (same_turn s u)) (λ us u. refl) (λ u. refl)
  same_turn (function ss s) =
      each _ refl refl refl refl (λ z. refl) (λ u. refl) (λ us u. function_turn ss us (sames_turn ss us) (same_turn s u)) (λ u. refl)
  same_turn (nullable s) = each _ refl refl refl refl (λ z. refl) (λ u. refl) (λ us u. refl) (λ u. ap pair (same_turn s u))

  pub sames_turn : (ss ts : Tys) → compare_sames ss ts ≡ compare_sames ts ss
  sames_turn no_ty no_ty = refl
  sames_turn no_ty (and_ty t ts) = refl
  sames_turn (and_ty s ss) no_ty = refl
  sames_turn (and_ty s ss) (and_ty t ts) = ap₂ and_next (same_turn s t) (sames_turn ss ts)

-- the three comparisons of s with t are those of t with s, from the other side
pub record Turns (H : List Struct) (down : Bool) (s t : Ty) : Type 0 where
  pub ref : (comparison H down s).ref t ≡ (comparison H (not down) t).ref s
  pub typ : (comparison H down s).typ t ≡ (comparison H (not down) t).typ s
  pub ret : (comparison H down s).ret t ≡ (comparison H (not down) t).ret s

abbrev RefTurns : List Struct → Bool → Ty → Ty → Type 0
RefTurns H down s t = (comparison H down s).ref t ≡ (comparison H (not down) t).ref s

-- a type without its outer nullable
abbrev bare : Ty → Ty
bare int = int
bare bool = bool
bare string = string
bare void = void
bare (struct x) = struct x
bare (array t) = array t
bare (function ts t) = function ts t
bare (nullable t) = t

twice : {A : Type 0} → A → A × A
twice a = (a, a)

-- as types and as return types, where s is the left one: it follows from the references
down_turn : (H : List Struct) (s t : Ty) → RefTurns H true (bare s) (bare t)
    → ((comparison H true s).typ t ≡ (comparison H false t).typ s) × ((comparison H true s).ret t ≡ (comparison H false t).ret s)
unfolding comparison
down_turn H int =
    each _ (λ h. (refl, refl)) (λ h. (refl, refl)) (λ h. (refl, refl)) (λ h. (refl, refl)) (λ z h. (refl, refl)) (λ u h. (refl, refl)) (λ us u h. (refl, refl)) (λ u h. (refl, refl))
down_turn H bool =
    each _ (λ h. (refl, refl)) (λ h. (refl, refl)) (λ h. (refl, refl)) (λ h. (refl, refl)) (λ z h. (refl, refl)) (λ u h. (refl, refl)) (λ us u h. (refl, refl)) (λ u h. (refl, refl))
down_turn H void =
    each _ (λ h. (refl, refl)) (λ h. (refl, refl)) (λ h. (refl, refl)) (λ h. (refl, refl)) (λ z h. (refl, refl)) (λ u h. (refl, refl)) (λ us u h. (refl, refl)) (λ u h. (refl, refl))
down_turn H string =
    each _ (λ h. (refl, refl)) (λ h. (refl, refl)) twice (λ h. (refl, refl)) (λ z. twice) (λ u. twice) (λ us u. twice) (λ u h. twice (ap pair h))
down_turn H (struct x) =
    each _ (λ h. (refl, refl)) (λ h. (refl, refl)) twice (λ h. (refl, refl)) (λ z. twice) (λ u. twice) (λ us u. twice) (λ u h. twice (ap pair h))
down_turn H (array s) =
    each _ (λ h. (refl, refl)) (λ h. (refl, refl)) twice (λ h. (refl, refl)) (λ z. twice) (λ u. twice) (λ us u. twice) (λ u h. twice (ap pair h))
down_turn H (function ss s) =
    each _ (λ h. (refl, refl)) (λ h. (refl, refl)) twice (λ h. (refl, refl)) (λ z. twice) (λ u. twice) (λ us u. twice) (λ u h. twice (ap pair h))
down_turn H (nullable s) =
    each _ (λ h. (refl, refl)) (λ h. (refl, refl)) (λ h. (refl, refl)) (λ h. (refl, refl)) (λ z h. (refl, refl)) (λ u h. (refl, refl)) (λ us u h. (refl, refl)) (λ u h. twice (ap pair h))

-- where it is the right one, t is the left one
turns : (H : List Struct) (down : Bool) (s t : Ty) → RefTurns H down s t → RefTurns H down (bare s) (bare t) → Turns H down s t
turns H true s t h k = let (p, q) = down_turn H s t k in record { ref = h; typ = p; ret = q }
turns H false s t h k = let (p, q) = down_turn H t s (sym k) in record { ref = h; typ = sym p; ret = sym q }

-- a type that isn't nullable
plain_turn : (H : List Struct) (down : Bool) (s : Ty) → s ≡ bare s → ((t : Ty) → RefTurns H down s t) → (t : Ty) → Turns H down s t
plain_turn H down s e h t = turns H down s t (h t) (subst (λ r. RefTurns H down r (bare t)) e (h (bare t)))

mutual
  unfolding comparison

  pub compare_turn : (H : List Struct) (down : Bool) (s t : Ty) → Turns H down s t
  compare_turn H down int t = plain_turn H down int refl (each _ refl refl refl refl (λ z. refl) (λ u. refl) (λ us u. refl) (λ u. refl)) t
  compare_turn H down bool t = plain_turn H down bool refl (each _ refl refl refl refl (λ z. refl) (λ u. refl) (λ us u. refl) (λ u. refl)) t
  compare_turn H down string t = plain_turn H down string refl (each _ refl refl refl refl (λ z. refl) (λ u. refl) (λ us u. refl) (λ u. refl)) t
  compare_turn H down void t = plain_turn H down void refl (each _ refl refl refl refl (λ z. refl) (λ u. refl) (λ us u. refl) (λ u. refl)) t
  compare_turn H down (struct x) t =
      plain_turn H down (struct x) refl (each _ refl refl refl refl
      (λ z. ap (λ b. pair (plainly b)) (pick_turn down (struct_below H x z) (struct_below H z x))) (λ u. refl) (λ us u. refl) (λ u. refl)) t
  compare_turn H down (array s) t =
      plain_turn H down (array s) refl (each _ refl refl refl refl (λ z. refl) (λ u. ap pair (same_turn s u)) (λ us u. refl) (λ u. refl)) t
  compare_turn H down (function ss s) t =
      plain_turn H down (function ss s) refl (each _ refl refl refl refl (λ z. refl) (λ u. refl)
      (λ us u. function_turn ss us (all_turn H (not down) ss us) (compare_turn H down s u).ret) (λ u. refl)) t
  compare_turn H down (nullable s) t =
      turns H down (nullable s) t (each (RefTurns H down (nullable s)) refl refl refl refl (λ z. refl) (λ u. refl) (λ us u. refl) (λ u. refl) t)
      (compare_turn H down s (bare t)).ref

  pub all_turn : (H : List Struct) (down : Bool) (ss ts : Tys) → compare_all H down ss ts ≡ compare_all H (not down) ts ss
  all_turn H down no_ty no_ty = refl
  all_turn H down no_ty (and_ty t ts) = refl
  all_turn H down (and_ty s ss) no_ty = refl
  all_turn H down (and_ty s ss) (and_ty t ts) = ap₂ and_next (compare_turn H down s t).typ (all_turn H down ss ts)

-- the parameters of a function that is the left one
pub params_turn : (H : List Struct) (ts us : Tys) → compare_all H false ts us ≡ compare_all H true us ts
params_turn H ts us = all_turn H false ts us
