-- Larger limits keep what smaller ones keep, and limits in range are within the widest. Assumes nothing.
use mathlib.Core.Path.{◌≡◌, refl}
use mathlib.Core.Bool.{Bool, true, false, ◌&&◌}
use mathlib.Core.List.{List}
use mathlib.Core.Logic.{◌⊎◌, inl, inr, ⊎_elim}
use Prim.Native.Nat.{ℕ, zero, suc, ◌≤◌, ◌<◌}
use native.Mathlib.Omega.{arith}
use native.Mathlib.Nat.{not-suc-le-zero}
use lib.ListN.{length}
use lib.Dec.{eqb, leb}
use borrow.Author.Tests.{le-leb, leb-true, leb-false}
use Rattle.oat.specs.Tables.{Tables, type_at}
use Rattle.oat.specs.TypeRules.{type_rule, parts_at, taken_before, each_type_right, types_right}
use Rattle.oat.specs.ProgramFile.{Limits, limits_of, from_one_to, in_range, widest, Within, Program, IsFile}
use Rattle.oat.proofs.LawsBasics.{and_parts, and_both, below_or_last, all_at, all_true}

-- in range, in numbers
pub record InRange (l : Limits) : Type 0 where
  pub some_parts : 1 ≤ l.parts
  pub parts : l.parts ≤ 200
  pub some_depth : 1 ≤ l.depth
  pub depth : l.depth ≤ 100

pub in-range : (l : Limits) → in_range l ≡ true → InRange l
unfolding in_range from_one_to
in-range l e =
    let (parts, depth) = and_parts (from_one_to 200 l.parts) (from_one_to 100 l.depth) e in
    let (a, b) = and_parts (leb 1 l.parts) (leb l.parts 200) parts in
    let (c, d) = and_parts (leb 1 l.depth) (leb l.depth 100) depth in
    record { some_parts = leb-true _ _ a; parts = leb-true _ _ b; some_depth = leb-true _ _ c; depth = leb-true _ _ d }

-- the ends of the two ranges, computed
pub parts_ends : (in_range (limits_of 0 1) ≡ false) × (in_range (limits_of 1 1) ≡ true) × (in_range (limits_of 200 1) ≡ true) × (in_range (limits_of 201 1) ≡ false)
unfolding in_range from_one_to
parts_ends = (refl, refl, refl, refl)

pub depth_ends : (in_range (limits_of 1 0) ≡ false) × (in_range (limits_of 1 1) ≡ true) × (in_range (limits_of 1 100) ≡ true) × (in_range (limits_of 1 101) ≡ false)
unfolding in_range from_one_to
depth_ends = (refl, refl, refl, refl)

-- so the widest limits are in range
pub widest_in_range : in_range widest ≡ true
unfolding in_range from_one_to
widest_in_range = refl

pub within_widest : (l : Limits) → in_range l ≡ true → Within l widest
within_widest l e = let r = in-range l e in record { parts = r.parts; depth = r.depth }

-- types that are right under one limit are right under another that each of them keeps
types_under : (p q : ℕ) (T : Tables) → types_right p T ≡ true → ((i : ℕ) → i < length T.types → parts_at T i ≤ p → parts_at T i ≤ q) → types_right q T ≡ true
unfolding types_right each_type_right
types_under p q T e keeps =
    let (four, each) = and_parts (leb 4 (length T.types)) _ e in
    let (all, used) = and_parts _ (eqb (taken_before T (length T.types)) (length T.list)) each in
    and_both _ _ four (and_both _ _
    (all_true (length T.types) (λ i. type_rule T i (type_at T i) && leb (parts_at T i) q) (λ i l.
    let (rule, few) = and_parts (type_rule T i (type_at T i)) (leb (parts_at T i) p) (all_at (length T.types) (λ i. type_rule T i (type_at T i) && leb (parts_at T i) p) all i l) in
    and_both _ _ rule (le-leb (parts_at T i) q (keeps i l (leb-true (parts_at T i) p few))))) used)

pub types_wider : (p q : ℕ) (T : Tables) → p ≤ q → types_right p T ≡ true → types_right q T ≡ true
types_wider p q T h e = types_under p q T e (λ i l few. omega arith)

-- among the first n types none has more than p parts, or one has
few_or_more : (p : ℕ) (T : Tables) (n : ℕ) → ((i : ℕ) → i < n → parts_at T i ≤ p) ⊎ ((i : ℕ) × (i < n) × (p < parts_at T i))
few_or_more p T zero = inl (λ i h. absurd (not-suc-le-zero h))
few_or_more p T (suc n) = ⊎_elim (λ few. go few (leb (parts_at T n) p) refl) (λ (i, h, more). inr (i, omega arith, more)) (few_or_more p T n)
  where
    go : ((i : ℕ) → i < n → parts_at T i ≤ p) → (b : Bool) → leb (parts_at T n) p ≡ b → ((i : ℕ) → i < suc n → parts_at T i ≤ p) ⊎ ((i : ℕ) × (i < suc n) × (p < parts_at T i))
    go few true e = inl (λ i h. below_or_last (λ j. parts_at T j ≤ p) n i h (few i) (leb-true _ _ e))
    go few false e = inr (n, omega arith, leb-false _ _ e)

-- where types are right under the larger limit alone, one has more parts than the smaller
pub more_parts : (p q : ℕ) (T : Tables) → types_right q T ≡ true → types_right p T ≡ false → (i : ℕ) × (i < length T.types) × (p < parts_at T i)
more_parts p q T e f =
    ⊎_elim (λ few. absurd (let right = types_under q p T e (λ i l h. few i l) in let z : ◌≡◌ {A = ℕ} 0 1 = cc in omega arith)) (λ more. more)
    (few_or_more p T (length T.types))

pub wider : {a b : Limits} {bytes : List ℕ} {p : Program} → Within a b → IsFile a bytes p → IsFile b bytes p
wider {a} {b} {bytes} {p} w f =
    record {
      layout = f.layout;
      counts = f.counts;
      types = types_wider a.parts b.parts p.tables w.parts f.types;
      tables = f.tables;
      stand = f.stand;
      used_up = f.used_up;
      deep = omega (arith, f.deep, w.depth);
    }
