-- The parts of a type counted over numbers are those of the type written out. Assumes nothing.
use mathlib.Core.Path.{◌≡◌, refl, ap, ap₂, sym, ◌∙◌}
use mathlib.Core.Bool.{Bool, true, false}
use mathlib.Core.List.{[]}
use Prim.Native.Nat.{ℕ, zero, suc, ◌+◌, ◌≤◌, ◌<◌}
use native.Mathlib.Nat.{not-suc-le-zero, add-zero}
use native.Mathlib.Omega.{arith}
use lib.ListN.{length, get_or, length-append, get_or-append}
use lib.Seq.{get_or_at}
use lib.Dec.{eqb}
use borrow.Author.Tests.{eqb-true}
use Rattle.oat.specs.Basics.{pick, sum_below}
use Rattle.oat.specs.Tables.{Tables, type_at, entry_at}
use Rattle.oat.specs.TypeRules.{kind_at, parts_of, first_parts, parts_at}
use Rattle.oat.specs.Types.{Ty, int, bool, string, void, struct, written_params, written, first_types, type_of}
use Rattle.oat.specs.Pairs.{parts_ty, parts_tys}
use Rattle.oat.proofs.LawsBasics.{sum_front, below_or_last}
use Rattle.oat.proofs.LawsTypes.{TypesFormed}
use Rattle.oat.proofs.LawsWritten.{first_at}

-- a type that refers to no other
one_part : (b c d e : Bool) (x : ℕ) → 1 ≡ parts_ty (pick b int (pick c bool (pick d string (pick e (struct x) void))))
unfolding parts_ty
one_part true c d e x = refl
one_part false true d e x = refl
one_part false false true e x = refl
one_part false false false true x = refl
one_part false false false false x = refl

-- `at` writes lower types out, and the parts of each are known
module _ (at : ℕ → Ty) (T : Tables) where
  pub params-parts : (g : ℕ → ℕ) (first count : ℕ) → ((j : ℕ) → j < count → g j ≡ parts_ty (at (entry_at T (first + j)))) → sum_below count g ≡ parts_tys (written_params at T first count)
  unfolding parts_ty written_params sum_below
  params-parts g first zero h = refl
  params-parts g first (suc count) h =
      sum_front count g
      ∙ ap₂ (λ x y. x + y) (h 0 (omega arith) ∙ ap (λ k. parts_ty (at (entry_at T k))) (add-zero first))
      (params-parts (λ j. g (suc j)) (suc first) count (λ j l. h (suc j) (omega arith) ∙ ap (λ k. parts_ty (at (entry_at T k))) (shift j)))
    where
      shift : (j : ℕ) → first + suc j ≡ suc first + j
      shift j = omega arith

  module _ {parts : ℕ} (F : TypesFormed parts T) (i : ℕ) (h : i < length T.types) (part : ℕ → ℕ) (same : (j : ℕ) → j < i → part j ≡ parts_ty (at j)) where
    abbrev Same : Type 0
    Same = parts_of part T (type_at T i) ≡ parts_ty (written at T (type_at T i))

    same_parts : Same
    unfolding parts_of written parts_ty
    same_parts = five (eqb (kind_at T i) 5) refl
      where
        seven : (b : Bool) → eqb (kind_at T i) 5 ≡ false → eqb (kind_at T i) 6 ≡ false → eqb (kind_at T i) 7 ≡ b → Same
        seven true e f g =
            let k : kind_at T i ≡ 7 = eqb-true _ _ g in
            rw k (ap (λ n. 1 + n) (same _ (F.nullable i h k).lower))
        seven false e f g =
            let k = kind_at T i in
            rw (e, f, g) (one_part (eqb k 0) (eqb k 1) (eqb k 2) (eqb k 4) (type_at T i).a)

        six : (b : Bool) → eqb (kind_at T i) 5 ≡ false → eqb (kind_at T i) 6 ≡ b → Same
        six true e f =
            let k : kind_at T i ≡ 6 = eqb-true _ _ f in
            let r = F.function i h k in
            let params = params-parts (λ j. part (entry_at T ((type_at T i).b + j))) (type_at T i).b (type_at T i).c (λ j l. same _ (r.parameter j l).lower) in
            rw k (omega (arith, same _ r.returns, params))
        six false e f = seven (eqb (kind_at T i) 7) e f refl

        five : (b : Bool) → eqb (kind_at T i) 5 ≡ b → Same
        five true e =
            let k : kind_at T i ≡ 5 = eqb-true _ _ e in
            rw k (ap (λ n. 1 + n) (same _ (F.array i h k).lower))
        five false e = six (eqb (kind_at T i) 6) e refl

-- front to back
first_long : (T : Tables) (n : ℕ) → length (first_parts T n) ≡ n
unfolding first_parts
first_long T zero = refl
first_long T (suc n) = rw length-append (omega (arith, first_long T n))

module _ {parts : ℕ} (T : Tables) (F : TypesFormed parts T) where
  parts_from : (i : ℕ) → i < length T.types → ((j : ℕ) → j < i → get_or (first_parts T i) j 0 ≡ parts_ty (type_of T j)) → parts_at T i ≡ parts_ty (type_of T i)
  unfolding parts_at type_of
  parts_from i h f = same_parts (λ j. get_or (first_types T i) j void) T F i h (λ j. get_or (first_parts T i) j 0) (λ j l. f j l ∙ ap parts_ty (sym (first_at T i j l)))

  first-parts : (n : ℕ) → n ≤ length T.types → (j : ℕ) → j < n → get_or (first_parts T n) j 0 ≡ parts_ty (type_of T j)
  unfolding first_parts parts_at
  first-parts zero h j l = absurd (not-suc-le-zero l)
  first-parts (suc n) h j l =
      let lower = first-parts n (omega arith) in
      below_or_last (λ k. get_or (first_parts T (suc n)) k 0 ≡ parts_ty (type_of T k)) n j l
      (λ k. get_or-append (first_parts T n) _ 0 j (rw (first_long T n) k) ∙ lower j k)
      (get_or_at (first_parts T n) _ [] 0 n (first_long T n) ∙ parts_from n (omega arith) lower)

pub parts_written : {parts : ℕ} (T : Tables) → TypesFormed parts T → (i : ℕ) → i < length T.types → parts_at T i ≡ parts_ty (type_of T i)
parts_written T F i h = parts_from T F i h (first-parts T F i (omega arith))
