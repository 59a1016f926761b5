-- The subtype question on zero bytes (document 02, (v)): it depends on the bytes that are meant alone (`subtype_meant`); with limits in range each
-- of types 0 to 3 is below itself and below no other, after one pair (`blank_below`), and from type 4 on it is 17 (`blank_lacks`). Assumes nothing.
use mathlib.Core.Path.{◌≡◌, refl, sym, ◌∙◌}
use mathlib.Core.Bool.{Bool, true, false, not, ◌&&◌}
use mathlib.Core.List.{List, []}
use mathlib.Core.Logic.{◌⊎◌, inl, inr, ⊎_elim}
use Prim.Native.Nat.{ℕ, ◌≤◌, ◌<◌}
use native.Mathlib.Omega.{arith}
use lib.Dec.{eqb, leb}
use Rattle.std.specs.Prelude.{Result, Err}
use borrow.Author.Tests.{le-leb, eqb-true}
use Rattle.oat.specs.Basics.{pick, all_below}
use Rattle.oat.specs.Types.{written, first_types, type_of}
use Rattle.oat.specs.Decide.{tests, below}
use Rattle.oat.specs.Pairs.{comparison, compare}
use Rattle.oat.specs.ProgramFile.{Limits, in_range, blank_tables, blank_program, meant}
use Rattle.oat.proofs.LawsBasics.{and_parts, all_at}
use Rattle.oat.proofs.LawsBlank.{meant_twice, blank_is_file}
use Rattle.program_file.proofs.Blank.{reading_meant}
use Rattle.subtyping.specs.Numbered.{below_at, pairs_at}
use Rattle.subtyping.specs.Question.{answered, ask_of, subtype_of}
use Rattle.subtyping.specs.declared.question.Answer.{Answer}
use Rattle.subtyping.specs.declared.question.Refusal.{Refusal}
use Rattle.subtyping.proofs.LawsQuestion.{question_asks, asked_yes}

pub subtype_meant : (limits : Limits) (s : List ℕ) (a b : ℕ) → subtype_of limits (meant s) a b ≡ subtype_of limits s a b
unfolding subtype_of
subtype_meant limits s a b = rw (reading_meant limits s, meant_twice s)

-- two tests that agree
abbrev agree : Bool → Bool → Bool
agree x y = pick x y (not y)

agreed : (x y : Bool) → agree x y ≡ true → x ≡ y
agreed true true e = refl
agreed true false e = sym e
agreed false true e = e
agreed false false e = refl

-- all pairs of the four types, computed
abbrev once : ℕ → ℕ → Bool
once a b = agree (below_at blank_tables a b) (eqb a b) && eqb (pairs_at blank_tables a b) 1

pairs : all_below 4 (λ a. all_below 4 (λ b. once a b)) ≡ true
unfolding all_below below tests compare comparison type_of written first_types
pairs = refl

four_types : (a b : ℕ) → a < 4 → b < 4 → (below_at blank_tables a b ≡ eqb a b) × (pairs_at blank_tables a b ≡ 1)
four_types a b h k =
    let (same, one) = and_parts _ _ (all_at 4 (once a) (all_at 4 (λ a. all_below 4 (once a)) pairs a h) b k) in
    (agreed _ _ same, eqb-true _ 1 one)

lacks : (x y : Bool) (r : Result Answer Refusal) → (x ≡ true) ⊎ (y ≡ true) → pick x (Err Refusal.NoType) (pick y (Err Refusal.NoType) r) ≡ Err Refusal.NoType
lacks true y r l = refl
lacks false true r l = refl
lacks false false r l = absurd (⊎_elim (λ e. let z : ◌≡◌ {A = ℕ} 0 1 = cc in omega arith) (λ e. let z : ◌≡◌ {A = ℕ} 0 1 = cc in omega arith) l)

module _ (limits : Limits) (range : in_range limits ≡ true) (a b : ℕ) where
  blank_asks : subtype_of limits [] a b ≡ ask_of blank_tables a b
  blank_asks = question_asks limits range [] blank_program a b (blank_is_file limits range)

  pub blank_below : a < 4 → b < 4 → subtype_of limits [] a b ≡ answered (eqb a b) 1
  blank_below h k = blank_asks ∙ asked_yes blank_tables a b h k ∙ rw ((four_types a b h k).0, (four_types a b h k).1)

  pub blank_lacks : (4 ≤ a) ⊎ (4 ≤ b) → subtype_of limits [] a b ≡ Err Refusal.NoType
  unfolding ask_of
  blank_lacks l = blank_asks ∙ lacks (leb 4 a) (leb 4 b) _ (⊎_elim (λ h. inl (le-leb 4 a h)) (λ h. inr (le-leb 4 b h)) l)
