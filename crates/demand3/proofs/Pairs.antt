-- The pairs of types that the check of a file compares (document 02, (viii)), for one who has the outcome: where the buffers are long enough
-- they are those that the definition's steps compare (`outcome_pairs`); at most 1,200 for each node (`outcome_pairs_most`); and none where
-- the file is refused under 25 or 1 to 6 (`outcome_pairs_none`). Assumes nothing.
use mathlib.Core.Path.{◌≡◌, refl, ap, ◌∙◌}
use mathlib.Core.Bool.{true}
use mathlib.Core.List.{List}
use mathlib.Core.Logic.{◌⊎◌, ⊎_elim}
use Prim.Native.Nat.{ℕ, ◌*◌, ◌≤◌}
use native.Mathlib.Omega.{arith}
use lib.ListN.{length}
use Rattle.oat.specs.ProgramFile.{Limits, in_range, Program, IsFile}
use Rattle.oat.proofs.LawsLimits.{within_widest, wider}
use Rattle.program_file.proofs.Theorem.{one_program}
use Rattle.typing_rules.proofs.LawsPairs.{check_pairs, sum_most}
use Rattle.demand3.specs.CheckFile.{needed, Outcome, Checks, unreadable, rows_short, work_short, checked}
use Rattle.demand3.proofs.Theorem.{fits, sum_of, outcome_is, check_numbers}

module _ (limits : Limits) (bytes rows work : List ℕ) where
  pub outcome_pairs : in_range limits ≡ true → (p : Program) → IsFile limits bytes p → needed p ≤ length rows → needed p ≤ length work → (o : Outcome) → Checks limits bytes rows work o
      → o.pairs ≡ sum_of p
  outcome_pairs i p f l k o c = ap (λ u. u.pairs) (outcome_is limits bytes rows work i p f l k o c) ∙ check_pairs p

  pub outcome_pairs_most : (p : Program) → IsFile limits bytes p → (o : Outcome) → Checks limits bytes rows work o → o.pairs ≤ 1200 * length p.tables.nodes
  outcome_pairs_most p f o (unreadable n e) = omega arith
  outcome_pairs_most p f o (rows_short i q g l) = omega arith
  outcome_pairs_most p f o (work_short i q g l k) = omega arith
  outcome_pairs_most p f o (checked i q g l k) =
      let same = ap (λ (x : Program). length x.tables.nodes) (one_program limits bytes q p g f) in
      omega (arith, same, sum_most q (fits bytes q (wider (within_widest limits i) g)) g.used_up)

  pub outcome_pairs_none : (o : Outcome) → Checks limits bytes rows work o → (o.number ≡ 25) ⊎ ((1 ≤ o.number) × (o.number ≤ 6)) → o.pairs ≡ 0
  outcome_pairs_none o (unreadable n e) h = refl
  outcome_pairs_none o (rows_short i p f l) h = refl
  outcome_pairs_none o (work_short i p f l k) h = refl
  outcome_pairs_none o (checked i p f l k) h =
      absurd
      (⊎_elim
      (λ z. ⊎_elim (λ out. omega (arith, z, out)) (λ low. omega (arith, z, low.0)) h)
      (λ m. ⊎_elim (λ out. omega (arith, m.1, out)) (λ low. omega (arith, m.0, low.1)) h)
      (check_numbers p))
