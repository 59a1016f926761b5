-- Blocks that bind no name twice (document 02, (vi)), for one who has the outcome of a file: an accepted file has no other (`outcome_distinct`),
-- and a refusal under 7 is where `SevenAt` says (`outcome_seven`). Assumes nothing.
use mathlib.Core.Path.{◌≡◌, refl, ap, sym, subst, ◌∙◌}
use mathlib.Core.Bool.{true}
use mathlib.Core.List.{List}
use Prim.Native.Nat.{ℕ, ◌≤◌}
use native.Mathlib.Omega.{arith}
use lib.ListN.{length, get_or}
use Rattle.oat.specs.ProgramFile.{Limits, in_range, Program, IsFile}
use Rattle.typing_rules.specs.Steps.{struct_name, steps_of}
use Rattle.typing_rules.specs.Check.{Ran, accepted, refused, answer_of, check_of}
use Rattle.typing_rules.specs.Blocks.{distinct_decls, SevenAt}
use Rattle.typing_rules.proofs.Theorem.{run_of}
use Rattle.typing_rules.proofs.LawsNumbers.{refused_number}
use Rattle.typing_rules.proofs.Blocks.{distinct-accepted, seven_at}
use Rattle.demand3.specs.CheckFile.{needed, Outcome, Checks}
use Rattle.demand3.proofs.Theorem.{sum_of, outcome_is}

-- of the definition's answer
distinct_accepted : (p : Program) → (check_of p).number ≡ 0 → distinct_decls p.declarations ≡ true
unfolding check_of
distinct_accepted p e = go (run_of p) refl e
  where
    go : (r : Ran) → run_of p ≡ r → (answer_of p (sum_of p) r).number ≡ 0 → distinct_decls p.declarations ≡ true
    go (accepted gs k) h z = distinct-accepted p gs k h
    go (refused m j q) h z = absurd (omega (arith, z, (refused_number p m j q h).0))

seven_of : (p : Program) → (check_of p).number ≡ 7 → SevenAt (get_or (steps_of p) (check_of p).step (struct_name 0)) (check_of p).place
unfolding check_of
seven_of p e = go (run_of p) refl e
  where
    go : (r : Ran) → run_of p ≡ r → (answer_of p (sum_of p) r).number ≡ 7 → SevenAt (get_or (steps_of p) (answer_of p (sum_of p) r).step (struct_name 0)) (answer_of p (sum_of p) r).place
    go (accepted gs k) h z = absurd (omega (arith, z))
    go (refused m j q) h z = seven_at p j q (h ∙ ap (λ n. refused n j q) z)

module _ {limits : Limits} {bytes rows work : List ℕ} (range : in_range limits ≡ true) (p : Program) (file : IsFile limits bytes p)
    (long : needed p ≤ length rows) (long-too : needed p ≤ length work) {o : Outcome} (checks : Checks limits bytes rows work o) where
  pub outcome_distinct : o.number ≡ 0 → distinct_decls p.declarations ≡ true
  outcome_distinct e = distinct_accepted p (sym (ap (λ u. u.number) (outcome_is limits bytes rows work range p file long long-too o checks)) ∙ e)

  pub outcome_seven : o.number ≡ 7 → SevenAt (get_or (steps_of p) o.step (struct_name 0)) o.place
  outcome_seven e =
      let is = outcome_is limits bytes rows work range p file long long-too o checks in
      subst (λ u. SevenAt (get_or (steps_of p) u.step (struct_name 0)) u.place) (sym is) (seven_of p (sym (ap (λ u. u.number) is) ∙ e))
