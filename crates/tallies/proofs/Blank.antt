-- A call of `tally` on zero bytes, with limits in range (document 02, (iv) and (v)): four zeros by type and none by declaration, with the answer
-- 0 0 0, rows and work as they were; 19 where the tally by type has fewer than four numbers (`tally_blank`, `tally_blank_short`). Assumes
-- nothing.
use mathlib.Core.Path.{◌≡◌, refl, ap}
use mathlib.Core.Bool.{true}
use mathlib.Core.List.{List, [], ◌∷◌}
use mathlib.Core.Logic.{⊎_elim}
use Prim.Native.Nat.{ℕ, ◌≤◌, ◌<◌}
use native.Mathlib.Omega.{arith}
use lib.ListN.{length, drop}
use Rattle.oat.specs.Basics.{sum_below, tabulate}
use Rattle.oat.specs.ProgramFile.{Limits, in_range, blank_program}
use Rattle.oat.proofs.LawsBlank.{blank_is_file}
use Rattle.typing.specs.declared.check.Answer.{Answer as CheckAnswer}
use Rattle.typing.proofs.Blank.{check_blank}
use Rattle.tallies.specs.declared.Answer.{Answer}
use Rattle.tallies.specs.Tallies.{count_below, by_type, by_declaration}
use Rattle.tallies.specs.Tally.{answer, same_answer, AfterAcceptance, short, tallied, Tallied}

-- after acceptance, with the check's answer 0 0 0
blank_tallies : {c : CheckAnswer} {R A B A' B' : List ℕ} {r : Answer} → AfterAcceptance blank_program c R A B r A' B' → same_answer c ≡ answer 0 0 0 → 4 ≤ length A
    → (r ≡ answer 0 0 0) × (A' ≡ 0 ∷ 0 ∷ 0 ∷ 0 ∷ drop 4 A) × (B' ≡ B)
unfolding by_type by_declaration count_below sum_below tabulate
blank_tallies (short h) e l = absurd (⊎_elim (λ x. omega (arith, x, l)) (λ x. omega (arith, x)) h)
blank_tallies (tallied h k) e l = (e, refl, refl)

blank_short : {c : CheckAnswer} {R A B A' B' : List ℕ} {r : Answer} → AfterAcceptance blank_program c R A B r A' B' → length A < 4
    → (r ≡ answer 19 0 0) × (A' ≡ A) × (B' ≡ B)
blank_short (short h) l = (refl, refl, refl)
blank_short (tallied h k) l = absurd (omega (arith, h, l))

module _ (limits : Limits) (range : in_range limits ≡ true) {R W A B R' W' A' B' : List ℕ} {r : Answer} (t : Tallied limits [] R W A B R' W' A' B' r) where
  accepts : t.check ≡ record { number = 0; step = 0; place = 0; pairs = 0 }
  accepts = (check_blank limits range t.checked).0

  its_tallies : AfterAcceptance blank_program t.check R' A B r A' B'
  its_tallies = t.accepted (ap (λ (c : CheckAnswer). c.number) accepts) blank_program (blank_is_file limits range)

  pub tally_blank : 4 ≤ length A → (r ≡ answer 0 0 0) × (A' ≡ 0 ∷ 0 ∷ 0 ∷ 0 ∷ drop 4 A) × (B' ≡ B) × (R' ≡ R) × (W' ≡ W)
  tally_blank l =
      let (a, b, c) = blank_tallies its_tallies (ap same_answer accepts) l in
      let (d, e, f) = check_blank limits range t.checked in
      (a, b, c, e, f)

  pub tally_blank_short : length A < 4 → (r ≡ answer 19 0 0) × (A' ≡ A) × (B' ≡ B) × (R' ≡ R) × (W' ≡ W)
  tally_blank_short l =
      let (a, b, c) = blank_short its_tallies l in
      let (d, e, f) = check_blank limits range t.checked in
      (a, b, c, e, f)
