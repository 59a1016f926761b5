-- A call of `check` on zero bytes, and on one byte, with limits in range (document 02, (v)): the answer is 0 0 0, or 1 0 0, no pairs are compared, and no buffer changes
-- (`check_blank`, `check_one_byte`). Assumes nothing.
use mathlib.Core.Path.{◌≡◌, ap}
use mathlib.Core.Bool.{true}
use mathlib.Core.List.{List, [], ◌∷◌}
use mathlib.Core.Logic.{inr}
use Prim.Native.Nat.{ℕ}
use native.Mathlib.Omega.{arith}
use Rattle.oat.specs.ProgramFile.{Limits, in_range, blank_program}
use Rattle.oat.proofs.LawsBlank.{blank_is_file}
use Rattle.demand3.specs.CheckFile.{Outcome}
use Rattle.demand3.proofs.Blank.{blank_only, one_byte_only}
use Rattle.typing.specs.declared.check.Answer.{Answer}
use Rattle.typing.specs.Check.{outcome_of, Checked}

-- the answer in an outcome
answer_in : Outcome → Answer
answer_in o = record { number = o.number; step = o.step; place = o.place; pairs = o.pairs }

module _ (limits : Limits) (range : in_range limits ≡ true) {R W R' W' : List ℕ} {r : Answer} where
  pub check_blank : Checked limits [] R W R' W' r → (r ≡ record { number = 0; step = 0; place = 0; pairs = 0 }) × (R' ≡ R) × (W' ≡ W)
  unfolding answer_in
  check_blank c =
      let is = blank_only limits range R W (outcome_of r R') c.checks in
      (ap answer_in is, ap (λ o. o.rows) is, c.rest blank_program (blank_is_file limits range))

  pub check_one_byte : (b : ℕ) → Checked limits (b ∷ []) R W R' W' r → (r ≡ record { number = 1; step = 0; place = 0; pairs = 0 }) × (R' ≡ R) × (W' ≡ W)
  unfolding answer_in
  check_one_byte b c =
      let is = one_byte_only limits range b R W (outcome_of r R') c.checks in
      let one : r.number ≡ 1 = ap (λ o. o.number) is in
      (ap answer_in is, ap (λ o. o.rows) is, c.unchanged (inr (omega arith, omega arith)))
