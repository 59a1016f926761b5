-- Two calls of `check` on the same file, the second under limits at least those of the first in both (document 02, (xi)). With the same rows
-- and work, acceptance, 6 and a typing refusal come with the same answer and the same rows (`check_grows`), and what else may differ is
-- told (`check_moves`); with any that are long enough, a file that the first reads has the same answer and the same rows of its nodes
-- (`check_anywhere`). Assumes nothing.
use mathlib.Core.Path.{◌≡◌}
use mathlib.Core.Bool.{true}
use mathlib.Core.List.{List}
use Prim.Native.Nat.{ℕ, ◌≤◌}
use lib.ListN.{length}
use Rattle.oat.specs.ProgramFile.{Limits, in_range, Within, Program, IsFile}
use Rattle.program_file.proofs.Theorem.{Bytes}
use Rattle.demand3.specs.CheckFile.{needed}
use Rattle.demand3.specs.Growth.{Lasting, SameAnswer, Moves}
use Rattle.demand3.proofs.Theorem.{one_outcome}
use Rattle.demand3.proofs.Growth.{grow, grow_anywhere, moves}
use Rattle.typing.specs.declared.check.Answer.{Answer}
use Rattle.typing.specs.Check.{outcome_of, Checked}

module _ {a b : Limits} {F R W R₁ W₁ R₂ W₂ : List ℕ} {r q : Answer} (range : in_range b ≡ true) (w : Within a b) (first : Checked a F R W R₁ W₁ r) (second : Checked b F R W R₂ W₂ q) where
  pub check_grows : Lasting r.number → outcome_of r R₁ ≡ outcome_of q R₂
  check_grows k = one_outcome b F R W _ _ (grow a b range w F R W _ first.checks k) second.checks

  pub check_moves : in_range a ≡ true → Bytes F → Moves a b F (outcome_of r R₁) (outcome_of q R₂)
  check_moves narrow y = moves a b narrow range w F y R W _ _ first.checks second.checks

pub check_anywhere : {a b : Limits} {F R W P Q R₁ W₁ R₂ W₂ : List ℕ} {r q : Answer} → in_range a ≡ true → in_range b ≡ true → Within a b
    → Checked a F R W R₁ W₁ r → Checked b F P Q R₂ W₂ q
    → (p : Program) → IsFile a F p → needed p ≤ length R → needed p ≤ length W → needed p ≤ length P → needed p ≤ length Q
    → SameAnswer p (outcome_of r R₁) (outcome_of q R₂)
check_anywhere {a} {b} {F} {R} {W} {P} {Q} narrow range w first second p f l k m n =
    grow_anywhere a b range w F R W P Q p f narrow l k m n _ _ first.checks second.checks
