-- A call of `check` (document 02, (i)): in a file that it accepts the row of each statement, block and function has the mark that the text of the
-- program tells (`check_marks`); and a refusal under 14 is at a statement that returns and is not the last of its block, or is a for's step, or
-- at a function whose block may go on, by the text too (`check_fourteen`). Assumes nothing.
use mathlib.Core.Path.{◌≡◌}
use mathlib.Core.Bool.{true}
use mathlib.Core.List.{List}
use Prim.Native.Nat.{ℕ, ◌*◌, ◌≤◌}
use lib.ListN.{length, get_or}
use Rattle.oat.specs.ProgramFile.{Limits, in_range, Program, IsFile}
use Rattle.oat.specs.Marks.{mark_of, EachMark, decl_marks}
use Rattle.typing_rules.specs.Steps.{struct_name, steps_of}
use Rattle.typing_rules.specs.Marks.{FourteenAt}
use Rattle.demand3.specs.CheckFile.{needed}
use Rattle.demand3.proofs.Marks.{outcome_marks, outcome_fourteen}
use Rattle.typing.specs.declared.check.Answer.{Answer}
use Rattle.typing.specs.Check.{Checked, Demands}

pub check_marks : {limits : Limits} {F R W R' : List ℕ} {r : Answer} → Demands limits F R W R' r → in_range limits ≡ true → (p : Program) → IsFile limits F p
    → needed p ≤ length R → needed p ≤ length W → r.number ≡ 0
    → EachMark (λ k. get_or R' (2 * k.node) 65535 ≡ mark_of k.returns) (decl_marks 0 p.declarations)
check_marks d range p file rows work e = outcome_marks (d.demand3 range p file rows work) e

pub check_fourteen : {limits : Limits} {F R W R' W' : List ℕ} {r : Answer} → Checked limits F R W R' W' r → in_range limits ≡ true → (p : Program) → IsFile limits F p
    → needed p ≤ length R → needed p ≤ length W → r.number ≡ 14 → FourteenAt (get_or (steps_of p) r.step (struct_name 0)) r.place
check_fourteen called range p file long long-too e = outcome_fourteen range p file long long-too called.checks e
