-- A call of `check` that accepts a file (document 02, (i)): the row of each while has the mark that its place and its condition tell
-- (`check_while`). Assumes nothing.
use mathlib.Core.Path.{◌≡◌}
use mathlib.Core.Bool.{Bool, true}
use mathlib.Core.List.{List}
use Prim.Native.Nat.{ℕ, ◌*◌, ◌≤◌}
use lib.ListN.{length, get_or}
use Rattle.oat.specs.Syntax.{Expr, while, Block}
use Rattle.oat.specs.ProgramFile.{Limits, in_range, Program, IsFile}
use Rattle.typing_rules.specs.Rules.{while_mark}
use Rattle.typing_rules.specs.Derivations.{statement}
use Rattle.typing_rules.specs.Endless.{InBodies}
use Rattle.demand3.specs.CheckFile.{needed}
use Rattle.demand3.proofs.Endless.{outcome_while}
use Rattle.typing.specs.declared.check.Answer.{Answer}
use Rattle.typing.specs.Check.{Demands}

pub check_while : {limits : Limits} {F R W R' : List ℕ} {r : Answer} → Demands limits F R W R' r → in_range limits ≡ true → (p : Program) → IsFile limits F p
    → needed p ≤ length R → needed p ≤ length W → r.number ≡ 0 → (m : ℕ) {last : Bool} {a : Expr} {c : Block}
    → InBodies 0 p.declarations m (statement last (while a c)) → get_or R' (2 * m) 65535 ≡ while_mark last a
check_while d range p file rows work e m w = outcome_while (d.demand3 range p file rows work) e m w
