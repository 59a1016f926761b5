-- A call of `check` that accepts a file (document 02, (vi)): the row of each name has the binder of the file's derivation, which is that of the
-- name's nearest binding where a local has the name (`check_binder`). Assumes nothing.
use mathlib.Core.Path.{◌≡◌}
use mathlib.Core.Bool.{true}
use mathlib.Core.List.{List}
use Prim.Native.Nat.{ℕ, ◌+◌, ◌*◌, ◌≤◌}
use lib.ListN.{length, get_or}
use Rattle.oat.specs.Types.{Ty}
use Rattle.oat.specs.Syntax.{name}
use Rattle.oat.specs.ProgramFile.{Limits, in_range, Program, IsFile}
use Rattle.typing_rules.specs.Contexts.{Context}
use Rattle.typing_rules.specs.Labels.{Labels}
use Rattle.typing_rules.specs.Derivations.{expression}
use Rattle.typing_rules.specs.Endless.{InBodies}
use Rattle.typing_rules.specs.Steps.{DerivesFile}
use Rattle.typing_rules.specs.Nearest.{Means}
use Rattle.demand3.specs.CheckFile.{needed}
use Rattle.demand3.proofs.Nearest.{outcome_binder}
use Rattle.typing.specs.declared.check.Answer.{Answer}
use Rattle.typing.specs.Check.{Demands}

pub check_binder : {limits : Limits} {F R W R' : List ℕ} {r : Answer} → Demands limits F R W R' r → in_range limits ≡ true → (p : Program) → IsFile limits F p
    → needed p ≤ length R → needed p ≤ length W → r.number ≡ 0 → (m : ℕ) {x : ℕ} → InBodies 0 p.declarations m (expression (name x))
    → (D : Labels Ty) × (C : Context Ty) × DerivesFile p D C × Means D m x × (get_or R' (2 * m + 1) 65535 ≡ (D m).binder)
check_binder d range p file rows work e m w = outcome_binder (d.demand3 range p file rows work) e m w
