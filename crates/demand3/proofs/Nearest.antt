-- A name means its nearest binding (document 02, (vi)), for one who reads rows: in an accepted outcome the row of each name has the binder of the
-- derivation, which is that of the name's nearest binding where a local has the name (`outcome_binder`). Assumes nothing.
use mathlib.Core.Path.{◌≡◌}
use mathlib.Core.List.{List}
use Prim.Native.Nat.{ℕ, ◌+◌, ◌*◌}
use lib.ListN.{get_or}
use Rattle.oat.specs.Types.{Ty}
use Rattle.oat.specs.Syntax.{name}
use Rattle.oat.specs.ProgramFile.{Program}
use Rattle.typing_rules.specs.Contexts.{Context}
use Rattle.typing_rules.specs.Labels.{Labels}
use Rattle.typing_rules.specs.Derivations.{expression}
use Rattle.typing_rules.specs.Endless.{InBodies}
use Rattle.typing_rules.specs.Steps.{DerivesFile}
use Rattle.typing_rules.specs.Nearest.{Means}
use Rattle.typing_rules.proofs.Nearest.{binder_nearest}
use Rattle.demand3.specs.CheckFile.{Outcome}
use Rattle.demand3.specs.Demand3.{Demand3}
use Rattle.demand3.proofs.LawsOutcomeRows.{its_derivation, outcome_row}

pub outcome_binder : {p : Program} {rows : List ℕ} {o : Outcome} → Demand3 p rows o → o.number ≡ 0 → (m : ℕ) {x : ℕ}
    → InBodies 0 p.declarations m (expression (name x))
    → (D : Labels Ty) × (C : Context Ty) × DerivesFile p D C × Means D m x × (get_or o.rows (2 * m + 1) 65535 ≡ (D m).binder)
outcome_binder {p} demand e m w =
    let d = its_derivation demand e in
    (d.labels, d.context, d.derives, binder_nearest p d.labels d.context m d.derives w, (outcome_row demand e m w).binder)
