-- Loops that never end (document 02, (i)), for one who reads rows: in an accepted outcome the row of each while has the mark that its place and
-- its condition tell (`outcome_while`). Assumes nothing.
use mathlib.Core.Path.{◌≡◌}
use mathlib.Core.Bool.{Bool}
use mathlib.Core.List.{List}
use Prim.Native.Nat.{ℕ, ◌*◌}
use lib.ListN.{get_or}
use Rattle.oat.specs.Syntax.{Expr, while, Block}
use Rattle.oat.specs.ProgramFile.{Program}
use Rattle.typing_rules.specs.Rules.{while_mark}
use Rattle.typing_rules.specs.Derivations.{statement}
use Rattle.typing_rules.specs.Endless.{InBodies}
use Rattle.typing_rules.proofs.Endless.{while_told}
use Rattle.demand3.specs.CheckFile.{Outcome}
use Rattle.demand3.specs.Demand3.{Demand3}
use Rattle.demand3.proofs.LawsOutcomeRows.{its_derivation, outcome_row}

pub outcome_while : {p : Program} {rows : List ℕ} {o : Outcome} → Demand3 p rows o → o.number ≡ 0 → (m : ℕ) {last : Bool} {a : Expr} {c : Block}
    → InBodies 0 p.declarations m (statement last (while a c)) → get_or o.rows (2 * m) 65535 ≡ while_mark last a
outcome_while {p} demand e m w =
    let d = its_derivation demand e in
    while_told p d.labels d.context _ m d.derives (outcome_row demand e m w) w
