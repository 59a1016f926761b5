-- Rows after an accepted outcome: that of a node of a function's body has the result and the binder of the node's label in the derivation
-- (`outcome_row`), and that of an expression is a number of its type (`outcome_expression`). Assumes nothing.
use mathlib.Core.Path.{◌≡◌, refl, sym, subst, ◌∙◌}
use mathlib.Core.Bool.{true}
use mathlib.Core.List.{List, [], ◌∷◌}
use Prim.Native.Nat.{ℕ, zero, suc, ◌*◌, ◌+◌, ◌≤◌, ◌<◌}
use native.Mathlib.Nat.{not-suc-le-zero, le_of_suc-le-suc}
use native.Mathlib.Omega.{arith}
use lib.ListN.{length, get_or, take, length-take}
use lib.Seq.{get_or-take}
use Rattle.oat.specs.Types.{Ty}
use Rattle.oat.specs.Syntax.{size_decls}
use Rattle.oat.specs.Nodes.{DeclsStand, is_expression}
use Rattle.oat.specs.ProgramFile.{Program}
use Rattle.typing_rules.specs.Contexts.{Context}
use Rattle.typing_rules.specs.Labels.{gives, Labels}
use Rattle.typing_rules.specs.Derivations.{Node}
use Rattle.typing_rules.specs.Endless.{InBodies}
use Rattle.typing_rules.specs.Steps.{DerivesFile}
use Rattle.typing_rules.specs.Rows.{NumberOf}
use Rattle.typing_rules.proofs.LawsRowsAt.{RowIs, row_at, moved}
use Rattle.typing_rules.proofs.LawsExpressions.{expression_row}
use Rattle.demand3.specs.CheckFile.{needed, Outcome}
use Rattle.demand3.specs.Demand3.{Demand3, Derivable}
use Rattle.demand3.proofs.Theorem.{decls_long}

-- a number of the first k is read in the list as among them
taken : (k : ℕ) (l : List ℕ) (i : ℕ) → i < length (take k l) → get_or l i 65535 ≡ get_or (take k l) i 65535
taken k l i h = sym (get_or-take k l i 65535 (omega (arith, h, length-take k l)))

-- whatever stands for a number that is not there
there : (l : List ℕ) (i d e : ℕ) → i < length l → get_or l i d ≡ get_or l i e
there [] i d e h = absurd (not-suc-le-zero h)
there (x ∷ l) zero d e h = refl
there (x ∷ l) (suc i) d e h = there l i d e (le_of_suc-le-suc h)

module _ {p : Program} {rows : List ℕ} {o : Outcome} (demand : Demand3 p rows o) (e : o.number ≡ 0) where
  pub its_derivation : Derivable p
  its_derivation = demand.accepted.0 e

  pub outcome_row : (m : ℕ) {u : Node} → InBodies 0 p.declarations m u → RowIs p.tables (its_derivation.labels m) m o.rows
  outcome_row m w =
      let d = its_derivation in
      let r = row_at p.tables d.labels p.declarations m (take (needed p) o.rows) (demand.its_rows d.labels d.context d.derives) w in
      let most = length-take (needed p) o.rows in
      moved (taken (needed p) o.rows (2 * m) (omega (arith, r.within))) (taken (needed p) o.rows (2 * m + 1) r.within) (omega (arith, r.within, most)) r

  pub outcome_long : 2 * size_decls p.declarations ≤ length o.rows
  outcome_long =
      let d = its_derivation in
      omega (arith, decls_long (demand.its_rows d.labels d.context d.derives), length-take (needed p) o.rows)

  pub outcome_expression : (D : Labels Ty) (C : Context Ty) → DerivesFile p D C → DeclsStand p.tables 0 p.declarations → (i : ℕ) → i < size_decls p.declarations
      → is_expression p.tables i ≡ true → (t : Ty) × ((D i).result ≡ gives t) × NumberOf p.tables t (get_or o.rows (2 * i) 0)
  outcome_expression D C d s i h k =
      let (t, gives-t, number, within) = expression_row p D C (take (needed p) o.rows) d s (demand.its_rows D C d) i h k in
      let low : 2 * i < length (take (needed p) o.rows) = omega (arith, within) in
      let same = there o.rows (2 * i) 0 65535 (omega (arith, low, length-take (needed p) o.rows)) ∙ taken (needed p) o.rows (2 * i) low in
      (t, gives-t, subst (NumberOf p.tables t) (sym same) number)
