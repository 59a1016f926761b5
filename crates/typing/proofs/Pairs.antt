-- The pairs of types that a call of `check` gives (document 02, (viii)): those that the definition's steps compare, up to and including the broken
-- premise (`check_pairs`); at most 1,200 for each node (`check_pairs_most`); and 0 under 25 and 1 to 6 (`check_pairs_none`). Assumes nothing.
use mathlib.Core.Path.{◌≡◌}
use mathlib.Core.Bool.{true}
use mathlib.Core.List.{List}
use mathlib.Core.Logic.{◌⊎◌}
use Prim.Native.Nat.{ℕ, ◌*◌, ◌≤◌}
use lib.ListN.{length}
use Rattle.oat.specs.ProgramFile.{Limits, in_range, Program, IsFile}
use Rattle.typing_rules.specs.Steps.{steps_of, empty_context}
use Rattle.typing_rules.specs.Check.{run_pairs}
use Rattle.demand3.specs.CheckFile.{needed}
use Rattle.demand3.proofs.Pairs.{outcome_pairs, outcome_pairs_most, outcome_pairs_none}
use Rattle.typing.specs.declared.check.Answer.{Answer}
use Rattle.typing.specs.Check.{outcome_of, Checked}

module _ {limits : Limits} {F R W R' W' : List ℕ} {r : Answer} (called : Checked limits F R W R' W' r) where
  pub check_pairs : in_range limits ≡ true → (p : Program) → IsFile limits F p → needed p ≤ length R → needed p ≤ length W
      → r.pairs ≡ run_pairs p.tables empty_context (steps_of p)
  check_pairs range p file long long-too = outcome_pairs limits F R W range p file long long-too (outcome_of r R') called.checks

  pub check_pairs_most : (p : Program) → IsFile limits F p → r.pairs ≤ 1200 * length p.tables.nodes
  check_pairs_most p file = outcome_pairs_most limits F R W p file (outcome_of r R') called.checks

  pub check_pairs_none : (r.number ≡ 25) ⊎ ((1 ≤ r.number) × (r.number ≤ 6)) → r.pairs ≡ 0
  check_pairs_none h = outcome_pairs_none limits F R W (outcome_of r R') called.checks h
