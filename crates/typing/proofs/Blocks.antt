-- A call of `check` (document 02, (vi)): a file that it accepts has no block that binds a name twice (`check_distinct`), and a refusal under 7 is at
-- a struct, a built-in, a declaration, or a var whose own block has bound the name before it (`check_seven`). Assumes nothing.
use mathlib.Core.Path.{◌≡◌}
use mathlib.Core.Bool.{true}
use mathlib.Core.List.{List}
use Prim.Native.Nat.{ℕ, ◌≤◌}
use lib.ListN.{length, get_or}
use Rattle.oat.specs.ProgramFile.{Limits, in_range, Program, IsFile}
use Rattle.typing_rules.specs.Steps.{struct_name, steps_of}
use Rattle.typing_rules.specs.Blocks.{distinct_decls, SevenAt}
use Rattle.demand3.specs.CheckFile.{needed}
use Rattle.demand3.proofs.Blocks.{outcome_distinct, outcome_seven}
use Rattle.typing.specs.declared.check.Answer.{Answer}
use Rattle.typing.specs.Check.{Checked}

module _ {limits : Limits} {F R W R' W' : List ℕ} {r : Answer} (called : Checked limits F R W R' W' r) (range : in_range limits ≡ true) (p : Program) (file : IsFile limits F p)
    (long : needed p ≤ length R) (long-too : needed p ≤ length W) where
  pub check_distinct : r.number ≡ 0 → distinct_decls p.declarations ≡ true
  check_distinct e = outcome_distinct range p file long long-too called.checks e

  pub check_seven : r.number ≡ 7 → SevenAt (get_or (steps_of p) r.step (struct_name 0)) r.place
  check_seven e = outcome_seven range p file long long-too called.checks e
