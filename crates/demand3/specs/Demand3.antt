-- Demand 3, word by word: for every readable file, with long enough buffers holding anything, accepted exactly when a typing derivation
-- exists, and then the rows are those of its one derivation; refused under 7 to 16 exactly when none exists, and then the steps before
-- the named step together have exactly one derivation and the named step has none in the context that they make. Assumes nothing.
use Rattle.std.specs.Prelude.{◌≡◌, List, ◌↔◌, ℕ, ◌≤◌, ◌<◌, length, get_or, take, drop, replicate}
use Rattle.oat.specs.Types.{Ty}
use Rattle.oat.specs.ProgramFile.{Program}
use Rattle.typing_rules.specs.Contexts.{Context}
use Rattle.typing_rules.specs.Labels.{Labels}
use Rattle.typing_rules.specs.Steps.{struct_name, steps_of, StepRule, SameOn, OneFirst, DerivesFile}
use Rattle.typing_rules.specs.Rows.{DeclRows}
use Rattle.demand3.specs.CheckFile.{needed, Outcome}

-- a typing derivation of the file exists
pub record Derivable (p : Program) : Type 0 where
  pub labels : Labels Ty
  pub context : Context Ty
  pub derives : DerivesFile p labels context

-- a refusal at the step s: the steps before it together have exactly one derivation, and it has none in the context that they make
pub record StopsAt (p : Program) (s : ℕ) : Type 0 where
  pub within : s < length (steps_of p)
  pub labels : Labels Ty
  pub context : Context Ty
  pub before : OneFirst p s labels context
  pub none : (D : Labels Ty) → StepRule p.tables context D (get_or (steps_of p) s (struct_name 0)) → ⊥

-- what holds of the outcome o of a file of the program p, where the rows were `rows`
pub record Demand3 (p : Program) (rows : List ℕ) (o : Outcome) : Type 0 where
  pub accepted : (o.number ≡ 0) ↔ Derivable p
  pub one_derivation : (D E : Labels Ty) (C B : Context Ty) → DerivesFile p D C → DerivesFile p E B → SameOn D E (steps_of p) × (C ≡ B)
  pub its_rows : (D : Labels Ty) (C : Context Ty) → DerivesFile p D C → DeclRows p.tables D 0 p.declarations (take (needed p) o.rows)
  pub refused : ((7 ≤ o.number) × (o.number ≤ 16)) ↔ (Derivable p → ⊥)
  pub stops : (Derivable p → ⊥) → StopsAt p o.step
  pub filled : (Derivable p → ⊥) → take (needed p) o.rows ≡ replicate (needed p) 65535
  pub rest : drop (needed p) o.rows ≡ drop (needed p) rows
