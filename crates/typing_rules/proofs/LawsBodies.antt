-- A node of a function's body, in a derivation of a file: the rule of the function's step, and where the node stands in its block. Assumes
-- nothing.
use mathlib.Core.Path.{subst}
use mathlib.Core.List.{List, [], ◌∷◌}
use Prim.Native.Nat.{ℕ, ◌+◌}
use lib.ListN.{length}
use lib.Seq.{take-length}
use Rattle.oat.specs.Tables.{Tables}
use Rattle.oat.specs.Types.{Ty}
use Rattle.oat.specs.Syntax.{Block, Decl, global, function, size_decl}
use Rattle.oat.specs.ProgramFile.{Program}
use Rattle.typing_rules.specs.Contexts.{Context}
use Rattle.typing_rules.specs.Labels.{Labels}
use Rattle.typing_rules.specs.Derivations.{Node, AtBlock}
use Rattle.typing_rules.specs.Endless.{InBodies, in_body, in_others}
use Rattle.typing_rules.specs.Steps.{Step, body, bodies, steps_of, StepRule, empty_context, StepsRule, step_left, next_step, DerivesFile}
use Rattle.typing_rules.proofs.LawsSegments.{In, in_first, in_later}
use Rattle.typing_rules.proofs.RowsTheorem.{body_in}

-- the rule of a step among steps that have a derivation
rule_of : {T : Tables} {D : Labels Ty} {C E : Context Ty} {s : Step} {ss : List Step} → StepsRule T D C ss E → In s ss → (B : Context Ty) × StepRule T B D s
rule_of step_left i = elim i [ ]
rule_of (next_step r rs) in_first = (_, r)
rule_of (next_step r rs) (in_later i) = rule_of rs i

-- every step has its rule; so have those of a file
abbrev pub StepsRuled : Tables → Labels Ty → List Step → Type 0
StepsRuled T D ss = (s : Step) → In s ss → (B : Context Ty) × StepRule T B D s

pub step_rule : (p : Program) (D : Labels Ty) (C : Context Ty) → DerivesFile p D C → StepsRuled p.tables D (steps_of p)
step_rule p D C d s i = rule_of (subst (λ ss. StepsRule p.tables D empty_context ss C) (take-length (steps_of p)) d.rules) i

pub record OfBody (T : Tables) (D : Labels Ty) (m : ℕ) (u : Node) : Type 0 where
  pub node : ℕ
  pub type : ℕ
  pub parameters : List ℕ
  pub block : Block
  pub context : Context Ty
  pub rule : StepRule T context D (body node type parameters block)
  pub stands : AtBlock block (node + 1 + length parameters) m u

of_bodies : {T : Tables} {D : Labels Ty} (ds : List Decl) (n m : ℕ) {u : Node} → StepsRuled T D (bodies n ds) → InBodies n ds m u → OfBody T D m u
unfolding bodies
of_bodies [] n m f w = elim w [ ]
of_bodies (function x t ps b ∷ ds) n m f (in_body w) =
    let (B, r) = f (body n t ps b) in_first in
    record { node = n; type = t; parameters = ps; block = b; context = B; rule = r; stands = w }
of_bodies (function x t ps b ∷ ds) n m f (in_others w) = of_bodies ds (n + size_decl (function x t ps b)) m (λ s i. f s (in_later i)) w
of_bodies (global x a ∷ ds) n m f (in_others w) = of_bodies ds (n + size_decl (global x a)) m f w

pub of_body : (p : Program) (D : Labels Ty) (C : Context Ty) (m : ℕ) {u : Node} → DerivesFile p D C → InBodies 0 p.declarations m u → OfBody p.tables D m u
of_body p D C m d w = of_bodies p.declarations 0 m (λ s i. step_rule p D C d s (body_in p s i)) w
