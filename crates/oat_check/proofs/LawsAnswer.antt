-- An answer of the check, and its text. Assumes nothing.
use Rattle.std.proofs.Common.{Result}
use mathlib.Core.Path.{◌≡◌, ap, subst, ◌∙◌}
use mathlib.Core.List.{List}
use Prim.Native.Nat.{ℕ}
use Rattle.program_file.specs.declared.Limits.{Limits}
use Rattle.program_file.specs.Reading.{setting_of, reading_of}
use Rattle.demand3.specs.CheckFile.{Checks}
use Rattle.typing.specs.declared.check.Answer.{Answer}
use Rattle.typing.specs.Check.{outcome_of, Checked}
use Rattle.printing.specs.Outcome.{leaves, print_of}
use Rattle.printing.specs.declared.Unprinted.{Unprinted}
use Rattle.answer_output.specs.Nodes.{nodes_of}
use Rattle.oat_check.specs.Answers.{Answers}

module _ (F R W T R' W' T' : List ℕ) (limits : Limits) (widest : limits ≡ record { parts = 200; depth = 100 }) (a : Answer) (checked : Checked (setting_of limits) F R W R' W' a) where
  pub answered : (nodes : ℕ) → nodes ≡ nodes_of (reading_of (setting_of limits) F) → (o : Result ℕ Unprinted)
      → leaves o T' ≡ print_of a.number a.step a.place R' nodes T
      → Answers F R W T R' T' (record { number = a.number; printed = o })
  answered nodes e o h = record {
    step = a.step;
    place = a.place;
    pairs = a.pairs;
    checks = subst (λ (l : Limits). Checks (setting_of l) F R W (outcome_of a R')) widest checked.checks;
    prints = h ∙ ap (λ n. print_of a.number a.step a.place R' n T) (e ∙ ap (λ (l : Limits). nodes_of (reading_of (setting_of l) F)) widest);
  }
