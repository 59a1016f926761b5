-- Zero bytes (document 02, (v)): the outcome of the check depends on the bytes that are meant alone (`checks_meant`); with limits in range zero
-- bytes are accepted with 0 steps, whatever the buffers are, and none changes (`blank_outcome`, `blank_only`); and their program, which is that
-- of the 44 bytes, has its one derivation, which gives nothing (`blank_derives`). One byte is refused under 1 (`one_byte_only`). Assumes nothing.
use mathlib.Core.Path.{◌≡◌, refl, sym, ◌∙◌, subst}
use mathlib.Core.Bool.{true}
use mathlib.Core.List.{List, [], ◌∷◌}
use mathlib.Core.Logic.{◌↔◌}
use Prim.Native.Nat.{ℕ}
use native.Mathlib.Omega.{arith}
use lib.ListN.{length}
use Rattle.oat.specs.Basics.{tabulate}
use Rattle.oat.specs.Types.{Ty}
use Rattle.oat.specs.ProgramFile.{Limits, in_range, Program, blank_program, blank_file, meant, IsFile}
use Rattle.oat.proofs.LawsBlank.{meant_twice, same_meaning, blank-file, blank_is_file}
use Rattle.file_sections.specs.declared.Unreadable.TheVariants.{Length}
use Rattle.program_file.specs.Reading.{reading_of}
use Rattle.program_file.proofs.Blank.{reading_meant, blank-program, one_byte}
use Rattle.typing_rules.specs.Contexts.{Context}
use Rattle.typing_rules.specs.Labels.{Labels, unlabelled}
use Rattle.typing_rules.specs.Steps.{headings, globals, bodies, steps_of, empty_context, StepsRule, step_left, same_none, OneFirst}
use Rattle.typing_rules.proofs.LawsComputed.{computed}
use Rattle.demand3.specs.CheckFile.{Outcome, outcome, Checks, unreadable, rows_short, work_short, checked}
use Rattle.demand3.proofs.Theorem.{unread, one_outcome}

-- bytes that mean the same have the same outcomes
same_checks : (limits : Limits) (s t rows work : List ℕ) (o : Outcome) → meant s ≡ meant t → reading_of limits s ≡ reading_of limits t → Checks limits s rows work o → Checks limits t rows work o
same_checks limits s t rows work o e r (unreadable n h) = unreadable n (sym r ∙ h)
same_checks limits s t rows work o e r (rows_short i p f l) = rows_short i p (same_meaning e f) l
same_checks limits s t rows work o e r (work_short i p f l k) = work_short i p (same_meaning e f) l k
same_checks limits s t rows work o e r (checked i p f l k) = checked i p (same_meaning e f) l k

pub checks_meant : (limits : Limits) (bytes rows work : List ℕ) (o : Outcome) → Checks limits bytes rows work o ↔ Checks limits (meant bytes) rows work o
checks_meant limits s rows work o = (
  same_checks limits s (meant s) rows work o (sym (meant_twice s)) (sym (reading_meant limits s)),
  same_checks limits (meant s) s rows work o (meant_twice s) (reading_meant limits s),
)

module _ (limits : Limits) (range : in_range limits ≡ true) where
  pub blank_outcome : (rows work : List ℕ) → Checks limits [] rows work (outcome 0 0 0 0 rows)
  unfolding computed
  blank_outcome rows work = checked range blank_program (blank_is_file limits range) (omega arith) (omega arith)

  pub blank_only : (rows work : List ℕ) (o : Outcome) → Checks limits [] rows work o → o ≡ outcome 0 0 0 0 rows
  blank_only rows work o c = one_outcome limits [] rows work o _ c (blank_outcome rows work)

  pub one_byte_only : (b : ℕ) (rows work : List ℕ) (o : Outcome) → Checks limits (b ∷ []) rows work o → o ≡ outcome 1 0 0 0 rows
  one_byte_only b rows work o c = unread limits (b ∷ []) rows work Length o (one_byte limits range b) c

-- no step gives nothing, and leaves the context as it is
one_derivation : OneFirst blank_program (length (steps_of blank_program)) (λ n. unlabelled) empty_context
unfolding tabulate headings globals bodies steps_of
one_derivation = record { derives = record { rules = step_left }; only = λ E B d. (same_none, only d.rules) }
  where
    only : {D : Labels Ty} {C B : Context Ty} → StepsRule blank_program.tables D C [] B → C ≡ B
    only step_left = refl

pub blank_derives : (limits : Limits) → in_range limits ≡ true → (p : Program) → IsFile limits [] p → IsFile limits blank_file p × OneFirst p (length (steps_of p)) (λ n. unlabelled) empty_context
blank_derives limits range p f =
    ((blank-file limits p).0 f, subst (λ q. OneFirst q (length (steps_of q)) (λ n. unlabelled) empty_context) (sym (blank-program limits range p f)) one_derivation)
