-- What the contract of `tally` cites, on every input. F is the file, R the rows, W the work buffer, A the tally by type, B that by
-- declaration; a prime marks a buffer after the call. Assumes nothing.
use Rattle.std.specs.Prelude.{◌≡◌, List, ◌++◌, ◌⊎◌, ℕ, ◌≤◌, ◌<◌, length, drop}
use Rattle.oat.specs.ProgramFile.{Limits, Program, IsFile}
use Rattle.typing.specs.declared.check.Answer.{Answer as CheckAnswer}
use Rattle.typing.specs.Check.{Checked, Demands}
use Rattle.tallies.specs.declared.Answer.{Answer}
use Rattle.tallies.specs.Tallies.{by_type, by_declaration}

-- how many numbers each tally has: one for each type, and one for each declaration
abbrev pub type_count : Program → ℕ
type_count p = length p.tables.types

abbrev pub declaration_count : Program → ℕ
declaration_count p = length p.declarations

abbrev pub answer : ℕ → ℕ → ℕ → Answer
answer n s q = record { number = n; step = s; place = q }

-- the check's number, step and place
abbrev pub same_answer : CheckAnswer → Answer
same_answer c = answer c.number c.step c.place

-- after the check has accepted the file of p, with the answer c and the rows R': 19 where either buffer is short, and both stay; else the
-- check's answer and both tallies, and what lies past them stays
pub data AfterAcceptance (p : Program) (c : CheckAnswer) (R' A B : List ℕ) : Answer → (A' B' : List ℕ) → Type 0 where
  short : (length A < type_count p) ⊎ (length B < declaration_count p) → AfterAcceptance p c R' A B (answer 19 0 0) A B
  tallied : type_count p ≤ length A → declaration_count p ≤ length B
      → AfterAcceptance p c R' A B (same_answer c) (by_type p.tables R' ++ drop (type_count p) A) (by_declaration p.tables 0 p.declarations ++ drop (declaration_count p) B)

-- rows and work are as the check leaves them, `check` is its answer; what it refuses is refused with its answer, and both tallies stay
pub record Tallied (limits : Limits) (F R W A B R' W' A' B' : List ℕ) (r : Answer) : Type 0 where
  pub check : CheckAnswer
  pub checked : Checked limits F R W R' W' check
  pub demands : Demands limits F R W R' check
  pub refused : (check.number ≡ 0 → ⊥) → (r ≡ same_answer check) × (A' ≡ A) × (B' ≡ B)
  pub accepted : check.number ≡ 0 → (p : Program) → IsFile limits F p → AfterAcceptance p check R' A B r A' B'
