-- What the contract of `check` cites, on every input, and demand 3 for the code. F is the file, R the rows, W the work buffer; a prime
-- marks a buffer after the call. Within the check a file is spoken of under the widest limits, which any limits in range are within.
-- Assumes nothing.
use Rattle.std.specs.Prelude.{◌≡◌, true, List, ◌⊎◌, ℕ, ◌*◌, ◌≤◌, ◌<◌, length, drop, replicate, Result, Ok, Err}
use Rattle.oat.specs.ProgramFile.{Limits, in_range, widest, Program, IsFile}
use Rattle.typing_rules.specs.Check.{check_of}
use Rattle.file_sections.specs.declared.Sections.{Sections}
use Rattle.program_file.specs.Reading.{reading_within, reading_of}
use Rattle.demand3.specs.CheckFile.{needed, Outcome, outcome, Checks}
use Rattle.demand3.specs.Demand3.{Demand3}
use Rattle.steps.specs.declared.context.Context.{Context}
use Rattle.steps.specs.declared.context.Refusal.{Refusal}
use Rattle.typing.specs.declared.check.Answer.{Answer}

abbrev pub outcome_of : Answer → List ℕ → Outcome
outcome_of r rows = outcome r.number r.step r.place r.pairs rows

-- the answer and the rows are the definition's; 25 and 1 to 6 change no buffer (the rows are in the outcome); of work the first two numbers
-- for each node are free, and the rest stays
pub record Checked (limits : Limits) (F R W R' W' : List ℕ) (r : Answer) : Type 0 where
  pub checks : Checks limits F R W (outcome_of r R')
  pub unchanged : (r.number ≡ 25) ⊎ ((1 ≤ r.number) × (r.number ≤ 6)) → W' ≡ W
  pub rest : (p : Program) → IsFile limits F p → drop (needed p) W' ≡ drop (needed p) W

-- demand 3, on bytes and buffers: for every readable file under limits in range, with long enough buffers holding anything
pub record Demands (limits : Limits) (F R W R' : List ℕ) (r : Answer) : Type 0 where
  pub demand3 : in_range limits ≡ true → (p : Program) → IsFile limits F p → needed p ≤ length R → needed p ≤ length W → Demand3 p R (outcome_of r R')

-- the file was read under some limits, with these sections
pub record WasRead (F : List ℕ) (S : Sections) : Type 0 where
  pub limits : Limits
  pub reads : reading_of limits F ≡ Ok S

-- what `check` promises, under all limits under which the file has these sections
pub record ToldSections (F : List ℕ) (S : Sections) (R W R' W' : List ℕ) (r : Answer) : Type 0 where
  pub checked : (limits : Limits) → reading_of limits F ≡ Ok S → Checked limits F R W R' W' r
  pub demands : (limits : Limits) → reading_of limits F ≡ Ok S → Demands limits F R W R' r

-- the answer after the last step, and the rows: a refusal fills them
abbrev pub answer_of : Result Context Refusal → Answer
answer_of (Ok c) = record { number = 0; step = c.steps; place = 0; pairs = c.pairs }
answer_of (Err e) = record { number = e.number; step = e.step; place = e.place; pairs = e.pairs }

abbrev pub rows_after : Result Context Refusal → List ℕ → List ℕ
rows_after (Ok c) R = R
rows_after (Err e) R = replicate (length R) 65535

-- the numbers of the answer have 16 bits, with one to spare, and the sum of pairs has 32
pub record Small (r : Result Context Refusal) : Type 0 where
  pub next : (c : Context) → r ≡ Ok c → (c.steps < 65535) × (c.pairs ≤ 4294967295)
  pub refused : (e : Refusal) → r ≡ Err e → (e.number ≤ 16) × (e.step < 65535) × (e.place < 65535) × (e.pairs ≤ 4294967295)

-- a readable file, whose rows and work are of the length needed
pub record ReadyCheck (F : List ℕ) (S : Sections) (R W : List ℕ) : Type 0 where
  pub reads : reading_within widest F ≡ Ok S
  pub program : Program
  pub file : IsFile widest F program
  pub rows_long : length R ≡ S.nodes * 2
  pub work_long : length W ≡ S.nodes * 2

-- the answer and the rows of the program p
pub record AnswersAs (p : Program) (R' : List ℕ) (r : Answer) : Type 0 where
  pub number : r.number ≡ (check_of p).number
  pub step : r.step ≡ (check_of p).step
  pub place : r.place ≡ (check_of p).place
  pub pairs : r.pairs ≡ (check_of p).pairs
  pub rows : R' ≡ (check_of p).rows

pub record ToldCheck (F : List ℕ) (S : Sections) (R' W' : List ℕ) (r : Answer) : Type 0 where
  pub tells : (p : Program) → IsFile widest F p → AnswersAs p R' r
  pub work_long : length W' ≡ S.nodes * 2
