-- What the contract of `page` cites, on every input. F is the file, R the rows, W the work buffer, O the page buffer; a prime marks a buffer after
-- the call. Assumes nothing.
use Rattle.std.specs.Prelude.{◌≡◌, List, ◌++◌, ℕ, ◌≤◌, ◌<◌, length, drop}
use Rattle.oat.specs.ProgramFile.{Limits, Program, IsFile}
use Rattle.typing.specs.declared.check.Answer.{Answer as CheckAnswer}
use Rattle.typing.specs.Check.{Checked, Demands}
use Rattle.pages.specs.declared.Answer.{Answer}
use Rattle.pages.specs.Page.{page_of}
use Rattle.pages.specs.Columns.{PageLong, OnBoard}

abbrev pub answer : ℕ → ℕ → ℕ → ℕ → Answer
answer n s q b = record { number = n; step = s; place = q; bytes = b }

-- the check's number, step and place, and so many bytes
abbrev pub same_answer : CheckAnswer → ℕ → Answer
same_answer c b = answer c.number c.step c.place b

-- after the check has accepted the file of p, with the answer c and the rows R': 18 where the buffer is shorter than the page, and it stays;
-- else the check's answer and the page's length, the page, and what lies past it stays
pub data AfterAcceptance (p : Program) (c : CheckAnswer) (R' O : List ℕ) : Answer → (O' : List ℕ) → Type 0 where
  short : length O < length (page_of p.tables R') → AfterAcceptance p c R' O (answer 18 0 0 0) O
  printed : length (page_of p.tables R') ≤ length O
      → AfterAcceptance p c R' O (same_answer c (length (page_of p.tables R'))) (page_of p.tables R' ++ drop (length (page_of p.tables R')) O)

-- rows and work are as the check leaves them, `check` is its answer; what it refuses is refused with its answer and 0 bytes, and the page
-- buffer stays. A page has 20 bytes a row and those of the last line; what is printed has the width of every row's line, and 50 times P plus
-- Q is the node count
pub record Paged (limits : Limits) (F R W O R' W' O' : List ℕ) (r : Answer) : Type 0 where
  pub check : CheckAnswer
  pub checked : Checked limits F R W R' W' check
  pub demands : Demands limits F R W R' check
  pub refused : (check.number ≡ 0 → ⊥) → (r ≡ same_answer check 0) × (O' ≡ O)
  pub accepted : check.number ≡ 0 → (p : Program) → IsFile limits F p → AfterAcceptance p check R' O r O'
  pub long : check.number ≡ 0 → (p : Program) → IsFile limits F p → PageLong p.tables R'
  pub on_board : r.number ≡ 0 → (p : Program) → IsFile limits F p → OnBoard p.tables R' O' r.bytes
