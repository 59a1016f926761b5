-- The check on limits, bytes and buffers (document 01, 'Rows and answers'; document 02, (xi)): 25, then 1 to 5, then 6, then the check of the
-- program whose file the bytes are. A file has one program at most (`program_file`, proofs/Theorem.antt), so this gives one outcome for
-- every input. Assumes nothing.
use Rattle.std.specs.Prelude.{◌≡◌, true, List, ◌++◌, ℕ, ◌*◌, ◌≤◌, ◌<◌, length, drop, Err}
use Rattle.oat.specs.ProgramFile.{Limits, in_range, Program, IsFile}
use Rattle.file_sections.specs.declared.Unreadable.{Unreadable}
use Rattle.file_sections.specs.Unreadable.{unreadable_number}
use Rattle.program_file.specs.Reading.{reading_of}
use Rattle.typing_rules.specs.Check.{check_of}

-- rows and work are long enough when each has at least two numbers for each node
abbrev pub needed : Program → ℕ
needed p = 2 * length p.tables.nodes

-- number, step and place, how many pairs of types were compared, and the rows as the check leaves them
pub record Outcome : Type 0 where
  pub number : ℕ
  pub step : ℕ
  pub place : ℕ
  pub pairs : ℕ
  pub rows : List ℕ

abbrev pub outcome : ℕ → ℕ → ℕ → ℕ → List ℕ → Outcome
outcome n s q k rows = record { number = n; step = s; place = q; pairs = k; rows = rows }

-- the outcome of the check under these limits, on these bytes, with these rows and work
pub data Checks (limits : Limits) (bytes rows work : List ℕ) : Outcome → Type 0 where
  -- 25 and 1 to 5 come with step, place and pairs 0, and change no buffer
  unreadable : (e : Unreadable) → reading_of limits bytes ≡ Err e → Checks limits bytes rows work (outcome (unreadable_number e) 0 0 0 rows)
  -- 6: rows or work short; the same
  rows_short : in_range limits ≡ true → (p : Program) → IsFile limits bytes p → length rows < needed p → Checks limits bytes rows work (outcome 6 0 0 0 rows)
  work_short : in_range limits ≡ true → (p : Program) → IsFile limits bytes p → needed p ≤ length rows → length work < needed p → Checks limits bytes rows work (outcome 6 0 0 0 rows)
  -- the answer; numbers past the rows stay
  checked : in_range limits ≡ true → (p : Program) → IsFile limits bytes p → needed p ≤ length rows → needed p ≤ length work → Checks limits bytes rows work (outcome (check_of p).number (check_of p).step (check_of p).place (check_of p).pairs ((check_of p).rows ++ drop (needed p) rows))
