-- What the contract of `answer` cites. Assumes nothing.
use Rattle.std.specs.Prelude.{◌≡◌, List, ℕ}
use Rattle.oat.specs.ProgramFile.{widest}
use Rattle.program_file.specs.Reading.{reading_of}
use Rattle.demand3.specs.CheckFile.{outcome, Checks}
use Rattle.printing.specs.Outcome.{leaves, print_of}
use Rattle.answer_output.specs.Nodes.{nodes_of}
use Rattle.oat_check.specs.declared.Answered.{Answered}

-- the text is that of an outcome of the check under document 01's limits, with its rows. F is the file, R the rows, W the work buffer, T the text; a
-- prime marks a buffer after the call
pub record Answers (F R W T R' T' : List ℕ) (r : Answered) : Type 0 where
  pub step : ℕ
  pub place : ℕ
  pub pairs : ℕ
  pub checks : Checks widest F R W (outcome r.number step place pairs R')
  pub prints : leaves r.printed T' ≡ print_of r.number step place R' (nodes_of (reading_of widest F)) T
