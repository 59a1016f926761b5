-- The exit status of a program as a digit, in ASCII. Assumes nothing.
use Rattle.std.specs.Prelude.{ℕ, cond, eqb}
use Rattle.input_output.specs.declared.status.Status.{Status}
use Rattle.input_output.specs.declared.status.Status.TheVariants.{Done, Refused, Failed}

-- 0, 1 or 2
abbrev pub digit_of : Status → ℕ
digit_of Done = 48
digit_of Refused = 49
digit_of Failed = 50

-- a command is done where its answer has the number 0, and refused where it has another
abbrev pub status_of : ℕ → Status
status_of number = cond (eqb number 0) Done Refused
