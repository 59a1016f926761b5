-- What the contract of `read_all` cites. Assumes nothing.
use Rattle.std.specs.Prelude.{List, ℕ, Result, Ok, Err}
use Rattle.io.specs.Counts.{IsPrefixLen}

-- what was read lies at the front of the buffer
abbrev pub Within : {E : Type 0} → Result ℕ E → List ℕ → Type 0
Within (Ok n) buffer = IsPrefixLen n buffer
Within (Err e) buffer = Unit {0}
