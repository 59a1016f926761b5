-- `blank_file` meets its contract: its bytes are those of the definition. Assumes nothing.
use mathlib.Core.Path.{sym}
use borrow.Author.Rules.{rules}
use Rattle.oat.proofs.LawsBlank.{blank_bytes}
use Rattle.program_file.proofs.blank_file.Statement.{statement}
use Rattle.program_file.proofs.blank_file.Tie as tie

returns : tie.Need-returns
returns c = sym blank_bytes

pub blank_file_spec : {M : Type 1} → statement M
blank_file_spec = tie.close (tie.spec (λ c. search rules) (λ c. search rules) (λ c. search rules) (λ c. search rules) returns)
