-- `check_in` is safe and ends. Assumes nothing.
use mathlib.Core.Path.{sym}
use borrow.Author.Rules.{rules}
use lib.Seq.{length-take-le}
use Rattle.buffer_vectors.proofs.check_in.Statement.{statement}
use Rattle.buffer_vectors.proofs.check_in.Tie as tie

pub check_in_spec : {M : Type 1} → statement M
check_in_spec =
    tie.close
    (tie.spec
    (λ c. search rules)
    (λ c. sym (length-take-le _ _ (search rules)))
    (λ c. search rules)
    (λ c. sym (length-take-le _ _ (search rules)))
    (λ c κs. search rules)
    (λ c. search rules))
