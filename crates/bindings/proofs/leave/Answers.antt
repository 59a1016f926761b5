-- `leave` meets its contract. Assumes nothing.
use native.Mathlib.Omega.{arith}
use borrow.Author.Rules.{rules}
use Rattle.bindings.proofs.LawsBindings.{left_one}
use Rattle.bindings.proofs.leave.Goals as goal

pub loop-position-preserved : goal.loop-position-preserved
loop-position-preserved c = (omega arith, search (left_one, rules), search rules)
