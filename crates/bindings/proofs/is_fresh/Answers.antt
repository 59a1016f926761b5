-- `Bindings::is_fresh` meets its contract. Assumes nothing.
use borrow.Author.Rules.{rules}
use Rattle.bindings.proofs.LawsBindings.{fresh_told}
use Rattle.bindings.proofs.is_fresh.Goals as goal

pub returns : goal.returns
returns c = search (fresh_told, rules)
