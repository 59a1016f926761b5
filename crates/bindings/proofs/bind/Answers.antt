-- `bind` meets its contract. Assumes nothing.
use borrow.Author.Rules.{rules}
use Rattle.bindings.proofs.LawsBindings.{bound_is}
use Rattle.bindings.proofs.bind.Goals as goal

pub returns : goal.returns
returns c = search (bound_is, rules)
