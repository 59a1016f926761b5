-- `unequal::operand` meets its contract. Assumes nothing.
use borrow.Author.Rules.{rules}
use Rattle.subtyping.proofs.LawsUnequal.{parameter_at, returns_at, parameter_listed}
use Rattle.subtyping.proofs.unequal.operand.Goals as goal

pub list_entry-requires : goal.list_entry-requires
list_entry-requires c = search (parameter_listed, rules)

pub returns-then-j-type_c : goal.returns-then-j-type_c
returns-then-j-type_c c = search (parameter_at, rules)

pub returns : goal.returns
returns c = search (returns_at, rules)
