-- `formed::function_formed` meets its contract. Assumes nothing.
use borrow.Author.Rules.{rules}
use Rattle.type_index.proofs.LawsSameTypes.{params_listed, returns_entered}
use Rattle.type_index.proofs.LawsFormedTypes.{unformed_params, formed_function}
use Rattle.type_index.proofs.formed.function_formed.Goals as goal

pub params_formed-requires : goal.params_formed-requires
params_formed-requires c = (search (params_listed, rules), search rules)

pub is_formed-requires : goal.is_formed-requires
is_formed-requires c = search (returns_entered, rules)

pub returns-then-params_formed : goal.returns-then-params_formed
returns-then-params_formed c = search (formed_function, rules)

pub returns-else-params_formed : goal.returns-else-params_formed
returns-else-params_formed c = search (unformed_params, rules)
