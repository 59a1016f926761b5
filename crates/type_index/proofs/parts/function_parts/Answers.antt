-- `parts::function_parts` meets its contract. Assumes nothing.
use borrow.Author.Rules.{rules}
use Rattle.type_index.proofs.LawsSameTypes.{params_listed, returns_entered}
use Rattle.type_index.proofs.LawsParts.{parts_function}
use Rattle.type_index.proofs.parts.function_parts.Goals as goal

pub params_parts-sum-requires : goal.params_parts-sum-requires
params_parts-sum-requires c = (search (params_listed, rules), search rules)

pub parts_of-requires : goal.parts_of-requires
parts_of-requires c = search (returns_entered, rules)

pub returns : goal.returns
returns c = search (parts_function, rules)
