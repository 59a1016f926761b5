-- `unequal::first_unequal` meets its contract. The loop keeps: the parameters passed are equal. Assumes nothing.
use borrow.Author.Rules.{rules}
use Rattle.type_index.proofs.LawsSameTypes.{in_list, no_params, params_more}
use Rattle.subtyping.proofs.LawsUnequal.{differ_here, differ_nowhere}
use Rattle.subtyping.proofs.unequal.first_unequal.Goals as goal

pub loop-j-init : goal.loop-j-init
loop-j-init c = search (no_params, rules)

pub same-requires : goal.same-requires
same-requires c = (search (in_list, rules), search (in_list, rules))

pub returns-then-not-same : goal.returns-then-not-same
returns-then-not-same c = search (differ_here, rules)

pub loop-j-preserved : goal.loop-j-preserved
loop-j-preserved c = search (params_more, rules)

pub returns : goal.returns
returns c = search (differ_nowhere, rules)
