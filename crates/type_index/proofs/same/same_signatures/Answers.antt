-- `same::same_signatures` meets its contract. Assumes nothing.
use mathlib.Core.Path.{◌≡◌, sym, ◌∙◌}
use mathlib.Core.Bool.{true}
use borrow.Author.Rules.{rules}
use borrow.Author.Tests.{eqb-true}
use Rattle.type_index.proofs.LawsSameTypes.{lower_there, parameters_in, as_many_in, returns_in, counts_apart, params_apart, function_rest}
use Rattle.type_index.proofs.same.same_signatures.Goals as goal
use Rattle.type_index.proofs.same.same_signatures.Goals.{then-count-type_c, else-count-type_c}

pub same_parameters-requires : goal.same_parameters-requires
same_parameters-requires c = (search (parameters_in, lower_there, rules), search (as_many_in, rules), search rules)

pub same_operands-requires : goal.same_operands-requires
same_operands-requires c = (search rules, search (returns_in, lower_there, rules), search (returns_in, rules))

pub returns-then-same_parameters : goal.returns-then-same_parameters
returns-then-same_parameters c =
    elim c.if-count-type_c.branch [
      | then-count-type_c w ↦
          let e : w.same_parameters.result ≡ true = sym w.value-is ∙ c.if-same_parameters.true in
          search (function_rest, rules)
      | else-count-type_c w ↦ absurd (w.if-count-type_c.false (eqb-true _ _ (sym w.value-is ∙ c.if-same_parameters.true)))
    ]

pub returns-else-same_parameters : goal.returns-else-same_parameters
returns-else-same_parameters c = elim c.if-count-type_c.branch [ then-count-type_c w ↦ search (params_apart, rules) | else-count-type_c w ↦ search (counts_apart, rules) ]
