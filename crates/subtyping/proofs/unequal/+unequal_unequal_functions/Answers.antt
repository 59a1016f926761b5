-- `unequal::unequal` and `unequal::unequal_functions` meet their contracts. Assumes nothing.
use Prim.Native.Nat.{◌<◌}
use native.Mathlib.Omega.{arith}
use borrow.Author.Rules.{rules}
use Rattle.type_index.proofs.LawsSameTypes.{params_listed}
use Rattle.subtyping.proofs.LawsUnequal.{held_lower, held_too, operand_lower, listed_too, listed_fewer, same_few, kinds_unequal, base_unequal, held_unequal, held_pairs, numbers_differ, operands_unequal, functions_pairs}
use Rattle.subtyping.proofs.unequal.+unequal_unequal_functions.Goals as goal

pub unequal-returns-then-kind-type_kind : goal.unequal-returns-then-kind-type_kind
unequal-returns-then-kind-type_kind t c = (search (kinds_unequal, rules), search rules)

pub unequal-unequal-requires : goal.unequal-unequal-requires
unequal-unequal-requires t c =
    let P = c.requires.good_tables in
    let x : c.type_a.result < c.args.a = search (held_lower, rules) in
    let y : c.type_a-in-5.result < c.args.b = search (held_too, rules) in
    (omega arith, (search rules, held_unequal _ _ P.0 _ _ P.2 P.3 _ _ c.type_kind-kind.ensures.0 c.type_kind.ensures.0 c.if-kind-type_kind.false c.in-5.is _ _ c.type_a.ensures.0 c.type_a-in-5.ensures.0 c.requires.b_value))

pub unequal-returns-in-5 : goal.unequal-returns-in-5
unequal-returns-in-5 t c =
    let P = c.requires.good_tables in
    let e = held_pairs _ _ P.0 _ _ P.2 P.3 _ _ c.type_kind-kind.ensures.0 c.type_kind.ensures.0 c.if-kind-type_kind.false c.in-5.is _ _ c.type_a.ensures.0 c.type_a-in-5.ensures.0 _ c.unequal.ensures.0 in
    (e, same_few _ _ P.0 _ _ P.2 P.3 _ e)

pub unequal-returns-in-6 : goal.unequal-returns-in-6
unequal-returns-in-6 t c = (search rules, search (same_few, rules))

pub unequal-returns-in_default : goal.unequal-returns-in_default
unequal-returns-in_default t c = (search (base_unequal, rules), search rules)

pub unequal_functions-returns-then-count-type_c : goal.unequal_functions-returns-then-count-type_c
unequal_functions-returns-then-count-type_c t c = search (numbers_differ, rules)

pub unequal_functions-first_unequal-j-requires : goal.unequal_functions-first_unequal-j-requires
unequal_functions-first_unequal-j-requires t c =
    let P = c.requires.good_tables in
    (search (params_listed, rules), listed_too _ _ _ _ _ _ c.type_b-q.ensures.0 c.type_c.ensures.0 c.if-count-type_c.false P.0 P.3 c.requires.a_value.1, search rules)

pub unequal_functions-params_parts-equal-requires : goal.unequal_functions-params_parts-equal-requires
unequal_functions-params_parts-equal-requires t c = (search (listed_fewer, params_listed, rules), search rules)

pub unequal_functions-unequal-requires : goal.unequal_functions-unequal-requires
unequal_functions-unequal-requires t c =
    let P = c.requires.good_tables in
    let K = c.requires.a_value in
    let x : c.operand-x.result < c.args.a = search (operand_lower, rules) in
    let y : c.operand-y.result < c.args.b = search (operand_lower, rules) in
    (omega arith, (search rules, operands_unequal _ _ P.0 _ _ P.2 P.3 K.0 K.1 _ P.1 _ _ _ _ _ _ _ c.type_c-count.ensures.0 c.type_c.ensures.0 c.if-count-type_c.false c.type_b-p.ensures.0 c.type_b-q.ensures.0 c.first_unequal-j.ensures c.operand-x.ensures c.operand-y.ensures c.requires.b_value))

pub unequal_functions-returns : goal.unequal_functions-returns
unequal_functions-returns t c =
    let P = c.requires.good_tables in
    let K = c.requires.a_value in
    functions_pairs _ _ P.0 _ _ P.2 P.3 K.0 K.1 _ P.1 _ _ _ _ _ _ _ c.type_c-count.ensures.0 c.type_c.ensures.0 c.if-count-type_c.false c.type_b-p.ensures.0 c.type_b-q.ensures.0 c.first_unequal-j.ensures c.operand-x.ensures c.operand-y.ensures _ _ c.requires.b_value c.params_parts-equal.ensures.0 c.unequal.ensures.0
