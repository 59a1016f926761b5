-- `below::below`, `below::by_kinds`, `below::kind_below`, `below::function_below` and `below::params_below` meet their contracts. Assumes
-- nothing.
use mathlib.Core.Path.{refl}
use Prim.Native.Nat.{◌<◌}
use native.Mathlib.Omega.{arith}
use borrow.Author.Rules.{rules}
use Rattle.subtyping.proofs.LawsTypesBelow.{answers, itself_below, array_lower, nullable_lower, returns_lower, params_of, params_too, kinds_apart, below_4, from_7, string_held, other_held, base_below, struct_is, function_is, array_is, nullable_is, counts_differ, params_fail, returns_are, none_passed, all_passed, param_lower, more_passed, param_fails}
use Rattle.subtyping.proofs.below.+below_by_kinds_function_below_kind_below_params_below.Goals as goal
use Rattle.subtyping.proofs.below.+below_by_kinds_function_below_kind_below_params_below.Goals.{by_kinds-in_default-via-then-kind-lt4, by_kinds-in_default-via-else-kind-lt4+else-kind-lt7, by_kinds-in-2-1, by_kinds-in_default+else-kind-lt4+then-kind-lt7}

pub below-returns-then-is_itself : goal.below-returns-then-is_itself
below-returns-then-is_itself t c =
    let P = c.requires in
    let says = answers _ _ P.0 _ _ P.2 P.3 _ (search (itself_below, rules)) in
    record { holds_value = says.0; pairs_bound = says.1 }

pub below-returns : goal.below-returns
below-returns t c =
    let P = c.requires in
    let says = answers _ _ P.0 _ _ P.2 P.3 _ c.by_kinds.ensures in
    record { holds_value = says.0; pairs_bound = says.1 }

pub by_kinds-returns-then-other-ne7 : goal.by_kinds-returns-then-other-ne7
by_kinds-returns-then-other-ne7 t c = search (kinds_apart, rules)

pub by_kinds-below-requires : goal.by_kinds-below-requires
by_kinds-below-requires t c =
    let x : c.type_a.result < c.args.b = search (nullable_lower, rules) in
    (omega arith, search rules)

pub by_kinds-returns-in_default : goal.by_kinds-returns-in_default
by_kinds-returns-in_default t c =
    elim c.in_default.branch [
      | by_kinds-in_default-via-then-kind-lt4 w ↦ search (below_4, rules)
      | by_kinds-in_default-via-else-kind-lt4+else-kind-lt7 w ↦ search (from_7, rules)
    ]

pub by_kinds-returns-in-2 : goal.by_kinds-returns-in-2
by_kinds-returns-in-2 t c =
    elim c.in-2-1.branch [
      | by_kinds-in-2-1 w ↦ search (string_held, rules)
      | by_kinds-in_default+else-kind-lt4+then-kind-lt7 w ↦ search (other_held, rules)
    ]

pub function_below-returns-then-count-type_c : goal.function_below-returns-then-count-type_c
function_below-returns-then-count-type_c t c = search (counts_differ, rules)

pub function_below-params_below-params-requires : goal.function_below-params_below-params-requires
function_below-params_below-params-requires t c =
    let P = c.requires in
    let b = params_too _ _ P.0 _ _ _ _ c.type_b.ensures.0 c.type_c.ensures.0 c.if-count-type_c.false P.5 P.3 in
    let a = params_of _ _ P.0 _ _ _ c.type_b-2.ensures.0 c.type_c-count.ensures.0 P.4 P.2 in
    (omega arith, (P.0, P.1, P.3, P.2, b, a))

pub function_below-returns-then-not-params : goal.function_below-returns-then-not-params
function_below-returns-then-not-params t c = search (params_fail, rules)

pub function_below-below-returns-requires : goal.function_below-below-returns-requires
function_below-below-returns-requires t c =
    let x : c.type_a.result < c.args.a = search (returns_lower, rules) in
    let y : c.type_a-2.result < c.args.b = search (returns_lower, rules) in
    (omega arith, search rules)

pub function_below-returns : goal.function_below-returns
function_below-returns t c =
    let P = c.requires in
    returns_are _ _ P.0 _ _ P.2 P.3 _ _ c.type_c-count.ensures.0 c.type_c.ensures.0 c.if-count-type_c.false _ _ _ c.type_b.ensures.0 c.type_b-2.ensures.0 c.params_below-params.ensures.0 _ _ _ _ c.after-2.ensures c.if-not-params.false c.type_a.ensures.0 c.type_a-2.ensures.0 c.below-returns.ensures.holds_value

pub kind_below-equal-elements-requires : goal.kind_below-equal-elements-requires
kind_below-equal-elements-requires t c =
    let x : c.type_a.result < c.args.a = search (array_lower, rules) in
    let y : c.type_a-in-5.result < c.args.b = search (array_lower, rules) in
    search rules

pub kind_below-below-references-requires : goal.kind_below-below-references-requires
kind_below-below-references-requires t c =
    let x : c.type_a-in-7.result < c.args.a = search (nullable_lower, rules) in
    let y : c.type_a-in-7-2.result < c.args.b = search (nullable_lower, rules) in
    (omega arith, search rules)

pub kind_below-returns-in-4 : goal.kind_below-returns-in-4
kind_below-returns-in-4 t c = search (struct_is, rules)

pub kind_below-returns-in-5 : goal.kind_below-returns-in-5
kind_below-returns-in-5 t c = search (array_is, rules)

pub kind_below-returns-in-6 : goal.kind_below-returns-in-6
kind_below-returns-in-6 t c = search (function_is, rules)

pub kind_below-returns-in-7 : goal.kind_below-returns-in-7
kind_below-returns-in-7 t c = search (nullable_is, rules)

pub kind_below-returns-in_default : goal.kind_below-returns-in_default
kind_below-returns-in_default t c = search (base_below, rules)

pub params_below-loop-j-init : goal.params_below-loop-j-init
params_below-loop-j-init t c = (search (none_passed, rules), search rules)

pub params_below-below-compared-requires : goal.params_below-below-compared-requires
params_below-below-compared-requires t c =
    let x : c.list_entry.result < c.args.a = search (param_lower, rules) in
    let y : c.list_entry-in-loop-j.result < c.args.b = search (param_lower, rules) in
    (omega arith, search rules)

pub params_below-returns-then-not-compared : goal.params_below-returns-then-not-compared
params_below-returns-then-not-compared t c =
    let P = c.requires in
    (param_fails _ _ _ _ _ P.4 _ c.loop-j-test.true _ c.list_entry.ensures.0 P.0 P.2 _ _ c.list_entry-in-loop-j.ensures.0 _ c.below-compared.ensures.holds_value _ c.loop-j.invariant.0 _ refl c.if-not-compared.true, omega (arith, c.below-compared.ensures.pairs_bound.1))

pub params_below-loop-j-preserved : goal.params_below-loop-j-preserved
params_below-loop-j-preserved t c =
    let P = c.requires in
    (more_passed _ _ _ _ _ P.4 _ c.loop-j-test.true _ c.list_entry.ensures.0 P.0 P.2 _ _ c.list_entry-in-loop-j.ensures.0 _ c.below-compared.ensures.holds_value _ c.loop-j.invariant.0 _ refl c.if-not-compared.false, omega (arith, c.below-compared.ensures.pairs_bound.1))

pub params_below-returns : goal.params_below-returns
params_below-returns t c = (search (all_passed, rules), omega arith)
