-- What the members of the cycle need. Assumes nothing.
use Rattle.std.proofs.Common.{rules, arith, refl, ◌≡◌}
use Rattle.answers.proofs.LawsOperators.{takes, compares}
use Rattle.expressions.proofs.LawsArrayWith.{filling_bindable, filling_array, filling_no, filling_left, filling_asked, filling_counted, filling_below, filling_ok, filled_first, filled_filling, filling_fine, filled_within, filled_array, filled_entered, filled_unformed, filled_no, filled_sort, filled_no_2, filled_ok}
use Rattle.expressions.proofs.LawsChild.{has_node, base_within, child_type, has_type, type_entered, child_fine, child_within}
use Rattle.expressions.proofs.LawsDispatch.{kind_low, kind_high, kind_gap, kind-at, literal_from, literal_to}
use Rattle.expressions.proofs.LawsInits.{inits_level, inits_start, inits_forward, inits_here, inits_ready, inits_child_no, inits_row, inits_counted, inits_tested, inits_again, inits_unfit, inits_done}
use Rattle.expressions.proofs.LawsLeaves.{null_asked, null_told, literal_told, name_told}
use Rattle.expressions.proofs.LawsList.{list_level, list_start, list_forward, list_ready, list_child_no, list_counted, list_tested, list_again, list_unfit, list_done}
use Rattle.expressions.proofs.LawsListRules.{array_type, array_entered, array_list, array_unformed, array_no, array_row, array_ok, row_fits, call_first, call_no, call_sort, call_type, call_void, call_count, call_list, call_no_2, call_row, call_ok, struct_within, struct_missing, struct-named, struct_names, struct_inits, struct_no, struct_row, struct_ok}
use Rattle.expressions.proofs.LawsMeets.{unlisted, untyped}
use Rattle.expressions.proofs.LawsSorts.{default-array, default_within, default_unformed, default_first, default_no, default_sort, default_none, default_ok, field_first, field_no, field_sort, field_unknown, field_within, field_ok, length_first, length_no, length_sort, length_ok, unary_first, unary_no, unary_given, unary_sort, unary_ok}
use Rattle.expressions.proofs.LawsTwo.{binary_first, binary_no, binary_second, equality_no_2, equality_counted, equality_counted_2, equality_there, equality_back, equality_ok, element_first, element_no, element_sort, element_second, element_no_2, element_sort_2, element_given, element_ok, operator_given, operator_sort, operator_no_2, operator_sort_2, operator_ok}
use Rattle.expressions.proofs.cycle.+expressions.Goals as goal
use Rattle.expressions.proofs.cycle.+expressions.Goals.{expression-in_default-via-then-this-lt10, expression-in_default-via-else-this-lt10+else-this-lt15}

pub array_literal-type_a-element-requires : goal.array_literal-type_a-element-requires
array_literal-type_a-element-requires t c = array_type c.requires.ready c.requires.node_value c.node_t-t.ensures.0

pub array_literal-is_formed-requires : goal.array_literal-is_formed-requires
array_literal-is_formed-requires t c = array_entered c.requires.ready c.requires.node_value c.node_t-t.ensures.0 c.type_a-element.ensures.0

pub array_literal-returns-then-not-is_formed-clause-told : goal.array_literal-returns-then-not-is_formed-clause-told
array_literal-returns-then-not-is_formed-clause-told t c = array_unformed c.requires.ready c.requires.node_value c.node_t-t.ensures.0 c.type_a-element.ensures.0 c.is_formed.ensures c.if-not-is_formed.true c.refused.ensures.0

pub array_literal-list-all-requires : goal.array_literal-list-all-requires
array_literal-list-all-requires t c = (omega (arith, c.decreases, c.requires.ready.within), array_list c.requires.ready c.requires.node_value c.node_t-t.ensures.0 c.type_a-element.ensures.0 c.node_children.ensures.0)

pub array_literal-returns-in_default-clause-told : goal.array_literal-returns-in_default-clause-told
array_literal-returns-in_default-clause-told t c =
    array_no c.requires.ready c.requires.node_value c.node_t-t.ensures.0 c.type_a-element.ensures.0 c.is_formed.ensures c.if-not-is_formed.false c.node_children.ensures.0 c.list-all.ensures.told (unlisted _ c.in_default.not-GoesOn)

pub array_literal-typed-requires : goal.array_literal-typed-requires
array_literal-typed-requires t c = array_row c.requires.ready c.requires.node_value c.node_t-t.ensures.0 c.type_a-element.ensures.0 c.is_formed.ensures c.if-not-is_formed.false c.node_children.ensures.0 c.list-all.ensures.told c.in-GoesOn.is

pub array_literal-returns-clause-told : goal.array_literal-returns-clause-told
array_literal-returns-clause-told t c =
    array_ok c.requires.ready c.requires.node_value c.node_t-t.ensures.0 c.type_a-element.ensures.0 c.is_formed.ensures c.if-not-is_formed.false c.node_children.ensures.0 c.list-all.ensures.told c.in-GoesOn.is c.typed.ensures.value c.typed.ensures.rows_after

pub array_value-bind-requires : goal.array_value-bind-requires
array_value-bind-requires t c = filling_bindable c.requires

pub array_value-returns-in_default-clause-told : goal.array_value-returns-in_default-clause-told
array_value-returns-in_default-clause-told t c = filling_no c.requires c.bind.ensures.bound c.expression-one.ensures.told (untyped _ c.in_default.not-Typed)

pub array_value-leave-requires : goal.array_value-leave-requires
array_value-leave-requires t c = let l = filling_left c.requires c.bind.ensures.bound c.expression-one.ensures.told c.in-Typed.is in (l.0, omega (arith, l.1))

pub array_value-type_a-element-requires : goal.array_value-type_a-element-requires
array_value-type_a-element-requires t c = filling_array c.requires c.node_t.ensures.0

pub array_value-below-asked-requires : goal.array_value-below-asked-requires
array_value-below-asked-requires t c = filling_asked c.requires c.bind.ensures.bound c.expression-one.ensures.told c.in-Typed.is c.leave.ensures.left c.node_t.ensures.0 c.type_a-element.ensures.0

pub array_value-counting-end-requires : goal.array_value-counting-end-requires
array_value-counting-end-requires t c = filling_counted c.requires c.bind.ensures.bound c.expression-one.ensures.told c.in-Typed.is c.leave.ensures.left c.node_t.ensures.0 c.type_a-element.ensures.0 c.below-asked.ensures.holds_value

pub array_value-returns-then-not-asked-clause-told : goal.array_value-returns-then-not-asked-clause-told
array_value-returns-then-not-asked-clause-told t c =
    rw c.leave.ensures.work_unchanged (filling_below c.requires c.bind.ensures.bound c.expression-one.ensures.told c.in-Typed.is c.leave.ensures.left c.node_t.ensures.0 c.type_a-element.ensures.0 c.below-asked.ensures.holds_value c.counting-end.ensures c.if-not-asked.true c.refused.ensures.0)

pub array_value-returns-clause-told : goal.array_value-returns-clause-told
array_value-returns-clause-told t c =
    rw c.leave.ensures.work_unchanged (filling_ok c.requires c.bind.ensures.bound c.expression-one.ensures.told c.in-Typed.is c.leave.ensures.left c.node_t.ensures.0 c.type_a-element.ensures.0 c.below-asked.ensures.holds_value c.counting-end.ensures c.if-not-asked.false refl refl refl refl)

pub array_with-type_a-element-requires : goal.array_with-type_a-element-requires
array_with-type_a-element-requires t c = filled_array c.requires.ready c.requires.node_value c.node_t-t.ensures.0

pub array_with-is_formed-requires : goal.array_with-is_formed-requires
array_with-is_formed-requires t c = filled_entered c.requires.ready c.requires.node_value c.node_t-t.ensures.0 c.type_a-element.ensures.0

pub array_with-returns-then-not-is_formed-clause-told : goal.array_with-returns-then-not-is_formed-clause-told
array_with-returns-then-not-is_formed-clause-told t c = filled_unformed c.requires.ready c.requires.node_value c.node_t-t.ensures.0 c.type_a-element.ensures.0 c.is_formed.ensures c.if-not-is_formed.true c.refused.ensures.0

pub array_with-expression-one-requires : goal.array_with-expression-one-requires
array_with-expression-one-requires t c = (omega (arith, c.decreases, c.requires.ready.within), filled_first c.requires.ready c.requires.node_value)

pub array_with-returns-in_default-clause-told : goal.array_with-returns-in_default-clause-told
array_with-returns-in_default-clause-told t c =
    filled_no c.requires.ready c.requires.node_value c.node_t-t.ensures.0 c.type_a-element.ensures.0 c.is_formed.ensures c.if-not-is_formed.false c.expression-one.ensures.told (untyped _ c.in_default.not-Typed)

pub array_with-type_kind-requires : goal.array_with-type_kind-requires
array_with-type_kind-requires t c = child_type (filled_first c.requires.ready c.requires.node_value) c.expression-one.ensures.told c.in-Typed.is

pub array_with-returns-then-type_kind-ne0-clause-told : goal.array_with-returns-then-type_kind-ne0-clause-told
array_with-returns-then-type_kind-ne0-clause-told t c =
    filled_sort c.requires.ready c.requires.node_value c.node_t-t.ensures.0 c.type_a-element.ensures.0 c.is_formed.ensures c.if-not-is_formed.false c.expression-one.ensures.told c.in-Typed.is c.type_kind.ensures.0 c.if-type_kind-ne0.true c.refused-then-type_kind-ne0.ensures.0

pub array_with-array_value-two-requires : goal.array_with-array_value-two-requires
array_with-array_value-two-requires t c = (omega (arith, c.decreases, c.requires.ready.within), filled_filling c.requires.ready c.requires.node_value c.expression-one.ensures.told c.in-Typed.is)

pub array_with-returns-in_default-judgement-clause-told : goal.array_with-returns-in_default-judgement-clause-told
array_with-returns-in_default-judgement-clause-told t c =
    filled_no_2 c.requires.ready c.requires.node_value c.node_t-t.ensures.0 c.type_a-element.ensures.0 c.is_formed.ensures c.if-not-is_formed.false c.expression-one.ensures.told c.in-Typed.is c.type_kind.ensures.0 c.if-type_kind-ne0.false c.array_value-two.ensures.told (untyped _ c.in_default-judgement.not-Typed)

pub array_with-typed-requires : goal.array_with-typed-requires
array_with-typed-requires t c = row_fits (filling_fine (filled_filling c.requires.ready c.requires.node_value c.expression-one.ensures.told c.in-Typed.is) c.array_value-two.ensures.told c.in-Typed-judgement.is) c.requires.ready.within (filled_within c.requires.ready c.requires.node_value c.node_t-t.ensures.0)

pub array_with-returns-clause-told : goal.array_with-returns-clause-told
array_with-returns-clause-told t c =
    filled_ok c.requires.ready c.requires.node_value c.node_t-t.ensures.0 c.type_a-element.ensures.0 c.is_formed.ensures c.if-not-is_formed.false c.expression-one.ensures.told c.in-Typed.is c.type_kind.ensures.0 c.if-type_kind-ne0.false c.array_value-two.ensures.told c.in-Typed-judgement.is c.typed.ensures.value c.typed.ensures.rows_after

pub binary-operator-requires : goal.binary-operator-requires
binary-operator-requires t c = (omega (arith, c.decreases), (c.requires.ready, (c.requires.node_value, takes c.operator_of.ensures c.node_x.ensures.0 c.in-Fixed.is)))

pub binary-equality-requires : goal.binary-equality-requires
binary-equality-requires t c = (omega (arith, c.decreases), (c.requires.ready, (c.requires.node_value, compares c.operator_of.ensures c.node_x.ensures.0 c.in-Equality.is)))

pub call-expression-one-requires : goal.call-expression-one-requires
call-expression-one-requires t c = (omega (arith, c.decreases, c.requires.ready.within), call_first c.requires.ready c.requires.node_value)

pub call-returns-in_default-clause-told : goal.call-returns-in_default-clause-told
call-returns-in_default-clause-told t c = call_no c.requires.ready c.requires.node_value c.expression-one.ensures.told (untyped _ c.in_default.not-Typed)

pub call-type_kind-requires : goal.call-type_kind-requires
call-type_kind-requires t c = child_type (call_first c.requires.ready c.requires.node_value) c.expression-one.ensures.told c.in-Typed.is

pub call-returns-then-type_kind-ne6-clause-told : goal.call-returns-then-type_kind-ne6-clause-told
call-returns-then-type_kind-ne6-clause-told t c = call_sort c.requires.ready c.requires.node_value c.expression-one.ensures.told c.in-Typed.is c.type_kind.ensures.0 c.if-type_kind-ne6.true c.refused.ensures.0

pub call-type_a-result-requires : goal.call-type_a-result-requires
call-type_a-result-requires t c = child_type (call_first c.requires.ready c.requires.node_value) c.expression-one.ensures.told c.in-Typed.is

pub call-type_kind-requires-2 : goal.call-type_kind-requires-2
call-type_kind-requires-2 t c = call_type c.requires.ready c.requires.node_value c.expression-one.ensures.told c.in-Typed.is c.type_kind.ensures.0 c.if-type_kind-ne6.false c.type_a-result.ensures.0

pub call-returns-then-type_kind-eq3-clause-told : goal.call-returns-then-type_kind-eq3-clause-told
call-returns-then-type_kind-eq3-clause-told t c =
    call_void c.requires.ready c.requires.node_value c.expression-one.ensures.told c.in-Typed.is c.type_kind.ensures.0 c.if-type_kind-ne6.false c.type_a-result.ensures.0 c.type_kind-2.ensures.0 c.if-type_kind-eq3.true c.refused-then-type_kind-eq3.ensures.0

pub call-type_c-count-requires : goal.call-type_c-count-requires
call-type_c-count-requires t c = child_type (call_first c.requires.ready c.requires.node_value) c.expression-one.ensures.told c.in-Typed.is

pub call-returns-then-node_children-count-clause-told : goal.call-returns-then-node_children-count-clause-told
call-returns-then-node_children-count-clause-told t c =
    call_count c.requires.ready c.requires.node_value c.expression-one.ensures.told c.in-Typed.is c.type_kind.ensures.0 c.if-type_kind-ne6.false c.type_a-result.ensures.0 c.type_kind-2.ensures.0 c.if-type_kind-eq3.false c.type_c-count.ensures.0 c.node_children.ensures.0 c.if-node_children-count.true c.refused-then-node_children-count.ensures.0

pub call-type_b-requires : goal.call-type_b-requires
call-type_b-requires t c = child_type (call_first c.requires.ready c.requires.node_value) c.expression-one.ensures.told c.in-Typed.is

pub call-list-all-requires : goal.call-list-all-requires
call-list-all-requires t c =
    let g = call_list c.requires.ready c.requires.node_value c.expression-one.ensures.told c.in-Typed.is c.type_kind.ensures.0 c.if-type_kind-ne6.false c.type_a-result.ensures.0 c.type_kind-2.ensures.0 c.if-type_kind-eq3.false c.type_c-count.ensures.0 c.node_children.ensures.0 c.if-node_children-count.false c.type_b.ensures.0 in (omega (arith, g.0, c.decreases, c.requires.ready.within), g.1)

pub call-returns-in_default-judgement-clause-told : goal.call-returns-in_default-judgement-clause-told
call-returns-in_default-judgement-clause-told t c =
    call_no_2 c.requires.ready c.requires.node_value c.expression-one.ensures.told c.in-Typed.is c.type_kind.ensures.0 c.if-type_kind-ne6.false c.type_a-result.ensures.0 c.type_kind-2.ensures.0 c.if-type_kind-eq3.false c.type_c-count.ensures.0 c.node_children.ensures.0 c.if-node_children-count.false c.type_b.ensures.0 c.list-all.ensures.told (unlisted _ c.in_default-judgement.not-GoesOn)

pub call-typed-requires : goal.call-typed-requires
call-typed-requires t c = call_row c.requires.ready c.requires.node_value c.expression-one.ensures.told c.in-Typed.is c.type_kind.ensures.0 c.if-type_kind-ne6.false c.type_a-result.ensures.0 c.type_kind-2.ensures.0 c.if-type_kind-eq3.false c.type_c-count.ensures.0 c.node_children.ensures.0 c.if-node_children-count.false c.type_b.ensures.0 c.list-all.ensures.told c.in-GoesOn.is

pub call-returns-clause-told : goal.call-returns-clause-told
call-returns-clause-told t c =
    call_ok c.requires.ready c.requires.node_value c.expression-one.ensures.told c.in-Typed.is c.type_kind.ensures.0 c.if-type_kind-ne6.false c.type_a-result.ensures.0 c.type_kind-2.ensures.0 c.if-type_kind-eq3.false c.type_c-count.ensures.0 c.node_children.ensures.0 c.if-node_children-count.false c.type_b.ensures.0 c.list-all.ensures.told c.in-GoesOn.is c.typed.ensures.value c.typed.ensures.rows_after

pub default_array-type_a-element-requires : goal.default_array-type_a-element-requires
default_array-type_a-element-requires t c = has_type c.requires.ready.fine.good_tables (default-array c.requires.ready c.requires.node_value c.node_t-t.ensures.0)

pub default_array-is_formed-requires : goal.default_array-is_formed-requires
default_array-is_formed-requires t c = type_entered c.requires.ready.fine (default_within c.requires.ready c.requires.node_value c.node_t-t.ensures.0 c.type_a-element.ensures.0).1

pub default_array-returns-then-not-is_formed-clause-told : goal.default_array-returns-then-not-is_formed-clause-told
default_array-returns-then-not-is_formed-clause-told t c = default_unformed c.requires.ready c.requires.node_value c.node_t-t.ensures.0 c.type_a-element.ensures.0 c.is_formed.ensures c.if-not-is_formed.true c.refused.ensures.0

pub default_array-expression-one-requires : goal.default_array-expression-one-requires
default_array-expression-one-requires t c =
    (omega (arith, c.decreases, c.requires.ready.within), default_first c.requires.ready c.requires.node_value c.node_t-t.ensures.0 c.type_a-element.ensures.0 c.is_formed.ensures c.if-not-is_formed.false)

pub default_array-returns-in_default-clause-told : goal.default_array-returns-in_default-clause-told
default_array-returns-in_default-clause-told t c =
    default_no c.requires.ready c.requires.node_value c.node_t-t.ensures.0 c.type_a-element.ensures.0 c.is_formed.ensures c.if-not-is_formed.false c.expression-one.ensures.told (untyped _ c.in_default.not-Typed)

pub default_array-type_kind-requires : goal.default_array-type_kind-requires
default_array-type_kind-requires t c = child_type (default_first c.requires.ready c.requires.node_value c.node_t-t.ensures.0 c.type_a-element.ensures.0 c.is_formed.ensures c.if-not-is_formed.false) c.expression-one.ensures.told c.in-Typed.is

pub default_array-returns-then-type_kind-ne0-clause-told : goal.default_array-returns-then-type_kind-ne0-clause-told
default_array-returns-then-type_kind-ne0-clause-told t c =
    default_sort c.requires.ready c.requires.node_value c.node_t-t.ensures.0 c.type_a-element.ensures.0 c.is_formed.ensures c.if-not-is_formed.false c.expression-one.ensures.told c.in-Typed.is c.type_kind.ensures.0 c.if-type_kind-ne0.true c.refused-then-type_kind-ne0.ensures.0

pub default_array-has_default-requires : goal.default_array-has_default-requires
default_array-has_default-requires t c = (default_within c.requires.ready c.requires.node_value c.node_t-t.ensures.0 c.type_a-element.ensures.0).1

pub default_array-returns-then-not-has_default-clause-told : goal.default_array-returns-then-not-has_default-clause-told
default_array-returns-then-not-has_default-clause-told t c =
    default_none c.requires.ready c.requires.node_value c.node_t-t.ensures.0 c.type_a-element.ensures.0 c.is_formed.ensures c.if-not-is_formed.false c.expression-one.ensures.told c.in-Typed.is c.type_kind.ensures.0 c.if-type_kind-ne0.false c.has_default.ensures c.if-not-has_default.true c.refused-then-not-has_default.ensures.0

pub default_array-typed-requires : goal.default_array-typed-requires
default_array-typed-requires t c = row_fits (child_fine (default_first c.requires.ready c.requires.node_value c.node_t-t.ensures.0 c.type_a-element.ensures.0 c.is_formed.ensures c.if-not-is_formed.false) c.expression-one.ensures.told c.in-Typed.is) c.requires.ready.within (default_within c.requires.ready c.requires.node_value c.node_t-t.ensures.0 c.type_a-element.ensures.0).0

pub default_array-returns-clause-told : goal.default_array-returns-clause-told
default_array-returns-clause-told t c =
    default_ok c.requires.ready c.requires.node_value c.node_t-t.ensures.0 c.type_a-element.ensures.0 c.is_formed.ensures c.if-not-is_formed.false c.expression-one.ensures.told c.in-Typed.is c.type_kind.ensures.0 c.if-type_kind-ne0.false c.has_default.ensures c.if-not-has_default.false c.typed.ensures.value c.typed.ensures.rows_after

pub equality-expression-one-requires : goal.equality-expression-one-requires
equality-expression-one-requires t c = (omega (arith, c.decreases, c.requires.ready.within), binary_first c.requires.ready c.requires.node_value)

pub equality-returns-in_default-clause-told : goal.equality-returns-in_default-clause-told
equality-returns-in_default-clause-told t c = binary_no c.requires.ready c.requires.node_value c.expression-one.ensures.told (untyped _ c.in_default.not-Typed)

pub equality-expression-two-requires : goal.equality-expression-two-requires
equality-expression-two-requires t c = let g = binary_second c.requires.ready c.requires.node_value c.expression-one.ensures.told c.in-Typed.is in (omega (arith, g.0, c.decreases, c.requires.ready.within), g.1)

pub equality-returns-in_default-judgement-clause-told : goal.equality-returns-in_default-judgement-clause-told
equality-returns-in_default-judgement-clause-told t c = equality_no_2 c.requires.ready c.requires.node_value c.expression-one.ensures.told c.in-Typed.is c.requires.node_value_2 c.expression-two.ensures.told (untyped _ c.in_default-judgement.not-Typed)

pub equality-below-there-requires : goal.equality-below-there-requires
equality-below-there-requires t c =
    (c.requires.ready.fine.good_tables, c.requires.ready.fine.indexed, child_within (binary_first c.requires.ready c.requires.node_value) c.expression-one.ensures.told c.in-Typed.is, child_within (binary_second c.requires.ready c.requires.node_value c.expression-one.ensures.told c.in-Typed.is).1 c.expression-two.ensures.told c.in-Typed-judgement.is)

pub equality-counting-half-requires : goal.equality-counting-half-requires
equality-counting-half-requires t c = equality_counted c.requires.ready c.requires.node_value c.expression-one.ensures.told c.in-Typed.is c.requires.node_value_2 c.expression-two.ensures.told _ c.below-there.ensures.holds_value

pub equality-returns-then-not-there-clause-told : goal.equality-returns-then-not-there-clause-told
equality-returns-then-not-there-clause-told t c =
    equality_there c.requires.ready c.requires.node_value c.expression-one.ensures.told c.in-Typed.is c.requires.node_value_2 c.expression-two.ensures.told c.in-Typed-judgement.is c.below-there.ensures.holds_value c.counting-half.ensures c.if-not-there.true c.refused.ensures.0

pub equality-below-back-requires : goal.equality-below-back-requires
equality-below-back-requires t c =
    (c.requires.ready.fine.good_tables, c.requires.ready.fine.indexed, child_within (binary_second c.requires.ready c.requires.node_value c.expression-one.ensures.told c.in-Typed.is).1 c.expression-two.ensures.told c.in-Typed-judgement.is, child_within (binary_first c.requires.ready c.requires.node_value) c.expression-one.ensures.told c.in-Typed.is)

pub equality-counting-end-requires : goal.equality-counting-end-requires
equality-counting-end-requires t c =
    equality_counted_2 c.requires.ready c.requires.node_value c.expression-one.ensures.told c.in-Typed.is c.requires.node_value_2 c.expression-two.ensures.told c.in-Typed-judgement.is c.below-there.ensures.holds_value c.counting-half.ensures c.below-back.ensures.holds_value

pub equality-returns-then-not-back-clause-told : goal.equality-returns-then-not-back-clause-told
equality-returns-then-not-back-clause-told t c =
    equality_back c.requires.ready c.requires.node_value c.expression-one.ensures.told c.in-Typed.is c.requires.node_value_2 c.expression-two.ensures.told c.in-Typed-judgement.is c.below-there.ensures.holds_value c.counting-half.ensures c.if-not-there.false c.below-back.ensures.holds_value c.counting-end.ensures c.if-not-back.true c.refused-then-not-back.ensures.0

pub equality-typed-requires : goal.equality-typed-requires
equality-typed-requires t c = row_fits (child_fine (binary_second c.requires.ready c.requires.node_value c.expression-one.ensures.told c.in-Typed.is).1 c.expression-two.ensures.told c.in-Typed-judgement.is) c.requires.ready.within (base_within c.requires.ready.fine.good_tables (omega arith))

pub equality-returns-clause-told : goal.equality-returns-clause-told
equality-returns-clause-told t c =
    equality_ok c.requires.ready c.requires.node_value c.expression-one.ensures.told c.in-Typed.is c.requires.node_value_2 c.expression-two.ensures.told c.in-Typed-judgement.is c.below-there.ensures.holds_value c.counting-half.ensures c.if-not-there.false c.below-back.ensures.holds_value c.counting-end.ensures c.if-not-back.false c.typed.ensures.value c.typed.ensures.rows_after

pub expression-null-requires : goal.expression-null-requires
expression-null-requires t c = null_asked c.requires (kind-at c.requires c.node_kind.ensures.0 c.in-10.is)

pub expression-binary-requires : goal.expression-binary-requires
expression-binary-requires t c =
    let low = kind_low c.requires c.node_kind.ensures.0 in
    let high = kind_high c.requires c.node_kind.ensures.0 in
    let gap = kind_gap c.requires c.node_kind.ensures.0 in
    let last : c.node_kind.result ≡ 26 = elim c.in_default.branch [ expression-in_default-via-then-this-lt10 w ↦ omega arith | expression-in_default-via-else-this-lt10+else-this-lt15 w ↦ omega arith ] in
    (omega (arith, c.decreases), (c.requires, kind-at c.requires c.node_kind.ensures.0 last))

pub expression-returns-in-10-clause-told : goal.expression-returns-in-10-clause-told
expression-returns-in-10-clause-told t c = null_told c.requires (kind-at c.requires c.node_kind.ensures.0 c.in-10.is) c.null.ensures

pub expression-returns-in-15-clause-told : goal.expression-returns-in-15-clause-told
expression-returns-in-15-clause-told t c = name_told c.requires (kind-at c.requires c.node_kind.ensures.0 c.in-15.is) c.name.ensures

pub expression-returns-in-11-to-14-clause-told : goal.expression-returns-in-11-to-14-clause-told
expression-returns-in-11-to-14-clause-told t c =
    literal_told c.requires (literal_from c.requires c.node_kind.ensures.0 (omega arith)) (literal_to c.requires c.node_kind.ensures.0 (omega arith)) c.literal.ensures.leaf_answer c.literal.ensures.rows_after

pub field-expression-one-requires : goal.field-expression-one-requires
field-expression-one-requires t c = (omega (arith, c.decreases, c.requires.ready.within), field_first c.requires.ready c.requires.node_value)

pub field-returns-in_default-clause-told : goal.field-returns-in_default-clause-told
field-returns-in_default-clause-told t c = field_no c.requires.ready c.requires.node_value c.expression-one.ensures.told (untyped _ c.in_default.not-Typed)

pub field-type_kind-requires : goal.field-type_kind-requires
field-type_kind-requires t c = child_type (field_first c.requires.ready c.requires.node_value) c.expression-one.ensures.told c.in-Typed.is

pub field-returns-then-type_kind-ne4-clause-told : goal.field-returns-then-type_kind-ne4-clause-told
field-returns-then-type_kind-ne4-clause-told t c = field_sort c.requires.ready c.requires.node_value c.expression-one.ensures.told c.in-Typed.is c.type_kind.ensures.0 c.if-type_kind-ne4.true c.refused.ensures.0

pub field-struct_record-owner-requires : goal.field-struct_record-owner-requires
field-struct_record-owner-requires t c = type_entered c.requires.ready.fine (child_within (field_first c.requires.ready c.requires.node_value) c.expression-one.ensures.told c.in-Typed.is)

pub field-returns-in_default-field_of-clause-told : goal.field-returns-in_default-field_of-clause-told
field-returns-in_default-field_of-clause-told t c =
    field_unknown c.requires.ready c.requires.node_value c.expression-one.ensures.told c.in-Typed.is c.type_kind.ensures.0 c.if-type_kind-ne4.false c.struct_record-owner.ensures c.node_x-wanted.ensures.0 _ c.field_of.ensures c.in_default-field_of.is c.refused-in_default-field_of.ensures.0

pub field-typed-requires : goal.field-typed-requires
field-typed-requires t c =
    row_fits (child_fine (field_first c.requires.ready c.requires.node_value) c.expression-one.ensures.told c.in-Typed.is) c.requires.ready.within (field_within c.requires.ready c.requires.node_value c.expression-one.ensures.told c.in-Typed.is c.type_kind.ensures.0 c.if-type_kind-ne4.false c.struct_record-owner.ensures c.node_x-wanted.ensures.0 _ c.field_of.ensures c.in-Some.is)

pub field-returns-clause-told : goal.field-returns-clause-told
field-returns-clause-told t c =
    field_ok c.requires.ready c.requires.node_value c.expression-one.ensures.told c.in-Typed.is c.type_kind.ensures.0 c.if-type_kind-ne4.false c.struct_record-owner.ensures c.node_x-wanted.ensures.0 _ c.field_of.ensures c.in-Some.is c.typed.ensures.value c.typed.ensures.rows_after

pub index_expression-expression-one-requires : goal.index_expression-expression-one-requires
index_expression-expression-one-requires t c = (omega (arith, c.decreases, c.requires.ready.within), element_first c.requires.ready c.requires.node_value)

pub index_expression-returns-in_default-clause-told : goal.index_expression-returns-in_default-clause-told
index_expression-returns-in_default-clause-told t c = element_no c.requires.ready c.requires.node_value c.expression-one.ensures.told (untyped _ c.in_default.not-Typed)

pub index_expression-type_kind-requires : goal.index_expression-type_kind-requires
index_expression-type_kind-requires t c = child_type (element_first c.requires.ready c.requires.node_value) c.expression-one.ensures.told c.in-Typed.is

pub index_expression-returns-then-type_kind-ne5-clause-told : goal.index_expression-returns-then-type_kind-ne5-clause-told
index_expression-returns-then-type_kind-ne5-clause-told t c = element_sort c.requires.ready c.requires.node_value c.expression-one.ensures.told c.in-Typed.is c.type_kind.ensures.0 c.if-type_kind-ne5.true c.refused.ensures.0

pub index_expression-expression-two-requires : goal.index_expression-expression-two-requires
index_expression-expression-two-requires t c = let g = element_second c.requires.ready c.requires.node_value c.expression-one.ensures.told c.in-Typed.is c.type_kind.ensures.0 in (omega (arith, g.0, c.decreases, c.requires.ready.within), g.1)

pub index_expression-returns-in_default-judgement-clause-told : goal.index_expression-returns-in_default-judgement-clause-told
index_expression-returns-in_default-judgement-clause-told t c =
    element_no_2 c.requires.ready c.requires.node_value c.expression-one.ensures.told c.in-Typed.is c.type_kind.ensures.0 c.if-type_kind-ne5.false c.expression-two.ensures.told (untyped _ c.in_default-judgement.not-Typed)

pub index_expression-type_kind-requires-2 : goal.index_expression-type_kind-requires-2
index_expression-type_kind-requires-2 t c = child_type (element_second c.requires.ready c.requires.node_value c.expression-one.ensures.told c.in-Typed.is c.type_kind.ensures.0).1 c.expression-two.ensures.told c.in-Typed-judgement.is

pub index_expression-returns-then-type_kind-ne0-clause-told : goal.index_expression-returns-then-type_kind-ne0-clause-told
index_expression-returns-then-type_kind-ne0-clause-told t c =
    element_sort_2 c.requires.ready c.requires.node_value c.expression-one.ensures.told c.in-Typed.is c.type_kind.ensures.0 c.if-type_kind-ne5.false c.expression-two.ensures.told c.in-Typed-judgement.is c.type_kind-2.ensures.0 c.if-type_kind-ne0.true c.refused-then-type_kind-ne0.ensures.0

pub index_expression-type_a-requires : goal.index_expression-type_a-requires
index_expression-type_a-requires t c = child_type (element_first c.requires.ready c.requires.node_value) c.expression-one.ensures.told c.in-Typed.is

pub index_expression-typed-requires : goal.index_expression-typed-requires
index_expression-typed-requires t c = row_fits (child_fine (element_second c.requires.ready c.requires.node_value c.expression-one.ensures.told c.in-Typed.is c.type_kind.ensures.0).1 c.expression-two.ensures.told c.in-Typed-judgement.is) c.requires.ready.within (element_given c.requires.ready c.requires.node_value c.expression-one.ensures.told c.in-Typed.is c.type_kind.ensures.0 c.if-type_kind-ne5.false c.expression-two.ensures.told c.in-Typed-judgement.is c.type_kind-2.ensures.0 c.type_a.ensures.0)

pub index_expression-returns-clause-told : goal.index_expression-returns-clause-told
index_expression-returns-clause-told t c =
    element_ok c.requires.ready c.requires.node_value c.expression-one.ensures.told c.in-Typed.is c.type_kind.ensures.0 c.if-type_kind-ne5.false c.expression-two.ensures.told c.in-Typed-judgement.is c.type_kind-2.ensures.0 c.if-type_kind-ne0.false c.type_a.ensures.0 (element_given c.requires.ready c.requires.node_value c.expression-one.ensures.told c.in-Typed.is c.type_kind.ensures.0 c.if-type_kind-ne5.false c.expression-two.ensures.told c.in-Typed-judgement.is c.type_kind-2.ensures.0 c.type_a.ensures.0) c.typed.ensures.value c.typed.ensures.rows_after

pub inits-loop-passed-init : goal.inits-loop-passed-init
inits-loop-passed-init t c = record { walked = inits_start c.requires; level = refl; same_buffers = (refl, refl, (refl, refl)) }

pub inits-expression-one-requires : goal.inits-expression-one-requires
inits-expression-one-requires t c =
    (omega (arith, c.decreases, inits_forward c.requires c.loop-passed.invariant.walked, inits_here c.requires c.loop-passed.invariant.walked c.loop-passed-test.true c.loop-passed.invariant.level), inits_ready c.requires c.loop-passed.invariant.walked c.loop-passed-test.true c.loop-passed.invariant.level)

pub inits-returns-in_default-clause-told : goal.inits-returns-in_default-clause-told
inits-returns-in_default-clause-told t c = inits_child_no c.requires c.loop-passed.invariant.walked c.loop-passed-test.true c.loop-passed.invariant.level c.expression-one.ensures.told (untyped _ c.in_default.not-Typed)

pub inits-row-requires : goal.inits-row-requires
inits-row-requires t c = inits_row c.requires c.loop-passed.invariant.walked c.loop-passed-test.true c.loop-passed.invariant.level c.expression-one.ensures.told c.in-Typed.is

pub inits-node_x-named-requires : goal.inits-node_x-named-requires
inits-node_x-named-requires t c = has_node c.requires.fine.good_tables (inits_here c.requires c.loop-passed.invariant.walked c.loop-passed-test.true c.loop-passed.invariant.level)

pub inits-still_fits-asked-requires : goal.inits-still_fits-asked-requires
inits-still_fits-asked-requires t c =
    record { type_there = inits_tested c.requires c.loop-passed.invariant.walked c.loop-passed-test.true c.loop-passed.invariant.level c.expression-one.ensures.told c.in-Typed.is; pairs_bound = (inits_counted c.requires c.loop-passed.invariant.walked).1 }

pub inits-loop-passed-preserved : goal.inits-loop-passed-preserved
inits-loop-passed-preserved t c = record {
  walked = inits_again c.requires c.loop-passed.invariant.walked c.loop-passed-test.true c.loop-passed.invariant.level c.expression-one.ensures.told c.in-Typed.is c.row.ensures c.node_x-named.ensures.0 c.still_fits-asked.ensures;
  level = inits_level c.requires c.loop-passed.invariant.walked c.loop-passed-test.true c.loop-passed.invariant.level c.expression-one.ensures.told c.in-Typed.is;
  same_buffers = search rules;
}

pub inits-counting-end-requires : goal.inits-counting-end-requires
inits-counting-end-requires t c = inits_counted c.requires c.loop-passed.invariant.walked

pub inits-returns-then-not-asked-clause-told : goal.inits-returns-then-not-asked-clause-told
inits-returns-then-not-asked-clause-told t c = inits_unfit c.requires c.loop-passed.invariant.walked c.loop-passed-test.false refl c.loop-passed.invariant.level refl c.counting-end.ensures c.if-not-asked.true c.refused.ensures.0

pub inits-returns-clause-told : goal.inits-returns-clause-told
inits-returns-clause-told t c = inits_done c.requires c.loop-passed.invariant.walked c.loop-passed-test.false refl c.loop-passed.invariant.level refl c.counting-end.ensures c.if-not-asked.false c.goes_on.ensures

pub length_of-expression-one-requires : goal.length_of-expression-one-requires
length_of-expression-one-requires t c = (omega (arith, c.decreases, c.requires.ready.within), length_first c.requires.ready c.requires.node_value)

pub length_of-returns-in_default-clause-told : goal.length_of-returns-in_default-clause-told
length_of-returns-in_default-clause-told t c = length_no c.requires.ready c.requires.node_value c.expression-one.ensures.told (untyped _ c.in_default.not-Typed)

pub length_of-type_kind-requires : goal.length_of-type_kind-requires
length_of-type_kind-requires t c = child_type (length_first c.requires.ready c.requires.node_value) c.expression-one.ensures.told c.in-Typed.is

pub length_of-returns-then-type_kind-ne5-clause-told : goal.length_of-returns-then-type_kind-ne5-clause-told
length_of-returns-then-type_kind-ne5-clause-told t c = length_sort c.requires.ready c.requires.node_value c.expression-one.ensures.told c.in-Typed.is c.type_kind.ensures.0 c.if-type_kind-ne5.true c.refused.ensures.0

pub length_of-typed-requires : goal.length_of-typed-requires
length_of-typed-requires t c = row_fits (child_fine (length_first c.requires.ready c.requires.node_value) c.expression-one.ensures.told c.in-Typed.is) c.requires.ready.within (base_within c.requires.ready.fine.good_tables (omega arith))

pub length_of-returns-clause-told : goal.length_of-returns-clause-told
length_of-returns-clause-told t c = length_ok c.requires.ready c.requires.node_value c.expression-one.ensures.told c.in-Typed.is c.type_kind.ensures.0 c.if-type_kind-ne5.false c.typed.ensures.value c.typed.ensures.rows_after

pub list-loop-i-init : goal.list-loop-i-init
list-loop-i-init t c = record { walked = list_start c.requires; level = refl; same_buffers = (refl, refl, (refl, refl)) }

pub list-expression-one-requires : goal.list-expression-one-requires
list-expression-one-requires t c =
    (omega (arith, c.decreases, list_forward c.requires c.loop-i.invariant.walked, (list_ready c.requires c.loop-i.invariant.walked c.loop-i-test.true c.loop-i.invariant.level).within), list_ready c.requires c.loop-i.invariant.walked c.loop-i-test.true c.loop-i.invariant.level)

pub list-returns-in_default-clause-told : goal.list-returns-in_default-clause-told
list-returns-in_default-clause-told t c = list_child_no c.requires c.loop-i.invariant.walked c.loop-i-test.true c.loop-i.invariant.level c.expression-one.ensures.told (untyped _ c.in_default.not-Typed)

pub list-still_below-asked-requires : goal.list-still_below-asked-requires
list-still_below-asked-requires t c =
    record { type_there = list_tested c.requires c.loop-i.invariant.walked c.loop-i-test.true c.loop-i.invariant.level c.expression-one.ensures.told c.in-Typed.is; pairs_bound = (list_counted c.requires c.loop-i.invariant.walked).1 }

pub list-loop-i-preserved : goal.list-loop-i-preserved
list-loop-i-preserved t c = record {
  walked = list_again c.requires c.loop-i.invariant.walked c.loop-i-test.true c.loop-i.invariant.level c.expression-one.ensures.told c.in-Typed.is c.still_below-asked.ensures;
  level = list_level c.requires c.loop-i.invariant.walked c.loop-i-test.true c.loop-i.invariant.level c.expression-one.ensures.told c.in-Typed.is;
  same_buffers = search rules;
}

pub list-counting-end-requires : goal.list-counting-end-requires
list-counting-end-requires t c = list_counted c.requires c.loop-i.invariant.walked

pub list-returns-then-not-asked-clause-told : goal.list-returns-then-not-asked-clause-told
list-returns-then-not-asked-clause-told t c = list_unfit c.requires c.loop-i.invariant.walked c.loop-i-test.false refl c.loop-i.invariant.level refl c.counting-end.ensures c.if-not-asked.true c.refused.ensures.0

pub list-returns-clause-told : goal.list-returns-clause-told
list-returns-clause-told t c = list_done c.requires c.loop-i.invariant.walked c.loop-i-test.false refl c.loop-i.invariant.level refl c.counting-end.ensures c.if-not-asked.false c.goes_on.ensures

pub operator-expression-one-requires : goal.operator-expression-one-requires
operator-expression-one-requires t c = (omega (arith, c.decreases, c.requires.ready.within), binary_first c.requires.ready c.requires.node_value)

pub operator-returns-in_default-clause-told : goal.operator-returns-in_default-clause-told
operator-returns-in_default-clause-told t c = binary_no c.requires.ready c.requires.node_value c.expression-one.ensures.told (untyped _ c.in_default.not-Typed)

pub operator-type_kind-requires : goal.operator-type_kind-requires
operator-type_kind-requires t c = child_type (binary_first c.requires.ready c.requires.node_value) c.expression-one.ensures.told c.in-Typed.is

pub operator-returns-then-type_kind-taken-clause-told : goal.operator-returns-then-type_kind-taken-clause-told
operator-returns-then-type_kind-taken-clause-told t c = operator_sort c.requires.ready c.requires.node_value c.expression-one.ensures.told c.in-Typed.is c.requires.node_value_2 c.type_kind.ensures.0 c.if-type_kind-taken.true c.refused.ensures.0

pub operator-expression-two-requires : goal.operator-expression-two-requires
operator-expression-two-requires t c = let g = binary_second c.requires.ready c.requires.node_value c.expression-one.ensures.told c.in-Typed.is in (omega (arith, g.0, c.decreases, c.requires.ready.within), g.1)

pub operator-returns-in_default-judgement-clause-told : goal.operator-returns-in_default-judgement-clause-told
operator-returns-in_default-judgement-clause-told t c =
    operator_no_2 c.requires.ready c.requires.node_value c.expression-one.ensures.told c.in-Typed.is c.requires.node_value_2 c.type_kind.ensures.0 c.if-type_kind-taken.false c.expression-two.ensures.told (untyped _ c.in_default-judgement.not-Typed)

-- either operand's type may be looked at, so that a test of the wrong one is refused by what the function answers
pub operator-type_kind-requires-2 : goal.operator-type_kind-requires-2
operator-type_kind-requires-2 t c =
    let first_there = child_type (binary_first c.requires.ready c.requires.node_value) c.expression-one.ensures.told c.in-Typed.is in
    let second_there = child_type (binary_second c.requires.ready c.requires.node_value c.expression-one.ensures.told c.in-Typed.is).1 c.expression-two.ensures.told c.in-Typed-judgement.is in
    search (first_there, second_there)

pub operator-returns-then-type_kind-taken-2-clause-told : goal.operator-returns-then-type_kind-taken-2-clause-told
operator-returns-then-type_kind-taken-2-clause-told t c =
    operator_sort_2 c.requires.ready c.requires.node_value c.expression-one.ensures.told c.in-Typed.is c.requires.node_value_2 c.type_kind.ensures.0 c.if-type_kind-taken.false c.expression-two.ensures.told c.in-Typed-judgement.is c.type_kind-2.ensures.0 c.if-type_kind-taken-2.true c.refused-then-type_kind-taken-2.ensures.0

pub operator-typed-requires : goal.operator-typed-requires
operator-typed-requires t c = row_fits (child_fine (binary_second c.requires.ready c.requires.node_value c.expression-one.ensures.told c.in-Typed.is).1 c.expression-two.ensures.told c.in-Typed-judgement.is) c.requires.ready.within (operator_given c.requires.ready c.requires.node_value c.expression-one.ensures.told c.in-Typed.is c.requires.node_value_2 c.type_kind.ensures.0)

pub operator-returns-clause-told : goal.operator-returns-clause-told
operator-returns-clause-told t c =
    operator_ok c.requires.ready c.requires.node_value c.expression-one.ensures.told c.in-Typed.is c.requires.node_value_2 c.type_kind.ensures.0 c.if-type_kind-taken.false c.expression-two.ensures.told c.in-Typed-judgement.is c.type_kind-2.ensures.0 c.if-type_kind-taken-2.false c.typed.ensures.value c.typed.ensures.rows_after

pub struct_literal-struct_record-owner-requires : goal.struct_literal-struct_record-owner-requires
struct_literal-struct_record-owner-requires t c = type_entered c.requires.ready.fine (struct_within c.requires.ready c.requires.node_value c.node_t-t.ensures.0)

pub struct_literal-returns-then-file-owner-clause-told : goal.struct_literal-returns-then-file-owner-clause-told
struct_literal-returns-then-file-owner-clause-told t c = struct_missing c.requires.ready c.requires.node_value c.node_t-t.ensures.0 c.struct_record-owner.ensures c.if-file-owner.true c.refused.ensures.0

pub struct_literal-names_fit-requires : goal.struct_literal-names_fit-requires
struct_literal-names_fit-requires t c =
    (c.requires.ready.fine.good_tables, c.requires.ready.within, c.if-file-owner.false, struct-named c.requires.ready c.requires.node_value c.node_t-t.ensures.0 c.struct_record-owner.ensures c.if-file-owner.false)

pub struct_literal-returns-then-not-names_fit-clause-told : goal.struct_literal-returns-then-not-names_fit-clause-told
struct_literal-returns-then-not-names_fit-clause-told t c =
    struct_names c.requires.ready c.requires.node_value c.node_t-t.ensures.0 c.struct_record-owner.ensures c.if-file-owner.false c.names_fit.ensures c.if-not-names_fit.true c.refused-then-not-names_fit.ensures.0

pub struct_literal-inits-all-requires : goal.struct_literal-inits-all-requires
struct_literal-inits-all-requires t c =
    (omega (arith, c.decreases, c.requires.ready.within), struct_inits c.requires.ready c.requires.node_value c.node_t-t.ensures.0 c.struct_record-owner.ensures c.if-file-owner.false c.node_children.ensures.0)

pub struct_literal-returns-in_default-clause-told : goal.struct_literal-returns-in_default-clause-told
struct_literal-returns-in_default-clause-told t c =
    struct_no c.requires.ready c.requires.node_value c.node_t-t.ensures.0 c.struct_record-owner.ensures c.if-file-owner.false c.names_fit.ensures c.if-not-names_fit.false c.node_children.ensures.0 c.inits-all.ensures.told (unlisted _ c.in_default.not-GoesOn)

pub struct_literal-typed-requires : goal.struct_literal-typed-requires
struct_literal-typed-requires t c = struct_row c.requires.ready c.requires.node_value c.node_t-t.ensures.0 c.struct_record-owner.ensures c.if-file-owner.false c.names_fit.ensures c.if-not-names_fit.false c.node_children.ensures.0 c.inits-all.ensures.told c.in-GoesOn.is

pub struct_literal-returns-clause-told : goal.struct_literal-returns-clause-told
struct_literal-returns-clause-told t c =
    struct_ok c.requires.ready c.requires.node_value c.node_t-t.ensures.0 c.struct_record-owner.ensures c.if-file-owner.false c.names_fit.ensures c.if-not-names_fit.false c.node_children.ensures.0 c.inits-all.ensures.told c.in-GoesOn.is c.typed.ensures.value c.typed.ensures.rows_after

pub unary-expression-one-requires : goal.unary-expression-one-requires
unary-expression-one-requires t c = (omega (arith, c.decreases, c.requires.ready.within), unary_first c.requires.ready c.requires.node_value)

pub unary-returns-in_default-clause-told : goal.unary-returns-in_default-clause-told
unary-returns-in_default-clause-told t c = unary_no c.requires.ready c.requires.node_value c.expression-one.ensures.told (untyped _ c.in_default.not-Typed)

pub unary-type_kind-requires : goal.unary-type_kind-requires
unary-type_kind-requires t c = child_type (unary_first c.requires.ready c.requires.node_value) c.expression-one.ensures.told c.in-Typed.is

pub unary-returns-then-type_kind-taken-clause-told : goal.unary-returns-then-type_kind-taken-clause-told
unary-returns-then-type_kind-taken-clause-told t c =
    unary_sort c.requires.ready c.requires.node_value c.expression-one.ensures.told c.in-Typed.is c.node_x.ensures.0 c.unary_type-taken.ensures c.type_kind.ensures.0 c.if-type_kind-taken.true c.refused.ensures.0

pub unary-typed-requires : goal.unary-typed-requires
unary-typed-requires t c = row_fits (child_fine (unary_first c.requires.ready c.requires.node_value) c.expression-one.ensures.told c.in-Typed.is) c.requires.ready.within (unary_given c.requires.ready c.requires.node_value c.expression-one.ensures.told c.in-Typed.is c.node_x.ensures.0 c.unary_type-taken.ensures c.type_kind.ensures.0)

pub unary-returns-clause-told : goal.unary-returns-clause-told
unary-returns-clause-told t c =
    unary_ok c.requires.ready c.requires.node_value c.expression-one.ensures.told c.in-Typed.is c.node_x.ensures.0 c.unary_type-taken.ensures c.type_kind.ensures.0 c.if-type_kind-taken.false c.typed.ensures.value c.typed.ensures.rows_after
