-- `literal::names_fit` meets its contract. Assumes nothing.
use Rattle.fields.proofs.LawsFitting.{same_count, count_differs, not_distinct, names_told}
use Rattle.fields.proofs.literal.names_fit.Goals.{then-count-struct_count, else-count-struct_count}
use Rattle.fields.proofs.literal.names_fit.Goals as goal

pub returns-then-are_distinct : goal.returns-then-are_distinct
returns-then-are_distinct c =
    elim c.if-count-struct_count.branch [
      | then-count-struct_count w ↦ names_told _ _ _ _ _ _ c.node_children-count.ensures.0 c.struct_count.ensures.0 _ w.if-count-struct_count.true _ w.are_distinct.ensures w.value-is c.if-are_distinct.true _ c.all_named.ensures
      | else-count-struct_count w ↦ absurd (same_count _ _ _ _ _ _ c.node_children-count.ensures.0 c.struct_count.ensures.0 _ w.if-count-struct_count.false w.value-is c.if-are_distinct.true)
    ]

pub returns-else-are_distinct : goal.returns-else-are_distinct
returns-else-are_distinct c =
    elim c.if-count-struct_count.branch [
      | then-count-struct_count w ↦ not_distinct _ _ _ _ _ _ c.node_children-count.ensures.0 c.struct_count.ensures.0 _ w.if-count-struct_count.true _ w.are_distinct.ensures w.value-is c.if-are_distinct.false
      | else-count-struct_count w ↦ count_differs _ _ _ _ _ _ c.node_children-count.ensures.0 c.struct_count.ensures.0 _ w.if-count-struct_count.false w.value-is
    ]
