-- `below::below`, `below::by_kinds`, `below::kind_below`, `below::function_below` and `below::params_below` meet their contracts. The sum
-- of the two type numbers falls from call to call; at the same sum the calls go from `below` to the kinds, to one kind, and on to a
-- function type and its parameters. The loop over parameters keeps: those passed are below, after at most 400 pairs each. Assumes nothing.
use Prim.Native.Nat.{◌+◌, ◌*◌, ◌≤◌}
use Rattle.file_sections.specs.Layout.{tables_of}
use Rattle.subtyping.proofs.LawsTypesBelow.{Passed}
use Rattle.subtyping.proofs.below.+below_by_kinds_function_below_kind_below_params_below.Given as goal

abbrev pub decreases-below : goal.decreases-below
decreases-below l = (l.a + l.b) * 5 + 4

abbrev pub decreases-by_kinds : goal.decreases-by_kinds
decreases-by_kinds l = (l.a + l.b) * 5 + 3

abbrev pub decreases-function_below : goal.decreases-function_below
decreases-function_below l = (l.a + l.b) * 5 + 1

abbrev pub decreases-kind_below : goal.decreases-kind_below
decreases-kind_below l = (l.a + l.b) * 5 + 2

abbrev pub decreases-params_below : goal.decreases-params_below
decreases-params_below l = (l.a + l.b) * 5

abbrev pub invariant-params_below-loop-j : goal.invariant-params_below-loop-j
invariant-params_below-loop-j l = Passed (tables_of l.file l.sections) l.p l.q l.count l.j l.pairs × (l.pairs ≤ 400 * l.j)
