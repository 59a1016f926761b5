-- `numbers::decimal_length` meets its contract. The loop keeps: the count and the digits of the rest are one more than the digits of
-- the number. Assumes nothing.
use native.Mathlib.Omega.{arith}
use borrow.Author.Rules.{rules}
use Rattle.printing.proofs.LawsDecimal.{count_low, count_more, count_all}
use Rattle.printing.proofs.numbers.decimal_length.Goals as goal

pub overflow_add-count : goal.overflow_add-count
overflow_add-count c = omega (arith, count_low _ _ _ c.loop-rest.invariant (omega arith))

pub loop-rest-preserved : goal.loop-rest-preserved
loop-rest-preserved c = search (count_more, rules)

pub returns : goal.returns
returns c = (search (count_all, rules), search (count_low, rules))
