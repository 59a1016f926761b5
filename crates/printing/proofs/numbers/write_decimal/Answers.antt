-- `numbers::write_decimal` meets its contract. The loop keeps: the digits of the rest, put into the buffer, would make it what it is
-- to be. Assumes nothing.
use mathlib.Core.Path.{refl}
use borrow.Author.Rules.{rules}
use Rattle.printing.proofs.LawsWritten.{end_some, end_last, end_low, last_some, last_next, digits_next, digits_done}
use Rattle.printing.proofs.numbers.write_decimal.Goals as goal

pub overflow_sub-last : goal.overflow_sub-last
overflow_sub-last c = search (end_some, rules)

pub loop-rest-init : goal.loop-rest-init
loop-rest-init c = (search (end_last, rules), search (end_low, rules), refl, refl)

pub overflow_sub-last-in-loop-rest : goal.overflow_sub-last-in-loop-rest
overflow_sub-last-in-loop-rest c = search (last_some, rules)

pub loop-rest-preserved : goal.loop-rest-preserved
loop-rest-preserved c = (search (last_next, rules), search rules, search rules, search (digits_next, rules))

pub returns : goal.returns
returns c = record { value = search rules; out_after = search (digits_done, rules) }
