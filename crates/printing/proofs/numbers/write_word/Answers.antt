-- `numbers::write_word` meets its contract. Assumes nothing.
use native.Mathlib.Omega.{arith}
use borrow.Author.Rules.{rules}
use Rattle.printing.proofs.LawsWritten.{word_length, word_room, word_next, word_long, word_done}
use Rattle.printing.proofs.numbers.write_word.Goals as goal

pub write_decimal-next-requires : goal.write_decimal-next-requires
write_decimal-next-requires c = search (word_room, rules)

pub bounds-out-next : goal.bounds-out-next
bounds-out-next c = search (word_next, rules)

pub overflow_add-result : goal.overflow_add-result
overflow_add-result c = let A = c.args in omega (arith, word_length A.n A.last)

pub returns : goal.returns
returns c = record { value = search (word_long, rules); out_after = search (word_done, rules) }
