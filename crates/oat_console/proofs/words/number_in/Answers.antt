-- `words::number_in` meets its contract: the bytes from the place on, after the number so far, say what the word says. Assumes nothing.
use borrow.Author.Rules.{rules}
use Rattle.oat_console.proofs.LawsNumbers.{most, no_bytes, first_byte, no_digit, next_byte, all_bytes}
use Rattle.oat_console.proofs.words.number_in.Goals as goal

pub returns-then-is_empty : goal.returns-then-is_empty
returns-then-is_empty c = search (no_bytes, rules)

pub loop-byte-init : goal.loop-byte-init
loop-byte-init c = (search rules, search (first_byte, rules))

pub returns-then-not-is_ascii_digit : goal.returns-then-not-is_ascii_digit
returns-then-not-is_ascii_digit c = search (no_digit, rules)

pub loop-byte-preserved : goal.loop-byte-preserved
loop-byte-preserved c = (search (most, rules), search (next_byte, rules))

pub returns : goal.returns
returns c = search (all_bytes, rules)
