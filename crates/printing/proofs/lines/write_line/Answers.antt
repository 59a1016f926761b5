-- `lines::write_line` meets its contract. Assumes nothing.
use borrow.Author.Rules.{rules}
use Rattle.printing.proofs.LawsLines.{first_room, second_room, third_room, line_end, line_done}
use Rattle.printing.proofs.lines.write_line.Goals as goal

pub write_word-second-requires : goal.write_word-second-requires
write_word-second-requires c = search (first_room, rules)

pub write_word-third-requires : goal.write_word-third-requires
write_word-third-requires c = search (second_room, rules)

pub write_word-requires : goal.write_word-requires
write_word-requires c = search (third_room, rules)

pub returns : goal.returns
returns c = record { value = search (line_end, rules); out_after = search (line_done, rules) }
