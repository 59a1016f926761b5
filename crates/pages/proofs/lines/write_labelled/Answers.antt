-- `lines::write_labelled` meets its contract. Assumes nothing.
use borrow.Author.Rules.{rules}
use Rattle.pages.proofs.LawsLines.{label_room, number_room, labelled_end, labelled_done}
use Rattle.pages.proofs.lines.write_labelled.Goals as goal

pub write_text-requires : goal.write_text-requires
write_text-requires c = search (label_room, rules)

pub write_decimal-requires : goal.write_decimal-requires
write_decimal-requires c = search (number_room, rules)

pub returns : goal.returns
returns c = record { value = search (labelled_end, rules); out_after = search (labelled_done, rules) }
