-- `cells::write_cell` meets its contract. Assumes nothing.
use borrow.Author.Rules.{rules}
use Rattle.pages.proofs.LawsCells.{word_room, cell_done}
use Rattle.pages.proofs.cells.write_cell.Goals as goal

pub write_word-requires : goal.write_word-requires
write_word-requires c = search (word_room, rules)

pub returns : goal.returns
returns c = search (cell_done, rules)
