-- `read_within` meets its contract: the sections that it found are laid. Assumes nothing.
use borrow.Author.Rules.{rules}
use Rattle.program_file.proofs.LawsReading.{laid}
use Rattle.program_file.proofs.read_within.Goals as goal

pub types_right-requires : goal.types_right-requires
types_right-requires c = (laid _ _ c.in_ok-sections.ensures, search rules)

pub tables_right-requires : goal.tables_right-requires
tables_right-requires c = laid _ _ c.in_ok-sections.ensures

pub trees_right-requires : goal.trees_right-requires
trees_right-requires c = laid _ _ c.in_ok-sections.ensures
