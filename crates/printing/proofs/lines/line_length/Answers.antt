-- `lines::line_length` meets its contract. Assumes nothing.
use borrow.Author.Rules.{rules}
use Rattle.printing.proofs.LawsLines.{line_long}
use Rattle.printing.proofs.lines.line_length.Goals as goal

pub returns : goal.returns
returns c = (search (line_long, rules), search rules)
