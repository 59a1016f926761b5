-- `lines::last_length` meets its contract. Assumes nothing.
use borrow.Author.Rules.{rules}
use Rattle.pages.proofs.LawsLines.{last_told}
use Rattle.pages.proofs.lines.last_length.Goals as goal

pub returns : goal.returns
returns c = (search (last_told, rules), search rules)
