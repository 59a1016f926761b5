-- `lines_wanted` meets its contract. Assumes nothing.
use borrow.Author.Rules.{rules}
use Rattle.printing.proofs.LawsPrint.{listed_all, listed_none}
use Rattle.printing.proofs.lines_wanted.Goals as goal

pub returns-then-number-eq0 : goal.returns-then-number-eq0
returns-then-number-eq0 c = search (listed_all, rules)

pub returns : goal.returns
returns c = search (listed_none, rules)
