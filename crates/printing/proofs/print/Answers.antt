-- `print` meets its contract. Assumes nothing.
use borrow.Author.Rules.{rules}
use Rattle.printing.proofs.LawsPrint.{many, few, short, written}
use Rattle.printing.proofs.print.Goals as goal

pub returns-then-count-gt65535 : goal.returns-then-count-gt65535
returns-then-count-gt65535 c = search (many, rules)

pub returns-then-rows-count : goal.returns-then-rows-count
returns-then-rows-count c = search (few, rules)

pub returns-then-out-length : goal.returns-then-out-length
returns-then-out-length c = search (short, rules)

pub returns : goal.returns
returns c = search (written, rules)
