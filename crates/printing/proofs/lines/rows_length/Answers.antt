-- `lines::rows_length` meets its contract. The loop keeps: the sum is the length of the lines of the nodes passed. Assumes nothing.
use borrow.Author.Rules.{rules}
use Rattle.printing.proofs.LawsRows.{sum_none, sum_more, sum_all}
use Rattle.printing.proofs.lines.rows_length.Goals as goal

pub loop-i-init : goal.loop-i-init
loop-i-init c = (search (sum_none, rules), search rules)

pub loop-i-preserved : goal.loop-i-preserved
loop-i-preserved c = (search (sum_more, rules), search rules)

pub returns : goal.returns
returns c = (search (sum_all, rules), search rules)
