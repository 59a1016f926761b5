-- `lines::write_rows` meets its contract. The loop keeps: the lines of the nodes passed are written. Assumes nothing.
use mathlib.Core.Path.{refl}
use borrow.Author.Rules.{rules}
use Rattle.printing.proofs.LawsRows.{rows_start, rows_room, rows_more, rows_done, next_none, next_more}
use Rattle.printing.proofs.lines.write_rows.Goals as goal

pub loop-i-init : goal.loop-i-init
loop-i-init c = (search (next_none, rules), refl, search (rows_start, rules))

pub write_line-next-requires : goal.write_line-next-requires
write_line-next-requires c = search (rows_room, rules)

pub loop-i-preserved : goal.loop-i-preserved
loop-i-preserved c = (search (next_more, rules), search rules, search (rows_more, rules))

pub returns : goal.returns
returns c = search (rows_done, rules)
