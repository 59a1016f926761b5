-- `lines::write_row` meets its contract. Assumes nothing.
use native.Mathlib.Omega.{arith}
use borrow.Author.Rules.{rules}
use Rattle.printing.proofs.LawsDecimal.{length_most}
use Rattle.pages.proofs.LawsLines.{four_digits, two_digits, row_done}
use Rattle.pages.proofs.lines.write_row.Goals as goal

pub write_cell-requires : goal.write_cell-requires
write_cell-requires c = (search (four_digits, rules), search rules)

pub write_cell-requires-2 : goal.write_cell-requires-2
write_cell-requires-2 c = (search (two_digits, rules), search rules)

pub write_cell-requires-3 : goal.write_cell-requires-3
write_cell-requires-3 c = (search (length_most, rules), search rules)

pub write_cell-requires-4 : goal.write_cell-requires-4
write_cell-requires-4 c = (search (length_most, rules), search rules)

pub returns : goal.returns
returns c =
    row_done
    (record { node_low = c.requires.0; kind_low = c.requires.1; result_low = omega (arith, c.ranges.res); binder_low = omega (arith, c.ranges.binder) })
    _ _ _ _ _ _
    c.requires.2
    c.write_cell.ensures
    c.write_cell-2.ensures
    c.write_cell-3.ensures
    c.write_cell-4.ensures
