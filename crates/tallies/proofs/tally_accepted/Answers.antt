-- `tally_accepted` meets its contract. Assumes nothing.
use mathlib.Core.Path.{refl}
use native.Mathlib.Omega.{arith}
use borrow.Author.Rules.{rules}
use Rattle.tallies.proofs.LawsTally.{accepted_tables, accepted_ready, types_short, declarations_short, both_written}
use Rattle.tallies.proofs.tally_accepted.Goals as goal

pub index_types-requires : goal.index_types-requires
index_types-requires c =
    (accepted_tables c.requires, search rules)

pub tally_declarations-count-requires : goal.tally_declarations-count-requires
tally_declarations-count-requires c =
    accepted_ready c.requires c.index_types.ensures refl refl

pub returns-then-by_type-sections : goal.returns-then-by_type-sections
returns-then-by_type-sections c =
    types_short c.requires c.tally_declarations-count.ensures c.if-by_type-sections.true

pub returns-then-by_declaration-count : goal.returns-then-by_declaration-count
returns-then-by_declaration-count c =
    declarations_short c.requires c.tally_declarations-count.ensures c.if-by_declaration-count.true

pub copy-requires : goal.copy-requires
copy-requires c =
    let told = c.tally_declarations-count.ensures in
    (omega (arith, told.counted.long, (accepted_tables c.requires).laid.types_most), omega (arith, c.if-by_type-sections.false))

pub copy-requires-2 : goal.copy-requires-2
copy-requires-2 c =
    let told = c.tally_declarations-count.ensures in
    (omega (arith, told.long, told.few), omega (arith, c.if-by_declaration-count.false))

pub returns : goal.returns
returns c =
    both_written c.requires c.tally_declarations-count.ensures c.if-by_type-sections.false c.if-by_declaration-count.false c.copy.ensures c.copy-2.ensures
