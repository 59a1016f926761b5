-- `read` meets its contract, which has demand 1 in it. Assumes nothing.
use Rattle.oat.proofs.LawsBlank.{these_meant}
use Rattle.program_file.proofs.LawsReading.{parts_few, tested_out, tested_in}
use Rattle.program_file.proofs.Theorem.{bytes-of, with_demand1}
use Rattle.program_file.proofs.read.Goals as goal

pub returns-then-not-in_range : goal.returns-then-not-in_range
returns-then-not-in_range c =
    let (e, d) = with_demand1 _ _ (bytes-of _ c.type_inv.file) _ (tested_out _ _ _ c.in_range.ensures (rw c.if-not-in_range.true)) in
    record { value = e; reads_tables = d }

pub read_within-requires : goal.read_within-requires
read_within-requires c = parts_few _ _ c.in_range.ensures (rw c.if-not-in_range.false)

pub returns : goal.returns
returns c =
    let (e, d) =
    with_demand1 _ _ (bytes-of _ c.type_inv.file) _
    (tested_in _ _ _ c.in_range.ensures _ _ (rw c.if-not-in_range.false) (these_meant _ _ c.meant.ensures c.blank_file-blank.ensures) c.read_within.ensures) in
    record { value = e; reads_tables = d }
