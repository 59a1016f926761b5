-- `tally` meets its contract. Assumes nothing.
use mathlib.Core.Path.{refl}
use Rattle.oat.proofs.LawsBlank.{these_meant}
use Rattle.program_file.proofs.LawsReading.{number_told}
use Rattle.program_file.proofs.Theorem.{bytes-of}
use Rattle.typing.proofs.LawsCheck.{was_read}
use Rattle.tallies.proofs.LawsTally.{tally_unread, tally_refused, tally_ready, tally_short, tally_written}
use Rattle.tallies.proofs.tally.Goals as goal

pub returns-in_default : goal.returns-in_default
returns-in_default c =
    tally_unread c.read-read.ensures.value c.in_default.is (number_told c.number.ensures) c.bare.ensures

pub check_sections-checked-requires : goal.check_sections-checked-requires
check_sections-checked-requires c =
    was_read _ c.read-read.ensures.value c.in-Ok.is

pub returns-then-answer-ne0 : goal.returns-then-answer-ne0
returns-then-answer-ne0 c =
    tally_refused _ c.read-read.ensures.value c.in-Ok.is c.check_sections-checked.ensures refl c.if-answer-ne0.true

pub tally_accepted-requires : goal.tally_accepted-requires
tally_accepted-requires c =
    let bytes = bytes-of c.args.file.now c.type_inv.file in
    let these = these_meant _ _ c.meant.ensures c.blank_file-blank.ensures in
    tally_ready _ c.read-read.ensures.value c.in-Ok.is c.check_sections-checked.ensures bytes these c.if-answer-ne0.false

pub returns-then-not-tally_accepted : goal.returns-then-not-tally_accepted
returns-then-not-tally_accepted c =
    let bytes = bytes-of c.args.file.now c.type_inv.file in
    let these = these_meant _ _ c.meant.ensures c.blank_file-blank.ensures in
    tally_short _ c.read-read.ensures.value c.in-Ok.is c.check_sections-checked.ensures bytes these c.if-answer-ne0.false c.tally_accepted.ensures c.if-not-tally_accepted.true c.bare-then-not-tally_accepted.ensures

pub returns : goal.returns
returns c =
    let bytes = bytes-of c.args.file.now c.type_inv.file in
    let these = these_meant _ _ c.meant.ensures c.blank_file-blank.ensures in
    tally_written _ c.read-read.ensures.value c.in-Ok.is c.check_sections-checked.ensures bytes these c.if-answer-ne0.false c.tally_accepted.ensures c.if-not-tally_accepted.false refl
