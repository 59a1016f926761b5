-- `page` meets its contract. Assumes nothing.
use Rattle.oat.proofs.LawsBlank.{these_meant}
use Rattle.program_file.proofs.LawsReading.{number_told}
use Rattle.program_file.proofs.Theorem.{bytes-of}
use Rattle.typing.proofs.LawsCheck.{was_read}
use Rattle.pages.proofs.LawsPage.{page_unread, page_refused, page_ready, page_short, page_printed}
use Rattle.pages.proofs.page.Goals as goal

pub returns-in_default : goal.returns-in_default
returns-in_default c =
    page_unread c.read-read.ensures.value c.in_default.is (number_told c.number.ensures) c.told.ensures

pub check_sections-checked-requires : goal.check_sections-checked-requires
check_sections-checked-requires c =
    was_read _ c.read-read.ensures.value c.in-Ok.is

pub returns-then-checked-ne0 : goal.returns-then-checked-ne0
returns-then-checked-ne0 c =
    page_refused _ c.read-read.ensures.value c.in-Ok.is c.check_sections-checked.ensures c.told-then-checked-ne0.ensures c.if-checked-ne0.true

pub write_page-requires : goal.write_page-requires
write_page-requires c =
    let bytes = bytes-of c.args.file.now c.type_inv.file in
    let these = these_meant _ _ c.meant.ensures c.blank_file-blank.ensures in
    page_ready _ c.read-read.ensures.value c.in-Ok.is c.check_sections-checked.ensures bytes these c.if-checked-ne0.false

pub returns-in_default-write_page : goal.returns-in_default-write_page
returns-in_default-write_page c =
    let bytes = bytes-of c.args.file.now c.type_inv.file in
    let these = these_meant _ _ c.meant.ensures c.blank_file-blank.ensures in
    page_short _ c.read-read.ensures.value c.in-Ok.is c.check_sections-checked.ensures bytes these c.if-checked-ne0.false c.write_page.ensures c.in_default-write_page.not-Some c.told-in_default-write_page.ensures

pub returns : goal.returns
returns c =
    let bytes = bytes-of c.args.file.now c.type_inv.file in
    let these = these_meant _ _ c.meant.ensures c.blank_file-blank.ensures in
    page_printed _ c.read-read.ensures.value c.in-Ok.is c.check_sections-checked.ensures bytes these c.if-checked-ne0.false c.write_page.ensures c.in-Some.is c.told-2.ensures
