-- `write_page` meets its contract. Assumes nothing.
use Rattle.pages.proofs.LawsPage.{page_no_room, page_done}
use Rattle.pages.proofs.write_page.Goals as goal

pub returns-then-out-bytes : goal.returns-then-out-bytes
returns-then-out-bytes c =
    page_no_room c.requires c.type_inv.rows _ c.last_length.ensures.0 _ c.if-out-bytes.true

pub returns : goal.returns
returns c =
    page_done c.requires c.type_inv.rows _ c.last_length.ensures.0 _ _ _ c.if-out-bytes.false c.write_rows.ensures c.write_last.ensures
