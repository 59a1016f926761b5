-- `replies::answer_page` is safe and ends: the page lies in the buffer. Assumes nothing.
use mathlib.Core.Path.{sym}
use lib.Seq.{length-take-le}
use Rattle.pages.proofs.Theorems.{page_room}
use Rattle.oat_console.proofs.replies.answer_page.Goals as goal

pub slice_bounds-out-end : goal.slice_bounds-out-end
slice_bounds-out-end c = page_room c.page-answer.ensures c.if-answer-ne0.false

pub slice_bounds-write_all-end : goal.slice_bounds-write_all-end
slice_bounds-write_all-end c = sym (length-take-le _ _ (page_room c.page-answer.ensures c.if-answer-ne0.false))
