-- `write_answer` writes a text that is within the buffer. Assumes nothing.
use mathlib.Core.Path.{sym}
use lib.Seq.{length-take-le}
use Rattle.printing.proofs.LawsTold.{written_room}
use Rattle.answer_output.proofs.write_answer.Goals as goal

pub slice_bounds-write_all-end : goal.slice_bounds-write_all-end
slice_bounds-write_all-end c = written_room _ _ _ _ _ _ _ _ c.print-printed.ensures _ c.in-Ok.is

pub slice_bounds-write_all-end-in-Ok : goal.slice_bounds-write_all-end-in-Ok
slice_bounds-write_all-end-in-Ok c = sym (length-take-le _ _ (written_room _ _ _ _ _ _ _ _ c.print-printed.ensures _ c.in-Ok.is))
