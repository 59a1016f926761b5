-- `main` is safe: the text that the answer tells is within the buffer. Assumes nothing.
use mathlib.Core.Path.{sym}
use lib.Seq.{length-take-le}
use Rattle.printing.proofs.LawsTold.{written_room}
use Rattle.oat_check.proofs.main.Goals as goal

pub slice_bounds-text-end : goal.slice_bounds-text-end
slice_bounds-text-end c = written_room _ _ _ _ _ _ _ _ c.answer-answered.ensures.prints _ c.in-Ok-printed.is

pub slice_bounds-write-end : goal.slice_bounds-write-end
slice_bounds-write-end c = sym (length-take-le _ _ (written_room _ _ _ _ _ _ _ _ c.answer-answered.ensures.prints _ c.in-Ok-printed.is))
