-- `answer_one` is safe and ends. Assumes nothing.
use mathlib.Core.Path.{sym}
use lib.Seq.{length-take-le}
use Rattle.tally_vectors.proofs.answer_one.Goals as goal

pub slice_bounds-answer-end : goal.slice_bounds-answer-end
slice_bounds-answer-end c = sym (length-take-le _ _ c.if-file-length.false)

pub slice_bounds-answer-end-3 : goal.slice_bounds-answer-end-3
slice_bounds-answer-end-3 c = sym (length-take-le _ _ c.if-by_type-types.false)

pub slice_bounds-answer-end-5 : goal.slice_bounds-answer-end-5
slice_bounds-answer-end-5 c = sym (length-take-le _ _ c.if-by_declaration-declarations.false)
