-- `check_sections` meets its contract. Assumes nothing.
use native.Mathlib.Omega.{arith}
use lib.Seq.{length-take-le}
use mathlib.Core.Path.{sym}
use Rattle.oat.proofs.LawsBlank.{these_meant}
use Rattle.program_file.proofs.Theorem.{bytes-of}
use Rattle.typing.proofs.LawsCheck.{nodes_few, check_rows_short, check_work_short, check_ready, check_good, told_sections}
use Rattle.typing.proofs.check.check_sections.Goals as goal

pub overflow_mul-needed : goal.overflow_mul-needed
overflow_mul-needed c = omega (arith, nodes_few c.requires)

pub returns-then-rows-needed : goal.returns-then-rows-needed
returns-then-rows-needed c = told_sections (λ l e. check_rows_short (bytes-of c.args.file.now c.shared_slice_known-1.given) e (omega (arith, c.if-rows-needed.true)) c.bare.ensures)

pub returns-then-work-needed : goal.returns-then-work-needed
returns-then-work-needed c = told_sections (λ l e. check_work_short (bytes-of c.args.file.now c.shared_slice_known-1.given) e c.if-rows-needed.false (omega (arith, c.if-work-needed.true)) c.bare-then-work-needed.ensures)

pub slice_bounds-check_read-end-2 : goal.slice_bounds-check_read-end-2
slice_bounds-check_read-end-2 c = sym (length-take-le _ _ c.if-rows-needed.false)

pub slice_bounds-check_read-end-4 : goal.slice_bounds-check_read-end-4
slice_bounds-check_read-end-4 c = sym (length-take-le _ _ c.if-work-needed.false)

pub check_read-requires : goal.check_read-requires
check_read-requires c = check_ready _ _ _ _ (bytes-of c.args.file.now c.shared_slice_known-1.given) c.requires.reads (these_meant _ _ c.meant.ensures c.blank_file-blank.ensures) c.if-rows-needed.false c.if-work-needed.false

pub returns : goal.returns
returns c = told_sections (λ l e. check_good l _ _ _ (bytes-of c.args.file.now c.shared_slice_known-1.given) e (these_meant _ _ c.meant.ensures c.blank_file-blank.ensures) c.if-rows-needed.false c.if-work-needed.false c.check_read.ensures)
