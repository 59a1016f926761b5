-- What was read is within the buffer. Assumes nothing.
use Rattle.input_output.proofs.LawsInput.{within}
use Rattle.input_output.proofs.input.read_all.Goals as goal

pub returns : goal.returns
returns g c = within _ _ c.loop-length.invariant
