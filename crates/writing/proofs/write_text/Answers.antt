-- Assumes nothing.
use Rattle.std.proofs.Common.{refl}
use Rattle.writing.proofs.LawsText.{text_put}
use Rattle.writing.proofs.write_text.Goals as goal

pub returns : goal.returns
returns c = text_put _ _ _ _ _ refl c.copy_from_slice.ensures.after
