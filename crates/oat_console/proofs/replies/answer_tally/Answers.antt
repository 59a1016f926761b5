-- `replies::answer_tally` is safe and ends: the sections of a file that was read are laid in the bytes that it means. Assumes nothing.
use borrow.Author.Rules.{rules}
use Rattle.oat_console.proofs.LawsInput.{laid}
use Rattle.oat_console.proofs.replies.answer_tally.Goals as goal

pub answer_tally_read-requires : goal.answer_tally_read-requires
answer_tally_read-requires c = search (laid, rules)
