-- `leaves::still_fits` meets its contract. Assumes nothing.
use borrow.Author.Rules.{rules}
use Rattle.answers.proofs.LawsAnswers.{fits_none, fits_field, field_there}
use Rattle.answers.proofs.leaves.still_fits.Goals as goal

pub returns-in_default : goal.returns-in_default
returns-in_default c = search (fits_none, rules)

pub below-requires : goal.below-requires
below-requires c = search (field_there, rules)

pub returns : goal.returns
returns c = search (fits_field, rules)
