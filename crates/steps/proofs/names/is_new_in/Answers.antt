-- `names::is_new_in` meets its contract. Assumes nothing.
use Rattle.steps.proofs.LawsNames.{newness}
use Rattle.steps.proofs.names.is_new_in.Goals as goal

pub returns : goal.returns
returns c = newness _ _ c.find.ensures c.is_none.ensures
