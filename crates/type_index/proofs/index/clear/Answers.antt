-- `index::clear` meets its contract. Assumes nothing.
use Rattle.type_index.proofs.LawsChains.{cleared_all}
use Rattle.type_index.proofs.index.clear.Goals as goal

pub returns : goal.returns
returns c = cleared_all _ _ c.requires (c.fill.ensures.after (λ y e. e))
