-- `same::same` meets its contract. Assumes nothing.
use mathlib.Core.Path.{ap₂}
use lib.Dec.{eqb}
use Rattle.type_index.proofs.same.same.Goals as goal

pub returns : goal.returns
returns c = ap₂ eqb c.lowest.ensures c.lowest-2.ensures
