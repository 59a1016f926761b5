-- `below::equal` meets its contract. Assumes nothing.
use borrow.Author.Rules.{rules}
use Rattle.subtyping.proofs.LawsUnequal.{entry_few, apart_entries, equal_whole, unequal_stops}
use Rattle.subtyping.proofs.below.equal.Goals as goal

pub returns-then-same : goal.returns-then-same
returns-then-same c = (search (equal_whole, rules), search (entry_few, rules))

pub unequal-requires-clause-b_value : goal.unequal-requires-clause-b_value
unequal-requires-clause-b_value c = search (apart_entries, rules)

pub returns : goal.returns
returns c = (search (unequal_stops, rules), search rules)
