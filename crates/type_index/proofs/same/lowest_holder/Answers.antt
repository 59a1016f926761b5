-- `same::lowest_holder` meets its contract. Assumes nothing.
use contract.BorrowLft.{⊑_static}
use borrow.Author.Rules.{rules}
use Rattle.type_index.proofs.LawsWalk.{held_more, held_all}
use Rattle.type_index.proofs.LawsChains.{equal_leads, equal_found, equal_nowhere}
use Rattle.type_index.proofs.same.lowest_holder.Goals as goal

pub last_where-requires : goal.last_where-requires
last_where-requires c κs within = (held_all _ _ (held_more _ _ _ within.0 (held_more _ _ _ within.1.0 (held_more _ _ _ within.1.1.0 (held_more _ _ _ within.1.1.1.0 (held_more _ _ _ within.1.1.1.1.0 (⊑_static _)))))), (search (equal_leads, rules), (search rules, search rules)))

pub returns-in-Some : goal.returns-in-Some
returns-in-Some c = equal_found _ _ _ _ _ _ c.in-Some.ensures c.entry.ensures.0 c.requires.good_tables.2

pub returns-in-None : goal.returns-in-None
returns-in-None c = equal_nowhere _ _ c.args.index.now _ c.in-None.ensures
