-- `records::record_of` meets its contract. Assumes nothing.
use contract.BorrowLft.{⊑_static}
use borrow.Author.Rules.{rules}
use borrow.Author.Tests.{tests}
use Rattle.type_index.proofs.LawsWalk.{held_more, held_all}
use Rattle.type_index.proofs.LawsRecordChains.{named_leads, named_found, named_nowhere}
use Rattle.type_index.proofs.records.record_of.Goals as goal

pub last_where-found-requires : goal.last_where-found-requires
last_where-found-requires c κs within = (held_all _ _ (held_more _ _ _ within.0 (held_more _ _ _ within.1.0 (held_more _ _ _ within.1.1.0 (⊑_static _)))), (named_leads _ _ _ c.requires.0 c.requires.1, (search rules, search (rules, tests))))

pub returns-in-Some : goal.returns-in-Some
returns-in-Some c = named_found _ _ _ _ c.in-Some.ensures

pub returns-in-None : goal.returns-in-None
returns-in-None c = named_nowhere _ _ _ c.in-None.ensures
