-- `same::function_bucket` meets its contract. Assumes nothing.
use borrow.Author.Rules.{rules}
use Rattle.type_index.proofs.LawsSameTypes.{returns_entered}
use Rattle.type_index.proofs.LawsChains.{bucket_most, bucket_function, entry_there}
use Rattle.type_index.proofs.same.function_bucket.Goals as goal

pub entry-first-requires : goal.entry-first-requires
entry-first-requires c = search (entry_there, returns_entered, rules)

pub returns : goal.returns
returns c = (search (bucket_function, rules), search (bucket_most, rules))
