-- `same::lowest_function` meets its contract. The walk goes by the types below i and their buckets. Assumes nothing.
use Rattle.type_index.proofs.LawsChains.{equal_way}
use Rattle.type_index.proofs.same.lowest_function.Given as goal

-- the test holds the file, its sections, the index and i
abbrev pub ghost-last_where : goal.ghost-last_where
ghost-last_where a = equal_way a.test.0.now a.test.1.now a.test.3.now
