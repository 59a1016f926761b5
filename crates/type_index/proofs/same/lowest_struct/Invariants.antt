-- `same::lowest_struct` meets its contract. The walk goes by the types below i and their buckets. Assumes nothing.
use Rattle.type_index.proofs.LawsChains.{equal_way}
use Rattle.type_index.proofs.same.lowest_struct.Given as goal

-- the test holds the file, its sections and i
abbrev pub ghost-last_where : goal.ghost-last_where
ghost-last_where a = equal_way a.test.0.now a.test.1.now a.test.2.now
