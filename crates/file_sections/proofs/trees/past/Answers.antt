-- `trees::past` meets its contract. The loop keeps: the trees left of the tree stand from the node come to. Assumes nothing.
use Prim.Native.Nat.{◌<◌}
use borrow.Author.Rules.{rules}
use Rattle.file_sections.proofs.LawsTrees.{along_start, along_within, along_low, along_few, along_next, along_done}
use Rattle.file_sections.proofs.trees.past.Goals as goal

pub loop-open-init : goal.loop-open-init
loop-open-init c = search (along_start, rules)

pub node_children-requires : goal.node_children-requires
node_children-requires c = search (along_within, rules)

pub overflow_add-open : goal.overflow_add-open
overflow_add-open c = let few : c.loop-open.«open» < 268435457 = search (along_few, rules) in search rules

pub overflow_add-at : goal.overflow_add-at
overflow_add-at c = let low : c.loop-open.at < 4096 = search (along_low, rules) in search rules

pub loop-open-smaller : goal.loop-open-smaller
loop-open-smaller c = let within : c.loop-open.at < c.args.sections.nodes = search (along_within, rules) in search rules

pub loop-open-preserved : goal.loop-open-preserved
loop-open-preserved c = search (along_next, rules)

pub returns : goal.returns
returns c = search (along_done, rules)
