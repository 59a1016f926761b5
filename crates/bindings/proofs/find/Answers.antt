-- `Bindings::find` meets its contract. The loop keeps: `after` stands on the name's chain, and no position above it has the name. Assumes nothing.
use borrow.Author.Rules.{rules}
use Rattle.bindings.proofs.LawsBindings.{find_starts, find_position, find_found, find_falls, find_on, find_ends}
use Rattle.bindings.proofs.find.Goals as goal

pub loop-after-init : goal.loop-after-init
loop-after-init c = search (find_starts, rules)

pub name_at-requires : goal.name_at-requires
name_at-requires c = search (find_position, rules)

pub returns-then-name_at-name : goal.returns-then-name_at-name
returns-then-name_at-name c = search (find_found, rules)

pub loop-after-smaller : goal.loop-after-smaller
loop-after-smaller c = search (find_falls, rules)

pub loop-after-preserved : goal.loop-after-preserved
loop-after-preserved c = search (find_on, rules)

pub returns : goal.returns
returns c = search (find_ends, rules)
