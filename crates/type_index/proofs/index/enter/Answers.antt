-- `index::enter` meets its contract. Assumes nothing.
use mathlib.Core.Path.{refl, ◌∙◌}
use native.Mathlib.Omega.{arith}
use lib.ListN.{length-set}
use borrow.Author.Rules.{rules}
use Rattle.type_index.proofs.LawsChains.{entering_is}
use Rattle.type_index.proofs.index.enter.Goals as goal

pub bounds-index-i-2 : goal.bounds-index-i-2
bounds-index-i-2 c = simp length-set (omega arith)

pub bounds-index-i-3 : goal.bounds-index-i-3
bounds-index-i-3 c = simp length-set (omega arith)

pub bounds-index-i-4 : goal.bounds-index-i-4
bounds-index-i-4 c = simp length-set (omega arith)

pub link-requires : goal.link-requires
link-requires c = (simp length-set (omega arith), search rules, search rules)

pub shape_of-index : goal.shape_of-index
shape_of-index c = c.link.auto.index ∙ simp length-set refl

pub returns : goal.returns
returns c = search (entering_is, rules)
