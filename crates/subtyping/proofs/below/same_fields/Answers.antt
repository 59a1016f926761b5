-- `below::same_fields` meets its contract. The loop keeps: the fields passed are the same. Assumes nothing.
use borrow.Author.Rules.{rules}
use Rattle.subtyping.proofs.LawsStructs.{no_fields, fields_fail, fields_more, fields_done}
use Rattle.subtyping.proofs.below.same_fields.Goals as goal

pub loop-j-init : goal.loop-j-init
loop-j-init c = search (no_fields, rules)

pub returns-then-not-same_field : goal.returns-then-not-same_field
returns-then-not-same_field c = search (fields_fail, rules)

pub loop-j-preserved : goal.loop-j-preserved
loop-j-preserved c = search (fields_more, rules)

pub returns : goal.returns
returns c = search (fields_done, rules)
