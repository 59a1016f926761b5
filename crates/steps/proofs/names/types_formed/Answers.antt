-- `names::types_formed` meets its contract. The loop keeps: the type of every field passed is well-formed. Assumes nothing.
use borrow.Author.Rules.{rules}
use Rattle.steps.proofs.LawsNames.{no_field_formed, field_unformed, more_fields_formed, field_entered}
use Rattle.steps.proofs.names.types_formed.Goals as goal

pub loop-i-init : goal.loop-i-init
loop-i-init c = no_field_formed _ _ _

pub is_formed-requires : goal.is_formed-requires
is_formed-requires c = field_entered c.args.file.now.read _ _ _ _ _ c.args.file.now.indexed c.requires c.loop-i-test.true c.field_type.ensures.0

pub returns-then-not-is_formed : goal.returns-then-not-is_formed
returns-then-not-is_formed c = search (field_unformed, rules)

pub loop-i-preserved : goal.loop-i-preserved
loop-i-preserved c = search (more_fields_formed, rules)
