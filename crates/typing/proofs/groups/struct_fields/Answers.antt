-- `struct_fields` meets its contract. The loop keeps: the fields of the first i structs have had their steps. Assumes nothing.
use borrow.Author.Rules.{rules}
use Rattle.typing.proofs.LawsRuns.{handed_up}
use Rattle.typing.proofs.LawsLoops.{fields_start, fields_ready, fields_stop, fields_next, fields_done}
use Rattle.typing.proofs.groups.struct_fields.Goals as goal

pub loop-i-init : goal.loop-i-init
loop-i-init c = search (fields_start, rules)

pub fields_step-requires : goal.fields_step-requires
fields_step-requires c = search (fields_ready, rules)

pub returns-in_err-c : goal.returns-in_err-c
returns-in_err-c c = fields_stop c.loop-i.invariant c.fields_step.ensures c.loop-i-test.true (handed_up c.in_err-c.was c.from_residual.ensures.1)

pub loop-i-preserved : goal.loop-i-preserved
loop-i-preserved c = fields_next c.loop-i.invariant c.fields_step.ensures c.in_ok-c.was

pub returns : goal.returns
returns c = fields_done c.loop-i.invariant c.loop-i.auto.i-end c.loop-i-test.false
