-- `struct_names` meets its contract. The loop keeps: the first i structs have had their steps. Assumes nothing.
use borrow.Author.Rules.{rules}
use Rattle.typing.proofs.LawsRuns.{handed_up}
use Rattle.typing.proofs.LawsLoops.{structs_first, structs_ready, structs_stop, structs_next, structs_done}
use Rattle.typing.proofs.groups.struct_names.Goals as goal

pub loop-i-init : goal.loop-i-init
loop-i-init c = (structs_first c.args.file.now.read.laid (search rules) c.empty-c.ensures, search rules)

pub struct_step-requires : goal.struct_step-requires
struct_step-requires c = search (structs_ready, rules)

pub returns-in_err-c : goal.returns-in_err-c
returns-in_err-c c = structs_stop c.loop-i.invariant.0 c.struct_step.ensures c.loop-i-test.true (handed_up c.in_err-c.was c.from_residual.ensures.1)

pub loop-i-preserved : goal.loop-i-preserved
loop-i-preserved c = (structs_next c.loop-i.invariant.0 c.struct_step.ensures c.in_ok-c.was, search rules)

pub returns : goal.returns
returns c = structs_done c.loop-i.invariant.0 c.loop-i.auto.i-end c.loop-i-test.false
