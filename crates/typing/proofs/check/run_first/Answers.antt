-- `run_first` meets its contract. Assumes nothing.
use mathlib.Core.Path.{ap}
use Rattle.typing.proofs.LawsRuns.{handed_up}
use Rattle.typing.proofs.LawsAll.{first_structs_stop, first_built_ins, first_built_ins_stop, first_headings, first_done}
use Rattle.typing.proofs.check.run_first.Goals as goal

pub returns-in_err-structs-clause-told : goal.returns-in_err-structs-clause-told
returns-in_err-structs-clause-told c = first_structs_stop c.requires c.struct_names.ensures (handed_up c.in_err-structs.was c.from_residual.ensures.1)

pub built_ins-requires : goal.built_ins-requires
built_ins-requires c = first_built_ins c.requires c.struct_names.ensures c.in_ok-structs.was

pub returns-in_err-built-clause-told : goal.returns-in_err-built-clause-told
returns-in_err-built-clause-told c =
    first_built_ins_stop c.requires c.struct_names.ensures c.in_ok-structs.was c.built_ins.ensures.told (ap (λ w. w.now) c.built_ins.ensures.work_unchanged)
    (handed_up c.in_err-built.was c.from_residual-in_err-built.ensures.1)

pub headings-requires : goal.headings-requires
headings-requires c =
    first_headings c.requires c.struct_names.ensures c.in_ok-structs.was c.built_ins.ensures.told (ap (λ w. w.now) c.built_ins.ensures.work_unchanged) c.in_ok-built.was

pub returns-clause-told : goal.returns-clause-told
returns-clause-told c =
    first_done c.requires c.struct_names.ensures c.in_ok-structs.was c.built_ins.ensures.told (ap (λ w. w.now) c.built_ins.ensures.work_unchanged) c.in_ok-built.was c.headings.ensures.told
