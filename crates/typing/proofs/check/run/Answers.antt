-- `run` meets its contract. Assumes nothing.
use native.Mathlib.Omega.{arith}
use Rattle.typing.proofs.LawsRuns.{handed_up}
use Rattle.typing.proofs.LawsAll.{all_first_stop, all_globals, all_globals_stop, all_fields, all_fields_stop, all_bodies, all_done}
use Rattle.typing.proofs.check.run.Goals as goal

pub returns-in_err-first-clause-told : goal.returns-in_err-first-clause-told
returns-in_err-first-clause-told c = all_first_stop c.requires.0 c.run_first.ensures.told (handed_up c.in_err-first.was c.from_residual.ensures.1)

pub globals-requires : goal.globals-requires
globals-requires c = (all_globals c.requires.0 c.run_first.ensures.told c.in_ok-first.was, c.requires.1)

pub returns-in_err-second-clause-told : goal.returns-in_err-second-clause-told
returns-in_err-second-clause-told c =
    all_globals_stop c.requires.0 c.run_first.ensures.told c.in_ok-first.was c.globals.ensures.told (handed_up c.in_err-second.was c.from_residual-in_err-second.ensures.1)

pub struct_fields-requires : goal.struct_fields-requires
struct_fields-requires c = all_fields c.requires.0 c.run_first.ensures.told c.in_ok-first.was c.globals.ensures.told c.in_ok-second.was

pub returns-in_err-third-clause-told : goal.returns-in_err-third-clause-told
returns-in_err-third-clause-told c =
    all_fields_stop c.requires.0 c.run_first.ensures.told c.in_ok-first.was c.globals.ensures.told c.in_ok-second.was c.struct_fields.ensures
    (handed_up c.in_err-third.was c.from_residual-in_err-third.ensures.1)

pub bodies-requires : goal.bodies-requires
bodies-requires c = (all_bodies c.requires.0 c.run_first.ensures.told c.in_ok-first.was c.globals.ensures.told c.in_ok-second.was c.struct_fields.ensures c.in_ok-third.was, omega (arith, c.globals.ensures.same_buffers.1, c.requires.1))

pub returns-clause-told : goal.returns-clause-told
returns-clause-told c = all_done c.requires.0 c.run_first.ensures.told c.in_ok-first.was c.globals.ensures.told c.in_ok-second.was c.struct_fields.ensures c.in_ok-third.was c.bodies.ensures.told
