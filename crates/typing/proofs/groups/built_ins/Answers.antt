-- `built_ins` meets its contract. The loop keeps: the first i built-ins have had their steps. Assumes nothing.
use borrow.Author.Rules.{rules}
use mathlib.Core.Path.{refl, ap}
use Rattle.typing.proofs.LawsRuns.{handed_up}
use Rattle.typing.proofs.LawsLoops.{same_stack, built_ins_start, built_ins_ready, built_ins_stop, built_ins_next, built_ins_done}
use Rattle.typing.proofs.groups.built_ins.Goals as goal

pub loop-i-init : goal.loop-i-init
loop-i-init c = (search (built_ins_start, rules), search rules)

pub built_in_step-requires : goal.built_in_step-requires
built_in_step-requires c = built_ins_ready c.loop-i.invariant.0 (ap (λ w. w.now) c.loop-i.invariant.1) c.requires c.loop-i-test.true

pub returns-in_err-c-clause-told : goal.returns-in_err-c-clause-told
returns-in_err-c-clause-told c =
    built_ins_stop c.loop-i.invariant.0 (same_stack (ap (λ w. w.now) c.loop-i.invariant.1) refl c.built_in_step.ensures) c.loop-i-test.true
    (handed_up c.in_err-c.was c.from_residual.ensures.1)

pub loop-i-preserved : goal.loop-i-preserved
loop-i-preserved c = (
  built_ins_next c.loop-i.invariant.0
      (same_stack (ap (λ w. w.now) c.loop-i.invariant.1) refl c.built_in_step.ensures) c.in_ok-c.was,
  c.loop-i.invariant.1,
)

pub returns-clause-told : goal.returns-clause-told
returns-clause-told c = built_ins_done c.loop-i.invariant.0 c.loop-i.auto.i-end c.loop-i-test.false
