-- `simple::variables` meets its contract. The loop keeps: the vars passed are accepted, and the others stand from the node come to.
use borrow.Author.Rules.{rules}
use mathlib.Core.Path.{refl}
use Rattle.answers.proofs.LawsAnswers.{answered}
use Rattle.expressions.proofs.LawsMeets.{unlisted}
use Rattle.simple_statements.proofs.LawsForVars.{vars_start, vars_kind, vars_ready, vars_no, vars_again, vars_done}
use Rattle.simple_statements.proofs.simple.variables.Goals as goal

pub loop-passed-init : goal.loop-passed-init
loop-passed-init c = (vars_start c.requires, search rules)

pub variable-one-requires : goal.variable-one-requires
variable-one-requires c =
    record { ready_stmt = vars_ready c.requires c.loop-passed.invariant.0 c.loop-passed-test.true; node_value = vars_kind c.requires c.loop-passed.invariant.0 c.loop-passed-test.true }

pub returns-in_default-clause-told : goal.returns-in_default-clause-told
returns-in_default-clause-told c =
    vars_no c.requires c.loop-passed.invariant.0 c.loop-passed-test.true c.variable-one.ensures.told (unlisted _ c.in_default.not-GoesOn)

pub loop-passed-preserved : goal.loop-passed-preserved
loop-passed-preserved c = (
  vars_again c.requires c.loop-passed.invariant.0 c.loop-passed-test.true c.variable-one.ensures.told c.in-GoesOn.is,
  search rules,
)

pub returns-clause-told : goal.returns-clause-told
returns-clause-told c =
    vars_done c.requires c.loop-passed.invariant.0 c.loop-passed-test.false (answered c.goes_on.ensures refl refl refl)
