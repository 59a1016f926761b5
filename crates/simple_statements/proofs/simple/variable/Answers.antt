-- `simple::variable` meets its contract. Assumes nothing.
use native.Mathlib.Omega.{arith}
use mathlib.Core.Path.{ap, refl}
use mathlib.Core.Bool.{not}
use Rattle.answers.proofs.LawsAnswers.{answered}
use Rattle.expressions.proofs.LawsMeets.{untyped}
use Rattle.simple_statements.proofs.LawsMarks.{mark_fits}
use Rattle.simple_statements.proofs.LawsVariable.{variable_first, variable_no, variable_fine, variable_some, variable_bindable, variable_taken, variable_ok}
use Rattle.simple_statements.proofs.simple.variable.Goals as goal

pub expression-one-requires : goal.expression-one-requires
expression-one-requires c =
    variable_first c.requires.ready_stmt c.requires.node_value

pub returns-in_default-clause-told : goal.returns-in_default-clause-told
returns-in_default-clause-told c =
    variable_no c.requires.ready_stmt c.requires.node_value c.expression-one.ensures.told (untyped _ c.in_default.not-Typed)

pub is_fresh-requires : goal.is_fresh-requires
is_fresh-requires c =
    variable_some c.requires.ready_stmt c.requires.node_value c.expression-one.ensures.told c.in-Typed.is

pub returns-then-not-is_fresh-clause-told : goal.returns-then-not-is_fresh-clause-told
returns-then-not-is_fresh-clause-told c =
    variable_taken c.requires.ready_stmt c.requires.node_value c.expression-one.ensures.told c.in-Typed.is c.node_x-name.ensures.0 c.is_fresh.ensures (ap not c.if-not-is_fresh.true) c.refused.ensures.0

pub bind-requires : goal.bind-requires
bind-requires c =
    variable_bindable c.requires.ready_stmt c.requires.node_value c.expression-one.ensures.told c.in-Typed.is

pub ends-requires : goal.ends-requires
ends-requires c =
    mark_fits (variable_fine c.requires.ready_stmt c.requires.node_value c.expression-one.ensures.told c.in-Typed.is) c.requires.ready_stmt.within (omega arith)

pub returns-clause-told : goal.returns-clause-told
returns-clause-told c =
    variable_ok c.requires.ready_stmt c.requires.node_value c.expression-one.ensures.told c.in-Typed.is c.node_x-name.ensures.0 c.is_fresh.ensures (ap not c.if-not-is_fresh.false) c.bind.ensures.bound (answered c.ends.ensures.value refl refl refl) c.ends.ensures.rows_after
