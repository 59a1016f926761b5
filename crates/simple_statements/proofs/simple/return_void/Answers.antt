-- `return_void` meets its contract. Assumes nothing.
use mathlib.Core.Path.{refl}
use Rattle.answers.proofs.LawsAnswers.{answered}
use Rattle.simple_statements.proofs.LawsReturns.{void_no, void_ok}
use Rattle.simple_statements.proofs.simple.return_void.Goals as goal

pub returns-then-type_kind-ne3-clause-told : goal.returns-then-type_kind-ne3-clause-told
returns-then-type_kind-ne3-clause-told c =
    void_no c.requires.ready_stmt.0 c.requires.node_value c.type_kind.ensures.0 c.if-type_kind-ne3.true c.refused.ensures.0

pub returns-clause-told : goal.returns-clause-told
returns-clause-told c =
    void_ok c.requires.ready_stmt.0 c.requires.node_value c.type_kind.ensures.0 c.if-type_kind-ne3.false (answered c.ends.ensures.value refl refl refl) c.ends.ensures.rows_after
