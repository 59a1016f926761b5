-- `assigns` meets its contract. Assumes nothing.
use Rattle.simple_statements.proofs.LawsAssignment.{assigns_other, assigns_name}
use Rattle.simple_statements.proofs.simple.assigns.Goals as goal

pub returns-then-node_kind-ne15 : goal.returns-then-node_kind-ne15
returns-then-node_kind-ne15 c = assigns_other c.node_kind.ensures.0 c.if-node_kind-ne15.true

pub returns : goal.returns
returns c =
    assigns_name c.node_kind.ensures.0 c.if-node_kind-ne15.false c.node_x-name.ensures.0 c.is_assignable.ensures
