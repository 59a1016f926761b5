-- `body` meets its contract. Assumes nothing.
use borrow.Author.Rules.{rules}
use Rattle.typing.proofs.LawsDecls.{decl_node, body_none, body_ready, body_told}
use Rattle.typing.proofs.groups.body.Goals as goal

pub node_kind-requires : goal.node_kind-requires
node_kind-requires c = search (decl_node, rules)

pub body_step-requires : goal.body_step-requires
body_step-requires c = search (body_ready, rules)

pub returns-in-2-clause-told : goal.returns-in-2-clause-told
returns-in-2-clause-told c = search (body_told, rules)

pub returns-in_default-clause-told : goal.returns-in_default-clause-told
returns-in_default-clause-told c = search (body_none, rules)
