-- `heading` meets its contract. Assumes nothing.
use borrow.Author.Rules.{rules}
use Rattle.typing.proofs.LawsDecls.{decl_node, heading_none, heading_ready, heading_told}
use Rattle.typing.proofs.groups.heading.Goals as goal

pub node_kind-requires : goal.node_kind-requires
node_kind-requires c = search (decl_node, rules)

pub heading_step-requires : goal.heading_step-requires
heading_step-requires c = search (heading_ready, rules)

pub returns-in-2-clause-told : goal.returns-in-2-clause-told
returns-in-2-clause-told c = search (heading_told, rules)

pub returns-in_default-clause-told : goal.returns-in_default-clause-told
returns-in_default-clause-told c = search (heading_none, rules)
