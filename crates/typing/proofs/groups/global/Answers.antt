-- `global` meets its contract. Assumes nothing.
use borrow.Author.Rules.{rules}
use Rattle.typing.proofs.LawsDecls.{decl_node, global_none, global_ready, global_told}
use Rattle.typing.proofs.groups.global.Goals as goal

pub node_kind-requires : goal.node_kind-requires
node_kind-requires c = search (decl_node, rules)

pub global_step-requires : goal.global_step-requires
global_step-requires c = search (global_ready, rules)

pub returns-in-1-clause-told : goal.returns-in-1-clause-told
returns-in-1-clause-told c = search (global_told, rules)

pub returns-in_default-clause-told : goal.returns-in_default-clause-told
returns-in_default-clause-told c = search (global_none, rules)
