-- `leaves::name` meets its contract. Assumes nothing.
use Rattle.bindings.proofs.LawsBindings.{found_position}
use Rattle.answers.proofs.leaves.name.Goals as goal

pub type_at-t-requires : goal.type_at-t-requires
type_at-t-requires c = found_position c.find.result c.find.ensures c.in-Some.position c.in-Some.is c.requires.0

pub binder_at-binder-requires : goal.binder_at-binder-requires
binder_at-binder-requires c = found_position c.find.result c.find.ensures c.in-Some.position c.in-Some.is c.requires.0
