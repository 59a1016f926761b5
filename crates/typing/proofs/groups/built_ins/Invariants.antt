-- `built_ins` meets its contract. The loop keeps: the first i built-ins have had their steps. Assumes nothing.
use mathlib.Core.Path.{◌≡◌}
use Rattle.typing.proofs.LawsLoops.{BuiltInsDone}
use Rattle.typing.proofs.groups.built_ins.Given as goal

abbrev pub invariant-loop-i : goal.invariant-loop-i
invariant-loop-i l =
    BuiltInsDone l.file.bytes.now l.file.sections l.file.index.now l.fn.bindings.work.now l.fn.context l.bindings.chains l.i l.c × (l.bindings.work ≡ l.fn.bindings.work)
