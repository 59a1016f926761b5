-- `struct_names` meets its contract. The loop keeps: the first i structs have had their steps. Assumes nothing.
use mathlib.Core.Path.{◌≡◌}
use lib.ListN.{length}
use Rattle.typing.proofs.LawsLoops.{StructsDone}
use Rattle.typing.proofs.groups.struct_names.Given as goal

abbrev pub invariant-loop-i : goal.invariant-loop-i
invariant-loop-i l = StructsDone l.file.bytes.now l.file.sections l.names l.i l.c × (length l.names ≡ 256)
