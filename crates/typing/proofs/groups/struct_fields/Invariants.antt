-- `struct_fields` meets its contract. The loop keeps: the fields of the first i structs have had their steps. Assumes nothing.
use Rattle.typing.proofs.LawsLoops.{FieldsDone}
use Rattle.typing.proofs.groups.struct_fields.Given as goal

abbrev pub invariant-loop-i : goal.invariant-loop-i
invariant-loop-i l = FieldsDone l.file.bytes.now l.file.sections l.fn.context l.i l.c
