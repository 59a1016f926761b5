-- `lines::write_last` meets its contract. Assumes nothing.
use mathlib.Core.Path.{◌∙◌}
use lib.ListN.{length-set}
use borrow.Author.Rules.{rules}
use Rattle.pages.proofs.LawsLines.{pages_room, rows_room, end_room, last_done}
use Rattle.pages.proofs.lines.write_last.Goals as goal

pub write_labelled-next-requires : goal.write_labelled-next-requires
write_labelled-next-requires c = search (pages_room, rules)

pub write_labelled-end-requires : goal.write_labelled-end-requires
write_labelled-end-requires c = search (rows_room, rules)

pub bounds-out-end : goal.bounds-out-end
bounds-out-end c =
    end_room _ _ _ _ c.requires _ c.write_labelled-next.ensures.value _ c.write_labelled-end.ensures.value _
    (c.write_labelled-end.auto.out ∙ c.write_labelled-next.auto.out)

pub shape_of-out : goal.shape_of-out
shape_of-out c =
    simp length-set (c.write_labelled-end.auto.out ∙ c.write_labelled-next.auto.out)

pub returns : goal.returns
returns c =
    last_done _ _ _ _ _ _ _ _ c.requires c.write_labelled-next.ensures.value c.write_labelled-end.ensures.value
    c.write_labelled-next.ensures.out_after c.write_labelled-end.ensures.out_after
