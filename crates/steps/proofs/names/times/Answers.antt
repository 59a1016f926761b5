-- `names::times` meets its contract. The loop keeps: the name was found that often among the names passed. Assumes nothing.
use borrow.Author.Rules.{rules}
use Rattle.steps.proofs.LawsNames.{times_none, times_hit, times_miss}
use Rattle.steps.proofs.names.times.Goals as goal
use Rattle.steps.proofs.names.times.Goals.{then-other-name, else-other-name}

pub loop-other-init : goal.loop-other-init
loop-other-init c = (search rules, search (times_none, rules))

pub loop-other-preserved : goal.loop-other-preserved
loop-other-preserved c =
    elim c.if-other-name.branch [
      | then-other-name w ↦ (search rules, search (times_hit, rules))
      | else-other-name w ↦ (search rules, search (times_miss, rules))
    ]
