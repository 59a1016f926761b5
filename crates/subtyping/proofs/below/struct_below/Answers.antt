-- `below::struct_below` meets its contract. Assumes nothing.
use borrow.Author.Rules.{rules}
use Rattle.subtyping.proofs.LawsStructs.{first_told, first_missing, second_missing, both_declared}
use Rattle.subtyping.proofs.below.struct_below.Goals.{then-first-sections, else-first-sections}
use Rattle.subtyping.proofs.below.struct_below.Goals as goal

pub returns-then-second-sections : goal.returns-then-second-sections
returns-then-second-sections c =
    elim c.if-first-sections.branch [
      | then-first-sections w ↦ search (both_declared, rules)
      | else-first-sections w ↦ absurd (search (first_told, rules))
    ]

pub returns-else-second-sections : goal.returns-else-second-sections
returns-else-second-sections c =
    elim c.if-first-sections.branch [
      | then-first-sections w ↦ search (second_missing, rules)
      | else-first-sections w ↦ search (first_missing, rules)
    ]
