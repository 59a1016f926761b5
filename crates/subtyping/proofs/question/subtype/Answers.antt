-- `question::subtype` meets its contract, in which its number, its yes and its count speak of programs and of the rules. Assumes nothing.
use mathlib.Core.Path.{◌≡◌}
use borrow.Author.Rules.{rules}
use Rattle.std.specs.Prelude.{Err}
use Rattle.std.proofs.lemmas.Result.{err_from_is_err_and}
use Rattle.oat.proofs.LawsBlank.{these_meant}
use Rattle.program_file.specs.Reading.{setting_of}
use Rattle.subtyping.specs.Question.{subtype_of}
use Rattle.subtyping.specs.declared.question.Refusal.{Refusal}
use Rattle.subtyping.proofs.LawsQuestion.{not_read, first_lacks, second_lacks, tables_there, both_there, with_answers}
use Rattle.subtyping.proofs.question.subtype.Goals.{then-sections-a-via-then-sections-a, then-sections-a-via-else-sections-a+then-sections-b}
use Rattle.subtyping.proofs.question.subtype.Goals as goal

pub returns-in_err-sections : goal.returns-in_err-sections
returns-in_err-sections c =
    let read = c.read.ensures in
    let p = err_from_is_err_and c.from_residual.result c.from_residual.ensures.1 in
    let said = with_answers _ _ _ _ _ (read.value, read.reads_tables) _ (not_read _ _ _ _ _ read.value _ c.in_err-sections.was _ p.2 _ p.1) in
    record { value = said.0; by_index = said.1 }

pub returns-then-sections-a : goal.returns-then-sections-a
returns-then-sections-a c =
    let read = c.read.ensures in
    let lacks : Err Refusal.NoType ≡ subtype_of (setting_of c.args.limits) c.args.file.now c.args.a c.args.b =
    elim c.then-sections-a.branch [
      | then-sections-a-via-then-sections-a w ↦ first_lacks _ _ _ _ _ read.value _ c.in_ok-sections.was w.if-sections-a.true
      | then-sections-a-via-else-sections-a+then-sections-b w ↦ second_lacks _ _ _ _ _ read.value _ c.in_ok-sections.was w.if-sections-a.false w.if-sections-b.true
    ] in
    let said = with_answers _ _ _ _ _ (read.value, read.reads_tables) _ lacks in
    record { value = said.0; by_index = said.1 }

pub ask-requires : goal.ask-requires
ask-requires c =
    (tables_there _ _ 0 0 _ c.read.ensures.value _ c.in_ok-sections.was _ (these_meant _ _ c.meant.ensures c.blank_file-blank.ensures), search rules, search rules)

pub returns : goal.returns
returns c =
    let read = c.read.ensures in
    let there = both_there _ _ _ _ _ read.value _ c.in_ok-sections.was _ (these_meant _ _ c.meant.ensures c.blank_file-blank.ensures) _ c.if-sections-a.false c.if-sections-b.false c.ask.ensures in
    let said = with_answers _ _ _ _ _ (read.value, read.reads_tables) _ there in
    record { value = said.0; by_index = said.1 }
