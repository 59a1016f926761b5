-- Assumes nothing.
use Rattle.std.proofs.Common.{◌≡◌, ◌+◌, ◌-◌, length, take, drop, ap, sym, ◌∙◌, arith, length-drop}
use lib.Seq.{length-take-le}
use lib.ListN.{replicate}
use Rattle.writing.proofs.LawsText.{text_put}
use Rattle.pages.proofs.LawsCells.{blanks_length}
use Rattle.pages.proofs.cells.write_blanks.Goals as goal

pub returns : goal.returns
returns c =
    let width : c.args.at + c.args.count - c.args.at ≡ c.args.count = omega arith in
    let long : length (take (c.args.at + c.args.count - c.args.at) (drop c.args.at c.args.out.now)) ≡ c.args.count = length-take-le _ _ (omega (arith, length-drop c.args.at c.args.out.now)) ∙ width in
    text_put _ _ _ _ _ (ap (λ k. c.args.at + k) (sym (blanks_length c.args.count))) (c.fill.ensures.after (λ y e. e) ∙ ap (λ n. replicate n 32) long)
