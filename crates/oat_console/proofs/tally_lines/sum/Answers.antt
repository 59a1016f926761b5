-- `tally_lines::sum` meets its contract. Assumes nothing.
use mathlib.Core.Path.{◌∙◌}
use borrow.Author.Rules.{rules}
use borrow.Author.Tests.{tests}
use Rattle.std.proofs.lemmas.Iterator.{YieldsList-from_slice, YieldsList-from_map}
use Rattle.std.proofs.lemmas.Iterator.Consumers.{sum_by_from_yields_List}
use Rattle.oat_console.proofs.LawsSum.{total_sum}
use Rattle.oat_console.proofs.tally_lines.sum.Goals as goal

pub returns : goal.returns
returns c = sum_by_from_yields_List (λ x. x) c.args.tally.now c.map.result c.sum.result c.sum.ensures.ran (YieldsList-from_map _ (λ x. x) (YieldsList-from_slice c.args.tally.now cc) c.map.ensures.closure (λ x r q k. search (rules, tests))) ∙ total_sum c.args.tally.now
