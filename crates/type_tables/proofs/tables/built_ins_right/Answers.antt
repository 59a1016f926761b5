-- `tables::built_ins_right` meets its contract. Assumes nothing.
use mathlib.Core.Path.{◌∙◌}
use native.Mathlib.Omega.{arith}
use borrow.Author.Rules.{rules}
use borrow.Author.Tests.{tests}
use Rattle.std.proofs.lemmas.Iterator.{YieldsList-from_range}
use Rattle.std.proofs.lemmas.Iterator.Search.{all_from_yields_List}
use Rattle.oat.specs.TableRules.{built_in_rule}
use Rattle.file_sections.specs.Layout.{tables_of}
use Rattle.type_tables.proofs.LawsTables.{all_of_range}
use Rattle.type_tables.proofs.tables.built_ins_right.Goals as goal

pub returns : goal.returns
unfolding built_in_rule
returns c =
    let F = c.args.file.now in
    let S = c.args.sections in
    all_from_yields_List (built_in_rule (tables_of F S)) _ _ _ c.all.ensures.ran (YieldsList-from_range 0 S.built_ins S.built_ins (search rules) (omega arith)) (λ x b q k. search (rules, tests))
    ∙ all_of_range S.built_ins _
