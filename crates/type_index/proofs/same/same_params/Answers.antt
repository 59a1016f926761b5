-- `same::same_params` meets its contract. Assumes nothing.
use mathlib.Core.Path.{refl}
use native.Mathlib.Omega.{arith}
use borrow.Author.Rules.{rules}
use borrow.Author.Tests.{tests}
use Rattle.std.proofs.lemmas.Iterator.{YieldsList-from_range}
use Rattle.std.proofs.lemmas.Iterator.Search.{all_from_yields_List}
use Rattle.file_sections.specs.Layout.{tables_of}
use Rattle.type_index.proofs.LawsSameTypes.{same_param, params_walked}
use Rattle.type_index.proofs.same.same_params.Goals as goal

pub returns : goal.returns
returns c =
    let T = tables_of c.args.file.now c.args.sections in
    params_walked _ _ _ _ _ _ (all_from_yields_List (same_param c.args.index.now T c.args.p c.args.q) _ _ c.all.result c.all.ensures.ran (YieldsList-from_range 0 c.args.count c.args.count refl (omega arith)) (λ x b q k. search (rules, tests)))
