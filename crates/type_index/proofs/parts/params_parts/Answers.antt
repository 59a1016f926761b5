-- `parts::params_parts` meets its contract. Assumes nothing.
use Prim.Native.Nat.{◌≤◌}
use native.Mathlib.Omega.{arith}
use borrow.Author.Rules.{rules}
use borrow.Author.Tests.{tests}
use Rattle.std.specs.List.{range_with_len}
use Rattle.std.proofs.lemmas.Iterator.{YieldsList-from_range, YieldsList-from_map}
use Rattle.std.proofs.lemmas.Iterator.Consumers.{sum_by_from_yields_List, fits_by_from_yields_list}
use Rattle.file_sections.specs.Layout.{tables_of}
use Rattle.type_index.proofs.LawsParts.{param_parts, parts_walked, parts_total}
use Rattle.type_index.proofs.parts.params_parts.Goals as goal

pub sum-requires-clause-fits : goal.sum-requires-clause-fits
sum-requires-clause-fits c =
    let T = tables_of c.args.file.now c.args.sections in
    let parts = param_parts c.args.index.now T c.args.first in
    let few : c.args.count ≤ 1024 = omega (arith, c.requires.0.room, c.requires.0.laid.list_most) in
    fits_by_from_yields_list parts (range_with_len 0 c.args.count) c.map.result _ (YieldsList-from_map _ parts (YieldsList-from_range 0 c.args.count c.args.count c.map.ensures.source (omega arith)) c.map.ensures.closure (λ x r q k. search (rules, tests))) (parts_total c.args.index.now T c.args.first c.args.count (λ i. search rules) few)

pub returns : goal.returns
returns c =
    let T = tables_of c.args.file.now c.args.sections in
    let parts = param_parts c.args.index.now T c.args.first in
    parts_walked c.args.index.now T c.args.first c.args.count (λ i. search rules) _ (sum_by_from_yields_List parts (range_with_len 0 c.args.count) c.map.result c.sum.result c.sum.ensures.ran (YieldsList-from_map _ parts (YieldsList-from_range 0 c.args.count c.args.count c.map.ensures.source (omega arith)) c.map.ensures.closure (λ x r q k. search (rules, tests))))
