-- Each tally of a file whose rows are typed adds up to the count of its expression nodes. Assumes nothing.
use mathlib.Core.Path.{◌≡◌, refl, ap, sym, ◌∙◌}
use mathlib.Core.List.{List, [], ◌∷◌}
use Prim.Native.Nat.{ℕ, ◌+◌, ◌≤◌}
use native.Mathlib.Nat.{zero-add}
use native.Mathlib.Omega.{arith}
use lib.ListN.{length}
use Rattle.oat.specs.Basics.{sum_below}
use Rattle.oat.specs.Tables.{Tables}
use Rattle.oat.specs.Syntax.{Decl, size_decl, size_decls}
use Rattle.oat.specs.Nodes.{is_expression}
use Rattle.type_index.proofs.LawsIndex.{first_most}
use Rattle.tallies.specs.Tallies.{count_below, count_from, expression_count, lowest_equal, type_in_row, is_under, by_type, by_declaration, total}
use Rattle.tallies.specs.Walk.{TypedRows}
use Rattle.tallies.proofs.LawsCounts.{count_alike, from_split, sum_counts, total_tabulate}

-- the lowest number of a type is no higher
pub lowest_most : (T : Tables) (t : ℕ) → lowest_equal T t ≤ t
lowest_most T t = first_most _ t

pub by_type_total : (T : Tables) (R : List ℕ) → TypedRows T R → total (by_type T R) ≡ expression_count T
unfolding by_type
by_type_total T R r =
    total_tabulate (length T.types) (λ t. count_below (length T.nodes) (is_under T R t))
    ∙ sum_counts (length T.types) (length T.nodes) (is_expression T) (λ i. lowest_equal T (type_in_row R i))
    (λ i l e. omega (arith, lowest_most T (type_in_row R i), r.typed i l e))

declarations_total : (T : Tables) (n : ℕ) (ds : List Decl) → total (by_declaration T n ds) ≡ count_from n (size_decls ds) (is_expression T)
unfolding by_declaration total count_below sum_below
declarations_total T n [] = refl
declarations_total T n (d ∷ ds) =
    ap (λ k. count_from n (size_decl d) (is_expression T) + k) (declarations_total T (n + size_decl d) ds)
    ∙ sym (from_split n (size_decl d) (size_decls ds) (is_expression T))

pub by_declaration_total : (T : Tables) (ds : List Decl) → size_decls ds ≡ length T.nodes → total (by_declaration T 0 ds) ≡ expression_count T
by_declaration_total T ds e =
    declarations_total T 0 ds
    ∙ ap (λ k. count_from 0 k (is_expression T)) e
    ∙ count_alike (length T.nodes) (λ i. is_expression T (0 + i)) (is_expression T) (λ i l. ap (is_expression T) (zero-add i))
