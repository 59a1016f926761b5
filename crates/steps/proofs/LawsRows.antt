-- The rows of labels and of parameters: how many there are, and that they stand as a run of numbers. Assumes nothing.
use mathlib.Core.Path.{◌≡◌, refl, ap, ◌∙◌}
use mathlib.Core.List.{List, [], ◌∷◌, ◌++◌}
use Prim.Native.Nat.{ℕ, suc, ◌+◌, ◌*◌}
use native.Mathlib.Omega.{arith}
use lib.ListN.{length}
use Rattle.oat.specs.Tables.{Tables, entry_at}
use Rattle.typing_rules.specs.Labels.{Label}
use Rattle.typing_rules.specs.Check.{rows_of, parameter_rows}
use Rattle.file_sections.specs.Frames.{ListAt}
use Rattle.file_sections.proofs.LawsFrames.{list_none, list_from, list_row}
use Rattle.expressions.specs.Contract.{RowsAt}

-- the rows of labels
pub rows_count : (L : List (Label ℕ)) → length (rows_of L) ≡ length L * 2
unfolding rows_of
rows_count [] = refl
rows_count (l ∷ L) = let e = rows_count L in omega arith

pub rows_list : (R : List ℕ) (n : ℕ) (L : List (Label ℕ)) → RowsAt R n L → ListAt R (n * 2) (rows_of L)
unfolding rows_of RowsAt
rows_list R n [] h = list_none R (n * 2)
rows_list R n (l ∷ L) h = list_row R (n * 2) _ _ (rows_of L) h.0 h.1 (list_from R ((n + 1) * 2) (n * 2 + 2) (rows_of L) (omega arith) (rows_list R (n + 1) L h.2))

-- of parameters
pub parameters_count : (T : Tables) (p : ℕ) (ps : List ℕ) → length (parameter_rows T p ps) ≡ length ps * 2
unfolding parameter_rows
parameters_count T p [] = refl
parameters_count T p (x ∷ xs) = let e = parameters_count T (suc p) xs in omega arith

-- of one parameter more
pub parameters_more : (T : Tables) (p x : ℕ) (ps : List ℕ) → parameter_rows T p (ps ++ (x ∷ [])) ≡ parameter_rows T p ps ++ (entry_at T (p + length ps) ∷ 65535 ∷ [])
unfolding parameter_rows
parameters_more T p x [] = let e : p ≡ p + 0 = omega arith in ap (λ i. entry_at T i ∷ 65535 ∷ []) e
parameters_more T p x (y ∷ ys) =
    let e : suc p + length ys ≡ p + suc (length ys) = omega arith in
    ap (λ l. entry_at T p ∷ 65535 ∷ l) (parameters_more T (suc p) x ys ∙ ap (λ i. parameter_rows T (suc p) ys ++ (entry_at T i ∷ 65535 ∷ [])) e)
