-- The rows that the check writes for labels are those of the labels written out. Assumes nothing.
use mathlib.Core.Path.{refl}
use mathlib.Core.List.{List, [], ◌∷◌, ◌++◌}
use Prim.Native.Nat.{ℕ, ◌<◌}
use lib.ListN.{length}
use Rattle.oat.specs.Tables.{Tables}
use Rattle.typing_rules.specs.Labels.{Result, gives, marks, nothing, Label}
use Rattle.typing_rules.specs.Check.{child_result, next_result, row_result, rows_of}
use Rattle.typing_rules.specs.Rows.{ChildIs, NextIs, ResultIs, RowsAre, rows_none, rows_node}
use Rattle.typing_rules.proofs.Claims.{erase, erase_result}

-- a label's type number is one of the file's
abbrev pub ResultFits : Tables → Result ℕ → Type 0
ResultFits T (gives a) = a < length T.types
ResultFits T (marks p) = Unit {0}
ResultFits T nothing = Unit {0}

pub data LabelsFit (T : Tables) : List (Label ℕ) → Type 0 where
  fit_none : LabelsFit T []
  fit_label : {l : Label ℕ} {L : List (Label ℕ)} → ResultFits T l.result → LabelsFit T L → LabelsFit T (l ∷ L)

pub fit_append : {T : Tables} {L M : List (Label ℕ)} → LabelsFit T L → LabelsFit T M → LabelsFit T (L ++ M)
fit_append fit_none g = g
fit_append (fit_label r f) g = fit_label r (fit_append f g)

child_row : (T : Tables) (r : Result ℕ) → ResultFits T r → ChildIs T (erase_result T r) (child_result r)
child_row T (gives a) h = record { within = h; written = refl }
child_row T (marks p) h = refl
child_row T nothing h = refl

next_row : (T : Tables) (L : List (Label ℕ)) → LabelsFit T L → NextIs T (erase T L) (next_result L)
unfolding erase
next_row T [] f = refl
next_row T (l ∷ L) (fit_label r f) = child_row T l.result r

result_row : (T : Tables) (r : Result ℕ) (L : List (Label ℕ)) → ResultFits T r → LabelsFit T L → ResultIs T (erase_result T r) (erase T L) (row_result r L)
result_row T (gives a) L h f = record { within = h; written = refl }
result_row T (marks p) L h f = refl
result_row T nothing L h f = next_row T L f

pub rows_are : (T : Tables) (L : List (Label ℕ)) → LabelsFit T L → RowsAre T (erase T L) (rows_of L)
unfolding erase rows_of
rows_are T [] f = rows_none
rows_are T (l ∷ L) (fit_label r f) = rows_node (result_row T l.result L r f) refl (rows_are T L f)
