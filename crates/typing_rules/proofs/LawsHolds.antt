-- A labelling taken apart: what has the labels of trees one after another, or of a statement with trees below it, has those of each.
-- Assumes nothing.
use mathlib.Core.Path.{◌≡◌, refl, ◌∙◌}
use mathlib.Core.List.{List, ◌∷◌, ◌++◌}
use Prim.Native.Nat.{ℕ, ◌+◌}
use lib.ListN.{length}
use Rattle.oat.specs.Tables.{Tables}
use Rattle.oat.specs.Types.{Ty}
use Rattle.typing_rules.specs.Contexts.{Scope}
use Rattle.typing_rules.specs.Labels.{Label, Labels}
use Rattle.typing_rules.specs.Judge.{marked_as}
use Rattle.typing_rules.proofs.Claims.{erase_label, erase, Holds}
use Rattle.typing_rules.proofs.LawsBridge.{erase_append, erase_long, holds_split}

-- two trees
pub labels_split : (T : Tables) (D : Labels Ty) (n k : ℕ) (L M : List (Label ℕ)) → length L ≡ k → Holds D n (erase T (L ++ M))
    → Holds D n (erase T L) × Holds D (n + k) (erase T M)
labels_split T D n k L M l h =
    holds_split D n k (n + k) (erase T L) (erase T M) (erase_long T L ∙ l) refl (rw (erase_append T L M) at h)

-- a node has the label of a statement
pub record Labelled (T : Tables) (D : Labels Ty) (n p : ℕ) (Γ Δ : Scope ℕ) : Type 0 where
  pub label : D n ≡ erase_label T (marked_as p Γ Δ)

-- a statement with one tree below it, two and three
module _ (T : Tables) (D : Labels Ty) (n : ℕ) {p : ℕ} {Γ Δ : Scope ℕ} (A : List (Label ℕ)) where
  pub one_part : Holds D n (erase T (marked_as p Γ Δ ∷ A)) → Labelled T D n p Γ Δ × Holds D (n + 1) (erase T A)
  unfolding Holds erase
  one_part h = (record { label = h.0 }, h.1)

  module _ (i : ℕ) (a : length A ≡ i) (B : List (Label ℕ)) where
    pub two_parts : Holds D n (erase T (marked_as p Γ Δ ∷ A ++ B))
        → Labelled T D n p Γ Δ × Holds D (n + 1) (erase T A) × Holds D (n + 1 + i) (erase T B)
    unfolding Holds erase
    two_parts h = let (x, y) = labels_split T D (n + 1) i A B a h.1 in (record { label = h.0 }, x, y)

    module _ (j : ℕ) (b : length B ≡ j) (C : List (Label ℕ)) where
      pub three_parts : Holds D n (erase T (marked_as p Γ Δ ∷ A ++ (B ++ C)))
          → Labelled T D n p Γ Δ × Holds D (n + 1) (erase T A) × Holds D (n + 1 + i) (erase T B) × Holds D (n + 1 + i + j) (erase T C)
      unfolding Holds erase
      three_parts h =
          let (x, y) = labels_split T D (n + 1) i A (B ++ C) a h.1 in
          let (u, v) = labels_split T D (n + 1 + i) j B C b y in
          (record { label = h.0 }, x, u, v)
