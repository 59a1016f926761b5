-- The kinds of expressions by the arms of a `match`. Assumes nothing.
use mathlib.Core.Path.{◌≡◌, sym, subst, ◌∙◌}
use mathlib.Core.List.{List}
use Prim.Native.Nat.{ℕ, ◌≤◌, ◌<◌}
use native.Mathlib.Omega.{arith}
use Rattle.oat.specs.Tables.{node_at}
use Rattle.file_sections.specs.declared.Sections.{Sections}
use Rattle.file_sections.specs.Layout.{tables_of}
use Rattle.expressions.specs.Contract.{Ready}
use Rattle.expressions.proofs.LawsShape.{expr_kind}

-- the kind of an expression that is ready, as the dispatcher reads it
module _ {F : List ℕ} {S : Sections} {X R W K : List ℕ} {base n s π : ℕ} (g : Ready F S X R W K base n s π) where
  module _ {k : ℕ} (ek : k ≡ (node_at (tables_of F S) n).kind) where
    pub kind-at : {i : ℕ} → k ≡ i → (node_at (tables_of F S) n).kind ≡ i
    kind-at e = sym ek ∙ e

    pub kind_low : 10 ≤ k
    kind_low = subst (λ i. 10 ≤ i) (sym ek) (expr_kind (tables_of F S) n g.tree g.stands).0

    pub kind_high : k ≤ 26
    kind_high = subst (λ i. i ≤ 26) (sym ek) (expr_kind (tables_of F S) n g.tree g.stands).1

    pub kind_gap : k ≡ 22 → ⊥
    kind_gap e = (expr_kind (tables_of F S) n g.tree g.stands).2 (sym ek ∙ e)

    -- the arm 11..=14
    pub literal_from : 11 ≤ k → 11 ≤ (node_at (tables_of F S) n).kind
    literal_from h = subst (λ i. 11 ≤ i) ek h

    pub literal_to : k < 15 → (node_at (tables_of F S) n).kind ≤ 14
    literal_to h = subst (λ i. i ≤ 14) ek (omega arith)
