-- The kinds of statements by the arms of the dispatcher. Assumes nothing.
use mathlib.Core.Path.{◌≡◌, refl, sym, subst, ◌∙◌}
use mathlib.Core.Bool.{Bool, true, false}
use mathlib.Core.List.{List}
use Prim.Native.Nat.{ℕ, ◌+◌, ◌≤◌}
use native.Mathlib.Omega.{arith}
use lib.Dec.{eqb}
use borrow.Author.Tests.{eqb-true, eqb-false}
use Rattle.oat.specs.Tables.{node_at}
use Rattle.file_sections.specs.declared.Sections.{Sections}
use Rattle.file_sections.specs.Layout.{tables_of}
use Rattle.answers.specs.declared.answer.Judged.{Judged}
use Rattle.simple_statements.specs.Contract.{ReadyStmt, ToldStmt, ToldAny}
use Rattle.simple_statements.proofs.LawsLabels.{stmt_kind}

-- a number that is not the lowest is above it
next : (a k : ℕ) → a ≤ k → (k ≡ a → ⊥) → a + 1 ≤ k
next a k h f = above (eqb k a) refl
  where
    above : (b : Bool) → eqb k a ≡ b → a + 1 ≤ k
    above true e = absurd (f (eqb-true k a e))
    above false e = omega (arith, eqb-false k a e)

-- the kind that none of the arms before the last has
last_kind : (k : ℕ) → 30 ≤ k → k ≤ 38 → (k ≡ 30 → ⊥) → (k ≡ 31 → ⊥) → (k ≡ 32 → ⊥) → (k ≡ 33 → ⊥)
    → (k ≡ 34 → ⊥) → (k ≡ 35 → ⊥) → (k ≡ 36 → ⊥) → (k ≡ 37 → ⊥) → k ≡ 38
last_kind k l m f30 f31 f32 f33 f34 f35 f36 f37 =
    let a : 34 ≤ k = next 33 k (next 32 k (next 31 k (next 30 k l f30) f31) f32) f33 in
    let b : 38 ≤ k = next 37 k (next 36 k (next 35 k (next 34 k a f34) f35) f36) f37 in
    omega (arith, b, m)

-- the kind of a statement that is ready, as the dispatcher reads it
module _ {F : List ℕ} {S : Sections} {X R W K : List ℕ} {base n s π : ℕ} (g : ReadyStmt F S X R W K base n s π) where
  module _ {k : ℕ} (ek : k ≡ (node_at (tables_of F S) n).kind) where
    pub stmt_kind_at : {i : ℕ} → k ≡ i → (node_at (tables_of F S) n).kind ≡ i
    stmt_kind_at e = sym ek ∙ e

    pub stmt_kind_low : 30 ≤ k
    stmt_kind_low = subst (λ i. 30 ≤ i) (sym ek) (stmt_kind (tables_of F S) n g.tree g.stands).0

    pub stmt_kind_high : k ≤ 38
    stmt_kind_high = subst (λ i. i ≤ 38) (sym ek) (stmt_kind (tables_of F S) n g.tree g.stands).1

    -- the last arm
    pub while_kind : (k ≡ 30 → ⊥) → (k ≡ 31 → ⊥) → (k ≡ 32 → ⊥) → (k ≡ 33 → ⊥)
        → (k ≡ 34 → ⊥) → (k ≡ 35 → ⊥) → (k ≡ 36 → ⊥) → (k ≡ 37 → ⊥) → (node_at (tables_of F S) n).kind ≡ 38
    while_kind f30 f31 f32 f33 f34 f35 f36 f37 = stmt_kind_at (last_kind k stmt_kind_low stmt_kind_high f30 f31 f32 f33 f34 f35 f36 f37)

-- a statement whose answer holds for more than its block, its place and its return type
module _ {F : List ℕ} {S : Sections} {X R W R₁ W₁ K₁ : List ℕ} {base start rt n s π : ℕ} {last : Bool} {r : Judged} where
  pub any_told : ToldAny F S X R W base n s π R₁ W₁ K₁ r → ToldStmt F S X R W base start rt last n s π R₁ W₁ K₁ r
  any_told t = record { tells = (t.tells rt).tells start last }
