-- The step and the block of a for. Assumes nothing.
use mathlib.Core.Path.{◌≡◌, refl, ap, sym, subst, ◌∙◌}
use mathlib.Core.Bool.{false}
use mathlib.Core.List.{List, []}
use Prim.Native.Nat.{ℕ, ◌<◌}
use native.Mathlib.Omega.{arith}
use lib.Dec.{eqb}
use Rattle.oat.specs.Tables.{Tables}
use Rattle.oat.specs.Syntax.{Step, no_step, step}
use Rattle.oat.specs.Nodes.{BlockStands}
use Rattle.typing_rules.specs.Contexts.{Scope, inner, Context}
use Rattle.typing_rules.specs.Labels.{Label}
use Rattle.typing_rules.specs.Judge.{ok, execute, execute_step, executing_step}
use Rattle.typing_rules.proofs.LawsPairs.{step_pairs}
use Rattle.typing_rules.proofs.LawsOutcome.{ok_is, then_ok, needs_ok}
use Rattle.file_sections.specs.declared.Sections.{Sections}
use Rattle.file_sections.specs.Layout.{tables_of}
use Rattle.bindings.proofs.LawsBindings.{holds_inner, holds_some}
use Rattle.answers.specs.declared.answer.Judgement.TheVariants.{GoesOn}
use Rattle.answers.specs.declared.answer.Judged.{Judged}
use Rattle.expressions.proofs.LawsMeets.{Unlisted, goes_unrefused, accepts_now, pairs_told, hands_up, goes_on, part_last, part_of}
use Rattle.expressions.proofs.LawsChild.{few_parts_in}
use Rattle.simple_statements.specs.Contract.{marked}
use Rattle.simple_statements.proofs.LawsLabels.{step_long, block_head, size_step_one}
use Rattle.statements.specs.Contract.{ReadyBlock, ToldBlock, ToldStep, ReadyTurn, ToldTurn}
use Rattle.statements.proofs.LawsParts.{head_plain, after_plain_then, retell_block}
use Rattle.statements.proofs.LawsBlock.{ready_block}

-- an accepted step goes on
pub step_mark : (T : Tables) (C : Context ℕ) (rt : ℕ) (z : Step) (n : ℕ) (Γ : Scope ℕ) (p : ℕ) (L : List (Label ℕ))
    → execute_step T C rt z n Γ ≡ ok p L → p ≡ 0
unfolding executing_step
step_mark T C rt no_step n Γ p L j = ok_is (λ p L. p ≡ 0) j refl
step_mark T C rt (step y) n Γ p L j =
    then_ok (execute T C rt false y n Γ) _ j λ d M i k.
    needs_ok (eqb d.mark 0) _ _ _ k λ q k1.
    ok_is (λ p L. p ≡ 0) k1 refl

module _ {F : List ℕ} {S : Sections} {X R W K : List ℕ} {base start rt n s π : ℕ} (g : ReadyTurn F S X R W K base start rt n s π) where
  module _ {R₁ W₁ K₁ : List ℕ} {r₁ : Judged} (m₁ : ToldStep F S X R W base start rt n s π R₁ W₁ K₁ r₁) where
    pub turn_no : Unlisted r₁ → ToldTurn F S X R W base start rt n s π R₁ W₁ K₁ r₁
    turn_no u =
        record {
          tells = λ z b h i Γ d.
              hands_up _ _ _ (λ p L q v. u.never (v.mark ∙ ap marked (step_mark _ _ rt z n _ p L q))) (m₁.tells z h Γ d);
        }

    module _ (y₁ : r₁.judgement ≡ GoesOn) where
      pub turn_second : (n < r₁.at.node) × ReadyBlock F S X R₁ W₁ K₁ base s rt r₁.at.node s r₁.at.pairs
      turn_second =
          let (Γ, d) = holds_some (tables_of F S) W base start s g.begins.0 g.begins.1 in
          let (p, L, q, v) = part_of _ (m₁.tells g.tree g.stands Γ d) (goes_unrefused y₁) in (
            omega (arith, v.next, size_step_one g.tree),
            ready_block r₁.at.node g.body v.after.fine (g.fine.above, omega arith) g.returned
                (subst (λ i. BlockStands (tables_of F S) i g.body) (sym v.next) g.stands_too)
                (omega (arith, g.room))
                (omega (arith, g.few, pairs_told (m₁.tells g.tree g.stands Γ d), step_pairs (few_parts_in g.fine.good_tables W base) rt g.tree n Γ)),
          )

      pub turn_told : {R₂ W₂ K₂ : List ℕ} {r₂ : Judged} → ToldBlock F S X R₁ W₁ base s rt r₁.at.node s r₁.at.pairs R₂ W₂ K₂ r₂
          → ToldTurn F S X R W base start rt n s π R₂ W₂ K₂ r₂
      turn_told m₂ =
          record {
            tells = λ z b h i Γ d.
                goes_on _ _ (goes_unrefused y₁) (m₁.tells z h Γ d) λ p L q v.
                part_last _ _ (retell_block v.after.same g.fine.above v.next m₂ b i (inner Γ) (holds_inner d)) λ p₂ M q₂ v₂.
                accepts_now _ _
                (record {
                  mark = v₂.mark;
                  next = v₂.next ∙ omega arith;
                  scope = v₂.scope;
                  after = after_plain_then (step_long _ _ rt z n _ p L q) (head_plain M (block_head _ _ rt b _ _ p₂ M q₂ []))
                      (omega arith) v.after v₂.after;
                }) refl;
          }
