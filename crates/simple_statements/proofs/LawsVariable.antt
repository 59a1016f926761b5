-- Var: the answers of its returns. Assumes nothing.
use mathlib.Core.Path.{◌≡◌, ap, sym, subst, ◌∙◌}
use mathlib.Core.Bool.{Bool, true, false, not}
use mathlib.Core.List.{List}
use Prim.Native.Nat.{ℕ, ◌+◌, ◌≤◌, ◌<◌}
use native.Mathlib.Omega.{arith}
use borrow.Author.Tests.{not-true, not-false}
use Rattle.oat.specs.Tables.{node_at}
use Rattle.oat.specs.Syntax.{size_stmt}
use Rattle.typing_rules.specs.Contexts.{Scope, binds, is_unbound, is_fresh}
use Rattle.typing_rules.specs.Labels.{Label}
use Rattle.typing_rules.specs.Judge.{executing}
use Rattle.file_sections.specs.declared.Sections.{Sections}
use Rattle.file_sections.specs.Layout.{tables_of}
use Rattle.file_sections.specs.Frames.{Same}
use Rattle.file_sections.proofs.LawsFrames.{same_trans}
use Rattle.bindings.specs.Bindings.{entry_of, scope_of, Some, Holds, Freshness, Bindable, Bound}
use Rattle.bindings.proofs.LawsBindings.{holds_same, holds_bound}
use Rattle.answers.specs.declared.answer.Judgement.TheVariants.{Typed}
use Rattle.answers.specs.declared.answer.Judged.{Judged}
use Rattle.answers.specs.Answers.{with_row, Refuses, AnswerIs}
use Rattle.expressions.specs.Contract.{Fine, After, Few, Ready, Told}
use Rattle.expressions.proofs.LawsMeets.{Untyped, accepts_now, stops, passes, child_no, child_ok}
use Rattle.expressions.proofs.LawsAfter.{ready}
use Rattle.expressions.proofs.LawsScope.{in_scope}
use Rattle.expressions.proofs.LawsChild.{child_within, child_fine}
use Rattle.simple_statements.specs.Contract.{marked, ReadyStmt, AnswersStmt, ToldVar}
use Rattle.simple_statements.proofs.LawsLabels.{on_var}
use Rattle.simple_statements.proofs.LawsMarks.{rule_marked}

-- one binding over the scope of a part
pub after_bound : {F : List ℕ} {S : Sections} {X : List ℕ} {base n k s i t : ℕ} {L : List (Label ℕ)} {R W R₁ W₁ K₁ W₂ K₂ : List ℕ}
    → After F S X base L n k s s R W R₁ W₁ K₁ → Bound F S W₁ K₁ s i t W₂ K₂ → After F S X base L n k s (s + 1) R W R₁ W₂ K₂
after_bound {F} {S} {s = s} a b =
    record {
      rows = a.rows;
      kept = a.kept;
      same = same_trans (entry_of (tables_of F S) s) (entry_of (tables_of F S) s) (omega arith) a.same b.same;
      fine = record {
        good_tables = a.fine.good_tables;
        indexed = a.fine.indexed;
        rows_long = a.fine.rows_long;
        scoped = b.scoped;
        low = a.fine.low;
        above = omega (arith, a.fine.above);
      };
    }

module _ {F : List ℕ} {S : Sections} {X R W K : List ℕ} {base n s π : ℕ} (g : ReadyStmt F S X R W K base n s π) (kind : (node_at (tables_of F S) n).kind ≡ 31) where
  pub variable_first : Ready F S X R W K base (n + 1) s π
  variable_first =
      on_var (λ z. s + size_stmt z ≤ S.built_ins + S.nodes → Few π (size_stmt z) → Ready F S X R W K base (n + 1) s π)
      (λ x a h l w. ready (n + 1) a g.fine h.1 (omega arith) (omega arith)) kind
      g.tree g.stands g.room g.few

  module _ {R₁ W₁ K₁ : List ℕ} {r₁ : Judged} (m₁ : Told F S X R W base (n + 1) s π R₁ W₁ K₁ r₁) where
    pub variable_no : {start : ℕ} → Untyped r₁ → ToldVar F S X R W base start n s π R₁ W₁ K₁ r₁
    unfolding executing
    variable_no {start} u =
        record {
          tells = λ rt last. on_var (AnswersStmt F S X R W base start rt last n s π R₁ W₁ K₁ r₁) (λ x a h Γ d. child_no _ _ _ u (in_scope d _ _ _ (m₁.tells a h.1))) kind;
        }

    module _ {t : ℕ} (y₁ : r₁.judgement ≡ Typed t) where
      pub variable_fine : Fine F S X R₁ W₁ K₁ base s
      variable_fine = child_fine variable_first m₁ y₁

      -- for `is_fresh`
      pub variable_some : Some F S W₁ K₁
      variable_some = record { height = s; scoped = variable_fine.scoped }

      -- for `bind`
      pub variable_bindable : Bindable F S W₁ K₁ s n t
      variable_bindable = record {
        scoped = variable_fine.scoped;
        low = omega (arith, g.fine.low, g.fine.above);
        room = on_var (λ z. s + size_stmt z ≤ S.built_ins + S.nodes → s < S.built_ins + S.nodes) (λ x a h l. omega arith) kind g.tree g.stands g.room;
        node_there = g.within;
        type_there = child_within variable_first m₁ y₁;
      }

      module _ {start x₁ : ℕ} {b₁ : Bool} (ex : x₁ ≡ (node_at (tables_of F S) n).x) (fresh : Freshness F S W₁ K₁ start x₁ b₁) where
        fresh_is : (x : ℕ) → (node_at (tables_of F S) n).x ≡ x → Same (entry_of (tables_of F S) s) W W₁ → {Γ : Scope ℕ} → Holds (tables_of F S) W base start s Γ → is_fresh x Γ ≡ b₁
        fresh_is x e a d =
            sym (fresh.tells s variable_fine.scoped
            ∙ ap (λ i. is_unbound i (scope_of (tables_of F S) W₁ start s)) (ex ∙ e)
            ∙ sym ((holds_same d a).fresh x))

        pub variable_taken : {r : Judged} → not b₁ ≡ true → Refuses r 7 n r₁.at.pairs → ToldVar F S X R W base start n s π R₁ W₁ K₁ r
        unfolding executing
        variable_taken {r} f e =
            record {
              tells = λ rt last. on_var (AnswersStmt F S X R W base start rt last n s π R₁ W₁ K₁ r)
                  (λ x a h Γ d.
                  child_ok _ _ _ t y₁ (in_scope d _ _ _ (m₁.tells a h.1)) λ L q p.
                  stops _ 7 n _ _ (fresh_is x h.0.x_is p.after.same d ∙ not-true _ f) e) kind;
            }

        pub variable_ok : {W₂ K₂ R' : List ℕ} {r : Judged} → not b₁ ≡ false → Bound F S W₁ K₁ s n t W₂ K₂
            → AnswerIs (marked 0) r₁.at.node (s + 1) r₁.at.pairs r → R' ≡ with_row R₁ n 0 65535 → ToldVar F S X R W base start n s π R' W₂ K₂ r
        unfolding executing
        variable_ok {W₂} {K₂} {R'} {r} f b er e_r =
            record {
              tells = λ rt last. on_var (AnswersStmt F S X R W base start rt last n s π R' W₂ K₂ r)
                  (λ x a h Γ d.
                  child_ok _ _ _ t y₁ (in_scope d _ _ _ (m₁.tells a h.1)) λ L q p.
                  passes _ 7 n _ (fresh_is x h.0.x_is p.after.same d ∙ not-false _ f)
                  (accepts_now _ _
                  (rule_marked g.within (after_bound p.after b) er (p.next ∙ omega arith) (omega arith) e_r (omega arith) (omega arith)
                  (subst (λ i. Holds (tables_of F S) W₂ base start (s + 1) (binds Γ i t n)) h.0.x_is (holds_bound (holds_same d p.after.same) g.fine.above b))) er.sum)) kind;
            }
