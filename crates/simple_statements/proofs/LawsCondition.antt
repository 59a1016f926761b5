-- The condition of a for, or 40: the answers of its returns. Assumes nothing.
use mathlib.Core.Path.{◌≡◌, sym, subst, ◌∙◌}
use mathlib.Core.List.{List, [], ◌∷◌}
use Prim.Native.Nat.{ℕ, ◌+◌, ◌*◌, ◌<◌}
use native.Mathlib.Omega.{arith}
use lib.ListN.{length}
use borrow.Author.Tests.{eq-eqb, ne_eqb}
use Rattle.oat.specs.Tables.{Tables, type_at, node_at}
use Rattle.oat.specs.Syntax.{Expr, Condition, no_condition, condition, size_condition}
use Rattle.oat.specs.Nodes.{Stands, ConditionStands}
use Rattle.typing_rules.specs.Contexts.{Scope}
use Rattle.typing_rules.specs.Labels.{unlabelled}
use Rattle.typing_rules.specs.Judge.{judging_condition}
use Rattle.file_sections.specs.declared.Sections.{Sections}
use Rattle.file_sections.specs.Layout.{tables_of}
use Rattle.file_sections.proofs.LawsFrames.{same_refl}
use Rattle.bindings.specs.Bindings.{Holds}
use Rattle.answers.specs.declared.answer.Judgement.TheVariants.{Typed, GoesOn}
use Rattle.answers.specs.declared.answer.Judged.{Judged}
use Rattle.answers.specs.Answers.{with_row, Refuses, AnswerIs}
use Rattle.expressions.specs.Contract.{Fine, RowsAt, After, Meets, Told, Listing}
use Rattle.expressions.proofs.LawsMeets.{Untyped, accepts_now, stops, passes, child_no, child_ok}
use Rattle.expressions.proofs.LawsAfter.{row_length, row_other, row-result, row_binder, fine_rows}
use Rattle.expressions.proofs.LawsScope.{in_scope}
use Rattle.expressions.proofs.LawsShape.{expr_kind}
use Rattle.simple_statements.specs.Contract.{marked, condition_in, ReadyCondition, ToldCondition}

-- the row of a 40
pub after_nothing : {F : List ℕ} {S : Sections} {X R W K : List ℕ} {base n s : ℕ} → n < S.nodes → Fine F S X R W K base s
    → After F S X base (unlabelled ∷ []) n 1 s s R W (with_row R n 0 65535) W K
unfolding RowsAt
after_nothing {R = R} {W = W} {n = n} h f =
    let long : n * 2 + 1 < length R = omega (arith, f.rows_long, h) in
    record {
      rows = (row-result R n 0 65535 long, row_binder R n 0 65535 long, tt);
      kept = record {
        before = λ i g. row_other R n 0 65535 i (λ e. omega arith) (λ e. omega arith);
        after = λ i g. row_other R n 0 65535 i (λ e. omega arith) (λ e. omega arith);
      };
      same = same_refl _ W;
      fine = fine_rows f (row_length R n 0 65535);
    }

-- a condition by the kind of its node
module _ {T : Tables} {n : ℕ} where
  on_none : (P : Condition → Type 0) → (ConditionStands T n no_condition → P no_condition) → (node_at T n).kind ≡ 40 → (q : Condition) → ConditionStands T n q → P q
  on_none P f k no_condition h = f h
  on_none P f k (condition a) h = absurd (omega (arith, (expr_kind T n a h).1))

  on_some : (P : Condition → Type 0) → ((a : Expr) → Stands T n a → P (condition a)) → ((node_at T n).kind ≡ 40 → ⊥) → (q : Condition) → ConditionStands T n q → P q
  on_some P f k no_condition h = absurd (k h.kind_is)
  on_some P f k (condition a) h = f a h

-- the answer to a condition
abbrev AnswersCondition : List ℕ → Sections → (X R W : List ℕ) → (base n s π parent : ℕ) → (R' W' K' : List ℕ) → Judged → Condition → Type 0
AnswersCondition F S X R W base n s π parent R' W' K' r q =
    (start : ℕ) (Γ : Scope ℕ) → Holds (tables_of F S) W base start s Γ
    → Meets (Listing F S X base n (size_condition q) s R W R' W' K' r) r π (condition_in F S W base q n parent Γ).out (condition_in F S W base q n parent Γ).pairs

module _ {F : List ℕ} {S : Sections} {X R W K : List ℕ} {base n s π : ℕ} (g : ReadyCondition F S X R W K base n s π) where
  module _ {k : ℕ} (ek : k ≡ (node_at (tables_of F S) n).kind) where
    pub condition_none : {parent : ℕ} {R' : List ℕ} {r : Judged} → k ≡ 40 → AnswerIs (marked 0) (n + 1) s π r → R' ≡ with_row R n 0 65535
        → ToldCondition F S X R W base n s π parent R' W K r
    unfolding judging_condition
    condition_none {parent} {R'} {r} z er e_r =
        record {
          tells = on_none (AnswersCondition F S X R W base n s π parent R' W K r)
              (λ h start Γ d. accepts_now _ _ (record {
                goes_on = er.judged;
                next = er.next;
                scope = er.scope;
                after = subst (λ x. After F S X base (unlabelled ∷ []) n 1 s s R W x W K) (sym e_r) (after_nothing g.within g.fine);
              }) er.sum) (sym ek ∙ z);
        }

    module _ (z : k ≡ 40 → ⊥) where
      module _ {R₁ W₁ K₁ : List ℕ} {r₁ : Judged} (m₁ : Told F S X R W base n s π R₁ W₁ K₁ r₁) where
        pub condition_no : {parent : ℕ} → Untyped r₁ → ToldCondition F S X R W base n s π parent R₁ W₁ K₁ r₁
        unfolding judging_condition
        condition_no {parent} u =
            record {
              tells = on_some (AnswersCondition F S X R W base n s π parent R₁ W₁ K₁ r₁) (λ a h start Γ d. child_no _ _ _ u (in_scope d _ _ _ (m₁.tells a h))) (λ e. z (ek ∙ e));
            }

        module _ {t : ℕ} (y₁ : r₁.judgement ≡ Typed t) where
          module _ {k₁ : ℕ} (e₁ : k₁ ≡ (type_at (tables_of F S) t).kind) where
            pub condition_sort : {parent : ℕ} {r : Judged} → (k₁ ≡ 1 → ⊥) → Refuses r 10 parent r₁.at.pairs → ToldCondition F S X R W base n s π parent R₁ W₁ K₁ r
            unfolding judging_condition
            condition_sort {parent} {r} f e =
                record {
                  tells = on_some (AnswersCondition F S X R W base n s π parent R₁ W₁ K₁ r)
                      (λ a h start Γ d. child_ok _ _ _ t y₁ (in_scope d _ _ _ (m₁.tells a h)) λ L q p. stops _ 10 parent _ _ (ne_eqb _ _ (λ i. f (e₁ ∙ i))) e) (λ e. z (ek ∙ e));
                }

            pub condition_ok : {parent : ℕ} {r : Judged} → k₁ ≡ 1 → AnswerIs GoesOn r₁.at.node r₁.at.scope r₁.at.pairs r → ToldCondition F S X R W base n s π parent R₁ W₁ K₁ r
            unfolding judging_condition
            condition_ok {parent} {r} f er =
                record {
                  tells = on_some (AnswersCondition F S X R W base n s π parent R₁ W₁ K₁ r)
                      (λ a h start Γ d.
                      child_ok _ _ _ t y₁ (in_scope d _ _ _ (m₁.tells a h)) λ L q p.
                      passes _ 10 parent _ (eq-eqb _ _ (sym e₁ ∙ f))
                      (accepts_now _ _ (record { goes_on = er.judged; next = er.next ∙ p.next; scope = er.scope ∙ p.scope; after = p.after }) er.sum)) (λ e. z (ek ∙ e));
                }
