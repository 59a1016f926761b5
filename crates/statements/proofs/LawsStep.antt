-- The step of a for, or 40: a returning one is refused at itself, and what it binds is gone after it. Assumes nothing.
use mathlib.Core.Path.{◌≡◌, sym, subst, ◌∙◌}
use mathlib.Core.Bool.{false}
use mathlib.Core.List.{List, [], ◌∷◌}
use Prim.Native.Nat.{ℕ, ◌+◌, ◌*◌, ◌≤◌, ◌<◌}
use native.Mathlib.Omega.{arith}
use lib.ListN.{length}
use borrow.Author.Tests.{eq-eqb, ne_eqb}
use Rattle.oat.specs.Tables.{Tables, node_at}
use Rattle.oat.specs.Syntax.{Stmt, Step, no_step, step, size_step}
use Rattle.oat.specs.Nodes.{Node, StmtStands, StepStands}
use Rattle.typing_rules.specs.Contexts.{Scope}
use Rattle.typing_rules.specs.Labels.{unlabelled}
use Rattle.typing_rules.specs.Judge.{executing_step}
use Rattle.file_sections.specs.declared.Sections.{Sections}
use Rattle.file_sections.specs.Layout.{tables_of}
use Rattle.file_sections.proofs.LawsFrames.{same_refl}
use Rattle.bindings.specs.Bindings.{Scoped, Holds}
use Rattle.bindings.proofs.LawsBindings.{holds_some}
use Rattle.answers.specs.declared.answer.Judgement.TheVariants.{GoesOn, Refused}
use Rattle.answers.specs.declared.answer.Judged.{Judged}
use Rattle.answers.specs.Answers.{with_row, Refuses, AnswerIs}
use Rattle.expressions.specs.Contract.{Fine, RowsAt, After, Meets, Few}
use Rattle.expressions.proofs.LawsMeets.{Unrefused, accepts_now, stops, passes, goes_on, part_of}
use Rattle.expressions.proofs.LawsAfter.{row_length, row_other, row-result, row_binder, fine_rows}
use Rattle.simple_statements.specs.Contract.{mark_of, marked, ReadyStmt, ToldStmt}
use Rattle.simple_statements.proofs.LawsLabels.{stmt_kind, stmt_mark}
use Rattle.statements.specs.Contract.{Blocking, step_in, ReadyStep, ToldStep}
use Rattle.statements.proofs.LawsParts.{mark_is, part_no, after_left}

-- a step by the kind of its node
module _ {T : Tables} {n : ℕ} where
  pub on_no_step : (P : Step → Type 0) → (Node T n 40 0 0 0 → P no_step) → (node_at T n).kind ≡ 40 → (z : Step) → StepStands T n z → P z
  on_no_step P f k no_step h = f h
  on_no_step P f k (step y) h = absurd (omega (arith, k, (stmt_kind T n y h).1))

  pub from_step : (P : Step → Type 0) → ((y : Stmt) → StmtStands T n y → P (step y)) → ((node_at T n).kind ≡ 40 → ⊥) → (z : Step) → StepStands T n z → P z
  from_step P f k no_step h = absurd (k h.kind_is)
  from_step P f k (step y) h = f y h

-- the row of a 40
after_plain : {F : List ℕ} {S : Sections} {X R W K : List ℕ} {base n s : ℕ} → n < S.nodes → Fine F S X R W K base s
    → After F S X base (unlabelled ∷ []) n 1 s s R W (with_row R n 0 65535) W K
unfolding RowsAt
after_plain {R = R} {W = W} {n = n} h f =
    let long : n * 2 + 1 < length R = omega (arith, f.rows_long, h) in
    record {
      rows = (row-result R n 0 65535 long, row_binder R n 0 65535 long, tt);
      kept = record {
        before = λ i g. row_other R n 0 65535 i (λ e. omega arith) (λ e. omega arith);
        after = λ i g. row_other R n 0 65535 i (λ e. omega arith) (λ e. omega arith);
      };
      same = same_refl _ W;
      fine = fine_rows f (row_length R n 0 65535);
    }

-- the answer to a step that stands at n, as the definition has it
abbrev AnswersStep : List ℕ → Sections → (X R W : List ℕ) → (base start rt n s π : ℕ) → (R' W' K' : List ℕ) → Judged → Step → Type 0
AnswersStep F S X R W base start rt n s π R' W' K' r z =
    (Γ : Scope ℕ) → Holds (tables_of F S) W base start s Γ
    → Meets (Blocking F S X base n (size_step z) s R W R' W' K' r) r π (step_in F S W base rt z n Γ).out (step_in F S W base rt z n Γ).pairs

module _ {F : List ℕ} {S : Sections} {X R W K : List ℕ} {base start rt n s π : ℕ} (g : ReadyStep F S X R W K base start rt n s π) where
  module _ {k : ℕ} (ek : k ≡ (node_at (tables_of F S) n).kind) where
    -- 40
    pub step_absent : {r : Judged} {R' : List ℕ} → k ≡ 40 → AnswerIs (marked 0) (n + 1) s π r → R' ≡ with_row R n 0 65535
        → ToldStep F S X R W base start rt n s π R' W K r
    unfolding executing_step
    step_absent {r} {R'} e er e_r =
        record {
          tells = on_no_step (AnswersStep F S X R W base start rt n s π R' W K r)
              (λ h Γ d. accepts_now _ _
              (record {
                mark = er.judged;
                next = er.next;
                scope = er.scope;
                after = subst (λ x. After F S X base (unlabelled ∷ []) n 1 s s R W x W K) (sym e_r) (after_plain g.within g.fine);
              }) er.sum) (sym ek ∙ e);
        }

    -- a statement
    module _ (f : k ≡ 40 → ⊥) where
      not_absent : (node_at (tables_of F S) n).kind ≡ 40 → ⊥
      not_absent e = f (ek ∙ e)

      pub step_first : ReadyStmt F S X R W K base n s π × (rt < S.types)
      step_first = (
        from_step (λ z. s + size_step z ≤ S.built_ins + S.nodes → Few π (size_step z) → ReadyStmt F S X R W K base n s π)
            (λ y h l few. record { fine = g.fine; within = g.within; tree = y; stands = h; room = l; few = few }) not_absent g.tree g.stands g.room g.few,
        g.returned,
      )

      module _ {R₁ W₁ K₁ : List ℕ} {r₁ : Judged} (m₁ : ToldStmt F S X R W base start rt false n s π R₁ W₁ K₁ r₁) where
        pub step_no : {p q : ℕ} → r₁.judgement ≡ Refused p q → ToldStep F S X R W base start rt n s π R₁ W₁ K₁ r₁
        unfolding executing_step
        step_no e =
            record {
              tells = from_step (AnswersStep F S X R W base start rt n s π R₁ W₁ K₁ r₁)
                  (λ y h Γ d. part_no _ _ _ (λ v L p. (v.mark, p.mark)) e (m₁.tells y h Γ d)) not_absent;
            }

        module _ (u : Unrefused r₁) where
          pub step_returns : {r : Judged} {m : ℕ} → m ≡ mark_of r₁.judgement → (m ≡ 0 → ⊥) → Refuses r 14 n r₁.at.pairs
              → ToldStep F S X R W base start rt n s π R₁ W₁ K₁ r
          unfolding executing_step
          step_returns {r} em z e =
              record {
                tells = from_step (AnswersStep F S X R W base start rt n s π R₁ W₁ K₁ r)
                    (λ y h Γ d.
                    goes_on _ _ u (m₁.tells y h Γ d) λ v L q p.
                    stops _ 14 n _ _ (ne_eqb _ _ (λ i. z (em ∙ mark_is _ _ (stmt_mark _ _ rt false y n _ v L q) p.mark ∙ i))) e) not_absent;
              }

          pub step_leaves : Scoped F S W₁ K₁ r₁.at.scope × (s ≤ r₁.at.scope)
          step_leaves =
              from_step (λ z. Scoped F S W₁ K₁ r₁.at.scope × (s ≤ r₁.at.scope))
              (λ y h.
              let (Γ, d) = holds_some (tables_of F S) W base start s g.begins.0 g.begins.1 in
              let (v, L, q, p) = part_of _ (m₁.tells y h Γ d) u in
              (p.after.fine.scoped, p.low)) not_absent g.tree g.stands

          pub step_ok : {r : Judged} {K₂ : List ℕ} {m : ℕ} → m ≡ mark_of r₁.judgement → m ≡ 0 → Scoped F S W₁ K₂ s
              → AnswerIs GoesOn r₁.at.node s r₁.at.pairs r → ToldStep F S X R W base start rt n s π R₁ W₁ K₂ r
          unfolding executing_step
          step_ok {r} {K₂} em z c er =
              record {
                tells = from_step (AnswersStep F S X R W base start rt n s π R₁ W₁ K₂ r)
                    (λ y h Γ d.
                    goes_on _ _ u (m₁.tells y h Γ d) λ v L q p.
                    passes _ 14 n _ (eq-eqb _ _ (sym (mark_is _ _ (stmt_mark _ _ rt false y n _ v L q) p.mark) ∙ sym em ∙ z))
                    (accepts_now _ _
                    (record {
                      mark = er.judged;
                      next = er.next ∙ p.next;
                      scope = er.scope;
                      after = after_left g.fine.above p.after c;
                    }) er.sum)) not_absent;
              }
