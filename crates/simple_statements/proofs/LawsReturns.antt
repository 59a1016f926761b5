-- Returns, with a value and without: the answers of their returns. Assumes nothing.
use mathlib.Core.Path.{◌≡◌, refl, ap, sym, subst, ◌∙◌}
use mathlib.Core.Bool.{true, false, not}
use mathlib.Core.List.{List}
use Prim.Native.Nat.{ℕ, ◌+◌, ◌≤◌}
use native.Mathlib.Omega.{arith}
use borrow.Author.Tests.{eq-eqb, ne_eqb, not-true, not-false}
use Rattle.oat.specs.Tables.{type_at, node_at}
use Rattle.oat.specs.Syntax.{size_stmt}
use Rattle.typing_rules.specs.Judge.{executing}
use Rattle.file_sections.specs.declared.Sections.{Sections}
use Rattle.file_sections.specs.Layout.{tables_of}
use Rattle.subtyping.specs.declared.below.Compared.{Compared as Comparing}
use Rattle.answers.specs.declared.answer.Judgement.TheVariants.{Typed}
use Rattle.answers.specs.declared.answer.At.{At}
use Rattle.answers.specs.declared.answer.Judged.{Judged}
use Rattle.answers.specs.Answers.{with_row, with_pairs, Refuses, AnswerIs, Asks}
use Rattle.expressions.specs.Contract.{Few, Ready, Told}
use Rattle.expressions.proofs.LawsMeets.{Untyped, accepts_now, stops, passes, fails, holds, child_no, child_ok}
use Rattle.expressions.proofs.LawsChild.{child_spent, few_asked}
use Rattle.expressions.proofs.LawsAfter.{ready, after_none}
use Rattle.expressions.proofs.LawsScope.{in_scope}
use Rattle.simple_statements.specs.Contract.{marked, ReadyStmt, AnswersStmt, ToldAnywhere}
use Rattle.simple_statements.proofs.LawsLabels.{on_return_value, on_return_void}
use Rattle.simple_statements.proofs.LawsMarks.{rule_left}

-- with a value
module _ {F : List ℕ} {S : Sections} {X R W K : List ℕ} {base n s π : ℕ} (g : ReadyStmt F S X R W K base n s π) (kind : (node_at (tables_of F S) n).kind ≡ 32) where
  pub value_first : Ready F S X R W K base (n + 1) s π
  value_first =
      on_return_value (λ z. s + size_stmt z ≤ S.built_ins + S.nodes → Few π (size_stmt z) → Ready F S X R W K base (n + 1) s π)
      (λ a h l w. ready (n + 1) a g.fine h.1 (omega arith) (omega arith)) kind
      g.tree g.stands g.room g.few

  pub value_counted : {R₁ W₁ K₁ : List ℕ} {r₁ : Judged} → Told F S X R W base (n + 1) s π R₁ W₁ K₁ r₁ → (t rt : ℕ) {q : Comparing} → Asks (tables_of F S) t rt q
      → (r₁.at.pairs ≤ 4294967295) × (q.pairs ≤ 4294967295)
  value_counted {r₁ = r₁} m₁ t rt {q} e = (
    on_return_value (λ z. Few π (size_stmt z) → r₁.at.pairs ≤ 4294967295) (λ a h w. omega (arith, w, child_spent g.fine.good_tables m₁ a h.1)) kind
        g.tree g.stands g.few,
    omega (arith, few_asked g.fine.good_tables t rt e),
  )

  module _ {rt k : ℕ} (ek : k ≡ (type_at (tables_of F S) rt).kind) where
    pub value_void : {r : Judged} → k ≡ 3 → Refuses r 13 n π → ToldAnywhere F S X R W base rt n s π R W K r
    unfolding executing
    value_void {r} three e =
        record {
          tells = λ start last. on_return_value (AnswersStmt F S X R W base start rt last n s π R W K r) (λ a h Γ d. stops _ 13 n _ _ (ap not (eq-eqb _ _ (sym ek ∙ three))) e) kind;
        }

    module _ (value : k ≡ 3 → ⊥) {R₁ W₁ K₁ : List ℕ} {r₁ : Judged} (m₁ : Told F S X R W base (n + 1) s π R₁ W₁ K₁ r₁) where
      pub value_no : Untyped r₁ → ToldAnywhere F S X R W base rt n s π R₁ W₁ K₁ r₁
      unfolding executing
      value_no u =
          record {
            tells = λ start last. on_return_value (AnswersStmt F S X R W base start rt last n s π R₁ W₁ K₁ r₁)
                (λ a h Γ d. passes _ 13 n _ (ap not (ne_eqb _ _ (λ i. value (ek ∙ i)))) (child_no _ _ _ u (in_scope d _ _ _ (m₁.tells a h.1)))) kind;
          }

      module _ {t : ℕ} (y₁ : r₁.judgement ≡ Typed t) {b : Comparing} (eb : Asks (tables_of F S) t rt b) {v : At} (ev : v ≡ with_pairs r₁.at b) where
        pub value_type : {r : Judged} → not b.holds ≡ true → Refuses r 11 n v.pairs → ToldAnywhere F S X R W base rt n s π R₁ W₁ K₁ r
        unfolding executing
        value_type {r} f e =
            record {
              tells = λ start last. on_return_value (AnswersStmt F S X R W base start rt last n s π R₁ W₁ K₁ r)
                  (λ a h Γ d.
                  passes _ 13 n _ (ap not (ne_eqb _ _ (λ i. value (ek ∙ i))))
                  (child_ok _ _ _ t y₁ (in_scope d _ _ _ (m₁.tells a h.1)) λ L q p.
                  fails _ 11 n _ _ (sym eb.0 ∙ not-true b.holds f) (subst (Refuses r 11 n) (ap (λ i. i.pairs) ev ∙ ap (λ i. r₁.at.pairs + i) eb.1) e))) kind;
            }

        pub value_ok : {r : Judged} {R' : List ℕ} → not b.holds ≡ false → AnswerIs (marked 1) v.node s v.pairs r → R' ≡ with_row R₁ n 1 65535
            → ToldAnywhere F S X R W base rt n s π R' W₁ K₁ r
        unfolding executing
        value_ok {r} {R'} f er e_r =
            record {
              tells = λ start last. on_return_value (AnswersStmt F S X R W base start rt last n s π R' W₁ K₁ r)
                  (λ a h Γ d.
                  passes _ 13 n _ (ap not (ne_eqb _ _ (λ i. value (ek ∙ i))))
                  (child_ok _ _ _ t y₁ (in_scope d _ _ _ (m₁.tells a h.1)) λ L q p.
                  holds _ 11 n _ (sym eb.0 ∙ not-false b.holds f)
                  (accepts_now _ _ (rule_left g.within p.after er (ap (λ i. i.node) ev ∙ p.next) refl e_r d)
                  (er.sum ∙ ap (λ i. i.pairs) ev ∙ ap (λ i. r₁.at.pairs + i) eb.1)))) kind;
            }

-- without
module _ {F : List ℕ} {S : Sections} {X R W K : List ℕ} {base n s π : ℕ} (g : ReadyStmt F S X R W K base n s π) (kind : (node_at (tables_of F S) n).kind ≡ 33)
    {rt k : ℕ} (ek : k ≡ (type_at (tables_of F S) rt).kind) where
  pub void_no : {r : Judged} → (k ≡ 3 → ⊥) → Refuses r 13 n π → ToldAnywhere F S X R W base rt n s π R W K r
  unfolding executing
  void_no {r} f e =
      record { tells = λ start last. on_return_void (AnswersStmt F S X R W base start rt last n s π R W K r) (λ h Γ d. stops _ 13 n _ _ (ne_eqb _ _ (λ i. f (ek ∙ i))) e) kind }

  pub void_ok : {r : Judged} {R' : List ℕ} → k ≡ 3 → AnswerIs (marked 1) (n + 1) s π r → R' ≡ with_row R n 1 65535
      → ToldAnywhere F S X R W base rt n s π R' W K r
  unfolding executing
  void_ok {r} {R'} three er e_r =
      record {
        tells = λ start last. on_return_void (AnswersStmt F S X R W base start rt last n s π R' W K r)
            (λ h Γ d.
            passes _ 13 n _ (eq-eqb _ _ (sym ek ∙ three))
            (accepts_now _ _ (rule_left g.within (after_none (n + 1) g.fine) er (omega arith) refl e_r d) er.sum)) kind;
      }
