-- While: condition, its sort, block, and the mark by the condition and by where it stands. Assumes nothing.
use mathlib.Core.Path.{◌≡◌, sym, subst, ◌∙◌}
use mathlib.Core.Bool.{Bool}
use mathlib.Core.List.{List}
use Prim.Native.Nat.{ℕ, ◌+◌, ◌*◌, ◌≤◌, ◌<◌}
use native.Mathlib.Omega.{arith}
use lib.ListN.{length}
use borrow.Author.Tests.{eq-eqb, ne_eqb}
use Rattle.oat.specs.Tables.{type_at, node_at}
use Rattle.oat.specs.Syntax.{size_stmt}
use Rattle.oat.specs.Nodes.{BlockStands}
use Rattle.typing_rules.specs.Contexts.{inner}
use Rattle.typing_rules.specs.Judge.{executing}
use Rattle.file_sections.specs.declared.Sections.{Sections}
use Rattle.file_sections.specs.Layout.{Has, tables_of}
use Rattle.bindings.proofs.LawsBindings.{holds_inner, holds_some}
use Rattle.answers.specs.declared.answer.Judgement.TheVariants.{Typed, Refused}
use Rattle.answers.specs.declared.answer.Judged.{Judged}
use Rattle.answers.specs.Answers.{with_row, Refuses, AnswerIs}
use Rattle.expressions.specs.Contract.{Few, Ready, Told}
use Rattle.expressions.proofs.LawsMeets.{Untyped, Unrefused, stops, passes, goes_on, part_of, child_no, child_ok}
use Rattle.expressions.proofs.LawsAfter.{ready, typing_of, after_append}
use Rattle.expressions.proofs.LawsScope.{in_scope}
use Rattle.expressions.proofs.LawsChild.{has_node, child_spent}
use Rattle.expressions.proofs.LawsLabels.{expr_long, expr_closed}
use Rattle.simple_statements.specs.Contract.{marked, MarksWhile, AnswersStmt, ReadyStmt, ToldWhile}
use Rattle.simple_statements.proofs.LawsLabels.{on_while}
use Rattle.simple_statements.proofs.LawsMarks.{mark_fits}
use Rattle.statements.specs.Contract.{ReadyBlock, ToldBlock}
use Rattle.statements.proofs.LawsParts.{part_no, marked_row, retell_block}
use Rattle.statements.proofs.LawsBlock.{ready_block}

module _ {F : List ℕ} {S : Sections} {X R W K : List ℕ} {base n s π : ℕ} (g : ReadyStmt F S X R W K base n s π) (kind : (node_at (tables_of F S) n).kind ≡ 38) where
  pub while_first : Ready F S X R W K base (n + 1) s π
  while_first =
      on_while (λ z. s + size_stmt z ≤ S.built_ins + S.nodes → Few π (size_stmt z) → Ready F S X R W K base (n + 1) s π)
      (λ a b h l f. ready (n + 1) a g.fine h.1 (omega arith) (omega arith)) kind
      g.tree g.stands g.room g.few

  -- for `while_mark`
  pub while_test : Has F S (n + 1) S.nodes
  while_test = has_node while_first.fine.good_tables while_first.within

  module _ {R₁ W₁ K₁ : List ℕ} {r₁ : Judged} (m₁ : Told F S X R W base (n + 1) s π R₁ W₁ K₁ r₁) where
    pub while_no : {rt : ℕ} {last : Bool} → Untyped r₁ → ToldWhile F S X R W base rt last n s π R₁ W₁ K₁ r₁
    unfolding executing
    while_no {rt} {last} u = record { tells = λ start. on_while (AnswersStmt F S X R W base start rt last n s π R₁ W₁ K₁ r₁) (λ a b h Γ d. child_no _ _ _ u (in_scope d _ _ _ (m₁.tells a h.1))) kind }

    module _ {t k₁ : ℕ} (y₁ : r₁.judgement ≡ Typed t) (e₁ : k₁ ≡ (type_at (tables_of F S) t).kind) where
      pub while_sort : {rt : ℕ} {last : Bool} {r : Judged} → (k₁ ≡ 1 → ⊥) → Refuses r 10 n r₁.at.pairs → ToldWhile F S X R W base rt last n s π R₁ W₁ K₁ r
      unfolding executing
      while_sort {rt} {last} {r} f e =
          record {
            tells = λ start. on_while (AnswersStmt F S X R W base start rt last n s π R₁ W₁ K₁ r)
                (λ a b h Γ d. child_ok _ _ _ t y₁ (in_scope d _ _ _ (m₁.tells a h.1)) λ L q p. stops _ 10 n _ _ (ne_eqb _ _ (λ i. f (e₁ ∙ i))) e) kind;
          }

      pub while_second : {rt : ℕ} → rt < S.types → (n < r₁.at.node) × ReadyBlock F S X R₁ W₁ K₁ base s rt r₁.at.node s r₁.at.pairs
      while_second {rt} w =
          on_while (λ z. s + size_stmt z ≤ S.built_ins + S.nodes → Few π (size_stmt z) → (n < r₁.at.node) × ReadyBlock F S X R₁ W₁ K₁ base s rt r₁.at.node s r₁.at.pairs)
          (λ a b h l f.
          let (L, q, p) = typing_of _ (m₁.tells a h.1) y₁ in (
            omega (arith, p.next),
            ready_block r₁.at.node b p.after.fine (g.fine.above, omega arith) w (subst (λ i. BlockStands (tables_of F S) i b) (sym p.next) h.2) (omega arith)
                (omega (arith, f, child_spent g.fine.good_tables m₁ a h.1)),
          )) kind
          g.tree g.stands g.room g.few

      module _ (z₁ : k₁ ≡ 1) {rt : ℕ} {R₂ W₂ K₂ : List ℕ} {r₂ : Judged} (m₂ : ToldBlock F S X R₁ W₁ base s rt r₁.at.node s r₁.at.pairs R₂ W₂ K₂ r₂) where
        pub while_no_2 : {last : Bool} {p q : ℕ} → r₂.judgement ≡ Refused p q → ToldWhile F S X R W base rt last n s π R₂ W₂ K₂ r₂
        unfolding executing
        while_no_2 {last} e =
            record {
              tells = λ start. on_while (AnswersStmt F S X R W base start rt last n s π R₂ W₂ K₂ r₂)
                  (λ a b h Γ d.
                  child_ok _ _ _ t y₁ (in_scope d _ _ _ (m₁.tells a h.1)) λ L q p.
                  passes _ 10 n _ (eq-eqb _ _ (sym e₁ ∙ z₁))
                  (part_no _ _ _ (λ i M v. (i, v.mark)) e (retell_block p.after.same g.fine.above p.next m₂ b h.2 (inner Γ) (holds_inner d)))) kind;
            }

        module _ (u : Unrefused r₂) where
          pub while_ends : {m : ℕ} → m ≤ 1 → (n * 2 + 1 < length R₂) × (n < 65536) × (m ≤ 1)
          while_ends {m} most =
              on_while (λ z. (n * 2 + 1 < length R₂) × (n < 65536) × (m ≤ 1))
              (λ a b h.
              let (L, q, p) = typing_of _ (m₁.tells a h.1) y₁ in
              let (Γ, d) = holds_some (tables_of F S) W base s s g.fine.above (omega arith) in
              let (i, M, q₂, v) = part_of _ (retell_block p.after.same g.fine.above p.next m₂ b h.2 Γ d) u in
              mark_fits v.after.fine g.within most) kind g.tree g.stands

          pub while_ok : {last : Bool} {m : ℕ} {r : Judged} {R' : List ℕ} → MarksWhile F S (n + 1) last m → AnswerIs (marked m) r₂.at.node s r₂.at.pairs r → R' ≡ with_row R₂ n m 65535
              → ToldWhile F S X R W base rt last n s π R' W₂ K₂ r
          unfolding executing
          while_ok {last} {m} {r} {R'} em er e_r =
              record {
                tells = λ start. on_while (AnswersStmt F S X R W base start rt last n s π R' W₂ K₂ r)
                    (λ a b h Γ d.
                    child_ok _ _ _ t y₁ (in_scope d _ _ _ (m₁.tells a h.1)) λ L q p.
                    passes _ 10 n _ (eq-eqb _ _ (sym e₁ ∙ z₁))
                    (goes_on _ _ u (retell_block p.after.same g.fine.above p.next m₂ b h.2 (inner Γ) (holds_inner d)) λ i M q₂ v.
                    marked_row g.within (after_append (expr_long _ _ a (n + 1) _ t L q) (expr_closed _ _ a (n + 1) _ t L q) p.after v.after)
                    (em.tells a h.1) (v.next ∙ omega arith) (omega arith) er e_r d)) kind;
              }
