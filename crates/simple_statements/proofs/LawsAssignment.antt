-- Assignment: its left side, and the answers of its returns. Assumes nothing.
use mathlib.Core.Path.{◌≡◌, refl, ap, sym, subst, ◌∙◌}
use mathlib.Core.Bool.{Bool, true, false, not}
use mathlib.Core.List.{List}
use Prim.Native.Nat.{ℕ, ◌+◌, ◌≤◌}
use native.Mathlib.Omega.{arith}
use borrow.Author.Tests.{not-true, not-false}
use Rattle.oat.specs.Basics.{pick}
use Rattle.oat.specs.Tables.{node_at}
use Rattle.oat.specs.Types.{type_of}
use Rattle.oat.specs.Pairs.{below_pairs}
use Rattle.oat.specs.Syntax.{Target, name_target, index_target, field_target, target_expr, size, size_target, size_stmt}
use Rattle.oat.specs.Nodes.{Stands}
use Rattle.typing_rules.specs.Contexts.{Scope, is_miss, is_fixed}
use Rattle.typing_rules.specs.Judge.{assigns_to, executing}
use Rattle.file_sections.specs.declared.Sections.{Sections}
use Rattle.file_sections.specs.Layout.{tables_of}
use Rattle.type_index.specs.Index.{declared}
use Rattle.bindings.specs.Bindings.{names_of, Scoped, Holds, SomeFrom, Assignability}
use Rattle.subtyping.specs.declared.below.Compared.{Compared as Comparing}
use Rattle.answers.specs.declared.answer.Judgement.TheVariants.{Typed}
use Rattle.answers.specs.declared.answer.At.{At}
use Rattle.answers.specs.declared.answer.Judged.{Judged}
use Rattle.answers.specs.Answers.{with_row, with_pairs, Refuses, AnswerIs, Asks}
use Rattle.expressions.specs.Contract.{context_of, Fine, Few, Ready, Told}
use Rattle.expressions.proofs.LawsMeets.{Untyped, accepts_now, stops, passes, fails, holds, child_no, child_ok}
use Rattle.expressions.proofs.LawsChild.{child_spent, few_asked}
use Rattle.expressions.proofs.LawsAfter.{ready, typing_of, retell, after_append}
use Rattle.expressions.proofs.LawsScope.{in_scope}
use Rattle.expressions.proofs.LawsLabels.{expr_long, expr_closed}
use Rattle.simple_statements.specs.Contract.{marked, ReadyStmt, AnswersStmt, ToldAny, Assigns}
use Rattle.simple_statements.proofs.LawsLabels.{on_assign}
use Rattle.simple_statements.proofs.LawsMarks.{rule_left}

-- a left side is as long as its expression
target_size : (t : Target) → size (target_expr t) ≡ size_target t
target_size (name_target x) = refl
target_size (index_target a b) = refl
target_size (field_target x a) = refl

-- some scope is held, locals from `base` on
pub some_held : {F : List ℕ} {S : Sections} {X R W K : List ℕ} {base s : ℕ} → Fine F S X R W K base s → SomeFrom F S W K base
some_held {s = s} f = record { some = record { height = s; scoped = f.scoped }; low = f.above }

-- the left side
module _ {F : List ℕ} {S : Sections} {W K : List ℕ} {base n : ℕ} {kind : ℕ} (ek : kind ≡ (node_at (tables_of F S) n).kind) where
  pub assigns_other : (kind ≡ 15 → ⊥) → Assigns F S W K base n true
  unfolding assigns_to
  assigns_other f = record { tells = go }
    where
      go : (s : ℕ) → Scoped F S W K s → (g : Target) → Stands (tables_of F S) n (target_expr g)
          → (start : ℕ) (Γ : Scope ℕ) → Holds (tables_of F S) W base start s Γ → true ≡ assigns_to (context_of (tables_of F S) W base) Γ g
      go s h (name_target x) t start Γ d = absurd (f (ek ∙ t.kind_is))
      go s h (index_target a b) t start Γ d = refl
      go s h (field_target x a) t start Γ d = refl

  pub assigns_name : {x : ℕ} {r : Bool} → kind ≡ 15 → x ≡ (node_at (tables_of F S) n).x → Assignability F S W K base x r → Assigns F S W K base n r
  unfolding assigns_to
  assigns_name {x} {r} e ex a = record { tells = go }
    where
      go : (s : ℕ) → Scoped F S W K s → (g : Target) → Stands (tables_of F S) n (target_expr g)
          → (start : ℕ) (Γ : Scope ℕ) → Holds (tables_of F S) W base start s Γ → r ≡ assigns_to (context_of (tables_of F S) W base) Γ g
      go s h (name_target y) t start Γ d =
          (subst (λ z. Assignability F S W K base z r) (ex ∙ t.x_is) a).tells s h
          ∙ ap (λ m. pick (is_miss m) (not (is_fixed y (names_of (tables_of F S) W base))) true) (sym (d.means y))
      go s h (index_target b c) t start Γ d = absurd (let z = sym e ∙ ek ∙ t.0.kind_is in omega arith)
      go s h (field_target y b) t start Γ d = absurd (let z = sym e ∙ ek ∙ t.0.kind_is in omega arith)

module _ {F : List ℕ} {S : Sections} {X R W K : List ℕ} {base n s π : ℕ} (g : ReadyStmt F S X R W K base n s π) (kind : (node_at (tables_of F S) n).kind ≡ 30) where
  pub assignment_first : Ready F S X R W K base (n + 1) s π
  assignment_first =
      on_assign (λ z. s + size_stmt z ≤ S.built_ins + S.nodes → Few π (size_stmt z) → Ready F S X R W K base (n + 1) s π)
      (λ t a h l w. ready (n + 1) (target_expr t) g.fine h.1 (omega arith) (omega (arith, w, target_size t))) kind
      g.tree g.stands g.room g.few

  module _ {v : Bool} (ev : Assigns F S W K base (n + 1) v) where
    pub assignment_fixed : {r : Judged} → not v ≡ true → Refuses r 15 n π → ToldAny F S X R W base n s π R W K r
    unfolding executing
    assignment_fixed {r} f e =
        record {
          tells = λ rt. record {
            tells = λ start last. on_assign (AnswersStmt F S X R W base start rt last n s π R W K r)
                (λ t a h Γ d. stops _ 15 n _ _ (sym (ev.tells s g.fine.scoped t h.1 start Γ d) ∙ not-true v f) e) kind;
          };
        }

    module _ (fv : not v ≡ false) {R₁ W₁ K₁ : List ℕ} {r₁ : Judged} (m₁ : Told F S X R W base (n + 1) s π R₁ W₁ K₁ r₁) where
      allowed : (t : Target) → Stands (tables_of F S) (n + 1) (target_expr t) → {start : ℕ} {Γ : Scope ℕ} → Holds (tables_of F S) W base start s Γ
          → assigns_to (context_of (tables_of F S) W base) Γ t ≡ true
      allowed t h d = sym (ev.tells s g.fine.scoped t h _ _ d) ∙ not-false v fv

      pub assignment_no : Untyped r₁ → ToldAny F S X R W base n s π R₁ W₁ K₁ r₁
      unfolding executing
      assignment_no u =
          record {
            tells = λ rt. record {
              tells = λ start last. on_assign (AnswersStmt F S X R W base start rt last n s π R₁ W₁ K₁ r₁)
                  (λ t a h Γ d. passes _ 15 n _ (allowed t h.1 d) (child_no _ _ _ u (in_scope d _ _ _ (m₁.tells (target_expr t) h.1)))) kind;
            };
          }

      module _ {t : ℕ} (y₁ : r₁.judgement ≡ Typed t) where
        pub assignment_second : Ready F S X R₁ W₁ K₁ base r₁.at.node s r₁.at.pairs
        assignment_second =
            on_assign (λ z. s + size_stmt z ≤ S.built_ins + S.nodes → Few π (size_stmt z) → Ready F S X R₁ W₁ K₁ base r₁.at.node s r₁.at.pairs)
            (λ i a h l w.
            let (L, q, p) = typing_of _ (m₁.tells (target_expr i) h.1) y₁ in
            ready r₁.at.node a p.after.fine (subst (λ j. Stands (tables_of F S) j a) (sym p.next) h.2) (omega arith)
            (omega (arith, w, target_size i, child_spent g.fine.good_tables m₁ (target_expr i) h.1))) kind
            g.tree g.stands g.room g.few

        module _ {R₂ W₂ K₂ : List ℕ} {r₂ : Judged} (m₂ : Told F S X R₁ W₁ base r₁.at.node s r₁.at.pairs R₂ W₂ K₂ r₂) where
          pub assignment_no_2 : Untyped r₂ → ToldAny F S X R W base n s π R₂ W₂ K₂ r₂
          unfolding executing
          assignment_no_2 u =
              record {
                tells = λ rt. record {
                  tells = λ start last. on_assign (AnswersStmt F S X R W base start rt last n s π R₂ W₂ K₂ r₂)
                      (λ i a h Γ d.
                      passes _ 15 n _ (allowed i h.1 d)
                      (child_ok _ _ _ t y₁ (in_scope d _ _ _ (m₁.tells (target_expr i) h.1)) λ L q p.
                      child_no _ _ _ u (in_scope d _ _ _ (retell p.after.same g.fine.above p.next refl m₂ a h.2)))) kind;
                };
              }

          pub assignment_counted : (u : ℕ) {q : Comparing} → Asks (tables_of F S) u t q → (r₂.at.pairs ≤ 4294967295) × (q.pairs ≤ 4294967295)
          assignment_counted u e = (
            on_assign (λ z. Few π (size_stmt z) → r₂.at.pairs ≤ 4294967295)
                (λ i a h w.
                let (L, q, p) = typing_of _ (m₁.tells (target_expr i) h.1) y₁ in
                let st = subst (λ j. Stands (tables_of F S) j a) (sym p.next) h.2 in
                omega (arith, w, target_size i, child_spent g.fine.good_tables m₁ (target_expr i) h.1, child_spent g.fine.good_tables m₂ a st)) kind
                g.tree g.stands g.few,
            omega (arith, few_asked g.fine.good_tables u t e),
          )

          module _ {u : ℕ} (y₂ : r₂.judgement ≡ Typed u) {b : Comparing} (eb : Asks (tables_of F S) u t b) {o : At} (eo : o ≡ with_pairs r₂.at b) where
            assignment_sum : o.pairs ≡ r₂.at.pairs + below_pairs (declared (tables_of F S)) (type_of (tables_of F S) u) (type_of (tables_of F S) t)
            assignment_sum = ap (λ i. i.pairs) eo ∙ ap (λ i. r₂.at.pairs + i) eb.1

            pub assignment_type : {r : Judged} → not b.holds ≡ true → Refuses r 11 n o.pairs → ToldAny F S X R W base n s π R₂ W₂ K₂ r
            unfolding executing
            assignment_type {r} f e =
                record {
                  tells = λ rt. record {
                    tells = λ start last. on_assign (AnswersStmt F S X R W base start rt last n s π R₂ W₂ K₂ r)
                        (λ i a h Γ d.
                        passes _ 15 n _ (allowed i h.1 d)
                        (child_ok _ _ _ t y₁ (in_scope d _ _ _ (m₁.tells (target_expr i) h.1)) λ L q p.
                        child_ok _ _ _ u y₂ (in_scope d _ _ _ (retell p.after.same g.fine.above p.next refl m₂ a h.2)) λ M q₂ p₂.
                        fails _ 11 n _ _ (sym eb.0 ∙ not-true b.holds f) (subst (Refuses r 11 n) assignment_sum e))) kind;
                  };
                }

            pub assignment_ok : {r : Judged} {R' : List ℕ} → not b.holds ≡ false → AnswerIs (marked 0) o.node s o.pairs r → R' ≡ with_row R₂ n 0 65535
                → ToldAny F S X R W base n s π R' W₂ K₂ r
            unfolding executing
            assignment_ok {r} {R'} f er e_r =
                record {
                  tells = λ rt. record {
                    tells = λ start last. on_assign (AnswersStmt F S X R W base start rt last n s π R' W₂ K₂ r)
                        (λ i a h Γ d.
                        passes _ 15 n _ (allowed i h.1 d)
                        (child_ok _ _ _ t y₁ (in_scope d _ _ _ (m₁.tells (target_expr i) h.1)) λ L q p.
                        child_ok _ _ _ u y₂ (in_scope d _ _ _ (retell p.after.same g.fine.above p.next refl m₂ a h.2)) λ M q₂ p₂.
                        holds _ 11 n _ (sym eb.0 ∙ not-false b.holds f)
                        (accepts_now _ _ (rule_left g.within
                        (after_append (expr_long _ _ (target_expr i) (n + 1) _ t L q) (expr_closed _ _ (target_expr i) (n + 1) _ t L q) p.after p₂.after) er (ap (λ j. j.node) eo ∙ p₂.next ∙ omega arith) (omega arith) e_r d)
                        (er.sum ∙ assignment_sum)))) kind;
                  };
                }
