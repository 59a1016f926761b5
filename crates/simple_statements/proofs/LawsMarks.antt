-- One part of a statement after another, a statement's own row over its children's, and the answer to an accepted
-- statement. Assumes nothing.
use mathlib.Core.Path.{◌≡◌, refl, sym, subst, ◌∙◌}
use mathlib.Core.List.{List, ◌∷◌, ◌++◌}
use Prim.Native.Nat.{ℕ, ◌+◌, ◌*◌, ◌≤◌, ◌<◌}
use native.Mathlib.Omega.{arith}
use lib.ListN.{length}
use borrow.Author.Tests.{eq-eqb}
use Rattle.file_sections.proofs.LawsFrames.{same_trans}
use Rattle.typing_rules.specs.Contexts.{Scope}
use Rattle.typing_rules.specs.Labels.{Label, marks, nothing}
use Rattle.typing_rules.specs.Judge.{marked_as, done}
use Rattle.typing_rules.specs.Check.{next_result}
use Rattle.file_sections.specs.declared.Sections.{Sections}
use Rattle.file_sections.specs.Layout.{tables_of}
use Rattle.bindings.specs.Bindings.{entry_of, Holds}
use Rattle.bindings.proofs.LawsBindings.{holds_same}
use Rattle.answers.specs.declared.answer.Judgement.{Judgement}
use Rattle.answers.specs.declared.answer.Judgement.TheVariants.{Returns}
use Rattle.answers.specs.declared.answer.Judged.{Judged}
use Rattle.answers.specs.Answers.{with_row, AnswerIs}
use Rattle.expressions.specs.Contract.{Fine, RowsAt, After}
use Rattle.expressions.proofs.LawsAfter.{rows_kept, row_length, row_other, row-result, row_binder, fine_rows}
use Rattle.expressions.proofs.LawsLabels.{last_result, Closed, rows_join}
use Rattle.simple_statements.specs.Contract.{marked, Marking}

-- the judgement of a mark that is 1, and an answer with another judgement that is the same
pub returns_marked : (p : ℕ) → p ≡ 1 → Returns ≡ marked p
returns_marked p h = rw (eq-eqb p 1 h) refl

pub judged_as : {i j : Judgement} {n s k : ℕ} {r : Judged} → i ≡ j → AnswerIs i n s k r → AnswerIs j n s k r
judged_as {n = n} {s = s} {k = k} {r = r} e a = subst (λ x. AnswerIs x n s k r) e a

-- one part after another; the first leaves a scope of the height h, the second one of the height i
module _ {F : List ℕ} {S : Sections} {X : List ℕ} {base : ℕ} {L M : List (Label ℕ)} {n k j s h i : ℕ} {R W R₁ W₁ K₁ R₂ W₂ K₂ : List ℕ} where
  -- where the last label of the first part gives nothing, the next has to give no type
  pub after_join : length L ≡ k → (last_result (marks 0) L ≡ nothing → next_result M ≡ 0) → s ≤ h
      → After F S X base L n k s h R W R₁ W₁ K₁ → After F S X base M (n + k) j h i R₁ W₁ R₂ W₂ K₂ → After F S X base (L ++ M) n (k + j) s i R W R₂ W₂ K₂
  after_join e c l a b =
      record {
        rows = rows_join R₂ n L M c (rows_kept R₁ R₂ n L (λ m p q. b.kept.before m (omega (arith, e, q))) a.rows)
            (subst (λ m. RowsAt R₂ (n + m) M) (sym e) b.rows);
        kept = record {
          before = λ m p. b.kept.before m (omega arith) ∙ a.kept.before m p;
          after = λ m p. b.kept.after m (omega arith) ∙ a.kept.after m (omega arith);
        };
        same = same_trans (entry_of (tables_of F S) s) (entry_of (tables_of F S) h) (omega arith) a.same b.same;
        fine = b.fine;
      }

  pub after_both : length L ≡ k → Closed L → s ≤ h
      → After F S X base L n k s h R W R₁ W₁ K₁ → After F S X base M (n + k) j h i R₁ W₁ R₂ W₂ K₂ → After F S X base (L ++ M) n (k + j) s i R W R₂ W₂ K₂
  after_both e c l a b = after_join e (λ z. absurd (c.last z)) l a b

module _ {F : List ℕ} {S : Sections} {X : List ℕ} {base : ℕ} where
  -- the row of a node of the file, with a mark, can be written
  pub mark_fits : {R W K : List ℕ} {n s p : ℕ} → Fine F S X R W K base s → n < S.nodes → p ≤ 1 → (n * 2 + 1 < length R) × (n < 65536) × (p ≤ 1)
  mark_fits f h k =
      let laid = f.good_tables.laid in
      (omega (arith, f.rows_long, h), omega (arith, h, laid.nodes_most), k)

  -- a statement's own row over its children; s' is the height after it
  pub after_mark : {L : List (Label ℕ)} {n k s s' p : ℕ} {Γ Δ : Scope ℕ} {R W R₁ W₁ K₁ : List ℕ} → n < S.nodes
      → After F S X base L (n + 1) k s s' R W R₁ W₁ K₁ → After F S X base (marked_as p Γ Δ ∷ L) n (1 + k) s s' R W (with_row R₁ n p 65535) W₁ K₁
  unfolding RowsAt
  after_mark {L} {n} {k} {s} {s'} {p} {Γ} {Δ} {R} {W} {R₁} h a =
      let long : n * 2 + 1 < length R₁ = omega (arith, a.fine.rows_long, h) in
      record {
        rows = (
          row-result R₁ n p 65535 long,
          row_binder R₁ n p 65535 long,
          rows_kept R₁ (with_row R₁ n p 65535) (n + 1) L (λ i g l. row_other R₁ n p 65535 i (λ e. omega arith) (λ e. omega arith)) a.rows,
        );
        kept = record {
          before = λ i g. row_other R₁ n p 65535 i (λ e. omega arith) (λ e. omega arith) ∙ a.kept.before i (omega arith);
          after = λ i g. row_other R₁ n p 65535 i (λ e. omega arith) (λ e. omega arith) ∙ a.kept.after i (omega arith);
        };
        same = a.same;
        fine = fine_rows a.fine (row_length R₁ n p 65535);
      }

  -- an accepted statement with the mark p, the scope Δ of the height h after it
  pub rule_marked : {L : List (Label ℕ)} {start n k j m s h p i : ℕ} {R W R₁ W₁ K₁ R' : List ℕ} {r : Judged} {Γ Δ : Scope ℕ} → n < S.nodes
      → After F S X base L (n + 1) k s h R W R₁ W₁ K₁ → AnswerIs (marked p) m h i r → m ≡ n + 1 + k → j ≡ 1 + k
      → R' ≡ with_row R₁ n p 65535 → s ≤ h → h ≤ s + j → Holds (tables_of F S) W₁ base start h Δ
      → Marking F S X base start n j s R W R' W₁ K₁ r (done p Δ) (marked_as p Γ Δ ∷ L)
  rule_marked {L} {start} {n} {k} {j} {m} {s} {h} {p} {R = R} {W} {R₁} {W₁} {K₁} {R'} {r} {Γ} {Δ} w a er em ej e_r low high scoped =
      let eh : r.at.scope ≡ h = er.scope in
      record {
        mark = er.judged;
        next = er.next ∙ omega arith;
        scope = subst (λ i. Holds (tables_of F S) W₁ base start i Δ) (sym eh) scoped;
        low = subst (λ i. s ≤ i) (sym eh) low;
        high = subst (λ i. i ≤ s + j) (sym eh) high;
        after = subst (λ i. After F S X base (marked_as p Γ Δ ∷ L) n j s i R W R' W₁ K₁) (sym eh)
            (subst (λ i. After F S X base (marked_as p Γ Δ ∷ L) n i s h R W R' W₁ K₁) (sym ej)
            (subst (λ x. After F S X base (marked_as p Γ Δ ∷ L) n (1 + k) s h R W x W₁ K₁) (sym e_r) (after_mark w a)));
      }

  -- where it binds nothing in the scope after it
  pub rule_left : {L : List (Label ℕ)} {start n k j m s p i : ℕ} {R W R₁ W₁ K₁ R' : List ℕ} {r : Judged} {Γ Δ : Scope ℕ} → n < S.nodes
      → After F S X base L (n + 1) k s s R W R₁ W₁ K₁ → AnswerIs (marked p) m s i r → m ≡ n + 1 + k → j ≡ 1 + k
      → R' ≡ with_row R₁ n p 65535 → Holds (tables_of F S) W base start s Δ → Marking F S X base start n j s R W R' W₁ K₁ r (done p Δ) (marked_as p Γ Δ ∷ L)
  rule_left {s = s} w a er em ej e_r d = rule_marked w a er em ej e_r (omega arith) (omega arith) (holds_same d a.same)
