-- A block: what its statements ask, and the answers of its returns. Assumes nothing.
use mathlib.Core.Path.{◌≡◌, ap, sym, subst, ◌∙◌}
use mathlib.Core.List.{List, ◌∷◌}
use Prim.Native.Nat.{ℕ, ◌+◌, ◌*◌, ◌≤◌, ◌<◌}
use native.Mathlib.Omega.{arith}
use lib.ListN.{length}
use Rattle.oat.specs.Tables.{node_at}
use Rattle.oat.specs.Syntax.{Block, block, Stmts, size_block}
use Rattle.oat.specs.Nodes.{BlockStands}
use Rattle.typing_rules.specs.Contexts.{Scope}
use Rattle.typing_rules.specs.Labels.{Label}
use Rattle.typing_rules.specs.Judge.{ok, marked_as, execute_block, executing_block}
use Rattle.file_sections.specs.declared.Sections.{Sections}
use Rattle.file_sections.specs.Layout.{tables_of}
use Rattle.file_sections.proofs.LawsRecords.{nodes_long}
use Rattle.bindings.specs.Bindings.{Scoped, Holds}
use Rattle.bindings.proofs.LawsBindings.{holds_some}
use Rattle.answers.specs.declared.answer.Judgement.TheVariants.{Refused}
use Rattle.answers.specs.declared.answer.Judged.{Judged}
use Rattle.answers.specs.Answers.{with_row, AnswerIs}
use Rattle.expressions.specs.Contract.{context_of, Fine, After, Meets, Few}
use Rattle.expressions.proofs.LawsMeets.{Unrefused, accepts_now, goes_on, part_of}
use Rattle.simple_statements.specs.Contract.{mark_of, marked}
use Rattle.simple_statements.proofs.LawsLabels.{all_mark, block_within}
use Rattle.simple_statements.proofs.LawsMarks.{after_mark, mark_fits}
use Rattle.statements.specs.Contract.{Blocking, block_in, ReadyBlock, ToldBlock, ReadyStmts, ToldStmts}
use Rattle.statements.proofs.LawsParts.{mark_is, part_no, after_left}
use Rattle.statements.proofs.LawsRun.{run_fine, run_higher, run_scoped}

-- r answers the block b at n as the definition has it
abbrev pub AnswersBlock : List ℕ → Sections → (X R W : List ℕ) → (base start rt n s π : ℕ) → (R' W' K' : List ℕ) → Judged → Block → Type 0
AnswersBlock F S X R W base start rt n s π R' W' K' r b =
    (Γ : Scope ℕ) → Holds (tables_of F S) W base start s Γ
    → Meets (Blocking F S X base n (size_block b) s R W R' W' K' r) r π (block_in F S W base rt b n Γ).out (block_in F S W base rt b n Γ).pairs

-- a block's statements
on_block : (P : Block → Type 0) → ((ss : Stmts) → P (block ss)) → (b : Block) → P b
on_block P f (block ss) = f ss

module _ {F : List ℕ} {S : Sections} {X : List ℕ} {base : ℕ} where
  -- a block that stands in the file, with room for what it binds and compares
  pub ready_block : {R W K : List ℕ} {start rt s π : ℕ} (n : ℕ) (b : Block) → Fine F S X R W K base s → (base ≤ start) × (start ≤ s) → rt < S.types → BlockStands (tables_of F S) n b
      → s + size_block b ≤ S.built_ins + S.nodes → Few π (size_block b) → ReadyBlock F S X R W K base start rt n s π
  ready_block n b f v t h l few =
      record { fine = f; begins = v; within = subst (λ k. n < k) (nodes_long F S) (block_within (tables_of F S) n b h); returned = t; tree = b; stands = h; room = l; few = few }

  -- an accepted block: its own row over its statements'
  block_row : {L : List (Label ℕ)} {n k m s h p q π : ℕ} {R W R₁ W₁ K₁ K₂ R' : List ℕ} {r : Judged} {Γ : Scope ℕ} → n < S.nodes → base ≤ s
      → After F S X base L (n + 1) k s h R W R₁ W₁ K₁ → Scoped F S W₁ K₂ s → q ≡ p → AnswerIs (marked q) m s π r → m ≡ n + 1 + k
      → R' ≡ with_row R₁ n q 65535
      → Blocking F S X base n (1 + k) s R W R' W₁ K₂ r p (marked_as p Γ Γ ∷ L)
  block_row {L} {n} {k} {m} {s} {h} {p} {q} {R = R} {W} {R₁} {W₁} {K₁} {K₂} {R'} {r} {Γ} w l a c e er em e_r =
      record {
        mark = er.judged ∙ ap marked e;
        next = er.next ∙ omega arith;
        scope = er.scope;
        after = subst (λ x. After F S X base (marked_as p Γ Γ ∷ L) n (1 + k) s s R W x W₁ K₂)
            (sym (e_r ∙ ap (λ i. with_row R₁ n i 65535) e)) (after_mark w (after_left l a c));
      }

module _ {F : List ℕ} {S : Sections} {X R W K : List ℕ} {base start rt n s π : ℕ} (g : ReadyBlock F S X R W K base start rt n s π) where
  pub block_call : {c : ℕ} → c ≡ (node_at (tables_of F S) n).children → ReadyStmts F S X R W K base start rt (n + 1) s π c
  block_call {c} e =
      on_block (λ b. BlockStands (tables_of F S) n b → s + size_block b ≤ S.built_ins + S.nodes → Few π (size_block b) → ReadyStmts F S X R W K base start rt (n + 1) s π c)
      (λ ss h l f. record {
        fine = g.fine;
        begins = g.begins;
        within = omega (arith, g.within);
        returned = g.returned;
        trees = ss;
        stand = h.1;
        counted = sym (e ∙ h.0.children_is);
        room = omega arith;
        few = omega arith;
      })
      g.tree g.stands g.room g.few

  module _ {c : ℕ} (e : c ≡ (node_at (tables_of F S) n).children) {R₁ W₁ K₁ : List ℕ} {r₁ : Judged} (m₁ : ToldStmts F S X R W base start rt (n + 1) s π c n R₁ W₁ K₁ r₁) where
    pub block_refused : {p q : ℕ} → r₁.judgement ≡ Refused p q → ToldBlock F S X R W base start rt n s π R₁ W₁ K₁ r₁
    unfolding executing_block
    block_refused f =
        record {
          tells = on_block (λ b. BlockStands (tables_of F S) n b → AnswersBlock F S X R W base start rt n s π R₁ W₁ K₁ r₁ b)
              (λ ss h Γ d. part_no _ _ _ (λ p L v. (p, v.mark)) f (m₁.tells ss h.1 (sym (e ∙ h.0.children_is)) Γ d));
        }

    module _ (u : Unrefused r₁) where
      -- for `leave` and for `ends`
      pub block_left : Scoped F S W₁ K₁ r₁.at.scope × (s ≤ r₁.at.scope)
      block_left = (run_scoped (block_call e) m₁ u, run_higher (block_call e) m₁ u)

      pub block_ends : {m : ℕ} → m ≤ 1 → (n * 2 + 1 < length R₁) × (n < 65536) × (m ≤ 1)
      block_ends h = mark_fits (run_fine (block_call e) m₁ u) g.within h

      pub block_ok : {m : ℕ} {K₂ R' : List ℕ} {r : Judged} → Scoped F S W₁ K₂ s → m ≡ mark_of r₁.judgement
          → AnswerIs (marked m) r₁.at.node s r₁.at.pairs r → R' ≡ with_row R₁ n m 65535 → ToldBlock F S X R W base start rt n s π R' W₁ K₂ r
      unfolding executing_block
      block_ok {m} {K₂} {R'} {r} c em er e_r =
          record {
            tells = on_block (λ b. BlockStands (tables_of F S) n b → AnswersBlock F S X R W base start rt n s π R' W₁ K₂ r b)
                (λ ss h Γ d.
                goes_on _ _ u (m₁.tells ss h.1 (sym (e ∙ h.0.children_is)) Γ d) λ p L q v.
                accepts_now _ _ (block_row g.within g.fine.above v.after c
                (em ∙ mark_is r₁.judgement p (all_mark _ _ rt ss (n + 1) n 0 _ p L q (omega arith)) v.mark) er v.next e_r) er.sum);
          }

  -- what an accepted block says
  module _ {R₁ W₁ K₁ : List ℕ} {r : Judged} (told : ToldBlock F S X R W base start rt n s π R₁ W₁ K₁ r) (u : Unrefused r) where
    blocked : (p : ℕ) × (L : List (Label ℕ))
        × (execute_block (tables_of F S) (context_of (tables_of F S) W base) rt g.tree n (holds_some (tables_of F S) W base start s g.begins.0 g.begins.1).0 ≡ ok p L)
        × Blocking F S X base n (size_block g.tree) s R W R₁ W₁ K₁ r p L
    blocked =
        let (Γ, d) = holds_some (tables_of F S) W base start s g.begins.0 g.begins.1 in
        part_of _ (told.tells g.tree g.stands Γ d) u

    pub block_next : r.at.node ≡ n + size_block g.tree
    block_next = blocked.3.next
