-- The two blocks of an if: what each asks, and the answers of their returns. Assumes nothing.
use mathlib.Core.Path.{◌≡◌, refl, ap, sym, subst, ◌∙◌}
use mathlib.Core.Bool.{Bool, true, false}
use mathlib.Core.List.{List, ◌++◌}
use Prim.Native.Nat.{ℕ, ◌+◌, ◌*◌, ◌≤◌, ◌<◌}
use native.Mathlib.Omega.{arith}
use lib.Dec.{eqb}
use borrow.Author.Tests.{eq-eqb, ne_eqb}
use Rattle.oat.specs.Basics.{pick}
use Rattle.oat.specs.Tables.{Tables}
use Rattle.oat.specs.Syntax.{Block, size_block}
use Rattle.oat.specs.Nodes.{BlockStands}
use Rattle.typing_rules.specs.Contexts.{Scope, Context}
use Rattle.typing_rules.specs.Labels.{Label}
use Rattle.typing_rules.specs.Rules.{both}
use Rattle.typing_rules.specs.Judge.{ok, execute_block}
use Rattle.typing_rules.proofs.LawsPairs.{block_pairs}
use Rattle.typing_rules.proofs.LawsOutcome.{ok_is, then_ok}
use Rattle.file_sections.specs.declared.Sections.{Sections}
use Rattle.file_sections.specs.Layout.{tables_of}
use Rattle.bindings.specs.Bindings.{Scoped}
use Rattle.bindings.proofs.LawsBindings.{holds_some}
use Rattle.answers.specs.declared.answer.Judgement.TheVariants.{GoesOn, Refused}
use Rattle.answers.specs.declared.answer.Judged.{Judged}
use Rattle.answers.specs.Answers.{AnswerIs}
use Rattle.expressions.specs.Contract.{context_of, Fine, After}
use Rattle.expressions.proofs.LawsMeets.{Unrefused, accepts_now, pairs_told, goes_on, part_of}
use Rattle.expressions.proofs.LawsAfter.{after_append}
use Rattle.expressions.proofs.LawsChild.{few_parts_in}
use Rattle.simple_statements.specs.Contract.{mark_of, marked}
use Rattle.simple_statements.proofs.LawsLabels.{block_long, block_closed, block_mark, size_block_one}
use Rattle.statements.specs.Contract.{Blocking, ReadyBlock, ToldBlock, either_of, ReadyArms, ToldArms}
use Rattle.statements.proofs.LawsParts.{mark_is, part_no, after_left, after_lower, retell_block}
use Rattle.statements.proofs.LawsBlock.{ready_block}

-- the mark of two blocks
pub both_goes : (p q : ℕ) → p ≡ 0 → both p q ≡ 0
both_goes p q e = rw (eq-eqb p 0 e) refl

pub both_second : (p q : ℕ) → (p ≡ 0 → ⊥) → both p q ≡ q
both_second p q f = rw (ne_eqb p 0 f) refl

pub both_small : (p q : ℕ) → q ≤ 1 → both p q ≤ 1
both_small p q h = go (eqb p 0)
  where
    go : (b : Bool) → pick b 0 q ≤ 1
    go true = omega arith
    go false = h

pub either_mark : (T : Tables) (C : Context ℕ) (rt : ℕ) (b c : Block) (n : ℕ) (Γ Δ : Scope ℕ) (p : ℕ) (L : List (Label ℕ))
    → (either_of T C rt b c n Γ Δ).out ≡ ok p L → p ≤ 1
either_mark T C rt b c n Γ Δ p L j =
    then_ok (execute_block T C rt b n Γ) _ j λ v M i k.
    then_ok (execute_block T C rt c (n + size_block b) Δ) _ k λ w N i₂ k₂.
    ok_is (λ a M. a ≤ 1) k₂ (both_small v w (block_mark T C rt c (n + size_block b) Δ w N i₂))

module _ {F : List ℕ} {S : Sections} {X R W K : List ℕ} {base rt n s top π : ℕ} (g : ReadyArms F S X R W K base rt n s top π) where
  module _ {R₁ W₁ K₁ : List ℕ} {r₁ : Judged} (m₁ : ToldBlock F S X R W base top rt n top π R₁ W₁ K₁ r₁) where
    pub arms_no : {p q : ℕ} → r₁.judgement ≡ Refused p q → ToldArms F S X R W base rt n s top π R₁ W₁ K₁ r₁
    arms_no e = record { tells = λ b c h h₂ Γ Δ d d₂. part_no _ _ _ (λ p L v. (p, v.mark)) e (m₁.tells b h Γ d) }

    module _ (u : Unrefused r₁) where
      first_said : (p : ℕ) × (L : List (Label ℕ))
          × (execute_block (tables_of F S) (context_of (tables_of F S) W base) rt g.first n (holds_some (tables_of F S) W base top top g.fine.above (omega arith)).0 ≡ ok p L)
          × Blocking F S X base n (size_block g.first) top R W R₁ W₁ K₁ r₁ p L
      first_said =
          let (Γ, d) = holds_some (tables_of F S) W base top top g.fine.above (omega arith) in
          part_of _ (m₁.tells g.first g.stands Γ d) u

      -- what the first block has compared
      first_spent : r₁.at.pairs ≤ π + 1200 * size_block g.first
      first_spent =
          let (Γ, d) = holds_some (tables_of F S) W base top top g.fine.above (omega arith) in
          omega (arith, pairs_told (m₁.tells g.first g.stands Γ d), block_pairs (few_parts_in g.fine.good_tables W base) rt g.first n Γ)

      -- for `leave`
      pub arms_left : Scoped F S W₁ K₁ top × (s ≤ top)
      arms_left = (first_said.3.after.fine.scoped, g.higher)

      pub arms_next : n < r₁.at.node
      arms_next = omega (arith, first_said.3.next, size_block_one g.first)

      module _ {K₂ : List ℕ} (c₁ : Scoped F S W₁ K₂ s) where
        -- the first block, seen from the height s
        lowered : {L : List (Label ℕ)} {k : ℕ} → After F S X base L n k top top R W R₁ W₁ K₁ → After F S X base L n k s s R W R₁ W₁ K₂
        lowered a = after_left g.lower (after_lower g.higher a) c₁

        pub arms_second : ReadyBlock F S X R₁ W₁ K₂ base s rt r₁.at.node s r₁.at.pairs
        arms_second =
            ready_block r₁.at.node g.second (lowered first_said.3.after).fine (g.lower, omega arith) g.returned
            (subst (λ i. BlockStands (tables_of F S) i g.second) (sym first_said.3.next) g.stands_too) (omega (arith, g.room, g.higher)) (omega (arith, g.few, first_spent))

        pub arms_asked : (n < r₁.at.node) × ReadyBlock F S X R₁ W₁ K₂ base s rt r₁.at.node s r₁.at.pairs
        arms_asked = (arms_next, arms_second)

        -- leaving has not changed the stack
        module _ {W' : List ℕ} (same : W' ≡ W₁) {R₂ W₂ K₃ : List ℕ} {r₂ : Judged} (m₂ : ToldBlock F S X R₁ W' base s rt r₁.at.node s r₁.at.pairs R₂ W₂ K₃ r₂) where
          second_told : ToldBlock F S X R₁ W₁ base s rt r₁.at.node s r₁.at.pairs R₂ W₂ K₃ r₂
          second_told = subst (λ w. ToldBlock F S X R₁ w base s rt r₁.at.node s r₁.at.pairs R₂ W₂ K₃ r₂) same m₂

          pub arms_no_2 : {p q : ℕ} → r₂.judgement ≡ Refused p q → ToldArms F S X R W base rt n s top π R₂ W₂ K₃ r₂
          arms_no_2 e =
              record {
                tells = λ b c h h₂ Γ Δ d d₂.
                    goes_on _ _ u (m₁.tells b h Γ d) λ p L q v.
                    part_no _ _ _ (λ i N z. (i, z.mark)) e (retell_block (lowered v.after).same g.lower v.next second_told c h₂ Δ d₂);
              }

          module _ (u₂ : Unrefused r₂) {m : ℕ} (em : m ≡ mark_of r₁.judgement) where
            -- any answer with the mark of both
            both_said : {r : Judged} → r.at.node ≡ r₂.at.node → r.at.scope ≡ r₂.at.scope → r.at.pairs ≡ r₂.at.pairs → ((p q : ℕ) → m ≡ p → r₂.judgement ≡ marked q → r.judgement ≡ marked (both p q))
                → ToldArms F S X R W base rt n s top π R₂ W₂ K₃ r
            both_said {r} en es ep f =
                record {
                  tells = λ b c h h₂ Γ Δ d d₂.
                      goes_on _ _ u (m₁.tells b h Γ d) λ p L q v.
                      goes_on _ _ u₂ (retell_block (lowered v.after).same g.lower v.next second_told c h₂ Δ d₂) λ i M q₂ v₂.
                      accepts_now (both p i) (L ++ M) (record {
                        mark = f p i (em ∙ mark_is r₁.judgement p (block_mark _ _ rt b n _ p L q) v.mark) v₂.mark;
                        next = en ∙ v₂.next ∙ omega arith;
                        scope = es ∙ v₂.scope;
                        after = after_append (block_long _ _ rt b n _ p L q) (block_closed _ _ rt b n _ p L q) (lowered v.after) v₂.after;
                      }) ep;
                }

            pub arms_goes : {r : Judged} → m ≡ 0 → AnswerIs GoesOn r₂.at.node r₂.at.scope r₂.at.pairs r → ToldArms F S X R W base rt n s top π R₂ W₂ K₃ r
            arms_goes z er =
                both_said er.next er.scope er.sum
                (λ p q e y. er.judged ∙ ap marked (sym (both_goes p q (sym e ∙ z))))

            pub arms_ok : (m ≡ 0 → ⊥) → ToldArms F S X R W base rt n s top π R₂ W₂ K₃ r₂
            arms_ok f = both_said refl refl refl (λ p q e y. y ∙ ap marked (sym (both_second p q (λ z. f (e ∙ z)))))

  -- what accepted blocks say
  module _ {R₁ W₁ K₁ : List ℕ} {r : Judged} (told : ToldArms F S X R W base rt n s top π R₁ W₁ K₁ r) (u : Unrefused r) where
    pub arms_fine : Fine F S X R₁ W₁ K₁ base s
    arms_fine =
        let (Γ, d) = holds_some (tables_of F S) W base top top g.fine.above (omega arith) in
        let (Δ, d₂) = holds_some (tables_of F S) W base s s g.lower (omega arith) in
        (part_of _ (told.tells g.first g.second g.stands g.stands_too Γ Δ d d₂) u).3.after.fine
