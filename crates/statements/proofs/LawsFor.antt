-- For: vars, condition, step, block; what it binds is gone after it, and it may always go on. Assumes nothing.
use mathlib.Core.Path.{◌≡◌, sym, subst, subst₂, ◌∙◌}
use mathlib.Core.List.{List, ◌++◌}
use Prim.Native.Nat.{ℕ, ◌+◌, ◌-◌, ◌*◌, ◌≤◌, ◌<◌}
use native.Mathlib.Omega.{arith}
use lib.ListN.{length}
use Rattle.oat.specs.Tables.{Tables, node_at}
use Rattle.oat.specs.Syntax.{Vars, Condition, Step, Block, size_vars, size_condition, size_stmt, size_step, size_block, count_vars}
use Rattle.oat.specs.Nodes.{Node, VarsStand, ConditionStands, StepStands, BlockStands}
use Rattle.typing_rules.specs.Contexts.{Scope, inner, Context}
use Rattle.typing_rules.specs.Labels.{Label}
use Rattle.typing_rules.specs.Judge.{Out, ok, Counted, giving, and_then, and_counting, pairs_after, Done, ends, judging_condition, execute_step, execute_block, executing_step, executing_block, executing}
use Rattle.typing_rules.specs.Check.{next_result}
use Rattle.typing_rules.proofs.LawsOutcome.{ok_is, then_ok, either-then}
use Rattle.typing_rules.proofs.LawsPairs.{vars_pairs, condition_pairs}
use Rattle.file_sections.specs.declared.Sections.{Sections}
use Rattle.file_sections.specs.Layout.{tables_of}
use Rattle.file_sections.proofs.LawsRecords.{nodes_long}
use Rattle.bindings.specs.Bindings.{entry_of, Scoped, Holds}
use Rattle.bindings.proofs.LawsBindings.{holds_same, holds_inner, holds_some}
use Rattle.file_sections.proofs.LawsFrames.{same_less, same_more}
use Rattle.answers.specs.declared.answer.Judgement.TheVariants.{GoesOn, Refused}
use Rattle.answers.specs.declared.answer.Judged.{Judged}
use Rattle.answers.specs.Answers.{with_row, AnswerIs}
use Rattle.expressions.specs.Contract.{context_of, Fine, After, Meets, Few, Listing}
use Rattle.expressions.proofs.LawsMeets.{Unlisted, Unrefused, goes_unrefused, accepts_now, pairs_told, hands_up, goes_on, part_of}
use Rattle.expressions.proofs.LawsChild.{few_parts_in}
use Rattle.expressions.proofs.LawsList.{no_more}
use Rattle.simple_statements.specs.Contract.{marked, Declaring, AnswersStmt, ReadyStmt, ToldAnywhere, ReadyVars, ToldVars, condition_in, ReadyCondition, ToldCondition}
use Rattle.simple_statements.proofs.LawsLabels.{on_for, vars_long, vars_closed, condition_long, step_head, condition_within, step_within}
use Rattle.simple_statements.proofs.LawsMarks.{after_both, mark_fits, rule_left}
use Rattle.statements.specs.Contract.{Blocking, turn_of, turn_in, ReadyTurn, ToldTurn}
use Rattle.statements.proofs.LawsParts.{part_no, after_left, after_plain_then, seen_on}

-- a step and a block as one part
abbrev turned : Tables → Context ℕ → ℕ → Step → Block → ℕ → Scope ℕ → (List (Label ℕ) → Out Done) → Counted Done
turned T C rt z b n Δ k =
    and_counting (executing_step T C rt z n Δ) λ p N.
    and_counting (executing_block T C rt b (n + size_step z) (inner Δ)) λ q O.
    giving (k (N ++ O))

turn_part : {Q : Done → List (Label ℕ) → Type 0} {r : Judged} {π : ℕ} (T : Tables) (C : Context ℕ) (rt : ℕ) (z : Step) (b : Block) (n : ℕ) (Δ : Scope ℕ)
    (k : List (Label ℕ) → Out Done)
    → Meets Q r π (and_then (turn_of T C rt z b n Δ).out (λ q P. k P)) ((turn_of T C rt z b n Δ).pairs + pairs_after (turn_of T C rt z b n Δ).out (λ q P. 0))
    → Meets Q r π (turned T C rt z b n Δ k).out (turned T C rt z b n Δ k).pairs
turn_part {Q} {r} {π} T C rt z b n Δ k m =
    subst₂ (Meets Q r π) (either-then (λ p q. q) (execute_step T C rt z n Δ) (execute_block T C rt b (n + size_step z) (inner Δ)) (λ q P. k P))
    (omega (arith, no_more (turn_of T C rt z b n Δ).out)) m

-- a for after its parts' labels, those of the turn last
abbrev closing : Scope ℕ → (L M P : List (Label ℕ)) → Out Done
closing Γ L M P = ends 0 Γ Γ (L ++ (M ++ P))

turn_head : (T : Tables) (C : Context ℕ) (rt : ℕ) (z : Step) (b : Block) (n : ℕ) (Γ : Scope ℕ) (q : ℕ) (P : List (Label ℕ))
    → (turn_of T C rt z b n Γ).out ≡ ok q P → next_result P ≡ 0
turn_head T C rt z b n Γ q P j =
    then_ok (execute_step T C rt z n Γ) _ j λ p N i k.
    then_ok (execute_block T C rt b (n + size_step z) (inner Γ)) _ k λ t O i₁ k₁.
    ok_is (λ q P. next_result P ≡ 0) k₁ (step_head T C rt z n Γ p N i O)

module _ {F : List ℕ} {S : Sections} {X R W K : List ℕ} {base n s π : ℕ} (g : ReadyStmt F S X R W K base n s π) (kind : (node_at (tables_of F S) n).kind ≡ 37) {c : ℕ} (ec : c ≡ (node_at (tables_of F S) n).children) where
  counts : (vs : Vars) → Node (tables_of F S) n 37 0 0 (count_vars vs + 3) → count_vars vs ≡ c - 3
  counts vs h = omega (arith, ec, h.children_is)

  pub for_count : 3 ≤ c
  for_count = on_for (λ z. 3 ≤ c) (λ vs q z b h. omega (arith, ec, h.0.children_is)) kind g.tree g.stands

  pub for_first : ReadyVars F S X R W K base s (n + 1) s π (c - 3)
  for_first =
      on_for (λ z. s + size_stmt z ≤ S.built_ins + S.nodes → Few π (size_stmt z) → ReadyVars F S X R W K base s (n + 1) s π (c - 3))
      (λ vs q z b h l f. record {
        fine = g.fine;
        begins = (g.fine.above, omega arith);
        within = omega (arith, g.within);
        vars = vs;
        stand = h.1;
        counted = counts vs h.0;
        room = omega arith;
        few = omega arith;
      }) kind
      g.tree g.stands g.room g.few

  module _ {R₁ W₁ K₁ : List ℕ} {r₁ : Judged} (m₁ : ToldVars F S X R W base s (n + 1) s π (c - 3) R₁ W₁ K₁ r₁) where
    pub for_no : {rt : ℕ} → Unlisted r₁ → ToldAnywhere F S X R W base rt n s π R₁ W₁ K₁ r₁
    unfolding executing
    for_no {rt} u =
        record {
          tells = λ start last. on_for (AnswersStmt F S X R W base start rt last n s π R₁ W₁ K₁ r₁)
              (λ vs q z b h Γ d. hands_up _ _ _ (λ Δ L e p. u.never p.goes_on) (m₁.tells vs h.1 (counts vs h.0) (inner Γ) (holds_inner d))) kind;
        }

    module _ (y₁ : r₁.judgement ≡ GoesOn) {h : ℕ} (eh : h ≡ r₁.at.scope) where
      -- some scope is held before the vars
      some_scope : (Γ : Scope ℕ) × Holds (tables_of F S) W base s s Γ
      some_scope = holds_some (tables_of F S) W base s s g.fine.above (omega arith)

      -- the vars, at the height h
      vars_after : {m k : ℕ} {Δ : Scope ℕ} {L : List (Label ℕ)} → Declaring F S X base s m k s R W R₁ W₁ K₁ r₁ Δ L → After F S X base L m k s h R W R₁ W₁ K₁
      vars_after {m} {k} {Δ} {L} p = subst (λ i. After F S X base L m k s i R W R₁ W₁ K₁) (sym eh) p.after

      vars_scope : {m k : ℕ} {Δ : Scope ℕ} {L : List (Label ℕ)} → Declaring F S X base s m k s R W R₁ W₁ K₁ r₁ Δ L → Holds (tables_of F S) W₁ base s h Δ
      vars_scope {Δ = Δ} p = subst (λ i. Holds (tables_of F S) W₁ base s i Δ) (sym eh) p.scope

      -- what the vars have compared
      vars_spent : (vs : Vars) → VarsStand (tables_of F S) (n + 1) vs → count_vars vs ≡ c - 3 → r₁.at.pairs ≤ π + 1200 * size_vars vs
      vars_spent vs h e =
          omega (arith, pairs_told (m₁.tells vs h e some_scope.0 some_scope.1), vars_pairs (few_parts_in g.fine.good_tables W base) vs (n + 1) some_scope.0)

      pub for_second : ReadyCondition F S X R₁ W₁ K₁ base r₁.at.node h r₁.at.pairs
      for_second =
          on_for (λ z. s + size_stmt z ≤ S.built_ins + S.nodes → Few π (size_stmt z) → ReadyCondition F S X R₁ W₁ K₁ base r₁.at.node h r₁.at.pairs)
          (λ vs q z b i l f.
          let (Δ, L, e, p) = part_of _ (m₁.tells vs i.1 (counts vs i.0) some_scope.0 some_scope.1) (goes_unrefused y₁) in
          let there : ConditionStands (tables_of F S) r₁.at.node q = subst (λ j. ConditionStands (tables_of F S) j q) (sym p.next) i.2 in
          record {
            fine = (vars_after p).fine;
            within = subst (λ j. r₁.at.node < j) (nodes_long F S) (condition_within (tables_of F S) r₁.at.node q there);
            tree = q;
            stands = there;
            room = omega (arith, eh, p.high);
            few = omega (arith, f, vars_spent vs i.1 (counts vs i.0));
          }) kind g.tree g.stands g.room g.few

      module _ {R₂ W₂ K₂ : List ℕ} {r₂ : Judged} (m₂ : ToldCondition F S X R₁ W₁ base r₁.at.node h r₁.at.pairs n R₂ W₂ K₂ r₂) where
        -- what the condition's answer says of the definition
        condition_met : {m k : ℕ} {Δ : Scope ℕ} {L : List (Label ℕ)} → Declaring F S X base s m k s R W R₁ W₁ K₁ r₁ Δ L
            → (q : Condition) → ConditionStands (tables_of F S) (m + k) q
            → Meets (Listing F S X base (m + k) (size_condition q) h R₁ W₁ R₂ W₂ K₂ r₂) r₂ r₁.at.pairs
            (condition_in F S W base q (m + k) n Δ).out (condition_in F S W base q (m + k) n Δ).pairs
        condition_met {m} {k} {Δ} p q i =
            seen_on F S base s p.after.same g.fine.above
            (λ C. Meets (Listing F S X base (m + k) (size_condition q) h R₁ W₁ R₂ W₂ K₂ r₂) r₂ r₁.at.pairs
            (judging_condition (tables_of F S) C q (m + k) n Δ).out (judging_condition (tables_of F S) C q (m + k) n Δ).pairs)
            ((subst (λ j. ToldCondition F S X R₁ W₁ base j h r₁.at.pairs n R₂ W₂ K₂ r₂) p.next m₂).tells q i s Δ (vars_scope p))

        pub for_no_2 : {rt : ℕ} → Unlisted r₂ → ToldAnywhere F S X R W base rt n s π R₂ W₂ K₂ r₂
        unfolding executing
        for_no_2 {rt} u =
            record {
              tells = λ start last. on_for (AnswersStmt F S X R W base start rt last n s π R₂ W₂ K₂ r₂)
                  (λ vs q z b i Γ d.
                  goes_on _ _ (goes_unrefused y₁) (m₁.tells vs i.1 (counts vs i.0) (inner Γ) (holds_inner d)) λ Δ L e p.
                  hands_up _ _ _ (λ Δ₁ M e₂ p₂. u.never p₂.goes_on) (condition_met p q i.2)) kind;
            }

        module _ (y₂ : r₂.judgement ≡ GoesOn) where
          pub for_third : {rt : ℕ} → rt < S.types → (n < r₂.at.node) × ReadyTurn F S X R₂ W₂ K₂ base s rt r₂.at.node h r₂.at.pairs
          for_third {rt} w =
              on_for (λ z. s + size_stmt z ≤ S.built_ins + S.nodes → Few π (size_stmt z) → (n < r₂.at.node) × ReadyTurn F S X R₂ W₂ K₂ base s rt r₂.at.node h r₂.at.pairs)
              (λ vs q z b i l f.
              let (Δ, L, e, p) = part_of _ (m₁.tells vs i.1 (counts vs i.0) some_scope.0 some_scope.1) (goes_unrefused y₁) in
              let (Δ₁, M, e₂, p₂) = part_of _ (condition_met p q i.2) (goes_unrefused y₂) in
              let most : (condition_in F S W base q (n + 1 + size_vars vs) n Δ).pairs ≤ 1200 * size_condition q =
              condition_pairs (few_parts_in g.fine.good_tables W base) q (n + 1 + size_vars vs) n Δ in
              let there : StepStands (tables_of F S) r₂.at.node z = subst (λ j. StepStands (tables_of F S) j z) (sym p₂.next) i.3 in (
                omega (arith, p₂.next),
                record {
                  fine = p₂.after.fine;
                  begins = (g.fine.above, omega (arith, eh, p.low));
                  within = subst (λ j. r₂.at.node < j) (nodes_long F S) (step_within (tables_of F S) r₂.at.node z there);
                  returned = w;
                  tree = z;
                  body = b;
                  stands = there;
                  stands_too = subst (λ j. BlockStands (tables_of F S) (j + size_step z) b) (sym p₂.next) i.4;
                  room = omega (arith, eh, p.high);
                  few = omega (arith, f, vars_spent vs i.1 (counts vs i.0), pairs_told (condition_met p q i.2), most);
                },
              )) kind g.tree g.stands g.room g.few

          module _ {rt : ℕ} {R₃ W₃ K₃ : List ℕ} {r₃ : Judged} (m₃ : ToldTurn F S X R₂ W₂ base s rt r₂.at.node h r₂.at.pairs R₃ W₃ K₃ r₃) where
            -- what the turn's answer says of the definition
            turn_met : {m k j : ℕ} {Δ Δ₁ : Scope ℕ} {L M : List (Label ℕ)} → Declaring F S X base s m k s R W R₁ W₁ K₁ r₁ Δ L
                → Listing F S X base (m + k) j h R₁ W₁ R₂ W₂ K₂ r₂ Δ₁ M → (z : Step) (b : Block) → StepStands (tables_of F S) (m + k + j) z
                → BlockStands (tables_of F S) (m + k + j + size_step z) b
                → Meets (Blocking F S X base (m + k + j) (size_step z + size_block b) h R₂ W₂ R₃ W₃ K₃ r₃) r₃ r₂.at.pairs
                (turn_in F S W base rt z b (m + k + j) Δ).out (turn_in F S W base rt z b (m + k + j) Δ).pairs
            turn_met {m} {k} {j} {Δ} p p₂ z b i i₂ =
                let low : s ≤ h = omega (arith, eh, p.low) in
                let same = same_less (entry_of (tables_of F S) s) (entry_of (tables_of F S) h) (omega arith) p₂.after.same in
                seen_on F S base s (same_more p.after.same same) g.fine.above
                (λ C. Meets (Blocking F S X base (m + k + j) (size_step z + size_block b) h R₂ W₂ R₃ W₃ K₃ r₃) r₃ r₂.at.pairs
                (turn_of (tables_of F S) C rt z b (m + k + j) Δ).out (turn_of (tables_of F S) C rt z b (m + k + j) Δ).pairs)
                ((subst (λ v. ToldTurn F S X R₂ W₂ base s rt v h r₂.at.pairs R₃ W₃ K₃ r₃) p₂.next m₃).tells z b i i₂ Δ (holds_same (vars_scope p) p₂.after.same))

            pub for_no_3 : {p q : ℕ} → r₃.judgement ≡ Refused p q → ToldAnywhere F S X R W base rt n s π R₃ W₃ K₃ r₃
            unfolding executing
            for_no_3 f =
                record {
                  tells = λ start last. on_for (AnswersStmt F S X R W base start rt last n s π R₃ W₃ K₃ r₃)
                      (λ vs q z b i Γ d.
                      goes_on _ _ (goes_unrefused y₁) (m₁.tells vs i.1 (counts vs i.0) (inner Γ) (holds_inner d)) λ Δ L e p.
                      goes_on _ _ (goes_unrefused y₂) (condition_met p q i.2) λ Δ₁ M e₂ p₂.
                      turn_part (tables_of F S) (context_of (tables_of F S) W base) rt z b (n + 1 + size_vars vs + size_condition q) Δ (closing Γ L M)
                      (part_no _ (λ v P. closing Γ L M P) _ (λ v P w. (v, w.mark)) f (turn_met p p₂ z b i.3 i.4))) kind;
                }

            module _ (u : Unrefused r₃) where
              ended : Fine F S X R₃ W₃ K₃ base h × (s ≤ h)
              ended =
                  on_for (λ z. Fine F S X R₃ W₃ K₃ base h × (s ≤ h))
                  (λ vs q z b i.
                  let (Δ, L, e, p) = part_of _ (m₁.tells vs i.1 (counts vs i.0) some_scope.0 some_scope.1) (goes_unrefused y₁) in
                  let (Δ₁, M, e₂, p₂) = part_of _ (condition_met p q i.2) (goes_unrefused y₂) in
                  let (v, P, e₃, d) = part_of _ (turn_met p p₂ z b i.3 i.4) u in
                  (d.after.fine, omega (arith, eh, p.low))) kind g.tree g.stands

              pub for_leaves : Scoped F S W₃ K₃ h × (s ≤ h)
              for_leaves = (ended.0.scoped, ended.1)

              pub for_ends : (n * 2 + 1 < length R₃) × (n < 65536) × (0 ≤ 1)
              for_ends = mark_fits ended.0 g.within (omega arith)

              pub for_ok : {r : Judged} {R' K₄ : List ℕ} → Scoped F S W₃ K₄ s
                  → AnswerIs (marked 0) r₃.at.node s r₃.at.pairs r → R' ≡ with_row R₃ n 0 65535
                  → ToldAnywhere F S X R W base rt n s π R' W₃ K₄ r
              unfolding executing
              for_ok {r} {R'} {K₄} left er e_r =
                  record {
                    tells = λ start last. on_for (AnswersStmt F S X R W base start rt last n s π R' W₃ K₄ r)
                        (λ vs q z b i Γ d.
                        goes_on _ _ (goes_unrefused y₁) (m₁.tells vs i.1 (counts vs i.0) (inner Γ) (holds_inner d)) λ Δ L e p.
                        goes_on _ _ (goes_unrefused y₂) (condition_met p q i.2) λ Δ₁ M e₂ p₂.
                        turn_part (tables_of F S) (context_of (tables_of F S) W base) rt z b (n + 1 + size_vars vs + size_condition q) Δ (closing Γ L M)
                        (goes_on _ (λ v P. closing Γ L M P) u (turn_met p p₂ z b i.3 i.4) λ v P e₃ w.
                        accepts_now _ _
                        (rule_left g.within
                        (after_left g.fine.above
                        (after_both (vars_long _ _ vs (n + 1) _ Δ L e) (vars_closed _ _ vs (n + 1) _ Δ L e) ended.1 (vars_after p)
                        (after_plain_then (condition_long _ _ q (n + 1 + size_vars vs) n Δ Δ₁ M e₂)
                        (turn_head _ _ rt z b _ Δ v P e₃) (omega arith) p₂.after w.after)) left)
                        er (w.next ∙ omega arith) (omega arith) e_r d) er.sum)) kind;
                  }
