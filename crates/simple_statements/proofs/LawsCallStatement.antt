-- Call statement: the answers of its returns, and what its calls ask. Assumes nothing.
use mathlib.Core.Path.{◌≡◌, refl, ap, sym, subst, ◌∙◌}
use mathlib.Core.List.{List, ◌++◌}
use Prim.Native.Nat.{ℕ, ◌+◌, ◌*◌, ◌≤◌, ◌<◌}
use native.Mathlib.Omega.{arith}
use lib.ListN.{length}
use borrow.Author.Tests.{eq-eqb, ne_eqb}
use Rattle.oat.specs.Tables.{type_at, node_at}
use Rattle.oat.specs.Syntax.{Expr, size, Exprs, sizes, count, call_stmt, size_stmt}
use Rattle.oat.specs.Nodes.{StandAll}
use Rattle.typing_rules.specs.Contexts.{Scope}
use Rattle.typing_rules.specs.Labels.{Label}
use Rattle.typing_rules.specs.Judge.{ok, Counted, giving, and_counting, referred, arguments_asked, judge, judging_all, Done, ends, executing}
use Rattle.file_sections.specs.declared.Sections.{Sections}
use Rattle.file_sections.specs.Layout.{Has, tables_of}
use Rattle.file_sections.proofs.LawsRecords.{nodes_long}
use Rattle.bindings.specs.Bindings.{Holds}
use Rattle.answers.specs.declared.answer.Judgement.TheVariants.{Typed, GoesOn}
use Rattle.answers.specs.declared.answer.Judged.{Judged}
use Rattle.answers.specs.declared.leaves.Expected.TheVariants.{Run}
use Rattle.answers.specs.Answers.{with_row, Refuses, AnswerIs}
use Rattle.expressions.specs.Contract.{context_of, Typing, Listing, Meets, Few, Ready, Told, expected_asked, listed, ReadyList, ToldList}
use Rattle.expressions.proofs.LawsMeets.{Untyped, Unlisted, accepts_now, stops, passes, then_tested, child_no, child_ok, list_no, list_ok}
use Rattle.expressions.proofs.LawsAfter.{ready, typing_of, after_append}
use Rattle.expressions.proofs.LawsChild.{child_spent, child_within, has_type, returned_within, parameters_within}
use Rattle.expressions.proofs.LawsScope.{in_scope, list_in_scope}
use Rattle.expressions.proofs.LawsList.{listed_fine}
use Rattle.expressions.proofs.LawsListRules.{retell_list}
use Rattle.expressions.proofs.LawsLabels.{expr_long, expr_closed}
use Rattle.expressions.proofs.LawsShape.{stands_end}
use Rattle.simple_statements.specs.Contract.{marked, Marking, ReadyStmt, AnswersStmt, ToldAny}
use Rattle.simple_statements.proofs.LawsLabels.{on_call_stmt}
use Rattle.simple_statements.proofs.LawsMarks.{mark_fits, rule_left}

module _ {F : List ℕ} {S : Sections} {X R W K : List ℕ} {base n s π : ℕ} (g : ReadyStmt F S X R W K base n s π) (kind : (node_at (tables_of F S) n).kind ≡ 34) where
  pub call_first : Ready F S X R W K base (n + 1) s π
  call_first =
      on_call_stmt (λ z. s + size_stmt z ≤ S.built_ins + S.nodes → Few π (size_stmt z) → Ready F S X R W K base (n + 1) s π)
      (λ a es h l w. ready (n + 1) a g.fine h.1 (omega arith) (omega arith)) kind
      g.tree g.stands g.room g.few

  module _ {R₁ W₁ K₁ : List ℕ} {r₁ : Judged} (m₁ : Told F S X R W base (n + 1) s π R₁ W₁ K₁ r₁) where
    pub call_no : Untyped r₁ → ToldAny F S X R W base n s π R₁ W₁ K₁ r₁
    unfolding executing
    call_no u =
        record {
          tells = λ rt. record { tells = λ start last. on_call_stmt (AnswersStmt F S X R W base start rt last n s π R₁ W₁ K₁ r₁) (λ a es h Γ d. child_no _ _ _ u (in_scope d _ _ _ (m₁.tells a h.1))) kind };
        }

    module _ {f k₁ : ℕ} (y₁ : r₁.judgement ≡ Typed f) (e₁ : k₁ ≡ (type_at (tables_of F S) f).kind) where
      pub call_sort : {r : Judged} → (k₁ ≡ 6 → ⊥) → Refuses r 10 n r₁.at.pairs → ToldAny F S X R W base n s π R₁ W₁ K₁ r
      unfolding executing
      call_sort {r} z e =
          record {
            tells = λ rt. record {
              tells = λ start last. on_call_stmt (AnswersStmt F S X R W base start rt last n s π R₁ W₁ K₁ r)
                  (λ a es h Γ d. child_ok _ _ _ f y₁ (in_scope d _ _ _ (m₁.tells a h.1)) λ L q p. stops _ 10 n _ _ (ne_eqb _ _ (λ i. z (e₁ ∙ i))) e) kind;
            };
          }

      module _ (six : k₁ ≡ 6) {u : ℕ} (eu : u ≡ (type_at (tables_of F S) f).a) where
        pub call_within : u < S.types
        call_within = subst (λ i. i < S.types) (sym eu) (returned_within g.fine.good_tables (child_within call_first m₁ y₁) (sym e₁ ∙ six))

        pub call_type : Has F S u S.types
        call_type = has_type g.fine.good_tables call_within

        module _ {k₂ : ℕ} (e₂ : k₂ ≡ (type_at (tables_of F S) u).kind) where
          referred_kind : k₂ ≡ (type_at (tables_of F S) (referred (tables_of F S) f)).kind
          referred_kind = e₂ ∙ ap (λ i. (type_at (tables_of F S) i).kind) eu

          pub call_value : {r : Judged} → (k₂ ≡ 3 → ⊥) → Refuses r 13 n r₁.at.pairs → ToldAny F S X R W base n s π R₁ W₁ K₁ r
          unfolding executing
          call_value {r} z e =
              record {
                tells = λ rt. record {
                  tells = λ start last. on_call_stmt (AnswersStmt F S X R W base start rt last n s π R₁ W₁ K₁ r)
                      (λ a es h Γ d.
                      child_ok _ _ _ f y₁ (in_scope d _ _ _ (m₁.tells a h.1)) λ L q p.
                      passes _ 10 n _ (eq-eqb _ _ (sym e₁ ∙ six))
                      (stops _ 13 n _ _ (ne_eqb _ _ (λ i. z (referred_kind ∙ i))) e)) kind;
                };
              }

          module _ (three : k₂ ≡ 3) {c i : ℕ} (ec : c ≡ (type_at (tables_of F S) f).c) (ei : i ≡ (node_at (tables_of F S) n).children) where
            pub call_count : {r : Judged} → (i ≡ 1 + c → ⊥) → Refuses r 12 n r₁.at.pairs → ToldAny F S X R W base n s π R₁ W₁ K₁ r
            unfolding executing
            call_count {r} z e =
                record {
                  tells = λ rt. record {
                    tells = λ start last. on_call_stmt (AnswersStmt F S X R W base start rt last n s π R₁ W₁ K₁ r)
                        (λ a es h Γ d.
                        child_ok _ _ _ f y₁ (in_scope d _ _ _ (m₁.tells a h.1)) λ L q p.
                        passes _ 10 n _ (eq-eqb _ _ (sym e₁ ∙ six))
                        (passes _ 13 n _ (eq-eqb _ _ (sym referred_kind ∙ three))
                        (stops _ 12 n _ _ (ne_eqb _ _ (λ k. z (ei ∙ h.0.children_is ∙ ap (λ j. 1 + j) (k ∙ sym ec)))) e))) kind;
                  };
                }

            module _ (many : i ≡ 1 + c) {b : ℕ} (eb : b ≡ (type_at (tables_of F S) f).b) where
              counts : (es : Exprs) → (node_at (tables_of F S) n).children ≡ 1 + count es → count es ≡ c
              counts es h = omega (arith, ei, many)

              pub call_list : ReadyList F S X R₁ W₁ K₁ base r₁.at.node s r₁.at.pairs c (Run b)
              call_list =
                  on_call_stmt (λ z. s + size_stmt z ≤ S.built_ins + S.nodes → Few π (size_stmt z) → ReadyList F S X R₁ W₁ K₁ base r₁.at.node s r₁.at.pairs c (Run b))
                  (λ a es h l w.
                  let (L, q, p) = typing_of _ (m₁.tells a h.1) y₁ in
                  record {
                    fine = p.after.fine;
                    within = omega (arith, p.next, stands_end (tables_of F S) (n + 1) a h.1, nodes_long F S);
                    expecting = parameters_within g.fine.good_tables (child_within call_first m₁ y₁) (sym e₁ ∙ six) eb ec;
                    trees = es;
                    stand = subst (λ i. StandAll (tables_of F S) i es) (sym p.next) h.2;
                    counted = counts es h.0.children_is;
                    room = omega arith;
                    few = omega (arith, w, child_spent g.fine.good_tables m₁ a h.1);
                  }) kind
                  g.tree g.stands g.room g.few

              module _ {R₂ W₂ K₂ : List ℕ} {r₂ : Judged} (m₂ : ToldList F S X R₁ W₁ base r₁.at.node s r₁.at.pairs c (Run b) n R₂ W₂ K₂ r₂) where
                -- the arguments, and then the mark
                abbrev arguments : Expr → Exprs → Scope ℕ → Counted (List ℕ)
                arguments a es Γ = listed (tables_of F S) (context_of (tables_of F S) W base) es (n + 1 + size a) Γ (Run (type_at (tables_of F S) f).b) n

                abbrev call_then : Expr → Exprs → Scope ℕ → List (Label ℕ) → Counted Done
                call_then a es Γ L = and_counting (arguments a es Γ) λ ts M. giving (ends 0 Γ Γ (L ++ M))

                call_told : {r : Judged} {R' W' K' : List ℕ}
                    → ((start : ℕ) (Γ : Scope ℕ) (a : Expr) (es : Exprs) (L : List (Label ℕ)) → Holds (tables_of F S) W base start s Γ
                    → judge (tables_of F S) (context_of (tables_of F S) W base) a (n + 1) Γ ≡ ok f L
                    → Typing F S X base (n + 1) (size a) s R W R₁ W₁ K₁ r₁ f L
                    → Meets (Listing F S X base (n + 1 + size a) (sizes es) s R₁ W₁ R₂ W₂ K₂ r₂) r₂ r₁.at.pairs (arguments a es Γ).out (arguments a es Γ).pairs
                    → Meets (Marking F S X base start n (size_stmt (call_stmt a es)) s R W R' W' K' r) r r₁.at.pairs (call_then a es Γ L).out (call_then a es Γ L).pairs)
                    → ToldAny F S X R W base n s π R' W' K' r
                unfolding executing expected_asked
                call_told {r} {R'} {W'} {K'} go =
                    record {
                      tells = λ rt. record {
                        tells = λ start last. on_call_stmt (AnswersStmt F S X R W base start rt last n s π R' W' K' r)
                            (λ a es h Γ d.
                            child_ok _ _ _ f y₁ (in_scope d _ _ _ (m₁.tells a h.1)) λ L q p.
                            passes _ 10 n _ (eq-eqb _ _ (sym e₁ ∙ six))
                            (passes _ 13 n _ (eq-eqb _ _ (sym referred_kind ∙ three))
                            (passes _ 12 n _ (eq-eqb _ _ (counts es h.0.children_is ∙ ec))
                            (then_tested (judging_all (tables_of F S) (context_of (tables_of F S) W base) es (n + 1 + size a) Γ)
                            (λ ts. arguments_asked (tables_of F S) (context_of (tables_of F S) W base) ts (type_at (tables_of F S) f).b) 11 n
                            (λ ts M. ends 0 Γ Γ (L ++ M))
                            (go start Γ a es L d q p
                            (list_in_scope d _ es _ (Run (type_at (tables_of F S) f).b) n
                            (retell_list p.after.same g.fine.above p.next refl
                            (subst (λ i. ToldList F S X R₁ W₁ base r₁.at.node s r₁.at.pairs c (Run i) n R₂ W₂ K₂ r₂) eb m₂) es h.2 (counts es h.0.children_is)))))))) kind;
                      };
                    }

                pub call_no_2 : Unlisted r₂ → ToldAny F S X R W base n s π R₂ W₂ K₂ r₂
                call_no_2 z = call_told (λ start Γ a es L d q p v. list_no _ _ _ z v)

                pub call_row : r₂.judgement ≡ GoesOn → (n * 2 + 1 < length R₂) × (n < 65536) × (0 ≤ 1)
                call_row y = mark_fits (listed_fine call_list m₂ y) g.within (omega arith)

                pub call_ok : {r : Judged} {R' : List ℕ} → r₂.judgement ≡ GoesOn → AnswerIs (marked 0) r₂.at.node s r₂.at.pairs r → R' ≡ with_row R₂ n 0 65535
                    → ToldAny F S X R W base n s π R' W₂ K₂ r
                call_ok {r} {R'} y er e_r =
                    call_told
                    (λ start Γ a es L d q p v.
                    list_ok _ _ y v λ ts M q₂ p₂.
                    accepts_now _ _ (rule_left g.within (after_append (expr_long _ _ a (n + 1) _ f L q) (expr_closed _ _ a (n + 1) _ f L q) p.after p₂.after) er (p₂.next ∙ omega arith) (omega arith) e_r d) er.sum)
