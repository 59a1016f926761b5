-- A function body: its parameters, its block, which must return, the scope that is left and its row; the answers of its returns. Assumes
-- nothing.
use mathlib.Core.Path.{◌≡◌, refl, ap, sym, subst, ◌∙◌}
use mathlib.Core.Bool.{Bool, true, false, not}
use mathlib.Core.List.{List, ◌∷◌, ◌++◌}
use Prim.Native.Nat.{ℕ, zero, suc, ◌+◌, ◌*◌, ◌≤◌, ◌<◌}
use native.Mathlib.Omega.{arith}
use lib.ListN.{length, drop, replicate, length-append}
use lib.Dec.{eqb}
use borrow.Author.Tests.{eq-eqb, ne_eqb, not-true, not-false}
use Rattle.std.specs.Prelude.{Ok, Err}
use Rattle.oat.specs.Tables.{Tables, type_at, node_at}
use Rattle.oat.specs.Types.{structs_of}
use Rattle.oat.specs.TableRules.{has_kind}
use Rattle.oat.specs.Syntax.{Block, function, size_block}
use Rattle.oat.specs.Nodes.{ParametersStand, BlockStands, DeclStands}
use Rattle.typing_rules.specs.Contexts as Contexts
use Rattle.typing_rules.specs.Contexts.{Scope, empty}
use Rattle.typing_rules.specs.Labels.{Label, unlabelled}
use Rattle.typing_rules.specs.Judge.{Counted, referred, executing_block}
use Rattle.typing_rules.specs.Steps.{body, distinct_names, parameters}
use Rattle.typing_rules.specs.Check.{rows_begin, step_rows, rows_of, parameter_rows, stepping}
use Rattle.file_sections.specs.declared.Sections.{Sections}
use Rattle.file_sections.specs.Layout.{Has, tables_of}
use Rattle.file_sections.specs.Frames.{ListAt}
use Rattle.file_sections.proofs.LawsRecords.{nodes_long}
use Rattle.file_sections.proofs.LawsFrames.{same_trans, list_row, list_append, list_kept, list_from}
use Rattle.type_index.specs.Index.{declared}
use Rattle.bindings.specs.Bindings.{entry_of, Scoped, Holds}
use Rattle.bindings.proofs.LawsBindings.{names_same, holds_own}
use Rattle.answers.specs.declared.answer.Judgement.TheVariants.{Returns, Refused}
use Rattle.answers.specs.declared.answer.Judged.{Judged}
use Rattle.answers.specs.Answers.{with_row}
use Rattle.expressions.specs.Contract.{Fine, After, Meets}
use Rattle.expressions.proofs.LawsMeets.{Unrefused, part_of}
use Rattle.expressions.proofs.LawsAfter.{row_other, row-result, row_binder}
use Rattle.expressions.proofs.LawsChild.{kind-of, has_type, kind_within, returned_within, parameters_within}
use Rattle.simple_statements.proofs.LawsLabels.{block_long, block_mark, block_within}
use Rattle.simple_statements.proofs.LawsMarks.{returns_marked}
use Rattle.statements.specs.Contract.{Blocking, ReadyBlock, ToldBlock}
use Rattle.statements.proofs.LawsParts.{marked_no, mark_is}
use Rattle.statements.proofs.LawsBlock.{ready_block}
use Rattle.steps.specs.declared.context.Context.{Context}
use Rattle.steps.specs.declared.context.Refusal.{Refusal}
use Rattle.steps.specs.Contract.{context_at, with_step, summing, refusal_at, Accepted, ReadyParameters, BoundAll, ToldParameters, ReadyBody, ToldBody}
use Rattle.steps.proofs.LawsStepping.{accepts_with, stops, passes, hands_up, goes_on, whole_context}
use Rattle.steps.proofs.LawsGlobal.{refused_after}
use Rattle.steps.proofs.LawsRows.{rows_count, rows_list, parameters_count}

-- the answer is no return
pub record Unreturned (r : Judged) : Type 0 where
  pub never : r.judgement ≡ Returns → ⊥

pub unreturned : (r : Judged) → (r.judgement ≡ Returns → ⊥) → Unreturned r
unreturned r h = record { never = h }

-- the labels of the block are those after the unlabelled nodes
drop_unlabelled : (k : ℕ) (M : List (Label ℕ)) → drop k (replicate k unlabelled ++ M) ≡ M
drop_unlabelled zero M = refl
drop_unlabelled (suc k) M = drop_unlabelled k M

-- an accepted body: its row over its parameters' and its block's
written : {F : List ℕ} {S : Sections} {X : List ℕ} {c : Context} {n u : ℕ} {ps : List ℕ} {b : Block} {M : List (Label ℕ)} {R W R₁ W₁ K₁ R₂ W₂ K₂ K₃ : List ℕ}
    → BoundAll F S X c.names n (type_at (tables_of F S) u).b ps R W R₁ W₁ K₁
    → After F S X c.names M (n + 1 + length ps) (size_block b) (c.names + length ps) (c.names + length ps) R₁ W₁ R₂ W₂ K₂ → length M ≡ size_block b → n < S.nodes
    → Scoped F S W₂ K₃ c.names
    → Accepted F S X c (body n u ps b) R (with_row R₂ n 1 65535) W₂ K₃ (context_at (tables_of F S) W c) (replicate (1 + length ps) unlabelled ++ M)
unfolding step_rows rows_begin
written {F} {S} {X} {c} {n} {u} {ps} {b} {M} {R} {W} {R₁} {W₁} {K₁} {R₂} {W₂} {K₂} {K₃} p d long there scoped =
    let T : Tables = tables_of F S in
    let R₃ : List ℕ = with_row R₂ n 1 65535 in
    let own = parameters_count T (type_at T u).b ps in
    let inner = rows_count M in
    let both : length (parameter_rows T (type_at T u).b ps ++ rows_of M) ≡ length (parameter_rows T (type_at T u).b ps) + length (rows_of M) = length-append (parameter_rows T (type_at T u).b ps) (rows_of M) in
    let these : rows_of (drop (1 + length ps) (replicate (1 + length ps) unlabelled ++ M)) ≡ rows_of M = ap rows_of (drop_unlabelled (1 + length ps) M) in
    let wide : n * 2 + 1 < length R₂ = omega (arith, d.fine.rows_long, there) in
    record {
      held = record { good_tables = d.fine.good_tables; indexed = d.fine.indexed; scoped = scoped };
      made = ap (λ l. record { structs = structs_of T c.structs; names = l })
          (names_same T c.names (same_trans (entry_of T c.names) (entry_of T (c.names + length ps)) (omega arith) p.same d.same) c.names (omega arith));
      long = ap (λ l. length (1 ∷ 65535 ∷ parameter_rows T (type_at T u).b ps ++ l)) these ∙ omega (arith, both, own, inner, long);
      rows = subst (λ l. ListAt R₃ (n * 2) (1 ∷ 65535 ∷ parameter_rows T (type_at T u).b ps ++ l)) (sym these)
          (list_row R₃ (n * 2) 1 65535 _ (row-result R₂ n 1 65535 wide) (row_binder R₂ n 1 65535 wide)
          (list_append R₃ (n * 2 + 2) (parameter_rows T (type_at T u).b ps) (rows_of M)
          (list_from R₃ ((n + 1) * 2) (n * 2 + 2) (parameter_rows T (type_at T u).b ps) (omega arith)
          (list_kept R₁ R₃ ((n + 1) * 2) (parameter_rows T (type_at T u).b ps) (λ j h k. row_other R₂ n 1 65535 j (λ e. omega arith) (λ e. omega arith) ∙ d.kept.before j (omega (arith, own, k))) p.rows))
          (list_from R₃ ((n + 1 + length ps) * 2) (n * 2 + 2 + length (parameter_rows T (type_at T u).b ps)) (rows_of M) (omega (arith, own))
          (list_kept R₂ R₃ ((n + 1 + length ps) * 2) (rows_of M) (λ j h k. row_other R₂ n 1 65535 j (λ e. omega arith) (λ e. omega arith)) (rows_list R₂ (n + 1 + length ps) M d.rows)))));
      kept = record {
        before = λ j h. row_other R₂ n 1 65535 j (λ e. omega arith) (λ e. omega arith) ∙ d.kept.before j (omega arith) ∙ p.kept.before j (omega arith);
        after = λ j h. row_other R₂ n 1 65535 j (λ e. omega arith) (λ e. omega arith) ∙ d.kept.after j (omega arith) ∙ p.kept.after j (omega arith);
      };
    }

module _ {F : List ℕ} {S : Sections} {X R W K : List ℕ} {c : Context} {n : ℕ} (g : ReadyBody F S X R W K c n) where
  there : n < S.nodes
  there = subst (λ k. n < k) (nodes_long F S) g.stands.0.within

  -- for `node_t`
  pub body_node : Has F S n S.nodes
  body_node = record { laid = g.held.good_tables.laid; within = there }

  module _ {t : ℕ} (et : t ≡ (node_at (tables_of F S) n).t) where
    kind : has_kind (tables_of F S) t 6 ≡ true
    kind = subst (λ k. has_kind (tables_of F S) k 6 ≡ true) (sym (et ∙ g.stands.0.t_is)) g.stands.1

    within : t < S.types
    within = kind_within g.held.good_tables 6 kind

    -- for `type_a`, `type_b` and `type_c`
    pub body_type : Has F S t S.types
    body_type = has_type g.held.good_tables within

    module _ {first count : ℕ} (eb : first ≡ (type_at (tables_of F S) t).b) (ec : count ≡ (type_at (tables_of F S) t).c) where
      counted : (x u : ℕ) (ps : List ℕ) (b : Block) → DeclStands (tables_of F S) n (function x u ps b) → length ps ≡ count
      counted x u ps b h = h.2 ∙ ap (λ k. (type_at (tables_of F S) k).c) (sym h.0.t_is ∙ sym et) ∙ sym ec

      own_count : length g.parameters ≡ count
      own_count = counted g.name g.type g.parameters g.block g.stands

      -- for `parameters`
      pub body_parameters : ReadyParameters F S X R W K c.names n first count
      body_parameters =
          let listed = parameters_within g.held.good_tables within (kind-of (tables_of F S) t 6 kind) eb ec in
          record {
            fine = record {
              good_tables = g.held.good_tables;
              indexed = g.held.indexed;
              rows_long = g.rows_long;
              scoped = g.held.scoped;
              low = g.low;
              above = omega arith;
            };
            parameters = g.parameters;
            stand = g.stands.3;
            counted = own_count;
            listed = listed.0;
            types = listed.1;
            room = omega (arith, g.room, own_count);
          }

      -- for the height and the node of the block
      pub body_numbers : (c.names + count ≤ 4224) × (n + 1 + count ≤ 4096)
      body_numbers =
          let laid = g.held.good_tables.laid in
          let last = block_within (tables_of F S) (n + 1 + length g.parameters) g.block g.stands.4 in (
            omega (arith, g.room, own_count, laid.nodes_most, laid.built_ins_most),
            omega (arith, last, own_count, nodes_long F S, laid.nodes_most),
          )

      module _ {R₁ W₁ K₁ : List ℕ} {b₁ : Bool} (p₁ : ToldParameters F S X c.names n first count R W R₁ W₁ K₁ b₁) where
        pub body_taken : {y : Refusal} → not b₁ ≡ true → y ≡ refusal_at c 7 n → ToldBody F S X R W c n R₁ W₁ K₁ (Err y)
        unfolding stepping
        body_taken f e = record { tells = λ x u ps b h. stops (distinct_names ps) 7 n _ _ (sym (p₁.distinct ps h.3 (counted x u ps b h)) ∙ not-true b₁ f) (ap Err e) }

        module _ (f : not b₁ ≡ false) where
          bound : (ps : List ℕ) → ParametersStand (tables_of F S) (n + 1) ps → length ps ≡ count → BoundAll F S X c.names n first ps R W R₁ W₁ K₁
          bound ps h e = p₁.bound ps h e (not-false b₁ f)

          module _ {result : ℕ} (ea : result ≡ (type_at (tables_of F S) t).a) where
            -- for `block`
            pub body_block : ReadyBlock F S X R₁ W₁ K₁ c.names c.names result (n + 1 + count) (c.names + count) c.pairs
            body_block =
                ready_block (n + 1 + count) g.block
                (subst (λ k. Fine F S X R₁ W₁ K₁ c.names (c.names + k)) own_count (bound g.parameters g.stands.3 own_count).fine)
                (omega arith, omega arith)
                (subst (λ k. k < S.types) (sym ea) (returned_within g.held.good_tables within (kind-of (tables_of F S) t 6 kind)))
                (subst (λ k. BlockStands (tables_of F S) (n + 1 + k) g.block) own_count g.stands.4) (omega (arith, g.room, own_count)) g.sums

            module _ {R₂ W₂ K₂ : List ℕ} {r₂ : Judged} (m₂ : ToldBlock F S X R₁ W₁ c.names c.names result (n + 1 + count) (c.names + count) c.pairs R₂ W₂ K₂ r₂) where
              -- the parameters and the block as the step has them
              abbrev Ran : ℕ → List ℕ → Block → Contexts.Context ℕ → Scope ℕ → Type 0
              Ran u ps b C Γ =
                  let x : Counted ℕ = executing_block (tables_of F S) C (referred (tables_of F S) u) b (n + 1 + length ps) Γ in
                  Meets (Blocking F S X c.names (n + 1 + length ps) (size_block b) (c.names + length ps) R₁ W₁ R₂ W₂ K₂ r₂) r₂ c.pairs x.out x.pairs

              bound_at : (x u : ℕ) (ps : List ℕ) (b : Block) → DeclStands (tables_of F S) n (function x u ps b) → BoundAll F S X c.names n (type_at (tables_of F S) u).b ps R W R₁ W₁ K₁
              bound_at x u ps b h =
                  subst (λ k. BoundAll F S X c.names n k ps R W R₁ W₁ K₁) (eb ∙ ap (λ k. (type_at (tables_of F S) k).b) (et ∙ h.0.t_is)) (bound ps h.3 (counted x u ps b h))

              ran : (x u : ℕ) (ps : List ℕ) (b : Block) → DeclStands (tables_of F S) n (function x u ps b)
                  → Ran u ps b (context_at (tables_of F S) W c) (parameters (λ a. a) (tables_of F S) empty (type_at (tables_of F S) u).b (n + 1) ps)
              ran x u ps b h =
                  let T : Tables = tables_of F S in
                  let p = bound_at x u ps b h in
                  subst (λ C. Ran u ps b C (parameters (λ a. a) T empty (type_at T u).b (n + 1) ps)) (sym (whole_context F S W c g.whole))
                  (subst (λ N. Ran u ps b (record { structs = declared T; names = N }) (parameters (λ a. a) T empty (type_at T u).b (n + 1) ps))
                  (names_same T c.names p.same c.names (omega arith))
                  ((subst (λ k. ToldBlock F S X R₁ W₁ c.names c.names k (n + 1 + length ps) (c.names + length ps) c.pairs R₂ W₂ K₂ r₂) (ea ∙ ap (λ k. (type_at T k).a) (et ∙ h.0.t_is))
                  (subst (λ k. ToldBlock F S X R₁ W₁ c.names c.names result (n + 1 + k) (c.names + k) c.pairs R₂ W₂ K₂ r₂) (sym (counted x u ps b h)) m₂)).tells b h.4
                  (parameters (λ a. a) T empty (type_at T u).b (n + 1) ps)
                  (subst (Holds T W₁ c.names c.names (c.names + length ps)) p.scope (holds_own T W₁ c.names (c.names + length ps) (omega arith)))))

              distinct : (x u : ℕ) (ps : List ℕ) (b : Block) → DeclStands (tables_of F S) n (function x u ps b) → distinct_names ps ≡ true
              distinct x u ps b h = sym (p₁.distinct ps h.3 (counted x u ps b h)) ∙ not-false b₁ f

              pub body_no : {p q : ℕ} {d : Context} {y : Refusal} → r₂.judgement ≡ Refused p q → d ≡ summing r₂.at.pairs c → y ≡ refusal_at d p q
                  → ToldBody F S X R W c n R₂ W₂ K₂ (Err y)
              unfolding stepping
              body_no {p} {q} j ed ey =
                  record {
                    tells = λ x u ps b h.
                        passes (distinct_names ps) 7 n _ (distinct x u ps b h)
                        (hands_up _ _ _ (λ i L d. marked_no i p q (sym d.mark ∙ j)) p q j (refused_after c ed ey) (ran x u ps b h));
                  }

              module _ (v : Unrefused r₂) where
                pub body_open : {d : Context} {y : Refusal} → Unreturned r₂ → d ≡ summing r₂.at.pairs c → y ≡ refusal_at d 14 n
                    → ToldBody F S X R W c n R₂ W₂ K₂ (Err y)
                unfolding stepping
                body_open o ed ey =
                    record {
                      tells = λ x u ps b h.
                          passes (distinct_names ps) 7 n _ (distinct x u ps b h)
                          (goes_on _ _ v (ran x u ps b h) λ i L q d.
                          stops (eqb i 1) 14 n _ _ (ne_eqb i 1 (λ z. o.never (d.mark ∙ sym (returns_marked i z)))) (refused_after c ed ey));
                    }

                fine_now : Fine F S X R₂ W₂ K₂ c.names (c.names + count)
                fine_now =
                    let held = holds_own (tables_of F S) W₁ c.names (c.names + count) (omega arith) in
                    let (i, L, q, d) = part_of _ (m₂.tells body_block.tree body_block.stands _ held) v in
                    d.after.fine

                -- for `leave` and `row`
                pub body_scoped : Scoped F S W₂ K₂ (c.names + count) × (c.names ≤ c.names + count)
                body_scoped = (fine_now.scoped, omega arith)

                pub body_fits : (n * 2 + 1 < length R₂) × (n < 65536) × (1 < 65536) × (65535 < 65536)
                body_fits = (omega (arith, fine_now.rows_long, there), omega (arith, there, g.held.good_tables.laid.nodes_most), omega arith, omega arith)

                pub body_ok : {W₃ K₃ R' : List ℕ} {e f : Context} → r₂.judgement ≡ Returns → W₃ ≡ W₂ → Scoped F S W₂ K₃ c.names → R' ≡ with_row R₂ n 1 65535 → e ≡ summing r₂.at.pairs c
                    → f ≡ with_step e → ToldBody F S X R W c n R' W₃ K₃ (Ok f)
                unfolding stepping
                body_ok {W₃} {K₃} {R'} {e} {f} y e_w k e_r ee ef =
                    subst (λ V. ToldBody F S X R W c n R' V K₃ (Ok f)) (sym e_w) record {
                      tells = λ x u ps b h.
                          passes (distinct_names ps) 7 n _ (distinct x u ps b h)
                          (goes_on _ _ v (ran x u ps b h) λ i L q d.
                          passes (eqb i 1) 14 n _ (eq-eqb i 1 (sym (mark_is Returns i (block_mark _ _ _ b _ _ i L q) (sym y ∙ d.mark))))
                          (accepts_with _ _ r₂.at.pairs 0 (omega arith) (ap Ok (ef ∙ ap with_step ee))
                          (subst (λ Q. Accepted F S X c (body n u ps b) R Q W₂ K₃ (context_at (tables_of F S) W c) (replicate (1 + length ps) unlabelled ++ L)) (sym e_r)
                          (written (bound_at x u ps b h) d.after (block_long _ _ _ b _ _ i L q) there k))));
                    }
