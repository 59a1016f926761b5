-- If and if?: what each step asks, and the answers of their returns. Assumes nothing.
use mathlib.Core.Path.{◌≡◌, refl, ap, sym, subst, subst₂, ◌∙◌}
use mathlib.Core.Bool.{Bool, true, false, not, ◌&&◌}
use mathlib.Core.List.{List, ◌++◌}
use Prim.Native.Nat.{ℕ, ◌+◌, ◌*◌, ◌≤◌, ◌<◌}
use native.Mathlib.Omega.{arith}
use lib.ListN.{length}
use borrow.Author.Tests.{eq-eqb, ne_eqb, ltb-true, not-true, not-false}
use Rattle.oat.specs.Basics.{pick}
use Rattle.oat.specs.Tables.{type_at, node_at}
use Rattle.oat.specs.Pairs.{Compared}
use Rattle.oat.specs.Syntax.{Block, size, size_block, size_stmt}
use Rattle.oat.specs.Nodes.{has_reference_kind, BlockStands}
use Rattle.typing_rules.specs.Contexts.{Scope, binds, inner}
use Rattle.typing_rules.specs.Labels.{Label}
use Rattle.typing_rules.specs.Rules.{both}
use Rattle.typing_rules.specs.Judge.{Out, Counted, giving, and_then, needs, and_counting, pairs_after, ends, asked, referred, executing}
use Rattle.typing_rules.proofs.LawsOutcome.{either-then}
use Rattle.typing_rules.proofs.LawsPairs.{asked_most}
use Rattle.file_sections.specs.declared.Sections.{Sections}
use Rattle.file_sections.specs.Layout.{Has, tables_of, GoodTables}
use Rattle.file_sections.specs.Frames.{Same}
use Rattle.file_sections.proofs.LawsRecords.{types_long, nodes_long}
use Rattle.file_sections.proofs.LawsFrames.{same_more}
use Rattle.type_index.specs.Index.{Indexed}
use Rattle.bindings.specs.Bindings.{entry_of, Holds, Bindable, Bound}
use Rattle.bindings.proofs.LawsBindings.{holds_same, holds_inner, holds_bound}
use Rattle.subtyping.specs.declared.below.Compared.{Compared as Comparing}
use Rattle.answers.specs.declared.answer.Judgement.TheVariants.{Typed, Refused}
use Rattle.answers.specs.declared.answer.At.{At}
use Rattle.answers.specs.declared.answer.Judged.{Judged}
use Rattle.answers.specs.Answers.{with_row, with_pairs, Asks, Refuses, AnswerIs}
use Rattle.expressions.specs.Contract.{context_of, Fine, Typing, Meets, Few, Ready, Told}
use Rattle.expressions.proofs.LawsMeets.{Untyped, Unrefused, meets_more, stops, passes, fails, goes_on, child_no, child_ok}
use Rattle.expressions.proofs.LawsAfter.{ready, typing_of, after_append}
use Rattle.expressions.proofs.LawsScope.{in_scope}
use Rattle.expressions.proofs.LawsLabels.{expr_long, expr_closed}
use Rattle.expressions.proofs.LawsShape.{size_one}
use Rattle.expressions.proofs.LawsChild.{few_parts_in, child_spent, child_within, child_type, child_fine, reference_within}
use Rattle.expressions.proofs.LawsList.{no_more}
use Rattle.simple_statements.specs.Contract.{mark_of, marked, AnswersStmt, ReadyStmt, ToldAnywhere}
use Rattle.simple_statements.proofs.LawsLabels.{on_if, on_if_null, block_within}
use Rattle.simple_statements.proofs.LawsMarks.{mark_fits}
use Rattle.statements.specs.Contract.{Blocking, block_in, either_of, either_in, ReadyArms, ToldArms}
use Rattle.statements.proofs.LawsParts.{mark_is, part_no, after_stack, marked_row, seen_on}
use Rattle.statements.proofs.LawsArms.{either_mark, arms_fine}

-- a type that is a reference
reference_there : (F : List ℕ) (S : Sections) (t : ℕ) → has_reference_kind (tables_of F S) t ≡ true → t < S.types
unfolding has_reference_kind
reference_there F S t e = subst (λ k. t < k) (types_long F S) (ltb-true t (length (tables_of F S).types) (first _ _ e))
  where
    first : (a b : Bool) → (a && b) ≡ true → a ≡ true
    first true b h = refl
    first false b h = h

-- two blocks that stand in the file, with room for what they bind and compare
ready_arms : {F : List ℕ} {S : Sections} {X R W K : List ℕ} {base rt s top n m π : ℕ} (b c : Block) → Fine F S X R W K base top → rt < S.types → base ≤ s → s ≤ top → m ≡ n
    → BlockStands (tables_of F S) n b → BlockStands (tables_of F S) (n + size_block b) c → top + size_block b + size_block c ≤ S.built_ins + S.nodes
    → Few π (size_block b + size_block c) → ReadyArms F S X R W K base rt m s top π
ready_arms {F} {S} {X} {R} {W} {K} {base} {rt} {s} {top} {n} {m} {π} b c f t l u e h h₂ z few =
    subst (λ i. ReadyArms F S X R W K base rt i s top π) (sym e)
    (record {
      fine = f;
      within = subst (λ k. n < k) (nodes_long F S) (block_within (tables_of F S) n b h);
      returned = t;
      lower = l;
      higher = u;
      first = b;
      second = c;
      stands = h;
      stands_too = h₂;
      room = z;
      few = few;
    })

-- two blocks see the names before them, and their scopes
retell_arms : {F : List ℕ} {S : Sections} {X W R₁ W₁ R₂ W₂ K₂ : List ℕ} {base rt s top m i π : ℕ} {r : Judged} → Same (entry_of (tables_of F S) s) W W₁ → base ≤ s
    → m ≡ i → ToldArms F S X R₁ W₁ base rt m s top π R₂ W₂ K₂ r
    → (b c : Block) → BlockStands (tables_of F S) i b → BlockStands (tables_of F S) (i + size_block b) c
    → (Γ Δ : Scope ℕ) → Holds (tables_of F S) W₁ base top top Γ → Holds (tables_of F S) W₁ base s s Δ
    → Meets (Blocking F S X base i (size_block b + size_block c) s R₁ W₁ R₂ W₂ K₂ r) r π (either_in F S W base rt b c i Γ Δ).out (either_in F S W base rt b c i Γ Δ).pairs
retell_arms {F} {S} {X} {W} {R₁} {W₁} {R₂} {W₂} {K₂} {base} {rt} {s} {top} {m} {i} {π} {r} a l e told b c h h₂ Γ Δ d d₂ =
    seen_on F S base s a l
    (λ C. Meets (Blocking F S X base i (size_block b + size_block c) s R₁ W₁ R₂ W₂ K₂ r) r π (either_of (tables_of F S) C rt b c i Γ Δ).out (either_of (tables_of F S) C rt b c i Γ Δ).pairs)
    ((subst (λ j. ToldArms F S X R₁ W₁ base rt j s top π R₂ W₂ K₂ r) e told).tells b c h h₂ Γ Δ d d₂)

-- what goes on after two blocks and compares no more
abbrev either_then : {B : Type 0} → List ℕ → Sections → List ℕ → (base rt : ℕ) → (b c : Block) → ℕ → (Γ Δ : Scope ℕ) → (ℕ → List (Label ℕ) → Out B) → Counted B
either_then F S W base rt b c i Γ Δ k =
    and_counting (block_in F S W base rt b i Γ) λ p M.
    and_counting (block_in F S W base rt c (i + size_block b) Δ) λ q N.
    giving (k (both p q) (M ++ N))

-- a question that holds, with h pairs compared after it
asked_holds : {A : Type 0} {Q : A → List (Label ℕ) → Type 0} {r : Judged} {π h : ℕ} (c : Compared) (p q : ℕ) (o : Out A) {k : ℕ} → c.holds ≡ true → h ≡ π + c.pairs → Meets Q r h o k
    → Meets Q r π (needs c.holds p q o) (c.pairs + pick c.holds k 0)
asked_holds c p q o t e m = rw t (meets_more c.pairs e m)

-- the two blocks as a part of the statement: refused, and accepted
module _ (F : List ℕ) (S : Sections) (W : List ℕ) (base rt s : ℕ) (b c : Block) (i : ℕ) (Γ Δ : Scope ℕ) {X R₁ W₁ R₂ W₂ K₂ : List ℕ} {r₂ : Judged} {π : ℕ}
    (z : Meets (Blocking F S X base i (size_block b + size_block c) s R₁ W₁ R₂ W₂ K₂ r₂) r₂ π (either_in F S W base rt b c i Γ Δ).out (either_in F S W base rt b c i Γ Δ).pairs) {B : Type 0} {Q : B → List (Label ℕ) → Type 0} (k : ℕ → List (Label ℕ) → Out B) where
  -- both as one part
  as_one : {r : Judged}
      → Meets Q r π (and_then (either_in F S W base rt b c i Γ Δ).out k) ((either_in F S W base rt b c i Γ Δ).pairs + pairs_after (either_in F S W base rt b c i Γ Δ).out (λ p N. 0))
      → Meets Q r π (either_then F S W base rt b c i Γ Δ k).out (either_then F S W base rt b c i Γ Δ k).pairs
  as_one {r} m =
      subst₂ (Meets Q r π) (either-then both (block_in F S W base rt b i Γ).out (block_in F S W base rt c (i + size_block b) Δ).out k)
      (omega (arith, no_more (either_in F S W base rt b c i Γ Δ).out)) m

  either_no : {p q : ℕ} → r₂.judgement ≡ Refused p q → Meets Q r₂ π (either_then F S W base rt b c i Γ Δ k).out (either_then F S W base rt b c i Γ Δ k).pairs
  either_no e = as_one (part_no _ k _ (λ p L v. (p, v.mark)) e z)

  either_ok : {r : Judged} {m : ℕ} → Unrefused r₂ → m ≡ mark_of r₂.judgement
      → ((p : ℕ) (N : List (Label ℕ)) → m ≡ p → Blocking F S X base i (size_block b + size_block c) s R₁ W₁ R₂ W₂ K₂ r₂ p N → Meets Q r r₂.at.pairs (k p N) 0)
      → Meets Q r π (either_then F S W base rt b c i Γ Δ k).out (either_then F S W base rt b c i Γ Δ k).pairs
  either_ok {r} {m} u em f =
      as_one
      (goes_on _ k u z λ p N q v.
      f p N (em ∙ mark_is r₂.judgement p (either_mark _ _ rt b c i Γ _ p N q) v.mark) v)

-- if
module _ {F : List ℕ} {S : Sections} {X R W K : List ℕ} {base rt n s π : ℕ} (given : ReadyStmt F S X R W K base n s π × (rt < S.types)) (kind : (node_at (tables_of F S) n).kind ≡ 35) where
  pub if_first : Ready F S X R W K base (n + 1) s π
  if_first =
      on_if (λ z. s + size_stmt z ≤ S.built_ins + S.nodes → Few π (size_stmt z) → Ready F S X R W K base (n + 1) s π)
      (λ a b c h l f. ready (n + 1) a given.0.fine h.1 (omega arith) (omega arith)) kind
      given.0.tree given.0.stands given.0.room given.0.few

  module _ {R₁ W₁ K₁ : List ℕ} {r₁ : Judged} (m₁ : Told F S X R W base (n + 1) s π R₁ W₁ K₁ r₁) where
    pub if_no : Untyped r₁ → ToldAnywhere F S X R W base rt n s π R₁ W₁ K₁ r₁
    unfolding executing
    if_no u = record { tells = λ start last. on_if (AnswersStmt F S X R W base start rt last n s π R₁ W₁ K₁ r₁) (λ a b c h Γ d. child_no _ _ _ u (in_scope d _ _ _ (m₁.tells a h.1))) kind }

    module _ {t : ℕ} (y₁ : r₁.judgement ≡ Typed t) where
      pub if_type : Has F S t S.types
      if_type = child_type if_first m₁ y₁

      pub if_second : (n < r₁.at.node) × ReadyArms F S X R₁ W₁ K₁ base rt r₁.at.node s s r₁.at.pairs
      if_second =
          on_if (λ z. s + size_stmt z ≤ S.built_ins + S.nodes → Few π (size_stmt z) → (n < r₁.at.node) × ReadyArms F S X R₁ W₁ K₁ base rt r₁.at.node s s r₁.at.pairs)
          (λ a b c h l f.
          let (L, q, p) = typing_of _ (m₁.tells a h.1) y₁ in (
            omega (arith, p.next),
            ready_arms b c p.after.fine given.1 given.0.fine.above (omega arith) p.next h.2 h.3 (omega arith)
                (omega (arith, f, child_spent given.0.fine.good_tables m₁ a h.1)),
          )) kind
          given.0.tree given.0.stands given.0.room given.0.few

      module _ {k₁ : ℕ} (e₁ : k₁ ≡ (type_at (tables_of F S) t).kind) where
        pub if_sort : {r : Judged} → (k₁ ≡ 1 → ⊥) → Refuses r 10 n r₁.at.pairs → ToldAnywhere F S X R W base rt n s π R₁ W₁ K₁ r
        unfolding executing
        if_sort {r} f e =
            record {
              tells = λ start last. on_if (AnswersStmt F S X R W base start rt last n s π R₁ W₁ K₁ r)
                  (λ a b c h Γ d. child_ok _ _ _ t y₁ (in_scope d _ _ _ (m₁.tells a h.1)) λ L q p. stops _ 10 n _ _ (ne_eqb _ _ (λ i. f (e₁ ∙ i))) e) kind;
            }

        module _ (z₁ : k₁ ≡ 1) {R₂ W₂ K₂ : List ℕ} {r₂ : Judged} (m₂ : ToldArms F S X R₁ W₁ base rt r₁.at.node s s r₁.at.pairs R₂ W₂ K₂ r₂) where
          arms_in : {L : List (Label ℕ)} {k : ℕ} → Typing F S X base (n + 1) k s R W R₁ W₁ K₁ r₁ t L → (b c : Block)
              → BlockStands (tables_of F S) (n + 1 + k) b → BlockStands (tables_of F S) (n + 1 + k + size_block b) c
              → {start : ℕ} {Γ : Scope ℕ} → Holds (tables_of F S) W base start s Γ
              → Meets (Blocking F S X base (n + 1 + k) (size_block b + size_block c) s R₁ W₁ R₂ W₂ K₂ r₂) r₂ r₁.at.pairs
              (either_in F S W base rt b c (n + 1 + k) (inner Γ) (inner Γ)).out (either_in F S W base rt b c (n + 1 + k) (inner Γ) (inner Γ)).pairs
          arms_in p b c h h₂ {Γ = Γ} d =
              let i = holds_inner (holds_same d p.after.same) in
              retell_arms p.after.same given.0.fine.above p.next m₂ b c h h₂ (inner Γ) (inner Γ) i i

          pub if_no_2 : {p q : ℕ} → r₂.judgement ≡ Refused p q → ToldAnywhere F S X R W base rt n s π R₂ W₂ K₂ r₂
          unfolding executing
          if_no_2 e =
              record {
                tells = λ start last. on_if (AnswersStmt F S X R W base start rt last n s π R₂ W₂ K₂ r₂)
                    (λ a b c h Γ d.
                    child_ok _ _ _ t y₁ (in_scope d _ _ _ (m₁.tells a h.1)) λ L q p.
                    passes _ 10 n _ (eq-eqb _ _ (sym e₁ ∙ z₁))
                    (either_no F S W base rt s b c (n + 1 + size a) (inner Γ) (inner Γ) (arms_in p b c h.2 h.3 d)
                    (λ v N. ends v Γ Γ (L ++ N)) e)) kind;
              }

          module _ (u₂ : Unrefused r₂) where
            -- for `ends`
            pub if_ends : {m : ℕ} → m ≤ 1 → (n * 2 + 1 < length R₂) × (n < 65536) × (m ≤ 1)
            if_ends h = mark_fits (arms_fine if_second.1 m₂ u₂) given.0.within h

            pub if_ok : {m : ℕ} {R' : List ℕ} {r : Judged} → m ≡ mark_of r₂.judgement → AnswerIs (marked m) r₂.at.node s r₂.at.pairs r
                → R' ≡ with_row R₂ n m 65535 → ToldAnywhere F S X R W base rt n s π R' W₂ K₂ r
            unfolding executing
            if_ok {m} {R'} {r} em er e_r =
                record {
                  tells = λ start last. on_if (AnswersStmt F S X R W base start rt last n s π R' W₂ K₂ r)
                      (λ a b c h Γ d.
                      child_ok _ _ _ t y₁ (in_scope d _ _ _ (m₁.tells a h.1)) λ L q p.
                      passes _ 10 n _ (eq-eqb _ _ (sym e₁ ∙ z₁))
                      (either_ok F S W base rt s b c (n + 1 + size a) (inner Γ) (inner Γ) (arms_in p b c h.2 h.3 d)
                      (λ v N. ends v Γ Γ (L ++ N)) u₂ em λ v N ev w.
                      marked_row given.0.within (after_append (expr_long _ _ a (n + 1) _ t L q) (expr_closed _ _ a (n + 1) _ t L q) p.after w.after) ev
                      (w.next ∙ omega arith) (omega arith) er e_r d)) kind;
                }

-- if?
module _ {F : List ℕ} {S : Sections} {X R W K : List ℕ} {base rt n s π : ℕ} (given : ReadyStmt F S X R W K base n s π × (rt < S.types)) (kind : (node_at (tables_of F S) n).kind ≡ 36) where
  pub null_first : Ready F S X R W K base (n + 1) s π
  null_first =
      on_if_null (λ z. s + size_stmt z ≤ S.built_ins + S.nodes → Few π (size_stmt z) → Ready F S X R W K base (n + 1) s π)
      (λ x t a b c h l f. ready (n + 1) a given.0.fine h.2 (omega arith) (omega arith)) kind
      given.0.tree given.0.stands given.0.room given.0.few

  module _ {R₁ W₁ K₁ : List ℕ} {r₁ : Judged} (m₁ : Told F S X R W base (n + 1) s π R₁ W₁ K₁ r₁) where
    pub null_no : Untyped r₁ → ToldAnywhere F S X R W base rt n s π R₁ W₁ K₁ r₁
    unfolding executing
    null_no u = record { tells = λ start last. on_if_null (AnswersStmt F S X R W base start rt last n s π R₁ W₁ K₁ r₁) (λ x t a b c h Γ d. child_no _ _ _ u (in_scope d _ _ _ (m₁.tells a h.2))) kind }

    module _ {u : ℕ} (y₁ : r₁.judgement ≡ Typed u) where
      pub null_type : Has F S u S.types
      null_type = child_type null_first m₁ y₁

      module _ {t₁ : ℕ} (et : t₁ ≡ (node_at (tables_of F S) n).t) where
        null_within : t₁ < S.types
        null_within =
            on_if_null (λ z. t₁ < S.types)
            (λ x t a b c h. subst (λ i. i < S.types) (sym (et ∙ h.0.t_is)) (reference_there F S t h.1)) kind given.0.tree given.0.stands

        -- for `bind`
        pub null_bindable : Bindable F S W₁ K₁ s n t₁
        null_bindable =
            record {
              scoped = (child_fine null_first m₁ y₁).scoped;
              low = omega (arith, given.0.fine.low, given.0.fine.above);
              room = omega (arith, null_first.room, size_one null_first.tree);
              node_there = given.0.within;
              type_there = null_within;
            }

      module _ {k₁ : ℕ} (e₁ : k₁ ≡ (type_at (tables_of F S) u).kind) where
        pub null_sort : {r : Judged} → (k₁ ≡ 7 → ⊥) → Refuses r 10 n r₁.at.pairs → ToldAnywhere F S X R W base rt n s π R₁ W₁ K₁ r
        unfolding executing
        null_sort {r} f e =
            record {
              tells = λ start last. on_if_null (AnswersStmt F S X R W base start rt last n s π R₁ W₁ K₁ r)
                  (λ x t a b c h Γ d. child_ok _ _ _ u y₁ (in_scope d _ _ _ (m₁.tells a h.2)) λ L q p. stops _ 10 n _ _ (ne_eqb _ _ (λ i. f (e₁ ∙ i))) e) kind;
            }

        module _ (z₁ : k₁ ≡ 7) {t₁ x₁ : ℕ} (et : t₁ ≡ (node_at (tables_of F S) n).t) (ex : x₁ ≡ (type_at (tables_of F S) u).a) where
          -- for `below`
          pub null_asked : GoodTables F S × Indexed X (tables_of F S) S.types × (x₁ < S.types) × (t₁ < S.types)
          null_asked = (
            given.0.fine.good_tables,
            given.0.fine.indexed,
            subst (λ i. i < S.types) (sym ex) (reference_within given.0.fine.good_tables (child_within null_first m₁ y₁) (sym e₁ ∙ z₁)),
            null_within et,
          )

          module _ {c₁ : Comparing} (ec : Asks (tables_of F S) x₁ t₁ c₁) where
            -- the question about the value
            abbrev question : ℕ → Compared
            question t = asked (tables_of F S) (context_of (tables_of F S) W base) (referred (tables_of F S) u) t

            question_is : (t : ℕ) → (node_at (tables_of F S) n).t ≡ t → (c₁.holds ≡ (question t).holds) × (c₁.pairs ≡ (question t).pairs)
            question_is t e = subst (λ i. Asks (tables_of F S) (referred (tables_of F S) u) i c₁) (et ∙ e) (subst (λ i. Asks (tables_of F S) i t₁ c₁) ex ec)

            few_asked : c₁.pairs ≤ 399
            few_asked = omega (arith, ec.1, asked_most (few_parts_in given.0.fine.good_tables W base) x₁ t₁)

            -- for `counting`
            pub null_counted : (r₁.at.pairs ≤ 4294967295) × (c₁.pairs ≤ 4294967295)
            null_counted = (
              omega (arith, null_first.few, child_spent given.0.fine.good_tables m₁ null_first.tree null_first.stands),
              omega (arith, few_asked),
            )

            module _ {v : At} (ev : v ≡ with_pairs r₁.at c₁) where
              null_sum : (t : ℕ) → (node_at (tables_of F S) n).t ≡ t → v.pairs ≡ r₁.at.pairs + (question t).pairs
              null_sum t e = ap (λ i. i.pairs) ev ∙ ap (λ i. r₁.at.pairs + i) (question_is t e).1

              pub null_below : {r : Judged} → not c₁.holds ≡ true → Refuses r 11 n v.pairs → ToldAnywhere F S X R W base rt n s π R₁ W₁ K₁ r
              unfolding executing
              null_below {r} f e =
                  record {
                    tells = λ start last. on_if_null (AnswersStmt F S X R W base start rt last n s π R₁ W₁ K₁ r)
                        (λ x t a b c h Γ d.
                        child_ok _ _ _ u y₁ (in_scope d _ _ _ (m₁.tells a h.2)) λ L q p.
                        passes _ 10 n _ (eq-eqb _ _ (sym e₁ ∙ z₁))
                        (fails (question t) 11 n _ _ (sym (question_is t h.0.t_is).0 ∙ not-true _ f) (subst (Refuses r 11 n) (null_sum t h.0.t_is) e))) kind;
                  }

              module _ {W₂ K₂ : List ℕ} (bound : Bound F S W₁ K₁ s n t₁ W₂ K₂) where
                bound_fine : Fine F S X R₁ W₁ K₁ base s → Fine F S X R₁ W₂ K₂ base (s + 1)
                bound_fine f = record {
                  good_tables = f.good_tables;
                  indexed = f.indexed;
                  rows_long = f.rows_long;
                  scoped = bound.scoped;
                  low = f.low;
                  above = omega (arith, f.above);
                }

                pub null_second : (n < v.node) × ReadyArms F S X R₁ W₂ K₂ base rt v.node s (s + 1) v.pairs
                null_second =
                    on_if_null
                    (λ z. s + size_stmt z ≤ S.built_ins + S.nodes → Few π (size_stmt z) → (n < v.node) × ReadyArms F S X R₁ W₂ K₂ base rt v.node s (s + 1) v.pairs)
                    (λ x t a b c h l f.
                    let (L, q, p) = typing_of _ (m₁.tells a h.2) y₁ in
                    let there : v.node ≡ n + 1 + size a = ap (λ i. i.node) ev ∙ p.next in (
                      omega (arith, there),
                      ready_arms b c (bound_fine p.after.fine) given.1 given.0.fine.above (omega arith) there h.3 h.4 (omega (arith, size_one a))
                          (omega (arith, f, few_asked, ap (λ i. i.pairs) ev, child_spent given.0.fine.good_tables m₁ a h.2)),
                    )) kind
                    given.0.tree given.0.stands given.0.room given.0.few

                module _ (f₁ : not c₁.holds ≡ false) {R₂ W₃ K₃ : List ℕ} {r₂ : Judged} (m₂ : ToldArms F S X R₁ W₂ base rt v.node s (s + 1) v.pairs R₂ W₃ K₃ r₂) where
                  -- the scope of the first block, with the name
                  named_held : {x t start : ℕ} {Γ : Scope ℕ} → (node_at (tables_of F S) n).x ≡ x → (node_at (tables_of F S) n).t ≡ t → Same (entry_of (tables_of F S) s) W W₁
                      → Holds (tables_of F S) W base start s Γ → Holds (tables_of F S) W₂ base (s + 1) (s + 1) (inner (binds (inner Γ) x t n))
                  named_held {x} {t} {start} {Γ} e e₂ a d =
                      subst (λ i. Holds (tables_of F S) W₂ base (s + 1) (s + 1) (inner (binds (inner Γ) i t n))) e
                      (subst (λ i. Holds (tables_of F S) W₂ base (s + 1) (s + 1) (inner (binds (inner Γ) (node_at (tables_of F S) n).x i n))) (et ∙ e₂)
                      (holds_inner (holds_bound (holds_inner (holds_same d a)) given.0.fine.above bound)))

                  bound-in : {L : List (Label ℕ)} {k : ℕ} → Typing F S X base (n + 1) k s R W R₁ W₁ K₁ r₁ u L → (x t : ℕ) → (node_at (tables_of F S) n).x ≡ x → (node_at (tables_of F S) n).t ≡ t
                      → (b c : Block) → BlockStands (tables_of F S) (n + 1 + k) b → BlockStands (tables_of F S) (n + 1 + k + size_block b) c
                      → {start : ℕ} {Γ : Scope ℕ} → Holds (tables_of F S) W base start s Γ
                      → Meets (Blocking F S X base (n + 1 + k) (size_block b + size_block c) s R₁ W₂ R₂ W₃ K₃ r₂) r₂ v.pairs
                      (either_in F S W base rt b c (n + 1 + k) (inner (binds (inner Γ) x t n)) (inner Γ)).out
                      (either_in F S W base rt b c (n + 1 + k) (inner (binds (inner Γ) x t n)) (inner Γ)).pairs
                  bound-in p x t e e₂ b c h h₂ {Γ = Γ} d =
                      let same = same_more p.after.same bound.same in
                      retell_arms same given.0.fine.above (ap (λ i. i.node) ev ∙ p.next) m₂ b c h h₂ (inner (binds (inner Γ) x t n)) (inner Γ)
                      (named_held e e₂ p.after.same d) (holds_inner (holds_same d same))

                  pub null_no_2 : {p q : ℕ} → r₂.judgement ≡ Refused p q → ToldAnywhere F S X R W base rt n s π R₂ W₃ K₃ r₂
                  unfolding executing
                  null_no_2 e =
                      record {
                        tells = λ start last. on_if_null (AnswersStmt F S X R W base start rt last n s π R₂ W₃ K₃ r₂)
                            (λ x t a b c h Γ d.
                            child_ok _ _ _ u y₁ (in_scope d _ _ _ (m₁.tells a h.2)) λ L q p.
                            passes _ 10 n _ (eq-eqb _ _ (sym e₁ ∙ z₁))
                            (asked_holds (question t) 11 n _ (sym (question_is t h.0.t_is).0 ∙ not-false _ f₁) (null_sum t h.0.t_is)
                            (either_no F S W base rt s b c (n + 1 + size a) (inner (binds (inner Γ) x t n)) (inner Γ)
                            (bound-in p x t h.0.x_is h.0.t_is b c h.3 h.4 d)
                            (λ v N. ends v Γ Γ (L ++ N)) e))) kind;
                      }

                  module _ (u₂ : Unrefused r₂) where
                    -- for `ends`
                    pub null_ends : {m : ℕ} → m ≤ 1 → (n * 2 + 1 < length R₂) × (n < 65536) × (m ≤ 1)
                    null_ends h = mark_fits (arms_fine null_second.1 m₂ u₂) given.0.within h

                    pub null_ok : {m : ℕ} {R' : List ℕ} {r : Judged} → m ≡ mark_of r₂.judgement → AnswerIs (marked m) r₂.at.node s r₂.at.pairs r
                        → R' ≡ with_row R₂ n m 65535 → ToldAnywhere F S X R W base rt n s π R' W₃ K₃ r
                    unfolding executing
                    null_ok {m} {R'} {r} em er e_r =
                        record {
                          tells = λ start last. on_if_null (AnswersStmt F S X R W base start rt last n s π R' W₃ K₃ r)
                              (λ x t a b c h Γ d.
                              child_ok _ _ _ u y₁ (in_scope d _ _ _ (m₁.tells a h.2)) λ L q p.
                              passes _ 10 n _ (eq-eqb _ _ (sym e₁ ∙ z₁))
                              (asked_holds (question t) 11 n _ (sym (question_is t h.0.t_is).0 ∙ not-false _ f₁) (null_sum t h.0.t_is)
                              (either_ok F S W base rt s b c (n + 1 + size a) (inner (binds (inner Γ) x t n)) (inner Γ)
                              (bound-in p x t h.0.x_is h.0.t_is b c h.3 h.4 d)
                              (λ v N. ends v Γ Γ (L ++ N)) u₂ em λ i N ei w.
                              marked_row given.0.within
                              (after_append (expr_long _ _ a (n + 1) _ u L q) (expr_closed _ _ a (n + 1) _ u L q) p.after (after_stack bound.same w.after)) ei
                              (w.next ∙ omega arith) (omega arith) er e_r d))) kind;
                        }
