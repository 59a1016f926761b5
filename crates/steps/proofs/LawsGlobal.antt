-- A global: its initializer, whether its name is new, its binding and its row; the answers of its returns. Assumes nothing.
use mathlib.Core.Path.{◌≡◌, ap, sym, subst, ◌∙◌}
use mathlib.Core.Bool.{Bool, true, false, not}
use mathlib.Core.List.{List, [], ◌∷◌, append-nil}
use Prim.Native.Nat.{ℕ, ◌+◌, ◌*◌, ◌<◌}
use native.Mathlib.Omega.{arith}
use lib.ListN.{length}
use borrow.Author.Tests.{eq-eqb, not-true, not-false}
use Rattle.std.specs.Prelude.{Result, Ok, Err}
use Rattle.oat.specs.Tables.{Tables, node_at}
use Rattle.oat.specs.Types.{structs_of}
use Rattle.oat.specs.Syntax.{Expr, global, size}
use Rattle.oat.specs.Nodes.{DeclStands}
use Rattle.typing_rules.specs.Contexts as Contexts
use Rattle.typing_rules.specs.Contexts.{empty, Entry, find_name, is_miss}
use Rattle.typing_rules.specs.Labels.{Label, unlabelled}
use Rattle.typing_rules.specs.Judge.{ok, Counted, and_then, pairs_after, and_counting, judge, judging}
use Rattle.typing_rules.specs.Steps.{Step, global_value, add_name}
use Rattle.typing_rules.specs.Check.{rows_begin, step_rows, rows_of, next_result, stepping}
use Rattle.file_sections.specs.declared.Sections.{Sections}
use Rattle.file_sections.specs.Layout.{Has, tables_of}
use Rattle.file_sections.specs.Frames.{Same}
use Rattle.file_sections.proofs.LawsRecords.{nodes_long}
use Rattle.file_sections.proofs.LawsFrames.{list_row, list_kept, list_from}
use Rattle.bindings.specs.Bindings.{entry_of, names_of, Some, Bindable, Bound}
use Rattle.bindings.proofs.LawsBindings.{scope_none, names_same, names_declared}
use Rattle.answers.specs.declared.answer.Judgement.TheVariants.{Typed, Refused}
use Rattle.answers.specs.declared.answer.Judged.{Judged}
use Rattle.answers.specs.Answers.{with_row}
use Rattle.expressions.specs.Contract.{context_of, Fine, Typing, Meets, accepts, refuses, Ready, Told}
use Rattle.expressions.proofs.LawsMeets.{pairs_told}
use Rattle.expressions.proofs.LawsAfter.{ready, typing_of, row_other, row-result, row_binder}
use Rattle.expressions.proofs.LawsChild.{child_within, child_fine}
use Rattle.expressions.proofs.LawsLabels.{expr_long, expr_head}
use Rattle.expressions.proofs.LawsShape.{size_one}
use Rattle.steps.specs.declared.context.Context.{Context}
use Rattle.steps.specs.declared.context.Refusal.{Refusal}
use Rattle.steps.specs.Contract.{context_at, with_name, summing, Refusing, refusal_at, Accepted, Stepping, Newness, ReadyGlobal, ToldGlobal}
use Rattle.steps.proofs.LawsStepping.{accepts_with, stepping_more, stops, passes, hands_up, whole_context}
use Rattle.steps.proofs.LawsRows.{rows_count, rows_list}

-- the refusal after a sum of pairs
pub refused_after : (c : Context) {d : Context} {k p q : ℕ} {y : Refusal} → d ≡ summing k c → y ≡ refusal_at d p q
    → ◌≡◌ {A = Result Context Refusal} (Err y) (Err (refusal_at (summing k c) p q))
refused_after c {p = p} {q = q} ed ey = ap Err (ey ∙ ap (λ x. refusal_at x p q) ed)

entry_is : {t n x y : ℕ} {b : Bool} {l k : List (Entry ℕ)} → x ≡ y → b ≡ true → l ≡ k
    → ◌≡◌ {A = List (Entry ℕ)} (record { name = x; type = t; binder = n; assignable = b } ∷ l) (record { name = y; type = t; binder = n; assignable = true } ∷ k)
entry_is p q e = rw (p, q, e)

module _ {F : List ℕ} {S : Sections} {X R W K : List ℕ} {c : Context} {n : ℕ} (g : ReadyGlobal F S X R W K c n) where
  -- for `expression`, `node_x` and `with_name`
  pub global_first : Ready F S X R W K c.names (n + 1) c.names c.pairs
  global_first =
      ready (n + 1) g.initializer
      (record {
        good_tables = g.held.good_tables;
        indexed = g.held.indexed;
        rows_long = g.rows_long;
        scoped = g.held.scoped;
        low = g.low;
        above = omega arith;
      }) g.stands.2 g.room g.sums

  there : n < S.nodes
  there = subst (λ k. n < k) (nodes_long F S) g.stands.0.within

  pub global_node : Has F S n S.nodes
  global_node = record { laid = g.held.good_tables.laid; within = there }

  pub global_counts : (c.names < 65536) × (c.steps < 65536)
  global_counts = let laid = g.held.good_tables.laid in (omega (arith, g.held.scoped.high, laid.nodes_most, laid.built_ins_most), g.whole.few)

  module _ {R₁ W₁ K₁ : List ℕ} {r₁ : Judged} (m₁ : Told F S X R W c.names (n + 1) c.names c.pairs R₁ W₁ K₁ r₁) where
    -- the initializer in the context of the step, in no scope
    abbrev Initial : Expr → Counted ℕ → Type 0
    Initial a x = Meets (Typing F S X c.names (n + 1) (size a) c.names R W R₁ W₁ K₁ r₁) r₁ c.pairs x.out x.pairs

    judged : (a : Expr) (x : ℕ) → DeclStands (tables_of F S) n (global x a) → Initial a (judging (tables_of F S) (context_at (tables_of F S) W c) a (n + 1) empty)
    judged a x h =
        subst (λ C. Initial a (judging (tables_of F S) C a (n + 1) empty)) (sym (whole_context F S W c g.whole))
        (subst (λ Γ. Initial a (judging (tables_of F S) (context_of (tables_of F S) W c.names) a (n + 1) Γ)) (scope_none (tables_of F S) W c.names) (m₁.tells a h.2))

    pub global_no : {p q : ℕ} {d : Context} {y : Refusal} → r₁.judgement ≡ Refused p q → d ≡ summing r₁.at.pairs c → y ≡ refusal_at d p q
        → ToldGlobal F S X R W c n R₁ W₁ K₁ (Err y)
    unfolding stepping
    global_no {p} {q} j ed ey = record {
      tells = λ x a h. hands_up _ _ _ (λ t L d. let z : ◌≡◌ {A = ℕ} 0 1 = cc in omega arith) p q j (refused_after c ed ey) (judged a x h);
    }

    -- an initializer that isn't typed is refused
    pub global_refused : ((t : ℕ) → r₁.judgement ≡ Typed t → ⊥) → Refusing r₁.judgement
    global_refused u = go (judged g.initializer g.name g.stands)
      where
        go : {x : Counted ℕ} → Initial g.initializer x → Refusing r₁.judgement
        go (accepts t L k p e) = absurd (u t p.typed)
        go (refuses p q k e) = record { number = p; place = q; is = e.judged }

    module _ {t : ℕ} (y₁ : r₁.judgement ≡ Typed t) where
      fine_now : Fine F S X R₁ W₁ K₁ c.names c.names
      fine_now = child_fine global_first m₁ y₁

      -- for `is_new`, `bind` and `row`
      pub global_some : Some F S W₁ K₁
      global_some = record { height = c.names; scoped = fine_now.scoped }

      pub global_bindable : Bindable F S W₁ K₁ c.names n t
      global_bindable = record {
        scoped = fine_now.scoped;
        low = g.low;
        room = omega (arith, g.room, size_one g.initializer);
        node_there = there;
        type_there = child_within global_first m₁ y₁;
      }

      pub global_fits : (n * 2 + 1 < length R₁) × (n < 65536) × (t < 65536) × (65535 < 65536)
      global_fits =
          let laid = g.held.good_tables.laid in
          (omega (arith, fine_now.rows_long, there), omega (arith, there, laid.nodes_most), omega (arith, child_within global_first m₁ y₁, laid.types_most), omega arith)

      -- an accepted initializer
      accepted : (x : ℕ) (a : Expr) → DeclStands (tables_of F S) n (global x a) → {s : Step} {R' W' K' : List ℕ} {r : Result Context Refusal}
          → (k : ℕ → List (Label ℕ) → Counted (Contexts.Context ℕ))
          → ((L : List (Label ℕ)) → judge (tables_of F S) (context_at (tables_of F S) W c) a (n + 1) empty ≡ ok t L → Typing F S X c.names (n + 1) (size a) c.names R W R₁ W₁ K₁ r₁ t L
          → Stepping F S X c s R R' W' K' r r₁.at.pairs (k t L).out (k t L).pairs)
          → Stepping F S X c s R R' W' K' r c.pairs
          (and_counting (judging (tables_of F S) (context_at (tables_of F S) W c) a (n + 1) empty) k).out
          (and_counting (judging (tables_of F S) (context_at (tables_of F S) W c) a (n + 1) empty) k).pairs
      accepted x a h {s} {R'} {W'} {K'} {r} k f =
          let i : ℕ = (judging (tables_of F S) (context_at (tables_of F S) W c) a (n + 1) empty).pairs in
          let (L, q, p) = typing_of _ (judged a x h) y₁ in
          subst (λ o. Stepping F S X c s R R' W' K' r c.pairs (and_then o λ t L. (k t L).out) (i + pairs_after o λ t L. (k t L).pairs)) (sym q)
          (stepping_more i (pairs_told (judged a x h)) (f L q p))

      -- its row over its initializer's
      written : (x : ℕ) (a : Expr) → DeclStands (tables_of F S) n (global x a) → (L : List (Label ℕ)) → judge (tables_of F S) (context_at (tables_of F S) W c) a (n + 1) empty ≡ ok t L
          → Typing F S X c.names (n + 1) (size a) c.names R W R₁ W₁ K₁ r₁ t L → {W₂ K₂ : List ℕ} → Bound F S W₁ K₁ c.names n t W₂ K₂
          → Accepted F S X c (global_value n x a) R (with_row R₁ n t 65535) W₂ K₂ (add_name (context_at (tables_of F S) W c) x t n true) (unlabelled ∷ L)
      unfolding step_rows rows_begin rows_of
      written x a h L q p {W₂} {K₂} b =
          let T : Tables = tables_of F S in
          let R₂ : List ℕ = with_row R₁ n t 65535 in
          let long : length L ≡ size a = expr_long T (context_at T W c) a (n + 1) empty t L q in
          let head : next_result L ≡ t = ap next_result (sym (append-nil L)) ∙ expr_head T (context_at T W c) a (n + 1) empty t L q [] in
          let wide : n * 2 + 1 < length R₁ = omega (arith, fine_now.rows_long, there) in
          record {
            held = record { good_tables = g.held.good_tables; indexed = g.held.indexed; scoped = b.scoped };
            made = ap (λ l. record { structs = structs_of T c.structs; names = l })
                (names_declared b g.low ∙ entry_is h.0.x_is (eq-eqb _ _ h.0.kind_is) (names_same T c.names p.after.same c.names (omega arith)));
            long = let all = rows_count L in omega (arith, all, long);
            rows = list_row R₂ (n * 2) (next_result L) 65535 (rows_of L) (row-result R₁ n t 65535 wide ∙ sym head) (row_binder R₁ n t 65535 wide)
                (list_from R₂ ((n + 1) * 2) (n * 2 + 2) (rows_of L) (omega arith)
                (list_kept R₁ R₂ ((n + 1) * 2) (rows_of L) (λ j i k. row_other R₁ n t 65535 j (λ e. omega arith) (λ e. omega arith)) (rows_list R₁ (n + 1) L p.after.rows)));
            kept = record {
              before = λ j i. row_other R₁ n t 65535 j (λ e. omega arith) (λ e. omega arith) ∙ p.after.kept.before j (omega arith);
              after = λ j i. row_other R₁ n t 65535 j (λ e. omega arith) (λ e. omega arith) ∙ p.after.kept.after j (omega arith);
            };
          }

      module _ {x₁ : ℕ} {b₁ : Bool} (ex : x₁ ≡ (node_at (tables_of F S) n).x) (new : Newness F S W₁ K₁ x₁ b₁) where
        new_is : (x : ℕ) → (node_at (tables_of F S) n).x ≡ x → Same (entry_of (tables_of F S) c.names) W W₁ → is_miss (find_name x (names_of (tables_of F S) W c.names)) ≡ b₁
        new_is x e a =
            sym (new.tells c.names fine_now.scoped
            ∙ ap (λ l. is_miss (find_name x₁ l)) (names_same (tables_of F S) c.names a c.names (omega arith))
            ∙ ap (λ i. is_miss (find_name i (names_of (tables_of F S) W c.names))) (ex ∙ e))

        pub global_taken : {d : Context} {y : Refusal} → not b₁ ≡ true → d ≡ summing r₁.at.pairs c → y ≡ refusal_at d 7 n → ToldGlobal F S X R W c n R₁ W₁ K₁ (Err y)
        unfolding stepping
        global_taken f ed ey =
            record {
              tells = λ x a h.
                  accepted x a h _ λ L q p.
                  stops _ 7 n _ _ (new_is x h.0.x_is p.after.same ∙ not-true b₁ f) (refused_after c ed ey);
            }

        pub global_ok : {W₂ K₂ R' : List ℕ} {d e : Context} → not b₁ ≡ false → Bound F S W₁ K₁ c.names n t W₂ K₂ → R' ≡ with_row R₁ n t 65535 → d ≡ summing r₁.at.pairs c
            → e ≡ with_name d → ToldGlobal F S X R W c n R' W₂ K₂ (Ok e)
        unfolding stepping
        global_ok {W₂} {K₂} {R'} f b e_r ed ee =
            record {
              tells = λ x a h.
                  accepted x a h _ λ L q p.
                  passes _ 7 n _ (new_is x h.0.x_is p.after.same ∙ not-false b₁ f)
                  (accepts_with _ _ r₁.at.pairs 0 (omega arith) (ap Ok (ee ∙ ap with_name ed))
                  (subst (λ Q. Accepted F S X c (global_value n x a) R Q W₂ K₂ (add_name (context_at (tables_of F S) W c) x t n true) (unlabelled ∷ L)) (sym e_r) (written x a h L q p b)));
            }
