-- The loop over the vars of a for: what holds after i of them, and the answers of its returns. Assumes nothing.
use mathlib.Core.Path.{◌≡◌, refl, ap, sym, subst, ◌∙◌}
use mathlib.Core.Bool.{Bool, true, false}
use mathlib.Core.List.{List, [], ◌++◌, append-nil}
use Prim.Native.Nat.{ℕ, ◌+◌, ◌*◌, ◌≤◌, ◌<◌}
use native.Mathlib.Omega.{arith}
use lib.ListN.{length, length-append}
use Rattle.oat.specs.Basics.{pick}
use Rattle.oat.specs.Tables.{Tables, node_at}
use Rattle.oat.specs.Syntax.{Expr, size, Vars, no_var, next_var, size_vars, count_vars, var, size_stmt}
use Rattle.oat.specs.Nodes.{VarsStand, StmtStands}
use Rattle.typing_rules.specs.Contexts.{Scope, binds, is_fresh, Context}
use Rattle.typing_rules.specs.Labels.{Label}
use Rattle.typing_rules.specs.Judge.{Out, ok, no, Counted, and_then, needs, pairs_after, ends, judge, judging, Done, execute_vars, execute, executing, executing_vars}
use Rattle.typing_rules.proofs.LawsPairs.{stmt_pairs}
use Rattle.typing_rules.proofs.LawsOutcome.{ok_is, then_ok, needs_ok, then_needs, after_run, run_none, run_more}
use Rattle.file_sections.specs.declared.Sections.{Sections}
use Rattle.file_sections.specs.Layout.{tables_of}
use Rattle.file_sections.specs.Frames.{Same}
use Rattle.file_sections.proofs.LawsRecords.{nodes_long}
use Rattle.type_index.specs.Index.{declared}
use Rattle.bindings.specs.Bindings.{entry_of, Holds}
use Rattle.bindings.proofs.LawsBindings.{names_same, holds_some}
use Rattle.answers.specs.declared.answer.Judgement.TheVariants.{GoesOn}
use Rattle.answers.specs.declared.answer.Judged.{Judged}
use Rattle.answers.specs.Answers.{AnswerIs}
use Rattle.expressions.specs.Contract.{context_of, After, Meets, accepts, refuses, Few}
use Rattle.expressions.proofs.LawsMeets.{Unlisted, goes_unrefused, pairs_told, refuses_with, part_of}
use Rattle.expressions.proofs.LawsChild.{few_parts_in}
use Rattle.expressions.proofs.LawsList.{no_more}
use Rattle.expressions.proofs.LawsAfter.{after_none}
use Rattle.expressions.proofs.LawsLabels.{Closed, closed_none, closed_append}
use Rattle.simple_statements.specs.Contract.{marked, Marking, Declaring, ReadyStmt, stmt_in, ToldVar, vars_in, ReadyVars, ToldVars}
use Rattle.simple_statements.proofs.LawsLabels.{stmt_long, stmt_closed}
use Rattle.simple_statements.proofs.LawsMarks.{after_both}

-- vars after a first one
vars_next : (T : Tables) (C : Context ℕ) (rt x : ℕ) (a : Expr) (vs : Vars) (n : ℕ) (Γ : Scope ℕ)
    → execute_vars T C (next_var x a vs) n Γ
    ≡ and_then (execute T C rt false (var x a) n Γ) λ d L. after_run L (execute_vars T C vs (n + 1 + size a) d.scope)
unfolding executing_vars executing
vars_next T C rt x a vs n Γ =
    sym (then_needs (judge T C a (n + 1) Γ) (λ t. is_fresh x Γ) 7 n (λ t L. ends 0 Γ (binds Γ x t n) L)
    (λ d L. after_run L (execute_vars T C vs (n + 1 + size a) d.scope)))

-- and their pairs
vars_sum : (T : Tables) (C : Context ℕ) (rt x : ℕ) (a : Expr) (vs : Vars) (n : ℕ) (Γ : Scope ℕ)
    → (executing_vars T C (next_var x a vs) n Γ).pairs
    ≡ (executing T C rt false (var x a) n Γ).pairs + pairs_after (execute T C rt false (var x a) n Γ) (λ d L. (executing_vars T C vs (n + 1 + size a) d.scope).pairs)
unfolding executing_vars executing
vars_sum T C rt x a vs n Γ = go (judge T C a (n + 1) Γ) (is_fresh x Γ)
  where
    next : ℕ → Counted (Scope ℕ)
    next t = executing_vars T C vs (n + 1 + size a) (binds Γ x t n)

    go : (o : Out ℕ) (b : Bool)
        → (judging T C a (n + 1) Γ).pairs + pairs_after o (λ t L. pick b ((next t).pairs + pairs_after (next t).out (λ Δ M. 0)) 0)
        ≡ (judging T C a (n + 1) Γ).pairs + pairs_after o (λ t L. pick b 0 0) + pairs_after (and_then o λ t L. needs b 7 n (ends 0 Γ (binds Γ x t n) L)) (λ d L. (executing_vars T C vs (n + 1 + size a) d.scope).pairs)
    go (ok t L) true = omega (arith, no_more (next t).out)
    go (ok t L) false = omega arith
    go (no p q) b = omega arith

-- a var goes on
var_mark : (T : Tables) (C : Context ℕ) (rt x : ℕ) (a : Expr) (n : ℕ) (Γ : Scope ℕ) (d : Done) (L : List (Label ℕ)) → execute T C rt false (var x a) n Γ ≡ ok d L → d.mark ≡ 0
unfolding executing
var_mark T C rt x a n Γ d L j =
    then_ok (judge T C a (n + 1) Γ) _ j λ t M i k.
    needs_ok (is_fresh x Γ) _ _ _ k λ q k₁.
    ok_is (λ d L. d.mark ≡ 0) k₁ refl

module _ {F : List ℕ} {S : Sections} {X : List ℕ} {base start n k s : ℕ} {R W R₁ W₁ K₁ : List ℕ} {r : Judged} where
  -- a statement that is accepted goes on: one that does not is refused
  marking_no : {A D : Type 0} {Q : D → List (Label ℕ) → Type 0} {π i : ℕ} (l : ℕ) (o : Out Done) (f : Done → List (Label ℕ) → Out A) (m : Done → List (Label ℕ) → ℕ) (e : A → List (Label ℕ) → Out D)
      → ((d : Done) (L : List (Label ℕ)) → o ≡ ok d L → d.mark ≡ 0)
      → Unlisted r → {h : ℕ} → h ≡ π + l → Meets (Marking F S X base start n k s R W R₁ W₁ K₁ r) r h o i → Meets Q r π (and_then (and_then o f) e) (l + (i + pairs_after o m))
  marking_no l o f m e h u z (accepts d L i p j) = absurd (u.never (p.mark ∙ ap marked (h d L refl)))
  marking_no l o f m e h u z (refuses p q i g) = refuses_with p q (l + (i + 0)) g (omega arith)

-- vars of which there is one; of which there is none
on_some : (P : Vars → Type 0) → ((x : ℕ) (a : Expr) (vs : Vars) → P (next_var x a vs)) → (vs : Vars) → 1 ≤ count_vars vs → P vs
on_some P f no_var h = absurd (omega arith)
on_some P f (next_var x a vs) h = f x a vs

on_none : (P : Vars → Type 0) → P no_var → (vs : Vars) → count_vars vs ≤ 0 → P vs
on_none P f no_var h = f
on_none P f (next_var x a vs) h = absurd (omega arith)

-- the first i vars of vs, which stand at n in the scope Γ, are accepted, up to a scope of the height h; the others stand at m, where l pairs
-- are compared
pub record PrefixVars (F : List ℕ) (S : Sections) (X : List ℕ) (base start n s π : ℕ) (R W : List ℕ) (left m h l i : ℕ) (R₁ W₁ K₁ : List ℕ) (vs : Vars) (Γ : Scope ℕ) : Type 0 where
  pub labels : List (Label ℕ)
  pub rest : Vars
  pub stand : VarsStand (tables_of F S) m rest
  pub counted : count_vars rest + i ≡ left
  pub reached : m ≡ n + length labels
  pub closed : Closed labels
  pub sized : size_vars vs ≡ length labels + size_vars rest
  pub low : s ≤ h
  pub high : h ≤ s + length labels
  pub after : After F S X base labels n (length labels) s h R W R₁ W₁ K₁
  pub scope : Scope ℕ
  pub held : Holds (tables_of F S) W₁ base start h scope
  pub executed : (vars_in F S W base vs n Γ).out ≡ after_run labels (vars_in F S W base rest m scope).out
  pub spent : ℕ
  pub sum : (vars_in F S W base vs n Γ).pairs ≡ spent + (vars_in F S W base rest m scope).pairs
  pub here : l ≡ π + spent
  pub fewer : spent ≤ 1200 * length labels

pub record WalkedVars (F : List ℕ) (S : Sections) (X : List ℕ) (base start n s π : ℕ) (R W : List ℕ) (left m h l i : ℕ) (R₁ W₁ K₁ : List ℕ) : Type 0 where
  pub part : (vs : Vars) → VarsStand (tables_of F S) n vs → count_vars vs ≡ left → (Γ : Scope ℕ) → Holds (tables_of F S) W base start s Γ
      → PrefixVars F S X base start n s π R W left m h l i R₁ W₁ K₁ vs Γ

-- a later var sees the names before
retell_var : {F : List ℕ} {S : Sections} {X W R₁ W₁ R₂ W₂ K₂ : List ℕ} {base start m s h π : ℕ} {r : Judged} → Same (entry_of (tables_of F S) s) W W₁ → base ≤ s
    → ToldVar F S X R₁ W₁ base start m h π R₂ W₂ K₂ r → (x : ℕ) (a : Expr) → StmtStands (tables_of F S) m (var x a) → (Γ : Scope ℕ) → Holds (tables_of F S) W₁ base start h Γ
    → Meets (Marking F S X base start m (size_stmt (var x a)) h R₁ W₁ R₂ W₂ K₂ r) r π (stmt_in F S W base 0 false (var x a) m Γ).out (stmt_in F S W base 0 false (var x a) m Γ).pairs
retell_var {F} {S} {X} {W} {R₁} {W₁} {R₂} {W₂} {K₂} {base} {start} {m} {s} {h} {π} {r} e l told x a st Γ d =
    subst (λ N. Answered (executing (tables_of F S) (record { structs = declared (tables_of F S); names = N }) 0 false (var x a) m Γ))
    (names_same (tables_of F S) s e base l) (told.tells 0 false (var x a) st Γ d)
  where
    Answered : Counted Done → Type 0
    Answered c = Meets (Marking F S X base start m (size_stmt (var x a)) h R₁ W₁ R₂ W₂ K₂ r) r π c.out c.pairs

module _ {F : List ℕ} {S : Sections} {X R W : List ℕ} {base start n s π left m h l i : ℕ} {R₁ W₁ K₁ : List ℕ} {vs : Vars} {Γ : Scope ℕ}
    (p : PrefixVars F S X base start n s π R W left m h l i R₁ W₁ K₁ vs Γ) where
  -- one more var
  part_more : {R₂ W₂ K₂ : List ℕ} {r : Judged} (x : ℕ) (a : Expr) (rs : Vars) → VarsStand (tables_of F S) m (next_var x a rs) → count_vars (next_var x a rs) + i ≡ left
      → size_vars vs ≡ length p.labels + size_vars (next_var x a rs)
      → (vars_in F S W base vs n Γ).out ≡ after_run p.labels (vars_in F S W base (next_var x a rs) m p.scope).out
      → (vars_in F S W base vs n Γ).pairs ≡ p.spent + (vars_in F S W base (next_var x a rs) m p.scope).pairs
      → (d : Done) (M : List (Label ℕ)) → (stmt_in F S W base 0 false (var x a) m p.scope).out ≡ ok d M
      → Marking F S X base start m (size_stmt (var x a)) h R₁ W₁ R₂ W₂ K₂ r d M
      → r.at.pairs ≡ l + (stmt_in F S W base 0 false (var x a) m p.scope).pairs
      → PrefixVars F S X base start n s π R W left r.at.node r.at.scope r.at.pairs (i + 1) R₂ W₂ K₂ vs Γ
  part_more {R₂} {W₂} {K₂} {r} x a rs st c z j sm d M q v pr =
      let T : Tables = tables_of F S in
      let C : Context ℕ = context_of (tables_of F S) W base in
      let long : length M ≡ size_stmt (var x a) = stmt_long T C 0 false (var x a) m p.scope d M q in
      let both : length (p.labels ++ M) ≡ length p.labels + size_stmt (var x a) = length-append p.labels M ∙ ap (λ k. length p.labels + k) long in
      let there : m + 1 + size a ≡ r.at.node = omega (arith, v.next) in
      record {
        labels = p.labels ++ M;
        rest = rs;
        stand = subst (λ k. VarsStand T k rs) there st.2;
        counted = omega arith;
        reached = omega (arith, v.next, p.reached, both);
        closed = closed_append p.closed (stmt_closed T C 0 false (var x a) m p.scope d M q);
        sized = omega (arith, z, both);
        low = omega (arith, p.low, v.low);
        high = omega (arith, p.high, v.high, both);
        after = subst (λ k. After F S X base (p.labels ++ M) n k s r.at.scope R W R₂ W₂ K₂) (sym both)
            (after_both refl p.closed p.low p.after (subst (λ k. After F S X base M k (size_stmt (var x a)) h r.at.scope R₁ W₁ R₂ W₂ K₂) p.reached v.after));
        scope = d.scope;
        held = v.scope;
        executed = j
            ∙ ap (after_run p.labels) (vars_next T C 0 x a rs m p.scope
            ∙ ap (λ o. and_then o λ e L. after_run L (execute_vars T C rs (m + 1 + size a) e.scope)) q)
            ∙ run_more p.labels M (execute_vars T C rs (m + 1 + size a) d.scope)
            ∙ ap (λ k. after_run (p.labels ++ M) (execute_vars T C rs k d.scope)) there;
        spent = p.spent + (stmt_in F S W base 0 false (var x a) m p.scope).pairs;
        sum = sm
            ∙ ap (λ k. p.spent + k) (vars_sum T C 0 x a rs m p.scope
            ∙ ap (λ o. (stmt_in F S W base 0 false (var x a) m p.scope).pairs + pairs_after o λ e L. (executing_vars T C rs (m + 1 + size a) e.scope).pairs) q
            ∙ ap (λ k. (stmt_in F S W base 0 false (var x a) m p.scope).pairs + (executing_vars T C rs k d.scope).pairs) there)
            ∙ omega arith;
        here = omega (arith, pr, p.here);
        fewer = omega (arith, p.fewer, both, stmt_pairs (few_parts_in p.after.fine.good_tables W base) 0 false (var x a) m p.scope);
      }

  module _ (done : left ≤ i) where
    -- no var is left
    all_executed : (vars_in F S W base vs n Γ).out ≡ ok p.scope p.labels
    unfolding executing_vars
    all_executed = p.executed ∙
        on_none (λ rs. after_run p.labels (vars_in F S W base rs m p.scope).out ≡ ok p.scope p.labels)
        (cc (append-nil p.labels)) p.rest (omega (arith, p.counted))

    all_spent : l ≡ π + (vars_in F S W base vs n Γ).pairs
    unfolding executing_vars
    all_spent = omega (arith, p.here, p.sum, on_none (λ rs. (vars_in F S W base rs m p.scope).pairs ≡ 0) refl p.rest (omega (arith, p.counted)))

    all_sized : size_vars vs ≡ length p.labels
    all_sized = p.sized ∙ on_none (λ rs. length p.labels + size_vars rs ≡ length p.labels) (omega arith) p.rest (omega (arith, p.counted))

    part_declared : {r : Judged} → AnswerIs GoesOn m h l r
        → Declaring F S X base start n (size_vars vs) s R W R₁ W₁ K₁ r p.scope p.labels
    part_declared {r} e =
        let eh : r.at.scope ≡ h = e.scope in
        record {
          goes_on = e.judged;
          next = e.next ∙ omega (arith, p.reached, all_sized);
          scope = subst (λ k. Holds (tables_of F S) W₁ base start k p.scope) (sym eh) p.held;
          low = omega (arith, eh, p.low);
          high = omega (arith, eh, p.high, all_sized);
          after = subst (λ k. After F S X base p.labels n (size_vars vs) s k R W R₁ W₁ K₁) (sym eh)
              (subst (λ k. After F S X base p.labels n k s h R W R₁ W₁ K₁) (sym all_sized) p.after);
        }

module _ {F : List ℕ} {S : Sections} {X R W K : List ℕ} {base start n s π left : ℕ} (g : ReadyVars F S X R W K base start n s π left) where
  pub vars_start : WalkedVars F S X base start n s π R W left n s π 0 R W K
  vars_start =
      record {
        part = λ vs h c Γ d. record {
          labels = [];
          rest = vs;
          stand = h;
          counted = omega arith;
          reached = omega arith;
          closed = closed_none;
          sized = omega arith;
          low = omega arith;
          high = omega arith;
          after = after_none n g.fine;
          scope = Γ;
          held = d;
          executed = run_none _;
          spent = 0;
          sum = omega arith;
          here = omega arith;
          fewer = omega arith;
        };
      }

  module _ {m h l i : ℕ} {R₁ W₁ K₁ : List ℕ} (w : WalkedVars F S X base start n s π R W left m h l i R₁ W₁ K₁) where
    some_scope : (Γ : Scope ℕ) × Holds (tables_of F S) W base start s Γ
    some_scope = holds_some (tables_of F S) W base start s g.begins.0 g.begins.1

    so_far : PrefixVars F S X base start n s π R W left m h l i R₁ W₁ K₁ g.vars some_scope.0
    so_far = w.part g.vars g.stand g.counted some_scope.0 some_scope.1

    module _ (more : i < left) where
      pub vars_kind : (node_at (tables_of F S) m).kind ≡ 31
      vars_kind =
          on_some (λ vs. VarsStand (tables_of F S) m vs → (node_at (tables_of F S) m).kind ≡ 31) (λ x a vs st. st.0.kind_is)
          so_far.rest (omega (arith, so_far.counted, more)) so_far.stand

      pub vars_ready : ReadyStmt F S X R₁ W₁ K₁ base m h l
      vars_ready =
          on_some (λ vs. VarsStand (tables_of F S) m vs → h + size_vars vs ≤ S.built_ins + S.nodes → Few l (size_vars vs) → ReadyStmt F S X R₁ W₁ K₁ base m h l)
          (λ x a vs st e w. record {
            fine = so_far.after.fine;
            within = subst (λ k. m < k) (nodes_long F S) st.0.within;
            tree = var x a;
            stands = (st.0, st.1);
            room = omega arith;
            few = omega arith;
          })
          so_far.rest (omega (arith, so_far.counted, more)) so_far.stand (omega (arith, so_far.high, so_far.sized, g.room))
          (omega (arith, so_far.here, so_far.fewer, so_far.sized, g.few))

      module _ {R₂ W₂ K₂ : List ℕ} {r₁ : Judged} (m₁ : ToldVar F S X R₁ W₁ base start m h l R₂ W₂ K₂ r₁) where
        pub vars_no : Unlisted r₁ → ToldVars F S X R W base start n s π left R₂ W₂ K₂ r₁
        vars_no u = record { tells = λ vs st c Γ d. go vs Γ (w.part vs st c Γ d) }
          where
            -- the answer to the vars, from their outcome
            Declared : Vars → Out (Scope ℕ) → ℕ → Type 0
            Declared vs o k = Meets (Declaring F S X base start n (size_vars vs) s R W R₂ W₂ K₂ r₁) r₁ π o k

            go : (vs : Vars) (Γ : Scope ℕ) → PrefixVars F S X base start n s π R W left m h l i R₁ W₁ K₁ vs Γ → Declared vs (vars_in F S W base vs n Γ).out (vars_in F S W base vs n Γ).pairs
            go vs Γ p =
                subst (λ o. Declared vs o (vars_in F S W base vs n Γ).pairs) (sym p.executed)
                (subst (Declared vs (after_run p.labels (vars_in F S W base p.rest m p.scope).out)) (sym p.sum)
                (on_some (λ rs. VarsStand (tables_of F S) m rs → Declared vs (after_run p.labels (vars_in F S W base rs m p.scope).out) (p.spent + (vars_in F S W base rs m p.scope).pairs))
                (λ x a rs st.
                subst (λ o. Declared vs (after_run p.labels o) (p.spent + (vars_in F S W base (next_var x a rs) m p.scope).pairs))
                (sym (vars_next (tables_of F S) (context_of (tables_of F S) W base) 0 x a rs m p.scope))
                (subst (λ k. Declared vs (after_run p.labels (and_then (stmt_in F S W base 0 false (var x a) m p.scope).out λ d L. after_run L (vars_in F S W base rs (m + 1 + size a) d.scope).out)) (p.spent + k))
                (sym (vars_sum (tables_of F S) (context_of (tables_of F S) W base) 0 x a rs m p.scope))
                (marking_no p.spent _ _ _ _ (var_mark (tables_of F S) (context_of (tables_of F S) W base) 0 x a m p.scope) u p.here
                (retell_var p.after.same g.fine.above m₁ x a (st.0, st.1) p.scope p.held))))
                p.rest (omega (arith, p.counted, more)) p.stand))

        pub vars_again : r₁.judgement ≡ GoesOn → WalkedVars F S X base start n s π R W left r₁.at.node r₁.at.scope r₁.at.pairs (i + 1) R₂ W₂ K₂
        vars_again y = record { part = λ vs st c Γ d. go vs Γ (w.part vs st c Γ d) }
          where
            go : (vs : Vars) (Γ : Scope ℕ) → PrefixVars F S X base start n s π R W left m h l i R₁ W₁ K₁ vs Γ → PrefixVars F S X base start n s π R W left r₁.at.node r₁.at.scope r₁.at.pairs (i + 1) R₂ W₂ K₂ vs Γ
            go vs Γ p =
                on_some
                (λ rs. VarsStand (tables_of F S) m rs → count_vars rs + i ≡ left → size_vars vs ≡ length p.labels + size_vars rs
                → (vars_in F S W base vs n Γ).out ≡ after_run p.labels (vars_in F S W base rs m p.scope).out
                → (vars_in F S W base vs n Γ).pairs ≡ p.spent + (vars_in F S W base rs m p.scope).pairs
                → PrefixVars F S X base start n s π R W left r₁.at.node r₁.at.scope r₁.at.pairs (i + 1) R₂ W₂ K₂ vs Γ)
                (λ x a rs st c z j sm.
                let o = retell_var p.after.same g.fine.above m₁ x a (st.0, st.1) p.scope p.held in
                let (d, M, q, v) = part_of _ o (goes_unrefused y) in
                part_more p x a rs st c z j sm d M q v (pairs_told o))
                p.rest (omega (arith, p.counted, more)) p.stand p.counted p.sized p.executed p.sum

    pub vars_done : left ≤ i → {r : Judged} → AnswerIs GoesOn m h l r → ToldVars F S X R W base start n s π left R₁ W₁ K₁ r
    vars_done done {r} e =
        record {
          tells = λ vs st c Γ d.
              let p = w.part vs st c Γ d in
              subst (λ o. Meets (Declaring F S X base start n (size_vars vs) s R W R₁ W₁ K₁ r) r π o (vars_in F S W base vs n Γ).pairs) (sym (all_executed p done))
              (accepts _ _ _ (part_declared p done e) (e.sum ∙ all_spent p done));
        }
