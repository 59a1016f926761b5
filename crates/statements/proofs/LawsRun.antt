-- The loop over the statements of a block: what holds after i of them, and the answers of its returns. Assumes nothing.
use mathlib.Core.Path.{◌≡◌, refl, ap, sym, subst, subst₂, ◌∙◌}
use mathlib.Core.List.{List, [], ◌++◌, append-nil}
use Prim.Native.Nat.{ℕ, ◌+◌, ◌*◌, ◌≤◌, ◌<◌}
use native.Mathlib.Omega.{arith}
use lib.ListN.{length, length-append}
use lib.Dec.{eqb}
use borrow.Author.Tests.{eq-eqb, ne_eqb}
use Rattle.oat.specs.Tables.{Tables}
use Rattle.oat.specs.Syntax.{Stmt, Stmts, empty, then, size_stmt, size_stmts, count_stmts}
use Rattle.oat.specs.Nodes.{StmtsStand}
use Rattle.typing_rules.specs.Contexts.{Scope, Context}
use Rattle.typing_rules.specs.Labels.{Label}
use Rattle.typing_rules.specs.Derivations.{is_empty}
use Rattle.typing_rules.specs.Judge.{Out, ok, no, Counted, Done, execute, executing, execute_all, executing_all}
use Rattle.typing_rules.proofs.LawsOutcome.{after_run, run_none, run_more}
use Rattle.typing_rules.proofs.LawsPairs.{stmt_pairs}
use Rattle.file_sections.specs.declared.Sections.{Sections}
use Rattle.file_sections.specs.Layout.{tables_of}
use Rattle.file_sections.proofs.LawsRecords.{nodes_long}
use Rattle.bindings.specs.Bindings.{Scoped, Holds}
use Rattle.bindings.proofs.LawsBindings.{holds_some}
use Rattle.answers.specs.declared.answer.Judgement.TheVariants.{Refused}
use Rattle.answers.specs.declared.answer.Judged.{Judged}
use Rattle.answers.specs.Answers.{Refuses, AnswerIs}
use Rattle.expressions.specs.Contract.{context_of, Fine, After, Meets, accepts, refuses, Few}
use Rattle.expressions.proofs.LawsMeets.{Unrefused, pairs_told, refuses_with, part_of}
use Rattle.expressions.proofs.LawsChild.{few_parts_in}
use Rattle.expressions.proofs.LawsList.{no_more}
use Rattle.expressions.proofs.LawsAfter.{after_none}
use Rattle.expressions.proofs.LawsLabels.{Closed, closed_none, closed_append}
use Rattle.simple_statements.specs.Contract.{mark_of, marked, Marking, stmt_in, ReadyStmt, ToldStmt}
use Rattle.simple_statements.proofs.LawsLabels.{stmt_long, stmt_closed, stmt_mark, stmt_within}
use Rattle.simple_statements.proofs.LawsMarks.{after_both}
use Rattle.statements.specs.Contract.{Running, ReadyStmts, ToldStmts}
use Rattle.statements.proofs.LawsParts.{marked_no, mark_is, retell_stmt}

-- the definition in the context of the buffers before the block
abbrev pub all_in : List ℕ → Sections → List ℕ → (base rt : ℕ) → Stmts → (n previous p : ℕ) → Scope ℕ → Counted ℕ
all_in F S W base rt ss n previous p Γ = executing_all (tables_of F S) (context_of (tables_of F S) W base) rt ss n previous p Γ

-- no statement follows the one after the first i of `left` where i + 1 is `left`
is_last : (i left : ℕ) (z : Stmt) (zs : Stmts) → count_stmts (then z zs) + i ≡ left → eqb (i + 1) left ≡ is_empty zs
is_last i left z empty c = eq-eqb (i + 1) left (omega (arith, c))
is_last i left z (then y ys) c = ne_eqb (i + 1) left (λ e. omega (arith, c, e))

-- statements, of which there is one, or none
on_some : (P : Stmts → Type 0) → ((z : Stmt) (zs : Stmts) → P (then z zs)) → (ss : Stmts) → 1 ≤ count_stmts ss → P ss
on_some P f empty h = absurd (omega arith)
on_some P f (then z zs) h = f z zs

on_none : (P : Stmts → Type 0) → P empty → (ss : Stmts) → count_stmts ss ≤ 0 → P ss
on_none P f empty h = f
on_none P f (then z zs) h = absurd (omega arith)

module _ (T : Tables) (C : Context ℕ) (rt : ℕ) (z : Stmt) (zs : Stmts) (n previous p : ℕ) (Γ : Scope ℕ) where
  -- the first of them comes after one that returns
  all_stops : (p ≡ 0 → ⊥) → (execute_all T C rt (then z zs) n previous p Γ ≡ no 14 previous) × ((executing_all T C rt (then z zs) n previous p Γ).pairs ≡ 0)
  unfolding executing_all
  all_stops f = (rw (ne_eqb p 0 f), rw (ne_eqb p 0 f))

  -- it is refused, and accepted
  all_no : (a b : ℕ) → p ≡ 0 → execute T C rt (is_empty zs) z n Γ ≡ no a b
      → (execute_all T C rt (then z zs) n previous p Γ ≡ no a b) × ((executing_all T C rt (then z zs) n previous p Γ).pairs ≡ (executing T C rt (is_empty zs) z n Γ).pairs)
  unfolding executing_all
  all_no a b e q = (rw (eq-eqb p 0 e, q), rw (eq-eqb p 0 e, q) (omega arith))

  all_ok : (d : Done) (M : List (Label ℕ)) → p ≡ 0 → execute T C rt (is_empty zs) z n Γ ≡ ok d M
      → (execute_all T C rt (then z zs) n previous p Γ ≡ after_run M (execute_all T C rt zs (n + size_stmt z) n d.mark d.scope))
      × ((executing_all T C rt (then z zs) n previous p Γ).pairs ≡ (executing T C rt (is_empty zs) z n Γ).pairs + (executing_all T C rt zs (n + size_stmt z) n d.mark d.scope).pairs)
  unfolding executing_all
  all_ok d M e q = (rw (eq-eqb p 0 e, q), rw (eq-eqb p 0 e, q, no_more (execute_all T C rt zs (n + size_stmt z) n d.mark d.scope)) (omega arith))

-- a refused statement's outcome
refusal-of : {P : Done → List (Label ℕ) → Type 0} {r : Judged} {a b π k : ℕ} (o : Out Done) → Meets P r π o k → r.judgement ≡ Refused a b
    → ((d : Done) (L : List (Label ℕ)) → P d L → r.judgement ≡ marked d.mark) → (p q : ℕ) × (o ≡ no p q) × Refuses r p q (π + k)
refusal-of {a = a} {b = b} o (accepts d L k v s) e f = absurd (marked_no d.mark a b (sym (f d L v) ∙ e))
refusal-of o (refuses p q k s) e f = (p, q, refl, s)

-- the first i statements of ss, which stand at n in the scope Γ, are accepted, the last of them at `previous` with the mark; the others
-- stand at `at`, before which `compared` pairs were compared
pub record RunPart (F : List ℕ) (S : Sections) (X : List ℕ) (base start rt n s π : ℕ) (R W : List ℕ) (left parent at height compared previous mark i : ℕ) (R₁ W₁ K₁ : List ℕ) (ss : Stmts) (Γ : Scope ℕ) : Type 0 where
  pub labels : List (Label ℕ)
  pub spent : ℕ
  pub rest : Stmts
  pub stand : StmtsStand (tables_of F S) at rest
  pub counted : count_stmts rest + i ≡ left
  pub reached : at ≡ n + length labels
  pub closed : Closed labels
  pub sized : size_stmts ss ≡ length labels + size_stmts rest
  pub low : s ≤ height
  pub high : height ≤ s + length labels
  pub small : mark ≤ 1
  pub after : After F S X base labels n (length labels) s height R W R₁ W₁ K₁
  pub scope : Scope ℕ
  pub held : Holds (tables_of F S) W₁ base start height scope
  pub ran : (all_in F S W base rt ss n parent 0 Γ).out ≡ after_run labels (all_in F S W base rt rest at previous mark scope).out
  pub sum : (all_in F S W base rt ss n parent 0 Γ).pairs ≡ spent + (all_in F S W base rt rest at previous mark scope).pairs
  pub here : compared ≡ π + spent
  pub fewer : spent ≤ 1200 * length labels

pub record WalkedStmts (F : List ℕ) (S : Sections) (X : List ℕ) (base start rt n s π : ℕ) (R W : List ℕ) (left parent at height compared previous mark i : ℕ) (R₁ W₁ K₁ : List ℕ) : Type 0 where
  pub part : (ss : Stmts) → StmtsStand (tables_of F S) n ss → count_stmts ss ≡ left → (Γ : Scope ℕ) → Holds (tables_of F S) W base start s Γ
      → RunPart F S X base start rt n s π R W left parent at height compared previous mark i R₁ W₁ K₁ ss Γ

module _ {F : List ℕ} {S : Sections} {X R W : List ℕ} {base start rt n s π left parent at height compared previous mark i : ℕ} {R₁ W₁ K₁ : List ℕ} {ss : Stmts} {Γ : Scope ℕ}
    (p : RunPart F S X base start rt n s π R W left parent at height compared previous mark i R₁ W₁ K₁ ss Γ) where
  -- one more statement
  part_more : {R₂ W₂ K₂ : List ℕ} {r : Judged} {m : ℕ} → mark ≡ 0 → (z : Stmt) (zs : Stmts) → StmtsStand (tables_of F S) at (then z zs) → count_stmts (then z zs) + i ≡ left
      → size_stmts ss ≡ length p.labels + size_stmts (then z zs)
      → (all_in F S W base rt ss n parent 0 Γ).out ≡ after_run p.labels (all_in F S W base rt (then z zs) at previous mark p.scope).out
      → (all_in F S W base rt ss n parent 0 Γ).pairs ≡ p.spent + (all_in F S W base rt (then z zs) at previous mark p.scope).pairs
      → (d : Done) (M : List (Label ℕ)) → (stmt_in F S W base rt (is_empty zs) z at p.scope).out ≡ ok d M
      → Marking F S X base start at (size_stmt z) height R₁ W₁ R₂ W₂ K₂ r d M → r.at.pairs ≡ compared + (stmt_in F S W base rt (is_empty zs) z at p.scope).pairs
      → m ≡ mark_of r.judgement
      → RunPart F S X base start rt n s π R W left parent r.at.node r.at.scope r.at.pairs at m (i + 1) R₂ W₂ K₂ ss Γ
  part_more {R₂} {W₂} {K₂} {r} {m} e0 z zs h c sz j sm d M q v pr em =
      let T : Tables = tables_of F S in
      let C : Context ℕ = context_of (tables_of F S) W base in
      let long : length M ≡ size_stmt z = stmt_long T C rt (is_empty zs) z at p.scope d M q in
      let most : d.mark ≤ 1 = stmt_mark T C rt (is_empty zs) z at p.scope d M q in
      let is : m ≡ d.mark = em ∙ mark_is r.judgement d.mark most v.mark in
      let (one, one-sum) = all_ok T C rt z zs at previous mark p.scope d M e0 q in
      let both : length (p.labels ++ M) ≡ length p.labels + size_stmt z = length-append p.labels M ∙ ap (λ k. length p.labels + k) long in
      record {
        labels = p.labels ++ M;
        spent = p.spent + (stmt_in F S W base rt (is_empty zs) z at p.scope).pairs;
        rest = zs;
        stand = subst (λ k. StmtsStand T k zs) (sym v.next) h.1;
        counted = omega arith;
        reached = omega (arith, v.next, p.reached, both);
        closed = closed_append p.closed (stmt_closed T C rt (is_empty zs) z at p.scope d M q);
        sized = omega (arith, sz, both);
        low = omega (arith, p.low, v.low);
        high = omega (arith, p.high, v.high, both);
        small = omega (arith, is, most);
        after = subst (λ k. After F S X base (p.labels ++ M) n k s r.at.scope R W R₂ W₂ K₂) (sym both)
            (after_both refl p.closed p.low p.after
            (subst (λ k. After F S X base M k (size_stmt z) height r.at.scope R₁ W₁ R₂ W₂ K₂) p.reached v.after));
        scope = d.scope;
        held = v.scope;
        ran = j ∙ ap (after_run p.labels) one
            ∙ run_more p.labels M (execute_all T C rt zs (at + size_stmt z) at d.mark d.scope)
            ∙ ap (λ k. after_run (p.labels ++ M) (execute_all T C rt zs k at d.mark d.scope)) (sym v.next)
            ∙ ap (λ k. after_run (p.labels ++ M) (execute_all T C rt zs r.at.node at k d.scope)) (sym is);
        sum = sm ∙ ap (λ k. p.spent + k) (one-sum
            ∙ ap (λ k. (stmt_in F S W base rt (is_empty zs) z at p.scope).pairs + (executing_all T C rt zs k at d.mark d.scope).pairs) (sym v.next)
            ∙ ap (λ k. (stmt_in F S W base rt (is_empty zs) z at p.scope).pairs + (executing_all T C rt zs r.at.node at k d.scope).pairs) (sym is)) ∙ omega arith;
        here = omega (arith, pr, p.here);
        fewer = omega (arith, p.fewer, both, stmt_pairs (few_parts_in p.after.fine.good_tables W base) rt (is_empty zs) z at p.scope);
      }

  module _ (finished : left ≤ i) where
    -- no statement is left
    all_ran : (all_in F S W base rt ss n parent 0 Γ).out ≡ ok mark p.labels
    unfolding executing_all
    all_ran = p.ran ∙
        on_none (λ zs. after_run p.labels (all_in F S W base rt zs at previous mark p.scope).out ≡ ok mark p.labels)
        (cc (append-nil p.labels)) p.rest (omega (arith, p.counted))

    all_spent : compared ≡ π + (all_in F S W base rt ss n parent 0 Γ).pairs
    unfolding executing_all
    all_spent = omega (arith, p.here, p.sum, on_none (λ zs. (all_in F S W base rt zs at previous mark p.scope).pairs ≡ 0) refl p.rest (omega (arith, p.counted)))

    all_sized : size_stmts ss ≡ length p.labels
    all_sized = p.sized ∙ on_none (λ zs. length p.labels + size_stmts zs ≡ length p.labels) (omega arith) p.rest (omega (arith, p.counted))

    part_running : {r : Judged} → AnswerIs (marked mark) at height compared r
        → Running F S X base n (size_stmts ss) s R W R₁ W₁ K₁ r mark p.labels
    part_running {r} e =
        let eh : r.at.scope ≡ height = e.scope in
        record {
          mark = e.judged;
          next = e.next ∙ omega (arith, p.reached, all_sized);
          low = subst (λ k. s ≤ k) (sym eh) p.low;
          after = subst (λ k. After F S X base p.labels n (size_stmts ss) s k R W R₁ W₁ K₁) (sym eh)
              (subst (λ k. After F S X base p.labels n k s height R W R₁ W₁ K₁) (sym all_sized) p.after);
        }

-- some scope is held before the statements
some_scope : {F : List ℕ} {S : Sections} {X R W K : List ℕ} {base start rt n s π left : ℕ} → ReadyStmts F S X R W K base start rt n s π left
    → (Γ : Scope ℕ) × Holds (tables_of F S) W base start s Γ
some_scope {F} {S} {W = W} {base = base} {start = start} {s = s} g = holds_some (tables_of F S) W base start s g.begins.0 g.begins.1

module _ {F : List ℕ} {S : Sections} {X R W K : List ℕ} {base start rt n s π left parent : ℕ} (g : ReadyStmts F S X R W K base start rt n s π left) where
  pub run_start : WalkedStmts F S X base start rt n s π R W left parent n s π parent 0 0 R W K
  run_start =
      record {
        part = λ ss h c Γ d. record {
          labels = [];
          spent = 0;
          rest = ss;
          stand = h;
          counted = omega arith;
          reached = omega arith;
          closed = closed_none;
          sized = omega arith;
          low = omega arith;
          high = omega arith;
          small = omega arith;
          after = after_none n g.fine;
          scope = Γ;
          held = d;
          ran = run_none _;
          sum = omega arith;
          here = omega arith;
          fewer = omega arith;
        };
      }

  module _ {at height compared previous mark i : ℕ} {R₁ W₁ K₁ : List ℕ} (w : WalkedStmts F S X base start rt n s π R W left parent at height compared previous mark i R₁ W₁ K₁) where
    so_far : RunPart F S X base start rt n s π R W left parent at height compared previous mark i R₁ W₁ K₁ g.trees (some_scope g).0
    so_far = w.part g.trees g.stand g.counted (some_scope g).0 (some_scope g).1

    -- for the measure
    pub run_forward : n ≤ at
    run_forward = omega (arith, so_far.reached)

    module _ (more : i < left) where
      pub run_stops : {r : Judged} → (mark ≡ 0 → ⊥) → Refuses r 14 previous compared → ToldStmts F S X R W base start rt n s π left parent R₁ W₁ K₁ r
      run_stops {r} f e = record { tells = λ ss h c Γ d. go ss Γ (w.part ss h c Γ d) }
        where
          go : (ss : Stmts) (Γ : Scope ℕ) → RunPart F S X base start rt n s π R W left parent at height compared previous mark i R₁ W₁ K₁ ss Γ
              → Meets (Running F S X base n (size_stmts ss) s R W R₁ W₁ K₁ r) r π (all_in F S W base rt ss n parent 0 Γ).out (all_in F S W base rt ss n parent 0 Γ).pairs
          go ss Γ p =
              let (stops, none) =
              on_some (λ zs. ((all_in F S W base rt zs at previous mark p.scope).out ≡ no 14 previous) × ((all_in F S W base rt zs at previous mark p.scope).pairs ≡ 0))
              (λ z zs. all_stops (tables_of F S) (context_of (tables_of F S) W base) rt z zs at previous mark p.scope f)
              p.rest (omega (arith, p.counted, more)) in
              subst (λ o. Meets (Running F S X base n (size_stmts ss) s R W R₁ W₁ K₁ r) r π o (all_in F S W base rt ss n parent 0 Γ).pairs)
              (sym (p.ran ∙ ap (after_run p.labels) stops))
              (refuses_with 14 previous (all_in F S W base rt ss n parent 0 Γ).pairs e (omega (arith, p.here, p.sum, none)))

      pub run_ready : ReadyStmt F S X R₁ W₁ K₁ base at height compared
      run_ready =
          on_some (λ zs. StmtsStand (tables_of F S) at zs → height + size_stmts zs ≤ S.built_ins + S.nodes → Few compared (size_stmts zs) → ReadyStmt F S X R₁ W₁ K₁ base at height compared)
          (λ z zs h l f. record {
            fine = so_far.after.fine;
            within = subst (λ k. at < k) (nodes_long F S) (stmt_within (tables_of F S) at z h.0);
            tree = z;
            stands = h.0;
            room = omega arith;
            few = omega arith;
          })
          so_far.rest (omega (arith, so_far.counted, more)) so_far.stand (omega (arith, so_far.sized, so_far.high, g.room))
          (omega (arith, so_far.sized, so_far.here, so_far.fewer, g.few))

      pub run_asked : ReadyStmt F S X R₁ W₁ K₁ base at height compared × (rt < S.types)
      run_asked = (run_ready, g.returned)

      module _ (goes : mark ≡ 0) {R₂ W₂ K₂ : List ℕ} {r₁ : Judged} (m₁ : ToldStmt F S X R₁ W₁ base start rt (eqb (i + 1) left) at height compared R₂ W₂ K₂ r₁) where
        -- the answer to the first of them
        told_first : (z : Stmt) (zs : Stmts) → count_stmts (then z zs) + i ≡ left → ToldStmt F S X R₁ W₁ base start rt (is_empty zs) at height compared R₂ W₂ K₂ r₁
        told_first z zs c = subst (λ b. ToldStmt F S X R₁ W₁ base start rt b at height compared R₂ W₂ K₂ r₁) (is_last i left z zs c) m₁

        pub run_no : {p q : ℕ} → r₁.judgement ≡ Refused p q → ToldStmts F S X R W base start rt n s π left parent R₂ W₂ K₂ r₁
        run_no e = record { tells = λ ss h c Γ d. go ss Γ (w.part ss h c Γ d) }
          where
            refusing : (ss : Stmts) (L : List (Label ℕ)) (z : Stmt) (zs : Stmts) (Δ : Scope ℕ) (a b k : ℕ) → (stmt_in F S W base rt (is_empty zs) z at Δ).out ≡ no a b
                → Refuses r₁ a b (compared + (stmt_in F S W base rt (is_empty zs) z at Δ).pairs) → compared ≡ π + k
                → Meets (Running F S X base n (size_stmts ss) s R W R₂ W₂ K₂ r₁) r₁ π (after_run L (all_in F S W base rt (then z zs) at previous mark Δ).out)
                (k + (all_in F S W base rt (then z zs) at previous mark Δ).pairs)
            refusing ss L z zs Δ a b k q e f =
                let (stops, same) = all_no (tables_of F S) (context_of (tables_of F S) W base) rt z zs at previous mark Δ a b goes q in
                subst (λ o. Meets (Running F S X base n (size_stmts ss) s R W R₂ W₂ K₂ r₁) r₁ π (after_run L o) (k + (all_in F S W base rt (then z zs) at previous mark Δ).pairs))
                (sym stops) (refuses_with a b (k + (all_in F S W base rt (then z zs) at previous mark Δ).pairs) e (omega (arith, f, same)))

            go : (ss : Stmts) (Γ : Scope ℕ) → RunPart F S X base start rt n s π R W left parent at height compared previous mark i R₁ W₁ K₁ ss Γ
                → Meets (Running F S X base n (size_stmts ss) s R W R₂ W₂ K₂ r₁) r₁ π (all_in F S W base rt ss n parent 0 Γ).out (all_in F S W base rt ss n parent 0 Γ).pairs
            go ss Γ p =
                subst₂ (Meets (Running F S X base n (size_stmts ss) s R W R₂ W₂ K₂ r₁) r₁ π) (sym p.ran) (sym p.sum)
                (on_some (λ zs. StmtsStand (tables_of F S) at zs → count_stmts zs + i ≡ left
                → Meets (Running F S X base n (size_stmts ss) s R W R₂ W₂ K₂ r₁) r₁ π (after_run p.labels (all_in F S W base rt zs at previous mark p.scope).out)
                (p.spent + (all_in F S W base rt zs at previous mark p.scope).pairs))
                (λ z zs h c.
                let told = retell_stmt p.after.same g.fine.above (told_first z zs c) z h.0 p.scope p.held in
                let (a, b, q, j) = refusal-of _ told e (λ d L v. v.mark) in
                refusing ss p.labels z zs p.scope a b p.spent q j p.here)
                p.rest (omega (arith, p.counted, more)) p.stand p.counted)

        pub run_again : {m : ℕ} → Unrefused r₁ → m ≡ mark_of r₁.judgement
            → WalkedStmts F S X base start rt n s π R W left parent r₁.at.node r₁.at.scope r₁.at.pairs at m (i + 1) R₂ W₂ K₂
        run_again {m} u em = record { part = λ ss h c Γ d. go ss Γ (w.part ss h c Γ d) }
          where
            go : (ss : Stmts) (Γ : Scope ℕ) → RunPart F S X base start rt n s π R W left parent at height compared previous mark i R₁ W₁ K₁ ss Γ
                → RunPart F S X base start rt n s π R W left parent r₁.at.node r₁.at.scope r₁.at.pairs at m (i + 1) R₂ W₂ K₂ ss Γ
            go ss Γ p =
                on_some
                (λ zs. StmtsStand (tables_of F S) at zs → count_stmts zs + i ≡ left → size_stmts ss ≡ length p.labels + size_stmts zs
                → (all_in F S W base rt ss n parent 0 Γ).out ≡ after_run p.labels (all_in F S W base rt zs at previous mark p.scope).out
                → (all_in F S W base rt ss n parent 0 Γ).pairs ≡ p.spent + (all_in F S W base rt zs at previous mark p.scope).pairs
                → RunPart F S X base start rt n s π R W left parent r₁.at.node r₁.at.scope r₁.at.pairs at m (i + 1) R₂ W₂ K₂ ss Γ)
                (λ z zs h c sz j sm.
                let told = retell_stmt p.after.same g.fine.above (told_first z zs c) z h.0 p.scope p.held in
                let (d, M, q, v) = part_of _ told u in
                part_more p goes z zs h c sz j sm d M q v (pairs_told told) em)
                p.rest (omega (arith, p.counted, more)) p.stand p.counted p.sized p.ran p.sum

    module _ (finished : left ≤ i) {r : Judged} where
      pub run_done : AnswerIs (marked mark) at height compared r → ToldStmts F S X R W base start rt n s π left parent R₁ W₁ K₁ r
      run_done e =
          record {
            tells = λ ss h c Γ d.
                let p = w.part ss h c Γ d in
                subst (λ o. Meets (Running F S X base n (size_stmts ss) s R W R₁ W₁ K₁ r) r π o (all_in F S W base rt ss n parent 0 Γ).pairs) (sym (all_ran p finished))
                (accepts mark p.labels (all_in F S W base rt ss n parent 0 Γ).pairs (part_running p finished e) (e.sum ∙ all_spent p finished));
          }

  -- what accepted statements say
  module _ {R₁ W₁ K₁ : List ℕ} {r : Judged} (told : ToldStmts F S X R W base start rt n s π left parent R₁ W₁ K₁ r) (u : Unrefused r) where
    all_run : (p : ℕ) × (L : List (Label ℕ)) × ((all_in F S W base rt g.trees n parent 0 (some_scope g).0).out ≡ ok p L)
        × Running F S X base n (size_stmts g.trees) s R W R₁ W₁ K₁ r p L
    all_run = part_of _ (told.tells g.trees g.stand g.counted (some_scope g).0 (some_scope g).1) u

    pub run_fine : Fine F S X R₁ W₁ K₁ base r.at.scope
    run_fine = all_run.3.after.fine

    pub run_higher : s ≤ r.at.scope
    run_higher = all_run.3.low

    pub run_scoped : Scoped F S W₁ K₁ r.at.scope
    run_scoped = run_fine.scoped
