-- Steps that bind no name, write no rows and compare nothing, one after another: none, one more, a refusal; and they run so in buffers that hold their
-- context. Assumes nothing.
use mathlib.Core.Path.{◌≡◌, refl, ap, sym, subst, ◌∙◌}
use mathlib.Core.List.{List, [], ◌∷◌, ◌++◌}
use Prim.Native.Nat.{ℕ, ◌+◌, ◌*◌, ◌<◌}
use native.Mathlib.Nat.{zero-add, add-zero}
use native.Mathlib.Omega.{arith}
use lib.ListN.{length}
use Rattle.std.specs.Prelude.{Result, Ok}
use Rattle.oat.specs.Basics.{tabulate}
use Rattle.oat.specs.Tables.{Tables}
use Rattle.typing_rules.specs.Contexts as Contexts
use Rattle.typing_rules.specs.Judge.{Out}
use Rattle.typing_rules.specs.Steps.{Step, struct_name, built_in, heading, global_value, struct_fields, body}
use Rattle.typing_rules.specs.Check.{rows_begin, step_rows, stepping, run_step, run_pairs, node_count}
use Rattle.typing_rules.proofs.LawsSteps.{tabulate_more}
use Rattle.file_sections.specs.declared.Sections.{Sections}
use Rattle.file_sections.specs.Layout.{tables_of}
use Rattle.file_sections.specs.Frames.{ListAt}
use Rattle.file_sections.proofs.LawsFrames.{list_none}
use Rattle.bindings.specs.Bindings.{Scoped}
use Rattle.steps.specs.declared.context.Context.{Context}
use Rattle.steps.specs.declared.context.Refusal.{Refusal}
use Rattle.steps.specs.Contract.{context_at, summing, after_step, refusal_at, Held, Answering, answers_next, answers_refused, Answered}
use Rattle.steps.proofs.LawsStepping.{nothing_compared}
use Rattle.typing.specs.Runs.{after_steps, with_segments, written_none, written_next, Runs, goes, stops, AnsweringAll, all_next, all_refused, AnsweredAll}
use Rattle.typing.proofs.LawsRuns.{after_append, after_summing, written_append, Stopped, next_is, not_both, one_on, one_stop, one_counts, one_counts_to, then_on, then_breaks, breaks_still, then_counts, then_counts_to, counts_still}
use Rattle.typing.proofs.LawsCounts.{Alike, after_counted, tabulate_rest}

-- a step without rows
bare_rows : (T : Tables) (s : Step) → node_count s ≡ 0 → step_rows T s [] ≡ []
unfolding step_rows
bare_rows T (struct_name i) z = refl
bare_rows T (built_in i) z = refl
bare_rows T (heading n x t) z = refl
bare_rows T (global_value n x a) z = absurd (omega arith)
bare_rows T (struct_fields i) z = refl
bare_rows T (body n t ps b) z = absurd (omega arith)

-- the context after an accepted one
next_of : {T : Tables} {W : List ℕ} {c d : Context} {s : Step} {r : Result Context Refusal} {o : Out (Contexts.Context ℕ)} → Answering T W c s r o → r ≡ Ok d → d ≡ after_step s c
next_of (answers_next C q m) e = next_is e q
next_of (answers_refused p q i) e = absurd (not_both e i)

-- the sum of pairs after steps, as the context after them has it
sum_stays : (ss : List Step) (c : Context) → (after_steps ss c).pairs ≡ c.pairs
sum_stays ss c = ap (λ x. x.pairs) (after_summing c.pairs ss c)

-- one run after another, and a refused run, whatever follows
all_then : {T : Tables} {W : List ℕ} {c d : Context} {ss ts : List Step} {r₁ r : Result Context Refusal} → AnsweringAll T W c ss r₁ → r₁ ≡ Ok d → AnsweringAll T W d ts r → AnsweringAll T W c (ss ++ ts) r
all_then (all_refused y f h o u) e n = absurd (not_both e f)
all_then {T} {W} {c} {d} {ss} {ts} {r₁} {r} (all_next gs f m o w) e n = next (subst (λ x. AnsweringAll T W x ts r) (next_is e f) n)
  where
    next : AnsweringAll T W (after_steps ss c) ts r → AnsweringAll T W c (ss ++ ts) r
    next (all_next hs g n u v) =
        all_next (gs ++ hs) (g ∙ ap (λ x. Ok x) (sym (after_append ss ts c))) (then_on T c ss ts W W W gs hs m n) (then_counts T c ss ts W W W 0 0 o u)
        (λ R. written_append (w R) (v R))
    next (all_refused y g h n u) =
        all_refused y g (h ∙ sum_stays ss c) (then_breaks T c ss ts W W gs y.number y.step y.place m n) (then_counts_to T c ss ts W W 0 0 o u)

all_stop : {T : Tables} {W : List ℕ} {c : Context} {ss : List Step} {r : Result Context Refusal} (ts : List Step) → Stopped r → AnsweringAll T W c ss r → AnsweringAll T W c (ss ++ ts) r
all_stop ts e (all_next gs f m o w) = absurd (e.never _ f)
all_stop {T} {W} {c} {ss} ts e (all_refused y f h n o) = all_refused y f h (breaks_still T c ss ts W y.number y.step y.place n) (counts_still T c ss ts W 0 o)

module _ {F : List ℕ} {S : Sections} where
  pub answered_next : {c d : Context} {s : Step} {r : Result Context Refusal} → Answered F S c s r → r ≡ Ok d → d ≡ after_step s c
  answered_next a e = next_of (a.tells []) e

  -- no step, and one
  pub all_none : {c : Context} → AnsweredAll F S c [] (Ok c)
  unfolding after_steps with_segments
  all_none = record { tells = λ W. all_next [] refl (λ rest. refl) (λ rest. sym (zero-add _)) (λ R. written_none) }

  all_one : {c : Context} {s : Step} {r : Result Context Refusal} → node_count s ≡ 0 → Answered F S c s r → (W : List ℕ) → AnsweringAll (tables_of F S) W c (s ∷ []) r
  unfolding after_steps with_segments
  all_one {c} {s} {r} z a W = go (run_step (tables_of F S) (context_at (tables_of F S) W c) s) refl (a.tells W)
    where
      none : step_rows (tables_of F S) s [] ≡ []
      none = bare_rows (tables_of F S) s z

      nothing : (stepping (tables_of F S) (context_at (tables_of F S) W c) s).pairs ≡ 0
      nothing = nothing_compared (tables_of F S) (context_at (tables_of F S) W c) s z

      go : (o : Out (Contexts.Context ℕ)) → run_step (tables_of F S) (context_at (tables_of F S) W c) s ≡ o → Answering (tables_of F S) W c s r o → AnsweringAll (tables_of F S) W c (s ∷ []) r
      go o e (answers_next C q m) =
          all_next (record { node = rows_begin s; rows = step_rows (tables_of F S) s [] } ∷ []) q (one_on F S W c s W C [] e m)
          (λ rest. one_counts F S W c s W C [] e m rest ∙ ap (λ k. k + run_pairs (tables_of F S) (context_at (tables_of F S) W (after_step s c)) rest) nothing)
          (λ R. written_next refl (ap length none ∙ sym (ap (λ k. k * 2) z)) (subst (ListAt R (rows_begin s * 2)) (sym none) (list_none R (rows_begin s * 2))) written_none)
      go o e (answers_refused p q i) = all_refused (refusal_at c p q) i refl (one_stop F S W c s p q e) (λ rest. one_counts_to F S W c s p q e rest ∙ nothing)

  -- the first i records have had their steps
  module _ (f : ℕ → Step) (b : (i : ℕ) → node_count (f i) ≡ 0) {c₀ c : Context} {t : Result Context Refusal} {i : ℕ} (a : AnsweredAll F S c₀ (tabulate i f) (Ok c)) (h : Answered F S c (f i) t) where
    one_after : (W : List ℕ) → AnsweringAll (tables_of F S) W c₀ (tabulate (i + 1) f) t
    one_after W = subst (λ ss. AnsweringAll (tables_of F S) W c₀ ss t) (tabulate_more i f) (all_then (a.tells W) refl (all_one (b i) h W))

    pub answers_stop : (n : ℕ) → i < n → Stopped t → AnsweredAll F S c₀ (tabulate n f) t
    answers_stop n l e =
        let (rest, q) = tabulate_rest (i + 1) n f (omega arith) in
        record { tells = λ W. subst (λ ss. AnsweringAll (tables_of F S) W c₀ ss t) q (all_stop rest e (one_after W)) }

    pub answers_more : {d : Context} → t ≡ Ok d → AnsweredAll F S c₀ (tabulate (i + 1) f) (Ok d)
    answers_more e = record { tells = λ W. subst (AnsweringAll (tables_of F S) W c₀ (tabulate (i + 1) f)) e (one_after W) }

  -- in buffers that hold the context: they hold the one after the steps, since no name is bound
  module _ {X W K : List ℕ} {c : Context} (h : Held F S X W K c) where
    held_after : {j : ℕ} {ss : List Step} → Alike j 0 ss → Held F S X W K (after_steps ss c)
    held_after {j} {ss} a =
        let m = after_counted j 0 ss c a in
        let e : c.names ≡ (after_steps ss c).names = omega (arith, m.names_are) in
        record { good_tables = h.good_tables; indexed = h.indexed; scoped = subst (Scoped F S W K) e h.scoped }

    pub answers_run : {j : ℕ} {ss : List Step} {r : Result Context Refusal} → Alike j 0 ss → AnsweredAll F S c ss r → (R : List ℕ) → Runs F S X c ss R W R W K r
    answers_run {j} {ss} {r} a told R = go (told.tells W)
      where
        go : AnsweringAll (tables_of F S) W c ss r → Runs F S X c ss R W R W K r
        go (all_next gs e on o w) =
            goes gs 0 (e ∙ ap (λ x. Ok x) (after_summing c.pairs ss c) ∙ ap (λ k. Ok (summing k (after_steps ss c))) (sym (add-zero c.pairs))) (record { on = on; counts = o; held = held_after a; written = w R; kept = λ i t. refl })
        go (all_refused y e h n o) = stops y 0 e (h ∙ sym (add-zero c.pairs)) n o
