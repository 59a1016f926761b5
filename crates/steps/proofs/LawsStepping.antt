-- A step's answer against the outcome of the definition, premise by premise and part after part, and the context of a file all of whose
-- structs are declared. Assumes nothing.
use mathlib.Core.Path.{◌≡◌, refl, ap, ap₂, sym, ◌∙◌}
use mathlib.Core.Bool.{Bool, true, false}
use mathlib.Core.List.{List, []}
use Prim.Native.Nat.{ℕ, ◌+◌, ◌<◌}
use native.Mathlib.Omega.{arith}
use lib.ListN.{length}
use Rattle.std.specs.Prelude.{Result, Ok, Err}
use Rattle.oat.specs.Basics.{pick}
use Rattle.oat.specs.Tables.{Tables, struct_at, built_in_at}
use Rattle.oat.specs.Types.{struct_of, structs_of, lookup}
use Rattle.typing_rules.specs.Contexts as Contexts
use Rattle.typing_rules.specs.Contexts.{find_name, is_miss}
use Rattle.typing_rules.specs.Labels.{Label}
use Rattle.typing_rules.specs.Judge.{Out, ok, no, and_then, needs, pairs_after, formed}
use Rattle.typing_rules.specs.Steps.{Step, struct_name, built_in, heading, global_value, struct_fields, body, distinct_fields}
use Rattle.typing_rules.specs.Check.{is_missing, fields_formed, stepping, step_rows, node_count}
use Rattle.file_sections.specs.declared.Sections.{Sections}
use Rattle.file_sections.specs.Layout.{tables_of}
use Rattle.file_sections.proofs.LawsRecords.{structs_long}
use Rattle.bindings.specs.Bindings.{names_of}
use Rattle.answers.specs.declared.answer.Judgement.TheVariants.{Refused}
use Rattle.answers.specs.declared.answer.Judged.{Judged}
use Rattle.expressions.specs.Contract.{context_of, Meets}
use Rattle.expressions.specs.Contract as meeting
use Rattle.expressions.proofs.LawsMeets.{Unrefused}
use Rattle.steps.specs.declared.context.Context.{Context}
use Rattle.steps.specs.declared.context.Refusal.{Refusal}
use Rattle.steps.specs.Contract.{context_at, summing, after_step, refusal_at, Held, Accepted, Stepping, accepts, refuses, Answering, answers_refused, Whole}

module _ {F : List ℕ} {S : Sections} {X : List ℕ} {c : Context} {s : Step} {R R' W' K' : List ℕ} {r : Result Context Refusal} {π : ℕ} where
  -- an answer with the sum m
  pub accepts_with : (C : Contexts.Context ℕ) (L : List (Label ℕ)) (m k : ℕ) → m ≡ π + k → r ≡ Ok (summing m (after_step s c)) → Accepted F S X c s R R' W' K' C L
      → Stepping F S X c s R R' W' K' r π (ok C L) k
  accepts_with C L m k e f a = accepts C L k (f ∙ ap (λ i. Ok (summing i (after_step s c))) e) a

  refuses_with : (p q m k : ℕ) → m ≡ π + k → r ≡ Err (refusal_at (summing m c) p q) → Stepping F S X c s R R' W' K' r π (no p q) k
  refuses_with p q m k e f = refuses p q k (f ∙ ap (λ i. Err (refusal_at (summing i c) p q)) e)

  -- with what was compared before it
  pub stepping_more : {j k : ℕ} {o : Out (Contexts.Context ℕ)} (i : ℕ) → j ≡ π + i → Stepping F S X c s R R' W' K' r j o k → Stepping F S X c s R R' W' K' r π o (i + k)
  stepping_more {j} i e (accepts C L k f a) = accepts_with C L (j + k) (i + k) (omega arith) f a
  stepping_more {j} i e (refuses p q k f) = refuses_with p q (j + k) (i + k) (omega arith) f

  -- a premise that is tested
  pub stops : (b : Bool) (p q : ℕ) (o : Out (Contexts.Context ℕ)) (k : ℕ) → b ≡ false → r ≡ Err (refusal_at (summing π c) p q)
      → Stepping F S X c s R R' W' K' r π (needs b p q o) (pick b k 0)
  stops b p q o k f e = rw f (refuses_with p q π 0 (omega arith) e)

  pub passes : (b : Bool) (p q : ℕ) (o : Out (Contexts.Context ℕ)) {k : ℕ} → b ≡ true → Stepping F S X c s R R' W' K' r π o k → Stepping F S X c s R R' W' K' r π (needs b p q o) (pick b k 0)
  passes b p q o t m = rw t m

module _ {T : Tables} {W : List ℕ} {c : Context} {s : Step} {r : Result Context Refusal} where
  pub answer_stops : (b : Bool) (p q : ℕ) (o : Out (Contexts.Context ℕ)) → b ≡ false → r ≡ Err (refusal_at c p q) → Answering T W c s r (needs b p q o)
  answer_stops b p q o f e = rw f (answers_refused p q e)

  pub answer_passes : (b : Bool) (p q : ℕ) (o : Out (Contexts.Context ℕ)) → b ≡ true → Answering T W c s r o → Answering T W c s r (needs b p q o)
  answer_passes b p q o t m = rw t m

-- a part that is refused hands its refusal up; an accepted one goes on with its labels, after the pairs that it compared
module _ {F : List ℕ} {S : Sections} {X : List ℕ} {c : Context} {s : Step} {R R' W' K' : List ℕ} {r : Result Context Refusal} {A : Type 0} {P : A → List (Label ℕ) → Type 0} {r₁ : Judged} {π i : ℕ} where
  pub hands_up : (o : Out A) (k : A → List (Label ℕ) → Out (Contexts.Context ℕ)) (j : A → List (Label ℕ) → ℕ) → ((a : A) (L : List (Label ℕ)) → P a L → ⊥)
      → (p q : ℕ) → r₁.judgement ≡ Refused p q → r ≡ Err (refusal_at (summing r₁.at.pairs c) p q) → Meets P r₁ π o i
      → Stepping F S X c s R R' W' K' r π (and_then o k) (i + pairs_after o j)
  hands_up o k j f p q h e (meeting.accepts a L i d g) = absurd (f a L d)
  hands_up o k j f p q h e (meeting.refuses n m i d) =
      let same : p ≡ n = cc in
      let there : q ≡ m = cc in
      refuses_with n m r₁.at.pairs (i + 0) (omega (arith, d.sum)) (e ∙ ap₂ (λ p q. Err (refusal_at (summing r₁.at.pairs c) p q)) same there)

  pub goes_on : (o : Out A) (k : A → List (Label ℕ) → Out (Contexts.Context ℕ)) {j : A → List (Label ℕ) → ℕ} → Unrefused r₁ → Meets P r₁ π o i
      → ((a : A) (L : List (Label ℕ)) → o ≡ ok a L → P a L → Stepping F S X c s R R' W' K' r r₁.at.pairs (k a L) (j a L))
      → Stepping F S X c s R R' W' K' r π (and_then o k) (i + pairs_after o j)
  goes_on o k u (meeting.accepts a L i p e) g = stepping_more i e (g a L refl p)
  goes_on o k u (meeting.refuses p q i e) g = absurd (u.never p q e.judged)

-- an accepted step without rows
pub rowless : {F : List ℕ} {S : Sections} {X : List ℕ} {c : Context} {s : Step} {W' K' : List ℕ} {r : Result Context Refusal} {π : ℕ} (R : List ℕ) (C : Contexts.Context ℕ)
    → node_count s ≡ 0 → step_rows (tables_of F S) s [] ≡ [] → r ≡ Ok (summing π (after_step s c)) → Held F S X W' K' (after_step s c)
    → context_at (tables_of F S) W' (after_step s c) ≡ C → Stepping F S X c s R R W' K' r π (ok C []) 0
rowless {F} {S} {X} {c} {s} {W'} {K'} {r} {π} R C z n e h m =
    accepts_with C [] π 0 (omega arith) e
    (record {
      held = h;
      made = m;
      long = ap length n ∙ omega arith;
      rows = record { at = λ j l. absurd (none j (ap length n) l) };
      kept = record { before = λ i l. refl; after = λ i l. refl };
    })
  where
    none : (j : ℕ) → length (step_rows (tables_of F S) s []) ≡ 0 → j < length (step_rows (tables_of F S) s []) → ⊥
    none j e l = omega arith

-- a step without nodes compares nothing
unless : (b : Bool) {k : ℕ} → k ≡ 0 → pick b k 0 ≡ 0
unless true e = e
unless false e = refl

pub nothing_compared : (T : Tables) (C : Contexts.Context ℕ) (s : Step) → node_count s ≡ 0 → (stepping T C s).pairs ≡ 0
unfolding stepping
nothing_compared T C (struct_name i) z = unless (is_missing (lookup C.structs (struct_at T i).name)) refl
nothing_compared T C (built_in i) z = unless (formed T C (built_in_at T i).type) (unless (is_miss (find_name (built_in_at T i).name C.names)) refl)
nothing_compared T C (heading n x t) z = unless (formed T C t) (unless (is_miss (find_name x C.names)) refl)
nothing_compared T C (global_value n x a) z = absurd (omega arith)
nothing_compared T C (struct_fields i) z = unless (fields_formed C (struct_of T i).fields) (unless (distinct_fields (struct_of T i).fields) refl)
nothing_compared T C (body n t ps b) z = absurd (omega arith)

-- all structs are declared
pub whole_context : (F : List ℕ) (S : Sections) (W : List ℕ) (c : Context) → Whole S c → context_at (tables_of F S) W c ≡ context_of (tables_of F S) W c.names
whole_context F S W c w =
    ap (λ k. record { structs = structs_of (tables_of F S) k; names = names_of (tables_of F S) W c.names }) (w.structs ∙ sym (structs_long F S))
