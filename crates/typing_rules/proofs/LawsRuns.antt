-- Lists of steps: runs of the check and derivations of steps together, which step has which node, and one labelling for all steps.
-- Assumes nothing.
use mathlib.Core.Path.{◌≡◌, refl, ap, sym, subst, ◌∙◌}
use mathlib.Core.Bool.{Bool, true, false, ◌&&◌}
use mathlib.Core.List.{List, [], ◌∷◌}
use Prim.Native.Nat.{ℕ, suc, ◌+◌, ◌-◌, ◌≤◌, ◌<◌}
use native.Mathlib.Omega.{arith}
use native.Mathlib.Nat.{add-sub_cancel_left}
use lib.ListN.{length, get_or, take}
use lib.Dec.{eqb, leb, ltb}
use borrow.Author.Tests.{eqb-true, eqb-false, lt-ltb, le-leb}
use Rattle.oat.specs.Basics.{pick}
use Rattle.oat.specs.Tables.{Tables}
use Rattle.oat.specs.Types.{Ty}
use Rattle.typing_rules.specs.Contexts.{Context}
use Rattle.typing_rules.specs.Labels.{Label, Labels, unlabelled}
use Rattle.typing_rules.specs.Judge.{Out, ok, no}
use Rattle.typing_rules.specs.Steps.{Step, struct_name, built_in, heading, global_value, struct_fields, body, StepRule, context_after, StepsRule, step_left, next_step, nodes_of, SameOn, same_none, same_step}
use Rattle.typing_rules.specs.Check.{Segment, Ran, accepted, refused, with_segment, on_step, run_step, run, rows_begin, node_count, step_rows}
use Rattle.typing_rules.proofs.Claims.{File, ContextFits, erase_context, erase, Holds}
use Rattle.typing_rules.proofs.LawsBridge.{erase_long}
use Rattle.typing_rules.proofs.LawsOutcome.{same_next}
use Rattle.typing_rules.proofs.LawsSteps.{structs_after, StepStands, RightStep, sound_step, complete_step}

-- the steps stand, k structs declared before them
pub data Fitting (T : Tables) : ℕ → List Step → Type 0 where
  fit_none : {k : ℕ} → Fitting T k []
  fit_step : {k : ℕ} {s : Step} {ss : List Step} → StepStands T k s → Fitting T (structs_after k s) ss → Fitting T k (s ∷ ss)

-- the steps are accepted one after another, from C to E
pub data Runs (T : Tables) : Context ℕ → List Step → Context ℕ → Type 0 where
  runs_none : {C : Context ℕ} → Runs T C [] C
  runs_step : {C B E : Context ℕ} {s : Step} {ss : List Step} {L : List (Label ℕ)} → run_step T C s ≡ ok B L → RightStep T C s B L → Runs T B ss E
      → Runs T C (s ∷ ss) E

-- and D has the labels of each
pub data Labelled (T : Tables) (D : Labels Ty) : Context ℕ → List Step → Context ℕ → Type 0 where
  labelled_none : {C : Context ℕ} → Labelled T D C [] C
  labelled_step : {C B E : Context ℕ} {s : Step} {ss : List Step} {L : List (Label ℕ)} → run_step T C s ≡ ok B L → RightStep T C s B L
      → Holds D (rows_begin s) (erase T L) → Labelled T D B ss E → Labelled T D C (s ∷ ss) E

-- a labelling that has the labels of an accepted run is a derivation of its steps ..
pub sound_steps : {T : Tables} {D : Labels Ty} {C E : Context ℕ} {ss : List Step} → Labelled T D C ss E
    → StepsRule T D (erase_context T C) ss (erase_context T E)
sound_steps labelled_none = step_left
sound_steps {T} {D} (labelled_step {E = E} {ss = ss} e r h l) =
    next_step (r.rule D h) (subst (λ G. StepsRule T D G ss (erase_context T E)) (sym (r.after D h)) (sound_steps l))

-- .. and every derivation is such a one
module _ (T : Tables) (F : File T) where
  pub complete_steps : {D : Labels Ty} {G H : Context Ty} {ss : List Step} → StepsRule T D G ss H → (C : Context ℕ) → ContextFits T C
      → Fitting T (length C.structs) ss → G ≡ erase_context T C → (E : Context ℕ) × Labelled T D C ss E × (H ≡ erase_context T E)
  complete_steps step_left C f fit_none e = (C, labelled_none, e)
  complete_steps {D} (next_step {s = s} {ss = ss} r rs) C f (fit_step h hs) e =
      let A = complete_step T F C f D (subst (λ G. StepRule T G D s) e r) h in
      let R = sound_step T F C f s A.next A.labels h A.accepts in
      let hs' = subst (λ k. Fitting T k ss) (sym R.many) hs in
      let (E, l, q) = complete_steps rs A.next R.fits hs' (ap (λ G. context_after T G D s) e ∙ R.after D A.holds) in
      (E, labelled_step A.accepts R A.holds l, q)

-- two labellings that have the labels of a run from C are the same on its steps, and end alike
holds_same : (D E : Labels Ty) (M : List (Label Ty)) (n m : ℕ) → Holds D n M → Holds E n M → n ≤ m → m < n + length M → D m ≡ E m
unfolding Holds
holds_same D E [] n m h k l u = absurd (omega arith)
holds_same D E (a ∷ M) n m h k l u = go (eqb m n) refl (λ i. holds_same D E M (n + 1) m h.1 k.1 i (omega arith))
  where
    go : (b : Bool) → eqb m n ≡ b → (n + 1 ≤ m → D m ≡ E m) → D m ≡ E m
    go true e later = rw (eqb-true m n e) (h.0 ∙ sym k.0)
    go false e later = let ne = eqb-false m n e in later (omega arith)

nodes_are : (s : Step) (m : ℕ) → nodes_of s m → (rows_begin s ≤ m) × (m < rows_begin s + node_count s)
unfolding nodes_of rows_begin
nodes_are (struct_name i) m h = absurd h
nodes_are (built_in i) m h = absurd h
nodes_are (heading n x t) m h = absurd h
nodes_are (global_value n x a) m h = h
nodes_are (struct_fields i) m h = absurd h
nodes_are (body n t ps b) m h = h

pub labelled_same : {T : Tables} {D E : Labels Ty} {C A B : Context ℕ} {ss : List Step} → Labelled T D C ss A → Labelled T E C ss B
    → SameOn D E ss × (A ≡ B)
labelled_same labelled_none labelled_none = (same_none, refl)
labelled_same {T} {D} {E} {B = B} (labelled_step {s = s} {ss = ss} {L = L} e r h l) (labelled_step f r' k l') =
    let (a, b) = same_next e f in
    let (same, ends) = labelled_same l (subst (λ G. Labelled T E G ss B) (sym a) l') in
    let k' = subst (λ M. Holds E (rows_begin s) (erase T M)) (sym b) k in (
      same_step (λ m n. let (lo, hi) = nodes_are s m n in holds_same D E (erase T L) (rows_begin s) m h k' lo (rw erase_long (rw r.long hi))) same,
      ends,
    )

-- what the run of steps says
pub labelled_run : {T : Tables} {D : Labels Ty} {C E : Context ℕ} {ss : List Step} → Labelled T D C ss E → (k : ℕ)
    → (gs : List Segment) × (run T C ss k ≡ accepted gs (k + length ss))
unfolding run
labelled_run labelled_none k = ([], ap (λ j. accepted [] j) (omega arith))
labelled_run {T} (labelled_step {s = s} {L = L} e r h l) k =
    let (gs, q) = labelled_run l (suc k) in
    let g : Segment = record { node = rows_begin s; rows = step_rows T s L } in
    (g ∷ gs, rw e (ap (with_segment g) q ∙ ap (λ j. accepted (g ∷ gs) j) (omega arith)))

-- all steps are accepted, or those before the step j, which then has no derivation
pub record Passed (T : Tables) (C : Context ℕ) (ss : List Step) (k j : ℕ) : Type 0 where
  pub all : j ≡ k + length ss
  pub end : Context ℕ
  pub runs : Runs T C ss end

pub record Stopped (T : Tables) (C : Context ℕ) (ss : List Step) (k j : ℕ) : Type 0 where
  pub before : ℕ
  pub is : j ≡ k + before
  pub within : before < length ss
  pub end : Context ℕ
  pub runs : Runs T C (take before ss) end
  pub underivable : (D : Labels Ty) → StepRule T (erase_context T end) D (get_or ss before (struct_name 0)) → ⊥

abbrev pub Outcome : Tables → Context ℕ → List Step → ℕ → Ran → Type 0
Outcome T C ss k (accepted gs j) = Passed T C ss k j
Outcome T C ss k (refused m j q) = Stopped T C ss k j

module _ (T : Tables) (F : File T) where
  -- one step more in front
  outcome_after : {C B : Context ℕ} {s : Step} {L : List (Label ℕ)} (ss : List Step) (k : ℕ) (g : Segment) (r : Ran) → run_step T C s ≡ ok B L
      → RightStep T C s B L → Outcome T B ss (suc k) r → Outcome T C (s ∷ ss) k (with_segment g r)
  outcome_after ss k g (accepted gs j) e r o = record { all = omega (arith, o.all); end = o.end; runs = runs_step e r o.runs }
  outcome_after ss k g (refused m j q) e r o = record {
    before = suc o.before;
    is = omega (arith, o.is);
    within = omega (arith, o.within);
    end = o.end;
    runs = runs_step e r o.runs;
    underivable = o.underivable;
  }

  no_derivation : (C : Context ℕ) (s : Step) (p q : ℕ) → ContextFits T C → StepStands T (length C.structs) s → run_step T C s ≡ no p q
      → (D : Labels Ty) → StepRule T (erase_context T C) D s → ⊥
  no_derivation C s p q f h e D r =
      let a = (complete_step T F C f D r h).accepts in
      let z : ◌≡◌ {A = ℕ} 0 1 = cc in omega arith

  pub trace : (ss : List Step) (C : Context ℕ) (k : ℕ) → ContextFits T C → Fitting T (length C.structs) ss → Outcome T C ss k (run T C ss k)
  unfolding run
  trace [] C k f h = record { all = omega arith; end = C; runs = runs_none }
  trace (s ∷ ss) C k f (fit_step h hs) = go (run_step T C s) refl (λ B. trace ss B (suc k))
    where
      go : (o : Out (Context ℕ)) → run_step T C s ≡ o
          → ((B : Context ℕ) → ContextFits T B → Fitting T (length B.structs) ss → Outcome T B ss (suc k) (run T B ss (suc k)))
          → Outcome T C (s ∷ ss) k (on_step o k λ E L. with_segment (record { node = rows_begin s; rows = step_rows T s L }) (run T E ss (suc k)))
      go (ok B L) e later =
          let r = sound_step T F C f s B L h e in
          outcome_after ss k _ (run T B ss (suc k)) e r (later B r.fits (subst (λ k. Fitting T k ss) (sym r.many) hs))
      go (no p q) e later = record {
        before = 0;
        is = omega arith;
        within = omega arith;
        end = C;
        runs = runs_none;
        underivable = no_derivation C s p q f h e;
      }

-- the node m is one of the k nodes from n on
abbrev pub is_within : ℕ → ℕ → ℕ → Bool
is_within n k m = leb n m && ltb m (n + k)

-- how many of the steps have the node m
abbrev pub steps_at : ℕ → List Step → ℕ
steps_at m [] = 0
steps_at m (s ∷ ss) = pick (is_within (rows_begin s) (node_count s) m) 1 0 + steps_at m ss

pub within_true : (n k m : ℕ) → n ≤ m → m < n + k → is_within n k m ≡ true
within_true n k m l u = rw (le-leb n m l, lt-ltb m (n + k) u)

-- only those nodes matter for labels that hold
holds_other : (D E : Labels Ty) (L : List (Label Ty)) (n : ℕ) → ((m : ℕ) → n ≤ m → m < n + length L → D m ≡ E m) → Holds D n L → Holds E n L
unfolding Holds
holds_other D E [] n e h = tt
holds_other D E (l ∷ L) n e h =
    (sym (e n (omega arith) (omega arith)) ∙ h.0, holds_other D E L (n + 1) (λ m i j. e m (omega arith) (omega arith)) h.1)

relabel : {T : Tables} {D : Labels Ty} {C B : Context ℕ} {ss : List Step} → Labelled T D C ss B → (E : Labels Ty)
    → ((m : ℕ) → 1 ≤ steps_at m ss → D m ≡ E m) → Labelled T E C ss B
relabel labelled_none E e = labelled_none
relabel {T} {D} (labelled_step {s = s} {L = L} a r h l) E e =
    labelled_step a r
    (holds_other D E (erase T L) (rows_begin s)
    (λ m i j. e m (rw (within_true (rows_begin s) (node_count s) m i (rw (← r.long, ← erase_long T L) j)) (omega arith))) h)
    (relabel l E λ m i. e m (omega arith))

-- D, with the labels L at the k nodes from n on
patched : ℕ → ℕ → List (Label Ty) → Labels Ty → Labels Ty
patched n k L D m = pick (is_within n k m) (get_or L (m - n) unlabelled) (D m)

holds_by : (D : Labels Ty) (L : List (Label Ty)) (n : ℕ) → ((j : ℕ) → j < length L → D (n + j) ≡ get_or L j unlabelled) → Holds D n L
unfolding Holds
holds_by D [] n e = tt
holds_by D (l ∷ L) n e = (
  ap D (omega arith) ∙ e 0 (omega arith),
  holds_by D L (n + 1) (λ j h. ap D (omega arith) ∙ e (suc j) (omega arith)),
)

patched_holds : (n k : ℕ) (L : List (Label Ty)) (D : Labels Ty) → length L ≡ k → Holds (patched n k L D) n L
unfolding patched
patched_holds n k L D e =
    holds_by (patched n k L D) L n λ j h. rw (within_true n k (n + j) (omega arith) (omega arith), add-sub_cancel_left n j)

patched_other : (n k : ℕ) (L : List (Label Ty)) (D : Labels Ty) (m c : ℕ) → pick (is_within n k m) 1 0 + c ≤ 1 → 1 ≤ c → D m ≡ patched n k L D m
unfolding patched
patched_other n k L D m c = go (is_within n k m)
  where
    go : (b : Bool) → pick b 1 0 + c ≤ 1 → 1 ≤ c → D m ≡ pick b (get_or L (m - n) unlabelled) (D m)
    go true h i = absurd (omega arith)
    go false h i = refl

-- steps that share no node have one labelling with the labels of all
pub label : {T : Tables} {C E : Context ℕ} {ss : List Step} → Runs T C ss E → ((m : ℕ) → steps_at m ss ≤ 1) → (D : Labels Ty) × Labelled T D C ss E
label runs_none o = (λ m. unlabelled, labelled_none)
label {T} (runs_step {s = s} {ss = ss} {L = L} e r l) o =
    let (D, d) = label l (λ m. omega (arith, o m)) in
    let E = patched (rows_begin s) (node_count s) (erase T L) D in (
      E,
      labelled_step e r (patched_holds (rows_begin s) (node_count s) (erase T L) D (erase_long T L ∙ r.long))
          (relabel d E λ m i. patched_other (rows_begin s) (node_count s) (erase T L) D m (steps_at m ss) (o m) i),
    )
