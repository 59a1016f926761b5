-- Steps that run one after another: none, one, and one run after another. Assumes nothing.
use mathlib.Core.Path.{◌≡◌, refl, ap, ap₂, sym, subst, ◌∙◌}
use mathlib.Core.Bool.{Bool, true, false}
use mathlib.Core.List.{List, [], ◌∷◌, ◌++◌, append_assoc, append-nil}
use Prim.Native.Nat.{ℕ, suc, ◌+◌, ◌*◌}
use native.Mathlib.Nat.{zero-add, add-zero, add_assoc}
use native.Mathlib.Omega.{arith}
use lib.ListN.{get_or}
use lib.Dec.{ltb}
use borrow.Author.Tests.{ltb-true, ltb-false}
use Rattle.std.specs.Prelude.{Result, Ok, Err, IsErrAnd}
use Rattle.std.proofs.lemmas.Result.{err_from_is_err_and}
use Rattle.oat.specs.Tables.{Tables}
use Rattle.typing_rules.specs.Contexts as Contexts
use Rattle.typing_rules.specs.Labels.{Label}
use Rattle.typing_rules.specs.Judge.{Out, ok, no}
use Rattle.typing_rules.specs.Steps.{Step, struct_name, built_in, heading, global_value, struct_fields, body}
use Rattle.typing_rules.specs.Check.{Segment, Ran, refused, with_segment, rows_begin, node_count, step_rows, stepping, run_step, run, run_pairs}
use Rattle.file_sections.specs.declared.Sections.{Sections}
use Rattle.file_sections.specs.Layout.{tables_of}
use Rattle.file_sections.specs.Frames.{Kept}
use Rattle.file_sections.proofs.LawsFrames.{list_kept}
use Rattle.steps.specs.declared.context.Context.{Context}
use Rattle.steps.specs.declared.context.Refusal.{Refusal}
use Rattle.steps.specs.Contract.{context_at, summing, after_step, refusal_at, Held, Stepping, accepts, refuses, Steps}
use Rattle.typing.specs.Runs.{after_steps, with_segments, Touched, touched_first, touched_later, Written, written_none, written_next, GoOn, CountsOn, Break, CountsTo, Run, Runs, goes, stops}

-- every step is counted
pub step_counted : (s : Step) (c : Context) → (after_step s c).steps ≡ suc c.steps
step_counted (struct_name i) c = omega arith
step_counted (built_in i) c = omega arith
step_counted (heading n x t) c = omega arith
step_counted (global_value n x a) c = omega arith
step_counted (struct_fields i) c = omega arith
step_counted (body n t ps b) c = omega arith

pub after_append : (ss ts : List Step) (c : Context) → after_steps (ss ++ ts) c ≡ after_steps ts (after_steps ss c)
unfolding after_steps
after_append [] ts c = refl
after_append (s ∷ ss) ts c = after_append ss ts (after_step s c)

-- another sum of pairs stays through steps
step_summing : (π : ℕ) (s : Step) (c : Context) → after_step s (summing π c) ≡ summing π (after_step s c)
step_summing π (struct_name i) c = refl
step_summing π (built_in i) c = refl
step_summing π (heading n x t) c = refl
step_summing π (global_value n x a) c = refl
step_summing π (struct_fields i) c = refl
step_summing π (body n t ps b) c = refl

pub after_summing : (π : ℕ) (ss : List Step) (c : Context) → after_steps ss (summing π c) ≡ summing π (after_steps ss c)
unfolding after_steps
after_summing π [] c = refl
after_summing π (s ∷ ss) c = ap (after_steps ss) (step_summing π s c) ∙ after_summing π ss (after_step s c)

segments_append : (gs hs : List Segment) (r : Ran) → with_segments (gs ++ hs) r ≡ with_segments gs (with_segments hs r)
unfolding with_segments
segments_append [] hs r = refl
segments_append (g ∷ gs) hs r = ap (with_segment g) (segments_append gs hs r)

segments_refused : (gs : List Segment) (p k q : ℕ) → with_segments gs (refused p k q) ≡ refused p k q
unfolding with_segments
segments_refused [] p k q = refl
segments_refused (g ∷ gs) p k q = ap (with_segment g) (segments_refused gs p k q)

-- numbers of the rows of two runs of steps
pub touched_left : {i : ℕ} {ss : List Step} (ts : List Step) → Touched i ss → Touched i (ss ++ ts)
touched_left ts (touched_first a b) = touched_first a b
touched_left ts (touched_later t) = touched_later (touched_left ts t)

pub touched_right : {i : ℕ} (ss : List Step) {ts : List Step} → Touched i ts → Touched i (ss ++ ts)
touched_right [] t = t
touched_right (s ∷ ss) t = touched_later (touched_right ss t)

pub touched_either : {i : ℕ} (ss : List Step) {ts : List Step} {P : Type 0} → Touched i (ss ++ ts) → (Touched i ss → P) → (Touched i ts → P) → P
touched_either [] t f g = g t
touched_either (s ∷ ss) (touched_first a b) f g = f (touched_first a b)
touched_either (s ∷ ss) (touched_later t) f g = touched_either ss t (λ u. f (touched_later u)) g

pub written_append : {R : List ℕ} {ss ts : List Step} {gs hs : List Segment} → Written R ss gs → Written R ts hs → Written R (ss ++ ts) (gs ++ hs)
written_append written_none w = w
written_append (written_next a b c v) w = written_next a b c (written_append v w)

-- rows that have not changed are still written
pub written_kept : {R R' : List ℕ} {ss : List Step} {gs : List Segment} → ((i : ℕ) → Touched i ss → get_or R' i 0 ≡ get_or R i 0) → Written R ss gs → Written R' ss gs
written_kept f written_none = written_none
written_kept {R} {R'} f (written_next {s = s} {g = g} a b c w) =
    written_next a b
    (list_kept R R' (rows_begin s * 2) g.rows (λ i l h. f i (touched_first l (omega (arith, b)))) c)
    (written_kept (λ i t. f i (touched_later t)) w)

-- no number belongs to steps of both
pub record Apart (ss ts : List Step) : Type 0 where
  pub never : (i : ℕ) → Touched i ss → Touched i ts → ⊥

-- an answer is one of two
pub record Stopped (r : Result Context Refusal) : Type 0 where
  pub never : (c : Context) → r ≡ Ok c → ⊥

pub next_is : {r : Result Context Refusal} {c d : Context} → r ≡ Ok c → r ≡ Ok d → c ≡ d
next_is e f = cc

pub not_both : {r : Result Context Refusal} {c : Context} {y : Refusal} → r ≡ Ok c → r ≡ Err y → ⊥
not_both e f = let z : ◌≡◌ {A = ℕ} 0 1 = cc in omega arith

-- the refusal t is handed up as r
pub record HandedUp (t r : Result Context Refusal) : Type 0 where
  pub stopped : Stopped t
  pub same : r ≡ t

pub handed_up : {t r : Result Context Refusal} {y : Refusal} → t ≡ Err y → IsErrAnd r (λ x. x ≡ y) → HandedUp t r
handed_up {t} {r} {y} e h =
    let (x, f, g) = err_from_is_err_and r h in
    record { stopped = record { never = λ c f. not_both f e }; same = f ∙ ap Err g ∙ sym e }

-- one step
module _ (F : List ℕ) (S : Sections) (W : List ℕ) (c : Context) (s : Step) where
  pub one_on : (W' : List ℕ) (C : Contexts.Context ℕ) (L : List (Label ℕ)) → run_step (tables_of F S) (context_at (tables_of F S) W c) s ≡ ok C L
      → context_at (tables_of F S) W' (after_step s c) ≡ C → (rest : List Step)
      → run (tables_of F S) (context_at (tables_of F S) W c) (s ∷ rest) c.steps
      ≡ with_segment (record { node = rows_begin s; rows = step_rows (tables_of F S) s L }) (run (tables_of F S) (context_at (tables_of F S) W' (after_step s c)) rest (after_step s c).steps)
  unfolding run
  one_on W' C L e m rest =
      rw e (ap₂ (λ B k. with_segment (record { node = rows_begin s; rows = step_rows (tables_of F S) s L }) (run (tables_of F S) B rest k)) (sym m) (sym (step_counted s c)))

  pub one_stop : (p q : ℕ) → run_step (tables_of F S) (context_at (tables_of F S) W c) s ≡ no p q → (rest : List Step)
      → run (tables_of F S) (context_at (tables_of F S) W c) (s ∷ rest) c.steps ≡ refused p c.steps q
  unfolding run
  one_stop p q e rest = rw e refl

  pub one_counts : (W' : List ℕ) (C : Contexts.Context ℕ) (L : List (Label ℕ)) → run_step (tables_of F S) (context_at (tables_of F S) W c) s ≡ ok C L
      → context_at (tables_of F S) W' (after_step s c) ≡ C → (rest : List Step)
      → run_pairs (tables_of F S) (context_at (tables_of F S) W c) (s ∷ rest)
      ≡ (stepping (tables_of F S) (context_at (tables_of F S) W c) s).pairs + run_pairs (tables_of F S) (context_at (tables_of F S) W' (after_step s c)) rest
  unfolding run_pairs
  one_counts W' C L e m rest = rw e (ap (λ B. (stepping (tables_of F S) (context_at (tables_of F S) W c) s).pairs + run_pairs (tables_of F S) B rest) (sym m))

  pub one_counts_to : (p q : ℕ) → run_step (tables_of F S) (context_at (tables_of F S) W c) s ≡ no p q → (rest : List Step)
      → run_pairs (tables_of F S) (context_at (tables_of F S) W c) (s ∷ rest) ≡ (stepping (tables_of F S) (context_at (tables_of F S) W c) s).pairs
  unfolding run_pairs
  one_counts_to p q e rest = rw e (add-zero _)

-- one run after another, and a refused run, whatever follows
module _ (T : Tables) (c : Context) (ss ts : List Step) (W : List ℕ) where
  again : (rest : List Step) → run T (context_at T W c) ((ss ++ ts) ++ rest) c.steps ≡ run T (context_at T W c) (ss ++ (ts ++ rest)) c.steps
  again rest = ap (λ us. run T (context_at T W c) us c.steps) (append_assoc ss ts rest)

  pub then_on : (W₁ W₂ : List ℕ) (gs hs : List Segment) → GoOn T c ss W W₁ gs → GoOn T (after_steps ss c) ts W₁ W₂ hs → GoOn T c (ss ++ ts) W W₂ (gs ++ hs)
  then_on W₁ W₂ gs hs m n rest =
      again rest
      ∙ m (ts ++ rest)
      ∙ ap (with_segments gs) (n rest)
      ∙ sym (segments_append gs hs _)
      ∙ ap (λ e. with_segments (gs ++ hs) (run T (context_at T W₂ e) rest e.steps)) (sym (after_append ss ts c))

  pub then_breaks : (W₁ : List ℕ) (gs : List Segment) (p k q : ℕ) → GoOn T c ss W W₁ gs → Break T (after_steps ss c) ts W₁ p k q → Break T c (ss ++ ts) W p k q
  then_breaks W₁ gs p k q m n rest = again rest ∙ m (ts ++ rest) ∙ ap (with_segments gs) (n rest) ∙ segments_refused gs p k q

  pub breaks_still : (p k q : ℕ) → Break T c ss W p k q → Break T c (ss ++ ts) W p k q
  breaks_still p k q n rest = again rest ∙ n (ts ++ rest)

  -- and their pairs
  again_pairs : (rest : List Step) → run_pairs T (context_at T W c) ((ss ++ ts) ++ rest) ≡ run_pairs T (context_at T W c) (ss ++ (ts ++ rest))
  again_pairs rest = ap (run_pairs T (context_at T W c)) (append_assoc ss ts rest)

  pub then_counts : (W₁ W₂ : List ℕ) (k j : ℕ) → CountsOn T c ss W W₁ k → CountsOn T (after_steps ss c) ts W₁ W₂ j → CountsOn T c (ss ++ ts) W W₂ (k + j)
  then_counts W₁ W₂ k j m n rest =
      again_pairs rest
      ∙ m (ts ++ rest)
      ∙ ap (λ i. k + i) (n rest)
      ∙ sym (add_assoc k j _)
      ∙ ap (λ e. k + j + run_pairs T (context_at T W₂ e) rest) (sym (after_append ss ts c))

  pub then_counts_to : (W₁ : List ℕ) (k j : ℕ) → CountsOn T c ss W W₁ k → CountsTo T (after_steps ss c) ts W₁ j → CountsTo T c (ss ++ ts) W (k + j)
  then_counts_to W₁ k j m n rest = again_pairs rest ∙ m (ts ++ rest) ∙ ap (λ i. k + i) (n rest)

  pub counts_still : (k : ℕ) → CountsTo T c ss W k → CountsTo T c (ss ++ ts) W k
  counts_still k n rest = again_pairs rest ∙ n (ts ++ rest)

one_kept : (s : Step) {R R' : List ℕ} → Kept (rows_begin s * 2) ((rows_begin s + node_count s) * 2) R R' → (i : ℕ) → (Touched i (s ∷ []) → ⊥) → get_or R' i 0 ≡ get_or R i 0
one_kept s {R} {R'} k i t = go (ltb i (rows_begin s * 2)) (ltb i ((rows_begin s + node_count s) * 2)) refl refl
  where
    go : (a b : Bool) → ltb i (rows_begin s * 2) ≡ a → ltb i ((rows_begin s + node_count s) * 2) ≡ b → get_or R' i 0 ≡ get_or R i 0
    go true b e f = k.before i (ltb-true i (rows_begin s * 2) e)
    go false true e f = absurd (t (touched_first (ltb-false i (rows_begin s * 2) e) (ltb-true i ((rows_begin s + node_count s) * 2) f)))
    go false false e f = k.after i (ltb-false i ((rows_begin s + node_count s) * 2) f)

module _ {F : List ℕ} {S : Sections} {X : List ℕ} where
  -- with another sum of pairs
  held_summing : {W K : List ℕ} {c : Context} (π : ℕ) → Held F S X W K c → Held F S X W K (summing π c)
  held_summing π h = record { good_tables = h.good_tables; indexed = h.indexed; scoped = h.scoped }

  run_summing : {c : Context} {ss : List Step} {R W R' W' K' : List ℕ} {gs : List Segment} {k : ℕ} (π : ℕ) → Run F S X (summing π c) ss R W R' W' K' gs k → Run F S X c ss R W R' W' K' gs k
  run_summing {c} {ss} {W' = W'} {K' = K'} {gs = gs} {k = k} π m = record {
    on = λ rest. m.on rest ∙ ap (λ e. with_segments gs (run (tables_of F S) (context_at (tables_of F S) W' e) rest e.steps)) (after_summing π ss c);
    counts = λ rest. m.counts rest ∙ ap (λ e. k + run_pairs (tables_of F S) (context_at (tables_of F S) W' e) rest) (after_summing π ss c);
    held = held_summing (after_steps ss c).pairs (subst (Held F S X W' K') (after_summing π ss c) m.held);
    written = m.written;
    kept = m.kept;
  }

  -- no step
  pub runs_none : {R W K : List ℕ} {c : Context} {r : Result Context Refusal} → r ≡ Ok c → Held F S X W K c → Runs F S X c [] R W R W K r
  unfolding after_steps with_segments
  runs_none {c = c} e h = goes [] 0 (e ∙ ap (λ k. Ok (summing k c)) (sym (add-zero c.pairs))) (record { on = λ rest. refl; counts = λ rest. sym (zero-add _); held = h; written = written_none; kept = λ i t. refl })

  pub runs_one : {c : Context} {s : Step} {R W R' W' K' : List ℕ} {r : Result Context Refusal} → Steps F S X c s R W R' W' K' r → Runs F S X c (s ∷ []) R W R' W' K' r
  unfolding after_steps with_segments
  runs_one {c} {s} {R} {W} {R'} {W'} {K'} {r} h =
      go (run_step (tables_of F S) (context_at (tables_of F S) W c) s) (stepping (tables_of F S) (context_at (tables_of F S) W c) s).pairs refl refl h
    where
      go : (o : Out (Contexts.Context ℕ)) (k : ℕ) → run_step (tables_of F S) (context_at (tables_of F S) W c) s ≡ o → (stepping (tables_of F S) (context_at (tables_of F S) W c) s).pairs ≡ k
          → Stepping F S X c s R R' W' K' r c.pairs o k → Runs F S X c (s ∷ []) R W R' W' K' r
      go o j e f (accepts C L k q a) = goes (record { node = rows_begin s; rows = step_rows (tables_of F S) s L } ∷ []) k q
          (record {
            on = one_on F S W c s W' C L e a.made;
            counts = λ rest. one_counts F S W c s W' C L e a.made rest ∙ ap (λ i. i + run_pairs (tables_of F S) (context_at (tables_of F S) W' (after_step s c)) rest) f;
            held = a.held;
            written = written_next refl a.long a.rows written_none;
            kept = one_kept s a.kept;
          })
      go o j e f (refuses p q k i) = stops (refusal_at (summing (c.pairs + k) c) p q) k i refl (one_stop F S W c s p q e) (λ rest. one_counts_to F S W c s p q e rest ∙ f)

  -- one run after another
  module _ {c : Context} {ss ts : List Step} {R W R₁ W₁ K₁ R₂ W₂ K₂ : List ℕ} where
    then_goes : (gs hs : List Segment) (k j : ℕ) → Apart ss ts → Run F S X c ss R W R₁ W₁ K₁ gs k → Run F S X (after_steps ss c) ts R₁ W₁ R₂ W₂ K₂ hs j
        → Run F S X c (ss ++ ts) R W R₂ W₂ K₂ (gs ++ hs) (k + j)
    then_goes gs hs k j a m n = record {
      on = then_on (tables_of F S) c ss ts W W₁ W₂ gs hs m.on n.on;
      counts = then_counts (tables_of F S) c ss ts W W₁ W₂ k j m.counts n.counts;
      held = subst (Held F S X W₂ K₂) (sym (after_append ss ts c)) n.held;
      written = written_append (written_kept (λ i t. n.kept i (λ u. a.never i t u)) m.written) n.written;
      kept = λ i t. n.kept i (λ u. t (touched_right ss u)) ∙ m.kept i (λ u. t (touched_left ts u));
    }

    pub runs_then : {d : Context} {r₁ r : Result Context Refusal} → Apart ss ts → r₁ ≡ Ok d → Runs F S X c ss R W R₁ W₁ K₁ r₁ → Runs F S X d ts R₁ W₁ R₂ W₂ K₂ r → Runs F S X c (ss ++ ts) R W R₂ W₂ K₂ r
    runs_then a e (stops y k f h o u) n = absurd (not_both e f)
    runs_then {d} {r₁} {r} a e (goes gs k f m) n = next (subst (λ x. Runs F S X x ts R₁ W₁ R₂ W₂ K₂ r) (next_is e f) n)
      where
        after : (j : ℕ) → summing (c.pairs + k + j) (after_steps ts (summing (c.pairs + k) (after_steps ss c))) ≡ summing (c.pairs + (k + j)) (after_steps (ss ++ ts) c)
        after j =
            ap (summing (c.pairs + k + j)) (after_summing (c.pairs + k) ts (after_steps ss c))
            ∙ ap₂ (λ i x. summing i x) (add_assoc c.pairs k j) (sym (after_append ss ts c))

        next : Runs F S X (summing (c.pairs + k) (after_steps ss c)) ts R₁ W₁ R₂ W₂ K₂ r → Runs F S X c (ss ++ ts) R W R₂ W₂ K₂ r
        next (goes hs j g n) = goes (gs ++ hs) (k + j) (g ∙ ap (λ x. Ok x) (after j)) (then_goes gs hs k j a m (run_summing (c.pairs + k) n))
        next (stops y j g h n o) =
            stops y (k + j) g (h ∙ add_assoc c.pairs k j) (then_breaks (tables_of F S) c ss ts W W₁ gs y.number y.step y.place m.on n)
            (then_counts_to (tables_of F S) c ss ts W W₁ k j m.counts o)

  -- a refused run stays refused, whatever follows
  pub runs_stop : {c : Context} {ss : List Step} {R W R₁ W₁ K₁ R₂ W₂ K₂ : List ℕ} {r : Result Context Refusal} (ts : List Step) → Stopped r
      → Runs F S X c ss R W R₁ W₁ K₁ r → Runs F S X c (ss ++ ts) R W R₂ W₂ K₂ r
  runs_stop ts e (goes gs k f m) = absurd (e.never _ f)
  runs_stop {c} {ss} {W = W} ts e (stops y k f h n o) =
      stops y k f h (breaks_still (tables_of F S) c ss ts W y.number y.step y.place n) (counts_still (tables_of F S) c ss ts W k o)

  -- what an accepted run says
  pub runs_next : {c d : Context} {ss : List Step} {R W R₁ W₁ K₁ : List ℕ} {r : Result Context Refusal} → r ≡ Ok d → Runs F S X c ss R W R₁ W₁ K₁ r
      → (d ≡ summing d.pairs (after_steps ss c)) × Held F S X W₁ K₁ d
  runs_next {c} {d} {ss} {W₁ = W₁} {K₁ = K₁} e (goes gs k f m) =
      let is = next_is e f in
      (is ∙ ap (λ x. summing x.pairs (after_steps ss c)) (sym is), subst (Held F S X W₁ K₁) (sym is) (held_summing (c.pairs + k) m.held))
  runs_next e (stops y k f h n o) = absurd (not_both e f)

  pub runs_sum : {c d : Context} {ss : List Step} {R W R₁ W₁ K₁ : List ℕ} {r : Result Context Refusal} → r ≡ Ok d → Runs F S X c ss R W R₁ W₁ K₁ r
      → d.pairs ≡ c.pairs + run_pairs (tables_of F S) (context_at (tables_of F S) W c) ss
  unfolding run_pairs
  runs_sum {c} {d} {ss} {W = W} e (goes gs k f m) =
      ap (λ x. x.pairs) (next_is e f)
      ∙ ap (λ i. c.pairs + i) (sym (m.counts [] ∙ add-zero k) ∙ ap (run_pairs (tables_of F S) (context_at (tables_of F S) W c)) (append-nil ss))
  runs_sum e (stops y k f h n o) = absurd (not_both e f)
