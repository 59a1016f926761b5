-- The check of a readable file: the answer and the rows are the definition's; and the check on bytes and buffers. Assumes nothing.
use mathlib.Core.Path.{◌≡◌, refl, ap, ap₂, sym, subst, ◌∙◌}
use mathlib.Core.List.{List, [], ◌∷◌, ◌++◌, append-nil}
use mathlib.Core.Logic.{◌⊎◌, ⊎_elim}
use Prim.Native.Nat.{ℕ, ◌+◌, ◌*◌, ◌≤◌, ◌<◌}
use native.Mathlib.Nat.{zero-add, add-zero}
use native.Mathlib.Omega.{arith}
use lib.ListN.{length, get_or, take, drop, replicate}
use lib.Seq.{drop_at, length-take-le}
use Rattle.std.specs.Prelude.{Result, Ok, Err}
use Rattle.oat.specs.Basics.{tabulate}
use Rattle.oat.specs.Tables.{Tables}
use Rattle.oat.specs.Types.{structs_of}
use Rattle.oat.specs.Syntax.{size_decls}
use Rattle.oat.specs.ProgramFile.{Limits, widest, Program, meant, IsFile}
use Rattle.oat.proofs.LawsBlank.{meant_is_file}
use Rattle.oat.proofs.LawsLimits.{within_widest, wider}
use Rattle.typing_rules.specs.Steps.{Step, steps_of, empty_context}
use Rattle.typing_rules.specs.Check.{Segment, Ran, accepted, refused, with_segment, run, run_pairs, answer_of as program_answer, check_of}
use Rattle.typing_rules.proofs.Theorem.{run_of}
use Rattle.typing_rules.proofs.LawsPairs.{check_pairs, sum_most}
use Rattle.typing_rules.proofs.RowsTheorem.{segments_long}
use Rattle.file_sections.specs.declared.Sections.{Sections}
use Rattle.file_sections.specs.declared.Unreadable.{Unreadable}
use Rattle.file_sections.specs.Unreadable.{unreadable_number}
use Rattle.file_sections.specs.Layout.{tables_of, GoodTables}
use Rattle.program_file.specs.Reading.{reading_within, reading_of}
use Rattle.program_file.proofs.Theorem.{Bytes, within_tables, good_tables}
use Rattle.program_file.proofs.LawsOpened.{opened, tables_are, nodes_are, declares}
use Rattle.type_index.specs.Index.{Indexed}
use Rattle.bindings.specs.Bindings.{names_of}
use Rattle.bindings.proofs.LawsBindings.{scoped_none}
use Rattle.demand3.specs.CheckFile.{needed, outcome, Checks, unreadable, rows_short, work_short, checked}
use Rattle.demand3.proofs.Theorem.{fits, sum_of, demand3, check_numbers}
use Rattle.demand3.proofs.LawsPlaces.{refused_fits, accepted_fits}
use Rattle.steps.specs.declared.context.Context.{Context}
use Rattle.steps.specs.declared.context.Refusal.{Refusal}
use Rattle.steps.specs.Contract.{context_at, summing}
use Rattle.typing.specs.declared.check.Answer.{Answer}
use Rattle.typing.specs.Runs.{start, after_steps, with_segments, Written, Runs, goes, stops, ReadyRun, program_of, ToldRun}
use Rattle.typing.specs.Check.{outcome_of, Checked, Demands, WasRead, ToldSections, answer_of, rows_after, Small, ReadyCheck, AnswersAs, ToldCheck}
use Rattle.typing.proofs.LawsRows.{rows_are}

-- segments, with nothing after them
segments_all : (gs : List Segment) (k : ℕ) → with_segments gs (accepted [] k) ≡ accepted gs k
unfolding with_segments
segments_all [] k = refl
segments_all (g ∷ gs) k = ap (with_segment g) (segments_all gs k)

empty_start : (T : Tables) (W : List ℕ) → context_at T W start ≡ empty_context
unfolding names_of structs_of tabulate
empty_start T W = refl

-- a file's program, and its sections
module _ {F : List ℕ} {S : Sections} (p : Program) (f : IsFile widest F p) (e : reading_within widest F ≡ Ok S) where
  program_is : p ≡ program_of F S p.declarations
  program_is = ap (λ T. record { tables = T; declarations = p.declarations }) (tables_are p f e)

  run_is : (W : List ℕ) → run_of p ≡ run (tables_of F S) (context_at (tables_of F S) W start) (steps_of (program_of F S p.declarations) ++ []) 0
  run_is W =
      ap run_of program_is
      ∙ ap₂ (λ C ss. run (tables_of F S) C ss 0) (sym (empty_start (tables_of F S) W)) (sym (append-nil (steps_of (program_of F S p.declarations))))

  sum_is : (W : List ℕ) → sum_of p ≡ run_pairs (tables_of F S) (context_at (tables_of F S) W start) (steps_of (program_of F S p.declarations) ++ [])
  sum_is W =
      ap sum_of program_is
      ∙ ap₂ (run_pairs (tables_of F S)) (sym (empty_start (tables_of F S) W)) (sym (append-nil (steps_of (program_of F S p.declarations))))

-- what a run of all steps of the program p says
pub data Ends (p : Program) (R' : List ℕ) (r : Result Context Refusal) : Type 0 where
  ends_next : (c : Context) (ss : List Step) (gs : List Segment) → r ≡ Ok c → run_of p ≡ accepted gs c.steps → sum_of p ≡ c.pairs → Written R' ss gs → Ends p R' r
  ends_refused : (y : Refusal) → r ≡ Err y → run_of p ≡ refused y.number y.step y.place → sum_of p ≡ y.pairs → Ends p R' r

run_ends : {F : List ℕ} {S : Sections} {X R W R' W' K' : List ℕ} {r : Result Context Refusal} (p : Program) → IsFile widest F p → reading_within widest F ≡ Ok S
    → Runs F S X start (steps_of (program_of F S p.declarations)) R W R' W' K' r → Ends p R' r
unfolding run run_pairs
run_ends {F} {S} {W = W} p f e (goes gs k q m) =
    ends_next (summing (0 + k) (after_steps (steps_of (program_of F S p.declarations)) start)) _ gs q
    (run_is p f e W ∙ m.on [] ∙ segments_all gs _)
    (sum_is p f e W ∙ m.counts [] ∙ add-zero k ∙ sym (zero-add k))
    m.written
run_ends {F} {S} {W = W} p f e (stops y k q h m o) = ends_refused y q (run_is p f e W ∙ m []) (sum_is p f e W ∙ o [] ∙ sym (h ∙ zero-add k))

-- a file has few nodes, so the sum has 32 bits
sum_fits : {F : List ℕ} {S : Sections} (p : Program) → IsFile widest F p → reading_within widest F ≡ Ok S → sum_of p ≤ 4294967295
sum_fits {F} {S} p f e =
    omega (
      arith,
      sum_most p (fits F p f) f.used_up,
      check_pairs p,
      nodes_are p f e,
      (within_tables widest F S (omega arith) e).laid.nodes_most,
    )

-- the numbers of the answer
ends_small : {F : List ℕ} {S : Sections} {R' : List ℕ} {r : Result Context Refusal} (p : Program) → IsFile widest F p → reading_within widest F ≡ Ok S → Ends p R' r → Small r
ends_small {F} p f h (ends_next c ss gs q e o w) = record {
  next = λ d i.
      let same : c ≡ d = cc in
      subst (λ x. (x.steps < 65535) × (x.pairs ≤ 4294967295)) same (accepted_fits F p f gs c.steps e, omega (arith, o, sum_fits p f h));
  refused = λ y i. absurd (let z : ◌≡◌ {A = ℕ} 0 1 = cc in omega arith);
}
ends_small {F} {r = r} p f h (ends_refused y q e o) = record {
  next = λ d i. absurd (let z : ◌≡◌ {A = ℕ} 0 1 = cc in omega arith);
  refused = λ x i.
      let same : y ≡ x = cc in
      let (a, b, c) = refused_fits F p f y.number y.step y.place e in
      subst (λ x. (x.number ≤ 16) × (x.step < 65535) × (x.place < 65535) × (x.pairs ≤ 4294967295)) same (omega arith, omega arith, omega arith, omega (arith, o, sum_fits p f h));
}

-- the answer and the rows
check_is : (p : Program) (a : Ran) (k : ℕ) → run_of p ≡ a → sum_of p ≡ k → check_of p ≡ program_answer p k a
unfolding check_of
check_is p a k e f = ap₂ (program_answer p) f e

ends_answer : {F : List ℕ} {S : Sections} {R' : List ℕ} {r : Result Context Refusal} (p : Program) → IsFile widest F p → reading_within widest F ≡ Ok S → length R' ≡ S.nodes * 2
    → Ends p R' r → AnswersAs p (rows_after r R') (answer_of r)
ends_answer {F} {S} {R'} p f e l (ends_next c ss gs q h o w) =
    let long : length R' ≡ 2 * size_decls p.declarations = omega (arith, nodes_are p f e, f.used_up) in
    let rows = rows_are p.declarations (segments_long p (fits F p f) gs c.steps h) w long in
    let is = sym (check_is p (accepted gs c.steps) c.pairs h o) in
    subst (λ x. AnswersAs p (rows_after x R') (answer_of x)) (sym q)
    (record { number = ap (λ a. a.number) is; step = ap (λ a. a.step) is; place = ap (λ a. a.place) is; pairs = ap (λ a. a.pairs) is; rows = rows ∙ ap (λ a. a.rows) is })
ends_answer {F} {S} {R'} p f e l (ends_refused y q h o) =
    let long : length R' ≡ 2 * length p.tables.nodes = omega (arith, nodes_are p f e) in
    let is = sym (check_is p (refused y.number y.step y.place) y.pairs h o) in
    subst (λ x. AnswersAs p (rows_after x R') (answer_of x)) (sym q)
    (record {
      number = ap (λ a. a.number) is;
      step = ap (λ a. a.step) is;
      place = ap (λ a. a.place) is;
      pairs = ap (λ a. a.pairs) is;
      rows = ap (λ k. replicate k 65535) long ∙ ap (λ a. a.rows) is;
    })

-- the check of a readable file
module _ {F : List ℕ} {S : Sections} {R W : List ℕ} (z : ReadyCheck F S R W) where
  pub check_tables : GoodTables F S
  check_tables = within_tables widest F S (omega arith) z.reads

  pub check_run : {X K : List ℕ} → Indexed X (tables_of F S) S.types → 4736 ≤ length K → ((h : ℕ) → h < 512 → get_or K h 0 ≡ 0) → ReadyRun F S X W K
  check_run {X} {K} x k h = record {
    held = record { good_tables = check_tables; indexed = x; scoped = scoped_none F S W K check_tables.laid (omega (arith, z.work_long)) k h };
    declarations = z.program.declarations;
    declares = declares z.program z.file z.reads;
  }

  module _ {X R₁ W₁ K₁ : List ℕ} {r : Result Context Refusal} (m : ToldRun F S X R W R₁ W₁ K₁ r) where
    pub check_small : Small r
    check_small =
        let p = z.program in
        ends_small p z.file z.reads (run_ends p z.file z.reads (m.tells p.declarations (declares p z.file z.reads)))

    pub check_told : {R' W' : List ℕ} {a : Answer} → length R₁ ≡ length R → length W' ≡ length W → a ≡ answer_of r → R' ≡ rows_after r R₁ → ToldCheck F S R' W' a
    check_told {R'} {W'} {a} l w ea e_r = record {
      tells = λ p f.
          subst (λ x. AnswersAs p R' x) (sym ea)
          (subst (λ x. AnswersAs p x (answer_of r)) (sym e_r)
          (ends_answer p f z.reads (l ∙ z.rows_long) (run_ends p f z.reads (m.tells p.declarations (declares p f z.reads)))));
      work_long = w ∙ z.work_long;
    }

-- a readable file has few nodes
pub nodes_few : {F : List ℕ} {S : Sections} → WasRead F S → S.nodes ≤ 4096
nodes_few {F} {S} w = (good_tables w.limits F (reading_of w.limits F) S refl w.reads).laid.nodes_most

needed_is : {F : List ℕ} {S : Sections} (p : Program) → IsFile widest F p → reading_within widest F ≡ Ok S → needed p ≡ S.nodes * 2
needed_is p f e = omega (arith, nodes_are p f e)

-- the check on bytes and buffers: 25 and 1 to 5
module _ {l : Limits} {F R W : List ℕ} where
  pub check_unread : {a : Answer} {r : Result Sections Unreadable} {u : Unreadable} {m : ℕ} → r ≡ reading_of l F → r ≡ Err u → m ≡ unreadable_number u → a ≡ record { number = m; step = 0; place = 0; pairs = 0 } → Checked l F R W R W a
  check_unread {a} {r} {u} {m} e h k q =
      record {
        checks = subst (λ x. Checks l F R W (outcome_of x R)) (sym q) (subst (λ k. Checks l F R W (outcome k 0 0 0 R)) (sym k) (unreadable u (sym e ∙ h)));
        unchanged = λ a. refl;
        rest = λ p f. refl;
      }

  -- 6
  pub check_rows_short : {S : Sections} {r : Answer} → Bytes F → reading_of l F ≡ Ok S → length R < S.nodes * 2 → r ≡ record { number = 6; step = 0; place = 0; pairs = 0 } → Checked l F R W R W r
  check_rows_short {S} {r} b e h q =
      let d = opened l F S b e in
      record {
        checks = subst (λ x. Checks l F R W (outcome_of x R)) (sym q) (rows_short d.range d.program d.file (omega (arith, needed_is d.program d.wide d.reads)));
        unchanged = λ a. refl;
        rest = λ p f. refl;
      }

  pub check_work_short : {S : Sections} {r : Answer} → Bytes F → reading_of l F ≡ Ok S → S.nodes * 2 ≤ length R → length W < S.nodes * 2 → r ≡ record { number = 6; step = 0; place = 0; pairs = 0 } → Checked l F R W R W r
  check_work_short {S} {r} b e k h q =
      let d = opened l F S b e in
      let n = needed_is d.program d.wide d.reads in
      record {
        checks = subst (λ x. Checks l F R W (outcome_of x R)) (sym q) (work_short d.range d.program d.file (omega (arith, n)) (omega (arith, n)));
        unchanged = λ a. refl;
        rest = λ p f. refl;
      }

-- the check itself, of the bytes G that are meant, on the parts that are lent
module _ (l : Limits) (F R W : List ℕ) where
  module _ {S : Sections} {G : List ℕ} (b : Bytes F) (e : reading_of l F ≡ Ok S) (is : G ≡ meant F) (m : S.nodes * 2 ≤ length R) (k : S.nodes * 2 ≤ length W) where
    pub check_ready : ReadyCheck G S (take (S.nodes * 2) R) (take (S.nodes * 2) W)
    check_ready =
        let d = opened l F S b e in
        subst (λ x. ReadyCheck x S (take (S.nodes * 2) R) (take (S.nodes * 2) W)) (sym is) (record { reads = d.reads; program = d.program; file = d.wide; rows_long = length-take-le (S.nodes * 2) R m; work_long = length-take-le (S.nodes * 2) W k })

    pub check_good : {R₁ W₁ : List ℕ} {a : Answer} → ToldCheck G S R₁ W₁ a → Checked l F R W (R₁ ++ drop (S.nodes * 2) R) (W₁ ++ drop (S.nodes * 2) W) a
    check_good {R₁} {W₁} {a} told =
        let d = opened l F S b e in
        let p = d.program in
        let n : needed p ≡ S.nodes * 2 = needed_is p d.wide d.reads in
        let t = (subst (λ x. ToldCheck x S R₁ W₁ a) is told).tells p d.wide in
        let c : Checks l F R W (outcome (check_of p).number (check_of p).step (check_of p).place (check_of p).pairs ((check_of p).rows ++ drop (needed p) R)) = checked d.range p d.file (omega arith) (omega arith) in
        record {
          checks = same_checks t.number t.step t.place t.pairs (ap₂ (λ x m. x ++ drop m R) t.rows (sym n)) c;
          unchanged = λ low. absurd (not_low p t low);
          rest = λ q h. rest_stays (needed q) (needed_is q (meant_is_file F (wider (within_widest l d.range) h)) d.reads ∙ sym told.work_long);
        }
      where
        same_checks : {n s q k n' s' q' k' : ℕ} {A B : List ℕ} → n ≡ n' → s ≡ s' → q ≡ q' → k ≡ k' → A ≡ B → Checks l F R W (outcome n' s' q' k' B) → Checks l F R W (outcome n s q k A)
        same_checks e f g i h c = rw (e, f, g, i, h) c

        rest_stays : (m : ℕ) → m ≡ length W₁ → drop m (W₁ ++ drop (S.nodes * 2) W) ≡ drop m W
        rest_stays m e = drop_at W₁ (drop (S.nodes * 2) W) m (sym e) ∙ ap (λ x. drop x W) (sym (e ∙ told.work_long))

        not_low : (p : Program) → AnswersAs p R₁ a → (a.number ≡ 25) ⊎ ((1 ≤ a.number) × (a.number ≤ 6)) → ⊥
        not_low p t low =
            ⊎_elim
            (λ zero. ⊎_elim (λ x. omega (arith, x, zero, t.number)) (λ x. omega (arith, x.0, zero, t.number)) low)
            (λ typed. ⊎_elim (λ x. omega (arith, x, typed.1, t.number)) (λ x. omega (arith, x.1, typed.0, t.number)) low)
            (check_numbers p)

-- demand 3, of any of these
demands : {l : Limits} {F R W R' W' : List ℕ} {r : Answer} → Checked l F R W R' W' r → Demands l F R W R' r
demands {l} {F} {R} {W} {R'} {W'} {r} c = record { demand3 = λ i p f k m. demand3 l F R W i p f k m (outcome_of r R') c.checks }

pub with_demands : {l : Limits} {F R W R' W' : List ℕ} {r : Answer} → Checked l F R W R' W' r → Checked l F R W R' W' r × Demands l F R W R' r
with_demands c = (c, demands c)

-- of a file that was read, under each of its limits
pub told_sections : {F R W R' W' : List ℕ} {S : Sections} {r : Answer} → ((l : Limits) → reading_of l F ≡ Ok S → Checked l F R W R' W' r) → ToldSections F S R W R' W' r
told_sections f = record { checked = f; demands = λ l e. demands (f l e) }

-- a file that was read under the limits l, and what the check of its sections says under these
module _ (l : Limits) {F : List ℕ} {S : Sections} {g : Result Sections Unreadable} (i : g ≡ reading_of l F) (j : g ≡ Ok S) where
  pub was_read : WasRead F S
  was_read = record { limits = l; reads = sym i ∙ j }

  pub check_told_sections : {R W R' W' : List ℕ} {r : Answer} → ToldSections F S R W R' W' r → Checked l F R W R' W' r × Demands l F R W R' r
  check_told_sections t = (t.checked l (sym i ∙ j), t.demands l (sym i ∙ j))
