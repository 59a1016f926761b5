-- Demand 3 (`demand3`): it holds of the outcome of every readable file under limits in range, with long enough buffers, whatever they hold. And
-- the check on bytes has one outcome for every input (`has_outcome`, `one_outcome`), whose number is 25 or at most 16 (`outcome_number`), 25
-- exactly when a limit is out of its range (`limits_first`, `limits_alone`). Assumes nothing.
use mathlib.Core.Path.{◌≡◌, refl, ap, sym, ◌∙◌, subst}
use mathlib.Core.Bool.{Bool, true, false}
use mathlib.Core.List.{List, [], ◌++◌}
use mathlib.Core.Logic.{◌⊎◌, inl, inr, ⊎_elim}
use Prim.Native.Nat.{ℕ, ◌+◌, ◌*◌, ◌≤◌}
use native.Mathlib.Omega.{arith}
use lib.ListN.{length, take, drop, replicate, length-append, length-replicate}
use lib.Dec.{eqb, ltb}
use borrow.Author.Tests.{ltb-true, ltb-false, lt-ltb, le-ltb, eqb-true, eqb-false}
use lib.Seq.{take_at, drop_at, take-length}
use Rattle.oat.specs.Basics.{pick}
use Rattle.oat.specs.Tables.{Tables}
use Rattle.oat.specs.Types.{Ty}
use Rattle.oat.specs.Syntax.{Decl, size, size_block, size_decls}
use Rattle.oat.specs.ProgramFile.{Limits, in_range, widest, Program, IsFile}
use Rattle.oat.proofs.LawsLimits.{within_widest, wider}
use Rattle.std.specs.Prelude.{Result, Ok, Err}
use Rattle.file_sections.specs.declared.Sections.{Sections}
use Rattle.file_sections.specs.declared.Unreadable.{Unreadable}
use Rattle.file_sections.specs.Unreadable.{unreadable_number}
use Rattle.program_file.specs.Reading.{reading_of}
use Rattle.program_file.proofs.LawsReading.{reading_out_of_range, good_in_range}
use Rattle.program_file.proofs.Theorem.{Bytes, program-of, one_program, refused_from_1_to_5, refused_numbers, not_refused}
use Rattle.typing_rules.specs.Contexts.{Context}
use Rattle.typing_rules.specs.Labels.{Labels}
use Rattle.typing_rules.specs.Steps.{Step, steps_of, SameOn, same_none, same_step, empty_context, DerivesFile}
use Rattle.typing_rules.specs.Check.{Segment, Ran, accepted, refused, run_pairs, rows_from, Answer, answer_of, check_of}
use Rattle.typing_rules.specs.Rows.{DeclRows, no_rows, global_rows, function_rows}
use Rattle.typing_rules.proofs.Theorem.{Fits, file_fits, run_of, accepted_derives, derives_accepted, refused_step}
use Rattle.typing_rules.proofs.LawsNumbers.{refused_number}
use Rattle.typing_rules.proofs.RowsTheorem.{rows_are_derived, rows_long, parameters_long, labels_long}
use Rattle.demand3.specs.CheckFile.{needed, Outcome, outcome, Checks, unreadable, rows_short, work_short, checked}
use Rattle.demand3.specs.Demand3.{Derivable, StopsAt, Demand3}

-- a file's program keeps the rules
pub fits : (bytes : List ℕ) (p : Program) → IsFile widest bytes p → Fits p
fits bytes p f = file_fits 100 bytes p f

-- how many numbers rows are
pub decls_long : {T : Tables} {D : Labels Ty} {n : ℕ} {ds : List Decl} {R : List ℕ} → DeclRows T D n ds R → length R ≡ 2 * size_decls ds
decls_long no_rows = refl
decls_long {D = D} (global_rows {n = n} {a = a} {R = R} {Q = Q} r s) =
    rw length-append (omega (arith, rows_long r, labels_long D n (1 + size a), decls_long s))
decls_long {D = D} (function_rows {n = n} {ps = ps} {b = b} {P = P} {R = R} {Q = Q} m q r s) =
    simp length-append (omega (arith, parameters_long q, rows_long r, labels_long D (n + 1 + length ps) (size_block b), decls_long s))

-- two derivations that are the same as a third are the same
same_both : {D E F : Labels Ty} {ss : List Step} → SameOn D E ss → SameOn D F ss → SameOn E F ss
same_both same_none same_none = same_none
same_both (same_step f r) (same_step g s) = same_step (λ m h. sym (f m h) ∙ g m h) (same_both r s)

-- the pairs that its steps compare
abbrev pub sum_of : Program → ℕ
sum_of p = run_pairs p.tables empty_context (steps_of p)

-- the outcome of a file of p
outcome_of : Program → List ℕ → Answer → Outcome
outcome_of p rows a = outcome a.number a.step a.place a.pairs (a.rows ++ drop (needed p) rows)

-- accepted
module _ (p : Program) (rows : List ℕ) (f : Fits p) (used : size_decls p.declarations ≡ length p.tables.nodes) (gs : List Segment) (k : ℕ) (e : run_of p ≡ accepted gs k) where
  derivable : Derivable p
  derivable = let (n, D, C, o) = accepted_derives p f gs k e in record { labels = D; context = C; derives = o.derives }

  only_one : (D E : Labels Ty) (C B : Context Ty) → DerivesFile p D C → DerivesFile p E B → SameOn D E (steps_of p) × (C ≡ B)
  only_one D E C B d c =
      let (n, F, A, o) = accepted_derives p f gs k e in
      let (s, a) = o.only D C d in
      let (t, b) = o.only E B c in
      (rw (take-length (steps_of p)) at (same_both s t), sym a ∙ b)

  accepted_rows : (D : Labels Ty) (C : Context Ty) → DerivesFile p D C → DeclRows p.tables D 0 p.declarations (take (needed p) (rows_from gs 0 p.declarations ++ drop (needed p) rows))
  accepted_rows D C d =
      let r = rows_are_derived p f gs k e D C d in
      let long : length (rows_from gs 0 p.declarations) ≡ needed p = decls_long r ∙ ap (λ n. 2 * n) used in
      subst (DeclRows p.tables D 0 p.declarations) (sym (take_at (rows_from gs 0 p.declarations) (drop (needed p) rows) (needed p) long)) r

  accepted_rest : drop (needed p) (rows_from gs 0 p.declarations ++ drop (needed p) rows) ≡ drop (needed p) rows
  accepted_rest =
      let d = derivable in
      let r = rows_are_derived p f gs k e d.labels d.context d.derives in
      drop_at (rows_from gs 0 p.declarations) (drop (needed p) rows) (needed p) (decls_long r ∙ ap (λ n. 2 * n) used)

  accepted_case : Demand3 p rows (outcome_of p rows (answer_of p (sum_of p) (accepted gs k)))
  unfolding outcome_of
  accepted_case = record {
    accepted = (λ z. derivable, λ d. refl);
    one_derivation = only_one;
    its_rows = accepted_rows;
    refused = (λ r. absurd (omega arith), λ none. absurd (none derivable));
    stops = λ none. absurd (none derivable);
    filled = λ none. absurd (none derivable);
    rest = accepted_rest;
  }

-- refused
module _ (p : Program) (rows : List ℕ) (f : Fits p) (m j q : ℕ) (e : run_of p ≡ refused m j q) where
  none_derives : (D : Labels Ty) (C : Context Ty) → DerivesFile p D C → ⊥
  none_derives D C d = let (gs, a) = derives_accepted p f D C d in let z : ◌≡◌ {A = ℕ} 0 1 = cc in omega arith

  none_derivable : Derivable p → ⊥
  none_derivable d = none_derives d.labels d.context d.derives

  stopped : StopsAt p j
  stopped = let (w, D, C, o, none) = refused_step p f m j q e in record { within = w; labels = D; context = C; before = o; none = none }

  refused_case : Demand3 p rows (outcome_of p rows (answer_of p (sum_of p) (refused m j q)))
  unfolding outcome_of
  refused_case =
      let (low, high) = refused_number p m j q e in
      record {
        accepted = (λ z. absurd (omega arith), λ d. absurd (none_derivable d));
        one_derivation = λ D E C B d c. absurd (none_derives D C d);
        its_rows = λ D C d. absurd (none_derives D C d);
        refused = (λ r. none_derivable, λ none. (low, high));
        stops = λ none. stopped;
        filled = λ none. take_at (replicate (needed p) 65535) (drop (needed p) rows) (needed p) (length-replicate (needed p) 65535);
        rest = drop_at (replicate (needed p) 65535) (drop (needed p) rows) (needed p) (length-replicate (needed p) 65535);
      }

run_case : (p : Program) (rows : List ℕ) → Fits p → size_decls p.declarations ≡ length p.tables.nodes → (r : Ran) → run_of p ≡ r → Demand3 p rows (outcome_of p rows (answer_of p (sum_of p) r))
run_case p rows f used (accepted gs k) e = accepted_case p rows f used gs k e
run_case p rows f used (refused m j q) e = refused_case p rows f m j q e

checked_case : (bytes rows : List ℕ) (p : Program) → IsFile widest bytes p → Demand3 p rows (outcome_of p rows (check_of p))
unfolding check_of
checked_case bytes rows p f = run_case p rows (fits bytes p f) f.used_up (run_of p) refl

module _ (limits : Limits) (bytes rows work : List ℕ) where
  -- a file's program gives its outcome
  same_outcome : (p q : Program) → IsFile limits bytes p → IsFile limits bytes q → outcome_of q rows (check_of q) ≡ outcome_of p rows (check_of p)
  same_outcome p q f g = ap (λ (x : Program). outcome_of x rows (check_of x)) (one_program limits bytes q p g f)

  pub outcome_is : in_range limits ≡ true → (p : Program) → IsFile limits bytes p → needed p ≤ length rows → needed p ≤ length work → (o : Outcome) → Checks limits bytes rows work o
      → o ≡ outcome (check_of p).number (check_of p).step (check_of p).place (check_of p).pairs ((check_of p).rows ++ drop (needed p) rows)
  unfolding outcome_of
  outcome_is i p f r w o (unreadable n e) = absurd (not_refused limits i bytes n e p f)
  outcome_is i p f r w o (rows_short j q g l) =
      let same : needed q ≡ needed p = ap needed (one_program limits bytes q p g f) in
      absurd (omega arith)
  outcome_is i p f r w o (work_short j q g l k) =
      let same : needed q ≡ needed p = ap needed (one_program limits bytes q p g f) in
      absurd (omega arith)
  outcome_is i p f r w o (checked j q g l k) = same_outcome p q f g

  pub demand3 : in_range limits ≡ true → (p : Program) → IsFile limits bytes p → needed p ≤ length rows → needed p ≤ length work → (o : Outcome) → Checks limits bytes rows work o → Demand3 p rows o
  unfolding outcome_of
  demand3 i p f r w o c = subst (Demand3 p rows) (sym (outcome_is i p f r w o c)) (checked_case bytes rows p (wider (within_widest limits i) f))

  -- every input has an outcome
  lengths : in_range limits ≡ true → (p : Program) → IsFile limits bytes p → (a b : Bool) → ltb (length rows) (needed p) ≡ a → ltb (length work) (needed p) ≡ b → (o : Outcome) × Checks limits bytes rows work o
  lengths i p f true b h k = (_, rows_short i p f (ltb-true (length rows) (needed p) h))
  lengths i p f false true h k = (_, work_short i p f (ltb-false (length rows) (needed p) h) (ltb-true (length work) (needed p) k))
  lengths i p f false false h k = (_, checked i p f (ltb-false (length rows) (needed p) h) (ltb-false (length work) (needed p) k))

  reads : Bytes bytes → (r : Result Sections Unreadable) → reading_of limits bytes ≡ r → (o : Outcome) × Checks limits bytes rows work o
  reads b (Err n) e = (_, unreadable n e)
  reads b (Ok S) e =
      let (i, good) = good_in_range limits bytes S e in
      let (p, f) = program-of limits bytes S b good in
      lengths i p f _ _ refl refl

  pub has_outcome : Bytes bytes → (o : Outcome) × Checks limits bytes rows work o
  has_outcome b = reads b (reading_of limits bytes) refl

-- the definition of the check accepts, or refuses under 7 to 16
pub check_numbers : (p : Program) → ((check_of p).number ≡ 0) ⊎ ((7 ≤ (check_of p).number) × ((check_of p).number ≤ 16))
unfolding check_of
check_numbers p = go (run_of p) refl
  where
    go : (a : Ran) → run_of p ≡ a → ((answer_of p (sum_of p) (run_of p)).number ≡ 0) ⊎ ((7 ≤ (answer_of p (sum_of p) (run_of p)).number) × ((answer_of p (sum_of p) (run_of p)).number ≤ 16))
    go (accepted gs k) e = inl (ap (λ x. (answer_of p (sum_of p) x).number) e)
    go (refused m k q) e =
        let is : (answer_of p (sum_of p) (run_of p)).number ≡ m = ap (λ x. (answer_of p (sum_of p) x).number) e in
        let (low, high) = refused_number p m k q e in
        inr (omega (arith, is, low), omega (arith, is, high))

-- its rows have two numbers for each node
pub check_long : (p : Program) → Fits p → size_decls p.declarations ≡ length p.tables.nodes → length (check_of p).rows ≡ needed p
unfolding check_of
check_long p f used = go (run_of p) refl
  where
    go : (a : Ran) → run_of p ≡ a → length (answer_of p (sum_of p) (run_of p)).rows ≡ needed p
    go (accepted gs k) e =
        let d = derivable p [] f used gs k e in
        ap (λ x. length (answer_of p (sum_of p) x).rows) e ∙ decls_long (rows_are_derived p f gs k e d.labels d.context d.derives) ∙ ap (λ n. 2 * n) used
    go (refused m k q) e = ap (λ x. length (answer_of p (sum_of p) x).rows) e ∙ length-replicate (needed p) 65535

-- the check on bytes gives 25, or a number up to 16
pub outcome_number : {l : Limits} {F R W : List ℕ} (o : Outcome) → Checks l F R W o → (o.number ≡ 25) ⊎ (o.number ≤ 16)
outcome_number {l} {F} o (unreadable n e) = ⊎_elim inl (λ low. inr (omega (arith, low.1))) (refused_numbers l F n e)
outcome_number o (rows_short i p f k) = inr (omega arith)
outcome_number o (work_short i p f k m) = inr (omega arith)
outcome_number o (checked i p f k m) = inr (⊎_elim (λ z. omega (arith, z)) (λ n. omega (arith, n.1)) (check_numbers p))

-- who gives the check's number n where the check refuses, gives 0, and 17 to 24, only after the check has accepted
pub after_acceptance : {l : Limits} {F R W : List ℕ} (o : Outcome) → Checks l F R W o → (n : ℕ) → ((o.number ≡ 0 → ⊥) → n ≡ o.number) → (n ≡ 0) ⊎ ((17 ≤ n) × (n ≤ 24)) → o.number ≡ 0
after_acceptance o c n refuses k = go (eqb o.number 0) refl
  where
    go : (b : Bool) → eqb o.number 0 ≡ b → o.number ≡ 0
    go true i = eqb-true o.number 0 i
    go false i =
        let other = eqb-false o.number 0 i in
        let is = refuses other in
        absurd (⊎_elim (λ z. other (sym is ∙ z)) (λ high. ⊎_elim (λ m. omega (arith, m, is, high.1)) (λ m. omega (arith, m, is, high.0)) (outcome_number o c)) k)

-- and one alone: that of its reading, or of its program
outcome_for : Program → List ℕ → List ℕ → Outcome
outcome_for p rows work =
    pick (ltb (length rows) (needed p)) (outcome 6 0 0 0 rows)
    (pick (ltb (length work) (needed p)) (outcome 6 0 0 0 rows) (outcome_of p rows (check_of p)))

module _ (limits : Limits) (bytes rows work : List ℕ) where
  pub unread : (n : Unreadable) (o : Outcome) → reading_of limits bytes ≡ Err n → Checks limits bytes rows work o → o ≡ outcome (unreadable_number n) 0 0 0 rows
  unread n o e (unreadable m h) = let same : m ≡ n = cc in ap (λ k. outcome (unreadable_number k) 0 0 0 rows) same
  unread n o e (rows_short i p f l) = absurd (not_refused limits i bytes n e p f)
  unread n o e (work_short i p f l k) = absurd (not_refused limits i bytes n e p f)
  unread n o e (checked i p f l k) = absurd (not_refused limits i bytes n e p f)

  -- 25 exactly when a limit is out of its range, whatever the bytes and the buffers are
  pub limits_first : in_range limits ≡ false → (o : Outcome) → Checks limits bytes rows work o → o ≡ outcome 25 0 0 0 rows
  limits_first out o c = unread Unreadable.Limits o (reading_out_of_range limits bytes out) c

  pub limits_alone : (o : Outcome) → Checks limits bytes rows work o → o.number ≡ 25 → in_range limits ≡ false
  limits_alone o c h = go (in_range limits) refl
    where
      in_range_not_25 : in_range limits ≡ true → (u : Outcome) → Checks limits bytes rows work u → u.number ≡ 25 → ⊥
      in_range_not_25 i u (unreadable n e) k = omega (arith, k, (refused_from_1_to_5 limits i bytes n e).1)
      in_range_not_25 i u (rows_short j p f l) k = omega (arith, k)
      in_range_not_25 i u (work_short j p f l m) k = omega (arith, k)
      in_range_not_25 i u (checked j p f l m) k = ⊎_elim (λ z. omega (arith, z, k)) (λ h. omega (arith, h.1, k)) (check_numbers p)

      go : (b : Bool) → in_range limits ≡ b → in_range limits ≡ false
      go true i = absurd (in_range_not_25 i o c h)
      go false out = out

  program_outcome : in_range limits ≡ true → (p : Program) (o : Outcome) → IsFile limits bytes p → Checks limits bytes rows work o → o ≡ outcome_for p rows work
  unfolding outcome_for outcome_of
  program_outcome i p o f (unreadable n e) = absurd (not_refused limits i bytes n e p f)
  program_outcome i p o f (rows_short j q g l) = rw (← one_program limits bytes q p g f, lt-ltb _ _ l)
  program_outcome i p o f (work_short j q g l k) = rw (← one_program limits bytes q p g f, le-ltb _ _ l, lt-ltb _ _ k)
  program_outcome i p o f (checked j q g l k) = rw (← one_program limits bytes q p g f, le-ltb _ _ l, le-ltb _ _ k)

  pub one_outcome : (o u : Outcome) → Checks limits bytes rows work o → Checks limits bytes rows work u → o ≡ u
  one_outcome o u (unreadable n e) d = sym (unread n u e d)
  one_outcome o u (rows_short i p f l) d = program_outcome i p _ f (rows_short i p f l) ∙ sym (program_outcome i p u f d)
  one_outcome o u (work_short i p f l k) d = program_outcome i p _ f (work_short i p f l k) ∙ sym (program_outcome i p u f d)
  one_outcome o u (checked i p f l k) d = program_outcome i p _ f (checked i p f l k) ∙ sym (program_outcome i p u f d)

  -- what is accepted is a file
  pub accepted_file : (o : Outcome) → Checks limits bytes rows work o → o.number ≡ 0 → (p : Program) × IsFile limits bytes p
  accepted_file o (unreadable n e) z = absurd (⊎_elim (λ k. omega (arith, k, z)) (λ k. omega (arith, k.0, z)) (refused_numbers limits bytes n e))
  accepted_file o (rows_short i p f l) z = (p, f)
  accepted_file o (work_short i p f l k) z = (p, f)
  accepted_file o (checked i p f l k) z = (p, f)

  -- what is accepted had long enough buffers, under limits in range
  pub accepted_demand3 : (o : Outcome) → Checks limits bytes rows work o → o.number ≡ 0 → (p : Program) → IsFile limits bytes p → Demand3 p rows o
  accepted_demand3 o (unreadable n e) z p f = absurd (⊎_elim (λ k. omega (arith, k, z)) (λ k. omega (arith, k.0, z)) (refused_numbers limits bytes n e))
  accepted_demand3 o (rows_short i q g l) z p f = absurd (omega (arith, z))
  accepted_demand3 o (work_short i q g l k) z p f = absurd (omega (arith, z))
  accepted_demand3 o (checked i q g l k) z p f =
      let same : needed q ≡ needed p = ap needed (one_program limits bytes q p g f) in
      demand3 limits bytes rows work i p f (omega (arith, same, l)) (omega (arith, same, k)) _ (checked i q g l k)
