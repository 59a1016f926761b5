-- The steps of a program whose trees stand: each stands where it comes, and no node is in two of them. Assumes nothing.
use mathlib.Core.Path.{◌≡◌, refl, ap, subst}
use mathlib.Core.Bool.{Bool, true, false}
use mathlib.Core.List.{List, [], ◌∷◌, ◌++◌}
use Prim.Native.Nat.{ℕ, zero, suc, ◌+◌, ◌≤◌, ◌<◌}
use native.Mathlib.Omega.{arith}
use lib.ListN.{length, take, drop, take-append-drop}
use lib.Dec.{leb, ltb}
use borrow.Author.Tests.{ltb-true, ltb-false, le-ltb, lt-leb}
use Rattle.oat.specs.Basics.{pick, tabulate}
use Rattle.oat.specs.Tables.{Tables}
use Rattle.oat.specs.Syntax.{Decl, global, function, size_decl}
use Rattle.oat.specs.Nodes.{DeclsStand}
use Rattle.oat.specs.ProgramFile.{Program}
use Rattle.oat.proofs.LawsBasics.{and_right, and_left}
use Rattle.typing_rules.specs.Steps.{Step, struct_name, built_in, struct_fields, body, headings, globals, bodies, steps_of}
use Rattle.typing_rules.specs.Check.{rows_begin, node_count}
use Rattle.typing_rules.proofs.LawsSteps.{structs_after, StepStands}
use Rattle.typing_rules.proofs.LawsRuns.{Fitting, fit_none, fit_step, is_within, steps_at}

-- each kind of step in front of others
module _ (T : Tables) {ss : List Step} where
  fit_structs : (n k j : ℕ) (f : ℕ → ℕ) → j ≡ k + n → ((i : ℕ) → f i ≡ k + i) → j ≤ length T.structs → Fitting T j ss
      → Fitting T k (tabulate n (λ i. struct_name (f i)) ++ ss)
  unfolding tabulate
  fit_structs zero k j f a e l h = subst (λ i. Fitting T i ss) (omega arith) h
  fit_structs (suc n) k j f a e l h =
      fit_step {k = k} {s = struct_name (f 0)} (omega (arith, e 0), omega (arith, e 0))
      (fit_structs n (suc k) j (λ i. f (suc i)) (omega arith) (λ i. omega (arith, e (suc i))) l h)

  fit_plain : (n k : ℕ) (f : ℕ → Step) → ((i : ℕ) → i < n → StepStands T k (f i)) → ((i : ℕ) → structs_after k (f i) ≡ k) → Fitting T k ss
      → Fitting T k (tabulate n f ++ ss)
  unfolding tabulate
  fit_plain zero k f v e h = h
  fit_plain (suc n) k f v e h =
      fit_step {k = k} {s = f 0} {ss = tabulate n (λ i. f (suc i)) ++ ss} (v 0 (omega arith))
      (rw (e 0) (fit_plain n k (λ i. f (suc i)) (λ i l. v (suc i) (omega arith)) (λ i. e (suc i)) h))

  fit_headings : (k n : ℕ) (ds : List Decl) → DeclsStand T n ds → Fitting T k ss → Fitting T k (headings n ds ++ ss)
  unfolding headings
  fit_headings k n [] s h = h
  fit_headings k n (global x a ∷ ds) s h = fit_headings k (n + size_decl (global x a)) ds s.1 h
  fit_headings k n (function x t ps b ∷ ds) s h = fit_step s.0.1 (fit_headings k (n + size_decl (function x t ps b)) ds s.1 h)

  fit_globals : (k n : ℕ) (ds : List Decl) → DeclsStand T n ds → Fitting T k ss → Fitting T k (globals n ds ++ ss)
  unfolding globals
  fit_globals k n [] s h = h
  fit_globals k n (global x a ∷ ds) s h = fit_step s.0.2 (fit_globals k (n + size_decl (global x a)) ds s.1 h)
  fit_globals k n (function x t ps b ∷ ds) s h = fit_globals k (n + size_decl (function x t ps b)) ds s.1 h

fit_bodies : (T : Tables) (k n : ℕ) (ds : List Decl) → DeclsStand T n ds → Fitting T k (bodies n ds)
unfolding bodies
fit_bodies T k n [] s = fit_none
fit_bodies T k n (global x a ∷ ds) s = fit_bodies T k (n + size_decl (global x a)) ds s.1
fit_bodies T k n (function x t ps b ∷ ds) s =
    fit_step {s = body n t ps b} (s.0.1, s.0.2, s.0.4) (fit_bodies T k (n + size_decl (function x t ps b)) ds s.1)

pub steps_fit : (p : Program) → DeclsStand p.tables 0 p.declarations → Fitting p.tables 0 (steps_of p)
unfolding steps_of
steps_fit p s =
    let T = p.tables in
    let k = length T.structs in
    let ds = p.declarations in
    fit_structs T k 0 k (λ i. i) (omega arith) (λ i. omega arith) (omega arith)
    (fit_plain T (length T.built_ins) k built_in (λ i l. l) (λ i. refl)
    (fit_headings T k 0 ds s (fit_globals T k 0 ds s (fit_plain T k k struct_fields (λ i l. l) (λ i. refl) (fit_bodies T k 0 ds s)))))

-- the first of them
pub fit_take : {T : Tables} {k : ℕ} {ss : List Step} → Fitting T k ss → (i : ℕ) → Fitting T k (take i ss)
fit_take fit_none zero = fit_none
fit_take fit_none (suc i) = fit_none
fit_take (fit_step h hs) zero = fit_none
fit_take (fit_step h hs) (suc i) = fit_step h (fit_take hs i)

-- nodes of steps
module _ (m : ℕ) where
  at_append : (xs ys : List Step) → steps_at m (xs ++ ys) ≡ steps_at m xs + steps_at m ys
  at_append [] ys = omega arith
  at_append (x ∷ xs) ys = omega (arith, at_append xs ys)

  past : (n k : ℕ) → n + k ≤ m → is_within n k m ≡ false
  past n k h = and_right (leb n m) (ltb m (n + k)) (le-ltb m (n + k) h)

  before : (n k : ℕ) → m < n → is_within n k m ≡ false
  before n k h = and_left (leb n m) (ltb m (n + k)) (lt-leb n m h)

  at_plain : (n : ℕ) (f : ℕ → Step) → ((i : ℕ) → rows_begin (f i) + node_count (f i) ≤ m) → steps_at m (tabulate n f) ≡ 0
  unfolding tabulate
  at_plain zero f e = refl
  at_plain (suc n) f e = rw (past (rows_begin (f 0)) (node_count (f 0)) (e 0)) (omega (arith, at_plain n (λ i. f (suc i)) (λ i. e (suc i))))

  at_headings : (n : ℕ) (ds : List Decl) → steps_at m (headings n ds) ≡ 0
  unfolding headings rows_begin
  at_headings n [] = refl
  at_headings n (global x a ∷ ds) = at_headings (n + size_decl (global x a)) ds
  at_headings n (function x t ps b ∷ ds) = rw (past 0 0 (omega arith)) (omega (arith, at_headings (n + size_decl (function x t ps b)) ds))

  -- k nodes from n on, in front of steps whose nodes come later
  one_more : (n k c : ℕ) → (m < n + k → c ≡ 0) → c ≤ 1 → (m < n → pick (is_within n k m) 1 0 + c ≡ 0) × (pick (is_within n k m) 1 0 + c ≤ 1)
  one_more n k c e l = (λ h. let z = e (omega arith) in rw (before n k h) (omega arith), go (ltb m (n + k)) refl)
    where
      most : (b : Bool) → pick b 1 0 ≤ 1
      most true = omega arith
      most false = omega arith

      go : (b : Bool) → ltb m (n + k) ≡ b → pick (is_within n k m) 1 0 + c ≤ 1
      go true h = let z = e (ltb-true m (n + k) h) in let w = most (is_within n k m) in omega arith
      go false h = rw (past n k (ltb-false m (n + k) h)) (omega arith)

  at_most_one : (n : ℕ) (ds : List Decl)
      → (m < n → steps_at m (globals n ds) + steps_at m (bodies n ds) ≡ 0) × (steps_at m (globals n ds) + steps_at m (bodies n ds) ≤ 1)
  unfolding globals bodies rows_begin
  at_most_one n [] = (λ h. omega arith, omega arith)
  at_most_one n (global x a ∷ ds) =
      let d = global x a in
      let (z, o) = at_most_one (n + size_decl d) ds in
      let (v, w) = one_more n (size_decl d) (steps_at m (globals (n + size_decl d) ds) + steps_at m (bodies (n + size_decl d) ds)) z o in
      (λ h. omega (arith, v h), omega (arith, w))
  at_most_one n (function x t ps b ∷ ds) =
      let d = function x t ps b in
      let (z, o) = at_most_one (n + size_decl d) ds in
      let (v, w) = one_more n (size_decl d) (steps_at m (globals (n + size_decl d) ds) + steps_at m (bodies (n + size_decl d) ds)) z o in
      (λ h. omega (arith, v h), omega (arith, w))

  pub steps_apart : (p : Program) → steps_at m (steps_of p) ≤ 1
  unfolding steps_of rows_begin
  steps_apart p =
      rw (
        at_append,
        at_plain (length p.tables.structs) struct_name (λ i. omega arith),
        at_append,
        at_plain (length p.tables.built_ins) built_in (λ i. omega arith),
        at_append,
        at_headings 0 p.declarations,
        at_append,
        at_append,
        at_plain (length p.tables.structs) struct_fields (λ i. omega arith),
      )
      (omega (arith, (at_most_one 0 p.declarations).1))

  -- the first of them too
  pub first_apart : (p : Program) (i : ℕ) → steps_at m (take i (steps_of p)) ≤ 1
  first_apart p i =
      omega (arith, steps_apart p, at_append (take i (steps_of p)) (drop i (steps_of p)), ap (steps_at m) (take-append-drop i (steps_of p)))
