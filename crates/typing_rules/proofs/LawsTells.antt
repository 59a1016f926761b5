-- What outcomes tell of the refusals under one number m: of an outcome, and of the run of a program. Assumes nothing.
use mathlib.Core.Path.{◌≡◌, refl, subst}
use mathlib.Core.Bool.{Bool, true, false}
use mathlib.Core.List.{List, [], ◌∷◌}
use Prim.Native.Nat.{ℕ, suc, ◌+◌}
use native.Mathlib.Omega.{arith}
use lib.ListN.{get_or}
use Rattle.oat.specs.ProgramFile.{Program}
use Rattle.typing_rules.specs.Contexts.{Context}
use Rattle.typing_rules.specs.Labels.{Label}
use Rattle.typing_rules.specs.Judge.{Out, ok, no, and_then, needs}
use Rattle.typing_rules.specs.Steps.{Step, struct_name, steps_of, empty_context}
use Rattle.typing_rules.specs.Check.{run_step, step_rows, rows_begin, Segment, Ran, accepted, refused, with_segment, on_step, run}
use Rattle.typing_rules.proofs.Theorem.{run_of}
use Rattle.typing_rules.proofs.LawsNumbers.{InRange, ok_in, no_in, NotUnder}

-- where an outcome is accepted P holds of its value, where it is refused under m Z holds of the place
pub data Tells (m : ℕ) {A : Type 0} (P : A → Type 0) (Z : ℕ → Type 0) : Out A → Type 0 where
  fine : {a : A} {L : List (Label ℕ)} → P a → Tells m P Z (ok a L)
  told : {q : ℕ} → Z q → Tells m P Z (no m q)
  other : {p q : ℕ} → NotUnder m p → Tells m P Z (no p q)

module _ {m : ℕ} {A : Type 0} {P : A → Type 0} {Z : ℕ → Type 0} where
  -- a premise with another number, and one with this
  pub asks : (b : Bool) (p q : ℕ) {o : Out A} → NotUnder m p → Tells m P Z o → Tells m P Z (needs b p q o)
  asks true p q h t = t
  asks false p q h t = other h

  pub tells : (b : Bool) (q : ℕ) {o : Out A} → (b ≡ false → Z q) → Tells m P Z o → Tells m P Z (needs b m q o)
  tells true q z t = t
  tells false q z t = told (z refl)

  -- a part that is not refused under m, and one that tells
  pub plainly : {B : Type 0} {o : Out B} {k : B → List (Label ℕ) → Out A} → InRange (NotUnder m) o → ((b : B) (L : List (Label ℕ)) → Tells m P Z (k b L))
      → Tells m P Z (and_then o k)
  plainly ok_in f = f _ _
  plainly (no_in p h) f = other h

  pub after : {B : Type 0} {Q : B → Type 0} {U : ℕ → Type 0} {o : Out B} {k : B → List (Label ℕ) → Out A} → Tells m Q U o → ((q : ℕ) → U q → Z q)
      → ((b : B) (L : List (Label ℕ)) → Q b → Tells m P Z (k b L)) → Tells m P Z (and_then o k)
  after (fine {a} {L} p) u f = f a L p
  after (told z) u f = told (u _ z)
  after (other h) u f = other h

-- G holds of every step
pub data AllFine (G : Step → Type 0) : List Step → Type 0 where
  none_fine : AllFine G []
  next_fine : {s : Step} {ss : List Step} → G s → AllFine G ss → AllFine G (s ∷ ss)

-- a run from the step k on: G holds of all its steps, or Z of the step that is refused under m, and of the place
data RanTells (m : ℕ) (G : Step → Type 0) (Z : Step → ℕ → Type 0) (ss : List Step) (k : ℕ) : Ran → Type 0 where
  ran_fine : {gs : List Segment} {j : ℕ} → AllFine G ss → RanTells m G Z ss k (accepted gs j)
  ran_told : {j q : ℕ} (i : ℕ) → j ≡ k + i → Z (get_or ss i (struct_name 0)) q → RanTells m G Z ss k (refused m j q)
  ran_other : {p j q : ℕ} → NotUnder m p → RanTells m G Z ss k (refused p j q)

module _ (m : ℕ) (G : Step → Type 0) (Z : Step → ℕ → Type 0) (p : Program) (f : (C : Context ℕ) (s : Step) → Tells m (λ E. G s) (Z s) (run_step p.tables C s)) where
  run_tells : (ss : List Step) (C : Context ℕ) (k : ℕ) → RanTells m G Z ss k (run p.tables C ss k)
  unfolding run
  run_tells [] C k = ran_fine none_fine
  run_tells (s ∷ ss) C k = first (f C s) (λ E. run_tells ss E (suc k))
    where
      later : (g : Segment) {r : Ran} → G s → RanTells m G Z ss (suc k) r → RanTells m G Z (s ∷ ss) k (with_segment g r)
      later g d (ran_fine a) = ran_fine (next_fine d a)
      later g d (ran_told {j} i e h) =
          let next : j ≡ k + suc i = omega (arith, e) in
          ran_told (suc i) next h
      later g d (ran_other h) = ran_other h

      first : {o : Out (Context ℕ)} → Tells m (λ E. G s) (Z s) o → ((E : Context ℕ) → RanTells m G Z ss (suc k) (run p.tables E ss (suc k)))
          → RanTells m G Z (s ∷ ss) k (on_step o k λ E L. with_segment (record { node = rows_begin s; rows = step_rows p.tables s L }) (run p.tables E ss (suc k)))
      first (fine d) f = later _ d (f _)
      first (told h) f =
          let e : k ≡ k + 0 = omega arith in
          ran_told 0 e h
      first (other h) f = ran_other h

  ran : RanTells m G Z (steps_of p) 0 (run_of p)
  ran = run_tells (steps_of p) empty_context 0

  pub all_fine : {gs : List Segment} {k : ℕ} → run_of p ≡ accepted gs k → AllFine G (steps_of p)
  all_fine {gs} {k} e = go (subst (RanTells m G Z (steps_of p) 0) e ran)
    where
      go : RanTells m G Z (steps_of p) 0 (accepted gs k) → AllFine G (steps_of p)
      go (ran_fine a) = a

  pub told_at : {j q : ℕ} → run_of p ≡ refused m j q → Z (get_or (steps_of p) j (struct_name 0)) q
  told_at {j} {q} e = go refl (subst (RanTells m G Z (steps_of p) 0) e ran)
    where
      go : {a b c : ℕ} → a ≡ m → RanTells m G Z (steps_of p) 0 (refused a b c) → Z (get_or (steps_of p) b (struct_name 0)) c
      go {b = b} {c = c} s (ran_told i f h) =
          let same : i ≡ b = omega (arith, f) in
          subst (λ n. Z (get_or (steps_of p) n (struct_name 0)) c) same h
      go s (ran_other h) = absurd (h s)
