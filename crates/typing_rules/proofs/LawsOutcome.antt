-- The outcome of the check: `Out`, its premises (`needs`) and its parts one after another (`and_then`). What an accepted whole says of its
-- parts, and wholes that are the same, written otherwise. How an answer of the code meets an outcome: LawsMeets of `expressions`. Assumes
-- nothing.
use mathlib.Core.Path.{◌≡◌, refl, subst}
use mathlib.Core.Bool.{Bool, true, false}
use mathlib.Core.List.{List, [], ◌∷◌, ◌++◌, append_assoc}
use Prim.Native.Nat.{ℕ}
use native.Mathlib.Omega.{arith}
use Rattle.oat.specs.Types.{Field, Lookup, found, missing}
use Rattle.typing_rules.specs.Contexts.{Scope, Hit, hit, miss}
use Rattle.typing_rules.specs.Labels.{Label}
use Rattle.typing_rules.specs.Judge.{Out, ok, no, and_then, needs, typed_as, plain, named, Number, number, unknown, field_type, on_declared}

-- a refusal is no acceptance
pub refused : {A P : Type 0} {p q : ℕ} {a : A} {L : List (Label ℕ)} → no p q ≡ ok a L → P
refused e = absurd (let z : ◌≡◌ {A = ℕ} 0 1 = cc in omega arith)

-- what is said of an accepted outcome
abbrev Of : {A : Type 0} → (A → List (Label ℕ) → Type 0) → Out A → Type 0
Of P (ok a L) = P a L
Of P (no p q) = Unit {0}

pub ok_is : {A : Type 0} (P : A → List (Label ℕ) → Type 0) {a b : A} {L M : List (Label ℕ)} → ok a L ≡ ok b M → P a L → P b M
ok_is P e h = subst (Of P) e h

-- an outcome is accepted with one value, and with one list of labels
pub same_next : {A : Type 0} {o : Out A} {a b : A} {L M : List (Label ℕ)} → o ≡ ok a L → o ≡ ok b M → (a ≡ b) × (L ≡ M)
same_next e f = (cc, cc)

-- what an accepted step says of its parts: a law takes the step's equation, and hands the parts on
module _ {A P : Type 0} {a : A} {L : List (Label ℕ)} where
  pub then_ok : {B : Type 0} (o : Out B) (k : B → List (Label ℕ) → Out A) → and_then o k ≡ ok a L
      → ((b : B) (M : List (Label ℕ)) → o ≡ ok b M → k b M ≡ ok a L → P) → P
  then_ok (ok b M) k e c = c b M refl e
  then_ok (no p q) k e c = refused e

  pub needs_ok : (b : Bool) (p q : ℕ) (o : Out A) → needs b p q o ≡ ok a L → (b ≡ true → o ≡ ok a L → P) → P
  needs_ok true p q o e c = c refl e
  needs_ok false p q o e c = refused e

  pub declared_ok : (l : Lookup) (n : ℕ) (k : List Field → Out A) → on_declared l n k ≡ ok a L
      → ((fs : List Field) → l ≡ found fs → k fs ≡ ok a L → P) → P
  declared_ok missing n k e c = refused e
  declared_ok (found fs) n k e c = c fs refl e

module _ {P : Type 0} {a : ℕ} {L : List (Label ℕ)} where
  pub named_ok : (h : Hit ℕ) (n : ℕ) (Γ : Scope ℕ) → named h n Γ ≡ ok a L
      → ((t b : ℕ) → h ≡ hit t b → ok t (typed_as t b Γ ∷ []) ≡ ok a L → P) → P
  named_ok (hit t b) n Γ e c = c t b refl e
  named_ok miss n Γ e c = refused e

  pub field_ok : (v : Number) (n : ℕ) (Γ : Scope ℕ) (M : List (Label ℕ)) → field_type v n Γ M ≡ ok a L
      → ((t : ℕ) → v ≡ number t → plain t Γ M ≡ ok a L → P) → P
  field_ok (number t) n Γ M e c = c t refl e
  field_ok unknown n Γ M e c = refused e

-- where o is accepted, P holds of its value and labels
pub record IfOk {A : Type 0} (P : A → List (Label ℕ) → Type 0) (o : Out A) : Type 0 where
  pub given : (a : A) (L : List (Label ℕ)) → o ≡ ok a L → P a L

-- which is so of a whole where it is so of its parts
module _ {A : Type 0} {P : A → List (Label ℕ) → Type 0} where
  pub ok_says : {a : A} {L : List (Label ℕ)} → P a L → IfOk P (ok a L)
  ok_says h = record { given = λ b M e. ok_is P e h }

  pub needs_says : (b : Bool) (p q : ℕ) (o : Out A) → (b ≡ true → IfOk P o) → IfOk P (needs b p q o)
  needs_says b p q o f = record { given = λ a L e. needs_ok b p q o e λ t i. (f t).given a L i }

  pub then_says : {B : Type 0} {Q : B → List (Label ℕ) → Type 0} (o : Out B) (k : B → List (Label ℕ) → Out A) → IfOk Q o
      → ((b : B) (L : List (Label ℕ)) → Q b L → IfOk P (k b L)) → IfOk P (and_then o k)
  then_says o k q f = record { given = λ a L e. then_ok o k e λ b M i j. (f b M (q.given b M i)).given a L j }

-- a part with a premise, within a part, or in its place
pub then_needs : {A B D : Type 0} (o : Out A) (t : A → Bool) (p q : ℕ) (f : A → List (Label ℕ) → Out B) (k : B → List (Label ℕ) → Out D)
    → and_then (and_then o λ a L. needs (t a) p q (f a L)) k ≡ and_then o λ a L. needs (t a) p q (and_then (f a L) k)
then_needs (no i j) t p q f k = refl
then_needs {A} {B} {D} (ok a L) t p q f k = go (t a)
  where
    go : (b : Bool) → and_then (needs b p q (f a L)) k ≡ needs b p q (and_then (f a L) k)
    go true = refl
    go false = refl

-- two parts with their labels joined, within a part, or in its place
pub either-then : {A B D E : Type 0} (f : A → B → D) (o : Out A) (o₂ : Out B) (k : D → List (Label ℕ) → Out E)
    → and_then (and_then o λ a L. and_then o₂ λ b M. ok (f a b) (L ++ M)) k ≡ (and_then o λ a L. and_then o₂ λ b M. k (f a b) (L ++ M))
either-then f (ok a L) (ok b M) k = refl
either-then f (ok a L) (no p q) k = refl
either-then f (no p q) o₂ k = refl

-- o, after the labels L of the parts before it
abbrev pub after_run : {A : Type 0} → List (Label ℕ) → Out A → Out A
after_run L o = and_then o λ a M. ok a (L ++ M)

pub run_none : {A : Type 0} (o : Out A) → o ≡ after_run [] o
run_none (ok a M) = refl
run_none (no p q) = refl

pub run_more : {A : Type 0} (L M : List (Label ℕ)) (o : Out A) → after_run L (after_run M o) ≡ after_run (L ++ M) o
run_more L M (ok a N) = cc (append_assoc L M N)
run_more L M (no p q) = refl
