-- An answer against an outcome of the definition: premise by premise, and part after part. Assumes nothing.
use mathlib.Core.Path.{◌≡◌, refl, subst, ◌∙◌}
use mathlib.Core.Bool.{Bool, true, false}
use mathlib.Core.List.{List}
use Prim.Native.Nat.{ℕ, ◌+◌}
use native.Mathlib.Omega.{arith}
use Rattle.typing_rules.specs.Labels.{Label}
use Rattle.oat.specs.Basics.{pick}
use Rattle.oat.specs.Pairs.{Compared}
use Rattle.typing_rules.specs.Judge.{Out, ok, no, Counted, and_then, needs, pairs_after}
use Rattle.file_sections.specs.declared.Sections.{Sections}
use Rattle.answers.specs.declared.answer.Judgement.{Judgement}
use Rattle.answers.specs.declared.answer.Judgement.TheVariants.{Typed, GoesOn, Refused}
use Rattle.answers.specs.declared.answer.Judged.{Judged}
use Rattle.answers.specs.Answers.{Refuses}
use Rattle.expressions.specs.Contract.{Meets, accepts, refuses, Typing, Listing}

-- the answer is no type; it does not go on; it is no refusal
pub record Untyped (r : Judged) : Type 0 where
  pub never : (t : ℕ) → r.judgement ≡ Typed t → ⊥

pub record Unlisted (r : Judged) : Type 0 where
  pub never : r.judgement ≡ GoesOn → ⊥

pub record Unrefused (r : Judged) : Type 0 where
  pub never : (p q : ℕ) → r.judgement ≡ Refused p q → ⊥

pub untyped : (r : Judged) → ((t : ℕ) → r.judgement ≡ Typed t → ⊥) → Untyped r
untyped r h = record { never = h }

pub unlisted : (r : Judged) → (r.judgement ≡ GoesOn → ⊥) → Unlisted r
unlisted r h = record { never = h }

-- a type is no refusal, nor is an answer that goes on
typed_unrefused : {r : Judged} {t : ℕ} → r.judgement ≡ Typed t → Unrefused r
typed_unrefused y = record { never = λ p q e. let z : ◌≡◌ {A = ℕ} 0 1 = cc in omega arith }

pub goes_unrefused : {r : Judged} → r.judgement ≡ GoesOn → Unrefused r
goes_unrefused y = record { never = λ p q e. let z : ◌≡◌ {A = ℕ} 0 1 = cc in omega arith }

-- what an answer has compared, whichever it is
pub pairs_told : {A : Type 0} {P : A → List (Label ℕ) → Type 0} {r : Judged} {π : ℕ} {o : Out A} {k : ℕ} → Meets P r π o k → r.at.pairs ≡ π + k
pairs_told (accepts a L k p e) = e
pairs_told (refuses p q k e) = e.sum

-- a refusal whose sum is written otherwise
pub refuses_with : {A : Type 0} {P : A → List (Label ℕ) → Type 0} {r : Judged} {π i : ℕ} (p q k : ℕ) → Refuses r p q i → i ≡ π + k → Meets P r π (no p q) k
refuses_with p q k e s = refuses p q k (record { judged = e.judged; sum = e.sum ∙ s })

-- nothing more is compared
pub accepts_now : {A : Type 0} {P : A → List (Label ℕ) → Type 0} {r : Judged} {π : ℕ} (a : A) (L : List (Label ℕ)) → P a L → r.at.pairs ≡ π → Meets P r π (ok a L) 0
accepts_now a L p e = accepts a L 0 p (omega arith)

pub refuses_now : {A : Type 0} {P : A → List (Label ℕ) → Type 0} {r : Judged} {π : ℕ} (p q : ℕ) → Refuses r p q π → Meets P r π (no p q) 0
refuses_now p q e = refuses_with p q 0 e (omega arith)

-- an answer with what was compared before it
pub meets_more : {A : Type 0} {P : A → List (Label ℕ) → Type 0} {r : Judged} {c π : ℕ} (i : ℕ) {o : Out A} {k : ℕ} → c ≡ π + i → Meets P r c o k → Meets P r π o (i + k)
meets_more i e (accepts a L k p f) = accepts a L (i + k) p (omega arith)
meets_more i e (refuses p q k f) = refuses_with p q (i + k) f (omega arith)

-- a premise that is tested
module _ {A : Type 0} {Q : A → List (Label ℕ) → Type 0} {r : Judged} {π : ℕ} where
  pub stops : (b : Bool) (p q : ℕ) (o : Out A) (k : ℕ) → b ≡ false → Refuses r p q π → Meets Q r π (needs b p q o) (pick b k 0)
  stops b p q o k f e = rw f (refuses_now p q e)

  pub passes : (b : Bool) (p q : ℕ) (o : Out A) {k : ℕ} → b ≡ true → Meets Q r π o k → Meets Q r π (needs b p q o) (pick b k 0)
  passes b p q o t m = rw t m

  -- a subtype question, which counts either way
  pub fails : (c : Compared) (p q : ℕ) (o : Out A) (k : ℕ) → c.holds ≡ false → Refuses r p q (π + c.pairs) → Meets Q r π (needs c.holds p q o) (c.pairs + pick c.holds k 0)
  fails c p q o k f e = rw f (refuses_with p q (c.pairs + 0) e (omega arith))

  pub holds : (c : Compared) (p q : ℕ) (o : Out A) {k : ℕ} → c.holds ≡ true → Meets Q r (π + c.pairs) o k → Meets Q r π (needs c.holds p q o) (c.pairs + pick c.holds k 0)
  holds c p q o t m = rw t (meets_more c.pairs refl m)

  -- a question that is not asked
  pub skips : (c : Compared) (p q : ℕ) (o : Out A) {k : ℕ} → c.holds ≡ true → c.pairs ≡ 0 → Meets Q r π o k → Meets Q r π (needs c.holds p q o) (c.pairs + pick c.holds k 0)
  skips c p q o t z m = rw t (meets_more c.pairs (omega (arith, z)) m)

-- a part that is refused hands its refusal up; an accepted one goes on with its labels; the last part's answer goes up, whichever it is
module _ {A B : Type 0} {P : A → List (Label ℕ) → Type 0} {Q : B → List (Label ℕ) → Type 0} {r : Judged} {π i : ℕ} where
  pub hands_up : (o : Out A) (k : A → List (Label ℕ) → Out B) (j : A → List (Label ℕ) → ℕ) → ((a : A) (L : List (Label ℕ)) → o ≡ ok a L → P a L → ⊥)
      → Meets P r π o i → Meets Q r π (and_then o k) (i + pairs_after o j)
  hands_up o k j f (accepts a L i p e) = absurd (f a L refl p)
  hands_up o k j f (refuses p q i e) = refuses_with p q (i + 0) e (omega arith)

  pub goes_on : {r₁ : Judged} (o : Out A) (k : A → List (Label ℕ) → Out B) {j : A → List (Label ℕ) → ℕ} → Unrefused r₁ → Meets P r₁ π o i
      → ((a : A) (L : List (Label ℕ)) → o ≡ ok a L → P a L → Meets Q r r₁.at.pairs (k a L) (j a L)) → Meets Q r π (and_then o k) (i + pairs_after o j)
  goes_on o k u (accepts a L i p e) g = meets_more i e (g a L refl p)
  goes_on o k u (refuses p q i e) g = absurd (u.never p q e.judged)

  pub part_last : (o : Out A) (k : A → List (Label ℕ) → Out B) {j : A → List (Label ℕ) → ℕ} → Meets P r π o i
      → ((a : A) (L : List (Label ℕ)) → o ≡ ok a L → P a L → Meets Q r r.at.pairs (k a L) (j a L)) → Meets Q r π (and_then o k) (i + pairs_after o j)
  part_last o k (accepts a L i p e) g = meets_more i e (g a L refl p)
  part_last o k (refuses p q i e) g = refuses_with p q (i + 0) e (omega arith)

-- what an answer without refusal says
pub part_of : {A : Type 0} {P : A → List (Label ℕ) → Type 0} {r : Judged} {π k : ℕ} (o : Out A) → Meets P r π o k → Unrefused r
    → (a : A) × (L : List (Label ℕ)) × (o ≡ ok a L) × P a L
part_of o (accepts a L k p e) u = (a, L, refl, p)
part_of o (refuses p q k e) u = absurd (u.never p q e.judged)

-- a question about a part, asked within the part, then what goes on with it and asks no more
pub then_tested : {A B : Type 0} {Q : B → List (Label ℕ) → Type 0} {r : Judged} {π : ℕ} (x : Counted A) (f : A → Compared) (p q : ℕ) (k : A → List (Label ℕ) → Out B)
    → Meets Q r π (and_then (and_then x.out λ a L. needs (f a).holds p q (ok a L)) k)
    (x.pairs + pairs_after x.out (λ a L. (f a).pairs + pick (f a).holds 0 0) + pairs_after (and_then x.out λ a L. needs (f a).holds p q (ok a L)) (λ a L. 0))
    → Meets Q r π (and_then x.out λ a L. needs (f a).holds p q (k a L)) (x.pairs + pairs_after x.out λ a L. (f a).pairs + pick (f a).holds 0 0)
then_tested {A} {B} {Q} {r} {π} x f p q k h = go x.out h
  where
    go : (o : Out A)
        → Meets Q r π (and_then (and_then o λ a L. needs (f a).holds p q (ok a L)) k)
        (x.pairs + pairs_after o (λ a L. (f a).pairs + pick (f a).holds 0 0) + pairs_after (and_then o λ a L. needs (f a).holds p q (ok a L)) (λ a L. 0))
        → Meets Q r π (and_then o λ a L. needs (f a).holds p q (k a L)) (x.pairs + pairs_after o λ a L. (f a).pairs + pick (f a).holds 0 0)
    go (no m n) w = subst (Meets Q r π (no m n)) (omega arith) w
    go (ok a L) w = tested (f a).holds w
      where
        tested : (b : Bool) → Meets Q r π (and_then (needs b p q (ok a L)) k) (x.pairs + ((f a).pairs + pick b 0 0) + pairs_after (needs b p q (ok a L)) (λ a L. 0))
            → Meets Q r π (needs b p q (k a L)) (x.pairs + ((f a).pairs + pick b 0 0))
        tested true v = subst (Meets Q r π (k a L)) (omega arith) v
        tested false v = subst (Meets Q r π (no p q)) (omega arith) v

module _ {F : List ℕ} {S : Sections} {X : List ℕ} {base n k s : ℕ} {R W R₁ W₁ K₁ : List ℕ} {r₁ : Judged} {π i : ℕ} {B : Type 0} {Q : B → List (Label ℕ) → Type 0} where
  -- an expression
  pub child_no : (o : Out ℕ) (c : ℕ → List (Label ℕ) → Out B) (j : ℕ → List (Label ℕ) → ℕ) → Untyped r₁ → Meets (Typing F S X base n k s R W R₁ W₁ K₁ r₁) r₁ π o i
      → Meets Q r₁ π (and_then o c) (i + pairs_after o j)
  child_no o c j u m = hands_up o c j (λ t L e p. u.never t p.typed) m

  pub child_ok : {r : Judged} (o : Out ℕ) (c : ℕ → List (Label ℕ) → Out B) (j : ℕ → List (Label ℕ) → ℕ) (t : ℕ) → r₁.judgement ≡ Typed t → Meets (Typing F S X base n k s R W R₁ W₁ K₁ r₁) r₁ π o i
      → ((L : List (Label ℕ)) → o ≡ ok t L → Typing F S X base n k s R W R₁ W₁ K₁ r₁ t L → Meets Q r r₁.at.pairs (c t L) (j t L)) → Meets Q r π (and_then o c) (i + pairs_after o j)
  child_ok o c j t y m g =
      goes_on o c (typed_unrefused y) m
      (λ a L e p. same_type r₁.judgement a t p.typed y (λ u. o ≡ ok u L → Typing F S X base n k s R W R₁ W₁ K₁ r₁ u L → Meets Q _ r₁.at.pairs (c u L) (j u L)) (g L) e p)
    where
      same_type : (j : Judgement) (a b : ℕ) → j ≡ Typed a → j ≡ Typed b → (M : ℕ → Type 0) → M b → M a
      same_type j a b d e M m = subst M (cc) m

  -- a list
  pub list_no : (o : Out (List ℕ)) (c : List ℕ → List (Label ℕ) → Out B) (j : List ℕ → List (Label ℕ) → ℕ) → Unlisted r₁ → Meets (Listing F S X base n k s R W R₁ W₁ K₁ r₁) r₁ π o i
      → Meets Q r₁ π (and_then o c) (i + pairs_after o j)
  list_no o c j u m = hands_up o c j (λ t L e p. u.never p.goes_on) m

  pub list_ok : {r : Judged} (o : Out (List ℕ)) (c : List ℕ → List (Label ℕ) → Out B) {j : List ℕ → List (Label ℕ) → ℕ} → r₁.judgement ≡ GoesOn → Meets (Listing F S X base n k s R W R₁ W₁ K₁ r₁) r₁ π o i
      → ((ts : List ℕ) (L : List (Label ℕ)) → o ≡ ok ts L → Listing F S X base n k s R W R₁ W₁ K₁ r₁ ts L → Meets Q r r₁.at.pairs (c ts L) (j ts L)) → Meets Q r π (and_then o c) (i + pairs_after o j)
  list_ok o c y m g = goes_on o c (goes_unrefused y) m g
