-- The loop over a list of expressions: what holds after i of them, and the answers of its returns. Assumes nothing.
use mathlib.Core.Path.{◌≡◌, refl, ap, ap₂, sym, subst, ◌∙◌}
use mathlib.Core.Bool.{Bool, true, false, not, ◌&&◌}
use mathlib.Core.List.{List, [], ◌∷◌, ◌++◌, append-nil, append_assoc}
use Prim.Native.Nat.{ℕ, suc, ◌+◌, ◌*◌, ◌≤◌, ◌<◌}
use native.Mathlib.Nat.{zero-add}
use native.Mathlib.Omega.{arith}
use lib.ListN.{length, length-append}
use borrow.Author.Tests.{not-true, not-false}
use Rattle.oat.specs.Basics.{pick}
use Rattle.oat.specs.Tables.{Tables, entry_at}
use Rattle.oat.specs.Pairs.{Compared, plainly, and_next}
use Rattle.oat.specs.Syntax.{Expr, size, Exprs, none, also, sizes, count}
use Rattle.oat.specs.Nodes.{StandAll}
use Rattle.typing_rules.specs.Contexts.{Scope, Context}
use Rattle.typing_rules.specs.Labels.{Label}
use Rattle.typing_rules.specs.Judge.{Out, ok, no, Counted, and_then, needs, pairs_after, asked, each_asked, arguments_asked, judge, judges, judging, judging_all}
use Rattle.typing_rules.proofs.LawsPairs.{FewParts, each_most, arguments_most, expr_pairs, exprs_pairs}
use Rattle.file_sections.specs.declared.Sections.{Sections}
use Rattle.file_sections.specs.Layout.{tables_of}
use Rattle.bindings.specs.Bindings.{scope_of}
use Rattle.subtyping.specs.declared.below.Compared.{Compared as Comparing}
use Rattle.answers.specs.declared.answer.Judgement.TheVariants.{Typed, GoesOn}
use Rattle.answers.specs.declared.answer.At.{At}
use Rattle.answers.specs.declared.answer.Judged.{Judged}
use Rattle.answers.specs.declared.leaves.Expected.{Expected}
use Rattle.answers.specs.declared.leaves.Expected.TheVariants.{Each, Run}
use Rattle.answers.specs.Answers.{structs_alone, with_pairs, Refuses, AndAsked, Expecting, expected_at}
use Rattle.expressions.specs.Contract.{context_of, Fine, After, Typing, Listing, Meets, accepts, refuses, Few, Ready, expr_in, Told, expected_asked, listed_in, ReadyList, ToldList}
use Rattle.expressions.proofs.LawsMeets.{Untyped, goes_unrefused, pairs_told, refuses_with, accepts_now, meets_more, fails, holds, part_of}
use Rattle.expressions.proofs.LawsAfter.{ready, typing_of, retell, after_none, after_append}
use Rattle.expressions.proofs.LawsChild.{few_parts_in, child_scope, child_within}
use Rattle.expressions.proofs.LawsLabels.{Closed, closed_none, closed_append, expr_long, expr_closed}

-- the definition in the scope and the context of the buffers
abbrev pub judged_in : List ℕ → Sections → List ℕ → (base s : ℕ) → Exprs → ℕ → Counted (List ℕ)
judged_in F S W base s es n = judging_all (tables_of F S) (context_of (tables_of F S) W base) es n (scope_of (tables_of F S) W base s)

abbrev pub expected_in : List ℕ → Sections → List ℕ → ℕ → List ℕ → Expected → Compared
expected_in F S W base ts x = expected_asked (tables_of F S) (context_of (tables_of F S) W base) ts x

-- questions one after another
and-true : (a : Bool) → (a && true) ≡ a
and-true true = refl
and-true false = refl

and_assoc : (a b c : Bool) → (a && (b && c)) ≡ ((a && b) && c)
and_assoc true b c = refl
and_assoc false b c = refl

sum_none : (f : Bool) (i : ℕ) → i + pick f 0 0 ≡ i
sum_none true i = omega arith
sum_none false i = omega arith

sum_assoc : (f g : Bool) (i j k : ℕ) → i + pick f (j + pick g k 0) 0 ≡ (i + pick f j 0) + pick (f && g) k 0
sum_assoc true g i j k = omega arith
sum_assoc false g i j k = omega arith

pub none_next : (c : Compared) → and_next (plainly true) c ≡ c
none_next c = ap (λ k. record { holds = c.holds; pairs = k }) (zero-add c.pairs)

pub next_none : (c : Compared) → and_next c (plainly true) ≡ c
next_none c = ap₂ (λ f k. record { holds = f; pairs = k }) (and-true c.holds) (sum_none c.holds c.pairs)

pub next_assoc : (a b c : Compared) → and_next a (and_next b c) ≡ and_next (and_next a b) c
next_assoc a b c =
    ap₂ (λ f k. record { holds = f; pairs = k }) (and_assoc a.holds b.holds c.holds) (sum_assoc a.holds b.holds a.pairs b.pairs c.pairs)

module _ (T : Tables) (C : Context ℕ) where
  each_more : (ts : List ℕ) (t u : ℕ) → each_asked T C (ts ++ (t ∷ [])) u ≡ and_next (each_asked T C ts u) (asked T C t u)
  unfolding each_asked
  each_more [] t u = next_none (asked T C t u) ∙ sym (none_next (asked T C t u))
  each_more (v ∷ ts) t u = ap (and_next (asked T C v u)) (each_more ts t u) ∙ next_assoc (asked T C v u) (each_asked T C ts u) (asked T C t u)

  arguments_more : (ts : List ℕ) (t p i : ℕ) → i ≡ p + length ts
      → arguments_asked T C (ts ++ (t ∷ [])) p ≡ and_next (arguments_asked T C ts p) (asked T C t (entry_at T i))
  unfolding arguments_asked
  arguments_more [] t p i e = next_none (asked T C t (entry_at T p)) ∙ ap (λ j. asked T C t (entry_at T j)) (omega arith) ∙ sym (none_next (asked T C t (entry_at T i)))
  arguments_more (v ∷ ts) t p i e =
      ap (and_next (asked T C v (entry_at T p))) (arguments_more ts t (suc p) i (omega arith))
      ∙ next_assoc (asked T C v (entry_at T p)) (arguments_asked T C ts (suc p)) (asked T C t (entry_at T i))

  pub expected_more : (ts : List ℕ) (t : ℕ) (x : Expected) (i : ℕ) → length ts ≡ i
      → expected_asked T C (ts ++ (t ∷ [])) x ≡ and_next (expected_asked T C ts x) (asked T C t (expected_at T x i))
  unfolding expected_asked
  expected_more ts t (Each u) i e = each_more ts t u
  expected_more ts t (Run p) i e = arguments_more ts t p (p + i) (omega arith)

  pub expected_none : (x : Expected) → expected_asked T C [] x ≡ plainly true
  unfolding expected_asked each_asked arguments_asked
  expected_none (Each u) = refl
  expected_none (Run p) = refl

  expected_most : FewParts T C → (ts : List ℕ) (x : Expected) → (expected_asked T C ts x).pairs ≤ 400 * length ts
  unfolding expected_asked
  expected_most few ts (Each u) = each_most few ts u
  expected_most few ts (Run p) = arguments_most few ts p

-- the outcome of the expressions after those so far
abbrev pub after_those : List ℕ → List (Label ℕ) → Out (List ℕ) → Out (List ℕ)
after_those ts L o = and_then o λ us M. ok (ts ++ us) (L ++ M)

pub those_none : (o : Out (List ℕ)) → o ≡ after_those [] [] o
those_none (ok us M) = refl
those_none (no p q) = refl

pub those_more : (ts : List ℕ) (L : List (Label ℕ)) (t : ℕ) (M : List (Label ℕ)) (o : Out (List ℕ))
    → after_those ts L (and_then o λ us N. ok (t ∷ us) (M ++ N)) ≡ after_those (ts ++ (t ∷ [])) (L ++ M) o
those_more ts L t M (ok us N) = cc (append_assoc ts (t ∷ []) us, append_assoc L M N)
those_more ts L t M (no p q) = refl

-- nothing is compared after a list
pub no_more : {A : Type 0} (o : Out A) → pairs_after o (λ a L. 0) ≡ 0
no_more (ok a L) = refl
no_more (no p q) = refl

-- a child that is refused, within two steps, after i pairs of others
pub child_through : {F : List ℕ} {S : Sections} {X : List ℕ} {base n k s π h : ℕ} {R W R₁ W₁ K₁ : List ℕ} {r : Judged} {A B D : Type 0} {Q : D → List (Label ℕ) → Type 0}
    (i : ℕ) (o : Out ℕ) {j : ℕ} (c : ℕ → List (Label ℕ) → Out A) (l : ℕ → List (Label ℕ) → ℕ) (d : A → List (Label ℕ) → Out B) (e : B → List (Label ℕ) → Out D) (m : B → List (Label ℕ) → ℕ)
    → Untyped r → h ≡ π + i → Meets (Typing F S X base n k s R W R₁ W₁ K₁ r) r h o j
    → Meets Q r π (and_then (and_then (and_then o c) d) e) ((i + (j + pairs_after o l)) + pairs_after (and_then (and_then o c) d) m)
child_through i o c l d e m u z (accepts t L j p f) = absurd (u.never t p.typed)
child_through i o c l d e m u z (refuses p q j g) = refuses_with p q (i + (j + 0) + 0) g (omega arith)

-- a list that has an expression
on_some : (P : Exprs → Type 0) → ((a : Expr) (es : Exprs) → P (also a es)) → (es : Exprs) → 1 ≤ count es → P es
on_some P f none h = absurd (omega arith)
on_some P f (also a es) h = f a es

on_none : (P : Exprs → Type 0) → P none → (es : Exprs) → count es ≤ 0 → P es
on_none P f none h = f
on_none P f (also a es) h = absurd (omega arith)

-- the first i expressions of es, which stand at n, are typed, and how their subtypes went; the others stand at m, where h pairs are compared
pub record Prefix (F : List ℕ) (S : Sections) (X : List ℕ) (base n s π : ℕ) (R W : List ℕ) (left : ℕ) (x : Expected) (m h i : ℕ) (c : Comparing) (R₁ W₁ K₁ : List ℕ) (es : Exprs) : Type 0 where
  pub types : List ℕ
  pub labels : List (Label ℕ)
  pub spent : ℕ
  pub rest : Exprs
  pub stand : StandAll (tables_of F S) m rest
  pub counted : count rest + i ≡ left
  pub long : length types ≡ i
  pub reached : m ≡ n + length labels
  pub closed : Closed labels
  pub sized : sizes es ≡ length labels + sizes rest
  pub after : After F S X base labels n (length labels) s s R W R₁ W₁ K₁
  pub holds : c.holds ≡ (expected_in F S W base types x).holds
  pub pairs : c.pairs ≡ (expected_in F S W base types x).pairs
  pub judged : (judged_in F S W base s es n).out
      ≡ after_those types labels (judged_in F S W base s rest m).out
  pub sum : (judged_in F S W base s es n).pairs ≡ spent + (judged_in F S W base s rest m).pairs
  pub here : h ≡ π + spent
  pub fewer : spent ≤ 1200 * length labels

pub record Walked (F : List ℕ) (S : Sections) (X : List ℕ) (base n s π : ℕ) (R W : List ℕ) (left : ℕ) (x : Expected) (m h i : ℕ) (c : Comparing) (R₁ W₁ K₁ : List ℕ) : Type 0 where
  pub part : (es : Exprs) → StandAll (tables_of F S) n es → count es ≡ left → Prefix F S X base n s π R W left x m h i c R₁ W₁ K₁ es

-- a list whose first expression is typed
judges_also : (T : Tables) (C : Context ℕ) (a : Expr) (es : Exprs) (n : ℕ) (Γ : Scope ℕ) {t : ℕ} {L : List (Label ℕ)} → judge T C a n Γ ≡ ok t L
    → (judges T C (also a es) n Γ ≡ and_then (judges T C es (n + size a) Γ) λ ts M. ok (t ∷ ts) (L ++ M))
    × ((judging_all T C (also a es) n Γ).pairs ≡ (judging T C a n Γ).pairs + (judging_all T C es (n + size a) Γ).pairs)
unfolding judging_all
judges_also T C a es n Γ q = (rw q, rw (q, no_more (judges T C es (n + size a) Γ)) (omega arith))

module _ {F : List ℕ} {S : Sections} {X R W : List ℕ} {base n s π left : ℕ} {x : Expected} {m h i : ℕ} {c : Comparing} {R₁ W₁ K₁ : List ℕ} {es : Exprs}
    (p : Prefix F S X base n s π R W left x m h i c R₁ W₁ K₁ es) where
  -- one more expression
  part_more : {R₂ W₂ K₂ : List ℕ} {r : Judged} {t : ℕ} {b : Comparing} (a : Expr) (rs : Exprs) → StandAll (tables_of F S) m (also a rs) → count (also a rs) + i ≡ left
      → sizes es ≡ length p.labels + sizes (also a rs)
      → (judged_in F S W base s es n).out
      ≡ after_those p.types p.labels (judged_in F S W base s (also a rs) m).out
      → (judged_in F S W base s es n).pairs ≡ p.spent + (judged_in F S W base s (also a rs) m).pairs
      → (M : List (Label ℕ)) → (expr_in F S W base s a m).out ≡ ok t M
      → Typing F S X base m (size a) s R₁ W₁ R₂ W₂ K₂ r t M
      → r.at.pairs ≡ h + (expr_in F S W base s a m).pairs
      → AndAsked c (asked (tables_of F S) (structs_alone (tables_of F S)) t (expected_at (tables_of F S) x i)) b
      → Prefix F S X base n s π R W left x r.at.node r.at.pairs (i + 1) b R₂ W₂ K₂ es
  part_more {R₂} {W₂} {K₂} {r} {t} {b} a rs st co z j sm M q v pr e =
      let T : Tables = tables_of F S in
      let C : Context ℕ = context_of (tables_of F S) W base in
      let Γ : Scope ℕ = scope_of (tables_of F S) W base s in
      let long : length M ≡ size a = expr_long T C a m Γ t M q in
      let both : length (p.labels ++ M) ≡ length p.labels + size a = length-append p.labels M ∙ ap (λ k. length p.labels + k) long in
      let (one, one-sum) = judges_also T C a rs m Γ q in
      let more = expected_more T C p.types t x i p.long in
      record {
        types = p.types ++ (t ∷ []);
        labels = p.labels ++ M;
        spent = p.spent + (expr_in F S W base s a m).pairs;
        rest = rs;
        stand = subst (λ k. StandAll T k rs) (sym v.next) st.1;
        counted = omega arith;
        long = length-append p.types (t ∷ []) ∙ ap (λ k. k + 1) p.long;
        reached = omega (arith, v.next, p.reached, both);
        closed = closed_append p.closed (expr_closed T C a m Γ t M q);
        sized = omega (arith, z, both);
        after = subst (λ k. After F S X base (p.labels ++ M) n k s s R W R₂ W₂ K₂) (sym both)
            (after_append refl p.closed p.after (subst (λ k. After F S X base M k (size a) s s R₁ W₁ R₂ W₂ K₂) p.reached v.after));
        holds = e.holds ∙ ap (λ f. f && (asked T C t (expected_at T x i)).holds) p.holds ∙ sym (ap (λ f. f.holds) more);
        pairs = e.pairs ∙ ap₂ (λ k f. k + pick f (asked T C t (expected_at T x i)).pairs 0) p.pairs p.holds ∙ sym (ap (λ f. f.pairs) more);
        judged = j ∙ ap (after_those p.types p.labels) one ∙ those_more p.types p.labels t M (judges T C rs (m + size a) Γ)
            ∙ ap (λ k. after_those (p.types ++ (t ∷ [])) (p.labels ++ M) (judges T C rs k Γ)) (sym v.next);
        sum = sm ∙ ap (λ k. p.spent + k) (one-sum ∙ ap (λ k. (expr_in F S W base s a m).pairs + (judging_all T C rs k Γ).pairs) (sym v.next)) ∙ omega arith;
        here = omega (arith, pr, p.here);
        fewer = omega (arith, p.fewer, both, expr_pairs (few_parts_in p.after.fine.good_tables W base) a m Γ);
      }

  module _ (done : left ≤ i) where
    -- no expression is left
    all_judged : (judged_in F S W base s es n).out ≡ ok p.types p.labels
    unfolding judging_all
    all_judged = p.judged ∙
        on_none (λ rs. after_those p.types p.labels (judged_in F S W base s rs m).out ≡ ok p.types p.labels)
        (cc (append-nil p.types, append-nil p.labels)) p.rest (omega (arith, p.counted))

    all_spent : h ≡ π + (judged_in F S W base s es n).pairs
    unfolding judging_all
    all_spent = omega (arith, p.here, p.sum, on_none (λ rs. (judged_in F S W base s rs m).pairs ≡ 0) refl p.rest (omega (arith, p.counted)))

    all_sized : sizes es ≡ length p.labels
    all_sized = p.sized ∙ on_none (λ rs. length p.labels + sizes rs ≡ length p.labels) (omega arith) p.rest (omega (arith, p.counted))

    ended : {Q : List ℕ → List (Label ℕ) → Type 0} {r : Judged} (parent : ℕ)
        → Meets Q r h (needs (expected_in F S W base p.types x).holds 11 parent (ok p.types p.labels))
        ((expected_in F S W base p.types x).pairs + pick (expected_in F S W base p.types x).holds 0 0)
        → Meets Q r π (listed_in F S W base s es n x parent).out (listed_in F S W base s es n x parent).pairs
    ended {Q} {r} parent w =
        subst
        (λ o. Meets Q r π (and_then o λ ts L. needs (expected_in F S W base ts x).holds 11 parent (ok ts L))
        ((judged_in F S W base s es n).pairs + pairs_after o (λ ts L. (expected_in F S W base ts x).pairs + pick (expected_in F S W base ts x).holds 0 0))) (sym all_judged)
        (meets_more (judged_in F S W base s es n).pairs all_spent w)

    part_listed : {r : Judged} {a : At} → a.node ≡ m → a.scope ≡ s → r ≡ record { judgement = GoesOn; at = a } → Listing F S X base n (sizes es) s R W R₁ W₁ K₁ r p.types p.labels
    part_listed {r} {a} there level e =
        record {
          goes_on = ap (λ q. q.judgement) e;
          next = ap (λ q. q.at.node) e ∙ there ∙ omega (arith, p.reached, all_sized);
          scope = ap (λ q. q.at.scope) e ∙ level;
          after = subst (λ k. After F S X base p.labels n k s s R W R₁ W₁ K₁) (sym all_sized) p.after;
        }

module _ {F : List ℕ} {S : Sections} {X R W K : List ℕ} {base n s π left : ℕ} {x : Expected} (g : ReadyList F S X R W K base n s π left x) where
  pub list_start : Walked F S X base n s π R W left x n π 0 (record { holds = true; pairs = 0 }) R W K
  list_start =
      record {
        part = λ es h c. record {
          types = [];
          labels = [];
          spent = 0;
          rest = es;
          stand = h;
          counted = omega arith;
          long = refl;
          reached = omega arith;
          closed = closed_none;
          sized = omega arith;
          after = after_none n g.fine;
          holds = sym (ap (λ f. f.holds) (expected_none (tables_of F S) (context_of (tables_of F S) W base) x));
          pairs = sym (ap (λ f. f.pairs) (expected_none (tables_of F S) (context_of (tables_of F S) W base) x));
          judged = those_none _;
          sum = omega arith;
          here = omega arith;
          fewer = omega arith;
        };
      }

  module _ {m h i : ℕ} {c : Comparing} {R₁ W₁ K₁ : List ℕ} (w : Walked F S X base n s π R W left x m h i c R₁ W₁ K₁) where
    so_far : Prefix F S X base n s π R W left x m h i c R₁ W₁ K₁ g.trees
    so_far = w.part g.trees g.stand g.counted

    -- for the measure
    pub list_forward : n ≤ m
    list_forward = omega (arith, so_far.reached)

    pub list_most : i ≤ left
    list_most = omega (arith, so_far.counted)

    -- there is room for what those ahead compare, and for what their questions did
    few_spent : h + 1200 * sizes so_far.rest ≤ 4294967295
    few_spent = omega (arith, so_far.here, so_far.fewer, so_far.sized, g.few)

    pub list_counted : (h ≤ 4294967295) × (c.pairs ≤ 4294967295)
    list_counted =
        let most = exprs_pairs (few_parts_in g.fine.good_tables W base) g.trees n (scope_of (tables_of F S) W base s) in (
          omega (arith, few_spent),
          omega (arith, so_far.pairs, so_far.long, list_most, g.counted, most, g.few, expected_most (tables_of F S) (context_of (tables_of F S) W base) (few_parts_in g.fine.good_tables W base) so_far.types x),
        )

    module _ (more : i < left) {q : ℕ} (level : q ≡ s) where
      pub list_ready : Ready F S X R₁ W₁ K₁ base m q h
      list_ready =
          subst (λ l. Ready F S X R₁ W₁ K₁ base m l h) (sym level)
          (on_some (λ es. StandAll (tables_of F S) m es → s + sizes es ≤ S.built_ins + S.nodes → Few h (sizes es) → Ready F S X R₁ W₁ K₁ base m s h)
          (λ a es st l f. ready m a so_far.after.fine st.0 (omega arith) (omega arith))
          so_far.rest (omega (arith, so_far.counted, more)) so_far.stand (omega (arith, so_far.sized, g.room)) few_spent)

      pub list_expecting : Expecting (tables_of F S) S x (i + 1)
      list_expecting = go x g.expecting
        where
          go : (y : Expected) → Expecting (tables_of F S) S y left → Expecting (tables_of F S) S y (i + 1)
          go (Each t) h = h
          go (Run p) h = (omega (arith, h.0), λ j l. h.1 j (omega arith))

      module _ {R₂ W₂ K₂ : List ℕ} {r₁ : Judged} (m₁ : Told F S X R₁ W₁ base m q h R₂ W₂ K₂ r₁) where
        pub list_child_no : {parent : ℕ} → Untyped r₁ → ToldList F S X R W base n s π left x parent R₂ W₂ K₂ r₁
        unfolding judging_all
        list_child_no {parent} u = record { tells = λ es h c. go es (w.part es h c) }
          where
            fitting : List ℕ → List (Label ℕ) → Out (List ℕ)
            fitting ts L = needs (expected_in F S W base ts x).holds 11 parent (ok ts L)

            asking : List ℕ → List (Label ℕ) → ℕ
            asking ts L = (expected_in F S W base ts x).pairs + pick (expected_in F S W base ts x).holds 0 0

            -- the answer to the list, from the outcome of its children
            Listed : Exprs → Out (List ℕ) → ℕ → Type 0
            Listed es o k = Meets (Listing F S X base n (sizes es) s R W R₂ W₂ K₂ r₁) r₁ π (and_then o fitting) (k + pairs_after o asking)

            go : (es : Exprs) → Prefix F S X base n s π R W left x m h i c R₁ W₁ K₁ es → Listed es (judged_in F S W base s es n).out (judged_in F S W base s es n).pairs
            go es p =
                subst (λ o. Listed es o (judged_in F S W base s es n).pairs) (sym p.judged)
                (subst (Listed es (after_those p.types p.labels (judged_in F S W base s p.rest m).out)) (sym p.sum)
                (on_some (λ rs. StandAll (tables_of F S) m rs → Listed es (after_those p.types p.labels (judged_in F S W base s rs m).out) (p.spent + (judged_in F S W base s rs m).pairs))
                (λ a rs st. child_through p.spent _ _ _ _ fitting asking u p.here (retell p.after.same g.fine.above refl level m₁ a st.0))
                p.rest (omega (arith, p.counted, more)) p.stand))

        module _ {t : ℕ} (y : r₁.judgement ≡ Typed t) where
          pub list_tested : (t < S.types) × Expecting (tables_of F S) S x (i + 1)
          list_tested = (child_within list_ready m₁ y, list_expecting)

          pub list_level : r₁.at.scope ≡ s
          list_level = child_scope list_ready m₁ y ∙ level

          pub list_again : {b : Comparing} → AndAsked c (asked (tables_of F S) (structs_alone (tables_of F S)) t (expected_at (tables_of F S) x i)) b
              → Walked F S X base n s π R W left x r₁.at.node r₁.at.pairs (i + 1) b R₂ W₂ K₂
          list_again {b} e = record { part = λ es h c. go es (w.part es h c) }
            where
              go : (es : Exprs) → Prefix F S X base n s π R W left x m h i c R₁ W₁ K₁ es → Prefix F S X base n s π R W left x r₁.at.node r₁.at.pairs (i + 1) b R₂ W₂ K₂ es
              go es p =
                  on_some
                  (λ rs. StandAll (tables_of F S) m rs → count rs + i ≡ left → sizes es ≡ length p.labels + sizes rs
                  → (judged_in F S W base s es n).out
                  ≡ after_those p.types p.labels (judged_in F S W base s rs m).out
                  → (judged_in F S W base s es n).pairs ≡ p.spent + (judged_in F S W base s rs m).pairs
                  → Prefix F S X base n s π R W left x r₁.at.node r₁.at.pairs (i + 1) b R₂ W₂ K₂ es)
                  (λ a rs st co z j sm.
                  let o = retell p.after.same g.fine.above refl level m₁ a st.0 in
                  let (M, q, v) = typing_of _ o y in
                  part_more p a rs st co z j sm M q v (pairs_told o) e)
                  p.rest (omega (arith, p.counted, more)) p.stand p.counted p.sized p.judged p.sum

    module _ (done : left ≤ i) {parent : ℕ} {r : Judged} {a : At} {b : At} (there : b.node ≡ m) (level : b.scope ≡ s) (now : b.pairs ≡ h) (ea : a ≡ with_pairs b c) where
      pub list_unfit : not c.holds ≡ true → Refuses r 11 parent a.pairs → ToldList F S X R W base n s π left x parent R₁ W₁ K₁ r
      list_unfit f e =
          record {
            tells = λ es st co.
                let p = w.part es st co in
                ended p done parent (fails (expected_in F S W base p.types x) 11 parent _ _ (sym p.holds ∙ not-true c.holds f)
                (subst (Refuses r 11 parent) (ap (λ k. k.pairs) ea ∙ ap₂ (λ k l. k + l) now p.pairs) e));
          }

      pub list_done : not c.holds ≡ false → r ≡ record { judgement = GoesOn; at = a } → ToldList F S X R W base n s π left x parent R₁ W₁ K₁ r
      list_done f e =
          record {
            tells = λ es st co.
                let p = w.part es st co in
                ended p done parent (holds (expected_in F S W base p.types x) 11 parent _ (sym p.holds ∙ not-false c.holds f)
                (accepts_now _ _ (part_listed p done (ap (λ k. k.node) ea ∙ there) (ap (λ k. k.scope) ea ∙ level) e)
                (ap (λ k. k.at.pairs) e ∙ ap (λ k. k.pairs) ea ∙ ap₂ (λ k l. k + l) now p.pairs)));
          }

-- what a list that goes on says
pub listing_of : {F : List ℕ} {S : Sections} {X : List ℕ} {base n k s π i : ℕ} {R W R₁ W₁ K₁ : List ℕ} {r : Judged} (o : Out (List ℕ)) → Meets (Listing F S X base n k s R W R₁ W₁ K₁ r) r π o i → r.judgement ≡ GoesOn
    → (ts : List ℕ) × (L : List (Label ℕ)) × (o ≡ ok ts L) × Listing F S X base n k s R W R₁ W₁ K₁ r ts L
listing_of o m y = part_of o m (goes_unrefused y)

module _ {F : List ℕ} {S : Sections} {X R W K : List ℕ} {base n s π left : ℕ} {x : Expected} (g : ReadyList F S X R W K base n s π left x) {parent : ℕ} {R₁ W₁ K₁ : List ℕ} {r : Judged}
    (told : ToldList F S X R W base n s π left x parent R₁ W₁ K₁ r) (y : r.judgement ≡ GoesOn) where
  pub listed_fine : Fine F S X R₁ W₁ K₁ base s
  listed_fine = let (ts, L, q, p) = listing_of _ (told.tells g.trees g.stand g.counted) y in p.after.fine
