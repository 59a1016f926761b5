-- The loop over field initializers: what holds after i of them, and the answers of its returns. Assumes nothing.
use mathlib.Core.Path.{◌≡◌, refl, ap, ap₂, sym, subst, ◌∙◌}
use mathlib.Core.Bool.{Bool, true, false, not}
use mathlib.Core.List.{List, [], ◌∷◌, ◌++◌, append-nil, append_assoc}
use Prim.Native.Nat.{ℕ, ◌+◌, ◌*◌, ◌≤◌, ◌<◌}
use native.Mathlib.Omega.{arith}
use lib.ListN.{length, length-append}
use borrow.Author.Tests.{not-true, not-false}
use Rattle.oat.specs.Basics.{pick}
use Rattle.oat.specs.Tables.{Tables, node_at}
use Rattle.oat.specs.Pairs.{Compared, plainly, and_next}
use Rattle.oat.specs.Types.{Field, struct_of}
use Rattle.oat.specs.Syntax.{Expr, size, Inits, no_init, init, size_inits, count_inits}
use Rattle.oat.specs.Nodes.{InitsStand}
use Rattle.oat.proofs.LawsTypes.{types-formed}
use Rattle.typing_rules.specs.Contexts.{Scope, Context}
use Rattle.typing_rules.specs.Labels.{Label, unlabelled}
use Rattle.typing_rules.specs.Rules.{Member, has, lacks, member}
use Rattle.typing_rules.specs.Judge.{Out, ok, Counted, Number, number, unknown, and_then, needs, pairs_after, member_asked, inits_asked, judge, judge_inits, judging, judging_inits}
use Rattle.typing_rules.proofs.LawsPairs.{FewParts, few_parts, asked_most, expr_pairs, inits_pairs}
use Rattle.typing_rules.proofs.LawsFields.{member_of}
use Rattle.typing_rules.specs.Check.{next_result}
use Rattle.file_sections.specs.declared.Sections.{Sections}
use Rattle.file_sections.specs.Layout.{tables_of}
use Rattle.file_sections.proofs.LawsRecords.{nodes_long, structs_long}
use Rattle.bindings.specs.Bindings.{scope_of}
use Rattle.fields.specs.Lookup.{field_in}
use Rattle.fields.proofs.LawsLookup.{member-in}
use Rattle.subtyping.specs.declared.below.Compared.{Compared as Comparing}
use Rattle.answers.specs.declared.answer.Judgement.TheVariants.{Typed, GoesOn}
use Rattle.answers.specs.declared.answer.At.{At}
use Rattle.answers.specs.declared.answer.Judged.{Judged}
use Rattle.answers.specs.Answers.{structs_alone, with_row, with_pairs, Refuses, AndAsked}
use Rattle.expressions.specs.Contract.{context_of, Fine, RowsAt, After, Typing, Listing, Meets, Few, Ready, expr_in, Told, initialized_in, ReadyInits, ToldInits}
use Rattle.expressions.proofs.LawsMeets.{Untyped, pairs_told, accepts_now, meets_more, fails, holds}
use Rattle.expressions.proofs.LawsAfter.{ready, typing_of, retell, rows_kept, row_length, row_other, row-result, row_binder, fine_rows, after_none, after_append}
use Rattle.expressions.proofs.LawsChild.{few_parts_in, child_scope, child_within, child_fine}
use Rattle.expressions.proofs.LawsLabels.{Closed, closed_none, closed_append, closed_before, expr_long, expr_closed, expr_head}
use Rattle.expressions.proofs.LawsShape.{size_one}
use Rattle.expressions.proofs.LawsList.{none_next, next_none, next_assoc, after_those, those_none, those_more, no_more, child_through, listing_of}

-- the definition in the scope and the context of the buffers
abbrev pub inits_in : List ℕ → Sections → List ℕ → (base s : ℕ) → Inits → ℕ → Counted (List ℕ)
inits_in F S W base s is n = judging_inits (tables_of F S) (context_of (tables_of F S) W base) is n (scope_of (tables_of F S) W base s)

abbrev pub fits_in : List ℕ → Sections → List ℕ → (base owner : ℕ) → Inits → List ℕ → Compared
fits_in F S W base owner is ts = inits_asked (tables_of F S) (context_of (tables_of F S) W base) (struct_of (tables_of F S) owner).fields is ts

-- initializers that there are
on_some : (P : Inits → Type 0) → ((x : ℕ) (a : Expr) (is : Inits) → P (init x a is)) → (is : Inits) → 1 ≤ count_inits is → P is
on_some P f no_init h = absurd (omega arith)
on_some P f (init x a is) h = f x a is

on_none : (P : Inits → Type 0) → P no_init → (is : Inits) → count_inits is ≤ 0 → P is
on_none P f no_init h = f
on_none P f (init x a is) h = absurd (omega arith)

-- initializers whose first value is typed
inits_also : (T : Tables) (C : Context ℕ) (x : ℕ) (a : Expr) (is : Inits) (n : ℕ) (Γ : Scope ℕ) {t : ℕ} {L : List (Label ℕ)} → judge T C a (n + 1) Γ ≡ ok t L
    → (judge_inits T C (init x a is) n Γ ≡ and_then (judge_inits T C is (n + 1 + size a) Γ) λ ts M. ok (t ∷ ts) ((unlabelled ∷ L) ++ M))
    × ((judging_inits T C (init x a is) n Γ).pairs ≡ (judging T C a (n + 1) Γ).pairs + (judging_inits T C is (n + 1 + size a) Γ).pairs)
unfolding judging_inits
inits_also T C x a is n Γ q = (rw q, rw (q, no_more (judge_inits T C is (n + 1 + size a) Γ)) (omega arith))

-- the labels of one initializer
head_closed : (L : List (Label ℕ)) → 1 ≤ length L → Closed L → Closed (unlabelled ∷ L)
head_closed [] h c = absurd (omega arith)
head_closed (l ∷ L) h c = closed_before unlabelled c

-- subtypes do not depend on names
member_below : (T : Tables) (W : List ℕ) (base t : ℕ) (m : Member) → member_asked T (structs_alone T) t m ≡ member_asked T (context_of T W base) t m
member_below T W base t (has u) = refl
member_below T W base t lacks = refl

-- the row of an initializer over its value's
after_init : {F : List ℕ} {S : Sections} {X : List ℕ} {base : ℕ} {L : List (Label ℕ)} {n k s t : ℕ} {R W R₁ W₁ K₁ R₂ : List ℕ} → n < S.nodes → next_result L ≡ t → R₂ ≡ with_row R₁ n t 65535
    → After F S X base L (n + 1) k s s R W R₁ W₁ K₁ → After F S X base (unlabelled ∷ L) n (1 + k) s s R W R₂ W₁ K₁
unfolding RowsAt
after_init {F} {S} {X} {base} {L} {n} {k} {s} {t} {R} {W} {R₁} {W₁} {K₁} h q e a =
    let long : n * 2 + 1 < length R₁ = omega (arith, a.fine.rows_long, h) in
    subst (λ r. After F S X base (unlabelled ∷ L) n (1 + k) s s R W r W₁ K₁) (sym e)
    (record {
      rows = (
        row-result R₁ n t 65535 long ∙ sym q,
        row_binder R₁ n t 65535 long,
        rows_kept R₁ (with_row R₁ n t 65535) (n + 1) L (λ i g l. row_other R₁ n t 65535 i (λ z. omega arith) (λ z. omega arith)) a.rows,
      );
      kept = record {
        before = λ i g. row_other R₁ n t 65535 i (λ z. omega arith) (λ z. omega arith) ∙ a.kept.before i (omega arith);
        after = λ i g. row_other R₁ n t 65535 i (λ z. omega arith) (λ z. omega arith) ∙ a.kept.after i (omega arith);
      };
      same = a.same;
      fine = fine_rows a.fine (row_length R₁ n t 65535);
    })

-- a question about a field compares few pairs
member_few : {T : Tables} {C : Context ℕ} → FewParts T C → (t : ℕ) (f : Number) → (member_asked T C t (member_of T f)).pairs ≤ 399
unfolding member_of
member_few few t (number u) = asked_most few t u
member_few few t unknown = omega arith

pick_most : (b : Bool) (n m : ℕ) → n ≤ m → pick b n 0 ≤ m
pick_most true n m h = h
pick_most false n m h = omega arith

-- the comparison that the code has
abbrev compared : Comparing → Compared
compared c = record { holds = c.holds; pairs = c.pairs }

asked_next : {c b : Comparing} {q : Compared} → AndAsked c q b → compared b ≡ and_next (compared c) q
asked_next {b = b} e = ap₂ (λ f k. record { holds = f; pairs = k }) e.holds e.pairs

-- the first i initializers of those at n are typed, and how their subtypes went; the others stand at m, where h pairs are compared
pub record PrefixInits (F : List ℕ) (S : Sections) (X : List ℕ) (base n s π : ℕ) (R W : List ℕ) (left owner m h i : ℕ) (c : Comparing) (R₁ W₁ K₁ : List ℕ) (is : Inits) : Type 0 where
  pub types : List ℕ
  pub labels : List (Label ℕ)
  pub spent : ℕ
  pub rest : Inits
  pub stand : InitsStand (tables_of F S) m rest
  pub counted : count_inits rest + i ≡ left
  pub reached : m ≡ n + length labels
  pub closed : Closed labels
  pub sized : size_inits is ≡ length labels + size_inits rest
  pub after : After F S X base labels n (length labels) s s R W R₁ W₁ K₁
  pub below : (us : List ℕ) → fits_in F S W base owner is (types ++ us)
      ≡ and_next (compared c) (fits_in F S W base owner rest us)
  pub judged : (inits_in F S W base s is n).out
      ≡ after_those types labels (inits_in F S W base s rest m).out
  pub sum : (inits_in F S W base s is n).pairs ≡ spent + (inits_in F S W base s rest m).pairs
  pub here : h ≡ π + spent
  pub fewer : spent ≤ 1200 * length labels
  pub few_asked : c.pairs ≤ 400 * i

pub record WalkedInits (F : List ℕ) (S : Sections) (X : List ℕ) (base n s π : ℕ) (R W : List ℕ) (left owner m h i : ℕ) (c : Comparing) (R₁ W₁ K₁ : List ℕ) : Type 0 where
  pub part : (is : Inits) → InitsStand (tables_of F S) n is → count_inits is ≡ left → PrefixInits F S X base n s π R W left owner m h i c R₁ W₁ K₁ is

module _ {F : List ℕ} {S : Sections} {X R W : List ℕ} {base n s π left owner m h i : ℕ} {c : Comparing} {R₁ W₁ K₁ : List ℕ} {is : Inits}
    (p : PrefixInits F S X base n s π R W left owner m h i c R₁ W₁ K₁ is) where
  -- one more initializer
  part_more : {R₂ W₂ K₂ R₃ : List ℕ} {r : Judged} {t y : ℕ} {b : Comparing} → owner < length (tables_of F S).structs → (x : ℕ) (a : Expr) (rs : Inits) → InitsStand (tables_of F S) m (init x a rs) → count_inits (init x a rs) + i ≡ left
      → size_inits is ≡ length p.labels + size_inits (init x a rs)
      → ((us : List ℕ) → fits_in F S W base owner is (p.types ++ us)
      ≡ and_next (compared c) (fits_in F S W base owner (init x a rs) us))
      → (inits_in F S W base s is n).out
      ≡ after_those p.types p.labels (inits_in F S W base s (init x a rs) m).out
      → (inits_in F S W base s is n).pairs ≡ p.spent + (inits_in F S W base s (init x a rs) m).pairs
      → (M : List (Label ℕ)) → (expr_in F S W base s a (m + 1)).out ≡ ok t M
      → Typing F S X base (m + 1) (size a) s R₁ W₁ R₂ W₂ K₂ r t M
      → r.at.pairs ≡ h + (expr_in F S W base s a (m + 1)).pairs
      → R₃ ≡ with_row R₂ m t 65535
      → y ≡ (node_at (tables_of F S) m).x
      → AndAsked c (member_asked (tables_of F S) (structs_alone (tables_of F S)) t (member y (struct_of (tables_of F S) owner).fields)) b
      → PrefixInits F S X base n s π R W left owner r.at.node r.at.pairs (i + 1) b R₃ W₂ K₂ is
  unfolding inits_asked
  part_more {R₂} {W₂} {K₂} {R₃} {r} {t} {y} {b} low x a rs st co z f j sm M q v pr e_r ex e =
      let T : Tables = tables_of F S in
      let C : Context ℕ = context_of (tables_of F S) W base in
      let Γ : Scope ℕ = scope_of (tables_of F S) W base s in
      let fs : List Field = (struct_of (tables_of F S) owner).fields in
      let long : length M ≡ size a = expr_long T C a (m + 1) Γ t M q in
      let both : length (p.labels ++ (unlabelled ∷ M)) ≡ length p.labels + (1 + size a) = length-append p.labels (unlabelled ∷ M) ∙ omega arith in
      let head : next_result M ≡ t = ap next_result (sym (append-nil M)) ∙ expr_head T C a (m + 1) Γ t M q [] in
      let fit : compared b ≡ and_next (compared c) (member_asked T C t (member x fs)) =
      asked_next e ∙ ap (and_next (compared c)) (member_below T W base t (member y fs) ∙ ap (λ k. member_asked T C t (member k fs)) (ex ∙ st.0.x_is)) in
      let (one, one-sum) = inits_also T C x a rs m Γ q in
      let few : (member_asked T (structs_alone T) t (member y fs)).pairs ≤ 399 =
      subst (λ f. (member_asked T (structs_alone T) t f).pairs ≤ 399) (sym (member-in T owner y low)) (member_few (few_parts T (types-formed 200 T p.after.fine.good_tables.types) (structs_alone T) (length T.structs) refl) t (field_in T owner y)) in
      record {
        types = p.types ++ (t ∷ []);
        labels = p.labels ++ (unlabelled ∷ M);
        spent = p.spent + (expr_in F S W base s a (m + 1)).pairs;
        rest = rs;
        stand = subst (λ k. InitsStand T k rs) (sym v.next) st.2;
        counted = omega arith;
        reached = omega (arith, v.next, p.reached, both);
        closed = closed_append p.closed (head_closed M (omega (arith, long, size_one a)) (expr_closed T C a (m + 1) Γ t M q));
        sized = omega (arith, z, both);
        after = subst (λ k. After F S X base (p.labels ++ (unlabelled ∷ M)) n k s s R W R₃ W₂ K₂) (sym both)
            (after_append refl p.closed p.after
            (subst (λ k. After F S X base (unlabelled ∷ M) k (1 + size a) s s R₁ W₁ R₃ W₂ K₂) p.reached
            (after_init (subst (λ k. m < k) (nodes_long F S) st.0.within) head e_r v.after)));
        below = λ us. ap (inits_asked T C fs is) (append_assoc p.types (t ∷ []) us) ∙ f (t ∷ us)
            ∙ next_assoc (compared c) (member_asked T C t (member x fs)) (inits_asked T C fs rs us) ∙ ap (λ k. and_next k (inits_asked T C fs rs us)) (sym fit);
        judged = j ∙ ap (after_those p.types p.labels) one ∙ those_more p.types p.labels t (unlabelled ∷ M) (judge_inits T C rs (m + 1 + size a) Γ)
            ∙ ap (λ k. after_those (p.types ++ (t ∷ [])) (p.labels ++ (unlabelled ∷ M)) (judge_inits T C rs k Γ)) (sym v.next);
        sum = sm ∙ ap (λ k. p.spent + k) (one-sum ∙ ap (λ k. (expr_in F S W base s a (m + 1)).pairs + (judging_inits T C rs k Γ).pairs) (sym v.next)) ∙ omega arith;
        here = omega (arith, pr, p.here);
        fewer = omega (arith, p.fewer, both, expr_pairs (few_parts_in p.after.fine.good_tables W base) a (m + 1) Γ);
        few_asked = omega (arith, e.pairs, p.few_asked, pick_most c.holds (member_asked T (structs_alone T) t (member y fs)).pairs 399 few);
      }

  module _ (done : left ≤ i) where
    -- no initializer is left
    all_judged : (inits_in F S W base s is n).out ≡ ok p.types p.labels
    unfolding judging_inits
    all_judged = p.judged ∙
        on_none (λ rs. after_those p.types p.labels (inits_in F S W base s rs m).out ≡ ok p.types p.labels)
        (cc (append-nil p.types, append-nil p.labels)) p.rest (omega (arith, p.counted))

    all_spent : h ≡ π + (inits_in F S W base s is n).pairs
    unfolding judging_inits
    all_spent = omega (arith, p.here, p.sum, on_none (λ rs. (inits_in F S W base s rs m).pairs ≡ 0) refl p.rest (omega (arith, p.counted)))

    all_sized : size_inits is ≡ length p.labels
    all_sized = p.sized ∙ on_none (λ rs. length p.labels + size_inits rs ≡ length p.labels) (omega arith) p.rest (omega (arith, p.counted))

    all-below : fits_in F S W base owner is p.types ≡ compared c
    unfolding inits_asked
    all-below =
        ap (fits_in F S W base owner is) (sym (append-nil p.types))
        ∙ p.below []
        ∙ on_none (λ rs. and_next (compared c) (fits_in F S W base owner rs []) ≡ and_next (compared c) (plainly true)) refl p.rest (omega (arith, p.counted))
        ∙ next_none (compared c)

    ended : {Q : List ℕ → List (Label ℕ) → Type 0} {r : Judged} (parent : ℕ)
        → Meets Q r h (needs (fits_in F S W base owner is p.types).holds 11 parent (ok p.types p.labels))
        ((fits_in F S W base owner is p.types).pairs + pick (fits_in F S W base owner is p.types).holds 0 0)
        → Meets Q r π (initialized_in F S W base s owner is n parent).out (initialized_in F S W base s owner is n parent).pairs
    ended {Q} {r} parent w =
        subst
        (λ o. Meets Q r π (and_then o λ ts L. needs (fits_in F S W base owner is ts).holds 11 parent (ok ts L))
        ((inits_in F S W base s is n).pairs + pairs_after o (λ ts L. (fits_in F S W base owner is ts).pairs + pick (fits_in F S W base owner is ts).holds 0 0))) (sym all_judged)
        (meets_more (inits_in F S W base s is n).pairs all_spent w)

    part_listed : {r : Judged} {a : At} → a.node ≡ m → a.scope ≡ s → r ≡ record { judgement = GoesOn; at = a } → Listing F S X base n (size_inits is) s R W R₁ W₁ K₁ r p.types p.labels
    part_listed {r} {a} there level e =
        record {
          goes_on = ap (λ q. q.judgement) e;
          next = ap (λ q. q.at.node) e ∙ there ∙ omega (arith, p.reached, all_sized);
          scope = ap (λ q. q.at.scope) e ∙ level;
          after = subst (λ k. After F S X base p.labels n k s s R W R₁ W₁ K₁) (sym all_sized) p.after;
        }

module _ {F : List ℕ} {S : Sections} {X R W K : List ℕ} {base n s π left owner : ℕ} (g : ReadyInits F S X R W K base n s π left owner) where
  pub inits_start : WalkedInits F S X base n s π R W left owner n π 0 (record { holds = true; pairs = 0 }) R W K
  inits_start =
      record {
        part = λ is h c. record {
          types = [];
          labels = [];
          spent = 0;
          rest = is;
          stand = h;
          counted = omega arith;
          reached = omega arith;
          closed = closed_none;
          sized = omega arith;
          after = after_none n g.fine;
          below = λ us. sym (none_next _);
          judged = those_none _;
          sum = omega arith;
          here = omega arith;
          fewer = omega arith;
          few_asked = omega arith;
        };
      }

  module _ {m h i : ℕ} {c : Comparing} {R₁ W₁ K₁ : List ℕ} (w : WalkedInits F S X base n s π R W left owner m h i c R₁ W₁ K₁) where
    so_far : PrefixInits F S X base n s π R W left owner m h i c R₁ W₁ K₁ g.inits
    so_far = w.part g.inits g.stand g.counted

    -- for the measure
    pub inits_forward : n ≤ m
    inits_forward = omega (arith, so_far.reached)

    -- there is room for what those ahead compare, and for what their questions did
    few_spent : h + 1200 * size_inits so_far.rest ≤ 4294967295
    few_spent = omega (arith, so_far.here, so_far.fewer, so_far.sized, g.few)

    pub inits_counted : (h ≤ 4294967295) × (c.pairs ≤ 4294967295)
    inits_counted =
        let most = inits_pairs (few_parts_in g.fine.good_tables W base) g.inits n (scope_of (tables_of F S) W base s) in
        (omega (arith, few_spent), omega (arith, so_far.few_asked, so_far.counted, g.counted, most, g.few))

    module _ (more : i < left) {q : ℕ} (level : q ≡ s) where
      pub inits_here : m < S.nodes
      inits_here =
          on_some (λ is. InitsStand (tables_of F S) m is → m < S.nodes)
          (λ x a is st. subst (λ k. m < k) (nodes_long F S) st.0.within)
          so_far.rest (omega (arith, so_far.counted, more)) so_far.stand

      pub inits_ready : Ready F S X R₁ W₁ K₁ base (m + 1) q h
      inits_ready =
          subst (λ l. Ready F S X R₁ W₁ K₁ base (m + 1) l h) (sym level)
          (on_some (λ is. InitsStand (tables_of F S) m is → s + size_inits is ≤ S.built_ins + S.nodes → Few h (size_inits is) → Ready F S X R₁ W₁ K₁ base (m + 1) s h)
          (λ x a is st l f. ready (m + 1) a so_far.after.fine st.1 (omega arith) (omega arith))
          so_far.rest (omega (arith, so_far.counted, more)) so_far.stand (omega (arith, so_far.sized, g.room)) few_spent)

      module _ {R₂ W₂ K₂ : List ℕ} {r₁ : Judged} (m₁ : Told F S X R₁ W₁ base (m + 1) q h R₂ W₂ K₂ r₁) where
        pub inits_child_no : {parent : ℕ} → Untyped r₁ → ToldInits F S X R W base n s π left owner parent R₂ W₂ K₂ r₁
        unfolding judging_inits
        inits_child_no {parent} u = record { tells = λ is h c. go is (w.part is h c) }
          where
            fitting : Inits → List ℕ → List (Label ℕ) → Out (List ℕ)
            fitting is ts L = needs (fits_in F S W base owner is ts).holds 11 parent (ok ts L)

            asking : Inits → List ℕ → List (Label ℕ) → ℕ
            asking is ts L = (fits_in F S W base owner is ts).pairs + pick (fits_in F S W base owner is ts).holds 0 0

            -- the answer to the initializers, from the outcome of their values
            Listed : Inits → Out (List ℕ) → ℕ → Type 0
            Listed is o k = Meets (Listing F S X base n (size_inits is) s R W R₂ W₂ K₂ r₁) r₁ π (and_then o (fitting is)) (k + pairs_after o (asking is))

            go : (is : Inits) → PrefixInits F S X base n s π R W left owner m h i c R₁ W₁ K₁ is → Listed is (inits_in F S W base s is n).out (inits_in F S W base s is n).pairs
            go is p =
                subst (λ o. Listed is o (inits_in F S W base s is n).pairs) (sym p.judged)
                (subst (Listed is (after_those p.types p.labels (inits_in F S W base s p.rest m).out)) (sym p.sum)
                (on_some (λ rs. InitsStand (tables_of F S) m rs → Listed is (after_those p.types p.labels (inits_in F S W base s rs m).out) (p.spent + (inits_in F S W base s rs m).pairs))
                (λ x a rs st. child_through p.spent _ _ _ _ (fitting is) (asking is) u p.here (retell p.after.same g.fine.above refl level m₁ a st.1))
                p.rest (omega (arith, p.counted, more)) p.stand))

        module _ {t : ℕ} (y : r₁.judgement ≡ Typed t) where
          -- the row can be written
          pub inits_row : (m * 2 + 1 < length R₂) × (m < 65536) × (t < 65536) × (65535 < 65536)
          inits_row =
              let l = (child_fine inits_ready m₁ y).rows_long in
              let k = child_within inits_ready m₁ y in
              let laid = g.fine.good_tables.laid in
              (omega (arith, l, inits_here), omega (arith, inits_here, laid.nodes_most), omega (arith, k, laid.types_most), omega arith)

          pub inits_tested : (t < S.types) × (owner < S.structs)
          inits_tested = (child_within inits_ready m₁ y, g.declared_there)

          pub inits_level : r₁.at.scope ≡ s
          inits_level = child_scope inits_ready m₁ y ∙ level

          pub inits_again : {R₃ : List ℕ} {x : ℕ} {b : Comparing} → R₃ ≡ with_row R₂ m t 65535 → x ≡ (node_at (tables_of F S) m).x
              → AndAsked c (member_asked (tables_of F S) (structs_alone (tables_of F S)) t (member x (struct_of (tables_of F S) owner).fields)) b
              → WalkedInits F S X base n s π R W left owner r₁.at.node r₁.at.pairs (i + 1) b R₃ W₂ K₂
          inits_again {R₃} {x} {b} e_r ex e = record { part = λ is h c. go is (w.part is h c) }
            where
              go : (is : Inits) → PrefixInits F S X base n s π R W left owner m h i c R₁ W₁ K₁ is → PrefixInits F S X base n s π R W left owner r₁.at.node r₁.at.pairs (i + 1) b R₃ W₂ K₂ is
              go is p =
                  on_some
                  (λ rs. InitsStand (tables_of F S) m rs → count_inits rs + i ≡ left → size_inits is ≡ length p.labels + size_inits rs
                  → ((us : List ℕ) → fits_in F S W base owner is (p.types ++ us)
                  ≡ and_next (compared c) (fits_in F S W base owner rs us))
                  → (inits_in F S W base s is n).out
                  ≡ after_those p.types p.labels (inits_in F S W base s rs m).out
                  → (inits_in F S W base s is n).pairs ≡ p.spent + (inits_in F S W base s rs m).pairs
                  → PrefixInits F S X base n s π R W left owner r₁.at.node r₁.at.pairs (i + 1) b R₃ W₂ K₂ is)
                  (λ z a rs st co k f j sm.
                  let o = retell p.after.same g.fine.above refl level m₁ a st.1 in
                  let (M, q, v) = typing_of _ o y in
                  part_more p (subst (λ k. owner < k) (sym (structs_long F S)) g.declared_there) z a rs st co k f j sm M q v (pairs_told o) e_r ex e)
                  p.rest (omega (arith, p.counted, more)) p.stand p.counted p.sized p.below p.judged p.sum

    module _ (done : left ≤ i) {parent : ℕ} {r : Judged} {a : At} {b : At} (there : b.node ≡ m) (level : b.scope ≡ s) (now : b.pairs ≡ h) (ea : a ≡ with_pairs b c) where
      pub inits_unfit : not c.holds ≡ true → Refuses r 11 parent a.pairs → ToldInits F S X R W base n s π left owner parent R₁ W₁ K₁ r
      inits_unfit f e =
          record {
            tells = λ is st co.
                let p = w.part is st co in
                let q = all-below p done in
                ended p done parent (fails (fits_in F S W base owner is p.types) 11 parent _ _ (ap (λ k. k.holds) q ∙ not-true c.holds f)
                (subst (Refuses r 11 parent) (ap (λ k. k.pairs) ea ∙ ap₂ (λ k l. k + l) now (sym (ap (λ k. k.pairs) q))) e));
          }

      pub inits_done : not c.holds ≡ false → r ≡ record { judgement = GoesOn; at = a } → ToldInits F S X R W base n s π left owner parent R₁ W₁ K₁ r
      inits_done f e =
          record {
            tells = λ is st co.
                let p = w.part is st co in
                let q = all-below p done in
                ended p done parent (holds (fits_in F S W base owner is p.types) 11 parent _ (ap (λ k. k.holds) q ∙ not-false c.holds f)
                (accepts_now _ _ (part_listed p done (ap (λ k. k.node) ea ∙ there) (ap (λ k. k.scope) ea ∙ level) e)
                (ap (λ k. k.at.pairs) e ∙ ap (λ k. k.pairs) ea ∙ ap₂ (λ k l. k + l) now (sym (ap (λ k. k.pairs) q)))));
          }

module _ {F : List ℕ} {S : Sections} {X R W K : List ℕ} {base n s π left owner : ℕ} (g : ReadyInits F S X R W K base n s π left owner) {parent : ℕ} {R₁ W₁ K₁ : List ℕ} {r : Judged}
    (told : ToldInits F S X R W base n s π left owner parent R₁ W₁ K₁ r) (y : r.judgement ≡ GoesOn) where
  pub initialized_fine : Fine F S X R₁ W₁ K₁ base s
  initialized_fine = let (ts, L, q, p) = listing_of _ (told.tells g.inits g.stand g.counted) y in p.after.fine
