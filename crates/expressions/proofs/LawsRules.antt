-- The pattern of a rule: a first child, whose type must have a sort, then the rest; or a second child, then the rest. A kind says by
-- `One` or `Two` that its trees are judged so, and has the laws below. Assumes nothing.
use mathlib.Core.Path.{◌≡◌, refl, ap, sym, subst, ◌∙◌}
use mathlib.Core.Bool.{Bool, true, false}
use mathlib.Core.List.{List, ◌++◌}
use Prim.Native.Nat.{ℕ, ◌+◌, ◌≤◌, ◌<◌}
use native.Mathlib.Omega.{arith}
use Rattle.oat.specs.Syntax.{Expr, size}
use Rattle.oat.specs.Nodes.{Stands}
use Rattle.typing_rules.specs.Contexts.{Scope}
use Rattle.typing_rules.specs.Labels.{Label}
use Rattle.typing_rules.specs.Judge.{Counted, and_counting, requires, plain}
use Rattle.file_sections.specs.declared.Sections.{Sections}
use Rattle.file_sections.specs.Layout.{tables_of}
use Rattle.answers.specs.declared.answer.Judgement.TheVariants.{Typed}
use Rattle.answers.specs.declared.answer.At.{At}
use Rattle.answers.specs.declared.answer.Judged.{Judged}
use Rattle.answers.specs.Answers.{with_row, Refuses}
use Rattle.expressions.specs.Contract.{After, Typing, Meets, Ready, expr_in, Told}
use Rattle.expressions.proofs.LawsMeets.{Untyped, accepts_now, stops, passes, child_no, child_ok}
use Rattle.expressions.proofs.LawsAfter.{ready, typing_of, retell, after_append, rule_typed}
use Rattle.expressions.proofs.LawsChild.{child_spent}
use Rattle.expressions.proofs.LawsLabels.{expr_long, expr_closed}

-- a premise that holds
pub requires_true : {A : Type 0} (b : Bool) (p q : ℕ) (o : Counted A) → b ≡ true → requires b p q o ≡ o
requires_true b p q o e = rw e

module _ (F : List ℕ) (S : Sections) (W : List ℕ) (base n s : ℕ) where
  -- e at n has a first child, of a type with the sort, and then something more
  pub record First (sort : ℕ → Bool) (e : Expr) : Type 0 where
    pub child : Expr
    pub stands : Stands (tables_of F S) (n + 1) child
    pub smaller : 1 + size child ≤ size e
    pub more : ℕ → List (Label ℕ) → Counted ℕ
    pub judged : expr_in F S W base s e n ≡ and_counting (expr_in F S W base s child (n + 1)) λ t L. requires (sort t) 10 n (more t L)

  -- it has no other, and then the rest, from the child's type and labels
  pub record One (sort : ℕ → Bool) (rest : ℕ → List (Label ℕ) → Counted ℕ) (e : Expr) : Type 0 where
    pub child : Expr
    pub stands : Stands (tables_of F S) (n + 1) child
    pub long : size e ≡ 1 + size child
    pub judged : expr_in F S W base s e n ≡ and_counting (expr_in F S W base s child (n + 1)) λ t L. requires (sort t) 10 n (rest t L)

  -- it has a second child, and then the rest, from the types and labels of both
  pub record Two (sort : ℕ → Bool) (rest : ℕ → ℕ → List (Label ℕ) → Counted ℕ) (e : Expr) : Type 0 where
    pub one : Expr
    pub two : Expr
    pub one_stands : Stands (tables_of F S) (n + 1) one
    pub two_stands : Stands (tables_of F S) (n + 1 + size one) two
    pub long : size e ≡ 1 + (size one + size two)
    pub judged : expr_in F S W base s e n
        ≡ and_counting (expr_in F S W base s one (n + 1)) λ t L. requires (sort t) 10 n (and_counting (expr_in F S W base s two (n + 1 + size one)) λ u M. rest t u (L ++ M))

-- the children of n, k nodes with the labels L, are accepted, and the walk stands after them
pub record Parts (F : List ℕ) (S : Sections) (X : List ℕ) (base n k s : ℕ) (R W R' W' K' : List ℕ) (at : At) (L : List (Label ℕ)) : Type 0 where
  pub after : After F S X base L (n + 1) k s s R W R' W' K'
  pub next : at.node ≡ n + 1 + k
  pub scope : at.scope ≡ s

module _ {F : List ℕ} {S : Sections} {W : List ℕ} {base n s : ℕ} {sort : ℕ → Bool} where
  pub one_child : {rest : ℕ → List (Label ℕ) → Counted ℕ} → ((e : Expr) → Stands (tables_of F S) n e → One F S W base n s sort rest e)
      → (e : Expr) → Stands (tables_of F S) n e → First F S W base n s sort e
  one_child {rest} rule e h =
      let o = rule e h in
      record { child = o.child; stands = o.stands; smaller = omega (arith, o.long); more = rest; judged = o.judged }

  pub two_children : {rest : ℕ → ℕ → List (Label ℕ) → Counted ℕ} → ((e : Expr) → Stands (tables_of F S) n e → Two F S W base n s sort rest e)
      → (e : Expr) → Stands (tables_of F S) n e → First F S W base n s sort e
  two_children {rest} rule e h =
      let o = rule e h in
      record {
        child = o.one;
        stands = o.one_stands;
        smaller = omega (arith, o.long);
        more = λ t L. and_counting (expr_in F S W base s o.two (n + 1 + size o.one)) λ u M. rest t u (L ++ M);
        judged = o.judged;
      }

module _ {F : List ℕ} {S : Sections} {X : List ℕ} {base n s : ℕ} {R W : List ℕ} where
  -- an answer to the same outcome
  meets_same : {j k π : ℕ} {R' W' K' : List ℕ} {r : Judged} {o q : Counted ℕ} → j ≡ k → o ≡ q
      → Meets (Typing F S X base n k s R W R' W' K' r) r π q.out q.pairs → Meets (Typing F S X base n j s R W R' W' K' r) r π o.out o.pairs
  meets_same {j} {k} {π} {R'} {W'} {K'} {r} {o} ej eo m =
      subst (λ i. Meets (Typing F S X base n i s R W R' W' K' r) r π o.out o.pairs) (sym ej)
      (subst (λ c. Meets (Typing F S X base n k s R W R' W' K' r) r π c.out c.pairs) (sym eo) m)

  -- an accepted rule whose type v the code has as t
  pub gives_type : {k t v : ℕ} {L : List (Label ℕ)} {Γ : Scope ℕ} {R₁ W₁ K₁ R' : List ℕ} {at : At} {r : Judged} → n < S.nodes → t < S.types → t ≡ v
      → Parts F S X base n k s R W R₁ W₁ K₁ at L → r ≡ record { judgement = Typed t; at = at } → R' ≡ with_row R₁ n t 65535
      → Meets (Typing F S X base n (1 + k) s R W R' W₁ K₁ r) r at.pairs (plain v Γ L) 0
  gives_type {k} {L = L} {Γ = Γ} {W₁ = W₁} {K₁ = K₁} {R' = R'} {at = at} {r = r} h w e p er e_r =
      subst (λ i. Meets (Typing F S X base n (1 + k) s R W R' W₁ K₁ r) r at.pairs (plain i Γ L) 0) e
      (accepts_now _ _ (rule_typed h w p.after er p.next p.scope refl e_r) (ap (λ q. q.at.pairs) er))

-- the first child: it is ready; refused, it is handed up; of another sort, it breaks 10 at n
module _ {F : List ℕ} {S : Sections} {X R W : List ℕ} {base n s π : ℕ} {sort : ℕ → Bool} (rule : (e : Expr) → Stands (tables_of F S) n e → First F S W base n s sort e) where
  pub first_ready : {K : List ℕ} → Ready F S X R W K base n s π → Ready F S X R W K base (n + 1) s π
  first_ready g =
      let o = rule g.tree g.stands in
      ready (n + 1) o.child g.fine o.stands (omega (arith, o.smaller, g.room)) (omega (arith, o.smaller, g.few))

  module _ {R₁ W₁ K₁ : List ℕ} {r₁ : Judged} (m₁ : Told F S X R W base (n + 1) s π R₁ W₁ K₁ r₁) where
    pub first_no : Untyped r₁ → Told F S X R W base n s π R₁ W₁ K₁ r₁
    first_no u = record { tells = λ e h. let o = rule e h in meets_same refl o.judged (child_no _ _ _ u (m₁.tells o.child o.stands)) }

    pub first_sort : {t : ℕ} {r : Judged} → r₁.judgement ≡ Typed t → sort t ≡ false → Refuses r 10 n r₁.at.pairs → Told F S X R W base n s π R₁ W₁ K₁ r
    first_sort {t} y z f =
        record {
          tells = λ e h.
              let o = rule e h in
              meets_same refl o.judged (child_ok _ _ _ t y (m₁.tells o.child o.stands) λ L q p. stops _ 10 n _ _ z f);
        }

-- an only child of the sort: the rest
module _ {F : List ℕ} {S : Sections} {X R W : List ℕ} {base n s π : ℕ} {sort : ℕ → Bool} {rest : ℕ → List (Label ℕ) → Counted ℕ} (rule : (e : Expr) → Stands (tables_of F S) n e → One F S W base n s sort rest e) {R₁ W₁ K₁ : List ℕ} {r₁ : Judged} (m₁ : Told F S X R W base (n + 1) s π R₁ W₁ K₁ r₁) where
  pub one_then : {t : ℕ} {R' : List ℕ} {r : Judged} → r₁.judgement ≡ Typed t → sort t ≡ true
      → ((k : ℕ) (L : List (Label ℕ)) → Parts F S X base n k s R W R₁ W₁ K₁ r₁.at L → Meets (Typing F S X base n (1 + k) s R W R' W₁ K₁ r) r r₁.at.pairs (rest t L).out (rest t L).pairs)
      → Told F S X R W base n s π R' W₁ K₁ r
  one_then {t} y z then =
      record {
        tells = λ e h.
            let o = rule e h in
            meets_same o.long o.judged
            (child_ok _ _ _ t y (m₁.tells o.child o.stands) λ L q p.
            passes _ 10 n _ z (then (size o.child) L (record { after = p.after; next = p.next; scope = p.scope })));
      }

-- the second child, after a first one of the sort: it is ready; refused, it is handed up; typed, the rest
module _ {F : List ℕ} {S : Sections} {X R W K : List ℕ} {base n s π : ℕ} {sort : ℕ → Bool} {rest : ℕ → ℕ → List (Label ℕ) → Counted ℕ} (rule : (e : Expr) → Stands (tables_of F S) n e → Two F S W base n s sort rest e) (g : Ready F S X R W K base n s π) {R₁ W₁ K₁ : List ℕ} {r₁ : Judged} (m₁ : Told F S X R W base (n + 1) s π R₁ W₁ K₁ r₁) {t : ℕ} (y₁ : r₁.judgement ≡ Typed t) where
  pub second_ready : (n < r₁.at.node) × Ready F S X R₁ W₁ K₁ base r₁.at.node r₁.at.scope r₁.at.pairs
  second_ready =
      let o = rule g.tree g.stands in
      let (L, q, p) = typing_of _ (m₁.tells o.one o.one_stands) y₁ in (
        omega (arith, p.next),
        subst (λ i. Ready F S X R₁ W₁ K₁ base r₁.at.node i r₁.at.pairs) (sym p.scope)
            (ready r₁.at.node o.two p.after.fine (subst (λ i. Stands (tables_of F S) i o.two) (sym p.next) o.two_stands) (omega (arith, o.long, g.room))
            (omega (arith, o.long, g.few, child_spent g.fine.good_tables m₁ o.one o.one_stands))),
      )

  module _ (z : sort t ≡ true) {R₂ W₂ K₂ : List ℕ} {r₂ : Judged} (m₂ : Told F S X R₁ W₁ base r₁.at.node r₁.at.scope r₁.at.pairs R₂ W₂ K₂ r₂) where
    pub second_no : Untyped r₂ → Told F S X R W base n s π R₂ W₂ K₂ r₂
    second_no u =
        record {
          tells = λ e h.
              let o = rule e h in
              meets_same refl o.judged
              (child_ok _ _ _ t y₁ (m₁.tells o.one o.one_stands) λ L q p.
              passes _ 10 n _ z (child_no _ _ _ u (retell p.after.same g.fine.above p.next p.scope m₂ o.two o.two_stands)));
        }

    -- there is room for questions about both
    pub two_spent : r₂.at.pairs + 1200 ≤ 4294967295
    two_spent =
        let o = rule g.tree g.stands in
        let (L, q, p) = typing_of _ (m₁.tells o.one o.one_stands) y₁ in
        let st = subst (λ i. Stands (tables_of F S) i o.two) (sym p.next) o.two_stands in
        omega (arith, o.long, g.few, child_spent g.fine.good_tables m₁ o.one o.one_stands, child_spent g.fine.good_tables m₂ o.two st)

    pub two_then : {u : ℕ} {R' : List ℕ} {r : Judged} → r₂.judgement ≡ Typed u
        → ((k : ℕ) (L : List (Label ℕ)) → Parts F S X base n k s R W R₂ W₂ K₂ r₂.at L → Meets (Typing F S X base n (1 + k) s R W R' W₂ K₂ r) r r₂.at.pairs (rest t u L).out (rest t u L).pairs)
        → Told F S X R W base n s π R' W₂ K₂ r
    two_then {u} y₂ then =
        record {
          tells = λ e h.
              let o = rule e h in
              meets_same o.long o.judged
              (child_ok _ _ _ t y₁ (m₁.tells o.one o.one_stands) λ L q p.
              passes _ 10 n _ z
              (child_ok _ _ _ u y₂ (retell p.after.same g.fine.above p.next p.scope m₂ o.two o.two_stands) λ M q₂ p₂.
              then (size o.one + size o.two) (L ++ M) (
              record {
                after = after_append (expr_long _ _ o.one (n + 1) _ t L q) (expr_closed _ _ o.one (n + 1) _ t L q) p.after p₂.after;
                next = p₂.next ∙ omega arith;
                scope = p₂.scope;
              })));
        }
