-- Rules with two expressions: index, operators that take two of one type, and equality, which asks two questions. Assumes nothing.
use mathlib.Core.Path.{◌≡◌, refl, ap, sym, subst, ◌∙◌}
use mathlib.Core.Bool.{Bool, true, false, not, ◌&&◌, ◌||◌}
use mathlib.Core.List.{List}
use Prim.Native.Nat.{ℕ, ◌+◌, ◌≤◌, ◌<◌}
use native.Mathlib.Omega.{arith}
use lib.Dec.{eqb, leb}
use borrow.Author.Tests.{eq-eqb, ne_eqb, eqb-true, not-true, not-false}
use Rattle.oat.specs.Basics.{pick}
use Rattle.oat.specs.Tables.{type_at, node_at}
use Rattle.oat.specs.Pairs.{Compared}
use Rattle.oat.specs.Syntax.{Expr}
use Rattle.oat.specs.Nodes.{Stands}
use Rattle.typing_rules.specs.Operators.{is_equality, operand_type, result_type}
use Rattle.typing_rules.specs.Judge.{giving, requires, asks, plain, is_kind, is_below, equal_asked, referred, judging}
use Rattle.file_sections.specs.declared.Sections.{Sections}
use Rattle.file_sections.specs.Layout.{tables_of}
use Rattle.subtyping.specs.declared.below.Compared.{Compared as Comparing}
use Rattle.bindings.specs.Bindings.{scope_of}
use Rattle.answers.specs.declared.answer.Judgement.TheVariants.{Typed}
use Rattle.answers.specs.declared.answer.At.{At}
use Rattle.answers.specs.declared.answer.Judged.{Judged}
use Rattle.answers.specs.Answers.{with_row, with_pairs, Asks, Refuses}
use Rattle.expressions.specs.Contract.{context_of, Typing, Meets, Ready, Told}
use Rattle.expressions.proofs.LawsMeets.{Untyped, stops, passes, fails, holds, skips}
use Rattle.expressions.proofs.LawsChild.{base_within, element_within, few_asked, child_within}
use Rattle.expressions.proofs.LawsRules.{Two, two_children, first_ready, first_no, first_sort, second_ready, second_no, two_spent, two_then, gives_type}
use Rattle.expressions.proofs.LawsShape.{on_index, on_binary}

and_second : (a b : Bool) → b ≡ false → (a && b) ≡ false
and_second true b e = e
and_second false b e = refl

result_low : (x : ℕ) → result_type x < 4
result_low x = low (leb x 5 || leb 14 x)
  where
    low : (b : Bool) → pick b 0 1 < 4
    low true = omega arith
    low false = omega arith

equality_result : (x : ℕ) → is_equality x ≡ true → result_type x ≡ 1
equality_result x e = go (eqb x 10) refl e
  where
    go : (b : Bool) → eqb x 10 ≡ b → (b || eqb x 11) ≡ true → result_type x ≡ 1
    go true h f = subst (λ i. result_type i ≡ 1) (sym (eqb-true x 10 h)) refl
    go false h f = subst (λ i. result_type i ≡ 1) (sym (eqb-true x 11 f)) refl

-- index
module _ {F : List ℕ} {S : Sections} {X R W K : List ℕ} {base n s π : ℕ} (g : Ready F S X R W K base n s π) (kind : (node_at (tables_of F S) n).kind ≡ 19) where
  element_rule : (e : Expr) → Stands (tables_of F S) n e
      → Two F S W base n s (λ t. is_kind (tables_of F S) t 5) (λ t u L. requires (is_kind (tables_of F S) u 0) 10 n (giving (plain (referred (tables_of F S) t) (scope_of (tables_of F S) W base s) L))) e
  unfolding judging
  element_rule = on_index (Two F S W base n s _ _) (λ a b h. record { one = a; two = b; one_stands = h.1; two_stands = h.2; long = omega arith; judged = refl }) kind

  pub element_first : Ready F S X R W K base (n + 1) s π
  element_first = first_ready (two_children element_rule) g

  module _ {R₁ W₁ K₁ : List ℕ} {r₁ : Judged} (m₁ : Told F S X R W base (n + 1) s π R₁ W₁ K₁ r₁) where
    pub element_no : Untyped r₁ → Told F S X R W base n s π R₁ W₁ K₁ r₁
    element_no = first_no (two_children element_rule) m₁

    module _ {t k₁ : ℕ} (y₁ : r₁.judgement ≡ Typed t) (e₁ : k₁ ≡ (type_at (tables_of F S) t).kind) where
      pub element_sort : {r : Judged} → (k₁ ≡ 5 → ⊥) → Refuses r 10 n r₁.at.pairs → Told F S X R W base n s π R₁ W₁ K₁ r
      element_sort f = first_sort (two_children element_rule) m₁ y₁ (ne_eqb _ _ (λ i. f (e₁ ∙ i)))

      pub element_second : (n < r₁.at.node) × Ready F S X R₁ W₁ K₁ base r₁.at.node r₁.at.scope r₁.at.pairs
      element_second = second_ready element_rule g m₁ y₁

      module _ (z₁ : k₁ ≡ 5) {R₂ W₂ K₂ : List ℕ} {r₂ : Judged} (m₂ : Told F S X R₁ W₁ base r₁.at.node r₁.at.scope r₁.at.pairs R₂ W₂ K₂ r₂) where
        pub element_no_2 : Untyped r₂ → Told F S X R W base n s π R₂ W₂ K₂ r₂
        element_no_2 = second_no element_rule g m₁ y₁ (eq-eqb _ _ (sym e₁ ∙ z₁)) m₂

        module _ {u k₂ : ℕ} (y₂ : r₂.judgement ≡ Typed u) (e₂ : k₂ ≡ (type_at (tables_of F S) u).kind) where
          pub element_sort_2 : {r : Judged} → (k₂ ≡ 0 → ⊥) → Refuses r 10 n r₂.at.pairs → Told F S X R W base n s π R₂ W₂ K₂ r
          element_sort_2 f e = two_then element_rule g m₁ y₁ (eq-eqb _ _ (sym e₁ ∙ z₁)) m₂ y₂ λ j L p. stops _ 10 n _ _ (ne_eqb _ _ (λ i. f (e₂ ∙ i))) e

          pub element_given : {x : ℕ} → x ≡ (type_at (tables_of F S) t).a → x < S.types
          element_given ex = subst (λ i. i < S.types) (sym ex) (element_within g.fine.good_tables (child_within element_first m₁ y₁) (sym e₁ ∙ z₁))

          pub element_ok : {r : Judged} {R' : List ℕ} {x : ℕ} → k₂ ≡ 0 → x ≡ (type_at (tables_of F S) t).a → x < S.types
              → r ≡ record { judgement = Typed x; at = r₂.at } → R' ≡ with_row R₂ n x 65535 → Told F S X R W base n s π R' W₂ K₂ r
          element_ok z₂ ex w er e_r =
              two_then element_rule g m₁ y₁ (eq-eqb _ _ (sym e₁ ∙ z₁)) m₂ y₂ λ j L p.
              passes _ 10 n _ (eq-eqb _ _ (sym e₂ ∙ z₂)) (gives_type g.within w ex p er e_r)

-- binary operators
module _ {F : List ℕ} {S : Sections} {X R W K : List ℕ} {base n s π : ℕ} (g : Ready F S X R W K base n s π) (kind : (node_at (tables_of F S) n).kind ≡ 26) where
  -- the operator, the sort that it takes, and the two types of an equality below each other
  abbrev sign : ℕ
  sign = (node_at (tables_of F S) n).x

  abbrev operand : ℕ → Bool
  operand t = is_equality sign || is_kind (tables_of F S) t (operand_type sign)

  abbrev sub : ℕ → ℕ → Bool
  sub t u = is_below (tables_of F S) (context_of (tables_of F S) W base) t u

  abbrev equal : ℕ → ℕ → Compared
  equal t u = equal_asked (tables_of F S) (context_of (tables_of F S) W base) sign t u

  binary_rule : (e : Expr) → Stands (tables_of F S) n e
      → Two F S W base n s operand (λ t u L. requires (operand u) 10 n (asks (equal t u) 11 n (giving (plain (result_type sign) (scope_of (tables_of F S) W base s) L)))) e
  unfolding judging
  binary_rule =
      on_binary (Two F S W base n s _ _)
      (λ x a b h. record { one = a; two = b; one_stands = h.2; two_stands = h.3; long = omega arith; judged = rw h.0.x_is }) kind

  pub binary_first : Ready F S X R W K base (n + 1) s π
  binary_first = first_ready (two_children binary_rule) g

  module _ {R₁ W₁ K₁ : List ℕ} {r₁ : Judged} (m₁ : Told F S X R W base (n + 1) s π R₁ W₁ K₁ r₁) where
    pub binary_no : Untyped r₁ → Told F S X R W base n s π R₁ W₁ K₁ r₁
    binary_no = first_no (two_children binary_rule) m₁

    module _ {t : ℕ} (y₁ : r₁.judgement ≡ Typed t) where
      pub binary_second : (n < r₁.at.node) × Ready F S X R₁ W₁ K₁ base r₁.at.node r₁.at.scope r₁.at.pairs
      binary_second = second_ready binary_rule g m₁ y₁

      -- operators that take two of one type
      module _ {taken given k₁ : ℕ} (o : (is_equality (node_at (tables_of F S) n).x ≡ false) × (operand_type (node_at (tables_of F S) n).x ≡ taken) × (result_type (node_at (tables_of F S) n).x ≡ given)) (e₁ : k₁ ≡ (type_at (tables_of F S) t).kind) where
        sort_yes : {k : ℕ} (v : ℕ) → k ≡ (type_at (tables_of F S) v).kind → k ≡ taken → operand v ≡ true
        sort_yes v e z = rw o.0 (eq-eqb _ _ (sym e ∙ z ∙ sym o.1))

        sort_not : {k : ℕ} (v : ℕ) → k ≡ (type_at (tables_of F S) v).kind → (k ≡ taken → ⊥) → operand v ≡ false
        sort_not v e f = rw o.0 (ne_eqb _ _ (λ i. f (e ∙ i ∙ o.1)))

        pub operator_given : given < S.types
        operator_given = subst (λ i. i < S.types) o.2 (base_within g.fine.good_tables (result_low sign))

        pub operator_sort : {r : Judged} → (k₁ ≡ taken → ⊥) → Refuses r 10 n r₁.at.pairs → Told F S X R W base n s π R₁ W₁ K₁ r
        operator_sort f = first_sort (two_children binary_rule) m₁ y₁ (sort_not t e₁ f)

        module _ (z₁ : k₁ ≡ taken) {R₂ W₂ K₂ : List ℕ} {r₂ : Judged} (m₂ : Told F S X R₁ W₁ base r₁.at.node r₁.at.scope r₁.at.pairs R₂ W₂ K₂ r₂) where
          pub operator_no_2 : Untyped r₂ → Told F S X R W base n s π R₂ W₂ K₂ r₂
          operator_no_2 = second_no binary_rule g m₁ y₁ (sort_yes t e₁ z₁) m₂

          module _ {u k₂ : ℕ} (y₂ : r₂.judgement ≡ Typed u) (e₂ : k₂ ≡ (type_at (tables_of F S) u).kind) where
            pub operator_sort_2 : {r : Judged} → (k₂ ≡ taken → ⊥) → Refuses r 10 n r₂.at.pairs → Told F S X R W base n s π R₂ W₂ K₂ r
            operator_sort_2 f e = two_then binary_rule g m₁ y₁ (sort_yes t e₁ z₁) m₂ y₂ λ j L p. stops _ 10 n _ _ (sort_not u e₂ f) e

            pub operator_ok : {r : Judged} {R' : List ℕ} → k₂ ≡ taken → r ≡ record { judgement = Typed given; at = r₂.at } → R' ≡ with_row R₂ n given 65535
                → Told F S X R W base n s π R' W₂ K₂ r
            operator_ok z₂ er e_r =
                two_then binary_rule g m₁ y₁ (sort_yes t e₁ z₁) m₂ y₂ λ j L p.
                passes _ 10 n _ (sort_yes u e₂ z₂)
                (skips (equal t u) 11 n _ (rw o.0) (rw o.0) (gives_type g.within operator_given (sym o.2) p er e_r))

      -- equality
      module _ (o : is_equality (node_at (tables_of F S) n).x ≡ true) {R₂ W₂ K₂ : List ℕ} {r₂ : Judged} (m₂ : Told F S X R₁ W₁ base r₁.at.node r₁.at.scope r₁.at.pairs R₂ W₂ K₂ r₂) where
        any_sort : (v : ℕ) → operand v ≡ true
        any_sort v = rw o

        room : r₂.at.pairs + 1200 ≤ 4294967295
        room = two_spent binary_rule g m₁ y₁ (any_sort t) m₂

        pub equality_no_2 : Untyped r₂ → Told F S X R W base n s π R₂ W₂ K₂ r₂
        equality_no_2 = second_no binary_rule g m₁ y₁ (any_sort t) m₂

        pub equality_counted : (u : ℕ) {d : Comparing} → Asks (tables_of F S) t u d → (r₂.at.pairs ≤ 4294967295) × (d.pairs ≤ 4294967295)
        equality_counted u e = (omega (arith, room), omega (arith, few_asked g.fine.good_tables t u e))

        module _ {u : ℕ} (y₂ : r₂.judgement ≡ Typed u) {d : Comparing} (ed : Asks (tables_of F S) t u d) {h : At} (eh : h ≡ with_pairs r₂.at d) where
          pub equality_counted_2 : {c : Comparing} → Asks (tables_of F S) u t c → (h.pairs ≤ 4294967295) × (c.pairs ≤ 4294967295)
          equality_counted_2 e = (omega (arith, room, few_asked g.fine.good_tables t u ed, ap (λ a. a.pairs) eh), omega (arith, few_asked g.fine.good_tables u t e))

          asked_there : not d.holds ≡ true → ((equal t u).holds ≡ false) × ((equal t u).pairs ≡ d.pairs)
          asked_there f = (rw (o, ← ed.0, not-true d.holds f), rw (o, ← ed.0, ← ed.1, not-true d.holds f) (omega arith))

          pub equality_there : {r : Judged} → not d.holds ≡ true → Refuses r 11 n h.pairs → Told F S X R W base n s π R₂ W₂ K₂ r
          equality_there {r} f e =
              two_then binary_rule g m₁ y₁ (any_sort t) m₂ y₂ λ j L p.
              passes _ 10 n _ (any_sort u)
              (fails (equal t u) 11 n _ _ (asked_there f).0 (subst (Refuses r 11 n) (ap (λ a. a.pairs) eh ∙ ap (λ k. r₂.at.pairs + k) (sym (asked_there f).1)) e))

          module _ (f₁ : not d.holds ≡ false) {c : Comparing} (ec : Asks (tables_of F S) u t c) {i : At} (ei : i ≡ with_pairs h c) where
            asked_both : (equal t u).pairs ≡ d.pairs + c.pairs
            asked_both = rw (o, ← ed.0, ← ed.1, ← ec.1, not-false d.holds f₁)

            both_sum : i.pairs ≡ r₂.at.pairs + (equal t u).pairs
            both_sum = ap (λ a. a.pairs) ei ∙ ap (λ a. a.pairs + c.pairs) eh ∙ omega (arith, asked_both)

            pub equality_back : {r : Judged} → not c.holds ≡ true → Refuses r 11 n i.pairs → Told F S X R W base n s π R₂ W₂ K₂ r
            equality_back {r} f e =
                two_then binary_rule g m₁ y₁ (any_sort t) m₂ y₂ λ j L p.
                passes _ 10 n _ (any_sort u)
                (fails (equal t u) 11 n _ _ (rw o (and_second (sub t u) (sub u t) (sym ec.0 ∙ not-true c.holds f))) (subst (Refuses r 11 n) both_sum e))

            pub equality_ok : {r : Judged} {R' : List ℕ} → not c.holds ≡ false → r ≡ record { judgement = Typed 1; at = i } → R' ≡ with_row R₂ n 1 65535
                → Told F S X R W base n s π R' W₂ K₂ r
            equality_ok {r} {R'} f₂ er e_r =
                two_then binary_rule g m₁ y₁ (any_sort t) m₂ y₂ λ j L p.
                passes _ 10 n _ (any_sort u)
                (holds (equal t u) 11 n _ (rw (o, ← ed.0, ← ec.0, not-false d.holds f₁, not-false c.holds f₂))
                (subst (λ k. Meets (Typing F S X base n (1 + j) s R W R' W₂ K₂ r) r k (plain (result_type sign) (scope_of (tables_of F S) W base s) L) 0) both_sum
                (gives_type g.within (base_within g.fine.good_tables (omega arith)) (sym (equality_result sign o))
                (record { after = p.after; next = ap (λ a. a.node) ei ∙ ap (λ a. a.node) eh ∙ p.next; scope = ap (λ a. a.scope) ei ∙ ap (λ a. a.scope) eh ∙ p.scope }) er e_r)))
