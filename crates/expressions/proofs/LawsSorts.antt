-- Rules with one child: length, field, unary operator and default array. Assumes nothing.
use mathlib.Core.Path.{◌≡◌, refl, ap, sym, subst, ◌∙◌}
use mathlib.Core.Bool.{Bool, true, false}
use mathlib.Core.List.{List}
use Prim.Native.Nat.{ℕ, ◌+◌, ◌<◌}
use native.Mathlib.Omega.{arith}
use lib.ListN.{length}
use lib.Dec.{eqb}
use borrow.Author.Tests.{eq-eqb, ne_eqb}
use Rattle.std.specs.Prelude.{Option, Some, None}
use Rattle.oat.specs.Basics.{pick}
use Rattle.oat.specs.Tables.{type_at, node_at}
use Rattle.oat.specs.Syntax.{Expr, default_array}
use Rattle.oat.specs.Nodes.{Stands}
use Rattle.typing_rules.specs.Operators.{unary_type}
use Rattle.typing_rules.specs.Judge.{giving, requires, plain, is_kind, formed, referred, field_type, has_default, field_of, judging}
use Rattle.file_sections.specs.declared.Sections.{Sections}
use Rattle.file_sections.specs.Layout.{tables_of}
use Rattle.type_index.specs.Index.{declared, struct_entry, formed_entry}
use Rattle.bindings.specs.Bindings.{scope_of}
use Rattle.fields.specs.Lookup.{number_of, field_in}
use Rattle.answers.specs.declared.answer.Judgement.TheVariants.{Typed}
use Rattle.answers.specs.declared.answer.Judged.{Judged}
use Rattle.answers.specs.Answers.{with_row, Refuses}
use Rattle.expressions.specs.Contract.{context_of, Answers, Ready, Told}
use Rattle.expressions.proofs.LawsMeets.{Untyped, refuses_now, stops, passes}
use Rattle.expressions.proofs.LawsChild.{base_within, kind_within, kind-of, element_within, formed_is, struct_meant, declared_long, child_within}
use Rattle.fields.proofs.LawsLookup.{field_is, found_under}
use Rattle.expressions.proofs.LawsRules.{One, one_child, first_ready, first_no, first_sort, one_then, gives_type}
use Rattle.expressions.proofs.LawsShape.{on_default, on_length, on_field, on_unary}

-- length
module _ {F : List ℕ} {S : Sections} {X R W K : List ℕ} {base n s π : ℕ} (g : Ready F S X R W K base n s π) (kind : (node_at (tables_of F S) n).kind ≡ 20) where
  length_rule : (e : Expr) → Stands (tables_of F S) n e
      → One F S W base n s (λ t. is_kind (tables_of F S) t 5) (λ t L. giving (plain 0 (scope_of (tables_of F S) W base s) L)) e
  unfolding judging
  length_rule = on_length (One F S W base n s _ _) (λ a h. record { child = a; stands = h.1; long = refl; judged = refl }) kind

  pub length_first : Ready F S X R W K base (n + 1) s π
  length_first = first_ready (one_child length_rule) g

  module _ {R₁ W₁ K₁ : List ℕ} {r₁ : Judged} (m₁ : Told F S X R W base (n + 1) s π R₁ W₁ K₁ r₁) where
    pub length_no : Untyped r₁ → Told F S X R W base n s π R₁ W₁ K₁ r₁
    length_no = first_no (one_child length_rule) m₁

    module _ {t k₁ : ℕ} (y₁ : r₁.judgement ≡ Typed t) (e₁ : k₁ ≡ (type_at (tables_of F S) t).kind) where
      pub length_sort : {r : Judged} → (k₁ ≡ 5 → ⊥) → Refuses r 10 n r₁.at.pairs → Told F S X R W base n s π R₁ W₁ K₁ r
      length_sort f = first_sort (one_child length_rule) m₁ y₁ (ne_eqb _ _ (λ i. f (e₁ ∙ i)))

      pub length_ok : {r : Judged} {R' : List ℕ} → k₁ ≡ 5 → r ≡ record { judgement = Typed 0; at = r₁.at } → R' ≡ with_row R₁ n 0 65535
          → Told F S X R W base n s π R' W₁ K₁ r
      length_ok k er e_r =
          one_then length_rule m₁ y₁ (eq-eqb _ _ (sym e₁ ∙ k)) λ j L p.
          gives_type g.within (base_within g.fine.good_tables (omega arith)) refl p er e_r

unary_low : (x : ℕ) → unary_type x < 4
unary_low x = low (eqb x 1)
  where
    low : (b : Bool) → pick b 1 0 < 4
    low true = omega arith
    low false = omega arith

-- unary operator
module _ {F : List ℕ} {S : Sections} {X R W K : List ℕ} {base n s π : ℕ} (g : Ready F S X R W K base n s π) (kind : (node_at (tables_of F S) n).kind ≡ 25) where
  unary_rule : (e : Expr) → Stands (tables_of F S) n e
      → One F S W base n s (λ t. is_kind (tables_of F S) t (unary_type (node_at (tables_of F S) n).x)) (λ t L. giving (plain (unary_type (node_at (tables_of F S) n).x) (scope_of (tables_of F S) W base s) L)) e
  unfolding judging
  unary_rule = on_unary (One F S W base n s _ _) (λ x a h. record { child = a; stands = h.2; long = refl; judged = rw h.0.x_is }) kind

  pub unary_first : Ready F S X R W K base (n + 1) s π
  unary_first = first_ready (one_child unary_rule) g

  module _ {R₁ W₁ K₁ : List ℕ} {r₁ : Judged} (m₁ : Told F S X R W base (n + 1) s π R₁ W₁ K₁ r₁) where
    pub unary_no : Untyped r₁ → Told F S X R W base n s π R₁ W₁ K₁ r₁
    unary_no = first_no (one_child unary_rule) m₁

    module _ {t k₁ x₁ taken : ℕ} (y₁ : r₁.judgement ≡ Typed t) (ex : x₁ ≡ (node_at (tables_of F S) n).x) (et : taken ≡ unary_type x₁) (e₁ : k₁ ≡ (type_at (tables_of F S) t).kind) where
      unary_taken : taken ≡ unary_type (node_at (tables_of F S) n).x
      unary_taken = et ∙ ap unary_type ex

      pub unary_given : taken < S.types
      unary_given = subst (λ i. i < S.types) (sym et) (base_within g.fine.good_tables (unary_low x₁))

      pub unary_sort : {r : Judged} → (k₁ ≡ taken → ⊥) → Refuses r 10 n r₁.at.pairs → Told F S X R W base n s π R₁ W₁ K₁ r
      unary_sort f = first_sort (one_child unary_rule) m₁ y₁ (ne_eqb _ _ (λ i. f (e₁ ∙ i ∙ sym unary_taken)))

      pub unary_ok : {r : Judged} {R' : List ℕ} → k₁ ≡ taken → r ≡ record { judgement = Typed taken; at = r₁.at } → R' ≡ with_row R₁ n taken 65535
          → Told F S X R W base n s π R' W₁ K₁ r
      unary_ok k er e_r =
          one_then unary_rule m₁ y₁ (eq-eqb _ _ (sym e₁ ∙ k ∙ unary_taken)) λ j L p.
          gives_type g.within unary_given unary_taken p er e_r

-- default array
module _ {F : List ℕ} {S : Sections} {X R W K : List ℕ} {base n s π : ℕ} (g : Ready F S X R W K base n s π) (kind : (node_at (tables_of F S) n).kind ≡ 17) where
  pub default-array : {t : ℕ} → t ≡ (node_at (tables_of F S) n).t → t < S.types
  default-array {t} et =
      on_default (λ e. t < S.types) (λ u a h. subst (λ i. i < S.types) (sym (et ∙ h.0.t_is)) (kind_within g.fine.good_tables 5 h.1)) kind g.tree g.stands

module _ {F : List ℕ} {S : Sections} {X R W K : List ℕ} {base n s π : ℕ} (g : Ready F S X R W K base n s π) (kind : (node_at (tables_of F S) n).kind ≡ 17) {t x : ℕ} (et : t ≡ (node_at (tables_of F S) n).t) (ex : x ≡ (type_at (tables_of F S) t).a) where
  pub default_within : (t < S.types) × (x < S.types)
  default_within =
      on_default (λ e. (t < S.types) × (x < S.types))
      (λ u a h.
      let is : t ≡ u = et ∙ h.0.t_is in
      let w : t < S.types = subst (λ i. i < S.types) (sym is) (kind_within g.fine.good_tables 5 h.1) in
      (w, subst (λ i. i < S.types) (sym ex) (element_within g.fine.good_tables w (subst (λ i. (type_at (tables_of F S) i).kind ≡ 5) (sym is) (kind-of (tables_of F S) u 5 h.1))))) kind
      g.tree g.stands

  module _ {b : Bool} (eb : b ≡ formed_entry X x) where
    default_formed : (u : ℕ) (a : Expr) → Stands (tables_of F S) n (default_array u a) → b ≡ formed (tables_of F S) (context_of (tables_of F S) W base) (referred (tables_of F S) u)
    default_formed u a h =
        subst (λ i. b ≡ formed (tables_of F S) (context_of (tables_of F S) W base) (type_at (tables_of F S) i).a) (et ∙ h.0.t_is)
        (subst (λ i. b ≡ formed (tables_of F S) (context_of (tables_of F S) W base) i) ex (formed_is g.fine default_within.1 eb))

    pub default_unformed : {r : Judged} → b ≡ false → Refuses r 9 n π → Told F S X R W base n s π R W K r
    unfolding judging
    default_unformed {r} f e =
        record {
          tells = on_default (Answers F S X R W base n s π R W K r) (λ u a h. stops _ 9 n _ _ (sym (default_formed u a h) ∙ f) e) kind;
        }

    module _ (eq : b ≡ true) where
      default_rule : (e : Expr) → Stands (tables_of F S) n e
          → One F S W base n s (λ u. is_kind (tables_of F S) u 0) (λ u L. requires (has_default (tables_of F S) x) 16 n (giving (plain t (scope_of (tables_of F S) W base s) L))) e
      unfolding judging
      default_rule =
          on_default (One F S W base n s _ _)
          (λ v a h.
          record {
            child = a;
            stands = h.2;
            long = refl;
            judged = rw (ex, et, h.0.t_is, ← default_formed v a h, eq);
          }) kind

      pub default_first : Ready F S X R W K base (n + 1) s π
      default_first = first_ready (one_child default_rule) g

      module _ {R₁ W₁ K₁ : List ℕ} {r₁ : Judged} (m₁ : Told F S X R W base (n + 1) s π R₁ W₁ K₁ r₁) where
        pub default_no : Untyped r₁ → Told F S X R W base n s π R₁ W₁ K₁ r₁
        default_no = first_no (one_child default_rule) m₁

        module _ {u k₁ : ℕ} (y₁ : r₁.judgement ≡ Typed u) (e₁ : k₁ ≡ (type_at (tables_of F S) u).kind) where
          pub default_sort : {r : Judged} → (k₁ ≡ 0 → ⊥) → Refuses r 10 n r₁.at.pairs → Told F S X R W base n s π R₁ W₁ K₁ r
          default_sort f = first_sort (one_child default_rule) m₁ y₁ (ne_eqb _ _ (λ i. f (e₁ ∙ i)))

          module _ (k : k₁ ≡ 0) {d : Bool} (ed : d ≡ has_default (tables_of F S) x) where
            pub default_none : {r : Judged} → d ≡ false → Refuses r 16 n r₁.at.pairs → Told F S X R W base n s π R₁ W₁ K₁ r
            default_none f e = one_then default_rule m₁ y₁ (eq-eqb _ _ (sym e₁ ∙ k)) λ j L p. stops _ 16 n _ _ (sym ed ∙ f) e

            pub default_ok : {r : Judged} {R' : List ℕ} → d ≡ true → r ≡ record { judgement = Typed t; at = r₁.at } → R' ≡ with_row R₁ n t 65535
                → Told F S X R W base n s π R' W₁ K₁ r
            default_ok f er e_r =
                one_then default_rule m₁ y₁ (eq-eqb _ _ (sym e₁ ∙ k)) λ j L p.
                passes _ 16 n _ (sym ed ∙ f) (gives_type g.within default_within.0 refl p er e_r)

-- field
module _ {F : List ℕ} {S : Sections} {X R W K : List ℕ} {base n s π : ℕ} (g : Ready F S X R W K base n s π) (kind : (node_at (tables_of F S) n).kind ≡ 23) where
  field-rule : (e : Expr) → Stands (tables_of F S) n e
      → One F S W base n s (λ t. is_kind (tables_of F S) t 4) (λ t L. giving (field_type (field_of (tables_of F S) (referred (tables_of F S) t) (node_at (tables_of F S) n).x 0 (length (declared (tables_of F S)))) n (scope_of (tables_of F S) W base s) L)) e
  unfolding judging
  field-rule = on_field (One F S W base n s _ _) (λ x a h. record { child = a; stands = h.1; long = refl; judged = rw h.0.x_is }) kind

  pub field_first : Ready F S X R W K base (n + 1) s π
  field_first = first_ready (one_child field-rule) g

  module _ {R₁ W₁ K₁ : List ℕ} {r₁ : Judged} (m₁ : Told F S X R W base (n + 1) s π R₁ W₁ K₁ r₁) where
    pub field_no : Untyped r₁ → Told F S X R W base n s π R₁ W₁ K₁ r₁
    field_no = first_no (one_child field-rule) m₁

    module _ {t k₁ : ℕ} (y₁ : r₁.judgement ≡ Typed t) (e₁ : k₁ ≡ (type_at (tables_of F S) t).kind) where
      pub field_sort : {r : Judged} → (k₁ ≡ 4 → ⊥) → Refuses r 10 n r₁.at.pairs → Told F S X R W base n s π R₁ W₁ K₁ r
      field_sort f = first_sort (one_child field-rule) m₁ y₁ (ne_eqb _ _ (λ i. f (e₁ ∙ i)))

      module _ (k : k₁ ≡ 4) {o x₁ : ℕ} (eo : o ≡ struct_entry X t) (ex : x₁ ≡ (node_at (tables_of F S) n).x) (f : Option ℕ) (ef : number_of f ≡ field_in (tables_of F S) o x₁) where
        field_meant : field_of (tables_of F S) (referred (tables_of F S) t) (node_at (tables_of F S) n).x 0 (length (declared (tables_of F S))) ≡ number_of f
        field_meant =
            ap (field_of (tables_of F S) (referred (tables_of F S) t) (node_at (tables_of F S) n).x 0) (declared_long (tables_of F S))
            ∙ field_is (tables_of F S) (referred (tables_of F S) t) (node_at (tables_of F S) n).x o
            (sym (struct_meant (tables_of F S) t (sym e₁ ∙ k)) ∙ sym (g.fine.indexed.named t (child_within field_first m₁ y₁)) ∙ sym eo)
            ∙ ap (field_in (tables_of F S) o) (sym ex)
            ∙ sym ef

        pub field_unknown : {r : Judged} → f ≡ None → Refuses r 8 n r₁.at.pairs → Told F S X R W base n s π R₁ W₁ K₁ r
        field_unknown z e = one_then field-rule m₁ y₁ (eq-eqb _ _ (sym e₁ ∙ k)) λ j L p. rw (field_meant, z) (refuses_now 8 n e)

        module _ {u : ℕ} (z : f ≡ Some u) where
          pub field_within : u < S.types
          field_within = found_under F S g.fine.good_tables o x₁ u (sym ef ∙ ap number_of z)

          pub field_ok : {r : Judged} {R' : List ℕ} → r ≡ record { judgement = Typed u; at = r₁.at } → R' ≡ with_row R₁ n u 65535
              → Told F S X R W base n s π R' W₁ K₁ r
          field_ok er e_r =
              one_then field-rule m₁ y₁ (eq-eqb _ _ (sym e₁ ∙ k)) λ j L p.
              rw (field_meant, z) (gives_type g.within field_within refl p er e_r)
