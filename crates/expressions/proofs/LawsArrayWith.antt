-- Array with initializer: the answers of its returns, and those of its value, with the index name bound. Assumes nothing.
use mathlib.Core.Path.{◌≡◌, ap, sym, subst, ◌∙◌}
use mathlib.Core.Bool.{Bool, true, false, not}
use mathlib.Core.List.{List, ◌++◌}
use Prim.Native.Nat.{ℕ, ◌+◌, ◌≤◌, ◌<◌}
use native.Mathlib.Omega.{arith}
use borrow.Author.Tests.{eq-eqb, ne_eqb, not-true, not-false}
use Rattle.oat.specs.Tables.{type_at, node_at}
use Rattle.oat.specs.TableRules.{has_kind}
use Rattle.oat.specs.Types.{type_of}
use Rattle.oat.specs.Decide.{is_formed}
use Rattle.oat.specs.Pairs.{Compared}
use Rattle.oat.specs.Syntax.{Expr, array_with, size}
use Rattle.oat.specs.Nodes.{Stands}
use Rattle.oat.proofs.LawsTables.{has-kind}
use Rattle.typing_rules.specs.Contexts.{binds, inner}
use Rattle.typing_rules.specs.Labels.{Label}
use Rattle.typing_rules.proofs.LawsAlike.{agree_index}
use Rattle.typing_rules.specs.Judge.{ok, Counted, giving, and_counting, asks, plain, is_kind, referred, asked, formed, judge, judging}
use Rattle.typing_rules.proofs.LawsPairs.{expr_pairs, asked_most}
use Rattle.file_sections.specs.declared.Sections.{Sections}
use Rattle.file_sections.specs.Layout.{Has, tables_of, GoodTables}
use Rattle.file_sections.specs.Frames.{Same}
use Rattle.file_sections.proofs.LawsRecords.{nodes_long}
use Rattle.file_sections.proofs.LawsFrames.{same_trans}
use Rattle.type_index.specs.Index.{declared, formed_entry, Entered, Indexed}
use Rattle.bindings.specs.Bindings.{entry_of, scope_of, Scoped, Bindable, Bound}
use Rattle.bindings.proofs.LawsBindings.{scope_bound, names_bound, scope_same, names_same}
use Rattle.subtyping.specs.declared.below.Compared.{Compared as Comparing}
use Rattle.answers.specs.declared.answer.Judgement.TheVariants.{Typed}
use Rattle.answers.specs.declared.answer.At.{At}
use Rattle.answers.specs.declared.answer.Judged.{Judged}
use Rattle.answers.specs.Answers.{with_row, with_pairs, Asks, Refuses}
use Rattle.expressions.specs.Contract.{context_of, Fine, After, Typing, Meets, Few, Answers, Ready, Told, fills, ReadyFilling, ToldFilling}
use Rattle.expressions.proofs.LawsMeets.{Untyped, accepts_now, pairs_told, stops, passes, fails, holds, then_tested, child_no, child_ok}
use Rattle.expressions.proofs.LawsAfter.{ready, typing_of, after_append, rule_typed}
use Rattle.expressions.proofs.LawsScope.{typed_in}
use Rattle.expressions.proofs.LawsLabels.{expr_long, expr_closed}
use Rattle.expressions.proofs.LawsChild.{few_parts_in, has_type, base_within, kind_within, element_within, type_entered, formed_is}
use Rattle.expressions.proofs.LawsRules.{requires_true, First, first_no, first_sort}
use Rattle.expressions.proofs.LawsShape.{on_filled, size_one, stands_within}

-- the element of an array type
array_element : {F : List ℕ} {S : Sections} → GoodTables F S → {t u x : ℕ} → has_kind (tables_of F S) t 5 ≡ true → u ≡ t → x ≡ (type_at (tables_of F S) u).a → x < S.types
array_element {F} {S} good_tables {t} {u} {x} h et ex =
    subst (λ i. i < S.types) (sym (ex ∙ ap (λ i. (type_at (tables_of F S) i).a) et))
    (element_within good_tables (kind_within good_tables 5 h) (has-kind (tables_of F S) t 5 h).kind)

-- the scope that a binding is left for
after_leave : {F : List ℕ} {S : Sections} {X : List ℕ} {base n m k s : ℕ} {L : List (Label ℕ)} {R W K W₁ K₁ R₂ W₂ K₂ K₃ : List ℕ} → base ≤ s
    → Bound F S W K s n 0 W₁ K₁ → After F S X base L m k (s + 1) (s + 1) R W₁ R₂ W₂ K₂ → Scoped F S W₂ K₃ s → After F S X base L m k s s R W R₂ W₂ K₃
after_leave {F} {S} {s = s} l b a c =
    record {
      rows = a.rows;
      kept = a.kept;
      same = same_trans (entry_of (tables_of F S) s) (entry_of (tables_of F S) (s + 1)) (omega arith) b.same a.same;
      fine = record {
        good_tables = a.fine.good_tables;
        indexed = a.fine.indexed;
        rows_long = a.fine.rows_long;
        scoped = c;
        low = a.fine.low;
        above = l;
      };
    }

-- the value at m of the array with initializer at n, with the index name bound
abbrev bound_in : List ℕ → Sections → List ℕ → (base s : ℕ) → Expr → (m n : ℕ) → Counted ℕ
bound_in F S W base s e m n =
    judging (tables_of F S) (context_of (tables_of F S) W base) e m (binds (inner (scope_of (tables_of F S) W base s)) (node_at (tables_of F S) n).x 0 n)

-- it sees the scope and the names before it, and the index name in a block of its own
retell_bound : {F : List ℕ} {S : Sections} {X R W K W₁ K₁ R₂ W₂ K₂ : List ℕ} {base n m s π : ℕ} {r : Judged} → base ≤ s
    → Bound F S W K s n 0 W₁ K₁ → Told F S X R W₁ base m (s + 1) π R₂ W₂ K₂ r → (e : Expr) → Stands (tables_of F S) m e
    → Meets (Typing F S X base m (size e) (s + 1) R W₁ R₂ W₂ K₂ r) r π (bound_in F S W base s e m n).out (bound_in F S W base s e m n).pairs
retell_bound {F} {S} {X} {R} {W} {K} {W₁} {K₁} {R₂} {W₂} {K₂} {base} {n} {m} {s} {π} {r} l b told e h =
    typed_in _ _ e m (agree_index (scope_of (tables_of F S) W base s) (node_at (tables_of F S) n).x 0 n)
    (subst (λ Γ. Answered (judging (tables_of F S) (context_of (tables_of F S) W base) e m Γ)) (scope_bound base b l)
    (subst (λ N. Answered (judging (tables_of F S) (record { structs = declared (tables_of F S); names = N }) e m (scope_of (tables_of F S) W₁ base (s + 1))))
    (names_bound base b l) (told.tells e h)))
  where
    Answered : Counted ℕ → Type 0
    Answered c = Meets (Typing F S X base m (size e) (s + 1) R W₁ R₂ W₂ K₂ r) r π c.out c.pairs

-- `filling`
module _ {F : List ℕ} {S : Sections} {X R W K : List ℕ} {base n s m π : ℕ} (g : ReadyFilling F S X R W K base n s m π) where
  pub filling_bindable : Bindable F S W K s n 0
  filling_bindable = record {
    scoped = g.fine.scoped;
    low = omega (arith, g.fine.low, g.fine.above);
    room = omega (arith, g.room);
    node_there = omega (arith, g.after_node, g.within);
    type_there = base_within g.fine.good_tables (omega arith);
  }

  pub filling_array : {t₁ : ℕ} → t₁ ≡ (node_at (tables_of F S) n).t → Has F S t₁ S.types
  filling_array {t₁} et = has_type g.fine.good_tables (subst (λ i. i < S.types) (sym et) (kind_within g.fine.good_tables 5 g.array))

  pub filling_element : {t₁ x₁ : ℕ} → t₁ ≡ (node_at (tables_of F S) n).t → x₁ ≡ (type_at (tables_of F S) t₁).a → x₁ < S.types
  filling_element et ex = array_element g.fine.good_tables g.array et ex

  module _ {W₁ K₁ : List ℕ} (b : Bound F S W K s n 0 W₁ K₁) where
    module _ {R₂ W₂ K₂ : List ℕ} {r₁ : Judged} (m₁ : Told F S X R W₁ base m (s + 1) π R₂ W₂ K₂ r₁) where
      pub filling_no : Untyped r₁ → ToldFilling F S X R W base n s m π R₂ W₂ K₂ r₁
      filling_no u = record { tells = λ e h. child_no _ _ _ u (retell_bound g.fine.above b m₁ e h) }

      module _ {v : ℕ} (y : r₁.judgement ≡ Typed v) where
        value : (L : List (Label ℕ))
            × (judge (tables_of F S) (context_of (tables_of F S) W₁ base) g.tree m (scope_of (tables_of F S) W₁ base (s + 1)) ≡ ok v L)
            × Typing F S X base m (size g.tree) (s + 1) R W₁ R₂ W₂ K₂ r₁ v L
        value = typing_of _ (m₁.tells g.tree g.stands) y

        pub filling_value : v < S.types
        filling_value = value.2.within

        pub filling_scoped : Scoped F S W₂ K₂ (s + 1)
        filling_scoped = value.2.after.fine.scoped

        pub filling_left : Scoped F S W₂ K₂ (s + 1) × (s ≤ s + 1)
        filling_left = (filling_scoped, omega arith)

        module _ {K₃ : List ℕ} (c : Scoped F S W₂ K₃ s) {t₁ x₁ : ℕ} (et : t₁ ≡ (node_at (tables_of F S) n).t) (ex : x₁ ≡ (type_at (tables_of F S) t₁).a) where
          pub filling_asked : GoodTables F S × Indexed X (tables_of F S) S.types × (v < S.types) × (x₁ < S.types)
          filling_asked = (g.fine.good_tables, g.fine.indexed, filling_value, filling_element et ex)

          module _ {c₁ : Comparing} (ec : Asks (tables_of F S) v x₁ c₁) where
            -- the question about the value
            abbrev question : Compared
            question = asked (tables_of F S) (context_of (tables_of F S) W base) v (referred (tables_of F S) (node_at (tables_of F S) n).t)

            question_is : (c₁.holds ≡ question.holds) × (c₁.pairs ≡ question.pairs)
            question_is = subst (λ i. Asks (tables_of F S) v i c₁) (ex ∙ ap (λ i. (type_at (tables_of F S) i).a) et) ec

            pub filling_counted : (r₁.at.pairs ≤ 4294967295) × (c₁.pairs ≤ 4294967295)
            filling_counted = (
              omega (arith, g.few, pairs_told (m₁.tells g.tree g.stands), expr_pairs (few_parts_in g.fine.good_tables W₁ base) g.tree m (scope_of (tables_of F S) W₁ base (s + 1))),
              omega (arith, question_is.1, asked_most (few_parts_in g.fine.good_tables W base) v (referred (tables_of F S) (node_at (tables_of F S) n).t)),
            )

            module _ {d : At} (ed : d ≡ with_pairs r₁.at c₁) where
              filling_sum : d.pairs ≡ r₁.at.pairs + question.pairs
              filling_sum = ap (λ i. i.pairs) ed ∙ ap (λ i. r₁.at.pairs + i) question_is.1

              pub filling_below : {r : Judged} → not c₁.holds ≡ true → Refuses r 11 n d.pairs → ToldFilling F S X R W base n s m π R₂ W₂ K₃ r
              filling_below {r} f e =
                  record {
                    tells = λ a h.
                        child_ok _ _ _ v y (retell_bound g.fine.above b m₁ a h) λ L q p.
                        fails question 11 n _ _ (sym question_is.0 ∙ not-true _ f) (subst (Refuses r 11 n) filling_sum e);
                  }

              pub filling_ok : {r : Judged} {a : At} → not c₁.holds ≡ false → a.node ≡ d.node → a.scope ≡ s → a.pairs ≡ d.pairs → r ≡ record { judgement = Typed v; at = a }
                  → ToldFilling F S X R W base n s m π R₂ W₂ K₃ r
              filling_ok {r} {a} f there level sum er =
                  record {
                    tells = λ i h.
                        child_ok _ _ _ v y (retell_bound g.fine.above b m₁ i h) λ L q p.
                        holds question 11 n _ (sym question_is.0 ∙ not-false _ f)
                        (accepts_now v L (record {
                          typed = ap (λ i. i.judgement) er;
                          next = ap (λ i. i.at.node) er ∙ there ∙ ap (λ i. i.node) ed ∙ p.next;
                          scope = ap (λ i. i.at.scope) er ∙ level;
                          within = p.within;
                          after = after_leave g.fine.above b p.after c;
                        }) (ap (λ i. i.at.pairs) er ∙ sum ∙ filling_sum));
                  }

-- the value of an array of the type t, whose index name is x, and its question
abbrev valued : List ℕ → Sections → List ℕ → (base s n t x : ℕ) → Expr → ℕ → Counted ℕ
valued F S W base s n t x e i =
    and_counting (judging (tables_of F S) (context_of (tables_of F S) W base) e i (binds (inner (scope_of (tables_of F S) W base s)) x 0 n)) λ v M.
    asks (asked (tables_of F S) (context_of (tables_of F S) W base) v (referred (tables_of F S) t)) 11 n (giving (ok v M))

-- the part after the first child sees the scope and the names before it
retell_filling : {F : List ℕ} {S : Sections} {X W R₁ W₁ R₂ W₂ K₂ : List ℕ} {base n s m i π : ℕ} {r : Judged} → Same (entry_of (tables_of F S) s) W W₁ → base ≤ s → m ≡ i
    → ToldFilling F S X R₁ W₁ base n s m π R₂ W₂ K₂ r → (t x : ℕ) → (node_at (tables_of F S) n).t ≡ t → (node_at (tables_of F S) n).x ≡ x → (e : Expr) → Stands (tables_of F S) i e
    → Meets (Typing F S X base i (size e) s R₁ W₁ R₂ W₂ K₂ r) r π (valued F S W base s n t x e i).out (valued F S W base s n t x e i).pairs
retell_filling {F} {S} {X} {W} {R₁} {W₁} {R₂} {W₂} {K₂} {base} {n} {s} {m} {i} {π} {r} a l e told t x et ex d h =
    subst (λ y. Answered (valued F S W base s n t y d i)) ex
    (subst (λ u. Answered (valued F S W base s n u (node_at (tables_of F S) n).x d i)) et
    (subst (λ Γ. Answered (fills (tables_of F S) (context_of (tables_of F S) W base) d i n Γ)) (scope_same (tables_of F S) s a base)
    (subst (λ N. Answered (fills (tables_of F S) (record { structs = declared (tables_of F S); names = N }) d i n (scope_of (tables_of F S) W₁ base s)))
    (names_same (tables_of F S) s a base l)
    ((subst (λ j. ToldFilling F S X R₁ W₁ base n s j π R₂ W₂ K₂ r) e told).tells d h))))
  where
    Answered : Counted ℕ → Type 0
    Answered c = Meets (Typing F S X base i (size d) s R₁ W₁ R₂ W₂ K₂ r) r π c.out c.pairs

-- the buffers after an accepted value
pub filling_fine : {F : List ℕ} {S : Sections} {X R W K : List ℕ} {base n s m π : ℕ} → ReadyFilling F S X R W K base n s m π → {R₁ W₁ K₁ : List ℕ} {r : Judged}
    → ToldFilling F S X R W base n s m π R₁ W₁ K₁ r → {v : ℕ} → r.judgement ≡ Typed v → Fine F S X R₁ W₁ K₁ base s
filling_fine g told y = (typing_of _ (told.tells g.tree g.stands) y).2.after.fine

-- `filled`
module _ {F : List ℕ} {S : Sections} {X R W K : List ℕ} {base n s π : ℕ} (g : Ready F S X R W K base n s π) (kind : (node_at (tables_of F S) n).kind ≡ 18) where
  filled_kind : has_kind (tables_of F S) (node_at (tables_of F S) n).t 5 ≡ true
  filled_kind =
      on_filled (λ e. has_kind (tables_of F S) (node_at (tables_of F S) n).t 5 ≡ true)
      (λ t x a b h. subst (λ i. has_kind (tables_of F S) i 5 ≡ true) (sym h.0.t_is) h.1) kind g.tree g.stands

  pub filled_first : Ready F S X R W K base (n + 1) s π
  filled_first =
      on_filled (λ e. s + size e ≤ S.built_ins + S.nodes → Few π (size e) → Ready F S X R W K base (n + 1) s π)
      (λ t x a b h l f. ready (n + 1) a g.fine h.2 (omega arith) (omega arith)) kind
      g.tree g.stands g.room g.few

  module _ {R₁ W₁ K₁ : List ℕ} {r₁ : Judged} (m₁ : Told F S X R W base (n + 1) s π R₁ W₁ K₁ r₁) {u : ℕ} (y₁ : r₁.judgement ≡ Typed u) where
    -- for `filling`
    pub filled_filling : ReadyFilling F S X R₁ W₁ K₁ base n s r₁.at.node r₁.at.pairs
    filled_filling =
        on_filled (λ e. s + size e ≤ S.built_ins + S.nodes → Few π (size e) → ReadyFilling F S X R₁ W₁ K₁ base n s r₁.at.node r₁.at.pairs)
        (λ t x a b h l f.
        let (L, q, p) = typing_of _ (m₁.tells a h.2) y₁ in
        let st = subst (λ i. Stands (tables_of F S) i b) (sym p.next) h.3 in
        record {
          fine = p.after.fine;
          after_node = omega (arith, p.next);
          within = subst (λ i. r₁.at.node < i) (nodes_long F S) (stands_within (tables_of F S) r₁.at.node b st);
          array = filled_kind;
          tree = b;
          stands = st;
          room = omega (arith, l, size_one a);
          few = omega (arith, f, pairs_told (m₁.tells a h.2), expr_pairs (few_parts_in g.fine.good_tables W base) a (n + 1) (scope_of (tables_of F S) W base s));
        }) kind
        g.tree g.stands g.room g.few

  module _ {t₁ : ℕ} (et : t₁ ≡ (node_at (tables_of F S) n).t) where
    pub filled_within : t₁ < S.types
    filled_within = subst (λ i. i < S.types) (sym et) (kind_within g.fine.good_tables 5 filled_kind)

    pub filled_array : Has F S t₁ S.types
    filled_array = has_type g.fine.good_tables filled_within

    module _ {x₁ : ℕ} (ea : x₁ ≡ (type_at (tables_of F S) t₁).a) where
      pub filled_element : x₁ < S.types
      filled_element = array_element g.fine.good_tables filled_kind et ea

      pub filled_entered : Entered X x₁
      filled_entered = type_entered g.fine filled_element

      module _ {b₁ : Bool} (eb : b₁ ≡ formed_entry X x₁) where
        formed_at : (t : ℕ) → (node_at (tables_of F S) n).t ≡ t → formed (tables_of F S) (context_of (tables_of F S) W base) (referred (tables_of F S) t) ≡ b₁
        formed_at t e = sym (formed_is g.fine filled_element eb ∙ ap (λ i. is_formed (declared (tables_of F S)) (type_of (tables_of F S) i)) (ea ∙ ap (λ i. (type_at (tables_of F S) i).a) (et ∙ e)))

        pub filled_unformed : {r : Judged} → b₁ ≡ false → Refuses r 9 n π → Told F S X R W base n s π R W K r
        unfolding judging
        filled_unformed {r} f e =
            record {
              tells = on_filled (Answers F S X R W base n s π R W K r)
                  (λ t x a b h. stops _ 9 n _ _ (formed_at t h.0.t_is ∙ f) e) kind;
            }

        module _ (f₁ : b₁ ≡ true) {R₁ W₁ K₁ : List ℕ} {r₁ : Judged} (m₁ : Told F S X R W base (n + 1) s π R₁ W₁ K₁ r₁) where
          filled_child : (e : Expr) → Stands (tables_of F S) n e → First F S W base n s (λ u. is_kind (tables_of F S) u 0) e
          unfolding judging
          filled_child =
              on_filled (First F S W base n s _)
              (λ t x a b h.
              record { child = a; stands = h.2; smaller = omega arith; more = _; judged = requires_true _ 9 n _ (formed_at t h.0.t_is ∙ f₁) }) kind

          pub filled_no : Untyped r₁ → Told F S X R W base n s π R₁ W₁ K₁ r₁
          filled_no = first_no filled_child m₁

          module _ {u k₁ : ℕ} (y₁ : r₁.judgement ≡ Typed u) (e₁ : k₁ ≡ (type_at (tables_of F S) u).kind) where
            pub filled_sort : {r : Judged} → (k₁ ≡ 0 → ⊥) → Refuses r 10 n r₁.at.pairs → Told F S X R W base n s π R₁ W₁ K₁ r
            filled_sort f = first_sort filled_child m₁ y₁ (ne_eqb _ _ (λ i. f (e₁ ∙ i)))

            module _ (k : k₁ ≡ 0) {R₂ W₂ K₂ : List ℕ} {r₂ : Judged} (m₂ : ToldFilling F S X R₁ W₁ base n s r₁.at.node r₁.at.pairs R₂ W₂ K₂ r₂) where
              pub filled_no_2 : Untyped r₂ → Told F S X R W base n s π R₂ W₂ K₂ r₂
              unfolding judging
              filled_no_2 z =
                  record {
                    tells = on_filled (Answers F S X R W base n s π R₂ W₂ K₂ r₂)
                        (λ t x a b h.
                        passes _ 9 n _ (formed_at t h.0.t_is ∙ f₁)
                        (child_ok _ _ _ u y₁ (m₁.tells a h.2) λ L q p.
                        passes _ 10 n _ (eq-eqb _ _ (sym e₁ ∙ k))
                        (then_tested (judging (tables_of F S) (context_of (tables_of F S) W base) b (n + 1 + size a) (binds (inner (scope_of (tables_of F S) W base s)) x 0 n))
                        (λ v. asked (tables_of F S) (context_of (tables_of F S) W base) v (referred (tables_of F S) t)) 11 n (λ v M. plain t (scope_of (tables_of F S) W base s) (L ++ M))
                        (child_no _ (λ v M. plain t (scope_of (tables_of F S) W base s) (L ++ M)) _ z (retell_filling p.after.same g.fine.above p.next m₂ t x h.0.t_is h.0.x_is b h.3))))) kind;
                  }

              pub filled_ok : {v : ℕ} {r : Judged} {R' : List ℕ} → r₂.judgement ≡ Typed v → r ≡ record { judgement = Typed t₁; at = r₂.at }
                  → R' ≡ with_row R₂ n t₁ 65535 → Told F S X R W base n s π R' W₂ K₂ r
              unfolding judging
              filled_ok {v} {r} {R'} y₂ er e_r =
                  record {
                    tells = on_filled (Answers F S X R W base n s π R' W₂ K₂ r)
                        (λ t x a b h.
                        passes _ 9 n _ (formed_at t h.0.t_is ∙ f₁)
                        (child_ok _ _ _ u y₁ (m₁.tells a h.2) λ L q p.
                        passes _ 10 n _ (eq-eqb _ _ (sym e₁ ∙ k))
                        (then_tested (judging (tables_of F S) (context_of (tables_of F S) W base) b (n + 1 + size a) (binds (inner (scope_of (tables_of F S) W base s)) x 0 n))
                        (λ v. asked (tables_of F S) (context_of (tables_of F S) W base) v (referred (tables_of F S) t)) 11 n (λ v M. plain t (scope_of (tables_of F S) W base s) (L ++ M))
                        (child_ok _ (λ v M. plain t (scope_of (tables_of F S) W base s) (L ++ M)) _ v y₂ (retell_filling p.after.same g.fine.above p.next m₂ t x h.0.t_is h.0.x_is b h.3) λ M q₂ p₂.
                        subst (λ i. Meets (Typing F S X base n (size (array_with t x a b)) s R W R' W₂ K₂ r) r r₂.at.pairs (plain i (scope_of (tables_of F S) W base s) (L ++ M)) 0) (et ∙ h.0.t_is)
                        (accepts_now _ _ (rule_typed g.within filled_within (after_append (expr_long _ _ a (n + 1) _ u L q) (expr_closed _ _ a (n + 1) _ u L q) p.after p₂.after) er (p₂.next ∙ omega arith) p₂.scope (omega arith) e_r)
                        (ap (λ i. i.at.pairs) er)))))) kind;
                  }
