-- Rules with a list: array literal, call and struct literal. The answers of their returns, and what their calls ask. Assumes nothing.
use mathlib.Core.Path.{◌≡◌, refl, ap, sym, subst, ◌∙◌}
use mathlib.Core.Bool.{Bool, true, false, not}
use mathlib.Core.List.{List, ◌++◌}
use Prim.Native.Nat.{ℕ, ◌+◌, ◌*◌, ◌≤◌, ◌<◌}
use native.Mathlib.Omega.{arith}
use lib.ListN.{length}
use lib.Dec.{eqb}
use borrow.Author.Tests.{eq-eqb, ne_eqb, lt-ltb, le-ltb}
use Rattle.oat.specs.Basics.{pick}
use Rattle.oat.specs.Tables.{Tables, type_at, node_at}
use Rattle.oat.specs.Types.{Field, struct_of, Lookup, found, missing, lookup}
use Rattle.oat.specs.Syntax.{Expr, array_literal, struct_literal, call, size, Exprs, sizes, count, Inits, size_inits}
use Rattle.oat.specs.Nodes.{Stands, StandAll}
use Rattle.oat.proofs.LawsTables.{has-kind}
use Rattle.typing_rules.specs.Labels.{Label}
use Rattle.typing_rules.specs.Rules.{names_fit}
use Rattle.typing_rules.specs.Judge.{Out, ok, Counted, giving, and_counting, on_declared, pairs_declared, plain, is_kind, referred, formed, each_asked, arguments_asked, judging}
use Rattle.typing_rules.proofs.LawsPairs.{expr_pairs}
use Rattle.file_sections.specs.declared.Sections.{Sections}
use Rattle.file_sections.specs.Layout.{Has, tables_of}
use Rattle.file_sections.specs.Frames.{Same}
use Rattle.file_sections.proofs.LawsRecords.{nodes_long, structs_long}
use Rattle.type_index.specs.Index.{declared, record_of, struct_named, struct_entry, formed_entry, Entered}
use Rattle.type_index.proofs.LawsIndex.{lookup_is}
use Rattle.bindings.specs.Bindings.{entry_of, scope_of}
use Rattle.bindings.proofs.LawsBindings.{scope_same, names_same}
use Rattle.fields.specs.Literal.{Initializers, OfInitializers}
use Rattle.answers.specs.declared.answer.Judgement.TheVariants.{Typed, GoesOn}
use Rattle.answers.specs.declared.answer.Judged.{Judged}
use Rattle.answers.specs.declared.leaves.Expected.{Expected}
use Rattle.answers.specs.declared.leaves.Expected.TheVariants.{Each, Run}
use Rattle.answers.specs.Answers.{with_row, Refuses}
use Rattle.expressions.specs.Contract.{context_of, Fine, Typing, Listing, Meets, Few, expr_in, Answers, Ready, Told, expected_asked, listed, listed_in, ReadyList, ToldList, initialized_in, ReadyInits, ToldInits}
use Rattle.expressions.proofs.LawsMeets.{Untyped, Unlisted, accepts_now, refuses_now, pairs_told, stops, passes, child_ok, list_no, list_ok, then_tested}
use Rattle.expressions.proofs.LawsAfter.{typing_of, after_append, rule_typed}
use Rattle.expressions.proofs.LawsChild.{few_parts_in, child_within, has_type, kind_within, element_within, returned_within, type_entered, formed_is, parameters_within}
use Rattle.expressions.proofs.LawsList.{judged_in, listed_fine}
use Rattle.expressions.proofs.LawsInits.{inits_in, fits_in, initialized_fine}
use Rattle.expressions.proofs.LawsLabels.{expr_long, expr_closed}
use Rattle.expressions.proofs.LawsRules.{First, first_ready, first_no, first_sort}
use Rattle.expressions.proofs.LawsShape.{on-array, at_struct, on_call, stands_end}

module _ {F : List ℕ} {S : Sections} {X : List ℕ} {base : ℕ} where
  -- the row of a node of the file can be written
  pub row_fits : {R W K : List ℕ} {n s t : ℕ} → Fine F S X R W K base s → n < S.nodes → t < S.types → (n * 2 + 1 < length R) × (n < 65536) × (t < 65536)
  row_fits f h k =
      let laid = f.good_tables.laid in
      (omega (arith, f.rows_long, h), omega (arith, h, laid.nodes_most), omega (arith, k, laid.types_most))

  -- a later list sees the scope and the names of the part before it
  pub retell_list : {W R₁ W₁ R₂ W₂ K₂ : List ℕ} {s m i q π left : ℕ} {x : Expected} {parent : ℕ} {r : Judged} → Same (entry_of (tables_of F S) s) W W₁ → base ≤ s → m ≡ i → q ≡ s
      → ToldList F S X R₁ W₁ base m q π left x parent R₂ W₂ K₂ r → (es : Exprs) → StandAll (tables_of F S) i es → count es ≡ left
      → Meets (Listing F S X base i (sizes es) s R₁ W₁ R₂ W₂ K₂ r) r π (listed_in F S W base s es i x parent).out (listed_in F S W base s es i x parent).pairs
  retell_list {W} {R₁} {W₁} {R₂} {W₂} {K₂} {s} {m} {i} {q} {π} {left} {x} {parent} {r} a l e f told es h c =
      subst (λ Γ. Answered (listed (tables_of F S) (context_of (tables_of F S) W base) es i Γ x parent)) (scope_same (tables_of F S) s a base)
      (subst (λ N. Answered (listed (tables_of F S) (record { structs = declared (tables_of F S); names = N }) es i (scope_of (tables_of F S) W₁ base s) x parent))
      (names_same (tables_of F S) s a base l)
      ((subst (λ j. ToldList F S X R₁ W₁ base j s π left x parent R₂ W₂ K₂ r) e (subst (λ j. ToldList F S X R₁ W₁ base m j π left x parent R₂ W₂ K₂ r) f told)).tells es h c))
    where
      Answered : Counted (List ℕ) → Type 0
      Answered o = Meets (Listing F S X base i (sizes es) s R₁ W₁ R₂ W₂ K₂ r) r π o.out o.pairs

-- array literal
array_at : {T : Tables} {n t : ℕ} → t ≡ (node_at T n).t → (P : Expr → Type 0) → ((es : Exprs) → Stands T n (array_literal t es) → P (array_literal t es))
    → (node_at T n).kind ≡ 16 → (e : Expr) → Stands T n e → P e
array_at {T} {n} et P f = on-array P (λ u es h. subst (λ v. Stands T n (array_literal v es) → P (array_literal v es)) (et ∙ h.0.t_is) (f es) h)

module _ {F : List ℕ} {S : Sections} {X R W K : List ℕ} {base n s π : ℕ} (g : Ready F S X R W K base n s π) (kind : (node_at (tables_of F S) n).kind ≡ 16)
    {t : ℕ} (et : t ≡ (node_at (tables_of F S) n).t) where
  array_kind : (t < S.types) × ((type_at (tables_of F S) t).kind ≡ 5)
  array_kind =
      array_at et (λ e. (t < S.types) × ((type_at (tables_of F S) t).kind ≡ 5))
      (λ es h. (kind_within g.fine.good_tables 5 h.1, (has-kind (tables_of F S) t 5 h.1).kind)) kind g.tree g.stands

  pub array_within : t < S.types
  array_within = array_kind.0

  pub array_type : Has F S t S.types
  array_type = has_type g.fine.good_tables array_within

  module _ {u : ℕ} (eu : u ≡ (type_at (tables_of F S) t).a) where
    pub array_element : u < S.types
    array_element = subst (λ i. i < S.types) (sym eu) (element_within g.fine.good_tables array_within array_kind.1)

    pub array_entered : Entered X u
    array_entered = type_entered g.fine array_element

    pub array_list : {c : ℕ} → c ≡ (node_at (tables_of F S) n).children → ReadyList F S X R W K base (n + 1) s π c (Each u)
    array_list {c} ec =
        array_at et (λ e. s + size e ≤ S.built_ins + S.nodes → Few π (size e) → ReadyList F S X R W K base (n + 1) s π c (Each u))
        (λ es h l w. record {
          fine = g.fine;
          within = omega (arith, g.within);
          expecting = array_element;
          trees = es;
          stand = h.2;
          counted = sym (ec ∙ h.0.children_is);
          room = omega arith;
          few = omega arith;
        })
        kind g.tree g.stands g.room g.few

    module _ {b : Bool} (eb : b ≡ formed_entry X u) where
      array_formed : b ≡ formed (tables_of F S) (context_of (tables_of F S) W base) (referred (tables_of F S) t)
      array_formed = formed_is g.fine array_element eb ∙ ap (formed (tables_of F S) (context_of (tables_of F S) W base)) eu

      pub array_unformed : {r : Judged} → b ≡ false → Refuses r 9 n π → Told F S X R W base n s π R W K r
      unfolding judging
      array_unformed {r} f e =
          record { tells = array_at et (Answers F S X R W base n s π R W K r) (λ es h. stops _ 9 n _ _ (sym array_formed ∙ f) e) kind }

      module _ (fb : b ≡ true) {c : ℕ} (ec : c ≡ (node_at (tables_of F S) n).children) {R₁ W₁ K₁ : List ℕ} {r₁ : Judged}
          (m₁ : ToldList F S X R W base (n + 1) s π c (Each u) n R₁ W₁ K₁ r₁) where
        array_listed : (es : Exprs) → Stands (tables_of F S) n (array_literal t es)
            → Meets (Listing F S X base (n + 1) (sizes es) s R W R₁ W₁ K₁ r₁) r₁ π
            (listed_in F S W base s es (n + 1) (Each (referred (tables_of F S) t)) n).out (listed_in F S W base s es (n + 1) (Each (referred (tables_of F S) t)) n).pairs
        array_listed es h = (subst (λ i. ToldList F S X R W base (n + 1) s π c (Each i) n R₁ W₁ K₁ r₁) eu m₁).tells es h.2 (sym (ec ∙ h.0.children_is))

        -- the list, and then the type
        abbrev array_then : Exprs → Counted ℕ
        array_then es = and_counting (listed_in F S W base s es (n + 1) (Each (referred (tables_of F S) t)) n) λ ts L. giving (plain t (scope_of (tables_of F S) W base s) L)

        array_told : {r : Judged} {R' W' K' : List ℕ} (es : Exprs) → Stands (tables_of F S) n (array_literal t es)
            → Meets (Typing F S X base n (size (array_literal t es)) s R W R' W' K' r) r π (array_then es).out (array_then es).pairs
            → Answers F S X R W base n s π R' W' K' r (array_literal t es)
        unfolding judging expected_asked
        array_told es h m =
            passes _ 9 n _ (sym array_formed ∙ fb)
            (then_tested (judged_in F S W base s es (n + 1))
            (λ ts. each_asked (tables_of F S) (context_of (tables_of F S) W base) ts (referred (tables_of F S) t)) 11 n (λ ts L. plain t (scope_of (tables_of F S) W base s) L) m)

        pub array_no : Unlisted r₁ → Told F S X R W base n s π R₁ W₁ K₁ r₁
        array_no u₁ =
            record { tells = array_at et (Answers F S X R W base n s π R₁ W₁ K₁ r₁) (λ es h. array_told es h (list_no _ _ _ u₁ (array_listed es h))) kind }

        pub array_row : r₁.judgement ≡ GoesOn → (n * 2 + 1 < length R₁) × (n < 65536) × (t < 65536)
        array_row y = row_fits (listed_fine (array_list ec) m₁ y) g.within array_within

        pub array_ok : {r : Judged} {R' : List ℕ} → r₁.judgement ≡ GoesOn → r ≡ record { judgement = Typed t; at = r₁.at } → R' ≡ with_row R₁ n t 65535
            → Told F S X R W base n s π R' W₁ K₁ r
        array_ok {r} {R'} y er e_r =
            record {
              tells = array_at et (Answers F S X R W base n s π R' W₁ K₁ r)
                  (λ es h. array_told es h
                  (list_ok _ _ y (array_listed es h) λ ts L q p.
                  accepts_now _ _ (rule_typed g.within array_within p.after er p.next p.scope refl e_r) (ap (λ i. i.at.pairs) er))) kind;
            }

-- call
module _ {F : List ℕ} {S : Sections} {X R W K : List ℕ} {base n s π : ℕ} (g : Ready F S X R W K base n s π) (kind : (node_at (tables_of F S) n).kind ≡ 24) where
  call_child : (e : Expr) → Stands (tables_of F S) n e → First F S W base n s (λ f. is_kind (tables_of F S) f 6) e
  unfolding judging
  call_child = on_call (First F S W base n s _) (λ a es h. record { child = a; stands = h.1; smaller = omega arith; more = _; judged = refl }) kind

  pub call_first : Ready F S X R W K base (n + 1) s π
  call_first = first_ready call_child g

  module _ {R₁ W₁ K₁ : List ℕ} {r₁ : Judged} (m₁ : Told F S X R W base (n + 1) s π R₁ W₁ K₁ r₁) where
    pub call_no : Untyped r₁ → Told F S X R W base n s π R₁ W₁ K₁ r₁
    call_no = first_no call_child m₁

    module _ {f k₁ : ℕ} (y₁ : r₁.judgement ≡ Typed f) (e₁ : k₁ ≡ (type_at (tables_of F S) f).kind) where
      pub call_sort : {r : Judged} → (k₁ ≡ 6 → ⊥) → Refuses r 10 n r₁.at.pairs → Told F S X R W base n s π R₁ W₁ K₁ r
      call_sort z = first_sort call_child m₁ y₁ (ne_eqb _ _ (λ i. z (e₁ ∙ i)))

      module _ (six : k₁ ≡ 6) {u : ℕ} (eu : u ≡ (type_at (tables_of F S) f).a) where
        pub call_within : u < S.types
        call_within = subst (λ i. i < S.types) (sym eu) (returned_within g.fine.good_tables (child_within call_first m₁ y₁) (sym e₁ ∙ six))

        pub call_type : Has F S u S.types
        call_type = has_type g.fine.good_tables call_within

        module _ {k₂ : ℕ} (e₂ : k₂ ≡ (type_at (tables_of F S) u).kind) where
          referred_kind : k₂ ≡ (type_at (tables_of F S) (referred (tables_of F S) f)).kind
          referred_kind = e₂ ∙ ap (λ i. (type_at (tables_of F S) i).kind) eu

          pub call_void : {r : Judged} → k₂ ≡ 3 → Refuses r 13 n r₁.at.pairs → Told F S X R W base n s π R₁ W₁ K₁ r
          unfolding judging
          call_void {r} three e =
              record {
                tells = on_call (Answers F S X R W base n s π R₁ W₁ K₁ r)
                    (λ a es h.
                    child_ok _ _ _ f y₁ (m₁.tells a h.1) λ L q p.
                    passes _ 10 n _ (eq-eqb _ _ (sym e₁ ∙ six))
                    (stops _ 13 n _ _ (ap not (eq-eqb _ _ (sym referred_kind ∙ three))) e)) kind;
              }

          module _ (value : k₂ ≡ 3 → ⊥) {c d : ℕ} (ec : c ≡ (type_at (tables_of F S) f).c) (ed : d ≡ (node_at (tables_of F S) n).children) where
            not_void : not (eqb (type_at (tables_of F S) (referred (tables_of F S) f)).kind 3) ≡ true
            not_void = ap not (ne_eqb _ _ (λ i. value (referred_kind ∙ i)))

            pub call_count : {r : Judged} → (d ≡ 1 + c → ⊥) → Refuses r 12 n r₁.at.pairs → Told F S X R W base n s π R₁ W₁ K₁ r
            unfolding judging
            call_count {r} z e =
                record {
                  tells = on_call (Answers F S X R W base n s π R₁ W₁ K₁ r)
                      (λ a es h.
                      child_ok _ _ _ f y₁ (m₁.tells a h.1) λ L q p.
                      passes _ 10 n _ (eq-eqb _ _ (sym e₁ ∙ six))
                      (passes _ 13 n _ not_void
                      (stops _ 12 n _ _ (ne_eqb _ _ (λ i. z (ed ∙ h.0.children_is ∙ ap (λ j. 1 + j) (i ∙ sym ec)))) e))) kind;
                }

            module _ (many : d ≡ 1 + c) {b : ℕ} (eb : b ≡ (type_at (tables_of F S) f).b) where
              counts : (es : Exprs) → (node_at (tables_of F S) n).children ≡ 1 + count es → count es ≡ c
              counts es h = omega (arith, ed, many)

              pub call_list : (n < r₁.at.node) × ReadyList F S X R₁ W₁ K₁ base r₁.at.node r₁.at.scope r₁.at.pairs c (Run b)
              call_list =
                  on_call (λ e. s + size e ≤ S.built_ins + S.nodes → Few π (size e) → (n < r₁.at.node) × ReadyList F S X R₁ W₁ K₁ base r₁.at.node r₁.at.scope r₁.at.pairs c (Run b))
                  (λ a es h l w.
                  let (L, q, p) = typing_of _ (m₁.tells a h.1) y₁ in (
                    omega (arith, p.next),
                    subst (λ i. ReadyList F S X R₁ W₁ K₁ base r₁.at.node i r₁.at.pairs c (Run b)) (sym p.scope) (record {
                      fine = p.after.fine;
                      within = omega (arith, p.next, stands_end (tables_of F S) (n + 1) a h.1, nodes_long F S);
                      expecting = parameters_within g.fine.good_tables (child_within call_first m₁ y₁) (sym e₁ ∙ six) eb ec;
                      trees = es;
                      stand = subst (λ i. StandAll (tables_of F S) i es) (sym p.next) h.2;
                      counted = counts es h.0.children_is;
                      room = omega arith;
                      few = omega (arith, w, pairs_told (m₁.tells a h.1), expr_pairs (few_parts_in g.fine.good_tables W base) a (n + 1) (scope_of (tables_of F S) W base s));
                    }),
                  )) kind
                  g.tree g.stands g.room g.few

              module _ {R₂ W₂ K₂ : List ℕ} {r₂ : Judged} (m₂ : ToldList F S X R₁ W₁ base r₁.at.node r₁.at.scope r₁.at.pairs c (Run b) n R₂ W₂ K₂ r₂) where
                -- the arguments, and then the type
                abbrev arguments : Expr → Exprs → Counted (List ℕ)
                arguments a es = listed_in F S W base s es (n + 1 + size a) (Run (type_at (tables_of F S) f).b) n

                abbrev call_then : Expr → Exprs → List (Label ℕ) → Counted ℕ
                call_then a es L = and_counting (arguments a es) λ ts M. giving (plain (referred (tables_of F S) f) (scope_of (tables_of F S) W base s) (L ++ M))

                call_told : {r : Judged} {R' W' K' : List ℕ}
                    → ((a : Expr) (es : Exprs) (L : List (Label ℕ)) → (expr_in F S W base s a (n + 1)).out ≡ ok f L
                    → Typing F S X base (n + 1) (size a) s R W R₁ W₁ K₁ r₁ f L
                    → Meets (Listing F S X base (n + 1 + size a) (sizes es) s R₁ W₁ R₂ W₂ K₂ r₂) r₂ r₁.at.pairs (arguments a es).out (arguments a es).pairs
                    → Meets (Typing F S X base n (size (call a es)) s R W R' W' K' r) r r₁.at.pairs (call_then a es L).out (call_then a es L).pairs)
                    → Told F S X R W base n s π R' W' K' r
                unfolding judging expected_asked
                call_told {r} {R'} {W'} {K'} go =
                    record {
                      tells = on_call (Answers F S X R W base n s π R' W' K' r)
                          (λ a es h.
                          child_ok _ _ _ f y₁ (m₁.tells a h.1) λ L q p.
                          passes _ 10 n _ (eq-eqb _ _ (sym e₁ ∙ six))
                          (passes _ 13 n _ not_void
                          (passes _ 12 n _ (eq-eqb _ _ (counts es h.0.children_is ∙ ec))
                          (then_tested (judged_in F S W base s es (n + 1 + size a))
                          (λ ts. arguments_asked (tables_of F S) (context_of (tables_of F S) W base) ts (type_at (tables_of F S) f).b) 11 n
                          (λ ts M. plain (referred (tables_of F S) f) (scope_of (tables_of F S) W base s) (L ++ M))
                          (go a es L q p
                          (retell_list p.after.same g.fine.above p.next p.scope
                          (subst (λ i. ToldList F S X R₁ W₁ base r₁.at.node r₁.at.scope r₁.at.pairs c (Run i) n R₂ W₂ K₂ r₂) eb m₂) es h.2 (counts es h.0.children_is))))))) kind;
                    }

                pub call_no_2 : Unlisted r₂ → Told F S X R W base n s π R₂ W₂ K₂ r₂
                call_no_2 z = call_told (λ a es L q p v. list_no _ _ _ z v)

                pub call_row : r₂.judgement ≡ GoesOn → (n * 2 + 1 < length R₂) × (n < 65536) × (u < 65536)
                call_row y = row_fits (listed_fine call_list.1 m₂ y) g.within call_within

                pub call_ok : {r : Judged} {R' : List ℕ} → r₂.judgement ≡ GoesOn → r ≡ record { judgement = Typed u; at = r₂.at } → R' ≡ with_row R₂ n u 65535
                    → Told F S X R W base n s π R' W₂ K₂ r
                call_ok {r} {R'} y er e_r =
                    call_told
                    (λ a es L q p v.
                    list_ok _ _ y v λ ts M q₂ p₂.
                    subst (λ i. Meets (Typing F S X base n (size (call a es)) s R W R' W₂ K₂ r) r r₂.at.pairs (plain i (scope_of (tables_of F S) W base s) (L ++ M)) 0) eu
                    (accepts_now _ _ (rule_typed g.within call_within (after_append (expr_long _ _ a (n + 1) _ f L q) (expr_closed _ _ a (n + 1) _ f L q) p.after p₂.after) er (p₂.next ∙ omega arith) p₂.scope (omega arith) e_r)
                    (ap (λ i. i.at.pairs) er)))

-- struct literal
struct_at : {T : Tables} {n t : ℕ} → t ≡ (node_at T n).t → (P : Expr → Type 0) → ((is : Inits) → Stands T n (struct_literal t is) → P (struct_literal t is))
    → (node_at T n).kind ≡ 21 → (e : Expr) → Stands T n e → P e
struct_at {T} {n} et P f = at_struct P (λ u is h. subst (λ v. Stands T n (struct_literal v is) → P (struct_literal v is)) (et ∙ h.0.t_is) (f is) h)

-- the struct that a type of kind 4 names
struct-record : (T : Tables) (t : ℕ) → (type_at T t).kind ≡ 4 → struct_named T t ≡ record_of T (referred T t)
unfolding struct_named
struct-record T t k = rw (eq-eqb _ _ k)

struct_missing_is : (T : Tables) (x o : ℕ) → o ≡ record_of T x → length T.structs ≤ o → lookup (declared T) x ≡ missing
struct_missing_is T x o e h = lookup_is T x ∙ ap (λ b. pick b (found (struct_of T (record_of T x)).fields) missing) (le-ltb _ _ (subst (λ i. length T.structs ≤ i) e h))

struct_found_is : (T : Tables) (x o : ℕ) → o ≡ record_of T x → o < length T.structs → lookup (declared T) x ≡ found (struct_of T o).fields
struct_found_is T x o e h =
    lookup_is T x ∙ ap (λ b. pick b (found (struct_of T (record_of T x)).fields) missing) (lt-ltb _ _ (subst (λ i. i < length T.structs) e h))
    ∙ ap (λ i. found (struct_of T i).fields) (sym e)

module _ {A : Type 0} {Q : A → List (Label ℕ) → Type 0} {r : Judged} {π : ℕ} where
  undeclared : (l : Lookup) (n : ℕ) (k : List Field → Out A) (j : List Field → ℕ) → l ≡ missing → Refuses r 9 n π → Meets Q r π (on_declared l n k) (pairs_declared l j)
  undeclared l n k j h e = rw h (refuses_now 9 n e)

  on-found : (l : Lookup) (n : ℕ) (k : List Field → Out A) (j : List Field → ℕ) (fs : List Field) → l ≡ found fs → Meets Q r π (k fs) (j fs) → Meets Q r π (on_declared l n k) (pairs_declared l j)
  on-found l n k j fs h m = rw h m

module _ {F : List ℕ} {S : Sections} {X R W K : List ℕ} {base n s π : ℕ} (g : Ready F S X R W K base n s π) (kind : (node_at (tables_of F S) n).kind ≡ 21)
    {t : ℕ} (et : t ≡ (node_at (tables_of F S) n).t) where
  struct_kind : (t < S.types) × ((type_at (tables_of F S) t).kind ≡ 4)
  struct_kind =
      struct_at et (λ e. (t < S.types) × ((type_at (tables_of F S) t).kind ≡ 4))
      (λ is h. (kind_within g.fine.good_tables 4 h.1, (has-kind (tables_of F S) t 4 h.1).kind)) kind g.tree g.stands

  pub struct_within : t < S.types
  struct_within = struct_kind.0

  module _ {o : ℕ} (eo : o ≡ struct_entry X t) where
    owner_is : o ≡ record_of (tables_of F S) (referred (tables_of F S) t)
    owner_is = eo ∙ g.fine.indexed.named t struct_within ∙ struct-record (tables_of F S) t struct_kind.1

    pub struct_missing : {r : Judged} → S.structs ≤ o → Refuses r 9 n π → Told F S X R W base n s π R W K r
    unfolding judging
    struct_missing {r} l e =
        record {
          tells = struct_at et (Answers F S X R W base n s π R W K r)
              (λ is h. undeclared _ n _ _ (struct_missing_is (tables_of F S) _ o owner_is (subst (λ i. i ≤ o) (sym (structs_long F S)) l)) e) kind;
        }

    module _ (low : o < S.structs) where
      owner_found : lookup (declared (tables_of F S)) (referred (tables_of F S) t) ≡ found (struct_of (tables_of F S) o).fields
      owner_found = struct_found_is (tables_of F S) _ o owner_is (subst (λ i. o < i) (sym (structs_long F S)) low)

      pub struct-named : Initializers F S (n + 1) (node_at (tables_of F S) n).children
      struct-named =
          struct_at et (λ e. Initializers F S (n + 1) (node_at (tables_of F S) n).children)
          (λ is h. record { laid = g.fine.good_tables.laid; inits = is; stand = h.2; counted = sym h.0.children_is }) kind g.tree g.stands

      pub struct_inits : {c : ℕ} → c ≡ (node_at (tables_of F S) n).children → ReadyInits F S X R W K base (n + 1) s π c o
      struct_inits {c} ec =
          struct_at et (λ e. s + size e ≤ S.built_ins + S.nodes → Few π (size e) → ReadyInits F S X R W K base (n + 1) s π c o)
          (λ is h l w. record {
            fine = g.fine;
            within = omega (arith, g.within);
            declared_there = low;
            inits = is;
            stand = h.2;
            counted = sym (ec ∙ h.0.children_is);
            room = omega arith;
            few = omega arith;
          })
          kind g.tree g.stands g.room g.few

      module _ {b : Bool} (fit : OfInitializers F S (n + 1) (node_at (tables_of F S) n).children (λ is. b ≡ names_fit (struct_of (tables_of F S) o).fields is)) where
        pub struct_names : {r : Judged} → b ≡ false → Refuses r 12 n π → Told F S X R W base n s π R W K r
        unfolding judging
        struct_names {r} f e =
            record {
              tells = struct_at et (Answers F S X R W base n s π R W K r)
                  (λ is h. on-found _ n _ _ _ owner_found (stops _ 12 n _ _ (sym (fit.holds is h.2 (sym h.0.children_is)) ∙ f) e)) kind;
            }

        module _ (fb : b ≡ true) {c : ℕ} (ec : c ≡ (node_at (tables_of F S) n).children) {R₁ W₁ K₁ : List ℕ} {r₁ : Judged}
            (m₁ : ToldInits F S X R W base (n + 1) s π c o n R₁ W₁ K₁ r₁) where
          -- the initializers, and then the type
          abbrev struct_then : Inits → Counted ℕ
          struct_then is = and_counting (initialized_in F S W base s o is (n + 1) n) λ ts L. giving (plain t (scope_of (tables_of F S) W base s) L)

          struct_told : {r : Judged} {R' W' K' : List ℕ}
              → ((is : Inits)
              → Meets (Listing F S X base (n + 1) (size_inits is) s R W R₁ W₁ K₁ r₁) r₁ π (initialized_in F S W base s o is (n + 1) n).out (initialized_in F S W base s o is (n + 1) n).pairs
              → Meets (Typing F S X base n (size (struct_literal t is)) s R W R' W' K' r) r π (struct_then is).out (struct_then is).pairs)
              → Told F S X R W base n s π R' W' K' r
          unfolding judging
          struct_told {r} {R'} {W'} {K'} go =
              record {
                tells = struct_at et (Answers F S X R W base n s π R' W' K' r)
                    (λ is h.
                    on-found _ n _ _ _ owner_found
                    (passes _ 12 n _ (sym (fit.holds is h.2 (sym h.0.children_is)) ∙ fb)
                    (then_tested (inits_in F S W base s is (n + 1))
                    (fits_in F S W base o is) 11 n
                    (λ ts L. plain t (scope_of (tables_of F S) W base s) L)
                    (go is (m₁.tells is h.2 (sym (ec ∙ h.0.children_is))))))) kind;
              }

          pub struct_no : Unlisted r₁ → Told F S X R W base n s π R₁ W₁ K₁ r₁
          struct_no z = struct_told (λ is v. list_no _ _ _ z v)

          pub struct_row : r₁.judgement ≡ GoesOn → (n * 2 + 1 < length R₁) × (n < 65536) × (t < 65536)
          struct_row y = row_fits (initialized_fine (struct_inits ec) m₁ y) g.within struct_within

          pub struct_ok : {r : Judged} {R' : List ℕ} → r₁.judgement ≡ GoesOn → r ≡ record { judgement = Typed t; at = r₁.at } → R' ≡ with_row R₁ n t 65535
              → Told F S X R W base n s π R' W₁ K₁ r
          struct_ok {r} {R'} y er e_r =
              struct_told
              (λ is v.
              list_ok _ _ y v λ ts L q p.
              accepts_now _ _ (rule_typed g.within struct_within p.after er p.next p.scope refl e_r) (ap (λ i. i.at.pairs) er))
