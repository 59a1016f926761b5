-- The steps that write no rows: one law for each way through them, and what their calls need. Assumes
-- nothing.
use mathlib.Core.Path.{◌≡◌, refl, ap, ap₂, sym, subst, ◌∙◌}
use mathlib.Core.Bool.{Bool, true, false, not, false≢true}
use mathlib.Core.List.{List, [], ◌∷◌, ◌++◌}
use Prim.Native.Nat.{ℕ, zero, suc, ◌+◌, ◌%◌, ◌≤◌, ◌<◌}
use native.Mathlib.Nat.{not-suc-le-zero, le_of_suc-le-suc}
use native.Mathlib.Omega.{arith}
use lib.ListN.{get_or, set, length-set}
use lib.Seq.{get_or-set_same, get_or-set_other}
use lib.Dec.{eqb}
use borrow.Author.Count.{below_more}
use borrow.Author.Tests.{eqb-true, eq-eqb, ne_eqb, not-true, not-false}
use Rattle.std.specs.Prelude.{Result, Ok, Err}
use Rattle.oat.specs.Basics.{pick, tabulate}
use Rattle.oat.specs.Tables.{Tables, struct_at, built_in_at, node_at}
use Rattle.oat.specs.Types.{Struct, found, type_of, struct_of, structs_of, lookup}
use Rattle.oat.specs.Decide.{is_formed}
use Rattle.oat.proofs.LawsSame.{both_true}
use Rattle.oat.proofs.LawsTables.{tables_formed}
use Rattle.typing_rules.specs.Contexts.{find_name, is_miss}
use Rattle.typing_rules.specs.Judge.{formed}
use Rattle.typing_rules.specs.Steps.{built_in, heading, struct_fields, distinct_fields, add_name, add_struct}
use Rattle.typing_rules.specs.Check.{is_missing, fields_formed, step_rows, stepping}
use Rattle.typing_rules.proofs.LawsSteps.{tabulate_more}
use Rattle.file_sections.specs.declared.Sections.{Sections}
use Rattle.file_sections.specs.Layout.{Has, tables_of}
use Rattle.file_sections.proofs.LawsRecords.{types_long, structs_long, built_ins_long, nodes_long}
use Rattle.type_index.specs.Index.{formed_entry, Entered, Indexed}
use Rattle.type_index.proofs.LawsIndex.{entered}
use Rattle.bindings.specs.Bindings.{names_of, Bindable, Bound}
use Rattle.bindings.proofs.LawsBindings.{scoped_linked, names_linked, names_declared}
use Rattle.fields.proofs.LawsLookup.{record_fields}
use Rattle.expressions.proofs.LawsChild.{kind_within}
use Rattle.steps.specs.declared.context.Context.{Context}
use Rattle.steps.specs.declared.context.Refusal.{Refusal}
use Rattle.steps.specs.Contract.{context_at, with_struct, with_name, with_step, refusal_at, Held, answers_next, Answered, Copied, Newness, Whole, Rowless, ReadyStruct, ToldStruct, ReadyBuiltIn, ReadyHeading, ToldHeading, ReadyFields, types_formed, times_in}
use Rattle.steps.proofs.LawsStepping.{stops, passes, answer_stops, answer_passes, rowless}
use Rattle.steps.proofs.LawsNames.{times_none_of, times_absent, types_formed_are}

-- structs without a name
missing_of : (x n : ℕ) (f : ℕ → Struct) → ((j : ℕ) → j < n → (f j).name ≡ x → ⊥) → is_missing (lookup (tabulate n f) x) ≡ true
unfolding lookup tabulate
missing_of x zero f g = refl
missing_of x (suc n) f g = rw (ne_eqb (f 0).name x (g 0 (omega arith))) (missing_of x n (λ j. f (suc j)) (λ j h. g (suc j) (omega arith)))

missing_apart : (x n : ℕ) (f : ℕ → Struct) → is_missing (lookup (tabulate n f) x) ≡ true → (j : ℕ) → j < n → (f j).name ≡ x → ⊥
unfolding lookup tabulate
missing_apart x zero f e j h = absurd (not-suc-le-zero h)
missing_apart x (suc n) f e zero h = λ z. false≢true (rw (eq-eqb (f 0).name x z) at e)
missing_apart x (suc n) f e (suc j) h = missing_apart x n (λ j. f (suc j)) (rest (eqb (f 0).name x) e) j (le_of_suc-le-suc h)
  where
    rest : (b : Bool) → is_missing (pick b (found (f 0).fields) (lookup (tabulate n (λ j. f (suc j))) x)) ≡ true → is_missing (lookup (tabulate n (λ j. f (suc j))) x) ≡ true
    rest true e = absurd (false≢true e)
    rest false e = e

structs_more : (T : Tables) (n : ℕ) → structs_of T (n + 1) ≡ structs_of T n ++ (struct_of T n ∷ [])
unfolding structs_of
structs_more T n = sym (tabulate_more n (struct_of T))

-- the name of a struct, among those of the structs before it
struct_new_is : (F : List ℕ) (S : Sections) (N : List ℕ) (i x n : ℕ) → Copied F S N i → x ≡ (struct_at (tables_of F S) i).name → n ≡ times_in N i x
    → is_missing (lookup (structs_of (tables_of F S) i) (struct_at (tables_of F S) i).name) ≡ eqb n 0
unfolding structs_of struct_of
struct_new_is F S N i x n copied ex en =
    ap (λ y. is_missing (lookup (structs_of (tables_of F S) i) y)) (sym ex)
    ∙ both_true
    (is_missing (lookup (tabulate i (struct_of (tables_of F S))) x))
    (eqb n 0) (
      λ m. eq-eqb n 0 (en ∙ times_none_of N x i (λ j h z. missing_apart x i (struct_of (tables_of F S)) m j h (sym (copied.names j h) ∙ z))),
      λ t. missing_of x i (struct_of (tables_of F S)) (λ j h z. times_absent N x i (sym en ∙ eqb-true n 0 t) j h (copied.names j h ∙ z)),
    )

module _ {F : List ℕ} {S : Sections} {N : List ℕ} {c : Context} {i : ℕ} (ready : ReadyStruct F S N c i) (x n : ℕ) (ex : x ≡ (struct_at (tables_of F S) i).name) (en : n ≡ times_in N i x) where
  struct_tested : is_missing (lookup (structs_of (tables_of F S) c.structs) (struct_at (tables_of F S) i).name) ≡ eqb n 0
  struct_tested =
      ap (λ k. is_missing (lookup (structs_of (tables_of F S) k) (struct_at (tables_of F S) i).name)) ready.next
      ∙ struct_new_is F S N i x n ready.copied ex en

  pub struct_known : (y : Refusal) → (n ≡ 0 → ⊥) → y ≡ refusal_at c 7 i → ToldStruct F S c i N (Err y)
  unfolding stepping
  struct_known y f e = record {
    answered = record { tells = λ W. answer_stops _ 7 i _ (struct_tested ∙ ne_eqb n 0 f) (ap Err e) };
    copied = λ h. absurd (let z : ◌≡◌ {A = ℕ} 0 1 = cc in omega arith);
  }

  struct_added : (W : List ℕ) → context_at (tables_of F S) W (with_struct c) ≡ add_struct (context_at (tables_of F S) W c) (struct_of (tables_of F S) i)
  struct_added W =
      ap
      (λ H. record { structs = H; names = names_of (tables_of F S) W c.names })
      (structs_more (tables_of F S) c.structs ∙ ap (λ k. structs_of (tables_of F S) c.structs ++ (struct_of (tables_of F S) k ∷ [])) ready.next)

  struct_copied : Copied F S (set N i x) (i + 1)
  struct_copied = record {
    laid = ready.copied.laid;
    long = simp length-set ready.copied.long;
    names = below_more
        (λ j. get_or (set N i x) j 0 ≡ (struct_at (tables_of F S) j).name)
        i
        (λ j l. get_or-set_other N i j x 0 (λ m. omega arith) ∙ ready.copied.names j l)
        (get_or-set_same N i x 0 (omega (arith, ready.copied.long, ready.copied.laid.structs_most, ready.there)) ∙ ex);
  }

  pub struct_new : (d : Context) → n ≡ 0 → d ≡ with_struct c → ToldStruct F S c i (set N i x) (Ok d)
  unfolding stepping
  struct_new d z e = record {
    answered = record { tells = λ W. answer_passes _ 7 i _ (struct_tested ∙ eq-eqb n 0 z) (answers_next _ (ap Ok e) (struct_added W)) };
    copied = λ _. struct_copied;
  }

-- whether a type is well-formed, in the context of all structs
formed_whole : (F : List ℕ) (S : Sections) (X W : List ℕ) (c : Context) (t : ℕ) (b : Bool) → Indexed X (tables_of F S) S.types → Whole S c → t < S.types
    → b ≡ formed_entry X t → formed (tables_of F S) (context_at (tables_of F S) W c) t ≡ b
formed_whole F S X W c t b I w h e =
    sym (e ∙ I.formed t h ∙ ap (λ k. is_formed (structs_of (tables_of F S) k) (type_of (tables_of F S) t)) (structs_long F S ∙ sym w.structs))

-- built-ins
module _ {F : List ℕ} {S : Sections} {X W K : List ℕ} {c : Context} {i : ℕ} (ready : ReadyBuiltIn F S X W K c i) where
  built_in_within : (built_in_at (tables_of F S) i).type < S.types
  built_in_within =
      let l = ((tables_formed (tables_of F S) ready.held.good_tables.tables).built_in_kind i (omega (arith, built_ins_long F S, ready.there))).within in
      omega (arith, types_long F S)

  module _ (t : ℕ) (et : t ≡ (built_in_at (tables_of F S) i).type) where
    pub built_in_entered : Entered X t
    built_in_entered = entered ready.held.good_tables ready.held.indexed (omega (arith, built_in_within))

    module _ (b : Bool) (eb : b ≡ formed_entry X t) where
      built_in_tested : formed (tables_of F S) (context_at (tables_of F S) W c) (built_in_at (tables_of F S) i).type ≡ b
      built_in_tested = formed_whole F S X W c _ b ready.held.indexed ready.whole built_in_within (eb ∙ ap (formed_entry X) et)

      pub built_in_unformed : (y : Refusal) → not b ≡ true → y ≡ refusal_at c 9 i → Rowless F S X c (built_in i) W W K (Err y)
      unfolding stepping
      built_in_unformed y f e = record { tells = λ R. stops _ 9 i _ _ (built_in_tested ∙ not-true b f) (ap Err e) }

      module _ (f : not b ≡ false) (x : ℕ) (ex : x ≡ (built_in_at (tables_of F S) i).name) (n : Bool) (new : Newness F S W K x n) where
        built_in_asked : is_miss (find_name (built_in_at (tables_of F S) i).name (names_of (tables_of F S) W c.names)) ≡ n
        built_in_asked = sym (new.tells c.names ready.held.scoped ∙ ap (λ y. is_miss (find_name y (names_of (tables_of F S) W c.names))) ex)

        pub built_in_known : (y : Refusal) → not n ≡ true → y ≡ refusal_at c 7 i → Rowless F S X c (built_in i) W W K (Err y)
        unfolding stepping
        built_in_known y g e = record {
          tells = λ R. passes _ 9 i _ (built_in_tested ∙ not-false b f) (stops _ 7 i _ _ (built_in_asked ∙ not-true n g) (ap Err e));
        }

        built_in_low : c.names < S.built_ins
        built_in_low = omega (arith, ready.next, ready.there)

        built_in_held : (K' : List ℕ) → K' ≡ set (set K (512 + i) (get_or K (x % 512) 0)) (x % 512) (i + 1) → Held F S X W K' (with_name c)
        built_in_held K' e_k = record {
          good_tables = ready.held.good_tables;
          indexed = ready.held.indexed;
          scoped = scoped_linked
              ready.held.scoped
              built_in_low
              x
              K'
              (ex ∙ ap (λ k. (built_in_at (tables_of F S) k).name) (sym ready.next))
              (subst (λ k. (built_in_at (tables_of F S) k).type < S.types) (sym ready.next) built_in_within)
              (subst (λ k. K' ≡ set (set K (512 + k) (get_or K (x % 512) 0)) (x % 512) (k + 1)) (sym ready.next) e_k);
        }

        built_in_added : context_at (tables_of F S) W (with_name c) ≡ add_name (context_at (tables_of F S) W c) (built_in_at (tables_of F S) i).name (built_in_at (tables_of F S) i).type (40000 + i) false
        built_in_added =
            ap (λ l. record { structs = structs_of (tables_of F S) c.structs; names = l }) (names_linked F S W c.names built_in_low)
            ∙ ap (λ k. add_name (context_at (tables_of F S) W c) (built_in_at (tables_of F S) k).name (built_in_at (tables_of F S) k).type (40000 + k) false) ready.next

        pub built_in_new : (W' K' : List ℕ) (d : Context) → not n ≡ false → W' ≡ W → K' ≡ set (set K (512 + i) (get_or K (x % 512) 0)) (x % 512) (i + 1)
            → d ≡ with_name c → Rowless F S X c (built_in i) W W' K' (Ok d)
        unfolding stepping step_rows
        built_in_new W' K' d g e_w e_k e = subst (λ V. Rowless F S X c (built_in i) W V K' (Ok d)) (sym e_w) record {
          tells = λ R. passes _ 9 i _ (built_in_tested ∙ not-false b f)
              (passes _ 7 i _ (built_in_asked ∙ not-false n g) (rowless R _ refl refl (ap Ok e) (built_in_held K' e_k) built_in_added));
        }

-- function headings
module _ {F : List ℕ} {S : Sections} {X W K : List ℕ} {c : Context} {n : ℕ} (ready : ReadyHeading F S X W K c n) where
  pub heading_node : Has F S n S.nodes
  heading_node = record { laid = ready.held.good_tables.laid; within = subst (λ k. n < k) (nodes_long F S) ready.stands.0.within }

  -- the operands of the node are those of the function
  heading_told : (W' K' : List ℕ) (r : Result Context Refusal) → Rowless F S X c (heading n (node_at (tables_of F S) n).x (node_at (tables_of F S) n).t) W W' K' r → ToldHeading F S X W c n W' K' r
  heading_told W' K' r m = record {
    tells = λ x t ps b h. subst (λ s. Rowless F S X c s W W' K' r) (ap₂ (λ x t. heading n x t) h.0.x_is h.0.t_is) m;
  }

  module _ (t : ℕ) (et : t ≡ (node_at (tables_of F S) n).t) where
    heading_within : t < S.types
    heading_within = subst (λ u. u < S.types) (sym (et ∙ ready.stands.0.t_is)) (kind_within ready.held.good_tables 6 ready.stands.1)

    pub heading_entered : Entered X t
    heading_entered = entered ready.held.good_tables ready.held.indexed heading_within

    pub heading_bindable : Bindable F S W K c.names n t
    heading_bindable = record {
      scoped = ready.held.scoped;
      low = ready.low;
      room = ready.room;
      node_there = heading_node.within;
      type_there = heading_within;
    }

    module _ (b : Bool) (eb : b ≡ formed_entry X t) where
      heading_tested : formed (tables_of F S) (context_at (tables_of F S) W c) (node_at (tables_of F S) n).t ≡ b
      heading_tested = subst (λ u. formed (tables_of F S) (context_at (tables_of F S) W c) u ≡ b) et (formed_whole F S X W c t b ready.held.indexed ready.whole heading_within eb)

      pub heading_unformed : (y : Refusal) → not b ≡ true → y ≡ refusal_at c 9 n → ToldHeading F S X W c n W K (Err y)
      unfolding stepping
      heading_unformed y f e = heading_told W K _ (record { tells = λ R. stops _ 9 n _ _ (heading_tested ∙ not-true b f) (ap Err e) })

      module _ (f : not b ≡ false) (x : ℕ) (ex : x ≡ (node_at (tables_of F S) n).x) (m : Bool) (new : Newness F S W K x m) where
        heading_asked : is_miss (find_name (node_at (tables_of F S) n).x (names_of (tables_of F S) W c.names)) ≡ m
        heading_asked = sym (new.tells c.names ready.held.scoped ∙ ap (λ y. is_miss (find_name y (names_of (tables_of F S) W c.names))) ex)

        pub heading_known : (y : Refusal) → not m ≡ true → y ≡ refusal_at c 7 n → ToldHeading F S X W c n W K (Err y)
        unfolding stepping
        heading_known y g e = heading_told W K _ (record {
          tells = λ R. passes _ 9 n _ (heading_tested ∙ not-false b f) (stops _ 7 n _ _ (heading_asked ∙ not-true m g) (ap Err e));
        })

        module _ {W' K' : List ℕ} (bound : Bound F S W K c.names n t W' K') where
          heading_added : context_at (tables_of F S) W' (with_name c) ≡ add_name (context_at (tables_of F S) W c) (node_at (tables_of F S) n).x (node_at (tables_of F S) n).t n false
          heading_added =
              ap (λ l. record { structs = structs_of (tables_of F S) c.structs; names = l }) (names_declared bound ready.low)
              ∙ ap₂
              (λ u v. add_name (context_at (tables_of F S) W c) (node_at (tables_of F S) n).x u n v)
              et
              (ap (λ k. eqb k 1) ready.stands.0.kind_is ∙ ne_eqb 2 1 (λ z. omega arith))

          pub heading_new : (d : Context) → not m ≡ false → d ≡ with_name c → ToldHeading F S X W c n W' K' (Ok d)
          unfolding stepping step_rows
          heading_new d g e = heading_told W' K' _ (record {
            tells = λ R. passes _ 9 n _ (heading_tested ∙ not-false b f)
                (passes _ 7 n _ (heading_asked ∙ not-false m g)
                (rowless R _ refl refl (ap Ok e) (record { good_tables = ready.held.good_tables; indexed = ready.held.indexed; scoped = bound.scoped }) heading_added));
          })

-- struct fields
module _ {F : List ℕ} {S : Sections} {X : List ℕ} {c : Context} {i : ℕ} (ready : ReadyFields F S X c i) (first count : ℕ) (ef : first ≡ (struct_at (tables_of F S) i).first) (ec : count ≡ (struct_at (tables_of F S) i).count) where
  pub fields_listed : first + count ≤ S.fields
  fields_listed = omega (arith, record_fields F S ready.good_tables i ready.there)

  module _ (b : Bool) (eb : b ≡ types_formed X (tables_of F S) first count) where
    fields_tested : (W : List ℕ) → fields_formed (context_at (tables_of F S) W c) (struct_of (tables_of F S) i).fields ≡ b
    fields_tested W =
        sym
        (eb
        ∙ ap₂ (λ j k. types_formed X (tables_of F S) j k) ef ec
        ∙ types_formed_are
        F
        S
        X
        (context_at (tables_of F S) W c)
        i
        ready.good_tables
        ready.indexed
        (ap (λ k. structs_of (tables_of F S) k) (ready.whole.structs ∙ sym (structs_long F S)))
        (record_fields F S ready.good_tables i ready.there))

    pub fields_unformed : (y : Refusal) → not b ≡ true → y ≡ refusal_at c 9 i → Answered F S c (struct_fields i) (Err y)
    unfolding stepping
    fields_unformed y f e = record { tells = λ W. answer_stops _ 9 i _ (fields_tested W ∙ not-true b f) (ap Err e) }

    module _ (f : not b ≡ false) (n : Bool) (en : n ≡ distinct_fields (struct_of (tables_of F S) i).fields) where
      pub fields_again : (y : Refusal) → not n ≡ true → y ≡ refusal_at c 7 i → Answered F S c (struct_fields i) (Err y)
      unfolding stepping
      fields_again y g e = record {
        tells = λ W. answer_passes _ 9 i _ (fields_tested W ∙ not-false b f) (answer_stops _ 7 i _ (sym en ∙ not-true n g) (ap Err e));
      }

      pub fields_distinct : (d : Context) → not n ≡ false → d ≡ with_step c → Answered F S c (struct_fields i) (Ok d)
      unfolding stepping
      fields_distinct d g e = record {
        tells = λ W. answer_passes _ 9 i _ (fields_tested W ∙ not-false b f)
            (answer_passes _ 7 i _ (sym en ∙ not-false n g) (answers_next _ (ap Ok e) refl));
      }
