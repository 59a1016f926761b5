-- The loop over the parameters of a function: what holds after i of them, and the answers of its returns. Assumes nothing.
use mathlib.Core.Path.{◌≡◌, refl, ap, sym, subst, ◌∙◌}
use mathlib.Core.Bool.{Bool, true, false, not}
use mathlib.Core.List.{List, [], ◌∷◌, ◌++◌, append-nil, append_assoc}
use Prim.Native.Nat.{ℕ, suc, ◌+◌, ◌*◌, ◌≤◌, ◌<◌}
use native.Mathlib.Omega.{arith}
use lib.ListN.{length, length-append}
use lib.Dec.{eqb}
use borrow.Author.Tests.{eqb-true, eqb-false, eq-eqb, ne_eqb, not-true, not-false}
use Rattle.oat.specs.Basics.{pick}
use Rattle.oat.specs.Tables.{Tables, entry_at, node_at}
use Rattle.oat.specs.Nodes.{ParametersStand}
use Rattle.typing_rules.specs.Contexts.{Scope, empty, binds, hit, is_miss, nearest, find, is_unbound}
use Rattle.typing_rules.specs.Steps.{is_among, distinct_names, parameters}
use Rattle.typing_rules.specs.Check.{parameter_rows}
use Rattle.file_sections.specs.declared.Sections.{Sections}
use Rattle.file_sections.specs.Layout.{Has, tables_of}
use Rattle.file_sections.specs.Frames.{ListAt}
use Rattle.file_sections.proofs.LawsRecords.{nodes_long}
use Rattle.file_sections.proofs.LawsFrames.{same_trans, same_refl, kept_none, list_none, list_from, list_row, list_append, list_kept}
use Rattle.bindings.specs.Bindings.{entry_of, scope_of, Scoped, Some, Freshness, Bindable, Bound}
use Rattle.bindings.proofs.LawsBindings.{scope_none, scope_bound}
use Rattle.answers.specs.Answers.{with_row}
use Rattle.expressions.specs.Contract.{Fine}
use Rattle.expressions.proofs.LawsAfter.{row_length, row_other, row-result, row_binder}
use Rattle.steps.specs.Contract.{ReadyParameters, BoundAll, ToldParameters}
use Rattle.steps.proofs.LawsRows.{parameters_count, parameters_more}

-- a name among others
among_middle : (x : ℕ) (l m : List ℕ) → is_among x (l ++ (x ∷ m)) ≡ true
unfolding is_among
among_middle x [] m = rw (eq-eqb x x refl)
among_middle x (y ∷ l) m = go (eqb y x) (among_middle x l m)
  where
    go : (b : Bool) → is_among x (l ++ (x ∷ m)) ≡ true → pick b true (is_among x (l ++ (x ∷ m))) ≡ true
    go true e = refl
    go false e = e

-- among one more
among_last : (x y : ℕ) (l : List ℕ) → is_among y (l ++ (x ∷ [])) ≡ pick (is_among y l) true (pick (eqb x y) true false)
unfolding is_among
among_last x y [] = refl
among_last x y (z ∷ l) = go (eqb z y) (is_among y l) (among_last x y l)
  where
    go : (b c : Bool) → is_among y (l ++ (x ∷ [])) ≡ pick c true (pick (eqb x y) true false)
        → pick b true (is_among y (l ++ (x ∷ []))) ≡ pick (pick b true c) true (pick (eqb x y) true false)
    go true c e = refl
    go false c e = e

-- names one of which stands again, and one more that is new
distinct_none : (x : ℕ) (l m : List ℕ) → is_among x l ≡ true → distinct_names (l ++ (x ∷ m)) ≡ false
unfolding is_among distinct_names
distinct_none x [] m e = absurd (let z : ◌≡◌ {A = ℕ} 0 1 = cc in omega arith)
distinct_none x (y ∷ l) m e = go (eqb y x) refl e (λ h. distinct_none x l m h)
  where
    both : (b : Bool) → pick b false false ≡ false
    both true = refl
    both false = refl

    go : (b : Bool) → eqb y x ≡ b → pick b true (is_among x l) ≡ true → (is_among x l ≡ true → distinct_names (l ++ (x ∷ m)) ≡ false)
        → pick (is_among y (l ++ (x ∷ m))) false (distinct_names (l ++ (x ∷ m))) ≡ false
    go true f h r = ap (λ b. pick b false (distinct_names (l ++ (x ∷ m)))) (ap (λ z. is_among z (l ++ (x ∷ m))) (eqb-true y x f) ∙ among_middle x l m)
    go false f h r = ap (pick (is_among y (l ++ (x ∷ m))) false) (r h) ∙ both (is_among y (l ++ (x ∷ m)))

neither : (b c : Bool) → pick b false c ≡ true → (b ≡ false) × (c ≡ true)
neither true c e = absurd (let z : ◌≡◌ {A = ℕ} 0 1 = cc in omega arith)
neither false c e = (refl, e)

none_of : (b c : Bool) → pick b true c ≡ false → (b ≡ false) × (c ≡ false)
none_of true c e = absurd (let z : ◌≡◌ {A = ℕ} 0 1 = cc in omega arith)
none_of false c e = (refl, e)

distinct_more : (x : ℕ) (l : List ℕ) → distinct_names l ≡ true → is_among x l ≡ false → distinct_names (l ++ (x ∷ [])) ≡ true
unfolding is_among distinct_names
distinct_more x [] d e = refl
distinct_more x (y ∷ l) d e =
    let (p, q) = neither (is_among y l) (distinct_names l) d in
    let (r, s) = none_of (eqb y x) (is_among x l) e in
    ap (λ b. pick b false (distinct_names (l ++ (x ∷ []))))
    (among_last x y l ∙ ap (λ b. pick b true (pick (eqb x y) true false)) p ∙ ap (λ b. pick b true false) (ne_eqb x y (λ z. eqb-false y x r (sym z))))
    ∙ distinct_more x l q s

-- a scope of parameters
unbound_parameters : (T : Tables) (x : ℕ) (Γ : Scope ℕ) (p m : ℕ) (l : List ℕ) → is_unbound x (parameters (λ a. a) T Γ p m l) ≡ pick (is_among x l) false (is_unbound x Γ)
unfolding is_among parameters nearest
unbound_parameters T x Γ p m [] = refl
unbound_parameters T x Γ p m (y ∷ l) = unbound_parameters T x (binds Γ y (entry_at T p) m) (suc p) (suc m) l ∙ go (is_among x l) (eqb y x)
  where
    go : (b c : Bool) → pick b false (is_miss (pick c (hit (entry_at T p) m) (find x Γ))) ≡ pick (pick c true b) false (is_unbound x Γ)
    go true true = refl
    go true false = refl
    go false true = refl
    go false false = refl

among_unbound : (T : Tables) (x p m : ℕ) (l : List ℕ) → is_unbound x (parameters (λ a. a) T empty p m l) ≡ not (is_among x l)
unfolding nearest
among_unbound T x p m l = unbound_parameters T x empty p m l ∙ go (is_among x l)
  where
    go : (b : Bool) → pick b false true ≡ not b
    go true = refl
    go false = refl

scope_parameters : (T : Tables) (x : ℕ) (Γ : Scope ℕ) (p m : ℕ) (l : List ℕ)
    → parameters (λ a. a) T Γ p m (l ++ (x ∷ [])) ≡ binds (parameters (λ a. a) T Γ p m l) x (entry_at T (p + length l)) (m + length l)
unfolding parameters
scope_parameters T x Γ p m [] =
    let e : p ≡ p + 0 = omega arith in
    let f : m ≡ m + 0 = omega arith in
    ap (λ i. binds Γ x (entry_at T i) m) e ∙ ap (binds Γ x (entry_at T (p + 0))) f
scope_parameters T x Γ p m (y ∷ l) =
    let e : suc p + length l ≡ p + suc (length l) = omega arith in
    let f : suc m + length l ≡ m + suc (length l) = omega arith in
    scope_parameters T x (binds Γ y (entry_at T p) m) (suc p) (suc m) l
    ∙ ap (λ i. binds (parameters (λ a. a) T (binds Γ y (entry_at T p) m) (suc p) (suc m) l) x (entry_at T i) (suc m + length l)) e
    ∙ ap (binds (parameters (λ a. a) T (binds Γ y (entry_at T p) m) (suc p) (suc m) l) x (entry_at T (p + suc (length l)))) f

-- parameters of which there is one; of which there is none
on_some : (P : List ℕ → Type 0) → ((x : ℕ) (l : List ℕ) → P (x ∷ l)) → (l : List ℕ) → 1 ≤ length l → P l
on_some P f [] h = absurd (omega arith)
on_some P f (x ∷ l) h = f x l

on_none : (P : List ℕ → Type 0) → P [] → (l : List ℕ) → length l ≤ 0 → P l
on_none P f [] h = f
on_none P f (x ∷ l) h = absurd (omega arith)

-- one parameter more is bound, and its row written
module _ {F : List ℕ} {S : Sections} {X : List ℕ} {base n first : ℕ} {R W R₁ W₁ K₁ W₂ K₂ : List ℕ} {l : List ℕ} (p : BoundAll F S X base n first l R W R₁ W₁ K₁) where
  bound_more : (x t : ℕ) → n + 1 + length l < S.nodes → (node_at (tables_of F S) (n + 1 + length l)).x ≡ x → t ≡ entry_at (tables_of F S) (first + length l)
      → Bound F S W₁ K₁ (base + length l) (n + 1 + length l) t W₂ K₂ → BoundAll F S X base n first (l ++ (x ∷ [])) R W (with_row R₁ (n + 1 + length l) t 65535) W₂ K₂
  bound_more x t h ex et b =
      let T : Tables = tables_of F S in
      let m : ℕ = n + 1 + length l in
      let R₂ : List ℕ = with_row R₁ m t 65535 in
      let one : length (l ++ (x ∷ [])) ≡ length l + 1 = length-append l (x ∷ []) in
      let high : base + length (l ++ (x ∷ [])) ≡ base + length l + 1 = omega (arith, one) in
      let wide : m * 2 + 1 < length R₁ = omega (arith, p.fine.rows_long, h) in
      let long = parameters_count T first l in
      let there : (n + 1) * 2 + length (parameter_rows T first l) ≡ m * 2 = omega (arith, long) in
      record {
        fine = record {
          good_tables = p.fine.good_tables;
          indexed = p.fine.indexed;
          rows_long = subst (λ k. S.nodes * 2 ≤ k) (sym (row_length R₁ m t 65535)) p.fine.rows_long;
          scoped = subst (λ k. Scoped F S W₂ K₂ k) (sym high) b.scoped;
          low = p.fine.low;
          above = omega arith;
        };
        scope = ap (λ k. scope_of T W₂ base k) high
            ∙ scope_bound base b (omega arith)
            ∙ ap (λ Γ. binds Γ (node_at T m).x t m) p.scope
            ∙ ap (λ y. binds (parameters (λ a. a) T empty first (n + 1) l) y t m) ex
            ∙ ap (λ u. binds (parameters (λ a. a) T empty first (n + 1) l) x u m) et
            ∙ sym (scope_parameters T x empty first (n + 1) l);
        same = same_trans (entry_of T base) (entry_of T (base + length l)) (omega arith) p.same b.same;
        rows = subst (λ k. ListAt R₂ ((n + 1) * 2) k) (sym (parameters_more T first x l))
            (list_append R₂ ((n + 1) * 2) (parameter_rows T first l) _
            (list_kept R₁ R₂ ((n + 1) * 2) (parameter_rows T first l) (λ j g k. row_other R₁ m t 65535 j (λ e. omega (arith, there)) (λ e. omega (arith, there))) p.rows)
            (list_from R₂ (m * 2) _ _ (sym there) (list_row R₂ (m * 2) _ 65535 [] (row-result R₁ m t 65535 wide ∙ et) (row_binder R₁ m t 65535 wide) (list_none R₂ (m * 2 + 2)))));
        kept = record {
          before = λ j g. row_other R₁ m t 65535 j (λ e. omega arith) (λ e. omega arith) ∙ p.kept.before j g;
          after = λ j g. row_other R₁ m t 65535 j (λ e. omega (arith, one)) (λ e. omega (arith, one)) ∙ p.kept.after j (omega (arith, one));
        };
      }

-- the first i parameters are distinct and bound; the others stand after them
pub record Prefix (F : List ℕ) (S : Sections) (X : List ℕ) (base n first i : ℕ) (R W R₁ W₁ K₁ : List ℕ) (ps : List ℕ) : Type 0 where
  pub those : List ℕ
  pub rest : List ℕ
  pub split : ps ≡ those ++ rest
  pub long : length those ≡ i
  pub distinct : distinct_names those ≡ true
  pub bound : BoundAll F S X base n first those R W R₁ W₁ K₁
  pub stand : ParametersStand (tables_of F S) (n + 1 + i) rest

pub record Walked (F : List ℕ) (S : Sections) (X : List ℕ) (base n first count i : ℕ) (R W R₁ W₁ K₁ : List ℕ) : Type 0 where
  pub part : (ps : List ℕ) → ParametersStand (tables_of F S) (n + 1) ps → length ps ≡ count → Prefix F S X base n first i R W R₁ W₁ K₁ ps

-- how many are left
left_over : {F : List ℕ} {S : Sections} {X : List ℕ} {base n first i : ℕ} {R W R₁ W₁ K₁ ps : List ℕ} (p : Prefix F S X base n first i R W R₁ W₁ K₁ ps)
    → i + length p.rest ≡ length ps
left_over p = omega (arith, p.long, length-append p.those p.rest, ap length p.split)

module _ {F : List ℕ} {S : Sections} {X R W K : List ℕ} {base n first count : ℕ} (g : ReadyParameters F S X R W K base n first count) where
  pub parameters_start : Walked F S X base n first count 0 R W R W K
  unfolding distinct_names parameters parameter_rows
  parameters_start =
      let low : base ≡ base + 0 = omega arith in
      let here : n + 1 ≡ n + 1 + 0 = omega arith in
      record {
        part = λ ps st c. record {
          those = [];
          rest = ps;
          split = refl;
          long = refl;
          distinct = refl;
          bound = record {
            fine = subst (λ k. Fine F S X R W K base k) low g.fine;
            scope = ap (λ k. scope_of (tables_of F S) W base k) (sym low) ∙ scope_none (tables_of F S) W base;
            same = same_refl (entry_of (tables_of F S) base) W;
            rows = list_none R ((n + 1) * 2);
            kept = kept_none ((n + 1) * 2) ((n + 1 + 0) * 2) R;
          };
          stand = subst (λ k. ParametersStand (tables_of F S) k ps) here st;
        };
      }

  module _ {i : ℕ} {R₁ W₁ K₁ : List ℕ} (w : Walked F S X base n first count i R W R₁ W₁ K₁) where
    so_far : Prefix F S X base n first i R W R₁ W₁ K₁ g.parameters
    so_far = w.part g.parameters g.stand g.counted

    fine_now : Fine F S X R₁ W₁ K₁ base (base + i)
    fine_now = subst (λ k. Fine F S X R₁ W₁ K₁ base (base + k)) so_far.long so_far.bound.fine

    -- for `is_fresh`
    pub parameter_some : Some F S W₁ K₁
    parameter_some = record { height = base + i; scoped = fine_now.scoped }

    module _ (more : i < count) where
      some_left : {ps : List ℕ} (p : Prefix F S X base n first i R W R₁ W₁ K₁ ps) → length ps ≡ count → 1 ≤ length p.rest
      some_left p c = omega (arith, left_over p, c, more)

      there : n + 1 + i < S.nodes
      there =
          on_some (λ l. ParametersStand (tables_of F S) (n + 1 + i) l → n + 1 + i < S.nodes) (λ x l st. subst (λ k. n + 1 + i < k) (nodes_long F S) st.0.within)
          so_far.rest (some_left so_far g.counted) so_far.stand

      -- for `node_x` and `list_entry`
      pub parameter_node : Has F S (n + 1 + i) S.nodes
      parameter_node = record { laid = g.fine.good_tables.laid; within = there }

      pub parameter_entry : Has F S (first + i) S.list
      parameter_entry = record { laid = g.fine.good_tables.laid; within = omega (arith, g.listed, more) }

      -- for `bind` and `row`
      module _ {t : ℕ} (et : t ≡ entry_at (tables_of F S) (first + i)) where
        typed : t < S.types
        typed = subst (λ k. k < S.types) (sym et) (g.types i more)

        pub parameter_bindable : Bindable F S W₁ K₁ (base + i) (n + 1 + i) t
        parameter_bindable = record {
          scoped = fine_now.scoped;
          low = omega (arith, g.fine.low);
          room = omega (arith, g.room, more);
          node_there = there;
          type_there = typed;
        }

        pub parameter_fits : ((n + 1 + i) * 2 + 1 < length R₁) × (n + 1 + i < 65536) × (t < 65536) × (65535 < 65536)
        parameter_fits =
            let laid = g.fine.good_tables.laid in
            (omega (arith, fine_now.rows_long, there), omega (arith, there, laid.nodes_most), omega (arith, typed, laid.types_most), omega arith)

      module _ {x₁ : ℕ} {b₁ : Bool} (ex : x₁ ≡ (node_at (tables_of F S) (n + 1 + i)).x) (fresh : Freshness F S W₁ K₁ base x₁ b₁) where
        among : (x : ℕ) {ps : List ℕ} (p : Prefix F S X base n first i R W R₁ W₁ K₁ ps) → (node_at (tables_of F S) (n + 1 + i)).x ≡ x → b₁ ≡ not (is_among x p.those)
        among x p e =
            fresh.tells (base + length p.those) p.bound.fine.scoped
            ∙ ap (λ Γ. is_unbound x₁ Γ) p.bound.scope
            ∙ ap (λ y. is_unbound y (parameters (λ a. a) (tables_of F S) empty first (n + 1) p.those)) (ex ∙ e)
            ∙ among_unbound (tables_of F S) x first (n + 1) p.those

        pub parameter_taken : not b₁ ≡ true → ToldParameters F S X base n first count R W R₁ W₁ K₁ false
        parameter_taken f = record {
          distinct = λ ps st c. sym (go ps (w.part ps st c) c);
          bound = λ ps st c e. absurd (let z : ◌≡◌ {A = ℕ} 0 1 = cc in omega arith);
        }
          where
            go : (ps : List ℕ) (p : Prefix F S X base n first i R W R₁ W₁ K₁ ps) → length ps ≡ count → distinct_names ps ≡ false
            go ps p c =
                on_some (λ l. ParametersStand (tables_of F S) (n + 1 + i) l → ps ≡ p.those ++ l → distinct_names ps ≡ false)
                (λ x l st e. ap distinct_names e ∙ distinct_none x p.those l (not-false (is_among x p.those) (sym (among x p st.0.x_is) ∙ not-true b₁ f)))
                p.rest (some_left p c) p.stand p.split

        pub parameter_again : {t : ℕ} {R₂ W₂ K₂ : List ℕ} → not b₁ ≡ false → t ≡ entry_at (tables_of F S) (first + i) → Bound F S W₁ K₁ (base + i) (n + 1 + i) t W₂ K₂
            → R₂ ≡ with_row R₁ (n + 1 + i) t 65535 → Walked F S X base n first count (i + 1) R W R₂ W₂ K₂
        parameter_again {t} {R₂} {W₂} {K₂} f et b e_r = record { part = λ ps st c. go ps (w.part ps st c) c }
          where
            next : {ps : List ℕ} (p : Prefix F S X base n first i R W R₁ W₁ K₁ ps) (x : ℕ) (l : List ℕ) → ParametersStand (tables_of F S) (n + 1 + i) (x ∷ l)
                → ps ≡ p.those ++ (x ∷ l) → Prefix F S X base n first (i + 1) R W R₂ W₂ K₂ ps
            next {ps} p x l st e =
                let one : length (p.those ++ (x ∷ [])) ≡ length p.those + 1 = length-append p.those (x ∷ []) in
                let here : n + 1 + i + 1 ≡ n + 1 + (i + 1) = omega arith in
                record {
                  those = p.those ++ (x ∷ []);
                  rest = l;
                  split = e ∙ sym (append_assoc p.those (x ∷ []) l);
                  long = omega (arith, one, p.long);
                  distinct = distinct_more x p.those p.distinct (not-true (is_among x p.those) (sym (among x p st.0.x_is) ∙ not-false b₁ f));
                  bound = subst (λ q. BoundAll F S X base n first (p.those ++ (x ∷ [])) R W q W₂ K₂) (ap (λ k. with_row R₁ (n + 1 + k) t 65535) p.long ∙ sym e_r)
                      (bound_more p.bound x t
                      (subst (λ k. n + 1 + k < S.nodes) (sym p.long) there)
                      (subst (λ k. (node_at (tables_of F S) (n + 1 + k)).x ≡ x) (sym p.long) st.0.x_is)
                      (subst (λ k. t ≡ entry_at (tables_of F S) (first + k)) (sym p.long) et)
                      (subst (λ k. Bound F S W₁ K₁ (base + k) (n + 1 + k) t W₂ K₂) (sym p.long) b));
                  stand = subst (λ k. ParametersStand (tables_of F S) k l) here st.1;
                }

            go : (ps : List ℕ) (p : Prefix F S X base n first i R W R₁ W₁ K₁ ps) → length ps ≡ count → Prefix F S X base n first (i + 1) R W R₂ W₂ K₂ ps
            go ps p c =
                on_some (λ l. ParametersStand (tables_of F S) (n + 1 + i) l → ps ≡ p.those ++ l → Prefix F S X base n first (i + 1) R W R₂ W₂ K₂ ps) (next p) p.rest
                (some_left p c) p.stand p.split

    pub parameters_done : count ≤ i → ToldParameters F S X base n first count R W R₁ W₁ K₁ true
    parameters_done h = record {
      distinct = λ ps st c. sym (ap distinct_names (all ps (w.part ps st c) c) ∙ (w.part ps st c).distinct);
      bound = λ ps st c e. subst (λ l. BoundAll F S X base n first l R W R₁ W₁ K₁) (sym (all ps (w.part ps st c) c)) (w.part ps st c).bound;
    }
      where
        all : (ps : List ℕ) (p : Prefix F S X base n first i R W R₁ W₁ K₁ ps) → length ps ≡ count → ps ≡ p.those
        all ps p c = p.split ∙ on_none (λ l. p.those ++ l ≡ p.those) (append-nil p.those) p.rest (omega (arith, left_over p, c, h))
