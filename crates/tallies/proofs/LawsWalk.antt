-- The pass over the nodes: a node more, a tree, all declarations. Assumes nothing.
use mathlib.Core.Path.{◌≡◌, refl, ap, ap₂, sym, subst, ◌∙◌}
use mathlib.Core.Bool.{Bool, true, false}
use mathlib.Core.List.{List, [], ◌∷◌, ◌++◌, append-nil}
use Prim.Native.Nat.{ℕ, ◌+◌, ◌*◌, ◌-◌, ◌≤◌, ◌<◌}
use native.Mathlib.Numerals.{add-one}
use native.Mathlib.Nat.{add-zero}
use native.Mathlib.Omega.{arith}
use lib.ListN.{length, get_or, set, take, length-set}
use lib.Seq.{get_or-set_same, get_or-set_other, take-suc-set, append_snoc}
use lib.Dec.{eqb}
use borrow.Author.Tests.{eqb-true, eqb-false}
use Rattle.oat.specs.Basics.{pick}
use Rattle.oat.specs.Tables.{Tables, node_at}
use Rattle.oat.specs.Syntax.{block, Decl, global, function, size_decl, size_decls}
use Rattle.oat.specs.Nodes.{DeclStands, is_expression_kind, is_expression}
use Rattle.file_sections.specs.declared.Sections.{Sections}
use Rattle.file_sections.specs.Layout.{tables_of}
use Rattle.file_sections.specs.Trees.{Tree as IsTree}
use Rattle.file_sections.proofs.LawsRecords.{types_long, nodes_long}
use Rattle.file_sections.proofs.LawsTrees.{decl_tree, Along, along_done}
use Rattle.type_index.specs.Index.{lowest_entry, Entered}
use Rattle.expressions.proofs.LawsShape.{size_one}
use Rattle.program_file.specs.Opened.{Declares, Passed}
use Rattle.program_file.proofs.LawsOpened.{passed_none, left_size, next_decl, none_left, passed_more}
use Rattle.tallies.specs.declared.walk.Tree.{Tree}
use Rattle.tallies.specs.Tallies.{count_below, count_from, lowest_equal, type_in_row, is_under, by_declaration}
use Rattle.tallies.specs.Walk.{ReadyWalk, CountedTo, ToldTree, ReadyTally, ToldTally}
use Rattle.tallies.proofs.LawsCounts.{count_more, most_counted, count_split}
use Rattle.tallies.proofs.LawsTallies.{lowest_most}

-- the kind of a node tells whether it is an expression
pub kind_tells : (T : Tables) (n k : ℕ) (b : Bool) → k ≡ (node_at T n).kind → b ≡ is_expression_kind k → is_expression T n ≡ b
unfolding is_expression
kind_tells T n k b e f = sym (f ∙ ap is_expression_kind e)

-- one more at k: what the other places have stays
count_set : (A : List ℕ) (k t : ℕ) → k < length A → get_or (set A k (get_or A k 0 + 1)) t 0 ≡ get_or A t 0 + pick (eqb k t) 1 0
count_set A k t h = go (eqb k t) refl
  where
    go : (b : Bool) → eqb k t ≡ b → get_or (set A k (get_or A k 0 + 1)) t 0 ≡ get_or A t 0 + pick b 1 0
    go true e =
        let at = eqb-true k t e in
        subst (λ j. get_or (set A k (get_or A k 0 + 1)) j 0 ≡ get_or A j 0 + 1) at (get_or-set_same A k (get_or A k 0 + 1) 0 h)
    go false e = get_or-set_other A k t (get_or A k 0 + 1) 0 (λ z. eqb-false k t e (sym z)) ∙ sym (add-zero (get_or A t 0))

-- a node that is no expression
pub counted_other : {T : Tables} {R : List ℕ} {n : ℕ} {A : List ℕ} → is_expression T n ≡ false → CountedTo T R n A → CountedTo T R (n + 1) A
counted_other {T} {R} {n} e c = record {
  long = c.long;
  each = λ t l.
      let none : is_under T R t n ≡ false = rw e refl in
      c.each t l ∙ sym (count_more n (is_under T R t) ∙ ap (λ b. count_below n (is_under T R t) + pick b 1 0) none ∙ add-zero _);
}

module _ {F : List ℕ} {S : Sections} {X R : List ℕ} (z : ReadyWalk F S X R) {n : ℕ} (h : n < S.nodes) where
  -- its row is there
  pub row_there : (2 * n < length R) × (n < 4096)
  row_there = (omega (arith, h, z.rows.long, nodes_long F S), omega (arith, h, z.good_tables.laid.nodes_most))

  -- an expression, whose row has the type t
  module _ (e : is_expression (tables_of F S) n ≡ true) {t : ℕ} (at : t ≡ type_in_row R n) where
    type_low : t < S.types
    type_low = omega (arith, at, types_long F S, z.rows.typed n (omega (arith, h, nodes_long F S)) e)

    pub type_entered : Entered X t
    type_entered = record { low = omega (arith, type_low, z.good_tables.laid.types_most); long = z.indexed.long }

    module _ {A : List ℕ} (c : CountedTo (tables_of F S) R n A) {k : ℕ} (low : k ≡ lowest_entry X t) where
      lowest_is : k ≡ lowest_equal (tables_of F S) t
      lowest_is = low ∙ z.indexed.lowest t type_low

      lowest_low : k < 512
      lowest_low = omega (arith, lowest_is, lowest_most (tables_of F S) t, type_low, z.good_tables.laid.types_most)

      pub count_low : (k < length A) × (get_or A k 0 < 65535)
      count_low =
          (omega (arith, c.long, lowest_low), omega (arith, c.each k lowest_low, most_counted n (is_under (tables_of F S) R k), h, z.good_tables.laid.nodes_most))

      pub counted_expression : {A' : List ℕ} → A' ≡ set A k (get_or A k 0 + 1) → CountedTo (tables_of F S) R (n + 1) A'
      counted_expression {A'} s = record {
        long = ap length s ∙ length-set A k _ ∙ c.long;
        each = λ u l.
            let under : is_under (tables_of F S) R u n ≡ eqb k u = rw (e, sym at, sym lowest_is) refl in
            ap (λ L. get_or L u 0) s
            ∙ count_set A k u count_low.0
            ∙ ap (λ i. i + pick (eqb k u) 1 0) (c.each u l)
            ∙ sym (count_more n (is_under (tables_of F S) R u) ∙ ap (λ b. count_below n (is_under (tables_of F S) R u) + pick b 1 0) under);
      }

-- the walk over the tree at `node` has come to `at`: so many expressions so far
pub record CountsAlong (T : Tables) (R : List ℕ) (node at expressions : ℕ) (A : List ℕ) : Type 0 where
  pub counted : CountedTo T R at A
  pub expressions_are : count_below at (is_expression T) ≡ count_below node (is_expression T) + expressions

pub counts_start : {T : Tables} {R : List ℕ} {node : ℕ} {A : List ℕ} → CountedTo T R node A → CountsAlong T R node node 0 A
counts_start c = record { counted = c; expressions_are = sym (add-zero _) }

pub counts_few : {T : Tables} {R : List ℕ} {node at expressions : ℕ} {A : List ℕ} → CountsAlong T R node at expressions A → expressions ≤ at
counts_few {T} {at = at} c = omega (arith, c.expressions_are, most_counted at (is_expression T))

pub counts_next : {T : Tables} {R : List ℕ} {node at expressions : ℕ} {A A' : List ℕ} {r : ℕ} → CountsAlong T R node at expressions A
    → r ≡ pick (is_expression T at) 1 0 → CountedTo T R (at + 1) A' → CountsAlong T R node (at + 1) (expressions + r) A'
counts_next {T} {at = at} a e c = record { counted = c; expressions_are = omega (arith, count_more at (is_expression T), a.expressions_are, e) }

pub counts_done : {F : List ℕ} {S : Sections} {R : List ℕ} {node at expressions left : ℕ} {A : List ℕ} {r : Tree} → Along (tables_of F S) node at left → left ≤ 0
    → CountsAlong (tables_of F S) R node at expressions A → r ≡ record { past = at; expressions = expressions } → ToldTree F S R node A r
counts_done {F} {S} {R} {node} {at} {expressions} {left} {A} along h c e =
    subst (λ r. ToldTree F S R node A r) (sym e)
    (record { past = along_done F S node at left along h; counted = c.counted; expressions = c.expressions_are })

-- a declaration has at least two nodes
decl_some : (d : Decl) → 2 ≤ size_decl d
decl_some (global x a) = omega (arith, size_one a)
decl_some (function x t ps (block ss)) = omega arith

pub two_each : (ds : List Decl) → 2 * length ds ≤ size_decls ds
two_each [] = omega arith
two_each (d ∷ ds) = omega (arith, decl_some d, two_each ds)

-- the walk has come to `node`, and the `count` declarations before it are counted in B
pub record Reached (T : Tables) (ds : List Decl) (node count : ℕ) (B : List ℕ) : Type 0 where
  pub passed : Passed ds node
  pub number : count + length passed.left ≡ length ds
  pub few : 2 * count ≤ node
  pub counted : by_declaration T 0 ds ≡ take count B ++ by_declaration T node passed.left

pub record TallyAlong (F : List ℕ) (S : Sections) (R : List ℕ) (node count : ℕ) (A B : List ℕ) : Type 0 where
  pub counted : CountedTo (tables_of F S) R node A
  pub long : length B ≡ 2048
  pub at : (ds : List Decl) → Declares F S ds → Reached (tables_of F S) ds node count B

pub tally_start : {F : List ℕ} {S : Sections} {X R A B : List ℕ} → ReadyTally F S X R A B → TallyAlong F S R 0 0 A B
tally_start z = record {
  counted = z.counted;
  long = z.long;
  at = λ ds d. record { passed = passed_none ds; number = omega arith; few = omega arith; counted = refl };
}

module _ {F : List ℕ} {S : Sections} {X R A₀ B₀ : List ℕ} (z : ReadyTally F S X R A₀ B₀) {node count : ℕ} {A B : List ℕ} (a : TallyAlong F S R node count A B) where
  ours : Reached (tables_of F S) z.declarations node count B
  ours = a.at z.declarations z.declares

  nodes_most : S.nodes ≤ 4096
  nodes_most = z.ready.good_tables.laid.nodes_most

  -- a declaration is next
  module _ (h : node < S.nodes) where
    pub tally_tree : IsTree F S node
    tally_tree =
        next_decl z.declares ours.passed h λ d rest e s.
        record { laid = z.ready.good_tables.laid; end = node + size_decl d; tree = decl_tree (tables_of F S) node d s }

    pub tally_low : count < length B
    tally_low = omega (arith, a.long, ours.few, h, nodes_most)

    module _ {A' : List ℕ} {t : Tree} (told : ToldTree F S R node A' t) where
      past_is : (d : Decl) → DeclStands (tables_of F S) node d → t.past ≡ node + size_decl d
      past_is d s = told.past.ends (node + size_decl d) (decl_tree (tables_of F S) node d s)

      past_within : (node < t.past) × (t.past ≤ S.nodes)
      past_within =
          next_decl z.declares ours.passed h λ d rest e s.
          let at = past_is d s in
          (omega (arith, at, decl_some d), omega (arith, at, left_size z.declares ours.passed, ap size_decls e))

      pub tally_fits : t.expressions < 65536
      tally_fits = omega (arith, told.expressions, most_counted t.past (is_expression (tables_of F S)), past_within.1, nodes_most)

      pub tally_falls : S.nodes - t.past < S.nodes - node
      tally_falls = omega (arith, past_within.0, h)

      -- what the tree has is what the definition counts in the declaration
      tree_counts : (d : Decl) → t.past ≡ node + size_decl d → t.expressions ≡ count_from node (size_decl d) (is_expression (tables_of F S))
      tree_counts d at =
          omega (arith, told.expressions, ap (λ n. count_below n (is_expression (tables_of F S))) at, count_split node (size_decl d) (is_expression (tables_of F S)))

      pub tally_next : {B' : List ℕ} → B' ≡ set B count t.expressions → TallyAlong F S R t.past (count + 1) A' B'
      unfolding by_declaration
      tally_next {B'} e = record {
        counted = told.counted;
        long = ap length e ∙ length-set B count _ ∙ a.long;
        at = λ ds D.
            let l = a.at ds D in
            next_decl D l.passed h λ d rest q s.
            let at = past_is d s in
            let taken : take (count + 1) B' ≡ take count B ++ (t.expressions ∷ []) =
            ap (take (count + 1)) e ∙ rw add-one (take-suc-set B count t.expressions tally_low) in
            record {
              passed = passed_more l.passed d rest q at;
              number = omega (arith, l.number, ap length q);
              few = omega (arith, at, decl_some d, l.few);
              counted =
                  l.counted
                  ∙ ap (λ ds. take count B ++ by_declaration (tables_of F S) node ds) q
                  ∙ ap (λ k. take count B ++ (k ∷ by_declaration (tables_of F S) (node + size_decl d) rest)) (sym (tree_counts d at))
                  ∙ sym (append_snoc (take count B) t.expressions (by_declaration (tables_of F S) (node + size_decl d) rest))
                  ∙ ap₂ (λ L m. L ++ by_declaration (tables_of F S) m rest) (sym taken) (sym at);
            };
      }

  -- none is left
  pub tally_done : S.nodes ≤ node → ToldTally F S R A B count
  unfolding by_declaration
  tally_done h =
      let all = left_size z.declares ours.passed in
      record {
        counted = subst (λ n. CountedTo (tables_of F S) R n A) (omega (arith, h, all)) a.counted;
        long = a.long;
        few = omega (arith, ours.few, all, nodes_most);
        tells = λ ds D.
            let l = a.at ds D in
            let none = none_left D l.passed h in
            (omega (arith, l.number, ap length none), sym (l.counted ∙ ap (λ ds. take count B ++ by_declaration (tables_of F S) node ds) none ∙ append-nil (take count B)));
      }
