-- Nodes by their place in the file: what is read there, where the children of a node end, and the declarations. Assumes nothing.
use mathlib.Core.Path.{◌≡◌, refl, sym, ◌∙◌, ap}
use mathlib.Core.Bool.{Bool, true, false, not, ◌&&◌, ◌||◌}
use mathlib.Core.List.{List}
use Rattle.std.specs.Prelude.{Option, None, Some}
use Prim.Native.Nat.{ℕ, ◌+◌, ◌-◌, ◌*◌, ◌<◌, ◌≤◌}
use native.Mathlib.Omega.{arith}
use lib.ListN.{length, get_or}
use lib.Dec.{eqb, ltb}
use borrow.Author.Tests.{not-true, not-false, eqb-true, ltb-true, lt-ltb}
use Rattle.oat.specs.Basics.{pick}
use Rattle.oat.specs.Tables.{type_at, node_at}
use Rattle.oat.specs.TypeRules.{kind_at}
use Rattle.oat.specs.TableRules.{has_kind}
use Rattle.oat.proofs.LawsBasics.{and_parts}
use Rattle.file_sections.specs.declared.Sections.{Sections}
use Rattle.file_sections.specs.Numbers.{number_at}
use Rattle.file_sections.specs.Layout.{Laid, tables_of}
use Rattle.file_sections.specs.Layout.{records_at, type_from, node_from}
use Rattle.file_sections.proofs.LawsRecords.{types_long, nodes_long}
use Rattle.oat.specs.Tables.{TypeRecord, NodeRecord}
use Rattle.oat.proofs.LawsBasics.{tabulate_at}
use Rattle.node_tree.specs.Shape.{admits, x_fits, t_fits, params_of, count_fits, child_role}
use Rattle.node_tree.specs.Tree.{Ending, Broken, At, node_fits, node_right, children_of, tree_of, trees_right}
use Rattle.node_tree.specs.Demands.{bit_of, stands_as, plain_for, kind_or, TypeFits, Keeps}
use Rattle.node_tree.specs.Places.{Spot, Standing, Whole, kind_for, RightAt, PlainAt, place_of, Ends}
use Rattle.node_tree.specs.declared.demands.Demand.{Demand}
use Rattle.node_tree.specs.declared.shape.Role.{Role}
use Rattle.node_tree.specs.declared.shape.Role.TheVariants.{Declaration}
use Rattle.node_tree.proofs.LawsTree.{x_wrong, t_wrong, count_is, below_of, tree_none, tree_wrong, tree_right, tree_past, tree_ends, no_child_yet, children_end, children_broken, children_next, children_last, Left, none_left_out, trees_end, trees_broken, trees_next, fewer_left}

-- a place among the nodes has a node
pub whole : (s : List ℕ) (types at : ℕ) → Standing s types at → at * 2 < length s → Whole s types at
whole s types at w h =
    let p = w.spot in
    let l = p.laid in
    record {
      standing = w;
      four = omega (arith, p.place, l.end);
      before =
          omega (arith, p.counted, l.end, l.list_at, l.fields_at, l.structs_at, l.built_ins_at, l.nodes_at);
    }

-- a place is small
pub place_small : {s : List ℕ} {types at : ℕ} → Standing s types at → at < 65536
place_small w =
    let p = w.spot in
    let l = p.laid in
    omega (arith, p.place, p.within, l.list_at, l.fields_at, l.structs_at, l.built_ins_at, l.nodes_at, l.types_most, l.list_most, l.fields_most, l.structs_most, l.built_ins_most, l.nodes_most)

-- a record of a section, by the numbers that it is read from
record_is : {A : Type 0} (from : (ℕ → ℕ) → A) (size : ℕ) (s : List ℕ) (at count i : ℕ) (d : A) → i < count → get_or (records_at from size s at count) i d ≡ from (λ j. number_at s (at + i * size + j))
unfolding records_at
record_is from size s at count i d h = tabulate_at _ _ i d h

type_is : (s : List ℕ) (S : Sections) (i : ℕ) → i < S.types → type_at (tables_of s S) i ≡ type_from (λ j. number_at s (1 + i * 4 + j))
unfolding tables_of
type_is s S i h = record_is type_from 4 s 1 S.types i _ h

node_is : (s : List ℕ) (S : Sections) (i : ℕ) → i < S.nodes → node_at (tables_of s S) i ≡ node_from (λ j. number_at s (S.nodes_at + i * 4 + j))
unfolding tables_of
node_is s S i h = record_is node_from 4 s S.nodes_at S.nodes i _ h

-- the numbers of a node
module _ (s : List ℕ) (types at : ℕ) (four : (at + 3) * 2 + 1 < length s) (S : Sections) (n : ℕ) (p : Spot s types at S n) where
  there : n < S.nodes
  there = omega (arith, p.place, p.laid.end)

  -- its record, by its place
  here : node_at (tables_of s S) n ≡ node_from (λ j. number_at s (at + j))
  here = node_is s S n there ∙ ap (λ (m : ℕ). node_from (λ j. number_at s (m + j))) (sym p.place)

  kind_is : (k : ℕ) → k ≡ number_at s at → k ≡ (node_at (tables_of s S) n).kind
  kind_is k e = e ∙ ap (number_at s) (omega arith) ∙ sym (ap (λ (r : NodeRecord). r.kind) here)

  x_is : (x : ℕ) → x ≡ number_at s (at + 1) → x ≡ (node_at (tables_of s S) n).x
  x_is x e = e ∙ sym (ap (λ (r : NodeRecord). r.x) here)

  t_is : (t : ℕ) → t ≡ number_at s (at + 2) → t ≡ (node_at (tables_of s S) n).t
  t_is t e = e ∙ sym (ap (λ (r : NodeRecord). r.t) here)

  children_are : (m : ℕ) → m ≡ number_at s (at + 3) → m ≡ (node_at (tables_of s S) n).children
  children_are m e = e ∙ sym (ap (λ (r : NodeRecord). r.children) here)

  -- the node is right where it may stand and fits
  right_is : (c : Bool) (role : Role) (k : ℕ) → k ≡ number_at s at → (a b : Bool) → a ≡ admits c role k → b ≡ node_fits (tables_of s S) n → (a && b) ≡ node_right (tables_of s S) c role n
  unfolding node_right
  right_is c role k ek a b ea eb = rw (nodes_long, lt-ltb n S.nodes there, ← kind_is k ek, ← ea, ← eb)

-- the kind of a type, and a function's parameters
module _ (s : List ℕ) (types at : ℕ) (S : Sections) (n : ℕ) (p : Spot s types at S n) where
  kind_told : (t r : ℕ) → r ≡ kind_for s types t → r ≡ kind_or (tables_of s S) t
  unfolding kind_for kind_or
  kind_told t r e = e ∙ rw (p.counted, types_long) (go (ltb t S.types) refl)
    where
      go : (b : Bool) → ltb t S.types ≡ b → pick b (number_at s (1 + t * 4)) 65536 ≡ pick b (kind_at (tables_of s S) t) 65536
      go true h = ap (number_at s) (omega arith) ∙ sym (ap (λ (r : TypeRecord). r.kind) (type_is s S t (ltb-true t S.types h)))
      go false h = refl

  -- a function's type is one of the file
  function_type : (k t : ℕ) → t_fits (tables_of s S) k t ≡ true → k ≡ 2 → t < S.types
  unfolding t_fits has_kind
  function_type k t e z =
      let f = rw (z, types_long) at e in
      ltb-true t S.types (and_parts (ltb t S.types) (eqb (kind_at (tables_of s S) t) 6) f).0

  params_told : (k t q : ℕ) → t_fits (tables_of s S) k t ≡ true → q ≡ pick (eqb k 2) (number_at s (1 + t * 4 + 3)) 0 → q ≡ params_of (tables_of s S) k t
  unfolding params_of
  params_told k t q f e = e ∙ go (eqb k 2) refl
    where
      go : (b : Bool) → eqb k 2 ≡ b → pick b (number_at s (1 + t * 4 + 3)) 0 ≡ pick b (type_at (tables_of s S) t).c 0
      go true h =
          sym (ap (λ (r : TypeRecord). r.c) (type_is s S t (function_type k t f (eqb-true k 2 h))))
      go false h = refl

-- a function's type is one of the file, by the code's numbers
pub function_typed : (s : List ℕ) (types at k t kind : ℕ) (d : Bool) → Whole s types at → kind ≡ kind_for s types t → TypeFits k t kind d → d ≡ true → k ≡ 2 → t < types
function_typed s types at k t kind d w er ed h e =
    let q = w.standing in
    let f = ed.is (tables_of s q.sections) (kind_told s types at q.sections q.node q.spot t kind er) in
    let l = function_type s types at q.sections q.node q.spot k t (sym f ∙ h) e in
    omega (arith, q.spot.counted)

-- the node at a place is right, by its code
module _ (s : List ℕ) (types at : ℕ) (c : Bool) (role : Role) (w : Whole s types at) (k : ℕ) (ek : k ≡ number_at s at) (a : Bool) (ea : a ≡ admits c role k) where
  pub right_not_admitted : a ≡ false → RightAt s types at c role false
  right_not_admitted h = record {
    is =
        λ S n p. ap (λ (b : Bool). b && node_fits (tables_of s S) n) (sym h) ∙ right_is s types at w.four S n p c role k ek a (node_fits (tables_of s S) n) ea refl;
  }

  module _ (ha : a ≡ true) where
    fits_right : (r : Bool) → ((S : Sections) (n : ℕ) → Spot s types at S n → r ≡ node_fits (tables_of s S) n) → RightAt s types at c role r
    fits_right r f = record {
      is =
          λ S n p. ap (λ (b : Bool). b && r) (sym ha) ∙ right_is s types at w.four S n p c role k ek a r ea (f S n p);
    }

    module _ (x : ℕ) (ex : x ≡ number_at s (at + 1)) (b : Bool) (eb : b ≡ x_fits k x) where
      pub right_x_wrong : b ≡ false → RightAt s types at c role false
      right_x_wrong h =
          fits_right false (λ S n p. x_wrong (tables_of s S) n k x b (kind_is s types at w.four S n p k ek) (x_is s types at w.four S n p x ex) eb h)

      module _ (hb : b ≡ true) (t kind : ℕ) (et : t ≡ number_at s (at + 2)) (er : kind ≡ kind_for s types t) (d : Bool) (ed : TypeFits k t kind d) where
        t_told : (S : Sections) (n : ℕ) → Spot s types at S n → d ≡ t_fits (tables_of s S) k t
        t_told S n p = ed.is (tables_of s S) (kind_told s types at S n p t kind er)

        pub right_t_wrong : d ≡ false → RightAt s types at c role false
        right_t_wrong h =
            fits_right false
            (λ S n p. t_wrong (tables_of s S) n k x b (kind_is s types at w.four S n p k ek) (x_is s types at w.four S n p x ex) eb hb t d (t_is s types at w.four S n p t et) (t_told S n p) h)

        pub right_count : d ≡ true → (q m : ℕ) (r : Bool) → m ≡ number_at s (at + 3) → q ≡ pick (eqb k 2) (number_at s (1 + t * 4 + 3)) 0 → r ≡ count_fits k q m → RightAt s types at c role r
        right_count h q m r em eq er =
            fits_right r
            (λ S n p. count_is (tables_of s S) n k x b (kind_is s types at w.four S n p k ek) (x_is s types at w.four S n p x ex) eb hb t d (t_is s types at w.four S n p t et) (t_told S n p) h q m r (children_are s types at w.four S n p m em) (params_told s types at S n p k t q (sym (t_told S n p) ∙ h) eq) er)

-- a plain node is right
pub plain_not : (s : List ℕ) (types at bit : ℕ) → PlainAt s types at bit false
plain_not s types at bit = record { right = λ e. let z : ◌≡◌ {A = ℕ} 0 1 = cc in absurd (omega arith) }

all_true : (a b d : Bool) → a ≡ true → b ≡ true → d ≡ true → (a && b && d) ≡ true
all_true a b d ea eb ed = rw (ea, eb, ed)

module _ (s : List ℕ) (types at bit : ℕ) (w : Whole s types at) (k x t m kind : ℕ) (ek : k ≡ number_at s at) (ex : x ≡ number_at s (at + 1)) (et : t ≡ number_at s (at + 2)) (em : m ≡ number_at s (at + 3)) (er : kind ≡ kind_for s types t) (most : kind < 65537) where
  pub plain_right : (d : Demand) (a r : Bool) → Keeps k d → a ≡ stands_as d bit → not a ≡ false → r ≡ plain_for d x t kind m → PlainAt s types at bit r
  unfolding node_fits
  plain_right d a r g ea ha e = record {
    right =
        λ h c role eb S n p.
        let (z, fx, ft, fc) = g.right (tables_of s S) c role x t kind m (kind_told s types at S n p t kind er) most (ap (stands_as d) (sym eb) ∙ sym ea ∙ not-false a ha) (sym e ∙ h) in
        sym (right_is s types at w.four S n p c role k ek (admits c role k) (node_fits (tables_of s S) n) refl refl)
        ∙ rw (z, ← kind_is s types at w.four S n p k ek, ← x_is s types at w.four S n p x ex, ← t_is s types at w.four S n p t et, ← children_are s types at w.four S n p m em)
        (all_true (x_fits k x) (t_fits (tables_of s S) k t) (count_fits k (params_of (tables_of s S) k t) m) fx ft (fc (params_of (tables_of s S) k t)));
  }

module _ (s : List ℕ) (types at : ℕ) (c : Bool) (role : Role) where
  pub right_plain : (bit : ℕ) (b : Bool) → PlainAt s types at bit b → b ≡ true → bit ≡ bit_of c role → RightAt s types at c role true
  right_plain bit b g h e = record { is = λ S n p. sym (g.right h c role e S n p) }

  pub right_role : (other : Role) (b : Bool) → other ≡ role → RightAt s types at c other b → RightAt s types at c role b
  right_role other b e g = rw (← e) g

-- where the children of a node end: c, kind and count are those of the node, from whose children the loop has come to the child i of a node of the kind k;
-- the children of that one, m in all, at most l deep, from there on end where all of the first node do
pub record SoFar (s : List ℕ) (types kind : ℕ) (c : Bool) (count first levels k : ℕ) (d : Bool) (m l i at : ℕ) : Type 0 where
  pub standing : Standing s types at
  pub same : (S : Sections) (n : ℕ) → Spot s types first S n → (j : ℕ) × Spot s types at S j × (children_of (tree_of l (tables_of s S) d) (child_role k m) (m - i) i j ≡ children_of (tree_of levels (tables_of s S) c) (child_role kind count) count 0 n)

-- the node after one without children
after : (s : List ℕ) (types at : ℕ) → Whole s types at → (S : Sections) (n : ℕ) → Spot s types at S n → Spot s types (at + 4) S (n + 1)
after s types at w S n p = record {
  laid = p.laid;
  counted = p.counted;
  place = omega (arith, p.place);
  within = omega (arith, there s types at w.four S n p);
}

pub standing_after : (s : List ℕ) (types at : ℕ) → Whole s types at → Standing s types (at + 4)
standing_after s types at w =
    let q = w.standing in
    record { sections = q.sections; node = q.node + 1; spot = after s types at w q.sections q.node q.spot }

-- an ending that has no place is broken, and any other is a node
ends_nowhere : (S : Sections) (o : Ending) → None ≡ place_of S o → o ≡ Broken
ends_nowhere S Broken e = refl
ends_nowhere S (At n) e = cc

ends_there : (S : Sections) (o : Ending) (r : ℕ) → Some r ≡ place_of S o → (m : ℕ) × (o ≡ At m) × (r ≡ S.nodes_at + m * 4)
ends_there S Broken r e = cc
ends_there S (At n) r e = (n, refl, cc)

-- the tree at a place: its node is right, and the node's children end at `next`
module _ (s : List ℕ) (types at : ℕ) (c : Bool) (role : Role) (levels : ℕ) (w : Whole s types at) (some : levels ≡ 0 → ⊥) (b : Bool) (right : RightAt s types at c role b) (hb : not b ≡ false) (m : ℕ) (em : m ≡ number_at s (at + 3)) where
  below_is : (S : Sections) (n : ℕ) → Spot s types at S n → below_of (levels - 1) (tables_of s S) c n ≡ tree_of levels (tables_of s S) c role n
  below_is S n p = tree_right levels (tables_of s S) c role n some (sym (right.is S n p) ∙ not-false b hb)

  leaf_tree : m ≡ 0 → (S : Sections) (n : ℕ) → Spot s types at S n → tree_of levels (tables_of s S) c role n ≡ At (n + 1)
  unfolding children_of
  leaf_tree z S n p =
      let e : (node_at (tables_of s S) n).children ≡ 0 = sym (children_are s types at w.four S n p m em) ∙ z in
      sym (below_is S n p) ∙ rw e

  module _ (k : ℕ) (ek : k ≡ number_at s at) (d : Bool) (ed : d ≡ (c || eqb k 1)) (o : Option ℕ) (ends : Ends s types k d m (at + 4) (levels - 1) o) where
    inner_tree : (S : Sections) (n : ℕ) → Spot s types at S n → o ≡ place_of S (tree_of levels (tables_of s S) c role n)
    inner_tree S n p =
        ends.is S (n + 1) (after s types at w S n p)
        ∙ rw (ed, kind_is s types at w.four S n p k ek, children_are s types at w.four S n p m em) (ap (place_of S) (below_is S n p))

    inner_broken : o ≡ None → (S : Sections) (n : ℕ) → Spot s types at S n → tree_of levels (tables_of s S) c role n ≡ Broken
    inner_broken z S n p =
        ends_nowhere S (tree_of levels (tables_of s S) c role n) (sym z ∙ inner_tree S n p)

    inner_ends : (next : ℕ) → o ≡ Some next → (S : Sections) (n : ℕ) → Spot s types at S n → (j : ℕ) × Spot s types next S j × (tree_of levels (tables_of s S) c role n ≡ At j)
    inner_ends next z S n p =
        let (j, e, f) = ends_there S (tree_of levels (tables_of s S) c role n) next (sym z ∙ inner_tree S n p) in
        let (past, among) = tree_ends levels (tables_of s S) c role n j e in
        (j, record { laid = p.laid; counted = p.counted; place = f; within = omega (arith, nodes_long s S) }, e)

-- the next child decides
module _ (s : List ℕ) (types kind : ℕ) (c : Bool) (count first levels k : ℕ) (d : Bool) (m l i at : ℕ) (so : SoFar s types kind c count first levels k d m l i at) (h : i < m) where
  child_broken : ((S : Sections) (j : ℕ) → Spot s types at S j → tree_of l (tables_of s S) d (child_role k m i) j ≡ Broken) → Ends s types kind c count first levels None
  child_broken f = record {
    is =
        λ S n p.
        let (j, q, e) = so.same S n p in
        ap (place_of S) (children_broken (tree_of l (tables_of s S) d) (child_role k m) m _ i j e h (tree_of l (tables_of s S) d (child_role k m i) j) refl (f S j q));
  }

  child_next : (next : ℕ) → ((S : Sections) (j : ℕ) → Spot s types at S j → (x : ℕ) × Spot s types next S x × (tree_of l (tables_of s S) d (child_role k m i) j ≡ At x)) → SoFar s types kind c count first levels k d m l (i + 1) next
  child_next next f = record {
    standing =
        let q = so.standing in
        let (x, r, e) = f q.sections q.node q.spot in
        record { sections = q.sections; node = x; spot = r };
    same =
        λ S n p.
        let (j, q, e) = so.same S n p in
        let (x, r, g) = f S j q in
        (x, r, children_next (tree_of l (tables_of s S) d) (child_role k m) m _ i j e h (tree_of l (tables_of s S) d (child_role k m i) j) refl x g);
  }

  pub child_no_level : l ≡ 0 → Ends s types kind c count first levels None
  child_no_level z = child_broken (λ S j p. sym (tree_none l (tables_of s S) d (child_role k m i) j z))

  pub child_past : length s ≤ at * 2 → Ends s types kind c count first levels None
  child_past e =
      child_broken (λ S j p. sym (tree_past l s S d (child_role k m i) j (omega (arith, p.place, p.laid.end))))

  module _ (b : Bool) (right : RightAt s types at d (child_role k m i) b) where
    pub child_wrong : not b ≡ true → Ends s types kind c count first levels None
    child_wrong e =
        child_broken
        (λ S j p. sym (tree_wrong l (tables_of s S) d (child_role k m i) j (sym (right.is S j p) ∙ not-true b e)))

    module _ (hb : not b ≡ false) (w : Whole s types at) (some : l ≡ 0 → ⊥) (inner : ℕ) (ei : inner ≡ number_at s (at + 3)) where
      pub child_leaf : inner ≡ 0 → (r x : ℕ) → r ≡ at + 4 → x ≡ i + 1 → SoFar s types kind c count first levels k d m l x r
      child_leaf z r x e ex =
          rw (e, ex)
          (child_next (at + 4)
          λ S j p. (j + 1, after s types at w S j p, leaf_tree s types at d (child_role k m i) l w some b right hb inner ei z S j p))

      module _ (below : ℕ) (ek : below ≡ number_at s at) (f : Bool) (ef : f ≡ (d || eqb below 1)) where
        -- the last child: where its children end, all do
        pub child_last : i + 1 ≡ m → (deep r : ℕ) → deep ≡ l - 1 → r ≡ at + 4 → SoFar s types kind c count first levels below f inner deep 0 r
        child_last e deep r ed er = record {
          standing = rw er (standing_after s types at w);
          same =
              λ S n p.
              let (j, q, g) = so.same S n p in
              let last = children_last (tree_of l (tables_of s S) d) (child_role k m) m _ i j g h (tree_of l (tables_of s S) d (child_role k m i) j) refl e in
              (j + 1, rw er (after s types at w S j q), goes_on S j q ∙ last);
        }
          where
            goes_on : (S : Sections) (j : ℕ) → Spot s types at S j → children_of (tree_of deep (tables_of s S) f) (child_role below inner) (inner - 0) 0 (j + 1) ≡ tree_of l (tables_of s S) d (child_role k m i) j
            goes_on S j q =
                no_child_yet (tree_of deep (tables_of s S) f) (child_role below inner) inner (j + 1)
                ∙ rw (ed, ef, kind_is s types at w.four S j q below ek, children_are s types at w.four S j q inner ei)
                (below_is s types at d (child_role k m i) l w some b right hb inner ei S j q)

        module _ (o : Option ℕ) (ends : Ends s types below f inner (at + 4) (l - 1) o) where
          pub child_inner_broken : o ≡ None → Ends s types kind c count first levels None
          child_inner_broken z =
              child_broken (λ S j p. inner_broken s types at d (child_role k m i) l w some b right hb inner ei below ek f ef o ends z S j p)

          pub child_inner : (r x : ℕ) → o ≡ Some r → x ≡ i + 1 → SoFar s types kind c count first levels k d m l x r
          child_inner r x z ex =
              rw ex
              (child_next r
              λ S j p. inner_ends s types at d (child_role k m i) l w some b right hb inner ei below ek f ef o ends r z S j p)

          -- less of the file is left
          pub child_fewer : (next : ℕ) → o ≡ Some next → at < next
          child_fewer next z =
              let q = so.standing in
              let (x, p, e) = inner_ends s types at d (child_role k m i) l w some b right hb inner ei below ek f ef o ends next z q.sections q.node q.spot in
              let (past, among) = tree_ends l (tables_of s q.sections) d (child_role k m i) q.node x e in
              omega (arith, p.place, q.spot.place)

pub children_done : (s : List ℕ) (types kind : ℕ) (c : Bool) (count first levels k : ℕ) (d : Bool) (m l i at : ℕ) → SoFar s types kind c count first levels k d m l i at → i ≤ m → m ≤ i → Ends s types kind c count first levels (Some at)
children_done s types kind c count first levels k d m l i at so a b = record {
  is =
      λ S n p.
      let (j, q, e) = so.same S n p in
      ap Some q.place ∙ ap (place_of S) (children_end (tree_of l (tables_of s S) d) (child_role k m) m _ i j e a b);
}

-- a declaration has children
pub declaration_some : (s : List ℕ) (types at : ℕ) (c : Bool) (w : Whole s types at) (b : Bool) → RightAt s types at c Declaration b → not b ≡ false → (m : ℕ) → m ≡ number_at s (at + 3) → 0 < m
unfolding node_right node_fits admits count_fits
declaration_some s types at c w b right hb m em =
    let q = w.standing in
    let T = tables_of s q.sections in
    let e = sym (right.is q.sections q.node q.spot) ∙ not-false b hb in
    let (front, fits) = and_parts (ltb q.node (length T.nodes) && admits c Declaration (node_at T q.node).kind) (node_fits T q.node) e in
    let (there, admitted) = and_parts (ltb q.node (length T.nodes)) (admits c Declaration (node_at T q.node).kind) front in
    let (operands, counts) = and_parts (x_fits (node_at T q.node).kind (node_at T q.node).x && t_fits T (node_at T q.node).kind (node_at T q.node).t) (count_fits (node_at T q.node).kind (params_of T (node_at T q.node).kind (node_at T q.node).t) (node_at T q.node).children) fits in
    rw (children_are s types at w.four q.sections q.node q.spot m em)
    (go (node_at T q.node).kind (params_of T (node_at T q.node).kind (node_at T q.node).t) (node_at T q.node).children admitted counts)
  where
    two : (k p n : ℕ) → (b : Bool) → eqb k 2 ≡ b → b ≡ true → count_fits k p n ≡ true → 0 < n
    two k p n true e f g =
        let h : eqb n (p + 1) ≡ true = rw (eqb-true k 2 e) at g in
        omega (arith, eqb-true n (p + 1) h)
    two k p n false e f g = let z : ◌≡◌ {A = ℕ} 0 1 = cc in absurd (omega arith)

    one : (k p n : ℕ) → (b : Bool) → eqb k 1 ≡ b → (b || eqb k 2) ≡ true → count_fits k p n ≡ true → 0 < n
    one k p n true e f g =
        let h : eqb n 1 ≡ true = rw (eqb-true k 1 e) at g in
        omega (arith, eqb-true n 1 h)
    one k p n false e f g = two k p n (eqb k 2) refl f g

    go : (k p n : ℕ) → (eqb k 1 || eqb k 2) ≡ true → count_fits k p n ≡ true → 0 < n
    go k p n a g = one k p n (eqb k 1) refl a g

-- the declarations before the place `at` are right: those from there on decide
pub record LeftAt (depth : ℕ) (s : List ℕ) (S : Sections) (at : ℕ) : Type 0 where
  pub node : ℕ
  pub spot : Spot s S.types at S node
  pub left : Left depth (tables_of s S) node

pub none_before : (depth : ℕ) (s : List ℕ) (S : Sections) → Laid s S → LeftAt depth s S S.nodes_at
none_before depth s S l = record {
  node = 0;
  spot = record { laid = l; counted = refl; place = omega arith; within = omega arith };
  left = none_left_out depth (tables_of s S);
}

pub left_standing : (depth : ℕ) (s : List ℕ) (S : Sections) (at : ℕ) → LeftAt depth s S at → Standing s S.types at
left_standing depth s S at g = record { sections = S; node = g.node; spot = g.spot }

module _ (depth : ℕ) (s : List ℕ) (S : Sections) (at : ℕ) (g : LeftAt depth s S at) where
  pub left_none : length s ≤ at * 2 → true ≡ trees_right depth (tables_of s S)
  left_none h = trees_end depth s S g.node g.left (omega (arith, g.spot.place, g.spot.laid.end))

  module _ (h : at * 2 < length s) where
    among : g.node < S.nodes
    among = omega (arith, g.spot.place, g.spot.laid.end)

    left_broken : tree_of depth (tables_of s S) false Declaration g.node ≡ Broken → false ≡ trees_right depth (tables_of s S)
    left_broken = trees_broken depth s S g.node g.left (tree_of depth (tables_of s S) false Declaration g.node) among refl

    pub left_no_level : depth ≡ 0 → false ≡ trees_right depth (tables_of s S)
    left_no_level z = left_broken (sym (tree_none depth (tables_of s S) false Declaration g.node z))

    module _ (b : Bool) (right : RightAt s S.types at false Declaration b) where
      pub left_wrong : not b ≡ true → false ≡ trees_right depth (tables_of s S)
      left_wrong w =
          left_broken (sym (tree_wrong depth (tables_of s S) false Declaration g.node (sym (right.is S g.node g.spot) ∙ not-true b w)))

      module _ (hb : not b ≡ false) (w : Whole s S.types at) (some : depth ≡ 0 → ⊥) (m : ℕ) (em : m ≡ number_at s (at + 3)) (k : ℕ) (ek : k ≡ number_at s at) (d : Bool) (ed : d ≡ (false || eqb k 1)) (o : Option ℕ) (ends : Ends s S.types k d m (at + 4) (depth - 1) o) where
        pub left_inner_broken : o ≡ None → false ≡ trees_right depth (tables_of s S)
        left_inner_broken z =
            left_broken (inner_broken s S.types at false Declaration depth w some b right hb m em k ek d ed o ends z S g.node g.spot)

        pub left_next : (next : ℕ) → o ≡ Some next → LeftAt depth s S next
        left_next next z =
            let (j, p, e) = inner_ends s S.types at false Declaration depth w some b right hb m em k ek d ed o ends next z S g.node g.spot in
            record {
              node = j;
              spot = p;
              left = trees_next depth s S g.node g.left (tree_of depth (tables_of s S) false Declaration g.node) among refl j e;
            }

        pub left_fewer : (next : ℕ) → o ≡ Some next → length s - next * 2 < length s - at * 2
        left_fewer next z =
            let (j, p, e) = inner_ends s S.types at false Declaration depth w some b right hb m em k ek d ed o ends next z S g.node g.spot in
            let f = fewer_left depth s S g.node g.left (tree_of depth (tables_of s S) false Declaration g.node) among refl j e in
            omega (arith, p.place, g.spot.place, g.spot.laid.end)
