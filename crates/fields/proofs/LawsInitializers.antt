-- The initializers of a literal, one after another, each at the node after the value before it: the loops that look for names among
-- them. Assumes nothing.
use mathlib.Core.Path.{◌≡◌, refl, ap, sym, subst, ◌∙◌}
use mathlib.Core.Bool.{Bool, true, false}
use mathlib.Core.List.{List}
use Prim.Native.Nat.{ℕ, zero, suc, ◌+◌, ◌≤◌, ◌<◌}
use native.Mathlib.Numerals.{add-one}
use native.Mathlib.Nat.{not-suc-le-zero, le_of_suc-le-suc}
use native.Mathlib.Omega.{arith}
use lib.Dec.{eqb, ltb}
use borrow.Author.Tests.{eq-eqb, ne_eqb, lt-ltb}
use borrow.Author.Count.{below_more}
use Rattle.oat.specs.Basics.{pick, tabulate}
use Rattle.oat.specs.Tables.{node_at, field_at, struct_at}
use Rattle.oat.specs.Types.{Field, struct_of}
use Rattle.oat.specs.Syntax.{Expr, Inits, no_init, init, count_inits, size}
use Rattle.oat.specs.Nodes.{InitsStand}
use Rattle.oat.proofs.LawsBasics.{and_left, and_right}
use Rattle.typing_rules.specs.Rules.{named_times}
use Rattle.file_sections.specs.declared.Sections.{Sections}
use Rattle.file_sections.specs.Layout.{Laid, tables_of}
use Rattle.file_sections.specs.Trees.{Tree, Past}
use Rattle.file_sections.proofs.LawsRecords.{nodes_long}
use Rattle.file_sections.proofs.LawsTrees.{expr_tree}
use Rattle.fields.specs.Literal.{is_named, all_named, Initializers, OfInitializers}

-- the initializers after the first i
unfoldable pub after : ℕ → Inits → Inits
after zero is = is
after (suc i) no_init = no_init
after (suc i) (init x a is) = after i is

after_next : (i : ℕ) (is : Inits) → i < count_inits is → (x : ℕ) × (a : Expr) × (after i is ≡ init x a (after (suc i) is))
unfolding after
after_next i no_init h = absurd (not-suc-le-zero h)
after_next zero (init x a is) h = (x, a, refl)
after_next (suc i) (init x a is) h = after_next i is (omega arith)

-- names among them are names among all
after_named : (x i : ℕ) (is : Inits) → named_times x (after i is) ≤ named_times x is
unfolding after named_times
after_named x zero is = omega arith
after_named x (suc i) no_init = omega arith
after_named x (suc i) (init y a is) = omega (arith, after_named x i is)

after_all : (i : ℕ) (is : Inits) → count_inits is ≤ i → after i is ≡ no_init
unfolding after
after_all zero no_init h = refl
after_all (suc i) no_init h = refl
after_all zero (init x a is) h = absurd (omega arith)
after_all (suc i) (init x a is) h = after_all i is (omega arith)

-- at the node `at`, where those after the first i stand
module _ (F : List ℕ) (S : Sections) (at i : ℕ) (is : Inits) (d : InitsStand (tables_of F S) at (after i is)) (h : i < count_inits is) where
  here : InitsStand (tables_of F S) at (init (after_next i is h).0 (after_next i is h).1 (after (suc i) is))
  here = subst (InitsStand (tables_of F S) at) (after_next i is h).2 d

  here_within : at < S.nodes
  here_within = omega (arith, here.0.within, nodes_long F S)

  here_tree : Laid F S → Tree F S (at + 1)
  here_tree L = record { laid = L; end = at + 1 + size (after_next i is h).1; tree = expr_tree (tables_of F S) (at + 1) (after_next i is h).1 here.1 }

  here_next : (next : ℕ) → Past F S (at + 1) next → InitsStand (tables_of F S) next (after (i + 1) is)
  here_next next P =
      rw
      (add-one i, P.ends (at + 1 + size (after_next i is h).1) (expr_tree (tables_of F S) (at + 1) (after_next i is h).1 here.1))
      here.2

  here_times : (x : ℕ) → named_times x (after i is) ≡ pick (eqb (node_at (tables_of F S) at).x x) 1 0 + named_times x (after (i + 1) is)
  unfolding named_times
  here_times x = rw ((after_next i is h).2, here.0.x_is, add-one i) refl

-- whichever initializers stand at a node, those after the first i stand at the node `at`
pub record Reached (F : List ℕ) (S : Sections) (node count at i : ℕ) : Type 0 where
  pub rest : OfInitializers F S node count (λ is. InitsStand (tables_of F S) at (after i is))

module _ (F : List ℕ) (S : Sections) (node count : ℕ) where
  pub reached_first : Reached F S node count node 0
  unfolding after
  reached_first = record { rest = record { holds = λ is d e. d } }

  module _ (at i : ℕ) (R : Reached F S node count at i) (h : i < count) where
    pub reached_within : Initializers F S node count → at < S.nodes
    reached_within I = here_within F S at i I.inits (R.rest.holds I.inits I.stand I.counted) (rw I.counted h)

    pub reached_tree : Initializers F S node count → Tree F S (at + 1)
    reached_tree I = here_tree F S at i I.inits (R.rest.holds I.inits I.stand I.counted) (rw I.counted h) I.laid

    pub reached_next : (next : ℕ) → Past F S (at + 1) next → Reached F S node count next (i + 1)
    reached_next next P = record { rest = record { holds = λ is d e. here_next F S at i is (R.rest.holds is d e) (rw e h) next P } }

    -- the name there, and how often it stands from there on
    reached_times : (x : ℕ) (b : Bool) → eqb (node_at (tables_of F S) at).x x ≡ b → OfInitializers F S node count (λ is. named_times x (after i is) ≡ pick b 1 0 + named_times x (after (i + 1) is))
    reached_times x b l = record {
      holds = λ is d e. here_times F S at i is (R.rest.holds is d e) (rw e h) x ∙ ap (λ c. pick c 1 0 + named_times x (after (i + 1) is)) l;
    }

    reached_named : (x y : ℕ) → y ≡ (node_at (tables_of F S) at).x → y ≡ x → OfInitializers F S node count (λ is. is_named x is ≡ true)
    unfolding is_named
    reached_named x y ey e = record {
      holds = λ is d c. lt-ltb 0 (named_times x is)
          (omega (arith, after_named x i is, (reached_times x true (eq-eqb (node_at (tables_of F S) at).x x (sym ey ∙ e))).holds is d c));
    }

-- the loop that looks for a name: none of the initializers passed has it
pub record Unnamed (F : List ℕ) (S : Sections) (node count x i : ℕ) : Type 0 where
  pub times : OfInitializers F S node count (λ is. named_times x is ≡ named_times x (after i is))

module _ (F : List ℕ) (S : Sections) (node count x : ℕ) where
  pub none_passed : Unnamed F S node count x 0
  unfolding after
  none_passed = record { times = record { holds = λ is d e. refl } }

  module _ (at i y : ℕ) (R : Reached F S node count at i) (h : i < count) (ey : y ≡ (node_at (tables_of F S) at).x) where
    pub name_found : y ≡ x → OfInitializers F S node count (λ is. true ≡ is_named x is)
    name_found e = record { holds = λ is d c. sym ((reached_named F S node count at i R h x y ey e).holds is d c) }

    pub name_passed : Unnamed F S node count x i → (y ≡ x → ⊥) → Unnamed F S node count x (i + 1)
    name_passed U f = record {
      times = record {
        holds = λ is d c. omega (arith, U.times.holds is d c, (reached_times F S node count at i R h x false (ne_eqb (node_at (tables_of F S) at).x x (λ e. f (ey ∙ e)))).holds is d c);
      };
    }

  pub no_name : (i : ℕ) → Unnamed F S node count x i → i ≤ count → count ≤ i → OfInitializers F S node count (λ is. false ≡ is_named x is)
  unfolding is_named named_times
  no_name i U h k = record { holds = λ is d c. sym (ap (ltb 0) (U.times.holds is d c ∙ ap (named_times x) (after_all i is (omega arith)))) }

-- the loop over the fields: those passed are named
named_all : (n : ℕ) (g : ℕ → Field) (is : Inits) → ((j : ℕ) → j < n → is_named (g j).name is ≡ true) → all_named (tabulate n g) is ≡ true
unfolding all_named tabulate
named_all zero g is f = refl
named_all (suc n) g is f = rw (f 0 (omega arith), named_all n (λ j. g (suc j)) is (λ j h. f (suc j) (omega arith)))

not_named : (n : ℕ) (g : ℕ → Field) (is : Inits) (j : ℕ) → j < n → is_named (g j).name is ≡ false → all_named (tabulate n g) is ≡ false
unfolding all_named tabulate
not_named zero g is j h e = absurd (not-suc-le-zero h)
not_named (suc n) g is zero h e = and_left (is_named (g 0).name is) _ e
not_named (suc n) g is (suc j) h e = and_right (is_named (g 0).name is) _ (not_named n (λ j. g (suc j)) is j (le_of_suc-le-suc h) e)

pub record NamedTo (F : List ℕ) (S : Sections) (node count first i : ℕ) : Type 0 where
  pub named : OfInitializers F S node count (λ is. (j : ℕ) → j < i → is_named (field_at (tables_of F S) (first + j)).name is ≡ true)

module _ (F : List ℕ) (S : Sections) (node count first : ℕ) where
  pub named_none : NamedTo F S node count first 0
  named_none = record { named = record { holds = λ is d e j h. absurd (not-suc-le-zero h) } }

  module _ (i x : ℕ) (ex : x ≡ (field_at (tables_of F S) (first + i)).name) where
    named_more : NamedTo F S node count first i → OfInitializers F S node count (λ is. is_named x is ≡ true) → NamedTo F S node count first (i + 1)
    named_more N O = record {
      named = record {
        holds = λ is d e. below_more
            (λ j. is_named (field_at (tables_of F S) (first + j)).name is ≡ true)
            i
            (N.named.holds is d e)
            (ap (λ y. is_named y is) (sym ex) ∙ O.holds is d e);
      };
    }

    pub named_here : (at y : ℕ) → Reached F S node count at i → i < count → y ≡ (node_at (tables_of F S) at).x → y ≡ x → NamedTo F S node count first i → NamedTo F S node count first (i + 1)
    named_here at y R h ey e N = named_more N (reached_named F S node count at i R h x y ey e)

    pub named_there : (b : Bool) → OfInitializers F S node count (λ is. b ≡ is_named x is) → b ≡ true → NamedTo F S node count first i → NamedTo F S node count first (i + 1)
    named_there b O e N = named_more N (record { holds = λ is d c. sym (O.holds is d c) ∙ e })

    pub not_all_named : (r : ℕ) (b : Bool) → first ≡ (struct_at (tables_of F S) r).first → count ≡ (struct_at (tables_of F S) r).count → i < count
        → OfInitializers F S node count (λ is. b ≡ is_named x is) → b ≡ false
        → OfInitializers F S node count (λ is. false ≡ all_named (struct_of (tables_of F S) r).fields is)
    unfolding struct_of
    not_all_named r b ef ec h O e = record {
      holds = λ is d c. sym
          (not_named
          (struct_at (tables_of F S) r).count
          _
          is
          i
          (omega arith)
          (ap (λ k. is_named (field_at (tables_of F S) (k + i)).name is) (sym ef) ∙ ap (λ y. is_named y is) (sym ex) ∙ sym (O.holds is d c) ∙ e));
    }

  pub all_are_named : (r i : ℕ) → first ≡ (struct_at (tables_of F S) r).first → count ≡ (struct_at (tables_of F S) r).count → i ≤ count → count ≤ i
      → NamedTo F S node count first i → OfInitializers F S node count (λ is. true ≡ all_named (struct_of (tables_of F S) r).fields is)
  unfolding struct_of
  all_are_named r i ef ec h k N = record {
    holds = λ is d c. sym
        (named_all
        (struct_at (tables_of F S) r).count
        _
        is
        (λ j l. ap (λ k. is_named (field_at (tables_of F S) (k + j)).name is) (sym ef) ∙ N.named.holds is d c j (omega arith)));
  }
