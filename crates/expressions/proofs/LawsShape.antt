-- An expression by the kind of its node: which constructor it has, its kind's range, a literal's type; and the nodes it takes up, which
-- are all in the section. Assumes nothing.
use mathlib.Core.Path.{◌≡◌, refl, sym, ◌∙◌, subst}
use Prim.Native.Nat.{ℕ, ◌+◌, ◌≤◌, ◌<◌}
use native.Mathlib.Omega.{arith}
use lib.ListN.{length}
use lib.Dec.{eqb, leb}
use borrow.Author.Tests.{ne_eqb, le-leb}
use Rattle.oat.specs.Basics.{pick}
use Rattle.oat.specs.Tables.{Tables, node_at}
use Rattle.oat.specs.Syntax.{Literal, truth, falsity, integer, text, Expr, null, literal, name, array_literal, default_array, array_with, index, length_of, struct_literal, field, call, unary, binary, Exprs, none, also, Inits, no_init, init, size, sizes, size_inits}
use Rattle.oat.specs.Nodes.{LiteralStands, Stands, StandAll, InitsStand}
use Rattle.typing_rules.specs.Operators.{literal_type}
use Rattle.answers.specs.Answers.{literal_kind}

-- the kind of a literal and of an expression
abbrev pub kind_of_literal : Literal → ℕ
kind_of_literal truth = 11
kind_of_literal falsity = 12
kind_of_literal (integer x) = 13
kind_of_literal (text x) = 14

abbrev pub kind_of : Expr → ℕ
kind_of (null t) = 10
kind_of (literal l) = kind_of_literal l
kind_of (name x) = 15
kind_of (array_literal t es) = 16
kind_of (default_array t a) = 17
kind_of (array_with t x a b) = 18
kind_of (index a b) = 19
kind_of (length_of a) = 20
kind_of (struct_literal t is) = 21
kind_of (field x a) = 23
kind_of (call a es) = 24
kind_of (unary x a) = 25
kind_of (binary x a b) = 26

-- what an expression of the kind k is
abbrev Is : ℕ → Expr → Type 0
Is k e =
    pick (eqb k 10) ((t : ℕ) × (e ≡ null t))
    (pick (leb k 14) ((l : Literal) × (e ≡ literal l))
    (pick (eqb k 15) ((x : ℕ) × (e ≡ name x))
    (pick (eqb k 16) ((t : ℕ) × (es : Exprs) × (e ≡ array_literal t es))
    (pick (eqb k 17) ((t : ℕ) × (a : Expr) × (e ≡ default_array t a))
    (pick (eqb k 18) ((t x : ℕ) × (a b : Expr) × (e ≡ array_with t x a b))
    (pick (eqb k 19) ((a b : Expr) × (e ≡ index a b))
    (pick (eqb k 20) ((a : Expr) × (e ≡ length_of a))
    (pick (eqb k 21) ((t : ℕ) × (is : Inits) × (e ≡ struct_literal t is))
    (pick (eqb k 23) ((x : ℕ) × (a : Expr) × (e ≡ field x a))
    (pick (eqb k 24) ((a : Expr) × (es : Exprs) × (e ≡ call a es))
    (pick (eqb k 25) ((x : ℕ) × (a : Expr) × (e ≡ unary x a))
    ((x : ℕ) × (a b : Expr) × (e ≡ binary x a b)))))))))))))

view : (e : Expr) → Is (kind_of e) e
view (null t) = (t, refl)
view (literal truth) = (truth, refl)
view (literal falsity) = (falsity, refl)
view (literal (integer x)) = (integer x, refl)
view (literal (text x)) = (text x, refl)
view (name x) = (x, refl)
view (array_literal t es) = (t, es, refl)
view (default_array t a) = (t, a, refl)
view (array_with t x a b) = (t, x, a, b, refl)
view (index a b) = (a, b, refl)
view (length_of a) = (a, refl)
view (struct_literal t is) = (t, is, refl)
view (field x a) = (x, a, refl)
view (call a es) = (a, es, refl)
view (unary x a) = (x, a, refl)
view (binary x a b) = (x, a, b, refl)

pub literal-kind : (T : Tables) (n : ℕ) (l : Literal) → LiteralStands T n l → (node_at T n).kind ≡ kind_of_literal l
literal-kind T n truth h = h.kind_is
literal-kind T n falsity h = h.kind_is
literal-kind T n (integer x) h = h.kind_is
literal-kind T n (text x) h = h.kind_is

kind_stands : (T : Tables) (n : ℕ) (e : Expr) → Stands T n e → (node_at T n).kind ≡ kind_of e
kind_stands T n (null t) h = h.0.kind_is
kind_stands T n (literal l) h = literal-kind T n l h
kind_stands T n (name x) h = h.kind_is
kind_stands T n (array_literal t es) h = h.0.kind_is
kind_stands T n (default_array t a) h = h.0.kind_is
kind_stands T n (array_with t x a b) h = h.0.kind_is
kind_stands T n (index a b) h = h.0.kind_is
kind_stands T n (length_of a) h = h.0.kind_is
kind_stands T n (struct_literal t is) h = h.0.kind_is
kind_stands T n (field x a) h = h.0.kind_is
kind_stands T n (call a es) h = h.0.kind_is
kind_stands T n (unary x a) h = h.0.kind_is
kind_stands T n (binary x a b) h = h.0.kind_is

-- the expression at a node whose kind is read
seen : (T : Tables) (n k : ℕ) (e : Expr) → Stands T n e → (node_at T n).kind ≡ k → Is k e
seen T n k e h f = subst (λ (j : ℕ). Is j e) (sym (kind_stands T n e h) ∙ f) (view e)

module _ {T : Tables} {n : ℕ} where
  pub on_null : (P : Expr → Type 0) → ((t : ℕ) → Stands T n (null t) → P (null t))
      → (node_at T n).kind ≡ 10 → (e : Expr) → Stands T n e → P e
  on_null P f k e h =
      let (t, v) = seen T n 10 e h k in
      subst P (sym v) (f t (subst (Stands T n) v h))

  pub on_name : (P : Expr → Type 0) → ((x : ℕ) → Stands T n (name x) → P (name x))
      → (node_at T n).kind ≡ 15 → (e : Expr) → Stands T n e → P e
  on_name P f k e h =
      let (x, v) = seen T n 15 e h k in
      subst P (sym v) (f x (subst (Stands T n) v h))

  pub on-array : (P : Expr → Type 0) → ((t : ℕ) (es : Exprs) → Stands T n (array_literal t es) → P (array_literal t es))
      → (node_at T n).kind ≡ 16 → (e : Expr) → Stands T n e → P e
  on-array P f k e h =
      let (t, es, v) = seen T n 16 e h k in
      subst P (sym v) (f t es (subst (Stands T n) v h))

  pub on_default : (P : Expr → Type 0) → ((t : ℕ) (a : Expr) → Stands T n (default_array t a) → P (default_array t a))
      → (node_at T n).kind ≡ 17 → (e : Expr) → Stands T n e → P e
  on_default P f k e h =
      let (t, a, v) = seen T n 17 e h k in
      subst P (sym v) (f t a (subst (Stands T n) v h))

  pub on_filled : (P : Expr → Type 0) → ((t x : ℕ) (a b : Expr) → Stands T n (array_with t x a b) → P (array_with t x a b))
      → (node_at T n).kind ≡ 18 → (e : Expr) → Stands T n e → P e
  on_filled P f k e h =
      let (t, x, a, b, v) = seen T n 18 e h k in
      subst P (sym v) (f t x a b (subst (Stands T n) v h))

  pub on_index : (P : Expr → Type 0) → ((a b : Expr) → Stands T n (index a b) → P (index a b))
      → (node_at T n).kind ≡ 19 → (e : Expr) → Stands T n e → P e
  on_index P f k e h =
      let (a, b, v) = seen T n 19 e h k in
      subst P (sym v) (f a b (subst (Stands T n) v h))

  pub on_length : (P : Expr → Type 0) → ((a : Expr) → Stands T n (length_of a) → P (length_of a))
      → (node_at T n).kind ≡ 20 → (e : Expr) → Stands T n e → P e
  on_length P f k e h =
      let (a, v) = seen T n 20 e h k in
      subst P (sym v) (f a (subst (Stands T n) v h))

  pub at_struct : (P : Expr → Type 0) → ((t : ℕ) (is : Inits) → Stands T n (struct_literal t is) → P (struct_literal t is))
      → (node_at T n).kind ≡ 21 → (e : Expr) → Stands T n e → P e
  at_struct P f k e h =
      let (t, is, v) = seen T n 21 e h k in
      subst P (sym v) (f t is (subst (Stands T n) v h))

  pub on_field : (P : Expr → Type 0) → ((x : ℕ) (a : Expr) → Stands T n (field x a) → P (field x a))
      → (node_at T n).kind ≡ 23 → (e : Expr) → Stands T n e → P e
  on_field P f k e h =
      let (x, a, v) = seen T n 23 e h k in
      subst P (sym v) (f x a (subst (Stands T n) v h))

  pub on_call : (P : Expr → Type 0) → ((a : Expr) (es : Exprs) → Stands T n (call a es) → P (call a es))
      → (node_at T n).kind ≡ 24 → (e : Expr) → Stands T n e → P e
  on_call P f k e h =
      let (a, es, v) = seen T n 24 e h k in
      subst P (sym v) (f a es (subst (Stands T n) v h))

  pub on_unary : (P : Expr → Type 0) → ((x : ℕ) (a : Expr) → Stands T n (unary x a) → P (unary x a))
      → (node_at T n).kind ≡ 25 → (e : Expr) → Stands T n e → P e
  on_unary P f k e h =
      let (x, a, v) = seen T n 25 e h k in
      subst P (sym v) (f x a (subst (Stands T n) v h))

  pub on_binary : (P : Expr → Type 0) → ((x : ℕ) (a b : Expr) → Stands T n (binary x a b) → P (binary x a b))
      → (node_at T n).kind ≡ 26 → (e : Expr) → Stands T n e → P e
  on_binary P f k e h =
      let (x, a, b, v) = seen T n 26 e h k in
      subst P (sym v) (f x a b (subst (Stands T n) v h))

-- a literal's kind is one of four
is_literal : (k : ℕ) (e : Expr) → 11 ≤ k → k ≤ 14 → Is k e → (l : Literal) × (e ≡ literal l)
is_literal k e a b h = rw (ne_eqb k 10 (λ z. omega arith), le-leb k 14 b) at h

pub on_literal : {T : Tables} {n : ℕ} (P : Expr → Type 0) → ((l : Literal) → Stands T n (literal l) → P (literal l))
    → 11 ≤ (node_at T n).kind → (node_at T n).kind ≤ 14 → (e : Expr) → Stands T n e → P e
on_literal {T} {n} P f a b e h =
    let (l, v) = is_literal (node_at T n).kind e a b (seen T n (node_at T n).kind e h refl) in
    subst P (sym v) (f l (subst (Stands T n) v h))

-- the kinds of expressions
kind_bounds : (e : Expr) → (10 ≤ kind_of e) × (kind_of e ≤ 26) × (kind_of e ≡ 22 → ⊥)
kind_bounds (null t) = (omega arith, omega arith, λ z. omega arith)
kind_bounds (literal truth) = (omega arith, omega arith, λ z. omega arith)
kind_bounds (literal falsity) = (omega arith, omega arith, λ z. omega arith)
kind_bounds (literal (integer x)) = (omega arith, omega arith, λ z. omega arith)
kind_bounds (literal (text x)) = (omega arith, omega arith, λ z. omega arith)
kind_bounds (name x) = (omega arith, omega arith, λ z. omega arith)
kind_bounds (array_literal t es) = (omega arith, omega arith, λ z. omega arith)
kind_bounds (default_array t a) = (omega arith, omega arith, λ z. omega arith)
kind_bounds (array_with t x a b) = (omega arith, omega arith, λ z. omega arith)
kind_bounds (index a b) = (omega arith, omega arith, λ z. omega arith)
kind_bounds (length_of a) = (omega arith, omega arith, λ z. omega arith)
kind_bounds (struct_literal t is) = (omega arith, omega arith, λ z. omega arith)
kind_bounds (field x a) = (omega arith, omega arith, λ z. omega arith)
kind_bounds (call a es) = (omega arith, omega arith, λ z. omega arith)
kind_bounds (unary x a) = (omega arith, omega arith, λ z. omega arith)
kind_bounds (binary x a b) = (omega arith, omega arith, λ z. omega arith)

pub expr_kind : (T : Tables) (n : ℕ) (e : Expr) → Stands T n e → (10 ≤ (node_at T n).kind) × ((node_at T n).kind ≤ 26) × ((node_at T n).kind ≡ 22 → ⊥)
expr_kind T n e h = rw (kind_stands T n e h) (kind_bounds e)

kind_type : (l : Literal) → literal_kind (kind_of_literal l) ≡ literal_type l
kind_type truth = refl
kind_type falsity = refl
kind_type (integer x) = refl
kind_type (text x) = refl

pub literal-type : (T : Tables) (n : ℕ) (l : Literal) → LiteralStands T n l → literal_kind (node_at T n).kind ≡ literal_type l
literal-type T n l h = rw (literal-kind T n l h) (kind_type l)

-- sizes
pub size_one : (e : Expr) → 1 ≤ size e
size_one (null t) = omega arith
size_one (literal l) = omega arith
size_one (name x) = omega arith
size_one (array_literal t es) = omega arith
size_one (default_array t a) = omega arith
size_one (array_with t x a b) = omega arith
size_one (index a b) = omega arith
size_one (length_of a) = omega arith
size_one (struct_literal t is) = omega arith
size_one (field x a) = omega arith
size_one (call a es) = omega arith
size_one (unary x a) = omega arith
size_one (binary x a b) = omega arith

module _ (T : Tables) where
  literal_within : (n : ℕ) (l : Literal) → LiteralStands T n l → n < length T.nodes
  literal_within n truth h = h.within
  literal_within n falsity h = h.within
  literal_within n (integer x) h = h.within
  literal_within n (text x) h = h.within

  pub stands_within : (n : ℕ) (e : Expr) → Stands T n e → n < length T.nodes
  stands_within n (null t) h = h.0.within
  stands_within n (literal l) h = literal_within n l h
  stands_within n (name x) h = h.within
  stands_within n (array_literal t es) h = h.0.within
  stands_within n (default_array t a) h = h.0.within
  stands_within n (array_with t x a b) h = h.0.within
  stands_within n (index a b) h = h.0.within
  stands_within n (length_of a) h = h.0.within
  stands_within n (struct_literal t is) h = h.0.within
  stands_within n (field x a) h = h.0.within
  stands_within n (call a es) h = h.0.within
  stands_within n (unary x a) h = h.0.within
  stands_within n (binary x a b) h = h.0.within

  -- the nodes of a tree are all in the section
  mutual
    pub stands_end : (n : ℕ) (e : Expr) → Stands T n e → n + size e ≤ length T.nodes
    stands_end n (null t) h = omega (arith, h.0.within)
    stands_end n (literal l) h = omega (arith, literal_within n l h)
    stands_end n (name x) h = omega (arith, h.within)
    stands_end n (array_literal t es) h = omega (arith, list_end (n + 1) es h.2 (omega (arith, h.0.within)))
    stands_end n (default_array t a) h = omega (arith, stands_end (n + 1) a h.2)
    stands_end n (array_with t x a b) h = omega (arith, stands_end (n + 1 + size a) b h.3)
    stands_end n (index a b) h = omega (arith, stands_end (n + 1 + size a) b h.2)
    stands_end n (length_of a) h = omega (arith, stands_end (n + 1) a h.1)
    stands_end n (struct_literal t is) h = omega (arith, inits_end (n + 1) is h.2 (omega (arith, h.0.within)))
    stands_end n (field x a) h = omega (arith, stands_end (n + 1) a h.1)
    stands_end n (call a es) h = omega (arith, list_end (n + 1 + size a) es h.2 (stands_end (n + 1) a h.1))
    stands_end n (unary x a) h = omega (arith, stands_end (n + 1) a h.2)
    stands_end n (binary x a b) h = omega (arith, stands_end (n + 1 + size a) b h.3)

    pub list_end : (n : ℕ) (es : Exprs) → StandAll T n es → n ≤ length T.nodes → n + sizes es ≤ length T.nodes
    list_end n none h k = omega arith
    list_end n (also a es) h k = omega (arith, list_end (n + size a) es h.1 (stands_end n a h.0))

    pub inits_end : (n : ℕ) (is : Inits) → InitsStand T n is → n ≤ length T.nodes → n + size_inits is ≤ length T.nodes
    inits_end n no_init h k = omega arith
    inits_end n (init x a is) h k = omega (arith, inits_end (n + 1 + size a) is h.2 (stands_end (n + 1) a h.1))
