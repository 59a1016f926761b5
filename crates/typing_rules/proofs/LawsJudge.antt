-- The ways on which the definition of the check accepts an expression, one equation a constructor. Assumes nothing.
use mathlib.Core.Path.{◌≡◌, refl}
use mathlib.Core.Bool.{true, false}
use mathlib.Core.List.{List, [], ◌∷◌, ◌++◌}
use Prim.Native.Nat.{ℕ, ◌+◌}
use lib.ListN.{length}
use lib.Dec.{eqb}
use Rattle.oat.specs.Tables.{Tables, type_at}
use Rattle.oat.specs.Types.{Field, found, lookup}
use Rattle.oat.specs.Syntax.{Literal, Expr, null, literal, name, array_literal, default_array, array_with, index, length_of, struct_literal, field, call, unary, binary, Exprs, none, also, count, Inits, no_init, init, size}
use Rattle.typing_rules.specs.Contexts.{Scope, binds, hit, miss, find, Context, find_name, inner}
use Rattle.typing_rules.specs.Operators.{is_equality, operand_type, result_type, unary_type, literal_type}
use Rattle.typing_rules.specs.Labels.{Label, unlabelled}
use Rattle.typing_rules.specs.Rules.{names_fit}
use Rattle.typing_rules.specs.Judge.{ok, typed_as, plain, is_kind, referred, is_below, formed, has_default, each_below, arguments_below, number, field_of, inits_below, judge, judges, judge_inits, judging}

module _ (T : Tables) (C : Context ℕ) (n : ℕ) (Γ : Scope ℕ) where
  pub null_ok : (t : ℕ) → formed T C t ≡ true → judge T C (null t) n Γ ≡ plain t Γ []
  unfolding judging
  null_ok t p = rw p

  pub literal_ok : (l : Literal) → judge T C (literal l) n Γ ≡ plain (literal_type l) Γ []
  unfolding judging
  literal_ok l = refl

  pub local_ok : (x : ℕ) {t b : ℕ} → find x Γ ≡ hit t b → judge T C (name x) n Γ ≡ ok t (typed_as t b Γ ∷ [])
  unfolding judging
  local_ok x p = rw p

  pub global_ok : (x : ℕ) {t b : ℕ} → find x Γ ≡ miss → find_name x C.names ≡ hit t b → judge T C (name x) n Γ ≡ ok t (typed_as t b Γ ∷ [])
  unfolding judging
  global_ok x p q = rw (p, q)

  pub array_ok : (t : ℕ) (es : Exprs) {ts : List ℕ} {L : List (Label ℕ)} → formed T C (referred T t) ≡ true → judges T C es (n + 1) Γ ≡ ok ts L
      → each_below T C ts (referred T t) ≡ true → judge T C (array_literal t es) n Γ ≡ plain t Γ L
  unfolding judging
  array_ok t es p q r = rw (p, q, r)

  pub default_ok : (t : ℕ) (a : Expr) {u : ℕ} {L : List (Label ℕ)} → formed T C (referred T t) ≡ true → judge T C a (n + 1) Γ ≡ ok u L
      → is_kind T u 0 ≡ true → has_default T (referred T t) ≡ true → judge T C (default_array t a) n Γ ≡ plain t Γ L
  unfolding judging
  default_ok t a p q r s = rw (p, q, r, s)

  pub with_ok : (t x : ℕ) (a b : Expr) {u v : ℕ} {L M : List (Label ℕ)} → formed T C (referred T t) ≡ true → judge T C a (n + 1) Γ ≡ ok u L
      → is_kind T u 0 ≡ true → judge T C b (n + 1 + size a) (binds (inner Γ) x 0 n) ≡ ok v M
      → is_below T C v (referred T t) ≡ true → judge T C (array_with t x a b) n Γ ≡ plain t Γ (L ++ M)
  unfolding judging
  with_ok t x a b p q r w z = rw (p, q, r, w, z)

  pub index_ok : (a b : Expr) {t u : ℕ} {L M : List (Label ℕ)} → judge T C a (n + 1) Γ ≡ ok t L → is_kind T t 5 ≡ true
      → judge T C b (n + 1 + size a) Γ ≡ ok u M → is_kind T u 0 ≡ true → judge T C (index a b) n Γ ≡ plain (referred T t) Γ (L ++ M)
  unfolding judging
  index_ok a b p q r s = rw (p, q, r, s)

  pub length_ok : (a : Expr) {t : ℕ} {L : List (Label ℕ)} → judge T C a (n + 1) Γ ≡ ok t L → is_kind T t 5 ≡ true
      → judge T C (length_of a) n Γ ≡ plain 0 Γ L
  unfolding judging
  length_ok a p q = rw (p, q)

  pub struct_ok : (t : ℕ) (is : Inits) {fs : List Field} {ts : List ℕ} {L : List (Label ℕ)} → lookup C.structs (referred T t) ≡ found fs
      → names_fit fs is ≡ true → judge_inits T C is (n + 1) Γ ≡ ok ts L → inits_below T C fs is ts ≡ true
      → judge T C (struct_literal t is) n Γ ≡ plain t Γ L
  unfolding judging
  struct_ok t is p q r s = rw (p, q, r, s)

  pub field_ok : (x : ℕ) (a : Expr) {t u : ℕ} {L : List (Label ℕ)} → judge T C a (n + 1) Γ ≡ ok t L → is_kind T t 4 ≡ true
      → field_of T (referred T t) x 0 (length C.structs) ≡ number u → judge T C (field x a) n Γ ≡ plain u Γ L
  unfolding judging
  field_ok x a p q r = rw (p, q, r)

  pub call_ok : (a : Expr) (es : Exprs) {f : ℕ} {ts : List ℕ} {L M : List (Label ℕ)} → judge T C a (n + 1) Γ ≡ ok f L → is_kind T f 6 ≡ true
      → is_kind T (referred T f) 3 ≡ false → eqb (count es) (type_at T f).c ≡ true → judges T C es (n + 1 + size a) Γ ≡ ok ts M
      → arguments_below T C ts (type_at T f).b ≡ true → judge T C (call a es) n Γ ≡ plain (referred T f) Γ (L ++ M)
  unfolding judging
  call_ok a es p q r s w z = rw (p, q, r, s, w, z)

  pub unary_ok : (x : ℕ) (a : Expr) {t : ℕ} {L : List (Label ℕ)} → judge T C a (n + 1) Γ ≡ ok t L → is_kind T t (unary_type x) ≡ true
      → judge T C (unary x a) n Γ ≡ plain (unary_type x) Γ L
  unfolding judging
  unary_ok x a p q = rw (p, q)

  pub operator_ok : (x : ℕ) (a b : Expr) {t u : ℕ} {L M : List (Label ℕ)} → is_equality x ≡ false → judge T C a (n + 1) Γ ≡ ok t L
      → is_kind T t (operand_type x) ≡ true → judge T C b (n + 1 + size a) Γ ≡ ok u M → is_kind T u (operand_type x) ≡ true
      → judge T C (binary x a b) n Γ ≡ plain (result_type x) Γ (L ++ M)
  unfolding judging
  operator_ok x a b p q r s w = rw (q, s, p, r, w)

  pub equality_ok : (x : ℕ) (a b : Expr) {t u : ℕ} {L M : List (Label ℕ)} → is_equality x ≡ true → judge T C a (n + 1) Γ ≡ ok t L
      → judge T C b (n + 1 + size a) Γ ≡ ok u M → is_below T C t u ≡ true → is_below T C u t ≡ true
      → judge T C (binary x a b) n Γ ≡ plain (result_type x) Γ (L ++ M)
  unfolding judging
  equality_ok x a b p q r s w = rw (q, r, p, s, w)

  pub none_ok : judges T C none n Γ ≡ ok [] []
  unfolding judging
  none_ok = refl

  pub also_ok : (a : Expr) (es : Exprs) {t : ℕ} {ts : List ℕ} {L M : List (Label ℕ)} → judge T C a n Γ ≡ ok t L
      → judges T C es (n + size a) Γ ≡ ok ts M → judges T C (also a es) n Γ ≡ ok (t ∷ ts) (L ++ M)
  unfolding judging
  also_ok a es p q = rw (p, q)

  pub no_init_ok : judge_inits T C no_init n Γ ≡ ok [] []
  unfolding judging
  no_init_ok = refl

  pub init_ok : (x : ℕ) (a : Expr) (is : Inits) {t : ℕ} {ts : List ℕ} {L M : List (Label ℕ)} → judge T C a (n + 1) Γ ≡ ok t L
      → judge_inits T C is (n + 1 + size a) Γ ≡ ok ts M → judge_inits T C (init x a is) n Γ ≡ ok (t ∷ ts) (unlabelled ∷ L ++ M)
  unfolding judging
  init_ok x a is p q = rw (p, q)
