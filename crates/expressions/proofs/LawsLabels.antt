-- The labels of an accepted expression and of accepted lists: one for each node, the last of which gives something, so that the rows of
-- one run of labels and of the next are those of both; and an expression's first label has its type. Assumes nothing.
use mathlib.Core.Path.{◌≡◌, refl, sym, ◌∙◌, subst}
use mathlib.Core.Bool.{not, ◌&&◌, ◌||◌}
use mathlib.Core.List.{List, [], ◌∷◌, ◌++◌}
use Prim.Native.Nat.{ℕ, ◌+◌}
use native.Mathlib.Omega.{arith}
use lib.ListN.{length, length-append}
use lib.Dec.{eqb}
use Rattle.oat.specs.Tables.{Tables, type_at}
use Rattle.oat.specs.Types.{lookup}
use Rattle.oat.specs.Syntax.{Expr, null, literal, name, array_literal, default_array, array_with, index, length_of, struct_literal, field, call, unary, binary, Exprs, none, also, Inits, no_init, init, count, size, sizes, size_inits}
use Rattle.typing_rules.specs.Contexts.{Scope, binds, find, Context, find_name, or_else, inner}
use Rattle.typing_rules.specs.Labels.{Result, gives, marks, nothing, Label, unlabelled}
use Rattle.typing_rules.specs.Operators.{is_equality, operand_type, unary_type}
use Rattle.typing_rules.specs.Rules.{names_fit}
use Rattle.typing_rules.specs.Judge.{ok, typed_as, marked_as, is_kind, referred, is_below, formed, has_default, each_below, arguments_below, field_of, inits_below, judge, judges, judge_inits, judging}
use Rattle.typing_rules.specs.Check.{next_result, row_result}
use Rattle.typing_rules.proofs.LawsOutcome.{ok_is, then_ok, needs_ok, declared_ok, named_ok, field_ok}
use Rattle.expressions.specs.Contract.{RowsAt}

-- what the last label gives; d where there is none
unfoldable pub last_result : Result ℕ → List (Label ℕ) → Result ℕ
last_result d [] = d
last_result d (l ∷ L) = last_result l.result L

-- the last label, if any, gives something
pub record Closed (L : List (Label ℕ)) : Type 0 where
  pub last : last_result (marks 0) L ≡ nothing → ⊥

pub last_append : (d : Result ℕ) (L M : List (Label ℕ)) → last_result d (L ++ M) ≡ last_result (last_result d L) M
unfolding last_result
last_append d [] M = refl
last_append d (l ∷ L) M = last_append l.result L M

-- something, then labels that are closed
last_any : (d : Result ℕ) (L : List (Label ℕ)) → (d ≡ nothing → ⊥) → Closed L → last_result d L ≡ nothing → ⊥
unfolding last_result
last_any d [] h c e = h e
last_any d (l ∷ L) h c e = c.last e

gives_something : {t : ℕ} → ◌≡◌ {A = Result ℕ} (gives t) nothing → ⊥
gives_something e = let z : ◌≡◌ {A = ℕ} 0 1 = cc in omega arith

marks_something : {p : ℕ} → ◌≡◌ {A = Result ℕ} (marks p) nothing → ⊥
marks_something e = let z : ◌≡◌ {A = ℕ} 0 1 = cc in omega arith

pub closed_none : Closed []
unfolding last_result
closed_none = record { last = marks_something }

pub closed_append : {L M : List (Label ℕ)} → Closed L → Closed M → Closed (L ++ M)
closed_append {L} {M} c d = record { last = λ e. last_any (last_result (marks 0) L) M c.last d (sym (last_append (marks 0) L M) ∙ e) }

-- a label that gives something, then labels that are closed
pub closed_label : {l : Label ℕ} {L : List (Label ℕ)} → (l.result ≡ nothing → ⊥) → Closed L → Closed (l ∷ L)
unfolding last_result
closed_label {l} {L} h c = record { last = λ e. last_any l.result L h c e }

pub closed_typed : {t b : ℕ} {Γ : Scope ℕ} {L : List (Label ℕ)} → Closed L → Closed (typed_as t b Γ ∷ L)
closed_typed c = closed_label gives_something c

pub closed_marked : {p : ℕ} {Γ Δ : Scope ℕ} {L : List (Label ℕ)} → Closed L → Closed (marked_as p Γ Δ ∷ L)
closed_marked c = closed_label marks_something c

-- any label before one or more that are closed
pub closed_before : (k : Label ℕ) {l : Label ℕ} {L : List (Label ℕ)} → Closed (l ∷ L) → Closed (k ∷ l ∷ L)
unfolding last_result
closed_before k c = record { last = c.last }

-- k labels that are closed
pub record Run (k : ℕ) (L : List (Label ℕ)) : Type 0 where
  pub long : length L ≡ k
  pub closed : Closed L

pub run_none : Run 0 []
run_none = record { long = refl; closed = closed_none }

pub run_append : {j k : ℕ} {L M : List (Label ℕ)} → Run j L → Run k M → Run (j + k) (L ++ M)
run_append r s = record { long = simp length-append (omega arith); closed = closed_append r.closed s.closed }

-- k labels of an expression of the type t
data Typed (k : ℕ) : ℕ → List (Label ℕ) → Type 0 where
  typed : {j t b : ℕ} {Γ : Scope ℕ} {L : List (Label ℕ)} → k ≡ 1 + j → Run j L → Typed k t (typed_as t b Γ ∷ L)

leaf : {t b : ℕ} {Γ : Scope ℕ} → Typed 1 t (typed_as t b Γ ∷ [])
leaf = typed refl run_none

run_typed : {k t : ℕ} {L : List (Label ℕ)} → Typed k t L → Run k L
run_typed (typed e r) = record { long = omega arith; closed = closed_typed r.closed }

head_typed : {k t : ℕ} {L : List (Label ℕ)} → Typed k t L → (M : List (Label ℕ)) → next_result (L ++ M) ≡ t
head_typed (typed e r) M = refl

-- a field initializer, before others
run_init : {j k m t : ℕ} {L M : List (Label ℕ)} → m ≡ 1 + j + k → Typed j t L → Run k M → Run m (unlabelled ∷ L ++ M)
run_init {L = L} {M = M} w (typed e r) s = record {
  long = simp length-append (omega arith);
  closed = closed_before unlabelled (closed_typed (closed_append r.closed s.closed));
}

module _ (T : Tables) (C : Context ℕ) where
  mutual
    unfolding judging

    labels : (e : Expr) (n : ℕ) (Γ : Scope ℕ) (t : ℕ) (L : List (Label ℕ)) → judge T C e n Γ ≡ ok t L → Typed (size e) t L
    labels (null u) n Γ t L j = needs_ok (formed T C u) _ _ _ j λ q k. ok_is (Typed 1) k leaf
    labels (literal l) n Γ t L j = ok_is (Typed 1) j leaf
    labels (name x) n Γ t L j = named_ok (or_else (find x Γ) (find_name x C.names)) n Γ j λ u b h k. ok_is (Typed 1) k leaf
    labels (array_literal u es) n Γ t L j =
        needs_ok (formed T C (referred T u)) _ _ _ j λ q k.
        then_ok (judges T C es (n + 1) Γ) _ k λ ts M i k1.
        needs_ok (each_below T C ts (referred T u)) _ _ _ k1 λ q1 k2.
        ok_is (Typed (size (array_literal u es))) k2 (typed refl (list_labels es (n + 1) Γ ts M i))
    labels (default_array u a) n Γ t L j =
        needs_ok (formed T C (referred T u)) _ _ _ j λ q k.
        then_ok (judge T C a (n + 1) Γ) _ k λ v M i k1.
        needs_ok (is_kind T v 0) _ _ _ k1 λ q1 k2.
        needs_ok (has_default T (referred T u)) _ _ _ k2 λ q2 k3.
        ok_is (Typed (size (default_array u a))) k3 (typed refl (run_typed (labels a (n + 1) Γ v M i)))
    labels (array_with u x a b) n Γ t L j =
        needs_ok (formed T C (referred T u)) _ _ _ j λ q k.
        then_ok (judge T C a (n + 1) Γ) _ k λ v M i k1.
        needs_ok (is_kind T v 0) _ _ _ k1 λ q1 k2.
        then_ok (judge T C b (n + 1 + size a) (binds (inner Γ) x 0 n)) _ k2 λ w N i1 k3.
        needs_ok (is_below T C w (referred T u)) _ _ _ k3 λ q2 k4.
        ok_is (Typed (size (array_with u x a b))) k4
        (typed (omega arith) (run_append (run_typed (labels a (n + 1) Γ v M i)) (run_typed (labels b (n + 1 + size a) (binds (inner Γ) x 0 n) w N i1))))
    labels (index a b) n Γ t L j =
        then_ok (judge T C a (n + 1) Γ) _ j λ u M i k1.
        needs_ok (is_kind T u 5) _ _ _ k1 λ q1 k2.
        then_ok (judge T C b (n + 1 + size a) Γ) _ k2 λ v N i1 k3.
        needs_ok (is_kind T v 0) _ _ _ k3 λ q2 k4.
        ok_is (Typed (size (index a b))) k4
        (typed (omega arith) (run_append (run_typed (labels a (n + 1) Γ u M i)) (run_typed (labels b (n + 1 + size a) Γ v N i1))))
    labels (length_of a) n Γ t L j =
        then_ok (judge T C a (n + 1) Γ) _ j λ u M i k1.
        needs_ok (is_kind T u 5) _ _ _ k1 λ q1 k2.
        ok_is (Typed (size (length_of a))) k2 (typed refl (run_typed (labels a (n + 1) Γ u M i)))
    labels (struct_literal u is) n Γ t L j =
        declared_ok (lookup C.structs (referred T u)) n _ j λ fs h k.
        needs_ok (names_fit fs is) _ _ _ k λ q k1.
        then_ok (judge_inits T C is (n + 1) Γ) _ k1 λ ts M i k2.
        needs_ok (inits_below T C fs is ts) _ _ _ k2 λ q1 k3.
        ok_is (Typed (size (struct_literal u is))) k3 (typed refl (inits_labels is (n + 1) Γ ts M i))
    labels (field x a) n Γ t L j =
        then_ok (judge T C a (n + 1) Γ) _ j λ u M i k1.
        needs_ok (is_kind T u 4) _ _ _ k1 λ q1 k2.
        field_ok (field_of T (referred T u) x 0 (length C.structs)) n Γ M k2 λ v h k3.
        ok_is (Typed (size (field x a))) k3 (typed refl (run_typed (labels a (n + 1) Γ u M i)))
    labels (call a es) n Γ t L j =
        then_ok (judge T C a (n + 1) Γ) _ j λ u M i k1.
        needs_ok (is_kind T u 6) _ _ _ k1 λ q1 k2.
        needs_ok (not (is_kind T (referred T u) 3)) _ _ _ k2 λ q2 k3.
        needs_ok (eqb (count es) (type_at T u).c) _ _ _ k3 λ q3 k4.
        then_ok (judges T C es (n + 1 + size a) Γ) _ k4 λ ts N i1 k5.
        needs_ok (arguments_below T C ts (type_at T u).b) _ _ _ k5 λ q4 k6.
        ok_is (Typed (size (call a es))) k6
        (typed (omega arith) (run_append (run_typed (labels a (n + 1) Γ u M i)) (list_labels es (n + 1 + size a) Γ ts N i1)))
    labels (unary x a) n Γ t L j =
        then_ok (judge T C a (n + 1) Γ) _ j λ u M i k1.
        needs_ok (is_kind T u (unary_type x)) _ _ _ k1 λ q1 k2.
        ok_is (Typed (size (unary x a))) k2 (typed refl (run_typed (labels a (n + 1) Γ u M i)))
    labels (binary x a b) n Γ t L j =
        then_ok (judge T C a (n + 1) Γ) _ j λ u M i k1.
        needs_ok (is_equality x || is_kind T u (operand_type x)) _ _ _ k1 λ q1 k2.
        then_ok (judge T C b (n + 1 + size a) Γ) _ k2 λ v N i1 k3.
        needs_ok (is_equality x || is_kind T v (operand_type x)) _ _ _ k3 λ q2 k4.
        needs_ok (not (is_equality x) || (is_below T C u v && is_below T C v u)) _ _ _ k4 λ q3 k5.
        ok_is (Typed (size (binary x a b))) k5
        (typed (omega arith) (run_append (run_typed (labels a (n + 1) Γ u M i)) (run_typed (labels b (n + 1 + size a) Γ v N i1))))

    list_labels : (es : Exprs) (n : ℕ) (Γ : Scope ℕ) (ts : List ℕ) (L : List (Label ℕ)) → judges T C es n Γ ≡ ok ts L → Run (sizes es) L
    list_labels none n Γ ts L j = ok_is (λ ts L. Run 0 L) j run_none
    list_labels (also a es) n Γ ts L j =
        then_ok (judge T C a n Γ) _ j λ u M i k1.
        then_ok (judges T C es (n + size a) Γ) _ k1 λ us N i1 k2.
        ok_is (λ ts L. Run (sizes (also a es)) L) k2 (run_append (run_typed (labels a n Γ u M i)) (list_labels es (n + size a) Γ us N i1))

    inits_labels : (is : Inits) (n : ℕ) (Γ : Scope ℕ) (ts : List ℕ) (L : List (Label ℕ)) → judge_inits T C is n Γ ≡ ok ts L → Run (size_inits is) L
    inits_labels no_init n Γ ts L j = ok_is (λ ts L. Run 0 L) j run_none
    inits_labels (init x a is) n Γ ts L j =
        then_ok (judge T C a (n + 1) Γ) _ j λ u M i k1.
        then_ok (judge_inits T C is (n + 1 + size a) Γ) _ k1 λ us N i1 k2.
        ok_is (λ ts L. Run (size_inits (init x a is)) L) k2
        (run_init refl (labels a (n + 1) Γ u M i) (inits_labels is (n + 1 + size a) Γ us N i1))

  -- an expression
  pub expr_run : (e : Expr) (n : ℕ) (Γ : Scope ℕ) (t : ℕ) (L : List (Label ℕ)) → judge T C e n Γ ≡ ok t L → Run (size e) L
  expr_run e n Γ t L j = run_typed (labels e n Γ t L j)

  pub expr_long : (e : Expr) (n : ℕ) (Γ : Scope ℕ) (t : ℕ) (L : List (Label ℕ)) → judge T C e n Γ ≡ ok t L → length L ≡ size e
  expr_long e n Γ t L j = (expr_run e n Γ t L j).long

  pub expr_closed : (e : Expr) (n : ℕ) (Γ : Scope ℕ) (t : ℕ) (L : List (Label ℕ)) → judge T C e n Γ ≡ ok t L → Closed L
  expr_closed e n Γ t L j = (expr_run e n Γ t L j).closed

  pub expr_head : (e : Expr) (n : ℕ) (Γ : Scope ℕ) (t : ℕ) (L : List (Label ℕ)) → judge T C e n Γ ≡ ok t L
      → (M : List (Label ℕ)) → next_result (L ++ M) ≡ t
  expr_head e n Γ t L j M = head_typed (labels e n Γ t L j) M

  -- a list
  pub list_run : (es : Exprs) (n : ℕ) (Γ : Scope ℕ) (ts : List ℕ) (L : List (Label ℕ)) → judges T C es n Γ ≡ ok ts L → Run (sizes es) L
  list_run es n Γ ts L j = list_labels es n Γ ts L j

  pub list_long : (es : Exprs) (n : ℕ) (Γ : Scope ℕ) (ts : List ℕ) (L : List (Label ℕ)) → judges T C es n Γ ≡ ok ts L → length L ≡ sizes es
  list_long es n Γ ts L j = (list_run es n Γ ts L j).long

-- a row among the labels L, and among more labels
row_more : (r : Result ℕ) (L M : List (Label ℕ)) → (last_result r L ≡ nothing → next_result M ≡ 0) → row_result r L ≡ row_result r (L ++ M)
unfolding last_result
row_more (gives t) L M h = refl
row_more (marks p) L M h = refl
row_more nothing [] M h = sym (h refl)
row_more nothing (l ∷ L) M h = refl

-- the rows from a node on, which may be written otherwise
pub rows-from : (R : List ℕ) (a b : ℕ) (L : List (Label ℕ)) → a ≡ b → RowsAt R a L → RowsAt R b L
rows-from R a b L e p = subst (λ m. RowsAt R m L) e p

rows-after : (R : List ℕ) (n : ℕ) (d : Result ℕ) (L M : List (Label ℕ)) → (last_result d L ≡ nothing → next_result M ≡ 0)
    → RowsAt R n L → RowsAt R (n + length L) M → RowsAt R n (L ++ M)
unfolding last_result RowsAt
rows-after R n d [] M h p q = rows-from R _ n M (omega arith) q
rows-after R n d (l ∷ L) M h p q =
    (p.0 ∙ row_more l.result L M h, p.1, rows-after R (n + 1) l.result L M h p.2 (rows-from R _ (n + 1 + length L) M (omega arith) q))

-- the rows of L, then those of M: where the last label of L gives nothing, the next has to give no type
pub rows_join : (R : List ℕ) (n : ℕ) (L M : List (Label ℕ)) → (last_result (marks 0) L ≡ nothing → next_result M ≡ 0)
    → RowsAt R n L → RowsAt R (n + length L) M → RowsAt R n (L ++ M)
rows_join R n L M h p q = rows-after R n (marks 0) L M h p q

pub rows_append : (R : List ℕ) (n : ℕ) (L M : List (Label ℕ)) → Closed L
    → RowsAt R n L → RowsAt R (n + length L) M → RowsAt R n (L ++ M)
rows_append R n L M c p q = rows_join R n L M (λ e. absurd (c.last e)) p q
