-- The labels of an accepted tree have type numbers of the file. Assumes nothing.
use mathlib.Core.Path.{◌≡◌}
use mathlib.Core.Bool.{not, ◌&&◌, ◌||◌}
use mathlib.Core.List.{List, ◌∷◌}
use Prim.Native.Nat.{ℕ, ◌+◌}
use native.Mathlib.Omega.{arith}
use lib.ListN.{length}
use lib.Dec.{eqb}
use Rattle.oat.specs.Tables.{Tables, type_at}
use Rattle.oat.specs.Types.{lookup}
use Rattle.oat.specs.Syntax.{Expr, null, literal, name, array_literal, default_array, array_with, index, length_of, struct_literal, field, call, unary, binary, Exprs, none, also, Inits, no_init, init, count, size}
use Rattle.oat.specs.Nodes.{Stands, StandAll, InitsStand}
use Rattle.typing_rules.specs.Contexts.{Scope, binds, find, Context, find_name, or_else, inner}
use Rattle.typing_rules.specs.Labels.{Label}
use Rattle.typing_rules.specs.Operators.{is_equality, operand_type, unary_type}
use Rattle.typing_rules.specs.Rules.{names_fit}
use Rattle.typing_rules.specs.Judge.{ok, typed_as, is_kind, referred, is_below, formed, has_default, each_below, arguments_below, field_of, inits_below, judge, judges, judge_inits, judging}
use Rattle.typing_rules.proofs.Claims.{File, Value, ScopeFits, fits_bind, ContextFits}
use Rattle.typing_rules.proofs.LawsBridge.{base_value}
use Rattle.typing_rules.proofs.LawsOutcome.{ok_is, then_ok, needs_ok, declared_ok, named_ok, field_ok}
use Rattle.typing_rules.proofs.LawsRows.{LabelsFit, fit_none, fit_label, fit_append}
use Rattle.typing_rules.proofs.Sound.{sound}

-- an expression's labels but for the first, which has its type
data Tail (T : Tables) : ℕ → List (Label ℕ) → Type 0 where
  tail : {a b : ℕ} {Γ : Scope ℕ} {L : List (Label ℕ)} → LabelsFit T L → Tail T a (typed_as a b Γ ∷ L)

fit_tail : {T : Tables} {a : ℕ} {L : List (Label ℕ)} → Value T a → Tail T a L → LabelsFit T L
fit_tail v (tail f) = fit_label v.within f

module _ {T : Tables} (F : File T) {C : Context ℕ} (f : ContextFits T C) where
  -- with the type that soundness gives
  whole : (e : Expr) (n : ℕ) (Γ : Scope ℕ) → ScopeFits T Γ → Stands T n e → ((a : ℕ) (L : List (Label ℕ)) → judge T C e n Γ ≡ ok a L → Tail T a L) → (a : ℕ) (L : List (Label ℕ)) → judge T C e n Γ ≡ ok a L → LabelsFit T L
  whole e n Γ g s t a L j = fit_tail (sound T F C f e n Γ a L g s j).value (t a L j)

  mutual
    unfolding judging

    expr_tail : (e : Expr) (n : ℕ) (Γ : Scope ℕ) → ScopeFits T Γ → Stands T n e → (a : ℕ) (L : List (Label ℕ)) → judge T C e n Γ ≡ ok a L → Tail T a L
    expr_tail (null t) n Γ g s a L j = needs_ok (formed T C t) _ _ _ j λ q k. ok_is (Tail T) k (tail fit_none)
    expr_tail (literal l) n Γ g s a L j = ok_is (Tail T) j (tail fit_none)
    expr_tail (name x) n Γ g s a L j = named_ok (or_else (find x Γ) (find_name x C.names)) n Γ j λ t b h k. ok_is (Tail T) k (tail fit_none)
    expr_tail (array_literal t es) n Γ g s a L j =
        needs_ok (formed T C (referred T t)) _ _ _ j λ q k.
        then_ok (judges T C es (n + 1) Γ) _ k λ ts M e k1.
        needs_ok (each_below T C ts (referred T t)) _ _ _ k1 λ q1 k2.
        ok_is (Tail T) k2 (tail (exprs_fit es (n + 1) Γ g s.2 ts M e))
    expr_tail (default_array t e) n Γ g s a L j =
        needs_ok (formed T C (referred T t)) _ _ _ j λ q k.
        then_ok (judge T C e (n + 1) Γ) _ k λ u M i k1.
        needs_ok (is_kind T u 0) _ _ _ k1 λ q1 k2.
        needs_ok (has_default T (referred T t)) _ _ _ k2 λ q2 k3.
        ok_is (Tail T) k3 (tail (whole e (n + 1) Γ g s.2 (λ u M i. expr_tail e (n + 1) Γ g s.2 u M i) u M i))
    expr_tail (array_with t x e d) n Γ g s a L j =
        let h : ScopeFits T (binds (inner Γ) x 0 n) = fits_bind g (base_value T F 0 (omega arith)) in
        needs_ok (formed T C (referred T t)) _ _ _ j λ q k.
        then_ok (judge T C e (n + 1) Γ) _ k λ u M i k1.
        needs_ok (is_kind T u 0) _ _ _ k1 λ q1 k2.
        then_ok (judge T C d (n + 1 + size e) (binds (inner Γ) x 0 n)) _ k2 λ v N i1 k4.
        needs_ok (is_below T C v (referred T t)) _ _ _ k4 λ q3 k5.
        ok_is (Tail T) k5
        (tail (fit_append (whole e (n + 1) Γ g s.2 (λ u M i. expr_tail e (n + 1) Γ g s.2 u M i) u M i)
        (whole d (n + 1 + size e) _ h s.3 (λ u M i. expr_tail d (n + 1 + size e) _ h s.3 u M i) v N i1)))
    expr_tail (index e d) n Γ g s a L j =
        then_ok (judge T C e (n + 1) Γ) _ j λ u M i k1.
        needs_ok (is_kind T u 5) _ _ _ k1 λ q1 k2.
        then_ok (judge T C d (n + 1 + size e) Γ) _ k2 λ v N i1 k4.
        needs_ok (is_kind T v 0) _ _ _ k4 λ q3 k5.
        ok_is (Tail T) k5
        (tail (fit_append (whole e (n + 1) Γ g s.1 (λ u M i. expr_tail e (n + 1) Γ g s.1 u M i) u M i)
        (whole d (n + 1 + size e) Γ g s.2 (λ u M i. expr_tail d (n + 1 + size e) Γ g s.2 u M i) v N i1)))
    expr_tail (length_of e) n Γ g s a L j =
        then_ok (judge T C e (n + 1) Γ) _ j λ u M i k1.
        needs_ok (is_kind T u 5) _ _ _ k1 λ q1 k2.
        ok_is (Tail T) k2 (tail (whole e (n + 1) Γ g s.1 (λ u M i. expr_tail e (n + 1) Γ g s.1 u M i) u M i))
    expr_tail (struct_literal t is) n Γ g s a L j =
        declared_ok (lookup C.structs (referred T t)) n _ j λ fs h k.
        needs_ok (names_fit fs is) _ _ _ k λ q k1.
        then_ok (judge_inits T C is (n + 1) Γ) _ k1 λ ts M e k2.
        needs_ok (inits_below T C fs is ts) _ _ _ k2 λ q1 k3.
        ok_is (Tail T) k3 (tail (inits_fit is (n + 1) Γ g s.2 ts M e))
    expr_tail (field x e) n Γ g s a L j =
        then_ok (judge T C e (n + 1) Γ) _ j λ u M i k1.
        needs_ok (is_kind T u 4) _ _ _ k1 λ q1 k2.
        field_ok (field_of T (referred T u) x 0 (length C.structs)) n Γ M k2 λ t h k3.
        ok_is (Tail T) k3 (tail (whole e (n + 1) Γ g s.1 (λ u M i. expr_tail e (n + 1) Γ g s.1 u M i) u M i))
    expr_tail (call e es) n Γ g s a L j =
        then_ok (judge T C e (n + 1) Γ) _ j λ u M i k1.
        needs_ok (is_kind T u 6) _ _ _ k1 λ q1 k2.
        needs_ok (not (is_kind T (referred T u) 3)) _ _ _ k2 λ q2 k3.
        needs_ok (eqb (count es) (type_at T u).c) _ _ _ k3 λ q3 k4.
        then_ok (judges T C es (n + 1 + size e) Γ) _ k4 λ ts N i1 k5.
        needs_ok (arguments_below T C ts (type_at T u).b) _ _ _ k5 λ q4 k6.
        ok_is (Tail T) k6
        (tail (fit_append (whole e (n + 1) Γ g s.1 (λ u M i. expr_tail e (n + 1) Γ g s.1 u M i) u M i)
        (exprs_fit es (n + 1 + size e) Γ g s.2 ts N i1)))
    expr_tail (unary x e) n Γ g s a L j =
        then_ok (judge T C e (n + 1) Γ) _ j λ u M i k1.
        needs_ok (is_kind T u (unary_type x)) _ _ _ k1 λ q1 k2.
        ok_is (Tail T) k2 (tail (whole e (n + 1) Γ g s.2 (λ u M i. expr_tail e (n + 1) Γ g s.2 u M i) u M i))
    expr_tail (binary x e d) n Γ g s a L j =
        then_ok (judge T C e (n + 1) Γ) _ j λ u M i k1.
        needs_ok (is_equality x || is_kind T u (operand_type x)) _ _ _ k1 λ q1 k2.
        then_ok (judge T C d (n + 1 + size e) Γ) _ k2 λ v N i1 k4.
        needs_ok (is_equality x || is_kind T v (operand_type x)) _ _ _ k4 λ q3 k5.
        needs_ok (not (is_equality x) || (is_below T C u v && is_below T C v u)) _ _ _ k5 λ q4 k6.
        ok_is (Tail T) k6
        (tail (fit_append (whole e (n + 1) Γ g s.2 (λ u M i. expr_tail e (n + 1) Γ g s.2 u M i) u M i)
        (whole d (n + 1 + size e) Γ g s.3 (λ u M i. expr_tail d (n + 1 + size e) Γ g s.3 u M i) v N i1)))

    pub exprs_fit : (es : Exprs) (n : ℕ) (Γ : Scope ℕ) → ScopeFits T Γ → StandAll T n es → (ts : List ℕ) (L : List (Label ℕ)) → judges T C es n Γ ≡ ok ts L → LabelsFit T L
    exprs_fit none n Γ g s ts L j = ok_is (λ ts L. LabelsFit T L) j fit_none
    exprs_fit (also e es) n Γ g s ts L j =
        then_ok (judge T C e n Γ) _ j λ u M i k1.
        then_ok (judges T C es (n + size e) Γ) _ k1 λ us N i1 k2.
        ok_is (λ ts L. LabelsFit T L) k2
        (fit_append (whole e n Γ g s.0 (λ u M i. expr_tail e n Γ g s.0 u M i) u M i) (exprs_fit es (n + size e) Γ g s.1 us N i1))

    inits_fit : (is : Inits) (n : ℕ) (Γ : Scope ℕ) → ScopeFits T Γ → InitsStand T n is → (ts : List ℕ) (L : List (Label ℕ)) → judge_inits T C is n Γ ≡ ok ts L → LabelsFit T L
    inits_fit no_init n Γ g s ts L j = ok_is (λ ts L. LabelsFit T L) j fit_none
    inits_fit (init x e is) n Γ g s ts L j =
        then_ok (judge T C e (n + 1) Γ) _ j λ u M i k1.
        then_ok (judge_inits T C is (n + 1 + size e) Γ) _ k1 λ us N i1 k2.
        ok_is (λ ts L. LabelsFit T L) k2
        (fit_label tt (fit_append (whole e (n + 1) Γ g s.1 (λ u M i. expr_tail e (n + 1) Γ g s.1 u M i) u M i) (inits_fit is (n + 1 + size e) Γ g s.2 us N i1)))

  pub expr_fit : (e : Expr) (n : ℕ) (Γ : Scope ℕ) → ScopeFits T Γ → Stands T n e → (a : ℕ) (L : List (Label ℕ)) → judge T C e n Γ ≡ ok a L → LabelsFit T L
  expr_fit e n Γ g s a L j = whole e n Γ g s (λ u M i. expr_tail e n Γ g s u M i) a L j
