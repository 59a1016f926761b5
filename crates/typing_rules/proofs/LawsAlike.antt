-- What the check of an expression makes of a scope: what its names mean, and no more. Assumes nothing.
use mathlib.Core.Path.{◌≡◌, refl, ap, ap₂, subst}
use mathlib.Core.Bool.{Bool, true, false, not, ◌||◌}
use mathlib.Core.List.{List, [], ◌∷◌, ◌++◌}
use Prim.Native.Nat.{ℕ, ◌+◌}
use lib.Dec.{eqb}
use Rattle.oat.specs.Basics.{pick}
use lib.ListN.{length}
use Rattle.oat.specs.Tables.{Tables, type_at}
use Rattle.oat.specs.Pairs.{Compared}
use Rattle.oat.specs.Types.{Lookup, found, missing, lookup, Field}
use Rattle.oat.specs.Syntax.{Expr, null, literal, name, array_literal, default_array, array_with, index, length_of, struct_literal, field, call, unary, binary, Exprs, none, also, count, Inits, no_init, init, size}
use Rattle.typing_rules.specs.Contexts.{Scope, inner, binds, Hit, hit, miss, nearest, find, Context, find_name, or_else}
use Rattle.typing_rules.specs.Operators.{is_equality, operand_type, result_type, unary_type, literal_type}
use Rattle.typing_rules.specs.Rules.{names_fit}
use Rattle.typing_rules.specs.Labels.{Label}
use Rattle.typing_rules.specs.Judge.{Out, ok, no, and_then, needs, pairs_after, pairs_declared, plain, named, on_declared, Number, number, unknown, field_type, field_of, referred, formed, is_kind, asked, has_default, each_asked, arguments_asked, inits_asked, equal_asked, judging, judging_all, judging_inits, judge, judges, judge_inits}

-- labels with the same rows
pub data RowsAlike : List (Label ℕ) → List (Label ℕ) → Type 0 where
  alike_none : RowsAlike [] []
  alike_node : {l m : Label ℕ} {L M : List (Label ℕ)} → l.result ≡ m.result → l.binder ≡ m.binder → RowsAlike L M → RowsAlike (l ∷ L) (m ∷ M)

-- outcomes that are both accepted with the same rows, or both the same refusal, with as many pairs compared
pub data Alike {A : Type 0} : Out A → ℕ → Out A → ℕ → Type 0 where
  both_ok : {a : A} {L M : List (Label ℕ)} {i j : ℕ} → RowsAlike L M → i ≡ j → Alike (ok a L) i (ok a M) j
  both_no : {p q i j : ℕ} → i ≡ j → Alike (no p q) i (no p q) j

-- the names mean the same in both scopes
pub record Agree (Γ Δ : Scope ℕ) : Type 0 where
  pub means : (x : ℕ) → find x Γ ≡ find x Δ

pub rows_join : {L M N O : List (Label ℕ)} → RowsAlike L M → RowsAlike N O → RowsAlike (L ++ N) (M ++ O)
rows_join alike_none b = b
rows_join (alike_node e f a) b = alike_node e f (rows_join a b)

pub needs_alike : {A : Type 0} (b : Bool) (p q : ℕ) {x y : Out A} {i j : ℕ} → Alike x i y j → Alike (needs b p q x) (pick b i 0) (needs b p q y) (pick b j 0)
needs_alike true p q a = a
needs_alike false p q a = both_no refl

more_alike : {A : Type 0} {x y : Out A} {h k i j : ℕ} → h ≡ k → Alike x i y j → Alike x (h + i) y (k + j)
more_alike e (both_ok r f) = both_ok r (ap₂ (λ h i. h + i) e f)
more_alike e (both_no f) = both_no (ap₂ (λ h i. h + i) e f)

pub asks_alike : {A : Type 0} (c : Compared) (p q : ℕ) {x y : Out A} {i j : ℕ} → Alike x i y j
    → Alike (needs c.holds p q x) (c.pairs + pick c.holds i 0) (needs c.holds p q y) (c.pairs + pick c.holds j 0)
asks_alike c p q a = more_alike refl (needs_alike c.holds p q a)

pub then_alike : {A B : Type 0} {x y : Out A} {h i : ℕ} {j k : A → List (Label ℕ) → Out B} {m n : A → List (Label ℕ) → ℕ} → Alike x h y i
    → ((a : A) (L M : List (Label ℕ)) → RowsAlike L M → Alike (j a L) (m a L) (k a M) (n a M)) → Alike (and_then x j) (h + pairs_after x m) (and_then y k) (i + pairs_after y n)
then_alike (both_ok r e) f = more_alike e (f _ _ _ r)
then_alike (both_no e) f = both_no (ap (λ h. h + 0) e)

declared_alike : {A : Type 0} (l : Lookup) (n : ℕ) {j k : List Field → Out A} {h i : List Field → ℕ} → ((fs : List Field) → Alike (j fs) (h fs) (k fs) (i fs))
    → Alike (on_declared l n j) (pairs_declared l h) (on_declared l n k) (pairs_declared l i)
declared_alike missing n f = both_no refl
declared_alike (found fs) n f = f fs

plain_alike : (t : ℕ) (Γ Δ : Scope ℕ) {L M : List (Label ℕ)} → RowsAlike L M → Alike (plain t Γ L) 0 (plain t Δ M) 0
plain_alike t Γ Δ r = both_ok (alike_node refl refl r) refl

field_alike : (f : Number) (n : ℕ) (Γ Δ : Scope ℕ) {L M : List (Label ℕ)} → RowsAlike L M → Alike (field_type f n Γ L) 0 (field_type f n Δ M) 0
field_alike (number t) n Γ Δ r = plain_alike t Γ Δ r
field_alike unknown n Γ Δ r = both_no refl

named_alike : (h : Hit ℕ) (n : ℕ) (Γ Δ : Scope ℕ) → Alike (named h n Γ) 0 (named h n Δ) 0
named_alike (hit t b) n Γ Δ = both_ok (alike_node refl refl alike_none) refl
named_alike miss n Γ Δ = both_no refl

agree_bind : {Γ Δ : Scope ℕ} (x t n : ℕ) → Agree Γ Δ → Agree (binds (inner Γ) x t n) (binds (inner Δ) x t n)
unfolding nearest
agree_bind {Γ} {Δ} x t n a = record { means = λ y. ap (λ h. pick (eqb x y) (hit t n) h) (a.means y) }

-- a binding means the same whatever block it belongs to
pub agree_index : (Γ : Scope ℕ) (x t n : ℕ) → Agree (binds Γ x t n) (binds (inner Γ) x t n)
unfolding nearest
agree_index Γ x t n = record { means = λ y. refl }

module _ (T : Tables) (C : Context ℕ) where
  mutual
    unfolding judging

    pub expr_alike : (e : Expr) (n : ℕ) (Γ Δ : Scope ℕ) → Agree Γ Δ → Alike (judge T C e n Γ) (judging T C e n Γ).pairs (judge T C e n Δ) (judging T C e n Δ).pairs
    expr_alike (null t) n Γ Δ a = needs_alike (formed T C t) 9 n (plain_alike t Γ Δ alike_none)
    expr_alike (literal l) n Γ Δ a = plain_alike (literal_type l) Γ Δ alike_none
    expr_alike (name x) n Γ Δ a =
        subst (λ h. Alike (named (or_else (find x Γ) (find_name x C.names)) n Γ) 0 (named (or_else h (find_name x C.names)) n Δ) 0) (a.means x)
        (named_alike (or_else (find x Γ) (find_name x C.names)) n Γ Δ)
    expr_alike (array_literal t es) n Γ Δ a =
        needs_alike (formed T C (referred T t)) 9 n
        (then_alike (exprs_alike es (n + 1) Γ Δ a) λ ts L M r. asks_alike (each_asked T C ts (referred T t)) 11 n (plain_alike t Γ Δ r))
    expr_alike (default_array t b) n Γ Δ a =
        needs_alike (formed T C (referred T t)) 9 n
        (then_alike (expr_alike b (n + 1) Γ Δ a) λ u L M r.
        needs_alike (is_kind T u 0) 10 n (needs_alike (has_default T (referred T t)) 16 n (plain_alike t Γ Δ r)))
    expr_alike (array_with t x b c) n Γ Δ a =
        needs_alike (formed T C (referred T t)) 9 n
        (then_alike (expr_alike b (n + 1) Γ Δ a) λ u L M r.
        needs_alike (is_kind T u 0) 10 n
        (then_alike (expr_alike c (n + 1 + size b) (binds (inner Γ) x 0 n) (binds (inner Δ) x 0 n) (agree_bind x 0 n a)) λ v N O s.
        asks_alike (asked T C v (referred T t)) 11 n (plain_alike t Γ Δ (rows_join r s))))
    expr_alike (index b c) n Γ Δ a =
        then_alike (expr_alike b (n + 1) Γ Δ a) λ t L M r.
        needs_alike (is_kind T t 5) 10 n
        (then_alike (expr_alike c (n + 1 + size b) Γ Δ a) λ u N O s. needs_alike (is_kind T u 0) 10 n (plain_alike (referred T t) Γ Δ (rows_join r s)))
    expr_alike (length_of b) n Γ Δ a = then_alike (expr_alike b (n + 1) Γ Δ a) λ t L M r. needs_alike (is_kind T t 5) 10 n (plain_alike 0 Γ Δ r)
    expr_alike (struct_literal t is) n Γ Δ a =
        declared_alike (lookup C.structs (referred T t)) n λ fs.
        needs_alike (names_fit fs is) 12 n
        (then_alike (inits_alike is (n + 1) Γ Δ a) λ ts L M r. asks_alike (inits_asked T C fs is ts) 11 n (plain_alike t Γ Δ r))
    expr_alike (field x b) n Γ Δ a =
        then_alike (expr_alike b (n + 1) Γ Δ a) λ t L M r.
        needs_alike (is_kind T t 4) 10 n (field_alike (field_of T (referred T t) x 0 (length C.structs)) n Γ Δ r)
    expr_alike (call b es) n Γ Δ a =
        then_alike (expr_alike b (n + 1) Γ Δ a) λ f L M r.
        needs_alike (is_kind T f 6) 10 n
        (needs_alike (not (is_kind T (referred T f) 3)) 13 n
        (needs_alike (eqb (count es) (type_at T f).c) 12 n
        (then_alike (exprs_alike es (n + 1 + size b) Γ Δ a) λ ts N O s.
        asks_alike (arguments_asked T C ts (type_at T f).b) 11 n (plain_alike (referred T f) Γ Δ (rows_join r s)))))
    expr_alike (unary x b) n Γ Δ a =
        then_alike (expr_alike b (n + 1) Γ Δ a) λ t L M r. needs_alike (is_kind T t (unary_type x)) 10 n (plain_alike (unary_type x) Γ Δ r)
    expr_alike (binary x b c) n Γ Δ a =
        then_alike (expr_alike b (n + 1) Γ Δ a) λ t L M r.
        needs_alike (is_equality x || is_kind T t (operand_type x)) 10 n
        (then_alike (expr_alike c (n + 1 + size b) Γ Δ a) λ u N O s.
        needs_alike (is_equality x || is_kind T u (operand_type x)) 10 n
        (asks_alike (equal_asked T C x t u) 11 n (plain_alike (result_type x) Γ Δ (rows_join r s))))

    pub exprs_alike : (es : Exprs) (n : ℕ) (Γ Δ : Scope ℕ) → Agree Γ Δ → Alike (judges T C es n Γ) (judging_all T C es n Γ).pairs (judges T C es n Δ) (judging_all T C es n Δ).pairs
    exprs_alike none n Γ Δ a = both_ok alike_none refl
    exprs_alike (also b es) n Γ Δ a =
        then_alike (expr_alike b n Γ Δ a) λ t L M r. then_alike (exprs_alike es (n + size b) Γ Δ a) λ ts N O s. both_ok (rows_join r s) refl

    pub inits_alike : (is : Inits) (n : ℕ) (Γ Δ : Scope ℕ) → Agree Γ Δ → Alike (judge_inits T C is n Γ) (judging_inits T C is n Γ).pairs (judge_inits T C is n Δ) (judging_inits T C is n Δ).pairs
    inits_alike no_init n Γ Δ a = both_ok alike_none refl
    inits_alike (init x b is) n Γ Δ a =
        then_alike (expr_alike b (n + 1) Γ Δ a) λ t L M r.
        then_alike (inits_alike is (n + 1 + size b) Γ Δ a) λ ts N O s. both_ok (alike_node refl refl (rows_join r s)) refl
