-- The definition of the check on expressions and statements: premises in document 01's order, each with its number and place, over
-- type numbers. An accepted tree gives its result and the labels of its nodes, in order. Accepted or refused, it gives how many pairs of
-- types its subtype questions compared (document 02, (viii)): each question counts where it is tested. Assumes nothing.
use Rattle.std.specs.Prelude.{Bool, true, false, not, ◌&&◌, ◌||◌, List, [], ◌∷◌, ◌++◌, ℕ, zero, suc, ◌+◌, length, eqb}
use Rattle.oat.specs.Basics.{pick}
use Rattle.oat.specs.Tables.{Tables, type_at, entry_at, field_at, struct_at}
use Rattle.oat.specs.TypeRules.{kind_at}
use Rattle.oat.specs.Types.{type_of, Field, Lookup, found, missing, lookup}
use Rattle.oat.specs.Decide.{below, is_formed}
use Rattle.oat.specs.Pairs.{Compared, plainly, and_next, below_pairs}
use Rattle.oat.specs.Syntax.{Expr, null, literal, name, array_literal, default_array, array_with, index, length_of, struct_literal, field, call, unary, binary, Exprs, none, also, count, Inits, no_init, init, Target, name_target, index_target, field_target, target_expr, Vars, no_var, next_var, Condition, no_condition, condition, Stmt, assign, var, return_value, return_void, call_stmt, if_else, if_null, for, while, Step, no_step, step, Block, block, Stmts, empty, then, size, size_target, size_vars, size_condition, size_step, size_block, size_stmt}
use Rattle.typing_rules.specs.Contexts.{Scope, binds, inner, Hit, hit, miss, find, is_fresh, is_unbound, Context, find_name, is_fixed, or_else}
use Rattle.typing_rules.specs.Operators.{is_equality, operand_type, result_type, unary_type, literal_type}
use Rattle.typing_rules.specs.Labels.{gives, marks, Label, unlabelled}
use Rattle.typing_rules.specs.Rules.{names_fit, Member, has, lacks, member, both, while_mark}
use Rattle.typing_rules.specs.Derivations.{is_empty}

-- accepted with a value and labels, or refused with a number and a place
pub data Out (A : Type 0) : Type 0 where
  ok : A → List (Label ℕ) → Out A
  no : (number place : ℕ) → Out A

abbrev pub and_then : {A B : Type 0} → Out A → (A → List (Label ℕ) → Out B) → Out B
and_then (ok a L) k = k a L
and_then (no p q) k = no p q

abbrev pub needs : {A : Type 0} → Bool → ℕ → ℕ → Out A → Out A
needs true p q o = o
needs false p q o = no p q

-- an outcome, and how many pairs of types were compared up to it, the broken premise included
pub record Counted (A : Type 0) : Type 0 where
  pub out : Out A
  pub pairs : ℕ

-- nothing is compared
abbrev pub giving : {A : Type 0} → Out A → Counted A
giving o = record { out = o; pairs = 0 }

-- what goes on after an accepted outcome; a refusal ends the count
abbrev pub pairs_after : {A : Type 0} → Out A → (A → List (Label ℕ) → ℕ) → ℕ
pairs_after (ok a L) k = k a L
pairs_after (no p q) k = 0

abbrev pub and_counting : {A B : Type 0} → Counted A → (A → List (Label ℕ) → Counted B) → Counted B
and_counting x k = record { out = and_then x.out (λ a L. (k a L).out); pairs = x.pairs + pairs_after x.out (λ a L. (k a L).pairs) }

-- a premise that asks no subtype question
abbrev pub requires : {A : Type 0} → Bool → ℕ → ℕ → Counted A → Counted A
requires b p q o = record { out = needs b p q o.out; pairs = pick b o.pairs 0 }

-- a subtype question: its pairs count whether it holds or not
abbrev pub asks : {A : Type 0} → Compared → ℕ → ℕ → Counted A → Counted A
asks c p q o = record { out = needs c.holds p q o.out; pairs = c.pairs + pick c.holds o.pairs 0 }

-- the labels of an expression and of a statement
abbrev pub typed_as : ℕ → ℕ → Scope ℕ → Label ℕ
typed_as t b Γ = record { result = gives t; binder = b; before = Γ; after = Γ }

abbrev pub marked_as : ℕ → Scope ℕ → Scope ℕ → Label ℕ
marked_as p Γ Δ = record { result = marks p; binder = 65535; before = Γ; after = Δ }

-- an expression of the type t, after its children's labels
abbrev pub plain : ℕ → Scope ℕ → List (Label ℕ) → Out ℕ
plain t Γ L = ok t (typed_as t 65535 Γ ∷ L)

abbrev pub named : Hit ℕ → ℕ → Scope ℕ → Out ℕ
named (hit t b) n Γ = ok t (typed_as t b Γ ∷ [])
named miss n Γ = no 8 n

-- the type t is of the kind k
abbrev pub is_kind : Tables → ℕ → ℕ → Bool
is_kind T t k = eqb (kind_at T t) k

-- what the type t refers to: its element, return type or reference
abbrev pub referred : Tables → ℕ → ℕ
referred T t = (type_at T t).a

-- t is below u
abbrev pub is_below : Tables → Context ℕ → ℕ → ℕ → Bool
is_below T C t u = below C.structs (type_of T t) (type_of T u)

-- the question whether it is
abbrev pub asked : Tables → Context ℕ → ℕ → ℕ → Compared
asked T C t u = record { holds = is_below T C t u; pairs = below_pairs C.structs (type_of T t) (type_of T u) }

abbrev pub formed : Tables → Context ℕ → ℕ → Bool
formed T C t = is_formed C.structs (type_of T t)

-- an element with a default: int, bool or nullable
abbrev pub has_default : Tables → ℕ → Bool
has_default T t = is_kind T t 0 || is_kind T t 1 || is_kind T t 7

-- every type is below u, asked one after another
unfoldable pub each_asked : Tables → Context ℕ → List ℕ → ℕ → Compared
each_asked T C [] u = plainly true
each_asked T C (t ∷ ts) u = and_next (asked T C t u) (each_asked T C ts u)

abbrev pub each_below : Tables → Context ℕ → List ℕ → ℕ → Bool
each_below T C ts u = (each_asked T C ts u).holds

-- each type is below the parameter at its place, the first at the entry p of the type list
unfoldable pub arguments_asked : Tables → Context ℕ → List ℕ → ℕ → Compared
arguments_asked T C [] p = plainly true
arguments_asked T C (t ∷ ts) p = and_next (asked T C t (entry_at T p)) (arguments_asked T C ts (suc p))

abbrev pub arguments_below : Tables → Context ℕ → List ℕ → ℕ → Bool
arguments_below T C ts p = (arguments_asked T C ts p).holds

-- t is below u, and then u below t: what == and != ask, and other operators do not
abbrev pub equal_asked : Tables → Context ℕ → ℕ → ℕ → ℕ → Compared
equal_asked T C x t u = record {
  holds = not (is_equality x) || (is_below T C t u && is_below T C u t);
  pairs = pick (is_equality x) (and_next (asked T C t u) (asked T C u t)).pairs 0;
}

-- the type number of the field x among `count` fields from `first` on
pub data Number : Type 0 where
  number : ℕ → Number
  unknown : Number

unfoldable pub field_among : Tables → ℕ → ℕ → ℕ → Number
field_among T x first zero = unknown
field_among T x first (suc count) = pick (eqb (field_at T first).name x) (number (field_at T first).type) (field_among T x (suc first) count)

-- of the field x of the struct s, among `left` structs from i on
unfoldable pub field_of : Tables → ℕ → ℕ → ℕ → ℕ → Number
field_of T s x i zero = unknown
field_of T s x i (suc left) = pick (eqb (struct_at T i).name s) (field_among T x (struct_at T i).first (struct_at T i).count) (field_of T s x (suc i) left)

abbrev pub field_type : Number → ℕ → Scope ℕ → List (Label ℕ) → Out ℕ
field_type (number t) n Γ L = plain t Γ L
field_type unknown n Γ L = no 8 n

-- the fields of a declared struct
abbrev pub on_declared : {A : Type 0} → Lookup → ℕ → (List Field → Out A) → Out A
on_declared missing n k = no 9 n
on_declared (found fs) n k = k fs

abbrev pub pairs_declared : Lookup → (List Field → ℕ) → ℕ
pairs_declared missing k = 0
pairs_declared (found fs) k = k fs

abbrev pub where_declared : {A : Type 0} → Lookup → ℕ → (List Field → Counted A) → Counted A
where_declared l n k = record { out = on_declared l n (λ fs. (k fs).out); pairs = pairs_declared l (λ fs. (k fs).pairs) }

-- the value of a 22 is below its field's type
abbrev pub member_asked : Tables → Context ℕ → ℕ → Member → Compared
member_asked T C t lacks = plainly false
member_asked T C t (has u) = record { holds = below C.structs (type_of T t) u; pairs = below_pairs C.structs (type_of T t) u }

abbrev pub is_below_member : Tables → Context ℕ → ℕ → Member → Bool
is_below_member T C t m = (member_asked T C t m).holds

unfoldable pub inits_asked : Tables → Context ℕ → List Field → Inits → List ℕ → Compared
inits_asked T C fs no_init ts = plainly true
inits_asked T C fs (init x a is) [] = plainly true
inits_asked T C fs (init x a is) (t ∷ ts) = and_next (member_asked T C t (member x fs)) (inits_asked T C fs is ts)

abbrev pub inits_below : Tables → Context ℕ → List Field → Inits → List ℕ → Bool
inits_below T C fs is ts = (inits_asked T C fs is ts).holds

unfoldable mutual
  pub judging : Tables → Context ℕ → Expr → ℕ → Scope ℕ → Counted ℕ
  judging T C (null t) n Γ = requires (formed T C t) 9 n (giving (plain t Γ []))
  judging T C (literal l) n Γ = giving (plain (literal_type l) Γ [])
  judging T C (name x) n Γ = giving (named (or_else (find x Γ) (find_name x C.names)) n Γ)
  judging T C (array_literal t es) n Γ =
      requires (formed T C (referred T t)) 9 n
      (and_counting (judging_all T C es (n + 1) Γ) λ ts L.
      asks (each_asked T C ts (referred T t)) 11 n (giving (plain t Γ L)))
  judging T C (default_array t a) n Γ =
      requires (formed T C (referred T t)) 9 n
      (and_counting (judging T C a (n + 1) Γ) λ u L.
      requires (is_kind T u 0) 10 n
      (requires (has_default T (referred T t)) 16 n (giving (plain t Γ L))))
  judging T C (array_with t x a b) n Γ =
      requires (formed T C (referred T t)) 9 n
      (and_counting (judging T C a (n + 1) Γ) λ u L.
      requires (is_kind T u 0) 10 n
      (and_counting (judging T C b (n + 1 + size a) (binds (inner Γ) x 0 n)) λ v M.
      asks (asked T C v (referred T t)) 11 n (giving (plain t Γ (L ++ M)))))
  judging T C (index a b) n Γ =
      and_counting (judging T C a (n + 1) Γ) λ t L.
      requires (is_kind T t 5) 10 n
      (and_counting (judging T C b (n + 1 + size a) Γ) λ u M.
      requires (is_kind T u 0) 10 n (giving (plain (referred T t) Γ (L ++ M))))
  judging T C (length_of a) n Γ =
      and_counting (judging T C a (n + 1) Γ) λ t L.
      requires (is_kind T t 5) 10 n (giving (plain 0 Γ L))
  judging T C (struct_literal t is) n Γ =
      where_declared (lookup C.structs (referred T t)) n λ fs.
      requires (names_fit fs is) 12 n
      (and_counting (judging_inits T C is (n + 1) Γ) λ ts L.
      asks (inits_asked T C fs is ts) 11 n (giving (plain t Γ L)))
  judging T C (field x a) n Γ =
      and_counting (judging T C a (n + 1) Γ) λ t L.
      requires (is_kind T t 4) 10 n (giving (field_type (field_of T (referred T t) x 0 (length C.structs)) n Γ L))
  judging T C (call a es) n Γ =
      and_counting (judging T C a (n + 1) Γ) λ f L.
      requires (is_kind T f 6) 10 n
      (requires (not (is_kind T (referred T f) 3)) 13 n
      (requires (eqb (count es) (type_at T f).c) 12 n
      (and_counting (judging_all T C es (n + 1 + size a) Γ) λ ts M.
      asks (arguments_asked T C ts (type_at T f).b) 11 n (giving (plain (referred T f) Γ (L ++ M))))))
  judging T C (unary x a) n Γ =
      and_counting (judging T C a (n + 1) Γ) λ t L.
      requires (is_kind T t (unary_type x)) 10 n (giving (plain (unary_type x) Γ L))
  judging T C (binary x a b) n Γ =
      and_counting (judging T C a (n + 1) Γ) λ t L.
      requires (is_equality x || is_kind T t (operand_type x)) 10 n
      (and_counting (judging T C b (n + 1 + size a) Γ) λ u M.
      requires (is_equality x || is_kind T u (operand_type x)) 10 n
      (asks (equal_asked T C x t u) 11 n (giving (plain (result_type x) Γ (L ++ M)))))

  pub judging_all : Tables → Context ℕ → Exprs → ℕ → Scope ℕ → Counted (List ℕ)
  judging_all T C none n Γ = giving (ok [] [])
  judging_all T C (also a es) n Γ =
      and_counting (judging T C a n Γ) λ t L.
      and_counting (judging_all T C es (n + size a) Γ) λ ts M.
      giving (ok (t ∷ ts) (L ++ M))

  -- a 22 stands for its value
  pub judging_inits : Tables → Context ℕ → Inits → ℕ → Scope ℕ → Counted (List ℕ)
  judging_inits T C no_init n Γ = giving (ok [] [])
  judging_inits T C (init x a is) n Γ =
      and_counting (judging T C a (n + 1) Γ) λ t L.
      and_counting (judging_inits T C is (n + 1 + size a) Γ) λ ts M.
      giving (ok (t ∷ ts) (unlabelled ∷ L ++ M))

-- a statement's mark, and the scope after it
pub record Done : Type 0 where
  pub mark : ℕ
  pub scope : Scope ℕ

abbrev pub done : ℕ → Scope ℕ → Done
done p Γ = record { mark = p; scope = Γ }

-- a statement with the mark p, after its children's labels
abbrev pub ends : ℕ → Scope ℕ → Scope ℕ → List (Label ℕ) → Out Done
ends p Γ Δ L = ok (done p Δ) (marked_as p Γ Δ ∷ L)

-- the name of a function or of a built-in, where no local hides it, cannot be assigned
unfoldable pub assigns_to : Context ℕ → Scope ℕ → Target → Bool
assigns_to C Γ (name_target x) = pick (is_unbound x Γ) (not (is_fixed x C.names)) true
assigns_to C Γ (index_target a b) = true
assigns_to C Γ (field_target x a) = true

-- the vars of a for, from the node n on: the scope after them
unfoldable pub executing_vars : Tables → Context ℕ → Vars → ℕ → Scope ℕ → Counted (Scope ℕ)
executing_vars T C no_var n Γ = giving (ok Γ [])
executing_vars T C (next_var x a vs) n Γ =
    and_counting (judging T C a (n + 1) Γ) λ t L.
    requires (is_fresh x Γ) 7 n
    (and_counting (executing_vars T C vs (n + 1 + size a) (binds Γ x t n)) λ Δ M.
    giving (ok Δ (marked_as 0 Γ (binds Γ x t n) ∷ L ++ M)))

-- the condition of the for at n, which stands at m: a condition of the wrong sort breaks at the for
unfoldable pub judging_condition : Tables → Context ℕ → Condition → ℕ → ℕ → Scope ℕ → Counted (Scope ℕ)
judging_condition T C no_condition m n Γ = giving (ok Γ (unlabelled ∷ []))
judging_condition T C (condition a) m n Γ =
    and_counting (judging T C a m Γ) λ t L.
    requires (is_kind T t 1) 10 n (giving (ok Γ L))

-- rt is the number of the return type, `last` says whether the statement is the last of its block
unfoldable mutual
  pub executing : Tables → Context ℕ → ℕ → Bool → Stmt → ℕ → Scope ℕ → Counted Done
  executing T C rt last (assign g a) n Γ =
      requires (assigns_to C Γ g) 15 n
      (and_counting (judging T C (target_expr g) (n + 1) Γ) λ t L.
      and_counting (judging T C a (n + 1 + size_target g) Γ) λ u M.
      asks (asked T C u t) 11 n (giving (ends 0 Γ Γ (L ++ M))))
  executing T C rt last (var x a) n Γ =
      and_counting (judging T C a (n + 1) Γ) λ t L.
      requires (is_fresh x Γ) 7 n (giving (ends 0 Γ (binds Γ x t n) L))
  executing T C rt last (return_value a) n Γ =
      requires (not (is_kind T rt 3)) 13 n
      (and_counting (judging T C a (n + 1) Γ) λ t L.
      asks (asked T C t rt) 11 n (giving (ends 1 Γ Γ L)))
  executing T C rt last return_void n Γ = requires (is_kind T rt 3) 13 n (giving (ends 1 Γ Γ []))
  executing T C rt last (call_stmt a es) n Γ =
      and_counting (judging T C a (n + 1) Γ) λ f L.
      requires (is_kind T f 6) 10 n
      (requires (is_kind T (referred T f) 3) 13 n
      (requires (eqb (count es) (type_at T f).c) 12 n
      (and_counting (judging_all T C es (n + 1 + size a) Γ) λ ts M.
      asks (arguments_asked T C ts (type_at T f).b) 11 n (giving (ends 0 Γ Γ (L ++ M))))))
  executing T C rt last (if_else a b c) n Γ =
      and_counting (judging T C a (n + 1) Γ) λ t L.
      requires (is_kind T t 1) 10 n
      (and_counting (executing_block T C rt b (n + 1 + size a) (inner Γ)) λ p M.
      and_counting (executing_block T C rt c (n + 1 + size a + size_block b) (inner Γ)) λ q N.
      giving (ends (both p q) Γ Γ (L ++ (M ++ N))))
  executing T C rt last (if_null x t a b c) n Γ =
      and_counting (judging T C a (n + 1) Γ) λ u L.
      requires (is_kind T u 7) 10 n
      (asks (asked T C (referred T u) t) 11 n
      (and_counting (executing_block T C rt b (n + 1 + size a) (inner (binds (inner Γ) x t n))) λ p M.
      and_counting (executing_block T C rt c (n + 1 + size a + size_block b) (inner Γ)) λ q N.
      giving (ends (both p q) Γ Γ (L ++ (M ++ N)))))
  executing T C rt last (for vs c s b) n Γ =
      and_counting (executing_vars T C vs (n + 1) (inner Γ)) λ Δ L.
      and_counting (judging_condition T C c (n + 1 + size_vars vs) n Δ) λ Δ₁ M.
      and_counting (executing_step T C rt s (n + 1 + size_vars vs + size_condition c) Δ) λ p N.
      and_counting (executing_block T C rt b (n + 1 + size_vars vs + size_condition c + size_step s) (inner Δ)) λ q O.
      giving (ends 0 Γ Γ (L ++ (M ++ (N ++ O))))
  executing T C rt last (while a b) n Γ =
      and_counting (judging T C a (n + 1) Γ) λ t L.
      requires (is_kind T t 1) 10 n
      (and_counting (executing_block T C rt b (n + 1 + size a) (inner Γ)) λ p M.
      giving (ends (while_mark last a) Γ Γ (L ++ M)))

  -- a returning step breaks at itself
  pub executing_step : Tables → Context ℕ → ℕ → Step → ℕ → Scope ℕ → Counted ℕ
  executing_step T C rt no_step n Γ = giving (ok 0 (unlabelled ∷ []))
  executing_step T C rt (step s) n Γ =
      and_counting (executing T C rt false s n Γ) λ d L.
      requires (eqb d.mark 0) 14 n (giving (ok 0 L))

  -- a block's mark
  pub executing_block : Tables → Context ℕ → ℕ → Block → ℕ → Scope ℕ → Counted ℕ
  executing_block T C rt (block ss) n Γ =
      and_counting (executing_all T C rt ss (n + 1) n 0 Γ) λ p L.
      giving (ok p (marked_as p Γ Γ ∷ L))

  -- the statements from n on, after the one at `previous` with the mark p, which must go on if it isn't the last; the mark of the last
  pub executing_all : Tables → Context ℕ → ℕ → Stmts → ℕ → ℕ → ℕ → Scope ℕ → Counted ℕ
  executing_all T C rt empty n previous p Γ = giving (ok p [])
  executing_all T C rt (then s ss) n previous p Γ =
      requires (eqb p 0) 14 previous
      (and_counting (executing T C rt (is_empty ss) s n Γ) λ d L.
      and_counting (executing_all T C rt ss (n + size_stmt s) n d.mark d.scope) λ q M.
      giving (ok q (L ++ M)))

-- the outcomes alone
abbrev pub judge : Tables → Context ℕ → Expr → ℕ → Scope ℕ → Out ℕ
judge T C e n Γ = (judging T C e n Γ).out

abbrev pub judges : Tables → Context ℕ → Exprs → ℕ → Scope ℕ → Out (List ℕ)
judges T C es n Γ = (judging_all T C es n Γ).out

abbrev pub judge_inits : Tables → Context ℕ → Inits → ℕ → Scope ℕ → Out (List ℕ)
judge_inits T C is n Γ = (judging_inits T C is n Γ).out

abbrev pub execute_vars : Tables → Context ℕ → Vars → ℕ → Scope ℕ → Out (Scope ℕ)
execute_vars T C vs n Γ = (executing_vars T C vs n Γ).out

abbrev pub judge_condition : Tables → Context ℕ → Condition → ℕ → ℕ → Scope ℕ → Out (Scope ℕ)
judge_condition T C c m n Γ = (judging_condition T C c m n Γ).out

abbrev pub execute : Tables → Context ℕ → ℕ → Bool → Stmt → ℕ → Scope ℕ → Out Done
execute T C rt last s n Γ = (executing T C rt last s n Γ).out

abbrev pub execute_step : Tables → Context ℕ → ℕ → Step → ℕ → Scope ℕ → Out ℕ
execute_step T C rt s n Γ = (executing_step T C rt s n Γ).out

abbrev pub execute_block : Tables → Context ℕ → ℕ → Block → ℕ → Scope ℕ → Out ℕ
execute_block T C rt b n Γ = (executing_block T C rt b n Γ).out

abbrev pub execute_all : Tables → Context ℕ → ℕ → Stmts → ℕ → ℕ → ℕ → Scope ℕ → Out ℕ
execute_all T C rt ss n previous p Γ = (executing_all T C rt ss n previous p Γ).out
