-- Document 001, section 4, as document 01 reads it, with while as in document 02, (i), and blocks as in (vi): the typing rules, one
-- constructor for each printed rule and named after it (rules that differ in a table of operators or literals alone share one), premises
-- in written order. A rule relates the label of a node to those of its children; nothing is threaded. T has the file's types, C is the
-- context, D labels the nodes. Assumes nothing.
use Rattle.std.specs.Prelude.{◌≡◌, Bool, true, false, not, ◌&&◌, List, [], ◌∷◌, ℕ, ◌+◌, length, eqb}
use Rattle.oat.specs.Basics.{pick}
use Rattle.oat.specs.Tables.{Tables}
use Rattle.oat.specs.Types.{Ty, int, bool, void, struct, array, function, nullable, Tys, no_ty, and_ty, type_of, Field, Struct, found, lookup}
use Rattle.oat.specs.Subtyping.{Sub, SubAll, Formed}
use Rattle.oat.specs.Syntax.{Literal, truth, falsity, integer, text, Expr, null, literal, name, array_literal, default_array, array_with, index, length_of, struct_literal, field, call, unary, binary, Exprs, none, also, Inits, no_init, init, Target, name_target, index_target, field_target, Vars, no_var, next_var, Condition, no_condition, condition, Stmt, assign, var, return_value, return_void, call_stmt, if_else, if_null, for, while, Step, no_step, step, Block, block, Stmts, empty, then, size, size_target, size_vars, size_condition, size_step, size_block, size_stmt, count_inits}
use Rattle.typing_rules.specs.Contexts.{Scope, binds, inner, hit, miss, find, is_fresh, is_unbound, Context, find_name, is_fixed}
use Rattle.typing_rules.specs.Operators.{is_equality, operand_type, result_type, unary_type, base_type, literal_type}
use Rattle.typing_rules.specs.Labels.{gives, marks, Labels, unlabelled}

-- a premise H; G; L ⊢ exp : t about the child at m
pub record Typed (D : Labels Ty) (m : ℕ) (Γ : Scope Ty) (t : Ty) : Type 0 where
  pub scope : (D m).before ≡ Γ
  pub type : (D m).result ≡ gives t

-- a premise H; G; L; rt ⊢ block; r about the child at m, or one about a statement's mark
pub record Marked (D : Labels Ty) (m : ℕ) (Γ : Scope Ty) (p : ℕ) : Type 0 where
  pub scope : (D m).before ≡ Γ
  pub mark : (D m).result ≡ marks p

-- a conclusion: the node has the type t; an expression's scope after is its scope before
pub record Has (D : Labels Ty) (n : ℕ) (t : Ty) (binder : ℕ) : Type 0 where
  pub type : (D n).result ≡ gives t
  pub binder_is : (D n).binder ≡ binder
  pub after : (D n).after ≡ (D n).before

-- a conclusion: the node has the mark p and the scope Δ after it
pub record Ends (D : Labels Ty) (n : ℕ) (p : ℕ) (Δ : Scope Ty) : Type 0 where
  pub mark : (D n).result ≡ marks p
  pub binder_is : (D n).binder ≡ 65535
  pub after : (D n).after ≡ Δ

-- exp₁ : t₁ .. expₙ : tₙ, the first at m
pub data TypedAll (D : Labels Ty) (Γ : Scope Ty) : ℕ → Exprs → Tys → Type 0 where
  typed_none : {m : ℕ} → TypedAll D Γ m none no_ty
  typed_also : {m : ℕ} {a : Expr} {es : Exprs} {t : Ty} {ts : Tys} → Typed D m Γ t → TypedAll D Γ (m + size a) es ts → TypedAll D Γ m (also a es) (and_ty t ts)

-- H ⊢ t₁ ≤ u .. H ⊢ tₙ ≤ u
pub data SubEach (H : List Struct) (u : Ty) : Tys → Type 0 where
  each_none : SubEach H u no_ty
  each_also : {t : Ty} {ts : Tys} → Sub H t u → SubEach H u ts → SubEach H u (and_ty t ts)

-- t ∈ {int, bool, r?}
pub data HasDefault : Ty → Type 0 where
  default_int : HasDefault int
  default_bool : HasDefault bool
  default_null : {r : Ty} → HasDefault (nullable r)

-- the type of the field x; the first of that name
pub data Member : Type 0 where
  has : Ty → Member
  lacks : Member

unfoldable pub member : ℕ → List Field → Member
member x [] = lacks
member x (f ∷ fs) = pick (eqb f.name x) (has f.type) (member x fs)

-- how often a name stands among fields, and among initializers
unfoldable pub declared_times : ℕ → List Field → ℕ
declared_times x [] = 0
declared_times x (f ∷ fs) = pick (eqb f.name x) 1 0 + declared_times x fs

unfoldable pub named_times : ℕ → Inits → ℕ
named_times x no_init = 0
named_times x (init y a is) = pick (eqb y x) 1 0 + named_times x is

unfoldable pub each_once : List Field → Inits → List Field → Bool
each_once fs is [] = true
each_once fs is (f ∷ gs) = eqb (declared_times f.name fs) 1 && eqb (named_times f.name is) 1 && each_once fs is gs

-- the literal names every field once, in any order, and no other; its struct declares no name twice
unfoldable pub names_fit : List Field → Inits → Bool
names_fit fs is = eqb (count_inits is) (length fs) && each_once fs is fs

-- the values of field initializers; a 22 stands for its value
pub data TypedInits (D : Labels Ty) (Γ : Scope Ty) : ℕ → Inits → Tys → Type 0 where
  typed_no_init : {m : ℕ} → TypedInits D Γ m no_init no_ty
  typed_init : {m x : ℕ} {a : Expr} {is : Inits} {t : Ty} {ts : Tys} → D m ≡ unlabelled → Typed D (m + 1) Γ t → TypedInits D Γ (m + 1 + size a) is ts → TypedInits D Γ m (init x a is) (and_ty t ts)

-- each value's type is below that of the field that it initializes
pub data InitsBelow (H : List Struct) (fs : List Field) : Inits → Tys → Type 0 where
  below_no_init : InitsBelow H fs no_init no_ty
  below_init : {x : ℕ} {a : Expr} {is : Inits} {t : Ty} {ts : Tys} (u : Ty) → member x fs ≡ has u → Sub H t u → InitsBelow H fs is ts → InitsBelow H fs (init x a is) (and_ty t ts)

-- the rules of expressions
pub data ExprRule (T : Tables) (C : Context Ty) (D : Labels Ty) (n : ℕ) : Expr → Type 0 where
  typ_null : {t : ℕ} (r : Ty) → type_of T t ≡ nullable r → Formed C.structs r → Has D n (nullable r) 65535 → ExprRule T C D n (null t)
  -- TYP_BOOL_TRUE, TYP_BOOL_FALSE, TYP_INT, TYP_STRING
  typ_literal : {l : Literal} → Has D n (base_type (literal_type l)) 65535 → ExprRule T C D n (literal l)
  typ_local : {x : ℕ} (t : Ty) (b : ℕ) → find x (D n).before ≡ hit t b → Has D n t b → ExprRule T C D n (name x)
  typ_global : {x : ℕ} (t : Ty) (b : ℕ) → find x (D n).before ≡ miss → find_name x C.names ≡ hit t b → Has D n t b → ExprRule T C D n (name x)
  typ_carr : {t : ℕ} {es : Exprs} (u : Ty) (ts : Tys) → type_of T t ≡ array u → Formed C.structs u → TypedAll D (D n).before (n + 1) es ts → SubEach C.structs u ts → Has D n (array u) 65535 → ExprRule T C D n (array_literal t es)
  typ_newarray : {t : ℕ} {a : Expr} (u : Ty) → type_of T t ≡ array u → Formed C.structs u → Typed D (n + 1) (D n).before int → HasDefault u → Has D n (array u) 65535 → ExprRule T C D n (default_array t a)
  -- the index name forms a block, with the value in it; nothing is asked of it
  typ_newarrayinit : {t x : ℕ} {a b : Expr} (u v : Ty) → type_of T t ≡ array u → Formed C.structs u → Typed D (n + 1) (D n).before int → Typed D (n + 1 + size a) (binds (inner (D n).before) x int n) v → Sub C.structs v u → Has D n (array u) 65535 → ExprRule T C D n (array_with t x a b)
  typ_index : {a b : Expr} (t : Ty) → Typed D (n + 1) (D n).before (array t) → Typed D (n + 1 + size a) (D n).before int → Has D n t 65535 → ExprRule T C D n (index a b)
  typ_length : {a : Expr} (t : Ty) → Typed D (n + 1) (D n).before (array t) → Has D n int 65535 → ExprRule T C D n (length_of a)
  typ_structex : {t : ℕ} {is : Inits} (s : ℕ) (fs : List Field) (ts : Tys) → type_of T t ≡ struct s → lookup C.structs s ≡ found fs → names_fit fs is ≡ true → TypedInits D (D n).before (n + 1) is ts → InitsBelow C.structs fs is ts → Has D n (struct s) 65535 → ExprRule T C D n (struct_literal t is)
  typ_field : {x : ℕ} {a : Expr} (s : ℕ) (fs : List Field) (t : Ty) → Typed D (n + 1) (D n).before (struct s) → lookup C.structs s ≡ found fs → member x fs ≡ has t → Has D n t 65535 → ExprRule T C D n (field x a)
  typ_call : {a : Expr} {es : Exprs} (us ts : Tys) (t : Ty) → Typed D (n + 1) (D n).before (function us t) → (t ≡ void → ⊥) → TypedAll D (D n).before (n + 1 + size a) es ts → SubAll C.structs ts us → Has D n t 65535 → ExprRule T C D n (call a es)
  -- TYP_BOP, with TYP_INTOPS, TYP_CMPOPS and TYP_BOOLOPS in the tables of operators
  typ_bop : {x : ℕ} {a b : Expr} → is_equality x ≡ false → Typed D (n + 1) (D n).before (base_type (operand_type x)) → Typed D (n + 1 + size a) (D n).before (base_type (operand_type x)) → Has D n (base_type (result_type x)) 65535 → ExprRule T C D n (binary x a b)
  -- TYP_EQ, TYP_NEQ
  typ_eq : {x : ℕ} {a b : Expr} (t u : Ty) → is_equality x ≡ true → Typed D (n + 1) (D n).before t → Typed D (n + 1 + size a) (D n).before u → Sub C.structs t u → Sub C.structs u t → Has D n bool 65535 → ExprRule T C D n (binary x a b)
  -- TYP_UOP, with TYP_NEG, TYP_LOGNOT and TYP_BITNEG in the table
  typ_uop : {x : ℕ} {a : Expr} → Typed D (n + 1) (D n).before (base_type (unary_type x)) → Has D n (base_type (unary_type x)) 65535 → ExprRule T C D n (unary x a)

-- the name of a function or of a built-in, where no local hides it, cannot be assigned
unfoldable pub assigns : Context Ty → Scope Ty → Target → Bool
assigns C Γ (name_target x) = pick (is_unbound x Γ) (not (is_fixed x C.names)) true
assigns C Γ (index_target a b) = true
assigns C Γ (field_target x a) = true

-- r₁ ∧ r₂
abbrev pub both : ℕ → ℕ → ℕ
both p q = pick (eqb p 0) 0 q

-- the expression is the node `true`
abbrev pub is_true : Expr → Bool
is_true (literal truth) = true
is_true (literal falsity) = false
is_true (literal (integer x)) = false
is_true (literal (text x)) = false
is_true (null t) = false
is_true (name x) = false
is_true (array_literal t es) = false
is_true (default_array t a) = false
is_true (array_with t x a b) = false
is_true (index a b) = false
is_true (length_of a) = false
is_true (struct_literal t is) = false
is_true (field x a) = false
is_true (call a es) = false
is_true (unary x a) = false
is_true (binary x a b) = false

-- document 02, (i): a while whose condition a is the node `true` returns where it is the last statement of its block, since it never ends;
-- any other while, and as a for's step this one too, goes on
abbrev pub while_mark : Bool → Expr → ℕ
while_mark last a = pick (last && is_true a) 1 0

-- the vars of a for from m on, from the scope Γ to the scope Δ
unfoldable pub VarsChain : Labels Ty → ℕ → Vars → Scope Ty → Scope Ty → Type 0
VarsChain D m no_var Γ Δ = Δ ≡ Γ
VarsChain D m (next_var x a vs) Γ Δ = Marked D m Γ 0 × VarsChain D (m + 1 + size a) vs (D m).after Δ

-- an absent condition or step adds no premise; a step goes on
unfoldable pub ConditionHolds : Labels Ty → ℕ → Scope Ty → Condition → Type 0
ConditionHolds D m Γ no_condition = D m ≡ unlabelled
ConditionHolds D m Γ (condition a) = Typed D m Γ bool

unfoldable pub StepGoesOn : Labels Ty → ℕ → Scope Ty → Step → Type 0
StepGoesOn D m Γ no_step = D m ≡ unlabelled
StepGoesOn D m Γ (step s) = Marked D m Γ 0

-- TYP_STMTS: the statements of a block from m on, after one with the mark p, in the scope Γ; q is the mark of the last. Only the last may
-- return; an empty block may go on.
unfoldable pub Chain : Labels Ty → ℕ → Stmts → ℕ → Scope Ty → ℕ → Type 0
Chain D m empty p Γ q = q ≡ p
Chain D m (then s ss) p Γ q = (r : ℕ) × (p ≡ 0) × Marked D m Γ r × Chain D (m + size_stmt s) ss r (D m).after q

-- the rules of statements; rt is the return type, `last` says whether the statement is the last of its block
pub data StmtRule (T : Tables) (C : Context Ty) (D : Labels Ty) (rt : Ty) (last : Bool) (n : ℕ) : Stmt → Type 0 where
  typ_assn : {g : Target} {a : Expr} (t u : Ty) → assigns C (D n).before g ≡ true → Typed D (n + 1) (D n).before t → Typed D (n + 1 + size_target g) (D n).before u → Sub C.structs u t → Ends D n 0 (D n).before → StmtRule T C D rt last n (assign g a)
  -- TYP_STMTDECL with TYP_DECL
  typ_decl : {x : ℕ} {a : Expr} (t : Ty) → Typed D (n + 1) (D n).before t → is_fresh x (D n).before ≡ true → Ends D n 0 (binds (D n).before x t n) → StmtRule T C D rt last n (var x a)
  typ_rett : {a : Expr} (t : Ty) → (rt ≡ void → ⊥) → Typed D (n + 1) (D n).before t → Sub C.structs t rt → Ends D n 1 (D n).before → StmtRule T C D rt last n (return_value a)
  typ_retvoid : rt ≡ void → Ends D n 1 (D n).before → StmtRule T C D rt last n return_void
  typ_scall : {a : Expr} {es : Exprs} (us ts : Tys) → Typed D (n + 1) (D n).before (function us void) → TypedAll D (D n).before (n + 1 + size a) es ts → SubAll C.structs ts us → Ends D n 0 (D n).before → StmtRule T C D rt last n (call_stmt a es)
  -- the blocks of if, if?, while and for are inner blocks; the name of an if? forms one around its first block, and a for's variables and step
  -- form one around the for's block, with the condition in it
  typ_if : {a : Expr} {b c : Block} (p q : ℕ) → Typed D (n + 1) (D n).before bool → Marked D (n + 1 + size a) (inner (D n).before) p → Marked D (n + 1 + size a + size_block b) (inner (D n).before) q → Ends D n (both p q) (D n).before → StmtRule T C D rt last n (if_else a b c)
  typ_ifq : {x t : ℕ} {a : Expr} {b c : Block} (r : Ty) (p q : ℕ) → Typed D (n + 1) (D n).before (nullable r) → Sub C.structs r (type_of T t) → Marked D (n + 1 + size a) (inner (binds (inner (D n).before) x (type_of T t) n)) p → Marked D (n + 1 + size a + size_block b) (inner (D n).before) q → Ends D n (both p q) (D n).before → StmtRule T C D rt last n (if_null x t a b c)
  typ_while : {a : Expr} {b : Block} (p : ℕ) → Typed D (n + 1) (D n).before bool → Marked D (n + 1 + size a) (inner (D n).before) p → Ends D n (while_mark last a) (D n).before → StmtRule T C D rt last n (while a b)
  typ_for : {vs : Vars} {c : Condition} {s : Step} {b : Block} (Δ : Scope Ty) (p : ℕ) → VarsChain D (n + 1) vs (inner (D n).before) Δ → ConditionHolds D (n + 1 + size_vars vs) Δ c → StepGoesOn D (n + 1 + size_vars vs + size_condition c) Δ s → Marked D (n + 1 + size_vars vs + size_condition c + size_step s) (inner Δ) p → Ends D n 0 (D n).before → StmtRule T C D rt last n (for vs c s b)

-- TYP_BLOCK
pub data BlockRule (D : Labels Ty) (n : ℕ) : Block → Type 0 where
  typ_block : {ss : Stmts} (q : ℕ) → Chain D (n + 1) ss 0 (D n).before q → Ends D n q (D n).before → BlockRule D n (block ss)
