-- What the theorems on trees speak of: a file whose tables keep the rules, scopes and contexts of type numbers and what they are written
-- out, the labels of a tree's nodes in order, and a labelling that has given labels. Assumes nothing.
use mathlib.Core.Path.{◌≡◌}
use mathlib.Core.List.{List, [], ◌∷◌, ◌++◌}
use Prim.Native.Nat.{ℕ, ◌+◌, ◌≤◌, ◌<◌}
use lib.ListN.{length}
use Rattle.oat.specs.Tables.{Tables}
use Rattle.oat.specs.TypeRules.{kind_at}
use Rattle.oat.specs.Types.{Ty, type_of, structs_of}
use Rattle.oat.specs.Syntax.{Expr, null, literal, name, array_literal, default_array, array_with, index, length_of, struct_literal, field, call, unary, binary, Exprs, none, also, Inits, no_init, init, target_expr, Vars, no_var, next_var, Condition, no_condition, condition, Stmt, assign, var, return_value, return_void, call_stmt, if_else, if_null, for, while, Step, no_step, step, Block, block, Stmts, empty, then, size, size_target, size_vars, size_condition, size_step, size_block, size_stmt}
use Rattle.oat.proofs.LawsTypes.{TypesFormed}
use Rattle.oat.proofs.LawsTables.{TablesFormed}
use Rattle.typing_rules.specs.Contexts.{Binding, Bindings, unbound, bind, Scope, Entry, Context}
use Rattle.typing_rules.specs.Labels.{Result, gives, marks, nothing, Label, Labels}

-- the tables of a readable file
pub record File (T : Tables) : Type 0 where
  pub types : TypesFormed 200 T
  pub tables : TablesFormed T

-- a type number of the file that isn't void
pub record Value (T : Tables) (a : ℕ) : Type 0 where
  pub within : a < length T.types
  pub value : kind_at T a ≡ 3 → ⊥

-- the types of a scope's bindings, and of a context's names, are values
pub data BindingsFit (T : Tables) : Bindings ℕ → Type 0 where
  fits_empty : BindingsFit T unbound
  fits_bind : {B : Bindings ℕ} {b : Binding ℕ} → BindingsFit T B → Value T b.type → BindingsFit T (bind B b)

abbrev pub ScopeFits : Tables → Scope ℕ → Type 0
ScopeFits T Γ = BindingsFit T Γ.bindings

pub data NamesFit (T : Tables) : List (Entry ℕ) → Type 0 where
  fits_none : NamesFit T []
  fits_name : {e : Entry ℕ} {es : List (Entry ℕ)} → Value T e.type → NamesFit T es → NamesFit T (e ∷ es)

-- the context's structs are the first ones of the file
pub record ContextFits (T : Tables) (C : Context ℕ) : Type 0 where
  pub names : NamesFit T C.names
  pub structs : C.structs ≡ structs_of T (length C.structs)
  pub few : length C.structs ≤ length T.structs

-- written out
unfoldable pub erase_bindings : Tables → Bindings ℕ → Bindings Ty
erase_bindings T unbound = unbound
erase_bindings T (bind B b) = bind (erase_bindings T B) (record { name = b.name; type = type_of T b.type; binder = b.binder; level = b.level })

abbrev pub erase_scope : Tables → Scope ℕ → Scope Ty
erase_scope T Γ = record { level = Γ.level; bindings = erase_bindings T Γ.bindings }

abbrev pub erase_entry : Tables → Entry ℕ → Entry Ty
erase_entry T e = record { name = e.name; type = type_of T e.type; binder = e.binder; assignable = e.assignable }

unfoldable pub erase_names : Tables → List (Entry ℕ) → List (Entry Ty)
erase_names T [] = []
erase_names T (e ∷ es) = erase_entry T e ∷ erase_names T es

abbrev pub erase_context : Tables → Context ℕ → Context Ty
erase_context T C = record { structs = C.structs; names = erase_names T C.names }

abbrev pub erase_result : Tables → Result ℕ → Result Ty
erase_result T (gives a) = gives (type_of T a)
erase_result T (marks p) = marks p
erase_result T nothing = nothing

abbrev pub erase_label : Tables → Label ℕ → Label Ty
erase_label T l = record {
  result = erase_result T l.result;
  binder = l.binder;
  before = erase_scope T l.before;
  after = erase_scope T l.after;
}

unfoldable pub erase : Tables → List (Label ℕ) → List (Label Ty)
erase T [] = []
erase T (l ∷ L) = erase_label T l ∷ erase T L

-- the labels of a tree's nodes, in order
unfoldable mutual
  pub gather : Labels Ty → Expr → ℕ → List (Label Ty)
  gather D (null t) n = D n ∷ []
  gather D (literal l) n = D n ∷ []
  gather D (name x) n = D n ∷ []
  gather D (array_literal t es) n = D n ∷ gathers D es (n + 1)
  gather D (default_array t a) n = D n ∷ gather D a (n + 1)
  gather D (array_with t x a b) n = D n ∷ gather D a (n + 1) ++ gather D b (n + 1 + size a)
  gather D (index a b) n = D n ∷ gather D a (n + 1) ++ gather D b (n + 1 + size a)
  gather D (length_of a) n = D n ∷ gather D a (n + 1)
  gather D (struct_literal t is) n = D n ∷ gather_inits D is (n + 1)
  gather D (field x a) n = D n ∷ gather D a (n + 1)
  gather D (call a es) n = D n ∷ gather D a (n + 1) ++ gathers D es (n + 1 + size a)
  gather D (unary x a) n = D n ∷ gather D a (n + 1)
  gather D (binary x a b) n = D n ∷ gather D a (n + 1) ++ gather D b (n + 1 + size a)

  pub gathers : Labels Ty → Exprs → ℕ → List (Label Ty)
  gathers D none n = []
  gathers D (also a es) n = gather D a n ++ gathers D es (n + size a)

  pub gather_inits : Labels Ty → Inits → ℕ → List (Label Ty)
  gather_inits D no_init n = []
  gather_inits D (init x a is) n = D n ∷ gather D a (n + 1) ++ gather_inits D is (n + 1 + size a)

unfoldable pub gather_vars : Labels Ty → Vars → ℕ → List (Label Ty)
gather_vars D no_var n = []
gather_vars D (next_var x a vs) n = D n ∷ gather D a (n + 1) ++ gather_vars D vs (n + 1 + size a)

unfoldable pub gather_condition : Labels Ty → Condition → ℕ → List (Label Ty)
gather_condition D no_condition n = D n ∷ []
gather_condition D (condition a) n = gather D a n

unfoldable mutual
  pub gather_stmt : Labels Ty → Stmt → ℕ → List (Label Ty)
  gather_stmt D (assign g a) n = D n ∷ gather D (target_expr g) (n + 1) ++ gather D a (n + 1 + size_target g)
  gather_stmt D (var x a) n = D n ∷ gather D a (n + 1)
  gather_stmt D (return_value a) n = D n ∷ gather D a (n + 1)
  gather_stmt D return_void n = D n ∷ []
  gather_stmt D (call_stmt a es) n = D n ∷ gather D a (n + 1) ++ gathers D es (n + 1 + size a)
  gather_stmt D (if_else a b c) n = D n ∷ gather D a (n + 1) ++ (gather_block D b (n + 1 + size a) ++ gather_block D c (n + 1 + size a + size_block b))
  gather_stmt D (if_null x t a b c) n = D n ∷ gather D a (n + 1) ++ (gather_block D b (n + 1 + size a) ++ gather_block D c (n + 1 + size a + size_block b))
  gather_stmt D (for vs c s b) n =
      D n
      ∷ gather_vars D vs (n + 1)
      ++ (gather_condition D c (n + 1 + size_vars vs)
      ++ (gather_step D s (n + 1 + size_vars vs + size_condition c)
      ++ gather_block D b (n + 1 + size_vars vs + size_condition c + size_step s)))
  gather_stmt D (while a b) n = D n ∷ gather D a (n + 1) ++ gather_block D b (n + 1 + size a)

  pub gather_step : Labels Ty → Step → ℕ → List (Label Ty)
  gather_step D no_step n = D n ∷ []
  gather_step D (step s) n = gather_stmt D s n

  pub gather_block : Labels Ty → Block → ℕ → List (Label Ty)
  gather_block D (block ss) n = D n ∷ gather_stmts D ss (n + 1)

  pub gather_stmts : Labels Ty → Stmts → ℕ → List (Label Ty)
  gather_stmts D empty n = []
  gather_stmts D (then s ss) n = gather_stmt D s n ++ gather_stmts D ss (n + size_stmt s)

-- D has the labels L from n on
unfoldable pub Holds : Labels Ty → ℕ → List (Label Ty) → Type 0
Holds D n [] = Unit {0}
Holds D n (l ∷ L) = (D n ≡ l) × Holds D (n + 1) L
