-- Document 01, 'Steps and the order of premises', and derivations of steps, of the first n steps together and of a file. Assumes nothing.
use Rattle.std.specs.Prelude.{◌≡◌, Bool, true, false, List, [], ◌∷◌, ◌++◌, ℕ, zero, suc, ◌+◌, ◌≤◌, ◌<◌, length, take, eqb}
use Rattle.oat.specs.Basics.{pick, tabulate}
use Rattle.oat.specs.Tables.{Tables, type_at, entry_at, struct_at, built_in_at}
use Rattle.oat.specs.Types.{Ty, void, type_of, Field, Struct, struct_of, missing, lookup}
use Rattle.oat.specs.Subtyping.{Formed}
use Rattle.oat.specs.Syntax.{Expr, Block, Decl, global, function, size, size_block, size_decl}
use Rattle.oat.specs.ProgramFile.{Program}
use Rattle.typing_rules.specs.Contexts.{Scope, empty, binds, miss, Context, find_name}
use Rattle.typing_rules.specs.Labels.{Result, gives, marks, nothing, Labels, unlabelled}
use Rattle.typing_rules.specs.Derivations.{Derives, DerivesBlock}

-- one step for each record or declaration; n is the node of a declaration
pub data Step : Type 0 where
  struct_name : (i : ℕ) → Step
  built_in : (i : ℕ) → Step
  heading : (n x t : ℕ) → Step
  global_value : (n x : ℕ) → (a : Expr) → Step
  struct_fields : (i : ℕ) → Step
  body : (n t : ℕ) → (ps : List ℕ) → (b : Block) → Step

-- the steps of each group of declarations that stand from the node n on, in file order
unfoldable pub headings : ℕ → List Decl → List Step
headings n [] = []
headings n (global x a ∷ ds) = headings (n + size_decl (global x a)) ds
headings n (function x t ps b ∷ ds) = heading n x t ∷ headings (n + size_decl (function x t ps b)) ds

unfoldable pub globals : ℕ → List Decl → List Step
globals n [] = []
globals n (global x a ∷ ds) = global_value n x a ∷ globals (n + size_decl (global x a)) ds
globals n (function x t ps b ∷ ds) = globals (n + size_decl (function x t ps b)) ds

unfoldable pub bodies : ℕ → List Decl → List Step
bodies n [] = []
bodies n (global x a ∷ ds) = bodies (n + size_decl (global x a)) ds
bodies n (function x t ps b ∷ ds) = body n t ps b ∷ bodies (n + size_decl (function x t ps b)) ds

-- struct names; built-ins; function headings; globals; struct fields; function bodies
unfoldable pub steps_of : Program → List Step
steps_of p =
    tabulate (length p.tables.structs) struct_name
    ++ (tabulate (length p.tables.built_ins) built_in
    ++ (headings 0 p.declarations
    ++ (globals 0 p.declarations
    ++ (tabulate (length p.tables.structs) struct_fields ++ bodies 0 p.declarations))))

-- the names of fields are distinct, and those of parameters
unfoldable pub has_field : ℕ → List Field → Bool
has_field x [] = false
has_field x (f ∷ fs) = pick (eqb f.name x) true (has_field x fs)

unfoldable pub distinct_fields : List Field → Bool
distinct_fields [] = true
distinct_fields (f ∷ fs) = pick (has_field f.name fs) false (distinct_fields fs)

unfoldable pub is_among : ℕ → List ℕ → Bool
is_among x [] = false
is_among x (y ∷ ys) = pick (eqb y x) true (is_among x ys)

unfoldable pub distinct_names : List ℕ → Bool
distinct_names [] = true
distinct_names (x ∷ xs) = pick (is_among x xs) false (distinct_names xs)

-- every field's type is well-formed
pub data FieldsFormed (H : List Struct) : List Field → Type 0 where
  formed_no_field : FieldsFormed H []
  formed_field : {f : Field} {fs : List Field} → Formed H f.type → FieldsFormed H fs → FieldsFormed H (f ∷ fs)

-- the parameters, in order, the first of the type in the entry p of the type list and bound by the node m; `written` writes a number out
unfoldable pub parameters : {A : Type 0} → (ℕ → A) → Tables → Scope A → ℕ → ℕ → List ℕ → Scope A
parameters written T Γ p m [] = Γ
parameters written T Γ p m (x ∷ xs) = parameters written T (binds Γ x (written (entry_at T p)) m) (suc p) (suc m) xs

-- the nodes from n on, k of them, are given nothing
unfoldable pub Unlabelled : Labels Ty → ℕ → ℕ → Type 0
Unlabelled D n zero = Unit {0}
Unlabelled D n (suc k) = (D n ≡ unlabelled) × Unlabelled D (suc n) k

-- a derivation of a step in the context C: its premises, and the labels of its nodes
pub data StepRule (T : Tables) (C : Context Ty) (D : Labels Ty) : Step → Type 0 where
  -- S ∉ H
  typ_stdecl : {i : ℕ} → lookup C.structs (struct_at T i).name ≡ missing → StepRule T C D (struct_name i)
  typ_builtin : {i : ℕ} → Formed C.structs (type_of T (built_in_at T i).type) → find_name (built_in_at T i).name C.names ≡ miss → StepRule T C D (built_in i)
  -- TYP_FTYP, and f ∉ G
  typ_ftyp : {n x t : ℕ} → Formed C.structs (type_of T t) → find_name x C.names ≡ miss → StepRule T C D (heading n x t)
  typ_ggdecl : {n x : ℕ} {a : Expr} → D n ≡ unlabelled → (D (n + 1)).before ≡ empty → Derives T C D a (n + 1) → find_name x C.names ≡ miss → StepRule T C D (global_value n x a)
  typ_tdeclok : {i : ℕ} → FieldsFormed C.structs (struct_of T i).fields → distinct_fields (struct_of T i).fields ≡ true → StepRule T C D (struct_fields i)
  -- the parameters and the body's block are one block
  typ_fdeclok : {n t : ℕ} {ps : List ℕ} {b : Block} → distinct_names ps ≡ true → Unlabelled D n (1 + length ps) → (D (n + 1 + length ps)).before ≡ parameters (type_of T) T empty (type_at T t).b (n + 1) ps → DerivesBlock T C D (type_of T (type_at T t).a) b (n + 1 + length ps) → (D (n + 1 + length ps)).result ≡ marks 1 → StepRule T C D (body n t ps b)

-- the type that a label gives; a global's type is its initializer's
abbrev pub type_given : Result Ty → Ty
type_given (gives t) = t
type_given (marks p) = void
type_given nothing = void

abbrev pub add_name : {A : Type 0} → Context A → ℕ → A → ℕ → Bool → Context A
add_name C x t b v = record { structs = C.structs; names = record { name = x; type = t; binder = b; assignable = v } ∷ C.names }

abbrev pub add_struct : {A : Type 0} → Context A → Struct → Context A
add_struct C s = record { structs = C.structs ++ (s ∷ []); names = C.names }

-- the context after a step
unfoldable pub context_after : Tables → Context Ty → Labels Ty → Step → Context Ty
context_after T C D (struct_name i) = add_struct C (struct_of T i)
context_after T C D (built_in i) = add_name C (built_in_at T i).name (type_of T (built_in_at T i).type) (40000 + i) false
context_after T C D (heading n x t) = add_name C x (type_of T t) n false
context_after T C D (global_value n x a) = add_name C x (type_given (D (n + 1)).result) n true
context_after T C D (struct_fields i) = C
context_after T C D (body n t ps b) = C

abbrev pub empty_context : {A : Type 0} → Context A
empty_context = record { structs = []; names = [] }

-- a derivation of steps together, each in the context that those before it make, from C to C'; for no step there is one, which gives nothing
pub data StepsRule (T : Tables) (D : Labels Ty) : Context Ty → List Step → Context Ty → Type 0 where
  step_left : {C : Context Ty} → StepsRule T D C [] C
  next_step : {C E : Context Ty} {s : Step} {ss : List Step} → StepRule T C D s → StepsRule T D (context_after T C D s) ss E → StepsRule T D C (s ∷ ss) E

-- the nodes of a step: those of its declaration
unfoldable pub nodes_of : Step → ℕ → Type 0
nodes_of (struct_name i) m = ⊥
nodes_of (built_in i) m = ⊥
nodes_of (heading n x t) m = ⊥
nodes_of (global_value n x a) m = (n ≤ m) × (m < n + (1 + size a))
nodes_of (struct_fields i) m = ⊥
nodes_of (body n t ps b) m = (n ≤ m) × (m < n + (1 + length ps + size_block b))

-- two derivations of steps are the same: all that they give is equal
pub data SameOn (D E : Labels Ty) : List Step → Type 0 where
  same_none : SameOn D E []
  same_step : {s : Step} {ss : List Step} → ((m : ℕ) → nodes_of s m → D m ≡ E m) → SameOn D E ss → SameOn D E (s ∷ ss)

-- a derivation of the first k steps of a program together, and the context that they make
pub record DerivesFirst (p : Program) (k : ℕ) (D : Labels Ty) (C : Context Ty) : Type 0 where
  pub rules : StepsRule p.tables D empty_context (take k (steps_of p)) C

-- there is exactly one
pub record OneFirst (p : Program) (k : ℕ) (D : Labels Ty) (C : Context Ty) : Type 0 where
  pub derives : DerivesFirst p k D C
  pub only : (E : Labels Ty) (B : Context Ty) → DerivesFirst p k E B → SameOn D E (take k (steps_of p)) × (C ≡ B)

-- a derivation of a file is one of all its steps
abbrev pub DerivesFile : Program → Labels Ty → Context Ty → Type 0
DerivesFile p D C = DerivesFirst p (length (steps_of p)) D C
