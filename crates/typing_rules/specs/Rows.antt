-- Document 01, 'Rows and answers': rows are those of a derivation when every result and binder is what is made of the derivation's types,
-- marks and binders; for a type, any number of an equal type will do. Assumes nothing.
use Rattle.std.specs.Prelude.{◌≡◌, List, [], ◌∷◌, ◌++◌, ℕ, zero, suc, ◌+◌, ◌<◌, length}
use Rattle.oat.specs.Tables.{Tables, type_at, entry_at}
use Rattle.oat.specs.Types.{Ty, type_of}
use Rattle.oat.specs.Syntax.{Expr, Block, Decl, global, function, size, size_block, size_decl}
use Rattle.typing_rules.specs.Labels.{Result, gives, marks, nothing, Label, Labels}

-- r is a number of the type t
pub record NumberOf (T : Tables) (t : Ty) (r : ℕ) : Type 0 where
  pub within : r < length T.types
  pub written : type_of T r ≡ t

-- a 22's and a global's result is their child's, which comes next; a 40 comes before a statement, a block or another 40, and has 0
abbrev pub ChildIs : Tables → Result Ty → ℕ → Type 0
ChildIs T (gives t) r = NumberOf T t r
ChildIs T (marks p) r = r ≡ 0
ChildIs T nothing r = r ≡ 0

abbrev pub NextIs : Tables → List (Label Ty) → ℕ → Type 0
NextIs T [] r = r ≡ 0
NextIs T (l ∷ L) r = ChildIs T l.result r

-- the result of a node whose label gives this, before the labels L
abbrev pub ResultIs : Tables → Result Ty → List (Label Ty) → ℕ → Type 0
ResultIs T (gives t) L r = NumberOf T t r
ResultIs T (marks p) L r = r ≡ p
ResultIs T nothing L r = NextIs T L r

-- the rows of nodes with these labels
pub data RowsAre (T : Tables) : List (Label Ty) → List ℕ → Type 0 where
  rows_none : RowsAre T [] []
  rows_node : {l : Label Ty} {L : List (Label Ty)} {r b : ℕ} {R : List ℕ} → ResultIs T l.result L r → b ≡ l.binder → RowsAre T L R → RowsAre T (l ∷ L) (r ∷ b ∷ R)

-- the labels of k nodes from n on
unfoldable pub labels_from : Labels Ty → ℕ → ℕ → List (Label Ty)
labels_from D n zero = []
labels_from D n (suc k) = D n ∷ labels_from D (n + 1) k

-- parameters: a number of the type that stands in the type list, from the entry p on
pub data ParametersAre (T : Tables) : ℕ → List ℕ → List ℕ → Type 0 where
  parameters_none : {p : ℕ} → ParametersAre T p [] []
  parameters_next : {p x r : ℕ} {xs R : List ℕ} → NumberOf T (type_of T (entry_at T p)) r → ParametersAre T (suc p) xs R → ParametersAre T p (x ∷ xs) (r ∷ 65535 ∷ R)

-- the rows of declarations that stand from n on; a function's mark is its block's
pub data DeclRows (T : Tables) (D : Labels Ty) : ℕ → List Decl → List ℕ → Type 0 where
  no_rows : {n : ℕ} → DeclRows T D n [] []
  global_rows : {n x : ℕ} {a : Expr} {ds : List Decl} {R Q : List ℕ} → RowsAre T (labels_from D n (1 + size a)) R → DeclRows T D (n + size_decl (global x a)) ds Q → DeclRows T D n (global x a ∷ ds) (R ++ Q)
  function_rows : {n x t m : ℕ} {ps : List ℕ} {b : Block} {ds : List Decl} {P R Q : List ℕ} → (D (n + 1 + length ps)).result ≡ marks m → ParametersAre T (type_at T t).b ps P → RowsAre T (labels_from D (n + 1 + length ps) (size_block b)) R → DeclRows T D (n + size_decl (function x t ps b)) ds Q → DeclRows T D n (function x t ps b ∷ ds) ((m ∷ 65535 ∷ P ++ R) ++ Q)
