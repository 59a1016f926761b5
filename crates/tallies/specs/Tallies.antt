-- Document 02, (iv): two tallies of a file's expression nodes, by type and by declaration. T has the file's tables, `rows` the rows of its
-- nodes. Assumes nothing.
use Rattle.std.specs.Prelude.{Bool, ◌&&◌, List, [], ◌∷◌, ℕ, ◌+◌, ◌*◌, length, get_or, eqb}
use Rattle.oat.specs.Basics.{pick, sum_below, tabulate}
use Rattle.oat.specs.Tables.{Tables}
use Rattle.oat.specs.Types.{Ty, type_of}
use Rattle.oat.specs.Decide.{same_ty}
use Rattle.oat.specs.Syntax.{Decl, size_decl}
use Rattle.oat.specs.Nodes.{is_expression}
use Rattle.typing_rules.specs.Labels.{Labels}
use Rattle.typing_rules.specs.Steps.{type_given}
use Rattle.type_index.specs.Index.{first_below}

-- how many numbers below n pass the test, and how many of the k numbers from n on
unfoldable pub count_below : ℕ → (ℕ → Bool) → ℕ
count_below n test = sum_below n (λ i. pick (test i) 1 0)

abbrev pub count_from : ℕ → ℕ → (ℕ → Bool) → ℕ
count_from n k test = count_below k (λ i. test (n + i))

-- the count of nodes of kinds 10 to 21 and 23 to 26
abbrev pub expression_count : Tables → ℕ
expression_count T = count_below (length T.nodes) (is_expression T)

-- the lowest number in the file of a type equal to the type t
abbrev pub lowest_equal : Tables → ℕ → ℕ
lowest_equal T t = first_below t (λ j. same_ty (type_of T j) (type_of T t))

-- the type's number in the row of the node i
abbrev pub type_in_row : List ℕ → ℕ → ℕ
type_in_row rows i = get_or rows (2 * i) 0

-- the node i is an expression, and t the lowest number of its type
abbrev pub is_under : Tables → List ℕ → ℕ → ℕ → Bool
is_under T rows t i = is_expression T i && eqb (lowest_equal T (type_in_row rows i)) t

-- by type: a number for each type of the file, where equal types are added together under their lowest number
unfoldable pub by_type : Tables → List ℕ → List ℕ
by_type T rows = tabulate (length T.types) (λ t. count_below (length T.nodes) (is_under T rows t))

-- by declaration: a number for each of the declarations that stand from the node n on
unfoldable pub by_declaration : Tables → ℕ → List Decl → List ℕ
by_declaration T n [] = []
by_declaration T n (d ∷ ds) = count_from n (size_decl d) (is_expression T) ∷ by_declaration T (n + size_decl d) ds

-- what a tally adds up to
unfoldable pub total : List ℕ → ℕ
total [] = 0
total (n ∷ ns) = n + total ns

-- in a derivation with the labels D the node i is an expression of a type equal to the type t
abbrev pub is_of_type : Tables → Labels Ty → ℕ → ℕ → Bool
is_of_type T D t i = is_expression T i && same_ty (type_given (D i).result) (type_of T t)
