-- What the contracts of answers and of expressions without children cite. F is the file, S its sections, X the index of types, R the
-- rows, W the stack, K the chains; a prime marks a buffer after the call. Assumes nothing.
use Rattle.std.specs.Prelude.{◌≡◌, true, false, ◌&&◌, ◌||◌, List, [], ℕ, ◌+◌, ◌*◌, ◌≤◌, ◌<◌, set, eqb, Some as Position, None as Nothing}
use Rattle.oat.specs.Basics.{pick}
use Rattle.oat.specs.Tables.{Tables, entry_at, node_at}
use Rattle.oat.specs.Types.{type_of}
use Rattle.oat.specs.Decide.{below}
use Rattle.oat.specs.Pairs.{Compared as Question, below_pairs}
use Rattle.typing_rules.specs.Contexts.{Context}
use Rattle.typing_rules.specs.Operators.{is_equality, operand_type, result_type}
use Rattle.type_index.specs.Index.{declared, formed_entry}
use Rattle.file_sections.specs.declared.Sections.{Sections}
use Rattle.file_sections.specs.Layout.{tables_of}
use Rattle.bindings.specs.Bindings.{binder_of, type_bound, latest, Scoped}
use Rattle.subtyping.specs.declared.below.Compared.{Compared}
use Rattle.answers.specs.declared.answer.Broken.{Broken}
use Rattle.answers.specs.declared.answer.Broken.TheVariants.{BoundTwice, Unknown, Undeclared, WrongSort, NotSubtype, Mismatch, VoidOrValue, WrongMark, FunctionAssigned, NoDefault}
use Rattle.answers.specs.declared.answer.Judgement.{Judgement}
use Rattle.answers.specs.declared.answer.Judgement.TheVariants.{Typed, Refused}
use Rattle.answers.specs.declared.answer.At.{At}
use Rattle.answers.specs.declared.answer.Judged.{Judged}
use Rattle.answers.specs.declared.file.IndexedFile.{IndexedFile}
use Rattle.answers.specs.declared.leaves.Operator.{Operator}
use Rattle.answers.specs.declared.leaves.Operator.TheVariants.{Fixed, Equality}
use Rattle.answers.specs.declared.leaves.Expected.{Expected}
use Rattle.answers.specs.declared.leaves.Expected.TheVariants.{Each, Run}

-- the records of a file
abbrev pub tables : IndexedFile → Tables
tables f = tables_of f.bytes.now f.sections

-- the context of the file's structs and no names
abbrev pub structs_alone : Tables → Context ℕ
structs_alone T = record { structs = declared T; names = [] }

-- the rows R with that of the node n written
abbrev pub with_row : List ℕ → (n result binder : ℕ) → List ℕ
with_row R n result binder = set (set R (n * 2) result) (n * 2 + 1) binder

-- document 01's number of a broken premise
abbrev pub broken_number : Broken → ℕ
broken_number BoundTwice = 7
broken_number Unknown = 8
broken_number Undeclared = 9
broken_number WrongSort = 10
broken_number NotSubtype = 11
broken_number Mismatch = 12
broken_number VoidOrValue = 13
broken_number WrongMark = 14
broken_number FunctionAssigned = 15
broken_number NoDefault = 16

-- r refuses under the number p at the place q, where k pairs have been compared
pub record Refuses (r : Judged) (p q k : ℕ) : Type 0 where
  pub judged : r.judgement ≡ Refused p q
  pub sum : r.at.pairs ≡ k

-- r is the judgement j, and the walk stands at the node n in a scope of the height s, where k pairs have been compared
pub record AnswerIs (j : Judgement) (n s k : ℕ) (r : Judged) : Type 0 where
  pub judged : r.judgement ≡ j
  pub next : r.at.node ≡ n
  pub scope : r.at.scope ≡ s
  pub sum : r.at.pairs ≡ k

-- the answer to an expression of the type t at n without children, which compares nothing
abbrev pub LeafAnswer : (t n s k : ℕ) → Judged → Type 0
LeafAnswer t n s k r = AnswerIs (Typed t) (n + 1) s k r

-- what `null` answers where the type is well-formed, by the index, and where it is not
pub record NullAnswer (X R : List ℕ) (t n s k : ℕ) (R' : List ℕ) (r : Judged) : Type 0 where
  pub formed : formed_entry X t ≡ true → LeafAnswer t n s k r × (R' ≡ with_row R n t 65535)
  pub unformed : formed_entry X t ≡ false → Refuses r 9 n k

-- what `name` answers where the name is bound, and where it is not
pub record NameAnswer (F : List ℕ) (S : Sections) (R W K : List ℕ) (n s k : ℕ) (R' : List ℕ) (r : Judged) : Type 0 where
  pub found : (h j : ℕ) → Scoped F S W K h → latest (tables_of F S) W (node_at (tables_of F S) n).x h ≡ Position j
      → LeafAnswer (type_bound (tables_of F S) W j) n s k r × (R' ≡ with_row R n (type_bound (tables_of F S) W j) (binder_of (tables_of F S) W j))
  pub missing : (h : ℕ) → Scoped F S W K h → latest (tables_of F S) W (node_at (tables_of F S) n).x h ≡ Nothing → Refuses r 8 n k

-- the place a with the pairs of a comparison
abbrev pub with_pairs : At → Compared → At
with_pairs a c = record { node = a.node; scope = a.scope; pairs = a.pairs + c.pairs }

-- c answers whether the type t is below the type u, with its count
abbrev pub Asks : Tables → ℕ → ℕ → Compared → Type 0
Asks T t u c = (c.holds ≡ below (declared T) (type_of T t) (type_of T u)) × (c.pairs ≡ below_pairs (declared T) (type_of T t) (type_of T u))

-- r is how the comparisons before went, and then, where they hold, the question q
pub record AndAsked (before : Compared) (q : Question) (r : Compared) : Type 0 where
  pub holds : r.holds ≡ (before.holds && q.holds)
  pub pairs : r.pairs ≡ before.pairs + pick before.holds q.pairs 0

-- what a binary operator asks of its operands
unfoldable pub operator_of : ℕ → Operator
operator_of x = pick (is_equality x) Equality (Fixed (operand_type x) (result_type x))

-- the type of a literal of this kind
abbrev pub literal_kind : ℕ → ℕ
literal_kind kind = pick (eqb kind 11 || eqb kind 12) 1 (pick (eqb kind 13) 0 2)

-- what a list of `left` expressions is to be below is in the file
abbrev pub Expecting : Tables → Sections → Expected → ℕ → Type 0
Expecting T S (Each t) left = t < S.types
Expecting T S (Run p) left = (p + left ≤ S.list) × ((j : ℕ) → j < left → entry_at T (p + j) < S.types)

-- the type that the expression i is to be below
abbrev pub expected_at : Tables → Expected → ℕ → ℕ
expected_at T (Each t) i = t
expected_at T (Run p) i = entry_at T (p + i)
