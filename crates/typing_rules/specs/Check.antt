-- The definition of the check on a program: steps in document 01's order, the answer, the rows, and the sum of the pairs of types that its
-- subtype questions compared. Assumes nothing.
use Rattle.std.specs.Prelude.{Bool, true, false, ◌&&◌, List, [], ◌∷◌, ◌++◌, ℕ, suc, ◌+◌, ◌*◌, length, drop, replicate, eqb}
use Rattle.oat.specs.Basics.{pick}
use Rattle.oat.specs.Tables.{Tables, type_at, entry_at, struct_at, built_in_at}
use Rattle.oat.specs.Types.{Field, Lookup, found, missing, lookup, struct_of}
use Rattle.oat.specs.Decide.{is_formed}
use Rattle.oat.specs.Syntax.{Decl, size, size_block, size_decl}
use Rattle.oat.specs.ProgramFile.{Program}
use Rattle.typing_rules.specs.Contexts.{empty, is_miss, Context, find_name}
use Rattle.typing_rules.specs.Labels.{Result, gives, marks, nothing, Label, unlabelled}
use Rattle.typing_rules.specs.Judge.{Out, ok, no, Counted, giving, pairs_after, and_counting, requires, formed, referred, judging, executing_block}
use Rattle.typing_rules.specs.Steps.{Step, struct_name, built_in, heading, global_value, struct_fields, body, steps_of, distinct_fields, distinct_names, parameters, add_name, add_struct, empty_context}

abbrev pub is_missing : Lookup → Bool
is_missing missing = true
is_missing (found fs) = false

unfoldable pub fields_formed : Context ℕ → List Field → Bool
fields_formed C [] = true
fields_formed C (f ∷ fs) = is_formed C.structs f.type && fields_formed C fs

-- one step: the context after it and the labels of its nodes, or the number and the place of the first broken premise. The place is a
-- node, or the number of a struct or a built-in.
unfoldable pub stepping : Tables → Context ℕ → Step → Counted (Context ℕ)
stepping T C (struct_name i) = requires (is_missing (lookup C.structs (struct_at T i).name)) 7 i (giving (ok (add_struct C (struct_of T i)) []))
stepping T C (built_in i) =
    requires (formed T C (built_in_at T i).type) 9 i
    (requires (is_miss (find_name (built_in_at T i).name C.names)) 7 i
    (giving (ok (add_name C (built_in_at T i).name (built_in_at T i).type (40000 + i) false) [])))
stepping T C (heading n x t) =
    requires (formed T C t) 9 n
    (requires (is_miss (find_name x C.names)) 7 n (giving (ok (add_name C x t n false) [])))
stepping T C (global_value n x a) =
    and_counting (judging T C a (n + 1) empty) λ t L.
    requires (is_miss (find_name x C.names)) 7 n (giving (ok (add_name C x t n true) (unlabelled ∷ L)))
stepping T C (struct_fields i) =
    requires (fields_formed C (struct_of T i).fields) 9 i
    (requires (distinct_fields (struct_of T i).fields) 7 i (giving (ok C [])))
stepping T C (body n t ps b) =
    requires (distinct_names ps) 7 n
    (and_counting (executing_block T C (referred T t) b (n + 1 + length ps) (parameters (λ a. a) T empty (type_at T t).b (n + 1) ps)) λ p L.
    requires (eqb p 1) 14 n (giving (ok C (replicate (1 + length ps) unlabelled ++ L))))

-- its outcome alone
abbrev pub run_step : Tables → Context ℕ → Step → Out (Context ℕ)
run_step T C s = (stepping T C s).out

-- Rows: result and binder of each node. A 22 and a global have their child's number, which comes next; a 40 comes before a statement, a
-- block or another 40, and has 0.
abbrev pub child_result : Result ℕ → ℕ
child_result (gives t) = t
child_result (marks p) = 0
child_result nothing = 0

abbrev pub next_result : List (Label ℕ) → ℕ
next_result [] = 0
next_result (l ∷ L) = child_result l.result

abbrev pub row_result : Result ℕ → List (Label ℕ) → ℕ
row_result (gives t) L = t
row_result (marks p) L = p
row_result nothing L = next_result L

unfoldable pub rows_of : List (Label ℕ) → List ℕ
rows_of [] = []
rows_of (l ∷ L) = row_result l.result L ∷ l.binder ∷ rows_of L

-- a parameter's result is its number in the type list
unfoldable pub parameter_rows : Tables → ℕ → List ℕ → List ℕ
parameter_rows T p [] = []
parameter_rows T p (x ∷ xs) = entry_at T p ∷ 65535 ∷ parameter_rows T (suc p) xs

-- the rows of a step's nodes, from their labels; a function's mark is its block's
unfoldable pub step_rows : Tables → Step → List (Label ℕ) → List ℕ
step_rows T (struct_name i) L = []
step_rows T (built_in i) L = []
step_rows T (heading n x t) L = []
step_rows T (global_value n x a) L = rows_of L
step_rows T (struct_fields i) L = []
step_rows T (body n t ps b) L = 1 ∷ 65535 ∷ parameter_rows T (type_at T t).b ps ++ rows_of (drop (1 + length ps) L)

-- the node at which the rows of a step begin
unfoldable pub rows_begin : Step → ℕ
rows_begin (struct_name i) = 0
rows_begin (built_in i) = 0
rows_begin (heading n x t) = 0
rows_begin (global_value n x a) = n
rows_begin (struct_fields i) = 0
rows_begin (body n t ps b) = n

-- how many nodes a step has rows for
abbrev pub node_count : Step → ℕ
node_count (struct_name i) = 0
node_count (built_in i) = 0
node_count (heading n x t) = 0
node_count (global_value n x a) = 1 + size a
node_count (struct_fields i) = 0
node_count (body n t ps b) = 1 + length ps + size_block b

-- the rows of declarations, each from its node on
pub record Segment : Type 0 where
  pub node : ℕ
  pub rows : List ℕ

-- what the steps from the number k on give: rows and the count of steps, or the number, the step and the place of a refusal
pub data Ran : Type 0 where
  accepted : List Segment → (steps : ℕ) → Ran
  refused : (number step place : ℕ) → Ran

abbrev pub with_segment : Segment → Ran → Ran
with_segment g (accepted gs k) = accepted (g ∷ gs) k
with_segment g (refused p k q) = refused p k q

abbrev pub on_step : Out (Context ℕ) → ℕ → (Context ℕ → List (Label ℕ) → Ran) → Ran
on_step (ok C L) k f = f C L
on_step (no p q) k f = refused p k q

unfoldable pub run : Tables → Context ℕ → List Step → ℕ → Ran
run T C [] k = accepted [] k
run T C (s ∷ ss) k = on_step (run_step T C s) k λ E L. with_segment (record { node = rows_begin s; rows = step_rows T s L }) (run T E ss (suc k))

-- the pairs that they compare, up to and including the broken premise
unfoldable pub run_pairs : Tables → Context ℕ → List Step → ℕ
run_pairs T C [] = 0
run_pairs T C (s ∷ ss) = (stepping T C s).pairs + pairs_after (run_step T C s) (λ E L. run_pairs T E ss)

-- the rows of the declaration at the node n
unfoldable pub segment_at : ℕ → List Segment → List ℕ
segment_at n [] = []
segment_at n (g ∷ gs) = pick (eqb g.node n) (pick (eqb (length g.rows) 0) (segment_at n gs) g.rows) (segment_at n gs)

unfoldable pub rows_from : List Segment → ℕ → List Decl → List ℕ
rows_from gs n [] = []
rows_from gs n (d ∷ ds) = segment_at n gs ++ rows_from gs (n + size_decl d) ds

-- the answer with its four numbers, and the rows of all nodes; a refusal fills them with 65,535
pub record Answer : Type 0 where
  pub number : ℕ
  pub step : ℕ
  pub place : ℕ
  pub pairs : ℕ
  pub rows : List ℕ

abbrev pub answer_of : Program → ℕ → Ran → Answer
answer_of p n (accepted gs k) = record { number = 0; step = k; place = 0; pairs = n; rows = rows_from gs 0 p.declarations }
answer_of p n (refused m k q) = record { number = m; step = k; place = q; pairs = n; rows = replicate (2 * length p.tables.nodes) 65535 }

unfoldable pub check_of : Program → Answer
check_of p = answer_of p (run_pairs p.tables empty_context (steps_of p)) (run p.tables empty_context (steps_of p) 0)
