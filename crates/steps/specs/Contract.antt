-- What the contracts of the steps cite: the context that the by-value struct stands for, and what a step answers and leaves. F is the
-- file, S its sections, X the index of types, R the rows, W the stack, K the chains; a prime marks a buffer after the call. Assumes
-- nothing.
use Rattle.std.specs.Prelude.{◌≡◌, Bool, true, List, [], ℕ, ◌+◌, ◌*◌, ◌≤◌, ◌<◌, length, get_or, eqb, Result, Ok, Err}
use Rattle.oat.specs.Basics.{pick, all_below, sum_below}
use Rattle.oat.specs.Tables.{Tables, entry_at, struct_at, field_at}
use Rattle.oat.specs.Types.{structs_of}
use Rattle.oat.specs.Syntax.{Expr, Block, global, function, size, size_block}
use Rattle.oat.specs.Nodes.{ParametersStand, DeclStands}
use Rattle.typing_rules.specs.Contexts as Contexts
use Rattle.typing_rules.specs.Contexts.{empty, find_name, is_miss}
use Rattle.typing_rules.specs.Labels.{Label}
use Rattle.typing_rules.specs.Judge.{Out, ok, no}
use Rattle.typing_rules.specs.Steps.{Step, struct_name, built_in, heading, global_value, struct_fields, body, distinct_names, parameters}
use Rattle.typing_rules.specs.Check.{stepping, run_step, rows_begin, node_count, step_rows, parameter_rows}
use Rattle.file_sections.specs.declared.Sections.{Sections}
use Rattle.file_sections.specs.Layout.{Laid, tables_of, GoodTables}
use Rattle.file_sections.specs.Frames.{Same, Kept, ListAt}
use Rattle.type_index.specs.Index.{formed_entry, Indexed}
use Rattle.bindings.specs.Bindings.{entry_of, names_of, scope_of, Scoped}
use Rattle.bindings.specs.declared.Bindings.{Bindings}
use Rattle.answers.specs.declared.answer.Judgement.{Judgement}
use Rattle.answers.specs.declared.answer.Judgement.TheVariants.{Refused}
use Rattle.answers.specs.declared.answer.Walk.{Walk}
use Rattle.answers.specs.declared.file.IndexedFile.{IndexedFile}
use Rattle.expressions.specs.Contract.{Fine, Few}
use Rattle.steps.specs.declared.context.Context.{Context}
use Rattle.steps.specs.declared.context.Refusal.{Refusal}

-- the context that c stands for: the first structs of the file, and the names at the positions below a height
abbrev pub context_at : Tables → List ℕ → Context → Contexts.Context ℕ
context_at T W c = record { structs = structs_of T c.structs; names = names_of T W c.names }

-- after a step that adds a struct, a name, or nothing
abbrev pub with_struct : Context → Context
with_struct c = record { structs = c.structs + 1; names = c.names; steps = c.steps + 1; pairs = c.pairs }

abbrev pub with_name : Context → Context
with_name c = record { structs = c.structs; names = c.names + 1; steps = c.steps + 1; pairs = c.pairs }

abbrev pub with_step : Context → Context
with_step c = record { structs = c.structs; names = c.names; steps = c.steps + 1; pairs = c.pairs }

-- with another sum of pairs
abbrev pub summing : ℕ → Context → Context
summing k c = record { structs = c.structs; names = c.names; steps = c.steps; pairs = k }

-- the refusal of the step after the context c, under the number p at the place q
abbrev pub refusal_at : Context → (p q : ℕ) → Refusal
refusal_at c p q = record { number = p; step = c.steps; place = q; pairs = c.pairs }

-- the judgement j is a refusal
pub record Refusing (j : Judgement) : Type 0 where
  pub number : ℕ
  pub place : ℕ
  pub is : j ≡ Refused number place

-- y hands the refusal j up, as that of the step after the context c
pub record HandsUp (c : Context) (j : Judgement) (y : Refusal) : Type 0 where
  pub tells : (p q : ℕ) → j ≡ Refused p q → y ≡ refusal_at c p q

abbrev pub after_step : Step → Context → Context
after_step (struct_name i) c = with_struct c
after_step (built_in i) c = with_name c
after_step (heading n x t) c = with_name c
after_step (global_value n x a) c = with_name c
after_step (struct_fields i) c = with_step c
after_step (body n t ps b) c = with_step c

-- the buffers hold the names of the context c
pub record Held (F : List ℕ) (S : Sections) (X W K : List ℕ) (c : Context) : Type 0 where
  pub good_tables : GoodTables F S
  pub indexed : Indexed X (tables_of F S) S.types
  pub scoped : Scoped F S W K c.names

-- the step s is accepted, with the context C after it and the labels L: the buffers hold C, the rows of the step are written, and no
-- other row has changed
pub record Accepted (F : List ℕ) (S : Sections) (X : List ℕ) (c : Context) (s : Step) (R R' W' K' : List ℕ) (C : Contexts.Context ℕ) (L : List (Label ℕ)) : Type 0 where
  pub held : Held F S X W' K' (after_step s c)
  pub made : context_at (tables_of F S) W' (after_step s c) ≡ C
  pub long : length (step_rows (tables_of F S) s L) ≡ node_count s * 2
  pub rows : ListAt R' (rows_begin s * 2) (step_rows (tables_of F S) s L)
  pub kept : Kept (rows_begin s * 2) ((rows_begin s + node_count s) * 2) R R'

-- the answer r of the step s in the context c, up to which π pairs were compared, meets an outcome of the definition that compares k
pub data Stepping (F : List ℕ) (S : Sections) (X : List ℕ) (c : Context) (s : Step) (R R' W' K' : List ℕ) (r : Result Context Refusal) (π : ℕ) : Out (Contexts.Context ℕ) → ℕ → Type 0 where
  accepts : (C : Contexts.Context ℕ) (L : List (Label ℕ)) (k : ℕ) → r ≡ Ok (summing (π + k) (after_step s c)) → Accepted F S X c s R R' W' K' C L
      → Stepping F S X c s R R' W' K' r π (ok C L) k
  refuses : (p q k : ℕ) → r ≡ Err (refusal_at (summing (π + k) c) p q) → Stepping F S X c s R R' W' K' r π (no p q) k

-- r answers the step as the definition has it, in the context of the buffers before
abbrev pub Steps : List ℕ → Sections → (X : List ℕ) → Context → Step → (R W R' W' K' : List ℕ) → Result Context Refusal → Type 0
Steps F S X c s R W R' W' K' r =
    Stepping F S X c s R R' W' K' r c.pairs (run_step (tables_of F S) (context_at (tables_of F S) W c) s) (stepping (tables_of F S) (context_at (tables_of F S) W c) s).pairs

-- a step that binds no name, writes no rows and compares nothing, on a struct's name or on its fields: the answer r meets the outcome
-- of the definition in the context of c and the stack W
pub data Answering (T : Tables) (W : List ℕ) (c : Context) (s : Step) (r : Result Context Refusal) : Out (Contexts.Context ℕ) → Type 0 where
  answers_next : (C : Contexts.Context ℕ) → r ≡ Ok (after_step s c) → context_at T W (after_step s c) ≡ C → Answering T W c s r (ok C [])
  answers_refused : (p q : ℕ) → r ≡ Err (refusal_at c p q) → Answering T W c s r (no p q)

-- r answers the step as the definition has it, whatever the stack holds: it depends on the file alone
pub record Answered (F : List ℕ) (S : Sections) (c : Context) (s : Step) (r : Result Context Refusal) : Type 0 where
  pub tells : (W : List ℕ) → Answering (tables_of F S) W c s r (run_step (tables_of F S) (context_at (tables_of F S) W c) s)

abbrev pub AnsweredAt : IndexedFile → Context → Step → Result Context Refusal → Type 0
AnsweredAt f c s r = Answered f.bytes.now f.sections c s r

-- what `is_new` answers: in the scope that the buffers hold, the name is nowhere
pub record Newness (F : List ℕ) (S : Sections) (W K : List ℕ) (x : ℕ) (r : Bool) : Type 0 where
  pub tells : (s : ℕ) → Scoped F S W K s → r ≡ is_miss (find_name x (names_of (tables_of F S) W s))

-- all structs are declared, and the count of steps has room
pub record Whole (S : Sections) (c : Context) : Type 0 where
  pub structs : c.structs ≡ S.structs
  pub few : c.steps < 65536

-- a step that writes no rows: whatever they hold
pub record Rowless (F : List ℕ) (S : Sections) (X : List ℕ) (c : Context) (s : Step) (W W' K' : List ℕ) (r : Result Context Refusal) : Type 0 where
  pub tells : (R : List ℕ) → Steps F S X c s R W R W' K' r

abbrev pub RowlessAt : IndexedFile → Context → Step → (W W' K' : List ℕ) → Result Context Refusal → Type 0
RowlessAt f c s W W' K' r = Rowless f.bytes.now f.sections f.index.now c s W W' K' r

-- how often x stands among the first `count` numbers
unfoldable pub times_in : List ℕ → ℕ → ℕ → ℕ
times_in l count x = sum_below count (λ i. pick (eqb (get_or l i 0) x) 1 0)

-- struct names: those of the structs before i stand in N
pub record Copied (F : List ℕ) (S : Sections) (N : List ℕ) (i : ℕ) : Type 0 where
  pub laid : Laid F S
  pub long : 256 ≤ length N
  pub names : (j : ℕ) → j < i → get_or N j 0 ≡ (struct_at (tables_of F S) j).name

pub record ReadyStruct (F : List ℕ) (S : Sections) (N : List ℕ) (c : Context) (i : ℕ) : Type 0 where
  pub copied : Copied F S N i
  pub there : i < S.structs
  pub next : c.structs ≡ i
  pub few : c.steps < 65536

pub record ToldStruct (F : List ℕ) (S : Sections) (c : Context) (i : ℕ) (N' : List ℕ) (r : Result Context Refusal) : Type 0 where
  pub answered : Answered F S c (struct_name i) r
  pub copied : r ≡ Ok (with_struct c) → Copied F S N' (i + 1)

-- built-ins
pub record ReadyBuiltIn (F : List ℕ) (S : Sections) (X W K : List ℕ) (c : Context) (i : ℕ) : Type 0 where
  pub held : Held F S X W K c
  pub whole : Whole S c
  pub there : i < S.built_ins
  pub next : c.names ≡ i

abbrev pub ReadyBuiltInAt : IndexedFile → (W K : List ℕ) → Context → ℕ → Type 0
ReadyBuiltInAt f W K c i = ReadyBuiltIn f.bytes.now f.sections f.index.now W K c i

-- function headings: a function stands at n
pub record ReadyHeading (F : List ℕ) (S : Sections) (X W K : List ℕ) (c : Context) (n : ℕ) : Type 0 where
  pub held : Held F S X W K c
  pub whole : Whole S c
  pub low : S.built_ins ≤ c.names
  pub room : c.names < S.built_ins + S.nodes
  pub name : ℕ
  pub type : ℕ
  pub parameters : List ℕ
  pub block : Block
  pub stands : DeclStands (tables_of F S) n (function name type parameters block)

abbrev pub ReadyHeadingAt : IndexedFile → Bindings → Context → ℕ → Type 0
ReadyHeadingAt f b c n = ReadyHeading f.bytes.now f.sections f.index.now b.work.now b.chains c n

pub record ToldHeading (F : List ℕ) (S : Sections) (X W : List ℕ) (c : Context) (n : ℕ) (W' K' : List ℕ) (r : Result Context Refusal) : Type 0 where
  pub tells : (x t : ℕ) (ps : List ℕ) (b : Block) → DeclStands (tables_of F S) n (function x t ps b) → Rowless F S X c (heading n x t) W W' K' r

abbrev pub ToldHeadingAt : IndexedFile → Bindings → Context → ℕ → Bindings → Result Context Refusal → Type 0
ToldHeadingAt f b c n b' r = ToldHeading f.bytes.now f.sections f.index.now b.work.now c n b'.work.now b'.chains r

-- globals: one stands at n, and there is room for what its initializer binds, and for it
pub record ReadyGlobal (F : List ℕ) (S : Sections) (X R W K : List ℕ) (c : Context) (n : ℕ) : Type 0 where
  pub held : Held F S X W K c
  pub whole : Whole S c
  pub rows_long : S.nodes * 2 ≤ length R
  pub low : S.built_ins ≤ c.names
  pub name : ℕ
  pub initializer : Expr
  pub stands : DeclStands (tables_of F S) n (global name initializer)
  pub room : c.names + size initializer ≤ S.built_ins + S.nodes
  pub sums : Few c.pairs (size initializer)

abbrev pub ReadyGlobalAt : IndexedFile → Walk → Context → ℕ → Type 0
ReadyGlobalAt f w c n = ReadyGlobal f.bytes.now f.sections f.index.now w.rows.now w.bindings.work.now w.bindings.chains c n

pub record ToldGlobal (F : List ℕ) (S : Sections) (X R W : List ℕ) (c : Context) (n : ℕ) (R' W' K' : List ℕ) (r : Result Context Refusal) : Type 0 where
  pub tells : (x : ℕ) (a : Expr) → DeclStands (tables_of F S) n (global x a) → Steps F S X c (global_value n x a) R W R' W' K' r

abbrev pub ToldGlobalAt : IndexedFile → Walk → Context → ℕ → Walk → Result Context Refusal → Type 0
ToldGlobalAt f w c n v r = ToldGlobal f.bytes.now f.sections f.index.now w.rows.now w.bindings.work.now c n v.rows.now v.bindings.work.now v.bindings.chains r

-- struct fields
pub record ReadyFields (F : List ℕ) (S : Sections) (X : List ℕ) (c : Context) (i : ℕ) : Type 0 where
  pub good_tables : GoodTables F S
  pub indexed : Indexed X (tables_of F S) S.types
  pub whole : Whole S c
  pub there : i < S.structs

abbrev pub ReadyFieldsAt : IndexedFile → Context → ℕ → Type 0
ReadyFieldsAt f c i = ReadyFields f.bytes.now f.sections f.index.now c i

-- the types of `count` fields from `first` on are well-formed, as the index has it
unfoldable pub types_formed : List ℕ → Tables → ℕ → ℕ → Bool
types_formed X T first count = all_below count (λ j. formed_entry X (field_at T (first + j)).type)

-- parameters: those of the function at n, whose types stand in the type list from `first` on, are to be bound from the height `base` on
pub record ReadyParameters (F : List ℕ) (S : Sections) (X R W K : List ℕ) (base n first count : ℕ) : Type 0 where
  pub fine : Fine F S X R W K base base
  pub parameters : List ℕ
  pub stand : ParametersStand (tables_of F S) (n + 1) parameters
  pub counted : length parameters ≡ count
  pub listed : first + count ≤ S.list
  pub types : (j : ℕ) → j < count → entry_at (tables_of F S) (first + j) < S.types
  pub room : base + count ≤ S.built_ins + S.nodes

abbrev pub ReadyParametersAt : IndexedFile → Walk → (base n first count : ℕ) → Type 0
ReadyParametersAt f w base n first count =
    ReadyParameters f.bytes.now f.sections f.index.now w.rows.now w.bindings.work.now w.bindings.chains base n first count

-- they are bound, and their rows are written
pub record BoundAll (F : List ℕ) (S : Sections) (X : List ℕ) (base n first : ℕ) (ps : List ℕ) (R W R' W' K' : List ℕ) : Type 0 where
  pub fine : Fine F S X R' W' K' base (base + length ps)
  pub scope : scope_of (tables_of F S) W' base (base + length ps) ≡ parameters (λ a. a) (tables_of F S) empty first (n + 1) ps
  pub same : Same (entry_of (tables_of F S) base) W W'
  pub rows : ListAt R' ((n + 1) * 2) (parameter_rows (tables_of F S) first ps)
  pub kept : Kept ((n + 1) * 2) ((n + 1 + length ps) * 2) R R'

pub record ToldParameters (F : List ℕ) (S : Sections) (X : List ℕ) (base n first count : ℕ) (R W R' W' K' : List ℕ) (r : Bool) : Type 0 where
  pub distinct : (ps : List ℕ) → ParametersStand (tables_of F S) (n + 1) ps → length ps ≡ count → r ≡ distinct_names ps
  pub bound : (ps : List ℕ) → ParametersStand (tables_of F S) (n + 1) ps → length ps ≡ count → r ≡ true → BoundAll F S X base n first ps R W R' W' K'

abbrev pub ToldParametersAt : IndexedFile → Walk → (base n first count : ℕ) → Walk → Bool → Type 0
ToldParametersAt f w base n first count v r =
    ToldParameters f.bytes.now f.sections f.index.now base n first count w.rows.now w.bindings.work.now v.rows.now v.bindings.work.now v.bindings.chains r

-- function bodies: a function stands at n, and there is room for what it binds
pub record ReadyBody (F : List ℕ) (S : Sections) (X R W K : List ℕ) (c : Context) (n : ℕ) : Type 0 where
  pub held : Held F S X W K c
  pub whole : Whole S c
  pub rows_long : S.nodes * 2 ≤ length R
  pub low : S.built_ins ≤ c.names
  pub name : ℕ
  pub type : ℕ
  pub parameters : List ℕ
  pub block : Block
  pub stands : DeclStands (tables_of F S) n (function name type parameters block)
  pub room : c.names + (length parameters + size_block block) ≤ S.built_ins + S.nodes
  pub sums : Few c.pairs (size_block block)

abbrev pub ReadyBodyAt : IndexedFile → Walk → Context → ℕ → Type 0
ReadyBodyAt f w c n = ReadyBody f.bytes.now f.sections f.index.now w.rows.now w.bindings.work.now w.bindings.chains c n

pub record ToldBody (F : List ℕ) (S : Sections) (X R W : List ℕ) (c : Context) (n : ℕ) (R' W' K' : List ℕ) (r : Result Context Refusal) : Type 0 where
  pub tells : (x t : ℕ) (ps : List ℕ) (b : Block) → DeclStands (tables_of F S) n (function x t ps b) → Steps F S X c (body n t ps b) R W R' W' K' r

abbrev pub ToldBodyAt : IndexedFile → Walk → Context → ℕ → Walk → Result Context Refusal → Type 0
ToldBodyAt f w c n v r = ToldBody f.bytes.now f.sections f.index.now w.rows.now w.bindings.work.now c n v.rows.now v.bindings.work.now v.bindings.chains r
