-- What the contracts of the groups of steps cite: steps that run one after another. F is the file, S its sections, X the index of types,
-- R the rows, W the stack, K the chains; a prime marks a buffer after the call. Assumes nothing.
use Rattle.std.specs.Prelude.{◌≡◌, List, [], ◌∷◌, ◌++◌, ℕ, ◌+◌, ◌*◌, ◌≤◌, ◌<◌, length, get_or, Result, Ok, Err}
use Rattle.oat.specs.Basics.{tabulate}
use Rattle.oat.specs.Tables.{Tables}
use Rattle.oat.specs.Syntax.{Decl, size_decl}
use Rattle.oat.specs.Nodes.{DeclStands}
use Rattle.oat.specs.ProgramFile.{Program}
use Rattle.typing_rules.specs.Steps.{Step, struct_name, built_in, headings, steps_of}
use Rattle.typing_rules.specs.Check.{Segment, Ran, refused, with_segment, rows_begin, node_count, run, run_pairs}
use Rattle.file_sections.specs.declared.Sections.{Sections}
use Rattle.file_sections.specs.Layout.{tables_of, GoodTables}
use Rattle.file_sections.specs.Frames.{ListAt}
use Rattle.program_file.specs.Opened.{Declares}
use Rattle.type_index.specs.Index.{Indexed}
use Rattle.bindings.specs.declared.Bindings.{Bindings}
use Rattle.answers.specs.declared.answer.Walk.{Walk}
use Rattle.answers.specs.declared.file.IndexedFile.{IndexedFile}
use Rattle.expressions.specs.Contract.{Few}
use Rattle.steps.specs.declared.context.Context.{Context}
use Rattle.steps.specs.declared.context.Refusal.{Refusal}
use Rattle.steps.specs.Contract.{context_at, summing, after_step, Held, Whole}

-- the context before the first step
abbrev pub start : Context
start = record { structs = 0; names = 0; steps = 0; pairs = 0 }

-- the context after steps that are all accepted, apart from the sum of pairs
unfoldable pub after_steps : List Step → Context → Context
after_steps [] c = c
after_steps (s ∷ ss) c = after_steps ss (after_step s c)

-- segments, and then those of the steps that follow
unfoldable pub with_segments : List Segment → Ran → Ran
with_segments [] r = r
with_segments (g ∷ gs) r = with_segment g (with_segments gs r)

-- the number i of the rows belongs to a node of one of the steps
pub data Touched (i : ℕ) : List Step → Type 0 where
  touched_first : {s : Step} {ss : List Step} → rows_begin s * 2 ≤ i → i < (rows_begin s + node_count s) * 2 → Touched i (s ∷ ss)
  touched_later : {s : Step} {ss : List Step} → Touched i ss → Touched i (s ∷ ss)

-- every step has its segment, which stands in the rows
pub data Written (R : List ℕ) : List Step → List Segment → Type 0 where
  written_none : Written R [] []
  written_next : {s : Step} {ss : List Step} {g : Segment} {gs : List Segment} → g.node ≡ rows_begin s → length g.rows ≡ node_count s * 2
      → ListAt R (rows_begin s * 2) g.rows → Written R ss gs → Written R (s ∷ ss) (g ∷ gs)

-- the steps ss are accepted from c on, whatever follows, with the segments gs; W is the stack before them, W' after them
abbrev pub GoOn : Tables → Context → List Step → (W W' : List ℕ) → List Segment → Type 0
GoOn T c ss W W' gs =
    (rest : List Step) → run T (context_at T W c) (ss ++ rest) c.steps ≡ with_segments gs (run T (context_at T W' (after_steps ss c)) rest (after_steps ss c).steps)

-- and they compare k pairs of types
abbrev pub CountsOn : Tables → Context → List Step → (W W' : List ℕ) → ℕ → Type 0
CountsOn T c ss W W' k = (rest : List Step) → run_pairs T (context_at T W c) (ss ++ rest) ≡ k + run_pairs T (context_at T W' (after_steps ss c)) rest

-- they are refused, whatever follows
abbrev pub Break : Tables → Context → List Step → List ℕ → (p k q : ℕ) → Type 0
Break T c ss W p k q = (rest : List Step) → run T (context_at T W c) (ss ++ rest) c.steps ≡ refused p k q

-- and k pairs are compared, up to and including the broken premise
abbrev pub CountsTo : Tables → Context → List Step → List ℕ → ℕ → Type 0
CountsTo T c ss W k = (rest : List Step) → run_pairs T (context_at T W c) (ss ++ rest) ≡ k

-- they are accepted, compare k pairs, and the segments are written; no other row has changed, and the buffers hold the context after them
pub record Run (F : List ℕ) (S : Sections) (X : List ℕ) (c : Context) (ss : List Step) (R W R' W' K' : List ℕ) (gs : List Segment) (k : ℕ) : Type 0 where
  pub on : GoOn (tables_of F S) c ss W W' gs
  pub counts : CountsOn (tables_of F S) c ss W W' k
  pub held : Held F S X W' K' (after_steps ss c)
  pub written : Written R' ss gs
  pub kept : (i : ℕ) → (Touched i ss → ⊥) → get_or R' i 0 ≡ get_or R i 0

-- the answer r to the steps ss, from the context c on, is that of the definition
pub data Runs (F : List ℕ) (S : Sections) (X : List ℕ) (c : Context) (ss : List Step) (R W R' W' K' : List ℕ) (r : Result Context Refusal) : Type 0 where
  goes : (gs : List Segment) (k : ℕ) → r ≡ Ok (summing (c.pairs + k) (after_steps ss c)) → Run F S X c ss R W R' W' K' gs k → Runs F S X c ss R W R' W' K' r
  stops : (e : Refusal) (k : ℕ) → r ≡ Err e → e.pairs ≡ c.pairs + k → Break (tables_of F S) c ss W e.number e.step e.place → CountsTo (tables_of F S) c ss W k → Runs F S X c ss R W R' W' K' r

-- the same of steps that bind no name, write no rows and compare nothing, those on struct names and struct fields: W is the stack before and
-- after them, and their segments are written whatever the rows hold
pub data AnsweringAll (T : Tables) (W : List ℕ) (c : Context) (ss : List Step) (r : Result Context Refusal) : Type 0 where
  all_next : (gs : List Segment) → r ≡ Ok (after_steps ss c) → GoOn T c ss W W gs → CountsOn T c ss W W 0 → ((R : List ℕ) → Written R ss gs) → AnsweringAll T W c ss r
  all_refused : (e : Refusal) → r ≡ Err e → e.pairs ≡ c.pairs → Break T c ss W e.number e.step e.place → CountsTo T c ss W 0 → AnsweringAll T W c ss r

-- whatever the stack holds: these steps depend on the file alone
pub record AnsweredAll (F : List ℕ) (S : Sections) (c : Context) (ss : List Step) (r : Result Context Refusal) : Type 0 where
  pub tells : (W : List ℕ) → AnsweringAll (tables_of F S) W c ss r

abbrev pub AnsweredAllAt : IndexedFile → Context → List Step → Result Context Refusal → Type 0
AnsweredAllAt f c ss r = AnsweredAll f.bytes.now f.sections c ss r

-- built-ins, after the struct names
pub record ReadyBuiltIns (F : List ℕ) (S : Sections) (X W K : List ℕ) (c : Context) : Type 0 where
  pub held : Held F S X W K c
  pub structs : c.structs ≡ S.structs
  pub none : c.names ≡ 0
  pub few : c.steps < 32768

abbrev pub ReadyBuiltInsAt : IndexedFile → Bindings → Context → Type 0
ReadyBuiltInsAt f b c = ReadyBuiltIns f.bytes.now f.sections f.index.now b.work.now b.chains c

pub record ToldBuiltIns (F : List ℕ) (S : Sections) (X W : List ℕ) (c : Context) (K' : List ℕ) (r : Result Context Refusal) : Type 0 where
  pub tells : (R : List ℕ) → Runs F S X c (tabulate S.built_ins built_in) R W R W K' r

abbrev pub ToldBuiltInsAt : IndexedFile → Bindings → Context → Bindings → Result Context Refusal → Type 0
ToldBuiltInsAt f b c b' r = ToldBuiltIns f.bytes.now f.sections f.index.now b.work.now c b'.chains r

-- struct fields
pub record ReadyStructs (F : List ℕ) (S : Sections) (X : List ℕ) (c : Context) : Type 0 where
  pub good_tables : GoodTables F S
  pub indexed : Indexed X (tables_of F S) S.types
  pub structs : c.structs ≡ S.structs
  pub few : c.steps < 32768

abbrev pub ReadyStructsAt : IndexedFile → Context → Type 0
ReadyStructsAt f c = ReadyStructs f.bytes.now f.sections f.index.now c

-- one declaration, at n, has its step of the group `steps`, of which it may have none; there is room for what it binds and for the pairs that it
-- compares
pub record ReadyDecl (F : List ℕ) (S : Sections) (X W K : List ℕ) (c : Context) (n : ℕ) : Type 0 where
  pub held : Held F S X W K c
  pub whole : Whole S c
  pub low : S.built_ins ≤ c.names
  pub declaration : Decl
  pub stands : DeclStands (tables_of F S) n declaration
  pub room : c.names + size_decl declaration ≤ S.built_ins + S.nodes + 1
  pub sums : Few c.pairs (size_decl declaration)

abbrev pub ReadyDeclAt : IndexedFile → Bindings → Context → ℕ → Type 0
ReadyDeclAt f b c n = ReadyDecl f.bytes.now f.sections f.index.now b.work.now b.chains c n

pub record ToldDecl (steps : ℕ → List Decl → List Step) (F : List ℕ) (S : Sections) (X : List ℕ) (c : Context) (n : ℕ) (R W R' W' K' : List ℕ) (r : Result Context Refusal) : Type 0 where
  pub tells : (d : Decl) → DeclStands (tables_of F S) n d → Runs F S X c (steps n (d ∷ [])) R W R' W' K' r

abbrev pub ToldDeclAt : (ℕ → List Decl → List Step) → IndexedFile → Walk → Context → ℕ → Walk → Result Context Refusal → Type 0
ToldDeclAt steps f w c n v r =
    ToldDecl steps f.bytes.now f.sections f.index.now c n w.rows.now w.bindings.work.now v.rows.now v.bindings.work.now v.bindings.chains r

-- the heading of one, which has no rows
pub record HeadingTold (F : List ℕ) (S : Sections) (X : List ℕ) (c : Context) (n : ℕ) (W W' K' : List ℕ) (r : Result Context Refusal) : Type 0 where
  pub tells : (R : List ℕ) → ToldDecl headings F S X c n R W R W' K' r

abbrev pub HeadingToldAt : IndexedFile → Bindings → Context → ℕ → Bindings → Result Context Refusal → Type 0
HeadingToldAt f b c n b' r = HeadingTold f.bytes.now f.sections f.index.now c n b.work.now b'.work.now b'.chains r

-- all declarations have theirs
pub record ReadyDecls (steps : ℕ → List Decl → List Step) (F : List ℕ) (S : Sections) (X W K : List ℕ) (c : Context) : Type 0 where
  pub held : Held F S X W K c
  pub structs : c.structs ≡ S.structs
  pub low : S.built_ins ≤ c.names
  pub declarations : List Decl
  pub declares : Declares F S declarations
  pub room : (after_steps (steps 0 declarations) c).names ≤ S.built_ins + length declarations
  pub few : c.steps < 32768
  pub sums : Few c.pairs S.nodes

abbrev pub ReadyDeclsAt : (ℕ → List Decl → List Step) → IndexedFile → Bindings → Context → Type 0
ReadyDeclsAt steps f b c = ReadyDecls steps f.bytes.now f.sections f.index.now b.work.now b.chains c

pub record ToldDecls (steps : ℕ → List Decl → List Step) (F : List ℕ) (S : Sections) (X : List ℕ) (c : Context) (R W R' W' K' : List ℕ) (r : Result Context Refusal) : Type 0 where
  pub tells : (ds : List Decl) → Declares F S ds → Runs F S X c (steps 0 ds) R W R' W' K' r

abbrev pub ToldDeclsAt : (ℕ → List Decl → List Step) → IndexedFile → Walk → Context → Walk → Result Context Refusal → Type 0
ToldDeclsAt steps f w c v r =
    ToldDecls steps f.bytes.now f.sections f.index.now c w.rows.now w.bindings.work.now v.rows.now v.bindings.work.now v.bindings.chains r

pub record HeadingsTold (F : List ℕ) (S : Sections) (X : List ℕ) (c : Context) (W W' K' : List ℕ) (r : Result Context Refusal) : Type 0 where
  pub tells : (R : List ℕ) → ToldDecls headings F S X c R W R W' K' r

abbrev pub HeadingsToldAt : IndexedFile → Bindings → Context → Bindings → Result Context Refusal → Type 0
HeadingsToldAt f b c b' r = HeadingsTold f.bytes.now f.sections f.index.now c b.work.now b'.work.now b'.chains r

-- all steps of the file
pub record ReadyRun (F : List ℕ) (S : Sections) (X W K : List ℕ) : Type 0 where
  pub held : Held F S X W K start
  pub declarations : List Decl
  pub declares : Declares F S declarations

abbrev pub ReadyRunAt : IndexedFile → Bindings → Type 0
ReadyRunAt f b = ReadyRun f.bytes.now f.sections f.index.now b.work.now b.chains

-- struct names, built-ins and function headings
abbrev pub first_steps : Sections → List Decl → List Step
first_steps S ds = tabulate S.structs struct_name ++ (tabulate S.built_ins built_in ++ headings 0 ds)

pub record ToldFirst (F : List ℕ) (S : Sections) (X W W' K' : List ℕ) (r : Result Context Refusal) : Type 0 where
  pub tells : (R : List ℕ) (ds : List Decl) → Declares F S ds → Runs F S X start (first_steps S ds) R W R W' K' r

abbrev pub ToldFirstAt : IndexedFile → Bindings → Bindings → Result Context Refusal → Type 0
ToldFirstAt f b b' r = ToldFirst f.bytes.now f.sections f.index.now b.work.now b'.work.now b'.chains r

-- all of them, in the definition's order
abbrev pub program_of : List ℕ → Sections → List Decl → Program
program_of F S ds = record { tables = tables_of F S; declarations = ds }

pub record ToldRun (F : List ℕ) (S : Sections) (X R W R' W' K' : List ℕ) (r : Result Context Refusal) : Type 0 where
  pub tells : (ds : List Decl) → Declares F S ds → Runs F S X start (steps_of (program_of F S ds)) R W R' W' K' r

abbrev pub ToldRunAt : IndexedFile → Walk → Walk → Result Context Refusal → Type 0
ToldRunAt f w v r = ToldRun f.bytes.now f.sections f.index.now w.rows.now w.bindings.work.now v.rows.now v.bindings.work.now v.bindings.chains r
