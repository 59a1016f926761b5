-- What the contracts of blocks and of statements with blocks cite. F is the file, S its sections, X the index of types, R the rows, W
-- the stack, K the chains; a prime marks a buffer after the call; rt is the number of the return type. Assumes nothing.
use Rattle.std.specs.Prelude.{◌≡◌, List, ◌++◌, ℕ, ◌+◌, ◌≤◌, ◌<◌}
use Rattle.oat.specs.Tables.{Tables}
use Rattle.oat.specs.Syntax.{Step, Block, Stmts, size_step, size_block, size_stmts, count_stmts}
use Rattle.oat.specs.Nodes.{StepStands, BlockStands, StmtsStand}
use Rattle.typing_rules.specs.Contexts.{Scope, inner, Context}
use Rattle.typing_rules.specs.Labels.{Label}
use Rattle.typing_rules.specs.Rules.{both}
use Rattle.typing_rules.specs.Judge.{ok, Counted, giving, and_counting, executing_step, executing_block, executing_all}
use Rattle.file_sections.specs.declared.Sections.{Sections}
use Rattle.file_sections.specs.Layout.{tables_of}
use Rattle.bindings.specs.Bindings.{Holds}
use Rattle.answers.specs.declared.answer.Frame.{Frame}
use Rattle.answers.specs.declared.answer.Walk.{Walk}
use Rattle.answers.specs.declared.answer.At.{At}
use Rattle.answers.specs.declared.answer.Judged.{Judged}
use Rattle.expressions.specs.Contract.{context_of, Fine, After, Meets, Few}
use Rattle.simple_statements.specs.Contract.{marked}

-- the answer to an accepted part with the mark p, whose bindings are gone after it
pub record Blocking (F : List ℕ) (S : Sections) (X : List ℕ) (base n k s : ℕ) (R W R' W' K' : List ℕ) (r : Judged) (p : ℕ) (L : List (Label ℕ)) : Type 0 where
  pub mark : r.judgement ≡ marked p
  pub next : r.at.node ≡ n + k
  pub scope : r.at.scope ≡ s
  pub after : After F S X base L n k s s R W R' W' K'

-- to accepted statements, whose bindings are still there
pub record Running (F : List ℕ) (S : Sections) (X : List ℕ) (base n k s : ℕ) (R W R' W' K' : List ℕ) (r : Judged) (p : ℕ) (L : List (Label ℕ)) : Type 0 where
  pub mark : r.judgement ≡ marked p
  pub next : r.at.node ≡ n + k
  pub low : s ≤ r.at.scope
  pub after : After F S X base L n k s r.at.scope R W R' W' K'

-- what the definition says of a block at n, of statements of the block at `parent`, and of a for's step, in the context of the buffers
abbrev pub block_in : List ℕ → Sections → List ℕ → (base rt : ℕ) → Block → ℕ → Scope ℕ → Counted ℕ
block_in F S W base rt b n Γ = executing_block (tables_of F S) (context_of (tables_of F S) W base) rt b n Γ

abbrev pub stmts_in : List ℕ → Sections → List ℕ → (base rt : ℕ) → Stmts → (n parent : ℕ) → Scope ℕ → Counted ℕ
stmts_in F S W base rt ss n parent Γ = executing_all (tables_of F S) (context_of (tables_of F S) W base) rt ss n parent 0 Γ

abbrev pub step_in : List ℕ → Sections → List ℕ → (base rt : ℕ) → Step → ℕ → Scope ℕ → Counted ℕ
step_in F S W base rt z n Γ = executing_step (tables_of F S) (context_of (tables_of F S) W base) rt z n Γ

-- a block stands at n, and there is room for what it binds and compares, after π pairs; its bindings stand from `start` on
pub record ReadyBlock (F : List ℕ) (S : Sections) (X R W K : List ℕ) (base start rt n s π : ℕ) : Type 0 where
  pub fine : Fine F S X R W K base s
  pub begins : (base ≤ start) × (start ≤ s)
  pub within : n < S.nodes
  pub returned : rt < S.types
  pub tree : Block
  pub stands : BlockStands (tables_of F S) n tree
  pub room : s + size_block tree ≤ S.built_ins + S.nodes
  pub few : Few π (size_block tree)

-- it is answered as the definition has it, in every scope that the stack holds
pub record ToldBlock (F : List ℕ) (S : Sections) (X R W : List ℕ) (base start rt n s π : ℕ) (R' W' K' : List ℕ) (r : Judged) : Type 0 where
  pub tells : (b : Block) → BlockStands (tables_of F S) n b → (Γ : Scope ℕ) → Holds (tables_of F S) W base start s Γ
      → Meets (Blocking F S X base n (size_block b) s R W R' W' K' r) r π (block_in F S W base rt b n Γ).out (block_in F S W base rt b n Γ).pairs

-- these of a walk: f is its frame, w and v the walk before and after, a the place where it stands
abbrev pub ReadyBlockAt : Frame → Walk → (start : ℕ) → At → Type 0
ReadyBlockAt f w start a =
    ReadyBlock f.file.bytes.now f.file.sections f.file.index.now w.rows.now w.bindings.work.now w.bindings.chains f.base start f.result a.node a.scope a.pairs

abbrev pub ToldBlockAt : Frame → Walk → (start : ℕ) → At → Walk → Judged → Type 0
ToldBlockAt f w start a v r =
    ToldBlock f.file.bytes.now f.file.sections f.file.index.now w.rows.now w.bindings.work.now f.base start f.result a.node a.scope a.pairs v.rows.now v.bindings.work.now v.bindings.chains r

-- `left` statements of the block at `parent` stand at n
pub record ReadyStmts (F : List ℕ) (S : Sections) (X R W K : List ℕ) (base start rt n s π left : ℕ) : Type 0 where
  pub fine : Fine F S X R W K base s
  pub begins : (base ≤ start) × (start ≤ s)
  pub within : n ≤ S.nodes
  pub returned : rt < S.types
  pub trees : Stmts
  pub stand : StmtsStand (tables_of F S) n trees
  pub counted : count_stmts trees ≡ left
  pub room : s + size_stmts trees ≤ S.built_ins + S.nodes
  pub few : Few π (size_stmts trees)

pub record ToldStmts (F : List ℕ) (S : Sections) (X R W : List ℕ) (base start rt n s π left parent : ℕ) (R' W' K' : List ℕ) (r : Judged) : Type 0 where
  pub tells : (ss : Stmts) → StmtsStand (tables_of F S) n ss → count_stmts ss ≡ left → (Γ : Scope ℕ) → Holds (tables_of F S) W base start s Γ
      → Meets (Running F S X base n (size_stmts ss) s R W R' W' K' r) r π (stmts_in F S W base rt ss n parent Γ).out (stmts_in F S W base rt ss n parent Γ).pairs

abbrev pub ReadyStmtsAt : Frame → Walk → (start : ℕ) → At → (left : ℕ) → Type 0
ReadyStmtsAt f w start a left =
    ReadyStmts f.file.bytes.now f.file.sections f.file.index.now w.rows.now w.bindings.work.now w.bindings.chains f.base start f.result a.node a.scope a.pairs left

abbrev pub ToldStmtsAt : Frame → Walk → (start : ℕ) → At → (left parent : ℕ) → Walk → Judged → Type 0
ToldStmtsAt f w start a left parent v r =
    ToldStmts f.file.bytes.now f.file.sections f.file.index.now w.rows.now w.bindings.work.now f.base start f.result a.node a.scope a.pairs left parent v.rows.now v.bindings.work.now v.bindings.chains r

-- two blocks, the first in the scope Γ, the second in Δ
abbrev pub either_of : Tables → Context ℕ → ℕ → (b c : Block) → ℕ → (Γ Δ : Scope ℕ) → Counted ℕ
either_of T C rt b c n Γ Δ =
    and_counting (executing_block T C rt b n Γ) λ p L.
    and_counting (executing_block T C rt c (n + size_block b) Δ) λ q M.
    giving (ok (both p q) (L ++ M))

abbrev pub either_in : List ℕ → Sections → List ℕ → (base rt : ℕ) → (b c : Block) → ℕ → (Γ Δ : Scope ℕ) → Counted ℕ
either_in F S W base rt b c n Γ Δ = either_of (tables_of F S) (context_of (tables_of F S) W base) rt b c n Γ Δ

-- two inner blocks stand at n, the first in a scope of the height `top`, the second in one of the height s
pub record ReadyArms (F : List ℕ) (S : Sections) (X R W K : List ℕ) (base rt n s top π : ℕ) : Type 0 where
  pub fine : Fine F S X R W K base top
  pub within : n < S.nodes
  pub returned : rt < S.types
  pub lower : base ≤ s
  pub higher : s ≤ top
  pub first : Block
  pub second : Block
  pub stands : BlockStands (tables_of F S) n first
  pub stands_too : BlockStands (tables_of F S) (n + size_block first) second
  pub room : top + size_block first + size_block second ≤ S.built_ins + S.nodes
  pub few : Few π (size_block first + size_block second)

pub record ToldArms (F : List ℕ) (S : Sections) (X R W : List ℕ) (base rt n s top π : ℕ) (R' W' K' : List ℕ) (r : Judged) : Type 0 where
  pub tells : (b c : Block) → BlockStands (tables_of F S) n b → BlockStands (tables_of F S) (n + size_block b) c
      → (Γ Δ : Scope ℕ) → Holds (tables_of F S) W base top top Γ → Holds (tables_of F S) W base s s Δ
      → Meets (Blocking F S X base n (size_block b + size_block c) s R W R' W' K' r) r π (either_in F S W base rt b c n Γ Δ).out (either_in F S W base rt b c n Γ Δ).pairs

abbrev pub ReadyArmsAt : Frame → Walk → At → (top : ℕ) → Type 0
ReadyArmsAt f w a top =
    ReadyArms f.file.bytes.now f.file.sections f.file.index.now w.rows.now w.bindings.work.now w.bindings.chains f.base f.result a.node a.scope top a.pairs

abbrev pub ToldArmsAt : Frame → Walk → At → (top : ℕ) → Walk → Judged → Type 0
ToldArmsAt f w a top v r =
    ToldArms f.file.bytes.now f.file.sections f.file.index.now w.rows.now w.bindings.work.now f.base f.result a.node a.scope top a.pairs v.rows.now v.bindings.work.now v.bindings.chains r

-- the step of a for, or 40, stands at n, in the block of its vars, whose bindings stand from `start` on
pub record ReadyStep (F : List ℕ) (S : Sections) (X R W K : List ℕ) (base start rt n s π : ℕ) : Type 0 where
  pub fine : Fine F S X R W K base s
  pub begins : (base ≤ start) × (start ≤ s)
  pub within : n < S.nodes
  pub returned : rt < S.types
  pub tree : Step
  pub stands : StepStands (tables_of F S) n tree
  pub room : s + size_step tree ≤ S.built_ins + S.nodes
  pub few : Few π (size_step tree)

pub record ToldStep (F : List ℕ) (S : Sections) (X R W : List ℕ) (base start rt n s π : ℕ) (R' W' K' : List ℕ) (r : Judged) : Type 0 where
  pub tells : (z : Step) → StepStands (tables_of F S) n z → (Γ : Scope ℕ) → Holds (tables_of F S) W base start s Γ
      → Meets (Blocking F S X base n (size_step z) s R W R' W' K' r) r π (step_in F S W base rt z n Γ).out (step_in F S W base rt z n Γ).pairs

abbrev pub ReadyStepAt : Frame → Walk → (start : ℕ) → At → Type 0
ReadyStepAt f w start a =
    ReadyStep f.file.bytes.now f.file.sections f.file.index.now w.rows.now w.bindings.work.now w.bindings.chains f.base start f.result a.node a.scope a.pairs

abbrev pub ToldStepAt : Frame → Walk → (start : ℕ) → At → Walk → Judged → Type 0
ToldStepAt f w start a v r =
    ToldStep f.file.bytes.now f.file.sections f.file.index.now w.rows.now w.bindings.work.now f.base start f.result a.node a.scope a.pairs v.rows.now v.bindings.work.now v.bindings.chains r

-- a step, and the block after it, an inner one
abbrev pub turn_of : Tables → Context ℕ → ℕ → Step → Block → ℕ → Scope ℕ → Counted ℕ
turn_of T C rt z b n Γ =
    and_counting (executing_step T C rt z n Γ) λ p L.
    and_counting (executing_block T C rt b (n + size_step z) (inner Γ)) λ q M.
    giving (ok q (L ++ M))

abbrev pub turn_in : List ℕ → Sections → List ℕ → (base rt : ℕ) → Step → Block → ℕ → Scope ℕ → Counted ℕ
turn_in F S W base rt z b n Γ = turn_of (tables_of F S) (context_of (tables_of F S) W base) rt z b n Γ

pub record ReadyTurn (F : List ℕ) (S : Sections) (X R W K : List ℕ) (base start rt n s π : ℕ) : Type 0 where
  pub fine : Fine F S X R W K base s
  pub begins : (base ≤ start) × (start ≤ s)
  pub within : n < S.nodes
  pub returned : rt < S.types
  pub tree : Step
  pub body : Block
  pub stands : StepStands (tables_of F S) n tree
  pub stands_too : BlockStands (tables_of F S) (n + size_step tree) body
  pub room : s + size_step tree + size_block body ≤ S.built_ins + S.nodes
  pub few : Few π (size_step tree + size_block body)

pub record ToldTurn (F : List ℕ) (S : Sections) (X R W : List ℕ) (base start rt n s π : ℕ) (R' W' K' : List ℕ) (r : Judged) : Type 0 where
  pub tells : (z : Step) (b : Block) → StepStands (tables_of F S) n z → BlockStands (tables_of F S) (n + size_step z) b
      → (Γ : Scope ℕ) → Holds (tables_of F S) W base start s Γ
      → Meets (Blocking F S X base n (size_step z + size_block b) s R W R' W' K' r) r π (turn_in F S W base rt z b n Γ).out (turn_in F S W base rt z b n Γ).pairs

abbrev pub ReadyTurnAt : Frame → Walk → (start : ℕ) → At → Type 0
ReadyTurnAt f w start a =
    ReadyTurn f.file.bytes.now f.file.sections f.file.index.now w.rows.now w.bindings.work.now w.bindings.chains f.base start f.result a.node a.scope a.pairs

abbrev pub ToldTurnAt : Frame → Walk → (start : ℕ) → At → Walk → Judged → Type 0
ToldTurnAt f w start a v r =
    ToldTurn f.file.bytes.now f.file.sections f.file.index.now w.rows.now w.bindings.work.now f.base start f.result a.node a.scope a.pairs v.rows.now v.bindings.work.now v.bindings.chains r
