-- What the contracts of statements cite. F is the file, S its sections, X the index of types, R the rows, W the stack, K the chains; a
-- prime marks a buffer after the call; rt is the number of the return type. Assumes nothing.
use Rattle.std.specs.Prelude.{◌≡◌, Bool, List, ℕ, ◌+◌, ◌≤◌, ◌<◌, eqb}
use Rattle.oat.specs.Basics.{pick}
use Rattle.oat.specs.Syntax.{Expr, Target, target_expr, Vars, Condition, Stmt, size_vars, size_condition, size_stmt, count_vars}
use Rattle.oat.specs.Nodes.{Stands, VarsStand, ConditionStands, StmtStands}
use Rattle.typing_rules.specs.Contexts.{Scope}
use Rattle.typing_rules.specs.Labels.{Label}
use Rattle.typing_rules.specs.Rules.{while_mark}
use Rattle.typing_rules.specs.Judge.{Done, Counted, assigns_to, executing_vars, judging_condition, executing}
use Rattle.file_sections.specs.declared.Sections.{Sections}
use Rattle.file_sections.specs.Layout.{tables_of}
use Rattle.bindings.specs.Bindings.{Scoped, Holds}
use Rattle.answers.specs.declared.answer.Frame.{Frame}
use Rattle.answers.specs.declared.answer.Walk.{Walk}
use Rattle.answers.specs.declared.answer.At.{At}
use Rattle.answers.specs.declared.answer.Judgement.{Judgement}
use Rattle.answers.specs.declared.answer.Judgement.TheVariants.{Typed, GoesOn, Returns, Refused}
use Rattle.answers.specs.declared.answer.Judged.{Judged}
use Rattle.expressions.specs.Contract.{context_of, Fine, After, Listing, Meets, Few}

-- the mark of a judgement, and the judgement of a mark
abbrev pub mark_of : Judgement → ℕ
mark_of (Typed t) = 0
mark_of GoesOn = 0
mark_of Returns = 1
mark_of (Refused p q) = 0

abbrev pub marked : ℕ → Judgement
marked p = pick (eqb p 1) Returns GoesOn

-- r is the mark of a while whose condition stands at n; `last` says whether the while is the last of its block
pub record MarksWhile (F : List ℕ) (S : Sections) (n : ℕ) (last : Bool) (r : ℕ) : Type 0 where
  pub tells : (a : Expr) → Stands (tables_of F S) n a → r ≡ while_mark last a

-- the answer to an accepted statement, with its mark and the scope after it; the bindings of its block stand from `start` on
pub record Marking (F : List ℕ) (S : Sections) (X : List ℕ) (base start n k s : ℕ) (R W R' W' K' : List ℕ) (r : Judged) (d : Done) (L : List (Label ℕ)) : Type 0 where
  pub mark : r.judgement ≡ marked d.mark
  pub next : r.at.node ≡ n + k
  pub scope : Holds (tables_of F S) W' base start r.at.scope d.scope
  pub low : s ≤ r.at.scope
  pub high : r.at.scope ≤ s + k
  pub after : After F S X base L n k s r.at.scope R W R' W' K'

-- to accepted vars, with the scope after them
pub record Declaring (F : List ℕ) (S : Sections) (X : List ℕ) (base start n k s : ℕ) (R W R' W' K' : List ℕ) (r : Judged) (Δ : Scope ℕ) (L : List (Label ℕ)) : Type 0 where
  pub goes_on : r.judgement ≡ GoesOn
  pub next : r.at.node ≡ n + k
  pub scope : Holds (tables_of F S) W' base start r.at.scope Δ
  pub low : s ≤ r.at.scope
  pub high : r.at.scope ≤ s + k
  pub after : After F S X base L n k s r.at.scope R W R' W' K'

-- a statement stands at n, and there is room for what it binds and compares, after π pairs
pub record ReadyStmt (F : List ℕ) (S : Sections) (X R W K : List ℕ) (base n s π : ℕ) : Type 0 where
  pub fine : Fine F S X R W K base s
  pub within : n < S.nodes
  pub tree : Stmt
  pub stands : StmtStands (tables_of F S) n tree
  pub room : s + size_stmt tree ≤ S.built_ins + S.nodes
  pub few : Few π (size_stmt tree)

-- what the definition says of the statement z at n, in the context of the buffers
abbrev pub stmt_in : List ℕ → Sections → List ℕ → (base rt : ℕ) → (last : Bool) → Stmt → ℕ → Scope ℕ → Counted Done
stmt_in F S W base rt last z n Γ = executing (tables_of F S) (context_of (tables_of F S) W base) rt last z n Γ

-- r answers the statement z at n as the definition has it, in every scope that the stack holds; the bindings of its block stand from
-- `start` on, and `last` says whether z is the last of its block
abbrev pub AnswersStmt : List ℕ → Sections → (X R W : List ℕ) → (base start rt : ℕ) → (last : Bool) → (n s π : ℕ) → (R' W' K' : List ℕ) → Judged → Stmt → Type 0
AnswersStmt F S X R W base start rt last n s π R' W' K' r z =
    (Γ : Scope ℕ) → Holds (tables_of F S) W base start s Γ
    → Meets (Marking F S X base start n (size_stmt z) s R W R' W' K' r) r π (stmt_in F S W base rt last z n Γ).out (stmt_in F S W base rt last z n Γ).pairs

-- every statement that stands at n is answered so. Of the kinds, a var depends on its block alone, a while on its return type and its
-- place, the others on no block and no place, and some on no return type either.
pub record ToldStmt (F : List ℕ) (S : Sections) (X R W : List ℕ) (base start rt : ℕ) (last : Bool) (n s π : ℕ) (R' W' K' : List ℕ) (r : Judged) : Type 0 where
  pub tells : (z : Stmt) → StmtStands (tables_of F S) n z → AnswersStmt F S X R W base start rt last n s π R' W' K' r z

pub record ToldVar (F : List ℕ) (S : Sections) (X R W : List ℕ) (base start n s π : ℕ) (R' W' K' : List ℕ) (r : Judged) : Type 0 where
  pub tells : (rt : ℕ) (last : Bool) (z : Stmt) → StmtStands (tables_of F S) n z → AnswersStmt F S X R W base start rt last n s π R' W' K' r z

pub record ToldWhile (F : List ℕ) (S : Sections) (X R W : List ℕ) (base rt : ℕ) (last : Bool) (n s π : ℕ) (R' W' K' : List ℕ) (r : Judged) : Type 0 where
  pub tells : (start : ℕ) (z : Stmt) → StmtStands (tables_of F S) n z → AnswersStmt F S X R W base start rt last n s π R' W' K' r z

pub record ToldAnywhere (F : List ℕ) (S : Sections) (X R W : List ℕ) (base rt n s π : ℕ) (R' W' K' : List ℕ) (r : Judged) : Type 0 where
  pub tells : (start : ℕ) (last : Bool) (z : Stmt) → StmtStands (tables_of F S) n z → AnswersStmt F S X R W base start rt last n s π R' W' K' r z

pub record ToldAny (F : List ℕ) (S : Sections) (X R W : List ℕ) (base n s π : ℕ) (R' W' K' : List ℕ) (r : Judged) : Type 0 where
  pub tells : (rt : ℕ) → ToldAnywhere F S X R W base rt n s π R' W' K' r

-- these of a walk: f is its frame, w and v the walk before and after, a the place where it stands
abbrev pub ReadyStmtAt : Frame → Walk → At → Type 0
ReadyStmtAt f w a = ReadyStmt f.file.bytes.now f.file.sections f.file.index.now w.rows.now w.bindings.work.now w.bindings.chains f.base a.node a.scope a.pairs

abbrev pub ToldStmtAt : Frame → Walk → (start : ℕ) → (last : Bool) → At → Walk → Judged → Type 0
ToldStmtAt f w start last a v r =
    ToldStmt f.file.bytes.now f.file.sections f.file.index.now w.rows.now w.bindings.work.now f.base start f.result last a.node a.scope a.pairs v.rows.now v.bindings.work.now v.bindings.chains r

abbrev pub ToldVarAt : Frame → Walk → (start : ℕ) → At → Walk → Judged → Type 0
ToldVarAt f w start a v r =
    ToldVar f.file.bytes.now f.file.sections f.file.index.now w.rows.now w.bindings.work.now f.base start a.node a.scope a.pairs v.rows.now v.bindings.work.now v.bindings.chains r

abbrev pub ToldWhileAt : Frame → Walk → (last : Bool) → At → Walk → Judged → Type 0
ToldWhileAt f w last a v r =
    ToldWhile f.file.bytes.now f.file.sections f.file.index.now w.rows.now w.bindings.work.now f.base f.result last a.node a.scope a.pairs v.rows.now v.bindings.work.now v.bindings.chains r

abbrev pub ToldAnywhereAt : Frame → Walk → At → Walk → Judged → Type 0
ToldAnywhereAt f w a v r =
    ToldAnywhere f.file.bytes.now f.file.sections f.file.index.now w.rows.now w.bindings.work.now f.base f.result a.node a.scope a.pairs v.rows.now v.bindings.work.now v.bindings.chains r

abbrev pub ToldAnyAt : Frame → Walk → At → Walk → Judged → Type 0
ToldAnyAt f w a v r =
    ToldAny f.file.bytes.now f.file.sections f.file.index.now w.rows.now w.bindings.work.now f.base a.node a.scope a.pairs v.rows.now v.bindings.work.now v.bindings.chains r

-- what the definition says of the vars of a for, at n
abbrev pub vars_in : List ℕ → Sections → List ℕ → ℕ → Vars → ℕ → Scope ℕ → Counted (Scope ℕ)
vars_in F S W base vs n Γ = executing_vars (tables_of F S) (context_of (tables_of F S) W base) vs n Γ

-- the first `left` vars of a for stand at n
pub record ReadyVars (F : List ℕ) (S : Sections) (X R W K : List ℕ) (base start n s π left : ℕ) : Type 0 where
  pub fine : Fine F S X R W K base s
  pub begins : (base ≤ start) × (start ≤ s)
  pub within : n ≤ S.nodes
  pub vars : Vars
  pub stand : VarsStand (tables_of F S) n vars
  pub counted : count_vars vars ≡ left
  pub room : s + size_vars vars ≤ S.built_ins + S.nodes
  pub few : Few π (size_vars vars)

pub record ToldVars (F : List ℕ) (S : Sections) (X R W : List ℕ) (base start n s π left : ℕ) (R' W' K' : List ℕ) (r : Judged) : Type 0 where
  pub tells : (vs : Vars) → VarsStand (tables_of F S) n vs → count_vars vs ≡ left → (Γ : Scope ℕ) → Holds (tables_of F S) W base start s Γ
      → Meets (Declaring F S X base start n (size_vars vs) s R W R' W' K' r) r π (vars_in F S W base vs n Γ).out (vars_in F S W base vs n Γ).pairs

abbrev pub ReadyVarsAt : Frame → Walk → (start : ℕ) → At → (left : ℕ) → Type 0
ReadyVarsAt f w start a left =
    ReadyVars f.file.bytes.now f.file.sections f.file.index.now w.rows.now w.bindings.work.now w.bindings.chains f.base start a.node a.scope a.pairs left

abbrev pub ToldVarsAt : Frame → Walk → (start : ℕ) → At → (left : ℕ) → Walk → Judged → Type 0
ToldVarsAt f w start a left v r =
    ToldVars f.file.bytes.now f.file.sections f.file.index.now w.rows.now w.bindings.work.now f.base start a.node a.scope a.pairs left v.rows.now v.bindings.work.now v.bindings.chains r

-- what the definition says of the condition at n of the for at `parent`
abbrev pub condition_in : List ℕ → Sections → List ℕ → ℕ → Condition → (n parent : ℕ) → Scope ℕ → Counted (Scope ℕ)
condition_in F S W base q n parent Γ = judging_condition (tables_of F S) (context_of (tables_of F S) W base) q n parent Γ

-- the condition of the for at `parent`, or 40, stands at n
pub record ReadyCondition (F : List ℕ) (S : Sections) (X R W K : List ℕ) (base n s π : ℕ) : Type 0 where
  pub fine : Fine F S X R W K base s
  pub within : n < S.nodes
  pub tree : Condition
  pub stands : ConditionStands (tables_of F S) n tree
  pub room : s + size_condition tree ≤ S.built_ins + S.nodes
  pub few : Few π (size_condition tree)

pub record ToldCondition (F : List ℕ) (S : Sections) (X R W : List ℕ) (base n s π parent : ℕ) (R' W' K' : List ℕ) (r : Judged) : Type 0 where
  pub tells : (q : Condition) → ConditionStands (tables_of F S) n q → (start : ℕ) (Γ : Scope ℕ) → Holds (tables_of F S) W base start s Γ
      → Meets (Listing F S X base n (size_condition q) s R W R' W' K' r) r π (condition_in F S W base q n parent Γ).out (condition_in F S W base q n parent Γ).pairs

abbrev pub ReadyConditionAt : Frame → Walk → At → Type 0
ReadyConditionAt f w a =
    ReadyCondition f.file.bytes.now f.file.sections f.file.index.now w.rows.now w.bindings.work.now w.bindings.chains f.base a.node a.scope a.pairs

abbrev pub ToldConditionAt : Frame → Walk → At → (parent : ℕ) → Walk → Judged → Type 0
ToldConditionAt f w a parent v r =
    ToldCondition f.file.bytes.now f.file.sections f.file.index.now w.rows.now w.bindings.work.now f.base a.node a.scope a.pairs parent v.rows.now v.bindings.work.now v.bindings.chains r

-- the left side of the assignment at n is tested as the definition has it
pub record Assigns (F : List ℕ) (S : Sections) (W K : List ℕ) (base n : ℕ) (r : Bool) : Type 0 where
  pub tells : (s : ℕ) → Scoped F S W K s → (g : Target) → Stands (tables_of F S) n (target_expr g)
      → (start : ℕ) (Γ : Scope ℕ) → Holds (tables_of F S) W base start s Γ → r ≡ assigns_to (context_of (tables_of F S) W base) Γ g
