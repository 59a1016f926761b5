-- What the contracts of expressions cite: what the buffers hold before, what an answer says, and what they hold after an accepted one.
-- F is the file, S its sections, X the index of types, R the rows, W the stack, K the chains; a prime marks a buffer after the call.
-- Assumes nothing.
use Rattle.std.specs.Prelude.{◌≡◌, true, List, [], ◌∷◌, ℕ, ◌+◌, ◌*◌, ◌≤◌, ◌<◌, length, get_or}
use Rattle.oat.specs.Tables.{Tables, node_at}
use Rattle.oat.specs.TableRules.{has_kind}
use Rattle.oat.specs.Types.{struct_of, Field}
use Rattle.oat.specs.Pairs.{Compared}
use Rattle.oat.specs.Syntax.{Expr, Exprs, Inits, size, sizes, size_inits, count, count_inits}
use Rattle.oat.specs.Nodes.{Stands, StandAll, InitsStand}
use Rattle.typing_rules.specs.Contexts.{Scope, binds, inner, Context}
use Rattle.typing_rules.specs.Labels.{Label}
use Rattle.typing_rules.specs.Judge.{Out, ok, no, Counted, giving, and_counting, asks, asked, each_asked, arguments_asked, inits_asked, referred, judging, judging_all, judging_inits}
use Rattle.typing_rules.specs.Check.{row_result}
use Rattle.file_sections.specs.declared.Sections.{Sections}
use Rattle.file_sections.specs.Layout.{tables_of, GoodTables}
use Rattle.file_sections.specs.Frames.{Same, Kept}
use Rattle.type_index.specs.Index.{declared, Indexed}
use Rattle.bindings.specs.Bindings.{entry_of, names_of, scope_of, Scoped}
use Rattle.answers.specs.declared.answer.Judgement.TheVariants.{Typed, GoesOn}
use Rattle.answers.specs.declared.answer.Frame.{Frame}
use Rattle.answers.specs.declared.answer.Walk.{Walk}
use Rattle.answers.specs.declared.answer.At.{At}
use Rattle.answers.specs.declared.answer.Judged.{Judged}
use Rattle.answers.specs.declared.leaves.Expected.{Expected}
use Rattle.answers.specs.declared.leaves.Expected.TheVariants.{Each, Run}
use Rattle.answers.specs.Answers.{Refuses, Expecting}

-- the context whose names are the positions below `base`
abbrev pub context_of : Tables → List ℕ → ℕ → Context ℕ
context_of T W base = record { structs = declared T; names = names_of T W base }

-- the buffers are long enough and hold a scope of the height s, locals from `base` on
pub record Fine (F : List ℕ) (S : Sections) (X R W K : List ℕ) (base s : ℕ) : Type 0 where
  pub good_tables : GoodTables F S
  pub indexed : Indexed X (tables_of F S) S.types
  pub rows_long : S.nodes * 2 ≤ length R
  pub scoped : Scoped F S W K s
  pub low : S.built_ins ≤ base
  pub above : base ≤ s

-- the rows of the labels stand in R from the node n on
unfoldable pub RowsAt : List ℕ → ℕ → List (Label ℕ) → Type 0
RowsAt R n [] = Unit {0}
RowsAt R n (l ∷ L) = (get_or R (n * 2) 0 ≡ row_result l.result L) × (get_or R (n * 2 + 1) 0 ≡ l.binder) × RowsAt R (n + 1) L

-- the rows of the labels L of the k nodes from n on are written, no other row has changed, nor the stack below the height s; the
-- buffers hold a scope of the height s'
pub record After (F : List ℕ) (S : Sections) (X : List ℕ) (base : ℕ) (L : List (Label ℕ)) (n k s s' : ℕ) (R W R' W' K' : List ℕ) : Type 0 where
  pub rows : RowsAt R' n L
  pub kept : Kept (n * 2) ((n + k) * 2) R R'
  pub same : Same (entry_of (tables_of F S) s) W W'
  pub fine : Fine F S X R' W' K' base s'

-- the answer to an accepted expression of the type t, and to an accepted list or test, which the definition has give a
pub record Typing (F : List ℕ) (S : Sections) (X : List ℕ) (base n k s : ℕ) (R W R' W' K' : List ℕ) (r : Judged) (t : ℕ) (L : List (Label ℕ)) : Type 0 where
  pub typed : r.judgement ≡ Typed t
  pub next : r.at.node ≡ n + k
  pub scope : r.at.scope ≡ s
  pub within : t < S.types
  pub after : After F S X base L n k s s R W R' W' K'

pub record Listing {A : Type 0} (F : List ℕ) (S : Sections) (X : List ℕ) (base n k s : ℕ) (R W R' W' K' : List ℕ) (r : Judged) (a : A) (L : List (Label ℕ)) : Type 0 where
  pub goes_on : r.judgement ≡ GoesOn
  pub next : r.at.node ≡ n + k
  pub scope : r.at.scope ≡ s
  pub after : After F S X base L n k s s R W R' W' K'

-- the answer r, before which π pairs were compared, meets an outcome of the definition that compares k: P holds where it accepts, r is
-- its refusal where it refuses, and either way r has the sum of both
pub data Meets {A : Type 0} (P : A → List (Label ℕ) → Type 0) (r : Judged) (π : ℕ) : Out A → ℕ → Type 0 where
  accepts : (a : A) (L : List (Label ℕ)) (k : ℕ) → P a L → r.at.pairs ≡ π + k → Meets P r π (ok a L) k
  refuses : (p q k : ℕ) → Refuses r p q (π + k) → Meets P r π (no p q) k

-- there is room for the sum: the k nodes ahead compare at most 1,200 pairs each
abbrev pub Few : (π k : ℕ) → Type 0
Few π k = π + 1200 * k ≤ 4294967295

-- an expression stands at n, and there is room for what it binds and compares, after π pairs
pub record Ready (F : List ℕ) (S : Sections) (X R W K : List ℕ) (base n s π : ℕ) : Type 0 where
  pub fine : Fine F S X R W K base s
  pub within : n < S.nodes
  pub tree : Expr
  pub stands : Stands (tables_of F S) n tree
  pub room : s + size tree ≤ S.built_ins + S.nodes
  pub few : Few π (size tree)

-- what the definition says of e at n, in the scope and the context of the buffers
abbrev pub expr_in : List ℕ → Sections → List ℕ → (base s : ℕ) → Expr → ℕ → Counted ℕ
expr_in F S W base s e n = judging (tables_of F S) (context_of (tables_of F S) W base) e n (scope_of (tables_of F S) W base s)

-- r answers the expression e at n as the definition has it, in the scope and the context of the buffers before
abbrev pub Answers : List ℕ → Sections → (X R W : List ℕ) → (base n s π : ℕ) → (R' W' K' : List ℕ) → Judged → Expr → Type 0
Answers F S X R W base n s π R' W' K' r e =
    Meets (Typing F S X base n (size e) s R W R' W' K' r) r π (expr_in F S W base s e n).out (expr_in F S W base s e n).pairs

-- every expression that stands at n is answered so
pub record Told (F : List ℕ) (S : Sections) (X R W : List ℕ) (base n s π : ℕ) (R' W' K' : List ℕ) (r : Judged) : Type 0 where
  pub tells : (e : Expr) → Stands (tables_of F S) n e → Answers F S X R W base n s π R' W' K' r e

unfoldable pub expected_asked : Tables → Context ℕ → List ℕ → Expected → Compared
expected_asked T C ts (Each t) = each_asked T C ts t
expected_asked T C ts (Run p) = arguments_asked T C ts p

-- a list of expressions, then their subtypes, which break at the parent
abbrev pub listed : Tables → Context ℕ → Exprs → ℕ → Scope ℕ → Expected → ℕ → Counted (List ℕ)
listed T C es n Γ x parent = and_counting (judging_all T C es n Γ) λ ts L. asks (expected_asked T C ts x) 11 parent (giving (ok ts L))

abbrev pub listed_in : List ℕ → Sections → List ℕ → (base s : ℕ) → Exprs → ℕ → Expected → ℕ → Counted (List ℕ)
listed_in F S W base s es n x parent = listed (tables_of F S) (context_of (tables_of F S) W base) es n (scope_of (tables_of F S) W base s) x parent

pub record ReadyList (F : List ℕ) (S : Sections) (X R W K : List ℕ) (base n s π left : ℕ) (x : Expected) : Type 0 where
  pub fine : Fine F S X R W K base s
  pub within : n ≤ S.nodes
  pub expecting : Expecting (tables_of F S) S x left
  pub trees : Exprs
  pub stand : StandAll (tables_of F S) n trees
  pub counted : count trees ≡ left
  pub room : s + sizes trees ≤ S.built_ins + S.nodes
  pub few : Few π (sizes trees)

pub record ToldList (F : List ℕ) (S : Sections) (X R W : List ℕ) (base n s π left : ℕ) (x : Expected) (parent : ℕ) (R' W' K' : List ℕ) (r : Judged) : Type 0 where
  pub tells : (es : Exprs) → StandAll (tables_of F S) n es → count es ≡ left
      → Meets (Listing F S X base n (sizes es) s R W R' W' K' r) r π (listed_in F S W base s es n x parent).out (listed_in F S W base s es n x parent).pairs

-- field initializers of a literal whose struct has these fields, then their subtypes, which break at the parent
abbrev pub initialized : Tables → Context ℕ → List Field → Inits → ℕ → Scope ℕ → ℕ → Counted (List ℕ)
initialized T C fs is n Γ parent = and_counting (judging_inits T C is n Γ) λ ts L. asks (inits_asked T C fs is ts) 11 parent (giving (ok ts L))

abbrev pub initialized_in : List ℕ → Sections → List ℕ → (base s owner : ℕ) → Inits → ℕ → ℕ → Counted (List ℕ)
initialized_in F S W base s owner is n parent =
    initialized (tables_of F S) (context_of (tables_of F S) W base) (struct_of (tables_of F S) owner).fields is n (scope_of (tables_of F S) W base s) parent

pub record ReadyInits (F : List ℕ) (S : Sections) (X R W K : List ℕ) (base n s π left owner : ℕ) : Type 0 where
  pub fine : Fine F S X R W K base s
  pub within : n ≤ S.nodes
  pub declared_there : owner < S.structs
  pub inits : Inits
  pub stand : InitsStand (tables_of F S) n inits
  pub counted : count_inits inits ≡ left
  pub room : s + size_inits inits ≤ S.built_ins + S.nodes
  pub few : Few π (size_inits inits)

pub record ToldInits (F : List ℕ) (S : Sections) (X R W : List ℕ) (base n s π left owner parent : ℕ) (R' W' K' : List ℕ) (r : Judged) : Type 0 where
  pub tells : (is : Inits) → InitsStand (tables_of F S) n is → count_inits is ≡ left
      → Meets (Listing F S X base n (size_inits is) s R W R' W' K' r) r π (initialized_in F S W base s owner is n parent).out (initialized_in F S W base s owner is n parent).pairs

-- the value at m of the array with initializer at n, in the block of its index name
abbrev pub fills : Tables → Context ℕ → Expr → (m n : ℕ) → Scope ℕ → Counted ℕ
fills T C b m n Γ =
    and_counting (judging T C b m (binds (inner Γ) (node_at T n).x 0 n)) λ v L.
    asks (asked T C v (referred T (node_at T n).t)) 11 n (giving (ok v L))

abbrev pub fills_in : List ℕ → Sections → List ℕ → (base s : ℕ) → Expr → (m n : ℕ) → Counted ℕ
fills_in F S W base s b m n = fills (tables_of F S) (context_of (tables_of F S) W base) b m n (scope_of (tables_of F S) W base s)

-- π pairs were compared before the value
pub record ReadyFilling (F : List ℕ) (S : Sections) (X R W K : List ℕ) (base n s m π : ℕ) : Type 0 where
  pub fine : Fine F S X R W K base s
  pub after_node : n < m
  pub within : m < S.nodes
  pub array : has_kind (tables_of F S) (node_at (tables_of F S) n).t 5 ≡ true
  pub tree : Expr
  pub stands : Stands (tables_of F S) m tree
  pub room : s + 1 + size tree ≤ S.built_ins + S.nodes
  pub few : Few π (size tree)

pub record ToldFilling (F : List ℕ) (S : Sections) (X R W : List ℕ) (base n s m π : ℕ) (R' W' K' : List ℕ) (r : Judged) : Type 0 where
  pub tells : (b : Expr) → Stands (tables_of F S) m b
      → Meets (Typing F S X base m (size b) s R W R' W' K' r) r π (fills_in F S W base s b m n).out (fills_in F S W base s b m n).pairs

-- the same of a frame, and of what the walk writes before, as w, and after, as v
abbrev pub ReadyAt : Frame → Walk → At → Type 0
ReadyAt f w a = Ready f.file.bytes.now f.file.sections f.file.index.now w.rows.now w.bindings.work.now w.bindings.chains f.base a.node a.scope a.pairs

abbrev pub ToldAt : Frame → Walk → At → Walk → Judged → Type 0
ToldAt f w a v r =
    Told f.file.bytes.now f.file.sections f.file.index.now w.rows.now w.bindings.work.now f.base a.node a.scope a.pairs v.rows.now v.bindings.work.now v.bindings.chains r

abbrev pub ReadyListAt : Frame → Walk → At → (left : ℕ) → Expected → Type 0
ReadyListAt f w a left x =
    ReadyList f.file.bytes.now f.file.sections f.file.index.now w.rows.now w.bindings.work.now w.bindings.chains f.base a.node a.scope a.pairs left x

abbrev pub ToldListAt : Frame → Walk → At → (left : ℕ) → Expected → (parent : ℕ) → Walk → Judged → Type 0
ToldListAt f w a left x parent v r =
    ToldList f.file.bytes.now f.file.sections f.file.index.now w.rows.now w.bindings.work.now f.base a.node a.scope a.pairs left x parent v.rows.now v.bindings.work.now v.bindings.chains r

abbrev pub ReadyInitsAt : Frame → Walk → At → (left owner : ℕ) → Type 0
ReadyInitsAt f w a left owner =
    ReadyInits f.file.bytes.now f.file.sections f.file.index.now w.rows.now w.bindings.work.now w.bindings.chains f.base a.node a.scope a.pairs left owner

abbrev pub ToldInitsAt : Frame → Walk → At → (left owner parent : ℕ) → Walk → Judged → Type 0
ToldInitsAt f w a left owner parent v r =
    ToldInits f.file.bytes.now f.file.sections f.file.index.now w.rows.now w.bindings.work.now f.base a.node a.scope a.pairs left owner parent v.rows.now v.bindings.work.now v.bindings.chains r

-- the value at b of the array with initializer at a
abbrev pub ReadyFillingAt : Frame → Walk → (a b : At) → Type 0
ReadyFillingAt f w a b =
    ReadyFilling f.file.bytes.now f.file.sections f.file.index.now w.rows.now w.bindings.work.now w.bindings.chains f.base a.node a.scope b.node b.pairs

abbrev pub ToldFillingAt : Frame → Walk → (a b : At) → Walk → Judged → Type 0
ToldFillingAt f w a b v r =
    ToldFilling f.file.bytes.now f.file.sections f.file.index.now w.rows.now w.bindings.work.now f.base a.node a.scope b.node b.pairs v.rows.now v.bindings.work.now v.bindings.chains r
