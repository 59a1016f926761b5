-- Loops that never end (document 02, (i)): the mark of a while in every derivation, by its place and its condition; a block that ends in
-- such a loop returns, so that a function's body which does needs no return; and the row of a while. Assumes nothing.
use mathlib.Core.Path.{◌≡◌, ap, sym, ◌∙◌}
use mathlib.Core.Bool.{Bool, true, false, ◌&&◌}
use mathlib.Core.List.{List}
use Prim.Native.Nat.{ℕ, ◌+◌, ◌*◌, ◌≤◌}
use native.Mathlib.Omega.{arith}
use lib.ListN.{length, get_or}
use Rattle.oat.specs.Basics.{pick}
use Rattle.oat.specs.Tables.{Tables, type_at}
use Rattle.oat.specs.Types.{Ty, type_of}
use Rattle.oat.specs.Syntax.{truth, Expr, literal, Vars, Condition, for, while, Step, Block, block, Stmts, empty, then, size_stmt}
use Rattle.oat.specs.ProgramFile.{Program}
use Rattle.typing_rules.specs.Contexts.{Scope, empty as no-scope, Context}
use Rattle.typing_rules.specs.Labels.{Result, gives, marks, nothing, Label, Labels}
use Rattle.typing_rules.specs.Rules.{Chain, is_true, while_mark, StmtRule, typ_while, typ_for, BlockRule, typ_block}
use Rattle.typing_rules.specs.Derivations.{statement, AtBlock, here_block, in_block, AtStmts, at_stmt, in_stmts, DerivesBlock}
use Rattle.typing_rules.specs.Endless.{InBodies, ending_in}
use Rattle.typing_rules.specs.Steps.{body, distinct_names, Unlabelled, parameters, StepRule, typ_fdeclok, DerivesFile}
use Rattle.typing_rules.specs.Rows.{ResultIs, DeclRows}
use Rattle.typing_rules.proofs.LawsBodies.{of_body}
use Rattle.typing_rules.proofs.LawsRowsAt.{RowIs, row_at}

marks_is : {p q : ℕ} → ◌≡◌ {A = Result Ty} (marks p) (marks q) → p ≡ q
marks_is e = cc

-- a while has the mark 0 or 1
pub while_most : (last : Bool) (a : Expr) → while_mark last a ≤ 1
while_most last a = go (last && is_true a)
  where
    go : (b : Bool) → pick b 1 0 ≤ 1
    go true = omega arith
    go false = omega arith

-- while and for, in every derivation
module _ {T : Tables} {C : Context Ty} {D : Labels Ty} {rt : Ty} where
  while_rule : {last : Bool} {a : Expr} {c : Block} {m : ℕ} → StmtRule T C D rt last m (while a c) → (D m).result ≡ marks (while_mark last a)
  while_rule (typ_while p h i k) = k.mark

  -- a while in a block that has a derivation has one mark, which its place and its condition tell
  pub while_marked : {last : Bool} {a : Expr} {b c : Block} {n m : ℕ} → DerivesBlock T C D rt b n → AtBlock b n m (statement last (while a c))
      → (D m).result ≡ marks (while_mark last a)
  while_marked d w = while_rule (d.rule _ _ w)

  for_rule : {last : Bool} {vs : Vars} {q : Condition} {s : Step} {c : Block} {m : ℕ} → StmtRule T C D rt last m (for vs q s c) → (D m).result ≡ marks 0
  for_rule (typ_for Δ p h i j k e) = e.mark

  -- a for goes on, wherever it stands and whatever its condition is
  pub for_marked : {last : Bool} {vs : Vars} {q : Condition} {s : Step} {b c : Block} {n m : ℕ} → DerivesBlock T C D rt b n
      → AtBlock b n m (statement last (for vs q s c)) → (D m).result ≡ marks 0
  for_marked d w = for_rule (d.rule _ _ w)

-- statements that end in a loop which never ends return
ends_so : (D : Labels Ty) (c : Block) (ss : Stmts) (m p : ℕ) (Γ : Scope Ty) (q : ℕ) → Chain D m (ending_in ss (while (literal truth) c)) p Γ q
    → ((i : ℕ) → AtStmts (ending_in ss (while (literal truth) c)) m i (statement true (while (literal truth) c)) → (D i).result ≡ marks 1) → q ≡ 1
unfolding Chain
ends_so D c empty m p Γ q (r, z, k, e) f = e ∙ marks_is (sym k.mark ∙ f m at_stmt)
ends_so D c (then t ss) m p Γ q (r, z, k, e) f = ends_so D c ss (m + size_stmt t) r (D m).after q e (λ i w. f i (in_stmts w))

module _ {T : Tables} {C : Context Ty} {D : Labels Ty} (ss : Stmts) (c : Block) where
  ends_block : {rt : Ty} {n : ℕ} → DerivesBlock T C D rt (block (ending_in ss (while (literal truth) c))) n
      → BlockRule D n (block (ending_in ss (while (literal truth) c))) → (D n).result ≡ marks 1
  ends_block {n = n} d (typ_block q h k) = k.mark ∙ ap marks (ends_so D c ss (n + 1) 0 (D n).before q h (λ i w. while_marked d (in_block w)))

  -- a block that ends in a loop which never ends returns
  pub endless_block : {rt : Ty} {n : ℕ} → DerivesBlock T C D rt (block (ending_in ss (while (literal truth) c))) n → (D n).result ≡ marks 1
  endless_block d = ends_block d (d.rule _ _ here_block)

  -- so a function's body that ends in one has a derivation where its block has one, whatever it is to return
  pub endless_body : {n t : ℕ} {ps : List ℕ} → distinct_names ps ≡ true → Unlabelled D n (1 + length ps)
      → (D (n + 1 + length ps)).before ≡ parameters (type_of T) T no-scope (type_at T t).b (n + 1) ps
      → DerivesBlock T C D (type_of T (type_at T t).a) (block (ending_in ss (while (literal truth) c))) (n + 1 + length ps)
      → StepRule T C D (body n t ps (block (ending_in ss (while (literal truth) c))))
  endless_body d u e k = typ_fdeclok d u e k (endless_block k)

-- a while in a function's body, in a derivation of the file
body_marked : {T : Tables} {C : Context Ty} {D : Labels Ty} {k t : ℕ} {ps : List ℕ} {b : Block} {m : ℕ} {last : Bool} {a : Expr} {c : Block}
    → StepRule T C D (body k t ps b) → AtBlock b (k + 1 + length ps) m (statement last (while a c)) → (D m).result ≡ marks (while_mark last a)
body_marked (typ_fdeclok d u e k r) w = while_marked k w

file_marked : (p : Program) (D : Labels Ty) (C : Context Ty) (m : ℕ) {last : Bool} {a : Expr} {c : Block} → DerivesFile p D C
    → InBodies 0 p.declarations m (statement last (while a c)) → (D m).result ≡ marks (while_mark last a)
file_marked p D C m d w = let o = of_body p D C m d w in body_marked o.rule o.stands

-- a row whose label has a mark
result_is : (T : Tables) {q r : ℕ} (x : Result Ty) (L : List (Label Ty)) → x ≡ marks q → ResultIs T x L r → r ≡ q
result_is T (gives t) L e h = let z : ◌≡◌ {A = ℕ} 0 1 = cc in absurd (omega arith)
result_is T (marks p) L e h = h ∙ marks_is e
result_is T nothing L e h = let z : ◌≡◌ {A = ℕ} 0 1 = cc in absurd (omega arith)

-- the row of a while, by its place and its condition; in the rows of a derivation of a file each while has it
pub while_told : (p : Program) (D : Labels Ty) (C : Context Ty) (R : List ℕ) (m : ℕ) {last : Bool} {a : Expr} {c : Block} → DerivesFile p D C
    → RowIs p.tables (D m) m R → InBodies 0 p.declarations m (statement last (while a c)) → get_or R (2 * m) 65535 ≡ while_mark last a
while_told p D C R m d r w = result_is p.tables (D m).result r.after (file_marked p D C m d w) r.result

pub while_row : (p : Program) (D : Labels Ty) (C : Context Ty) (R : List ℕ) (m : ℕ) {last : Bool} {a : Expr} {c : Block} → DerivesFile p D C
    → DeclRows p.tables D 0 p.declarations R → InBodies 0 p.declarations m (statement last (while a c))
    → get_or R (2 * m) 65535 ≡ while_mark last a
while_row p D C R m d r w = while_told p D C R m d (row_at p.tables D p.declarations m R r w) w
