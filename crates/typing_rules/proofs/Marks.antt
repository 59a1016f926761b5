-- Return marks by the text of a program alone (document 02, (i)): in every derivation the label of each statement and block has the mark that
-- `oat` Marks gives it, whatever stands around it (`stmt_marked`, `block_marked`), and so has the row of each statement, block and function
-- of a file (`marks_row`). Assumes nothing.
use mathlib.Core.Path.{◌≡◌, refl, ap, sym, subst, ◌∙◌}
use mathlib.Core.Bool.{Bool, true, false, ◌&&◌}
use mathlib.Core.List.{List, [], ◌∷◌, ◌++◌}
use Prim.Native.Nat.{ℕ, ◌+◌, ◌*◌}
use native.Mathlib.Omega.{arith}
use lib.ListN.{length, get_or}
use Rattle.oat.specs.Tables.{Tables}
use Rattle.oat.specs.Types.{Ty}
use Rattle.oat.specs.Syntax.{truth, falsity, integer, text, Expr, null, literal, name, array_literal, default_array, array_with, index, length_of, struct_literal, field, call, unary, binary, Vars, no_var, next_var, Stmt, assign, var, return_value, return_void, call_stmt, if_else, if_null, for, while, Step, no_step, step, Block, block, Stmts, empty, then, Decl, global, function, size, size_vars, size_condition, size_step, size_block, size_stmt, size_decl}
use Rattle.oat.specs.ProgramFile.{Program}
use Rattle.oat.specs.Marks.{is_node_true, stmt_returns, block_returns, last_returns, mark_of, Mark, is_last, vars_marks, marks_below, step_marks, block_marks, stmts_marks, decl_marks, EachMark, each_none, each_next}
use Rattle.oat.proofs.LawsMarks.{each_append}
use Rattle.typing_rules.specs.Contexts.{Scope, Context}
use Rattle.typing_rules.specs.Labels.{Result, gives, marks, nothing, Label, Labels}
use Rattle.typing_rules.specs.Rules.{both, is_true, Chain, StmtRule, typ_assn, typ_decl, typ_rett, typ_retvoid, typ_scall, typ_if, typ_ifq, typ_while, typ_for, BlockRule, typ_block}
use Rattle.typing_rules.specs.Derivations.{Node, statement, blocked, is_empty, AtVars, at_var, in_vars, InStmt, in_then, in_else, in_some, in_null, in_for_vars, in_for_step, in_for_body, in_while_body, AtStep, at_step, in_step, AtBlock, here_block, in_block, AtStmts, at_stmt, in_stmt, in_stmts, RuleAt, DerivesBlock}
use Rattle.typing_rules.specs.Endless.{InBodies, in_body, in_others}
use Rattle.typing_rules.specs.Steps.{body, bodies, StepRule, typ_fdeclok, DerivesFile}
use Rattle.typing_rules.specs.Rows.{ResultIs, DeclRows}
use Rattle.typing_rules.proofs.LawsSegments.{in_first, in_later}
use Rattle.typing_rules.proofs.RowsTheorem.{body_in}
use Rattle.typing_rules.proofs.LawsBodies.{StepsRuled, step_rule}
use Rattle.typing_rules.proofs.LawsRowsAt.{row_at, FunctionAt, this_function, later_function, function_row}

marks_is : {p q : ℕ} → ◌≡◌ {A = Result Ty} (marks p) (marks q) → p ≡ q
marks_is e = cc

-- the rules' tests are those of the text
pub node_true : (a : Expr) → is_true a ≡ is_node_true a
node_true (null t) = refl
node_true (literal truth) = refl
node_true (literal falsity) = refl
node_true (literal (integer x)) = refl
node_true (literal (text x)) = refl
node_true (name x) = refl
node_true (array_literal t es) = refl
node_true (default_array t a) = refl
node_true (array_with t x a b) = refl
node_true (index a b) = refl
node_true (length_of a) = refl
node_true (struct_literal t is) = refl
node_true (field x a) = refl
node_true (call a es) = refl
node_true (unary x a) = refl
node_true (binary x a b) = refl

pub last_is : (ss : Stmts) → is_empty ss ≡ is_last ss
last_is empty = refl
last_is (then s ss) = refl

pub both_marks : (x y : Bool) {p q : ℕ} → p ≡ mark_of x → q ≡ mark_of y → both p q ≡ mark_of (x && y)
both_marks x y {q = q} e f = ap (λ r. both r q) e ∙ ap (λ r. both (mark_of x) r) f ∙ go x y
  where
    go : (x y : Bool) → both (mark_of x) (mark_of y) ≡ mark_of (x && y)
    go true y = refl
    go false y = refl

-- the mark of the last of the statements ss, after one that returns or not, as `b` says
abbrev pub end_returns : Bool → Stmts → Bool
end_returns b empty = b
end_returns b (then s ss) = last_returns (then s ss)

pub end_is : (s : Stmt) (ss : Stmts) → end_returns (stmt_returns (is_last ss) s) ss ≡ last_returns (then s ss)
unfolding last_returns
end_is s empty = refl
end_is s (then t ss) = refl

pub block_is : (ss : Stmts) → end_returns false ss ≡ block_returns (block ss)
unfolding last_returns
block_is empty = refl
block_is (then s ss) = refl

-- what a tree's nodes are told: the rule of each, and what its mark gives, once it is known
module _ (T : Tables) (C : Context Ty) (D : Labels Ty) (rt : Ty) (P : ℕ → ℕ → Type 0) where
  abbrev Told : (ℕ → Node → Type 0) → Type 0
  Told X = (m : ℕ) (u : Node) → X m u → RuleAt T C D rt m u × ((q : ℕ) → (D m).result ≡ marks q → P m q)

  -- P of the node and the mark
  abbrev Holds : Mark → Type 0
  Holds k = P k.node (mark_of k.returns)

  vars-marks : (vs : Vars) (n : ℕ) → Told (AtVars vs n) → EachMark Holds (vars_marks vs n)
  unfolding vars_marks
  vars-marks no_var n f = each_none
  vars-marks (next_var x a vs) n f = each_next (go (f n (statement false (var x a)) at_var)) (vars-marks vs (n + 1 + size a) (λ m u w. f m u (in_vars w)))
    where
      go : StmtRule T C D rt false n (var x a) × ((q : ℕ) → (D n).result ≡ marks q → P n q) → P n 0
      go (typ_decl t h i e, k) = k 0 e.mark

  -- a node's label and what it gives
  abbrev Given : ℕ → Bool → List Mark → Type 0
  Given n b ks = ((D n).result ≡ marks (mark_of b)) × EachMark Holds ks

  arms : {n m i p q : ℕ} (x y : Bool) {ks : List Mark} (js : List Mark) → (D n).result ≡ marks (both p q) → (D m).result ≡ marks p → (D i).result ≡ marks q
      → Given m x js → Given i y ks → Given n (x && y) (js ++ ks)
  arms x y js e f g (h, a) (k, b) = (e ∙ ap marks (both_marks x y (marks_is (sym f ∙ h)) (marks_is (sym g ∙ k))), each_append js a b)

  whole : {n : ℕ} (ss : Stmts) → BlockRule D n (block ss) × ((q : ℕ) → (D n).result ≡ marks q → P n q)
      → ((q : ℕ) → Chain D (n + 1) ss 0 (D n).before q → (q ≡ mark_of (end_returns false ss)) × EachMark Holds (stmts_marks ss (n + 1)))
      → Given n (block_returns (block ss)) (block_marks (block ss) n)
  unfolding block_marks
  whole ss (typ_block q h e, k) f =
      let (same, all) = f q h in
      let mark = e.mark ∙ ap marks (same ∙ ap mark_of (block_is ss)) in
      (mark, each_next (k _ mark) all)

  mutual
    unfolding stmt_returns marks_below Chain

    stmt_marks : (s : Stmt) (last : Bool) (n : ℕ) → StmtRule T C D rt last n s → Told (InStmt s n) → Given n (stmt_returns last s) (marks_below s n)
    stmt_marks (assign g a) last n (typ_assn t u h i j k e) f = (e.mark, each_none)
    stmt_marks (var x a) last n (typ_decl t h i e) f = (e.mark, each_none)
    stmt_marks (return_value a) last n (typ_rett t h i j e) f = (e.mark, each_none)
    stmt_marks return_void last n (typ_retvoid h e) f = (e.mark, each_none)
    stmt_marks (call_stmt a es) last n (typ_scall us ts h i j e) f = (e.mark, each_none)
    stmt_marks (if_else a b c) last n (typ_if p q h i j e) f =
        arms (block_returns b) (block_returns c) (block_marks b (n + 1 + size a)) e.mark i.mark j.mark
        (block-marks b (n + 1 + size a) (λ m u w. f m u (in_then w))) (block-marks c (n + 1 + size a + size_block b) (λ m u w. f m u (in_else w)))
    stmt_marks (if_null x t a b c) last n (typ_ifq r p q h i j k e) f =
        arms (block_returns b) (block_returns c) (block_marks b (n + 1 + size a)) e.mark j.mark k.mark
        (block-marks b (n + 1 + size a) (λ m u w. f m u (in_some w))) (block-marks c (n + 1 + size a + size_block b) (λ m u w. f m u (in_null w)))
    stmt_marks (for vs c s b) last n (typ_for Δ p h i j k e) f = (
      e.mark,
      each_append (vars_marks vs (n + 1)) (vars-marks vs (n + 1) (λ m u w. f m u (in_for_vars w)))
          (each_append (step_marks s (n + 1 + size_vars vs + size_condition c)) (step-marks s (n + 1 + size_vars vs + size_condition c) (λ m u w. f m u (in_for_step w)))
          (block-marks b (n + 1 + size_vars vs + size_condition c + size_step s) (λ m u w. f m u (in_for_body w))).1),
    )
    stmt_marks (while a b) last n (typ_while p h i e) f =
        (e.mark ∙ ap (λ x. marks (mark_of (last && x))) (node_true a), (block-marks b (n + 1 + size a) (λ m u w. f m u (in_while_body w))).1)

    step-marks : (s : Step) (n : ℕ) → Told (AtStep s n) → EachMark Holds (step_marks s n)
    step-marks no_step n f = each_none
    step-marks (step s) n f =
        let (rule, k) = f n (statement false s) at_step in
        let (mark, all) = stmt_marks s false n rule (λ m u w. f m u (in_step w)) in
        each_next (k _ mark) all

    block-marks : (b : Block) (n : ℕ) → Told (AtBlock b n) → Given n (block_returns b) (block_marks b n)
    block-marks (block ss) n f =
        whole ss (f n (blocked (block ss)) here_block) (λ q h. stmts-marks ss false (n + 1) (D n).before q h (λ m u w. f m u (in_block w)))

    stmts-marks : (ss : Stmts) (b : Bool) (n : ℕ) (Γ : Scope Ty) (q : ℕ) → Chain D n ss (mark_of b) Γ q → Told (AtStmts ss n)
        → (q ≡ mark_of (end_returns b ss)) × EachMark Holds (stmts_marks ss n)
    stmts-marks empty b n Γ q c f = (c, each_none)
    stmts-marks (then s ss) b n Γ q (r, z, i, c) f =
        let (rule, k) = f n (statement (is_empty ss) s) at_stmt in
        let (mark, all) = stmt_marks s (is_last ss) n (subst (λ last. StmtRule T C D rt last n s) (last_is ss) rule) (λ m u w. f m u (in_stmt w)) in
        let (same, rest) = stmts-marks ss (stmt_returns (is_last ss) s) (n + size_stmt s) (D n).after q
        (subst (λ x. Chain D (n + size_stmt s) ss x (D n).after q) (marks_is (sym i.mark ∙ mark)) c) (λ m u w. f m u (in_stmts w)) in
        (same ∙ ap mark_of (end_is s ss), each_next (k _ mark) (each_append (marks_below s n) all rest))

module _ {T : Tables} {C : Context Ty} {D : Labels Ty} {rt : Ty} where
  -- a statement that has its rule, as those below it have theirs, has the mark of its shape, be it the last of its block or not
  pub stmt_marked : (s : Stmt) (last : Bool) (n : ℕ) → StmtRule T C D rt last n s → ((m : ℕ) (u : Node) → InStmt s n m u → RuleAt T C D rt m u)
      → (D n).result ≡ marks (mark_of (stmt_returns last s))
  stmt_marked s last n r f = (stmt_marks T C D rt (λ m q. (D m).result ≡ marks q) s last n r (λ m u w. (f m u w, λ q e. e))).0

  -- so has a block that has a derivation, and every statement and block in it
  pub block_mark : (b : Block) (n : ℕ) → DerivesBlock T C D rt b n → (D n).result ≡ marks (mark_of (block_returns b))
  block_mark b n d = (block-marks T C D rt (λ m q. (D m).result ≡ marks q) b n (λ m u w. (d.rule m u w, λ q e. e))).0

  pub block_marked : (b : Block) (n : ℕ) → DerivesBlock T C D rt b n → EachMark (λ k. (D k.node).result ≡ marks (mark_of k.returns)) (block_marks b n)
  block_marked b n d = (block-marks T C D rt (λ m q. (D m).result ≡ marks q) b n (λ m u w. (d.rule m u w, λ q e. e))).1

-- a function's body
body_marks : {T : Tables} {C : Context Ty} {D : Labels Ty} (P : ℕ → ℕ → Type 0) {n t : ℕ} {ps : List ℕ} (b : Block) → StepRule T C D (body n t ps b)
    → ((m : ℕ) (u : Node) → AtBlock b (n + 1 + length ps) m u → (q : ℕ) → (D m).result ≡ marks q → P m q)
    → ((D (n + 1 + length ps)).result ≡ marks (mark_of (block_returns b))) × EachMark (λ k. P k.node (mark_of k.returns)) (block_marks b (n + 1 + length ps))
body_marks {T} {C} {D} P {n} {ps = ps} b (typ_fdeclok d u e k r) f = block-marks T C D _ P b (n + 1 + length ps) (λ m u w. (k.rule m u w, f m u w))

-- declarations; a function's mark is its block's
decl-marks : {T : Tables} {D : Labels Ty} (P : ℕ → ℕ → Type 0) (ds : List Decl) (n : ℕ) → StepsRuled T D (bodies n ds)
    → ((m : ℕ) (u : Node) → InBodies n ds m u → (q : ℕ) → (D m).result ≡ marks q → P m q)
    → ((m k : ℕ) → FunctionAt n ds m k → (q : ℕ) → (D k).result ≡ marks q → P m q)
    → EachMark (λ k. P k.node (mark_of k.returns)) (decl_marks n ds)
unfolding bodies decl_marks
decl-marks P [] n f g h = each_none
decl-marks P (global x a ∷ ds) n f g h = decl-marks P ds (n + size_decl (global x a)) f (λ m u w. g m u (in_others w)) (λ m k w. h m k (later_function w))
decl-marks P (function x t ps b ∷ ds) n f g h =
    let (B, rule) = f (body n t ps b) in_first in
    let (mark, all) = body_marks P b rule (λ m u w. g m u (in_body w)) in
    each_next (h n (n + 1 + length ps) this_function _ mark)
    (each_append (block_marks b (n + 1 + length ps)) all
    (decl-marks P ds (n + size_decl (function x t ps b)) (λ s i. f s (in_later i)) (λ m u w. g m u (in_others w)) (λ m k w. h m k (later_function w))))

-- a row whose label has a mark
result_is : (T : Tables) {q r : ℕ} (x : Result Ty) (L : List (Label Ty)) → x ≡ marks q → ResultIs T x L r → r ≡ q
result_is T (gives t) L e h = let z : ◌≡◌ {A = ℕ} 0 1 = cc in absurd (omega arith)
result_is T (marks p) L e h = h ∙ marks_is e
result_is T nothing L e h = let z : ◌≡◌ {A = ℕ} 0 1 = cc in absurd (omega arith)

-- in the rows of a derivation of a file each statement, block and function has its mark
pub marks_row : (p : Program) (D : Labels Ty) (C : Context Ty) (R : List ℕ) → DerivesFile p D C → DeclRows p.tables D 0 p.declarations R
    → EachMark (λ k. get_or R (2 * k.node) 65535 ≡ mark_of k.returns) (decl_marks 0 p.declarations)
marks_row p D C R d r =
    decl-marks (λ m q. get_or R (2 * m) 65535 ≡ q) p.declarations 0 (λ s i. step_rule p D C d s (body_in p s i))
    (λ m u w q e. let row = row_at p.tables D p.declarations m R r w in result_is p.tables (D m).result row.after e row.result)
    (λ m k w q e. let (x, is, row) = function_row p.tables D p.declarations m k R r w in row ∙ marks_is (sym is ∙ e))
