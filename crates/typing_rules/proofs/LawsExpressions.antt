-- Where expressions stand: every node of an expression's kind within a tree is the top of an expression in it. So in a derivation of a file
-- every such node has a type, and its row is a number of that type. Assumes nothing.
use mathlib.Core.Path.{◌≡◌, refl, subst}
use mathlib.Core.Bool.{true, false}
use mathlib.Core.List.{List, [], ◌∷◌}
use Prim.Native.Nat.{ℕ, ◌+◌, ◌*◌, ◌<◌}
use native.Mathlib.Omega.{arith}
use lib.ListN.{length, get_or}
use Rattle.oat.specs.Tables.{Tables}
use Rattle.oat.specs.Types.{Ty}
use Rattle.oat.specs.Syntax.{Expr, null, literal, name, array_literal, default_array, array_with, index, length_of, struct_literal, field, call, unary, binary, Exprs, none, also, Inits, no_init, init, target_expr, Vars, no_var, next_var, Condition, no_condition, condition, Stmt, assign, var, return_value, return_void, call_stmt, if_else, if_null, for, while, Step, no_step, step, Block, block, Stmts, empty, then, Decl, global, function, size, sizes, size_inits, size_target, size_vars, size_condition, size_stmt, size_step, size_block, size_stmts, size_decl, size_decls}
use Rattle.oat.specs.Nodes.{Node, Stands, StandAll, InitsStand, VarsStand, ConditionStands, StmtStands, StepStands, BlockStands, StmtsStand, ParametersStand, DeclsStand, is_expression_kind, is_expression}
use Rattle.oat.specs.ProgramFile.{Program}
use Rattle.oat.proofs.LawsKinds.{Each as EachNode, no_node, until, join, top as top-node}
use Rattle.typing_rules.specs.Contexts.{Context}
use Rattle.typing_rules.specs.Labels.{gives, Labels}
use Rattle.typing_rules.specs.Rules.{ExprRule, typ_null, typ_literal, typ_local, typ_global, typ_carr, typ_newarray, typ_newarrayinit, typ_index, typ_length, typ_structex, typ_field, typ_call, typ_bop, typ_eq, typ_uop}
use Rattle.typing_rules.specs.Derivations.{At, here, in_elements, in_length, in_with_length, in_with_value, in_indexed, in_position, in_measured, in_fields, in_record, in_callee, in_arguments, in_operand, in_left, in_right, AtAll, in_first, in_rest, AtInits, in_value, in_others, expression, AtVars, in_var, in_vars, AtCondition, in_condition, InStmt, in_target, in_assigned, in_initial, in_returned, in_called, in_passed, in_test, in_then, in_else, in_nullable, in_some, in_null, in_for_vars, in_for_condition, in_for_step, in_for_body, in_while_test, in_while_body, AtStep, in_step, AtBlock, in_block, AtStmts, in_stmt, in_stmts}
use Rattle.typing_rules.specs.Steps.{global_value, body, globals, bodies, StepRule, typ_ggdecl, typ_fdeclok, DerivesFile}
use Rattle.typing_rules.specs.Rows.{NumberOf, ResultIs, DeclRows}
use Rattle.typing_rules.proofs.LawsSegments.{in_first as first_step, in_later}
use Rattle.typing_rules.proofs.LawsBodies.{StepsRuled, step_rule}
use Rattle.typing_rules.proofs.LawsPlaced.{expr_holds, block_holds}
use Rattle.typing_rules.proofs.LawsRowsAt.{HasRow, of_global, of_block, of_others, row_of}
use Rattle.typing_rules.proofs.RowsTheorem.{global_in, body_in}

-- of every node of an expression's kind, from n on and before m, P holds
abbrev pub Each : Tables → (ℕ → Type 0) → ℕ → ℕ → Type 0
Each T P n m = EachNode (λ i. is_expression T i ≡ true → P i) n m

module _ (T : Tables) (P : ℕ → Type 0) where
  -- an expression's node before others, and one of another kind
  top : {n k m : ℕ} → P n → k ≡ m → Each T P (n + 1) k → Each T P n m
  top p e q = top-node (λ k. p) e q

  other : {n k m d x t c : ℕ} → Node T n d x t c → is_expression_kind d ≡ false → k ≡ m → Each T P (n + 1) k → Each T P n m
  unfolding is_expression
  other v f e q = top-node (λ k. absurd (let z : ◌≡◌ {A = ℕ} 0 1 = cc v.kind_is in omega arith)) e q

  -- an expression's nodes are its top, field initializers' and those of the expressions in it
  mutual
    unfolding is_expression_kind

    pub each_expr : (e : Expr) (n : ℕ) → Stands T n e → ((m : ℕ) (u : Expr) → At e n m u → P m) → Each T P n (n + size e)
    each_expr (null t) n h f = top (f n _ here) refl no_node
    each_expr (literal l) n h f = top (f n _ here) refl no_node
    each_expr (name x) n h f = top (f n _ here) refl no_node
    each_expr (array_literal t es) n h f = top (f n _ here) (omega arith) (each_exprs es (n + 1) h.2 (λ m u w. f m u (in_elements w)))
    each_expr (default_array t a) n h f = top (f n _ here) (omega arith) (each_expr a (n + 1) h.2 (λ m u w. f m u (in_length w)))
    each_expr (array_with t x a b) n h f =
        top (f n _ here) (omega arith)
        (join (each_expr a (n + 1) h.2 (λ m u w. f m u (in_with_length w))) (each_expr b (n + 1 + size a) h.3 (λ m u w. f m u (in_with_value w))))
    each_expr (index a b) n h f =
        top (f n _ here) (omega arith)
        (join (each_expr a (n + 1) h.1 (λ m u w. f m u (in_indexed w))) (each_expr b (n + 1 + size a) h.2 (λ m u w. f m u (in_position w))))
    each_expr (length_of a) n h f = top (f n _ here) (omega arith) (each_expr a (n + 1) h.1 (λ m u w. f m u (in_measured w)))
    each_expr (struct_literal t is) n h f = top (f n _ here) (omega arith) (each_inits is (n + 1) h.2 (λ m u w. f m u (in_fields w)))
    each_expr (field x a) n h f = top (f n _ here) (omega arith) (each_expr a (n + 1) h.1 (λ m u w. f m u (in_record w)))
    each_expr (call a es) n h f =
        top (f n _ here) (omega arith)
        (join (each_expr a (n + 1) h.1 (λ m u w. f m u (in_callee w))) (each_exprs es (n + 1 + size a) h.2 (λ m u w. f m u (in_arguments w))))
    each_expr (unary x a) n h f = top (f n _ here) (omega arith) (each_expr a (n + 1) h.2 (λ m u w. f m u (in_operand w)))
    each_expr (binary x a b) n h f =
        top (f n _ here) (omega arith)
        (join (each_expr a (n + 1) h.2 (λ m u w. f m u (in_left w))) (each_expr b (n + 1 + size a) h.3 (λ m u w. f m u (in_right w))))

    each_exprs : (es : Exprs) (n : ℕ) → StandAll T n es → ((m : ℕ) (u : Expr) → AtAll es n m u → P m) → Each T P n (n + sizes es)
    each_exprs none n h f = until (omega arith) no_node
    each_exprs (also a es) n h f =
        until (omega arith) (join (each_expr a n h.0 (λ m u w. f m u (in_first w))) (each_exprs es (n + size a) h.1 (λ m u w. f m u (in_rest w))))

    each_inits : (is : Inits) (n : ℕ) → InitsStand T n is → ((m : ℕ) (u : Expr) → AtInits is n m u → P m) → Each T P n (n + size_inits is)
    each_inits no_init n h f = until (omega arith) no_node
    each_inits (init x a is) n h f =
        other h.0 refl (omega arith)
        (join (each_expr a (n + 1) h.1 (λ m u w. f m u (in_value w))) (each_inits is (n + 1 + size a) h.2 (λ m u w. f m u (in_others w))))

  -- a for's variables and its condition
  each_vars : (vs : Vars) (n : ℕ) → VarsStand T n vs → ((m : ℕ) (u : Expr) → AtVars vs n m (expression u) → P m) → Each T P n (n + size_vars vs)
  unfolding is_expression_kind
  each_vars no_var n h f = until (omega arith) no_node
  each_vars (next_var x a vs) n h f =
      other h.0 refl (omega arith)
      (join (each_expr a (n + 1) h.1 (λ m u w. f m u (in_var w))) (each_vars vs (n + 1 + size a) h.2 (λ m u w. f m u (in_vars w))))

  each_condition : (q : Condition) (n : ℕ) → ConditionStands T n q → ((m : ℕ) (u : Expr) → AtCondition q n m (expression u) → P m) → Each T P n (n + size_condition q)
  unfolding is_expression_kind
  each_condition no_condition n h f = other h refl refl no_node
  each_condition (condition a) n h f = each_expr a n h (λ m u w. f m u (in_condition w))

  -- no statement and no block is an expression
  mutual
    unfolding is_expression_kind

    each_stmt : (s : Stmt) (n : ℕ) → StmtStands T n s → ((m : ℕ) (u : Expr) → InStmt s n m (expression u) → P m) → Each T P n (n + size_stmt s)
    each_stmt (assign g a) n h f =
        other h.0 refl (omega arith)
        (join (each_expr (target_expr g) (n + 1) h.1 (λ m u w. f m u (in_target w))) (each_expr a (n + 1 + size_target g) h.2 (λ m u w. f m u (in_assigned w))))
    each_stmt (var x a) n h f = other h.0 refl (omega arith) (each_expr a (n + 1) h.1 (λ m u w. f m u (in_initial w)))
    each_stmt (return_value a) n h f = other h.0 refl (omega arith) (each_expr a (n + 1) h.1 (λ m u w. f m u (in_returned w)))
    each_stmt return_void n h f = other h refl refl no_node
    each_stmt (call_stmt a es) n h f =
        other h.0 refl (omega arith)
        (join (each_expr a (n + 1) h.1 (λ m u w. f m u (in_called w))) (each_exprs es (n + 1 + size a) h.2 (λ m u w. f m u (in_passed w))))
    each_stmt (if_else a b c) n h f =
        other h.0 refl (omega arith)
        (join (each_expr a (n + 1) h.1 (λ m u w. f m u (in_test w)))
        (join (each_block b (n + 1 + size a) h.2 (λ m u w. f m u (in_then w)))
        (each_block c (n + 1 + size a + size_block b) h.3 (λ m u w. f m u (in_else w)))))
    each_stmt (if_null x t a b c) n h f =
        other h.0 refl (omega arith)
        (join (each_expr a (n + 1) h.2 (λ m u w. f m u (in_nullable w)))
        (join (each_block b (n + 1 + size a) h.3 (λ m u w. f m u (in_some w)))
        (each_block c (n + 1 + size a + size_block b) h.4 (λ m u w. f m u (in_null w)))))
    each_stmt (for vs q s b) n h f =
        other h.0 refl (omega arith)
        (join (each_vars vs (n + 1) h.1 (λ m u w. f m u (in_for_vars w)))
        (join (each_condition q (n + 1 + size_vars vs) h.2 (λ m u w. f m u (in_for_condition w)))
        (join (each_step s (n + 1 + size_vars vs + size_condition q) h.3 (λ m u w. f m u (in_for_step w)))
        (each_block b (n + 1 + size_vars vs + size_condition q + size_step s) h.4 (λ m u w. f m u (in_for_body w))))))
    each_stmt (while a b) n h f =
        other h.0 refl (omega arith)
        (join (each_expr a (n + 1) h.1 (λ m u w. f m u (in_while_test w))) (each_block b (n + 1 + size a) h.2 (λ m u w. f m u (in_while_body w))))

    each_step : (s : Step) (n : ℕ) → StepStands T n s → ((m : ℕ) (u : Expr) → AtStep s n m (expression u) → P m) → Each T P n (n + size_step s)
    each_step no_step n h f = other h refl refl no_node
    each_step (step s) n h f = each_stmt s n h (λ m u w. f m u (in_step w))

    pub each_block : (b : Block) (n : ℕ) → BlockStands T n b → ((m : ℕ) (u : Expr) → AtBlock b n m (expression u) → P m) → Each T P n (n + size_block b)
    each_block (block ss) n h f = other h.0 refl (omega arith) (each_stmts ss (n + 1) h.1 (λ m u w. f m u (in_block w)))

    each_stmts : (ss : Stmts) (n : ℕ) → StmtsStand T n ss → ((m : ℕ) (u : Expr) → AtStmts ss n m (expression u) → P m) → Each T P n (n + size_stmts ss)
    each_stmts empty n h f = until (omega arith) no_node
    each_stmts (then s ss) n h f =
        until (omega arith) (join (each_stmt s n h.0 (λ m u w. f m u (in_stmt w))) (each_stmts ss (n + size_stmt s) h.1 (λ m u w. f m u (in_stmts w))))

  -- no parameter is one
  no_parameter : (ps : List ℕ) (n : ℕ) → ParametersStand T n ps → Each T P n (n + length ps)
  unfolding is_expression_kind
  no_parameter [] n h = until (omega arith) no_node
  no_parameter (x ∷ ps) n h = other h.0 refl (omega arith) (no_parameter ps (n + 1) h.1)

-- a rule gives its expression a type
abbrev HasType : Labels Ty → ℕ → Type 0
HasType D m = (t : Ty) × ((D m).result ≡ gives t)

gives_type : {T : Tables} {C : Context Ty} {D : Labels Ty} {n : ℕ} {e : Expr} → ExprRule T C D n e → HasType D n
gives_type (typ_null r e o h) = (_, h.type)
gives_type (typ_literal h) = (_, h.type)
gives_type (typ_local t b e h) = (_, h.type)
gives_type (typ_global t b e f h) = (_, h.type)
gives_type (typ_carr u ts e o p q h) = (_, h.type)
gives_type (typ_newarray u e o p q h) = (_, h.type)
gives_type (typ_newarrayinit u v e o p q r h) = (_, h.type)
gives_type (typ_index t p q h) = (_, h.type)
gives_type (typ_length t p h) = (_, h.type)
gives_type (typ_structex s fs ts e l o p q h) = (_, h.type)
gives_type (typ_field s fs t p l o h) = (_, h.type)
gives_type (typ_call us ts t p v q r h) = (_, h.type)
gives_type (typ_bop i p q h) = (_, h.type)
gives_type (typ_eq t u i p q r s h) = (_, h.type)
gives_type (typ_uop p h) = (_, h.type)

-- in the declarations that stand from n on, by the rules of their steps, each has a type and a row
module _ {T : Tables} {D : Labels Ty} where
  value_type : {C : Context Ty} {n x m : ℕ} {a u : Expr} → StepRule T C D (global_value n x a) → At a (n + 1) m u → HasType D m
  value_type (typ_ggdecl e s d f) w = gives_type (d.rule _ _ w)

  block_type : {C : Context Ty} {n t m : ℕ} {ps : List ℕ} {b : Block} {u : Expr} → StepRule T C D (body n t ps b) → AtBlock b (n + 1 + length ps) m (expression u)
      → HasType D m
  block_type (typ_fdeclok e l s d r) w = gives_type (d.rule _ _ w)

  each_decl : (P : ℕ → Type 0) (ds : List Decl) (n : ℕ) → DeclsStand T n ds → StepsRuled T D (globals n ds) → StepsRuled T D (bodies n ds)
      → ((m : ℕ) → HasRow n ds m → HasType D m → P m) → Each T P n (n + size_decls ds)
  unfolding globals bodies is_expression_kind
  each_decl P [] n h g b f = until (omega arith) no_node
  each_decl P (global x a ∷ ds) n h g b f =
      until (omega arith)
      (join
      (other T P h.0.0 refl (omega arith)
      (each_expr T P a (n + 1) h.0.2 (λ m u w. let (k, l) = expr_holds a w in f m (of_global (omega (arith, k)) l) (value_type (g _ first_step).1 w))))
      (each_decl P ds (n + size_decl (global x a)) h.1 (λ s i. g s (in_later i)) b (λ m r t. f m (of_others r) t)))
  each_decl P (function x t ps c ∷ ds) n h g b f =
      until (omega arith)
      (join
      (other T P h.0.0 refl (omega arith)
      (join (no_parameter T P ps (n + 1) h.0.3)
      (each_block T P c (n + 1 + length ps) h.0.4 (λ m u w. let (k, l) = block_holds c w in f m (of_block k l) (block_type (b _ first_step).1 w)))))
      (each_decl P ds (n + size_decl (function x t ps c)) h.1 g (λ s i. b s (in_later i)) (λ m r t. f m (of_others r) t)))

pub expression_row : (p : Program) (D : Labels Ty) (C : Context Ty) (R : List ℕ) → DerivesFile p D C → DeclsStand p.tables 0 p.declarations
    → DeclRows p.tables D 0 p.declarations R → (i : ℕ) → i < size_decls p.declarations → is_expression p.tables i ≡ true
    → (t : Ty) × ((D i).result ≡ gives t) × NumberOf p.tables t (get_or R (2 * i) 65535) × (2 * i + 1 < length R)
expression_row p D C R d h r i l k =
    let T = p.tables in
    let ds = p.declarations in
    let rules = step_rule p D C d in
    let found = each_decl (λ m. HasRow 0 ds m × HasType D m) ds 0 h (λ s j. rules s (global_in p s j)) (λ s j. rules s (body_in p s j)) (λ m w t. (w, t)) in
    let (w, (t, e)) = found.at i (omega arith) (omega arith) k in
    let row = row_of T D ds i R r w in
    (t, e, subst (λ x. ResultIs T x row.after (get_or R (2 * i) 65535)) e row.result, row.within)
