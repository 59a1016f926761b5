-- The rows of an accepted run: each step with nodes has its segment, and there the rows of the run's labels. Assumes nothing.
use mathlib.Core.Path.{◌≡◌, refl, ap, sym, subst, ◌∙◌}
use mathlib.Core.Bool.{Bool, true, false}
use mathlib.Core.List.{List, [], ◌∷◌, ◌++◌}
use Prim.Native.Nat.{ℕ, zero, suc, ◌+◌, ◌≤◌, ◌<◌}
use native.Mathlib.Omega.{arith}
use lib.ListN.{length, drop, replicate, length-append, length-replicate}
use lib.Dec.{eqb}
use borrow.Author.Tests.{eqb-true, eqb-false, eq-eqb, ne_eqb}
use Rattle.oat.specs.Basics.{pick}
use Rattle.oat.specs.Tables.{Tables, type_at, entry_at}
use Rattle.oat.specs.Types.{Ty}
use Rattle.oat.specs.Syntax.{Expr, Block, size, size_block}
use Rattle.oat.specs.Nodes.{Stands}
use Rattle.oat.proofs.LawsTables.{has-kind}
use Rattle.typing_rules.specs.Contexts.{empty, Context, find_name, is_miss}
use Rattle.typing_rules.specs.Labels.{marks, Label, Labels, unlabelled}
use Rattle.typing_rules.specs.Judge.{ok, referred, judge, execute_block}
use Rattle.typing_rules.specs.Steps.{Step, struct_name, built_in, heading, global_value, struct_fields, body, distinct_names, StepRule, typ_fdeclok}
use Rattle.typing_rules.specs.Check.{Segment, accepted, with_segment, rows_of, parameter_rows, step_rows, rows_begin, node_count, run_step, run, segment_at, stepping}
use Rattle.typing_rules.specs.Rows.{RowsAre, rows_node, labels_from, ParametersAre, parameters_none, parameters_next}
use Rattle.typing_rules.proofs.Claims.{File, fits_empty, ContextFits, erase, Holds}
use Rattle.typing_rules.proofs.LawsBridge.{erase_long}
use Rattle.typing_rules.proofs.LawsOutcome.{ok_is, then_ok, needs_ok}
use Rattle.typing_rules.proofs.LawsRows.{LabelsFit, fit_label, rows_are}
use Rattle.typing_rules.proofs.LawsFit.{expr_fit}
use Rattle.typing_rules.proofs.LawsFitStmts.{fit_block}
use Rattle.typing_rules.proofs.LawsSteps.{StepStands, parameter_scope, type_is, scope_fits, front_labelled, RightStep}
use Rattle.typing_rules.proofs.LawsRuns.{Fitting, fit_step, Labelled, labelled_none, labelled_step, steps_at, within_true}

-- R are the rows of a step's nodes, as D has them; a step without nodes has no rows
pub data RowsFit (T : Tables) (D : Labels Ty) : Step → List ℕ → Type 0 where
  no_nodes : {s : Step} → node_count s ≡ 0 → RowsFit T D s []
  of_global : {n x : ℕ} {a : Expr} {R : List ℕ} → RowsAre T (labels_from D n (1 + size a)) R → RowsFit T D (global_value n x a) R
  of_body : {n t : ℕ} {ps : List ℕ} {b : Block} {P R : List ℕ} → (D (n + 1 + length ps)).result ≡ marks 1 → ParametersAre T (type_at T t).b ps P
      → RowsAre T (labels_from D (n + 1 + length ps) (size_block b)) R → RowsFit T D (body n t ps b) (1 ∷ 65535 ∷ P ++ R)

-- labels that hold are those of the labelling
held_labels : (D : Labels Ty) (L : List (Label Ty)) (n : ℕ) → Holds D n L → L ≡ labels_from D n (length L)
unfolding Holds labels_from
held_labels D [] n h = refl
held_labels D (l ∷ L) n h = subst (λ a. l ∷ L ≡ a ∷ labels_from D (n + 1) (length L)) (sym h.0) (ap (λ M. l ∷ M) (held_labels D L (n + 1) h.1))

-- so the rows of labels that hold at k nodes are theirs
held_rows : (T : Tables) (D : Labels Ty) (L : List (Label ℕ)) (n k : ℕ) → LabelsFit T L → length L ≡ k → Holds D n (erase T L)
    → RowsAre T (labels_from D n k) (rows_of L)
held_rows T D L n k f e h =
    subst (λ M. RowsAre T M (rows_of L)) (held_labels D (erase T L) n h ∙ ap (labels_from D n) (erase_long T L ∙ e)) (rows_are T L f)

drop_front : {A : Type 0} (k : ℕ) (a : A) (L : List A) → drop k (replicate k a ++ L) ≡ L
drop_front zero a L = refl
drop_front (suc k) a L = drop_front k a L

-- parameters
parameter-rows : (T : Tables) (xs : List ℕ) (p : ℕ) → ((j : ℕ) → j < length xs → entry_at T (p + j) < length T.types)
    → ParametersAre T p xs (parameter_rows T p xs)
unfolding parameter_rows
parameter-rows T [] p v = parameters_none
parameter-rows T (x ∷ xs) p v =
    parameters_next (record { within = moved (p + 0) p (omega arith) (v 0 (omega arith)); written = refl })
    (parameter-rows T xs (suc p) λ j h. moved (p + suc j) (suc p + j) (omega arith) (v (suc j) (omega arith)))
  where
    moved : (i j : ℕ) → i ≡ j → entry_at T i < length T.types → entry_at T j < length T.types
    moved i j e h = subst (λ k. entry_at T k < length T.types) e h

block_mark : {T : Tables} {C : Context Ty} {D : Labels Ty} {n t : ℕ} {ps : List ℕ} {b : Block} → StepRule T C D (body n t ps b)
    → (D (n + 1 + length ps)).result ≡ marks 1
block_mark (typ_fdeclok d u e k m) = m

-- the rows of one accepted step
module _ (T : Tables) (F : File T) (C : Context ℕ) (f : ContextFits T C) (D : Labels Ty) where
  global_fit : (n x : ℕ) (a : Expr) (B : Context ℕ) (L : List (Label ℕ)) → Stands T (n + 1) a → run_step T C (global_value n x a) ≡ ok B L
      → LabelsFit T L
  unfolding stepping
  global_fit n x a B L h e =
      then_ok (judge T C a (n + 1) empty) _ e λ t M j k.
      needs_ok (is_miss (find_name x C.names)) _ _ _ k λ q k1.
      ok_is (λ c L. LabelsFit T L) k1 (fit_label tt (expr_fit F f a (n + 1) empty fits_empty h t M j))

  body_fit : (n t : ℕ) (ps : List ℕ) (b : Block) (B : Context ℕ) (L : List (Label ℕ)) → StepStands T (length C.structs) (body n t ps b)
      → run_step T C (body n t ps b) ≡ ok B L → (M : List (Label ℕ)) × LabelsFit T M × (L ≡ replicate (1 + length ps) unlabelled ++ M)
  unfolding stepping
  body_fit n t ps b B L h e =
      needs_ok (distinct_names ps) _ _ _ e λ d k.
      then_ok (execute_block T C (referred T t) b (n + 1 + length ps) (parameter_scope T n t ps)) _ k λ p M j k1.
      needs_ok (eqb p 1) _ _ _ k1 λ q k2.
      ok_is (λ c L. (M : List (Label ℕ)) × LabelsFit T M × (L ≡ replicate (1 + length ps) unlabelled ++ M)) k2
      (M, fit_block F f (referred T t) b (n + 1 + length ps) (parameter_scope T n t ps) (scope_fits T F t h.0 n ps h.1) h.2 p M j, refl)

  body_rows : (n t : ℕ) (ps : List ℕ) (b : Block) (M : List (Label ℕ)) → StepStands T (length C.structs) (body n t ps b) → LabelsFit T M
      → (D (n + 1 + length ps)).result ≡ marks 1 → length (replicate (1 + length ps) unlabelled ++ M) ≡ 1 + length ps + size_block b
      → Holds D n (erase T (replicate (1 + length ps) unlabelled ++ M))
      → RowsFit T D (body n t ps b) (step_rows T (body n t ps b) (replicate (1 + length ps) unlabelled ++ M))
  unfolding step_rows
  body_rows n t ps b M h g m l k =
      let (u, v) = (front_labelled T D (1 + length ps) n (n + 1 + length ps) M (omega arith)).0 k in
      of_body m
      (parameter-rows T ps (type_at T t).b λ j i.
      omega (arith, ((type_is T F t h.0).parameter j (omega (arith, h.1))).lower, (has-kind T t 6 h.0).within))
      (subst (λ N. RowsAre T (labels_from D (n + 1 + length ps) (size_block b)) (rows_of N)) (sym (drop_front (1 + length ps) unlabelled M))
      (held_rows T D M (n + 1 + length ps) (size_block b) g (block_long (simp (length-append, length-replicate) at l)) v))
    where
      block_long : (1 + length ps) + length M ≡ 1 + length ps + size_block b → length M ≡ size_block b
      block_long e = omega arith

  step-rows : (s : Step) (B : Context ℕ) (L : List (Label ℕ)) → StepStands T (length C.structs) s → run_step T C s ≡ ok B L
      → RightStep T C s B L → Holds D (rows_begin s) (erase T L) → RowsFit T D s (step_rows T s L)
  unfolding step_rows rows_begin
  step-rows (struct_name i) B L h e r k = no_nodes refl
  step-rows (built_in i) B L h e r k = no_nodes refl
  step-rows (heading n x t) B L h e r k = no_nodes refl
  step-rows (global_value n x a) B L h e r k = of_global (held_rows T D L n (1 + size a) (global_fit n x a B L h e) r.long k)
  step-rows (struct_fields i) B L h e r k = no_nodes refl
  step-rows (body n t ps b) B L h e r k = go (block_mark (r.rule D k)) r.long k (body_fit n t ps b B L h e)
    where
      go : (D (n + 1 + length ps)).result ≡ marks 1 → length L ≡ 1 + length ps + size_block b → Holds D n (erase T L)
          → (M : List (Label ℕ)) × LabelsFit T M × (L ≡ replicate (1 + length ps) unlabelled ++ M)
          → RowsFit T D (body n t ps b) (step_rows T (body n t ps b) L)
      go m l k (M, g, q) =
          subst (λ N. RowsFit T D (body n t ps b) (step_rows T (body n t ps b) N)) (sym q)
          (body_rows n t ps b M h g m (subst (λ N. length N ≡ 1 + length ps + size_block b) q l) (subst (λ N. Holds D n (erase T N)) q k))

-- the segments of steps
pub data Segments (T : Tables) (D : Labels Ty) : List Step → List Segment → Type 0 where
  segments_none : Segments T D [] []
  segments_step : {s : Step} {ss : List Step} {g : Segment} {gs : List Segment} → g.node ≡ rows_begin s → RowsFit T D s g.rows → Segments T D ss gs
      → Segments T D (s ∷ ss) (g ∷ gs)

-- those of an accepted run
pub run_segments : {T : Tables} (F : File T) {D : Labels Ty} {C E : Context ℕ} {ss : List Step} → Labelled T D C ss E → ContextFits T C
    → Fitting T (length C.structs) ss → (k : ℕ) → (gs : List Segment) × (run T C ss k ≡ accepted gs (k + length ss)) × Segments T D ss gs
unfolding run
run_segments F labelled_none f h k = ([], ap (λ j. accepted [] j) (omega arith), segments_none)
run_segments {T} F {D} {C} (labelled_step {B = B} {s = s} {ss = ss} {L = L} e r i l) f (fit_step h hs) k =
    let (gs, q, w) = run_segments F l r.fits (subst (λ j. Fitting T j ss) (sym r.many) hs) (suc k) in
    let g : Segment = record { node = rows_begin s; rows = step_rows T s L } in (
      g ∷ gs,
      rw e (ap (with_segment g) q ∙ ap (λ j. accepted (g ∷ gs) j) (omega arith)),
      segments_step refl (step-rows T F C f D s B L h e r i) w,
    )

-- a step is one of the list
pub data In (s : Step) : List Step → Type 0 where
  in_first : {ss : List Step} → In s (s ∷ ss)
  in_later : {r : Step} {ss : List Step} → In s ss → In s (r ∷ ss)

in_at : {s : Step} {ss : List Step} → In s ss → 1 ≤ node_count s → 1 ≤ steps_at (rows_begin s) ss
in_at {s} in_first h = rw (within_true (rows_begin s) (node_count s) (rows_begin s) (omega arith) (omega arith)) (omega arith)
in_at (in_later i) h = omega (arith, in_at i h)

-- rows are there exactly where nodes are
label_rows : {T : Tables} {R : List ℕ} (D : Labels Ty) (n k : ℕ) → RowsAre T (labels_from D n k) R → 1 ≤ k → 1 ≤ length R
unfolding labels_from
label_rows D n zero r h = absurd (omega arith)
label_rows D n (suc k) (rows_node r b w) h = omega arith

some_rows : {T : Tables} {D : Labels Ty} {s : Step} {R : List ℕ} → RowsFit T D s R → 1 ≤ node_count s → 1 ≤ length R
some_rows (no_nodes e) h = absurd (omega arith)
some_rows {D = D} (of_global {n = n} {a = a} r) h = label_rows D n (1 + size a) r (omega arith)
some_rows (of_body m p r) h = omega arith

none_rows : {T : Tables} {D : Labels Ty} {s : Step} {R : List ℕ} → RowsFit T D s R → node_count s ≡ 0 → length R ≡ 0
none_rows (no_nodes e) h = refl
none_rows (of_global r) h = absurd (omega arith)
none_rows (of_body m p r) h = absurd (omega arith)

-- which segment is found at a node
module _ (n : ℕ) (g : Segment) (gs : List Segment) where
  segment_here : g.node ≡ n → 1 ≤ length g.rows → segment_at n (g ∷ gs) ≡ g.rows
  unfolding segment_at
  segment_here e h = rw (eq-eqb g.node n e, ne_eqb (length g.rows) 0 (λ z. omega arith))

  segment_other : (g.node ≡ n → ⊥) → segment_at n (g ∷ gs) ≡ segment_at n gs
  unfolding segment_at
  segment_other e = rw (ne_eqb g.node n e)

  segment_empty : length g.rows ≡ 0 → segment_at n (g ∷ gs) ≡ segment_at n gs
  unfolding segment_at
  segment_empty e = rw (eq-eqb (length g.rows) 0 e) (same (eqb g.node n))
    where
      same : (b : Bool) → pick b (segment_at n gs) (segment_at n gs) ≡ segment_at n gs
      same true = refl
      same false = refl

-- a step in front that doesn't have the node n
module _ {T : Tables} {D : Labels Ty} (n : ℕ) (r : Step) (g : Segment) (gs : List Segment) (e : g.node ≡ rows_begin r) (h : RowsFit T D r g.rows) where
  skipped : (ss : List Step) → steps_at n (r ∷ ss) ≤ 1 → 1 ≤ steps_at n ss → segment_at n (g ∷ gs) ≡ segment_at n gs
  skipped ss o i = go (eqb (node_count r) 0) refl
    where
      apart : 1 ≤ node_count r → rows_begin r ≡ n → ⊥
      apart c q = let w = within_true (rows_begin r) (node_count r) n (omega arith) (omega arith) in let z = rw w at o in omega arith

      go : (b : Bool) → eqb (node_count r) 0 ≡ b → segment_at n (g ∷ gs) ≡ segment_at n gs
      go true c = segment_empty n g gs (none_rows h (eqb-true (node_count r) 0 c))
      go false c = let w = eqb-false (node_count r) 0 c in segment_other n g gs (λ q. apart (omega arith) (sym e ∙ q))

-- every step with nodes, where no other has them, finds its rows
pub found_rows : {T : Tables} {D : Labels Ty} {ss : List Step} {gs : List Segment} → Segments T D ss gs → {s : Step} → In s ss → 1 ≤ node_count s
    → steps_at (rows_begin s) ss ≤ 1 → RowsFit T D s (segment_at (rows_begin s) gs)
found_rows segments_none i h o = elim i [ ]
found_rows {T} {D} (segments_step {g = g} {gs = gs} e r q) {s} in_first h o =
    subst (RowsFit T D s) (sym (segment_here (rows_begin s) g gs e (some_rows r h))) r
found_rows {T} {D} (segments_step {s = r} {ss = ss} {g = g} {gs = gs} e w q) {s} (in_later i) h o =
    subst (RowsFit T D s) (sym (skipped (rows_begin s) r g gs e w ss o (in_at i h))) (found_rows q i h (omega (arith, o)))
