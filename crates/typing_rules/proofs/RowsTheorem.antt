-- The rows of an accepted program are those of its derivation. Assumes nothing.
use mathlib.Core.Path.{◌≡◌, refl, ap, sym, subst, ◌∙◌}
use mathlib.Core.List.{List, [], ◌∷◌, ◌++◌}
use Prim.Native.Nat.{ℕ, zero, suc, ◌+◌, ◌*◌, ◌≤◌}
use native.Mathlib.Omega.{arith}
use lib.ListN.{length, length-append}
use lib.Seq.{take-length}
use Rattle.oat.specs.Basics.{tabulate}
use Rattle.oat.specs.Tables.{Tables}
use Rattle.oat.specs.Types.{Ty}
use Rattle.oat.specs.Syntax.{Expr, Block, Decl, global, function, size, size_block, size_decl}
use Rattle.oat.specs.ProgramFile.{Program}
use Rattle.typing_rules.specs.Contexts.{Context}
use Rattle.typing_rules.specs.Labels.{Label, Labels}
use Rattle.typing_rules.specs.Steps.{Step, struct_name, built_in, global_value, struct_fields, body, headings, globals, bodies, steps_of, empty_context, DerivesFile}
use Rattle.typing_rules.specs.Check.{Segment, accepted, rows_begin, node_count, segment_at, rows_from}
use Rattle.typing_rules.specs.Rows.{RowsAre, rows_none, rows_node, labels_from, ParametersAre, parameters_none, parameters_next, DeclRows, no_rows, global_rows, function_rows}
use Rattle.typing_rules.proofs.LawsRuns.{Labelled}
use Rattle.typing_rules.proofs.LawsProgram.{steps_apart}
use Rattle.typing_rules.proofs.LawsSegments.{RowsFit, no_nodes, of_global, of_body, Segments, run_segments, In, in_first, in_later, found_rows}
use Rattle.typing_rules.proofs.Theorem.{Fits, run_of, empty_fits, trees, derives_labelled, accepted_derives}

-- steps of a part are steps of the whole
in_left : {s : Step} {xs : List Step} (ys : List Step) → In s xs → In s (xs ++ ys)
in_left ys in_first = in_first
in_left ys (in_later i) = in_later (in_left ys i)

in_right : {s : Step} (xs : List Step) {ys : List Step} → In s ys → In s (xs ++ ys)
in_right [] i = i
in_right (x ∷ xs) i = in_later (in_right xs i)

pub global_in : (p : Program) (s : Step) → In s (globals 0 p.declarations) → In s (steps_of p)
unfolding steps_of
global_in p s i =
    in_right (tabulate (length p.tables.structs) struct_name)
    (in_right (tabulate (length p.tables.built_ins) built_in) (in_right (headings 0 p.declarations) (in_left _ i)))

pub body_in : (p : Program) (s : Step) → In s (bodies 0 p.declarations) → In s (steps_of p)
unfolding steps_of
body_in p s i =
    in_right (tabulate (length p.tables.structs) struct_name)
    (in_right (tabulate (length p.tables.built_ins) built_in)
    (in_right (headings 0 p.declarations)
    (in_right (globals 0 p.declarations) (in_right (tabulate (length p.tables.structs) struct_fields) i))))

-- the rows of a step are those of its declaration
module _ {T : Tables} {D : Labels Ty} where
  one_global : {n x : ℕ} {a : Expr} {R : List ℕ} → RowsFit T D (global_value n x a) R → RowsAre T (labels_from D n (1 + size a)) R
  one_global (no_nodes e) = absurd (omega arith)
  one_global (of_global r) = r

  one_function : {n x t : ℕ} {ps : List ℕ} {b : Block} {ds : List Decl} {R Q : List ℕ} → RowsFit T D (body n t ps b) R
      → DeclRows T D (n + size_decl (function x t ps b)) ds Q → DeclRows T D n (function x t ps b ∷ ds) (R ++ Q)
  one_function (no_nodes e) h = absurd (omega arith)
  one_function (of_body m p r) h = function_rows m p r h

-- every step of the list finds its rows
abbrev AllFound : Tables → Labels Ty → List Segment → List Step → Type 0
AllFound T D gs ss = (s : Step) → In s ss → 1 ≤ node_count s → RowsFit T D s (segment_at (rows_begin s) gs)

decl_rows : (T : Tables) (D : Labels Ty) (gs : List Segment) (ds : List Decl) (n : ℕ) → AllFound T D gs (globals n ds) → AllFound T D gs (bodies n ds)
    → DeclRows T D n ds (rows_from gs n ds)
unfolding globals bodies rows_from rows_begin
decl_rows T D gs [] n g b = no_rows
decl_rows T D gs (global x a ∷ ds) n g b =
    global_rows (one_global (g (global_value n x a) in_first (omega arith)))
    (decl_rows T D gs ds (n + size_decl (global x a)) (λ s i. g s (in_later i)) b)
decl_rows T D gs (function x t ps c ∷ ds) n g b =
    one_function (b (body n t ps c) in_first (omega arith))
    (decl_rows T D gs ds (n + size_decl (function x t ps c)) g (λ s i. b s (in_later i)))

same_segments : {gs hs : List Segment} {j k : ℕ} → accepted gs j ≡ accepted hs k → gs ≡ hs
same_segments e = cc

-- the segments of a derived program
derived_segments : (p : Program) → Fits p → (gs : List Segment) (k : ℕ) → run_of p ≡ accepted gs k → (D : Labels Ty) (C : Context Ty)
    → DerivesFile p D C → Segments p.tables D (steps_of p) gs
derived_segments p f gs k e D C d =
    let T = p.tables in
    let (E, l, q) = derives_labelled p f (length (steps_of p)) D C d in
    let l' = subst (λ ss. Labelled T D empty_context ss E) (take-length (steps_of p)) l in
    let (hs, r, w) = run_segments f.file l' (empty_fits T) (trees p f) 0 in
    subst (Segments T D (steps_of p)) (same_segments (sym r ∙ e)) w

-- so every step of a declaration finds its rows
module _ (p : Program) (f : Fits p) (gs : List Segment) (k : ℕ) (e : run_of p ≡ accepted gs k) (D : Labels Ty) (C : Context Ty) (d : DerivesFile p D C) where
  globals_found : AllFound p.tables D gs (globals 0 p.declarations)
  globals_found s i h = found_rows (derived_segments p f gs k e D C d) (global_in p s i) h (steps_apart (rows_begin s) p)

  bodies_found : AllFound p.tables D gs (bodies 0 p.declarations)
  bodies_found s i h = found_rows (derived_segments p f gs k e D C d) (body_in p s i) h (steps_apart (rows_begin s) p)

  pub rows_are_derived : DeclRows p.tables D 0 p.declarations (rows_from gs 0 p.declarations)
  rows_are_derived = decl_rows p.tables D gs p.declarations 0 globals_found bodies_found

-- how many numbers rows are
pub rows_long : {T : Tables} {L : List (Label Ty)} {R : List ℕ} → RowsAre T L R → length R ≡ 2 * length L
rows_long rows_none = refl
rows_long (rows_node {L = L} {R = R} r b s) = omega (arith, rows_long s)

pub parameters_long : {T : Tables} {p : ℕ} {xs R : List ℕ} → ParametersAre T p xs R → length R ≡ 2 * length xs
parameters_long parameters_none = refl
parameters_long (parameters_next r s) = omega (arith, parameters_long s)

pub labels_long : (D : Labels Ty) (n k : ℕ) → length (labels_from D n k) ≡ k
unfolding labels_from
labels_long D n zero = refl
labels_long D n (suc k) = ap suc (labels_long D (n + 1) k)

fit_long : {T : Tables} {D : Labels Ty} {s : Step} {R : List ℕ} → RowsFit T D s R → length R ≡ 2 * node_count s
fit_long (no_nodes e) = omega arith
fit_long {D = D} (of_global {n = n} {a = a} r) = omega (arith, rows_long r, labels_long D n (1 + size a))
fit_long {D = D} (of_body {n = n} {ps = ps} {b = b} m q r) =
    simp length-append (omega (arith, parameters_long q, rows_long r, labels_long D (n + 1 + length ps) (size_block b)))

-- the segment found at each declaration has two numbers for each of its nodes
pub data SegmentsLong (gs : List Segment) : ℕ → List Decl → Type 0 where
  long_none : {n : ℕ} → SegmentsLong gs n []
  long_next : {n : ℕ} {d : Decl} {ds : List Decl} → length (segment_at n gs) ≡ 2 * size_decl d → SegmentsLong gs (n + size_decl d) ds → SegmentsLong gs n (d ∷ ds)

decls_long : (T : Tables) (D : Labels Ty) (gs : List Segment) (ds : List Decl) (n : ℕ) → AllFound T D gs (globals n ds) → AllFound T D gs (bodies n ds)
    → SegmentsLong gs n ds
unfolding globals bodies rows_begin
decls_long T D gs [] n g b = long_none
decls_long T D gs (global x a ∷ ds) n g b =
    long_next (fit_long (g (global_value n x a) in_first (omega arith))) (decls_long T D gs ds (n + size_decl (global x a)) (λ s i. g s (in_later i)) b)
decls_long T D gs (function x t ps c ∷ ds) n g b =
    long_next (fit_long (b (body n t ps c) in_first (omega arith))) (decls_long T D gs ds (n + size_decl (function x t ps c)) g (λ s i. b s (in_later i)))

pub segments_long : (p : Program) → Fits p → (gs : List Segment) (k : ℕ) → run_of p ≡ accepted gs k → SegmentsLong gs 0 p.declarations
segments_long p f gs k e =
    let (n, D, C, o) = accepted_derives p f gs k e in
    decls_long p.tables D gs p.declarations 0 (globals_found p f gs k e D C o.derives) (bodies_found p f gs k e D C o.derives)
