-- The row of a node of a global or of a function's body, in the rows of a derivation: its result and its binder are those of the node's label;
-- and a function's own row, whose mark is its block's. Assumes nothing.
use mathlib.Core.Path.{◌≡◌, ap, sym, subst, ◌∙◌}
use mathlib.Core.List.{List, [], ◌∷◌, ◌++◌, append_assoc}
use Prim.Native.Nat.{ℕ, zero, suc, ◌+◌, ◌*◌, ◌-◌, ◌≤◌, ◌<◌}
use native.Mathlib.Omega.{arith}
use lib.ListN.{length, get_or, length-append, get_or-append}
use lib.Seq.{get_or-append-add}
use Rattle.oat.specs.Tables.{Tables}
use Rattle.oat.specs.Types.{Ty}
use Rattle.oat.specs.Syntax.{Expr, Block, Decl, global, function, size, size_block, size_decl}
use Rattle.typing_rules.specs.Labels.{marks, Label, Labels}
use Rattle.typing_rules.specs.Derivations.{Node}
use Rattle.typing_rules.specs.Endless.{InBodies, in_body, in_others}
use Rattle.typing_rules.specs.Rows.{ResultIs, RowsAre, rows_node, labels_from, DeclRows, global_rows, function_rows}
use Rattle.typing_rules.proofs.LawsPlaced.{block_holds}
use Rattle.typing_rules.proofs.RowsTheorem.{rows_long, parameters_long, labels_long}

-- the i-th of the rows R is that of the label l
pub record RowIs (T : Tables) (l : Label Ty) (i : ℕ) (R : List ℕ) : Type 0 where
  pub after : List (Label Ty)
  pub result : ResultIs T l.result after (get_or R (2 * i) 65535)
  pub binder : get_or R (2 * i + 1) 65535 ≡ l.binder
  pub within : 2 * i + 1 < length R

-- where both numbers of a row stand in other rows
pub moved : {T : Tables} {l : Label Ty} {i j : ℕ} {R Q : List ℕ} → get_or Q (2 * j) 65535 ≡ get_or R (2 * i) 65535 → get_or Q (2 * j + 1) 65535 ≡ get_or R (2 * i + 1) 65535
    → 2 * j + 1 < length Q → RowIs T l i R → RowIs T l j Q
moved {T} {l} {R = R} {Q = Q} e f k r =
    record { after = r.after; result = subst (ResultIs T l.result r.after) (sym e) r.result; binder = f ∙ r.binder; within = k }

-- the i-th of the rows of n nodes from k on
label_row : (T : Tables) (D : Labels Ty) (k n i m : ℕ) (R : List ℕ) → RowsAre T (labels_from D k n) R → i < n → m ≡ k + i → RowIs T (D m) i R
unfolding labels_from
label_row T D k zero i m R r l j = absurd (omega arith)
label_row T D k (suc n) zero m R (rows_node {r = r} h b s) l j =
    let at : k ≡ m = omega (arith, j) in
    subst (λ i. RowIs T (D i) 0 R) at (record { after = labels_from D (k + 1) n; result = h; binder = b; within = omega arith })
label_row T D k (suc n) (suc i) m R (rows_node {r = r} {b = b} {R = Q} h z s) l j =
    let at : 2 * suc i ≡ suc (suc (2 * i)) = omega arith in
    let too : 2 * suc i + 1 ≡ suc (suc (2 * i + 1)) = omega arith in
    let next = label_row T D (k + 1) n i m Q s (omega arith) (omega (arith, j)) in
    moved (ap (λ x. get_or (r ∷ b ∷ Q) x 65535) at) (ap (λ x. get_or (r ∷ b ∷ Q) x 65535) too) (omega (arith, next.within)) next

-- a row behind others, and a row of a body behind those of its function and parameters
later_row : {T : Tables} {l : Label Ty} (xs ys : List ℕ) (d i j : ℕ) → length xs ≡ 2 * d → j ≡ d + i → RowIs T l i ys → RowIs T l j (xs ++ ys)
later_row xs ys d i j e h r =
    let at : 2 * j ≡ length xs + 2 * i = omega (arith, e, h) in
    let too : 2 * j + 1 ≡ length xs + (2 * i + 1) = omega (arith, e, h) in
    moved (ap (λ k. get_or (xs ++ ys) k 65535) at ∙ get_or-append-add xs ys (2 * i) 65535) (ap (λ k. get_or (xs ++ ys) k 65535) too ∙ get_or-append-add xs ys (2 * i + 1) 65535)
    (simp length-append (omega (arith, e, h, r.within))) r

body_row : {T : Tables} {l : Label Ty} (r : ℕ) (P R Q : List ℕ) (i j : ℕ) → 2 * j ≡ 2 + length P + 2 * i → 2 * i + 1 < length R → RowIs T l i R
    → RowIs T l j ((r ∷ 65535 ∷ P ++ R) ++ Q)
body_row r P R Q i j h k q =
    moved (same (2 * i) (2 * j) (omega (arith, h)) (omega (arith, k))) (same (2 * i + 1) (2 * j + 1) (omega (arith, h)) k) (simp length-append (omega (arith, h, k))) q
  where
    same : (x y : ℕ) → y ≡ 2 + length P + x → x < length R → get_or ((r ∷ 65535 ∷ P ++ R) ++ Q) y 65535 ≡ get_or R x 65535
    same x y e l =
        let at : y ≡ length (r ∷ 65535 ∷ P) + x = omega (arith, e) in
        ap (λ L. get_or (r ∷ 65535 ∷ L) y 65535) (append_assoc P R Q)
        ∙ ap (λ k. get_or (r ∷ 65535 ∷ P ++ (R ++ Q)) k 65535) at
        ∙ get_or-append-add (r ∷ 65535 ∷ P) (R ++ Q) x 65535
        ∙ get_or-append R Q 65535 x l

-- of the declarations that stand from n on, m is a node of a global or of a function's block; a function's own row and its parameters' are
-- not those of their labels
pub data HasRow : ℕ → List Decl → ℕ → Type 0 where
  of_global : {n m x : ℕ} {a : Expr} {ds : List Decl} → n ≤ m → m < n + 1 + size a → HasRow n (global x a ∷ ds) m
  of_block : {n m x t : ℕ} {ps : List ℕ} {b : Block} {ds : List Decl} → n + 1 + length ps ≤ m → m < n + 1 + length ps + size_block b → HasRow n (function x t ps b ∷ ds) m
  of_others : {n m : ℕ} {d : Decl} {ds : List Decl} → HasRow (n + size_decl d) ds m → HasRow n (d ∷ ds) m

row_low : (ds : List Decl) {n m : ℕ} → HasRow n ds m → n ≤ m
row_low [] w = elim w [ ]
row_low (global x a ∷ ds) (of_global h k) = h
row_low (function x t ps b ∷ ds) (of_block h k) = omega (arith, h)
row_low (d ∷ ds) (of_others w) = omega (arith, row_low ds w)

body_has_row : (ds : List Decl) {n m : ℕ} {u : Node} → InBodies n ds m u → HasRow n ds m
body_has_row [] w = elim w [ ]
body_has_row (function x t ps b ∷ ds) (in_body w) = let (h, k) = block_holds b w in of_block h k
body_has_row (d ∷ ds) (in_others w) = of_others (body_has_row ds w)

-- among the rows of the declarations that stand from n on
decl_row : (T : Tables) (D : Labels Ty) (ds : List Decl) (n i m : ℕ) (R : List ℕ) → DeclRows T D n ds R → HasRow n ds m → m ≡ n + i → RowIs T (D m) i R
decl_row T D [] n i m R r w j = elim w [ ]
decl_row T D (function x t ps b ∷ ds) n i m _ (function_rows {m = f} {P = P} {R = R} {Q = Q} k h r z) (of_block low high) j =
    let front = 1 + length ps in
    let long : length R ≡ 2 * size_block b = rows_long r ∙ ap (λ k. 2 * k) (labels_long D (n + 1 + length ps) (size_block b)) in
    body_row f P R Q (i - front) i (omega (arith, parameters_long h, low, j)) (omega (arith, long, high, low, j))
    (label_row T D (n + 1 + length ps) (size_block b) (i - front) m R r (omega (arith, high, low, j)) (omega (arith, low, j)))
decl_row T D (function x t ps b ∷ ds) n i m _ (function_rows {m = f} {P = P} {R = R} {Q = Q} k h r z) (of_others w) j =
    let low = row_low ds w in
    let long : length R ≡ 2 * size_block b = rows_long r ∙ ap (λ k. 2 * k) (labels_long D (n + 1 + length ps) (size_block b)) in
    later_row (f ∷ 65535 ∷ P ++ R) Q (size_decl (function x t ps b)) (i - size_decl (function x t ps b)) i
    (simp length-append (omega (arith, parameters_long h, long))) (omega (arith, low, j))
    (decl_row T D ds (n + size_decl (function x t ps b)) (i - size_decl (function x t ps b)) m Q z w (omega (arith, low, j)))
decl_row T D (global x a ∷ ds) n i m _ (global_rows {R = R} {Q = Q} r z) (of_global low high) j =
    let row = label_row T D n (1 + size a) i m R r (omega (arith, high, j)) j in
    moved (get_or-append R Q 65535 (2 * i) (omega (arith, row.within))) (get_or-append R Q 65535 (2 * i + 1) row.within)
    (simp length-append (omega (arith, row.within))) row
decl_row T D (global x a ∷ ds) n i m _ (global_rows {R = R} {Q = Q} r z) (of_others w) j =
    let low = row_low ds w in
    later_row R Q (size_decl (global x a)) (i - size_decl (global x a)) i
    (rows_long r ∙ ap (λ k. 2 * k) (labels_long D n (1 + size a))) (omega (arith, low, j))
    (decl_row T D ds (n + size_decl (global x a)) (i - size_decl (global x a)) m Q z w (omega (arith, low, j)))

pub row_of : (T : Tables) (D : Labels Ty) (ds : List Decl) (m : ℕ) (R : List ℕ) → DeclRows T D 0 ds R → HasRow 0 ds m → RowIs T (D m) m R
row_of T D ds m R r w = decl_row T D ds 0 m m R r w (omega arith)

pub row_at : (T : Tables) (D : Labels Ty) (ds : List Decl) (m : ℕ) (R : List ℕ) {u : Node} → DeclRows T D 0 ds R → InBodies 0 ds m u → RowIs T (D m) m R
row_at T D ds m R r w = row_of T D ds m R r (body_has_row ds w)

-- of the declarations that stand from n on, a function stands at m and its block at k
pub data FunctionAt : ℕ → List Decl → (m k : ℕ) → Type 0 where
  this_function : {n x t : ℕ} {ps : List ℕ} {b : Block} {ds : List Decl} → FunctionAt n (function x t ps b ∷ ds) n (n + 1 + length ps)
  later_function : {n m k : ℕ} {d : Decl} {ds : List Decl} → FunctionAt (n + size_decl d) ds m k → FunctionAt n (d ∷ ds) m k

function_low : (ds : List Decl) {n m k : ℕ} → FunctionAt n ds m k → n ≤ m
function_low [] w = elim w [ ]
function_low (_ ∷ ds) this_function = omega arith
function_low (_ ∷ ds) (later_function w) = omega (arith, function_low ds w)

-- in rows of k nodes, and others behind them
behind : (k i : ℕ) (xs ys : List ℕ) → length xs ≡ 2 * k → k ≤ i → get_or (xs ++ ys) (2 * i) 65535 ≡ get_or ys (2 * (i - k)) 65535
behind k i xs ys e h =
    let at : 2 * i ≡ length xs + 2 * (i - k) = omega (arith, e, h) in
    ap (λ j. get_or (xs ++ ys) j 65535) at ∙ get_or-append-add xs ys (2 * (i - k)) 65535

-- the mark in a function's row is its block's
head_row : (T : Tables) (D : Labels Ty) (ds : List Decl) (n i m k : ℕ) (R : List ℕ) → DeclRows T D n ds R → FunctionAt n ds m k → m ≡ n + i
    → (q : ℕ) × ((D k).result ≡ marks q) × (get_or R (2 * i) 65535 ≡ q)
head_row T D [] n i m k R r w j = elim w [ ]
head_row T D (function x t ps b ∷ ds) n i m k _ (function_rows {m = f} {P = P} {R = R} {Q = Q} e h r z) this_function j =
    let at : 2 * i ≡ 0 = omega (arith, j) in
    (f, e, ap (λ y. get_or ((f ∷ 65535 ∷ P ++ R) ++ Q) y 65535) at)
head_row T D (function x t ps b ∷ ds) n i m k _ (function_rows {m = f} {P = P} {R = R} {Q = Q} e h r z) (later_function w) j =
    let low = function_low ds w in
    let long : length R ≡ 2 * size_block b = rows_long r ∙ ap (λ y. 2 * y) (labels_long D (n + 1 + length ps) (size_block b)) in
    let (q, is, row) = head_row T D ds (n + size_decl (function x t ps b)) (i - size_decl (function x t ps b)) m k Q z w (omega (arith, low, j)) in
    (q, is, behind (size_decl (function x t ps b)) i (f ∷ 65535 ∷ P ++ R) Q (simp length-append (omega (arith, parameters_long h, long))) (omega (arith, low, j)) ∙ row)
head_row T D (global x a ∷ ds) n i m k _ (global_rows {R = R} {Q = Q} r z) (later_function w) j =
    let low = function_low ds w in
    let (q, is, row) = head_row T D ds (n + size_decl (global x a)) (i - size_decl (global x a)) m k Q z w (omega (arith, low, j)) in
    (q, is, behind (size_decl (global x a)) i R Q (rows_long r ∙ ap (λ y. 2 * y) (labels_long D n (1 + size a))) (omega (arith, low, j)) ∙ row)

pub function_row : (T : Tables) (D : Labels Ty) (ds : List Decl) (m k : ℕ) (R : List ℕ) → DeclRows T D 0 ds R → FunctionAt 0 ds m k
    → (q : ℕ) × ((D k).result ≡ marks q) × (get_or R (2 * m) 65535 ≡ q)
function_row T D ds m k R r w = head_row T D ds 0 m m k R r w (omega arith)
