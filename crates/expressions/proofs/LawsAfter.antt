-- The buffers after an accepted part: one part after another, a node's own row over its children, and what a later part sees of the
-- scope. Assumes nothing.
use mathlib.Core.Path.{◌≡◌, refl, ap, sym, subst, ◌∙◌}
use mathlib.Core.List.{List, [], ◌∷◌, ◌++◌}
use Prim.Native.Nat.{ℕ, ◌+◌, ◌*◌, ◌≤◌, ◌<◌}
use native.Mathlib.Omega.{arith}
use lib.ListN.{length, get_or, set, length-set}
use lib.Seq.{get_or-set_same, get_or-set_other}
use Rattle.oat.specs.Syntax.{Expr, size}
use Rattle.oat.specs.Nodes.{Stands}
use Rattle.typing_rules.specs.Contexts.{Scope}
use Rattle.typing_rules.specs.Labels.{Label}
use Rattle.typing_rules.specs.Judge.{Out, ok, Counted, judging, typed_as}
use Rattle.file_sections.specs.declared.Sections.{Sections}
use Rattle.file_sections.specs.Layout.{tables_of}
use Rattle.file_sections.specs.Frames.{Same}
use Rattle.file_sections.proofs.LawsRecords.{nodes_long}
use Rattle.file_sections.proofs.LawsFrames.{same_refl, same_more, kept_none}
use Rattle.type_index.specs.Index.{declared}
use Rattle.bindings.specs.Bindings.{entry_of, scope_of}
use Rattle.answers.specs.declared.answer.Judgement.TheVariants.{Typed}
use Rattle.answers.specs.declared.answer.At.{At}
use Rattle.answers.specs.declared.answer.Judged.{Judged}
use Rattle.answers.specs.Answers.{with_row}
use Rattle.expressions.specs.Contract.{context_of, Fine, RowsAt, After, Typing, Meets, accepts, refuses, Few, Ready, expr_in, Told}
use Rattle.bindings.proofs.LawsBindings.{scope_same, names_same}
use Rattle.expressions.proofs.LawsLabels.{Closed, rows_append}
use Rattle.expressions.proofs.LawsShape.{stands_within}

-- rows that have not changed
pub rows_kept : (R R' : List ℕ) (n : ℕ) (L : List (Label ℕ)) → ((i : ℕ) → n * 2 ≤ i → i < (n + length L) * 2 → get_or R' i 0 ≡ get_or R i 0) → RowsAt R n L → RowsAt R' n L
unfolding RowsAt
rows_kept R R' n [] f h = h
rows_kept R R' n (l ∷ L) f h = (
  f (n * 2) (omega arith) (omega arith) ∙ h.0,
  f (n * 2 + 1) (omega arith) (omega arith) ∙ h.1,
  rows_kept R R' (n + 1) L (λ i a b. f i (omega arith) (omega arith)) h.2,
)

pub rows_none : (R : List ℕ) (n : ℕ) → RowsAt R n []
unfolding RowsAt
rows_none R n = tt

-- a row that is written
module _ (R : List ℕ) (n a b : ℕ) where
  pub row_length : length (with_row R n a b) ≡ length R
  row_length = simp length-set

  pub row_other : (i : ℕ) → (i ≡ n * 2 → ⊥) → (i ≡ n * 2 + 1 → ⊥) → get_or (with_row R n a b) i 0 ≡ get_or R i 0
  row_other i f g = get_or-set_other (set R (n * 2) a) (n * 2 + 1) i b 0 g ∙ get_or-set_other R (n * 2) i a 0 f

  module _ (h : n * 2 + 1 < length R) where
    pub row-result : get_or (with_row R n a b) (n * 2) 0 ≡ a
    row-result = get_or-set_other (set R (n * 2) a) (n * 2 + 1) (n * 2) b 0 (λ e. omega arith) ∙ get_or-set_same R (n * 2) a 0 (omega arith)

    pub row_binder : get_or (with_row R n a b) (n * 2 + 1) 0 ≡ b
    row_binder = get_or-set_same (set R (n * 2) a) (n * 2 + 1) b 0 (simp length-set (omega arith))

module _ {F : List ℕ} {S : Sections} {X : List ℕ} {base : ℕ} where
  -- other rows of the same length
  pub fine_rows : {R R' W K : List ℕ} {s : ℕ} → Fine F S X R W K base s → length R' ≡ length R → Fine F S X R' W K base s
  fine_rows {R} {R'} f e =
      record { good_tables = f.good_tables; indexed = f.indexed; rows_long = subst (λ k. S.nodes * 2 ≤ k) (sym e) f.rows_long; scoped = f.scoped; low = f.low; above = f.above }

  -- nothing written yet
  pub after_none : {R W K : List ℕ} {s : ℕ} (n : ℕ) → Fine F S X R W K base s → After F S X base [] n 0 s s R W R W K
  after_none {R} {W} n f = record { rows = rows_none R n; kept = kept_none (n * 2) ((n + 0) * 2) R; same = same_refl _ W; fine = f }

  -- one part after another
  pub after_append : {L M : List (Label ℕ)} {n k j s : ℕ} {R W R₁ W₁ K₁ R₂ W₂ K₂ : List ℕ} → length L ≡ k → Closed L
      → After F S X base L n k s s R W R₁ W₁ K₁ → After F S X base M (n + k) j s s R₁ W₁ R₂ W₂ K₂ → After F S X base (L ++ M) n (k + j) s s R W R₂ W₂ K₂
  after_append {L} {M} {n} {k} {j} {s} {R} {W} {R₁} {W₁} {K₁} {R₂} e c a b =
      record {
        rows = rows_append R₂ n L M c (rows_kept R₁ R₂ n L (λ i h g. b.kept.before i (omega (arith, e, g))) a.rows)
            (subst (λ i. RowsAt R₂ (n + i) M) (sym e) b.rows);
        kept = record {
          before = λ i h. b.kept.before i (omega arith) ∙ a.kept.before i h;
          after = λ i h. b.kept.after i (omega arith) ∙ a.kept.after i (omega arith);
        };
        same = same_more a.same b.same;
        fine = b.fine;
      }

  -- a node's own row over its children
  pub after_row : {L : List (Label ℕ)} {n k s : ℕ} {R W R₁ W₁ K₁ : List ℕ} (t b : ℕ) (Γ : Scope ℕ) → n < S.nodes
      → After F S X base L (n + 1) k s s R W R₁ W₁ K₁ → After F S X base (typed_as t b Γ ∷ L) n (1 + k) s s R W (with_row R₁ n t b) W₁ K₁
  unfolding RowsAt
  after_row {L} {n} {k} {s} {R} {W} {R₁} t b Γ h a =
      let long : n * 2 + 1 < length R₁ = omega (arith, a.fine.rows_long, h) in
      record {
        rows = (
          row-result R₁ n t b long,
          row_binder R₁ n t b long,
          rows_kept R₁ (with_row R₁ n t b) (n + 1) L (λ i g l. row_other R₁ n t b i (λ e. omega arith) (λ e. omega arith)) a.rows,
        );
        kept = record {
          before = λ i g. row_other R₁ n t b i (λ e. omega arith) (λ e. omega arith) ∙ a.kept.before i (omega arith);
          after = λ i g. row_other R₁ n t b i (λ e. omega arith) (λ e. omega arith) ∙ a.kept.after i (omega arith);
        };
        same = a.same;
        fine = fine_rows a.fine (row_length R₁ n t b);
      }

  -- an accepted expression that is no name: its own row over its children's
  pub rule_typed : {L : List (Label ℕ)} {n k j s t : ℕ} {R W R₁ W₁ K₁ R' : List ℕ} {r : Judged} {m : At} {Γ : Scope ℕ} → n < S.nodes → t < S.types
      → After F S X base L (n + 1) k s s R W R₁ W₁ K₁ → r ≡ record { judgement = Typed t; at = m } → m.node ≡ n + 1 + k → m.scope ≡ s → j ≡ 1 + k
      → R' ≡ with_row R₁ n t 65535 → Typing F S X base n j s R W R' W₁ K₁ r t (typed_as t 65535 Γ ∷ L)
  rule_typed {L} {n} {k} {j} {s} {t} {R} {W} {R₁} {W₁} {K₁} {R'} {r} {m} {Γ} h w a er em es ej e_r =
      record {
        typed = ap (λ x. x.judgement) er;
        next = ap (λ x. x.at.node) er ∙ em ∙ omega arith;
        scope = ap (λ x. x.at.scope) er ∙ es;
        within = w;
        after = subst (λ i. After F S X base (typed_as t 65535 Γ ∷ L) n i s s R W R' W₁ K₁) (sym ej)
            (subst (λ x. After F S X base (typed_as t 65535 Γ ∷ L) n (1 + k) s s R W x W₁ K₁) (sym e_r) (after_row t 65535 Γ h a));
      }

  -- an expression that stands in the file, with room for what it binds
  pub ready : {R W K : List ℕ} {s π : ℕ} (n : ℕ) (e : Expr) → Fine F S X R W K base s → Stands (tables_of F S) n e → s + size e ≤ S.built_ins + S.nodes → Few π (size e)
      → Ready F S X R W K base n s π
  ready n e f h g l =
      record { fine = f; within = subst (λ k. n < k) (nodes_long F S) (stands_within (tables_of F S) n e h); tree = e; stands = h; room = g; few = l }

  -- what an accepted answer says
  pub typing_of : {n k s t π i : ℕ} {R W R₁ W₁ K₁ : List ℕ} {r : Judged} (o : Out ℕ) → Meets (Typing F S X base n k s R W R₁ W₁ K₁ r) r π o i → r.judgement ≡ Typed t
      → (L : List (Label ℕ)) × (o ≡ ok t L) × Typing F S X base n k s R W R₁ W₁ K₁ r t L
  typing_of {n} {k} {s} {t} {R = R} {W} {R₁} {W₁} {K₁} {r} o (accepts a L i p e) y =
      subst (λ b. (M : List (Label ℕ)) × (ok a L ≡ ok b M) × Typing F S X base n k s R W R₁ W₁ K₁ r b M) (cc) (L, refl, p)
  typing_of o (refuses p q i e) y = absurd (let z : ◌≡◌ {A = ℕ} 0 1 = cc in omega arith)

  -- a later part sees the scope and the names of the part before it
  pub retell : {W R₁ W₁ R₂ W₂ K₂ : List ℕ} {s m i q π : ℕ} {r : Judged} → Same (entry_of (tables_of F S) s) W W₁ → base ≤ s → m ≡ i → q ≡ s → Told F S X R₁ W₁ base m q π R₂ W₂ K₂ r
      → (e : Expr) → Stands (tables_of F S) i e
      → Meets (Typing F S X base i (size e) s R₁ W₁ R₂ W₂ K₂ r) r π (expr_in F S W base s e i).out (expr_in F S W base s e i).pairs
  retell {W} {R₁} {W₁} {R₂} {W₂} {K₂} {s} {m} {i} {q} {π} {r} a l e f told x h =
      subst (λ Γ. Answered (judging (tables_of F S) (context_of (tables_of F S) W base) x i Γ)) (scope_same (tables_of F S) s a base)
      (subst (λ N. Answered (judging (tables_of F S) (record { structs = declared (tables_of F S); names = N }) x i (scope_of (tables_of F S) W₁ base s)))
      (names_same (tables_of F S) s a base l)
      ((subst (λ j. Told F S X R₁ W₁ base j s π R₂ W₂ K₂ r) e (subst (λ j. Told F S X R₁ W₁ base m j π R₂ W₂ K₂ r) f told)).tells x h))
    where
      Answered : Counted ℕ → Type 0
      Answered c = Meets (Typing F S X base i (size x) s R₁ W₁ R₂ W₂ K₂ r) r π c.out c.pairs
