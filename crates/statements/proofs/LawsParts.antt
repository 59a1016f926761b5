-- Parts of a statement: a part's mark against its answer, a scope that is left, one part after another, and what a later part sees of the
-- scope before it. Assumes nothing.
use mathlib.Core.Path.{◌≡◌, refl, ap, sym, subst, ◌∙◌}
use mathlib.Core.Bool.{Bool, true, false}
use mathlib.Core.List.{List, [], ◌∷◌, ◌++◌}
use Prim.Native.Nat.{ℕ, zero, suc, ◌+◌, ◌≤◌, ◌<◌}
use native.Mathlib.Omega.{arith}
use lib.ListN.{length}
use lib.Dec.{eqb}
use Rattle.file_sections.proofs.LawsFrames.{same_less, same_more}
use Rattle.file_sections.specs.Frames.{Same}
use Rattle.oat.specs.Basics.{pick}
use Rattle.oat.specs.Syntax.{Stmt, Block, size_stmt, size_block}
use Rattle.oat.specs.Nodes.{StmtStands, BlockStands}
use Rattle.typing_rules.specs.Contexts.{Scope, Context}
use Rattle.typing_rules.specs.Labels.{Label}
use Rattle.typing_rules.specs.Judge.{Out, and_then, pairs_after, ends, executing, executing_block}
use Rattle.typing_rules.specs.Check.{next_result}
use Rattle.file_sections.specs.declared.Sections.{Sections}
use Rattle.file_sections.specs.Layout.{tables_of}
use Rattle.type_index.specs.Index.{declared}
use Rattle.bindings.specs.Bindings.{entry_of, Scoped, Holds}
use Rattle.bindings.proofs.LawsBindings.{names_same, holds_same}
use Rattle.answers.specs.declared.answer.Judgement.{Judgement}
use Rattle.answers.specs.declared.answer.Judgement.TheVariants.{GoesOn, Returns, Refused}
use Rattle.answers.specs.declared.answer.Judged.{Judged}
use Rattle.answers.specs.Answers.{with_row, AnswerIs}
use Rattle.expressions.specs.Contract.{context_of, After, Meets}
use Rattle.expressions.proofs.LawsMeets.{accepts_now, hands_up}
use Rattle.simple_statements.specs.Contract.{mark_of, marked, Marking, stmt_in, ToldStmt}
use Rattle.simple_statements.proofs.LawsMarks.{judged_as, after_join, rule_left}
use Rattle.statements.specs.Contract.{Blocking, block_in, ToldBlock}

-- a mark is no refusal, and it is read off its judgement
pub marked_no : (m : ℕ) (p q : ℕ) → marked m ≡ Refused p q → ⊥
marked_no m p q e = go (eqb m 1) e
  where
    go : (b : Bool) → pick b Returns GoesOn ≡ Refused p q → ⊥
    go true z = let y : ◌≡◌ {A = ℕ} 0 1 = cc in omega arith
    go false z = let y : ◌≡◌ {A = ℕ} 0 1 = cc in omega arith

pub mark_is : (j : Judgement) (p : ℕ) → p ≤ 1 → j ≡ marked p → mark_of j ≡ p
mark_is j p h e = ap mark_of e ∙ go p h
  where
    go : (p : ℕ) → p ≤ 1 → mark_of (marked p) ≡ p
    go zero h = refl
    go (suc zero) h = refl
    go (suc (suc p)) h = absurd (omega arith)

-- a part that is refused, where P gives a mark
pub part_no : {A B : Type 0} {P : A → List (Label ℕ) → Type 0} {Q : B → List (Label ℕ) → Type 0} {r : Judged} {p q π i : ℕ} (o : Out A) (c : A → List (Label ℕ) → Out B) (j : A → List (Label ℕ) → ℕ)
    → ((a : A) (L : List (Label ℕ)) → P a L → (m : ℕ) × (r.judgement ≡ marked m)) → r.judgement ≡ Refused p q → Meets P r π o i → Meets Q r π (and_then o c) (i + pairs_after o j)
part_no {p = p} {q = q} o c j f e m = hands_up o c j (λ a L z v. let (m, is) = f a L v in marked_no m p q (sym is ∙ e)) m

-- labels whose first gives no type
pub head_plain : (L : List (Label ℕ)) → next_result (L ++ []) ≡ 0 → next_result L ≡ 0
head_plain [] e = refl
head_plain (l ∷ L) e = e

module _ {F : List ℕ} {S : Sections} {X : List ℕ} {base : ℕ} where
  -- a scope that is left
  pub after_left : {L : List (Label ℕ)} {n k s h : ℕ} {R W R₁ W₁ K₁ K₂ : List ℕ} → base ≤ s → After F S X base L n k s h R W R₁ W₁ K₁ → Scoped F S W₁ K₂ s
      → After F S X base L n k s s R W R₁ W₁ K₂
  after_left l a c =
      record {
        rows = a.rows;
        kept = a.kept;
        same = a.same;
        fine = record { good_tables = a.fine.good_tables; indexed = a.fine.indexed; rows_long = a.fine.rows_long; scoped = c; low = a.fine.low; above = l };
      }

  -- the same part seen from a lower height
  pub after_lower : {L : List (Label ℕ)} {n k s t h : ℕ} {R W R₁ W₁ K₁ : List ℕ} → t ≤ s → After F S X base L n k s h R W R₁ W₁ K₁ → After F S X base L n k t h R W R₁ W₁ K₁
  after_lower {s = s} {t = t} l a =
      record { rows = a.rows; kept = a.kept; same = same_less (entry_of (tables_of F S) t) (entry_of (tables_of F S) s) (omega arith) a.same; fine = a.fine }

  -- one part after another, the first of which may end in a 40
  pub after_plain_then : {L M : List (Label ℕ)} {n k j s h i : ℕ} {R W R₁ W₁ K₁ R₂ W₂ K₂ : List ℕ} → length L ≡ k → next_result M ≡ 0 → s ≤ h
      → After F S X base L n k s h R W R₁ W₁ K₁ → After F S X base M (n + k) j h i R₁ W₁ R₂ W₂ K₂ → After F S X base (L ++ M) n (k + j) s i R W R₂ W₂ K₂
  after_plain_then e c l a b = after_join e (λ z. c) l a b

  -- a part after a change of the stack from the height s on
  pub after_stack : {L : List (Label ℕ)} {n k s h : ℕ} {R W W₁ R₂ W₂ K₂ : List ℕ} → Same (entry_of (tables_of F S) s) W W₁
      → After F S X base L n k s h R W₁ R₂ W₂ K₂ → After F S X base L n k s h R W R₂ W₂ K₂
  after_stack c a = record { rows = a.rows; kept = a.kept; same = same_more c a.same; fine = a.fine }

-- an accepted statement that binds nothing, with the mark m, which is p: its own row over those of its parts
pub marked_row : {F : List ℕ} {S : Sections} {X R W R₂ W₂ K₂ R' : List ℕ} {base start n k x e s m p π : ℕ} {r : Judged} {M : List (Label ℕ)} {Γ : Scope ℕ} → n < S.nodes
    → After F S X base M (n + 1) k s s R W R₂ W₂ K₂ → m ≡ p → e ≡ n + 1 + k → x ≡ 1 + k
    → AnswerIs (marked m) e s π r → R' ≡ with_row R₂ n m 65535 → Holds (tables_of F S) W base start s Γ
    → Meets (Marking F S X base start n x s R W R' W₂ K₂ r) r π (ends p Γ Γ M) 0
marked_row {R₂ = R₂} {n = n} {e = e} {s = s} w a em en ex er e_r d =
    accepts_now _ _ (rule_left w a (judged_as (ap marked em) er) en ex (e_r ∙ ap (λ i. with_row R₂ n i 65535) em) d) er.sum

-- a later part sees the names below s
pub seen_on : (F : List ℕ) (S : Sections) (base s : ℕ) {W W₁ : List ℕ} → Same (entry_of (tables_of F S) s) W W₁ → base ≤ s → (P : Context ℕ → Type 0)
    → P (context_of (tables_of F S) W₁ base) → P (context_of (tables_of F S) W base)
seen_on F S base s a l P x = subst (λ N. P (record { structs = declared (tables_of F S); names = N })) (names_same (tables_of F S) s a base l) x

-- a block sees the names of the part before it, and its scope
pub retell_block : {F : List ℕ} {S : Sections} {X W R₁ W₁ R₂ W₂ K₂ : List ℕ} {base start rt s m i π : ℕ} {r : Judged} → Same (entry_of (tables_of F S) s) W W₁ → base ≤ s → m ≡ i
    → ToldBlock F S X R₁ W₁ base start rt m s π R₂ W₂ K₂ r → (b : Block) → BlockStands (tables_of F S) i b → (Γ : Scope ℕ) → Holds (tables_of F S) W base start s Γ
    → Meets (Blocking F S X base i (size_block b) s R₁ W₁ R₂ W₂ K₂ r) r π (block_in F S W base rt b i Γ).out (block_in F S W base rt b i Γ).pairs
retell_block {F} {S} {X} {W} {R₁} {W₁} {R₂} {W₂} {K₂} {base} {start} {rt} {s} {m} {i} {π} {r} a l e told b h Γ d =
    seen_on F S base s a l
    (λ C. Meets (Blocking F S X base i (size_block b) s R₁ W₁ R₂ W₂ K₂ r) r π (executing_block (tables_of F S) C rt b i Γ).out (executing_block (tables_of F S) C rt b i Γ).pairs)
    ((subst (λ j. ToldBlock F S X R₁ W₁ base start rt j s π R₂ W₂ K₂ r) e told).tells b h Γ (holds_same d a))

-- a statement sees the names before those of the block, and the scope after the statements before it
pub retell_stmt : {F : List ℕ} {S : Sections} {X W R₁ W₁ R₂ W₂ K₂ : List ℕ} {base start rt : ℕ} {last : Bool} {s h n π : ℕ} {r : Judged} → Same (entry_of (tables_of F S) s) W W₁
    → base ≤ s → ToldStmt F S X R₁ W₁ base start rt last n h π R₂ W₂ K₂ r → (z : Stmt) → StmtStands (tables_of F S) n z
    → (Γ : Scope ℕ) → Holds (tables_of F S) W₁ base start h Γ
    → Meets (Marking F S X base start n (size_stmt z) h R₁ W₁ R₂ W₂ K₂ r) r π (stmt_in F S W base rt last z n Γ).out (stmt_in F S W base rt last z n Γ).pairs
retell_stmt {F} {S} {X} {W} {R₁} {W₁} {R₂} {W₂} {K₂} {base} {start} {rt} {last} {s} {h} {n} {π} {r} a l told z st Γ d =
    seen_on F S base s a l
    (λ C. Meets (Marking F S X base start n (size_stmt z) h R₁ W₁ R₂ W₂ K₂ r) r π (executing (tables_of F S) C rt last z n Γ).out (executing (tables_of F S) C rt last z n Γ).pairs)
    (told.tells z st Γ d)
