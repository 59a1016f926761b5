-- An answer in a scope is one in every scope whose names mean the same: rows have nothing of a scope but what names mean. Assumes nothing.
use mathlib.Core.Path.{◌≡◌, refl, ap, sym, ◌∙◌}
use mathlib.Core.List.{List}
use Prim.Native.Nat.{ℕ, ◌+◌}
use native.Mathlib.Omega.{arith}
use Rattle.oat.specs.Syntax.{Expr, Exprs}
use Rattle.oat.specs.Tables.{Tables}
use Rattle.typing_rules.specs.Contexts.{Scope, Context}
use Rattle.typing_rules.specs.Labels.{Result, gives, marks, nothing, Label}
use Rattle.typing_rules.specs.Judge.{Out, judge, judging}
use Rattle.typing_rules.specs.Check.{child_result, next_result, row_result}
use Rattle.typing_rules.proofs.LawsAlike.{RowsAlike, alike_none, alike_node, Alike, both_ok, both_no, Agree, asks_alike, then_alike, expr_alike, exprs_alike}
use Rattle.file_sections.specs.declared.Sections.{Sections}
use Rattle.bindings.specs.Bindings.{scope_of, Holds}
use Rattle.answers.specs.declared.answer.Judged.{Judged}
use Rattle.answers.specs.declared.leaves.Expected.{Expected}
use Rattle.expressions.specs.Contract.{RowsAt, After, Typing, Listing, Meets, accepts, refuses, expected_asked, listed}
use Rattle.expressions.proofs.LawsMeets.{refuses_with}

-- rows of labels that are alike
next_alike : {L M : List (Label ℕ)} → RowsAlike L M → next_result L ≡ next_result M
next_alike alike_none = refl
next_alike (alike_node e f a) = ap child_result e

result_alike : (u v : Result ℕ) {L M : List (Label ℕ)} → u ≡ v → RowsAlike L M → row_result u L ≡ row_result v M
result_alike (gives t) v e a = rw (← e)
result_alike (marks p) v e a = rw (← e)
result_alike nothing v e a = rw (← e) (next_alike a)

rows_alike : (R : List ℕ) (n : ℕ) {L M : List (Label ℕ)} → RowsAlike L M → RowsAt R n L → RowsAt R n M
unfolding RowsAt
rows_alike R n alike_none h = h
rows_alike R n (alike_node {l} {m} e f a) h = (h.0 ∙ result_alike l.result m.result e a, h.1 ∙ f, rows_alike R (n + 1) a h.2)

after_alike : {F : List ℕ} {S : Sections} {X : List ℕ} {base n k s : ℕ} {R W R' W' K' : List ℕ} {L M : List (Label ℕ)} → RowsAlike L M → After F S X base L n k s s R W R' W' K' → After F S X base M n k s s R W R' W' K'
after_alike {n = n} {R' = R'} a h = record { rows = rows_alike R' n a h.rows; kept = h.kept; same = h.same; fine = h.fine }

-- the scope that the stack holds
agreed : {T : Tables} {W : List ℕ} {base start s : ℕ} {Γ : Scope ℕ} → Holds T W base start s Γ → Agree (scope_of T W base s) Γ
agreed h = record { means = λ x. sym (h.means x) }

module _ {F : List ℕ} {S : Sections} {X : List ℕ} {base n k s π : ℕ} {R W R' W' K' : List ℕ} {r : Judged} where
  typing_alike : {o p : Out ℕ} {i j : ℕ} → Alike o i p j → Meets (Typing F S X base n k s R W R' W' K' r) r π o i → Meets (Typing F S X base n k s R W R' W' K' r) r π p j
  typing_alike {j = j} (both_ok a f) (accepts t L i h e) =
      accepts t _ j (record { typed = h.typed; next = h.next; scope = h.scope; within = h.within; after = after_alike a h.after }) (omega arith)
  typing_alike {j = j} (both_no f) (refuses p q i e) = refuses_with p q j e (omega arith)

  pub typed_in : (T : Tables) (C : Context ℕ) (e : Expr) (m : ℕ) {Γ Δ : Scope ℕ} → Agree Γ Δ
      → Meets (Typing F S X base n k s R W R' W' K' r) r π (judge T C e m Γ) (judging T C e m Γ).pairs
      → Meets (Typing F S X base n k s R W R' W' K' r) r π (judge T C e m Δ) (judging T C e m Δ).pairs
  typed_in T C e m {Γ} {Δ} a h = typing_alike (expr_alike T C e m Γ Δ a) h

  listing_alike : {o p : Out (List ℕ)} {i j : ℕ} → Alike o i p j → Meets (Listing F S X base n k s R W R' W' K' r) r π o i → Meets (Listing F S X base n k s R W R' W' K' r) r π p j
  listing_alike {j = j} (both_ok a f) (accepts ts L i h e) =
      accepts ts _ j (record { goes_on = h.goes_on; next = h.next; scope = h.scope; after = after_alike a h.after }) (omega arith)
  listing_alike {j = j} (both_no f) (refuses p q i e) = refuses_with p q j e (omega arith)

  module _ {T : Tables} {W₀ : List ℕ} {base₀ start s₀ : ℕ} {Γ : Scope ℕ} (held : Holds T W₀ base₀ start s₀ Γ) where
    pub in_scope : (C : Context ℕ) (e : Expr) (m : ℕ)
        → Meets (Typing F S X base n k s R W R' W' K' r) r π (judge T C e m (scope_of T W₀ base₀ s₀)) (judging T C e m (scope_of T W₀ base₀ s₀)).pairs
        → Meets (Typing F S X base n k s R W R' W' K' r) r π (judge T C e m Γ) (judging T C e m Γ).pairs
    in_scope C e m h = typed_in T C e m (agreed held) h

    pub list_in_scope : (C : Context ℕ) (es : Exprs) (m : ℕ) (x : Expected) (parent : ℕ)
        → Meets (Listing F S X base n k s R W R' W' K' r) r π (listed T C es m (scope_of T W₀ base₀ s₀) x parent).out (listed T C es m (scope_of T W₀ base₀ s₀) x parent).pairs
        → Meets (Listing F S X base n k s R W R' W' K' r) r π (listed T C es m Γ x parent).out (listed T C es m Γ x parent).pairs
    list_in_scope C es m x parent h =
        listing_alike (then_alike (exprs_alike T C es m (scope_of T W₀ base₀ s₀) Γ (agreed held)) λ ts L M a. asks_alike (expected_asked T C ts x) 11 parent (both_ok a refl)) h
