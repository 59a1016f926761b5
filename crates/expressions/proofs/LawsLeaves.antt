-- Expressions without children: what their functions ask, and what their answers are by the definition.
-- Assumes nothing.
use mathlib.Core.Path.{◌≡◌, refl, ap, sym, subst, ◌∙◌}
use mathlib.Core.Bool.{Bool, true, false}
use mathlib.Core.List.{List, [], ◌∷◌}
use Prim.Native.Nat.{ℕ, ◌+◌, ◌*◌, ◌≤◌, ◌<◌}
use native.Mathlib.Omega.{arith}
use lib.ListN.{length}
use Rattle.std.specs.Prelude.{Option, Some as Position, None as Nothing}
use Rattle.oat.specs.Tables.{node_at}
use Rattle.oat.specs.Types.{type_of}
use Rattle.oat.specs.Decide.{is_formed}
use Rattle.oat.specs.Syntax.{Literal, truth, falsity, integer, text, null}
use Rattle.typing_rules.specs.Contexts.{Scope, Hit, find, find_name, or_else}
use Rattle.typing_rules.specs.Operators.{literal_type}
use Rattle.typing_rules.specs.Judge.{typed_as, plain, named, formed, judging}
use Rattle.file_sections.specs.declared.Sections.{Sections}
use Rattle.file_sections.specs.Layout.{tables_of}
use Rattle.type_index.specs.Index.{declared, formed_entry, Entered}
use Rattle.bindings.specs.Bindings.{names_of, scope_of, latest}
use Rattle.bindings.proofs.LawsBindings.{latest_low, found_is, missing_is}
use Rattle.answers.specs.declared.answer.Judged.{Judged}
use Rattle.answers.specs.Answers.{with_row, LeafAnswer, NullAnswer, NameAnswer, literal_kind}
use Rattle.expressions.specs.Contract.{context_of, After, Typing, Meets, Answers, Ready, Told}
use Rattle.expressions.proofs.LawsMeets.{accepts_now, refuses_now, stops, passes}
use Rattle.expressions.proofs.LawsAfter.{after_none, after_row}
use Rattle.expressions.proofs.LawsChild.{base_within, kind_within, type_entered}
use Rattle.expressions.proofs.LawsShape.{on_null, on_literal, on_name, literal-type}

-- an accepted leaf
leaf_typing : {F : List ℕ} {S : Sections} {X R W K : List ℕ} {base n s π t b : ℕ} {R' : List ℕ} {r : Judged} {Γ : Scope ℕ} → Ready F S X R W K base n s π → t < S.types
    → LeafAnswer t n s π r → R' ≡ with_row R n t b → Typing F S X base n 1 s R W R' W K r t (typed_as t b Γ ∷ [])
leaf_typing {F} {S} {X} {R} {W} {K} {base} {n} {s} {π} {t} {b} {R'} {r} {Γ} g w er e_r =
    record {
      typed = er.judged;
      next = er.next;
      scope = er.scope;
      within = w;
      after = subst (λ x. After F S X base (typed_as t b Γ ∷ []) n 1 s s R W x W K) (sym e_r) (after_row t b Γ g.within (after_none (n + 1) g.fine));
    }

-- what the dispatcher gives `null`, and what its answer is
module _ {F : List ℕ} {S : Sections} {X R W K : List ℕ} {base n s π : ℕ} (g : Ready F S X R W K base n s π) where
  module _ (kind : (node_at (tables_of F S) n).kind ≡ 10) where
    null_within : (node_at (tables_of F S) n).t < S.types
    null_within =
        on_null (λ e. (node_at (tables_of F S) n).t < S.types)
        (λ t h. subst (λ i. i < S.types) (sym h.0.t_is) (kind_within g.fine.good_tables 7 h.1)) kind g.tree g.stands

    pub null_asked : (n < S.nodes) × Entered X (node_at (tables_of F S) n).t × (S.nodes * 2 ≤ length R)
    null_asked = (g.within, type_entered g.fine null_within, g.fine.rows_long)

    null_formed : (t : ℕ) (b : Bool) → (node_at (tables_of F S) n).t ≡ t → formed_entry X (node_at (tables_of F S) n).t ≡ b
        → formed (tables_of F S) (context_of (tables_of F S) W base) t ≡ b
    null_formed t b e f =
        ap (λ i. is_formed (declared (tables_of F S)) (type_of (tables_of F S) i)) (sym e)
        ∙ sym (g.fine.indexed.formed (node_at (tables_of F S) n).t null_within) ∙ f

    pub null_told : {R' : List ℕ} {r : Judged} → NullAnswer X R (node_at (tables_of F S) n).t n s π R' r → Told F S X R W base n s π R' W K r
    unfolding judging
    null_told {R'} {r} a =
        record {
          tells = on_null (Answers F S X R W base n s π R' W K r)
              (λ t h. go t h.0.t_is (formed_entry X (node_at (tables_of F S) n).t) refl) kind;
        }
      where
        go : (t : ℕ) → (node_at (tables_of F S) n).t ≡ t → (b : Bool) → formed_entry X (node_at (tables_of F S) n).t ≡ b → Answers F S X R W base n s π R' W K r (null t)
        go t e true f =
            passes _ 9 n _ (null_formed t true e f)
            (subst (λ i. Meets (Typing F S X base n 1 s R W R' W K r) r π (plain i (scope_of (tables_of F S) W base s) []) 0) e
            (accepts_now _ _ (leaf_typing g null_within (a.formed f).0 (a.formed f).1) (a.formed f).0.sum))
        go t e false f = stops _ 9 n _ _ (null_formed t false e f) (a.unformed f)

  -- `literal`
  pub literal_told : {R' : List ℕ} {r : Judged} → 11 ≤ (node_at (tables_of F S) n).kind → (node_at (tables_of F S) n).kind ≤ 14
      → LeafAnswer (literal_kind (node_at (tables_of F S) n).kind) n s π r → R' ≡ with_row R n (literal_kind (node_at (tables_of F S) n).kind) 65535
      → Told F S X R W base n s π R' W K r
  unfolding judging
  literal_told {R'} {r} a b er e_r =
      record {
        tells = on_literal (Answers F S X R W base n s π R' W K r)
            (λ l h.
            let e = literal-type (tables_of F S) n l h in
            accepts_now _ _ (leaf_typing g (base_within g.fine.good_tables (low l)) (subst (λ t. LeafAnswer t n s π r) e er) (e_r ∙ ap (λ t. with_row R n t 65535) e)) er.sum) a b;
      }
    where
      low : (l : Literal) → literal_type l < 4
      low truth = omega arith
      low falsity = omega arith
      low (integer x) = omega arith
      low (text x) = omega arith

  -- `name`
  pub name_told : {R' : List ℕ} {r : Judged} → (node_at (tables_of F S) n).kind ≡ 15 → NameAnswer F S R W K n s π R' r → Told F S X R W base n s π R' W K r
  unfolding judging
  name_told {R'} {r} kind a =
      record {
        tells = on_name (Answers F S X R W base n s π R' W K r)
            (λ x h.
            subst (λ y. Meets (Typing F S X base n 1 s R W R' W K r) r π
            (named (or_else (find y (scope_of (tables_of F S) W base s)) (find_name y (names_of (tables_of F S) W base))) n (scope_of (tables_of F S) W base s)) 0)
            h.x_is (go (latest (tables_of F S) W (node_at (tables_of F S) n).x s) refl)) kind;
      }
    where
      meant : Hit ℕ → Type 0
      meant m = Meets (Typing F S X base n 1 s R W R' W K r) r π (named m n (scope_of (tables_of F S) W base s)) 0

      go : (f : Option ℕ) → latest (tables_of F S) W (node_at (tables_of F S) n).x s ≡ f
          → meant (or_else (find (node_at (tables_of F S) n).x (scope_of (tables_of F S) W base s)) (find_name (node_at (tables_of F S) n).x (names_of (tables_of F S) W base)))
      go (Position j) e =
          let (er, e_r) = a.found s j g.fine.scoped e in
          subst meant (sym (found_is (tables_of F S) W (node_at (tables_of F S) n).x base s j e g.fine.above))
          (accepts_now _ _ (leaf_typing g (g.fine.scoped.types j (latest_low (tables_of F S) W (node_at (tables_of F S) n).x s j e)) er e_r) er.sum)
      go Nothing e =
          subst meant (sym (missing_is (tables_of F S) W (node_at (tables_of F S) n).x base s e g.fine.above))
          (refuses_now 8 n (a.missing s g.fine.scoped e))
