-- What a typed child tells its parent, and the types that a rule reads. Assumes nothing.
use mathlib.Core.Path.{◌≡◌, refl, sym, subst, ◌∙◌}
use mathlib.Core.Bool.{Bool, true}
use mathlib.Core.List.{List}
use Prim.Native.Nat.{ℕ, ◌+◌, ◌*◌, ◌≤◌, ◌<◌}
use native.Mathlib.Omega.{arith}
use lib.ListN.{length}
use Rattle.oat.specs.Tables.{Tables, type_at, entry_at}
use Rattle.oat.specs.TableRules.{has_kind}
use Rattle.oat.specs.Types.{type_of, structs_of}
use Rattle.oat.specs.Decide.{is_formed}
use Rattle.oat.specs.Syntax.{Expr, size}
use Rattle.oat.specs.Nodes.{Stands}
use Rattle.oat.proofs.LawsBasics.{tabulate_long}
use Rattle.oat.proofs.LawsTypes.{TypesFormed, types-formed}
use Rattle.oat.proofs.LawsTables.{has-kind}
use borrow.Author.Tests.{eq-eqb}
use Rattle.typing_rules.specs.Labels.{Label}
use Rattle.typing_rules.specs.Judge.{ok, judge}
use Rattle.typing_rules.proofs.LawsPairs.{FewParts, few_parts, asked_most, expr_pairs}
use Rattle.file_sections.specs.declared.Sections.{Sections}
use Rattle.file_sections.specs.Layout.{Has, tables_of, GoodTables}
use Rattle.file_sections.proofs.LawsRecords.{types_long, list_long}
use Rattle.type_index.specs.Index.{declared, record_of, struct_named, formed_entry, Entered}
use Rattle.type_index.proofs.LawsIndex.{entered}
use Rattle.bindings.specs.Bindings.{scope_of}
use Rattle.subtyping.specs.declared.below.Compared.{Compared as Comparing}
use Rattle.answers.specs.declared.answer.Judgement.TheVariants.{Typed}
use Rattle.answers.specs.declared.answer.Judged.{Judged}
use Rattle.answers.specs.Answers.{structs_alone, Asks}
use Rattle.expressions.specs.Contract.{context_of, Fine, Typing, Ready, Told}
use Rattle.expressions.proofs.LawsMeets.{pairs_told}
use Rattle.expressions.proofs.LawsAfter.{typing_of}

pub kind-of : (T : Tables) (t k : ℕ) → has_kind T t k ≡ true → (type_at T t).kind ≡ k
kind-of T t k e = (has-kind T t k e).kind

-- the record of the struct that a type names
pub struct_meant : (T : Tables) (t : ℕ) → (type_at T t).kind ≡ 4 → struct_named T t ≡ record_of T (type_at T t).a
unfolding struct_named
struct_meant T t e = rw (eq-eqb _ _ e)

pub declared_long : (T : Tables) → length (declared T) ≡ length T.structs
unfolding structs_of
declared_long T = tabulate_long (length T.structs) _

-- a type that is referred to
module _ {F : List ℕ} {S : Sections} (good_tables : GoodTables F S) where
  formed : TypesFormed 200 (tables_of F S)
  formed = types-formed 200 (tables_of F S) good_tables.types

  within : {t : ℕ} → t < S.types → t < length (tables_of F S).types
  within {t} h = subst (λ k. t < k) (sym (types_long F S)) h

  pub has_node : {n : ℕ} → n < S.nodes → Has F S n S.nodes
  has_node h = record { laid = good_tables.laid; within = h }

  pub has_type : {t : ℕ} → t < S.types → Has F S t S.types
  has_type h = record { laid = good_tables.laid; within = h }

  pub base_within : {t : ℕ} → t < 4 → t < S.types
  base_within {t} h = let four = formed.four in omega (arith, types_long F S)

  pub kind_within : {t : ℕ} (k : ℕ) → has_kind (tables_of F S) t k ≡ true → t < S.types
  kind_within {t} k e = subst (λ m. t < m) (types_long F S) (has-kind (tables_of F S) t k e).within

  pub element_within : {t : ℕ} → t < S.types → (type_at (tables_of F S) t).kind ≡ 5 → (type_at (tables_of F S) t).a < S.types
  element_within {t} h k = let l = (formed.array t (within h) k).lower in omega arith

  pub returned_within : {t : ℕ} → t < S.types → (type_at (tables_of F S) t).kind ≡ 6 → (type_at (tables_of F S) t).a < S.types
  returned_within {t} h k = let l = (formed.function t (within h) k).returns in omega arith

  -- the parameters of a function type
  pub parameters_within : {t b c : ℕ} → t < S.types → (type_at (tables_of F S) t).kind ≡ 6 → b ≡ (type_at (tables_of F S) t).b → c ≡ (type_at (tables_of F S) t).c
      → (b + c ≤ S.list) × ((j : ℕ) → j < c → entry_at (tables_of F S) (b + j) < S.types)
  parameters_within {t} {b} {c} h k eb ec =
      let f = formed.function t (within h) k in (
        omega (arith, f.listed, eb, ec, list_long F S),
        λ j l.
            let lower = (f.parameter j (subst (λ i. j < i) ec l)).lower in
            subst (λ i. entry_at (tables_of F S) (i + j) < S.types) (sym eb) (omega (arith, lower, h)),
      )

  pub reference_within : {t : ℕ} → t < S.types → (type_at (tables_of F S) t).kind ≡ 7 → (type_at (tables_of F S) t).a < S.types
  reference_within {t} h k = let l = (formed.nullable t (within h) k).lower in omega arith

-- no question of the file compares more than its types have parts
pub few_parts_in : {F : List ℕ} {S : Sections} → GoodTables F S → (U : List ℕ) (base : ℕ) → FewParts (tables_of F S) (context_of (tables_of F S) U base)
few_parts_in {F} {S} good_tables U base = few_parts (tables_of F S) (formed good_tables) _ (length (tables_of F S).structs) refl

-- the index has the entries of a type, and tells whether it is well-formed
pub type_entered : {F : List ℕ} {S : Sections} {X R W K : List ℕ} {base s : ℕ} → Fine F S X R W K base s → {t : ℕ} → t < S.types → Entered X t
type_entered f h = entered f.good_tables f.indexed h

pub formed_is : {F : List ℕ} {S : Sections} {X R W K : List ℕ} {base s : ℕ} → Fine F S X R W K base s → {t : ℕ} {b : Bool} → t < S.types → b ≡ formed_entry X t
    → b ≡ is_formed (declared (tables_of F S)) (type_of (tables_of F S) t)
formed_is f {t} h e = e ∙ f.indexed.formed t h

-- a question has few pairs
pub few_asked : {F : List ℕ} {S : Sections} → GoodTables F S → (t u : ℕ) {c : Comparing} → Asks (tables_of F S) t u c → c.pairs ≤ 399
few_asked {F} {S} g t u e = omega (arith, e.1, asked_most (few_parts (tables_of F S) (formed g) (structs_alone (tables_of F S)) (length (tables_of F S).structs) refl) t u)

-- what an expression that is answered has compared
pub child_spent : {F : List ℕ} {S : Sections} {X R W : List ℕ} {base m s π : ℕ} {R₁ W₁ K₁ : List ℕ} {r : Judged} → GoodTables F S → Told F S X R W base m s π R₁ W₁ K₁ r
    → (e : Expr) → Stands (tables_of F S) m e → r.at.pairs + 400 ≤ π + 1200 * size e
child_spent {F} {S} {W = W} {base = base} {m} {s} g told e h = omega (arith, pairs_told (told.tells e h), expr_pairs (few_parts_in g W base) e m (scope_of (tables_of F S) W base s))

module _ {F : List ℕ} {S : Sections} {X R W K : List ℕ} {base m s π : ℕ} (g : Ready F S X R W K base m s π) {R₁ W₁ K₁ : List ℕ} {r : Judged} (told : Told F S X R W base m s π R₁ W₁ K₁ r) {t : ℕ} (y : r.judgement ≡ Typed t) where
  typed_child : (L : List (Label ℕ))
      × (judge (tables_of F S) (context_of (tables_of F S) W base) g.tree m (scope_of (tables_of F S) W base s) ≡ ok t L)
      × Typing F S X base m (size g.tree) s R W R₁ W₁ K₁ r t L
  typed_child = typing_of _ (told.tells g.tree g.stands) y

  pub child_within : t < S.types
  child_within = typed_child.2.within

  pub child_type : Has F S t S.types
  child_type = has_type g.fine.good_tables child_within

  pub child_fine : Fine F S X R₁ W₁ K₁ base s
  child_fine = typed_child.2.after.fine

  pub child_scope : r.at.scope ≡ s
  child_scope = typed_child.2.scope
