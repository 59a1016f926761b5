-- The pairs that steps compare: steps without nodes compare none, and steps that declare no struct at most 1,200 a node. Assumes nothing.
use mathlib.Core.Path.{◌≡◌, refl, ◌∙◌}
use mathlib.Core.List.{List}
use Prim.Native.Nat.{ℕ, ◌+◌, ◌*◌, ◌≤◌}
use native.Mathlib.Omega.{arith}
use lib.ListN.{length}
use lib.Dec.{eqb}
use Rattle.std.specs.Prelude.{Result, Ok}
use Rattle.oat.specs.Tables.{Tables, built_in_at}
use Rattle.oat.specs.Types.{struct_of, structs_of}
use Rattle.oat.proofs.LawsTypes.{TypesFormed, types-formed}
use Rattle.typing_rules.specs.Contexts as Contexts
use Rattle.typing_rules.specs.Contexts.{empty, is_miss, find_name}
use Rattle.typing_rules.specs.Labels.{Label}
use Rattle.typing_rules.specs.Judge.{Out, ok, no, pairs_after, referred, formed, judge, execute_block}
use Rattle.typing_rules.specs.Steps.{Step, struct_name, built_in, heading, global_value, struct_fields, body, distinct_fields, distinct_names}
use Rattle.typing_rules.specs.Check.{fields_formed, node_count, stepping, run_step, run_pairs}
use Rattle.typing_rules.proofs.LawsOutcome.{ok_is, then_ok, needs_ok}
use Rattle.typing_rules.proofs.LawsSteps.{parameter_scope}
use Rattle.typing_rules.proofs.LawsPairs.{few_parts, stepping_pairs, step_nodes}
use Rattle.file_sections.specs.declared.Sections.{Sections}
use Rattle.file_sections.specs.Layout.{tables_of, GoodTables}
use Rattle.steps.specs.declared.context.Context.{Context}
use Rattle.steps.specs.declared.context.Refusal.{Refusal}
use Rattle.steps.specs.Contract.{context_at}
use Rattle.steps.proofs.LawsStepping.{nothing_compared}
use Rattle.typing.specs.Runs.{Runs}
use Rattle.typing.proofs.LawsRuns.{runs_sum}
use Rattle.typing.proofs.LawsCounts.{structs_of_step, Alike, alike_none, alike_next, Bare, bare_none, bare_next}

-- steps without nodes
bare_pairs : (T : Tables) {ss : List Step} → Bare ss → (C : Contexts.Context ℕ) → run_pairs T C ss ≡ 0
unfolding run_pairs
bare_pairs T bare_none C = refl
bare_pairs T (bare_next {s = s} {ss = ss} z b) C = go (run_step T C s) (λ E. bare_pairs T b E)
  where
    go : (o : Out (Contexts.Context ℕ)) → ((E : Contexts.Context ℕ) → run_pairs T E ss ≡ 0) → (stepping T C s).pairs + pairs_after o (λ E L. run_pairs T E ss) ≡ 0
    go (ok E L) f = omega (arith, nothing_compared T C s z, f E)
    go (no p q) f = omega (arith, nothing_compared T C s z)

-- a step that declares no struct
structs_stay : (T : Tables) (C : Contexts.Context ℕ) (s : Step) → structs_of_step s ≡ 0 → (E : Contexts.Context ℕ) (L : List (Label ℕ)) → run_step T C s ≡ ok E L
    → E.structs ≡ C.structs
unfolding stepping
structs_stay T C (struct_name i) z E L e = absurd (omega (arith, z))
structs_stay T C (built_in i) z E L e =
    needs_ok (formed T C (built_in_at T i).type) _ _ _ e λ a f.
    needs_ok (is_miss (find_name (built_in_at T i).name C.names)) _ _ _ f λ b g.
    ok_is (λ B M. B.structs ≡ C.structs) g refl
structs_stay T C (heading n x t) z E L e =
    needs_ok (formed T C t) _ _ _ e λ a f.
    needs_ok (is_miss (find_name x C.names)) _ _ _ f λ b g.
    ok_is (λ B M. B.structs ≡ C.structs) g refl
structs_stay T C (global_value n x a) z E L e =
    then_ok (judge T C a (n + 1) empty) _ e λ t M i f.
    needs_ok (is_miss (find_name x C.names)) _ _ _ f λ b g.
    ok_is (λ B M. B.structs ≡ C.structs) g refl
structs_stay T C (struct_fields i) z E L e =
    needs_ok (fields_formed C (struct_of T i).fields) _ _ _ e λ a f.
    needs_ok (distinct_fields (struct_of T i).fields) _ _ _ f λ b g.
    ok_is (λ B M. B.structs ≡ C.structs) g refl
structs_stay T C (body n t ps b) z E L e =
    needs_ok (distinct_names ps) _ _ _ e λ a f.
    then_ok (execute_block T C (referred T t) b (n + 1 + length ps) (parameter_scope T n t ps)) _ f λ p M i g.
    needs_ok (eqb p 1) _ _ _ g λ c h.
    ok_is (λ B M. B.structs ≡ C.structs) h refl

-- steps that declare none, after the first m structs
pairs_most : (T : Tables) → TypesFormed 200 T → {k : ℕ} {ss : List Step} → Alike 0 k ss → (C : Contexts.Context ℕ) (m : ℕ) → C.structs ≡ structs_of T m
    → run_pairs T C ss ≤ 1200 * step_nodes ss
unfolding run_pairs
pairs_most T F alike_none C m e = omega arith
pairs_most T F (alike_next {s = s} {ss = ss} z k a) C m e = go (run_step T C s) refl (λ E i. pairs_most T F a E m i)
  where
    go : (o : Out (Contexts.Context ℕ)) → run_step T C s ≡ o → ((E : Contexts.Context ℕ) → E.structs ≡ structs_of T m → run_pairs T E ss ≤ 1200 * step_nodes ss)
        → (stepping T C s).pairs + pairs_after o (λ E L. run_pairs T E ss) ≤ 1200 * (node_count s + step_nodes ss)
    go (ok E L) i f = omega (arith, stepping_pairs (few_parts T F C m e) s, f E (structs_stay T C s z E L i ∙ e))
    go (no p q) i f = omega (arith, stepping_pairs (few_parts T F C m e) s)

-- the sum after steps that have run
module _ {F : List ℕ} {S : Sections} {X : List ℕ} {c d : Context} {ss : List Step} {R W R₁ W₁ K₁ : List ℕ} {r : Result Context Refusal} (e : r ≡ Ok d) (h : Runs F S X c ss R W R₁ W₁ K₁ r) where
  pub bare_sum : Bare ss → d.pairs ≡ c.pairs
  bare_sum b = runs_sum e h ∙ omega (arith, bare_pairs (tables_of F S) b (context_at (tables_of F S) W c))

  pub alike_sum : {k : ℕ} → GoodTables F S → Alike 0 k ss → d.pairs ≤ c.pairs + 1200 * step_nodes ss
  alike_sum tables a =
      let formed = types-formed 200 (tables_of F S) tables.types in
      omega (arith, runs_sum e h, pairs_most (tables_of F S) formed a (context_at (tables_of F S) W c) c.structs refl)
