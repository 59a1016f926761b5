-- Document 01's example: its bytes are a file, it has a derivation, given here by the rules alone, its rows are those of the derivation, and
-- the check accepts it with them. And a file beside it that has no derivation, shown by the rules alone, and that the check refuses.
-- Assumes nothing.
use mathlib.Core.Path.{◌≡◌, refl, ap, sym, ◌∙◌}
use mathlib.Core.List.{List, ◌∷◌, ◌++◌}
use Prim.Native.Nat.{ℕ, ◌≤◌}
use native.Mathlib.Omega.{arith}
use lib.ListN.{length, get_or, drop, replicate}
use Rattle.oat.specs.Basics.{tabulate}
use Rattle.oat.specs.Tables.{Tables, record_numbers, numbers_of, bytes_of, file_of}
use Rattle.oat.specs.Types.{Ty, bool, written, first_types, type_of}
use Rattle.oat.specs.Syntax.{name}
use Rattle.oat.specs.ProgramFile.{limits_of, from_one_to, in_range, widest, IsFile}
use Rattle.oat.proofs.LawsLimits.{widest_in_range}
use Rattle.typing_rules.specs.Contexts.{empty, hit, miss, nearest, find, Context, find_name}
use Rattle.typing_rules.specs.Labels.{Labels}
use Rattle.typing_rules.specs.Rules.{ExprRule, typ_literal, typ_local, typ_global}
use Rattle.typing_rules.specs.Derivations.{here}
use Rattle.typing_rules.specs.Steps.{Step, struct_name, global_value, headings, globals, bodies, steps_of, StepRule, typ_ggdecl, context_after, empty_context, StepsRule, step_left, next_step, DerivesFile}
use Rattle.typing_rules.specs.Rows.{NumberOf, rows_none, rows_node, labels_from, DeclRows, no_rows, global_rows}
use Rattle.typing_rules.proofs.LawsComputed.{computed, is_file, is-file}
use Rattle.typing_rules.proofs.LawsSubtrees.{at_literal}
use Rattle.demand3.specs.CheckFile.{outcome, Checks, checked}
use Rattle.demand3.specs.Demand3.{Derivable}
use Rattle.demand3.specs.Example.{example_bytes, example, example_labels, example_context, example_rows, unbound}

pub example_file : IsFile widest example_bytes example
unfolding record_numbers numbers_of bytes_of is_file
example_file = is-file widest example refl

-- by its rules: TYP_GGDECL over TYP_BOOL_TRUE
pub example_derivation : DerivesFile example example_labels example_context
unfolding tabulate headings globals bodies steps_of context_after find_name
example_derivation = record {
  rules =
      next_step
      (typ_ggdecl refl refl (record { rule = at_literal (typ_literal (record { type = refl; binder_is = refl; after = refl })) }) refl)
      step_left;
}

pub example-rows : DeclRows example.tables example_labels 0 example.declarations example_rows
unfolding labels_from written first_types type_of
example-rows =
    let value : NumberOf example.tables bool 1 = record { within = omega arith; written = refl } in
    global_rows (rows_node value refl (rows_node value refl rows_none)) no_rows

-- whatever the buffers hold
pub example_outcome : (rows work : List ℕ) → 4 ≤ length rows → 4 ≤ length work → Checks widest example_bytes rows work (outcome 0 1 0 0 (example_rows ++ drop 4 rows))
unfolding computed
example_outcome rows work r w = checked widest_in_range example example_file r w

-- the least limits that let it pass: types of 1 part, and 2 levels
pub example_least : (rows work : List ℕ) → 4 ≤ length rows → 4 ≤ length work → Checks (limits_of 1 2) example_bytes rows work (outcome 0 1 0 0 (example_rows ++ drop 4 rows))
unfolding computed record_numbers numbers_of bytes_of is_file in_range from_one_to
example_least rows work r w = checked refl example (is-file (limits_of 1 2) example refl) r w

pub unbound_file : IsFile widest (file_of unbound.tables) unbound
unfolding is_file
unbound_file = is-file widest unbound refl

-- no rule gives a name a type where nothing is bound
no_name : {T : Tables} {D : Labels Ty} {n x : ℕ} → (D n).before ≡ empty → ExprRule T empty_context D n (name x) → ⊥
unfolding nearest find_name
no_name {x = x} e (typ_local t b f h) = let m : miss ≡ hit t b = ap (find x) (sym e) ∙ f in let z : ◌≡◌ {A = ℕ} 0 1 = cc in omega arith
no_name e (typ_global t b m f h) = let z : ◌≡◌ {A = ℕ} 0 1 = cc in omega arith

no_global : {T : Tables} {D : Labels Ty} {n x y : ℕ} → StepRule T empty_context D (global_value n x (name y)) → ⊥
no_global (typ_ggdecl u e d f) = no_name e (d.rule _ _ here)

first_step : {T : Tables} {D : Labels Ty} {C E : Context Ty} {s : Step} {ss : List Step} → StepsRule T D C (s ∷ ss) E → StepRule T C D s
first_step (next_step r rs) = r

pub unbound_step : (D : Labels Ty) → StepRule unbound.tables empty_context D (get_or (steps_of unbound) 0 (struct_name 0)) → ⊥
unfolding tabulate headings globals bodies steps_of
unbound_step D r = no_global r

pub unbound_derivation : Derivable unbound → ⊥
unfolding tabulate headings globals bodies steps_of
unbound_derivation d = no_global (first_step d.derives.rules)

pub unbound_outcome : (rows work : List ℕ) → 4 ≤ length rows → 4 ≤ length work → Checks widest (file_of unbound.tables) rows work (outcome 8 0 1 0 (replicate 4 65535 ++ drop 4 rows))
unfolding computed
unbound_outcome rows work r w = checked widest_in_range unbound unbound_file r w
