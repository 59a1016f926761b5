-- Demand 3 on programs: a program is accepted exactly when it has a derivation, of which there is one; when it is refused, the steps before
-- the named step together have exactly one derivation, and the named step has none in the context that they make. Assumes nothing.
use mathlib.Core.Path.{◌≡◌, refl, ap, sym, subst, ◌∙◌}
use mathlib.Core.List.{List}
use Prim.Native.Nat.{ℕ, ◌<◌}
use native.Mathlib.Omega.{arith}
use lib.ListN.{length, get_or, take}
use lib.Seq.{take-length}
use Rattle.oat.specs.Basics.{tabulate}
use Rattle.oat.specs.Tables.{Tables}
use Rattle.oat.specs.Types.{Ty, structs_of}
use Rattle.oat.specs.Nodes.{DeclsStand}
use Rattle.oat.specs.ProgramFile.{Program, IsFile}
use Rattle.oat.proofs.LawsTypes.{types-formed}
use Rattle.oat.proofs.LawsTables.{tables_formed}
use Rattle.typing_rules.specs.Contexts.{Context}
use Rattle.typing_rules.specs.Labels.{Labels}
use Rattle.typing_rules.specs.Steps.{struct_name, steps_of, empty_context, StepRule, DerivesFirst, OneFirst, DerivesFile}
use Rattle.typing_rules.specs.Check.{Segment, Ran, accepted, refused, run}
use Rattle.typing_rules.proofs.Claims.{File, fits_none, ContextFits, erase_names, erase_context}
use Rattle.typing_rules.proofs.LawsRuns.{Fitting, Runs, Labelled, sound_steps, complete_steps, labelled_same, labelled_run, Outcome, trace, label}
use Rattle.typing_rules.proofs.LawsProgram.{steps_fit, fit_take, first_apart}

-- a program whose tables keep the rules and whose trees stand
pub record Fits (p : Program) : Type 0 where
  pub file : File p.tables
  pub stand : DeclsStand p.tables 0 p.declarations

-- a file's program is one
pub file_fits : (depth : ℕ) (bytes : List ℕ) (p : Program) → IsFile (record { parts = 200; depth = depth }) bytes p → Fits p
file_fits depth bytes p f = record {
  file = record { types = types-formed 200 p.tables f.types; tables = tables_formed p.tables f.tables };
  stand = f.stand;
}

-- the run of a program's steps
abbrev pub run_of : Program → Ran
run_of p = run p.tables empty_context (steps_of p) 0

-- nothing is declared at first
pub empty_fits : (T : Tables) → ContextFits T empty_context
unfolding structs_of tabulate
empty_fits T = record { names = fits_none; structs = refl; few = omega arith }

module _ (p : Program) (f : Fits p) where
  pub trees : Fitting p.tables 0 (steps_of p)
  trees = steps_fit p f.stand

  -- a derivation of the first i steps has the labels of their run
  pub derives_labelled : (i : ℕ) (D : Labels Ty) (B : Context Ty) → DerivesFirst p i D B
      → (E : Context ℕ) × Labelled p.tables D empty_context (take i (steps_of p)) E × (B ≡ erase_context p.tables E)
  unfolding erase_names
  derives_labelled i D B d = complete_steps p.tables f.file d.rules empty_context (empty_fits p.tables) (fit_take trees i) refl

  -- the first i steps, where they are accepted, have exactly one derivation
  one_first : (i : ℕ) (E : Context ℕ) → Runs p.tables empty_context (take i (steps_of p)) E
      → (D : Labels Ty) × OneFirst p i D (erase_context p.tables E)
  unfolding erase_names
  one_first i E r =
      let (D, l) = label r (λ m. first_apart m p i) in (
        D,
        record {
          derives = record { rules = sound_steps l };
          only = λ G B d.
              let (A, k, e) = derives_labelled i G B d in
              let (same, ends) = labelled_same l k in
              (same, ap (erase_context p.tables) ends ∙ sym e);
        },
      )

  outcome : Outcome p.tables empty_context (steps_of p) 0 (run_of p)
  outcome = trace p.tables f.file (steps_of p) empty_context 0 (empty_fits p.tables) trees

pub accepted_derives : (p : Program) → Fits p → (gs : List Segment) (k : ℕ) → run_of p ≡ accepted gs k
    → (k ≡ length (steps_of p)) × (D : Labels Ty) × (C : Context Ty) × OneFirst p (length (steps_of p)) D C
accepted_derives p f gs k e =
    let T = p.tables in
    let o = subst (Outcome T empty_context (steps_of p) 0) e (outcome p f) in
    let r = subst (λ ss. Runs T empty_context ss o.end) (sym (take-length (steps_of p))) o.runs in
    let (D, one) = one_first p f (length (steps_of p)) o.end r in
    (omega (arith, o.all), D, erase_context T o.end, one)

pub derives_accepted : (p : Program) → Fits p → (D : Labels Ty) (C : Context Ty) → DerivesFile p D C
    → (gs : List Segment) × (run_of p ≡ accepted gs (length (steps_of p)))
derives_accepted p f D C d =
    let T = p.tables in
    let (E, l, e) = derives_labelled p f (length (steps_of p)) D C d in
    let (gs, r) = labelled_run (subst (λ ss. Labelled T D empty_context ss E) (take-length (steps_of p)) l) 0 in
    (gs, r ∙ ap (λ j. accepted gs j) (omega arith))

pub refused_step : (p : Program) → Fits p → (m j q : ℕ) → run_of p ≡ refused m j q
    → (j < length (steps_of p)) × (D : Labels Ty) × (C : Context Ty) × OneFirst p j D C
    × ((E : Labels Ty) → StepRule p.tables C E (get_or (steps_of p) j (struct_name 0)) → ⊥)
refused_step p f m j q e =
    let T = p.tables in
    let o = subst (Outcome T empty_context (steps_of p) 0) e (outcome p f) in
    let is : o.before ≡ j = omega (arith, o.is) in
    let (D, one) = one_first p f j o.end (subst (λ i. Runs T empty_context (take i (steps_of p)) o.end) is o.runs) in (
      omega (arith, o.within),
      D,
      erase_context T o.end,
      one,
      λ E r. o.underivable E (subst (λ i. StepRule T (erase_context T o.end) E (get_or (steps_of p) i (struct_name 0))) (sym is) r),
    )
