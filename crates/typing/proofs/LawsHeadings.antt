-- The loop over the headings, which have no rows: whatever the rows hold. Assumes nothing.
use mathlib.Core.Path.{◌≡◌}
use mathlib.Core.List.{List, []}
use Prim.Native.Nat.{ℕ, ◌-◌, ◌≤◌, ◌<◌}
use native.Mathlib.Omega.{arith}
use Rattle.std.specs.Prelude.{Result, Ok}
use Rattle.typing_rules.specs.Steps.{headings}
use Rattle.file_sections.specs.declared.Sections.{Sections}
use Rattle.file_sections.specs.Trees.{Tree, Past}
use Rattle.steps.specs.declared.context.Context.{Context}
use Rattle.steps.specs.declared.context.Refusal.{Refusal}
use Rattle.typing.specs.Runs.{ReadyDecl, HeadingTold, ReadyDecls, HeadingsTold}
use Rattle.typing.proofs.LawsRuns.{HandedUp}
use Rattle.typing.proofs.LawsCounts.{headings_group}
use Rattle.typing.proofs.LawsGroups.{Along, along_start, along_ready, along_tree, along_falls, along_next, along_stop, along_done}

pub record HeadingsAlong (F : List ℕ) (S : Sections) (X : List ℕ) (c₀ : Context) (W₀ : List ℕ) (node : ℕ) (c : Context) (W K : List ℕ) : Type 0 where
  pub with_rows : (R : List ℕ) → Along headings F S X c₀ R W₀ node c R W K

module _ {F : List ℕ} {S : Sections} {X : List ℕ} {c₀ : Context} {W₀ K₀ : List ℕ} (z : ReadyDecls headings F S X W₀ K₀ c₀) where
  pub headings_start : HeadingsAlong F S X c₀ W₀ 0 c₀ W₀ K₀
  headings_start = record { with_rows = λ R. along_start headings_group z.held }

  module _ {node : ℕ} {c : Context} {W K : List ℕ} (a : HeadingsAlong F S X c₀ W₀ node c W K) where
    pub headings_ready : node < S.nodes → ReadyDecl F S X W K c node
    headings_ready h = along_ready headings_group (a.with_rows []) z h

    pub headings_tree : node < S.nodes → Tree F S node
    headings_tree h = along_tree headings_group (a.with_rows []) z h

    module _ (h : node < S.nodes) where
      pub headings_stop : {W' K' : List ℕ} {t : Result Context Refusal} → HeadingTold F S X c node W W' K' t → {r : Result Context Refusal} → HandedUp t r → HeadingsTold F S X c₀ W₀ W' K' r
      headings_stop told e = record { tells = λ R. along_stop headings_group (a.with_rows R) z h (told.tells R) e }

      module _ {n : ℕ} (p : Past F S node n) where
        pub headings_falls : S.nodes - n < S.nodes - node
        headings_falls = omega (arith, along_falls headings_group (a.with_rows []) z h p)

        pub headings_next : {d : Context} {W' K' : List ℕ} {t : Result Context Refusal} → HeadingTold F S X c node W W' K' t → t ≡ Ok d → HeadingsAlong F S X c₀ W₀ n d W' K'
        headings_next told e = record { with_rows = λ R. along_next headings_group (a.with_rows R) z h p (told.tells R) e }

  pub headings_done : {node : ℕ} {c : Context} {W K : List ℕ} → HeadingsAlong F S X c₀ W₀ node c W K → S.nodes ≤ node → HeadingsTold F S X c₀ W₀ W K (Ok c)
  headings_done a h = record { tells = λ R. along_done headings_group (a.with_rows R) h }
