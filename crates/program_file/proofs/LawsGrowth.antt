-- What larger limits make of a file that smaller ones refuse. Assumes nothing.
use mathlib.Core.Path.{◌≡◌, refl, sym, ◌∙◌}
use mathlib.Core.Bool.{Bool, true, false}
use mathlib.Core.List.{List}
use Prim.Native.Nat.{ℕ}
use Rattle.oat.specs.Tables.{Tables}
use Rattle.oat.specs.TypeRules.{types_right}
use Rattle.oat.specs.TableRules.{tables_right}
use Rattle.oat.specs.ProgramFile.{Limits, Within}
use Rattle.oat.proofs.LawsLimits.{types_wider}
use Rattle.file_sections.specs.declared.Sections.{Sections}
use Rattle.std.specs.Prelude.{Result, Ok, Err}
use Rattle.file_sections.specs.declared.Unreadable.{Unreadable}
use Rattle.file_sections.specs.Layout.{sections_of, tables_of}
use Rattle.node_tree.specs.Tree.{trees_right}
use Rattle.program_file.specs.Reading.{reading_within}

-- how a refusal by the limits a goes on under b
pub data Goes (a b : Limits) (s : List ℕ) (e : Unreadable) : Type 0 where
  same : reading_within b s ≡ Err e → Goes a b s e
  types : e ≡ Unreadable.Types → (S : Sections) → sections_of s ≡ Ok S → types_right a.parts (tables_of s S) ≡ false → types_right b.parts (tables_of s S) ≡ true → (reading_within b s ≡ Err Unreadable.Types → ⊥) → Goes a b s e
  trees : e ≡ Unreadable.Nodes → (S : Sections) → types_right a.parts (tables_of s S) ≡ true → reading_within b s ≡ Ok S → Goes a b s e

module _ (a b : Limits) (w : Within a b) (s : List ℕ) (refusal : Unreadable) (e : reading_within a s ≡ Err refusal) where
  cut : (m : Unreadable) → sections_of s ≡ Err m → Goes a b s refusal
  unfolding reading_within
  cut m h =
      let first : reading_within a s ≡ Err m = rw h in
      let second : reading_within b s ≡ Err m = rw h in
      same (second ∙ sym first ∙ e)

  module _ (S : Sections) (h : sections_of s ≡ Ok S) where
    abbrev T : Tables
    T = tables_of s S

    -- what a and b say of types and trees, and both of the tables
    by_types : (x y : Bool) → types_right a.parts T ≡ x → types_right b.parts T ≡ y → Goes a b s refusal
    unfolding reading_within
    by_types false false ea eb =
        let first : reading_within a s ≡ Err Unreadable.Types = rw (h, ea) in
        let second : reading_within b s ≡ Err Unreadable.Types = rw (h, eb) in
        same (second ∙ sym first ∙ e)
    by_types false true ea eb =
        let first : reading_within a s ≡ Err Unreadable.Types = rw (h, ea) in
        types (let z = sym e ∙ first in cc) S h ea eb (not_three (tables_right T) (trees_right b.depth T) refl refl)
      where
        not_three : (u v : Bool) → tables_right T ≡ u → trees_right b.depth T ≡ v → reading_within b s ≡ Err Unreadable.Types → ⊥
        not_three false v eu ev z = let is : reading_within b s ≡ Err Unreadable.Tables = rw (h, eb, eu) in cc
        not_three true false eu ev z = let is : reading_within b s ≡ Err Unreadable.Nodes = rw (h, eb, eu, ev) in cc
        not_three true true eu ev z = let is : reading_within b s ≡ Ok S = rw (h, eb, eu, ev) in cc
    by_types true y ea eb = by_tables (tables_right T) (trees_right a.depth T) (trees_right b.depth T) refl refl refl
      where
        wide : types_right b.parts T ≡ true
        wide = types_wider a.parts b.parts T w.parts ea

        by_tables : (u v x : Bool) → tables_right T ≡ u → trees_right a.depth T ≡ v → trees_right b.depth T ≡ x → Goes a b s refusal
        by_tables false v x eu ev ex =
            let first : reading_within a s ≡ Err Unreadable.Tables = rw (h, ea, eu) in
            let second : reading_within b s ≡ Err Unreadable.Tables = rw (h, wide, eu) in
            same (second ∙ sym first ∙ e)
        by_tables true false false eu ev ex =
            let first : reading_within a s ≡ Err Unreadable.Nodes = rw (h, ea, eu, ev) in
            let second : reading_within b s ≡ Err Unreadable.Nodes = rw (h, wide, eu, ex) in
            same (second ∙ sym first ∙ e)
        by_tables true false true eu ev ex =
            let first : reading_within a s ≡ Err Unreadable.Nodes = rw (h, ea, eu, ev) in
            let second : reading_within b s ≡ Ok S = rw (h, wide, eu, ex) in
            trees (let z = sym e ∙ first in cc) S ea second
        by_tables true true x eu ev ex =
            let first : reading_within a s ≡ Ok S = rw (h, ea, eu, ev) in
            cc

  pub goes : Goes a b s refusal
  goes = go (sections_of s) refl
    where
      go : (r : Result Sections Unreadable) → sections_of s ≡ r → Goes a b s refusal
      go (Err m) h = cut m h
      go (Ok S) h = by_types S h _ _ refl refl
