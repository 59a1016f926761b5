-- The records of the sections: how many there are. Assumes nothing.
use mathlib.Core.Path.{◌≡◌}
use mathlib.Core.List.{List}
use Prim.Native.Nat.{ℕ}
use lib.ListN.{length}
use Rattle.oat.proofs.LawsBasics.{tabulate_long}
use Rattle.file_sections.specs.declared.Sections.{Sections}
use Rattle.file_sections.specs.Layout.{records_at, tables_of}

pub records_long : {A : Type 0} (from : (ℕ → ℕ) → A) (size : ℕ) (s : List ℕ) (at count : ℕ) → length (records_at from size s at count) ≡ count
unfolding records_at
records_long from size s at count = tabulate_long _ _

module _ (s : List ℕ) (S : Sections) where
  pub types_long : length (tables_of s S).types ≡ S.types
  unfolding tables_of
  types_long = records_long _ _ _ _ _

  pub list_long : length (tables_of s S).list ≡ S.list
  unfolding tables_of
  list_long = records_long _ _ _ _ _

  pub fields_long : length (tables_of s S).fields ≡ S.fields
  unfolding tables_of
  fields_long = records_long _ _ _ _ _

  pub structs_long : length (tables_of s S).structs ≡ S.structs
  unfolding tables_of
  structs_long = records_long _ _ _ _ _

  pub built_ins_long : length (tables_of s S).built_ins ≡ S.built_ins
  unfolding tables_of
  built_ins_long = records_long _ _ _ _ _

  pub nodes_long : length (tables_of s S).nodes ≡ S.nodes
  unfolding tables_of
  nodes_long = records_long _ _ _ _ _
