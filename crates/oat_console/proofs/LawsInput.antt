-- The sections of a file that was read are laid in the bytes that it means. Assumes nothing.
use Rattle.std.proofs.Common.{Result, Ok}
use mathlib.Core.Path.{◌≡◌, sym, subst}
use mathlib.Core.List.{List}
use Prim.Native.Nat.{ℕ}
use Rattle.oat.specs.ProgramFile.{Limits, blank_file, or_else}
use Rattle.oat.proofs.LawsBlank.{these_meant}
use Rattle.file_sections.specs.declared.Sections.{Sections}
use Rattle.file_sections.specs.declared.Unreadable.{Unreadable}
use Rattle.file_sections.specs.Layout.{Laid}
use Rattle.program_file.specs.Reading.{reading_of}
use Rattle.program_file.proofs.Theorem.{good_tables}

module _ (limits : Limits) (s t u : List ℕ) (r : Result Sections Unreadable) (S : Sections) where
  pub laid : r ≡ reading_of limits s → r ≡ Ok S → u ≡ blank_file → t ≡ or_else u s → Laid t S
  laid e good blank is = subst (λ (x : List ℕ). Laid x S) (sym (these_meant s u is blank)) (good_tables limits s r S e good).laid
