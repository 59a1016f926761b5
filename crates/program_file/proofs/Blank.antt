-- Zero bytes (document 02, (v)): a reading depends on the bytes that are meant alone (`reading_meant`); with limits in range zero bytes are read,
-- as the blank file is (`blank_read`), for its program alone (`blank-program`), and one byte is refused under 1 (`one_byte`). Assumes nothing.
use mathlib.Core.Path.{◌≡◌, refl, ◌∙◌}
use mathlib.Core.Bool.{true}
use mathlib.Core.List.{List, [], ◌∷◌}
use Prim.Native.Nat.{ℕ}
use Rattle.oat.specs.ProgramFile.{Limits, in_range, Program, blank_tables, blank_program, or_else, meant, IsFile}
use Rattle.oat.proofs.LawsBlank.{meant_twice, blank_is_file}
use Rattle.std.specs.Prelude.{Ok, Err}
use Rattle.file_sections.specs.declared.Unreadable.{Unreadable}
use Rattle.file_sections.specs.Layout.{section_of, front_of, sections_of}
use Rattle.file_sections.proofs.LawsFile.{sections_for}
use Rattle.program_file.specs.Reading.{reading_within, reading_of}
use Rattle.program_file.proofs.LawsReading.{reading_in_range}
use Rattle.program_file.proofs.Theorem.{reading-of, one_program}

pub reading_meant : (limits : Limits) (s : List ℕ) → reading_of limits (meant s) ≡ reading_of limits s
unfolding reading_of
reading_meant limits s = rw (meant_twice s)

module _ (limits : Limits) (range : in_range limits ≡ true) where
  pub blank_read : reading_of limits [] ≡ Ok (sections_for blank_tables)
  blank_read = reading_in_range limits [] range ∙ (reading-of limits [] blank_program (blank_is_file limits range)).0

  pub blank-program : (p : Program) → IsFile limits [] p → p ≡ blank_program
  blank-program p f = one_program limits [] p blank_program f (blank_is_file limits range)

  pub one_byte : (b : ℕ) → reading_of limits (b ∷ []) ≡ Err Unreadable.Length
  unfolding or_else section_of front_of sections_of reading_within
  one_byte b = reading_in_range limits (b ∷ []) range ∙ refl
