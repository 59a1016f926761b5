-- A file that was read: its program, and its declarations one after another. Assumes nothing.
use Rattle.std.specs.Prelude.{◌≡◌, true, List, ◌++◌, ℕ, Ok}
use Rattle.oat.specs.Syntax.{Decl, size_decls}
use Rattle.oat.specs.Nodes.{DeclsStand}
use Rattle.oat.specs.ProgramFile.{Limits, in_range, widest, Program, meant, IsFile}
use Rattle.file_sections.specs.declared.Sections.{Sections}
use Rattle.file_sections.specs.Layout.{tables_of}
use Rattle.program_file.specs.Reading.{reading_within}

-- what a file that is read under some limits gives: limits in range, its program, and the same under the widest limits, of the bytes that are meant
pub record Opened (l : Limits) (F : List ℕ) (S : Sections) : Type 0 where
  pub range : in_range l ≡ true
  pub program : Program
  pub file : IsFile l F program
  pub wide : IsFile widest (meant F) program
  pub reads : reading_within widest (meant F) ≡ Ok S

-- the declarations of the file
pub record Declares (F : List ℕ) (S : Sections) (ds : List Decl) : Type 0 where
  pub stand : DeclsStand (tables_of F S) 0 ds
  pub used_up : size_decls ds ≡ S.nodes

-- a walk over the declarations: those before `node` are done, and these are left
pub record Passed (ds : List Decl) (node : ℕ) : Type 0 where
  pub done : List Decl
  pub left : List Decl
  pub split : ds ≡ done ++ left
  pub here : node ≡ size_decls done
