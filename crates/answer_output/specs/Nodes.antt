-- How many nodes a reading found. Assumes nothing.
use Rattle.std.specs.Prelude.{ℕ, Result, Ok, Err}
use Rattle.file_sections.specs.declared.Sections.{Sections}
use Rattle.file_sections.specs.declared.Unreadable.{Unreadable}

abbrev pub nodes_of : Result Sections Unreadable → ℕ
nodes_of (Ok S) = S.nodes
nodes_of (Err unreadable) = 0
