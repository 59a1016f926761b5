-- Document 01's numbers for bytes that cannot be read, and document 02's for a limit out of its range. Assumes nothing.
use Rattle.std.specs.Prelude.{ℕ}
use Rattle.file_sections.specs.declared.Unreadable.{Unreadable}
use Rattle.file_sections.specs.declared.Unreadable.TheVariants.{Length, Count, Types, Tables, Nodes, Limits}

abbrev pub unreadable_number : Unreadable → ℕ
unreadable_number Length = 1
unreadable_number Count = 2
unreadable_number Types = 3
unreadable_number Tables = 4
unreadable_number Nodes = 5
unreadable_number Limits = 25
