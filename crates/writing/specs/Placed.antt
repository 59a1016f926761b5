-- A text in the middle of a buffer, for the contracts of functions that write it part by part. Assumes nothing.
use Rattle.std.specs.Prelude.{List, ◌++◌, ℕ, ◌+◌, length, take, drop}

-- the buffer with the text from `at` on
unfoldable pub placed : List ℕ → ℕ → List ℕ → List ℕ
placed out at text = take at out ++ text ++ drop (at + length text) out
