-- Document 01, 'The program file': every number is 16 bits, low byte first. Assumes nothing.
use Rattle.std.specs.Prelude.{List, ℕ, ◌+◌, ◌*◌, get_or}

-- the number i of a file
unfoldable pub number_at : List ℕ → ℕ → ℕ
number_at s i = get_or s (i * 2) 0 + 256 * get_or s (i * 2 + 1) 0
