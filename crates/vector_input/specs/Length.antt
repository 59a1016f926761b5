-- A number of four bytes, low byte first, and the length of a packed file. Assumes nothing.
use Rattle.std.specs.Prelude.{List, ℕ, ◌+◌, ◌*◌, min, get_or}

abbrev pub number_of : List ℕ → ℕ
number_of s = get_or s 0 0 + 256 * get_or s 1 0 + 65536 * get_or s 2 0 + 16777216 * get_or s 3 0

-- 65,536 where the bytes say that or more
abbrev pub length_of : List ℕ → ℕ
length_of s = min 65536 (number_of s)
