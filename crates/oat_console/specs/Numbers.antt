-- The number that a word of digits says, for the words of a command. Assumes nothing.
use Rattle.std.specs.Prelude.{Bool, ◌&&◌, List, [], ◌∷◌, ℕ, ◌+◌, ◌*◌, ◌-◌, min, leb, Option, Some, None}
use Rattle.oat.specs.Basics.{pick}

-- a byte from `0` to `9`
unfoldable pub is_digit : ℕ → Bool
is_digit c = leb 48 c && leb c 57

-- a number and a digit after it; 65,536 where that is as much or more
unfoldable pub with_digit : ℕ → ℕ → ℕ
with_digit n c = min 65536 (10 * n + (c - 48))

-- the number that the digits of a word say after n
unfoldable pub number_after : ℕ → List ℕ → Option ℕ
number_after n [] = Some n
number_after n (c ∷ s) = pick (is_digit c) (number_after (with_digit n c) s) None

-- a word without bytes says none
unfoldable pub number_in : List ℕ → Option ℕ
number_in [] = None
number_in (c ∷ s) = number_after 0 (c ∷ s)
