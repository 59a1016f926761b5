-- Document 02, (i), as its theorems say it of refusals, by the text of a program alone: where a refusal under 14 may be. Assumes nothing.
use Rattle.std.specs.Prelude.{◌≡◌, false, ◌⊎◌, ℕ, ◌+◌, length}
use Rattle.oat.specs.Marks.{block_returns, block_marks, SomeMark, ReturnsEarly}
use Rattle.typing_rules.specs.Steps.{Step, struct_name, built_in, heading, global_value, struct_fields, body}

-- at a function whose body may go on, or at a statement that returns and is not the last of its block, or is a for's step
unfoldable pub FourteenAt : Step → ℕ → Type 0
FourteenAt (struct_name i) q = ⊥
FourteenAt (built_in i) q = ⊥
FourteenAt (heading n x t) q = ⊥
FourteenAt (global_value n x a) q = ⊥
FourteenAt (struct_fields i) q = ⊥
FourteenAt (body n t ps b) q = ((q ≡ n) × (block_returns b ≡ false)) ⊎ SomeMark (ReturnsEarly q) (block_marks b (n + 1 + length ps))
