-- `words::number_in` meets its contract: the bytes from the place on, after the number so far, say what the word says. Assumes nothing.
use mathlib.Core.Path.{◌≡◌}
use Prim.Native.Nat.{◌≤◌}
use lib.ListN.{drop}
use Rattle.oat_console.specs.Numbers.{number_after, number_in}
use Rattle.oat_console.proofs.words.number_in.Given as goal

abbrev pub invariant-loop-byte : goal.invariant-loop-byte
invariant-loop-byte l = (l.number ≤ 65536) × (number_after l.number (drop l.byte-index l.word) ≡ number_in l.word)
