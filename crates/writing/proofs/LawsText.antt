-- A text put in the place of as many bytes. Assumes nothing.
use Rattle.std.proofs.Common.{append_assoc}
use mathlib.Core.Path.{◌≡◌, ap, sym, ◌∙◌}
use mathlib.Core.List.{List, ◌++◌}
use Prim.Native.Nat.{ℕ, ◌+◌, ◌-◌}
use native.Mathlib.Omega.{arith}
use lib.ListN.{length, take, drop}
use lib.Seq.{drop-drop}
use borrow.Rule.Slice.PartMut.{put_mid}
use Rattle.writing.specs.Placed.{placed}

pub text_put : (out text new : List ℕ) (at end : ℕ) → end ≡ at + length text → new ≡ text → put_mid at (end - at) out new ≡ placed out at text
unfolding placed
text_put out text new at end l e =
    let width : end - at ≡ length text = omega (arith, l) in
    rw e (ap (λ r. take at out ++ (text ++ r)) (ap (λ k. drop k (drop at out)) width ∙ drop-drop (length text) at out) ∙ sym (append_assoc (take at out) text (drop (at + length text) out)))
