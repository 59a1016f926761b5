-- Laws of a text that is put into a buffer: byte by byte from either end, one text after another, and at the front. Assumes nothing.
use mathlib.Core.Path.{◌≡◌, ap, ap₂, sym, ◌∙◌}
use mathlib.Core.List.{List, [], ◌∷◌, ◌++◌, append_assoc, append-nil}
use Prim.Native.Nat.{ℕ, suc, ◌+◌, ◌≤◌, ◌<◌}
use native.Mathlib.Nat.{zero-add, add-zero}
use native.Mathlib.Numerals.{add-one}
use native.Mathlib.Omega.{arith}
use lib.ListN.{length, take, drop, set, length-append, length-drop, take-append-drop}
use lib.Seq.{length-take-le, take_at, drop-append-add, drop-drop, drop-cons, append_snoc, set_split, take-set-le, drop-set-add}
use Rattle.writing.specs.Placed.{placed}

module _ (out : List ℕ) (at : ℕ) where
  pub placed_none : out ≡ placed out at []
  unfolding placed
  placed_none = sym (rw (add-zero at, append-nil (take at out)) (take-append-drop at out))

  pub placed_one : (v : ℕ) → at < length out → set out at v ≡ placed out at (v ∷ [])
  unfolding placed
  placed_one v h = set_split out at v h ∙ rw (add-one at) (sym (append_snoc (take at out) v (drop (suc at) out)))

  -- the text with what stands before it
  head_length : (s : List ℕ) → at + length s ≤ length out → length (take at out ++ s) ≡ at + length s
  head_length s h = simp (length-append, length-take-le at out (omega arith))

  pub placed_length : (s : List ℕ) → at + length s ≤ length out → length (placed out at s) ≡ length out
  unfolding placed
  placed_length s h =
      let e = head_length s h in
      simp (length-append (take at out ++ s), length-drop) (omega arith)

  -- a text after another
  pub placed_more : (s t : List ℕ) → at + length s + length t ≤ length out → placed (placed out at s) (at + length s) t ≡ placed out at (s ++ t)
  unfolding placed
  placed_more s t h =
      let e = head_length s (omega arith) in
      ap
      (λ l. l ++ t ++ drop (at + length s + length t) (take at out ++ s ++ drop (at + length s) out))
      (take_at (take at out ++ s) (drop (at + length s) out) (at + length s) e)
      ∙ ap (λ l. take at out ++ s ++ t ++ l) (rest e)
      ∙ ap (λ l. l ++ drop (at + length (s ++ t)) out) (append_assoc (take at out) s t)
    where
      grouped : (a b c : ℕ) → a + (b + c) ≡ a + b + c
      grouped a b c = omega arith

      rest : length (take at out ++ s) ≡ at + length s → drop (at + length s + length t) (take at out ++ s ++ drop (at + length s) out) ≡ drop (at + length (s ++ t)) out
      rest e =
          ap (λ k. drop (k + length t) (take at out ++ s ++ drop (at + length s) out)) (sym e)
          ∙ drop-append-add (take at out ++ s) (drop (at + length s) out) (length t)
          ∙ drop-drop (length t) (at + length s) out
          ∙ ap (λ k. drop k out) (sym (ap (λ k. at + k) (length-append s t) ∙ grouped at (length s) (length t)))

  -- the last byte first
  pub placed_last : (s : List ℕ) (v : ℕ) → at + length s < length out → placed (set out (at + length s) v) at s ≡ placed out at (s ++ (v ∷ []))
  unfolding placed
  placed_last s v h =
      ap (λ l. l ++ s ++ drop (at + length s) (set out (at + length s) v)) (take-set-le at out (at + length s) v (omega arith))
      ∙ ap (λ l. take at out ++ s ++ l) (stored (at + length s) h)
      ∙ sym (append_snoc (take at out ++ s) v (drop (suc (at + length s)) out))
      ∙ ap (λ l. l ++ drop (suc (at + length s)) out) (append_assoc (take at out) s (v ∷ []))
      ∙ ap (λ k. take at out ++ (s ++ (v ∷ [])) ++ drop k out) (next at (length s) ∙ ap (λ k. at + k) (sym (length-append s (v ∷ []))))
    where
      next : (a b : ℕ) → suc (a + b) ≡ a + (b + 1)
      next a b = omega arith

      stored : (k : ℕ) → k < length out → drop k (set out k v) ≡ v ∷ drop (suc k) out
      stored k l =
          ap (λ j. drop k (set out j v)) (sym (add-zero k))
          ∙ drop-set-add k out 0 v
          ∙ ap (λ r. set r 0 v) (drop-cons out k 0 l)

-- a text written after another, and a byte after a text
module _ (out : List ℕ) (at : ℕ) {out₁ : List ℕ} {next : ℕ} (s : List ℕ) (e : out₁ ≡ placed out at s) (n : next ≡ at + length s) where
  pub placed_then : {out₂ : List ℕ} (t : List ℕ) → at + length s + length t ≤ length out → out₂ ≡ placed out₁ next t → out₂ ≡ placed out at (s ++ t)
  placed_then t h f = f ∙ ap₂ (λ l i. placed l i t) e n ∙ placed_more out at s t h

  pub placed_snoc : (v : ℕ) → at + length s < length out → set out₁ next v ≡ placed out at (s ++ (v ∷ []))
  placed_snoc v h =
      let long = placed_length out at s (omega arith) in
      placed_then (v ∷ []) (omega arith) (placed_one out₁ next v (omega (arith, ap length e, long)))

pub placed_front : (out text : List ℕ) → placed out 0 text ≡ text ++ drop (length text) out
unfolding placed
placed_front out text = ap (λ k. text ++ drop k out) (zero-add (length text))
