-- Frames of lists of numbers: nothing has changed, one change after another, and runs of numbers that stand in a list. Assumes nothing.
use mathlib.Core.Path.{◌≡◌, refl, ap, subst, ◌∙◌}
use mathlib.Core.List.{List, [], ◌∷◌, ◌++◌}
use Prim.Native.Nat.{ℕ, zero, suc, ◌+◌, ◌≤◌, ◌<◌}
use native.Mathlib.Nat.{zero-add}
use native.Mathlib.Omega.{arith}
use lib.ListN.{length, get_or, take, drop, length-append, length-drop, get_or-append}
use lib.Seq.{length-take-le, get_or-append-add, get_or-take, get_or-drop, ext_get_or}
use Rattle.file_sections.specs.Frames.{Same, Kept, ListAt}

-- a list that is kept below a number
pub same_less : (a b : ℕ) {l m : List ℕ} → a ≤ b → Same b l m → Same a l m
same_less a b h s = record { at = λ i k. s.at i (omega arith) }

pub same_trans : (a b : ℕ) {l m n : List ℕ} → a ≤ b → Same a l m → Same b m n → Same a l n
same_trans a b h s t = record { at = λ i k. t.at i (omega arith) ∙ s.at i k }

pub same_refl : (a : ℕ) (l : List ℕ) → Same a l l
same_refl a l = record { at = λ i k. refl }

pub same_more : {k : ℕ} {l m o : List ℕ} → Same k l m → Same k m o → Same k l o
same_more a b = record { at = λ i h. b.at i h ∙ a.at i h }

-- a list that is kept outside of a part
pub kept_none : (a b : ℕ) (l : List ℕ) → Kept a b l l
kept_none a b l = record { before = λ i h. refl; after = λ i h. refl }

-- runs of numbers
pub list_none : (R : List ℕ) (i : ℕ) → ListAt R i []
list_none R i = record { at = λ j h. absurd (omega arith) }

pub list_from : (R : List ℕ) (i k : ℕ) (l : List ℕ) → i ≡ k → ListAt R i l → ListAt R k l
list_from R i k l e h = subst (λ m. ListAt R m l) e h

-- a number, then others
pub list_more : (R : List ℕ) (i a : ℕ) (l : List ℕ) → get_or R i 0 ≡ a → ListAt R (i + 1) l → ListAt R i (a ∷ l)
list_more R i a l e h = record { at = go }
  where
    go : (j : ℕ) → j < length (a ∷ l) → get_or R (i + j) 0 ≡ get_or (a ∷ l) j 0
    go zero g = let z : i + 0 ≡ i = omega arith in ap (λ k. get_or R k 0) z ∙ e
    go (suc j) g = let z : i + suc j ≡ i + 1 + j = omega arith in ap (λ k. get_or R k 0) z ∙ h.at j (omega arith)

pub list_rest : (R : List ℕ) (i a : ℕ) (l : List ℕ) → ListAt R i (a ∷ l) → ListAt R (i + 1) l
list_rest R i a l h = record { at = λ j g. let z : i + 1 + j ≡ i + suc j = omega arith in ap (λ k. get_or R k 0) z ∙ h.at (suc j) (omega arith) }

pub list_first : (R : List ℕ) (i a : ℕ) (l : List ℕ) → ListAt R i (a ∷ l) → get_or R i 0 ≡ a
list_first R i a l h = let z : i ≡ i + 0 = omega arith in ap (λ k. get_or R k 0) z ∙ h.at 0 (omega arith)

-- a row, then others
pub list_row : (R : List ℕ) (i a b : ℕ) (l : List ℕ) → get_or R i 0 ≡ a → get_or R (i + 1) 0 ≡ b → ListAt R (i + 2) l → ListAt R i (a ∷ b ∷ l)
list_row R i a b l e f h = list_more R i a (b ∷ l) e (list_more R (i + 1) b l f (list_from R (i + 2) (i + 1 + 1) l (omega arith) h))

-- one run after another
pub list_append : (R : List ℕ) (i : ℕ) (l m : List ℕ) → ListAt R i l → ListAt R (i + length l) m → ListAt R i (l ++ m)
list_append R i [] m h g = list_from R (i + 0) i m (omega arith) g
list_append R i (a ∷ l) m h g =
    list_more R i a (l ++ m) (list_first R i a l h)
    (list_append R (i + 1) l m (list_rest R i a l h) (list_from R (i + suc (length l)) (i + 1 + length l) m (omega arith) g))

-- the first of two runs, and the second
pub list_left : (R : List ℕ) (i : ℕ) (l m : List ℕ) → ListAt R i (l ++ m) → ListAt R i l
list_left R i l m h = record { at = λ j g. h.at j (omega (arith, g, length-append l m)) ∙ get_or-append l m 0 j g }

pub list_right : (R : List ℕ) (i : ℕ) (l m : List ℕ) → ListAt R i (l ++ m) → ListAt R (i + length l) m
list_right R i l m h = record {
  at = λ j g.
      let z : i + length l + j ≡ i + (length l + j) = omega arith in
      ap (λ k. get_or R k 0) z ∙ h.at (length l + j) (omega (arith, g, length-append l m)) ∙ get_or-append-add l m j 0;
}

-- a run at the front of a list, and a run taken out of one
pub list_front : (l m : List ℕ) → ListAt (l ++ m) 0 l
list_front l m = record { at = λ j g. ap (λ k. get_or (l ++ m) k 0) (zero-add j) ∙ get_or-append l m 0 j g }

pub list_taken : (R : List ℕ) (i : ℕ) (l : List ℕ) → i + length l ≤ length R → ListAt R i l → take (length l) (drop i R) ≡ l
list_taken R i l r h =
    let long : length (take (length l) (drop i R)) ≡ length l = length-take-le (length l) (drop i R) (omega (arith, r, length-drop i R)) in
    ext_get_or 0 (take (length l) (drop i R)) l long
    (λ j g. get_or-take (length l) (drop i R) j 0 (omega (arith, g, long)) ∙ get_or-drop i R j 0 ∙ h.at j (omega (arith, g, long)))

-- numbers that have not changed
pub list_kept : (R R' : List ℕ) (i : ℕ) (l : List ℕ) → ((j : ℕ) → i ≤ j → j < i + length l → get_or R' j 0 ≡ get_or R j 0) → ListAt R i l → ListAt R' i l
list_kept R R' i l f h = record { at = λ j g. f (i + j) (omega arith) (omega arith) ∙ h.at j g }
