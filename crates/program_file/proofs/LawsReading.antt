-- The ways through a reading, the numbers that it refuses under, and 25 before them. Assumes nothing.
use mathlib.Core.Path.{◌≡◌, refl, ap, sym, ◌∙◌}
use mathlib.Core.Bool.{Bool, true, false, not}
use mathlib.Core.List.{List}
use Prim.Native.Nat.{ℕ, ◌+◌, ◌*◌, ◌≤◌}
use native.Mathlib.Omega.{arith}
use lib.ListN.{length}
use lib.Dec.{eqb, ltb}
use borrow.Author.Tests.{not-true, not-false}
use Rattle.oat.specs.Basics.{pick}
use Rattle.oat.specs.TypeRules.{types_right}
use Rattle.oat.specs.TableRules.{tables_right}
use Rattle.oat.specs.ProgramFile.{Limits, in_range, meant}
use Rattle.oat.proofs.LawsLimits.{in-range}
use Rattle.file_sections.specs.declared.Sections.{Sections}
use Rattle.std.specs.Prelude.{Result, Ok, Err}
use Rattle.file_sections.specs.declared.Unreadable.{Unreadable}
use Rattle.file_sections.specs.Unreadable.{unreadable_number}
use Rattle.file_sections.specs.Numbers.{number_at}
use Rattle.file_sections.specs.Layout.{Laid, section_of, then_reading, front_of, sections_of, tables_of}
use Rattle.file_sections.proofs.LawsFile.{all_stood}
use Rattle.node_tree.specs.Tree.{trees_right}
use Rattle.program_file.specs.Reading.{reading_within, reading_of, number_of, IsNumberOf}

-- the sections of a file that is read are laid
pub laid : (s : List ℕ) (S : Sections) → Ok S ≡ sections_of s → Laid s S
laid s S e = (all_stood s S e).laid

-- a refusal is under 1 to 5
pub data Low {A : Type 0} : Result A Unreadable → Type 0 where
  low_refused : {u : Unreadable} → 1 ≤ unreadable_number u → unreadable_number u ≤ 5 → Low (Err u)
  low_read : {x : A} → Low (Ok x)

picked : {A : Type 0} (b : Bool) (r : Result A Unreadable) (u : Unreadable) → 1 ≤ unreadable_number u → unreadable_number u ≤ 5 → Low r → Low (pick b r (Err u))
picked true r u h k l = l
picked false r u h k l = low_refused h k

unless : {A : Type 0} (b : Bool) (u : Unreadable) (r : Result A Unreadable) → 1 ≤ unreadable_number u → unreadable_number u ≤ 5 → Low r → Low (pick b (Err u) r)
unless true u r h k l = low_refused h k
unless false u r h k l = l

low_section : (s : List ℕ) (at most size : ℕ) → Low (section_of s at most size)
unfolding section_of
low_section s at most size =
    unless (ltb (length s) (at * 2 + 2)) _ _ (omega arith) (omega arith)
    (unless (ltb most (number_at s at)) _ _ (omega arith) (omega arith)
    (unless (ltb (length s) ((at + 1 + number_at s at * size) * 2)) _ _ (omega arith) (omega arith) low_read))

then-reading : {A B : Type 0} (r : Result A Unreadable) (k : A → Result B Unreadable) → Low r → ((x : A) → Low (k x)) → Low (then_reading r k)
then-reading _ _ (low_refused h k) f = low_refused h k
then-reading _ _ low_read f = f _

low_front : (s : List ℕ) → Low (front_of s)
unfolding front_of
low_front s =
    then-reading (section_of s 0 512 4) _ (low_section s _ _ _) λ types.
    then-reading (section_of s types.next 1024 1) _ (low_section s _ _ _) λ list.
    then-reading (section_of s list.next 1024 2) _ (low_section s _ _ _) λ fields. low_read

low_sections : (s : List ℕ) → Low (sections_of s)
unfolding sections_of
low_sections s =
    then-reading (front_of s) _ (low_front s) λ F.
    then-reading (section_of s F.structs_at 256 3) _ (low_section s _ _ _) λ structs.
    then-reading (section_of s structs.next 128 2) _ (low_section s _ _ _) λ built_ins.
    then-reading (section_of s built_ins.next 4096 4) _ (low_section s _ _ _) λ nodes.
    picked (eqb (length s) (nodes.next * 2)) _ _ (omega arith) (omega arith) low_read

pub low_reading : (limits : Limits) (s : List ℕ) → Low (reading_within limits s)
unfolding reading_within
low_reading limits s =
    then-reading (sections_of s) _ (low_sections s) λ S.
    picked (types_right limits.parts (tables_of s S)) _ _ (omega arith) (omega arith)
    (picked (tables_right (tables_of s S)) _ _ (omega arith) (omega arith)
    (picked (trees_right limits.depth (tables_of s S)) _ _ (omega arith) (omega arith) low_read))

pub low_number : {A : Type 0} {r : Result A Unreadable} {u : Unreadable} → Low r → r ≡ Err u → (1 ≤ unreadable_number u) × (unreadable_number u ≤ 5)
low_number {u = u} (low_refused {u = v} h k) e =
    let same : v ≡ u = cc in
    let number : unreadable_number v ≡ unreadable_number u = ap unreadable_number same in
    (omega arith, omega arith)
low_number low_read e = cc

-- 25 comes before everything else
module _ (limits : Limits) (s : List ℕ) where
  pub reading_out_of_range : in_range limits ≡ false → reading_of limits s ≡ Err Unreadable.Limits
  unfolding reading_of
  reading_out_of_range e = rw e

  pub reading_in_range : in_range limits ≡ true → reading_of limits s ≡ reading_within limits (meant s)
  unfolding reading_of
  reading_in_range e = rw e

  -- a file that is read is read within limits in range
  pub good_in_range : (S : Sections) → reading_of limits s ≡ Ok S → (in_range limits ≡ true) × (reading_within limits (meant s) ≡ Ok S)
  good_in_range S e = go (in_range limits) refl
    where
      go : (b : Bool) → in_range limits ≡ b → (in_range limits ≡ true) × (reading_within limits (meant s) ≡ Ok S)
      go true r = (r, sym (reading_in_range r) ∙ e)
      go false r = let out = reading_out_of_range r in cc

-- the tests of the limits
pub parts_few : (l : Limits) (b : Bool) → b ≡ in_range l → not b ≡ false → l.parts ≤ 200
parts_few l b e h = (in-range l (sym e ∙ not-false b h)).parts

module _ (l : Limits) (s : List ℕ) (b : Bool) (e : b ≡ in_range l) where
  pub tested_out : not b ≡ true → Err Unreadable.Limits ≡ reading_of l s
  tested_out h = sym (reading_out_of_range l s (sym e ∙ not-true b h))

  pub tested_in : (t : List ℕ) (r : Result Sections Unreadable) → not b ≡ false → t ≡ meant s → r ≡ reading_within l t → r ≡ reading_of l s
  tested_in t r h is c = c ∙ ap (reading_within l) is ∙ sym (reading_in_range l s (sym e ∙ not-false b h))

-- the number of an answer of `read`
pub number_told : {r : Result Sections Unreadable} {n : ℕ} → IsNumberOf (λ u n. n ≡ unreadable_number u) r n → n ≡ number_of r
number_told {r = Ok S} h = h.read S refl
number_told {r = Err u} h = h.refused u refl
