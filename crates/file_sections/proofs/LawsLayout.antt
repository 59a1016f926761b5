-- Laws of `specs/Layout.antt`: the ways through a section, the chain of the six, and what it says of a file that it accepts.
-- Assumes nothing.
use mathlib.Core.Path.{◌≡◌, refl, sym, ◌∙◌}
use mathlib.Core.Bool.{Bool, true, false}
use mathlib.Core.List.{List}
use Prim.Native.Nat.{ℕ, ◌+◌, ◌*◌, ◌≤◌}
use native.Mathlib.Omega.{arith}
use lib.ListN.{length}
use borrow.Author.Tests.{le-ltb, ltb-false}
use Rattle.std.specs.Prelude.{Result, Ok, Err}
use Rattle.oat.specs.Basics.{pick}
use Rattle.file_sections.specs.Numbers.{number_at}
use Rattle.file_sections.specs.Layout.{section_of, then_reading, front_sections, front_of, all_sections, sections_of}
use Rattle.file_sections.specs.declared.Sections.{Sections}
use Rattle.file_sections.specs.declared.Unreadable.{Unreadable}
use Rattle.file_sections.specs.declared.Unreadable.TheVariants.{Length, Count}
use Rattle.file_sections.specs.declared.layout.Section.{Section}

pub ok_is_no_err : {A : Type 0} {x : A} {e : Unreadable} → ◌≡◌ {A = Result A Unreadable} (Ok x) (Err e) → ⊥
ok_is_no_err h = let z : ◌≡◌ {A = ℕ} 0 1 = cc in omega arith

pub ok_same : {A : Type 0} {x y : A} → ◌≡◌ {A = Result A Unreadable} (Ok x) (Ok y) → x ≡ y
ok_same h = cc

-- what is read where reading goes on to its end
pub then_ok : {A B : Type 0} (r : Result A Unreadable) (k : A → Result B Unreadable) (y : B) → Ok y ≡ then_reading r k → (x : A) × (r ≡ Ok x) × (Ok y ≡ k x)
then_ok (Ok x) k y e = (x, refl, e)
then_ok (Err d) k y e = absurd (ok_is_no_err e)

-- a section that fits
pub counted : (s : List ℕ) (at most size n : ℕ) → at * 2 + 2 ≤ length s → n ≡ number_at s at → n ≤ most → (at + 1 + n * size) * 2 ≤ length s → Ok (record { count = n; next = at + 1 + n * size }) ≡ section_of s at most size
unfolding section_of
counted s at most size n h e k l = rw (← e, le-ltb _ _ h, le-ltb _ _ k, le-ltb _ _ l)

-- what a section that stands says
pub record Stood (s : List ℕ) (at most size : ℕ) (found : Section) : Type 0 where
  pub count : found.count ≡ number_at s at
  pub few : found.count ≤ most
  pub after : found.next ≡ at + 1 + found.count * size
  pub fits : found.next * 2 ≤ length s

-- the tests that a section passes
module _ {A : Type 0} (x : A) (e : Unreadable) where
  passes : (b : Bool) (r : Result A Unreadable) → Ok x ≡ pick b (Err e) r → (b ≡ false) × (Ok x ≡ r)
  passes true r h = absurd (ok_is_no_err h)
  passes false r h = (refl, h)

pub stood : (s : List ℕ) (at most size : ℕ) (found : Section) (r : Result Section Unreadable) → r ≡ section_of s at most size → r ≡ Ok found → Stood s at most size found
unfolding section_of
stood s at most size found r e f =
    let (_, h) = passes found Length _ _ (sym f ∙ e) in
    let (few, k) = passes found Count _ _ h in
    let (fits, l) = passes found Length _ _ k in
    let is : found ≡ record { count = number_at s at; next = at + 1 + number_at s at * size } = ok_same l in
    rw is (record { count = refl; few = ltb-false _ _ few; after = refl; fits = ltb-false _ _ fits })

-- the first three sections
pub front_good : (s : List ℕ) (types list fields : Section) → Ok types ≡ section_of s 0 512 4 → Ok list ≡ section_of s types.next 1024 1 → Ok fields ≡ section_of s list.next 1024 2 → Ok (front_sections types.count list.count types.next fields.count list.next fields.next) ≡ front_of s
unfolding front_of
front_good s types list fields a b c = rw (← a, ← b, ← c)

-- what three sections that stand say
pub record FrontStood (s : List ℕ) (S : Sections) : Type 0 where
  pub types : Section
  pub list : Section
  pub fields : Section
  pub first : Stood s 0 512 4 types
  pub second : Stood s types.next 1024 1 list
  pub third : Stood s list.next 1024 2 fields
  pub is : S ≡ front_sections types.count list.count types.next fields.count list.next fields.next

pub front_stood : (s : List ℕ) (r : Result Sections Unreadable) (S : Sections) → r ≡ front_of s → r ≡ Ok S → FrontStood s S
unfolding front_of
front_stood s r S e f =
    let (types, e1, k1) = then_ok (section_of s 0 512 4) _ S (sym f ∙ e) in
    let (list, e2, k2) = then_ok (section_of s types.next 1024 1) _ S k1 in
    let (fields, e3, k3) = then_ok (section_of s list.next 1024 2) _ S k2 in
    record {
      types = types;
      list = list;
      fields = fields;
      first = stood s 0 512 4 types _ refl e1;
      second = stood s types.next 1024 1 list _ refl e2;
      third = stood s list.next 1024 2 fields _ refl e3;
      is = ok_same k3;
    }

-- all six sections
pub sections_good : (s : List ℕ) (F : Sections) (structs built_ins nodes : Section) → Ok F ≡ front_of s → Ok structs ≡ section_of s F.structs_at 256 3 → Ok built_ins ≡ section_of s structs.next 128 2 → Ok nodes ≡ section_of s built_ins.next 4096 4 → length s ≡ nodes.next * 2 → Ok (all_sections F structs.count structs.next built_ins.count built_ins.next nodes.count) ≡ sections_of s
unfolding sections_of
sections_good s F structs built_ins nodes f a b c l = rw (← f, ← a, ← b, ← c) (grind arith)
