-- A file's bytes and its sections: the bytes that `sections_of` accepts are those of its tables, and the bytes of tables that are
-- within their counts are accepted, with these tables. Assumes nothing.
use mathlib.Core.Path.{◌≡◌, refl, ap, ap₂, sym, ◌∙◌, fun_ext, subst}
use mathlib.Core.Bool.{Bool, true, false}
use mathlib.Core.List.{List, [], ◌∷◌, ◌++◌, append_assoc, append-nil}
use Prim.Native.Nat.{ℕ, zero, suc, ◌+◌, ◌*◌, ◌/◌, ◌%◌, ◌≤◌, ◌<◌}
use native.Mathlib.Nat.{add-zero, zero-add, suc-mul, zero-mul, add_comm}
use native.Mathlib.Numerals.{add-one, unary_clauses}
use native.Mathlib.Omega.{arith}
use lib.ListN.{length, get_or, drop, length-append, drop_of_length-le}
use lib.Seq.{drop-cons, get_or-append-add}
use borrow.Author.Rules.{rules}
use borrow.Author.Tests.{tests}
use Rattle.std.specs.Prelude.{Ok, Err}
use Rattle.oat.specs.Basics.{pick, tabulate}
use Rattle.oat.specs.Tables.{Tables, type_numbers, entry_numbers, field_numbers, struct_numbers, built_in_numbers, node_numbers, record_numbers, section_numbers, numbers_of, bytes_of, file_of}
use Rattle.oat.specs.ProgramFile.{Counts}
use Rattle.oat.proofs.LawsBasics.{tabulate_long}
use Rattle.file_sections.specs.Numbers.{number_at}
use Rattle.file_sections.specs.Layout.{section_of, front_sections, front_of, all_sections, sections_of, Laid, type_from, entry_from, field_from, struct_from, built_in_from, node_from, records_at, tables_of}
use Rattle.file_sections.specs.declared.Sections.{Sections}
use Rattle.file_sections.specs.declared.Unreadable.{Unreadable}
use Rattle.file_sections.specs.declared.Unreadable.TheVariants.{Length}
use Rattle.file_sections.specs.declared.layout.Section.{Section}
use Rattle.file_sections.proofs.LawsLayout.{ok_same, then_ok, Stood, stood, FrontStood, front_stood, ok_is_no_err, counted, front_good, sections_good}

-- f at n numbers from p on
run : (ℕ → ℕ) → ℕ → ℕ → List ℕ
run f p zero = []
run f p (suc n) = f p ∷ run f (suc p) n

run_join : (f : ℕ → ℕ) (p n m : ℕ) → run f p n ++ run f (p + n) m ≡ run f p (n + m)
unfolding run
run_join f p zero m = rw (add-zero, zero-add)
run_join f p (suc n) m =
    let e : p + suc n ≡ suc p + n = omega arith in
    let g : suc n + m ≡ suc (n + m) = omega arith in
    rw (e, g) (ap (λ l. f p ∷ l) (run_join f (suc p) n m))

tabulate_same : {A : Type 0} (n : ℕ) (f g : ℕ → A) → ((i : ℕ) → f i ≡ g i) → tabulate n f ≡ tabulate n g
tabulate_same n f g h = ap (tabulate n) (fun_ext h)

-- the numbers of records that were read from p on are the numbers from p on
module _ {A : Type 0} (from : (ℕ → ℕ) → A) (numbers : A → List ℕ) (size : ℕ) (f : ℕ → ℕ) where
  -- the record i of those that begin at p
  item : ℕ → ℕ → A
  item p i = from (λ j. f (p + i * size + j))

  item_first : (p : ℕ) → item p 0 ≡ from (λ j. f (p + j))
  unfolding item
  item_first p = ap from (fun_ext λ j. ap f (rw (zero-mul, add-zero)))

  item_next : (p i : ℕ) → item p (suc i) ≡ item (p + size) i
  unfolding item
  item_next p i = ap from (fun_ext λ j. ap f (rw suc-mul (omega arith)))

  records_run : ((p : ℕ) → numbers (from (λ j. f (p + j))) ≡ run f p size) → (p n : ℕ) → record_numbers numbers (tabulate n (item p)) ≡ run f p (n * size)
  unfolding record_numbers tabulate run
  records_run h p zero = rw zero-mul
  records_run h p (suc n) =
      rw (item_first p, h p, tabulate_same n _ _ (item_next p), records_run h (p + size) n, run_join, suc-mul, add_comm (n * size) size)

low : (a b : ℕ) → a < 256 → (a + 256 * b) % 256 ≡ a
low a b h = omega arith

high : (a b : ℕ) → a < 256 → (a + 256 * b) / 256 ≡ b
high a b h = omega arith

-- the numbers of a file that was read
module _ (s : List ℕ) where
  type_run : (p : ℕ) → type_numbers (type_from (λ j. number_at s (p + j))) ≡ run (number_at s) p 4
  unfolding run
  type_run p = simp unary_clauses

  entry_run : (p : ℕ) → entry_numbers (entry_from (λ j. number_at s (p + j))) ≡ run (number_at s) p 1
  unfolding run
  entry_run p = simp unary_clauses

  field_run : (p : ℕ) → field_numbers (field_from (λ j. number_at s (p + j))) ≡ run (number_at s) p 2
  unfolding run
  field_run p = simp unary_clauses

  struct_run : (p : ℕ) → struct_numbers (struct_from (λ j. number_at s (p + j))) ≡ run (number_at s) p 3
  unfolding run
  struct_run p = simp unary_clauses

  built_in_run : (p : ℕ) → built_in_numbers (built_in_from (λ j. number_at s (p + j))) ≡ run (number_at s) p 2
  unfolding run
  built_in_run p = simp unary_clauses

  node_run : (p : ℕ) → node_numbers (node_from (λ j. number_at s (p + j))) ≡ run (number_at s) p 4
  unfolding run
  node_run p = simp unary_clauses

  -- its bytes, from the number p on
  bytes_run : ((i : ℕ) → get_or s i 0 < 256) → (p n : ℕ) → length s ≡ (p + n) * 2 → bytes_of (run (number_at s) p n) ≡ drop (p * 2) s
  unfolding run bytes_of number_at
  bytes_run b p zero h = sym (drop_of_length-le s {i = p * 2} (omega arith))
  bytes_run b p (suc n) h =
      let first = drop-cons s (p * 2) 0 (omega arith) in
      let second = drop-cons s (suc (p * 2)) 0 (omega arith) in
      let rest = bytes_run b (suc p) n (omega arith) in
      let at : suc (p * 2) ≡ p * 2 + 1 = omega arith in
      let after : suc p * 2 ≡ suc (suc (p * 2)) = omega arith in
      rw (first, second, rest, low _ _ (b (p * 2)), high _ _ (b (p * 2)), after, at)

-- the section at p, whose records begin at p + 1, is a run
section_run : {A : Type 0} (from : (ℕ → ℕ) → A) (numbers : A → List ℕ) (size : ℕ) (s : List ℕ) (p n : ℕ) → ((q : ℕ) → numbers (from (λ j. number_at s (q + j))) ≡ run (number_at s) q size) → number_at s p ≡ n → section_numbers numbers (records_at from size s (p + 1) n) ≡ run (number_at s) p (1 + n * size)
unfolding records_at run item
section_run from numbers size s p n h e =
    let long = tabulate_long n (item from numbers size (number_at s) (p + 1)) in
    let rest = records_run from numbers size (number_at s) h (p + 1) n in
    let more : 1 + n * size ≡ suc (n * size) = omega arith in
    rw (more, ← add-one p) (ap₂ ◌∷◌ (long ∙ sym e) rest)

moved : (s : List ℕ) (p q n : ℕ) → number_at s p ≡ n → q ≡ p → number_at s q ≡ n
moved s p q n e h = ap (number_at s) h ∙ e

-- what six sections that stand say
pub record AllStood (s : List ℕ) (S : Sections) : Type 0 where
  pub laid : Laid s S
  pub types : number_at s 0 ≡ S.types
  pub list : number_at s (S.types * 4 + 1) ≡ S.list
  pub fields : number_at s (S.list_at + S.list) ≡ S.fields
  pub structs : number_at s (S.fields_at + S.fields * 2) ≡ S.structs
  pub built-ins : number_at s (S.structs_at + S.structs * 3) ≡ S.built_ins
  pub nodes : number_at s (S.built_ins_at + S.built_ins * 2) ≡ S.nodes

all_laid : (s : List ℕ) (F : Sections) (structs built_ins nodes : Section) → FrontStood s F → Stood s F.structs_at 256 3 structs → Stood s structs.next 128 2 built_ins → Stood s built_ins.next 4096 4 nodes → length s ≡ nodes.next * 2 → AllStood s (all_sections F structs.count structs.next built_ins.count built_ins.next nodes.count)
all_laid s F structs built_ins nodes f d e g w =
    let list_at : F.list_at ≡ f.types.next + 1 = rw f.is refl in
    let fields_at : F.fields_at ≡ f.list.next + 1 = rw f.is refl in
    record {
      laid = record {
        list_at = rw f.is (omega (arith, f.first));
        fields_at = rw f.is (omega (arith, f.second));
        structs_at = rw f.is (omega (arith, f.third));
        built_ins_at = omega (arith, d);
        nodes_at = omega (arith, e);
        end = omega (arith, g, w);
        types_most = rw f.is f.first.few;
        list_most = rw f.is f.second.few;
        fields_most = rw f.is f.third.few;
        structs_most = d.few;
        built_ins_most = e.few;
        nodes_most = g.few;
      };
      types = rw f.is (sym f.first.count);
      list = rw f.is (moved s _ _ _ (sym f.second.count) (omega (arith, f.first)));
      fields = rw f.is (moved s _ _ _ (sym f.third.count) (omega (arith, f.second)));
      structs = moved s _ _ _ (sym d.count) (rw f.is (omega (arith, f.third)));
      built-ins = moved s _ _ _ (sym e.count) (omega (arith, d));
      nodes = moved s _ _ _ (sym g.count) (omega (arith, e));
    }

-- the last test
last_passes : {A : Type 0} (b : Bool) (x y : A) (e : Unreadable) → Ok x ≡ pick b (Ok y) (Err e) → (b ≡ true) × (x ≡ y)
last_passes true x y e h = (refl, ok_same h)
last_passes false x y e h = absurd (ok_is_no_err h)

pub all_stood : (s : List ℕ) (S : Sections) → Ok S ≡ sections_of s → AllStood s S
unfolding sections_of
all_stood s S e =
    let (F, ef, kf) = then_ok (front_of s) _ S e in
    let (structs, ea, ka) = then_ok (section_of s F.structs_at 256 3) _ S kf in
    let (built_ins, eb, kb) = then_ok (section_of s structs.next 128 2) _ S ka in
    let (nodes, ec, kc) = then_ok (section_of s built_ins.next 4096 4) _ S kb in
    let (passed, is) = last_passes _ S (all_sections F structs.count structs.next built_ins.count built_ins.next nodes.count) Length kc in
    let w : length s ≡ nodes.next * 2 = search (passed, rules, tests) in
    subst (AllStood s) (sym is)
    (all_laid s F structs built_ins nodes
    (front_stood s _ F refl ef)
    (stood s _ 256 3 structs _ refl ea)
    (stood s structs.next 128 2 built_ins _ refl eb)
    (stood s built_ins.next 4096 4 nodes _ refl ec)
    w)

-- one run after another
chain : (f : ℕ → ℕ) (p n q m : ℕ) (A B : List ℕ) → q ≡ p + n → A ≡ run f p n → B ≡ run f q m → A ++ B ≡ run f p (n + m)
chain f p n q m A B e a b = rw (a, b, e) (run_join f p n m)

-- the numbers of the sections, in one run
laid_run : (s : List ℕ) (n1 n2 n3 n4 n5 n6 p2 p3 p4 p5 p6 : ℕ) → p2 ≡ 0 + (1 + n1 * 4) → p3 ≡ p2 + (1 + n2 * 1) → p4 ≡ p3 + (1 + n3 * 2) → p5 ≡ p4 + (1 + n4 * 3) → p6 ≡ p5 + (1 + n5 * 2) → number_at s 0 ≡ n1 → number_at s p2 ≡ n2 → number_at s p3 ≡ n3 → number_at s p4 ≡ n4 → number_at s p5 ≡ n5 → number_at s p6 ≡ n6 → section_numbers type_numbers (records_at type_from 4 s (0 + 1) n1) ++ (section_numbers entry_numbers (records_at entry_from 1 s (p2 + 1) n2) ++ (section_numbers field_numbers (records_at field_from 2 s (p3 + 1) n3) ++ (section_numbers struct_numbers (records_at struct_from 3 s (p4 + 1) n4) ++ (section_numbers built_in_numbers (records_at built_in_from 2 s (p5 + 1) n5) ++ section_numbers node_numbers (records_at node_from 4 s (p6 + 1) n6))))) ≡ run (number_at s) 0 (p6 + (1 + n6 * 4))
laid_run s n1 n2 n3 n4 n5 n6 p2 p3 p4 p5 p6 h2 h3 h4 h5 h6 e1 e2 e3 e4 e5 e6 =
    let f = number_at s in
    let all : (1 + n1 * 4) + ((1 + n2 * 1) + ((1 + n3 * 2) + ((1 + n4 * 3) + ((1 + n5 * 2) + (1 + n6 * 4))))) ≡ p6 + (1 + n6 * 4) = omega arith in
    chain f 0 (1 + n1 * 4) p2 _ _ _ h2 (section_run type_from type_numbers 4 s 0 n1 (type_run s) e1)
    (chain f p2 (1 + n2 * 1) p3 _ _ _ h3 (section_run entry_from entry_numbers 1 s p2 n2 (entry_run s) e2)
    (chain f p3 (1 + n3 * 2) p4 _ _ _ h4 (section_run field_from field_numbers 2 s p3 n3 (field_run s) e3)
    (chain f p4 (1 + n4 * 3) p5 _ _ _ h5 (section_run struct_from struct_numbers 3 s p4 n4 (struct_run s) e4)
    (chain f p5 (1 + n5 * 2) p6 _ _ _ h6 (section_run built_in_from built_in_numbers 2 s p5 n5 (built_in_run s) e5)
    (section_run node_from node_numbers 4 s p6 n6 (node_run s) e6)))))
    ∙ ap (run f 0) all

-- the bytes of an accepted file are those of its tables
pub file_is : (s : List ℕ) (S : Sections) → ((i : ℕ) → get_or s i 0 < 256) → AllStood s S → s ≡ file_of (tables_of s S)
unfolding numbers_of tables_of
file_is s S b a =
    let l = a.laid in
    let p2 = S.types * 4 + 1 in
    let p3 = S.list_at + S.list in
    let p4 = S.fields_at + S.fields * 2 in
    let p5 = S.structs_at + S.structs * 3 in
    let p6 = S.built_ins_at + S.built_ins * 2 in
    let r2 : p2 + 1 ≡ S.list_at = omega arith in
    let r3 : p3 + 1 ≡ S.fields_at = omega arith in
    let r4 : p4 + 1 ≡ S.structs_at = omega arith in
    let r5 : p5 + 1 ≡ S.built_ins_at = omega arith in
    let r6 : p6 + 1 ≡ S.nodes_at = omega arith in
    let one = laid_run s S.types S.list S.fields S.structs S.built_ins S.nodes p2 p3 p4 p5 p6 (omega arith) (omega arith) (omega arith) (omega arith) (omega arith) a.types a.list a.fields a.structs a.built-ins a.nodes in
    let bytes = bytes_run s b 0 (p6 + (1 + S.nodes * 4)) (omega arith) in
    sym (ap bytes_of (rw (r2, r3, r4, r5, r6) at one) ∙ bytes)

-- the numbers in the bytes of numbers are these numbers
number_of : (ns : List ℕ) (i : ℕ) → number_at (bytes_of ns) i ≡ get_or ns i 0
unfolding number_at bytes_of
number_of [] i = refl
number_of (n ∷ ns) zero = omega arith
number_of (n ∷ ns) (suc i) =
    let even : suc i * 2 ≡ suc (suc (i * 2)) = omega arith in
    let odd : suc i * 2 + 1 ≡ suc (suc (i * 2 + 1)) = omega arith in
    rw (odd, even) (number_of ns i)

bytes_long : (ns : List ℕ) → length (bytes_of ns) ≡ length ns * 2
unfolding bytes_of
bytes_long [] = refl
bytes_long (n ∷ ns) = omega (arith, bytes_long ns)

-- the list stands in f from p on, with zeros after it
record From (f : ℕ → ℕ) (p : ℕ) (l : List ℕ) : Type 0 where
  at : (j : ℕ) → f (p + j) ≡ get_or l j 0

from_head : {f : ℕ → ℕ} {p x : ℕ} {l : List ℕ} → From f p (x ∷ l) → f p ≡ x
from_head {f} {p} h = rw add-zero at (h.at 0)

from_skip : {f : ℕ → ℕ} {p : ℕ} (A B : List ℕ) (k q : ℕ) → From f p (A ++ B) → length A ≡ k → q ≡ p + k → From f q B
from_skip {f} {p} A B k q h e g = record {
  at = λ j.
      let place : q + j ≡ p + (length A + j) = omega arith in
      ap f place ∙ h.at (length A + j) ∙ get_or-append-add A B j 0;
}

-- records are read back from their numbers
module _ {A : Type 0} (from : (ℕ → ℕ) → A) (numbers : A → List ℕ) (size : ℕ) (long : (r : A) → length (numbers r) ≡ size) (back : (r : A) (X : List ℕ) → from (λ j. get_or (numbers r ++ X) j 0) ≡ r) where
  numbers_long : (rs : List A) → length (record_numbers numbers rs) ≡ length rs * size
  unfolding record_numbers
  numbers_long [] = rw zero-mul
  numbers_long (r ∷ rs) = rw (length-append, long r, numbers_long rs, suc-mul, add_comm size (length rs * size))

  section_long : (rs : List A) → length (section_numbers numbers rs) ≡ 1 + length rs * size
  section_long rs = omega (arith, numbers_long rs)

  records_back : (f : ℕ → ℕ) (p : ℕ) (rs : List A) (X : List ℕ) → From f p (record_numbers numbers rs ++ X) → tabulate (length rs) (item from numbers size f p) ≡ rs
  unfolding record_numbers tabulate
  records_back f p [] X h = refl
  records_back f p (r ∷ rs) X h =
      let g : From f p (numbers r ++ (record_numbers numbers rs ++ X)) = rw append_assoc at h in
      let first = item_first from numbers size f p ∙ ap from (fun_ext g.at) ∙ back r (record_numbers numbers rs ++ X) in
      let next = records_back f (p + size) rs X (from_skip (numbers r) _ size (p + size) g (long r) refl) in
      ap₂ ◌∷◌ first (tabulate_same (length rs) _ _ (item_next from numbers size f p) ∙ next)

  -- a section that stands at p: its count, its records, and what comes after it
  record Stored (f : ℕ → ℕ) (p : ℕ) (rs : List A) (q : ℕ) (X : List ℕ) : Type 0 where
    count : length rs ≡ f p
    records : tabulate (length rs) (item from numbers size f (p + 1)) ≡ rs
    after : From f q X

  section_back : (f : ℕ → ℕ) (p q : ℕ) (rs : List A) (X : List ℕ) → q ≡ p + (1 + length rs * size) → From f p (section_numbers numbers rs ++ X) → Stored f p rs q X
  section_back f p q rs X e h = record {
    count = sym (from_head h);
    records = records_back f (p + 1) rs X (from_skip (length rs ∷ []) (record_numbers numbers rs ++ X) 1 (p + 1) h refl refl);
    after = from_skip (section_numbers numbers rs) X (1 + length rs * size) q h (section_long rs) e;
  }

-- one section is accepted
accepted : (s : List ℕ) (at most size n next : ℕ) → n ≡ number_at s at → n ≤ most → next ≡ at + (1 + n * size) → next * 2 ≤ length s → Ok (record { count = n; next = next }) ≡ section_of s at most size
accepted s at most size n next e h k l =
    let same : at + (1 + n * size) ≡ at + 1 + n * size = omega arith in
    rw (k, same) (counted s at most size n (omega arith) e h (rw (← same, ← k) l))

-- where the sections of these tables stand
unfoldable pub sections_for : Tables → Sections
sections_for T =
    let list = 0 + (1 + length T.types * 4) in
    let fields = list + (1 + length T.list * 1) in
    let structs = fields + (1 + length T.fields * 2) in
    let built_ins = structs + (1 + length T.structs * 3) in
    let nodes = built_ins + (1 + length T.built_ins * 2) in
    all_sections
    (front_sections (length T.types) (length T.list) list (length T.fields) fields structs)
    (length T.structs)
    built_ins
    (length T.built_ins)
    nodes
    (length T.nodes)

-- a section that stands at p
record Found {A : Type 0} (from : (ℕ → ℕ) → A) (size : ℕ) (s : List ℕ) (p : ℕ) (rs : List A) : Type 0 where
  count : length rs ≡ number_at s p
  records : records_at from size s (p + 1) (length rs) ≡ rs

found : {A : Type 0} (from : (ℕ → ℕ) → A) (numbers : A → List ℕ) (size : ℕ) → ((r : A) → length (numbers r) ≡ size) → ((r : A) (X : List ℕ) → from (λ j. get_or (numbers r ++ X) j 0) ≡ r) → (s : List ℕ) (p q : ℕ) (rs : List A) (X : List ℕ) → q ≡ p + (1 + length rs * size) → From (number_at s) p (section_numbers numbers rs ++ X) → Found from size s p rs × From (number_at s) q X
unfolding records_at item
found from numbers size long back s p q rs X e h =
    let d = section_back from numbers size long back (number_at s) p q rs X e h in
    (record { count = d.count; records = d.records }, d.after)

-- all six stand, each where it should
record AllFound (s : List ℕ) (T : Tables) (list fields structs built_ins nodes : ℕ) : Type 0 where
  types : Found type_from 4 s 0 T.types
  entries : Found entry_from 1 s list T.list
  members : Found field_from 2 s fields T.fields
  records : Found struct_from 3 s structs T.structs
  given : Found built_in_from 2 s built_ins T.built_ins
  tree : Found node_from 4 s nodes T.nodes
  list_at : list ≡ 0 + (1 + length T.types * 4)
  fields_at : fields ≡ list + (1 + length T.list * 1)
  structs_at : structs ≡ fields + (1 + length T.fields * 2)
  built_ins-at : built_ins ≡ structs + (1 + length T.structs * 3)
  nodes_at : nodes ≡ built_ins + (1 + length T.built_ins * 2)

all_found : (s : List ℕ) (T : Tables) (list fields structs built_ins nodes : ℕ) → list ≡ 0 + (1 + length T.types * 4) → fields ≡ list + (1 + length T.list * 1) → structs ≡ fields + (1 + length T.fields * 2) → built_ins ≡ structs + (1 + length T.structs * 3) → nodes ≡ built_ins + (1 + length T.built_ins * 2) → From (number_at s) 0 (numbers_of T) → AllFound s T list fields structs built_ins nodes
unfolding numbers_of
all_found s T list fields structs built_ins nodes h2 h3 h4 h5 h6 h =
    let (d1, a1) = found type_from type_numbers 4 (λ r. refl) (λ r X. refl) s 0 list T.types _ h2 h in
    let (d2, a2) = found entry_from entry_numbers 1 (λ r. refl) (λ r X. refl) s list fields T.list _ h3 a1 in
    let (d3, a3) = found field_from field_numbers 2 (λ r. refl) (λ r X. refl) s fields structs T.fields _ h4 a2 in
    let (d4, a4) = found struct_from struct_numbers 3 (λ r. refl) (λ r X. refl) s structs built_ins T.structs _ h5 a3 in
    let (d5, a5) = found built_in_from built_in_numbers 2 (λ r. refl) (λ r X. refl) s built_ins nodes T.built_ins _ h6 a4 in
    let last : From (number_at s) nodes (section_numbers node_numbers T.nodes ++ []) = rw (append-nil (section_numbers node_numbers T.nodes)) a5 in
    let (d6, a6) = found node_from node_numbers 4 (λ r. refl) (λ r X. refl) s nodes _ T.nodes [] refl last in
    record { types = d1; entries = d2; members = d3; records = d4; given = d5; tree = d6; list_at = h2; fields_at = h3; structs_at = h4; built_ins-at = h5; nodes_at = h6 }

module _ (s : List ℕ) (T : Tables) (list fields structs built_ins nodes : ℕ) (a : AllFound s T list fields structs built_ins nodes) where
  -- they are read back
  six_back : tables_of s (all_sections (front_sections (length T.types) (length T.list) list (length T.fields) fields structs) (length T.structs) built_ins (length T.built_ins) nodes (length T.nodes)) ≡ T
  unfolding tables_of
  six_back = λ i. record {
    types = a.types.records i;
    list = a.entries.records i;
    fields = a.members.records i;
    structs = a.records.records i;
    built_ins = a.given.records i;
    nodes = a.tree.records i;
  }

  -- and accepted
  six_accepted : Counts T → length s ≡ (nodes + (1 + length T.nodes * 4)) * 2 → Ok (all_sections (front_sections (length T.types) (length T.list) list (length T.fields) fields structs) (length T.structs) built_ins (length T.built_ins) nodes (length T.nodes)) ≡ sections_of s
  six_accepted c w =
      sections_good s _ _ _ _
      (front_good s _ _ _
      (accepted s 0 512 4 _ list a.types.count c.types a.list_at (omega arith))
      (accepted s list 1024 1 _ fields a.entries.count c.list a.fields_at (omega arith))
      (accepted s fields 1024 2 _ structs a.members.count c.fields a.structs_at (omega arith)))
      (accepted s structs 256 3 _ built_ins a.records.count c.structs a.built_ins-at (omega arith))
      (accepted s built_ins 128 2 _ nodes a.given.count c.built_ins a.nodes_at (omega arith))
      (accepted s nodes 4096 4 _ (nodes + (1 + length T.nodes * 4)) a.tree.count c.nodes refl (omega arith))
      w

file_long : (T : Tables) → length (numbers_of T) ≡ (1 + length T.types * 4) + ((1 + length T.list * 1) + ((1 + length T.fields * 2) + ((1 + length T.structs * 3) + ((1 + length T.built_ins * 2) + (1 + length T.nodes * 4)))))
unfolding numbers_of
file_long T =
    simp length-append
    (omega (
      arith,
      numbers_long type_from type_numbers 4 (λ r. refl) (λ r X. refl) T.types,
      numbers_long entry_from entry_numbers 1 (λ r. refl) (λ r X. refl) T.list,
      numbers_long field_from field_numbers 2 (λ r. refl) (λ r X. refl) T.fields,
      numbers_long struct_from struct_numbers 3 (λ r. refl) (λ r X. refl) T.structs,
      numbers_long built_in_from built_in_numbers 2 (λ r. refl) (λ r X. refl) T.built_ins,
      numbers_long node_from node_numbers 4 (λ r. refl) (λ r X. refl) T.nodes,
    ))

-- the bytes of tables within their counts are accepted, and these tables are read back
pub file_accepted : (T : Tables) → Counts T → (Ok (sections_for T) ≡ sections_of (file_of T)) × (tables_of (file_of T) (sections_for T) ≡ T)
unfolding sections_for
file_accepted T c =
    let a = all_found (file_of T) T _ _ _ _ _ refl refl refl refl refl (record { at = λ j. ap (number_at (file_of T)) (zero-add j) ∙ number_of (numbers_of T) j }) in
    let long : length (file_of T) ≡ (0 + (1 + length T.types * 4) + (1 + length T.list * 1) + (1 + length T.fields * 2) + (1 + length T.structs * 3) + (1 + length T.built_ins * 2) + (1 + length T.nodes * 4)) * 2 = omega (arith, bytes_long (numbers_of T), file_long T) in
    (six_accepted (file_of T) T _ _ _ _ _ a c long, six_back (file_of T) T _ _ _ _ _ a)
