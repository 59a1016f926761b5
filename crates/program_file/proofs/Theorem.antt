-- With limits in range a file is read exactly when its bytes are a program file, and then they are the file of one program alone
-- (`readable`). Its tables are those that the readers of records give (`read_tables`). A refusal is under 1 to 5 (`refused_from_1_to_5`).
-- So the answer has demand 1 (`demand1`, `with_demand1`). Larger limits read what smaller ones read (`read_grows`). Assumes nothing.
use mathlib.Core.Path.{◌≡◌, refl, ap, sym, ◌∙◌, subst}
use mathlib.Core.Bool.{Bool, true, false, ◌&&◌}
use mathlib.Core.List.{List, [], ◌∷◌}
use mathlib.Core.Logic.{◌↔◌, ◌⊎◌, inl, inr}
use Prim.Native.Nat.{ℕ, zero, suc, ◌≤◌, ◌<◌}
use native.Mathlib.Omega.{arith}
use mir.Syntax.{w8}
use mir.Val.{Fits}
use lib.ListN.{length, get_or}
use lib.Dec.{ltb}
use borrow.Author.Tests.{ltb-true}
use Rattle.oat.specs.Basics.{pick}
use Rattle.oat.specs.Tables.{Tables, record_numbers, numbers_of, bytes_of, file_of}
use Rattle.oat.specs.TypeRules.{types_right}
use Rattle.oat.specs.TableRules.{tables_right}
use Rattle.oat.specs.Syntax.{Decl, size_decls}
use Rattle.oat.specs.Nodes.{DeclsStand}
use Rattle.oat.specs.ProgramFile.{Limits, in_range, Within, Program, blank_file, or_else, meant, Counts, IsFile}
use Rattle.oat.proofs.LawsBasics.{and_parts}
use Rattle.oat.proofs.LawsLimits.{in-range, types_wider, wider}
use Rattle.oat.proofs.LawsNodes.{same_trees}
use Rattle.file_sections.specs.declared.Sections.{Sections}
use Rattle.std.specs.Prelude.{Result, Ok, Err}
use Rattle.file_sections.specs.declared.Unreadable.{Unreadable}
use Rattle.file_sections.specs.Unreadable.{unreadable_number}
use Rattle.file_sections.specs.Layout.{Laid, GoodTables, section_of, then_reading, front_of, sections_of, tables_of}
use Rattle.file_sections.proofs.LawsFile.{all_stood, file_is, sections_for, file_accepted}
use Rattle.file_sections.proofs.LawsRecords.{types_long, list_long, fields_long, structs_long, built_ins_long, nodes_long}
use Rattle.node_tree.specs.Tree.{trees_right}
use Rattle.node_tree.proofs.Accepted.{trees_accepted}
use Rattle.node_tree.proofs.Found.{trees_found}
use Rattle.program_file.specs.Reading.{reading_within, reading_of, number_of, IsProgramFile, Reads, ReadsTables}
use Rattle.program_file.proofs.LawsReading.{low_reading, low_number, reading_in_range, reading_out_of_range, good_in_range}

-- the list holds bytes
pub record Bytes (s : List ℕ) : Type 0 where
  pub each : (i : ℕ) → get_or s i 0 < 256

-- a slice of bytes does
pub bytes-of : (s : List ℕ) → ((i : ℕ) → Fits w8 (get_or s i 0)) → Bytes s
bytes-of s h = record { each = λ i. omega (arith, h i) }

-- and so do the bytes that they mean
abbrev low_bytes : List ℕ → Bool
low_bytes [] = true
low_bytes (b ∷ s) = ltb b 256 && low_bytes s

low-bytes : (s : List ℕ) → low_bytes s ≡ true → (i : ℕ) → get_or s i 0 < 256
low-bytes [] e i = omega arith
low-bytes (b ∷ s) e zero = ltb-true b 256 (and_parts (ltb b 256) (low_bytes s) e).0
low-bytes (b ∷ s) e (suc i) = low-bytes s (and_parts (ltb b 256) (low_bytes s) e).1 i

pub meant_bytes : (s : List ℕ) → Bytes s → Bytes (meant s)
unfolding record_numbers numbers_of bytes_of or_else
meant_bytes [] b = record { each = low-bytes blank_file refl }
meant_bytes (x ∷ s) b = b

-- what an accepted reading says
pub record Accepted (limits : Limits) (s : List ℕ) (S : Sections) : Type 0 where
  pub sections : Ok S ≡ sections_of s
  pub types : types_right limits.parts (tables_of s S) ≡ true
  pub tables : tables_right (tables_of s S) ≡ true
  pub trees : trees_right limits.depth (tables_of s S) ≡ true

-- a test that was passed, or a refusal
passed : (b : Bool) (r : Result Sections Unreadable) (u : Unreadable) (S : Sections) → pick b r (Err u) ≡ Ok S → (b ≡ true) × (r ≡ Ok S)
passed true r u S e = (refl, e)
passed false r u S e = cc

then_good : (r : Result Sections Unreadable) (k : Sections → Result Sections Unreadable) (S : Sections) → then_reading r k ≡ Ok S → (F : Sections) × (r ≡ Ok F) × (k F ≡ Ok S)
then_good (Err u) k S e = cc
then_good (Ok F) k S e = (F, refl, e)

accepted_at : (limits : Limits) (s : List ℕ) (S F : Sections) → sections_of s ≡ Ok F → pick (types_right limits.parts (tables_of s F)) (pick (tables_right (tables_of s F)) (pick (trees_right limits.depth (tables_of s F)) (Ok F) (Err Unreadable.Nodes)) (Err Unreadable.Tables)) (Err Unreadable.Types) ≡ Ok S → Accepted limits s S
accepted_at limits s S F e k =
    let (a, k3) = passed (types_right limits.parts (tables_of s F)) (pick (tables_right (tables_of s F)) (pick (trees_right limits.depth (tables_of s F)) (Ok F) (Err Unreadable.Nodes)) (Err Unreadable.Tables)) Unreadable.Types S k in
    let (b, k4) = passed (tables_right (tables_of s F)) (pick (trees_right limits.depth (tables_of s F)) (Ok F) (Err Unreadable.Nodes)) Unreadable.Tables S k3 in
    let (c, k5) = passed (trees_right limits.depth (tables_of s F)) (Ok F) Unreadable.Nodes S k4 in
    let same : F ≡ S = cc in
    subst (Accepted limits s) same (record { sections = sym e; types = a; tables = b; trees = c })

pub accepted : (limits : Limits) (s : List ℕ) (S : Sections) → reading_within limits s ≡ Ok S → Accepted limits s S
unfolding reading_within
accepted limits s S e = let (F, f, k) = then_good (sections_of s) _ S e in accepted_at limits s S F f k

accepts : (limits : Limits) (s : List ℕ) (S : Sections) → Accepted limits s S → reading_within limits s ≡ Ok S
unfolding reading_within
accepts limits s S a = rw (← a.sections, a.types, a.tables, a.trees)

-- a file that was read has its sections laid and its tables right
pub within_tables : (limits : Limits) (s : List ℕ) (S : Sections) → limits.parts ≤ 200 → reading_within limits s ≡ Ok S → GoodTables s S
within_tables limits s S few e =
    let a = accepted limits s S e in
    record { laid = (all_stood s S a.sections).laid; types = types_wider limits.parts 200 (tables_of s S) few a.types; tables = a.tables }

pub good_tables : (limits : Limits) (s : List ℕ) (r : Result Sections Unreadable) (S : Sections) → r ≡ reading_of limits s → r ≡ Ok S → GoodTables (meant s) S
good_tables limits s r S e h =
    let (range, good) = good_in_range limits s S (sym e ∙ h) in
    within_tables limits (meant s) S (in-range limits range).parts good

counts : (s : List ℕ) (S : Sections) → Laid s S → Counts (tables_of s S)
counts s S l = record {
  types = rw types_long l.types_most;
  list = rw list_long l.list_most;
  fields = rw fields_long l.fields_most;
  structs = rw structs_long l.structs_most;
  built_ins = rw built_ins_long l.built_ins_most;
  nodes = rw nodes_long l.nodes_most;
}

-- an accepted file is the file of a program
pub program-of : (limits : Limits) (s : List ℕ) (S : Sections) → Bytes s → reading_within limits (meant s) ≡ Ok S → (p : Program) × IsFile limits s p
program-of limits s S b e =
    let a = accepted limits (meant s) S e in
    let w = all_stood (meant s) S a.sections in
    let (ds, stand, used, deep) = trees_found limits.depth (tables_of (meant s) S) a.trees in (
      record { tables = tables_of (meant s) S; declarations = ds },
      record {
        layout = file_is (meant s) S (meant_bytes s b).each w;
        counts = counts (meant s) S w.laid;
        types = a.types;
        tables = a.tables;
        stand = stand;
        used_up = used;
        deep = deep;
      },
    )

-- the file of a program is accepted, with the program's tables
pub reading-of : (limits : Limits) (s : List ℕ) (p : Program) → IsFile limits s p → (reading_within limits (meant s) ≡ Ok (sections_for p.tables)) × (tables_of (meant s) (sections_for p.tables) ≡ p.tables)
reading-of limits s p f =
    let T = p.tables in
    let (good, back) = file_accepted T f.counts in
    let trees = trees_accepted limits.depth T p.declarations f.stand f.used_up f.deep in
    let a : Accepted limits (file_of T) (sections_for T) =
    record { sections = good; types = rw back f.types; tables = rw back f.tables; trees = rw back trees } in
    subst (λ (z : List ℕ). (reading_within limits z ≡ Ok (sections_for T)) × (tables_of z (sections_for T) ≡ T)) (sym f.layout)
    (accepts limits (file_of T) (sections_for T) a, back)

-- the tables of a program are those that the readers of records give
pub read_tables : (limits : Limits) (s : List ℕ) (S : Sections) (p : Program) → reading_within limits (meant s) ≡ Ok S → IsFile limits s p → p.tables ≡ tables_of (meant s) S
read_tables limits s S p e f =
    let (good, back) = reading-of limits s p f in
    let same : sections_for p.tables ≡ S = cc in
    sym back ∙ ap (tables_of (meant s)) same

-- and bytes that are read are there, so they mean themselves
read_meant : (limits : Limits) (s : List ℕ) (S : Sections) → reading_within limits s ≡ Ok S → meant s ≡ s
unfolding or_else section_of front_of sections_of reading_within
read_meant limits [] S e = cc
read_meant limits (b ∷ s) S e = refl

pub tables_there : (limits : Limits) (s : List ℕ) (S : Sections) (p : Program) → reading_within limits s ≡ Ok S → IsFile limits s p → p.tables ≡ tables_of s S
tables_there limits s S p e f =
    let is = read_meant limits s S e in
    read_tables limits s S p (ap (reading_within limits) is ∙ e) f ∙ ap (λ x. tables_of x S) is

same_program : (p q : Program) → p.tables ≡ q.tables → p.declarations ≡ q.declarations → p ≡ q
same_program p q t d = λ i. record { tables = t i; declarations = d i }

same_declarations : (T U : Tables) (ds es : List Decl) → T ≡ U → DeclsStand T 0 ds → DeclsStand U 0 es → size_decls ds ≡ length T.nodes → size_decls es ≡ length U.nodes → ds ≡ es
same_declarations T U ds es e a b m n = same_trees U ds es (subst (λ (x : Tables). DeclsStand x 0 ds) e a) b (m ∙ ap (λ (x : Tables). length x.nodes) e) n

-- the bytes are the file of one program alone
pub one_program : (limits : Limits) (s : List ℕ) (p q : Program) → IsFile limits s p → IsFile limits s q → p ≡ q
one_program limits s p q f g =
    let tables : p.tables ≡ q.tables = read_tables limits s (sections_for q.tables) p (reading-of limits s q g).0 f ∙ (reading-of limits s q g).1 in
    same_program p q tables
    (same_declarations p.tables q.tables p.declarations q.declarations tables f.stand g.stand f.used_up g.used_up)

-- With limits in range a file is read exactly when its bytes are a program file, and then they are the file of one program alone.
pub readable : (limits : Limits) → in_range limits ≡ true → (s : List ℕ) → Bytes s → ((S : Sections) × (reading_of limits s ≡ Ok S)) ↔ ((p : Program) × IsFile limits s p × ((q : Program) → IsFile limits s q → q ≡ p))
readable limits range s b = (
  λ read.
      let (p, f) = program-of limits s read.0 b (good_in_range limits s read.0 read.1).1 in
      (p, f, λ q g. one_program limits s q p g f),
  λ file. (sections_for file.0.tables, reading_in_range limits s range ∙ (reading-of limits s file.0 file.1).0),
)

-- A file that is not read then is refused under 1 to 5.
pub refused_from_1_to_5 : (limits : Limits) → in_range limits ≡ true → (s : List ℕ) (u : Unreadable) → reading_of limits s ≡ Err u → (1 ≤ unreadable_number u) × (unreadable_number u ≤ 5)
refused_from_1_to_5 limits range s u e = low_number (low_reading limits (meant s)) (sym (reading_in_range limits s range) ∙ e)

-- and with limits in range or not, a refusal is under 25 or under 1 to 5
pub refused_numbers : (limits : Limits) (s : List ℕ) (u : Unreadable) → reading_of limits s ≡ Err u → (unreadable_number u ≡ 25) ⊎ ((1 ≤ unreadable_number u) × (unreadable_number u ≤ 5))
refused_numbers limits s u e = go (in_range limits) refl
  where
    go : (b : Bool) → in_range limits ≡ b → (unreadable_number u ≡ 25) ⊎ ((1 ≤ unreadable_number u) × (unreadable_number u ≤ 5))
    go true range = inr (refused_from_1_to_5 limits range s u e)
    go false out =
        let is = reading_out_of_range limits s out in
        let limit : u ≡ Unreadable.Limits = cc in
        inl (ap unreadable_number limit)

-- the file of a program is not refused
pub not_refused : (limits : Limits) → in_range limits ≡ true → (s : List ℕ) (u : Unreadable) → reading_of limits s ≡ Err u → (p : Program) → IsFile limits s p → ⊥
not_refused limits range s u e p f = let good = reading_in_range limits s range ∙ (reading-of limits s p f).0 in cc

-- Demand 1, of the number of a reading.
module _ (limits : Limits) (s : List ℕ) (b : Bytes s) where
  demand1_out : in_range limits ≡ false → Reads limits s 25
  demand1_out out = record {
    out_of_range = (λ z. out, λ z. refl);
    read = (λ z. absurd (omega (arith, z)), λ f. absurd (let range = f.0 in let z : ◌≡◌ {A = ℕ} 0 1 = cc in omega arith));
    refused = (λ l. absurd (omega (arith, l.1)), λ f. absurd (let range = f.0 in let z : ◌≡◌ {A = ℕ} 0 1 = cc in omega arith));
    one_program = one_program limits s;
  }

  demand1_in : in_range limits ≡ true → (r : Result Sections Unreadable) → reading_of limits s ≡ r → Reads limits s (number_of r)
  demand1_in range (Err u) e =
      let low = refused_from_1_to_5 limits range s u e in
      let none : IsProgramFile limits s → ⊥ = λ f. not_refused limits range s u e f.program f.file in
      record {
        out_of_range = (λ z. absurd (omega (arith, low.1)), λ out. absurd (let z : ◌≡◌ {A = ℕ} 0 1 = cc in omega arith));
        read = (λ z. absurd (omega (arith, low.0)), λ f. absurd (none f.1));
        refused = (λ l. (range, none), λ f. low);
        one_program = one_program limits s;
      }
  demand1_in range (Ok S) e =
      let (p, f) = program-of limits s S b (good_in_range limits s S e).1 in
      let file : IsProgramFile limits s = record { program = p; file = f } in
      record {
        out_of_range = (λ z. absurd (omega (arith, z)), λ out. absurd (let z : ◌≡◌ {A = ℕ} 0 1 = cc in omega arith));
        read = (λ z. (range, file), λ f. refl);
        refused = (λ l. absurd (omega (arith, l.0)), λ f. absurd (f.1 file));
        one_program = one_program limits s;
      }

  pub demand1 : (r : Result Sections Unreadable) → reading_of limits s ≡ r → Reads limits s (number_of r)
  demand1 r e = go (in_range limits) refl
    where
      go : (t : Bool) → in_range limits ≡ t → Reads limits s (number_of r)
      go true range = demand1_in range r e
      go false out = subst (λ x. Reads limits s (number_of x)) (sym (reading_out_of_range limits s out) ∙ e) (demand1_out out)

  -- and of an answer
  pub with_demand1 : (r : Result Sections Unreadable) → r ≡ reading_of limits s → (r ≡ reading_of limits s) × ReadsTables limits s r
  with_demand1 r e =
      (e, record { reads = demand1 r (sym e); tables = λ S h p f. read_tables limits s S p (good_in_range limits s S (sym e ∙ h)).1 f })

-- With larger limits in range a file that is read is read with the same sections.
pub read_grows : (a b : Limits) → in_range b ≡ true → Within a b → (s : List ℕ) → Bytes s → (S : Sections) → reading_of a s ≡ Ok S → reading_of b s ≡ Ok S
read_grows a b range w s y S e =
    let good = (good_in_range a s S e).1 in
    let (p, f) = program-of a s S y good in
    let same : sections_for p.tables ≡ S = let narrow = (reading-of a s p f).0 in cc in
    reading_in_range b s range ∙ (reading-of b s p (wider w f)).0 ∙ ap Ok same
