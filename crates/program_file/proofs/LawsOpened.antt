-- A file that was read: its program, the tables of its sections, and its declarations one after another. Assumes nothing.
use mathlib.Core.Path.{◌≡◌, refl, ap, sym, subst, ◌∙◌}
use mathlib.Core.List.{List, [], ◌∷◌, ◌++◌, append_assoc, append-nil}
use Prim.Native.Nat.{ℕ, ◌+◌, ◌≤◌, ◌<◌}
use native.Mathlib.Omega.{arith}
use lib.ListN.{length}
use Rattle.oat.specs.Tables.{Tables}
use Rattle.oat.specs.Syntax.{Decl, global, function, size_decl, size_decls}
use Rattle.oat.specs.Nodes.{DeclStands, DeclsStand}
use Rattle.oat.specs.ProgramFile.{Limits, widest, Program, IsFile}
use Rattle.oat.proofs.LawsBlank.{meant_is_file}
use Rattle.oat.proofs.LawsLimits.{widest_in_range, within_widest, wider}
use Rattle.file_sections.specs.declared.Sections.{Sections}
use Rattle.std.specs.Prelude.{Ok}
use Rattle.file_sections.specs.Layout.{tables_of}
use Rattle.file_sections.proofs.LawsRecords.{nodes_long}
use Rattle.program_file.specs.Reading.{reading_within, reading_of}
use Rattle.program_file.specs.Opened.{Opened, Declares, Passed}
use Rattle.program_file.proofs.LawsReading.{reading_in_range, good_in_range}
use Rattle.program_file.proofs.Theorem.{Bytes, program-of, tables_there, read_grows}

pub opened : (l : Limits) (F : List ℕ) (S : Sections) → Bytes F → reading_of l F ≡ Ok S → Opened l F S
opened l F S b e =
    let (range, good) = good_in_range l F S e in
    let (p, f) = program-of l F S b good in
    record {
      range = range;
      program = p;
      file = f;
      wide = meant_is_file F (wider (within_widest l range) f);
      reads = sym (reading_in_range widest F widest_in_range) ∙ read_grows l widest widest_in_range (within_widest l range) F b S e;
    }

-- its program, and its sections
module _ {F : List ℕ} {S : Sections} (p : Program) (f : IsFile widest F p) (e : reading_within widest F ≡ Ok S) where
  pub tables_are : p.tables ≡ tables_of F S
  tables_are = tables_there widest F S p e f

  pub nodes_are : length p.tables.nodes ≡ S.nodes
  nodes_are = ap (λ T. length T.nodes) tables_are ∙ nodes_long F S

  pub declares : Declares F S p.declarations
  declares = record { stand = subst (λ T. DeclsStand T 0 p.declarations) tables_are f.stand; used_up = f.used_up ∙ nodes_are }

-- lists of declarations
pub sizes_append : (xs ys : List Decl) → size_decls (xs ++ ys) ≡ size_decls xs + size_decls ys
sizes_append [] ys = omega arith
sizes_append (d ∷ xs) ys = omega (arith, sizes_append xs ys)

pub decl_some : (d : Decl) → 1 ≤ size_decl d
decl_some (global x a) = omega arith
decl_some (function x t ps b) = omega arith

pub decls_some : (ds : List Decl) → length ds ≤ size_decls ds
decls_some [] = omega arith
decls_some (d ∷ ds) = omega (arith, decl_some d, decls_some ds)

-- those that stand after others
stand_after : (T : Tables) (n : ℕ) (xs ys : List Decl) → DeclsStand T n (xs ++ ys) → DeclsStand T (n + size_decls xs) ys
stand_after T n [] ys h = subst (λ m. DeclsStand T m ys) (omega arith) h
stand_after T n (d ∷ xs) ys h = subst (λ m. DeclsStand T m ys) (omega arith) (stand_after T (n + size_decl d) xs ys h.1)

-- a walk over them: its start, the next one, and the end
abbrev pub passed_none : (ds : List Decl) → Passed ds 0
passed_none ds = record { done = []; left = ds; split = refl; here = refl }

module _ {F : List ℕ} {S : Sections} {ds : List Decl} {node : ℕ} (D : Declares F S ds) (r : Passed ds node) where
  left_stands : DeclsStand (tables_of F S) node r.left
  left_stands =
      subst (λ m. DeclsStand (tables_of F S) m r.left) (omega (arith, r.here))
      (stand_after (tables_of F S) 0 r.done r.left (subst (DeclsStand (tables_of F S) 0) r.split D.stand))

  pub left_size : node + size_decls r.left ≡ S.nodes
  left_size = omega (arith, r.here, D.used_up, ap size_decls r.split, sizes_append r.done r.left)

  pub next_decl : {P : Type 0} → node < S.nodes → ((d : Decl) (ys : List Decl) → r.left ≡ d ∷ ys → DeclStands (tables_of F S) node d → P) → P
  next_decl {P} h f = go r.left refl left_stands left_size
    where
      go : (l : List Decl) → r.left ≡ l → DeclsStand (tables_of F S) node l → node + size_decls l ≡ S.nodes → P
      go [] e s z = absurd (omega arith)
      go (d ∷ ys) e s z = f d ys e s.0

  pub none_left : S.nodes ≤ node → r.left ≡ []
  none_left h = go r.left left_size
    where
      go : (l : List Decl) → node + size_decls l ≡ S.nodes → l ≡ []
      go [] z = refl
      go (d ∷ ys) z = absurd (omega (arith, decl_some d))

  pub all_done : S.nodes ≤ node → r.done ≡ ds
  all_done h = sym (r.split ∙ ap (λ l. r.done ++ l) (none_left h) ∙ append-nil r.done)

abbrev pub passed_more : {ds : List Decl} {node n : ℕ} (r : Passed ds node) (d : Decl) (ys : List Decl) → r.left ≡ d ∷ ys → n ≡ node + size_decl d → Passed ds n
passed_more r d ys e at = record {
  done = r.done ++ (d ∷ []);
  left = ys;
  split = r.split ∙ ap (λ l. r.done ++ l) e ∙ sym (append_assoc r.done (d ∷ []) ys);
  here = at ∙ omega (arith, r.here, sizes_append r.done (d ∷ []));
}
