-- Limits that grow (document 02, (xi)): an acceptance, a 6 and a typing refusal stay under larger limits, with the same rows (`grow`),
-- acceptances and typing refusals also in other buffers (`grow_anywhere`); and an outcome that moves is a refusal under 3 or 5 by the
-- smaller limits alone (`moves`). Assumes nothing.
use mathlib.Core.Path.{◌≡◌, refl, ap, sym, ◌∙◌}
use mathlib.Core.Bool.{Bool, true, false}
use mathlib.Core.List.{List}
use mathlib.Core.Logic.{inl, inr, ⊎_elim}
use Prim.Native.Nat.{ℕ, ◌≤◌, ◌<◌}
use native.Mathlib.Omega.{arith}
use lib.ListN.{length, take, drop}
use lib.Dec.{leb}
use lib.Seq.{take_at}
use borrow.Author.Tests.{leb-true, leb-false}
use Rattle.oat.specs.TypeRules.{types_right}
use Rattle.oat.specs.Syntax.{depth_decls}
use Rattle.oat.specs.ProgramFile.{Limits, in_range, Within, Program, meant, IsFile}
use Rattle.oat.proofs.LawsLimits.{within_widest, more_parts, wider}
use Rattle.file_sections.specs.declared.Sections.{Sections}
use Rattle.std.specs.Prelude.{Ok, Err}
use Rattle.file_sections.specs.declared.Unreadable.{Unreadable}
use Rattle.file_sections.specs.Unreadable.{unreadable_number}
use Rattle.file_sections.specs.Layout.{tables_of}
use Rattle.program_file.specs.Reading.{reading_within, reading_of}
use Rattle.program_file.proofs.LawsReading.{reading_in_range}
use Rattle.program_file.proofs.LawsGrowth.{Goes, same, types, trees, goes}
use Rattle.program_file.proofs.Theorem.{Bytes, program-of, reading-of, read_tables, refused_numbers}
use Rattle.typing_rules.specs.Check.{check_of}
use Rattle.demand3.specs.CheckFile.{needed, Outcome, outcome, Checks, unreadable, rows_short, work_short, checked}
use Rattle.demand3.specs.Growth.{Lasting, SameAnswer, Deeper, Moves, stays, by_parts, by_depth}
use Rattle.demand3.proofs.Theorem.{fits, check_numbers, check_long, unread, one_outcome}

-- 3 is the number of broken rules on types alone
three_is : (n : Unreadable) → unreadable_number n ≡ 3 → n ≡ Unreadable.Types
three_is Unreadable.Types e = refl
three_is Unreadable.Length e = absurd (omega (arith, e))
three_is Unreadable.Count e = absurd (omega (arith, e))
three_is Unreadable.Tables e = absurd (omega (arith, e))
three_is Unreadable.Nodes e = absurd (omega (arith, e))
three_is Unreadable.Limits e = absurd (omega (arith, e))

-- 25 and 1 to 5 do not last
not_lasting : (limits : Limits) (s : List ℕ) (n : Unreadable) → reading_of limits s ≡ Err n → Lasting (unreadable_number n) → ⊥
not_lasting limits s n e k =
    ⊎_elim
    (λ out. ⊎_elim (λ z. omega (arith, z)) (λ h. omega (arith, h.1)) k)
    (λ low. ⊎_elim (λ z. omega (arith, z, low.0)) (λ h. omega (arith, h.0, low.1)) k)
    (refused_numbers limits s n e)

module _ (a b : Limits) (range : in_range b ≡ true) (w : Within a b) (bytes rows work : List ℕ) where
  pub grow : (o : Outcome) → Checks a bytes rows work o → Lasting o.number → Checks b bytes rows work o
  grow o (unreadable n e) k = absurd (not_lasting a bytes n e k)
  grow o (rows_short i p f l) k = rows_short range p (wider w f) l
  grow o (work_short i p f l m) k = work_short range p (wider w f) l m
  grow o (checked i p f l m) k = checked range p (wider w f) l m

-- whatever other buffers are lent under b, as long as they are long enough
module _ (a b : Limits) (range : in_range b ≡ true) (w : Within a b) (bytes rows work more_rows more-work : List ℕ) (p : Program) (f : IsFile a bytes p) where
  pub grow_anywhere : in_range a ≡ true → needed p ≤ length rows → needed p ≤ length work → needed p ≤ length more_rows → needed p ≤ length more-work
      → (o u : Outcome) → Checks a bytes rows work o → Checks b bytes more_rows more-work u → SameAnswer p o u
  grow_anywhere narrow l k m n o u c d =
      let first = one_outcome a bytes rows work o _ c (checked narrow p f l k) in
      let second = one_outcome b bytes more_rows more-work u _ d (checked range p (wider w f) m n) in
      let long = check_long p (fits bytes p (wider (within_widest a narrow) f)) f.used_up in
      record {
        number = ap (λ x. x.number) first ∙ sym (ap (λ x. x.number) second);
        step = ap (λ x. x.step) first ∙ sym (ap (λ x. x.step) second);
        place = ap (λ x. x.place) first ∙ sym (ap (λ x. x.place) second);
        pairs = ap (λ x. x.pairs) first ∙ sym (ap (λ x. x.pairs) second);
        rows =
            ap (λ x. take (needed p) x.rows) first ∙ take_at (check_of p).rows (drop (needed p) rows) (needed p) long
            ∙ sym (ap (λ x. take (needed p) x.rows) second ∙ take_at (check_of p).rows (drop (needed p) more_rows) (needed p) long);
      }

module _ (a b : Limits) (narrow : in_range a ≡ true) (range : in_range b ≡ true) (w : Within a b) (bytes : List ℕ) (y : Bytes bytes) (rows work : List ℕ) where
  -- a file that a alone refuses under 5 is a program file under b, and deeper than a lets it be
  deeper : (n : Unreadable) → reading_within a (meant bytes) ≡ Err n → (S : Sections) → types_right a.parts (tables_of (meant bytes) S) ≡ true → reading_within b (meant bytes) ≡ Ok S → Deeper a b bytes
  deeper n e S ea good =
      let (p, f) = program-of b bytes S y good in
      record { program = p; file = f; more = go p f (leb (depth_decls p.declarations) a.depth) refl }
    where
      go : (p : Program) → IsFile b bytes p → (t : Bool) → leb (depth_decls p.declarations) a.depth ≡ t → a.depth < depth_decls p.declarations
      go p f false h = leb-false _ _ h
      go p f true h =
          let is : p.tables ≡ tables_of (meant bytes) S = read_tables b bytes S p good f in
          let g : IsFile a bytes p = record {
            layout = f.layout;
            counts = f.counts;
            types = ap (types_right a.parts) is ∙ ea;
            tables = f.tables;
            stand = f.stand;
            used_up = f.used_up;
            deep = leb-true _ _ h;
          } in
          let read = (reading-of a bytes p g).0 in
          absurd (let z : ◌≡◌ {A = ℕ} 0 1 = cc in omega arith)

  -- the number under b of a file that is read under b
  lasting_under : (S : Sections) → reading_of b bytes ≡ Ok S → (u : Outcome) → Checks b bytes rows work u → Lasting u.number
  lasting_under S good u (unreadable n e) = absurd (let z : ◌≡◌ {A = ℕ} 0 1 = cc in omega arith)
  lasting_under S good u (rows_short i p f l) = inr (omega arith, omega arith)
  lasting_under S good u (work_short i p f l k) = inr (omega arith, omega arith)
  lasting_under S good u (checked i p f l k) = ⊎_elim inl (λ h. inr (omega (arith, h.0), h.1)) (check_numbers p)

  -- 3 is the number of no outcome but that of a reading
  not_three : (reading_within b (meant bytes) ≡ Err Unreadable.Types → ⊥) → (u : Outcome) → Checks b bytes rows work u → u.number ≡ 3 → ⊥
  not_three none u (unreadable n e) h = none (sym (reading_in_range b bytes range) ∙ e ∙ ap Err (three_is n h))
  not_three none u (rows_short i p f l) h = omega (arith, h)
  not_three none u (work_short i p f l k) h = omega (arith, h)
  not_three none u (checked i p f l k) h = ⊎_elim (λ z. omega (arith, z, h)) (λ m. omega (arith, m.0, h)) (check_numbers p)

  unread_moves : (n : Unreadable) → reading_within a (meant bytes) ≡ Err n → Goes a b (meant bytes) n → (u : Outcome) → Checks b bytes rows work u
      → Moves a b bytes (outcome (unreadable_number n) 0 0 0 rows) u
  unread_moves n e (same second) u d = stays (sym (unread b bytes rows work n u (reading_in_range b bytes range ∙ second) d))
  unread_moves n e (types three S h ea eb none) u d =
      let (i, there, more) = more_parts a.parts b.parts (tables_of (meant bytes) S) eb ea in
      by_parts (ap unreadable_number three) (not_three none u d) (record { sections = S; cut = h; type = i; there = there; more = more; right = eb })
  unread_moves n e (trees five S ea good) u d =
      by_depth (ap unreadable_number five) (lasting_under S (reading_in_range b bytes range ∙ good) u d) (deeper n e S ea good)

  pub moves : (o u : Outcome) → Checks a bytes rows work o → Checks b bytes rows work u → Moves a b bytes o u
  moves o u (unreadable n e) d =
      let within = sym (reading_in_range a bytes narrow) ∙ e in
      unread_moves n within (goes a b w (meant bytes) n within) u d
  moves o u (rows_short i p f l) d = stays (one_outcome b bytes rows work _ u (rows_short range p (wider w f) l) d)
  moves o u (work_short i p f l k) d = stays (one_outcome b bytes rows work _ u (work_short range p (wider w f) l k) d)
  moves o u (checked i p f l k) d = stays (one_outcome b bytes rows work _ u (checked range p (wider w f) l k) d)
