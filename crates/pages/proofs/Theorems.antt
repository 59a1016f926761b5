-- The claims of document 02, (iii), of a call of `page`: under any number but 0 it gives 0 bytes and the buffer stays (`page_stays`); it answers 18
-- exactly when the check accepts and the buffer is shorter than the page (`page_short_accepted`, `page_short`); under 0 its first bytes are the page,
-- and what lies past it stays (`page_room`, `page_front`, `page_past`); the width of every row's line (`page_width`) and its columns
-- (`page_columns`); 50 times P plus Q is the node count (`page_count`); and 81,937 bytes are always enough (`page_most`, `page_enough`). Then a page
-- and some lines, byte by byte. Assumes nothing.
use mathlib.Core.Path.{◌≡◌, refl, ap, sym, ◌∙◌}
use mathlib.Core.Bool.{Bool, true, false}
use mathlib.Core.List.{List, [], ◌∷◌, ◌++◌}
use mathlib.Core.Logic.{◌↔◌, ◌⊎◌, inl, inr}
use Prim.Native.Nat.{ℕ, ◌+◌, ◌*◌, ◌≤◌, ◌<◌}
use native.Mathlib.Omega.{arith}
use lib.ListN.{length, get_or, take, drop, length-append}
use lib.Seq.{take_at, drop_at}
use lib.Dec.{eqb}
use borrow.Author.Tests.{eqb-true, eqb-false}
use Rattle.oat.specs.Tables.{Tables}
use Rattle.oat.specs.ProgramFile.{Limits, Program, base_types, IsFile}
use Rattle.printing.specs.Text.{digits, decimal, word}
use Rattle.demand3.proofs.Theorem.{after_acceptance, accepted_file}
use Rattle.typing.specs.declared.check.Answer.{Answer as CheckAnswer}
use Rattle.typing.specs.Check.{outcome_of}
use Rattle.pages.specs.declared.Answer.{Answer}
use Rattle.pages.specs.Page.{cell, row_line, row_lines, last_line, full_pages, rows_left, page_of}
use Rattle.pages.specs.Columns.{RowAt, LastAt}
use Rattle.pages.specs.Paging.{AfterAcceptance, short, printed, Paged}
use Rattle.pages.proofs.LawsLines.{two_digits, last_long}

-- what is known after acceptance
stays_of : {p : Program} {c : CheckAnswer} {R' O O' : List ℕ} {r : Answer} → c.number ≡ 0 → AfterAcceptance p c R' O r O' → (r.number ≡ 0 → ⊥) → (r.bytes ≡ 0) × (O' ≡ O)
stays_of z (short h) o = (refl, refl)
stays_of z (printed h) o = absurd (o z)

page-of : {p : Program} {c : CheckAnswer} {R' O O' : List ℕ} {r : Answer} → AfterAcceptance p c R' O r O' → r.number ≡ 0
    → (r.bytes ≡ length (page_of p.tables R')) × (O' ≡ page_of p.tables R' ++ drop (length (page_of p.tables R')) O)
page-of (short h) e = absurd (omega (arith, e))
page-of (printed h) e = (refl, refl)

short_of : {p : Program} {c : CheckAnswer} {R' O O' : List ℕ} {r : Answer} → c.number ≡ 0 → AfterAcceptance p c R' O r O' → (r.number ≡ 18) ↔ (length O < length (page_of p.tables R'))
short_of z (short h) = (λ e. h, λ l. refl)
short_of z (printed h) = (λ e. absurd (omega (arith, z, e)), λ l. absurd (omega (arith, h, l)))

enough_of : {p : Program} {c : CheckAnswer} {R' O O' : List ℕ} {r : Answer} → c.number ≡ 0 → AfterAcceptance p c R' O r O' → length (page_of p.tables R') ≤ length O → r.number ≡ 0
enough_of z (short h) l = absurd (omega (arith, h, l))
enough_of z (printed h) l = z

module _ {l : Limits} {F R W O R' W' O' : List ℕ} {r : Answer} (t : Paged l F R W O R' W' O' r) where
  accepts : (r.number ≡ 0) ⊎ ((17 ≤ r.number) × (r.number ≤ 24)) → t.check.number ≡ 0
  accepts = after_acceptance (outcome_of t.check R') t.checked.checks r.number (λ o. ap (λ (a : Answer). a.number) (t.refused o).0)

  check_accepts : r.number ≡ 0 → t.check.number ≡ 0
  check_accepts e = accepts (inl e)

  pub page_short_accepted : r.number ≡ 18 → t.check.number ≡ 0
  page_short_accepted e = accepts (inr (omega (arith, e), omega (arith, e)))

  pub page_stays : (r.number ≡ 0 → ⊥) → (r.bytes ≡ 0) × (O' ≡ O)
  page_stays o = go (eqb t.check.number 0) refl
    where
      go : (b : Bool) → eqb t.check.number 0 ≡ b → (r.bytes ≡ 0) × (O' ≡ O)
      go true i =
          let z = eqb-true t.check.number 0 i in
          let (p, f) = accepted_file l F R W (outcome_of t.check R') t.checked.checks z in
          stays_of z (t.accepted z p f) o
      go false i = let (q, s) = t.refused (eqb-false t.check.number 0 i) in (ap (λ (a : Answer). a.bytes) q, s)

  -- the page lies in the buffer
  pub page_room : r.number ≡ 0 → r.bytes ≤ length O'
  page_room e =
      let z = check_accepts e in
      let (p, f) = accepted_file l F R W (outcome_of t.check R') t.checked.checks z in
      let (long, is) = page-of (t.accepted z p f) e in
      let page = page_of p.tables R' in
      omega (arith, long, ap length is, length-append page (drop (length page) O))

  module _ (p : Program) (f : IsFile l F p) where
    pub page_short : (r.number ≡ 18) ↔ ((t.check.number ≡ 0) × (length O < length (page_of p.tables R')))
    page_short = (
      λ e. let z = page_short_accepted e in (z, (short_of z (t.accepted z p f)).0 e),
      λ k. (short_of k.0 (t.accepted k.0 p f)).1 k.1,
    )

    module _ (e : r.number ≡ 0) where
      its_page : (r.bytes ≡ length (page_of p.tables R')) × (O' ≡ page_of p.tables R' ++ drop (length (page_of p.tables R')) O)
      its_page = page-of (t.accepted (check_accepts e) p f) e

      pub page_front : take r.bytes O' ≡ page_of p.tables R'
      page_front =
          let (long, is) = its_page in
          ap (take r.bytes) is ∙ take_at (page_of p.tables R') (drop (length (page_of p.tables R')) O) r.bytes (sym long)

      pub page_past : drop r.bytes O' ≡ drop r.bytes O
      page_past =
          let (long, is) = its_page in
          ap (drop r.bytes) is ∙ drop_at (page_of p.tables R') (drop (length (page_of p.tables R')) O) r.bytes (sym long) ∙ ap (λ k. drop k O) (sym long)

      -- 19 columns that are no line end, and then the line end
      pub page_width : (i : ℕ) → i < length p.tables.nodes → ((j : ℕ) → j < 19 → get_or O' (20 * i + j) 0 ≡ 10 → ⊥) × (get_or O' (20 * i + 19) 0 ≡ 10)
      page_width i h = let row = (t.on_board e p f).each i h in (row.width, row.line_end)

      pub page_columns : (i : ℕ) → i < length p.tables.nodes → RowAt p.tables R' O' i
      page_columns i h = (t.on_board e p f).each i h

      pub page_count : LastAt (length p.tables.nodes) r.bytes O'
      page_count = (t.on_board e p f).last

    -- at most 4,096 rows, and a last line of at most 17 bytes
    few_bytes : t.check.number ≡ 0 → length (page_of p.tables R') ≤ 81937
    few_bytes z =
        let n = length p.tables.nodes in
        let most = f.counts.nodes in
        omega (arith, t.long z p f, most, last_long (full_pages n) (rows_left n), two_digits (full_pages n) (omega (arith, most)), two_digits (rows_left n) (omega arith))

    pub page_most : r.number ≡ 0 → r.bytes ≤ 81937
    page_most e = omega (arith, (its_page e).0, few_bytes (check_accepts e))

    pub page_enough : t.check.number ≡ 0 → 81937 ≤ length O → r.number ≡ 0
    page_enough z h = enough_of z (t.accepted z p f) (omega (arith, h, few_bytes z))

-- the nodes (1,5,0,1) and (11,0,0,0)
abbrev pub two_nodes : Tables
two_nodes = record { types = base_types; list = []; fields = []; structs = []; built_ins = []; nodes = record { kind = 1; x = 5; t = 0; children = 1 } ∷ record { kind = 11; x = 0; t = 0; children = 0 } ∷ [] }

-- their page, where they have type 1 and no binder: `   0  1     1 65535`, `   1 11     1 65535`, `pages 0 rows 2`
pub two_rows : page_of two_nodes (1 ∷ 65535 ∷ 1 ∷ 65535 ∷ [])
    ≡ 32 ∷ 32 ∷ 32 ∷ 48 ∷ 32 ∷ 32 ∷ 49 ∷ 32 ∷ 32 ∷ 32 ∷ 32 ∷ 32 ∷ 49 ∷ 32 ∷ 54 ∷ 53 ∷ 53 ∷ 51 ∷ 53 ∷ 10
    ∷ 32 ∷ 32 ∷ 32 ∷ 49 ∷ 32 ∷ 49 ∷ 49 ∷ 32 ∷ 32 ∷ 32 ∷ 32 ∷ 32 ∷ 49 ∷ 32 ∷ 54 ∷ 53 ∷ 53 ∷ 51 ∷ 53 ∷ 10
    ∷ 112 ∷ 97 ∷ 103 ∷ 101 ∷ 115 ∷ 32 ∷ 48 ∷ 32 ∷ 114 ∷ 111 ∷ 119 ∷ 115 ∷ 32 ∷ 50 ∷ 10 ∷ []
unfolding page_of row_lines row_line cell last_line word decimal digits
two_rows = refl

-- a line without blanks but those between
pub full_line : row_line 4095 15 10000 40127
    ≡ 52 ∷ 48 ∷ 57 ∷ 53 ∷ 32 ∷ 49 ∷ 53 ∷ 32 ∷ 49 ∷ 48 ∷ 48 ∷ 48 ∷ 48 ∷ 32 ∷ 52 ∷ 48 ∷ 49 ∷ 50 ∷ 55 ∷ 10 ∷ []
unfolding row_line cell word decimal digits
full_line = refl

-- no rows: `pages 0 rows 0`; fifty: `pages 1 rows 0`; 4,096: `pages 81 rows 46`
pub last_of_none : last_line (full_pages 0) (rows_left 0) ≡ 112 ∷ 97 ∷ 103 ∷ 101 ∷ 115 ∷ 32 ∷ 48 ∷ 32 ∷ 114 ∷ 111 ∷ 119 ∷ 115 ∷ 32 ∷ 48 ∷ 10 ∷ []
unfolding last_line decimal digits
last_of_none = refl

pub last_of_fifty : last_line (full_pages 50) (rows_left 50) ≡ 112 ∷ 97 ∷ 103 ∷ 101 ∷ 115 ∷ 32 ∷ 49 ∷ 32 ∷ 114 ∷ 111 ∷ 119 ∷ 115 ∷ 32 ∷ 48 ∷ 10 ∷ []
unfolding last_line decimal digits
last_of_fifty = refl

pub last_of_most : last_line (full_pages 4096) (rows_left 4096) ≡ 112 ∷ 97 ∷ 103 ∷ 101 ∷ 115 ∷ 32 ∷ 56 ∷ 49 ∷ 32 ∷ 114 ∷ 111 ∷ 119 ∷ 115 ∷ 32 ∷ 52 ∷ 54 ∷ 10 ∷ []
unfolding last_line decimal digits
last_of_most = refl
