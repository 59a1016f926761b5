-- A call of `page` on zero bytes, with limits in range (document 02, (iii) and (v)): `pages 0 rows 0` and a line end, 15 bytes, with the answer 0 0 0,
-- rows and work as they were; 18 where the buffer has fewer than 15 bytes (`page_blank`, `page_blank_short`). Assumes nothing.
use mathlib.Core.Path.{◌≡◌, refl, ap, ◌∙◌}
use mathlib.Core.Bool.{true}
use mathlib.Core.List.{List, [], ◌∷◌, ◌++◌}
use Prim.Native.Nat.{ℕ, ◌≤◌, ◌<◌}
use native.Mathlib.Omega.{arith}
use lib.ListN.{length, drop}
use Rattle.oat.specs.ProgramFile.{Limits, in_range, blank_program}
use Rattle.oat.proofs.LawsBlank.{blank_is_file}
use Rattle.printing.specs.Text.{digits, decimal}
use Rattle.typing.specs.declared.check.Answer.{Answer as CheckAnswer}
use Rattle.typing.proofs.Blank.{check_blank}
use Rattle.pages.specs.declared.Answer.{Answer}
use Rattle.pages.specs.Page.{row_lines, last_line, page_of}
use Rattle.pages.specs.Paging.{answer, same_answer, AfterAcceptance, short, printed, Paged}

-- `pages 0 rows 0` and a line end
abbrev pub blank_page : List ℕ
blank_page = 112 ∷ 97 ∷ 103 ∷ 101 ∷ 115 ∷ 32 ∷ 48 ∷ 32 ∷ 114 ∷ 111 ∷ 119 ∷ 115 ∷ 32 ∷ 48 ∷ 10 ∷ []

is_blank : (R : List ℕ) → page_of blank_program.tables R ≡ blank_page
unfolding page_of row_lines last_line decimal digits
is_blank R = refl

-- after acceptance, with the check's answer 0 0 0
blank-page : {c : CheckAnswer} {R O O' : List ℕ} {r : Answer} → AfterAcceptance blank_program c R O r O' → ((b : ℕ) → same_answer c b ≡ answer 0 0 0 b) → 15 ≤ length O
    → (r ≡ answer 0 0 0 15) × (O' ≡ blank_page ++ drop 15 O)
blank-page {R = R} (short h) e l = absurd (omega (arith, h, l, ap length (is_blank R)))
blank-page {c = c} {R} {O} (printed h) e l =
    (ap (λ (P : List ℕ). same_answer c (length P)) (is_blank R) ∙ e 15, ap (λ (P : List ℕ). P ++ drop (length P) O) (is_blank R))

blank_short : {c : CheckAnswer} {R O O' : List ℕ} {r : Answer} → AfterAcceptance blank_program c R O r O' → length O < 15 → (r ≡ answer 18 0 0 0) × (O' ≡ O)
blank_short (short h) l = (refl, refl)
blank_short {R = R} (printed h) l = absurd (omega (arith, h, l, ap length (is_blank R)))

module _ (limits : Limits) (range : in_range limits ≡ true) {R W O R' W' O' : List ℕ} {r : Answer} (t : Paged limits [] R W O R' W' O' r) where
  accepts : t.check ≡ record { number = 0; step = 0; place = 0; pairs = 0 }
  accepts = (check_blank limits range t.checked).0

  its_page : AfterAcceptance blank_program t.check R' O r O'
  its_page = t.accepted (ap (λ (c : CheckAnswer). c.number) accepts) blank_program (blank_is_file limits range)

  pub page_blank : 15 ≤ length O → (r ≡ answer 0 0 0 15) × (O' ≡ blank_page ++ drop 15 O) × (R' ≡ R) × (W' ≡ W)
  page_blank l =
      let (a, b) = blank-page its_page (λ n. ap (λ c. same_answer c n) accepts) l in
      let (d, e, f) = check_blank limits range t.checked in
      (a, b, e, f)

  pub page_blank_short : length O < 15 → (r ≡ answer 18 0 0 0) × (O' ≡ O) × (R' ≡ R) × (W' ≡ W)
  page_blank_short l =
      let (a, b) = blank_short its_page l in
      let (d, e, f) = check_blank limits range t.checked in
      (a, b, e, f)
