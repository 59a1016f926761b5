-- The page of an accepted file, and of any file. Assumes nothing.
use Rattle.std.proofs.Common.{Option, Some, None, Result, Ok, Err}
use mathlib.Core.Path.{◌≡◌, refl, ap, sym, subst, ◌∙◌}
use mathlib.Core.List.{List, ◌++◌}
use mathlib.Core.Logic.{⊎_elim}
use Prim.Native.Nat.{ℕ, ◌+◌, ◌*◌, ◌/◌, ◌%◌, ◌≤◌, ◌<◌}
use native.Mathlib.Omega.{arith}
use mir.Syntax.{w16}
use mir.Val.{Fits}
use lib.ListN.{length, get_or, drop, length-append}
use Rattle.oat.specs.Tables.{Tables, node_at}
use Rattle.oat.specs.ProgramFile.{Limits, widest, Program, meant, IsFile}
use Rattle.oat.proofs.LawsBlank.{meant_is_file}
use Rattle.oat.proofs.LawsKinds.{kind_most}
use Rattle.oat.proofs.LawsLimits.{within_widest, wider}
use Rattle.file_sections.specs.declared.Sections.{Sections}
use Rattle.file_sections.specs.declared.Unreadable.{Unreadable}
use Rattle.file_sections.specs.Unreadable.{unreadable_number}
use Rattle.file_sections.specs.Layout.{tables_of}
use Rattle.file_sections.proofs.LawsRecords.{nodes_long}
use Rattle.writing.specs.Placed.{placed}
use Rattle.writing.proofs.LawsPlaced.{placed_then, placed_front}
use Rattle.program_file.specs.Reading.{reading_of, number_of}
use Rattle.program_file.proofs.Theorem.{Bytes, within_tables, refused_numbers}
use Rattle.demand3.proofs.Theorem.{accepted_demand3}
use Rattle.demand3.proofs.LawsOutcomeRows.{outcome_long}
use Rattle.typing.specs.declared.check.Answer.{Answer as CheckAnswer}
use Rattle.typing.specs.Check.{outcome_of, Checked, Demands, ToldSections}
use Rattle.program_file.proofs.LawsOpened.{opened, tables_are}
use Rattle.typing.proofs.LawsCheck.{check_unread, with_demands, check_told_sections}
use Rattle.pages.specs.declared.Answer.{Answer}
use Rattle.pages.specs.Page.{row_lines, last_line, page_of}
use Rattle.pages.specs.Columns.{PageLong, OnBoard}
use Rattle.pages.specs.Paging.{answer, same_answer, AfterAcceptance, short, printed, Paged}
use Rattle.pages.specs.Writing.{ReadyRows, Writes, writes, no_room}
use Rattle.pages.proofs.LawsLines.{FittingRows, rows_fit, lines_long, last_long}
use Rattle.pages.proofs.LawsBoard.{page_long, on_board}

-- a page has some bytes
pub page_some : (T : Tables) (R : List ℕ) → length (page_of T R) ≡ 0 → ⊥
unfolding page_of
page_some T R e =
    let n = length T.nodes in
    omega (arith, e, length-append (row_lines T R n) (last_line (n / 50) (n % 50)), last_long (n / 50) (n % 50))

-- the page of a file with these sections, whose last line has x bytes
module _ {F R : List ℕ} {S : Sections} (z : ReadyRows F S R) (h : (i : ℕ) → Fits w16 (get_or R i 0)) (x : ℕ) (e : x ≡ length (last_line (S.nodes / 50) (S.nodes % 50))) where
  abbrev T : Tables
  T = tables_of F S

  page_fit : FittingRows T R (length T.nodes)
  page_fit = subst (FittingRows T R) (sym (nodes_long F S)) (rows_fit z h)

  is_page : row_lines T R S.nodes ++ last_line (S.nodes / 50) (S.nodes % 50) ≡ page_of T R
  unfolding page_of
  is_page = ap (λ n. row_lines T R n ++ last_line (n / 50) (n % 50)) (sym (nodes_long F S))

  pub bytes_are : 20 * S.nodes + x ≡ length (page_of T R)
  bytes_are = omega (arith, page_long page_fit, nodes_long F S, ap (λ n. length (last_line (n / 50) (n % 50))) (nodes_long F S))

  pub page_no_room : (O : List ℕ) → length O < 20 * S.nodes + x → Writes T R O None O
  page_no_room O l = no_room (page_long page_fit) (omega (arith, l, bytes_are))

  pub page_done : (O O₁ O₂ : List ℕ) → 20 * S.nodes + x ≤ length O → O₁ ≡ placed O 0 (row_lines T R S.nodes)
      → O₂ ≡ placed O₁ (20 * S.nodes) (last_line (S.nodes / 50) (S.nodes % 50)) → Writes T R O (Some (20 * S.nodes + x)) O₂
  page_done O O₁ O₂ l f g =
      let n = S.nodes in
      let end = last_line (n / 50) (n % 50) in
      let lines : length (row_lines T R n) ≡ 20 * n = lines_long (rows_fit z h) n (omega arith) in
      let whole : O₂ ≡ page_of T R ++ drop (length (page_of T R)) O =
      placed_then O 0 (row_lines T R n) f (omega (arith, lines)) end (omega (arith, lines, e, l)) g ∙ ap (placed O 0) is_page ∙ placed_front O (page_of T R) in
      let rest = drop (length (page_of T R)) O in
      subst (λ O₂. Writes T R O (Some (20 * n + x)) O₂) (sym whole)
      (subst (λ b. Writes T R O (Some b) (page_of T R ++ rest)) (sym bytes_are) (writes (page_long page_fit) (omega (arith, l, bytes_are)) (on_board page_fit rest)))

-- the file of an accepting check, as what writes a page speaks of it
pub page_ready_of : {l : Limits} {F R W R' W' G : List ℕ} {S : Sections} {c : CheckAnswer} → Bytes F → reading_of l F ≡ Ok S → G ≡ meant F → Checked l F R W R' W' c → c.number ≡ 0
    → ReadyRows G S R'
page_ready_of {l} {F} {R} {W} {R'} {S = S} {c = c} b e is k z =
    let d = opened l F S b e in
    let p = d.program in
    let same = tables_are p d.wide d.reads in
    let long : length p.tables.nodes ≡ S.nodes = ap (λ T. length T.nodes) same ∙ nodes_long (meant F) S in
    subst (λ G. ReadyRows G S R') (sym is)
    (record {
      laid = (within_tables widest (meant F) S (omega arith) d.reads).laid;
      kinds = λ i h. omega (arith, kind_most p.tables p.declarations d.file.stand i (omega (arith, h, d.file.used_up, long)), ap (λ T. (node_at T i).kind) same);
      long = omega (arith, outcome_long (accepted_demand3 l F R W (outcome_of c R') k.checks z p d.file) z, d.file.used_up, long);
    })

-- what was written, or not, as an answer
short_of : (p : Program) {c : CheckAnswer} {R O O' : List ℕ} {w : Option ℕ} {r : Answer} → Writes p.tables R O w O' → ((b : ℕ) → w ≡ Some b → ⊥) → r ≡ answer 18 0 0 0 → AfterAcceptance p c R O r O'
short_of p (writes n l o) z q = absurd (z _ refl)
short_of p (no_room n l) z q = rw q (short l)

printed_of : (p : Program) {c : CheckAnswer} {R O O' : List ℕ} {w : Option ℕ} {b : ℕ} {r : Answer} → Writes p.tables R O w O' → w ≡ Some b → r ≡ same_answer c b
    → AfterAcceptance p c R O r O' × OnBoard p.tables R O' r.bytes
printed_of p {c = c} {R = R} {b = b} {r = r} (writes n l o) z q =
    let same : length (page_of p.tables R) ≡ b = cc z in
    let told : r ≡ same_answer c (length (page_of p.tables R)) = q ∙ ap (same_answer c) (sym same) in
    rw told (printed l, o)
printed_of p (no_room n l) z q = absurd (cc z)

long_of : {T : Tables} {R O O' : List ℕ} {w : Option ℕ} → Writes T R O w O' → PageLong T R
long_of (writes n l o) = n
long_of (no_room n l) = n

-- the answers of `page`: of a file that is not read
pub page_unread : {l : Limits} {F R W O : List ℕ} {r : Answer} {g : Result Sections Unreadable} {n : Unreadable} {m : ℕ} → g ≡ reading_of l F → g ≡ Err n → m ≡ number_of g → r ≡ answer m 0 0 0
    → Paged l F R W O R W O r
page_unread {l} {F} {R} {W} {r = r} {n = n} {m = m} e h k q =
    let same : m ≡ unreadable_number n = k ∙ ap number_of h in
    let (c, d) = with_demands (check_unread {R = R} {W = W} e h same refl) in
    record {
      check = record { number = m; step = 0; place = 0; pairs = 0 };
      checked = c;
      demands = d;
      refused = λ z. (q, refl);
      accepted = λ z p f. absurd (not_accepted z same);
      long = λ z p f. absurd (not_accepted z same);
      on_board = λ z p f. absurd (not_accepted (sym (ap (λ (a : Answer). a.number) q) ∙ z) same);
    }
  where
    not_accepted : m ≡ 0 → m ≡ unreadable_number n → ⊥
    not_accepted z same = ⊎_elim (λ x. omega (arith, x, z, same)) (λ x. omega (arith, x.0, z, same)) (refused_numbers l F n (sym e ∙ h))

-- of one that was read, whose check answers c
module _ (l : Limits) {F R W : List ℕ} {S : Sections} {g : Result Sections Unreadable} {R' W' : List ℕ} {c : CheckAnswer} (e : g ≡ reading_of l F) (h : g ≡ Ok S) (k : ToldSections F S R W R' W' c) where
  its_check : Checked l F R W R' W' c × Demands l F R W R' c
  its_check = check_told_sections l e h k

  pub page_refused : {O : List ℕ} {r : Answer} → r ≡ same_answer c 0 → (c.number ≡ 0 → ⊥) → Paged l F R W O R' W' O r
  page_refused q z = record {
    check = c;
    checked = its_check.0;
    demands = its_check.1;
    refused = λ o. (q, refl);
    accepted = λ o p f. absurd (z o);
    long = λ o p f. absurd (z o);
    on_board = λ o p f. absurd (z (sym (ap (λ (a : Answer). a.number) q) ∙ o));
  }

  module _ {G : List ℕ} (b : Bytes F) (is : G ≡ meant F) (z : c.number ≡ 0) where
    pub page_ready : ReadyRows G S R'
    page_ready = page_ready_of b (sym e ∙ h) is its_check.0 z

    module _ {O O' : List ℕ} {w : Option ℕ} (t : Writes (tables_of G S) R' O w O') where
      its_page : (p : Program) → IsFile l F p → Writes p.tables R' O w O'
      its_page p f =
          let d = opened l F S b (sym e ∙ h) in
          let same = tables_are p (meant_is_file F (wider (within_widest l d.range) f)) d.reads ∙ ap (λ G. tables_of G S) (sym is) in
          subst (λ T. Writes T R' O w O') (sym same) t

      pub page_short : {r : Answer} → ((b : ℕ) → w ≡ Some b → ⊥) → r ≡ answer 18 0 0 0 → Paged l F R W O R' W' O' r
      page_short {r} x q = record {
        check = c;
        checked = its_check.0;
        demands = its_check.1;
        refused = λ o. absurd (o z);
        accepted = λ o p f. short_of p (its_page p f) x q;
        long = λ o p f. long_of (its_page p f);
        on_board = λ o p f. absurd (let i = ap (λ (a : Answer). a.number) q in omega (arith, i, o));
      }

      pub page_printed : {b : ℕ} {r : Answer} → w ≡ Some b → r ≡ same_answer c b → Paged l F R W O R' W' O' r
      page_printed {r = r} x q = record {
        check = c;
        checked = its_check.0;
        demands = its_check.1;
        refused = λ o. absurd (o z);
        accepted = λ o p f. (printed_of p (its_page p f) x q).0;
        long = λ o p f. long_of (its_page p f);
        on_board = λ o p f. (printed_of p {c = c} (its_page p f) x q).1;
      }
