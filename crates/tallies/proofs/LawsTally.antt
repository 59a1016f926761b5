-- The tallies of an accepted file, and of any file. Assumes nothing.
use Rattle.std.proofs.Common.{Result, Ok, Err}
use mathlib.Core.Path.{◌≡◌, refl, ap, ap₂, sym, subst, ◌∙◌}
use mathlib.Core.Bool.{Bool, true, false}
use mathlib.Core.List.{List, ◌++◌}
use mathlib.Core.Logic.{inl, inr, ⊎_elim}
use Prim.Native.Nat.{ℕ, ◌≤◌, ◌<◌}
use native.Mathlib.Omega.{arith}
use lib.ListN.{length, get_or, take, drop, replicate, get_or-replicate}
use lib.Seq.{length-take-le, get_or-take, ext_get_or}
use Rattle.oat.specs.Basics.{sum_below, tabulate}
use Rattle.oat.specs.Tables.{Tables}
use Rattle.oat.specs.ProgramFile.{Limits, widest, Program, meant, IsFile}
use Rattle.oat.proofs.LawsBasics.{tabulate_long, tabulate_at}
use Rattle.oat.proofs.LawsBlank.{meant_is_file}
use Rattle.oat.proofs.LawsLimits.{within_widest, wider}
use Rattle.file_sections.specs.declared.Sections.{Sections}
use Rattle.file_sections.specs.declared.Unreadable.{Unreadable}
use Rattle.file_sections.specs.Unreadable.{unreadable_number}
use Rattle.file_sections.specs.Layout.{tables_of, GoodTables}
use Rattle.file_sections.proofs.LawsRecords.{types_long, nodes_long}
use Rattle.program_file.specs.Reading.{reading_of, number_of}
use Rattle.program_file.proofs.Theorem.{Bytes, within_tables, refused_numbers}
use Rattle.type_index.specs.Index.{Indexed}
use Rattle.demand3.specs.Demand3.{Demand3}
use Rattle.demand3.proofs.Theorem.{accepted_demand3}
use Rattle.demand3.proofs.LawsOutcomeRows.{its_derivation, outcome_long, outcome_expression}
use Rattle.typing.specs.declared.check.Answer.{Answer as CheckAnswer}
use Rattle.typing.specs.Check.{outcome_of, Checked, Demands, ToldSections}
use Rattle.program_file.proofs.LawsOpened.{opened, tables_are, declares}
use Rattle.typing.proofs.LawsCheck.{check_unread, with_demands, check_told_sections}
use Rattle.tallies.specs.declared.Answer.{Answer}
use Rattle.tallies.specs.Tallies.{count_below, is_under, by_type, by_declaration}
use Rattle.tallies.specs.Tally.{type_count, declaration_count, answer, same_answer, AfterAcceptance, short, tallied, Tallied}
use Rattle.tallies.specs.Walk.{TypedRows, CountedTo, ReadyTally, ToldTally, ReadyAccepted, Writes, writes, no_room, ToldAccepted}

-- nothing is counted yet
counted_none : (T : Tables) (R A : List ℕ) → A ≡ replicate 512 0 → CountedTo T R 0 A
unfolding count_below sum_below
counted_none T R A e = record { long = ap length e; each = λ t l. ap (λ L. get_or L t 0) e ∙ get_or-replicate 512 t 0 0 l }

-- the counts of all nodes are the tally by type
counted_by_type : (T : Tables) (R A : List ℕ) → length T.types ≤ 512 → CountedTo T R (length T.nodes) A → take (length T.types) A ≡ by_type T R
unfolding by_type
counted_by_type T R A l c =
    let n = length T.types in
    let under : ℕ → ℕ = λ t. count_below (length T.nodes) (is_under T R t) in
    let long : length (take n A) ≡ n = length-take-le n A (omega (arith, l, c.long)) in
    ext_get_or 0 (take n A) (tabulate n under) (long ∙ sym (tabulate_long n under))
    (λ i h. get_or-take n A i 0 (omega (arith, h, long)) ∙ c.each i (omega (arith, h, long, l)) ∙ sym (tabulate_at n under i 0 (omega (arith, h, long))))

module _ {F : List ℕ} {S : Sections} {R : List ℕ} (z : ReadyAccepted F S R) where
  pub accepted_tables : GoodTables F S
  accepted_tables = within_tables widest F S (omega arith) z.reads

  pub accepted_ready : {X A B : List ℕ} → Indexed X (tables_of F S) S.types → A ≡ replicate 512 0 → B ≡ replicate 2048 0 → ReadyTally F S X R A B
  accepted_ready {A = A} x a b = record {
    ready = record { good_tables = accepted_tables; indexed = x; rows = z.rows };
    declarations = z.program.declarations;
    declares = declares z.program z.file z.reads;
    counted = counted_none (tables_of F S) R A a;
    long = ap length b;
  }

  -- what the program's counts are
  module _ (p : Program) (f : IsFile widest F p) where
    types_are : type_count p ≡ S.types
    types_are = ap (λ T. length T.types) (tables_are p f z.reads) ∙ types_long F S

  -- after the pass over the nodes
  module _ {A₁ B₁ : List ℕ} {k : ℕ} (told : ToldTally F S R A₁ B₁ k) where
    number_is : (p : Program) → IsFile widest F p → k ≡ declaration_count p
    number_is p f = (told.tells p.declarations (declares p f z.reads)).0

    pub types_short : {A B : List ℕ} → length A < S.types → ToldAccepted F R A B A B false
    types_short h = record { tells = λ p f. no_room (inl (omega (arith, h, types_are p f))) refl refl }

    pub declarations_short : {A B : List ℕ} → length B < k → ToldAccepted F R A B A B false
    declarations_short h = record { tells = λ p f. no_room (inr (omega (arith, h, number_is p f))) refl refl }

    pub both_written : {A B A' B' : List ℕ} → S.types ≤ length A → k ≤ length B → A' ≡ take S.types A₁ ++ drop S.types A → B' ≡ take k B₁ ++ drop k B
        → ToldAccepted F R A B A' B' true
    both_written {A} {B} h l a b = record {
      tells = λ p f.
          let same = tables_are p f z.reads in
          let n = types_are p f in
          let m = number_is p f in
          let counted = subst (λ i. CountedTo (tables_of F S) R i A₁) (sym (nodes_long F S)) told.counted in
          let front = counted_by_type (tables_of F S) R A₁ (omega (arith, types_long F S, accepted_tables.laid.types_most)) counted in
          writes (omega (arith, h, n)) (omega (arith, l, m))
          (a ∙ ap₂ (λ x y. x ++ drop y A) (ap (λ i. take i A₁) (sym (types_long F S)) ∙ front ∙ ap (λ T. by_type T R) (sym same)) (sym n))
          (b ∙ ap₂ (λ x y. x ++ drop y B) ((told.tells p.declarations (declares p f z.reads)).1 ∙ ap (λ T. by_declaration T 0 p.declarations) (sym same)) m);
    }

-- after a check that accepts the file of p: its outcome keeps demand 3, and its rows are typed
module _ {l : Limits} {F R W R' W' : List ℕ} {c : CheckAnswer} (k : Checked l F R W R' W' c) (e : c.number ≡ 0) (p : Program) (f : IsFile l F p) where
  pub accepted_is : Demand3 p R (outcome_of c R')
  accepted_is = accepted_demand3 l F R W (outcome_of c R') k.checks e p f

  pub accepted_rows : TypedRows p.tables R'
  accepted_rows =
      let d = its_derivation accepted_is e in
      record {
        long = omega (arith, outcome_long accepted_is e, f.used_up);
        typed = λ i h x. (outcome_expression accepted_is e d.labels d.context d.derives f.stand i (omega (arith, h, f.used_up)) x).2.within;
      }

-- the file of an accepting check, as the tallies within speak of it
pub tally_ready_of : {l : Limits} {F R W R' W' G : List ℕ} {S : Sections} {c : CheckAnswer} → Bytes F → reading_of l F ≡ Ok S → G ≡ meant F → Checked l F R W R' W' c → c.number ≡ 0
    → ReadyAccepted G S R'
tally_ready_of {l} {F} {R' = R'} {S = S} b e is k z =
    let d = opened l F S b e in
    let rows = subst (λ T. TypedRows T R') (tables_are d.program d.wide d.reads) (accepted_rows k z d.program d.file) in
    subst (λ G. ReadyAccepted G S R') (sym is) (record { reads = d.reads; program = d.program; file = d.wide; rows = rows })

-- what was written, or not, as an answer
short_of : {c : CheckAnswer} {R A B A' B' : List ℕ} {w : Bool} {r : Answer} (p : Program) → Writes p R A B A' B' w → w ≡ false → r ≡ answer 19 0 0 → AfterAcceptance p c R A B r A' B'
short_of p (writes i j u v) x q = absurd (let o : ◌≡◌ {A = ℕ} 0 1 = cc in omega arith)
short_of p (no_room i u v) x q = rw (q, u, v) (short i)

written_of : {c : CheckAnswer} {R A B A' B' : List ℕ} {w : Bool} {r : Answer} (p : Program) → Writes p R A B A' B' w → w ≡ true → r ≡ same_answer c → AfterAcceptance p c R A B r A' B'
written_of p (writes i j u v) x q = rw (q, u, v) (tallied i j)
written_of p (no_room i u v) x q = absurd (let o : ◌≡◌ {A = ℕ} 0 1 = cc in omega arith)

-- the answers of `tally`: of a file that is not read
pub tally_unread : {l : Limits} {F R W A B : List ℕ} {r : Answer} {g : Result Sections Unreadable} {n : Unreadable} {m : ℕ} → g ≡ reading_of l F → g ≡ Err n → m ≡ number_of g → r ≡ answer m 0 0
    → Tallied l F R W A B R W A B r
tally_unread {l} {F} {R} {W} {n = n} {m = m} e h k q =
    let same : m ≡ unreadable_number n = k ∙ ap number_of h in
    let (c, d) = with_demands (check_unread {R = R} {W = W} e h same refl) in
    record {
      check = record { number = m; step = 0; place = 0; pairs = 0 };
      checked = c;
      demands = d;
      refused = λ z. (q, refl, refl);
      accepted = λ z p f. absurd (⊎_elim (λ x. omega (arith, x, z, same)) (λ x. omega (arith, x.0, z, same)) (refused_numbers l F n (sym e ∙ h)));
    }

-- of one that was read, whose check answers c
module _ (l : Limits) {F R W : List ℕ} {S : Sections} {g : Result Sections Unreadable} {R' W' : List ℕ} {c : CheckAnswer} (e : g ≡ reading_of l F) (h : g ≡ Ok S) (k : ToldSections F S R W R' W' c) where
  its_check : Checked l F R W R' W' c × Demands l F R W R' c
  its_check = check_told_sections l e h k

  pub tally_refused : {A B : List ℕ} {r : Answer} → r ≡ same_answer c → (c.number ≡ 0 → ⊥) → Tallied l F R W A B R' W' A B r
  tally_refused q z = record { check = c; checked = its_check.0; demands = its_check.1; refused = λ o. (q, refl, refl); accepted = λ o p f. absurd (z o) }

  module _ {G : List ℕ} (b : Bytes F) (is : G ≡ meant F) (z : c.number ≡ 0) where
    pub tally_ready : ReadyAccepted G S R'
    tally_ready = tally_ready_of b (sym e ∙ h) is its_check.0 z

    module _ {A B A' B' : List ℕ} {w : Bool} (t : ToldAccepted G R' A B A' B' w) where
      told_file : (p : Program) → IsFile l F p → Writes p R' A B A' B' w
      told_file p f =
          let d = opened l F S b (sym e ∙ h) in
          (subst (λ G. ToldAccepted G R' A B A' B' w) is t).tells p (meant_is_file F (wider (within_widest l d.range) f))

      accepted_told : {r : Answer} → ((p : Program) → Writes p R' A B A' B' w → AfterAcceptance p c R' A B r A' B') → Tallied l F R W A B R' W' A' B' r
      accepted_told f = record { check = c; checked = its_check.0; demands = its_check.1; refused = λ o. absurd (o z); accepted = λ o p i. f p (told_file p i) }

      pub tally_short : {r : Answer} → w ≡ false → r ≡ answer 19 0 0 → Tallied l F R W A B R' W' A' B' r
      tally_short {r} x q = accepted_told λ p v. short_of p v x q

      pub tally_written : {r : Answer} → w ≡ true → r ≡ same_answer c → Tallied l F R W A B R' W' A' B' r
      tally_written {r} x q = accepted_told λ p v. written_of p v x q
