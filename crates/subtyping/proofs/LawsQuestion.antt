-- The ways through the subtype question, and what it says: yes exactly when the rules derive it (`question_yes`), and on every input what
-- `Answers` says of its number, its yes and its count (`with_answers`). Assumes nothing.
use mathlib.Core.Path.{◌≡◌, refl, ap, sym, ◌∙◌, subst}
use mathlib.Core.Bool.{Bool, true, false, false≢true}
use mathlib.Core.List.{List}
use mathlib.Core.Logic.{◌↔◌, ◌⊎◌, inl, inr, ⊎_elim}
use Prim.Native.Nat.{ℕ, ◌+◌, ◌≤◌, ◌<◌}
use native.Mathlib.Omega.{arith}
use lib.ListN.{length}
use lib.Dec.{leb}
use Rattle.std.specs.Prelude.{Result, Ok, Err}
use borrow.Author.Tests.{le-leb, lt-leb, leb-true, leb-false}
use Rattle.oat.specs.Basics.{pick}
use Rattle.oat.specs.Tables.{Tables}
use Rattle.oat.specs.TypeRules.{parts_at}
use Rattle.oat.specs.Types.{type_of}
use Rattle.oat.specs.Subtyping.{SubRet}
use Rattle.oat.specs.Decide.{is_formed}
use Rattle.oat.specs.Pairs.{below_pairs, parts_ty}
use Rattle.oat.specs.ProgramFile.{Limits, in_range, Within, Program, meant, IsFile}
use Rattle.oat.proofs.LawsPairs.{below_most, below_exact}
use Rattle.oat.proofs.LawsPartsWritten.{parts_written}
use Rattle.oat.proofs.LawsSubtyping.{below_is}
use Rattle.oat.proofs.LawsTypes.{TypesFormed, types-formed}
use Rattle.file_sections.specs.declared.Sections.{Sections}
use Rattle.file_sections.specs.declared.Unreadable.{Unreadable}
use Rattle.file_sections.specs.Layout.{tables_of, GoodTables}
use Rattle.file_sections.proofs.LawsRecords.{types_long}
use Rattle.program_file.specs.Reading.{reading_of, number_of, IsProgramFile, Reads, ReadsTables}
use Rattle.program_file.proofs.LawsReading.{reading_in_range}
use Rattle.program_file.proofs.Theorem.{Bytes, good_tables, reading-of, refused_numbers, read_grows}
use Rattle.type_index.specs.Index.{declared}
use Rattle.subtyping.specs.Numbered.{below_at, pairs_at}
use Rattle.subtyping.specs.Question.{answered, ask_of, subtype_of, refusal_number, yes_after, pairs_of, HasBoth, Below, AnswersOn, Answers}
use Rattle.subtyping.specs.declared.question.Answer.{Answer}
use Rattle.subtyping.specs.declared.question.Refusal.{Refusal}

-- yes or no
pub both_asked : (s : List ℕ) (S : Sections) (a b : ℕ) → a < S.types → b < S.types → (q : Answer) → q ≡ record { holds = below_at (tables_of s S) a b; pairs = pairs_at (tables_of s S) a b } → Ok q ≡ ask_of (tables_of s S) a b
unfolding ask_of
both_asked s S a b k l q e = rw (types_long s S, lt-leb _ _ k, lt-leb _ _ l) (ap Ok e)

module _ (limits : Limits) (s : List ℕ) (a b : ℕ) (r : Result Sections Unreadable) (e : r ≡ reading_of limits s) where
  pub not_read : (u : Unreadable) → r ≡ Err u → (f : Refusal) → f ≡ Refusal.Unreadable u → (q : Result Answer Refusal) → q ≡ Err f → q ≡ subtype_of limits s a b
  unfolding subtype_of
  not_read u h f ef q eq = eq ∙ rw (← e, h) (ap Err ef)

  module _ (S : Sections) (h : r ≡ Ok S) where
    pub first_lacks : S.types ≤ a → Err Refusal.NoType ≡ subtype_of limits s a b
    unfolding subtype_of ask_of
    first_lacks l = rw (← e, h, types_long (meant s) S, le-leb _ _ l)

    pub second_lacks : a < S.types → S.types ≤ b → Err Refusal.NoType ≡ subtype_of limits s a b
    unfolding subtype_of ask_of
    second_lacks k l = rw (← e, h, types_long (meant s) S, lt-leb _ _ k, le-leb _ _ l)

    -- in the bytes that are meant
    module _ (t : List ℕ) (is : t ≡ meant s) where
      pub tables_there : GoodTables t S
      tables_there = subst (λ x. GoodTables x S) (sym is) (good_tables limits s r S e h)

      pub both_there : (q : Answer) → a < S.types → b < S.types → q ≡ record { holds = below_at (tables_of t S) a b; pairs = pairs_at (tables_of t S) a b } → Ok q ≡ subtype_of limits s a b
      unfolding subtype_of
      both_there q k l c = both_asked t S a b k l q c ∙ rw (← e, h, is)

-- For every readable file under limits in range, and two types of it, the answer is yes exactly when the rules derive that the first is below the second.
answered_yes : (c : Bool) (k : ℕ) → (answered c k ≡ answered true k) ↔ (c ≡ true)
answered_yes true k = (λ e. refl, λ e. refl)
answered_yes false k = (λ e. let z = ap (yes_after 0) e in absurd (omega arith), λ e. absurd (false≢true e))

pub asked_yes : (T : Tables) (a b : ℕ) → a < length T.types → b < length T.types → ask_of T a b ≡ answered (below_at T a b) (pairs_at T a b)
unfolding ask_of
asked_yes T a b h k = rw (lt-leb _ _ h, lt-leb _ _ k)

pub question_asks : (limits : Limits) → in_range limits ≡ true → (s : List ℕ) (p : Program) (a b : ℕ) → IsFile limits s p → subtype_of limits s a b ≡ ask_of p.tables a b
unfolding subtype_of
question_asks limits range s p a b f =
    let (good, back) = reading-of limits s p f in
    rw (reading_in_range limits s range, good, back)

pub question_yes : (limits : Limits) → in_range limits ≡ true → (s : List ℕ) (p : Program) (a b : ℕ) → IsFile limits s p → a < length p.tables.types → b < length p.tables.types → (subtype_of limits s a b ≡ answered true (pairs_at p.tables a b)) ↔ SubRet (declared p.tables) (type_of p.tables a) (type_of p.tables b)
question_yes limits range s p a b f h k =
    let T = p.tables in
    let is : subtype_of limits s a b ≡ answered (below_at T a b) (pairs_at T a b) = question_asks limits range s p a b f ∙ asked_yes T a b h k in
    let yes = answered_yes (below_at T a b) (pairs_at T a b) in
    let derives = below_is (declared T) (type_of T a) (type_of T b) in
    (λ e. derives.0 (yes.0 (sym is ∙ e)), λ d. is ∙ yes.1 (derives.1 d))

-- the answer on a file that was read, by its three tests and its count
abbrev by_tests : Bool → Bool → Bool → ℕ → Result Answer Refusal
by_tests x y z k = pick x (Err Refusal.NoType) (pick y (Err Refusal.NoType) (answered z k))

-- What the number, the yes and the count of an answer say of a program and two types.
module _ (p : Program) (parts : ℕ) (formed : TypesFormed parts p.tables) (a b : ℕ) where
  one_lacks : (said : ℕ) → (length p.tables.types ≤ a) ⊎ (length p.tables.types ≤ b) → AnswersOn p a b 17 said 0
  one_lacks said l =
      let none : HasBoth p a b → ⊥ = λ h. ⊎_elim (λ m. omega (arith, h.0)) (λ m. omega (arith, h.1)) l in
      record {
        lacks = (λ z. l, λ z. refl);
        says_yes = (λ z. absurd (omega (arith, z.0)), λ z. absurd (none z.0));
        says_no = (λ z. absurd (omega (arith, z.0)), λ z. absurd (none z.0));
        counted = λ z. absurd (omega (arith, z));
        most = λ z. absurd (omega (arith, z));
        itself = λ z e w. absurd (omega (arith, z));
      }

  module _ (h : HasBoth p a b) where
    none_lacks : ◌≡◌ {A = ℕ} 0 17 ↔ ((length p.tables.types ≤ a) ⊎ (length p.tables.types ≤ b))
    none_lacks = (λ z. absurd (omega (arith, z)), λ l. absurd (⊎_elim (λ m. omega (arith, h.0)) (λ m. omega (arith, h.1)) l))

    parts-at : (i : ℕ) → i < length p.tables.types → parts_at p.tables i ≡ parts_ty (type_of p.tables i)
    parts-at i l = parts_written p.tables formed i l

    fewer : pairs_at p.tables a b + 1 ≤ parts_at p.tables a + parts_at p.tables b
    fewer = omega (arith, below_most (declared p.tables) (type_of p.tables a) (type_of p.tables b), parts-at a h.0, parts-at b h.1)

    all_parts : type_of p.tables a ≡ type_of p.tables b → is_formed (declared p.tables) (type_of p.tables a) ≡ true → pairs_at p.tables a b ≡ parts_at p.tables a
    all_parts e w =
        ap (below_pairs (declared p.tables) (type_of p.tables a)) (sym e)
        ∙ below_exact (declared p.tables) (type_of p.tables a) w
        ∙ sym (parts-at a h.0)

    derived : Below p a b → AnswersOn p a b 0 1 (pairs_at p.tables a b)
    derived d = record {
      lacks = none_lacks;
      says_yes = (λ z. (h, d), λ z. (refl, refl));
      says_no = (λ z. absurd (omega (arith, z.1)), λ z. absurd (z.1 d));
      counted = λ z. refl;
      most = λ z. fewer;
      itself = λ z. all_parts;
    }

    underived : (Below p a b → ⊥) → AnswersOn p a b 0 0 (pairs_at p.tables a b)
    underived u = record {
      lacks = none_lacks;
      says_yes = (λ z. absurd (omega (arith, z.1)), λ z. absurd (u z.1));
      says_no = (λ z. (h, u), λ z. (refl, refl));
      counted = λ z. refl;
      most = λ z. fewer;
      itself = λ z. all_parts;
    }

  -- by the three tests
  tested : (old : ℕ) (x y z : Bool) → leb (length p.tables.types) a ≡ x → leb (length p.tables.types) b ≡ y → below_at p.tables a b ≡ z → let r = by_tests x y z (pairs_at p.tables a b) in AnswersOn p a b (refusal_number r) (yes_after old r) (pairs_of r)
  tested old true y z e f g = one_lacks _ (inl (leb-true _ _ e))
  tested old false true z e f g = one_lacks _ (inr (leb-true _ _ f))
  tested old false false true e f g = derived (leb-false _ _ e, leb-false _ _ f) ((below_is _ _ _).0 g)
  tested old false false false e f g = underived (leb-false _ _ e, leb-false _ _ f) λ d. let is = (below_is _ _ _).1 d in let z : ◌≡◌ {A = ℕ} 0 1 = cc in omega arith

  asked_answers : (old : ℕ) → let r = ask_of p.tables a b in AnswersOn p a b (refusal_number r) (yes_after old r) (pairs_of r)
  unfolding ask_of
  asked_answers old = tested old _ _ _ refl refl refl

-- a question that is asked is refused under 17 alone
high : (x y z : Bool) (k : ℕ) → (refusal_number (by_tests x y z k) ≡ 0) ⊎ (refusal_number (by_tests x y z k) ≡ 17)
high true y z k = inr refl
high false true z k = inr refl
high false false true k = inl refl
high false false false k = inl refl

asked_high : (T : Tables) (a b : ℕ) → (refusal_number (ask_of T a b) ≡ 0) ⊎ (refusal_number (ask_of T a b) ≡ 17)
unfolding ask_of
asked_high T a b = high (leb (length T.types) a) (leb (length T.types) b) (below_at T a b) (pairs_at T a b)

-- a refusal leaves what was there, and counts 0
yes_stays : (old : ℕ) (r : Result Answer Refusal) → (refusal_number r ≡ 0 → ⊥) → yes_after old r ≡ old
yes_stays old (Err f) h = refl
yes_stays old (Ok q) h = absurd (h refl)

counts_none : (r : Result Answer Refusal) → (refusal_number r ≡ 0 → ⊥) → pairs_of r ≡ 0
counts_none (Err f) h = refl
counts_none (Ok q) h = absurd (h refl)

-- What they say of limits and bytes.
module _ (limits : Limits) (s : List ℕ) (a b old : ℕ) where
  asked : in_range limits ≡ true → (p : Program) → IsFile limits s p → let r = subtype_of limits s a b in AnswersOn p a b (refusal_number r) (yes_after old r) (pairs_of r)
  asked range p f =
      subst (λ x. AnswersOn p a b (refusal_number x) (yes_after old x) (pairs_of x)) (sym (question_asks limits range s p a b f)) (asked_answers p limits.parts (types-formed limits.parts p.tables f.types) a b old)

  unread_is : (u : Unreadable) → reading_of limits s ≡ Err u → subtype_of limits s a b ≡ Err (Refusal.Unreadable u)
  unfolding subtype_of
  unread_is u e = rw e

  answers_at : (q : Result Sections Unreadable) → reading_of limits s ≡ q → Reads limits s (number_of q) → let r = subtype_of limits s a b in Answers limits s a b (refusal_number r) old (yes_after old r) (pairs_of r)
  answers_at (Err u) e d =
      let is = ap refusal_number (unread_is u e) in
      record {
        out_of_range = subst (λ m. (m ≡ 25) ↔ (in_range limits ≡ false)) (sym is) d.out_of_range;
        asked = asked;
        refused = subst (λ m. ((1 ≤ m) × (m ≤ 5)) ↔ ((in_range limits ≡ true) × (IsProgramFile limits s → ⊥))) (sym is) d.refused;
        unread = λ range none. is ∙ sym (ap number_of e);
        unchanged = yes_stays old (subtype_of limits s a b);
        none = counts_none (subtype_of limits s a b);
      }
  answers_at (Ok S) e d =
      let (range, file) = d.read.0 refl in
      let is = ap refusal_number (question_asks limits range s file.program a b file.file) in
      let few = asked_high file.program.tables a b in
      record {
        out_of_range = (λ z. absurd (⊎_elim (λ n. omega (arith, n, is, z)) (λ n. omega (arith, n, is, z)) few), λ out. absurd (let z : ◌≡◌ {A = ℕ} 0 1 = cc in omega arith));
        asked = asked;
        refused = (λ l. absurd (⊎_elim (λ n. omega (arith, n, is, l.0)) (λ n. omega (arith, n, is, l.1)) few), λ none. absurd (none.1 file));
        unread = λ range none. absurd (none file);
        unchanged = yes_stays old (subtype_of limits s a b);
        none = counts_none (subtype_of limits s a b);
      }

-- The answer is the definition's, and so its number, its yes and its count say this of every input.
pub with_answers : (limits : Limits) (s : List ℕ) (a b : ℕ) (q : Result Sections Unreadable) → (q ≡ reading_of limits s) × ReadsTables limits s q → (r : Result Answer Refusal) → r ≡ subtype_of limits s a b → (r ≡ subtype_of limits s a b) × ((old : ℕ) → Answers limits s a b (refusal_number r) old (yes_after old r) (pairs_of r))
with_answers limits s a b q d r e =
    (e, λ old. subst (λ x. Answers limits s a b (refusal_number x) old (yes_after old x) (pairs_of x)) (sym e) (answers_at limits s a b old q (sym d.0) d.1.reads))

-- With larger limits in range yes, no and 17 stay.
pub subtype_grows : (l m : Limits) → in_range m ≡ true → Within l m → (s : List ℕ) → Bytes s → (a b : ℕ) → (refusal_number (subtype_of l s a b) ≡ 0) ⊎ (refusal_number (subtype_of l s a b) ≡ 17) → subtype_of m s a b ≡ subtype_of l s a b
unfolding subtype_of
subtype_grows l m range w s y a b k = go (reading_of l s) refl
  where
    go : (r : Result Sections Unreadable) → reading_of l s ≡ r → subtype_of m s a b ≡ subtype_of l s a b
    go (Err u) e =
        let is = ap refusal_number (unread_is l s a b 0 u e) in
        absurd (⊎_elim
        (λ out. ⊎_elim (λ z. omega (arith, z, is, out)) (λ z. omega (arith, z, is, out)) k)
        (λ low. ⊎_elim (λ z. omega (arith, z, is, low.0)) (λ z. omega (arith, z, is, low.1)) k)
        (refused_numbers l s u e))
    go (Ok S) e = rw (e, read_grows l m range w s y S e)
