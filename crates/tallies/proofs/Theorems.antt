-- The claims of document 02, (iv), of a call of `tally`: it answers 19 exactly when the check accepts and either buffer is short
-- (`tally_short_accepted`, `tally_short`), and 512 and 2,048 numbers are always enough: the answer is the check's (`tally_enough`). Under 0 each
-- tally adds up to the count of nodes of kinds 10 to 21 and 23 to 26 (`tally_by_type`, `tally_by_declaration`), and the tally by type is that of
-- the types of the file's derivation: under the lowest number of a type stands how many expressions have it (`tally_of_type`), under any other
-- number 0 (`tally_elsewhere`). Assumes nothing.
use mathlib.Core.Path.{◌≡◌, refl, ap, sym, ◌∙◌}
use mathlib.Core.Bool.{Bool, true, false, ◌&&◌}
use mathlib.Core.List.{List, [], ◌∷◌, ◌++◌}
use mathlib.Core.Logic.{◌↔◌, ◌⊎◌, inl, inr, ⊎_elim}
use Prim.Native.Nat.{ℕ, suc, ◌+◌, ◌≤◌, ◌<◌}
use native.Mathlib.Omega.{arith}
use lib.ListN.{length, get_or, take, drop, get_or-append}
use lib.Seq.{take_at}
use lib.Dec.{eqb}
use borrow.Author.Tests.{eqb-true, eqb-false, ne_eqb}
use Rattle.oat.specs.Tables.{Tables}
use Rattle.oat.specs.Types.{Ty, type_of}
use Rattle.oat.specs.Decide.{same_ty}
use Rattle.oat.specs.Syntax.{Decl, size_decl}
use Rattle.oat.specs.Nodes.{is_expression}
use Rattle.oat.specs.ProgramFile.{Limits, Program, IsFile}
use Rattle.oat.proofs.LawsBasics.{and_right, tabulate_long, tabulate_at}
use Rattle.type_index.proofs.LawsIndex.{first_type, first-equal, firsts_same}
use Rattle.typing_rules.specs.Contexts.{Context}
use Rattle.typing_rules.specs.Labels.{Labels}
use Rattle.typing_rules.specs.Steps.{type_given, DerivesFile}
use Rattle.demand3.proofs.LawsOutcomeRows.{outcome_expression}
use Rattle.demand3.proofs.Theorem.{after_acceptance, accepted_file}
use Rattle.typing.specs.declared.check.Answer.{Answer as CheckAnswer}
use Rattle.typing.specs.Check.{outcome_of}
use Rattle.tallies.specs.declared.Answer.{Answer}
use Rattle.tallies.specs.Tallies.{count_below, expression_count, lowest_equal, type_in_row, is_under, by_type, by_declaration, total, is_of_type}
use Rattle.tallies.specs.Tally.{type_count, declaration_count, same_answer, AfterAcceptance, short, tallied, Tallied}
use Rattle.tallies.proofs.LawsCounts.{count_alike, count_none}
use Rattle.tallies.proofs.LawsTallies.{by_type_total, by_declaration_total}
use Rattle.tallies.proofs.LawsTally.{accepted_is, accepted_rows}
use Rattle.tallies.proofs.LawsWalk.{two_each}

-- how long the tallies are
by_type_long : (T : Tables) (R : List ℕ) → length (by_type T R) ≡ length T.types
unfolding by_type
by_type_long T R = tabulate_long (length T.types) (λ t. count_below (length T.nodes) (is_under T R t))

by_declaration_long : (T : Tables) (n : ℕ) (ds : List Decl) → length (by_declaration T n ds) ≡ length ds
unfolding by_declaration
by_declaration_long T n [] = refl
by_declaration_long T n (d ∷ ds) = ap suc (by_declaration_long T (n + size_decl d) ds)

by_type_at : (T : Tables) (R : List ℕ) (t : ℕ) → t < length T.types → get_or (by_type T R) t 0 ≡ count_below (length T.nodes) (is_under T R t)
unfolding by_type
by_type_at T R t h = tabulate_at (length T.types) (λ t. count_below (length T.nodes) (is_under T R t)) t 0 h

-- both tallies are written
record Written (p : Program) (R' A B A' B' : List ℕ) : Type 0 where
  types : A' ≡ by_type p.tables R' ++ drop (type_count p) A
  declarations : B' ≡ by_declaration p.tables 0 p.declarations ++ drop (declaration_count p) B

written : {p : Program} {c : CheckAnswer} {R' A B A' B' : List ℕ} {r : Answer} → AfterAcceptance p c R' A B r A' B' → r.number ≡ 0 → Written p R' A B A' B'
written (short h) e = absurd (omega (arith, e))
written (tallied h k) e = record { types = refl; declarations = refl }

-- what is known after acceptance
short_of : {p : Program} {c : CheckAnswer} {R' A B A' B' : List ℕ} {r : Answer} → c.number ≡ 0 → AfterAcceptance p c R' A B r A' B' → (r.number ≡ 19) ↔ ((length A < type_count p) ⊎ (length B < declaration_count p))
short_of z (short h) = (λ e. h, λ l. refl)
short_of z (tallied h k) = (λ e. absurd (omega (arith, z, e)), λ l. absurd (⊎_elim (λ x. omega (arith, x, h)) (λ x. omega (arith, x, k)) l))

enough_of : {p : Program} {c : CheckAnswer} {R' A B A' B' : List ℕ} {r : Answer} → AfterAcceptance p c R' A B r A' B' → type_count p ≤ length A → declaration_count p ≤ length B → r ≡ same_answer c
enough_of (short h) l k = absurd (⊎_elim (λ x. omega (arith, x, l)) (λ x. omega (arith, x, k)) h)
enough_of (tallied h k) l m = refl

module _ {l : Limits} {F R W A B R' W' A' B' : List ℕ} {r : Answer} (t : Tallied l F R W A B R' W' A' B' r) where
  accepts : (r.number ≡ 0) ⊎ ((17 ≤ r.number) × (r.number ≤ 24)) → t.check.number ≡ 0
  accepts = after_acceptance (outcome_of t.check R') t.checked.checks r.number (λ o. ap (λ (a : Answer). a.number) (t.refused o).0)

  pub tally_short_accepted : r.number ≡ 19 → t.check.number ≡ 0
  tally_short_accepted e = accepts (inr (omega (arith, e), omega (arith, e)))

  pub tally_short : (p : Program) → IsFile l F p → (r.number ≡ 19) ↔ ((t.check.number ≡ 0) × ((length A < type_count p) ⊎ (length B < declaration_count p)))
  tally_short p f = (
    λ e. let z = tally_short_accepted e in (z, (short_of z (t.accepted z p f)).0 e),
    λ k. (short_of k.0 (t.accepted k.0 p f)).1 k.1,
  )

  -- at most 512 types, and at most 4,096 nodes, two for each declaration
  pub tally_enough : 512 ≤ length A → 2048 ≤ length B → r ≡ same_answer t.check
  tally_enough h k = go (eqb t.check.number 0) refl
    where
      go : (b : Bool) → eqb t.check.number 0 ≡ b → r ≡ same_answer t.check
      go true i =
          let z = eqb-true t.check.number 0 i in
          let (p, f) = accepted_file l F R W (outcome_of t.check R') t.checked.checks z in
          enough_of (t.accepted z p f) (omega (arith, h, f.counts.types)) (omega (arith, k, two_each p.declarations, f.used_up, f.counts.nodes))
      go false i = (t.refused (eqb-false t.check.number 0 i)).0

module _ {l : Limits} {F R W A B R' W' A' B' : List ℕ} {r : Answer} (t : Tallied l F R W A B R' W' A' B' r) (e : r.number ≡ 0) where
  check_accepts : t.check.number ≡ 0
  check_accepts = accepts t (inl e)

  module _ (p : Program) (f : IsFile l F p) where
    both : Written p R' A B A' B'
    both = written (t.accepted check_accepts p f) e

    types_front : take (type_count p) A' ≡ by_type p.tables R'
    types_front = ap (take (type_count p)) both.types ∙ take_at (by_type p.tables R') (drop (type_count p) A) (type_count p) (by_type_long p.tables R')

    pub tally_by_type : total (take (type_count p) A') ≡ expression_count p.tables
    tally_by_type = ap total types_front ∙ by_type_total p.tables R' (accepted_rows t.checked check_accepts p f)

    pub tally_by_declaration : total (take (declaration_count p) B') ≡ expression_count p.tables
    tally_by_declaration =
        ap (λ L. total (take (declaration_count p) L)) both.declarations
        ∙ ap total (take_at (by_declaration p.tables 0 p.declarations) (drop (declaration_count p) B) (declaration_count p) (by_declaration_long p.tables 0 p.declarations))
        ∙ by_declaration_total p.tables p.declarations f.used_up

    -- what stands under the number of a type
    under : (u : ℕ) → u < type_count p → get_or A' u 0 ≡ count_below (length p.tables.nodes) (is_under p.tables R' u)
    under u h =
        ap (λ L. get_or L u 0) both.types
        ∙ get_or-append (by_type p.tables R') (drop (type_count p) A) 0 u (omega (arith, h, by_type_long p.tables R'))
        ∙ by_type_at p.tables R' u h

    pub tally_of_type : (D : Labels Ty) (C : Context Ty) → DerivesFile p D C → (u : ℕ) → u < type_count p → lowest_equal p.tables u ≡ u
        → get_or A' u 0 ≡ count_below (length p.tables.nodes) (is_of_type p.tables D u)
    tally_of_type D C d u h low = under u h ∙ count_alike (length p.tables.nodes) (is_under p.tables R' u) (is_of_type p.tables D u) (λ i k. go i k (is_expression p.tables i) refl)
      where
        T : Tables
        T = p.tables

        -- an expression's row has a number of its type
        of_type : (i : ℕ) → i < length T.nodes → is_expression T i ≡ true → eqb (lowest_equal T (type_in_row R' i)) u ≡ same_ty (type_given (D i).result) (type_of T u)
        of_type i k x =
            let (v, gives-v, number) = outcome_expression (accepted_is t.checked check_accepts p f) check_accepts D C d f.stand i (omega (arith, k, f.used_up)) x in
            ap (λ n. eqb (lowest_equal T (type_in_row R' i)) n) (sym low)
            ∙ firsts_same (type_of T) (type_in_row R' i) u
            ∙ ap (λ y. same_ty y (type_of T u)) (number.written ∙ sym (ap type_given gives-v))

        go : (i : ℕ) → i < length T.nodes → (b : Bool) → is_expression T i ≡ b → is_under T R' u i ≡ is_of_type T D u i
        go i k true x = ap (λ b. is_expression T i && b) (of_type i k x)
        go i k false x = rw x refl

    pub tally_elsewhere : (u : ℕ) → u < type_count p → (lowest_equal p.tables u ≡ u → ⊥) → get_or A' u 0 ≡ 0
    tally_elsewhere u h other = under u h ∙ count_none (length p.tables.nodes) (is_under p.tables R' u) (λ i k. and_right (is_expression p.tables i) _ (ne_eqb _ u (never (type_in_row R' i))))
      where
        -- the lowest number of a type is its own lowest number
        never : (n : ℕ) → lowest_equal p.tables n ≡ u → ⊥
        never n x =
            let T = p.tables in
            let same : type_of T u ≡ type_of T n = ap (type_of T) (sym x) ∙ first_type (type_of T) n in
            other (first-equal (type_of T) u n same ∙ x)
