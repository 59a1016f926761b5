-- Return marks by the text of a program alone (document 02, (i)), for one who reads rows: in an accepted outcome the row of each statement,
-- block and function has its mark (`outcome_marks`); and a refusal under 14 is where `FourteenAt` says (`outcome_fourteen`). Assumes nothing.
use mathlib.Core.Path.{◌≡◌, refl, ap, sym, subst, ◌∙◌}
use mathlib.Core.Bool.{Bool, true, false}
use mathlib.Core.List.{List, [], ◌∷◌}
use Prim.Native.Nat.{ℕ, zero, suc, ◌*◌, ◌≤◌}
use native.Mathlib.Omega.{arith}
use lib.ListN.{length, get_or, take}
use Rattle.oat.specs.ProgramFile.{Limits, in_range, Program, IsFile}
use Rattle.oat.specs.Marks.{mark_of, EachMark, decl_marks}
use Rattle.oat.proofs.LawsMarks.{each_map}
use Rattle.typing_rules.specs.Steps.{struct_name, steps_of}
use Rattle.typing_rules.specs.Check.{Ran, accepted, refused, answer_of, check_of}
use Rattle.typing_rules.specs.Marks.{FourteenAt}
use Rattle.typing_rules.proofs.Theorem.{run_of}
use Rattle.typing_rules.proofs.Marks.{marks_row}
use Rattle.typing_rules.proofs.Early.{fourteen_at}
use Rattle.demand3.specs.CheckFile.{needed, Outcome, Checks}
use Rattle.demand3.specs.Demand3.{Demand3}
use Rattle.demand3.proofs.LawsOutcomeRows.{its_derivation}
use Rattle.demand3.proofs.Theorem.{sum_of, outcome_is}

-- a mark among the first k numbers is read in the list as among them
no_mark : (b : Bool) → 65535 ≡ mark_of b → ⊥
no_mark true e = omega (arith, e)
no_mark false e = omega (arith, e)

kept : (k : ℕ) (l : List ℕ) (i : ℕ) (b : Bool) → get_or (take k l) i 65535 ≡ mark_of b → get_or l i 65535 ≡ mark_of b
kept zero l i b e = absurd (no_mark b e)
kept (suc k) [] i b e = e
kept (suc k) (x ∷ l) zero b e = e
kept (suc k) (x ∷ l) (suc i) b e = kept k l i b e

pub outcome_marks : {p : Program} {rows : List ℕ} {o : Outcome} → Demand3 p rows o → o.number ≡ 0
    → EachMark (λ k. get_or o.rows (2 * k.node) 65535 ≡ mark_of k.returns) (decl_marks 0 p.declarations)
outcome_marks {p} {o = o} demand e =
    let d = its_derivation demand e in
    each_map (λ k h. kept (needed p) o.rows (2 * k.node) k.returns h)
    (marks_row p d.labels d.context (take (needed p) o.rows) d.derives (demand.its_rows d.labels d.context d.derives))

-- of the definition's answer
fourteen_of : (p : Program) → (check_of p).number ≡ 14 → FourteenAt (get_or (steps_of p) (check_of p).step (struct_name 0)) (check_of p).place
unfolding check_of
fourteen_of p e = go (run_of p) refl e
  where
    go : (r : Ran) → run_of p ≡ r → (answer_of p (sum_of p) r).number ≡ 14
        → FourteenAt (get_or (steps_of p) (answer_of p (sum_of p) r).step (struct_name 0)) (answer_of p (sum_of p) r).place
    go (accepted gs k) h z = absurd (omega (arith, z))
    go (refused m j q) h z = fourteen_at p j q (h ∙ ap (λ n. refused n j q) z)

pub outcome_fourteen : {limits : Limits} {bytes rows work : List ℕ} → in_range limits ≡ true → (p : Program) → IsFile limits bytes p → needed p ≤ length rows → needed p ≤ length work
    → {o : Outcome} → Checks limits bytes rows work o → o.number ≡ 14 → FourteenAt (get_or (steps_of p) o.step (struct_name 0)) o.place
outcome_fourteen {limits} {bytes} {rows} {work} range p file long long-too {o} checks e =
    let is = outcome_is limits bytes rows work range p file long long-too o checks in
    subst (λ u. FourteenAt (get_or (steps_of p) u.step (struct_name 0)) u.place) (sym is) (fourteen_of p (sym (ap (λ u. u.number) is) ∙ e))
