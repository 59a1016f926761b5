-- Document 01's marked cases come out as the table has them: one theorem, computed; from the decisions to the rules go `below_is` and
-- `file_says`. Assumes nothing.
use mathlib.Core.Path.{◌≡◌, refl, sym, subst}
use mathlib.Core.Bool.{Bool, true, false}
use mathlib.Core.List.{List}
use Prim.Native.Nat.{ℕ}
use native.Mathlib.Omega.{arith}
use lib.Dec.{eqb}
use borrow.Author.Tests.{ne_eqb}
use Rattle.oat.specs.Tables.{file_of}
use Rattle.oat.specs.Types.{Ty, type_of, Struct, structs_of}
use Rattle.oat.specs.Subtyping.{SubRet}
use Rattle.oat.specs.Decide.{below}
use Rattle.oat.specs.ProgramFile.{widest, Program}
use Rattle.oat.proofs.LawsSubtyping.{below_is}
use Rattle.typing_rules.specs.Contexts.{Context}
use Rattle.typing_rules.specs.Labels.{Labels}
use Rattle.typing_rules.specs.Steps.{DerivesFile}
use Rattle.typing_rules.specs.Check.{Ran, accepted, refused, answer_of, check_of}
use Rattle.typing_rules.specs.PanCases.{Numbered, Body, pan_structs, A, B, C, nullable_a, array_a, array_b, from_a_to_b, from_b_to_a, pan_tables, pan_types, with_body, returning, going, either, pan_cases, Says, BelowIs, AnswerIs, AllHold, hold_none, hold_also}
use Rattle.typing_rules.proofs.LawsComputed.{computed, is_file, is-file}
use Rattle.typing_rules.proofs.LawsNumbers.{refused_number}
use Rattle.typing_rules.proofs.Theorem.{Fits, run_of, file_fits, accepted_derives, derives_accepted}

-- the rules say what the decision says
sub_says : (H : List Struct) (s t : Ty) (b : Bool) → below H s t ≡ b → Says b (SubRet H s t)
sub_says H s t true e = (below_is H s t).0 e
sub_says H s t false e = λ d. let y = (below_is H s t).1 d in let z : ◌≡◌ {A = ℕ} 0 1 = cc in omega arith

-- a derivation exists exactly where the answer is 0
abbrev Derived : Program → Type 0
Derived p = (D : Labels Ty) × (C : Context Ty) × DerivesFile p D C

run_says : (p : Program) → Fits p → (n : ℕ) (r : Ran) → run_of p ≡ r → Says (eqb (answer_of p n r).number 0) (Derived p)
run_says p f n (accepted gs k) e = let (m, D, C, o) = accepted_derives p f gs k e in (D, C, o.derives)
run_says p f n (refused m j q) e =
    let (low, high) = refused_number p m j q e in
    subst (λ b. Says b (Derived p)) (sym (ne_eqb m 0 (λ z. omega arith)))
    (λ d. let (gs, a) = derives_accepted p f d.0 d.1 d.2 in let z : ◌≡◌ {A = ℕ} 0 1 = cc in omega arith)

file_says : (p : Program) → Fits p → (n : ℕ) → (check_of p).number ≡ n → Says (eqb n 0) (Derived p)
unfolding check_of
file_says p f n e = subst (λ m. Says (eqb m 0) (Derived p)) e (run_says p f _ (run_of p) refl)

-- a case of the table
below_case : (s t : Numbered) (b : Bool) → type_of pan_tables s.number ≡ s.type → type_of pan_tables t.number ≡ t.type
    → below pan_structs s.type t.type ≡ b → BelowIs s t b
unfolding structs_of computed is_file
below_case s t b e f d = record {
  file = is-file widest pan_types refl;
  structs = refl;
  first = e;
  second = f;
  decision = d;
  rules = sub_says pan_structs s.type t.type b d;
}

body_case : (b : Body) (n : ℕ) → is_file widest (with_body b) ≡ true → (check_of (with_body b)).number ≡ n → AnswerIs b n
body_case b n i e =
    let f = is-file widest (with_body b) i in
    record { file = f; decision = e; rules = file_says (with_body b) (file_fits 100 (file_of (with_body b).tables) (with_body b) f) n e }

pub pan-cases : AllHold pan_cases
unfolding computed is_file
pan-cases =
    hold_also (below_case B A true refl refl refl)
    (hold_also (below_case A B false refl refl refl)
    (hold_also (below_case C A false refl refl refl)
    (hold_also (below_case A nullable_a true refl refl refl)
    (hold_also (below_case nullable_a A false refl refl refl)
    (hold_also (below_case array_b array_a false refl refl refl)
    (hold_also (below_case from_a_to_b from_b_to_a true refl refl refl)
    (hold_also (below_case from_b_to_a from_a_to_b false refl refl refl)
    (hold_also (body_case returning 0 refl refl)
    (hold_also (body_case going 14 refl refl)
    (hold_also (body_case (either returning returning) 0 refl refl)
    (hold_also (body_case (either returning going) 14 refl refl) hold_none)))))))))))
