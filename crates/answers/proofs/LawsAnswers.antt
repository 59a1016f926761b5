-- Laws of the answers: what a leaf function makes, and the value of a field of a struct literal. Assumes nothing.
use mathlib.Core.Path.{◌≡◌, refl, ap, sym, ◌∙◌}
use mathlib.Core.Bool.{Bool, true, false, not, ◌&&◌, and-false}
use mathlib.Core.List.{List}
use Prim.Native.Nat.{ℕ, ◌+◌, ◌<◌}
use native.Mathlib.Omega.{arith}
use borrow.Author.Tests.{not-false}
use Rattle.std.specs.Prelude.{Option, Some, None}
use Rattle.oat.specs.Types.{struct_of}
use Rattle.oat.specs.Pairs.{Compared as Question}
use Rattle.oat.specs.Basics.{pick}
use Rattle.file_sections.specs.declared.Sections.{Sections}
use Rattle.file_sections.specs.Layout.{tables_of, GoodTables}
use Rattle.file_sections.proofs.LawsRecords.{structs_long}
use Rattle.typing_rules.specs.Rules.{member}
use Rattle.typing_rules.specs.Judge.{member_asked}
use Rattle.typing_rules.proofs.LawsFields.{member_of}
use Rattle.fields.specs.Lookup.{number_of, field_in}
use Rattle.fields.proofs.LawsLookup.{member-in, found_under}
use Rattle.subtyping.specs.declared.below.Compared.{Compared}
use Rattle.answers.specs.declared.answer.Judgement.{Judgement}
use Rattle.answers.specs.declared.answer.At.{At as Place}
use Rattle.answers.specs.declared.answer.Judged.{Judged}
use Rattle.answers.specs.Answers.{structs_alone, AnswerIs, Asks, AndAsked}

-- an answer, from what a leaf function makes
pub answered : {j : Judgement} {n s k : ℕ} {a : Place} {r : Judged} → r ≡ record { judgement = j; at = a } → a.node ≡ n → a.scope ≡ s → a.pairs ≡ k → AnswerIs j n s k r
answered e en es ep =
    record { judged = ap (λ x. x.judgement) e; next = ap (λ x. x.at.node) e ∙ en; scope = ap (λ x. x.at.scope) e ∙ es; sum = ap (λ x. x.at.pairs) e ∙ ep }

-- a question after those that hold, answered by c
next_asked : (b c r : Compared) (q : Question) → not b.holds ≡ false → c.holds ≡ q.holds → c.pairs ≡ q.pairs → r ≡ record { holds = c.holds; pairs = b.pairs + c.pairs } → AndAsked b q r
next_asked b c r q h ch cp e = record {
  holds = ap (λ x. x.holds) e ∙ ch ∙ ap (λ x. x && q.holds) (sym (not-false b.holds h));
  pairs = ap (λ x. x.pairs) e ∙ ap (λ x. b.pairs + x) cp ∙ ap (λ x. b.pairs + pick x q.pairs 0) (sym (not-false b.holds h));
}

pick_none : (c : Bool) → ◌≡◌ {A = ℕ} (pick c 0 0) 0
pick_none true = refl
pick_none false = refl

-- a value of the type t, for the field x of the struct record r
module _ (F : List ℕ) (S : Sections) (b : Compared) (t r x : ℕ) (f : Option ℕ) (ef : number_of f ≡ field_in (tables_of F S) r x) (h : r < S.structs) where
  -- the field written out
  field_member : member x (struct_of (tables_of F S) r).fields ≡ member_of (tables_of F S) (number_of f)
  field_member = member-in (tables_of F S) r x (omega (arith, structs_long F S)) ∙ ap (member_of (tables_of F S)) (sym ef)

  abbrev field_asked : Question
  field_asked = member_asked (tables_of F S) (structs_alone (tables_of F S)) t (member x (struct_of (tables_of F S) r).fields)

  pub fits_none : (a : Compared) → f ≡ None → a.holds ≡ false → a.pairs ≡ b.pairs → AndAsked b field_asked a
  unfolding member_of
  fits_none a e h p = record {
    holds = rw (field_member, e) (h ∙ sym (and-false b.holds));
    pairs = rw (field_member, e) (p ∙ omega (arith, pick_none b.holds));
  }

  pub fits_field : (u : ℕ) (c a : Compared) → not b.holds ≡ false → f ≡ Some u → Asks (tables_of F S) t u c → a ≡ record { holds = c.holds; pairs = b.pairs + c.pairs } → AndAsked b field_asked a
  unfolding member_of
  fits_field u c a k e s ea = next_asked b c a field_asked k (rw (field_member, e) s.0) (rw (field_member, e) s.1) ea

-- the field's type is a type of the file
pub field_there : (F : List ℕ) (S : Sections) (r x u : ℕ) (f : Option ℕ) → GoodTables F S → number_of f ≡ field_in (tables_of F S) r x → f ≡ Some u → u < S.types
field_there F S r x u f R ef e = found_under F S R r x u (sym ef ∙ ap number_of e)
