-- The subtype question (document 01, 'Rows and answers'; document 02, (xi)): 25, then 1 to 5, then 17, then yes or no, of the types in the bytes
-- that are meant (document 02, (v)), with the count of the pairs of types compared (document 02, (viii)); and what its number, its yes and its
-- count say of the limits, the file and the rules. Assumes nothing.
use Rattle.std.specs.Prelude.{◌≡◌, Bool, true, false, List, ◌↔◌, ◌⊎◌, Result, Ok, Err, ℕ, ◌+◌, ◌≤◌, ◌<◌, length, leb}
use Rattle.oat.specs.Basics.{pick}
use Rattle.oat.specs.Tables.{Tables}
use Rattle.oat.specs.TypeRules.{parts_at}
use Rattle.oat.specs.Types.{type_of}
use Rattle.oat.specs.Subtyping.{SubRet}
use Rattle.oat.specs.Decide.{is_formed}
use Rattle.oat.specs.ProgramFile.{Limits, in_range, Program, meant, IsFile}
use Rattle.file_sections.specs.declared.Sections.{Sections}
use Rattle.file_sections.specs.declared.Unreadable.{Unreadable}
use Rattle.file_sections.specs.Unreadable.{unreadable_number}
use Rattle.file_sections.specs.Layout.{tables_of}
use Rattle.program_file.specs.Reading.{reading_of, number_of, IsProgramFile}
use Rattle.type_index.specs.Index.{declared}
use Rattle.subtyping.specs.Numbered.{below_at, pairs_at}
use Rattle.subtyping.specs.declared.question.Answer.{Answer}
use Rattle.subtyping.specs.declared.question.Refusal.{Refusal}

-- document 01's number for a refusal: that of the reading, or 17
abbrev pub number_of_refusal : Refusal → ℕ
number_of_refusal (Refusal.Unreadable e) = unreadable_number e
number_of_refusal Refusal.NoType = 17

-- yes or no, after k pairs
abbrev pub answered : Bool → ℕ → Result Answer Refusal
answered holds k = Ok (record { holds = holds; pairs = k })

-- the question on the tables of a file: 17 for a type that the file lacks
unfoldable pub ask_of : Tables → ℕ → ℕ → Result Answer Refusal
ask_of T a b =
    pick (leb (length T.types) a) (Err Refusal.NoType)
    (pick (leb (length T.types) b) (Err Refusal.NoType)
    (answered (below_at T a b) (pairs_at T a b)))

-- the question on a file that was read
abbrev pub on_reading : Result Sections Unreadable → (Sections → Result Answer Refusal) → Result Answer Refusal
on_reading (Err e) k = Err (Refusal.Unreadable e)
on_reading (Ok S) k = k S

-- is the type a below the type b?
unfoldable pub subtype_of : Limits → List ℕ → ℕ → ℕ → Result Answer Refusal
subtype_of limits s a b = on_reading (reading_of limits s) λ S. ask_of (tables_of (meant s) S) a b

-- document 01's number for an answer; yes and no are no refusals
abbrev pub refusal_number : Result Answer Refusal → ℕ
refusal_number (Err e) = number_of_refusal e
refusal_number (Ok r) = 0

-- 1 for yes, 0 for no; a refusal leaves what was there
abbrev pub yes_after : ℕ → Result Answer Refusal → ℕ
yes_after old (Err e) = old
yes_after old (Ok r) = pick r.holds 1 0

-- how many pairs of types were compared; a refused question counts 0
abbrev pub pairs_of : Result Answer Refusal → ℕ
pairs_of (Err e) = 0
pairs_of (Ok r) = r.pairs

-- the program has both types
abbrev pub HasBoth : Program → ℕ → ℕ → Type 0
HasBoth p a b = (a < length p.tables.types) × (b < length p.tables.types)

-- the rules derive that a is below b
abbrev pub Below : Program → ℕ → ℕ → Type 0
Below p a b = SubRet (declared p.tables) (type_of p.tables a) (type_of p.tables b)

-- what the number n, the value `yes` and the count `pairs` say of the types a and b of the program p
pub record AnswersOn (p : Program) (a b n yes pairs : ℕ) : Type 0 where
  -- 17 exactly when it lacks one of them
  pub lacks : (n ≡ 17) ↔ ((length p.tables.types ≤ a) ⊎ (length p.tables.types ≤ b))
  -- yes exactly when it has both and the rules derive it
  pub says_yes : ((n ≡ 0) × (yes ≡ 1)) ↔ (HasBoth p a b × Below p a b)
  -- no exactly when it has both and they do not
  pub says_no : ((n ≡ 0) × (yes ≡ 0)) ↔ (HasBoth p a b × (Below p a b → ⊥))
  -- either way the count is the definition's
  pub counted : n ≡ 0 → pairs ≡ pairs_at p.tables a b
  -- at most the parts of both types minus 1
  pub most : n ≡ 0 → pairs + 1 ≤ parts_at p.tables a + parts_at p.tables b
  -- for a type against itself whose structs are all declared exactly its parts
  pub itself : n ≡ 0 → type_of p.tables a ≡ type_of p.tables b → is_formed (declared p.tables) (type_of p.tables a) ≡ true → pairs ≡ parts_at p.tables a

-- what they say on the limits and the bytes F, where the value was `old` before
pub record Answers (limits : Limits) (F : List ℕ) (a b n old yes pairs : ℕ) : Type 0 where
  -- 25 exactly when a limit is out of its range
  pub out_of_range : (n ≡ 25) ↔ (in_range limits ≡ false)
  -- with limits in range, where the bytes are the file of a program: 17, yes or no
  pub asked : in_range limits ≡ true → (p : Program) → IsFile limits F p → AnswersOn p a b n yes pairs
  -- 1 to 5 exactly when they are no program file
  pub refused : ((1 ≤ n) × (n ≤ 5)) ↔ ((in_range limits ≡ true) × (IsProgramFile limits F → ⊥))
  -- and then it is the number of their reading
  pub unread : in_range limits ≡ true → (IsProgramFile limits F → ⊥) → n ≡ number_of (reading_of limits F)
  -- a refusal leaves the value as it was
  pub unchanged : (n ≡ 0 → ⊥) → yes ≡ old
  -- and counts 0
  pub none : (n ≡ 0 → ⊥) → pairs ≡ 0
