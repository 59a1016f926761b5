-- The rows of an accepted file: those of every declaration stand at its node, so all rows are the definition's. Assumes nothing.
use mathlib.Core.Path.{◌≡◌, refl, ap, sym, subst, ◌∙◌}
use mathlib.Core.Bool.{Bool, true, false}
use mathlib.Core.List.{List, [], ◌∷◌}
use Prim.Native.Nat.{ℕ, ◌+◌, ◌*◌, ◌<◌}
use native.Mathlib.Omega.{arith}
use lib.ListN.{length, get_or, length-append}
use lib.Dec.{eqb}
use lib.Seq.{ext_get_or}
use borrow.Author.Tests.{eqb-true}
use Rattle.oat.specs.Basics.{pick}
use Rattle.oat.specs.Syntax.{Decl, size_decl, size_decls}
use Rattle.typing_rules.specs.Steps.{Step}
use Rattle.typing_rules.specs.Check.{Segment, segment_at, rows_from}
use Rattle.typing_rules.proofs.RowsTheorem.{SegmentsLong, long_none, long_next}
use Rattle.file_sections.specs.Frames.{ListAt}
use Rattle.file_sections.proofs.LawsFrames.{list_none, list_append}
use Rattle.typing.specs.Runs.{Written, written_none, written_next}

-- the segment that is found at a node stands there
segment_stands : {R : List ℕ} {ss : List Step} {gs : List Segment} (n : ℕ) → Written R ss gs → ListAt R (n * 2) (segment_at n gs)
unfolding segment_at
segment_stands {R} n written_none = list_none R (n * 2)
segment_stands {R} n (written_next {s = s} {g = g} {gs = gs} e l a w) = go (segment_stands n w) (eqb g.node n) (eqb (length g.rows) 0) refl
  where
    go : ListAt R (n * 2) (segment_at n gs) → (b c : Bool) → eqb g.node n ≡ b → ListAt R (n * 2) (pick b (pick c (segment_at n gs) g.rows) (segment_at n gs))
    go h false c q = h
    go h true true q = h
    go h true false q = subst (λ k. ListAt R (k * 2) g.rows) (sym e ∙ eqb-true g.node n q) a

rows_stand : {R : List ℕ} {ss : List Step} {gs : List Segment} (n : ℕ) (ds : List Decl) → SegmentsLong gs n ds → Written R ss gs → ListAt R (n * 2) (rows_from gs n ds)
unfolding rows_from
rows_stand {R} n [] long_none w = list_none R (n * 2)
rows_stand {R} {gs = gs} n (d ∷ ds) (long_next e h) w =
    list_append R (n * 2) (segment_at n gs) (rows_from gs (n + size_decl d) ds) (segment_stands n w)
    (subst (λ m. ListAt R m (rows_from gs (n + size_decl d) ds)) (omega arith) (rows_stand (n + size_decl d) ds h w))

rows_size : {gs : List Segment} (n : ℕ) (ds : List Decl) → SegmentsLong gs n ds → length (rows_from gs n ds) ≡ 2 * size_decls ds
unfolding rows_from
rows_size n [] long_none = refl
rows_size {gs} n (d ∷ ds) (long_next e h) = length-append (segment_at n gs) (rows_from gs (n + size_decl d) ds) ∙ omega (arith, rows_size (n + size_decl d) ds h)

pub rows_are : {R : List ℕ} {ss : List Step} {gs : List Segment} (ds : List Decl) → SegmentsLong gs 0 ds → Written R ss gs → length R ≡ 2 * size_decls ds → R ≡ rows_from gs 0 ds
rows_are {R} {gs = gs} ds h w l =
    ext_get_or 0 R (rows_from gs 0 ds) (l ∙ sym (rows_size 0 ds h)) (λ i b. sym (ap (λ x. get_or R x 0) (first i)) ∙ (rows_stand 0 ds h w).at i (subst (λ m. i < m) (l ∙ sym (rows_size 0 ds h)) b))
  where
    first : (i : ℕ) → 0 * 2 + i ≡ i
    first i = omega arith
