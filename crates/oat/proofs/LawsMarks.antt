-- Return marks by the text of a program alone: what holds of each or of some mark of two lists, and the definition on small blocks, computed. Assumes
-- nothing.
use mathlib.Core.Path.{◌≡◌, refl}
use mathlib.Core.Bool.{true, false}
use mathlib.Core.List.{List, [], ◌∷◌, ◌++◌}
use Rattle.oat.specs.Syntax.{truth, falsity, literal, name, no_var, no_condition, condition, Stmt, return_void, if_else, if_null, for, while, step, Block, block, empty, then, function}
use Rattle.oat.specs.Marks.{stmt_returns, Mark, mark_at, vars_marks, block_marks, decl_marks, EachMark, each_none, each_next, SomeMark, this_mark, later_mark}

pub each_append : {P : Mark → Type 0} (ks : List Mark) {js : List Mark} → EachMark P ks → EachMark P js → EachMark P (ks ++ js)
each_append [] each_none j = j
each_append (k ∷ ks) (each_next h e) j = each_next h (each_append ks e j)

pub each_map : {P Q : Mark → Type 0} {ks : List Mark} → ((k : Mark) → P k → Q k) → EachMark P ks → EachMark Q ks
each_map f each_none = each_none
each_map f (each_next {k} h e) = each_next (f k h) (each_map f e)

pub some_left : {P : Mark → Type 0} {ks : List Mark} (js : List Mark) → SomeMark P ks → SomeMark P (ks ++ js)
some_left js (this_mark h) = this_mark h
some_left js (later_mark s) = later_mark (some_left js s)

pub some_right : {P : Mark → Type 0} (ks : List Mark) {js : List Mark} → SomeMark P js → SomeMark P (ks ++ js)
some_right [] s = s
some_right (k ∷ ks) s = later_mark (some_right ks s)

-- while(true) { }
abbrev pub loop : Stmt
loop = while (literal truth) (block empty)

-- a block of one statement
abbrev pub only : Stmt → Block
only s = block (then s empty)

pub marks_computed :
    -- an empty block may go on
    (block_marks (block empty) 7 ≡ mark_at 7 true false ∷ [])
    -- the loop as the last statement returns, and with it the block; the loop's own block goes on
    × (block_marks (only loop) 0 ≡ mark_at 0 true true ∷ mark_at 1 true true ∷ mark_at 3 true false ∷ [])
    -- before a return it goes on
    × (block_marks (block (then loop (then return_void empty))) 0 ≡ mark_at 0 true true ∷ mark_at 1 false false ∷ mark_at 3 true false ∷ mark_at 4 true true ∷ [])
    -- as a for's step it goes on, and so does the for
    × (block_marks (only (for no_var no_condition (step loop) (only loop))) 0
    ≡ mark_at 0 true false ∷ mark_at 1 true false ∷ mark_at 3 false false ∷ mark_at 5 true false ∷ mark_at 6 true true ∷ mark_at 7 true true ∷ mark_at 9 true false ∷ [])
    -- in an arm of an if, the last of the arm, beside a return in the other arm: the if returns, also where a statement follows
    × (block_marks (only (if_else (name 1) (only loop) (only return_void))) 0
    ≡ mark_at 0 true true ∷ mark_at 1 true true ∷ mark_at 3 true true ∷ mark_at 4 true true ∷ mark_at 6 true false ∷ mark_at 7 true true ∷ mark_at 8 true true ∷ [])
    × (stmt_returns false (if_else (name 1) (only loop) (only return_void)) ≡ true)
    -- beside an empty arm it goes on
    × (stmt_returns true (if_null 1 2 (name 1) (only loop) (block empty)) ≡ false)
    -- another condition, and a for whose condition is true
    × (stmt_returns true (while (literal falsity) (only return_void)) ≡ false)
    × (stmt_returns true (while (name 1) (only return_void)) ≡ false)
    × (stmt_returns true (for no_var (condition (literal truth)) (step loop) (block empty)) ≡ false)
    -- a function of two parameters
    × (decl_marks 0 (function 1 4 (2 ∷ 3 ∷ []) (only loop) ∷ []) ≡ mark_at 0 true true ∷ mark_at 3 true true ∷ mark_at 4 true true ∷ mark_at 6 true false ∷ [])
unfolding stmt_returns vars_marks block_marks decl_marks
marks_computed = (refl, refl, refl, refl, refl, refl, refl, refl, refl, refl, refl)
