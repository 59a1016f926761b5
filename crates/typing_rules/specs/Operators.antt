-- Document 01, 'Typing': what operators take and give: operators 0 to 5, 14, 15 take ints to int; 6 to 9 ints to bool; 12, 13 bools to
-- bool; 10, 11 need both subtype directions (the premises are in Rules). And the types of literals. A type is said by its number: fixed
-- types 0 int, 1 bool, 2 string. Assumes nothing.
use Rattle.std.specs.Prelude.{Bool, ◌||◌, ℕ, eqb, leb}
use Rattle.oat.specs.Basics.{pick}
use Rattle.oat.specs.Types.{Ty, int, bool, string}
use Rattle.oat.specs.Syntax.{Literal, truth, falsity, integer, text}

-- operators 10 and 11, == and !=: any two types that are below each other
abbrev pub is_equality : ℕ → Bool
is_equality x = eqb x 10 || eqb x 11

-- what a binary operator other than 10 and 11 takes on both sides: 12 and 13, & and |, bools; the others ints
abbrev pub operand_type : ℕ → ℕ
operand_type x = pick (eqb x 12 || eqb x 13) 1 0

-- what a binary operator gives: 0 to 5, 14 and 15 int; 6 to 13 bool
abbrev pub result_type : ℕ → ℕ
result_type x = pick (leb x 5 || leb 14 x) 0 1

-- what a unary operator takes and gives: 0 - and 2 ~ int, 1 ! bool
abbrev pub unary_type : ℕ → ℕ
unary_type x = pick (eqb x 1) 1 0

-- the type with the number 0, 1 or 2, written out
abbrev pub base_type : ℕ → Ty
base_type k = pick (eqb k 0) int (pick (eqb k 1) bool string)

-- the type of a literal: 11 and 12 bool, 13 int, 14 string
abbrev pub literal_type : Literal → ℕ
literal_type truth = 1
literal_type falsity = 1
literal_type (integer x) = 0
literal_type (text x) = 2
