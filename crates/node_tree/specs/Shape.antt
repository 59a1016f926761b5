-- Document 01, 'The program file': the shape of a node by its kind. Where it may stand, what its operands may be, how many
-- children it has and what each of them is. Assumes nothing.
use Rattle.std.specs.Prelude.{Bool, true, not, ◌&&◌, ◌||◌, ℕ, ◌+◌, eqb, leb}
use Rattle.oat.specs.Basics.{pick}
use Rattle.oat.specs.Tables.{Tables, type_at}
use Rattle.oat.specs.TableRules.{has_kind}
use Rattle.oat.specs.Nodes.{has_reference_kind}
use Rattle.node_tree.specs.declared.shape.Role.{Role}
use Rattle.node_tree.specs.declared.shape.Role.TheVariants.{Declaration, Parameter, Expression, Initializer, Target, Var, Statement, Block, Condition, Step}

-- the number lies between two others
abbrev pub within : ℕ → ℕ → ℕ → Bool
within a k b = leb a k && leb k b

-- the kinds of expressions; in a global's tree 10 to 16 and 21 alone
unfoldable pub is_expression : Bool → ℕ → Bool
is_expression constant k = within 10 k 16 || eqb k 21 || (not constant && (within 17 k 20 || within 23 k 26))

-- the kinds of statements
unfoldable pub is_statement : ℕ → Bool
is_statement k = within 30 k 38

-- a node of the kind k may stand in this role; `constant` says that it is in a global's tree
unfoldable pub admits : Bool → Role → ℕ → Bool
admits constant Declaration k = eqb k 1 || eqb k 2
admits constant Parameter k = eqb k 3
admits constant Expression k = is_expression constant k
admits constant Initializer k = eqb k 22
admits constant Target k = eqb k 15 || eqb k 19 || eqb k 23
admits constant Var k = eqb k 31
admits constant Statement k = is_statement k
admits constant Block k = eqb k 39
admits constant Condition k = eqb k 40 || is_expression constant k
admits constant Step k = eqb k 40 || is_statement k

-- x: a name, a literal number, an index name or an operator; else 0
unfoldable pub x_fits : ℕ → ℕ → Bool
x_fits k x =
    pick (within 1 k 3 || within 13 k 15 || eqb k 18 || eqb k 22 || eqb k 23 || eqb k 31 || eqb k 36) true
    (pick (eqb k 25) (leb x 2)
    (pick (eqb k 26) (leb x 15) (eqb x 0)))

-- t: a type of the kind that the node asks for; else 0
unfoldable pub t_fits : Tables → ℕ → ℕ → Bool
t_fits T k t =
    pick (eqb k 2) (has_kind T t 6)
    (pick (eqb k 10) (has_kind T t 7)
    (pick (within 16 k 18) (has_kind T t 5)
    (pick (eqb k 21) (has_kind T t 4)
    (pick (eqb k 36) (has_reference_kind T t) (eqb t 0)))))

-- how many parameters a function of type t has
unfoldable pub params_of : Tables → ℕ → ℕ → ℕ
params_of T k t = pick (eqb k 2) (type_at T t).c 0

-- how many children a node of the kind k has; a function has its parameters and a block
unfoldable pub count_fits : ℕ → ℕ → ℕ → Bool
count_fits k params count =
    pick (eqb k 1 || eqb k 17 || eqb k 20 || eqb k 22 || eqb k 23 || eqb k 25 || eqb k 31 || eqb k 32) (eqb count 1)
    (pick (eqb k 2) (eqb count (params + 1))
    (pick (eqb k 18 || eqb k 19 || eqb k 26 || eqb k 30 || eqb k 38) (eqb count 2)
    (pick (eqb k 35 || eqb k 36) (eqb count 3)
    (pick (eqb k 24 || eqb k 34) (leb 1 count)
    (pick (eqb k 37) (leb 3 count)
    (pick (eqb k 16 || eqb k 21 || eqb k 39) true (eqb count 0)))))))

-- the role of the child i of `count` in a for: vars, condition, step, block
unfoldable pub for_role : ℕ → ℕ → Role
for_role count i =
    pick (eqb (i + 1) count) Block
    (pick (eqb (i + 2) count) Step
    (pick (eqb (i + 3) count) Condition Var))

-- the role of the child i of `count` below a node of the kind k
unfoldable pub child_role : ℕ → ℕ → ℕ → Role
child_role k count i =
    pick (eqb k 2) (pick (eqb (i + 1) count) Block Parameter)
    (pick (eqb k 21) Initializer
    (pick (eqb k 30) (pick (eqb i 0) Target Expression)
    (pick (eqb k 35 || eqb k 36 || eqb k 38) (pick (eqb i 0) Expression Block)
    (pick (eqb k 37) (for_role count i)
    (pick (eqb k 39) Statement Expression)))))
