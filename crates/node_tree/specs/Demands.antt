-- What a node of a kind may be with no further question: numbers in place of the tests of `Shape`. A demand keeps to the rules where no node meets it
-- that they refuse; a node that does not meet it is asked by the rules. Assumes nothing.
use Rattle.std.specs.Prelude.{◌≡◌, Bool, true, not, ◌&&◌, ◌||◌, ℕ, ◌<◌, length, eqb, leb, ltb}
use Rattle.std.specs.Int.Bits.{bit_and}
use Rattle.oat.specs.Basics.{pick}
use Rattle.oat.specs.Tables.{Tables}
use Rattle.oat.specs.TypeRules.{kind_at}
use Rattle.node_tree.specs.Shape.{admits, x_fits, t_fits, count_fits}
use Rattle.node_tree.specs.declared.demands.Demand.{Demand}
use Rattle.node_tree.specs.declared.shape.Role.{Role}
use Rattle.node_tree.specs.declared.shape.Role.TheVariants.{Declaration, Parameter, Expression, Initializer, Target, Var, Statement, Block, Condition, Step}

-- a demand whose t is 0: no type has the kind 65,537
abbrev pub bare : ℕ → ℕ → ℕ → ℕ → Demand
bare limit least most roles = record { limit = limit; free = 1; typed = 65537; least = least; most = most; roles = roles }

-- a demand whose t is a type of this kind
abbrev pub typed : ℕ → ℕ → ℕ → ℕ → ℕ → Demand
typed kind limit least most roles = record { limit = limit; free = 0; typed = kind; least = least; most = most; roles = roles }

-- the bit of a role; where expressions must be constant, that of an expression and of a condition is another
abbrev pub bit_of : Bool → Role → ℕ
bit_of constant Declaration = 1
bit_of constant Parameter = 2
bit_of constant Expression = pick constant 1024 4
bit_of constant Initializer = 8
bit_of constant Target = 16
bit_of constant Var = 32
bit_of constant Statement = 64
bit_of constant Block = 128
bit_of constant Condition = pick constant 65536 256
bit_of constant Step = 512

-- a node of this demand may stand in the role of this bit
unfoldable pub stands_as : Demand → ℕ → Bool
stands_as d bit = not (eqb (bit_and d.roles bit) 0)

-- the operands and the child count are what the demand asks, where t is a type of the kind `kind`
unfoldable pub plain_for : Demand → ℕ → ℕ → ℕ → ℕ → Bool
plain_for d x t kind count =
    leb x d.limit && ((ltb t d.free || eqb kind d.typed) && (leb d.least count && leb count d.most))

-- the kind of the type t; 65,536 where there is no such type
unfoldable pub kind_or : Tables → ℕ → ℕ
kind_or T t = pick (ltb t (length T.types)) (kind_at T t) 65536

-- the answer r on the operand t of a node of the kind k is the rules' answer, in each file whose type t has the kind `kind`
pub record TypeFits (k t kind : ℕ) (r : Bool) : Type 0 where
  pub is : (T : Tables) → kind ≡ kind_or T t → r ≡ t_fits T k t

-- a node of the kind k that meets the demand may stand in the role, and its operands and its child count fit
pub record Keeps (k : ℕ) (d : Demand) : Type 0 where
  pub right : (T : Tables) (constant : Bool) (role : Role) (x t kind count : ℕ) → kind ≡ kind_or T t → kind < 65537 → stands_as d (bit_of constant role) ≡ true → plain_for d x t kind count ≡ true → (admits constant role k ≡ true) × (x_fits k x ≡ true) × (t_fits T k t ≡ true) × ((params : ℕ) → count_fits k params count ≡ true)
