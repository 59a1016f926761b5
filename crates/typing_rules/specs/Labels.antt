-- Document 01, 'Typing': what a derivation gives, node by node: each expression a type, each statement and block a return mark, each name
-- (kind 15) its binder, and all of these their scopes before and after; 3 and 40 have no rule and need none, and a 22 stands for its value.
-- A is what stands for a type, as in Contexts. Which labels are a derivation is said in Rules and Derivations. Assumes nothing.
use Rattle.std.specs.Prelude.{ℕ}
use Rattle.typing_rules.specs.Contexts.{Scope, empty}

-- what a node comes to
pub data Result (A : Type 0) : Type 0 where
  -- an expression's type
  gives : A → Result A
  -- a statement's or a block's return mark: 1, it returns; 0, it may go on
  marks : ℕ → Result A
  -- at a global, a function, a parameter, a field initializer and an absent node (1, 2, 3, 22, 40)
  nothing : Result A

-- a result, the binder of a name (65,535 for all others), and the scopes before and after
pub record Label (A : Type 0) : Type 0 where
  pub result : Result A
  pub binder : ℕ
  pub before : Scope A
  pub after : Scope A

-- a label for each node, by its number
abbrev pub Labels : Type 0 → Type 0
Labels A = ℕ → Label A

-- the label of a node that is given nothing
abbrev pub unlabelled : {A : Type 0} → Label A
unlabelled = record { result = nothing; binder = 65535; before = empty; after = empty }
