-- Document 02, (i), as its theorems say it: a node of a program's functions by where it stands, and a block by its last statement. Assumes
-- nothing.
use Rattle.std.specs.Prelude.{List, ◌∷◌, ℕ, ◌+◌, length}
use Rattle.oat.specs.Syntax.{Stmt, Block, Stmts, empty, then, Decl, function, size_decl}
use Rattle.typing_rules.specs.Derivations.{Node, AtBlock}

-- in a function's block, of the declarations that stand from n on, the node u stands at m
pub data InBodies : ℕ → List Decl → ℕ → Node → Type 0 where
  in_body : {n m x t : ℕ} {ps : List ℕ} {b : Block} {ds : List Decl} {u : Node} → AtBlock b (n + 1 + length ps) m u → InBodies n (function x t ps b ∷ ds) m u
  in_others : {n m : ℕ} {d : Decl} {ds : List Decl} {u : Node} → InBodies (n + size_decl d) ds m u → InBodies n (d ∷ ds) m u

-- statements, and s after them as the last
abbrev pub ending_in : Stmts → Stmt → Stmts
ending_in empty s = then s empty
ending_in (then t ss) s = then t (ending_in ss s)
