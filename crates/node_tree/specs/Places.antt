-- Nodes by their place in the file, as reading goes through them: counted in numbers, like the sections. Assumes nothing.
use Rattle.std.specs.Prelude.{◌≡◌, Bool, true, List, ℕ, ◌+◌, ◌*◌, ◌<◌, ◌≤◌, length, ltb, Option, None, Some}
use Rattle.oat.specs.Basics.{pick}
use Rattle.file_sections.specs.declared.Sections.{Sections}
use Rattle.file_sections.specs.Numbers.{number_at}
use Rattle.file_sections.specs.Layout.{Laid, tables_of}
use Rattle.node_tree.specs.Shape.{child_role}
use Rattle.node_tree.specs.Demands.{bit_of}
use Rattle.node_tree.specs.Tree.{Ending, Broken, At, node_right, children_of, tree_of}
use Rattle.node_tree.specs.declared.shape.Role.{Role}

-- the node n stands at the number `at`, or the nodes end there; the file has so many types
pub record Spot (s : List ℕ) (types at : ℕ) (S : Sections) (n : ℕ) : Type 0 where
  pub laid : Laid s S
  pub counted : types ≡ S.types
  pub place : at ≡ S.nodes_at + n * 4
  pub within : n ≤ S.nodes

-- there is such a node, or the nodes end there
pub record Standing (s : List ℕ) (types at : ℕ) : Type 0 where
  pub sections : Sections
  pub node : ℕ
  pub spot : Spot s types at sections node

-- there is such a node: its four numbers are in the file, as are the types
pub record Whole (s : List ℕ) (types at : ℕ) : Type 0 where
  pub standing : Standing s types at
  pub four : (at + 3) * 2 + 1 < length s
  pub before : types * 8 + 2 ≤ length s

-- the kind of the type t; 65,536 where there is no such type
unfoldable pub kind_for : List ℕ → ℕ → ℕ → ℕ
kind_for s types t = pick (ltb t types) (number_at s (1 + t * 4)) 65536

-- r says whether the node at the place is right
pub record RightAt (s : List ℕ) (types at : ℕ) (constant : Bool) (role : Role) (r : Bool) : Type 0 where
  pub is : (S : Sections) (n : ℕ) → Spot s types at S n → r ≡ node_right (tables_of s S) constant role n

-- r says that the node at the place is right in each role of this bit, or nothing
pub record PlainAt (s : List ℕ) (types at bit : ℕ) (r : Bool) : Type 0 where
  pub right : r ≡ true → (constant : Bool) (role : Role) → bit ≡ bit_of constant role → (S : Sections) (n : ℕ) → Spot s types at S n → node_right (tables_of s S) constant role n ≡ true

-- an ending as a place: none where the tree is broken
abbrev pub place_of : Sections → Ending → Option ℕ
place_of S Broken = None
place_of S (At n) = Some (S.nodes_at + n * 4)

-- r is where the children of a node end, the first of which stands at the place `first`
pub record Ends (s : List ℕ) (types kind : ℕ) (constant : Bool) (count first levels : ℕ) (r : Option ℕ) : Type 0 where
  pub is : (S : Sections) (n : ℕ) → Spot s types first S n → r ≡ place_of S (children_of (tree_of levels (tables_of s S) constant) (child_role kind count) count 0 n)
