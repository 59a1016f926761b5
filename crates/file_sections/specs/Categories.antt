-- Document 01, 'The program file': the syntactic category of a node, by its kind. Assumes nothing.
use Rattle.std.specs.Prelude.{ℕ}
use Rattle.oat.specs.Basics.{pick}
use Rattle.oat.specs.Nodes.{is_declaration_kind, is_expression_kind, is_statement_kind}
use Rattle.file_sections.specs.declared.categories.Category.{Category}
use Rattle.file_sections.specs.declared.categories.Category.TheVariants.{Declaration, Expression, Statement, Other}

-- declarations, expressions, statements; all other kinds are of none
unfoldable pub category_of : ℕ → Category
category_of k =
    pick (is_declaration_kind k) Declaration
    (pick (is_expression_kind k) Expression
    (pick (is_statement_kind k) Statement Other))
