-- `tree::node_right` meets its contract. Assumes nothing.
use mathlib.Core.Path.{sym, ◌∙◌}
use borrow.Author.Rules.{rules}
use Rattle.node_tree.proofs.LawsPlaces.{right_not_admitted, right_x_wrong, right_t_wrong, function_typed, right_count}
use Rattle.node_tree.proofs.tree.node_right.Goals as goal
use Rattle.node_tree.proofs.tree.node_right.Goals.{then-admits, else-admits, then-x_fits, else-x_fits}

pub params-requires : goal.params-requires
params-requires c = (
  search rules,
  λ e. elim c.if-x_fits.branch [ then-x_fits w ↦ function_typed _ _ _ _ _ _ _ c.requires w.kind_of.ensures.0 w.t_fits.ensures (sym w.value-is ∙ c.if-t_fits.true) e | else-x_fits w ↦ absurd cc ],
)

pub returns-then-t_fits : goal.returns-then-t_fits
returns-then-t_fits c =
    elim c.if-x_fits.branch [
      | then-x_fits w ↦ elim c.if-admits.branch [
        | then-admits v ↦ right_count _ _ _ _ _ c.requires _ c.number-kind.ensures.0 _ c.admits.ensures v.if-admits.true _ v.number.ensures.0 _ v.x_fits.ensures (sym v.value-is ∙ w.if-x_fits.true) _ _ c.number-t.ensures.0 w.kind_of.ensures.0 _ w.t_fits.ensures (sym w.value-is ∙ c.if-t_fits.true) _ _ _ c.number-then-t_fits.ensures.0 c.params.ensures.0 c.count_fits.ensures
        | else-admits v ↦ absurd cc
      ]
      | else-x_fits w ↦ absurd cc
    ]

pub returns-else-t_fits : goal.returns-else-t_fits
returns-else-t_fits c =
    rw c.if-t_fits.false
    (elim c.if-x_fits.branch [
      | then-x_fits w ↦ elim c.if-admits.branch [
        | then-admits v ↦ right_t_wrong _ _ _ _ _ c.requires _ c.number-kind.ensures.0 _ c.admits.ensures v.if-admits.true _ v.number.ensures.0 _ v.x_fits.ensures (sym v.value-is ∙ w.if-x_fits.true) _ _ c.number-t.ensures.0 w.kind_of.ensures.0 _ w.t_fits.ensures (sym w.value-is ∙ c.if-t_fits.false)
        | else-admits v ↦ absurd cc
      ]
      | else-x_fits w ↦ elim c.if-admits.branch [
        | then-admits v ↦ right_x_wrong _ _ _ _ _ c.requires _ c.number-kind.ensures.0 _ c.admits.ensures v.if-admits.true _ v.number.ensures.0 _ v.x_fits.ensures (sym v.value-is ∙ w.if-x_fits.false)
        | else-admits v ↦ right_not_admitted _ _ _ _ _ c.requires _ c.number-kind.ensures.0 _ c.admits.ensures v.if-admits.false
      ]
    ])
