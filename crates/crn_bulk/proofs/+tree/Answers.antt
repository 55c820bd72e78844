use Rattle.std.proofs.Common.{ap, arith}
use Rattle.crn_bulk.proofs.TreeLaws.{tree_joins}
use Rattle.crn_bulk.proofs.+tree.Goals as goal

pub returns-clause-formula : goal.returns-clause-formula
returns-clause-formula t c =
    ap (λ d. d.made) (tree_joins c.args.forms.now c.args.z _ _ _ c.in_ok-left.z c.in_ok-right.z c.draw-number.result (omega (arith, c.requires.some, c.if-forms-eq1.false))
    c.in_ok-left.ensures.formula c.in_ok-left.ensures.number c.in_ok-right.ensures.formula c.in_ok-right.ensures.number c.draw-number.ensures.next c.in_ok-operator.ensures)

pub returns-clause-number : goal.returns-clause-number
returns-clause-number t c =
    ap (λ d. d.number) (tree_joins c.args.forms.now c.args.z _ _ _ c.in_ok-left.z c.in_ok-right.z c.draw-number.result (omega (arith, c.requires.some, c.if-forms-eq1.false))
    c.in_ok-left.ensures.formula c.in_ok-left.ensures.number c.in_ok-right.ensures.formula c.in_ok-right.ensures.number c.draw-number.ensures.next c.in_ok-operator.ensures)
