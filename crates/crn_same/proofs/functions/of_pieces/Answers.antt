use Rattle.std.proofs.Common.{sym, subst, ◌∙◌}
use Rattle.crn_formula.specs.Views.{Function}
use Rattle.crn_pieces.specs.Views.{pieces_in}
use Rattle.crn_pieces.specs.Answers.{AreChecked}
use Rattle.crn_same.proofs.Comparing.{keeps_made}
use Rattle.crn_same.proofs.functions.of_pieces.Goals as goal

pub returns-in-Ok-to_formula-clause-formula : goal.returns-in-Ok-to_formula-clause-formula
returns-in-Ok-to_formula-clause-formula c =
    keeps_made c.args.function.variables c.args.function c.in-Ok.checked c.in-Ok-to_formula.formula c.in-Ok.ensures c.requires.pieces c.requires.domain c.function-checked.ensures.checked
    c.in-Ok-to_formula.ensures.formula c.in-Ok-to_formula.ensures.nodes
