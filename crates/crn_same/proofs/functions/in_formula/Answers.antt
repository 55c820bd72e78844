use Rattle.std.proofs.Common.{⊎_elim}
use Rattle.crn_formula.specs.Functions.{IsGivenByPieces}
use Rattle.crn_formula.specs.Views.{kind_of}
use Rattle.crn_same.proofs.Comparing.{keeps_given}
use Rattle.crn_same.proofs.functions.in_formula.Goals as goal

pub returns-else-is_by_pieces-clause-formula : goal.returns-else-is_by_pieces-clause-formula
returns-else-is_by_pieces-clause-formula c =
    keeps_given c.args.function.variables c.args.function c.requires.comparable
    (⊎_elim (λ t. cc t) (λ (n : ¬ IsGivenByPieces (kind_of c.args.function.kind)). n) c.if-is_by_pieces.ensures.other)
