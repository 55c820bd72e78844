use Rattle.std.proofs.Common.{ap, ◌∙◌, take}
use Rattle.crn_linear.specs.Strengths.{row_with}
use Rattle.crn_formula.proofs.Units.{unit_taken}
use Rattle.crn_formula.proofs.domain.unit_row.Goals as goal

pub returns : goal.returns
returns c = c.of.ensures ∙ ap (λ es. row_with es c.args.strength) (ap (λ l. take c.args.columns l) c.unit.ensures ∙ unit_taken c.args.columns c.args.index c.requires.columns)
