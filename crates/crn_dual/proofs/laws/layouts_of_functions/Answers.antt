use Rattle.crn_dual.proofs.LayoutLaws.{fitting_over, fitting_context, fitting_value}
use Rattle.crn_dual.proofs.laws.layouts_of_functions.Goals as goal

pub returns-clause-over : goal.returns-clause-over
returns-clause-over c = fitting_over

pub returns-clause-context : goal.returns-clause-context
returns-clause-context c = fitting_context

pub returns-clause-value : goal.returns-clause-value
returns-clause-value c = fitting_value
