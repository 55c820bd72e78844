use Rattle.crn_form_text.proofs.SmallSpelled.{form_spelled_fits, plain_spelled_fits, formula_spelled_fits}
use Rattle.crn_form_text.proofs.laws.small_numbers_fit.Goals as goal

pub returns-clause-forms : goal.returns-clause-forms
returns-clause-forms c k form ts spelled small = form_spelled_fits k form ts spelled small

pub returns-clause-plain : goal.returns-clause-plain
returns-clause-plain c k form ts spelled small = plain_spelled_fits k form ts spelled small

pub returns-clause-formulas : goal.returns-clause-formulas
returns-clause-formulas c k e ts few spelled small = formula_spelled_fits k e ts few spelled small
