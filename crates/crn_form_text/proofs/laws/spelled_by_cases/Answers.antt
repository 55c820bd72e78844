use Rattle.crn_form_text.proofs.ParsedLaws.{form_from_is, is_form_from, plain_form_from_is, is_plain_form_from, formula_from_is, is_formula_from}
use Rattle.crn_form_text.proofs.laws.spelled_by_cases.Goals as goal

pub returns-clause-forms : goal.returns-clause-forms
returns-clause-forms c k form ts = (form_from_is k form ts, is_form_from k form ts)

pub returns-clause-plain : goal.returns-clause-plain
returns-clause-plain c k form ts = (plain_form_from_is k form ts, is_plain_form_from k form ts)

pub returns-clause-formulas : goal.returns-clause-formulas
returns-clause-formulas c k e ts = (formula_from_is k e ts, is_formula_from k e ts)
