use Rattle.crn_form_text.proofs.ParsedLaws.{one_form_from, one_plain_form_from, one_formula_from}
use Rattle.crn_form_text.proofs.laws.one_meaning.Goals as goal

pub returns-clause-forms : goal.returns-clause-forms
returns-clause-forms c = one_form_from

pub returns-clause-plain : goal.returns-clause-plain
returns-clause-plain c = one_plain_form_from

pub returns-clause-formulas : goal.returns-clause-formulas
returns-clause-formulas c = one_formula_from
