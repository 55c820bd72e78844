use Rattle.crn_form_text.proofs.ParsedWalks.{walked_form, walked_formula, no_walk}
use Rattle.crn_form_text.proofs.laws.walks_by_cases.Goals as goal

pub returns-clause-forms : goal.returns-clause-forms
returns-clause-forms c = walked_form

pub returns-clause-formulas : goal.returns-clause-formulas
returns-clause-formulas c = walked_formula

pub returns-clause-none : goal.returns-clause-none
returns-clause-none c = no_walk
