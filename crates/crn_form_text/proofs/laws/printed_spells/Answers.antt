use Rattle.crn_form_text.proofs.PrintLaws.{form_printed, formula_printed}
use Rattle.crn_form_text.proofs.laws.printed_spells.Goals as goal

pub returns-clause-forms : goal.returns-clause-forms
returns-clause-forms c = form_printed

pub returns-clause-formulas : goal.returns-clause-formulas
returns-clause-formulas c = formula_printed
