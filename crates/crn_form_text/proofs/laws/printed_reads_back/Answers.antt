use Rattle.crn_form_text.proofs.ItemLaws.{form_is_printed, formula_is_printed}
use Rattle.crn_form_text.proofs.laws.printed_reads_back.Goals as goal

pub returns-clause-forms : goal.returns-clause-forms
returns-clause-forms c = form_is_printed

pub returns-clause-formulas : goal.returns-clause-formulas
returns-clause-formulas c = formula_is_printed
