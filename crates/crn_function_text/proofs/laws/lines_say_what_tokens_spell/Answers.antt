use Rattle.crn_form_text.proofs.ParsedLaws.{form_from_is, is_form_from, plain_form_from_is, is_plain_form_from, formula_from_is, is_formula_from}
use Rattle.crn_function_text.proofs.laws.lines_say_what_tokens_spell.Goals as goal

pub returns-clause-form : goal.returns-clause-form
returns-clause-form c k form tokens = (form_from_is k form tokens, is_form_from k form tokens)

pub returns-clause-plain_form : goal.returns-clause-plain_form
returns-clause-plain_form c k form tokens = (plain_form_from_is k form tokens, is_plain_form_from k form tokens)

pub returns-clause-formula : goal.returns-clause-formula
returns-clause-formula c k e tokens = (formula_from_is k e tokens, is_formula_from k e tokens)
