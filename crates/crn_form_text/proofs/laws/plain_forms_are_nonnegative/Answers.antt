use Rattle.crn_form_text.proofs.Meanings.{plain_long, plain_nonnegative}
use Rattle.crn_form_text.proofs.laws.plain_forms_are_nonnegative.Goals as goal

pub returns-clause-columns : goal.returns-clause-columns
returns-clause-columns c = plain_long

pub returns-clause-nonnegative : goal.returns-clause-nonnegative
returns-clause-nonnegative c = plain_nonnegative
