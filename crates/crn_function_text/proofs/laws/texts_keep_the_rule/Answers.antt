use Rattle.crn_function_text.proofs.Kept.{text_fits}
use Rattle.crn_function_text.proofs.KeptFracs.{text_kind_fracs, text_fracs}
use Rattle.crn_function_text.proofs.laws.texts_keep_the_rule.Goals as goal

pub returns-clause-rule : goal.returns-clause-rule
returns-clause-rule c lines f text low = text_fits lines f text low

pub returns-clause-printed : goal.returns-clause-printed
returns-clause-printed c bytes f text low = text_kind_fracs bytes f text low

pub returns-clause-numbers : goal.returns-clause-numbers
returns-clause-numbers c bytes f text low = text_fracs bytes f text low
