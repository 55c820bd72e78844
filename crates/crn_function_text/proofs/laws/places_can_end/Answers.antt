use Rattle.crn_function_text.proofs.GrammarLaws.{function_can_end}
use Rattle.crn_function_text.proofs.laws.places_can_end.Goals as goal

pub returns : goal.returns
returns c = function_can_end
