use Rattle.crn_completer.proofs.Fitting.{completion_fits, fitting_completion}
use Rattle.crn_completer.proofs.laws.fitting_completions.Goals as goal

pub returns : goal.returns
returns c net ok x = (completion_fits net ok.reactions x, fitting_completion net ok.reactions x)
