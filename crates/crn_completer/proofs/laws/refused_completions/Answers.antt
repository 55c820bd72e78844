use Rattle.crn_completer.proofs.CompletionCauses.{refused_completion, completion_refused}
use Rattle.crn_completer.proofs.laws.refused_completions.Goals as goal

pub returns : goal.returns
returns c net ok x e = (refused_completion net ok x e, completion_refused net ok x e)
