use Rattle.crn_token.proofs.BlankLaws.{lines_alone}
use Rattle.crn_token.proofs.laws.lines_stand_alone.Goals as goal

pub returns : goal.returns
returns c = λ number lines more. lines_alone number lines more
