use Rattle.crn_program.proofs.Causes.{segment_stops, stops_segment, no_value_for, refused_for}
use Rattle.crn_program.proofs.laws.refusals_have_causes.Goals as goal

pub returns-clause-segment : goal.returns-clause-segment
returns-clause-segment c net ok a us t e segments = (segment_stops net ok a us t e segments, stops_segment net ok a us t e segments)

pub returns-clause-completion : goal.returns-clause-completion
returns-clause-completion c net ok d o = (no_value_for net ok d o, refused_for net ok d o)
