use Rattle.crn_gates.proofs.Chain.{goes_to_end, goes_before}
use Rattle.crn_gates.proofs.laws.gates_in_turn.Goals as goal

pub returns-clause-last : goal.returns-clause-last
returns-clause-last c = goes_to_end

pub returns-clause-earlier : goal.returns-clause-earlier
returns-clause-earlier c = goes_before
