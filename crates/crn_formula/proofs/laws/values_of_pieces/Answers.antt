use Rattle.crn_formula.proofs.Firsts.{holds, no_value, one_of}
use Rattle.crn_formula.proofs.laws.values_of_pieces.Goals as goal

pub returns : goal.returns
returns c = record { holds = holds; none = no_value; one = one_of }
