use Rattle.crn_linear.proofs.Equality.{Decides-eq_forms, Decides-eq_points, Decides-eq_rows}
use Rattle.crn_linear.proofs.laws.equality.Goals as goal

pub returns : goal.returns
returns c = record { forms = Decides-eq_forms; points = Decides-eq_points; rows = Decides-eq_rows }
