use Rattle.std.specs.Cmp.Lexicographic.{pointwise}
use Rattle.crn_fraction.specs.Equality.{eq_fractions}
use Rattle.crn_linear.proofs.Distinct.{Contains-distinct, Contains-from_distinct, apart_distinct, distinct_new, distinct_old, Decides-same_forms}
use Rattle.crn_linear.proofs.laws.first_appearances.Goals as goal

pub returns : goal.returns
returns c = record {
  members = λ forms f. (Contains-from_distinct (pointwise eq_fractions) Decides-same_forms forms f, Contains-distinct (pointwise eq_fractions) Decides-same_forms forms f);
  once = apart_distinct (pointwise eq_fractions) Decides-same_forms;
  new = distinct_new (pointwise eq_fractions) Decides-same_forms;
  again = distinct_old (pointwise eq_fractions) Decides-same_forms;
}
