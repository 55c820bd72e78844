use Rattle.crn_fraction.proofs.Order.{min_ℚ_cases, max_ℚ_cases}
use Rattle.crn_fraction.proofs.Linear.{min_ℚ-below_left, min_ℚ-below_right, max_ℚ-above_left, max_ℚ-above_right}
use Rattle.crn_fraction.proofs.Products.{cmp_ℚ-Less, cmp_ℚ-Equal, cmp_ℚ-Greater}
use Rattle.crn_fraction.proofs.laws.order.Goals as goal

pub returns : goal.returns
returns c = record {
  less = cmp_ℚ-Less;
  equal = cmp_ℚ-Equal;
  greater = cmp_ℚ-Greater;
  below = λ a b. (min_ℚ-below_left a b, min_ℚ-below_right a b);
  least = min_ℚ_cases;
  above = λ a b. (max_ℚ-above_left a b, max_ℚ-above_right a b);
  greatest = max_ℚ_cases;
}
