use Rattle.crn_fraction.proofs.LeastMultiple.{left-dvd-lcm, right-dvd-lcm, lcm-least}
use Rattle.crn_fraction.proofs.laws.multiples.Goals as goal

pub returns : goal.returns
returns c = record { common = λ a b. (left-dvd-lcm a b, right-dvd-lcm a b); least = lcm-least }
