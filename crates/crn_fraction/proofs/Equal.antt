-- `==` of fractions says whether the numbers are equal.
use Rattle.std.proofs.Common.{◌≡◌, ap, arith}
use Rattle.std.specs.Prelude.{pos, ◌&&◌}
use Rattle.std.specs.Bool.{Decides}
use Rattle.std.specs.Ordering.{int_eq}
use Rattle.std.proofs.lemmas.Int.{ints}
use Rattle.std.proofs.lemmas.Bool.Decides.{Decides-int_eq, Decides-and}
use Rattle.crn_fraction.specs.Rational.{ℚ}
use Rattle.crn_fraction.specs.Parts.{same_parts}
use Rattle.crn_fraction.specs.Equality.{eq_fractions}

by_parts : (a b : ℚ) → Decides (int_eq a.num b.num && int_eq (pos a.den) (pos b.den)) (a ≡ b)
by_parts a b =
    let both = Decides-and (int_eq a.num b.num) (int_eq (pos a.den) (pos b.den)) (Decides-int_eq a.num b.num) (Decides-int_eq (pos a.den) (pos b.den)) in
    (λ t. let parts = both.0 t in same_parts a b parts.0 (let dens = parts.1 in omega (arith, ints, dens)), λ e. both.1 (ap (λ q. q.num) e, ap (λ q. pos q.den) e))

pub Decides-eq_fractions : (a b : ℚ) → Decides (eq_fractions a b) (a ≡ b)
Decides-eq_fractions a b = by_parts a b
