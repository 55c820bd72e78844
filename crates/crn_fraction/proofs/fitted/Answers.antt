use Rattle.std.proofs.Common.{arith, ⊎_elim, ap₂, ◌∙◌}
use Rattle.std.proofs.lemmas.Int.{ints}
use Rattle.crn_fraction.specs.Rational.{ratio}
use Rattle.crn_fraction.proofs.Values.{IsFrac-lowest, lowest_fits, kept_lowest}
use Rattle.crn_fraction.proofs.fitted.Goals as goal

pub returns-then-unsigned_abs-gt-LIMIT : goal.returns-then-unsigned_abs-gt-LIMIT
returns-then-unsigned_abs-gt-LIMIT c = λ h.
    let fit = lowest_fits c.args.num c.args.den c.requires h in
    ⊎_elim (λ big. absurd (omega (arith, ints, fit, c.unsigned_abs.ensures.value))) (λ big. absurd (omega (arith, fit, big.1)))
    c.then-unsigned_abs-gt-LIMIT.either

pub from_parts-requires : goal.from_parts-requires
from_parts-requires c = kept_lowest c.args.num c.args.den _ _ c.requires (omega (arith, ints)) (omega (arith, ints)) (omega (arith, ints))

pub returns : goal.returns
returns c = (
  IsFrac-lowest c.args.num c.args.den c.requires (omega (arith, ints)) (omega arith),
  c.from_parts.ensures ∙ ap₂ ratio (omega (arith, ints)) (omega (arith, ints)),
)
