use Rattle.std.proofs.Common.{ap, ◌≡◌, ◌∙◌, SFits, to_z, of_z, rules}
use Rattle.std.specs.Prelude.{pos, int_div}
use Rattle.std.specs.Int.{w128}
use Rattle.std.proofs.lemmas.Int.{to_z-of_z}
use Rattle.crn_feasible.proofs.Quotients.{no_quotient, small_zero, too_big, low_fits, low_is}
use Rattle.crn_feasible.proofs.numbers.over_divisor.Goals as goal
use Rattle.crn_feasible.proofs.numbers.over_divisor.Goals.{After-unsigned_abs}

pub returns-then-divisor-eq0 : goal.returns-then-divisor-eq0
returns-then-divisor-eq0 c = (no_quotient c.args.number c.args.divisor c.if-divisor-eq0.true, small_zero)

quotient_is : (c : After-unsigned_abs) → to_z w128 (of_z w128 c.quotient-quotient.result) ≡ int_div c.args.number (pos c.args.divisor)
quotient_is c =
    let in_range : SFits w128 c.quotient-quotient.result = search rules in
    to_z-of_z w128 c.quotient-quotient.result in_range ∙ c.quotient-quotient.ensures
    ∙ ap (λ n. int_div n (pos c.args.divisor)) (to_z-of_z w128 c.args.number c.ranges.number)

pub returns-then-unsigned_abs-gt-LIMIT : goal.returns-then-unsigned_abs-gt-LIMIT
returns-then-unsigned_abs-gt-LIMIT c =
    too_big _ _ c.unsigned_abs.result c.unsigned_abs.ensures.value (quotient_is (goal.at.returns-then-unsigned_abs-gt-LIMIT c).After-unsigned_abs) c.if-unsigned_abs-gt-LIMIT.true

pub overflow_cast-result : goal.overflow_cast-result
overflow_cast-result c =
    low_fits _ _ c.unsigned_abs.result c.unsigned_abs.ensures.value (quotient_is (goal.at.overflow_cast-result c).After-unsigned_abs) c.if-unsigned_abs-gt-LIMIT.false

pub returns : goal.returns
returns c =
    low_is _ _ c.unsigned_abs.result c.unsigned_abs.ensures.value (quotient_is (goal.at.returns c).After-unsigned_abs) c.if-unsigned_abs-gt-LIMIT.false
