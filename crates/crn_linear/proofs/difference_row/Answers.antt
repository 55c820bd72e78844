use Rattle.std.proofs.Common.{sym, subst, ◌≤◌, ◌^◌}
use Rattle.std.specs.Result.{OkIff}
use Rattle.std.proofs.lemmas.Result.{err_from_is_err_and}
use Rattle.crn_fraction.specs.Rational.{0ℚ}
use Rattle.crn_linear.specs.Forms.{minus}
use Rattle.crn_linear.specs.Rows.{AreSmall}
use Rattle.crn_linear.specs.Strengths.{row_with}
use Rattle.crn_linear.specs.Cleared.{IsSmallFrac, common_den, numerators, unit_of, cleared}
use Rattle.crn_linear.proofs.Minus.{all_of}
use Rattle.crn_linear.proofs.Units.{common_den-small, units_small}
use Rattle.crn_linear.proofs.difference_row.Goals as goal

pub returns-in_err-units : goal.returns-in_err-units
unfolding cleared
returns-in_err-units c =
    let form = minus c.args.a.now c.args.b.now in
    let p = err_from_is_err_and c.from_residual.result c.from_residual.ensures.1 in
    rw p.1 (λ small. c.in_err-units.ensures (all_of IsSmallFrac (unit_of form) 0ℚ (units_small form small)))

pub returns-in_err-common : goal.returns-in_err-common
unfolding cleared
returns-in_err-common c =
    let form = minus c.args.a.now c.args.b.now in
    let p = err_from_is_err_and c.from_residual-in_err-common.result c.from_residual-in_err-common.ensures.1 in
    rw p.1 (λ small. c.in_err-common.ensures (subst (λ us. common_den us ≤ 2 ^ 59) (sym c.in_ok-units.ensures.1) (common_den-small form small)))

pub returns : goal.returns
unfolding cleared
returns c = subst (λ us. OkIff c.numerators.result (AreSmall (numerators us)) (row_with (numerators us) c.args.strength)) c.in_ok-units.ensures.1 c.numerators.ensures
