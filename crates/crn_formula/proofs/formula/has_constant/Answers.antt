use Rattle.std.proofs.Common.{sym, ap, ◌∙◌, arith, not, refl}
use Rattle.std.proofs.lemmas.List.{get_or_past}
use Rattle.crn_fraction.specs.Rational.{is_zero_ℚ, 0ℚ}
use Rattle.crn_fraction.proofs.Products.{is_zero_ℚ-zero}
use Rattle.crn_formula.proofs.Numbers.{is_zero_same}
use Rattle.crn_formula.proofs.formula.has_constant.Goals as goal

pub returns : goal.returns
returns c = ap not (is_zero_same _ _ c.is_zero.ensures ∙ ap is_zero_ℚ c.coeff.ensures)

pub returns-then-variables-len : goal.returns-then-variables-len
returns-then-variables-len c =
    let past = get_or_past c.args.form.now c.args.variables 0ℚ (omega (arith, c.if-variables-len.true, c.len.ensures.value)) in
    ap not (sym (ap is_zero_ℚ past ∙ (is_zero_ℚ-zero 0ℚ refl)))
