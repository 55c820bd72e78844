use Rattle.std.proofs.Common.{arith, ap, subst, ◌≡◌, ◌∙◌, take}
use Rattle.std.specs.Result.{OkIff}
use Rattle.std.specs.Prelude.{replicate}
use Rattle.crn_fraction.specs.Rational.{0ℚ}
use Rattle.crn_linear.specs.Forms.{minus}
use Rattle.crn_linear.specs.Rows.{AreSmall}
use Rattle.crn_linear.specs.Strengths.{row_with}
use Rattle.crn_linear.specs.Cleared.{cleared}
use Rattle.crn_linear.proofs.Minus.{minus-zeros, IsPadded-zeros, seen-zeros}
use Rattle.crn_linear.proofs.row_of.Goals as goal

pub invariant_of-nothing-2 : goal.invariant_of-nothing-2
invariant_of-nothing-2 c =
    let columns = c.len.ensures.columns in
    let long = c.len.ensures.value in
    IsPadded-zeros c.len.result (omega (arith, columns.some)) (omega (arith, columns.few))

pub returns : goal.returns
returns c =
    let long = c.len.ensures.value in
    let few = c.len.ensures.columns.few in
    let nothing = seen-zeros c.len.result (omega arith) ∙ ap (λ n. replicate n 0ℚ) long in
    let same : minus c.args.form.now (take c.len.result (replicate 9 0ℚ)) ≡ c.args.form.now = ap (minus c.args.form.now) nothing ∙ minus-zeros c.args.form.now in
    subst (λ f. OkIff c.difference_row.result (AreSmall (cleared f)) (row_with (cleared f) c.args.strength)) same c.difference_row.ensures
