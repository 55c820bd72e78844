use Rattle.std.proofs.Common.{◌∙◌, ap, ap₂, sym, subst}
use Rattle.std.proofs.lemmas.List.Sums.{fold_more}
use Rattle.std.proofs.lemmas.List.Elements.{All-more}
use Rattle.crn_fraction.specs.Rational.{min_ℚ}
use Rattle.crn_linear.specs.Forms.{at, IsValueInReach}
use Rattle.crn_formula.proofs.function.least_with.Goals as goal

pub loop-form-preserved : goal.loop-form-preserved
loop-form-preserved c =
    let x = c.args.x.now in
    record {
      value =
          c.least-least.ensures ∙ ap₂ min_ℚ c.loop-form.invariant.value (c.in_ok-value.ensures.1 ∙ ap (λ f. at f x) c.form-item.is)
          ∙ sym (fold_more (λ m f. min_ℚ m (at f x)) c.args.first c.args.forms.now c.loop-form.form-index c.form-item.result c.loop-form-test.true);
      reach = All-more (λ f. IsValueInReach f x) c.args.forms.now c.loop-form.form-index c.form-item.result c.loop-form-test.true
          c.loop-form.invariant.reach (subst (λ f. IsValueInReach f x) c.form-item.is c.in_ok-value.ensures.0);
    }
