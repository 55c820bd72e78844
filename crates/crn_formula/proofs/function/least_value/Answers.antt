use Rattle.std.proofs.Common.{◌≡◌, ◌∙◌, ◌-◌, ap, subst, get_or, length, take, drop, [], arith}
use Rattle.std.specs.Prelude.{OkIff, All}
use Rattle.std.specs.List.{fold}
use Rattle.std.proofs.lemmas.List.{take_all, length-drop}
use Rattle.crn_fraction.specs.Rational.{min_ℚ}
use Rattle.crn_linear.specs.Forms.{at, IsValueInReach}
use Rattle.crn_linear.proofs.Values.{get_or-default}
use Rattle.crn_formula.proofs.Steps.{least_from}
use Rattle.crn_formula.proofs.function.least_value.Goals as goal

pub returns : goal.returns
returns c =
    let forms = c.args.forms.now in
    let x = c.args.x.now in
    let first : c.index-forms-0.result ≡ get_or forms 0 [] = c.index-forms-0.is ∙ get_or-default forms 0 c.index-forms-0.result [] c.requires.some in
    let rest : take (length forms - 1) (drop 1 forms) ≡ drop 1 forms = take_all (length forms - 1) (drop 1 forms) (omega (arith, length-drop 1 forms)) in
    least_from c.least_with.result forms x c.in_ok-first.first c.requires.some
    (subst (λ f. IsValueInReach f x) first c.in_ok-first.ensures.0) (c.in_ok-first.ensures.1 ∙ ap (λ f. at f x) first)
    (subst (λ fs. OkIff c.least_with.result (All (λ f. IsValueInReach f x) fs) (fold (λ m f. min_ℚ m (at f x)) c.in_ok-first.first fs)) rest c.least_with.ensures)
