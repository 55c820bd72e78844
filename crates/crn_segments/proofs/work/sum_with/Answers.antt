use Rattle.std.proofs.Common.{◌≡◌, Some, None, sym, ◌∙◌, ap, ap₂, subst, arith, to_z, of_z, ◌&&◌}
use Rattle.std.proofs.lemmas.Int.{ints}
use Rattle.std.specs.Int.{w64}
use Rattle.std.specs.Prelude.{if◌then◌else◌}
use Rattle.crn_fraction.specs.Frac.{IsFrac}
use Rattle.crn_fraction.specs.Rational.{◌+ℚ◌, ◌*ℚ◌, whole}
use Rattle.crn_segments.proofs.SignLaws.{frac_is, not_frac_is}
use Rattle.crn_segments.specs.Signs.{is_frac}
use Rattle.crn_segments.proofs.work.sum_with.Goals as goal
use Rattle.crn_segments.proofs.work.sum_with.Goals.{After-times}

same_product : (c : After-times) → c.args.flux *ℚ whole (to_z w64 (of_z w64 c.args.gain)) ≡ c.args.flux *ℚ whole c.args.gain
same_product c = let e : to_z w64 (of_z w64 c.args.gain) ≡ c.args.gain = omega (arith, ints, c.ranges.gain.sfits) in ap (λ k. c.args.flux *ℚ whole k) e

pub returns-in_default : goal.returns-in_default
returns-in_default c =
    let p = c.args.flux *ℚ whole c.args.gain in
    let e = same_product (goal.at.returns-in_default c).After-times in
    sym (ap (λ x. if x && is_frac (c.args.sum +ℚ p) then Some (c.args.sum +ℚ p) else None) (not_frac_is p (subst (λ q. IsFrac q → ⊥) e c.in_default.ensures)))

pub returns-in_default-add : goal.returns-in_default-add
returns-in_default-add c =
    let p = c.args.flux *ℚ whole c.args.gain in
    let e = same_product (goal.at.returns-in_default-add c).After-times in
    sym (ap₂ (λ x y. if x && y then Some (c.args.sum +ℚ p) else None) (frac_is p (subst IsFrac e c.in-Ok.ensures.0))
    (not_frac_is (c.args.sum +ℚ p) (subst (λ q. IsFrac (c.args.sum +ℚ q) → ⊥) (c.in-Ok.ensures.1 ∙ e) c.in_default-add.ensures)))

pub returns : goal.returns
returns c =
    let p = c.args.flux *ℚ whole c.args.gain in
    let e = same_product (goal.at.returns c).After-times in
    let both = c.in-Ok-add.ensures.1 ∙ ap (λ q. c.args.sum +ℚ q) (c.in-Ok.ensures.1 ∙ e) in
    ap Some both ∙ sym (ap₂ (λ x y. if x && y then Some (c.args.sum +ℚ p) else None) (frac_is p (subst IsFrac e c.in-Ok.ensures.0))
    (frac_is (c.args.sum +ℚ p) (subst IsFrac both (subst IsFrac (sym c.in-Ok-add.ensures.1) c.in-Ok-add.ensures.0))))
