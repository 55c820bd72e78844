use Rattle.std.proofs.Common.{arith, refl, sym, ap₂, ◌∙◌, ◌≡◌, ◌+◌, ◌<◌, subst, length, take}
use Rattle.std.proofs.lemmas.Result.{err_from_is_err_and}
use Rattle.crn_fraction.specs.Rational.{0ℚ, ◌+ℚ◌, ◌*ℚ◌}
use Rattle.crn_fraction.specs.Frac.{IsFrac}
use Rattle.crn_linear.specs.Forms.{at, entry_of}
use Rattle.crn_linear.proofs.Values.{at_more, reach_more, reach_none, get_or-default}
use Rattle.crn_linear.proofs.Form.at.Goals as goal
use Rattle.crn_linear.proofs.Form.at.Goals.{After-add}

pub loop-i-init : goal.loop-i-init
loop-i-init c = record { value = refl; reach = reach_none c.args.self.now c.args.x.now }

-- the product and the sum of this step
product_is : (c : After-add) → c.in_ok-product.product ≡ entry_of c.args.self.now c.loop-i.i *ℚ entry_of c.args.x.now c.loop-i.i
product_is c =
    let below : c.loop-i.i < length c.args.x.now = omega (arith, c.loop-i-test.true, c.len-i-end.ensures.value) in
    c.in_ok-product.ensures.1 ∙ ap₂ (λ a b. a *ℚ b) c.coeff.ensures (c.index-x-i.is ∙ get_or-default c.args.x.now c.loop-i.i c.index-x-i.result 0ℚ below)

sum_is : (c : After-add) → c.loop-i.sum +ℚ c.in_ok-product.product ≡ at (take (c.loop-i.i + 1) c.args.self.now) (take (c.loop-i.i + 1) c.args.x.now)
sum_is c = ap₂ (λ s p. s +ℚ p) c.loop-i.invariant.value (product_is c) ∙ at_more c.loop-i.i c.args.self.now c.args.x.now c.requires (omega (arith, c.loop-i-test.true, c.len-i-end.ensures.value))

pub returns-in_err-sum : goal.returns-in_err-sum
returns-in_err-sum c =
    let shared = (goal.at.returns-in_err-sum c).After-add in
    let p = err_from_is_err_and c.from_residual-in_err-sum.result c.from_residual-in_err-sum.ensures.1 in
    rw p.1 (λ reach. c.in_err-sum.ensures (subst IsFrac (sym (sum_is shared)) (reach.sums (c.loop-i.i + 1) (omega (arith, c.loop-i-test.true, c.len-i-end.ensures.value)))))

pub loop-i-preserved : goal.loop-i-preserved
loop-i-preserved c =
    let shared = (goal.at.loop-i-preserved c).After-add in
    record {
      value = c.in_ok-sum.ensures.1 ∙ sum_is shared;
      reach = reach_more c.args.self.now c.args.x.now c.loop-i.i c.loop-i.invariant.reach
          (subst IsFrac (product_is shared) (subst IsFrac (sym c.in_ok-product.ensures.1) c.in_ok-product.ensures.0))
          (subst IsFrac (sum_is shared) c.in_ok-sum.ensures.0);
    }
