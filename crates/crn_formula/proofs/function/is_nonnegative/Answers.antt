use Rattle.std.proofs.Common.{sym, ap, ◌∙◌, arith, below_more, true≢false, refl, subst}
use Rattle.std.proofs.lemmas.Int.{ints}
use Rattle.crn_fraction.specs.Rational.{0ℚ, ◌≤ℚ◌}
use Rattle.crn_linear.specs.Forms.{entry_of}
use Rattle.crn_linear.proofs.Values.{get_or-default}
use Rattle.crn_formula.proofs.Numbers.{nonneg_num}
use Rattle.crn_formula.proofs.function.is_nonnegative.Goals as goal

pub returns-then-num-lt0 : goal.returns-then-num-lt0
returns-then-num-lt0 c = (
  λ e. absurd (true≢false (sym e)),
  λ h.
      let n = (nonneg_num (entry_of c.args.form.now c.loop-i.i)).0 (h c.loop-i.i 0ℚ (omega (arith, c.loop-i-test.true, c.len-i-end.ensures.value))) in
      let same = c.num.ensures.value ∙ ap (λ q. q.num) c.coeff.ensures in
      absurd (omega (arith, ints, n, same, c.if-num-lt0.true)),
)

pub loop-i-preserved : goal.loop-i-preserved
loop-i-preserved c =
    let same = c.num.ensures.value ∙ ap (λ q. q.num) c.coeff.ensures in
    below_more _ _ c.loop-i.invariant ((nonneg_num (entry_of c.args.form.now c.loop-i.i)).1 (omega (arith, ints, same, c.if-num-lt0.false)))

pub returns : goal.returns
returns c = (
  λ e k d h. subst (λ q. 0ℚ ≤ℚ q) (get_or-default c.args.form.now k 0ℚ d h) (c.loop-i.invariant k (omega (arith, h, c.loop-i-test.false, c.len-i-end.ensures.value))),
  λ h. refl,
)
