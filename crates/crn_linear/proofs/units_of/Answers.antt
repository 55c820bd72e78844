use Rattle.std.proofs.Common.{arith, ap₂, sym, subst, below_more, ◌≡◌, ◌∙◌, ◌<◌, length, take}
use Rattle.std.proofs.lemmas.Result.{err_from_is_err_and}
use Rattle.crn_fraction.specs.Rational.{0ℚ, ◌-ℚ◌, ◌/ℚ◌}
use Rattle.crn_linear.specs.Forms.{entry_of, minus}
use Rattle.crn_linear.specs.Views.{IsPadded}
use Rattle.crn_linear.specs.Cleared.{IsSmallFrac, unit_of}
use Rattle.crn_linear.proofs.Padding.{padding_step, padding_end, seen, IsPadded-padded}
use Rattle.crn_linear.proofs.Minus.{length-minus, entry-minus, all_of, HasColumns-same}
use Rattle.crn_linear.proofs.Units.{length-unit_of, entry-unit_of}
use Rattle.crn_linear.proofs.units_of.Goals as goal
use Rattle.crn_linear.proofs.units_of.Goals.{After-difference-difference}

below : (c : After-difference-difference) → c.loop-i.i < length c.args.a.now
below c = omega (arith, c.loop-i-test.true, c.len-i-end.ensures.value)

form_below : (c : After-difference-difference) → c.loop-i.i < length (minus c.args.a.now c.args.b.now)
form_below c = rw (length-minus c.args.a.now c.args.b.now c.requires) (below c)

unit_below : (c : After-difference-difference) → c.loop-i.i < length (unit_of (minus c.args.a.now c.args.b.now))
unit_below c = rw (length-unit_of (minus c.args.a.now c.args.b.now)) (form_below c)

-- the entry of this column
entry_is : (c : After-difference-difference) → c.difference-difference.result /ℚ c.pivot-pivot.result ≡ entry_of (unit_of (minus c.args.a.now c.args.b.now)) c.loop-i.i
entry_is c =
    let form = minus c.args.a.now c.args.b.now in
    let entry : c.difference-difference.result ≡ entry_of form c.loop-i.i =
    c.difference-difference.ensures ∙ ap₂ (λ x y. x -ℚ y) c.coeff.ensures c.coeff-in-loop-i.ensures
    ∙ sym (entry-minus c.args.a.now c.args.b.now c.loop-i.i c.requires (below c)) in
    ap₂ (λ x y. x /ℚ y) entry c.pivot-pivot.ensures.value ∙ sym (entry-unit_of form c.loop-i.i (form_below c))

pub returns-in_err-unit : goal.returns-in_err-unit
returns-in_err-unit c =
    let shared = (goal.at.returns-in_err-unit c).After-difference-difference in
    let p = err_from_is_err_and c.from_residual.result c.from_residual.ensures.1 in
    rw p.1 (λ all. c.in_err-unit.ensures (subst IsSmallFrac (sym (entry_is shared)) (all c.loop-i.i 0ℚ (unit_below shared))))

pub loop-i-preserved : goal.loop-i-preserved
loop-i-preserved c =
    let shared = (goal.at.loop-i-preserved c).After-difference-difference in
    let form = minus c.args.a.now c.args.b.now in
    let long = length-unit_of form ∙ length-minus c.args.a.now c.args.b.now c.requires in
    let few = c.len-i-end.ensures.columns.few in
    record {
      filled = padding_step 0ℚ (unit_of form) _ _ _ (unit_below shared) (omega (arith, long)) (c.in_ok-unit.ensures.1 ∙ entry_is shared) c.loop-i.invariant.filled;
      small = below_more _ _ c.loop-i.invariant.small (subst IsSmallFrac (entry_is shared) c.in_ok-unit.ensures.0);
    }

pub invariant_of-result : goal.invariant_of-result
invariant_of-result c =
    let form = minus c.args.a.now c.args.b.now in
    let long = length-unit_of form ∙ length-minus c.args.a.now c.args.b.now c.requires in
    let places = padding_end 0ℚ (unit_of form) c.loop-i.units c.loop-i.i (omega (arith, long, c.loop-i-test.false, c.len-i-end.ensures.value)) c.loop-i.invariant.filled in
    subst (λ n. IsPadded 0ℚ n c.loop-i.units) (long ∙ sym c.len.ensures.value)
    (IsPadded-padded 0ℚ (unit_of form) c.loop-i.units (HasColumns-same c.args.a.now (unit_of form) long c.len.ensures.columns) places)

pub returns : goal.returns
returns c =
    let form = minus c.args.a.now c.args.b.now in
    let long = length-unit_of form ∙ length-minus c.args.a.now c.args.b.now c.requires in
    let places = padding_end 0ℚ (unit_of form) c.loop-i.units c.loop-i.i (omega (arith, long, c.loop-i-test.false, c.len-i-end.ensures.value)) c.loop-i.invariant.filled in (
      all_of IsSmallFrac (unit_of form) 0ℚ (λ k h. c.loop-i.invariant.small k (omega (arith, long, c.loop-i-test.false, c.len-i-end.ensures.value))),
      subst (λ n. take n c.loop-i.units ≡ unit_of form) (long ∙ sym c.len.ensures.value) (seen 0ℚ (unit_of form) c.loop-i.units places),
    )
