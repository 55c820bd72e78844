use Rattle.std.proofs.Common.{arith, ap, ap₂, sym, subst, ◌≡◌, ◌≢◌, ◌∙◌, ◌<◌, ◌^◌, of_z, length}
use Rattle.std.specs.Int.{w128}
use Rattle.std.specs.Prelude.{ℤ, pos, ◌<ℤ◌, unsigned_abs}
use Rattle.std.proofs.lemmas.Int.{ints}
use Rattle.crn_fraction.specs.Rational.{0ℚ, ◌-ℚ◌}
use Rattle.crn_fraction.proofs.Wholes.{num-whole}
use Rattle.crn_fraction.proofs.Core.{zero_by_num}
use Rattle.crn_linear.specs.Forms.{entry_of, minus}
use Rattle.crn_linear.specs.Cleared.{size_ℚ, pivot}
use Rattle.crn_linear.proofs.Minus.{length-minus, entry-minus, pivot-here, pivot-next, pivot-none}
use Rattle.crn_linear.proofs.Units.{pivot_positive}
use Rattle.crn_linear.proofs.pivot.Goals as goal
use Rattle.crn_linear.proofs.pivot.Goals.{After-difference-difference}

below : (c : After-difference-difference) → c.loop-i.i < length c.args.a.now
below c = omega (arith, c.loop-i-test.true, c.len-i-end.ensures.value)

form_below : (c : After-difference-difference) → c.loop-i.i < length (minus c.args.a.now c.args.b.now)
form_below c = rw (length-minus c.args.a.now c.args.b.now c.requires) (below c)

-- the difference of this column
entry_is : (c : After-difference-difference) → c.difference-difference.result ≡ entry_of (minus c.args.a.now c.args.b.now) c.loop-i.i
entry_is c =
    c.difference-difference.ensures ∙ ap₂ (λ x y. x -ℚ y) c.coeff.ensures c.coeff-in-loop-i.ensures
    ∙ sym (entry-minus c.args.a.now c.args.b.now c.loop-i.i c.requires (below c))

pub returns-then-num-ne0 : goal.returns-then-num-ne0
returns-then-num-ne0 c =
    let shared = (goal.at.returns-then-num-ne0 c).After-difference-difference in
    let form = minus c.args.a.now c.args.b.now in
    let some : entry_of form c.loop-i.i ≢ 0ℚ = λ e.
    c.if-num-ne0.true (ap (of_z w128) (c.num.ensures.value ∙ ap (λ q. q.num) (entry_is shared ∙ e) ∙ num-whole (pos 0))) in
    let value : c.size.result ≡ pivot form =
    c.size.ensures ∙ ap size_ℚ (entry_is shared) ∙ sym (pivot-here form c.loop-i.i (form_below shared) some) ∙ c.loop-i.invariant in
    record { value = value; positive = subst (λ q. pos 0 <ℤ q.num) (sym value) (pivot_positive form) }

pub loop-i-preserved : goal.loop-i-preserved
loop-i-preserved c =
    let shared = (goal.at.loop-i-preserved c).After-difference-difference in
    let form = minus c.args.a.now c.args.b.now in
    let none : c.num.result ≡ pos 0 = zero_of c.num.result c.num.ensures.small c.if-num-ne0.false in
    let zero_entry : entry_of form c.loop-i.i ≡ 0ℚ = zero_by_num _ (ap (λ q. q.num) (sym (entry_is shared)) ∙ sym c.num.ensures.value ∙ none) in
    pivot-next form c.loop-i.i (form_below shared) zero_entry ∙ c.loop-i.invariant
  where
    zero_of : (z : ℤ) → unsigned_abs z < 2 ^ 127 → of_z w128 z ≡ 0 → z ≡ pos 0
    zero_of z h e = omega (arith, ints)

pub returns : goal.returns
returns c =
    let form = minus c.args.a.now c.args.b.now in
    let long = length-minus c.args.a.now c.args.b.now c.requires in
    let value : c.of.result ≡ pivot form =
    c.of.ensures ∙ sym (pivot-none form c.loop-i.i (omega (arith, c.loop-i-test.false, c.len-i-end.ensures.value))) ∙ c.loop-i.invariant in
    record { value = value; positive = subst (λ q. pos 0 <ℤ q.num) (sym value) (pivot_positive form) }
