use Rattle.std.proofs.Common.{arith, ap, ap₂, sym, subst, below_more, ℕ, ◌≡◌, ◌∙◌, ◌/◌, ◌<◌, ◌≤◌, ◌^◌, to_z, of_z, get_or, length, take}
use Rattle.std.specs.Int.{w64, w128}
use Rattle.std.specs.Prelude.{ℤ, pos, ◌*ℤ◌, unsigned_abs}
use Rattle.std.proofs.lemmas.Int.{ints}
use Rattle.crn_fraction.proofs.Values.{part_below}
use Rattle.crn_linear.specs.Rows.{IsSmall}
use Rattle.crn_linear.specs.Views.{IsSmallPadded}
use Rattle.crn_linear.specs.Strengths.{row_with}
use Rattle.crn_linear.specs.Cleared.{numerators}
use Rattle.crn_linear.proofs.Padding.{padding_step, padding_end, seen, IsSmallPadded-padded}
use Rattle.crn_linear.proofs.Minus.{all_of, HasColumns-same}
use Rattle.crn_linear.proofs.Units.{length-numerators, entry-numerators}
use Rattle.crn_linear.proofs.Wides.{lt_irrefl_at}
use Rattle.crn_linear.proofs.numerators.Goals as goal
use Rattle.crn_linear.proofs.numerators.Goals.{After-small_product}

below : (c : After-small_product) → c.loop-i.i < length c.args.units.now
below c = omega (arith, c.loop-i-test.true, c.len-i-end.ensures.value)

row_below : (c : After-small_product) → c.loop-i.i < length (numerators c.args.units.now)
row_below c = rw (length-numerators c.args.units.now) (below c)

-- the entry of this column
entry_is : (c : After-small_product) →
    to_z w128 (of_z w128 (to_z w64 (of_z w64 c.num.result))) *ℤ to_z w128 (c.args.common / unsigned_abs (to_z w64 (of_z w64 c.den.result)))
    ≡ get_or (numerators c.args.units.now) c.loop-i.i (pos 0)
entry_is c =
    let k = unsigned_abs (to_z w64 (of_z w64 c.den.result)) in
    let some = c.coeff-unit.result.lowest.positive in
    let num : to_z w128 (of_z w128 (to_z w64 (of_z w64 c.num.result))) ≡ c.coeff-unit.result.num = omega (arith, ints) in
    let den : k ≡ c.coeff-unit.result.den = omega (arith, ints, c.den.ensures.value) in
    let less = part_below c.args.common k 1 (omega arith) (omega arith) in
    let rest : to_z w128 (c.args.common / k) ≡ pos (c.args.common / k) = same (c.args.common / k) (omega arith) in
    ap₂ (λ x y. x *ℤ y) (num ∙ ap (λ q. q.num) c.coeff-unit.ensures)
    (rest ∙ ap pos (ap₂ (λ m d. m / d) c.requires.denominator (den ∙ ap (λ q. q.den) c.coeff-unit.ensures)))
    ∙ sym (entry-numerators c.args.units.now c.loop-i.i (below c))
  where
    same : (n : ℕ) → n ≤ 2 ^ 59 → to_z w128 n ≡ pos n
    same n h = omega (arith, ints)

pub returns-in_default : goal.returns-in_default
returns-in_default c = λ h.
    let shared = (goal.at.returns-in_default c).After-small_product in
    let small = (h c.loop-i.i (pos 0) (row_below shared)).size in
    let big : 2 ^ 59 < unsigned_abs (to_z w128 (of_z w128 (to_z w64 (of_z w64 c.num.result))) *ℤ to_z w128 (c.args.common / unsigned_abs (to_z w64 (of_z w64 c.den.result)))) = c.in_default.ensures in
    lt_irrefl_at _ (subst (λ z. 2 ^ 59 < unsigned_abs z) (entry_is shared) big) small

pub loop-i-preserved : goal.loop-i-preserved
loop-i-preserved c =
    let shared = (goal.at.loop-i-preserved c).After-small_product in
    let long = length-numerators c.args.units.now in
    let few = c.len-i-end.ensures.columns.few in
    let size = subst (λ z. unsigned_abs z ≤ 2 ^ 59) (entry_is shared) c.in-Some.ensures.1 in
    record {
      filled = padding_step (pos 0) (numerators c.args.units.now) _ _ _ (row_below shared) (omega (arith, long))
          (same_num _ _ (c.in-Some.ensures.0 ∙ entry_is shared) size) c.loop-i.invariant.filled;
      small = below_more _ _ c.loop-i.invariant.small (record { size = size });
    }
  where
    same_num : (z q : ℤ) → z ≡ q → unsigned_abs q ≤ 2 ^ 59 → to_z w64 (of_z w64 z) ≡ q
    same_num z q e h = omega (arith, ints)

pub invariant_of-result : goal.invariant_of-result
invariant_of-result c =
    let xs = numerators c.args.units.now in
    let long = length-numerators c.args.units.now in
    let places = padding_end (pos 0) xs c.loop-i.entries c.loop-i.i (omega (arith, long, c.loop-i-test.false, c.len-i-end.ensures.value)) c.loop-i.invariant.filled in
    let small = all_of IsSmall xs (pos 0) (λ k h. c.loop-i.invariant.small k (omega (arith, long, c.loop-i-test.false, c.len-i-end.ensures.value))) in
    subst (λ n. IsSmallPadded n c.loop-i.entries) (long ∙ sym c.len.ensures.value)
    (IsSmallPadded-padded xs c.loop-i.entries (HasColumns-same c.args.units.now xs long c.len.ensures.columns) small places)

pub returns : goal.returns
returns c =
    let xs = numerators c.args.units.now in
    let long = length-numerators c.args.units.now in
    let places = padding_end (pos 0) xs c.loop-i.entries c.loop-i.i (omega (arith, long, c.loop-i-test.false, c.len-i-end.ensures.value)) c.loop-i.invariant.filled in (
      all_of IsSmall xs (pos 0) (λ k h. c.loop-i.invariant.small k (omega (arith, long, c.loop-i-test.false, c.len-i-end.ensures.value))),
      ap (λ ys. row_with ys c.args.strength) (subst (λ n. take n c.loop-i.entries ≡ xs) (long ∙ sym c.len.ensures.value) (seen (pos 0) xs c.loop-i.entries places)),
    )
