use Rattle.std.proofs.Common.{arith, ap₂, sym, subst, ℕ, ◌≡◌, ◌∙◌, ◌*◌, ◌<◌, ◌≤◌, ◌^◌, to_z, of_z}
use Rattle.std.specs.Int.{w64, w128}
use Rattle.std.specs.Prelude.{ℤ, pos, ◌*ℤ◌, unsigned_abs}
use Rattle.std.proofs.lemmas.Int.{ints}
use Rattle.crn_fraction.specs.Rational.{ratio, IsLowest, ◌/ℚ◌}
use Rattle.crn_fraction.specs.Frac.{IsFrac}
use Rattle.crn_linear.proofs.Wides.{over_parts, small_parts, parts_small, same_answer, whole_quotient, lt_irrefl_at}
use Rattle.crn_linear.proofs.Wide.over.Goals as goal
use Rattle.crn_linear.proofs.Wide.over.Goals.{After-lowest_terms-pivot_den}

-- the parts that the code computes are in lowest terms, and are those of the quotient
quotient_is : (c : After-lowest_terms-pivot_den) →
    let n = to_z w128 (of_z w128 c.lowest_terms-num.result.0) in
    let m = to_z w128 (of_z w128 c.lowest_terms-pivot_den.result.0) in
    let k = c.lowest_terms-num.result.1 * c.lowest_terms-pivot_den.result.1 in
    IsLowest (n *ℤ m) k × (ratio (n *ℤ m) k ≡ c.args.self /ℚ c.args.pivot)
quotient_is c =
    let num : to_z w128 (of_z w128 c.num.result) ≡ c.args.self.num = omega (arith, ints) in
    let pivot_num : unsigned_abs (to_z w128 (of_z w128 c.num-2.result)) ≡ unsigned_abs c.args.pivot.num = omega (arith, ints) in
    let pivot_den : to_z w128 c.den.result ≡ pos c.args.pivot.den = omega (arith, ints) in
    let first : to_z w128 (of_z w128 c.lowest_terms-num.result.0) ≡ c.lowest_terms-num.result.0 = omega (arith, ints) in
    let second : to_z w128 (of_z w128 c.lowest_terms-pivot_den.result.0) ≡ c.lowest_terms-pivot_den.result.0 = omega (arith, ints) in
    over_parts c.args.self c.args.pivot _ _ _ _ c.requires
    (first ∙ c.lowest_terms-num.ensures.num ∙ ap₂ (λ n d. (ratio n d).num) num pivot_num)
    (c.lowest_terms-num.ensures.den ∙ ap₂ (λ n d. (ratio n d).den) num pivot_num)
    (second ∙ c.lowest_terms-pivot_den.ensures.num ∙ ap₂ (λ n d. (ratio n d).num) pivot_den c.den-2.ensures.value)
    (c.lowest_terms-pivot_den.ensures.den ∙ ap₂ (λ n d. (ratio n d).den) pivot_den c.den-2.ensures.value)

-- the product of the denominators as the code computes it
den_is : (c : After-lowest_terms-pivot_den) →
    to_z w128 c.lowest_terms-num.result.1 *ℤ to_z w128 c.lowest_terms-pivot_den.result.1 ≡ pos (c.lowest_terms-num.result.1 * c.lowest_terms-pivot_den.result.1)
den_is c =
    let first : to_z w128 c.lowest_terms-num.result.1 ≡ pos c.lowest_terms-num.result.1 = omega (arith, ints) in
    let second : to_z w128 c.lowest_terms-pivot_den.result.1 ≡ pos c.lowest_terms-pivot_den.result.1 = omega (arith, ints) in
    ap₂ (λ x y. x *ℤ y) first second

pub returns-in_default : goal.returns-in_default
returns-in_default c = λ s.
    let both = quotient_is ((goal.at.returns-in_default c).After-lowest_terms-pivot_den) in
    let small = small_parts _ _ _ both.0 both.1 s in
    let big : 2 ^ 59 < unsigned_abs (to_z w128 (of_z w128 c.lowest_terms-num.result.0) *ℤ to_z w128 (of_z w128 c.lowest_terms-pivot_den.result.0)) = c.in_default.ensures in
    lt_irrefl_at _ big small.0

pub returns-in_default-small_product : goal.returns-in_default-small_product
returns-in_default-small_product c = λ s.
    let shared = (goal.at.returns-in_default-small_product c).After-lowest_terms-pivot_den in
    let both = quotient_is shared in
    let small = small_parts _ _ _ both.0 both.1 s in
    let big : 2 ^ 59 < unsigned_abs (to_z w128 c.lowest_terms-num.result.1 *ℤ to_z w128 c.lowest_terms-pivot_den.result.1) = c.in_default-small_product.ensures in
    lt_irrefl_at _ (subst (λ z. 2 ^ 59 < unsigned_abs z) (den_is shared) big) small.1

pub of-requires : goal.of-requires
of-requires c =
    let shared = (goal.at.of-requires c).After-lowest_terms-pivot_den in
    let both = quotient_is shared in
    let value : c.in-Some-small_product.low_den ≡ pos (c.lowest_terms-num.result.1 * c.lowest_terms-pivot_den.result.1) = c.in-Some-small_product.ensures.0 ∙ den_is shared in
    not_zero _ _ value both.0.positive (subst (λ z. unsigned_abs z ≤ 2 ^ 59) (den_is shared) c.in-Some-small_product.ensures.1)
  where
    not_zero : (z : ℤ) (k : ℕ) → z ≡ pos k → 0 < k → k ≤ 2 ^ 59 → to_z w64 (of_z w64 z) ≡ pos 0 → ⊥
    not_zero z k e p h f = omega (arith, ints)

pub returns : goal.returns
returns c =
    let shared = (goal.at.returns c).After-lowest_terms-pivot_den in
    let both = quotient_is shared in
    let num_small : unsigned_abs (to_z w128 (of_z w128 c.lowest_terms-num.result.0) *ℤ to_z w128 (of_z w128 c.lowest_terms-pivot_den.result.0)) ≤ 2 ^ 59 = c.in-Some.ensures.1 in
    let den_small : c.lowest_terms-num.result.1 * c.lowest_terms-pivot_den.result.1 ≤ 2 ^ 59 =
    subst (λ z. unsigned_abs z ≤ 2 ^ 59) (den_is shared) c.in-Some-small_product.ensures.1 in
    let small = parts_small _ _ _ both.0 both.1 num_small den_small in
    let is = whole_quotient _ _ (to_z w64 (of_z w64 c.in-Some.low_num)) (to_z w64 (of_z w64 c.in-Some-small_product.low_den)) _ both.0 both.1
    (same_num _ _ c.in-Some.ensures.0 num_small) (same_num _ _ (c.in-Some-small_product.ensures.0 ∙ den_is shared) den_small) in
    same_answer c.of.result _ _ (subst IsFrac (sym is) small.1) small.0 is c.of.ensures
  where
    same_num : (z q : ℤ) → z ≡ q → unsigned_abs q ≤ 2 ^ 59 → to_z w64 (of_z w64 z) ≡ q
    same_num z q e h = omega (arith, ints)
