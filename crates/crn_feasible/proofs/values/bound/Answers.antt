use Rattle.std.proofs.Common.{arith, true, false, sym, ap, ◌∙◌, ◌≡◌, ◌*◌, ◌<◌, subst, to_z, of_z}
use Rattle.std.specs.Prelude.{pos, neg_ℤ, ◌<ℤ◌, unsigned_abs, MatchOption}
use Rattle.std.specs.Int.{w64, w128}
use Rattle.std.proofs.lemmas.Int.{ints}
use Rattle.crn_fraction.specs.Rational.{ℚ, ratio, whole, neg_ℚ, ◌/ℚ◌}
use Rattle.crn_fraction.proofs.Ratios.{times_pos}
use Rattle.crn_linear.specs.Rows.{dot, value}
use Rattle.crn_linear.proofs.Denominators.{common_den-positive}
use Rattle.crn_feasible.specs.Elimination.{fits_ℚ}
use Rattle.crn_feasible.proofs.Bounding.{value_is, low_is, high_is, size_positive, not_above}
use Rattle.crn_feasible.proofs.values.bound.Goals.{After-unsigned_abs, then-entry-gt0, else-entry-gt0}
use Rattle.crn_feasible.proofs.values.bound.Goals as goal

den_positive : (c : After-unsigned_abs) → 0 < c.args.values.now.den
den_positive c = subst (λ n. 0 < n) (sym c.requires.written.den_is) (common_den-positive c.args.values.now.exact.items)

size_is : (c : After-unsigned_abs) → c.unsigned_abs.result ≡ unsigned_abs c.args.entry
size_is c =
    let same : to_z w64 (of_z w64 c.args.entry) ≡ c.args.entry = omega (arith, ints, c.requires.entry.size) in
    c.unsigned_abs.ensures.value ∙ ap unsigned_abs same

pub small_ratio-requires-clause-positive : goal.small_ratio-requires-clause-positive
small_ratio-requires-clause-positive c =
    let s = (goal.at.small_ratio-requires-clause-positive c).After-unsigned_abs in
    times_pos c.args.values.now.den c.unsigned_abs.result (den_positive s) (subst (λ n. 0 < n) (sym (size_is s)) (size_positive c.args.entry c.requires.some))

value_there : (c : After-unsigned_abs) → value c.args.entries.now c.args.values.now.exact.items ≡ ratio c.dot-sum.result c.args.values.now.den
value_there c =
    value_is c.args.entries.now c.args.values.now.tops.items c.args.values.now.exact.items c.args.values.now.den c.requires.written.den_is c.requires.written.tops_are
    ∙ ap (λ s. ratio s c.args.values.now.den) (sym (c.dot-sum.ensures.value ∙ ap (dot c.args.entries.now) c.deref.ensures.value))

bound_is : (c : After-unsigned_abs) → ratio (to_z w128 c.if-entry-gt0.num-bits) (c.args.values.now.den * c.unsigned_abs.result) ≡ neg_ℚ (value c.args.entries.now c.args.values.now.exact.items) /ℚ whole c.args.entry
bound_is c =
    let d = c.args.values.now.den in
    let over : ratio (to_z w128 c.if-entry-gt0.num-bits) (d * c.unsigned_abs.result) ≡ ratio (to_z w128 c.if-entry-gt0.num-bits) (d * unsigned_abs c.args.entry) =
    ap (λ n. ratio (to_z w128 c.if-entry-gt0.num-bits) (d * n)) (size_is c) in
    over
    ∙ elim c.if-entry-gt0.branch [
      | then-entry-gt0 w ↦
          let above : pos 0 <ℤ c.args.entry = omega (arith, ints, w.if-entry-gt0.true, c.requires.entry.size) in
          let num : to_z w128 c.if-entry-gt0.num-bits ≡ neg_ℤ c.dot-sum.result = omega (arith, ints, w.num-is, c.dot-sum.ensures.small) in
          ap (λ n. ratio n (d * unsigned_abs c.args.entry)) num ∙ low_is c.args.entry c.dot-sum.result _ d (den_positive c) above (value_there c)
      | else-entry-gt0 w ↦
          let below : c.args.entry <ℤ pos 0 = not_above c.args.entry c.requires.some (omega (arith, ints, w.if-entry-gt0.false, c.requires.entry.size)) in
          let num : to_z w128 c.if-entry-gt0.num-bits ≡ c.dot-sum.result = omega (arith, ints, w.num-is, c.dot-sum.ensures.small) in
          ap (λ n. ratio n (d * unsigned_abs c.args.entry)) num ∙ high_is c.args.entry c.dot-sum.result _ d (den_positive c) below (value_there c)
    ]

pub returns : goal.returns
returns c =
    subst (λ (q : ℚ). MatchOption c.small_ratio.result (fits_ℚ q ≡ false) (λ (r : ℚ). (r ≡ q) × (fits_ℚ q ≡ true)))
    (bound_is (goal.at.returns c).After-unsigned_abs) c.small_ratio.ensures
