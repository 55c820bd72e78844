use Rattle.std.proofs.Common.{arith, rules, sym, ap, ap₂, ◌∙◌, ◌≡◌, ◌≤◌, ◌^◌, ◌/◌, ℕ, [], ◌∷◌, ◌++◌, subst, to_z, of_z, SFits}
use Rattle.std.specs.Prelude.{pos, ◌*ℤ◌, unsigned_abs}
use Rattle.std.specs.Int.{w64, w128}
use Rattle.std.proofs.Math.Nat.{div-le_self}
use Rattle.std.proofs.lemmas.Int.{ints, to_z-of_z}
use Rattle.std.proofs.lemmas.List.Elements.{All-push}
use Rattle.std.proofs.lemmas.Grind.{common_steps}
use Rattle.crn_linear.specs.Rows.{IsSmall, AreSmall}
use Rattle.crn_linear.specs.Cleared.{numerator_over}
use Rattle.crn_feasible.specs.Elimination.{fits}
use Rattle.crn_feasible.proofs.Tops.{tops_more, top_missed}
use Rattle.crn_feasible.proofs.values.tops_over.Goals.{After-product}
use Rattle.crn_feasible.proofs.values.tops_over.Goals as goal
use Rattle.crn_fraction.specs.Parts.{int_div-one}

short : (n : ℕ) → n ≤ 2 ^ 59 → to_z w64 n ≡ pos n
short n h = omega (arith, ints)

top_is : (c : After-product) → to_z w128 (of_z w128 c.product.result) ≡ numerator_over c.args.den c.value-item.result
top_is c =
    let q = c.value-item.result in
    let d = unsigned_abs (to_z w64 (of_z w64 c.den.result)) in
    let num : to_z w64 (of_z w64 c.num.result) ≡ q.num = omega (arith, ints, c.num.ensures.value, c.num.ensures.fits.num_fits) in
    let den : d ≡ q.den = omega (arith, ints, c.den.ensures.value, c.den.ensures.fits.den_fits) in
    let less = div-le_self c.args.den d in
    let rest : to_z w64 (c.args.den / d) ≡ pos (c.args.den / q.den) = short (c.args.den / d) (omega (arith, less, c.requires.small)) ∙ ap (λ n. pos (c.args.den / n)) den in
    let in_range : SFits w128 c.product.result = search rules in
    to_z-of_z w128 _ in_range ∙ c.product.ensures.value ∙ ap₂ (λ x y. x *ℤ y) num rest

pub returns-in_default : goal.returns-in_default
returns-in_default c =
    let s = (goal.at.returns-in_default c).After-product in
    top_missed c.args.den c.args.values.now c.loop-value.value-index c.value-item.result c.loop-value-test.true c.value-item.is
    (ap fits (sym (int_div-one (to_z w128 (of_z w128 c.product.result)) ∙ top_is s)) ∙ c.in_default.ensures)

pub loop-value-preserved : goal.loop-value-preserved
loop-value-preserved c =
    let s = (goal.at.loop-value-preserved c).After-product in
    let items : c.push.new.self.items ≡ c.loop-value.tops.items ++ c.in-Some.top ∷ [] = grind (arith, common_steps) in
    let top : c.in-Some.top ≡ numerator_over c.args.den c.value-item.result = c.in-Some.ensures.0 ∙ int_div-one (to_z w128 (of_z w128 c.product.result)) ∙ top_is s in
    record {
      value = items ∙ tops_more c.args.den c.args.values.now c.loop-value.value-index c.value-item.result c.loop-value.tops.items c.in-Some.top c.loop-value-test.true c.value-item.is top c.loop-value.invariant.value;
      small = subst AreSmall (sym items) (All-push IsSmall c.loop-value.tops.items c.in-Some.top c.loop-value.invariant.small c.in-Some.ensures.1);
    }
