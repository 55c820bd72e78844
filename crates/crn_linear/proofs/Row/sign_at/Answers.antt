use Rattle.std.proofs.Common.{arith, sym, ap₂, ◌∙◌, ◌≡◌, ◌≤◌, ◌^◌, ◌+◌, ◌*◌, ◌<◌, subst, to_z, of_z, get_or, length}
use Rattle.std.specs.Prelude.{ℤ, pos, ◌*ℤ◌, unsigned_abs}
use Rattle.std.specs.Int.{w64, w128}
use Rattle.std.proofs.lemmas.Int.{ints}
use Rattle.crn_linear.proofs.Sums.{dot_more, product_small, sum_fits, sum_small}
use Rattle.crn_linear.proofs.Row.sign_at.Goals as goal

pub loop-i-preserved : goal.loop-i-preserved
loop-i-preserved c =
    let i = c.loop-i.i in
    let s : ℤ = to_z w128 c.loop-i.sum-bits in
    let a : to_z w64 (of_z w64 c.entry.result) ≡ c.entry.result = omega (arith, ints, c.entry.ensures.small.size) in
    let b : to_z w64 (of_z w64 c.entry-in-loop-i.result) ≡ c.entry-in-loop-i.result = omega (arith, ints, c.entry-in-loop-i.ensures.small.size) in
    let below : i < length c.args.self.now.entries = omega (arith, c.len-i-end.ensures.value, c.requires) in
    let p : c.product.result ≡ get_or c.args.self.now.entries i (pos 0) *ℤ get_or c.args.p.now i (pos 0) =
    c.product.ensures.value ∙ ap₂ (λ x y. x *ℤ y) (a ∙ c.entry.ensures.value) (b ∙ c.entry-in-loop-i.ensures.value) in
    let small = product_small c.entry.result c.entry-in-loop-i.result c.product.result c.entry.ensures.small c.entry-in-loop-i.ensures.small
    (c.product.ensures.value ∙ ap₂ (λ x y. x *ℤ y) a b) in
    let few = c.len-i-end.ensures.columns.few in
    let sum = sum_fits s c.product.result i (length c.args.self.now.entries) c.loop-i.invariant.small small below (omega (arith, c.requires)) in
    record {
      value = dot_more i c.args.self.now.entries c.args.p.now s c.product.result _ c.requires below c.loop-i.invariant.value p sum;
      small = subst (λ (t : ℤ). unsigned_abs t ≤ (i + 1) * 2 ^ 118) (sym sum) (sum_small s c.product.result i c.loop-i.invariant.small small);
    }
