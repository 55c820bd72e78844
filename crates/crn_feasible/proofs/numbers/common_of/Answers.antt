use Rattle.std.proofs.Common.{arith, rules, ap, ap₂, ◌∙◌, ◌≡◌, ◌^◌, to_z, of_z, SFits, get_or, take}
use Rattle.std.specs.Prelude.{pos, ◌+ℤ◌, ◌*ℤ◌, unsigned_abs}
use Rattle.std.specs.Int.{w64, w128}
use Rattle.std.proofs.lemmas.Int.{to_z-of_z}
use Rattle.crn_linear.specs.Cleared.{common}
use Rattle.crn_farkas.specs.Mixtures.{mixed}
use Rattle.crn_fraction.specs.Gcd.{gcd}
use Rattle.crn_feasible.proofs.Commons.{mixed_more, mixed_all}
use Rattle.crn_linear.proofs.Commons.{gcd_small, one_ends}
use Rattle.crn_feasible.proofs.numbers.common_of.Goals as goal

pub loop-i-preserved : goal.loop-i-preserved
loop-i-preserved c =
    let a = to_z w64 (of_z w64 c.args.a) in
    let b = to_z w64 (of_z w64 c.args.b) in
    let i = c.loop-i.i in
    let fp : SFits w64 (get_or c.args.p.now i (pos 0)) = search rules in
    let fn : SFits w64 (get_or c.args.n.now i (pos 0)) = search rules in
    let number : c.mix-number.result ≡ a *ℤ get_or c.args.p.now i (pos 0) +ℤ b *ℤ get_or c.args.n.now i (pos 0) =
    c.mix-number.ensures.value ∙ ap₂ (λ s t. a *ℤ s +ℤ b *ℤ t) (to_z-of_z w64 _ fp) (to_z-of_z w64 _ fn) in
    let fits : SFits w128 c.mix-number.result = search rules in
    let size : c.unsigned_abs.result ≡ unsigned_abs c.mix-number.result = c.unsigned_abs.ensures.value ∙ ap unsigned_abs (to_z-of_z w128 _ fits) in
    let small = gcd_small c.loop-i.common c.unsigned_abs.result (2 ^ 119) c.loop-i.invariant.small (omega (arith, size, c.mix-number.ensures.small)) in
    record {
      value = mixed_more a b c.args.p.now c.args.n.now i c.loop-i.common c.wide_gcd-common.result c.mix-number.result c.requires.same c.loop-i-test.true c.loop-i.invariant.value number (c.wide_gcd-common.ensures ∙ ap (gcd c.loop-i.common) size);
      small = omega (arith, small, c.wide_gcd-common.ensures);
    }

pub returns-clause-value : goal.returns-clause-value
returns-clause-value c =
    mixed_all c.args.a c.args.b c.args.p.now c.args.n.now c.loop-i.i c.loop-i.common c.requires.same c.loop-i-test.false
    (c.loop-i.invariant.value ∙ ap₂ (λ s t. common (take c.loop-i.i (mixed s c.args.p.now t c.args.n.now))) (to_z-of_z w64 c.args.a c.ranges.a) (to_z-of_z w64 c.args.b c.ranges.b))

pub returns-then-common-eq1-clause-value : goal.returns-then-common-eq1-clause-value
returns-then-common-eq1-clause-value c =
    one_ends c.loop-i.i c.loop-i.common (mixed c.args.a c.args.p.now c.args.b c.args.n.now)
    (c.loop-i.invariant.value ∙ ap₂ (λ s t. common (take c.loop-i.i (mixed s c.args.p.now t c.args.n.now))) (to_z-of_z w64 c.args.a c.ranges.a) (to_z-of_z w64 c.args.b c.ranges.b))
    c.if-common-eq1.true
