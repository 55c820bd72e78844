use Rattle.std.proofs.Common.{ℕ, ◌≡◌, ◌≤◌, ◌^◌, ◌∙◌, ap, ap₂, sym, get_or, to_z, of_z, arith}
use Rattle.std.specs.Prelude.{ℤ, pos, unsigned_abs, int_div}
use Rattle.std.specs.Int.{w64}
use Rattle.std.proofs.lemmas.Int.{ints}
use Rattle.crn_linear.specs.Cleared.{over}
use Rattle.crn_linear.proofs.Commons.{length-over, get_or-over, quotient_small}
use Rattle.crn_linear.proofs.Padding.{padding_step, padding_end}
use Rattle.crn_linear.proofs.over.Goals as goal

pub returns : goal.returns
returns c =
    let xs = over c.args.divisor c.args.numbers.now in
    let long = length-over c.args.divisor c.args.numbers.now in
    padding_end (pos 0) xs c.loop-i.parts c.loop-i.i (omega (arith, long, c.loop-i-test.false, c.loop-i.auto.i-end)) c.loop-i.invariant

same : (z : ℤ) → unsigned_abs z ≤ 2 ^ 59 → to_z w64 (of_z w64 z) ≡ z
same z h = omega (arith, ints)

part : (x : ℤ) (g : ℕ) → unsigned_abs x ≤ 2 ^ 59 → unsigned_abs (int_div x (pos g)) ≤ 2 ^ 59 → g ≤ 2 ^ 59
    → to_z w64 (of_z w64 (int_div (to_z w64 (of_z w64 x)) (to_z w64 g))) ≡ int_div x (pos g)
part x g h k l =
    let d : to_z w64 g ≡ pos g = omega (arith, ints) in
    ap (λ z. to_z w64 (of_z w64 z)) (ap₂ int_div (same x h) d) ∙ same (int_div x (pos g)) k

pub loop-i-preserved : goal.loop-i-preserved
loop-i-preserved c =
    let xs = c.args.numbers.now in
    let g = c.args.divisor in
    let i = c.loop-i.i in
    let x = get_or xs i (pos 0) in
    let long = length-over g xs in
    let size : unsigned_abs x ≤ 2 ^ 59 = (c.requires.small i (pos 0) c.loop-i-test.true).size in
    let small = quotient_small x g size in
    padding_step (pos 0) (over g xs) _ i _ (omega (arith, long, c.loop-i-test.true)) (omega (arith, long, c.requires.few))
    (part x g size small c.requires.divisor ∙ sym (get_or-over g xs i)) c.loop-i.invariant
