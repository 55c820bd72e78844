use Rattle.std.proofs.Common.{arith, sym, ap, ap₂, ◌∙◌, ◌≡◌, ◌≤◌, ◌*◌, ◌^◌, subst, to_z, of_z}
use Rattle.std.specs.Prelude.{◌*ℤ◌, unsigned_abs}
use Rattle.std.specs.Int.{w64}
use Rattle.std.proofs.lemmas.Int.{to_z-of_z, fits_signed_mul, unsigned_abs-mul}
use Rattle.std.proofs.lemmas.Nat.{mul-le}
use Rattle.crn_feasible.proofs.numbers.short_product.Goals as goal

pub returns-clause-value : goal.returns-clause-value
returns-clause-value c =
    ap (λ z. to_z w64 (of_z w64 z)) (ap₂ (λ x y. x *ℤ y) (to_z-of_z w64 c.args.a c.ranges.a) (to_z-of_z w64 c.args.b c.ranges.b))
    ∙ to_z-of_z w64 (c.args.a *ℤ c.args.b) (fits_signed_mul w64 c.args.a c.args.b (2 ^ 29) (2 ^ 29) c.requires.left c.requires.right (omega arith))

pub returns-clause-small : goal.returns-clause-small
returns-clause-small c =
    let value : to_z w64 (of_z w64 (to_z w64 (of_z w64 c.args.a) *ℤ to_z w64 (of_z w64 c.args.b))) ≡ c.args.a *ℤ c.args.b =
    ap (λ z. to_z w64 (of_z w64 z)) (ap₂ (λ x y. x *ℤ y) (to_z-of_z w64 c.args.a c.ranges.a) (to_z-of_z w64 c.args.b c.ranges.b))
    ∙ to_z-of_z w64 (c.args.a *ℤ c.args.b) (fits_signed_mul w64 c.args.a c.args.b (2 ^ 29) (2 ^ 29) c.requires.left c.requires.right (omega arith)) in
    let l : unsigned_abs c.args.a * unsigned_abs c.args.b ≤ 2 ^ 29 * 2 ^ 29 = mul-le (unsigned_abs c.args.a) (unsigned_abs c.args.b) (2 ^ 29) (2 ^ 29) c.requires.left c.requires.right in
    let small : unsigned_abs (c.args.a *ℤ c.args.b) ≤ 2 ^ 58 = omega (arith, l, unsigned_abs-mul c.args.a c.args.b) in
    subst (λ z. unsigned_abs z ≤ 2 ^ 58) (sym value) small
