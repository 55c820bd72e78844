-- What rows of two columns say of the sign of the first number of a point.
use Rattle.std.proofs.Common.{◌≡◌, Bool, true, false, cond, List, [], ◌∷◌, length, get_or, refl, sym, subst, arith}
use Rattle.std.specs.Prelude.{ℤ, pos, neg_ℤ, ◌+ℤ◌, ◌*ℤ◌, ◌<ℤ◌}
use Rattle.std.proofs.lemmas.Int.{ints}
use Rattle.crn_fraction.proofs.Integers.{ring_ℤ, z-writes}
use Rattle.crn_fraction.proofs.Products.{nonneg_times, positive_times}
use Rattle.crn_linear.specs.Rows.{Row, dot, IsBelow_ℤ, MeetsWhole}
use Rattle.crn_feasible.specs.Signs.{first, second}

-- a factor above 0
factor_times : (s : Bool) (k x : ℤ) → pos 0 <ℤ k → IsBelow_ℤ s (pos 0) x → IsBelow_ℤ s (pos 0) (k *ℤ x)
factor_times true k x h l = positive_times k x h l
factor_times false k x h l = nonneg_times k x (omega (arith, ints)) l

-- ---- two rows
either_sum : (s t : Bool) (a b : ℤ) → IsBelow_ℤ s (pos 0) a → IsBelow_ℤ t (pos 0) b → IsBelow_ℤ (cond s true t) (pos 0) (a +ℤ b)
either_sum true true a b h l = omega (arith, ints)
either_sum true false a b h l = omega (arith, ints)
either_sum false true a b h l = omega (arith, ints)
either_sum false false a b h l = omega (arith, ints)

-- the value of a row of two columns
two_products : (entries p : List ℤ) → length entries ≡ 2 → dot entries p ≡ get_or entries 0 (pos 0) *ℤ get_or p 0 (pos 0) +ℤ get_or entries 1 (pos 0) *ℤ get_or p 1 (pos 0)
two_products [] p e = absurd (omega (arith, e))
two_products (a ∷ []) p e = absurd (omega (arith, e))
two_products (a ∷ b ∷ []) [] e = omega (arith, ints)
two_products (a ∷ b ∷ []) (x ∷ []) e = omega (arith, ints)
two_products (a ∷ b ∷ []) (x ∷ y ∷ p) e = omega (arith, ints)
two_products (a ∷ b ∷ c ∷ r) p e = absurd (omega (arith, e))

pub met_value : (r : Row) (p : List ℤ) → length r.entries ≡ 2 → MeetsWhole r p → IsBelow_ℤ r.strict (pos 0) (first r.entries *ℤ first p +ℤ second r *ℤ get_or p 1 (pos 0))
met_value r p e h = subst (λ z. IsBelow_ℤ r.strict (pos 0) z) (two_products r.entries p e) h

-- where the second entry is 0 the first alone counts
pub met_alone : (r : Row) (p : List ℤ) → length r.entries ≡ 2 → second r ≡ pos 0 → MeetsWhole r p → IsBelow_ℤ r.strict (pos 0) (first r.entries *ℤ first p)
met_alone r p e z h =
    let same : first r.entries *ℤ first p +ℤ second r *ℤ get_or p 1 (pos 0) ≡ first r.entries *ℤ first p = rw z (omega (arith, ints)) in
    subst (λ v. IsBelow_ℤ r.strict (pos 0) v) same (met_value r p e h)

sum_is : (a b c d x y : ℤ) → neg_ℤ d *ℤ (a *ℤ x +ℤ b *ℤ y) +ℤ b *ℤ (c *ℤ x +ℤ d *ℤ y) ≡ (neg_ℤ d *ℤ a +ℤ b *ℤ c) *ℤ x
sum_is a b c d x y = ring_ℤ (a ∷ b ∷ c ∷ d ∷ x ∷ y ∷ []) (search z-writes depth 20) (search z-writes depth 20) refl

-- the multiples of two rows that add up to 0 in the second column
pub met_pair : (r s : Row) (p : List ℤ) → length r.entries ≡ 2 → length s.entries ≡ 2 → pos 0 <ℤ second r → second s <ℤ pos 0 → MeetsWhole r p → MeetsWhole s p
    → IsBelow_ℤ (cond r.strict true s.strict) (pos 0) ((neg_ℤ (second s) *ℤ first r.entries +ℤ second r *ℤ first s.entries) *ℤ first p)
met_pair r s p e f h l m n =
    let y = get_or p 1 (pos 0) in
    subst (λ z. IsBelow_ℤ (cond r.strict true s.strict) (pos 0) z) (sum_is (first r.entries) (second r) (first s.entries) (second s) (first p) y)
    (either_sum r.strict s.strict _ _
    (factor_times r.strict (neg_ℤ (second s)) (first r.entries *ℤ first p +ℤ second r *ℤ y) (omega (arith, ints)) (met_value r p e m))
    (factor_times s.strict (second r) (first s.entries *ℤ first p +ℤ second s *ℤ y) h (met_value s p f n)))

-- the same by the numbers of the code
pub met_with : (s t : Bool) (f g x : ℤ) → s ≡ t → f ≡ g → IsBelow_ℤ t (pos 0) (g *ℤ x) → IsBelow_ℤ s (pos 0) (f *ℤ x)
met_with s t f g x e h l = subst (λ b. IsBelow_ℤ b (pos 0) (f *ℤ x)) (sym e) (subst (λ z. IsBelow_ℤ t (pos 0) (z *ℤ x)) (sym h) l)
