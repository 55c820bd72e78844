-- Tests of rational numbers, and what they say.
use Rattle.std.proofs.Common.{◌≡◌, ◌↔◌, Bool, false, sym, ◌∙◌, subst, ⊎_elim, arith}
use Rattle.std.specs.Prelude.{ℤ, pos, ◌≤ℤ◌, int_lt, IsTrue}
use Rattle.std.proofs.lemmas.Int.{ints}
use Rattle.std.proofs.lemmas.Bool.{false_from_ne_true}
use Rattle.crn_fraction.specs.Rational.{ℚ, 0ℚ, ◌≤ℚ◌, is_zero_ℚ}
use Rattle.crn_fraction.specs.Parts.{ratio_self}
use Rattle.crn_fraction.proofs.Products.{nonneg_ratio, is_zero_ℚ_cases}
use Rattle.crn_formula.specs.Pieces.{is_negative}

-- a number is at least 0 exactly where its numerator is
pub nonneg_num : (q : ℚ) → (0ℚ ≤ℚ q) ↔ (pos 0 ≤ℤ q.num)
nonneg_num q = subst (λ r. (0ℚ ≤ℚ r) ↔ (pos 0 ≤ℤ q.num)) (ratio_self q) (nonneg_ratio q.num q.den q.lowest.positive)

no_test : (z : ℤ) → pos 0 ≤ℤ z → false ≡ int_lt z (pos 0)
no_test z h = omega (arith, ints, h)

-- the test says exactly that it is not
pub nonneg_test : (q : ℚ) → (is_negative q ≡ false) ↔ (0ℚ ≤ℚ q)
nonneg_test q = (λ e. (nonneg_num q).1 (omega (arith, ints, e)), λ h. sym (no_test q.num ((nonneg_num q).0 h)))

-- an exact test of 0 is the one of the definition
pub is_zero_same : (b : Bool) (a : ℚ) → (IsTrue b ↔ (a ≡ 0ℚ)) → b ≡ is_zero_ℚ a
is_zero_same b a h = ⊎_elim (λ z. h.1 z.0 ∙ sym z.1) (λ n. false_from_ne_true b (λ e. n.0 (h.0 e)) ∙ sym n.1) (is_zero_ℚ_cases a)
