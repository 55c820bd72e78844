-- The value of a form, product by product, and at a sum of points.
use Rattle.std.proofs.Common.{◌≡◌, ℕ, zero, suc, ◌+◌, ◌<◌, ◌≤◌, List, [], ◌∷◌, length, get_or, take, refl, sym, ap, ◌∙◌, subst, arith, add-one, ⊎_elim}
use Rattle.std.specs.Prelude.{pos}
use Rattle.std.proofs.Math.Nat.{eq-or-lt_of_le}
use Rattle.crn_fraction.specs.Rational.{ℚ, 0ℚ, ◌+ℚ◌, ◌*ℚ◌}
use Rattle.crn_fraction.specs.Frac.{IsFrac}
use Rattle.crn_fraction.proofs.Wholes.{num-whole, den-whole}
use Rattle.crn_fraction.proofs.Ring.{ring_ℚ, q-writes, +ℚ-zero, zero-+ℚ}
use Rattle.crn_linear.specs.Forms.{at, plus, entry_of}

more : (i : ℕ) (a x : List ℚ) → i < length a → i < length x → at (take (suc i) a) (take (suc i) x) ≡ at (take i a) (take i x) +ℚ get_or a i 0ℚ *ℚ get_or x i 0ℚ
more i [] x h k = absurd (omega arith)
more i (c ∷ a) [] h k = absurd (omega arith)
more zero (c ∷ a) (t ∷ x) h k = ring_ℚ (c ∷ t ∷ []) (search q-writes depth 20) (search q-writes depth 20) refl
more (suc i) (c ∷ a) (t ∷ x) h k =
    rw (more i a x (omega arith) (omega arith))
    (ring_ℚ (c ∷ t ∷ at (take i a) (take i x) ∷ get_or a i 0ℚ ∷ get_or x i 0ℚ ∷ []) (search q-writes depth 20) (search q-writes depth 20) refl)

-- one more product
pub at_more : (i : ℕ) (a x : List ℚ) → length a ≡ length x → i < length a → at (take i a) (take i x) +ℚ entry_of a i *ℚ entry_of x i ≡ at (take (i + 1) a) (take (i + 1) x)
at_more i a x e h = sym (rw add-one (more i a x h (omega (arith, e))))

-- the first `i` products and the sums of up to `i` of them fit
pub record AreInReach (a x : List ℚ) (i : ℕ) : Type 0 where
  pub products : (k : ℕ) → k < i → IsFrac (entry_of a k *ℚ entry_of x k)
  pub sums : (k : ℕ) → k ≤ i → IsFrac (at (take k a) (take k x))

-- what stands at an index does not hang on what stands past the end
pub get_or-default : {X : Type 0} (xs : List X) (i : ℕ) (d e : X) → i < length xs → get_or xs i d ≡ get_or xs i e
get_or-default [] i d e h = absurd (omega arith)
get_or-default (x ∷ xs) zero d e h = refl
get_or-default (x ∷ xs) (suc i) d e h = get_or-default xs i d e (omega arith)

-- at first only the sum of none, which is 0
pub reach_none : (a x : List ℚ) → AreInReach a x 0
reach_none a x = record {
  products = λ k h. absurd (omega arith);
  sums = λ k h. subst (λ j. IsFrac (at (take j a) (take j x))) (sym (none k h)) zero_fits;
}
  where
    none : (k : ℕ) → k ≤ 0 → k ≡ 0
    none k h = omega arith

    zero_fits : IsFrac 0ℚ
    zero_fits = record { num_fits = rw (num-whole (pos 0)) (omega arith); den_fits = rw (den-whole (pos 0)) (omega arith) }

-- then one more of each
pub reach_more : (a x : List ℚ) (i : ℕ) → AreInReach a x i → IsFrac (entry_of a i *ℚ entry_of x i) → IsFrac (at (take (i + 1) a) (take (i + 1) x)) → AreInReach a x (i + 1)
reach_more a x i r p s = record {
  products = λ k h. ⊎_elim (λ e. subst (λ j. IsFrac (entry_of a j *ℚ entry_of x j)) (sym e) p) (λ l. r.products k l) (eq-or-lt_of_le {n = k} {m = i} (omega arith));
  sums = λ k h. ⊎_elim (λ e. subst (λ j. IsFrac (at (take j a) (take j x))) (sym e) s) (λ l. r.sums k (omega arith)) (eq-or-lt_of_le {n = k} {m = i + 1} h);
}

-- ---- sums
sum_step : (c s t u v : ℚ) → c *ℚ (s +ℚ t) +ℚ (u +ℚ v) ≡ (c *ℚ s +ℚ u) +ℚ (c *ℚ t +ℚ v)
sum_step c s t u v = ring_ℚ (c ∷ s ∷ t ∷ u ∷ v ∷ []) (search q-writes depth 20) (search q-writes depth 20) refl

-- the value at a sum of points
pub at-plus : (c p q : List ℚ) → at c (plus p q) ≡ at c p +ℚ at c q
at-plus [] p q = sym (+ℚ-zero 0ℚ)
at-plus (c ∷ cs) [] q = sym (zero-+ℚ (at (c ∷ cs) q))
at-plus (c ∷ cs) (s ∷ p) [] = sym (+ℚ-zero (at (c ∷ cs) (s ∷ p)))
at-plus (c ∷ cs) (s ∷ p) (t ∷ q) = ap (λ z. c *ℚ (s +ℚ t) +ℚ z) (at-plus cs p q) ∙ sum_step c s t (at cs p) (at cs q)

-- the sum has as many columns
pub length-plus : (p q : List ℚ) (n : ℕ) → length p ≡ n → length q ≡ n → length (plus p q) ≡ n
length-plus [] q n e f = f
length-plus (s ∷ p) [] n e f = e
length-plus (s ∷ p) (t ∷ q) n e f = ap suc (length-plus p q (length p) refl (omega arith)) ∙ e
