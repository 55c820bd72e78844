-- A form has one cleared row, and a point meets that row exactly where the form's value has its sign.
use Rattle.std.proofs.Common.{◌≡◌, ◌⊎◌, ◌↔◌, inl, inr, ⊎_elim, ℕ, ◌*◌, ◌/◌, ◌<◌, List, [], ◌∷◌, length, get_or, map, Bool, true, false, refl, sym, ap, ◌∙◌, subst, arith}
use Rattle.std.specs.Prelude.{ℤ, pos, ◌*ℤ◌, ◌<ℤ◌, unsigned_abs}
use Rattle.std.specs.List.{All}
use Rattle.std.specs.Int.{◌∣◌}
use Rattle.std.proofs.lemmas.Int.{ints, unsigned_abs-mul}
use Rattle.std.proofs.lemmas.List.{length-map, ext_get_or, get_or-map}
use Rattle.std.proofs.Math.Nat.{dvd-mul_right}
use Rattle.crn_fraction.specs.Gcd.{gcd, IsCoprime, gcd-pos, left-over_gcd, right-over_gcd, IsCoprime-over_gcd}
use Rattle.crn_fraction.specs.Rational.{ℚ, ratio, whole, 0ℚ, ◌+ℚ◌, ◌*ℚ◌, ◌≤ℚ◌, ◌<ℚ◌}
use Rattle.crn_fraction.specs.Parts.{ratio_self}
use Rattle.crn_fraction.proofs.Integers.{ring_ℤ, z-writes}
use Rattle.crn_fraction.proofs.Core.{cancel_ℤ, same_from_ratio}
use Rattle.crn_fraction.proofs.Ratios.{ratio-*ℚ, times_pos}
use Rattle.crn_fraction.proofs.Ring.{ring_ℚ, q-writes, *ℚ-zero}
use Rattle.crn_fraction.proofs.Order.{≤ℚ_or_<ℚ, ≤ℚ_of_<ℚ}
use Rattle.crn_fraction.proofs.Linear.{not_<ℚ}
use Rattle.crn_fraction.proofs.Lowest.{IsCoprime-swap, dvd_other}
use Rattle.crn_fraction.proofs.Products.{*ℚ-≤ℚ, *ℚ-<ℚ, ≤ℚ_of_*ℚ, num_of_positive}
use Rattle.crn_linear.specs.Forms.{at, entry_of, wholes}
use Rattle.crn_linear.specs.Rows.{value, IsBelow, Meets}
use Rattle.crn_linear.specs.Cleared.{IsMultiple, HaveNoDivisor, IsCleared, cleared}
use Rattle.crn_linear.proofs.Minus.{all_of}
use Rattle.crn_linear.proofs.Multiples.{cleared_is}

-- ---- one cleared row
length-multiple : (form : List ℚ) (row : List ℤ) → IsMultiple form row → length row ≡ length form
length-multiple form row m = sym (length-map row whole) ∙ ap length m.same ∙ length-map form (λ x. m.factor *ℚ x)

-- an entry of a multiple is the factor times that of the form
entry-multiple : (form : List ℚ) (row : List ℤ) (m : IsMultiple form row) (i : ℕ) → i < length row → whole (get_or row i (pos 0)) ≡ m.factor *ℚ entry_of form i
entry-multiple form row m i h =
    let below : i < length form = rw (← length-multiple form row m) h in
    sym (get_or-map whole row i (pos 0) 0ℚ h) ∙ ap (λ xs. get_or xs i 0ℚ) m.same ∙ get_or-map (λ x. m.factor *ℚ x) form i 0ℚ 0ℚ below

-- entries of two multiples, by the factors' parts
cross_entries : (a b : ℚ) (x y : ℤ) → 0ℚ <ℚ a → 0ℚ <ℚ b → a *ℚ whole y ≡ b *ℚ whole x
    → pos (unsigned_abs a.num * b.den) *ℤ y ≡ pos (unsigned_abs b.num * a.den) *ℤ x
cross_entries a b x y p q e =
    let side : (c : ℚ) (z : ℤ) → c *ℚ whole z ≡ ratio (c.num *ℤ z) (c.den * 1) = λ c z.
    ap (λ r. r *ℚ whole z) (sym (ratio_self c)) ∙ ratio-*ℚ c.num c.den z 1 c.lowest.positive (omega arith) in
    let cross = same_from_ratio (a.num *ℤ y) (b.num *ℤ x) (a.den * 1) (b.den * 1)
    (times_pos a.den 1 a.lowest.positive (omega arith)) (times_pos b.den 1 b.lowest.positive (omega arith)) (sym (side a y) ∙ e ∙ side b x) in
    arranged (unsigned_abs a.num) b.den y ∙ ap (λ n. (n *ℤ y) *ℤ pos (b.den * 1)) (sym (sized a.num (num_of_positive a p)))
    ∙ cross ∙ ap (λ n. (n *ℤ x) *ℤ pos (a.den * 1)) (sized b.num (num_of_positive b q)) ∙ sym (arranged (unsigned_abs b.num) a.den x)
  where
    sized : (z : ℤ) → pos 0 <ℤ z → z ≡ pos (unsigned_abs z)
    sized z h = omega (arith, ints)

    arranged : (u d : ℕ) (z : ℤ) → pos (u * d) *ℤ z ≡ (pos u *ℤ z) *ℤ pos (d * 1)
    arranged u d z = ring_ℤ (pos u ∷ pos d ∷ z ∷ []) {x = (pos u *ℤ pos d) *ℤ z} {y = (pos u *ℤ z) *ℤ (pos d *ℤ pos 1)} (search z-writes depth 20) (search z-writes depth 20) refl

-- the sizes of two equal products
sizes : (p q : ℕ) (x y : ℤ) → pos p *ℤ y ≡ pos q *ℤ x → p * unsigned_abs y ≡ q * unsigned_abs x
sizes p q x y e = sym (unsigned_abs-mul (pos p) y) ∙ ap unsigned_abs e ∙ unsigned_abs-mul (pos q) x

zero_times : (u v : ℕ) (x y : ℤ) → 0 < u → x ≡ pos 0 → pos u *ℤ y ≡ pos v *ℤ x → y ≡ pos 0
zero_times u v x y p z e =
    cancel_ℤ y (pos 0) u p (turned y u ∙ e ∙ ap (λ n. pos v *ℤ n) z ∙ nothing v ∙ sym (none u))
  where
    turned : (y : ℤ) (u : ℕ) → y *ℤ pos u ≡ pos u *ℤ y
    turned y u = ring_ℤ (y ∷ pos u ∷ []) (search z-writes depth 20) (search z-writes depth 20) refl

    nothing : (v : ℕ) → pos v *ℤ pos 0 ≡ pos 0
    nothing v = omega (arith, ints)

    none : (u : ℕ) → pos 0 *ℤ pos u ≡ pos 0
    none u = omega (arith, ints)

-- the factors over their greatest common divisor
lower : (u v : ℕ) (x y : ℤ) → 0 < v → pos u *ℤ y ≡ pos v *ℤ x → pos (u / gcd u v) *ℤ y ≡ pos (v / gcd u v) *ℤ x
lower u v x y p e =
    let g = gcd u v in
    cancel_ℤ (pos (u / g) *ℤ y) (pos (v / g) *ℤ x) g (gcd-pos u v p)
    (grown (u / g) g y ∙ ap (λ n. pos n *ℤ y) (left-over_gcd u v) ∙ e ∙ ap (λ n. pos n *ℤ x) (sym (right-over_gcd u v)) ∙ sym (grown (v / g) g x))
  where
    grown : (a g : ℕ) (z : ℤ) → (pos a *ℤ z) *ℤ pos g ≡ pos (a * g) *ℤ z
    grown a g z = ring_ℤ (pos a ∷ pos g ∷ z ∷ []) {y = (pos a *ℤ pos g) *ℤ z} (search z-writes depth 20) (search z-writes depth 20) refl

divides_other : (p q : ℕ) (x y : ℤ) → IsCoprime q p → pos p *ℤ y ≡ pos q *ℤ x → p ∣ unsigned_abs x
divides_other p q x y c e = dvd_other p q (unsigned_abs x) c (subst (λ n. p ∣ n) (sizes p q x y e) (dvd-mul_right p (unsigned_abs y)))

-- two rows with proportional entries
module _ (u v : ℕ) (r s : List ℤ) (p : 0 < u) (q : 0 < v) (long : length s ≡ length r) (e : (i : ℕ) → i < length r → pos u *ℤ get_or s i (pos 0) ≡ pos v *ℤ get_or r i (pos 0)) where
  both_lowest : HaveNoDivisor r → HaveNoDivisor s → r ≡ s
  both_lowest f h =
      let a = u / gcd u v in
      let b = v / gcd u v in
      let low = λ (i : ℕ) (l : i < length r). lower u v (get_or r i (pos 0)) (get_or s i (pos 0)) q (e i l) in
      let apart = IsCoprime-over_gcd u v q in
      let one : a ≡ 1 = f a (all_of (λ n. a ∣ unsigned_abs n) r (pos 0) (λ i l. divides_other a b _ _ (IsCoprime-swap a b apart) (low i l))) in
      let other : b ≡ 1 = h b (all_of (λ n. b ∣ unsigned_abs n) s (pos 0) (λ i l. divides_other b a _ _ apart (sym (low i (subst (λ n. i < n) long l))))) in
      ext_get_or (pos 0) r s (sym long) (λ i l. same _ _ (subst (λ n. pos 1 *ℤ get_or s i (pos 0) ≡ pos n *ℤ get_or r i (pos 0)) other
      (subst (λ n. pos n *ℤ get_or s i (pos 0) ≡ pos b *ℤ get_or r i (pos 0)) one (low i l))))
    where
      same : (x y : ℤ) → pos 1 *ℤ y ≡ pos 1 *ℤ x → x ≡ y
      same x y h = omega (arith, ints)

  left_zero : All (λ n. n ≡ pos 0) r → r ≡ s
  left_zero z = ext_get_or (pos 0) r s (sym long) (λ i l. z i (pos 0) l ∙ sym (zero_times u v (get_or r i (pos 0)) (get_or s i (pos 0)) p (z i (pos 0) l) (e i l)))

  right_zero : All (λ n. n ≡ pos 0) s → r ≡ s
  right_zero z = ext_get_or (pos 0) r s (sym long) (λ i l.
      let w = z i (pos 0) (subst (λ n. i < n) (sym long) l) in
      zero_times v u (get_or s i (pos 0)) (get_or r i (pos 0)) q w (sym (e i l)) ∙ sym w)

  pub same_rows : HaveNoDivisor r ⊎ All (λ n. n ≡ pos 0) r → HaveNoDivisor s ⊎ All (λ n. n ≡ pos 0) s → r ≡ s
  same_rows (inr z) b = left_zero z
  same_rows (inl f) (inr z) = right_zero z
  same_rows (inl f) (inl h) = both_lowest f h

size_above : (a : ℚ) → 0ℚ <ℚ a → 0 < unsigned_abs a.num
size_above a h = let l = num_of_positive a h in omega (arith, ints)

-- a form has one cleared row
pub one_cleared : (form : List ℚ) (r s : List ℤ) → IsCleared form r → IsCleared form s → r ≡ s
one_cleared form r s c d =
    let a = c.multiple.factor in
    let b = d.multiple.factor in
    let long : length s ≡ length r = length-multiple form s d.multiple ∙ sym (length-multiple form r c.multiple) in
    same_rows (unsigned_abs a.num * b.den) (unsigned_abs b.num * a.den) r s
    (times_pos _ _ (size_above a c.multiple.positive) b.lowest.positive) (times_pos _ _ (size_above b d.multiple.positive) a.lowest.positive) long
    (λ i h.
    let x = get_or r i (pos 0) in
    let y = get_or s i (pos 0) in
    let t = entry_of form i in
    let first : whole x ≡ a *ℚ t = entry-multiple form r c.multiple i h in
    let second : whole y ≡ b *ℚ t = entry-multiple form s d.multiple i (subst (λ n. i < n) (sym long) h) in
    cross_entries a b x y c.multiple.positive d.multiple.positive
    (ap (λ z. a *ℚ z) second ∙ ring_ℚ (a ∷ b ∷ t ∷ []) {y = b *ℚ (a *ℚ t)} (search q-writes depth 20) (search q-writes depth 20) refl ∙ ap (λ z. b *ℚ z) (sym first)))
    c.lowest d.lowest

-- and it is the one that the plain function computes
pub cleared_only : (form : List ℚ) (row : List ℤ) → IsCleared form row → row ≡ cleared form
cleared_only form row c = one_cleared form row (cleared form) c (cleared_is form)

-- ---- points that meet the row
-- the sum of a row's products is the value of the row as a form
pub value-at : (row : List ℤ) (x : List ℚ) → value row x ≡ at (wholes row) x
value-at [] x = refl
value-at (a ∷ row) [] = refl
value-at (a ∷ row) (t ∷ x) = ap (λ z. whole a *ℚ t +ℚ z) (value-at row x)

at-multiple : (k : ℚ) (form x : List ℚ) → at (map (λ c. k *ℚ c) form) x ≡ k *ℚ at form x
at-multiple k [] x = sym (*ℚ-zero k)
at-multiple k (c ∷ form) [] = sym (*ℚ-zero k)
at-multiple k (c ∷ form) (t ∷ x) =
    ap (λ z. (k *ℚ c) *ℚ t +ℚ z) (at-multiple k form x)
    ∙ ring_ℚ (k ∷ c ∷ t ∷ at form x ∷ []) {y = k *ℚ (c *ℚ t +ℚ at form x)} (search q-writes depth 20) (search q-writes depth 20) refl

-- the value of a multiple is the factor times the value of the form
pub value-multiple : (form : List ℚ) (row : List ℤ) (m : IsMultiple form row) (x : List ℚ) → value row x ≡ m.factor *ℚ at form x
value-multiple form row m x = value-at row x ∙ ap (λ f. at f x) m.same ∙ at-multiple m.factor form x

below_times : (k a : ℚ) → 0ℚ <ℚ k → (strict : Bool) → IsBelow strict 0ℚ (k *ℚ a) ↔ IsBelow strict 0ℚ a
below_times k a p true = (
  λ h. ⊎_elim (λ le.
      let at_most : k *ℚ a ≤ℚ 0ℚ = subst (λ z. k *ℚ a ≤ℚ z) (*ℚ-zero k) (*ℚ-≤ℚ k a 0ℚ (≤ℚ_of_<ℚ 0ℚ k p) le) in
      absurd (not_<ℚ (k *ℚ a) 0ℚ at_most h)) (λ lt. lt) (≤ℚ_or_<ℚ a 0ℚ),
  λ h. subst (λ z. z <ℚ k *ℚ a) (*ℚ-zero k) (*ℚ-<ℚ k 0ℚ a p h),
)
below_times k a p false = (
  λ h. ≤ℚ_of_*ℚ k 0ℚ a p (subst (λ z. z ≤ℚ k *ℚ a) (sym (*ℚ-zero k)) h),
  λ h. subst (λ z. z ≤ℚ k *ℚ a) (*ℚ-zero k) (*ℚ-≤ℚ k 0ℚ a (≤ℚ_of_<ℚ 0ℚ k p) h),
)

-- a point meets the cleared row exactly where the form's value is at least 0 there, or above it
pub meets_cleared : (form x : List ℚ) (strict : Bool) → Meets (record { entries = cleared form; strict = strict }) x ↔ IsBelow strict 0ℚ (at form x)
meets_cleared form x strict =
    let m = (cleared_is form).multiple in
    let both = below_times m.factor (at form x) m.positive strict in
    let e = value-multiple form (cleared form) m x in
    (λ h. both.0 (subst (λ z. IsBelow strict 0ℚ z) e h), λ h. subst (λ z. IsBelow strict 0ℚ z) (sym e) (both.1 h))
