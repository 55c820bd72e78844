-- How large the numbers of the point become: the coordinates are written over one denominator.
use Rattle.std.proofs.Common.{◌≡◌, ⊎_elim, ℕ, suc, ◌*◌, ◌<◌, ◌≤◌, List, [], ◌∷◌, length, sym, ap, ap₂, ◌∙◌, subst, arith}
use Rattle.std.specs.Prelude.{ℤ, pos, ◌+ℤ◌, ◌*ℤ◌, unsigned_abs}
use Rattle.std.specs.Int.{◌∣◌}
use Rattle.std.proofs.Math.Nat.{le_of_dvd}
use Rattle.std.proofs.lemmas.Int.{ints, unsigned_abs-mul}
use Rattle.std.proofs.lemmas.Nat.{mul-le}
use Rattle.crn_fraction.specs.Rational.{ℚ, ratio, whole, ◌+ℚ◌, ◌*ℚ◌, min_ℚ, max_ℚ}
use Rattle.crn_fraction.proofs.Order.{≤ℚ_or_<ℚ, ≤ℚ_of_<ℚ, max_ℚ-left, max_ℚ-right, min_ℚ-left, min_ℚ-right}
use Rattle.crn_fraction.proofs.Ratios.{over-+ℚ, over-whole-*ℚ, over-whole, zero_over}
use Rattle.crn_fraction.proofs.Lowest.{den-divides}
use Rattle.crn_linear.specs.Rows.{value}
use Rattle.crn_linear.specs.Cleared.{common_den}
use Rattle.crn_feasible.specs.Elimination.{greatest, least}
use Rattle.crn_linear.proofs.Denominators.{common_den-least}
use Rattle.crn_feasible.proofs.Orders.{Each}
use Rattle.crn_feasible.proofs.Points.{Each-at_index}
use Rattle.crn_feasible.proofs.Bounds.{abs_sum}

-- ---- lowest terms are no larger

-- q over the denominator d, with a numerator of at most n
pub record IsOver (d n : ℕ) (q : ℚ) : Type 0 where
  pub top : ℤ
  pub is : q ≡ ratio top d
  pub size : unsigned_abs top ≤ n

pub common_den_most : (d n : ℕ) (qs : List ℚ) → 0 < d → Each (IsOver d n) qs → common_den qs ≤ d
common_den_most d n qs p h = le_of_dvd p (common_den-least qs d (Each-at_index (λ q. q.den ∣ d) qs (each qs h)))
  where
    each : (qs : List ℚ) → Each (IsOver d n) qs → Each (λ q. q.den ∣ d) qs
    each [] h = tt
    each (q ∷ qs) h = (subst (λ (t : ℚ). t.den ∣ d) (sym h.0.is) (den-divides h.0.top d p), each qs h.1)

-- ---- the greatest and the least are among them
pub greatest-among : (P : ℚ → Type 0) (l : ℚ) (ls : List ℚ) → P l → Each P ls → P (greatest l ls)
greatest-among P l [] h k = h
greatest-among P l (q ∷ ls) h k =
    greatest-among P (max_ℚ l q) ls
    (⊎_elim (λ e. subst P (sym (max_ℚ-right l q e)) k.0) (λ e. subst P (sym (max_ℚ-left l q (≤ℚ_of_<ℚ q l e))) h) (≤ℚ_or_<ℚ l q)) k.1

pub least-among : (P : ℚ → Type 0) (u : ℚ) (us : List ℚ) → P u → Each P us → P (least u us)
least-among P u [] h k = h
least-among P u (q ∷ us) h k =
    least-among P (min_ℚ u q) us
    (⊎_elim (λ e. subst P (sym (min_ℚ-left u q e)) h) (λ e. subst P (sym (min_ℚ-right u q (≤ℚ_of_<ℚ q u e))) k.0) (≤ℚ_or_<ℚ u q)) k.1

-- ---- the value of a row at coordinates over d
pub value-over_den : (r : List ℤ) (d n e : ℕ) (qs : List ℚ) → 0 < d → Each (λ a. unsigned_abs a ≤ e) r → Each (IsOver d n) qs → IsOver d (length qs * (e * n)) (value r qs)
value-over_den [] d n e qs p h k = record { top = pos 0; is = zero_over d p; size = omega arith }
value-over_den (a ∷ r) d n e [] p h k = record { top = pos 0; is = over-whole (pos 0) d p ∙ ap (λ t. ratio t d) (let z : pos 0 *ℤ pos d ≡ pos 0 = omega (arith, ints) in z); size = omega arith }
value-over_den (a ∷ r) d n e (q ∷ qs) p h k =
    let rest = value-over_den r d n e qs p h.1 k.1 in
    let t = k.0.top in
    record {
      top = a *ℤ t +ℤ rest.top;
      is = ap₂ (λ s u. whole a *ℚ s +ℚ u) k.0.is rest.is ∙ ap (λ s. s +ℚ ratio rest.top d) (over-whole-*ℚ a t d p) ∙ over-+ℚ (a *ℤ t) d rest.top p;
      size = step (length qs) e n a t rest.top h.0 k.0.size rest.size;
    }
  where
    step : (m e n : ℕ) (a t s : ℤ) → unsigned_abs a ≤ e → unsigned_abs t ≤ n → unsigned_abs s ≤ m * (e * n) → unsigned_abs (a *ℤ t +ℤ s) ≤ suc m * (e * n)
    step m e n a t s h k l =
        let w = mul-le (unsigned_abs a) (unsigned_abs t) e n h k in
        let v = abs_sum (a *ℤ t) s in
        omega (arith, w, v, unsigned_abs-mul a t)
