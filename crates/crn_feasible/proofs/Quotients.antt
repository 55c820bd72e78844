-- The division of a 128-bit number, as the code computes it.
use Rattle.std.proofs.Common.{◌≡◌, ⊎_elim, ℕ, zero, suc, ◌<◌, ◌≤◌, ◌^◌, false, List, [], ◌∷◌, length, get_or, refl, sym, ap, ap₂, ◌∙◌, arith, to_z, of_z, SFits}
use Rattle.std.specs.Prelude.{ℤ, pos, negsuc, unsigned_abs, int_div, neg_ℤ, ◌+ℤ◌, ◌*ℤ◌, ◌/◌, ◌&&◌}
use Rattle.std.specs.List.{list_all}
use Rattle.std.specs.Int.{w64, w128}
use Rattle.std.proofs.Math.Nat.{div-zero, eq-zero-or-pos}
use Rattle.std.proofs.lemmas.Int.{ints, to_z-of_z, quot_fits, fits_signed_from_abs}
use Rattle.std.proofs.lemmas.Bool.{and_right, lt-leb}
use Rattle.crn_linear.specs.Rows.{IsSmall}
use Rattle.crn_feasible.specs.Elimination.{fits}
use Rattle.crn_linear.specs.Cleared.{over}
use Rattle.crn_farkas.specs.Mixtures.{mixed}
use Rattle.crn_linear.proofs.Commons.{get_or-over}
use Rattle.crn_feasible.proofs.Certificates.{length-mixed}
use Rattle.crn_linear.proofs.Commons.{length-over}
use Rattle.crn_farkas.proofs.Mixing.{get_or-mixed}

natural_is : (n : ℕ) → n ≤ 2 ^ 119 → to_z w128 n ≡ pos n
natural_is n h = omega (arith, ints)

above_zero : (n : ℕ) → (n ≡ 0 → ⊥) → 0 < n
above_zero n h = ⊎_elim (λ (e : n ≡ 0). absurd (h e)) (λ (p : 0 < n). p) (eq-zero-or-pos n)

pub quotient_fits : (z : ℤ) (n : ℕ) → SFits w128 z → (n ≡ 0 → ⊥) → n ≤ 2 ^ 119 → (0 < n) × SFits w128 (int_div (to_z w128 (of_z w128 z)) (to_z w128 n))
quotient_fits z n f h l =
    let p : 0 < n = above_zero n h in
    (p, rw (to_z-of_z w128 z f, natural_is n l) (quot_fits w128 z (pos n) f (omega (arith, ints))))

pub quotient_is : (z : ℤ) (n : ℕ) → SFits w128 z → (n ≡ 0 → ⊥) → n ≤ 2 ^ 119 → to_z w128 (of_z w128 (int_div (to_z w128 (of_z w128 z)) (to_z w128 n))) ≡ int_div z (pos n)
quotient_is z n f h l =
    let p : 0 < n = above_zero n h in
    ap (λ t. to_z w128 (of_z w128 t)) (ap₂ int_div (to_z-of_z w128 z f) (natural_is n l))
    ∙ to_z-of_z w128 (int_div z (pos n)) (quot_fits w128 z (pos n) f (omega (arith, ints)))

pub no_quotient : (z : ℤ) (n : ℕ) → n ≡ 0 → pos 0 ≡ int_div z (pos n)
no_quotient (pos a) n e = ap pos (sym (ap (λ d. a / d) e ∙ div-zero a))
no_quotient (negsuc a) n e = ap (λ k. neg_ℤ (pos k)) (sym (ap (λ d. suc a / d) e ∙ div-zero (suc a)))

pub small_zero : IsSmall (pos 0)
small_zero = record { size = omega arith }

pub too_big : (q r : ℤ) (m : ℕ) → m ≡ unsigned_abs r → r ≡ q → 2 ^ 59 < m → fits q ≡ false
too_big q r m e f h = let l : 2 ^ 59 < unsigned_abs q = omega (arith, h, e, ap unsigned_abs f) in lt-leb (unsigned_abs q) (2 ^ 59) l

pub low_fits : (q r : ℤ) (m : ℕ) → m ≡ unsigned_abs r → r ≡ q → m ≤ 2 ^ 59 → SFits w64 r
low_fits q r m e f h = fits_signed_from_abs w64 r (omega (arith, e))

pub low_is : (q r : ℤ) (m : ℕ) → m ≡ unsigned_abs r → r ≡ q → m ≤ 2 ^ 59 → (to_z w64 (of_z w64 r) ≡ q) × IsSmall (to_z w64 (of_z w64 r))
low_is q r m e f h =
    let back : to_z w64 (of_z w64 r) ≡ r = to_z-of_z w64 r (low_fits q r m e f h) in
    (back ∙ f, record { size = omega (arith, ap unsigned_abs back, e) })

-- ---- a row, number by number

pub false_at : (xs : List ℤ) (i : ℕ) → i < length xs → fits (get_or xs i (pos 0)) ≡ false → list_all fits xs ≡ false
false_at [] i l h = absurd (omega arith)
false_at (x ∷ xs) zero l h = ap (λ t. t && list_all fits xs) h
false_at (x ∷ xs) (suc i) l h = and_right (fits x) (list_all fits xs) (false_at xs i (omega arith) h)

pub refused_at : (a b : ℤ) (p n : List ℤ) (g i : ℕ) (x : ℤ) → length p ≡ length n → i < length p
    → x ≡ a *ℤ get_or p i (pos 0) +ℤ b *ℤ get_or n i (pos 0) → fits (int_div x (pos g)) ≡ false → list_all fits (over g (mixed a p b n)) ≡ false
refused_at a b p n g i x e l h k =
    let m = mixed a p b n in
    let long : length (over g m) ≡ length p = length-over g m ∙ length-mixed a p b n (length p) refl (sym e) in
    let item : get_or (over g m) i (pos 0) ≡ int_div x (pos g) = get_or-over g m i ∙ ap (λ t. int_div t (pos g)) (get_or-mixed a p b n i ∙ sym h) in
    false_at (over g m) i (omega (arith, long)) (ap fits item ∙ k)
