-- With small rows and small coordinates the next coordinate passes no limit.
use Rattle.std.proofs.Common.{◌≡◌, ℕ, ◌+◌, ◌*◌, ◌<◌, ◌≤◌, ◌^◌, Bool, true, cond, List, [], ◌∷◌, ◌++◌, Ok, Err, refl, ap, ap₂, ◌∙◌, arith, append_assoc}
use Rattle.std.specs.Prelude.{ℤ, pos, ◌+ℤ◌, ◌-ℤ◌, ◌*ℤ◌, unsigned_abs, ◌&&◌}
use Rattle.std.specs.List.{list_all}
use Rattle.std.proofs.lemmas.Int.{ints, unsigned_abs-mul}
use Rattle.std.proofs.lemmas.Nat.{mul-le}
use Rattle.crn_fraction.specs.Rational.{ℚ, ratio, whole, ◌+ℚ◌, ◌-ℚ◌}
use Rattle.crn_fraction.proofs.Ratios.{over-+ℚ, over--ℚ, over-whole, times_pos}
use Rattle.crn_feasible.specs.Elimination.{passes, fits, fits_ℚ, greatest, least, between, numerators_over, with_next}
use Rattle.crn_linear.specs.Cleared.{common_den}
use Rattle.crn_feasible.proofs.Orders.{Each}
use Rattle.crn_feasible.proofs.Taking.{Each-append}
use Rattle.crn_feasible.proofs.PointSizes.{IsOver, greatest-among, least-among}
use Rattle.crn_feasible.proofs.PointStep.{IsBound, fits_over, all_fit_over, middle_over, ratio-spread}
use Rattle.crn_feasible.proofs.Bounds.{self_square}

abs_pos : (x : ℤ) (m n k : ℕ) → unsigned_abs x ≤ n → m ≤ k → unsigned_abs (x *ℤ pos m) ≤ n * k
abs_pos x m n k h l = let w = mul-le (unsigned_abs x) m n k h l in omega (arith, w, unsigned_abs-mul x (pos m))

-- the same number over a larger denominator
spread_over : (d n m k : ℕ) (q : ℚ) → 0 < d → 0 < m → m ≤ k → IsOver d n q → IsOver (d * m) (n * k) q
spread_over d n m k q p r l o = record { top = o.top *ℤ pos m; is = o.is ∙ ratio-spread o.top d m p r; size = abs_pos o.top m n k o.size l }

spread_each : (d n m k : ℕ) (qs : List ℚ) → 0 < d → 0 < m → m ≤ k → Each (IsOver d n) qs → Each (IsOver (d * m) (n * k)) qs
spread_each d n m k [] p r l h = tt
spread_each d n m k (q ∷ qs) p r l h = (spread_over d n m k q p r l h.0, spread_each d n m k qs p r l h.1)

wider_each : (d n m : ℕ) (qs : List ℚ) → n ≤ m → Each (IsOver d n) qs → Each (IsOver d m) qs
wider_each d n m [] l h = tt
wider_each d n m (q ∷ qs) l h = (record { top = h.0.top; is = h.0.is; size = omega (arith, h.0.size) }, wider_each d n m qs l h.1)

-- all coordinates over one denominator, and that and the numerators at most y
pub record AreOver (y : ℕ) (qs : List ℚ) : Type 0 where
  pub den : ℕ
  pub positive : 0 < den
  pub most : den ≤ y
  pub each : Each (IsOver den y) qs

-- ---- the next coordinate, over a multiple of the denominator
add_one : (d s e : ℕ) (q : ℚ) → 0 < d → (b : IsBound d s e q) → IsOver (d * b.part) (s + d * e) (q +ℚ whole (pos 1))
add_one d s e q p b =
    let c = times_pos d b.part p b.positive in
    record {
      top = b.top +ℤ pos 1 *ℤ pos (d * b.part);
      is = ap₂ (λ u w. u +ℚ w) b.is (over-whole (pos 1) (d * b.part) c) ∙ over-+ℚ b.top (d * b.part) (pos 1 *ℤ pos (d * b.part)) c;
      size = sizes b.top (d * b.part) s (d * e) b.size (mul-le d b.part d e (omega arith) b.most);
    }
  where
    sizes : (x : ℤ) (m s n : ℕ) → unsigned_abs x ≤ s → m ≤ n → unsigned_abs (x +ℤ pos 1 *ℤ pos m) ≤ s + n
    sizes x m s n h k = omega (arith, ints)

sub_one : (d s e : ℕ) (q : ℚ) → 0 < d → (b : IsBound d s e q) → IsOver (d * b.part) (s + d * e) (q -ℚ whole (pos 1))
sub_one d s e q p b =
    let c = times_pos d b.part p b.positive in
    record {
      top = b.top -ℤ pos 1 *ℤ pos (d * b.part);
      is = ap₂ (λ u w. u -ℚ w) b.is (over-whole (pos 1) (d * b.part) c) ∙ over--ℚ b.top (d * b.part) (pos 1 *ℤ pos (d * b.part)) c;
      size = sizes b.top (d * b.part) s (d * e) b.size (mul-le d b.part d e (omega arith) b.most);
    }
  where
    sizes : (x : ℤ) (m s n : ℕ) → unsigned_abs x ≤ s → m ≤ n → unsigned_abs (x -ℤ pos 1 *ℤ pos m) ≤ s + n
    sizes x m s n h k = omega (arith, ints)

-- the coordinate between bounds, for y that holds all that comes
pub between_over : (d s e y : ℕ) (ls us : List ℚ) → 0 < d → 1 ≤ e → s + d * e ≤ y → s * e + s * e ≤ y → Each (IsBound d s e) ls → Each (IsBound d s e) us
    → (m : ℕ) × (0 < m) × (m ≤ e * e * 2) × IsOver (d * m) y (between ls us)
between_over d s e y [] [] p r h k a b =
    (1, omega arith, (let w = self_square e r in omega (arith, w)), record { top = pos 0; is = over-whole (pos 0) (d * 1) (times_pos d 1 p (omega arith)) ∙ ap (λ t. ratio t (d * 1)) (zero_top (d * 1)); size = omega arith })
  where
    zero_top : (n : ℕ) → pos 0 *ℤ pos n ≡ pos 0
    zero_top n = omega (arith, ints)
between_over d s e y (l ∷ ls) [] p r h k a b =
    let g = greatest-among (IsBound d s e) l ls a.0 a.1 in
    let o = add_one d s e (greatest l ls) p g in
    (g.part, g.positive, (let w = self_square e r in omega (arith, g.most, w)), record { top = o.top; is = o.is; size = omega (arith, o.size) })
between_over d s e y [] (u ∷ us) p r h k a b =
    let g = least-among (IsBound d s e) u us b.0 b.1 in
    let o = sub_one d s e (least u us) p g in
    (g.part, g.positive, (let w = self_square e r in omega (arith, g.most, w)), record { top = o.top; is = o.is; size = omega (arith, o.size) })
between_over d s e y (l ∷ ls) (u ∷ us) p r h k a b =
    let g = greatest-among (IsBound d s e) l ls a.0 a.1 in
    let f = least-among (IsBound d s e) u us b.0 b.1 in
    let o = middle_over d s e (greatest l ls) (least u us) p g f in
    let w = mul-le g.part f.part e e g.most f.most in
    let q = times_pos g.part f.part g.positive f.positive in
    let shape : (d * g.part * f.part) * 2 ≡ d * (g.part * f.part * 2) = omega arith in
    (g.part * f.part * 2, omega (arith, q), omega (arith, w), record { top = o.top; is = o.is ∙ ap (ratio o.top) shape; size = omega (arith, o.size) })

-- with the next coordinate all are over one denominator again, and it and the numerators are at most y
pub next_over : (d n s e y : ℕ) (xs ls us : List ℚ) → 0 < d → d ≤ n → 1 ≤ e → s + d * e ≤ y → s * e + s * e ≤ y → n * (e * e * 2) ≤ y
    → Each (IsOver d n) xs → Each (IsBound d s e) ls → Each (IsBound d s e) us → AreOver y (xs ++ between ls us ∷ [])
next_over d n s e y xs ls us p l r h k g o a b =
    let x = between_over d s e y ls us p r h k a b in
    let m = x.0 in
    let w = mul-le d m n (e * e * 2) l x.2 in
    record {
      den = d * m;
      positive = times_pos d m p x.1;
      most = omega (arith, w);
      each = Each-append (IsOver (d * m) y) xs (between ls us ∷ [])
          (wider_each (d * m) (n * (e * e * 2)) y xs g (spread_each d n m (e * e * 2) xs p x.1 x.2 o)) (x.3, tt);
    }

bounds_fit : (d n s e : ℕ) (qs rest : List ℚ) → 0 < d → d ≤ n → n * e ≤ 2 ^ 59 → s ≤ 2 ^ 59 → Each (IsBound d s e) qs → list_all fits_ℚ rest ≡ true → list_all fits_ℚ (qs ++ rest) ≡ true
bounds_fit d n s e [] rest p l h k b r = r
bounds_fit d n s e (q ∷ qs) rest p l h k b r =
    let t = b.0 in
    let w = mul-le d t.part n e l t.most in
    let f : fits_ℚ q ≡ true = fits_over (d * t.part) s q (times_pos d t.part p t.positive) (omega (arith, w)) k (record { top = t.top; is = t.is; size = t.size }) in
    rw f (bounds_fit d n s e qs rest p l h k b.1 r)

last_of : (P : ℚ → Type 0) (xs : List ℚ) (x : ℚ) → Each P (xs ++ x ∷ []) → P x
last_of P [] x h = h.0
last_of P (y ∷ xs) x h = last_of P xs x h.1

-- so the next coordinate passes no limit
pub next_passes : (d n s e y : ℕ) (xs ls us : List ℚ) → 0 < d → d ≤ n → 1 ≤ e → s + d * e ≤ y → s * e + s * e ≤ y → n * (e * e * 2) ≤ y → n * e ≤ 2 ^ 59 → s ≤ 2 ^ 59 → y ≤ 2 ^ 59
    → Each (IsOver d n) xs → Each (IsBound d s e) ls → Each (IsBound d s e) us → with_next ls us xs (between ls us) ≡ Ok (xs ++ between ls us ∷ [])
next_passes d n s e y xs ls us p l r h k g ne sl yl o a b =
    let all = next_over d n s e y xs ls us p l r h k g o a b in
    let x = between ls us in
    let fx : fits_ℚ x ≡ true = fits_over all.den y x all.positive (omega (arith, all.most)) yl (last_of (IsOver all.den y) xs x all.each) in
    let one : list_all fits_ℚ (x ∷ []) ≡ true = rw fx refl in
    let first : list_all fits_ℚ (ls ++ (us ++ x ∷ [])) ≡ true = bounds_fit d n s e ls (us ++ x ∷ []) p l ne sl a (bounds_fit d n s e us (x ∷ []) p l ne sl b one) in
    let second = all_fit_over all.den y (xs ++ x ∷ []) all.positive (omega (arith, all.most)) yl all.each in
    passed (list_all fits_ℚ (ls ++ us ++ x ∷ [])) (list_all fits (pos (common_den (xs ++ x ∷ [])) ∷ numerators_over (common_den (xs ++ x ∷ [])) (xs ++ x ∷ []))) (xs ++ x ∷ [])
    (ap (list_all fits_ℚ) (append_assoc ls us (x ∷ [])) ∙ first) second
  where
    passed : (t u : Bool) (qs : List ℚ) → t ≡ true → u ≡ true → cond (t && u) (Ok qs) (Err passes) ≡ Ok qs
    passed t u qs e f = simp (e, f)
