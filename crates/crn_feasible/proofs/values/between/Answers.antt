use Rattle.std.proofs.Common.{arith, zero, suc, true, false, sym, ap, ap₂, ◌∙◌, ◌≡◌, ◌<◌, ◌≤◌, ◌^◌, ℕ, subst, eqb-true, Option}
use Rattle.std.specs.Prelude.{pos, MatchOption, ◌==◌, unsigned_abs}
use Rattle.crn_fraction.specs.Rational.{ℚ, whole, ◌+ℚ◌, ◌-ℚ◌, ◌/ℚ◌}
use Rattle.crn_fraction.proofs.Wholes.{num-whole, den-whole}
use Rattle.crn_feasible.specs.Elimination.{fits_ℚ}
use Rattle.crn_feasible.proofs.Picked.{between-none, between-lows, between-highs, between-both}
use Rattle.crn_feasible.proofs.SmallRatios.{fits_parts}
use Rattle.crn_feasible.proofs.values.between.Goals as goal

none : (n : ℕ) → true ≡ (n == 0) → n ≡ 0
none n h = eqb-true n 0 (sym h)

some : (n : ℕ) → false ≡ (n == 0) → 0 < n
some zero h = cc
some (suc n) h = omega arith

zero_fits : fits_ℚ (whole (pos 0)) ≡ true
zero_fits =
    let num : unsigned_abs (whole (pos 0)).num ≤ 2 ^ 59 = rw (num-whole (pos 0)) (omega arith) in
    let den : (whole (pos 0)).den ≤ 2 ^ 59 = rw (den-whole (pos 0)) (omega arith) in
    fits_parts (whole (pos 0)) num den

abbrev Fitting : Option ℚ → ℚ → Type 0
Fitting o q = MatchOption o (fits_ℚ q ≡ false) (λ (r : ℚ). (r ≡ q) × (fits_ℚ q ≡ true))

pub returns-then-is_empty-2 : goal.returns-then-is_empty-2
returns-then-is_empty-2 c =
    let is = between-none c.args.lows.now c.args.highs.now (none _ c.if-is_empty.ensures) (none _ c.if-is_empty-2.ensures) in
    (sym is, ap fits_ℚ is ∙ zero_fits)

pub returns-then-is_empty : goal.returns-then-is_empty
returns-then-is_empty c =
    let is = between-highs c.args.lows.now c.args.highs.now (none _ c.if-is_empty.ensures) (some _ c.if-is_empty-2.ensures) in
    subst (Fitting c.below.result) (ap (λ q. q -ℚ whole (pos 1)) c.least.ensures.value ∙ sym is) c.below.ensures

pub returns-then-is_empty-3 : goal.returns-then-is_empty-3
returns-then-is_empty-3 c =
    let is = between-lows c.args.lows.now c.args.highs.now (some _ c.if-is_empty.ensures) (none _ c.if-is_empty-3.ensures) in
    subst (Fitting c.above.result) (ap (λ q. q +ℚ whole (pos 1)) c.greatest.ensures.value ∙ sym is) c.above.ensures

pub returns : goal.returns
returns c =
    let is = between-both c.args.lows.now c.args.highs.now (some _ c.if-is_empty.ensures) (some _ c.if-is_empty-3.ensures) in
    subst (Fitting c.middle.result) (ap₂ (λ p q. (p +ℚ q) /ℚ whole (pos 2)) c.greatest-2.ensures.value c.least-2.ensures.value ∙ sym is) c.middle.ensures
