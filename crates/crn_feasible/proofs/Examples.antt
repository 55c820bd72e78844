-- Worked systems, computed.
use Rattle.std.proofs.Common.{◌≡◌, refl, List, [], ◌∷◌, true, false, Ok, Err}
use Rattle.std.specs.Prelude.{ℤ, pos, negsuc}
use Rattle.crn_fraction.specs.Gcd.{gcd}
use Rattle.crn_fraction.specs.Rational.{ratio, ◌+ℚ◌, ◌-ℚ◌, ◌*ℚ◌, ◌/ℚ◌, neg_ℚ, inverse_ℚ, min_ℚ, max_ℚ}
use Rattle.crn_linear.specs.Rows.{Row}
use Rattle.crn_feasible.specs.Elimination.{elimination, refuted, reduced, direction, same_direction, combined, bound}

abbrev weak : List ℤ → Row
weak xs = record { entries = xs; strict = false }

abbrev strict : List ℤ → Row
strict xs = record { entries = xs; strict = true }

opposite_strict : elimination (record { columns = 1; rows = strict (pos 1 ∷ []) ∷ weak (negsuc 0 ∷ []) ∷ [] }) ≡ Err (refuted (pos 1 ∷ pos 1 ∷ []))
unfolding gcd ratio ◌+ℚ◌ ◌-ℚ◌ ◌*ℚ◌ ◌/ℚ◌ neg_ℚ inverse_ℚ min_ℚ max_ℚ reduced direction same_direction combined bound
opposite_strict = refl

twice : elimination (record { columns = 1; rows = strict (pos 1 ∷ []) ∷ weak (pos 1 ∷ []) ∷ [] }) ≡ Ok (pos 1 ∷ [])
unfolding gcd ratio ◌+ℚ◌ ◌-ℚ◌ ◌*ℚ◌ ◌/ℚ◌ neg_ℚ inverse_ℚ min_ℚ max_ℚ reduced direction same_direction combined bound
twice = refl

no_rows : elimination (record { columns = 2; rows = [] }) ≡ Ok (pos 0 ∷ pos 0 ∷ [])
unfolding gcd ratio ◌+ℚ◌ ◌-ℚ◌ ◌*ℚ◌ ◌/ℚ◌ neg_ℚ inverse_ℚ min_ℚ max_ℚ reduced direction same_direction combined bound
no_rows = refl

zero_strict : elimination (record { columns = 1; rows = strict (pos 0 ∷ []) ∷ [] }) ≡ Err (refuted (pos 1 ∷ []))
unfolding gcd ratio ◌+ℚ◌ ◌-ℚ◌ ◌*ℚ◌ ◌/ℚ◌ neg_ℚ inverse_ℚ min_ℚ max_ℚ reduced direction same_direction combined bound
zero_strict = refl

third : elimination (record { columns = 2; rows = weak (pos 1 ∷ pos 0 ∷ []) ∷ weak (negsuc 0 ∷ pos 0 ∷ []) ∷ strict (negsuc 0 ∷ pos 1 ∷ []) ∷ [] }) ≡ Ok (pos 0 ∷ pos 1 ∷ [])
unfolding gcd ratio ◌+ℚ◌ ◌-ℚ◌ ◌*ℚ◌ ◌/ℚ◌ neg_ℚ inverse_ℚ min_ℚ max_ℚ reduced direction same_direction combined bound
third = refl
