-- What a row asks, as whether it is strict.
use Rattle.std.specs.Prelude.{◌≡◌, Bool, true, false, ℤ, List}
use Rattle.std.proofs.Common.{refl}
use Rattle.crn_linear.specs.Rows.{Row}
use Rattle.crn_linear.specs.declared.Strength.{Strength}
use Rattle.crn_linear.specs.declared.Strength.TheVariants.{Weak, Strict}

-- whether the order is strict
abbrev pub is_strict : Strength → Bool
is_strict Weak = false
is_strict Strict = true

-- the strength of a row that is strict, or is not
abbrev pub strength_of : Bool → Strength
strength_of false = Weak
strength_of true = Strict

-- a strength is told by whether it is strict
pub strength_back : (s : Strength) → strength_of (is_strict s) ≡ s
strength_back Weak = refl
strength_back Strict = refl

-- a row of these entries and this strength
abbrev pub row_with : List ℤ → Strength → Row
row_with entries strength = record { entries = entries; strict = is_strict strength }
