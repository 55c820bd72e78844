-- Rows with whole entries, and when a point meets one.
use Rattle.std.specs.Prelude.{◌≤◌, ◌^◌, Bool, true, false, ℤ, pos, neg_ℤ, ◌+ℤ◌, ◌*ℤ◌, ◌≤ℤ◌, ◌<ℤ◌, unsigned_abs, List, [], ◌∷◌, map}
use Rattle.std.specs.List.{All}
use Rattle.crn_fraction.specs.Rational.{ℚ, whole, ◌+ℚ◌, ◌*ℚ◌, ◌≤ℚ◌, ◌<ℚ◌}

-- a weak row asks that the sum of its entries times a point's numbers is at least 0, a strict one that it is above 0
pub record Row : Type 0 where
  pub entries : List ℤ
  pub strict : Bool

-- the sum of the products, up to the end of the shorter list
abbrev pub dot : List ℤ → List ℤ → ℤ
dot [] xs = pos 0
dot (a ∷ rest) [] = pos 0
dot (a ∷ rest) (x ∷ xs) = a *ℤ x +ℤ dot rest xs

-- the same, at a point with rational numbers
abbrev pub value : List ℤ → List ℚ → ℚ
value [] xs = whole (pos 0)
value (a ∷ rest) [] = whole (pos 0)
value (a ∷ rest) (x ∷ xs) = whole a *ℚ x +ℚ value rest xs

-- at most, and below where the order is strict
abbrev pub IsBelow : (strict : Bool) → ℚ → ℚ → Type 0
IsBelow true a b = a <ℚ b
IsBelow false a b = a ≤ℚ b

-- the same for whole numbers
abbrev pub IsBelow_ℤ : (strict : Bool) → ℤ → ℤ → Type 0
IsBelow_ℤ true a b = a <ℤ b
IsBelow_ℤ false a b = a ≤ℤ b

-- a point meets a row
abbrev pub Meets : Row → List ℚ → Type 0
Meets r x = IsBelow r.strict (whole (pos 0)) (value r.entries x)

-- a whole-number point meets a row
abbrev pub MeetsWhole : Row → List ℤ → Type 0
MeetsWhole r p = IsBelow_ℤ r.strict (pos 0) (dot r.entries p)

-- at most 2 ^ 59 in size
pub record IsSmall (z : ℤ) : Type 0 where
  pub size : unsigned_abs z ≤ 2 ^ 59

-- all of them are
abbrev pub AreSmall : List ℤ → Type 0
AreSmall xs = All IsSmall xs

-- a row with every sign changed
abbrev pub opposite_of : List ℤ → List ℤ
opposite_of entries = map neg_ℤ entries

-- what a row asks is violated: the row with every sign changed, strict
abbrev pub violation : Row → Row
violation row = record { entries = opposite_of row.entries; strict = true }
