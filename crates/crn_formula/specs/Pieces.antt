-- Functions given by pieces: where a piece holds, the value, and when pieces cover a domain and agree on it.
use Rattle.std.specs.Prelude.{◌≡◌, ℕ, Bool, true, false, cond, not, ℤ, pos, int_lt, List, [], ◌∷◌, length, Option, Some, None, All, Contains}
use Rattle.std.specs.List.{list_all}
use Rattle.crn_fraction.specs.Rational.{ℚ, 0ℚ, ◌≤ℚ◌}
use Rattle.crn_linear.specs.Forms.{at, wholes, IsValueInReach}
use Rattle.crn_linear.specs.Rows.{Row, Meets, MeetsWhole}

-- a form, and the forms that are at least 0 where it counts
pub record Piece : Type 0 where
  pub conditions : List (List ℚ)
  pub form : List ℚ

-- each condition is at least 0
abbrev pub Holds : Piece → List ℚ → Type 0
Holds piece x = All (λ c. 0ℚ ≤ℚ at c x) piece.conditions

-- the test whether a number is below 0
abbrev pub is_negative : ℚ → Bool
is_negative q = int_lt q.num (pos 0)

-- the test whether each condition is at least 0
abbrev pub all_hold : List (List ℚ) → List ℚ → Bool
all_hold conditions x = list_all (λ c. not (is_negative (at c x))) conditions

-- the value of the form of the first piece that holds
abbrev pub pieces_value : List Piece → List ℚ → Option ℚ
pieces_value [] x = None
pieces_value (piece ∷ pieces) x = cond (all_hold piece.conditions x) (Some (at piece.form x)) (pieces_value pieces x)

-- ---- which numbers are formed on the way to the value
-- the conditions are looked at up to the first negative one
abbrev pub AreConditionsInReach : List (List ℚ) → List ℚ → Type 0
AreConditionsInReach [] x = Unit {0}
AreConditionsInReach (c ∷ conditions) x = IsValueInReach c x × (is_negative (at c x) ≡ false → AreConditionsInReach conditions x)

-- the pieces are looked at up to the first that holds
abbrev pub ArePiecesInReach : List Piece → List ℚ → Type 0
ArePiecesInReach [] x = Unit {0}
ArePiecesInReach (piece ∷ pieces) x = AreConditionsInReach piece.conditions x
    × (all_hold piece.conditions x ≡ true → IsValueInReach piece.form x) × (all_hold piece.conditions x ≡ false → ArePiecesInReach pieces x)

-- ---- domains
-- the rows that a point has to meet, and a whole-number point that meets each of them strictly
pub record Domain : Type 0 where
  pub rows : List Row
  pub inside : List ℤ

-- as many columns as the inside point has
abbrev pub columns_of : Domain → ℕ
columns_of domain = length domain.inside

-- a point is in the domain
pub record IsIn (domain : Domain) (x : List ℚ) : Type 0 where
  pub long : length x ≡ columns_of domain
  pub meets : All (λ r. Meets r x) domain.rows

-- the inside point meets each row strictly, and rows have as many columns as it has
pub record IsDomain (domain : Domain) : Type 0 where
  pub long : All (λ (r : Row). length r.entries ≡ columns_of domain) domain.rows
  pub strictly : All (λ (r : Row). MeetsWhole (record { entries = r.entries; strict = true }) domain.inside) domain.rows

-- some piece holds at the point
abbrev pub IsCovered : List Piece → List ℚ → Type 0
IsCovered pieces x = (piece : Piece) × Contains pieces piece × Holds piece x

-- any two pieces that hold at the point have one value there
abbrev pub HaveOneValue : List Piece → List ℚ → Type 0
HaveOneValue pieces x = (a b : Piece) → Contains pieces a → Contains pieces b → Holds a x → Holds b x → at a.form x ≡ at b.form x

-- some piece holds at each whole-number point of the domain
pub record Covers (domain : Domain) (pieces : List Piece) : Type 0 where
  pub covers : (p : List ℤ) → IsIn domain (wholes p) → IsCovered pieces (wholes p)

-- any two pieces that hold at such a point have one value there
pub record Agree (domain : Domain) (pieces : List Piece) : Type 0 where
  pub agree : (p : List ℤ) → IsIn domain (wholes p) → HaveOneValue pieces (wholes p)
