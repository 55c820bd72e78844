-- The three domains of functions.
use Rattle.std.specs.Prelude.{◌≡◌, ℕ, zero, suc, ◌+◌, ◌-◌, ◌≤◌, true, false, cond, ℤ, pos, List, [], ◌∷◌, ◌++◌, replicate, set, length, take}
use Rattle.crn_linear.specs.Rows.{Row}
use Rattle.crn_linear.specs.Views.{HasColumns}
use Rattle.crn_formula.specs.Pieces.{Domain, IsDomain}
use Rattle.crn_formula.specs.Functions.{Kind, is_affine, IsGivenByPieces}

-- the point or row with 1 at an index and 0 elsewhere
abbrev pub unit : (columns index : ℕ) → List ℤ
unit n i = set (replicate n (pos 0)) i (pos 1)

-- all points of so many numbers
abbrev pub whole_space : (columns : ℕ) → Domain
whole_space n = record { rows = []; inside = replicate n (pos 0) }

-- the points whose last number is above 0
abbrev pub affine_domain : (columns : ℕ) → Domain
affine_domain n = record { rows = record { entries = unit n (n - 1); strict = true } ∷ []; inside = unit n (n - 1) }

-- the rows of the first m numbers, each at least 0
abbrev pub orthant_rows : (columns m : ℕ) → List Row
orthant_rows n zero = []
orthant_rows n (suc m) = orthant_rows n m ++ record { entries = unit n m; strict = false } ∷ []

-- the points without a negative number
abbrev pub orthant : (columns : ℕ) → Domain
orthant n = record { rows = orthant_rows n n; inside = replicate n (pos 1) }

-- the domain of a function that nothing restricts further
abbrev pub domain_for : ℕ → Kind → Domain
domain_for k kind = cond (is_affine k kind) (affine_domain (k + 1)) (whole_space k)

-- pieces without constants, on the orthant
pub record IsOnOrthant (k : ℕ) (domain : Domain) (kind : Kind) : Type 0 where
  pub pieces : IsGivenByPieces kind
  pub linear : is_affine k kind ≡ false
  pub is_orthant : domain ≡ orthant k

-- at most eight rows in their places, and the rule of a domain
pub record IsKeptDomain (count : ℕ) (places : List Row) (inside : List ℤ) : Type 0 where
  pub few : count ≤ 8
  pub eight : length places ≡ 8
  pub columns : HasColumns inside
  pub domain : IsDomain (record { rows = take count places; inside = inside })
