-- Two formulas on a domain, and the systems that are asked about them.
use Rattle.std.specs.Prelude.{◌≡◌, ◌≢◌, true, ℕ, max, ℤ, List, ◌++◌, map, length}
use Rattle.crn_fraction.specs.Rational.{ℚ}
use Rattle.crn_linear.specs.Forms.{wholes}
use Rattle.crn_linear.specs.Rows.{Row}
use Rattle.crn_linear.specs.Cleared.{cleared}
use Rattle.crn_farkas.specs.Systems.{System, IsPoint}
use Rattle.crn_formula.specs.Formulas.{Formula, IsOver, formula_value}
use Rattle.crn_formula.specs.Pieces.{Domain, IsIn, columns_of}

-- they have one value at every point of the domain
abbrev pub AreEqual : Domain → Formula → Formula → Type 0
AreEqual domain a b = (x : List ℚ) → IsIn domain x → formula_value a x ≡ formula_value b x

-- they have two values at a point of the domain
pub record DifferAt (domain : Domain) (a b : Formula) (p : List ℤ) : Type 0 where
  pub is_in : IsIn domain (wholes p)
  pub differ : formula_value a (wholes p) ≢ formula_value b (wholes p)

-- the leaves of each formula have one number of columns, and the greater of the two numbers is that of the domain. A value does not see numbers past its columns
pub record AreOver (columns : ℕ) (a b : Formula) : Type 0 where
  pub of_first : ℕ
  pub of_second : ℕ
  pub first : IsOver of_first a
  pub second : IsOver of_second b
  pub greater : max of_first of_second ≡ columns

-- the form is above 0
abbrev pub positive_row : List ℚ → Row
positive_row form = record { entries = cleared form; strict = true }

-- the rows of the domain, and that each form of a set is above 0
abbrev pub asked : Domain → List (List ℚ) → System
asked domain S = record { columns = columns_of domain; rows = domain.rows ++ map positive_row S }

-- no point with as many numbers meets it
abbrev pub HasNone : System → Type 0
HasNone s = (x : List ℚ) → length x ≡ s.columns → ¬ IsPoint s x
