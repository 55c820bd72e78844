-- How the question ends whether two formulas are equal on a domain.
use Rattle.std.specs.Prelude.{◌≡◌, ◌⊎◌, List, [], ◌∷◌, map, Err, All}
use Rattle.crn_fraction.specs.Rational.{ℚ}
use Rattle.crn_linear.specs.Rows.{Row}
use Rattle.crn_farkas.specs.Systems.{System, IsPointOf, HasNoPoint}
use Rattle.crn_feasible.specs.Elimination.{elimination, passes, too_many}
use Rattle.crn_formula.specs.Formulas.{Formula, Sub}
use Rattle.crn_formula.specs.Pieces.{Domain}
use Rattle.crn_pieces.specs.Answers.{Clears}
use Rattle.crn_normal.specs.declared.NormalError.{NormalError}
use Rattle.crn_normal.specs.declared.NormalError.TheVariants as normal
use Rattle.crn_normal.specs.Normal.{Sets, norm}
use Rattle.crn_normal.specs.Steps.{Step, steps}
use Rattle.crn_normal.specs.Refusals.{NoneStops, FirstStops}
use Rattle.crn_same.specs.declared.SameError.{SameError}
use Rattle.crn_same.specs.declared.SameError.TheVariants.{TooManySets, TooManyForms, TooBigForm, Differ, TooBig, TooManyRows, Memory}
use Rattle.crn_same.specs.Equal.{positive_row, asked, DifferAt}

-- ---- one set
-- how the question of a system ends, other than that it has no point
abbrev pub SystemStops : System → SameError → Type 0
SystemStops s (Differ p) = IsPointOf s p
SystemStops s (TooBig kept) = (kept.system ≡ s) × (elimination s ≡ Err passes)
SystemStops s (TooManyRows kept) = (kept.system ≡ s) × (elimination s ≡ Err too_many)
SystemStops s Memory = Unit {0}
SystemStops s e = ⊥

-- some form does not clear, or the question of the system of the set ends so
abbrev pub SetStops : Domain → List (List ℚ) → SameError → Type 0
SetStops domain S TooBigForm = ¬ All Clears S
SetStops domain S Memory = Unit {0}
SetStops domain S e = All Clears S × SystemStops (asked domain S) e

-- each form clears, and at no point of the domain are all of them above 0
pub record IsNowhere (domain : Domain) (S : List (List ℚ)) : Type 0 where
  pub clears : All Clears S
  pub none : HasNoPoint (asked domain S)

-- ---- a difference
-- the first set that is not shown to be nowhere ends the questions so
abbrev pub SetsStop : Domain → Sets → SameError → Type 0
SetsStop domain [] e = ⊥
SetsStop domain (S ∷ A) e = SetStops domain S e ⊎ (IsNowhere domain S × SetsStop domain A e)

-- the first step of a normal form that is refused ends them so
abbrev pub StepsStop : List Step → SameError → Type 0
StepsStop steps (TooManySets count) = FirstStops steps (normal.TooManySets count)
StepsStop steps (TooManyForms count) = FirstStops steps (normal.TooManyForms count)
StepsStop steps TooBigForm = FirstStops steps normal.TooBig
StepsStop steps Memory = Unit {0}
StepsStop steps e = ⊥

-- a step of the normal form is refused, or else one of its sets ends the questions
abbrev pub DifferenceStops : Domain → List Step → Sets → SameError → Type 0
DifferenceStops domain steps A error = StepsStop steps error ⊎ (NoneStops steps × SetsStop domain A error)

-- no step is refused, and each set is nowhere
pub record NoneAbove (domain : Domain) (made : List Step) (A : Sets) : Type 0 where
  pub steps : NoneStops made
  pub sets : All (IsNowhere domain) A

-- ---- both differences
-- the first less the second ends the questions, or else the second less the first does
abbrev pub Ends : Domain → Formula → Formula → SameError → Type 0
Ends domain a b error = DifferenceStops domain (steps (Sub a b)) (norm (Sub a b)) error
    ⊎ (NoneAbove domain (steps (Sub a b)) (norm (Sub a b)) × DifferenceStops domain (steps (Sub b a)) (norm (Sub b a)) error)

-- neither is above the other: no step is refused, and each set is nowhere
pub record NoneDiffers (domain : Domain) (a b : Formula) : Type 0 where
  pub above : NoneAbove domain (steps (Sub a b)) (norm (Sub a b))
  pub below : NoneAbove domain (steps (Sub b a)) (norm (Sub b a))

-- the point of a difference is one of the domain at which the formulas have two values
abbrev pub IsTruePoint : Domain → Formula → Formula → SameError → Type 0
IsTruePoint domain a b (Differ p) = DifferAt domain a b p
IsTruePoint domain a b e = Unit {0}

-- ---- step by step
-- how the refusal of a normal form ends the questions
abbrev pub refusal_of : NormalError → SameError
refusal_of (normal.TooManySets count) = TooManySets count
refusal_of (normal.TooManyForms count) = TooManyForms count
refusal_of normal.TooBig = TooBigForm
refusal_of normal.Memory = Memory

-- the rows that forms are above 0, each of which clears
pub record AreRows (forms : List (List ℚ)) (rows : List Row) : Type 0 where
  pub are_rows : rows ≡ map positive_row forms
  pub clear : All Clears forms

-- a form has no row
abbrev pub HasNoRow : List ℚ → SameError → Type 0
HasNoRow form TooBigForm = ¬ Clears form
HasNoRow form Memory = Unit {0}
HasNoRow form e = ⊥

-- some form of a set has none
abbrev pub HaveNoRows : List (List ℚ) → SameError → Type 0
HaveNoRows S TooBigForm = ¬ All Clears S
HaveNoRows S Memory = Unit {0}
HaveNoRows S e = ⊥
