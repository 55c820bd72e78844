-- What comes of two functions that are compared.
use Rattle.std.specs.Prelude.{ℕ, ◌≡◌, ◌≢◌}
use Rattle.crn_function_text.specs.Two.{TwoFunctions}
use Rattle.crn_same.specs.Functions.{IsComparable, AreSame, AreShownSame, IsRefused, IsTrueOf}
use Rattle.crn_same.specs.declared.SameError.{SameError}
use Rattle.crn_same.specs.declared.SameError.TheVariants.{Memory}
use Rattle.crn_program.specs.Finding.{Outcome, OtherKind, OtherVariables, NotSame, Same}

-- neither is the least of forms
pub record AreComparable (both : TwoFunctions) : Type 0 where
  pub first : IsComparable both.first.kind
  pub second : IsComparable both.second.kind

-- and they have one number of variables
pub record AreCompared (both : TwoFunctions) : Type 0 where
  pub comparable : AreComparable both
  pub variables : both.first.variables ≡ both.second.variables

-- They have one value at all points, which their normal forms show.
pub record AreFoundSame (both : TwoFunctions) : Type 0 where
  pub compared : AreCompared both
  pub same : AreSame both.first.variables both.first.kind both.second.kind
  pub shown : AreShownSame both.first.variables both.first.kind both.second.kind

-- That is not shown of them, which have k variables, for this cause, which is not want of memory. At the point of a difference they have two values.
pub record AreNotSame (both : TwoFunctions) (k : ℕ) (e : SameError) : Type 0 where
  pub compared : AreCompared both
  pub variables : k ≡ both.first.variables
  pub is_cause : e ≢ Memory
  pub refused : IsRefused both.first.variables both.first.kind both.second.kind e
  pub point : IsTrueOf both.first.variables both.first.kind both.second.kind e

-- `same`
abbrev pub IsOutcomeOfTwo : TwoFunctions → Outcome → Type 0
IsOutcomeOfTwo both OtherKind = ¬ AreComparable both
IsOutcomeOfTwo both (OtherVariables m n) = AreComparable both × (m ≡ both.first.variables) × (n ≡ both.second.variables) × (m ≢ n)
IsOutcomeOfTwo both (NotSame k e) = AreNotSame both k e
IsOutcomeOfTwo both Same = AreFoundSame both
IsOutcomeOfTwo both _ = ⊥
