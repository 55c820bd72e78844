-- What is known of a system without a certificate.
use Rattle.std.specs.Prelude.{◌≡◌, ℤ, List, Option, Some, None, Result, Ok, Err}
use Rattle.crn_farkas.specs.Systems.{System, IsPointOf, HasPoint}
use Rattle.crn_feasible.specs.declared.SolveError.{SolveError}
use Rattle.crn_feasible.specs.declared.SolveError.TheVariants.{TooBig, TooManyRows, Memory}
use Rattle.crn_feasible.specs.Elimination.{Stop, refuted, passes, too_many}

-- a point of the system, or it has none
abbrev pub Finds : System → Option (List ℤ) → Type 0
Finds s None = ¬ HasPoint s
Finds s (Some p) = IsPointOf s p

-- what elimination answers, its certificate and want of memory aside
abbrev pub Decides : Result (Option (List ℤ)) SolveError → Result (List ℤ) Stop → Type 0
Decides (Ok (Some p)) r = r ≡ Ok p
Decides (Ok None) r = (c : List ℤ) × (r ≡ Err (refuted c))
Decides (Err TooBig) r = r ≡ Err passes
Decides (Err TooManyRows) r = r ≡ Err too_many
Decides (Err Memory) r = Unit {0}
