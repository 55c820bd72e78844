-- What the solver answers.
use Rattle.std.specs.Prelude.{◌≡◌, ℤ, List, length, Result, Ok, Err}
use Rattle.crn_farkas.specs.Systems.{System, IsWholePoint, IsCertificate}
use Rattle.crn_feasible.specs.declared.Verdict.{Verdict}
use Rattle.crn_feasible.specs.declared.Verdict.TheVariants.{Found, Refuted}
use Rattle.crn_feasible.specs.declared.SolveError.{SolveError}
use Rattle.crn_feasible.specs.declared.SolveError.TheVariants.{TooBig, TooManyRows, Memory}
use Rattle.crn_feasible.specs.Elimination.{Stop, refuted, passes, too_many, elimination}

-- what elimination answers, want of memory aside
abbrev pub Answers : Result Verdict SolveError → Result (List ℤ) Stop → Type 0
Answers (Ok (Found p)) r = r ≡ Ok p
Answers (Ok (Refuted c)) r = r ≡ Err (refuted c)
Answers (Err TooBig) r = r ≡ Err passes
Answers (Err TooManyRows) r = r ≡ Err too_many
Answers (Err Memory) r = Unit {0}

-- the point meets the system, the certificate is one
abbrev pub IsTrueOf : System → Verdict → Type 0
IsTrueOf s (Found p) = IsWholePoint s p
IsTrueOf s (Refuted c) = IsCertificate s c

-- the point has a number for each column
abbrev pub IsLong : System → Verdict → Type 0
IsLong s (Found p) = length p ≡ s.columns
IsLong s (Refuted c) = Unit {0}

-- elimination refutes the system
abbrev pub IsRefuted : System → Type 0
IsRefuted s = (c : List ℤ) × (elimination s ≡ Err (refuted c))
