-- What is known of a system after a walk.
use Rattle.crn_farkas.specs.Systems.{System, IsPointOf}
use Rattle.crn_simplex.specs.declared.walk.Outcome.{Outcome}
use Rattle.crn_simplex.specs.declared.walk.Outcome.TheVariants.{Point, Multiples, GaveUp}

-- a point is one of the system, and nothing is said of multiples
abbrev pub IsRight : System → Outcome → Type 0
IsRight s (Point p) = IsPointOf s p
IsRight s (Multiples ms) = Unit {0}
IsRight s GaveUp = Unit {0}
