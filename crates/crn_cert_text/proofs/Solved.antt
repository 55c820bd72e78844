-- What the solver says of a system.
use Rattle.crn_farkas.specs.Systems.{System}
use Rattle.crn_feasible.specs.declared.Verdict.{Verdict}
use Rattle.crn_feasible.specs.declared.Verdict.TheVariants.{Found, Refuted}
use Rattle.crn_feasible.specs.Answers.{IsTrueOf, IsLong}
use Rattle.crn_cert_text.specs.Making.{IsVerdict}

pub verdict_of : (s : System) (v : Verdict) → IsTrueOf s v → IsLong s v → IsVerdict s v
verdict_of s (Found p) h l = record { long = l; meets = h }
verdict_of s (Refuted c) h l = h
