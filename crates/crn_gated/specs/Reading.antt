-- What the readers' places, functions and jobs show.
use Rattle.std.specs.Prelude.{◌≤◌}
use Rattle.crn_gated.specs.Forms.{AreFewGatedForms}
use Rattle.crn_gated.specs.Grammar as grammar
use Rattle.crn_gated.specs.JobGrammar.{PlainGatedJob}
use Rattle.crn_gated.specs.declared.GatedFunction.{GatedFunction}
use Rattle.crn_gated.specs.declared.job.GatedJob.{GatedJob}
use Rattle.crn_gated.specs.declared.place.Place.{Place}
use Rattle.crn_gated.specs.declared.place.Place.TheVariants as place

-- a place with what was read
abbrev pub shown : Place → grammar.Place
shown place.Start = grammar.Start
shown place.Header = grammar.Header
shown (place.Sized k) = grammar.Sized k
shown (place.InForms k forms) = grammar.InForms k forms.items

-- a function of the code
abbrev pub gated_of : GatedFunction → grammar.PlainGated
gated_of f = record { variables = f.variables; forms = f.forms.items }

-- a job of the code
abbrev pub gated_job_of : GatedJob → PlainGatedJob
gated_job_of j = record { function = gated_of j.function; amounts = j.amounts.items; segments = j.segments.items }

-- what holds at each place to which lines lead of which none passed a limit
abbrev pub IsKept : grammar.Place → Type 0
IsKept grammar.Start = Unit {0}
IsKept grammar.Header = Unit {0}
IsKept (grammar.Sized k) = (1 ≤ k) × (k ≤ grammar.most_variables)
IsKept (grammar.InForms k forms) = AreFewGatedForms k forms
