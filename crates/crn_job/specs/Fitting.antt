-- The jobs and run jobs that texts within the limits give.
use Rattle.std.specs.Prelude.{◌≡◌, ◌≤◌, length}
use Rattle.crn_formula.specs.Functions.{IsFitting}
use Rattle.crn_net.specs.Limits.{IsValid}
use Rattle.crn_net.specs.Network.{AreNotNegative, IsState}
use Rattle.crn_segments.specs.Steps.{AreSegments}
use Rattle.crn_job.specs.Grammar.{PlainJob, amount_count, most_segments}
use Rattle.crn_job.specs.RunGrammar.{PlainRunJob}

-- a function by the rule of functions, an amount for each species of its inputs, none negative, and segments, not too many
pub record IsFittingJob (job : PlainJob) : Type 0 where
  pub function : IsFitting job.function.variables job.function.kind
  pub long : length job.amounts ≡ amount_count job.function
  pub not_negative : AreNotNegative job.amounts
  pub segments : AreSegments job.segments
  pub few_segments : length job.segments ≤ most_segments

-- a network that can be made, a state of it, and segments, not too many
pub record IsFittingRunJob (job : PlainRunJob) : Type 0 where
  pub network : IsValid job.network
  pub state : IsState job.network job.state
  pub segments : AreSegments job.segments
  pub few_segments : length job.segments ≤ most_segments
