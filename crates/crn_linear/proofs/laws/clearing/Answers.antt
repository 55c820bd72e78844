use Rattle.crn_linear.specs.Strengths.{is_strict}
use Rattle.crn_linear.proofs.Multiples.{cleared_is}
use Rattle.crn_linear.proofs.Unique.{cleared_only, meets_cleared}
use Rattle.crn_linear.proofs.laws.clearing.Goals as goal

pub returns : goal.returns
returns c = record { is = cleared_is; only = cleared_only; meets = λ form x strength. meets_cleared form x (is_strict strength) }
