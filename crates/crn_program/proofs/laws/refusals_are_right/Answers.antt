use Rattle.std.proofs.Common.{refl}
use Rattle.crn_program.specs.declared.status.Status.TheVariants as status
use Rattle.crn_program.proofs.Refusing.{segment_right, run_segment_right, gated_segment_right, pair_right, job_pair_right, gap_right, job_gap_right}
use Rattle.crn_program.proofs.RefusingPieces.{differ_right, sum_right, negative_right, proof_right}
use Rattle.crn_program.proofs.laws.refusals_are_right.Goals as goal

pub returns-clause-complete_segment : goal.returns-clause-complete_segment
returns-clause-complete_segment c = λ words bytes text row answer. segment_right words bytes text status.Illegal answer row refl

pub returns-clause-run_segment : goal.returns-clause-run_segment
returns-clause-run_segment c = λ words bytes text row answer. run_segment_right words bytes text status.Illegal answer row refl

pub returns-clause-complete_gated_segment : goal.returns-clause-complete_gated_segment
returns-clause-complete_gated_segment c = λ words bytes text row answer. gated_segment_right words bytes text status.Illegal answer row refl

pub returns-clause-compile_pair : goal.returns-clause-compile_pair
returns-clause-compile_pair c = λ words bytes text row answer. pair_right words bytes text status.Disagree answer row refl

pub returns-clause-complete_pair : goal.returns-clause-complete_pair
returns-clause-complete_pair c = λ words bytes text row answer. job_pair_right words bytes text status.Disagree answer row refl

pub returns-clause-compile_gap : goal.returns-clause-compile_gap
returns-clause-compile_gap c = λ words bytes text row answer. gap_right words bytes text status.NotCovered answer row refl

pub returns-clause-complete_gap : goal.returns-clause-complete_gap
returns-clause-complete_gap c = λ words bytes text row answer. job_gap_right words bytes text status.NotCovered answer row refl

pub returns-clause-same_differ : goal.returns-clause-same_differ
returns-clause-same_differ c = λ words bytes text row answer. differ_right words bytes text status.Differ answer row refl

pub returns-clause-direct_sum : goal.returns-clause-direct_sum
returns-clause-direct_sum c = λ words bytes text row answer. sum_right words bytes text status.NotSuperadditive answer row refl

pub returns-clause-direct_negative : goal.returns-clause-direct_negative
returns-clause-direct_negative c = λ words bytes text row answer. negative_right words bytes text status.Negative answer row refl

pub returns-clause-check_line : goal.returns-clause-check_line
returns-clause-check_line c = λ words bytes text row answer. proof_right words bytes text status.NotProved answer row refl
