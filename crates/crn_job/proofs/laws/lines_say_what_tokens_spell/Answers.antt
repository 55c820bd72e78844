use Rattle.crn_token.specs.Words.{says}
use Rattle.crn_job.proofs.Spelled.{numbers_spelled, spelled_numbers, segment_spelled, spelled_segment, amount_spelled, spelled_amount, line_spelled, spelled_line, run_line_spelled, spelled_run_line}
use Rattle.crn_job.proofs.laws.lines_say_what_tokens_spell.Goals as goal

pub returns-clause-numbers : goal.returns-clause-numbers
returns-clause-numbers c n qs tokens = (λ is. numbers_spelled n tokens qs is, λ spells. spelled_numbers n tokens qs spells.0 spells.1)

pub returns-clause-segment : goal.returns-clause-segment
returns-clause-segment c u tokens = (segment_spelled tokens u, spelled_segment tokens u)

pub returns-clause-amount : goal.returns-clause-amount
returns-clause-amount c low n g tokens = (amount_spelled low n tokens g, spelled_amount low n tokens g)

pub returns-clause-line : goal.returns-clause-line
returns-clause-line c t u line = (line_spelled t u (says line), spelled_line t u (says line))

pub returns-clause-run_line : goal.returns-clause-run_line
returns-clause-run_line c t u line = (run_line_spelled t u (says line), spelled_run_line t u (says line))
