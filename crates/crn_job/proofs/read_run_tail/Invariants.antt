use Rattle.std.proofs.Common.{◌≡◌, length}
use Rattle.crn_token.specs.Plain.{line_number, end_of}
use Rattle.crn_grammar.specs.Table.{answer}
use Rattle.crn_job.specs.RunGrammar.{RunTail, run_tail_table, run_tail_answer}
use Rattle.crn_job.specs.Reading.{Shows, IsRunKept}
use Rattle.crn_job.proofs.read_run_tail.Given as goal

-- the place so far, with the amounts that were given
abbrev pub invariant-lines : goal.invariant-lines
invariant-lines g l =
    (g.S.LineSource.text l.source ≡ l.bytes)
    × (t : RunTail)
    × Shows l.tail t
    × IsRunKept l.fn.species t
    × (answer (run_tail_table l.fn.species) line_number (end_of l.bytes) t (g.S.LineSource.left l.source) ≡ run_tail_answer l.fn.species l.bytes (g.S.LineSource.left l.fn.source))

abbrev pub decreases-lines : goal.decreases-lines
decreases-lines g l = length (g.S.LineSource.left l.source)
