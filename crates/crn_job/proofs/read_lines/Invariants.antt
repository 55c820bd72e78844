use Rattle.std.proofs.Common.{◌≡◌, length}
use Rattle.crn_token.specs.Plain.{line_number, end_of}
use Rattle.crn_grammar.specs.Table.{answer}
use Rattle.crn_job.specs.Grammar.{tail_table, lines_answer}
use Rattle.crn_job.specs.Reading.{tail_of, IsKept}
use Rattle.crn_job.proofs.read_lines.Given as goal

abbrev pub invariant-lines : goal.invariant-lines
invariant-lines g l = record {
  text : g.S.LineSource.text l.source ≡ l.bytes;
  told : answer (tail_table l.fn.rails l.fn.inputs) line_number (end_of l.bytes) (tail_of l.tail) (g.S.LineSource.left l.source) ≡ lines_answer l.fn.rails l.fn.inputs l.bytes (g.S.LineSource.left l.fn.source);
  kept : IsKept l.fn.rails l.fn.inputs (tail_of l.tail);
}

abbrev pub decreases-lines : goal.decreases-lines
decreases-lines g l = length (g.S.LineSource.left l.source)
