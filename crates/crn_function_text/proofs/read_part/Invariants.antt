use Rattle.std.proofs.Common.{◌≡◌, ◌≤◌, length}
use Rattle.crn_token.specs.Plain.{line_number, end_of}
use Rattle.crn_grammar.specs.Part.{part_answer}
use Rattle.crn_function_text.specs.Grammar.{function_table, goes_on, part_of_lines}
use Rattle.crn_function_text.specs.Reading.{shown, IsKept}
use Rattle.crn_function_text.proofs.read_part.Given as goal

abbrev pub invariant-lines : goal.invariant-lines
invariant-lines g l = record {
  text : g.S.LineSource.text l.source ≡ l.bytes;
  told : part_answer function_table goes_on line_number (end_of l.bytes) (shown l.place) (g.S.LineSource.left l.source) ≡ part_of_lines l.bytes (g.S.LineSource.left l.fn.source);
  kept : IsKept (shown l.place);
  later : length (g.S.LineSource.left l.source) ≤ length (g.S.LineSource.left l.fn.source);
}

abbrev pub decreases-lines : goal.decreases-lines
decreases-lines g l = length (g.S.LineSource.left l.source)
