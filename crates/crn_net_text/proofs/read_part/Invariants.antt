use Rattle.std.proofs.Common.{◌≡◌, length}
use Rattle.crn_token.specs.Plain.{line_number, end_of}
use Rattle.crn_grammar.specs.Part.{part_answer}
use Rattle.crn_net_text.specs.Grammar.{network_table, goes_on, part_of_lines}
use Rattle.crn_net_text.specs.Reading.{place_of, IsKept}
use Rattle.crn_net_text.proofs.read_part.Given as goal

abbrev pub invariant-lines : goal.invariant-lines
invariant-lines g l = record {
  text : g.S.LineSource.text l.source ≡ l.bytes;
  told : part_answer network_table goes_on line_number (end_of l.bytes) (place_of l.place) (g.S.LineSource.left l.source) ≡ part_of_lines l.bytes (g.S.LineSource.left l.fn.source);
  kept : IsKept (place_of l.place);
}

abbrev pub decreases-lines : goal.decreases-lines
decreases-lines g l = length (g.S.LineSource.left l.source)
