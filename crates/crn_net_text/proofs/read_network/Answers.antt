use Rattle.std.specs.Prelude.{IfOk, List}
use Rattle.std.proofs.Common.{ℕ, Result, Ok, Err, subst}
use Rattle.crn_token.specs.Plain.{PlainLine, plain_lines, line_number, end_of}
use Rattle.crn_grammar.specs.declared.error.TextError.{TextError}
use Rattle.crn_grammar.specs.Table.{IsAnswer, IsText, PassesNone, Read}
use Rattle.crn_grammar.specs.Reading.{Gives, IsRight}
use Rattle.crn_grammar.proofs.TableLaws.{answer_is, read_is}
use Rattle.crn_grammar.proofs.Turns.{right_given}
use Rattle.crn_net.specs.Network.{Network}
use Rattle.crn_net_text.specs.Grammar.{IsNetworkText, network_table, network_answer}
use Rattle.crn_net_text.proofs.Kept.{network_can_end}
use Rattle.crn_net_text.proofs.Sizes.{small_text}
use Rattle.crn_net_text.proofs.Spells.{text_is_grammar}
use Rattle.crn_net_text.proofs.Spelled.{text_is_printed}
use Rattle.crn_net_text.proofs.read_network.Goals as goal

lines_spell : (end : ℕ) (lines : List PlainLine) (r : Result Network TextError) → IsRight (λ (n : Network). n) r (IsAnswer network_table line_number end lines) → IfOk r (IsNetworkText lines)
lines_spell end lines (Ok net) is = text_is_printed lines net is.0
lines_spell end lines (Err e) is = tt

is_right : (c : goal.After-read_text) → IsRight (λ (n : Network). n) c.read_text.result (IsAnswer network_table line_number (end_of c.args.bytes.now) (plain_lines c.args.bytes.now))
is_right c =
    right_given (λ (n : Network). n) (IsAnswer network_table line_number (end_of c.args.bytes.now) (plain_lines c.args.bytes.now)) c.read_text.result (network_answer c.args.bytes.now) c.read_text.ensures
    (answer_is network_table network_can_end line_number (end_of c.args.bytes.now) (plain_lines c.args.bytes.now))

is_read : (c : goal.After-read_text) (net : Network) → IsText network_table (plain_lines c.args.bytes.now) net → PassesNone network_table (plain_lines c.args.bytes.now) → Gives (λ (n : Network). n) c.read_text.result (Read net)
is_read c net text low =
    subst (Gives (λ (n : Network). n) c.read_text.result) (read_is network_table line_number (end_of c.args.bytes.now) (plain_lines c.args.bytes.now) net text low) c.read_text.ensures

pub returns-clause-answer : goal.returns-clause-answer
returns-clause-answer c = is_right c

pub returns-clause-read : goal.returns-clause-read
returns-clause-read c = is_read c

pub returns-clause-spelled : goal.returns-clause-spelled
returns-clause-spelled c = lines_spell (end_of c.args.bytes.now) (plain_lines c.args.bytes.now) c.read_text.result (is_right c)

pub returns-clause-printed : goal.returns-clause-printed
returns-clause-printed c net is few =
    let lines = plain_lines c.args.bytes.now in
    let text = text_is_grammar lines net is in
    is_read c net text (small_text lines net text few)
