use Rattle.std.proofs.Common.{◌≡◌, ◌++◌, ◌∙◌, ℕ, List, length, sym, ap, ap₂, subst}
use Rattle.std.proofs.lemmas.List.{length-map}
use Rattle.crn_token.specs.Plain.{plain_lines}
use Rattle.crn_grammar.specs.Table.{IsText, PassesNone}
use Rattle.crn_formula.specs.Views.{Function}
use Rattle.crn_function_text.specs.Grammar.{function_table}
use Rattle.crn_function_text.specs.Printing.{function_text}
use Rattle.crn_function_text.specs.Reading.{function_of}
use Rattle.crn_cert_text.specs.Views.{line_of, lines_of_proof}
use Rattle.crn_cert_text.proofs.PrintedLines.{all_printable}
use Rattle.crn_cert_text.specs.ProvedText.{proved_table, proved_text, printed_proof}
use Rattle.crn_cert_text.specs.TextAnswers.{IsAcceptedText}
use Rattle.crn_cert_text.proofs.PrintedTexts.{readable_of, prints_of, accepts_of}
use Rattle.crn_cert_text.proofs.proved.print_proved.Goals as goal
use Rattle.crn_cert_text.proofs.proved.print_proved.Goals.{In_ok-text, In_ok-extend_from_slice}

spelled : (c : In_ok-text) → IsText function_table (plain_lines c.in_ok-text.text.items) (function_of c.args.checked.now)
spelled c = subst (λ (g : Function). IsText function_table (plain_lines c.in_ok-text.text.items) (function_of g)) c.function.ensures.value c.in_ok-text.ensures.spells

low : (c : In_ok-text) → PassesNone function_table (plain_lines c.in_ok-text.text.items)
low c = c.in_ok-text.ensures.limits

text_is : (c : In_ok-extend_from_slice) → c.extend_from_slice.new.self.items ≡ proved_text (function_of c.args.checked.now) (lines_of_proof c.args.proof.now.lines.items)
text_is c =
    c.in_ok-extend_from_slice.ensures.items
    ∙ ap₂ (λ x y. x ++ y) (c.in_ok-text.ensures.text ∙ ap (λ (g : Function). function_text (function_of g)) c.function.ensures.value) (c.as_slice.ensures.value ∙ c.in_ok-lines.ensures)

pub print_proof-requires : goal.print_proof-requires
print_proof-requires c =
    let s = (goal.at.print_proof-requires c).In_ok-text in
    let lines = lines_of_proof c.args.proof.now.lines.items in
    all_printable lines (readable_of c.args.checked.now lines c.in_ok-text.text.items (spelled s) (low s) c.args.checked.now.domain c.requires.made.proof)

pub returns-clause-text : goal.returns-clause-text
returns-clause-text c = text_is (goal.at.returns-clause-text c).In_ok-extend_from_slice

pub returns-clause-spells : goal.returns-clause-spells
returns-clause-spells c =
    let s = (goal.at.returns-clause-spells c).In_ok-text in
    let lines = lines_of_proof c.args.proof.now.lines.items in
    subst (λ (bs : List ℕ). IsText proved_table (plain_lines bs) (printed_proof (function_of c.args.checked.now) lines)) (sym (text_is (goal.at.returns-clause-spells c).In_ok-extend_from_slice))
    (prints_of c.args.checked.now lines c.in_ok-text.text.items (spelled s) (low s) c.args.checked.now.domain c.requires.made.proof).text

pub returns-clause-limits : goal.returns-clause-limits
returns-clause-limits c =
    let s = (goal.at.returns-clause-limits c).In_ok-text in
    let lines = lines_of_proof c.args.proof.now.lines.items in
    subst (λ (bs : List ℕ). PassesNone proved_table (plain_lines bs)) (sym (text_is (goal.at.returns-clause-limits c).In_ok-extend_from_slice))
    (prints_of c.args.checked.now lines c.in_ok-text.text.items (spelled s) (low s) c.args.checked.now.domain c.requires.made.proof).limits

pub returns-clause-accepted : goal.returns-clause-accepted
returns-clause-accepted c =
    let s = (goal.at.returns-clause-accepted c).In_ok-text in
    let lines = lines_of_proof c.args.proof.now.lines.items in
    let h = accepts_of c.args.checked.now lines c.in_ok-text.text.items (spelled s) (low s) c.args.checked.now.domain c.requires.made.proof c.requires.domain c.function.ensures.pieces c.function.ensures.checked in
    subst (IsAcceptedText c.extend_from_slice.new.self.items) (length-map c.args.proof.now.lines.items line_of)
    (subst (λ (bs : List ℕ). IsAcceptedText bs (length lines)) (sym (text_is (goal.at.returns-clause-accepted c).In_ok-extend_from_slice)) h)
