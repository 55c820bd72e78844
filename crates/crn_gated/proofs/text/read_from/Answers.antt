use Rattle.std.proofs.Common.{◌≤◌, length, drop, sym, ◌∙◌, ap₂, subst, arith}
use Rattle.crn_token.specs.Plain.{plain_lines}
use Rattle.crn_token.proofs.SourceLaws.{plain_count}
use Rattle.crn_grammar.specs.Part.{Ends}
use Rattle.crn_grammar.specs.Reading.{RefusesPart}
use Rattle.crn_grammar.proofs.Turns.{part_passed_on}
use Rattle.crn_gated.specs.Grammar.{part_of_lines, gated_part}
use Rattle.crn_gated.specs.Reading.{gated_of}
use Rattle.crn_gated.proofs.text.read_from.Goals as goal

pub returns-clause-answer : goal.returns-clause-answer
returns-clause-answer c =
    let bytes = c.args.bytes.now in
    let begins = ap₂ (λ n t. part_of_lines bytes (drop n (plain_lines t))) (sym c.new-source.ensures.index) (sym c.new-source.ensures.text) in
    let text_is = c.in_ok-function.ensures.same_text ∙ c.new-source.ensures.text in
    begins ∙ c.in_ok-function.ensures.answer ∙ ap₂ (λ n t. Ends (gated_of c.in_ok-function.function) (drop n (plain_lines t))) (sym c.index.ensures.value) text_is

pub returns-clause-next : goal.returns-clause-next
returns-clause-next c =
    let count = plain_count c.args.bytes.now c.args.lines.now c.requires.lines in
    let text_is = c.in_ok-function.ensures.same_text ∙ c.new-source.ensures.text in
    let within : c.index.result ≤ length (plain_lines c.args.bytes.now) = subst (λ t. c.index.result ≤ length (plain_lines t)) text_is c.index.ensures.within in
    omega (arith, within, count)

pub returns-in_err-function-clause-answer : goal.returns-in_err-function-clause-answer
returns-in_err-function-clause-answer c =
    let bytes = c.args.bytes.now in
    let e = c.in_err-function.field-0.0 in
    let begins = ap₂ (λ n t. part_of_lines bytes (drop n (plain_lines t))) c.new-source.ensures.index c.new-source.ensures.text in
    part_passed_on gated_of (plain_lines bytes) c.from_residual.result e (gated_part bytes) c.from_residual.ensures.1
    (subst (RefusesPart e) begins c.in_err-function.ensures.answer)
