use Rattle.std.proofs.Common.{◌≡◌, ◌≤◌, ◌++◌, ◌∙◌, rules, string_bytes, sym, ap, ap₂, subst, arith}
use Rattle.crn_token.specs.Plain.{plain_lines}
use Rattle.crn_token.specs.Printed.{lines_read, printed}
use Rattle.crn_grammar.specs.Table.{IsText, PassesNone}
use Rattle.crn_formula.specs.Views.{kind_of}
use Rattle.crn_function_text.specs.Grammar.{function_table}
use Rattle.crn_function_text.specs.Reading.{function_of}
use Rattle.crn_function_text.specs.Printing.{header_lines, kind_lines, function_lines, function_text, AreKindFracs}
use Rattle.crn_function_text.proofs.LinesWritten.{groups_written}
use Rattle.crn_function_text.proofs.PrintedText.{printed_text}
use Rattle.crn_function_text.proofs.PrintedBytes.{bytes_read}
use Rattle.crn_function_text.proofs.print.print_function.Goals as goal

text_is : (c : goal.After-into_bytes) → c.into_bytes.result.items ≡ function_text (function_of c.args.function.now)
text_is c =
    let f = function_of c.args.function.now in
    let bytes : c.into_bytes.result.items ≡ string_bytes c.write_kind.new.out = search rules in
    bytes
    ∙ groups_written (string_bytes c.new-out.result) (string_bytes c.write_header.new.out) (string_bytes c.write_kind.new.out) (header_lines f) (kind_lines f.variables f.kind) c.new-out.ensures.bytes c.in_ok-write_header.ensures
    (c.in_ok-write_kind.ensures.text
    ∙ ap₂ (λ n g. string_bytes c.write_header.new.out ++ printed (kind_lines n (kind_of g))) c.variables.ensures.value c.kind.ensures.value)

lines_are : (c : goal.After-into_bytes) → plain_lines c.into_bytes.result.items ≡ lines_read 1 (function_lines (function_of c.args.function.now))
lines_are c =
    let f = function_of c.args.function.now in
    let fitting = c.variables.ensures.rule.fitting in
    let few : c.variables.result ≤ 8 = omega (arith, c.variables.ensures.value, fitting.few) in
    let fits : AreKindFracs f.variables f.kind =
    subst (λ n. AreKindFracs n (kind_of c.args.function.now.kind)) c.variables.ensures.value
    (subst (λ g. AreKindFracs c.variables.result (kind_of g)) c.kind.ensures.value (c.in_ok-write_kind.ensures.fits few)) in
    ap plain_lines (text_is c) ∙ bytes_read f fitting.few fits

pub returns-clause-text : goal.returns-clause-text
returns-clause-text c = text_is c

pub returns-clause-spells : goal.returns-clause-spells
returns-clause-spells c =
    let f = function_of c.args.function.now in
    subst (λ ls. IsText function_table ls f) (sym (lines_are c)) (printed_text f c.variables.ensures.rule.fitting).0

pub returns-clause-limits : goal.returns-clause-limits
returns-clause-limits c = subst (PassesNone function_table) (sym (lines_are c)) (printed_text (function_of c.args.function.now) c.variables.ensures.rule.fitting).1
