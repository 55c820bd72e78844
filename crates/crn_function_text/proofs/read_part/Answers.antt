use Rattle.std.proofs.Common.{◌≡◌, ◌∷◌, length, drop, map, sym, ◌∙◌, ap, subst, arith, true, false, length-drop}
use Rattle.crn_token.specs.Plain.{plain_token, plain_line}
use Rattle.crn_token.specs.Words.{rest_of}
use Rattle.crn_grammar.specs.Reading.{GivesUpTo}
use Rattle.crn_grammar.proofs.Turns.{part_told, part_read, part_refused, part_stops, end_up_to, up_to_passed_on}
use Rattle.crn_function_text.specs.Words.{first_word}
use Rattle.crn_function_text.specs.Grammar.{function_table, goes_on, follow, whole, part_of_lines}
use Rattle.crn_function_text.specs.Reading.{shown, function_of}
use Rattle.crn_function_text.proofs.Steps.{word_said, rest_said, line_goes}
use Rattle.crn_function_text.proofs.Kept.{kept_judged}
use Rattle.crn_function_text.proofs.read_part.Goals as goal

pub returns-then-not-allows-clause-answer : goal.returns-then-not-allows-clause-answer
returns-then-not-allows-clause-answer g c =
    let bytes = c.args.bytes.now in
    let line = c.in-Some.line.now in
    let s = shown c.lines.place in
    let left = g.S.LineSource.left c.lines.source in
    let here = subst (λ t. left ≡ plain_line t line ∷ drop 1 left) c.lines.invariant.text c.in-Some.ensures in
    let word_is = c.first_word-word.ensures ∙ ap (λ ts. first_word (map (plain_token bytes) ts)) c.tokens_of.ensures ∙ word_said bytes line in
    let off = line_goes bytes line s c.first_word-word.result false word_is (sym c.allows.ensures ∙ c.if-not-allows.true) in
    subst (GivesUpTo function_of left c.function.result)
    (part_stops function_table goes_on bytes (part_of_lines bytes (g.S.LineSource.left c.args.source.now)) left line (drop 1 left) s here c.lines.invariant.told off)
    (end_up_to function_of left line.number (whole s) c.function.result c.function.ensures.value)

pub returns-in_err-place-clause-answer : goal.returns-in_err-place-clause-answer
returns-in_err-place-clause-answer g c =
    let bytes = c.args.bytes.now in
    let line = c.in-Some.line.now in
    let s = shown c.lines.place in
    let w = c.first_word-word.result in
    let left = g.S.LineSource.left c.lines.source in
    let part = part_of_lines bytes (g.S.LineSource.left c.args.source.now) in
    let here = subst (λ t. left ≡ plain_line t line ∷ drop 1 left) c.lines.invariant.text c.in-Some.ensures in
    let word_is = c.first_word-word.ensures ∙ ap (λ ts. first_word (map (plain_token bytes) ts)) c.tokens_of.ensures ∙ word_said bytes line in
    let allowed = sym c.allows.ensures ∙ c.if-not-allows.false in
    let e = c.in_err-place.field-0.0 in
    up_to_passed_on function_of left c.from_residual.result e part c.from_residual.ensures.1
    (part_refused function_table goes_on bytes part left line (drop 1 left) s e (follow s w (map (plain_token bytes) (rest_of line.tokens.items)))
    here c.lines.invariant.told (line_goes bytes line s w true word_is allowed) (rest_said bytes line s w word_is allowed) c.in_err-place.ensures)

pub lines-preserved : goal.lines-preserved
lines-preserved g c =
    let bytes = c.args.bytes.now in
    let line = c.in-Some.line.now in
    let s = shown c.lines.place in
    let w = c.first_word-word.result in
    let ts = map (plain_token bytes) (rest_of line.tokens.items) in
    let left = g.S.LineSource.left c.lines.source in
    let part = part_of_lines bytes (g.S.LineSource.left c.args.source.now) in
    let here = subst (λ t. left ≡ plain_line t line ∷ drop 1 left) c.lines.invariant.text c.in-Some.ensures in
    let word_is = c.first_word-word.ensures ∙ ap (λ ts. first_word (map (plain_token bytes) ts)) c.tokens_of.ensures ∙ word_said bytes line in
    let allowed = sym c.allows.ensures ∙ c.if-not-allows.false in
    let left_is = c.in_ok-advance.ensures.left in
    record {
      text = c.in_ok-advance.ensures.text ∙ c.lines.invariant.text;
      told = ap (part_told function_table goes_on bytes (shown c.in_ok-place.place)) left_is
          ∙ part_read function_table goes_on bytes part left line (drop 1 left) s (shown c.in_ok-place.place) (follow s w ts)
          here c.lines.invariant.told (line_goes bytes line s w true word_is allowed) (rest_said bytes line s w word_is allowed) c.in_ok-place.ensures;
      kept = kept_judged line.number s (shown c.in_ok-place.place) w ts c.lines.invariant.kept c.in_ok-place.ensures;
      later = omega (arith, ap length left_is, length-drop 1 left, c.lines.invariant.later);
    }
