use Rattle.std.proofs.Common.{◌≡◌, ◌∷◌, drop, map, ◌∙◌, ap, subst}
use Rattle.crn_token.specs.Plain.{plain_token, plain_line}
use Rattle.crn_grammar.proofs.Turns.{told, turn_read, turn_refused, passed_on}
use Rattle.crn_job.specs.Grammar.{tail_follow, tail_table, lines_answer}
use Rattle.crn_job.specs.Reading.{tail_of, value_of}
use Rattle.crn_job.proofs.TailSteps.{line_next, kept_judged}
use Rattle.crn_job.proofs.read_lines.Goals as goal

pub returns-in_err-tail-clause-answer : goal.returns-in_err-tail-clause-answer
returns-in_err-tail-clause-answer g c =
    let bytes = c.args.bytes.now in
    let line = c.in-Some.line.now in
    let t = tail_of c.lines.tail in
    let left = g.S.LineSource.left c.lines.source in
    let all = lines_answer c.args.rails c.args.inputs bytes (g.S.LineSource.left c.args.source.now) in
    let here = subst (λ t. left ≡ plain_line t line ∷ drop 1 left) c.lines.invariant.text c.in-Some.ensures in
    let next = line_next bytes line c.tokens_of-tokens.result.now c.rest_of.result.now t c.first_word-word.result c.tokens_of-tokens.ensures c.first_word-word.ensures c.rest_of.ensures in
    let e = c.in_err-tail.field-0.0 in
    passed_on value_of c.from_residual.result e all c.from_residual.ensures.1
    (turn_refused (tail_table c.args.rails c.args.inputs) bytes all left line (drop 1 left) t e (tail_follow t t.left c.first_word-word.result (map (plain_token bytes) c.rest_of.result.now))
    here c.lines.invariant.told next (c.in_err-tail.ensures bytes))

pub lines-preserved : goal.lines-preserved
lines-preserved g c =
    let bytes = c.args.bytes.now in
    let line = c.in-Some.line.now in
    let t = tail_of c.lines.tail in
    let u = tail_of c.in_ok-tail.tail in
    let table = tail_table c.args.rails c.args.inputs in
    let w = c.first_word-word.result in
    let ts = map (plain_token bytes) c.rest_of.result.now in
    let left = g.S.LineSource.left c.lines.source in
    let all = lines_answer c.args.rails c.args.inputs bytes (g.S.LineSource.left c.args.source.now) in
    let here = subst (λ t. left ≡ plain_line t line ∷ drop 1 left) c.lines.invariant.text c.in-Some.ensures in
    let next = line_next bytes line c.tokens_of-tokens.result.now c.rest_of.result.now t w c.tokens_of-tokens.ensures c.first_word-word.ensures c.rest_of.ensures in
    record {
      text = c.in_ok-advance.ensures.text ∙ c.lines.invariant.text;
      told = ap (told table bytes u) c.in_ok-advance.ensures.left
          ∙ turn_read table bytes all left line (drop 1 left) t u (tail_follow t t.left w ts) here c.lines.invariant.told next (c.in_ok-tail.ensures bytes);
      kept = kept_judged c.args.rails c.args.inputs line.number t u w ts c.lines.invariant.kept (c.in_ok-tail.ensures bytes);
    }
