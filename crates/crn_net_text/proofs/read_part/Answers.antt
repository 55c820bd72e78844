use Rattle.std.proofs.Common.{◌≡◌, ◌∷◌, drop, map, sym, ◌∙◌, ap, subst}
use Rattle.std.proofs.lemmas.Bool.{not-false}
use Rattle.crn_token.specs.Plain.{plain_token, plain_line}
use Rattle.crn_token.proofs.LineLaws.{said_is}
use Rattle.crn_grammar.proofs.Turns.{part_told, part_read, part_refused, up_to_passed_on}
use Rattle.crn_net.specs.Network.{Network}
use Rattle.crn_net_text.specs.Grammar.{network_table, goes_on, follow, part_of_lines}
use Rattle.crn_net_text.specs.Reading.{place_of}
use Rattle.crn_net_text.proofs.Kept.{kept_judged}
use Rattle.crn_net_text.proofs.read_part.Goals as goal

pub returns-in_err-place-clause-answer : goal.returns-in_err-place-clause-answer
returns-in_err-place-clause-answer g c =
    let bytes = c.args.bytes.now in
    let line = c.in-Some.line.now in
    let s = place_of c.lines.place in
    let left = g.S.LineSource.left c.lines.source in
    let part = part_of_lines bytes (g.S.LineSource.left c.args.source.now) in
    let here = subst (λ t. left ≡ plain_line t line ∷ drop 1 left) c.lines.invariant.text c.in-Some.ensures in
    let said = ap (map (plain_token bytes)) c.tokens_of.ensures ∙ said_is bytes line in
    let e = c.in_err-place.field-0.0 in
    up_to_passed_on (λ (n : Network). n) left c.from_residual.result e part c.from_residual.ensures.1
    (part_refused network_table goes_on bytes part left line (drop 1 left) s e (follow s (map (plain_token bytes) c.tokens_of.result.now))
    here c.lines.invariant.told (not-false _ (sym c.is_whole.ensures ∙ c.if-is_whole.false)) (ap (follow s) said) c.in_err-place.ensures)

pub lines-preserved : goal.lines-preserved
lines-preserved g c =
    let bytes = c.args.bytes.now in
    let line = c.in-Some.line.now in
    let s = place_of c.lines.place in
    let t = place_of c.in_ok-place.place in
    let ts = map (plain_token bytes) c.tokens_of.result.now in
    let left = g.S.LineSource.left c.lines.source in
    let part = part_of_lines bytes (g.S.LineSource.left c.args.source.now) in
    let here = subst (λ t. left ≡ plain_line t line ∷ drop 1 left) c.lines.invariant.text c.in-Some.ensures in
    let said = ap (map (plain_token bytes)) c.tokens_of.ensures ∙ said_is bytes line in
    record {
      text = c.in_ok-advance.ensures.text ∙ c.lines.invariant.text;
      told = ap (part_told network_table goes_on bytes t) c.in_ok-advance.ensures.left
          ∙ part_read network_table goes_on bytes part left line (drop 1 left) s t (follow s ts)
          here c.lines.invariant.told (not-false _ (sym c.is_whole.ensures ∙ c.if-is_whole.false)) (ap (follow s) said) c.in_ok-place.ensures;
      kept = kept_judged line.number s t ts c.lines.invariant.kept c.in_ok-place.ensures;
    }
