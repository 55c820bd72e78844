use Rattle.std.proofs.Common.{◌≡◌, ◌∷◌, length, drop, map, refl, sym, ◌∙◌, ap, subst, arith}
use Rattle.crn_token.specs.Plain.{plain_token, plain_line}
use Rattle.crn_grammar.specs.Table.{Read}
use Rattle.crn_grammar.proofs.Turns.{told, turn_read, turn_refused, passed_on}
use Rattle.crn_net.specs.Network.{IsNotNegative}
use Rattle.crn_job.specs.RunGrammar.{run_start, run_follow, run_tail_table, run_tail_answer, state_given}
use Rattle.crn_job.specs.Reading.{run_value_of}
use Rattle.crn_job.proofs.States.{length-state, state_not_negative}
use Rattle.crn_job.proofs.RunSteps.{run_line_next, run_kept, value_shown}
use Rattle.crn_job.proofs.read_run_tail.Goals as goal

pub lines-init : goal.lines-init
lines-init g c = (c.requires.text, run_start c.args.species, c.in_ok-tail.ensures, record { species = refl; few = omega arith; not_negative = tt; segments = tt }, refl)

pub after-requires-clause-long : goal.after-requires-clause-long
after-requires-clause-long g c =
    let (same, t, shows, kept, before) = c.lines.invariant in
    ap length shows.state ∙ length-state t.species t.amounts ∙ sym shows.species

pub after-requires-clause-few : goal.after-requires-clause-few
after-requires-clause-few g c =
    let (same, t, shows, kept, before) = c.lines.invariant in
    omega (arith, kept.few, ap length shows.segments)

pub returns-in_err-tail-2-clause-answer : goal.returns-in_err-tail-2-clause-answer
returns-in_err-tail-2-clause-answer g c =
    let (same, t, shows, kept, before) = c.lines.invariant in
    let bytes = c.args.bytes.now in
    let line = c.in-Some.line.now in
    let left = g.S.LineSource.left c.lines.source in
    let all = run_tail_answer c.args.species bytes (g.S.LineSource.left c.args.source.now) in
    let here = subst (λ text. left ≡ plain_line text line ∷ drop 1 left) same c.in-Some.ensures in
    let next = run_line_next bytes line c.tokens_of-tokens.result.now c.rest_of.result.now t c.first_word-word.result c.tokens_of-tokens.ensures c.first_word-word.ensures c.rest_of.ensures in
    let e = c.in_err-tail-2.field-0.0 in
    passed_on run_value_of c.from_residual-in_err-tail-2.result e all c.from_residual-in_err-tail-2.ensures.1
    (turn_refused (run_tail_table c.args.species) bytes all left line (drop 1 left) t e (run_follow t t.segments c.first_word-word.result (map (plain_token bytes) c.rest_of.result.now))
    here before next (c.in_err-tail-2.ensures t shows))

pub lines-preserved : goal.lines-preserved
lines-preserved g c =
    let (same, t, shows, kept, before) = c.lines.invariant in
    let bytes = c.args.bytes.now in
    let line = c.in-Some.line.now in
    let left = g.S.LineSource.left c.lines.source in
    let all = run_tail_answer c.args.species bytes (g.S.LineSource.left c.args.source.now) in
    let here = subst (λ text. left ≡ plain_line text line ∷ drop 1 left) same c.in-Some.ensures in
    let next = run_line_next bytes line c.tokens_of-tokens.result.now c.rest_of.result.now t c.first_word-word.result c.tokens_of-tokens.ensures c.first_word-word.ensures c.rest_of.ensures in
    let ts = map (plain_token bytes) c.rest_of.result.now in
    let (u, is, shown) = c.in_ok-tail-2.ensures t shows in (
      c.in_ok-advance.ensures.text ∙ same,
      u,
      shown,
      run_kept c.args.species line.number t u c.first_word-word.result ts kept is,
      ap (told (run_tail_table c.args.species) bytes u) c.in_ok-advance.ensures.left
          ∙ turn_read (run_tail_table c.args.species) bytes all left line (drop 1 left) t u (run_follow t t.segments c.first_word-word.result ts) here before next is,
    )

pub returns-clause-answer : goal.returns-clause-answer
returns-clause-answer g c =
    let (same, t, shows, kept, before) = c.lines.invariant in
    let ended = ap (told (run_tail_table c.args.species) c.args.bytes.now t) c.in_default.ensures in
    sym before ∙ ended ∙ ap Read (sym (c.value.ensures ∙ value_shown c.lines.tail t shows))

pub returns-clause-state : goal.returns-clause-state
returns-clause-state g c =
    let (same, t, shows, kept, before) = c.lines.invariant in
    let is : c.value.result.0 ≡ state_given t.species t.amounts = ap (λ v. v.state) (c.value.ensures ∙ value_shown c.lines.tail t shows) in (
      ap length is ∙ length-state t.species t.amounts ∙ kept.species,
      subst IsNotNegative (sym is) (state_not_negative t.species t.amounts kept.not_negative),
    )
