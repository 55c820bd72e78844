use Rattle.std.proofs.Common.{map, sym, subst}
use Rattle.crn_token.specs.Plain.{plain_token}
use Rattle.crn_job.specs.RunGrammar.{run_follow, run_limit}
use Rattle.crn_grammar.specs.Reading.{judged}
use Rattle.crn_job.specs.Reading.{Leads}
use Rattle.crn_job.proofs.run_tail.RunTail.after.Goals as goal

pub returns-in-Segment : goal.returns-in-Segment
returns-in-Segment c t shows =
    let ts = map (plain_token c.args.bytes.now) c.args.rest.now in
    subst (λ w. Leads c.with_segment.result (judged run_limit c.args.line (run_follow t t.segments w ts))) (sym c.in-Segment.is) (c.with_segment.ensures t c.args.bytes.now shows)
