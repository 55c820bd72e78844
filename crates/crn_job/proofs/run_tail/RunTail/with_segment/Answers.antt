use Rattle.std.proofs.Common.{List, map, refl, sym, ◌∙◌, ap, subst}
use Rattle.crn_token.specs.Plain.{plain_token}
use Rattle.crn_net.specs.declared.Flow.{Flow}
use Rattle.crn_grammar.specs.Followed.{answer_map}
use Rattle.crn_job.specs.Grammar.{segments_with, segments_limit}
use Rattle.crn_job.specs.RunGrammar.{with_segments}
use Rattle.crn_grammar.specs.Reading.{judged, Refuses}
use Rattle.crn_grammar.proofs.FollowedLaws.{refused_with}
use Rattle.crn_job.proofs.RunSteps.{judged_follow_segments, leads_nowhere}
use Rattle.crn_job.proofs.run_tail.RunTail.with_segment.Goals as goal

pub returns : goal.returns
returns c t bytes shows =
    let ts = map (plain_token bytes) c.args.rest.now in (
      with_segments t c.push_segment.new.segments.items,
      judged_follow_segments c.args.line t ts ∙ ap (answer_map (λ us. with_segments t us)) (ap (λ (us : List (List Flow)). judged segments_limit c.args.line (segments_with us ts)) (sym shows.segments) ∙ c.in_ok-push_segment.ensures bytes),
      record { species = shows.species; last = shows.last; state = shows.state; segments = refl },
    )

pub returns-in_err-push_segment : goal.returns-in_err-push_segment
returns-in_err-push_segment c t bytes shows =
    let e = c.in_err-push_segment.field-0.0 in
    let ts = map (plain_token bytes) c.args.rest.now in
    leads_nowhere c.from_residual.result e _ c.from_residual.ensures.1
    (subst (Refuses e) (sym (judged_follow_segments c.args.line t ts ∙ ap (λ (us : List (List Flow)). answer_map (λ vs. with_segments t vs) (judged segments_limit c.args.line (segments_with us ts))) (sym shows.segments)))
    (refused_with (λ us. with_segments t us) e (judged segments_limit c.args.line (segments_with c.args.self.segments.items ts)) (c.in_err-push_segment.ensures bytes)))
