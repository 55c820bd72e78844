use Rattle.std.proofs.Common.{map, refl, sym, ◌∙◌, ap, subst}
use Rattle.std.specs.Option.{option_map}
use Rattle.crn_token.specs.Plain.{plain_token}
use Rattle.crn_grammar.specs.Followed.{answer_map}
use Rattle.crn_job.specs.Grammar.{with_segments, segments_with, segments_limit, tail_limit}
use Rattle.crn_grammar.specs.Reading.{judged, Refuses}
use Rattle.crn_job.specs.Reading.{tail_of}
use Rattle.crn_grammar.proofs.FollowedLaws.{refused_with}
use Rattle.crn_grammar.proofs.Turns.{passed_on}
use Rattle.crn_job.proofs.Flows.{judged_segments}
use Rattle.crn_job.proofs.tail.Tail.with_segment.Goals as goal

pub returns : goal.returns
returns c = λ bytes.
    let read = segments_with c.args.self.segments.items (map (plain_token bytes) c.args.rest.now) in
    judged_segments tail_limit c.args.line (λ us. with_segments (tail_of c.args.self) us) read (λ us. refl)
    ∙ ap (answer_map (λ us. with_segments (tail_of c.args.self) us)) (c.in_ok-push_segment.ensures bytes)

pub returns-in_err-push_segment : goal.returns-in_err-push_segment
returns-in_err-push_segment c = λ bytes.
    let e = c.in_err-push_segment.field-0.0 in
    let read = segments_with c.args.self.segments.items (map (plain_token bytes) c.args.rest.now) in
    passed_on tail_of c.from_residual.result e (judged tail_limit c.args.line (option_map (λ us. with_segments (tail_of c.args.self) us) read)) c.from_residual.ensures.1
    (subst (Refuses e) (sym (judged_segments tail_limit c.args.line (λ us. with_segments (tail_of c.args.self) us) read (λ us. refl)))
    (refused_with (λ us. with_segments (tail_of c.args.self) us) e (judged segments_limit c.args.line read) (c.in_err-push_segment.ensures bytes)))
