use Rattle.std.proofs.Common.{◌-◌, map, sym, subst, ◌∙◌, ap, arith}
use Rattle.std.specs.Option.{option_map}
use Rattle.crn_token.specs.Plain.{plain_token}
use Rattle.crn_job.specs.Grammar.{with_input, tail_follow, tail_limit, numbers_of, amounts_of}
use Rattle.crn_grammar.specs.Reading.{judged, Gives}
use Rattle.crn_job.specs.Reading.{tail_of}
use Rattle.crn_job.proofs.Flows.{follow_input, follow_segment}
use Rattle.crn_job.proofs.tail.Tail.after.Goals as goal

pub returns-in-Input-Dual : goal.returns-in-Input-Dual
returns-in-Input-Dual c = λ bytes.
    let ts = map (plain_token bytes) c.args.rest.now in
    subst (λ o. Gives tail_of c.dual_input.result (judged tail_limit c.args.line o))
    (sym (ap (λ w. tail_follow (tail_of c.args.self) c.args.self.left w ts) c.in-Input-Dual.is-0 ∙ follow_input (tail_of c.args.self) c.args.self.left ts c.if-self-gt0.true
    ∙ ap (λ r. option_map (λ qs. with_input (tail_of c.args.self) (c.args.self.left - 1) qs) (numbers_of (amounts_of r) ts)) c.in-Input-Dual.is-1))
    (c.dual_input.ensures bytes)

pub returns-in-Input-Direct : goal.returns-in-Input-Direct
returns-in-Input-Direct c = λ bytes.
    let ts = map (plain_token bytes) c.args.rest.now in
    subst (λ o. Gives tail_of c.direct_input.result (judged tail_limit c.args.line o))
    (sym (ap (λ w. tail_follow (tail_of c.args.self) c.args.self.left w ts) c.in-Input-Direct.is-0 ∙ follow_input (tail_of c.args.self) c.args.self.left ts c.if-self-gt0.true
    ∙ ap (λ r. option_map (λ qs. with_input (tail_of c.args.self) (c.args.self.left - 1) qs) (numbers_of (amounts_of r) ts)) c.in-Input-Direct.is-1))
    (c.direct_input.ensures bytes)

pub returns-in-Segment : goal.returns-in-Segment
returns-in-Segment c = λ bytes.
    let ts = map (plain_token bytes) c.args.rest.now in
    subst (λ o. Gives tail_of c.with_segment.result (judged tail_limit c.args.line o))
    (sym (ap (λ w. tail_follow (tail_of c.args.self) c.args.self.left w ts) c.in-Segment.is ∙ follow_segment (tail_of c.args.self) c.args.self.left ts (omega (arith, c.if-self-gt0.false))))
    (c.with_segment.ensures bytes)
