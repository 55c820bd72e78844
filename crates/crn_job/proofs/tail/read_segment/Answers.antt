use Rattle.std.proofs.Common.{◌≡◌, length, map, Some, sym, ◌∙◌, ap, Vec, Global}
use Rattle.std.specs.Option.{option_map}
use Rattle.std.proofs.lemmas.List.{length-map}
use Rattle.crn_net.specs.declared.Flow.{Flow}
use Rattle.crn_token.specs.Plain.{plain_token}
use Rattle.crn_job.specs.Grammar.{flows_of}
use Rattle.crn_job.proofs.Flows.{segment_found, segment_none, no_flows}
use Rattle.crn_job.proofs.tail.read_segment.Goals as goal

pub returns-in-Ok : goal.returns-in-Ok
returns-in-Ok c = λ bytes.
    let ts = map (plain_token bytes) c.args.tokens.now in
    let found : Some c.in-Some.flows.items ≡ flows_of (length ts) ts =
    sym (ap (option_map (λ (v : Vec Flow Global). v.items)) c.in-Some.is) ∙ c.in_ok-flows.ensures bytes ∙ ap (λ n. flows_of n ts) (sym (length-map c.args.tokens.now (plain_token bytes))) in
    ap Some c.in-Ok.ensures.ok.0 ∙ segment_found ts c.in-Some.flows.items found c.in-Ok.ensures.ok.1

pub returns-in-Some : goal.returns-in-Some
returns-in-Some c = λ bytes.
    let ts = map (plain_token bytes) c.args.tokens.now in
    let found : Some c.in-Some.flows.items ≡ flows_of (length ts) ts =
    sym (ap (option_map (λ (v : Vec Flow Global). v.items)) c.in-Some.is) ∙ c.in_ok-flows.ensures bytes ∙ ap (λ n. flows_of n ts) (sym (length-map c.args.tokens.now (plain_token bytes))) in
    segment_none ts c.in-Some.flows.items found c.in-Err.ensures.err.1

pub returns : goal.returns
returns c = λ bytes.
    let ts = map (plain_token bytes) c.args.tokens.now in
    no_flows ts (sym (ap (option_map (λ (v : Vec Flow Global). v.items)) c.in-None.is) ∙ c.in_ok-flows.ensures bytes ∙ ap (λ n. flows_of n ts) (sym (length-map c.args.tokens.now (plain_token bytes))))
