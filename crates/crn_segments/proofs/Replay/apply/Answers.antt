use Rattle.std.proofs.Common.{◌≡◌, ◌+◌, length, refl, sym, ◌∙◌, subst, None, Some}
use Rattle.std.proofs.lemmas.Result.{err_from_is_err_and}
use Rattle.crn_net.specs.Network.{AreFlows, IsNotNegative, after}
use Rattle.crn_segments.specs.Step.{sums_refusal, first_refusal}
use Rattle.crn_segments.specs.Sums.{IsReady, sum_in}
use Rattle.crn_segments.proofs.Applied.{refused_as, going, settled_sums}
use Rattle.crn_segments.proofs.StepCauses.{shown_cause}
use Rattle.crn_segments.proofs.Steps.{AreSums, refused_flows, refused_sums, went_legal, flows_exist, sums_are_after, shown_refusal, shown_legal, shown_not_legal, shown_after}
use Rattle.crn_segments.proofs.Replay.apply.Goals as goal
use Rattle.crn_segments.proofs.Replay.apply.Goals.{In_ok-check_flows, In-Ok, In-Err, After-settle}

pub returns-in_err-check_flows-clause-cause : goal.returns-in_err-check_flows-clause-cause
returns-in_err-check_flows-clause-cause c =
    let p = err_from_is_err_and c.from_residual.result c.from_residual.ensures.1 in
    rw (p.1, p.2) (shown_refusal c.args.self.now c.self.inside.network.now c.self.inside.state c.self.view_is c.args.flows.now _
    (refused_flows c.self.inside.network.now c.self.inside.state c.args.flows.now _ c.in_err-check_flows.ensures))

pub returns-in_err-check_flows-clause-refused : goal.returns-in_err-check_flows-clause-refused
returns-in_err-check_flows-clause-refused c =
    let p = err_from_is_err_and c.from_residual.result c.from_residual.ensures.1 in
    rw (p.1, p.2) (shown_cause c.args.self.now c.self.inside.network.now c.self.inside.state c.self.view_is c.args.flows.now c.self.invariant.valid c.requires _
    (refused_flows c.self.inside.network.now c.self.inside.state c.args.flows.now _ c.in_err-check_flows.ensures))

pub returns-in_err-check_flows-clause-legal : goal.returns-in_err-check_flows-clause-legal
returns-in_err-check_flows-clause-legal c =
    let p = err_from_is_err_and c.from_residual.result c.from_residual.ensures.1 in
    rw p.1 (
      λ h. absurd (cc h),
      λ k. absurd (shown_not_legal c.args.self.now c.self.inside.network.now c.self.inside.state c.self.view_is c.args.flows.now c.self.invariant.valid c.requires _
          (refused_flows c.self.inside.network.now c.self.inside.state c.args.flows.now _ c.in_err-check_flows.ensures) k),
    )

exist : (c : In_ok-check_flows) → AreFlows (length c.self.inside.network.now.reactions) c.args.flows.now
exist c = flows_exist c.self.inside.network.now c.self.inside.state 0 c.args.flows.now c.requires.ascending c.in_ok-check_flows.ensures

pub add_flows-requires-clause-exist : goal.add_flows-requires-clause-exist
add_flows-requires-clause-exist c = exist (goal.at.add_flows-requires-clause-exist c).In_ok-check_flows

going_on : (c : In-Ok) → sums_refusal c.self.inside.network.now c.self.inside.state c.args.flows.now ≡ None
going_on c =
    refused_as c.self.inside.network.now c.self.inside.state c.args.flows.now c.self.invariant.state c.self.inside.sums c.add_flows.new.self c.self.invariant.ready c.add_flows.ensures.sums None
    (λ d nn. subst (λ n. first_refusal (sum_in c.add_flows.new.self d) 1 n ≡ None) c.species.ensures.value (c.in-Ok.ensures d nn))

stopped : (c : In-Err) → sums_refusal c.self.inside.network.now c.self.inside.state c.args.flows.now ≡ Some c.in-Err.error
stopped c =
    refused_as c.self.inside.network.now c.self.inside.state c.args.flows.now c.self.invariant.state c.self.inside.sums c.add_flows.new.self c.self.invariant.ready c.add_flows.ensures.sums (Some c.in-Err.error)
    (λ d nn. subst (λ n. first_refusal (sum_in c.add_flows.new.self d) 1 n ≡ Some c.in-Err.error) c.species.ensures.value (c.in-Err.ensures d nn))

pub settle-requires-clause-sums : goal.settle-requires-clause-sums
settle-requires-clause-sums c =
    going c.self.inside.network.now c.self.inside.state c.args.flows.now c.self.invariant.state c.self.inside.sums c.add_flows.new.self c.self.invariant.ready c.add_flows.ensures.sums
    (going_on (goal.at.settle-requires-clause-sums c).In-Ok)

sums : (c : After-settle) → sums_refusal c.self.inside.network.now c.self.inside.state c.args.flows.now ≡ None → AreSums c.self.inside.network.now c.self.inside.state c.args.flows.now (c.self.inside.network.now.species + 1) c.settle.new.state
sums c h =
    settled_sums c.self.inside.network.now c.self.inside.state c.args.flows.now c.self.invariant.state c.self.inside.sums c.add_flows.new.self c.self.invariant.ready c.add_flows.ensures.sums h c.settle.new.state c.settle.ensures.sums

pub invariant_of-self : goal.invariant_of-self
invariant_of-self c =
    let at = goal.at.invariant_of-self c in
    let net = c.self.inside.network.now in
    let state = c.self.inside.state in
    let u = c.args.flows.now in
    let all = sums at.After-settle (going_on at.In-Ok) in
    let long : length c.settle.new.state ≡ net.species = c.settle.ensures.long ∙ c.self.invariant.state.long in
    let after_is : c.settle.new.state ≡ after net state u = sums_are_after net state c.settle.new.state u (exist at.In_ok-check_flows) long all in
    let legal = (went_legal net state c.settle.new.state u c.requires c.in_ok-check_flows.ensures all).0 in
    record {
      valid = c.self.invariant.valid;
      limits = c.self.invariant.limits;
      state = record { long = long; not_negative = subst IsNotNegative (sym after_is) legal.enough };
      ready = subst (λ n. IsReady n c.settle.new.self) c.self.invariant.state.long c.settle.ensures.ready;
    }

pub returns-in-Ok-clause-cause : goal.returns-in-Ok-clause-cause
returns-in-Ok-clause-cause c =
    shown_refusal c.args.self.now c.self.inside.network.now c.self.inside.state c.self.view_is c.args.flows.now None
    (refused_sums c.self.inside.network.now c.self.inside.state c.args.flows.now None c.in_ok-check_flows.ensures (going_on (goal.at.returns-in-Ok-clause-cause c).In-Ok))

pub returns-in-Ok-clause-legal : goal.returns-in-Ok-clause-legal
returns-in-Ok-clause-legal c =
    let at = goal.at.returns-in-Ok-clause-legal c in (
      λ _. shown_legal c.args.self.now c.self.inside.network.now c.self.inside.state c.self.view_is c.args.flows.now
          (went_legal c.self.inside.network.now c.self.inside.state c.settle.new.state c.args.flows.now c.requires c.in_ok-check_flows.ensures (sums at.After-settle (going_on at.In-Ok))),
      λ _. refl,
    )

pub returns-in-Ok-clause-after : goal.returns-in-Ok-clause-after
returns-in-Ok-clause-after c =
    let at = goal.at.returns-in-Ok-clause-after c in
    shown_after c.args.self.now c.self.inside.network.now c.self.inside.state c.self.view_is c.args.flows.now c.settle.new.state (exist at.In_ok-check_flows)
    (c.settle.ensures.long ∙ c.self.invariant.state.long) (sums at.After-settle (going_on at.In-Ok))

pub returns-in-Err-clause-cause : goal.returns-in-Err-clause-cause
returns-in-Err-clause-cause c =
    shown_refusal c.args.self.now c.self.inside.network.now c.self.inside.state c.self.view_is c.args.flows.now (Some c.in-Err.error)
    (refused_sums c.self.inside.network.now c.self.inside.state c.args.flows.now (Some c.in-Err.error) c.in_ok-check_flows.ensures (stopped (goal.at.returns-in-Err-clause-cause c).In-Err))

pub returns-in-Err-clause-refused : goal.returns-in-Err-clause-refused
returns-in-Err-clause-refused c =
    shown_cause c.args.self.now c.self.inside.network.now c.self.inside.state c.self.view_is c.args.flows.now c.self.invariant.valid c.requires c.in-Err.error
    (refused_sums c.self.inside.network.now c.self.inside.state c.args.flows.now (Some c.in-Err.error) c.in_ok-check_flows.ensures (stopped (goal.at.returns-in-Err-clause-refused c).In-Err))

pub returns-in-Err-clause-legal : goal.returns-in-Err-clause-legal
returns-in-Err-clause-legal c = (
  λ h. absurd (cc h),
  λ k. absurd (shown_not_legal c.args.self.now c.self.inside.network.now c.self.inside.state c.self.view_is c.args.flows.now c.self.invariant.valid c.requires c.in-Err.error
      (refused_sums c.self.inside.network.now c.self.inside.state c.args.flows.now (Some c.in-Err.error) c.in_ok-check_flows.ensures (stopped (goal.at.returns-in-Err-clause-legal c).In-Err)) k),
)
