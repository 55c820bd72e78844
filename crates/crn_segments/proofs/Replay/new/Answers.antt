use Rattle.std.proofs.Common.{subst}
use Rattle.crn_net.specs.Network.{IsNotNegative}
use Rattle.crn_segments.proofs.Applied.{new_is_ready}
use Rattle.crn_segments.specs.Sums.{IsReady}
use Rattle.crn_segments.proofs.Replay.new.Goals as goal

pub invariant_of-result : goal.invariant_of-result
invariant_of-result c = record {
  valid = c.species.ensures.valid;
  limits = c.species.ensures.limits;
  state = record { long = c.requires; not_negative = subst IsNotNegative c.state.view_is c.state.invariant };
  ready = subst (λ n. IsReady n c.in_ok-sums.sums) c.species.ensures.value (new_is_ready c.species.result c.in_ok-sums.sums c.in_ok-sums.ensures.marks c.in_ok-sums.ensures.next c.in_ok-sums.ensures.touched c.in_ok-sums.ensures.room);
}
