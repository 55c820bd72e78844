use Rattle.std.proofs.Common.{◌<◌, ◌^◌}
use Rattle.crn_compile.proofs.DirectNetworks.{is_valid, feeds_forward, computes, small_counts}
use Rattle.crn_compile.proofs.laws.direct_networks_compute.Goals as goal

pub returns-clause-valid : goal.returns-clause-valid
returns-clause-valid c k kind net some few is = is_valid k kind net is some few

pub returns-clause-feed_forward : goal.returns-clause-feed_forward
returns-clause-feed_forward c = feeds_forward

pub returns-clause-computes : goal.returns-clause-computes
returns-clause-computes c k kind net given linear is = computes k kind net is given linear

pub returns-clause-counts : goal.returns-clause-counts
returns-clause-counts c k kind net fracs is = small_counts k kind net is (λ n. n < 2 ^ 63) (λ n low. low) fracs
